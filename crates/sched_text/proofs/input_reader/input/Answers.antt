use Rattle.sched_text.proofs.Inputs.{reads, bad_number}
use Rattle.sched_text.proofs.input_reader.input.Goals as goal

pub returns-clause-reads : goal.returns-clause-reads
returns-clause-reads c = reads (λ v. v.items) c.args.text.now c.read_words.result c.read_words.ensures.ok c.read_words.ensures.refused

pub returns-clause-bad_number : goal.returns-clause-bad_number
returns-clause-bad_number c = bad_number (λ v. v.items) c.args.text.now c.read_words.result c.read_words.ensures.ok c.read_words.ensures.refused
