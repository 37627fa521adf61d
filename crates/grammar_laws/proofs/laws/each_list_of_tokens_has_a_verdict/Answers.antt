use Rattle.c_reading.specs.ReadFile.{read_file}
use Rattle.grammar_laws.proofs.Verdicts.{is_verdict}
use Rattle.grammar_laws.proofs.laws.each_list_of_tokens_has_a_verdict.Goals as goal

pub returns : goal.returns
returns c = λ limit ts. (read_file limit ts, is_verdict limit ts)
