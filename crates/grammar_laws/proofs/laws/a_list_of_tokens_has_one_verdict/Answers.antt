use Rattle.grammar_laws.proofs.Verdicts.{one_verdict}
use Rattle.grammar_laws.proofs.laws.a_list_of_tokens_has_one_verdict.Goals as goal

pub returns : goal.returns
returns c = one_verdict
