use Rattle.prog_laws.proofs.Bare.{bare-of, unpatched-of}
use Rattle.prog_laws.proofs.laws.a_program_is_patched_where_an_operation_stands.Goals as goal

pub returns : goal.returns
returns c = λ t. (bare-of t, unpatched-of t)
