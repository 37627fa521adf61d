-- The parts of a `for`, each of which may be absent.
use Rattle.std.specs.Prelude.{ℕ, List, Option}
use Rattle.c_grammar.specs.Token.{Token}
use Rattle.c_reading.specs.Reader.{Out, maybe_read}
use Rattle.c_grammar.specs.Cond.{Cond}
use Rattle.c_grammar.specs.Stmt.{First, LoopStep}
use Rattle.c_reading.specs.ReadExpr.{begins_expr}
use Rattle.c_reading.specs.ReadCond.{cond_at}
use Rattle.c_reading.specs.ReadStmt.{begins_first, begins_plain, first_at, loop_step_at}

abbrev pub first_part_at : (d : ℕ) → List Token → Out Token (Option First)
first_part_at d = maybe_read begins_first (first_at 200 d)

abbrev pub cond_part_at : (d : ℕ) → List Token → Out Token (Option Cond)
cond_part_at d = maybe_read begins_expr (cond_at 200 d)

abbrev pub step_part_at : (d : ℕ) → List Token → Out Token (Option LoopStep)
step_part_at d = maybe_read begins_plain (loop_step_at 200 d)
