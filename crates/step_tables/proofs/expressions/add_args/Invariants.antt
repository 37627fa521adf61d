use Rattle.std.proofs.Common.{drop}
use Rattle.c_prog.specs.Accesses.{args_accesses}
use Rattle.step_state.specs.Parts.{args_part}
use Rattle.step_tables.specs.Adds.{Leaves}
use Rattle.step_tables.proofs.expressions.add_args.Given as goal

abbrev pub invariant-loop-expr : goal.invariant-loop-expr
invariant-loop-expr l =
    Leaves (args_part l.initial.args) (args_accesses l.initial.args) l.initial.items l.initial.sheet
    (args_part (drop l.expr-index l.args)) (args_accesses (drop l.expr-index l.args)) l.items l.sheet
