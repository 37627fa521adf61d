use Rattle.std.proofs.Common.{◌≡◌, ◌++◌, drop}
use Rattle.c_prog.specs.Accesses.{args_accesses}
use Rattle.c_access.proofs.touches.add_args.Given as goal

abbrev pub invariant-loop-expr : goal.invariant-loop-expr
invariant-loop-expr l = l.items ++ args_accesses (drop l.expr-index l.args) ≡ l.initial.items ++ args_accesses l.args
