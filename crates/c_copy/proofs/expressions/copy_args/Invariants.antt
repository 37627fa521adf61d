use Rattle.std.proofs.Common.{◌≡◌, take}
use Rattle.c_copy.proofs.expressions.copy_args.Given as goal

abbrev pub invariant-loop-expr : goal.invariant-loop-expr
invariant-loop-expr l = l.copy ≡ take l.expr-index l.expr-items
