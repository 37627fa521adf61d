use Rattle.step_tables.specs.Functions.{AreLeft}
use Rattle.step_tables.proofs.functions.keep_tree.Given as goal

abbrev pub invariant-loop-function : goal.invariant-loop-function
invariant-loop-function l = AreLeft l.tree.functions l.function-index l.number l.rows l.locals
