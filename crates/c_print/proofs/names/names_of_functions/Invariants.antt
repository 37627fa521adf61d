use Rattle.std.proofs.Common.{◌≡◌, map, take}
use Rattle.c_print.proofs.names.names_of_functions.Given as goal

abbrev pub invariant-loop-function : goal.invariant-loop-function
invariant-loop-function l = l.names ≡ map (λ x. x.name) (take l.function-index l.functions)
