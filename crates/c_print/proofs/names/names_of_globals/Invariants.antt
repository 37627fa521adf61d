use Rattle.std.proofs.Common.{◌≡◌, map, take}
use Rattle.c_print.proofs.names.names_of_globals.Given as goal

abbrev pub invariant-loop-global : goal.invariant-loop-global
invariant-loop-global l = l.names ≡ map (λ x. x.name) (take l.global-index l.globals)
