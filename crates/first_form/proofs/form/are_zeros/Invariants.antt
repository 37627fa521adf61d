use Rattle.std.proofs.Common.{◌≡◌, drop}
use Rattle.std.specs.List.{list_all}
use Rattle.straight_laws.specs.Straight.{begins_with_zero}
use Rattle.first_form.proofs.form.are_zeros.Given as goal

abbrev pub invariant-loop-global : goal.invariant-loop-global
invariant-loop-global l =
    list_all (λ global. begins_with_zero global.kind) (drop l.global-index l.globals)
    ≡ list_all (λ global. begins_with_zero global.kind) l.globals
