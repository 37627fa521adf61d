use Rattle.std.proofs.Common.{◌≡◌, ◌++◌, [], ◌∷◌, map, take}
use Rattle.step_machine.proofs.frames.push_params.Given as goal

abbrev pub invariant-loop-arg : goal.invariant-loop-arg
invariant-loop-arg l = l.locals ≡ l.initial.locals ++ map (λ v. v ∷ []) (take l.arg-index l.args)
