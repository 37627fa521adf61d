use Rattle.std.proofs.Common.{◌≡◌, ◌++◌, [], map, take}
use Rattle.step_machine.proofs.frames.push_no_handles.Given as goal

abbrev pub invariant-loop-arg : goal.invariant-loop-arg
invariant-loop-arg l = l.handles ≡ l.initial.handles ++ map (λ v. []) (take l._arg-index l.args)
