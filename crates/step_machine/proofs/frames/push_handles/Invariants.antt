use Rattle.std.proofs.Common.{◌≡◌, ◌++◌, replicate, map, take}
use Rattle.step_state.specs.Changes.{handle_cells}
use Rattle.step_machine.proofs.frames.push_handles.Given as goal

abbrev pub invariant-loop-kind : goal.invariant-loop-kind
invariant-loop-kind l = l.handles ≡ l.initial.handles ++ map (λ k. replicate (handle_cells k) 0) (take l.kind-index l.kinds)
