use Rattle.std.proofs.Common.{◌≡◌, ◌++◌, replicate, pos, map, take}
use Rattle.step_state.specs.Changes.{int_cells}
use Rattle.step_machine.proofs.frames.push_locals.Given as goal

abbrev pub invariant-loop-kind : goal.invariant-loop-kind
invariant-loop-kind l = l.locals ≡ l.initial.locals ++ map (λ k. replicate (int_cells k) (pos 0)) (take l.kind-index l.kinds)
