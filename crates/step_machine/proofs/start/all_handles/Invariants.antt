use Rattle.std.proofs.Common.{◌≡◌, map, take}
use Rattle.c_prog.specs.declared.global.Global.{Global}
use Rattle.step_state.specs.Start.{initial_handles}
use Rattle.step_machine.proofs.start.all_handles.Given as goal

abbrev pub invariant-loop-global : goal.invariant-loop-global
invariant-loop-global l = l.table ≡ map initial_handles (map (λ (global : Global). global.kind) (take l.global-index l.globals))
