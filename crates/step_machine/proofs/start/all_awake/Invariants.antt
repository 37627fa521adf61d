use Rattle.std.proofs.Common.{◌≡◌, map, take}
use Rattle.c_prog.specs.declared.global.Global.{Global}
use Rattle.step_state.specs.Start.{all_awake}
use Rattle.step_machine.proofs.start.all_awake.Given as goal

abbrev pub invariant-loop-global : goal.invariant-loop-global
invariant-loop-global l = l.table ≡ all_awake (map (λ (global : Global). global.kind) (take l._global-index l.globals))
