use Rattle.std.proofs.Common.{sym, subst}
use Rattle.step_state.specs.declared.state.Configuration.{Configuration}
use Rattle.step_state.specs.Counts.{IsCounted}
use Rattle.step_tables.specs.TreeCode.{tree_code}
use Rattle.step_machine.proofs.Bounds.{counted_start}
use Rattle.step_machine.proofs.machine_of.Machine.start.Goals as goal

pub of-requires : goal.of-requires
of-requires c =
    subst (λ (s : Configuration). IsCounted (record { configuration = s; steps = 0 })) (sym c.in_ok-configuration.ensures) (counted_start (tree_code c.args.self.now) c.args.input.now)
