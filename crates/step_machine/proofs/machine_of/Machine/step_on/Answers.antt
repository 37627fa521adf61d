use Rattle.std.proofs.Common.{ap, ◌∙◌, ◌<◌, ◌≡◌, subst, sym}
use Rattle.step_state.specs.Counts.{max_steps, IsCounted}
use Rattle.step_state.specs.declared.state.Configuration.{Configuration}
use Rattle.step_state.specs.declared.state.Counted.{Counted}
use Rattle.step_tables.specs.TreeCode.{tree_code}
use Rattle.step_machine.proofs.Bounds.{counted_next, has_room}
use Rattle.step_machine.proofs.machine_of.Machine.step_on.Goals as goal

pub make-requires-clause-room : goal.make-requires-clause-room
make-requires-clause-room c =
    let same : c.into_counted-counted.result ≡ c.args.state.now = c.into_counted-counted.ensures.same ∙ c.replace.ensures.value in
    has_room c.into_counted-counted.result.configuration c.into_counted-counted.result.steps c.into_counted-counted.ensures.counts (subst (λ (s : Counted). s.steps < max_steps) (sym same) c.requires.few)

pub of-requires : goal.of-requires
of-requires c =
    let same : c.into_counted-counted.result ≡ c.args.state.now = c.into_counted-counted.ensures.same ∙ c.replace.ensures.value in
    counted_next (tree_code c.args.self.now) c.into_counted-counted.result.configuration c.make.new.state c.into_counted-counted.result.steps c.args.entry.thread c.args.entry.timeout c.in-Ok.event c.into_counted-counted.ensures.counts (subst (λ (s : Counted). s.steps < max_steps) (sym same) c.requires.few) c.in-Ok.ensures.ok

pub of-requires-in-Err : goal.of-requires-in-Err
of-requires-in-Err c =
    subst (λ (s : Configuration). IsCounted (record { configuration = s; steps = c.into_counted-counted.result.steps })) (sym c.in-Err.ensures.err) c.into_counted-counted.ensures.counts
