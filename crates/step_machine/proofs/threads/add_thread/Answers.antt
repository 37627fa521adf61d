use Rattle.std.proofs.Common.{ap, rules}
use Rattle.std.proofs.lemmas.Int.{to_z-of_z}
use Rattle.std.specs.Int.{w32}
use Rattle.std.specs.Prelude.{FitsSigned}
use Rattle.step_state.specs.declared.event.Event.TheVariants as event
use Rattle.step_machine.proofs.Creations.{creation_is}
use Rattle.step_machine.proofs.threads.add_thread.Goals as goal

pub returns-clause-ok : goal.returns-clause-ok
returns-clause-ok c =
    let fits : FitsSigned w32 c.second_index-index.result = search rules in
    (ap event.Create c.len-number.ensures, creation_is c.args.state.now c.args.thread c.args.target c.args.created c.at_mut.result.now c.top_frame.result.now c.top_mut-frame.result.now c.finish_creation.new.frame c.push.new.self c.store_global.new.handles c.len-number.result c.second_index-index.result c.top_frame.ensures c.second_index-index.ensures c.in_ok-push.ensures.pushed c.at_mut.ensures.value c.top_mut-frame.ensures.value c.finish_creation.ensures (simp to_z-of_z at c.store_global.ensures) c.len-number.ensures)
