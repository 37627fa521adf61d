use Rattle.step_machine.proofs.machine_of.Machine.enter.Goals as goal

pub hold-requires-clause-room : goal.hold-requires-clause-room
hold-requires-clause-room c =
    (c.requires.room.each c.args.thread c.at_mut.result.now c.at_mut.ensures.value).held c.args.lock.number
