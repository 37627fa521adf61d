use Rattle.step_machine.proofs.machine_of.Machine.miss_enter.Goals as goal

pub miss-requires-clause-room : goal.miss-requires-clause-room
miss-requires-clause-room c =
    (c.requires.room.each c.args.thread c.at_mut.result.now c.at_mut.ensures.value).missed c.args.lock.number
