-- The three files are read as a run, whose entries are replayed.
use Rattle.std.proofs.Common.{subst}
use Rattle.run_replay.specs.Replays.{IsDone}
use Rattle.cfix_core.specs.Stages.{contents_of, EntriesStop}
use Rattle.cfix_core.proofs.Stages.{run_of, entries_done, entries_stop}
use Rattle.cfix_core.proofs.replay.replayed.Goals as goal

pub returns-in-Ok-replay_entries-clause-done : goal.returns-in-Ok-replay_entries-clause-done
returns-in-Ok-replay_entries-clause-done g c =
    let contents = contents_of c.args.texts.now in
    let files = c.in-Ok.files in
    let run = run_of contents files c.in-Ok.ensures.read in
    let old = g.O.Sink.taken c.args.out.now in
    let new = g.O.Sink.taken c.replay_entries.new.out in
    entries_done contents run old new
    (subst (λ tree. IsDone tree files.values.items files.entries old new) c.program.ensures
    (subst (λ input. IsDone c.program.result.now input files.entries old new) c.deref.ensures.value c.in-Ok-replay_entries.ensures.done))

pub returns-clause-stops : goal.returns-clause-stops
returns-clause-stops g c =
    let contents = contents_of c.args.texts.now in
    let files = c.in-Ok.files in
    let run = run_of contents files c.in-Ok.ensures.read in
    let old = g.O.Sink.taken c.args.out.now in
    let new = g.O.Sink.taken c.replay_entries.new.out in
    let put = g.O.Sink.faults c.args.out.now in
    let puts = g.O.Sink.faults c.replay_entries.new.out in
    let stop = c.in-Err-replay_entries.stop in
    entries_stop contents run old new put puts stop
    (subst (λ tree. EntriesStop stop tree files.values.items files.entries old new put puts) c.program.ensures
    (subst (λ input. EntriesStop stop c.program.result.now input files.entries old new put puts) c.deref.ensures.value
    c.in-Err-replay_entries.ensures.stops))
