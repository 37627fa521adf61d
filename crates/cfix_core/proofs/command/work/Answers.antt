-- A replay that stops, stops for what its files are.
use Rattle.std.proofs.Common.{subst, ap, sym}
use Rattle.cfix_core.specs.Words.{Asked, asked_of}
use Rattle.cfix_core.specs.NamedFiles.{Holds}
use Rattle.cfix_core.specs.Answers.{Cause}
use Rattle.cfix_core.specs.Stages.{contents_of}
use Rattle.cfix_core.proofs.Stages.{run_cause}
use Rattle.cfix_core.proofs.command.work.Goals as goal

pub returns-clause-cause : goal.returns-clause-cause
returns-clause-cause g c =
    let asks = ap asked_of c.in-Replay.is in
    let files = g.H.Shelf.files c.args.shelf.now in
    let before = g.H.Shelf.faults c.args.shelf.now in
    let now = g.H.Shelf.faults c.read_files.new.shelf in
    let old = g.O.Sink.taken c.args.out.now in
    let new = g.O.Sink.taken c.replayed.new.out in
    let put = g.O.Sink.faults c.args.out.now in
    let puts = g.O.Sink.faults c.replayed.new.out in
    let stop = c.in-Err-replayed.stop in
    subst (λ asked. Cause stop asked files before now old new put puts) (sym asks)
    (run_cause files (contents_of c.in-Ok.texts) before now old new put puts _ _ _ stop
    (subst (λ asked. Holds files asked (contents_of c.in-Ok.texts)) asks c.in-Ok.ensures.holds) c.in-Err-replayed.ensures.stops)
