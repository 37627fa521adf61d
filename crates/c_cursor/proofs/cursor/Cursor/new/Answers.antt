use Rattle.std.proofs.Common.{take}
use Rattle.std.proofs.lemmas.List.{map_push}
use Rattle.c_cursor.specs.Marks.{mark_of}
use Rattle.c_cursor.proofs.Places.{take-here}
use Rattle.c_cursor.proofs.cursor.Cursor.new.Goals as goal

pub loop-place-preserved : goal.loop-place-preserved
loop-place-preserved c =
    let ts = c.args.tokens.now.tokens in
    let t = c.at-token.result.now in
    let e = take-here ts c.loop-place.place t c.at-token.ensures in
    let m = map_push mark_of (take c.loop-place.place ts) t in
    rw (e, m) (cc (c.in_ok-push.ensures.pushed, c.kind_look.ensures, c.loop-place.invariant))
