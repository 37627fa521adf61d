use Rattle.std.proofs.Common.{rules, ◌++◌}
use Rattle.cfix_outside.proofs.Gains.{front-more, front-then}
use Rattle.cfix_core.proofs.note.put_three.Goals as goal

pub returns-in_err-put-clause-front : goal.returns-in_err-put-clause-front
returns-in_err-put-clause-front g c =
    let h = front-more _ _ c.args.first.now (c.args.name.now ++ c.args.last.now) c.in_err-put.ensures.front in
    search (rules, h)

pub returns-in_err-put_two-clause-front : goal.returns-in_err-put_two-clause-front
returns-in_err-put_two-clause-front g c =
    let h = front-then _ _ _ c.args.first.now (c.args.name.now ++ c.args.last.now) c.in_ok-put.ensures.taken c.in_err-put_two.ensures.front in
    search (rules, h)
