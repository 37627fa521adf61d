use Rattle.std.proofs.Common.{rules}
use Rattle.cfix_outside.proofs.Gains.{front-more, front-then}
use Rattle.cfix_core.specs.Stops.{path_start, number_end}
use Rattle.cfix_core.proofs.note.put_path.Goals as goal

pub returns-in_err-put_path_start-clause-front : goal.returns-in_err-put_path_start-clause-front
returns-in_err-put_path_start-clause-front g c =
    let h = front-more _ _ (path_start c.args.np.number) (number_end c.args.nc.number) c.in_err-put_path_start.ensures.front in
    search (rules, h)

pub returns-in_err-put_number_end-clause-front : goal.returns-in_err-put_number_end-clause-front
returns-in_err-put_number_end-clause-front g c =
    let h = front-then _ _ _ (path_start c.args.np.number) (number_end c.args.nc.number) c.in_ok-put_path_start.ensures.taken
    c.in_err-put_number_end.ensures.front in
    search (rules, h)
