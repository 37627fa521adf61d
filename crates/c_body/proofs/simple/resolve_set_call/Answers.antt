use Rattle.std.proofs.Common.{◌++◌}
use Rattle.c_raw.specs.Simples.{target_view, call_view}
use Rattle.c_names.specs.Expressions.{int_target_faults, call_faults, valued_faults}
use Rattle.c_names.specs.LinesExpressions.{index_lines, target_lines, args_lines}
use Rattle.c_scope.specs.Tables.{names_from}
use Rattle.c_body.proofs.Both.{noted-both, lined-both}
use Rattle.c_body.proofs.simple.resolve_set_call.Goals as goal

pub returns-clause-noted : goal.returns-clause-noted
returns-clause-noted c =
    let names = names_from c.args.names.now in
    let scope = c.args.scope.now in
    let target = target_view c.args.target.now in
    let call = call_view c.args.call.now in
    noted-both c.args.walk.now.least (int_target_faults names scope target) (call_faults names scope call ++ valued_faults names scope call)
    c.in_ok-to.ensures.noted c.in_ok-from.ensures.noted

pub returns-clause-lined : goal.returns-clause-lined
returns-clause-lined c =
    let names = names_from c.args.names.now in
    let scope = c.args.scope.now in
    let target = target_view c.args.target.now in
    let call = call_view c.args.call.now in
    lined-both c.args.walk.now.lines (index_lines names scope target) (args_lines names scope call ++ target_lines names scope target)
    c.in_ok-to.ensures.lined
    (lined-both c.resolve_int_target.new.walk.lines (args_lines names scope call) (target_lines names scope target)
    c.in_ok-from.ensures.lined c.in_ok-touch_target.ensures)
