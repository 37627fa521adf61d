use Rattle.std.proofs.Common.{rules, ◌≤◌, length}
use Rattle.trace_text.proofs.Numbered.{variable_missing}
use Rattle.trace_text.proofs.lines.variable.Goals as goal

pub returns : goal.returns
returns c =
    let past : length c.in_ok-list.list ≤ c.args.site.index = search rules in
    variable_missing c.args.program.now c.args.site c.in_ok-list.list c.in_ok-list.ensures past
