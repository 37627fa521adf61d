use Rattle.std.proofs.Common.{◌≡◌, ◌++◌, drop}
use Rattle.c_print.specs.Table.{named}
use Rattle.c_print.specs.Written.{body_at}
use Rattle.c_print.proofs.statements.+lines.Given as goal

abbrev pub invariant-add_list-loop-stmt : goal.invariant-add_list-loop-stmt
invariant-add_list-loop-stmt l =
    l.text.items ++ body_at (named l.names) l.indent (drop l.stmt-index l.list) ≡ l.initial.text.items ++ body_at (named l.names) l.indent l.list
