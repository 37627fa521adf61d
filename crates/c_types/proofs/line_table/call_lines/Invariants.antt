use Rattle.std.proofs.Common.{◌≡◌, ◌++◌, drop}
use Rattle.std.specs.Prelude.{zip}
use Rattle.c_types.proofs.line_table.call_lines.Given as goal

abbrev pub invariant-loop-node : goal.invariant-loop-node
invariant-loop-node l = l.list ++ zip (drop l.node-index l.nodes) l.rest ≡ zip l.nodes l.lines
