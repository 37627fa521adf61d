use Rattle.std.proofs.Common.{◌≡◌, ◌++◌, map, drop}
use Rattle.std.specs.Prelude.{zip}
use Rattle.c_types.proofs.line_table.access_lines.Given as goal

abbrev pub invariant-loop-item : goal.invariant-loop-item
invariant-loop-item l = l.list ++ zip (map (λ item. item.id) (drop l.item-index l.items)) l.rest ≡ zip (map (λ item. item.id) l.items) l.lines
