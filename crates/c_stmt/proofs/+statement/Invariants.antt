use Rattle.std.proofs.Common.{◌+◌, ◌*◌, drop, map}
use Rattle.c_reading.specs.ReadStmt.{begins_item}
use Rattle.c_raw.specs.Stmts.{item_view}
use Rattle.c_stmt.specs.Stmts.{item_at}
use Rattle.c_stmt.proofs.Loop.{SoFar}
use Rattle.c_stmt.proofs.+statement.Given as goal

abbrev pub decreases-block::item_of : goal.decreases-block::item_of
decreases-block::item_of l = 8 * l.depth + 1

abbrev pub decreases-block::items_of : goal.decreases-block::items_of
decreases-block::items_of l = 8 * l.depth + 2

abbrev pub decreases-block::other_item_of : goal.decreases-block::other_item_of
decreases-block::other_item_of l = 8 * l.depth + 1

abbrev pub decreases-block::ints_block_of : goal.decreases-block::ints_block_of
decreases-block::ints_block_of l = 8 * l.depth + 3

abbrev pub decreases-block::block_of : goal.decreases-block::block_of
decreases-block::block_of l = 8 * l.depth + 3

abbrev pub decreases-block::int_block_of : goal.decreases-block::int_block_of
decreases-block::int_block_of l = 8 * l.depth + 4

abbrev pub decreases-block::brace_of : goal.decreases-block::brace_of
decreases-block::brace_of l = 8 * l.depth + 5

abbrev pub decreases-stmt::if_of : goal.decreases-stmt::if_of
decreases-stmt::if_of l = 8 * l.depth + 1

abbrev pub decreases-stmt::while_of : goal.decreases-stmt::while_of
decreases-stmt::while_of l = 8 * l.depth + 1

abbrev pub decreases-stmt::for_of : goal.decreases-stmt::for_of
decreases-stmt::for_of l = 8 * l.depth + 1

abbrev pub decreases-stmt::stmt_of : goal.decreases-stmt::stmt_of
decreases-stmt::stmt_of l = 8 * l.depth + 0

abbrev pub invariant-block::items_of-items : goal.invariant-block::items_of-items
invariant-block::items_of-items l = SoFar begins_item (item_at l.depth) (drop l.at l.cursor.tokens) (map item_view l.items) l.counter (drop l.place l.cursor.tokens)
