use Rattle.placed_trees.proofs.PlacedLaws.{order_placed}
use Rattle.placed_trees.proofs.laws.orders_are_placed.Goals as goal

pub returns : goal.returns
returns c = order_placed
