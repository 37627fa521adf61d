use Rattle.placed_trees.proofs.PlacedLaws.{order_sets_none}
use Rattle.placed_trees.proofs.laws.all_befores_set_no_flag.Goals as goal

pub returns : goal.returns
returns c = order_sets_none
