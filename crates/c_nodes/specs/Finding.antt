-- What a search for the node with a number finds.
use Rattle.std.specs.Prelude.{ℕ, ◌≡◌, ◌+◌, List, length, slice_get, Some}
use Rattle.c_nodes.specs.declared.found.Found.{Found}
use Rattle.c_nodes.specs.declared.found.Found.TheVariants as found
use Rattle.c_prog.specs.Order.{Node}
use Rattle.c_prog.specs.View.{seen}

-- what a search among these nodes for the one at a place finds
abbrev pub Finds : Found → List Node → ℕ → Type 0
Finds (found.Node v) nodes place = slice_get nodes place ≡ Some (seen v)
Finds (found.Left rest) nodes place = rest + length nodes ≡ place
