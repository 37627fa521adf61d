-- Where a frame stands.
use Rattle.std.specs.Prelude.{ℕ, List, [], ◌∷◌, Option, Some, None}
use Rattle.cfix_base.specs.declared.number.NodeId.{NodeId}
use Rattle.cfix_base.specs.declared.place.Place.{Place}
use Rattle.cfix_base.specs.declared.place.Place.TheVariants.{Start, After, True, False}
use Rattle.step_state.specs.declared.item.Item.{Item}
use Rattle.step_state.specs.declared.item.Item.TheVariants as item
use Rattle.step_state.specs.declared.item.Move.TheVariants as move
use Rattle.step_state.specs.declared.frame.Frame.{Frame}

-- at a node, at the start of a function, or past the nodes of its function, where its exit is next
pub data Spot : Type 0 where
  At : ℕ → Spot
  Begin : ℕ → Spot
  Past : Spot

-- what a place leaves: a node, or the start of a function
abbrev pub left_spot : Place → Spot
left_spot (Start f) = Begin f.number
left_spot (After n) = At n.number
left_spot (True n) = At n.number
left_spot (False n) = At n.number

-- between two visits: what the place passed last leaves, while operations of that place are still to be made; else the
-- node that the work begins next
abbrev pub edge_spot : Place → List Item → Spot
edge_spot last [] = Past
edge_spot last (item.Op op ∷ work) = left_spot last
edge_spot last (item.Reduce r ∷ work) = Past
edge_spot last (item.Act a ∷ work) = Past
edge_spot last (item.Go (move.Node n) ∷ work) = At n.number
edge_spot last (item.Go (move.Branch n) ∷ work) = Past
edge_spot last (item.Go (move.Edge n) ∷ work) = Past
edge_spot last (item.Go move.Exit ∷ work) = Past

-- the node of the visit in progress, else the spot between two visits
abbrev pub spot : Option NodeId → Place → List Item → Spot
spot (Some n) last work = At n.number
spot None last work = edge_spot last work

abbrev pub spot_of : Frame → Spot
spot_of f = spot f.visit f.last f.work
