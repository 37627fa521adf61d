-- Where frames stand: in a visit of a node, or between two visits.
use Rattle.std.specs.Prelude.{◌≡◌, ℕ, List, [], ◌∷◌, ◌++◌, length, map, Option, Some, None}
use Rattle.cfix_base.specs.declared.number.NodeId.{NodeId}
use Rattle.cfix_base.specs.declared.op.Op.{Op}
use Rattle.cfix_base.specs.declared.place.Place.{Place}
use Rattle.step_state.specs.declared.item.Item.{Item}
use Rattle.step_state.specs.declared.item.Item.TheVariants as item
use Rattle.step_state.specs.declared.frame.Frame.{Frame}
use Rattle.step_state.specs.declared.state.Configuration.{Configuration}
use Rattle.step_state.specs.Code.{Code, go_to, node}
use Rattle.step_state.specs.Reads.{frame_from_bottom, leading_ops}
use Rattle.step_state.specs.Run.{next_node}

-- Between two visits: the operations of the place passed last that are still to be made, and then the node that control
-- meets after that place, or the exit.
pub record OnEdge (c : Code) (last : Place) (work : List Item) : Type 0 where
  pub passed : List Op
  pub left : List Op
  pub ops : passed ++ left ≡ c.ops last
  pub rest : work ≡ map item.Op left ++ go_to (c.next last) ∷ []

-- a frame that is in no visit is on an edge
abbrev pub Stands : Code → Option NodeId → Place → List Item → Type 0
Stands c None last work = OnEdge c last work
Stands c (Some n) last work = Unit {0}

-- a node, if there is one
abbrev pub node_if : Option ℕ → Option NodeId
node_if None = None
node_if (Some n) = Some (node n)

-- Each frame of each thread that is in no visit is on an edge: of the operations of the place that it passed last it has as
-- many still to make as are pending, and then it goes on with what control meets after that place.
pub record AreOnEdges (c : Code) (s : Configuration) : Type 0 where
  pub edge : (t at : ℕ) (f : Frame) → frame_from_bottom s t at ≡ Some f → f.visit ≡ None → OnEdge c f.last f.work
  pub pending : (t at : ℕ) (f : Frame) (is : frame_from_bottom s t at ≡ Some f) (between : f.visit ≡ None)
      → leading_ops f.work ≡ length (edge t at f is between).left
  pub next : (t at : ℕ) (f : Frame) → frame_from_bottom s t at ≡ Some f → f.visit ≡ None → next_node f.work ≡ node_if (c.next f.last)
