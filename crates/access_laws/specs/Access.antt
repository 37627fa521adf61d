-- Events of accesses.
use Rattle.std.specs.Prelude.{◌≡◌, ℕ, List, [], ◌∷◌, Option, Some, None}
use Rattle.cfix_base.specs.declared.access.AccessId.{AccessId}
use Rattle.cfix_base.specs.declared.number.NodeId.{NodeId}
use Rattle.step_state.specs.declared.event.Event.{Event}
use Rattle.step_state.specs.declared.event.Event.TheVariants as event
use Rattle.step_state.specs.declared.frame.Frame.{Frame}
use Rattle.step_state.specs.Run.{Seen}

-- the event is a read or a write by the access
abbrev pub IsAccess : AccessId → Event → Type 0
IsAccess id (event.Read site i v) = site ≡ id
IsAccess id (event.Write site i v) = site ≡ id
IsAccess id _ = ⊥

-- the visit is of the node with this number
abbrev pub AtNode : ℕ → Option NodeId → Type 0
AtNode k None = ⊥
AtNode k (Some n) = n.number ≡ k

-- the top frame visits the node with this number
abbrev pub TopVisits : ℕ → List Frame → Type 0
TopVisits k [] = ⊥
TopVisits k (f ∷ below) = AtNode k f.visit

-- an event of the access comes while the top frame of its thread visits the access's node
abbrev pub ComesIn : AccessId → Seen → Type 0
ComesIn id m = IsAccess id m.event → TopVisits id.node.number m.before
