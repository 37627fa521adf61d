-- Violations of orders in runs, and that runs without timeouts have none.
use Rattle.std.specs.Prelude.{◌≡◌, ◌<◌, ℕ, ℤ, Bool, true, false, List, [], ◌∷◌, ◌++◌, Option, Some, None, slice_index, slice_index_or, ◌⊎◌}
use Rattle.cfix_base.specs.declared.entry.Entry.{Entry}
use Rattle.cfix_base.specs.declared.access.AccessId.{AccessId}
use Rattle.cfix_base.specs.declared.number.NodeId.{NodeId}
use Rattle.cfix_base.specs.declared.place.Place.{Place}
use Rattle.step_state.specs.declared.event.Event.TheVariants as event
use Rattle.step_state.specs.declared.item.Item.{Item}
use Rattle.step_state.specs.declared.item.Operand.{Operand}
use Rattle.step_state.specs.declared.frame.Frame.{Frame}
use Rattle.step_state.specs.declared.state.Configuration.{Configuration}
use Rattle.step_state.specs.Code.{Code}
use Rattle.step_state.specs.Start.{initial_tokens}
use Rattle.step_state.specs.Run.{Seen, run, at_end}
use Rattle.lock_laws.specs.Guard.{in_set}
use Rattle.layout_laws.specs.Layout.{Layout, Live}
use Rattle.order_laws.specs.Tokens.{first_of, firsts, HasAccess}
use Rattle.access_laws.specs.Access.{IsAccess}

-- no step is an event of the access
abbrev pub NoneOf : AccessId → List Seen → Type 0
NoneOf id [] = Unit {0}
NoneOf id (m ∷ ms) = (IsAccess id m.event → ⊥) × NoneOf id ms

-- no step is a timeout of order j
abbrev pub NoneLate : ℕ → List Seen → Type 0
NoneLate j [] = Unit {0}
NoneLate j (m ∷ ms) = (m.event ≡ event.WaitMissed (record { number = j }) → ⊥) × NoneLate j ms

-- an event of a with an earlier event of b
pub record AllBeforeViolation (a b : AccessId) (ms : List Seen) : Type 0 where
  pub before : List Seen
  pub first : Seen
  pub between : List Seen
  pub second : Seen
  pub after : List Seen
  pub whole : ms ≡ before ++ first ∷ (between ++ second ∷ after)
  pub is_b : IsAccess b first.event
  pub is_a : IsAccess a second.event

-- an event of a with an earlier event of b before which no event of a stands
pub record FirstBeforeViolation (a b : AccessId) (ms : List Seen) : Type 0 where
  pub before : List Seen
  pub first : Seen
  pub between : List Seen
  pub second : Seen
  pub after : List Seen
  pub whole : ms ≡ before ++ first ∷ (between ++ second ∷ after)
  pub is_b : IsAccess b first.event
  pub is_a : IsAccess a second.event
  pub none : NoneOf a before

-- the order is one of the program's, and begins with a token exactly where main may come to a
pub record Starts (c : Code) (j : ℕ) (comes : ℕ → Bool) : Type 0 where
  pub known : j < c.orders
  pub token : slice_index (initial_tokens c.orders c.starts) j ≡ in_set comes (first_of c c.main)

-- an all-before has no first
pub record NoFirst (c : Code) (y : Layout) (j : ℕ) : Type 0 where
  pub none : (place : Place) → Live y place → firsts j (c.ops place) ≡ 0

-- each visit of the access's node makes the access, and right operands do not skip it
pub record IsCertain (c : Code) (id : AccessId) : Type 0 where
  pub access : HasAccess id (c.items id.node.number)
  pub operands : (r : Operand) (rest : List Item) → HasAccess id rest → HasAccess id (c.operand r ++ rest)

-- no run without timeouts of the order has a violation
pub record NoAllBefore (c : Code) (j : ℕ) (a b : AccessId) (input : List ℤ) (es : List Entry) : Type 0 where
  pub none : (steps : List Seen) (last : Configuration) → run c input es ≡ Some (steps, last) → NoneLate j steps → AllBeforeViolation a b steps → ⊥

-- a run without timeouts of order j has no such violation
pub record NoFirstBefore (c : Code) (j : ℕ) (a b : AccessId) (input : List ℤ) (es : List Entry) : Type 0 where
  pub none : (steps : List Seen) (last : Configuration) → run c input es ≡ Some (steps, last) → NoneLate j steps → FirstBeforeViolation a b steps → ⊥

-- some step is an event of the access
abbrev pub SomeOf : AccessId → List Seen → Type 0
SomeOf id [] = ⊥
SomeOf id (m ∷ ms) = IsAccess id m.event ⊎ SomeOf id ms

-- the visit is of node n
abbrev pub IsVisit : ℕ → Option NodeId → Type 0
IsVisit k None = ⊥
IsVisit k (Some n) = n.number ≡ k

-- the next step of these frames ends a visit of the node
abbrev pub EndsVisit : ℕ → List Frame → Type 0
EndsVisit k [] = ⊥
EndsVisit k (f ∷ below) = IsVisit k f.visit × (at_end f.work ≡ true)

-- a visit of the access's node has ended, and before it an event of the access was made
pub record MadeAndEnded (id : AccessId) (ms : List Seen) : Type 0 where
  pub before : List Seen
  pub ends : Seen
  pub after : List Seen
  pub whole : ms ≡ before ++ ends ∷ after
  pub made : SomeOf id before
  pub ended : EndsVisit id.node.number ends.before

-- where the flag of an order is set, a visit of a, in which its access was made, has ended
pub record FlagMeans (c : Code) (j : ℕ) (a : AccessId) (input : List ℤ) (es : List Entry) : Type 0 where
  pub means : (steps : List Seen) (last : Configuration) → run c input es ≡ Some (steps, last) → NoneLate j steps → slice_index_or last.flags j false ≡ true → MadeAndEnded a steps
