-- Nodes that no run visits.
use Rattle.std.specs.Prelude.{◌≡◌, ℕ, Bool}
use Rattle.cfix_base.specs.declared.access.AccessId.{AccessId}
use Rattle.cfix_base.specs.declared.place.Place.{Place}
use Rattle.step_state.specs.Code.{Code}
use Rattle.step_state.specs.Run.{Seen}
use Rattle.layout_laws.specs.Layout.{Layout, Live, source}
use Rattle.lock_laws.specs.Guard.{in_set}
use Rattle.access_laws.specs.Access.{IsAccess}

-- no edge leads into the set from outside, nor does one from a start
pub record IsShut (c : Code) (y : Layout) (set : ℕ → Bool) : Type 0 where
  pub out : (place : Place) → Live y place → in_set set (source place) ≡ 0 → in_set set (c.next place) ≡ 0

-- the step is no event of the access
abbrev pub NoEvent : AccessId → Seen → Type 0
NoEvent id m = IsAccess id m.event → ⊥
