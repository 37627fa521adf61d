-- A region between two nodes, and what comes between two visits, or between two events of one visit.
use Rattle.std.specs.Prelude.{◌≡◌, ◌≢◌, ◌⊎◌, ℕ, ℤ, Bool, true, List, [], ◌∷◌, ◌++◌, Some}
use Rattle.cfix_base.specs.declared.entry.Entry.{Entry}
use Rattle.cfix_base.specs.declared.place.Place.{Place}
use Rattle.c_prog.specs.declared.tree.Tree.{Tree}
use Rattle.step_state.specs.declared.frame.Frame.{Frame}
use Rattle.step_state.specs.declared.state.Configuration.{Configuration}
use Rattle.step_state.specs.Code.{Code, node}
use Rattle.step_state.specs.Run.{Seen, Begins, run}
use Rattle.frame_laws.specs.Trail.{Every, SomeStep}
use Rattle.lock_laws.specs.Inside.{Inside, NoneMissed}
use Rattle.layout_laws.specs.Layout.{Layout, Live, source}
use Rattle.step_tables.specs.TreeCode.{tree_code}

-- an edge of control flow between two nodes
pub record Leads (c : Code) (y : Layout) (place : Place) (u v : ℕ) : Type 0 where
  pub live : Live y place
  pub from : source place ≡ Some u
  pub into : c.next place ≡ Some v

-- the set holds at least the nodes that paths of one edge or more lead to from np, with neither np nor nc inside
pub record Forward (c : Code) (y : Layout) (np nc : ℕ) (fwd : ℕ → Type 0) : Type 0 where
  pub first : (place : Place) (v : ℕ) → Leads c y place np v → fwd v
  pub on : (place : Place) (u v : ℕ) → u ≢ np → u ≢ nc → fwd u → Leads c y place u v → fwd v

-- the set holds nc, and the nodes that paths lead from to nc, with neither np nor nc before its end
pub record Backward (c : Code) (y : Layout) (np nc : ℕ) (back : ℕ → Type 0) : Type 0 where
  pub end : back nc
  pub on : (place : Place) (u v : ℕ) → u ≢ np → u ≢ nc → Leads c y place u v → back v → back u

-- the set contains the region
pub record Contains (np nc : ℕ) (fwd back : ℕ → Type 0) (set : ℕ → Bool) : Type 0 where
  pub has_np : set np ≡ true
  pub has_nc : set nc ≡ true
  pub has_inner : (v : ℕ) → v ≢ np → v ≢ nc → fwd v → back v → set v ≡ true

-- the step begins a visit of neither node in this frame
pub record Quiet (t serial np nc : ℕ) (m : Seen) : Type 0 where
  pub not_np : Begins t serial np m → ⊥
  pub not_nc : Begins t serial nc m → ⊥

-- the step begins no visit in this frame: a visit in progress there goes on
pub record Still (t serial : ℕ) (m : Seen) : Type 0 where
  pub not : (n : ℕ) → Begins t serial n m → ⊥

-- the frame with this serial number visits the node
abbrev pub VisitsIn : ℕ → ℕ → List Frame → Type 0
VisitsIn serial n [] = ⊥
VisitsIn serial n (f ∷ fs) = ((f.serial ≡ serial) × (f.visit ≡ Some (node n))) ⊎ VisitsIn serial n fs

-- a step of another thread, of which a frame visits a node of the set
pub record Foreign (t : ℕ) (set : ℕ → Bool) (m : Seen) : Type 0 where
  pub other : m.entry.thread ≢ t
  pub inside : Inside set m.before

-- a visit of np and a later visit of nc in one frame, no visit of either begun between, and a foreign step after the beginning
-- of the first and before a step in the second
pub record NextViolation (np nc : ℕ) (set : ℕ → Bool) (ms : List Seen) : Type 0 where
  pub t : ℕ
  pub serial : ℕ
  pub before : List Seen
  pub first : Seen
  pub between : List Seen
  pub second : Seen
  pub during : List Seen
  pub last : Seen
  pub after : List Seen
  pub whole : ms ≡ before ++ first ∷ (between ++ second ∷ (during ++ last ∷ after))
  pub begins_np : Begins t serial np first
  pub begins_nc : Begins t serial nc second
  pub quiet : Every (Quiet t serial np nc) between
  pub same : Every (Still t serial) during
  pub in_nc : last.entry.thread ≡ t
  pub visits_nc : VisitsIn serial nc last.before
  pub crossed : SomeStep (Foreign t set) (between ++ second ∷ during)

-- a visit of n, and a foreign step after its beginning and before a later step in the same visit
pub record SameViolation (n : ℕ) (set : ℕ → Bool) (ms : List Seen) : Type 0 where
  pub t : ℕ
  pub serial : ℕ
  pub before : List Seen
  pub first : Seen
  pub during : List Seen
  pub last : Seen
  pub after : List Seen
  pub whole : ms ≡ before ++ first ∷ (during ++ last ∷ after)
  pub begins : Begins t serial n first
  pub same : Every (Still t serial) during
  pub in_n : last.entry.thread ≡ t
  pub visits_n : VisitsIn serial n last.before
  pub crossed : SomeStep (Foreign t set) during

-- no run without timeouts of lock k has such a violation
pub record NoNextViolation (tree : Tree) (np nc : ℕ) (set : ℕ → Bool) (k : ℕ) (input : List ℤ) (es : List Entry) : Type 0 where
  pub none : (ms : List Seen) (end : Configuration) → run (tree_code tree) input es ≡ Some (ms, end) → NoneMissed k ms → NextViolation np nc set ms → ⊥

-- a run without timeouts of lock k has no such violation in one visit
pub record NoSameViolation (tree : Tree) (n : ℕ) (set : ℕ → Bool) (k : ℕ) (input : List ℤ) (es : List Entry) : Type 0 where
  pub none : (ms : List Seen) (end : Configuration) → run (tree_code tree) input es ≡ Some (ms, end) → NoneMissed k ms → SameViolation n set ms → ⊥
