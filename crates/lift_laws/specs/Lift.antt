-- Lifted schedules: where frames stand in a run of the source, and the new operations that go round each of its entries.
use Rattle.std.specs.Prelude.{◌≡◌, ◌⊎◌, ℕ, ◌+◌, ◌<◌, ◌≢◌, Bool, false, List, [], ◌∷◌, ◌++◌, map, Option, Some, None}
use Rattle.cfix_base.specs.declared.entry.Entry.{Entry}
use Rattle.cfix_base.specs.declared.number.NodeId.{NodeId}
use Rattle.cfix_base.specs.declared.op.Op.{Op}
use Rattle.cfix_base.specs.declared.place.Place.{Place}
use Rattle.cfix_base.specs.declared.place.Place.TheVariants.{Start, After, True, False}
use Rattle.step_state.specs.declared.item.Item.{Item}
use Rattle.step_state.specs.declared.item.Item.TheVariants as item
use Rattle.step_state.specs.declared.item.Move.TheVariants as move
use Rattle.step_state.specs.declared.frame.Frame.{Frame}
use Rattle.step_state.specs.declared.state.Configuration.{Configuration}
use Rattle.step_state.specs.Code.{Code, go_to}
use Rattle.step_state.specs.Changes.{Made}
use Rattle.cfix_base.specs.declared.mark.Marks.{Marks}
use Rattle.c_prog.specs.Marks.{is_new, old_of}
use Rattle.step_state.specs.Reads.{frames_of}
use Rattle.step_state.specs.Spots.{At, Begin, Past, Spot, spot}
use Rattle.step_state.specs.Step.{step}
use Rattle.lock_laws.specs.Guard.{bit, in_set}

-- a start lies in no set of nodes; it may come where the first node may
abbrev pub in_spot : (ℕ → Bool) → Spot → ℕ
in_spot set (At n) = bit (set n)
in_spot set (Begin f) = 0
in_spot set Past = 0

-- whether a spot may come
abbrev pub may_spot : Code → (ℕ → Bool) → Spot → ℕ
may_spot c comes (At n) = bit (comes n)
may_spot c comes (Begin f) = in_set comes (c.next (Start (record { number = f })))
may_spot c comes Past = 0

-- how many frames are at nodes of the set
abbrev pub ats : (ℕ → Bool) → List Frame → ℕ
ats set [] = 0
ats set (f ∷ below) = in_spot set (spot f.visit f.last f.work) + ats set below

-- whether the bottom frame of a thread may come
abbrev pub bottom_may : Code → (ℕ → Bool) → List Frame → ℕ
bottom_may c comes [] = 0
bottom_may c comes (f ∷ []) = may_spot c comes (spot f.visit f.last f.work)
bottom_may c comes (f ∷ g ∷ below) = bottom_may c comes (g ∷ below)

-- the place is the start of a function
abbrev pub IsStart : Place → Type 0
IsStart (Start f) = Unit {0}
IsStart (After n) = ⊥
IsStart (True n) = ⊥
IsStart (False n) = ⊥

-- of the new operations at each place, those that leave, and those that come to the next node
pub record Placed (m : Marks) (q : Code) (posts pres : Place → List Op) : Type 0 where
  pub ops : (place : Place) → q.ops place ≡ old_of (is_new m) (q.ops place) ++ (posts place ++ pres place)
  pub starts : (place : Place) → IsStart place → posts place ≡ []

-- the operations that are pending at the thread's top frame, once it has made those of the source
abbrev pub pend_edge : List Op → List Item → List Op
pend_edge ops (item.Go g ∷ work) = ops
pend_edge ops _ = []

-- the new operations that are pending at a frame
abbrev pub pend_top : (Place → List Op) → Option NodeId → Place → List Item → List Op
pend_top ops None last work = pend_edge (ops last) work
pend_top ops (Some n) last work = []

-- and at the top frame of a thread
abbrev pub pend : (Place → List Op) → List Frame → List Op
pend ops [] = []
pend ops (f ∷ below) = pend_top ops f.visit f.last f.work

-- an entry of thread t for each operation
abbrev pub copies : ℕ → List Op → List Entry
copies t [] = []
copies t (o ∷ ops) = record { thread = t; timeout = false } ∷ copies t ops

-- an entry, with the new operations before and behind it
abbrev pub lift_entry : (Place → List Op) → (Place → List Op) → Configuration → Entry → Made → (Configuration → List Entry) → List Entry
lift_entry posts pres s e None rest = []
lift_entry posts pres s e (Some (next, ev)) rest =
    copies e.thread (pend pres (frames_of s e.thread)) ++ e ∷ (copies e.thread (pend posts (frames_of next e.thread)) ++ rest next)

-- the lifted schedule; p is the source
abbrev pub lifted : Code → (Place → List Op) → (Place → List Op) → Configuration → List Entry → List Entry
lifted p posts pres s [] = []
lifted p posts pres s (e ∷ es) = lift_entry posts pres s e (step p s e) (λ next. lifted p posts pres next es)

-- in the patched run, between entries: the top frame of a thread has its new operations before it as the source has not made
-- its own, or has made those that leave; lower frames are in visits
abbrev pub Settled : Marks → Code → (Place → List Op) → (Place → List Op) → Option NodeId → Place → List Item → Type 0
Settled m q posts pres (Some n) last work = Unit {0}
Settled m q posts pres None last work =
    ((left : List Op) × (o : Op) × (work ≡ map item.Op (o ∷ left ++ (posts last ++ pres last)) ++ go_to (q.next last) ∷ []) × (is_new m o ≡ false) × (old_of (is_new m) left ≡ left))
    ⊎ (work ≡ map item.Op (pres last) ++ go_to (q.next last) ∷ [])

-- the work begins with a visit of node b
abbrev pub HeadBegins : List Item → ℕ → Type 0
HeadBegins (item.Go (move.Node n) ∷ work) b = n.number ≡ b
HeadBegins _ b = ⊥

-- the top frame begins a visit of node b next
abbrev pub BeginsNext : List Frame → ℕ → Type 0
BeginsNext [] b = ⊥
BeginsNext (f ∷ below) b = HeadBegins f.work b

-- one source step with no stranger and with ready orders; was u k: how many frames of u were at nodes of K(k) before its latest step
pub record Clear (c : Code) (K : ℕ → ℕ → Bool) (comes : ℕ → ℕ → Bool) (b : ℕ → ℕ) (locks orders : ℕ) (was : ℕ → ℕ → ℕ) (passed : ℕ → Type 0) (s : Configuration) (t : ℕ) : Type 0 where
  pub apart : (k u : ℕ) → k < locks → u ≢ t → 0 < ats (K k) (frames_of s t) → 0 < was u k → 0 < ats (K k) (frames_of s u) → ⊥
  pub given : (j : ℕ) → j < orders → BeginsNext (frames_of s t) (b j) → ((u : ℕ) → bottom_may c (comes j) (frames_of s u) ≡ 0) ⊎ passed j
