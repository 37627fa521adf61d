-- Atomicity violations in runs: an access p and a later access c of one thread in one frame of the region's function, and an
-- access r of another thread between them.
use Rattle.std.specs.Prelude.{◌≡◌, ◌≢◌, ℕ, ℤ, List, [], ◌∷◌, ◌++◌, Some}
use Rattle.cfix_base.specs.declared.access.AccessId.{AccessId}
use Rattle.cfix_base.specs.declared.entry.Entry.{Entry}
use Rattle.c_prog.specs.declared.tree.Tree.{Tree}
use Rattle.step_state.specs.declared.frame.Frame.{Frame}
use Rattle.step_state.specs.declared.state.Configuration.{Configuration}
use Rattle.step_state.specs.Run.{Seen, Begins, run}
use Rattle.step_state.specs.Spots.{At, spot_of}
use Rattle.lock_laws.specs.Inside.{NoneMissed}
use Rattle.frame_laws.specs.Trail.{Every, SomeStep}
use Rattle.atom_laws.specs.NextVisit.{Quiet, Still}
use Rattle.access_laws.specs.Access.{IsAccess}
use Rattle.step_tables.specs.TreeCode.{tree_code}

-- the frames from the top down to the one with this serial number are at these nodes, the innermost first
abbrev pub Along : ℕ → List ℕ → List Frame → Type 0
Along serial [] fs = ⊥
Along serial (n ∷ ns) [] = ⊥
Along serial (n ∷ []) (f ∷ below) = (f.serial ≡ serial) × (spot_of f ≡ At n)
Along serial (n ∷ m ∷ ns) (f ∷ below) = (spot_of f ≡ At n) × Along serial (m ∷ ns) below

-- call nodes from the region's function inwards, put the innermost first
abbrev pub inmost_first : List ℕ → List ℕ → List ℕ
inmost_first [] ns = ns
inmost_first (m ∷ ms) ns = inmost_first ms (m ∷ ns)

-- the node of the region's function at which the path to node n begins
abbrev pub path_start : List ℕ → ℕ → ℕ
path_start [] n = n
path_start (m ∷ ms) n = m

-- the step makes the access in the activation of this frame
pub record Accesses (t serial : ℕ) (path : List ℕ) (id : AccessId) (m : Seen) : Type 0 where
  pub thread : m.entry.thread ≡ t
  pub access : IsAccess id m.event
  pub stack : Along serial (id.node.number ∷ inmost_first path []) m.before

-- the step makes the access in another thread
pub record Remote (t : ℕ) (id : AccessId) (m : Seen) : Type 0 where
  pub other : m.entry.thread ≢ t
  pub access : IsAccess id m.event

-- p and c in one visit of np
pub record AtomSame (np : ℕ) (p c r : AccessId) (p_path c_path : List ℕ) (ms : List Seen) : Type 0 where
  pub t : ℕ
  pub serial : ℕ
  pub before : List Seen
  pub begin : Seen
  pub early : List Seen
  pub p_step : Seen
  pub late : List Seen
  pub c_step : Seen
  pub after : List Seen
  pub whole : ms ≡ before ++ begin ∷ (early ++ p_step ∷ (late ++ c_step ∷ after))
  pub begins : Begins t serial np begin
  pub one_visit : Every (Still t serial) (early ++ p_step ∷ late)
  pub p_event : Accesses t serial p_path p p_step
  pub c_event : Accesses t serial c_path c c_step
  pub between : SomeStep (Remote t r) late

-- p in a visit of np, and c in the next visit of nc
pub record AtomNext (np nc : ℕ) (p c r : AccessId) (p_path c_path : List ℕ) (ms : List Seen) : Type 0 where
  pub t : ℕ
  pub serial : ℕ
  pub before : List Seen
  pub begin_p : Seen
  pub early : List Seen
  pub p_step : Seen
  pub late : List Seen
  pub begin_c : Seen
  pub during : List Seen
  pub c_step : Seen
  pub after : List Seen
  pub whole : ms ≡ before ++ begin_p ∷ (early ++ p_step ∷ (late ++ begin_c ∷ (during ++ c_step ∷ after)))
  pub begins_np : Begins t serial np begin_p
  pub begins_nc : Begins t serial nc begin_c
  pub in_np : Every (Still t serial) early
  pub quiet : Every (Quiet t serial np nc) (early ++ p_step ∷ late)
  pub in_nc : Every (Still t serial) during
  pub p_event : Accesses t serial p_path p p_step
  pub c_event : Accesses t serial c_path c c_step
  pub between : SomeStep (Remote t r) (late ++ begin_c ∷ during)

-- no run without timeouts of lock k has such a violation
pub record NoAtomSame (tree : Tree) (np : ℕ) (p c r : AccessId) (p_path c_path : List ℕ) (k : ℕ) (input : List ℤ) (es : List Entry) : Type 0 where
  pub none : (ms : List Seen) (end : Configuration) → run (tree_code tree) input es ≡ Some (ms, end) → NoneMissed k ms → AtomSame np p c r p_path c_path ms → ⊥

-- a run without timeouts of lock k has no such violation of two visits in that order
pub record NoAtomNext (tree : Tree) (np nc : ℕ) (p c r : AccessId) (p_path c_path : List ℕ) (k : ℕ) (input : List ℤ) (es : List Entry) : Type 0 where
  pub none : (ms : List Seen) (end : Configuration) → run (tree_code tree) input es ≡ Some (ms, end) → NoneMissed k ms → AtomNext np nc p c r p_path c_path ms → ⊥

-- p in a visit of np and c, later, in another visit, of nc, wherever the two visits begin
pub record AtomLater (np nc : ℕ) (p c r : AccessId) (p_path c_path : List ℕ) (ms : List Seen) : Type 0 where
  pub t : ℕ
  pub serial : ℕ
  pub before_p : List Seen
  pub begin_p : Seen
  pub early : List Seen
  pub p_step : Seen
  pub later : List Seen
  pub before_c : List Seen
  pub begin_c : Seen
  pub during : List Seen
  pub c_step : Seen
  pub after : List Seen
  pub whole : ms ≡ (before_p ++ begin_p ∷ (early ++ p_step ∷ later)) ++ c_step ∷ after
  pub again : before_p ++ begin_p ∷ (early ++ p_step ∷ later) ≡ before_c ++ begin_c ∷ during
  pub begins_np : Begins t serial np begin_p
  pub begins_nc : Begins t serial nc begin_c
  pub in_np : Every (Still t serial) early
  pub in_nc : Every (Still t serial) during
  pub differ : before_p ≡ before_c → ⊥
  pub quiet : (mid : List Seen) → before_c ≡ before_p ++ begin_p ∷ mid → Every (Quiet t serial np nc) mid
  pub p_event : Accesses t serial p_path p p_step
  pub c_event : Accesses t serial c_path c c_step
  pub between : SomeStep (Remote t r) later

-- and none of two visits whose order is not said
pub record NoAtomLater (tree : Tree) (np nc : ℕ) (p c r : AccessId) (p_path c_path : List ℕ) (k : ℕ) (input : List ℤ) (es : List Entry) : Type 0 where
  pub none : (ms : List Seen) (end : Configuration) → run (tree_code tree) input es ≡ Some (ms, end) → NoneMissed k ms → AtomLater np nc p c r p_path c_path ms → ⊥
