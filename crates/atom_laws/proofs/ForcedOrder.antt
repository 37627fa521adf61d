-- The visit of the later access begins after the earlier access.
use Rattle.std.proofs.Common.{◌≡◌, ◌⊎◌, inl, inr, ℕ, ℤ, ◌<◌, Bool, true, List, [], ◌∷◌, ◌++◌, refl, sym, ap, ◌∙◌, subst}
use Rattle.cfix_base.specs.declared.access.AccessId.{AccessId}
use Rattle.cfix_base.specs.declared.entry.Entry.{Entry}
use Rattle.cfix_base.specs.declared.place.Place.{Place}
use Rattle.c_prog.specs.declared.tree.Tree.{Tree}
use Rattle.flow_graph.specs.Flow.{Edge}
use Rattle.flow_graph.specs.Paths.{Link, Path, Avoids, OnPath}
use Rattle.step_state.specs.Run.{Seen, Begins}
use Rattle.lock_laws.specs.Coverage.{Covers, kept_in}
use Rattle.lock_laws.specs.Guard.{Carries}
use Rattle.frame_laws.specs.Trail.{Every, SomeStep}
use Rattle.atom_laws.specs.NextVisit.{Leads, Still}
use Rattle.access_laws.specs.Access.{IsAccess}
use Rattle.step_tables.specs.TreeCode.{tree_code}
use Rattle.layout_laws.specs.TreeLayout.{layout_of}
use Rattle.atom_laws.specs.Violations.{path_start, Remote, AtomNext, AtomLater, NoAtomLater}
use Rattle.atom_laws.proofs.RegionPaths.{no_atom_on_paths}
use Rattle.frame_laws.proofs.Trails.{assoc, every_right}

-- two splits of one list: at the same step, or the second later, or the first later
abbrev Same : (a : List Seen) (x : Seen) (r b : List Seen) (z : Seen) (s : List Seen) → Type 0
Same a x r b z s = (a ≡ b) × (x ≡ z) × (r ≡ s)

abbrev Later : (a : List Seen) (x : Seen) (r b : List Seen) (z : Seen) (s : List Seen) → Type 0
Later a x r b z s = (mid : List Seen) × (b ≡ a ++ x ∷ mid) × (r ≡ mid ++ z ∷ s)

splits : (a : List Seen) (x : Seen) (r b : List Seen) (z : Seen) (s : List Seen) → a ++ x ∷ r ≡ b ++ z ∷ s
    → Same a x r b z s ⊎ (Later a x r b z s ⊎ Later b z s a x r)
splits [] x r [] z s e = let q : x ≡ z = cc in let w : r ≡ s = cc in inl (refl, q, w)
splits [] x r (m ∷ b) z s e =
    let q : x ≡ m = cc in
    let w : r ≡ b ++ z ∷ s = cc in
    inr (inl (b, ap (λ i. i ∷ b) (sym q), w))
splits (m ∷ a) x r [] z s e =
    let q : m ≡ z = cc in
    let w : a ++ x ∷ r ≡ s = cc in
    inr (inr (a, ap (λ i. i ∷ a) q, sym w))
splits (m ∷ a) x r (n ∷ b) z s e =
    let q : m ≡ n = cc in
    let w : a ++ x ∷ r ≡ b ++ z ∷ s = cc in
    up q (splits a x r b z s w)
  where
    up : m ≡ n → Same a x r b z s ⊎ (Later a x r b z s ⊎ Later b z s a x r)
        → Same (m ∷ a) x r (n ∷ b) z s ⊎ (Later (m ∷ a) x r (n ∷ b) z s ⊎ Later (n ∷ b) z s (m ∷ a) x r)
    up q (inl h) = inl (ap (λ i. i ∷ a) q ∙ ap (λ i. n ∷ i) h.0, h.1, h.2)
    up q (inr (inl h)) = inr (inl (h.0, ap (λ i. i ∷ b) (sym q) ∙ ap (λ i. m ∷ i) h.1, h.2))
    up q (inr (inr h)) = inr (inr (h.0, ap (λ i. i ∷ a) q ∙ ap (λ i. n ∷ i) h.1, h.2))

-- no step of a part that goes on with a visit begins one
no_begin : (t serial n : ℕ) (mid : List Seen) (x : Seen) (r all : List Seen) → all ≡ mid ++ x ∷ r → Every (Still t serial) all → Begins t serial n x → ⊥
no_begin t serial n mid x r all whole still b =
    let right = every_right (Still t serial) mid (x ∷ r) (subst (Every (Still t serial)) whole still) in
    right.0.not n b

-- a step of an access begins no visit
access_begins : (t serial n : ℕ) (id : AccessId) (m : Seen) → IsAccess id m.event → Begins t serial n m → ⊥
access_begins t serial n id m access b = subst (IsAccess id) b.event access

later_is_next : (np nc : ℕ) (p d r : AccessId) (p_path d_path : List ℕ) (ms : List Seen) → AtomLater np nc p d r p_path d_path ms → AtomNext np nc p d r p_path d_path ms
later_is_next np nc p d r p_path d_path ms v = outer (splits v.before_p v.begin_p (v.early ++ v.p_step ∷ v.later) v.before_c v.begin_c v.during v.again)
  where
    tail : List Seen
    tail = v.early ++ v.p_step ∷ v.later

    inner : (mid : List Seen) → v.before_c ≡ v.before_p ++ v.begin_p ∷ mid
        → Same v.early v.p_step v.later mid v.begin_c v.during ⊎ (Later v.early v.p_step v.later mid v.begin_c v.during ⊎ Later mid v.begin_c v.during v.early v.p_step v.later)
        → AtomNext np nc p d r p_path d_path ms
    inner mid behind (inl h) = absurd (access_begins v.t v.serial nc p v.p_step v.p_event.access (subst (Begins v.t v.serial nc) (sym h.1) v.begins_nc))
    inner mid behind (inr (inr h)) = absurd (no_begin v.t v.serial nc mid v.begin_c h.0 v.early h.1 v.in_np v.begins_nc)
    inner mid behind (inr (inl h)) = record {
      t = v.t;
      serial = v.serial;
      before = v.before_p;
      begin_p = v.begin_p;
      early = v.early;
      p_step = v.p_step;
      late = h.0;
      begin_c = v.begin_c;
      during = v.during;
      c_step = v.c_step;
      after = v.after;
      whole = v.whole ∙ (assoc v.before_p (v.begin_p ∷ tail) (v.c_step ∷ v.after)
          ∙ ap (λ x. v.before_p ++ v.begin_p ∷ x) (assoc v.early (v.p_step ∷ v.later) (v.c_step ∷ v.after)
          ∙ ap (λ x. v.early ++ v.p_step ∷ x) (ap (λ x. x ++ v.c_step ∷ v.after) h.2 ∙ assoc h.0 (v.begin_c ∷ v.during) (v.c_step ∷ v.after))));
      begins_np = v.begins_np;
      begins_nc = v.begins_nc;
      in_np = v.in_np;
      quiet = v.quiet (v.early ++ v.p_step ∷ h.0) (behind ∙ ap (λ x. v.before_p ++ v.begin_p ∷ x) h.1);
      in_nc = v.in_nc;
      p_event = v.p_event;
      c_event = v.c_event;
      between = subst (SomeStep (Remote v.t r)) h.2 v.between;
    }

    outer : Same v.before_p v.begin_p tail v.before_c v.begin_c v.during ⊎ (Later v.before_p v.begin_p tail v.before_c v.begin_c v.during ⊎ Later v.before_c v.begin_c v.during v.before_p v.begin_p tail)
        → AtomNext np nc p d r p_path d_path ms
    outer (inl h) = absurd (v.differ h.0)
    outer (inr (inr h)) = absurd (no_begin v.t v.serial np h.0 v.begin_p tail v.during h.2 v.in_nc v.begins_np)
    outer (inr (inl h)) = inner h.0 h.1 (splits v.early v.p_step v.later h.0 v.begin_c v.during h.2)

pub no_atom_later : (tree : Tree) (set covered : ℕ → Bool) (k : ℕ) → Carries (tree_code tree) (layout_of tree) (kept_in (layout_of tree) set covered) k
    → Covers (layout_of tree) set covered → k < (tree_code tree).locks → (edges : List Edge)
    → ((place : Place) (u v : ℕ) → Leads (tree_code tree) (layout_of tree) place u v → Link edges u v)
    → (np nc : ℕ) (p d r : AccessId) (p_path d_path : List ℕ) (inner : List ℕ) → Path edges np inner nc → Avoids np nc inner
    → ((n : ℕ) → OnPath edges np nc n → set n ≡ true) → set r.node.number ≡ true → path_start d_path d.node.number ≡ nc
    → (input : List ℤ) (es : List Entry) → NoAtomLater tree np nc p d r p_path d_path k input es
no_atom_later tree set covered k carries covers few edges links np nc p d r p_path d_path inner path avoids all at_r begins_at input es = record {
  none = λ ms end ran none v.
      (no_atom_on_paths tree set covered k carries covers few edges links np nc p d r p_path d_path inner path avoids all at_r begins_at input es).none ms end ran none
      (later_is_next np nc p d r p_path d_path ms v);
}
