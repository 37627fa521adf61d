-- A set that has the nodes of all paths from np to nc contains what lies between a visit of np and the next visit of nc.
use Rattle.std.proofs.Common.{◌≡◌, ◌≢◌, ◌⊎◌, ⊎_elim, inl, inr, ℕ, ℤ, ◌<◌, Bool, true, false, List, [], ◌∷◌, ◌++◌, refl, arith, subst}
use Rattle.std.specs.List.{Contains as Has}
use Rattle.std.proofs.lemmas.List.Elements.{Contains-append_right}
use Rattle.std.proofs.lemmas.Bool.Decides.{eqb_tells}
use Rattle.std.proofs.Math.Dec.{eqb}
use Rattle.cfix_base.specs.declared.access.AccessId.{AccessId}
use Rattle.cfix_base.specs.declared.entry.Entry.{Entry}
use Rattle.cfix_base.specs.declared.place.Place.{Place}
use Rattle.c_prog.specs.declared.tree.Tree.{Tree}
use Rattle.flow_graph.specs.Flow.{Edge}
use Rattle.flow_graph.specs.Paths.{Link, Path, Avoids, OnPath}
use Rattle.step_state.specs.Code.{Code}
use Rattle.lock_laws.specs.Coverage.{Covers, kept_in}
use Rattle.lock_laws.specs.Guard.{Carries}
use Rattle.layout_laws.specs.Layout.{Layout}
use Rattle.atom_laws.specs.NextVisit.{Leads, Forward, Backward, Contains}
use Rattle.step_tables.specs.TreeCode.{tree_code}
use Rattle.layout_laws.specs.TreeLayout.{layout_of}
use Rattle.atom_laws.specs.Violations.{path_start, NoAtomNext}
use Rattle.atom_laws.proofs.AtomLaws.{no_atom_next}

path_append : (edges : List Edge) (u : ℕ) (a : List ℕ) (v : ℕ) (b : List ℕ) (w : ℕ) → Path edges u a v → Path edges v b w → Path edges u (a ++ v ∷ b) w
path_append edges u [] v b w p q = (p, q)
path_append edges u (m ∷ a) v b w p q = (p.0, path_append edges m a v b w p.1 q)

avoids_append : (u v : ℕ) (a : List ℕ) (n : ℕ) (b : List ℕ) → Avoids u v a → n ≢ u → n ≢ v → Avoids u v b → Avoids u v (a ++ n ∷ b)
avoids_append u v [] n b h x z k = (x, z, k)
avoids_append u v (m ∷ a) n b h x z k = (h.0, h.1, avoids_append u v a n b h.2 x z k)

module _ (c : Code) (y : Layout) (edges : List Edge) (links : (place : Place) (u v : ℕ) → Leads c y place u v → Link edges u v) (np nc : ℕ) where
  abbrev Ways : ℕ → ℕ → Type 0
  Ways u v = (inner : List ℕ) × Path edges u inner v × Avoids np nc inner

  -- a path leads there from np
  abbrev pub FromNp : ℕ → Type 0
  FromNp v = Ways np v

  -- it is nc, or another node than np from which a path leads to nc
  abbrev pub ToNc : ℕ → Type 0
  ToNc v = (v ≡ nc) ⊎ ((v ≢ np) × Ways v nc)

  pub forward_paths : Forward c y np nc FromNp
  forward_paths = record {
    first = λ place v leads. ([], links place np v leads, tt);
    on = λ place u v not_np not_nc way leads. (
      way.0 ++ u ∷ [],
      path_append edges np way.0 u [] v way.1 (links place u v leads),
      avoids_append np nc way.0 u [] way.2 not_np not_nc tt,
    );
  }

  step_back : (u v : ℕ) → u ≢ np → Link edges u v → ToNc v → ToNc u
  step_back u v not_np link (inl e) = inr (not_np, ([], subst (Link edges u) e link, tt))
  step_back u v not_np link (inr way) =
      ⊎_elim (λ (e : (eqb v nc ≡ true) × (v ≡ nc)). inr (not_np, ([], subst (Link edges u) e.1 link, tt)))
      (λ (e : (eqb v nc ≡ false) × (v ≢ nc)). inr (not_np, (v ∷ way.1.0, (link, way.1.1), (way.0, e.1, way.1.2)))) (eqb_tells v nc)

  pub backward_paths : Backward c y np nc ToNc
  backward_paths = record { end = inl refl; on = λ place u v not_np not_nc leads back. step_back u v not_np (links place u v leads) back }

  has_head : (v : ℕ) (b : List ℕ) → Has (v ∷ b) v
  has_head v b = (0, omega arith, refl)

  inner_on : (v : ℕ) → v ≢ np → v ≢ nc → FromNp v → ToNc v → OnPath edges np nc v
  inner_on v not_np not_nc way (inl e) = absurd (not_nc e)
  inner_on v not_np not_nc way (inr back) = record {
    inner = way.0 ++ v ∷ back.1.0;
    path = path_append edges np way.0 v back.1.0 nc way.1 back.1.1;
    avoids = avoids_append np nc way.0 v back.1.0 way.2 not_np not_nc back.1.2;
    on = inr (inr (Contains-append_right way.0 (v ∷ back.1.0) v (has_head v back.1.0)));
  }

  -- a set with the nodes of all these paths, of which there is one
  pub contains_paths : (set : ℕ → Bool) → ((n : ℕ) → OnPath edges np nc n → set n ≡ true) → (inner : List ℕ) → Path edges np inner nc → Avoids np nc inner
      → Contains np nc FromNp ToNc set
  contains_paths set all inner path avoids = record {
    has_np = all np (record { inner = inner; path = path; avoids = avoids; on = inl refl });
    has_nc = all nc (record { inner = inner; path = path; avoids = avoids; on = inr (inl refl) });
    has_inner = λ v not_np not_nc way back. all v (inner_on v not_np not_nc way back);
  }

-- of programs, by the nodes of paths
pub no_atom_on_paths : (tree : Tree) (set covered : ℕ → Bool) (k : ℕ) → Carries (tree_code tree) (layout_of tree) (kept_in (layout_of tree) set covered) k
    → Covers (layout_of tree) set covered → k < (tree_code tree).locks → (edges : List Edge)
    → ((place : Place) (u v : ℕ) → Leads (tree_code tree) (layout_of tree) place u v → Link edges u v)
    → (np nc : ℕ) (p d r : AccessId) (p_path d_path : List ℕ) (inner : List ℕ) → Path edges np inner nc → Avoids np nc inner
    → ((n : ℕ) → OnPath edges np nc n → set n ≡ true) → set r.node.number ≡ true → path_start d_path d.node.number ≡ nc
    → (input : List ℤ) (es : List Entry) → NoAtomNext tree np nc p d r p_path d_path k input es
no_atom_on_paths tree set covered k carries covers few edges links np nc p d r p_path d_path inner path avoids all at_r begins_at input es =
    no_atom_next tree set covered k carries covers few np nc p d r p_path d_path (FromNp (tree_code tree) (layout_of tree) edges links np nc)
    (ToNc (tree_code tree) (layout_of tree) edges links np nc) (forward_paths (tree_code tree) (layout_of tree) edges links np nc)
    (backward_paths (tree_code tree) (layout_of tree) edges links np nc)
    (contains_paths (tree_code tree) (layout_of tree) edges links np nc set all inner path avoids) at_r begins_at input es
