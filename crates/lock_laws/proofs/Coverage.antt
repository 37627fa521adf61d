-- A thread with a frame at a node of the class holds the lock: the frame itself does, or one below it does where the function is
-- covered.
use Rattle.std.proofs.Common.{◌≡◌, ◌⊎◌, inl, inr, ℕ, ◌+◌, ◌<◌, Bool, true, false, not, ◌&&◌, List, [], ◌∷◌, Option, Some, None, refl, sym, ap, ◌∙◌, subst, arith}
use Rattle.cfix_base.specs.declared.number.NodeId.{NodeId}
use Rattle.step_state.specs.declared.frame.Frame.{Frame}
use Rattle.step_state.specs.Code.{Code}
use Rattle.layout_laws.specs.Layout.{Layout, Stands, Calls, Under, IsLaidOut}
use Rattle.lock_laws.specs.Guard.{bit, need_of, needs}
use Rattle.lock_laws.specs.Coverage.{Chain, AnyIn, Covers, kept_in}
use Rattle.frame_laws.proofs.Frames.{AllFrames}
use Rattle.layout_laws.proofs.Shape.{Shaped, Any}

module _ (c : Code) (y : Layout) (laid : IsLaidOut c y) (set covered : ℕ → Bool) (covers : Covers y set covered) (k : ℕ) where
  abbrev kept : ℕ → Bool
  kept = kept_in y set covered

  abbrev pub guarded : List ℕ → ℕ
  guarded [] = 0
  guarded (n ∷ ns) = bit (kept n) + guarded ns

  own_bit : (n : ℕ) (s o : Bool) → set n ≡ s → covered (y.function n) ≡ o → bit (kept n) ≡ bit (s && not o)
  own_bit n s o e h = λ i. bit (e i && not (h i))

  -- of a chain with a node in the set, one is in the set and in a function that is not covered
  chain_guarded : (ns : List ℕ) (f : ℕ) → Chain y ns f → AnyIn set ns → 0 < guarded ns
  chain_guarded [] f chain any = absurd any
  chain_guarded (n ∷ ns) f chain (inr any) = omega (arith, chain_guarded ns (y.function n) chain.1 any)
  chain_guarded (n ∷ ns) f chain (inl here) = by_cover (covered (y.function n)) refl (λ any. chain_guarded ns (y.function n) chain.1 any)
    where
      by_cover : (o : Bool) → covered (y.function n) ≡ o → (AnyIn set ns → 0 < guarded ns) → 0 < bit (kept n) + guarded ns
      by_cover false e more = omega (arith, own_bit n true false here e)
      by_cover true e more = omega (arith, more (covers (y.function n) e ns chain.1))

  -- the frames below a frame visit such a chain, and hold as it says
  abbrev Visits : ℕ → List Frame → Type 0
  Visits f below = (ns : List ℕ) × Chain y ns f × (needs kept k below ≡ guarded ns)

  abbrev All : ℕ → ℕ → List Frame → Type 0
  All m t fs = AllFrames c (Shaped c y laid) (Any c y laid) m t fs

  put_before : (f : ℕ) (g : Frame) (below : List Frame) (visit : Option NodeId) → g.visit ≡ visit → Calls y f visit
      → Stands c y g.of visit g.last g.values g.work → Visits g.of.number below → Visits f (g ∷ below)
  put_before f g below None is calls stands rest = absurd calls
  put_before f g below (Some n) is calls stands rest = (
    n.number ∷ rest.0,
    (calls, subst (Chain y rest.0) (sym stands.function) rest.1),
    ap (λ v. need_of kept k v g.work + needs kept k below) is ∙ ap (λ x. bit (kept n.number) + x) rest.2,
  )

  visits_below : (m t f : ℕ) (below : List Frame) → Under y f below → All m t below → Visits f below
  visits_below m t f [] under all = ([], under, refl)
  visits_below m t f (g ∷ below) under all =
      put_before f g below g.visit refl under all.0.stands (visits_below m t g.of.number below all.0.under all.1)

  -- below a frame of a covered function a frame holds the lock
  pub covered_holds : (m t : ℕ) (f : Frame) (below : List Frame) → All m t (f ∷ below) → covered f.of.number ≡ true → 0 < needs kept k below
  covered_holds m t f below all is =
      let v = visits_below m t f.of.number below all.0.under all.1 in
      subst (λ x. 0 < x) (sym v.2) (chain_guarded v.0 f.of.number v.1 (covers f.of.number is v.0 v.1))

  -- some frame visits a node of the set
  abbrev pub AtSet : Option NodeId → Type 0
  AtSet None = ⊥
  AtSet (Some n) = set n.number ≡ true

  abbrev pub SomeAt : List Frame → Type 0
  SomeAt [] = ⊥
  SomeAt (f ∷ below) = AtSet f.visit ⊎ SomeAt below

  at_here : (m t : ℕ) (f : Frame) (below : List Frame) (visit : Option NodeId) → f.visit ≡ visit → AtSet visit → Stands c y f.of visit f.last f.values f.work
      → All m t (f ∷ below) → 0 < needs kept k (f ∷ below)
  at_here m t f below None is here stands all = absurd here
  at_here m t f below (Some n) is here stands all = by_cover (covered (y.function n.number)) refl
    where
      by_cover : (o : Bool) → covered (y.function n.number) ≡ o → 0 < need_of kept k f.visit f.work + needs kept k below
      by_cover false e =
          let own : need_of kept k f.visit f.work ≡ bit (kept n.number) = ap (λ v. need_of kept k v f.work) is in
          omega (arith, own_bit n.number true false here e)
      by_cover true e = omega (arith, covered_holds m t f below all (sym (ap covered stands.function) ∙ e))

  pub set_holds : (m t : ℕ) (fs : List Frame) → All m t fs → SomeAt fs → 0 < needs kept k fs
  set_holds m t [] all some = absurd some
  set_holds m t (f ∷ below) all (inl here) = at_here m t f below f.visit refl here all.0.stands all
  set_holds m t (f ∷ below) all (inr some) = omega (arith, set_holds m t below all.1 some)
