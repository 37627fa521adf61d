-- The functions whose threads nodes create, kept node by node.
use Rattle.std.proofs.Common.{◌≡◌, ℕ, ◌<◌, ◌⊎◌, Bool, List, [], ◌∷◌, ◌++◌, length, slice_get, Option, Some, None, inl, inr, ap, sym, ◌∙◌, refl, arith}
use Rattle.std.proofs.lemmas.Bool.{false≢true}
use Rattle.std.proofs.lemmas.Option.{none-some}
use Rattle.std.proofs.lemmas.Bool.Decides.{eqb_tells}
use Rattle.cfix_base.specs.declared.number.FnId.{FnId}
use Rattle.plan_types.specs.Sets.{no_numbers, is_in, with_number}
use Rattle.plan_types.proofs.Sets.{is_in-no_numbers, is_in-with_same, is_in-with_other, size-with_number}
use Rattle.call_graph.specs.declared.site.Site.{Site}
use Rattle.call_graph.specs.Calls.{site_created, IsCreated}
use Rattle.call_graph.specs.Kept.{HasCreated, with_created}
use Rattle.call_graph.proofs.Pushes.{get_cases, get_old, get_last}

some_same : {X : Type 0} (x y : X) → Some x ≡ Some y → x ≡ y
some_same x y is = cc is

-- the node that creates
creating : (o : Option Site) (f : FnId) → site_created o ≡ Some f → (s : Site) × (o ≡ Some s) × (s.created ≡ Some f)
creating None f is = absurd (none-some f is)
creating (Some s) f is = (s, refl, is)

module _ (xs : List Site) (x : Site) (f : FnId) where
  old_creation : IsCreated xs f → IsCreated (xs ++ x ∷ []) f
  old_creation is =
      let by = creating (slice_get xs is.0.number) f is.1 in
      (is.0, ap site_created (get_old xs x by.0 is.0.number by.1) ∙ by.2)

  new_creation : x.created ≡ Some f → IsCreated (xs ++ x ∷ []) f
  new_creation is = (record { number = length xs }, ap site_created (get_last xs x) ∙ is)

  creation_cases : IsCreated (xs ++ x ∷ []) f → IsCreated xs f ⊎ (x.created ≡ Some f)
  creation_cases is =
      let by = creating (slice_get (xs ++ x ∷ []) is.0.number) f is.1 in
      elim (get_cases xs x by.0 is.0.number by.1) [
        | inl old ↦ inl (is.0, ap site_created old ∙ by.2)
        | inr last ↦ inr (ap (λ s. s.created) last.1 ∙ by.2)
      ]

-- before the first node no thread is created
pub created_none : (size : ℕ) → HasCreated [] (no_numbers size)
created_none size = λ f below. (
  λ here. absurd (false≢true (sym (is_in-no_numbers size f.number) ∙ here)),
  λ is. absurd (none-some f is.1),
)

-- one more node
pub created_more : (xs : List Site) (x : Site) (created : Option FnId) (set : List Bool) → x.created ≡ created
    → HasCreated xs set → HasCreated (xs ++ x ∷ []) (with_created set created)
created_more xs x None set is has = λ f below. (
  λ here. old_creation xs x f ((has f below).0 here),
  λ now. elim (creation_cases xs x f now) [
    | inl old ↦ (has f below).1 old
    | inr new ↦ absurd (none-some f (sym is ∙ new))
  ],
)
created_more xs x (Some g) set is has = λ f below.
    let within : f.number < length set = omega (arith, below, size-with_number set g.number) in
    elim (eqb_tells f.number g.number) [
      | inl same ↦
          let is_g : f ≡ g = ap (λ n. record { number = n }) same.1 in
          let in_set : is_in (with_number set g.number) f.number ≡ is_in (with_number set g.number) g.number =
          ap (λ n. is_in (with_number set g.number) n) same.1 in (
            λ here. new_creation xs x f (is ∙ ap Some (sym is_g)),
            λ now. in_set ∙ is_in-with_same set g.number (omega (arith, within, same.1)),
          )
      | inr differ ↦
          let other = is_in-with_other set g.number f.number differ.1 in (
            λ here. old_creation xs x f ((has f within).0 (sym other ∙ here)),
            λ now. elim (creation_cases xs x f now) [
              | inl old ↦ other ∙ (has f within).1 old
              | inr new ↦ absurd (differ.1 (ap (λ h. h.number) (sym (some_same g f (sym is ∙ new)))))
            ],
          )
    ]

-- the set keeps its size
pub created_sized : (set : List Bool) (created : Option FnId) → length (with_created set created) ≡ length set
created_sized set None = refl
created_sized set (Some g) = size-with_number set g.number
