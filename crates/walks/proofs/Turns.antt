-- One turn of a walk, node by node.
use Rattle.std.proofs.Common.{◌≡◌, ℕ, zero, suc, ◌+◌, ◌<◌, ◌⊎◌, Bool, true, false, List, [], ◌∷◌, ◌++◌, length, inl, inr, sym, ◌∙◌, refl, subst, arith}
use Rattle.std.specs.List.{Contains}
use Rattle.std.proofs.lemmas.Bool.{false≢true, cases_eq}
use Rattle.std.proofs.lemmas.List.{length-append}
use Rattle.std.proofs.lemmas.List.Elements.{Contains-append_left, Contains-push, Contains-push_cases, Contains-append_cases}
use Rattle.plan_types.specs.Sets.{is_in, IsIn, with_number}
use Rattle.plan_types.proofs.Sets.{size-with_number, is_in-with_same, is_in-with_other}
use Rattle.walks.specs.Walks.{Grows, missing}
use Rattle.walks.proofs.Walks.{nothing_in}

-- the one item of a list
only_item : (x y : ℕ) → Contains (x ∷ []) y → x ≡ y
only_item x y here = elim (Contains-push_cases [] x y here) [
  | inl none ↦ absurd (nothing_in y none)
  | inr same ↦ same
]

one_item : (x : ℕ) → Contains (x ∷ []) x
one_item x = Contains-push [] x

-- no node is met
pub grows_none : (avoiding found : List Bool) (work : List ℕ) → Grows avoiding [] found work found work
grows_none avoiding found work = record {
  size = refl;
  keeps = λ n here. here;
  has = λ n none. absurd (nothing_in n none);
  only = λ n here. inl here;
  stays = λ u here. here;
  adds = λ u here. inl here;
  new = λ u here not. inl here;
  fewer = omega arith;
}

-- one more node is met
pub grows_more : (avoiding : List Bool) (xs : List ℕ) (y : ℕ) (found middle later : List Bool) (work between more : List ℕ)
    → Grows avoiding xs found work middle between → Grows avoiding (y ∷ []) middle between later more
    → Grows avoiding (xs ++ y ∷ []) found work later more
grows_more avoiding xs y found middle later work between more first second = record {
  size = second.size ∙ first.size;
  keeps = λ n here. second.keeps n (first.keeps n here);
  has = λ n here. elim (Contains-append_cases xs (y ∷ []) n here) [
    | inl old ↦ second.keeps n (first.has n old)
    | inr last ↦ second.has n last
  ];
  only = λ n here. elim (second.only n here) [
    | inl old ↦ elim (first.only n old) [
      | inl before ↦ inl before
      | inr met ↦ inr (Contains-append_left xs (y ∷ []) n met)
    ]
    | inr last ↦ inr (last_met n last)
  ];
  stays = λ u here. second.stays u (first.stays u here);
  adds = λ u here. elim (second.adds u here) [
    | inl old ↦ elim (first.adds u old) [
      | inl before ↦ inl before
      | inr met ↦ inr (Contains-append_left xs (y ∷ []) u met.0, met.1)
    ]
    | inr last ↦ inr (last_met u last.0, last.1)
  ];
  new = λ u here not. elim (second.new u here not) [
    | inl old ↦ elim (first.new u old not) [
      | inl before ↦ inl before
      | inr queued ↦ inr (second.stays u queued)
    ]
    | inr queued ↦ inr queued
  ];
  fewer = omega (arith, first.fewer, second.fewer);
}
  where
    last_met : (n : ℕ) → Contains (y ∷ []) n → Contains (xs ++ y ∷ []) n
    last_met n here = subst (Contains (xs ++ y ∷ [])) (only_item y n here) (Contains-push xs y)

-- a node that was found before
pub met_before : (avoiding found : List Bool) (work : List ℕ) (y : ℕ) → is_in found y ≡ true → Grows avoiding (y ∷ []) found work found work
met_before avoiding found work y old = record {
  size = refl;
  keeps = λ n here. here;
  has = λ n here. subst (IsIn found) (only_item y n here) old;
  only = λ n here. inl here;
  stays = λ u here. here;
  adds = λ u here. inl here;
  new = λ u here not. inl here;
  fewer = omega arith;
}

missing_one : (found : List Bool) (y : ℕ) → y < length found → is_in found y ≡ false → missing (with_number found y) + 1 ≡ missing found
missing_one [] y below out = absurd (omega (arith, below))
missing_one (true ∷ found) zero below out = absurd (false≢true (sym out))
missing_one (false ∷ found) zero below out = omega arith
missing_one (true ∷ found) (suc y) below out = missing_one found y (omega (arith, below)) out
missing_one (false ∷ found) (suc y) below out = omega (arith, missing_one found y (omega (arith, below)) out)

module _ (avoiding found : List Bool) (work : List ℕ) (y : ℕ) (below : y < length found) (out : is_in found y ≡ false) where
  keeps_old : (n : ℕ) → IsIn found n → IsIn (with_number found y) n
  keeps_old n here = elim (cases_eq n y) [
    | inl same ↦ subst (IsIn (with_number found y)) (sym same) (is_in-with_same found y below)
    | inr other ↦ is_in-with_other found y n other ∙ here
  ]

  only_new : (n : ℕ) → IsIn (with_number found y) n → IsIn found n ⊎ Contains (y ∷ []) n
  only_new n here = elim (cases_eq n y) [
    | inl same ↦ inr (subst (Contains (y ∷ [])) (sym same) (one_item y))
    | inr other ↦ inl (sym (is_in-with_other found y n other) ∙ here)
  ]

  has_new : (n : ℕ) → Contains (y ∷ []) n → IsIn (with_number found y) n
  has_new n here = subst (IsIn (with_number found y)) (only_item y n here) (is_in-with_same found y below)

  -- a new node that is avoided
  pub met_avoided : is_in avoiding y ≡ true → Grows avoiding (y ∷ []) found work (with_number found y) work
  met_avoided avoided = record {
    size = size-with_number found y;
    keeps = keeps_old;
    has = has_new;
    only = only_new;
    stays = λ u here. here;
    adds = λ u here. inl here;
    new = λ u here not. elim (only_new u here) [
      | inl old ↦ inl old
      | inr met ↦ absurd (not (subst (IsIn avoiding) (only_item y u met) avoided))
    ];
    fewer = omega (arith, missing_one found y below out);
  }

  -- a new node from which the walk goes on
  pub met_new : is_in avoiding y ≡ false → Grows avoiding (y ∷ []) found work (with_number found y) (work ++ y ∷ [])
  met_new fresh = record {
    size = size-with_number found y;
    keeps = keeps_old;
    has = has_new;
    only = only_new;
    stays = λ u here. Contains-append_left work (y ∷ []) u here;
    adds = λ u here. elim (Contains-push_cases work y u here) [
      | inl old ↦ inl old
      | inr same ↦ inr (subst (Contains (y ∷ [])) same (one_item y), λ avoided. false≢true (sym fresh ∙ subst (IsIn avoiding) (sym same) avoided))
    ];
    new = λ u here not. elim (only_new u here) [
      | inl old ↦ inl old
      | inr met ↦ inr (subst (Contains (work ++ y ∷ [])) (only_item y u met) (Contains-push work y))
    ];
    fewer = omega (arith, missing_one found y below out, length-append work (y ∷ []));
  }
