-- Links turned round, link by link.
use Rattle.std.proofs.Common.{◌≡◌, ◌≢◌, ℕ, zero, suc, ◌+◌, ◌-◌, ◌<◌, ◌≤◌, ◌⊎◌, List, [], ◌∷◌, ◌++◌, length, get_or, inl, inr, ap, sym, ◌∙◌, refl, subst, arith}
use Rattle.std.specs.List.{Contains}
use Rattle.std.proofs.lemmas.Bool.{cases_eq}
use Rattle.std.proofs.lemmas.List.{length-set, get_or-set_same, get_or-set_other}
use Rattle.std.proofs.lemmas.List.Elements.{Contains-append_left, Contains-push, Contains-push_cases}
use Rattle.std.proofs.lemmas.Option.{slice_get_read}
use Rattle.walks.specs.Walks.{list_or}
use Rattle.flow_graph.specs.Links.{listed, with_link, Gains, Turned}
use Rattle.walks.proofs.Walks.{nothing_in}

listed_is : (lists : List (List ℕ)) (place : ℕ) → listed lists place ≡ get_or lists place []
listed_is [] place = refl
listed_is (x ∷ lists) zero = refl
listed_is (x ∷ lists) (suc place) = listed_is lists place

listed_same : (lists : List (List ℕ)) (place from : ℕ) → place < length lists → listed (with_link lists place from) place ≡ listed lists place ++ from ∷ []
listed_same lists place from within =
    listed_is (with_link lists place from) place ∙ get_or-set_same lists place (listed lists place ++ from ∷ []) [] within

listed_other : (lists : List (List ℕ)) (place from other : ℕ) → other ≢ place → listed (with_link lists place from) other ≡ listed lists other
listed_other lists place from other differs =
    listed_is (with_link lists place from) other ∙ get_or-set_other lists place other (listed lists place ++ from ∷ []) [] differs ∙ sym (listed_is lists other)

kept : (lists : List (List ℕ)) (place from other u : ℕ) → place < length lists → Contains (listed lists other) u → Contains (listed (with_link lists place from) other) u
kept lists place from other u within here =
    elim (cases_eq other place) [
      | inl same ↦
          subst (λ p. Contains (listed (with_link lists place from) p) u) (sym same)
          (subst (λ l. Contains l u) (sym (listed_same lists place from within))
          (Contains-append_left (listed lists place) (from ∷ []) u (subst (λ p. Contains (listed lists p) u) same here)))
      | inr differs ↦ subst (λ l. Contains l u) (sym (listed_other lists place from other differs)) here
    ]

pub gains_none : (first : ℕ) (lists : List (List ℕ)) (from : ℕ) → Gains first lists lists from []
gains_none first lists from = record {
  sized = refl;
  keeps = λ place u here. here;
  has = λ v none. absurd (nothing_in v none);
  only = λ place u here. inl here;
}

pub gains_more : (first : ℕ) (old middle : List (List ℕ)) (from : ℕ) (xs : List ℕ) (v : ℕ) → Gains first old middle from xs → first ≤ v → v - first < length middle
    → Gains first old (with_link middle (v - first) from) from (xs ++ v ∷ [])
gains_more first old middle from xs v gains above within = record {
  sized = length-set middle (v - first) (listed middle (v - first) ++ from ∷ []) ∙ gains.sized;
  keeps = λ place u here. kept middle (v - first) from place u within (gains.keeps place u here);
  has = λ w here. elim (Contains-push_cases xs v w here) [
    | inl before ↦ kept middle (v - first) from (w - first) from within (gains.has w before)
    | inr same ↦
        subst (λ x. Contains (listed (with_link middle (v - first) from) (x - first)) from) same
        (subst (λ l. Contains l from) (sym (listed_same middle (v - first) from within)) (Contains-push (listed middle (v - first)) from))
  ];
  only = λ place u here. elim (cases_eq place (v - first)) [
    | inl same ↦
        let there = subst (λ l. Contains l u) (listed_same middle (v - first) from within)
        (subst (λ p. Contains (listed (with_link middle (v - first) from) p) u) same here) in
        elim (Contains-push_cases (listed middle (v - first)) from u there) [
          | inl before ↦ earlier place u (subst (λ p. Contains (listed middle p) u) (sym same) before)
          | inr new ↦
              let at : v ≡ first + place = omega (arith, same, above) in
              inr (sym new, subst (Contains (xs ++ v ∷ [])) at (Contains-push xs v))
        ]
    | inr differs ↦ earlier place u (subst (λ l. Contains l u) (listed_other middle (v - first) from place differs) here)
  ];
}
  where
    earlier : (place u : ℕ) → Contains (listed middle place) u → Contains (listed old place) u ⊎ ((u ≡ from) × Contains (xs ++ v ∷ []) (first + place))
    earlier place u here =
        elim (gains.only place u here) [
          | inl before ↦ inl before
          | inr met ↦ inr (met.0, Contains-append_left xs (v ∷ []) (first + place) met.1)
        ]

pub turned_none : (first : ℕ) (lists turned : List (List ℕ)) → ((place u : ℕ) → Contains (listed turned place) u → ⊥) → Turned first 0 lists turned
turned_none first lists turned empty = record {
  has = λ place v below here. absurd (omega (arith, below));
  only = λ place u here. absurd (empty place u here);
}

pub turned_more : (first i : ℕ) (lists turned later : List (List ℕ)) → Turned first i lists turned
    → Gains first turned later (first + i) (listed lists i) → Turned first (i + 1) lists later
turned_more first i lists turned later before gains = record {
  has = λ place v below here. elim (cases_eq place i) [
    | inl same ↦
        subst (λ p. Contains (listed later (v - first)) (first + p)) (sym same) (gains.has v (subst (λ p. Contains (listed lists p) v) same here))
    | inr differs ↦ gains.keeps (v - first) (first + place) (before.has place v (omega (arith, below, differs)) here)
  ];
  only = λ place u here. elim (gains.only place u here) [
    | inl old ↦
        let known = before.only place u old in
        (known.0, omega (arith, known.1), known.2)
    | inr new ↦
        let at : i ≡ u - first = omega (arith, new.0) in
        (omega (arith, new.0), omega (arith, new.0), subst (λ p. Contains (listed lists p) (first + place)) at new.1)
  ];
}

pub empty_more : (lists : List (List ℕ)) → ((place u : ℕ) → Contains (listed lists place) u → ⊥) → (place u : ℕ) → Contains (listed (lists ++ [] ∷ []) place) u → ⊥
empty_more [] empty zero u here = nothing_in u here
empty_more [] empty (suc place) u here = nothing_in u here
empty_more (x ∷ lists) empty zero u here = empty zero u here
empty_more (x ∷ lists) empty (suc place) u here = empty_more lists (λ p w there. empty (suc p) w there) place u here

-- the list at a place that is there
pub item_listed : (lists : List (List ℕ)) (place : ℕ) (item : List ℕ) → place < length lists → item ≡ get_or lists place item → listed lists place ≡ item
item_listed lists place item within is = ap list_or (slice_get_read lists (length lists) place item refl within is)
