-- Links, one more of them, and what they lead to.
use Rattle.std.proofs.Common.{◌≡◌, ℕ, zero, suc, ◌<◌, ◌-◌, Bool, true, false, nat_lt, if◌then◌else◌, List, [], ◌∷◌, ◌++◌, length, replicate, set, slice_get, Result, Ok, Err, OnOk, OnErr, inl, inr, ap, sym, ◌∙◌, refl, subst, arith}
use Rattle.std.specs.List.{Contains}
use Rattle.std.proofs.lemmas.Bool.{false≢true, cases_eq, ltb-true}
use Rattle.std.proofs.lemmas.List.{get_or-replicate, get_or_past, get_or-set_same, get_or-set_other, set-get_or, length-set, length-replicate}
use Rattle.std.proofs.lemmas.List.Elements.{Contains-append_left, Contains-push, Contains-push_cases}
use Rattle.std.proofs.lemmas.Bool.{cases_lt}
use Rattle.plan_types.specs.Sets.{IsIn, IsSetOf, no_numbers, with_number}
use Rattle.plan_types.proofs.Sets.{size-with_number, is_in-with_same, is_in-with_other, is_in-no_numbers}
use Rattle.walks.specs.Walks.{Clear, Steps, IsWalk, list_or, targets_in}
use Rattle.walks.specs.Links.{next_in, with_link, AreLinks, Comes, IsWithAll}
use Rattle.walks.proofs.Walks.{nothing_in}

pub links-none : (count : ℕ) (lists : List (List ℕ)) → lists ≡ replicate count [] → AreLinks count lists
links-none count lists is = record {
  sized = let none : List ℕ = [] in ap length is ∙ length-replicate count none;
  below = λ u v here. absurd (nothing_in v (subst (λ l. Contains l v) (empty u) here));
}
  where
    empty : (u : ℕ) → next_in lists u ≡ []
    empty u = ap (λ l. next_in l u) is ∙ elim (cases_lt u count) [
      | inl below ↦ let none : List ℕ = [] in get_or-replicate count u none none below
      | inr past ↦
          let none : List ℕ = [] in
          let size : length (replicate count none) ≡ count = length-replicate count none in
          get_or_past (replicate count none) u none (omega (arith, size, past))
    ]

pub links-more : (size : ℕ) (lists : List (List ℕ)) (from to : ℕ) → AreLinks size lists → from < size → to < size → AreLinks size (with_link lists from to)
links-more size lists from to are is_from is_to = record {
  sized = length-set lists from (next_in lists from ++ to ∷ []) ∙ are.sized;
  below = λ u v here. elim (cases_eq u from) [
    | inl same ↦
        let is : next_in (with_link lists from to) u ≡ next_in lists from ++ to ∷ [] =
        ap (next_in (with_link lists from to)) same
        ∙ get_or-set_same lists from (next_in lists from ++ to ∷ []) [] (omega (arith, are.sized, is_from)) in
        elim (Contains-push_cases (next_in lists from) to v (subst (λ l. Contains l v) is here)) [
          | inl old ↦ are.below from v old
          | inr last ↦ subst (λ n. n < size) last is_to
        ]
    | inr other ↦
        are.below u v (subst (λ l. Contains l v) (get_or-set_other lists from u (next_in lists from ++ to ∷ []) [] other) here)
  ];
}

-- a list that is put back is the list
pub put-back : (lists : List (List ℕ)) (from : ℕ) (list : List ℕ) → list ≡ next_in lists from → set lists from list ≡ lists
put-back lists from list is = ap (set lists from) is ∙ set-get_or lists from []

-- the list of one number after a link was added to it, or was not for want of memory
pub links-pushed : {A E : Type 0} (size : ℕ) (lists : List (List ℕ)) (from to : ℕ) (old list : List ℕ) (result : Result A E)
    → AreLinks size lists → from < size → to < size → old ≡ next_in lists from
    → OnOk result (list ≡ old ++ to ∷ []) → OnErr result (list ≡ old) → AreLinks size (set lists from list)
links-pushed size lists from to old list (Ok x) are is_from is_to is pushed unchanged =
    subst (λ l. AreLinks size (set lists from l)) (sym (pushed ∙ ap (λ l. l ++ to ∷ []) is)) (links-more size lists from to are is_from is_to)
links-pushed size lists from to old list (Err e) are is_from is_to is pushed unchanged =
    subst (AreLinks size) (sym (put-back lists from list (unchanged ∙ is))) are

list_is : (lists : List (List ℕ)) (u : ℕ) → list_or (slice_get lists u) ≡ next_in lists u
list_is [] u = refl
list_is (x ∷ lists) zero = refl
list_is (x ∷ lists) (suc u) = list_is lists u

-- no number is below 0
below_zero : (b : Bool) (u : ℕ) → nat_lt u 0 ≡ b → b ≡ false
below_zero true u is = absurd (omega (arith, ltb-true u 0 is))
below_zero false u is = refl

-- the lists of a walk from number 0
pub targets-next : (lists : List (List ℕ)) (u : ℕ) → targets_in lists 0 u ≡ next_in lists u
targets-next lists u =
    let same : u - 0 ≡ u = omega arith in
    ap (λ b. if b then [] else list_or (slice_get lists (u - 0))) (below_zero (nat_lt u 0) u refl)
    ∙ ap (λ n. list_or (slice_get lists n)) same ∙ list_is lists u

module _ (lists : List (List ℕ)) where
  steps-to : (u v : ℕ) (inner : List ℕ) → Steps (targets_in lists 0) u inner v → Steps (next_in lists) u inner v
  steps-to u v [] steps = subst (λ l. Contains l v) (targets-next lists u) steps
  steps-to u v (m ∷ inner) steps = (subst (λ l. Contains l m) (targets-next lists u) steps.0, steps-to m v inner steps.1)

  steps-from : (u v : ℕ) (inner : List ℕ) → Steps (next_in lists) u inner v → Steps (targets_in lists 0) u inner v
  steps-from u v [] steps = subst (λ l. Contains l v) (sym (targets-next lists u)) steps
  steps-from u v (m ∷ inner) steps = (subst (λ l. Contains l m) (sym (targets-next lists u)) steps.0, steps-from m v inner steps.1)

all_clear : (size : ℕ) (inner : List ℕ) → Clear (no_numbers size) inner
all_clear size [] = tt
all_clear size (m ∷ inner) = ((λ here. false≢true (sym (is_in-no_numbers size m) ∙ here)), all_clear size inner)

-- the walk from the starts, with the starts themselves
pub comes-found : (lists : List (List ℕ)) (size : ℕ) (starts : List ℕ) (found more : List Bool)
    → IsWalk (targets_in lists 0) (no_numbers size) starts size found → IsWithAll found starts more
    → IsSetOf size more (Comes (next_in lists) starts)
comes-found lists size starts found more walk with = record {
  sized = with.sized ∙ walk.sized;
  has = λ n below. (
    λ here. elim ((with.has n).0 here) [
      | inl end ↦
          let ends = walk.sound n end in
          record { start = ends.start; is_start = ends.is_start; leads = inr (ends.chain.inner, steps-to lists ends.start n ends.chain.inner ends.chain.steps) }
      | inr start ↦ record { start = n; is_start = start; leads = inl refl }
    ],
    λ comes. (with.has n).1 (elim comes.leads [
      | inl same ↦ inr (subst (Contains starts) same comes.is_start)
      | inr way ↦ inl (walk.all n (record {
        start = comes.start;
        is_start = comes.is_start;
        chain = record { inner = way.0; steps = steps-from lists comes.start n way.0 way.1; clear = all_clear size way.0 };
      }))
    ]),
  );
}

pub with-none : (set : List Bool) → IsWithAll set [] set
with-none set = record {
  sized = refl;
  has = λ n. (
    λ here. inl here,
    λ either. elim either [
      | inl here ↦ here
      | inr none ↦ absurd (nothing_in n none)
    ],
  );
}

pub with-more : (set : List Bool) (numbers : List ℕ) (more : List Bool) (number : ℕ) → IsWithAll set numbers more → number < length more
    → IsWithAll set (numbers ++ number ∷ []) (with_number more number)
with-more set numbers more number with below = record {
  sized = size-with_number more number ∙ with.sized;
  has = λ n. (
    λ here. elim (cases_eq n number) [
      | inl same ↦ inr (subst (Contains (numbers ++ number ∷ [])) (sym same) (Contains-push numbers number))
      | inr other ↦ elim ((with.has n).0 (sym (is_in-with_other more number n other) ∙ here)) [
        | inl old ↦ inl old
        | inr met ↦ inr (Contains-append_left numbers (number ∷ []) n met)
      ]
    ],
    λ either. elim (cases_eq n number) [
      | inl same ↦ subst (IsIn (with_number more number)) (sym same) (is_in-with_same more number below)
      | inr other ↦ is_in-with_other more number n other ∙ (with.has n).1 (elim either [
        | inl old ↦ inl old
        | inr met ↦ elim (Contains-push_cases numbers number n met) [
          | inl before ↦ inr before
          | inr last ↦ absurd (other (sym last))
        ]
      ])
    ],
  );
}
