-- Paths from one node to another that meet neither between: put together from two, and split at a node.
use Rattle.std.proofs.Common.{◌≡◌, ◌≢◌, ◌↔◌, ℕ, ◌<◌, ◌⊎◌, Bool, true, false, ◌&&◌, ◌||◌, ◌==◌, List, [], ◌∷◌, ◌++◌, length, if◌then◌else◌, inl, inr, ap, sym, ◌∙◌, refl, subst, arith}
use Rattle.std.specs.List.{Contains}
use Rattle.std.proofs.lemmas.Bool.{false≢true, cases_eq}
use Rattle.std.proofs.lemmas.Bool.Decides.{eqb_tells}
use Rattle.std.proofs.lemmas.List.Elements.{Contains-append_left, Contains-append_right, Contains-append_cases, Contains-push, Contains-push_cases}
use Rattle.flow_graph.specs.Flow.{Edge}
use Rattle.flow_graph.specs.Paths.{Path, IsReach, IsBack, Avoids, OnPath}
use Rattle.walks.specs.Walks.{Clear}
use Rattle.plan_types.specs.Sets.{is_in, IsIn}
use Rattle.plan_types.proofs.Sets.{IsIn-below}
use Rattle.regions.specs.Between.{one_number, two_numbers, is_between, IsGathered}
use Rattle.regions.proofs.Sets.{one_only, one_has, two_only, two_has_first, two_has_last, gathered_all}

nothing_in : {X : Type 0} (x : X) → Contains [] x → ⊥
nothing_in x here = absurd (omega (arith, here.1))

the_item : {X : Type 0} (x y : X) → Contains (x ∷ []) y → x ≡ y
the_item x y here = elim (Contains-push_cases [] x y here) [
  | inl none ↦ absurd (nothing_in y none)
  | inr same ↦ same
]

both : (a b : Bool) → (a && b) ≡ true → (a ≡ true) × (b ≡ true)
both true true is = (refl, refl)
both true false is = absurd (false≢true is)
both false b is = absurd (false≢true is)

in_middle : (n : ℕ) (xs ys : List ℕ) → Contains (xs ++ n ∷ ys) n
in_middle n xs ys = Contains-append_right xs (n ∷ ys) n (Contains-append_left (n ∷ []) ys n (Contains-push [] n))

inside : (edges : List Edge) (u v n : ℕ) (on : OnPath edges u v n) → n ≢ u → n ≢ v → Contains on.inner n
inside edges u v n on not_u not_v = elim on.on [
  | inl is_u ↦ absurd (not_u is_u)
  | inr other ↦ elim other [
    | inl is_v ↦ absurd (not_v is_v)
    | inr here ↦ here
  ]
]

module _ (edges : List Edge) (u v : ℕ) where
  path_join : (a m b : ℕ) (xs ys : List ℕ) → Path edges a xs m → Path edges m ys b → Path edges a (xs ++ m ∷ ys) b
  path_join a m b [] ys first second = (first, second)
  path_join a m b (x ∷ xs) ys first second = (first.0, path_join x m b xs ys first.1 second)

  avoids_join : (m : ℕ) (xs ys : List ℕ) → Avoids u v xs → m ≢ u → m ≢ v → Avoids u v ys → Avoids u v (xs ++ m ∷ ys)
  avoids_join m [] ys first not_u not_v second = (not_u, not_v, second)
  avoids_join m (x ∷ xs) ys first not_u not_v second = (first.0, first.1, avoids_join m xs ys first.2 not_u not_v second)

  -- a path from a to b is one from a to n and one from n to b
  record Parts (a b n : ℕ) : Type 0 where
    front : List ℕ
    back : List ℕ
    first : Path edges a front n
    second : Path edges n back b
    front_avoids : Avoids u v front
    back_avoids : Avoids u v back
    not_u : n ≢ u
    not_v : n ≢ v

  split : (a b n : ℕ) (inner : List ℕ) → Path edges a inner b → Avoids u v inner → Contains inner n → Parts a b n
  split a b n [] path avoids here = absurd (nothing_in n here)
  split a b n (m ∷ rest) path avoids here = elim (Contains-append_cases (m ∷ []) rest n here) [
    | inl first ↦
        let same : m ≡ n = the_item m n first in
        subst (Parts a b) same (record {
          front = [];
          back = rest;
          first = path.0;
          second = path.1;
          front_avoids = tt;
          back_avoids = avoids.2;
          not_u = avoids.0;
          not_v = avoids.1;
        })
    | inr later ↦
        let parts = split m b n rest path.1 avoids.2 later in
        record {
          front = m ∷ parts.front;
          back = parts.back;
          first = (path.0, parts.first);
          second = parts.second;
          front_avoids = (avoids.0, avoids.1, parts.front_avoids);
          back_avoids = parts.back_avoids;
          not_u = parts.not_u;
          not_v = parts.not_v;
        }
  ]

  module _ (size : ℕ) (u_below : u < size) (v_below : v < size) where
    clear_avoids : (inner : List ℕ) → Clear (two_numbers size u v) inner → Avoids u v inner
    clear_avoids [] clear = tt
    clear_avoids (m ∷ inner) clear = (
      λ same. clear.0 (subst (IsIn (two_numbers size u v)) (sym same) (two_has_first size u v u_below v_below)),
      λ same. clear.0 (subst (IsIn (two_numbers size u v)) (sym same) (two_has_last size u v v_below)),
      clear_avoids inner clear.1,
    )

    avoids_clear : (inner : List ℕ) → Avoids u v inner → Clear (two_numbers size u v) inner
    avoids_clear [] avoids = tt
    avoids_clear (m ∷ inner) avoids = (
      λ here. elim (two_only size u v m here) [
        | inl is_u ↦ avoids.0 is_u
        | inr is_v ↦ avoids.1 is_v
      ],
      avoids_clear inner avoids.2,
    )

    module _ (ahead behind : List Bool) (reach : IsReach edges (two_numbers size u v) u size ahead)
        (back : IsBack edges (two_numbers size u v) (one_number size v) size behind) where
      whole : IsIn ahead v → (n : ℕ) → (n ≡ u) ⊎ (n ≡ v) → OnPath edges u v n
      whole here n end =
          let leads = (reach.ends v).0 here in
          record {
            inner = leads.inner;
            path = leads.path;
            avoids = clear_avoids leads.inner leads.clear;
            on = elim end [ inl is_u ↦ inl is_u | inr is_v ↦ inr (inl is_v) ];
          }

      between : (n : ℕ) → n ≢ u → n ≢ v → IsIn ahead n → IsIn behind n → OnPath edges u v n
      between n not_u not_v first second =
          let to = (reach.ends n).0 first in
          let into = (back.begins n).0 second in
          let last : into.end ≡ v = one_only size v into.end into.is_end in
          let path = subst (Path edges n into.leads.inner) last into.leads.path in
          record {
            inner = to.inner ++ n ∷ into.leads.inner;
            path = path_join u n v to.inner into.leads.inner to.path path;
            avoids = avoids_join n to.inner into.leads.inner (clear_avoids to.inner to.clear) not_u not_v
                (clear_avoids into.leads.inner into.leads.clear);
            on = inr (inr (in_middle n to.inner into.leads.inner));
          }

      on_path : (n : ℕ) → is_between ahead behind u v n ≡ true → OnPath edges u v n
      on_path n is = elim (eqb_tells n u) [
        | inl is_u ↦
            whole (subst (λ b. (if b || n == v then is_in ahead v else is_in ahead n && is_in behind n) ≡ true) is_u.0 is) n (inl is_u.1)
        | inr not_u ↦
            let rest = subst (λ b. (if b || n == v then is_in ahead v else is_in ahead n && is_in behind n) ≡ true) not_u.0 is in
            elim (eqb_tells n v) [
              | inl is_v ↦ whole (subst (λ b. (if b then is_in ahead v else is_in ahead n && is_in behind n) ≡ true) is_v.0 rest) n (inr is_v.1)
              | inr not_v ↦
                  let two = both (is_in ahead n) (is_in behind n)
                  (subst (λ b. (if b then is_in ahead v else is_in ahead n && is_in behind n) ≡ true) not_v.0 rest) in
                  between n not_u.1 not_v.1 two.0 two.1
            ]
      ]

      is_ahead : (n : ℕ) → OnPath edges u v n → IsIn ahead v
      is_ahead n on = (reach.ends v).1 (record { inner = on.inner; path = on.path; clear = avoids_clear on.inner on.avoids })

      found : (n : ℕ) → OnPath edges u v n → is_between ahead behind u v n ≡ true
      found n on = elim (eqb_tells n u) [
        | inl is_u ↦
            subst (λ b. (if b || n == v then is_in ahead v else is_in ahead n && is_in behind n) ≡ true) (sym is_u.0) (is_ahead n on)
        | inr not_u ↦
            subst (λ b. (if b || n == v then is_in ahead v else is_in ahead n && is_in behind n) ≡ true) (sym not_u.0)
            (elim (eqb_tells n v) [
              | inl is_v ↦ subst (λ b. (if b then is_in ahead v else is_in ahead n && is_in behind n) ≡ true) (sym is_v.0) (is_ahead n on)
              | inr not_v ↦
                  let parts = split u v n on.inner on.path on.avoids (inside edges u v n on not_u.1 not_v.1) in
                  let first : is_in ahead n ≡ true =
                  (reach.ends n).1 (record { inner = parts.front; path = parts.first; clear = avoids_clear parts.front parts.front_avoids }) in
                  let second : is_in behind n ≡ true =
                  (back.begins n).1 (record {
                    end = v;
                    is_end = one_has size v v_below;
                    leads = record { inner = parts.back; path = parts.second; clear = avoids_clear parts.back parts.back_avoids };
                  }) in
                  subst (λ b. (if b then is_in ahead v else is_in ahead n && is_in behind n) ≡ true) (sym not_v.0)
                  (ap (λ b. b && is_in behind n) first ∙ second)
            ])
      ]

      within : (n : ℕ) → OnPath edges u v n → n < length ahead
      within n on = elim (cases_eq n u) [
        | inl is_u ↦ omega (arith, is_u, u_below, reach.sized)
        | inr not_u ↦ elim (cases_eq n v) [
          | inl is_v ↦ omega (arith, is_v, v_below, reach.sized)
          | inr not_v ↦
              let parts = split u v n on.inner on.path on.avoids (inside edges u v n on not_u not_v) in
              IsIn-below ahead n
              ((reach.ends n).1 (record { inner = parts.front; path = parts.first; clear = avoids_clear parts.front parts.front_avoids }))
        ]
      ]

      -- what is gathered is exactly what stands on a path
      pub gathered_is : (set : List Bool) → IsGathered ahead behind u v (length ahead) set → (n : ℕ) → IsIn set n ↔ OnPath edges u v n
      gathered_is set gathered n = (
        λ here. on_path n (gathered_all ahead behind set u v n gathered here),
        λ on. gathered.found n (within n on) ∙ found n on,
      )
