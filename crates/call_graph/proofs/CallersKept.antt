-- The callers of each function, kept node by node.
use Rattle.std.proofs.Common.{◌≡◌, ℕ, ◌<◌, ◌⊎◌, List, [], ◌∷◌, ◌++◌, length, get_or, replicate, slice_get, Option, Some, None, inl, inr, ap, sym, ◌∙◌, refl, subst, arith}
use Rattle.std.specs.List.{Contains}
use Rattle.std.proofs.lemmas.Option.{none-some}
use Rattle.std.proofs.lemmas.Bool.Decides.{eqb_tells}
use Rattle.std.proofs.lemmas.List.{get_or-replicate, get_or-set_same, get_or-set_other, length-set, length-replicate}
use Rattle.std.proofs.lemmas.List.Elements.{Contains-append_left, Contains-push, Contains-push_cases, Contains-get_or}
use Rattle.std.proofs.lemmas.List.Quantifiers.{all_pairs_push}
use Rattle.cfix_base.specs.declared.number.FnId.{FnId}
use Rattle.cfix_base.specs.declared.number.NodeId.{NodeId}
use Rattle.call_graph.specs.declared.site.Site.{Site}
use Rattle.call_graph.specs.Calls.{site_callee, callee_of, AreCallers}
use Rattle.call_graph.specs.Kept.{HaveCallers, list_at, with_caller}
use Rattle.call_graph.proofs.Pushes.{get_cases, get_old, get_last, get_below}

nothing_in : {X : Type 0} (x : X) → Contains [] x → ⊥
nothing_in x here = absurd (omega (arith, here.1))

some_same : {X : Type 0} (x y : X) → Some x ≡ Some y → x ≡ y
some_same x y is = cc is

-- the node that calls
calling : (o : Option Site) (f : FnId) → site_callee o ≡ Some f → (s : Site) × (o ≡ Some s) × (s.callee ≡ Some f)
calling None f is = absurd (none-some f is)
calling (Some s) f is = (s, refl, is)

module _ (xs : List Site) (x : Site) (f : FnId) where
  old_call : (node : NodeId) → callee_of xs node ≡ Some f → callee_of (xs ++ x ∷ []) node ≡ Some f
  old_call node is =
      let by = calling (slice_get xs node.number) f is in
      ap site_callee (get_old xs x by.0 node.number by.1) ∙ by.2

  call_cases : (node : NodeId) → callee_of (xs ++ x ∷ []) node ≡ Some f
      → (callee_of xs node ≡ Some f) ⊎ ((node.number ≡ length xs) × (x.callee ≡ Some f))
  call_cases node is =
      let by = calling (slice_get (xs ++ x ∷ []) node.number) f is in
      elim (get_cases xs x by.0 node.number by.1) [
        | inl old ↦ inl (ap site_callee old ∙ by.2)
        | inr last ↦ inr (last.0, ap (λ s. s.callee) last.1 ∙ by.2)
      ]

  call_below : (node : NodeId) → callee_of xs node ≡ Some f → node.number < length xs
  call_below node is = let by = calling (slice_get xs node.number) f is in get_below xs by.0 node.number by.1

  -- one more node that does not call the function
  no_call : (list : List NodeId) → (x.callee ≡ Some f → ⊥) → AreCallers xs f list → AreCallers (xs ++ x ∷ []) f list
  no_call list not are = record {
    calls = λ node. (
      λ here. old_call node ((are.calls node).0 here),
      λ is. elim (call_cases node is) [
        | inl old ↦ (are.calls node).1 old
        | inr last ↦ absurd (not last.1)
      ],
    );
    rising = are.rising;
  }

  -- one more node that calls it
  one_call : (list : List NodeId) → x.callee ≡ Some f → AreCallers xs f list
      → AreCallers (xs ++ x ∷ []) f (list ++ record { number = length xs } ∷ [])
  one_call list calls are = record {
    calls = λ node. (
      λ here. elim (Contains-push_cases list (record { number = length xs }) node here) [
        | inl old ↦ old_call node ((are.calls node).0 old)
        | inr same ↦ subst (λ n. callee_of (xs ++ x ∷ []) n ≡ Some f) same (ap site_callee (get_last xs x) ∙ calls)
      ],
      λ is. elim (call_cases node is) [
        | inl old ↦ Contains-append_left list (record { number = length xs } ∷ []) node ((are.calls node).1 old)
        | inr last ↦
            let here : NodeId = record { number = length xs } in
            let same : here ≡ node = ap (λ n. record { number = n }) (sym last.0) in
            subst (Contains (list ++ here ∷ [])) same (Contains-push list here)
      ],
    );
    rising = all_pairs_push (λ one other. one.number < other.number) list (record { number = length xs }) are.rising
        (λ k d below. call_below (get_or list k d) ((are.calls (get_or list k d)).0 (Contains-get_or list k d below)));
  }

-- before the first node no function has callers
pub callers_none : (count : ℕ) → HaveCallers [] (replicate count [])
callers_none count = λ f below.
    let empty : List NodeId = [] in
    let none : list_at (replicate count empty) f ≡ empty =
    get_or-replicate count f.number empty empty (omega (arith, below, length-replicate count empty)) in
    subst (AreCallers [] f) (sym none) (record {
      calls = λ node. (λ here. absurd (nothing_in node here), λ is. absurd (none-some f is));
      rising = λ i j d first second. absurd (omega (arith, second));
    })

-- one more node
pub callers_more : (xs : List Site) (x : Site) (callee : Option FnId) (lists : List (List NodeId)) → x.callee ≡ callee
    → HaveCallers xs lists → HaveCallers (xs ++ x ∷ []) (with_caller lists callee (record { number = length xs }))
callers_more xs x None lists is have = λ f below.
    no_call xs x f (list_at lists f) (λ calls. none-some f (sym is ∙ calls)) (have f below)
callers_more xs x (Some g) lists is have = λ f below.
    let more : List NodeId = list_at lists g ++ record { number = length xs } ∷ [] in
    let within : f.number < length lists = omega (arith, below, length-set lists g.number more) in
    elim (eqb_tells f.number g.number) [
      | inl same ↦
          let is_g : f ≡ g = ap (λ n. record { number = n }) same.1 in
          let found : list_at (with_caller lists (Some g) (record { number = length xs })) f ≡ list_at lists f ++ record { number = length xs } ∷ [] =
          ap (λ h. list_at (with_caller lists (Some g) (record { number = length xs })) h) is_g
          ∙ get_or-set_same lists g.number more [] (omega (arith, within, same.1))
          ∙ ap (λ h. list_at lists h ++ record { number = length xs } ∷ []) (sym is_g) in
          subst (AreCallers (xs ++ x ∷ []) f) (sym found) (one_call xs x f (list_at lists f) (is ∙ ap Some (sym is_g)) (have f within))
      | inr differ ↦
          let found : list_at (with_caller lists (Some g) (record { number = length xs })) f ≡ list_at lists f =
          get_or-set_other lists g.number f.number more [] differ.1 in
          subst (AreCallers (xs ++ x ∷ []) f) (sym found)
          (no_call xs x f (list_at lists f) (λ calls. differ.1 (ap (λ h. h.number) (sym (some_same g f (sym is ∙ calls))))) (have f within))
    ]

-- the lists keep their number
pub callers_sized : (lists : List (List NodeId)) (callee : Option FnId) (node : NodeId) → length (with_caller lists callee node) ≡ length lists
callers_sized lists None node = refl
callers_sized lists (Some g) node = length-set lists g.number (list_at lists g ++ node ∷ [])
