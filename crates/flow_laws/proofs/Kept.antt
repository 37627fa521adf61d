-- A set of the nodes of a statement that control can meet from its first node on: control leaves the set through the end of the
-- statement where it falls through, by a jump out of a loop around it, or behind a `return`.
use Rattle.std.proofs.Common.{◌≡◌, ℕ, zero, suc, ◌+◌, ◌<◌, ◌≤◌, ◌⊎◌, inl, inr, ℤ, pos, negsuc, Bool, true, false, not, ◌&&◌, ◌||◌, eqb, List, [], ◌∷◌, ◌++◌, length, slice_get, Option, Some, None, ap, sym, ◌∙◌, refl, subst, arith, true≢false}
use Rattle.std.proofs.lemmas.Bool.{and_parts, or_cases, or_left, or_right, not_from_false, false_from_ne_true}
use Rattle.std.proofs.lemmas.Bool.Decides.{eqb_tells, Decides-int_eq}
use Rattle.std.specs.Ordering.{int_eq}
use Rattle.std.specs.Cmp.Derive.{both_true}
use Rattle.cfix_base.specs.declared.op.Op.{Op}
use Rattle.c_prog.specs.declared.expr.Expr.{Expr}
use Rattle.c_prog.specs.declared.expr.Expr.TheOpen.{Expr-F}
use Rattle.c_prog.specs.declared.expr.Expr.TheViews.{out-Expr}
use Rattle.c_prog.specs.declared.expr.Expr.TheFolds.{fold_out-Expr, fold-Target, map-Expr}
use Rattle.c_prog.specs.declared.expr.Target.{Target}
use Rattle.c_prog.specs.declared.stmt.Cond.{Cond}
use Rattle.c_prog.specs.declared.stmt.Jump.{Jump}
use Rattle.c_prog.specs.declared.stmt.Jump.TheVariants.{Break, Continue, Return, ReturnNull, ReturnValue}
use Rattle.c_prog.specs.declared.stmt.Step.{Step}
use Rattle.c_prog.specs.Nodes.{step_nodes}
use Rattle.c_prog.specs.Order.{Node, jump}
use Rattle.c_prog.specs.Valid.Falls.{Fall, number_of, number_level, is_not_zero, is_always, is_break, all_fall, some_breaks}
use Rattle.flow_graph.specs.declared.around.Around.{Around}
use Rattle.flow_graph.specs.Flow.{Way, Next, Part, size_of, along, first_of, followed_by, constant, constant_level, constant_target, is_other, after_way, jump_target, in_loop, if_ways, step_ways, loop_ways}
use Rattle.flow_laws.specs.Returns.{is_return_node}

-- ---- a condition that always holds

same-value : (e : Expr) → constant e ≡ number_of e
same-value e = by (out-Expr e) refl
  where
    constant-is : (y : Expr-F Expr Target) → out-Expr e ≡ y
        → constant e ≡ constant_level (map-Expr Expr Target (Option ℤ) (Option ℤ) constant (fold-Target (Option ℤ) (Option ℤ) constant_level constant_target) y)
    constant-is y is = rw is at (fold_out-Expr (Option ℤ) (Option ℤ) constant_level constant_target e)

    number-is : (y : Expr-F Expr Target) → out-Expr e ≡ y
        → number_of e ≡ number_level (map-Expr Expr Target (Option ℤ) (Unit {0}) number_of (fold-Target (Option ℤ) (Unit {0}) number_level (λ target. tt)) y)
    number-is y is = rw is at (fold_out-Expr (Option ℤ) (Unit {0}) number_level (λ target. tt) e)

    by : (y : Expr-F Expr Target) → out-Expr e ≡ y → constant e ≡ number_of e
    by (Expr-F.Number n) is = constant-is (Expr-F.Number n) is ∙ sym (number-is (Expr-F.Number n) is)
    by (Expr-F.Read t) is = constant-is (Expr-F.Read t) is ∙ sym (number-is (Expr-F.Read t) is)
    by (Expr-F.Cast n) is = constant-is (Expr-F.Cast n) is ∙ sym (number-is (Expr-F.Cast n) is)
    by (Expr-F.Neg a) is = constant-is (Expr-F.Neg a) is ∙ sym (number-is (Expr-F.Neg a) is)
    by (Expr-F.Not a) is = constant-is (Expr-F.Not a) is ∙ sym (number-is (Expr-F.Not a) is)
    by (Expr-F.Binary op a b) is = constant-is (Expr-F.Binary op a b) is ∙ sym (number-is (Expr-F.Binary op a b) is)

other-is : (v : Option ℤ) → is_not_zero v ≡ is_other v
other-is None = refl
other-is (Some (pos zero)) = refl
other-is (Some (pos (suc n))) =
    not_from_false (int_eq (pos (suc n)) (pos 0))
    (false_from_ne_true (int_eq (pos (suc n)) (pos 0)) (λ h. let same : pos (suc n) ≡ pos 0 = (Decides-int_eq (pos (suc n)) (pos 0)).0 h in absurd (cc same)))
other-is (Some (negsuc n)) = refl

-- a condition always holds just where its False place is dead
pub always-dead : (e : Expr) → is_always e ≡ is_other (constant e)
always-dead e = ap is_not_zero (sym (same-value e)) ∙ other-is (constant e)

-- ---- where `return` stands

abbrev pub returns_at : List Node → ℕ → Bool
returns_at nodes n = is_return_node (slice_get nodes n)

pub at-left : (xs ys : List Node) (k : ℕ) → returns_at xs k ≡ true → returns_at (xs ++ ys) k ≡ true
at-left [] ys k here = absurd (true≢false (sym here))
at-left (x ∷ xs) ys zero here = here
at-left (x ∷ xs) ys (suc k) here = at-left xs ys k here

pub at-right : (xs ys : List Node) (k : ℕ) → returns_at ys k ≡ true → returns_at (xs ++ ys) (length xs + k) ≡ true
at-right [] ys k here = let same : k ≡ 0 + k = omega arith in subst (λ n. returns_at ys n ≡ true) same here
at-right (x ∷ xs) ys k here =
    let same : suc (length xs + k) ≡ suc (length xs) + k = omega arith in
    subst (λ n. returns_at (x ∷ (xs ++ ys)) n ≡ true) same (at-right xs ys k here)

module _ (nodes : List Node) where
  -- each `return` of a statement whose first node has this number is one of the program
  abbrev pub Told : List Node → ℕ → Type 0
  Told order start = (k : ℕ) → returns_at order k ≡ true → returns_at nodes (start + k) ≡ true

  pub told-left : (xs ys : List Node) (start : ℕ) → Told (xs ++ ys) start → Told xs start
  told-left xs ys start told k here = told k (at-left xs ys k here)

  pub told-right : (xs ys : List Node) (start size : ℕ) → length xs ≡ size → Told (xs ++ ys) start → Told ys (start + size)
  told-right xs ys start size sized told k here =
      let same : start + (length xs + k) ≡ start + size + k = omega (arith, sized) in
      subst (λ n. returns_at nodes n ≡ true) same (told (length xs + k) (at-right xs ys k here))

-- ---- where control goes

-- from a node that is met: to a node that is met, or out of the statement
pub data Out (nodes : List Node) (live : ℕ → Bool) (fall : Fall) (loop : Bool) (around : Around) (from : ℕ) (next : Next) : Type 0 where
  inner : (v : ℕ) → next ≡ Some v → live v ≡ true → Out nodes live fall loop around from next
  falls : fall.falls ≡ true → next ≡ around.follow → Out nodes live fall loop around from next
  breaks : fall.breaks ≡ true → loop ≡ true → next ≡ around.on_break → Out nodes live fall loop around from next
  continues : loop ≡ true → next ≡ around.on_continue → Out nodes live fall loop around from next
  returns : returns_at nodes from ≡ true → next ≡ None → Out nodes live fall loop around from next

-- a place behind a node of the statement
pub record Goes (nodes : List Node) (live : ℕ → Bool) (fall : Fall) (loop : Bool) (around : Around) (low high : ℕ) (way : Way) : Type 0 where
  pub from : ℕ
  pub source : way.source ≡ Some from
  pub above : low ≤ from
  pub below : from < high
  pub to : way.is_dead ≡ false → live from ≡ true → Out nodes live fall loop around from way.target

abbrev pub AllGo : List Node → (ℕ → Bool) → Fall → Bool → Around → ℕ → ℕ → List Way → Type 0
AllGo nodes live fall loop around low high [] = Unit {0}
AllGo nodes live fall loop around low high (way ∷ ways) =
    Goes nodes live fall loop around low high way × AllGo nodes live fall loop around low high ways

pub record Kept (nodes : List Node) (part : Part) (fall : Fall) (loop : Bool) (start : ℕ) (around : Around) : Type 0 where
  pub live : ℕ → Bool
  pub first : 0 < part.size → live start ≡ true
  pub empty : part.size ≡ 0 → fall.falls ≡ true
  pub within : (u : ℕ) → live u ≡ true → (start ≤ u) × (u < start + part.size)
  pub ways : AllGo nodes live fall loop around start (start + part.size) (part.ways start around)

both : (nodes : List Node) (live : ℕ → Bool) (fall : Fall) (loop : Bool) (around : Around) (low high : ℕ) (xs ys : List Way)
    → AllGo nodes live fall loop around low high xs → AllGo nodes live fall loop around low high ys → AllGo nodes live fall loop around low high (xs ++ ys)
both nodes live fall loop around low high [] ys first second = second
both nodes live fall loop around low high (x ∷ xs) ys first second = (first.0, both nodes live fall loop around low high xs ys first.1 second)

-- a statement inside another
module _ (nodes : List Node) (live wide : ℕ → Bool) (fall outer : Fall) (loop inner_loop : Bool) (around outside : Around) (low high least most : ℕ) where
  pub widened : ((u : ℕ) → low ≤ u → u < high → wide u ≡ true → live u ≡ true)
      → ((from : ℕ) (next : Next) → Out nodes live fall inner_loop around from next → Out nodes wide outer loop outside from next)
      → least ≤ low → high ≤ most → (ways : List Way) → AllGo nodes live fall inner_loop around low high ways → AllGo nodes wide outer loop outside least most ways
  widened same out under over [] go = tt
  widened same out under over (way ∷ ways) go = (
    record {
      from = go.0.from;
      source = go.0.source;
      above = omega (arith, go.0.above, under);
      below = omega (arith, go.0.below, over);
      to = λ passed met. out go.0.from way.target (go.0.to passed (same go.0.from go.0.above go.0.below met));
    },
    widened same out under over ways go.1,
  )

-- ---- numbers of nodes as tests

same-node : (n : ℕ) → eqb n n ≡ true
same-node n = elim (eqb_tells n n) [ inl here ↦ here.0 | inr other ↦ absurd (other.1 refl) ]

the-node : (u n : ℕ) → eqb u n ≡ true → u ≡ n
the-node u n h = elim (eqb_tells u n) [ inl here ↦ here.1 | inr other ↦ absurd (true≢false (sym h ∙ other.0)) ]

not-node : (u n : ℕ) → (u ≡ n → ⊥) → eqb u n ≡ false
not-node u n h = elim (eqb_tells u n) [ inl here ↦ absurd (h here.1) | inr other ↦ other.0 ]

-- ---- one node

-- `break` and `continue` stand in a loop
abbrev pub Fits : Bool → Jump → Type 0
Fits loop Break = loop ≡ true
Fits loop Continue = loop ≡ true
Fits loop _ = Unit {0}

module _ (nodes : List Node) (loop : Bool) (start : ℕ) (around : Around) where
  only : (u : ℕ) → eqb u start ≡ true → (start ≤ u) × (u < start + 1)
  only u h = let same = the-node u start h in (omega (arith, same), omega (arith, same))

  -- a statement that is one node
  pub alone : (fall : Fall) (target : Around → Next) → Out nodes (λ u. eqb u start) fall loop around start (target around)
      → Kept nodes (record { size = 1; ways = λ start around. after_way start (target around) }) fall loop start around
  alone fall target out = record {
    live = λ u. eqb u start;
    first = λ more. same-node start;
    empty = λ none. absurd (omega (arith, none));
    within = only;
    ways = (record { from = start; source = refl; above = omega arith; below = omega arith; to = λ passed met. out }, tt);
  }

  pub jump-out : (j : Jump) (after : List Op) → Fits loop j → Told nodes (jump j after ∷ []) start
      → Out nodes (λ u. eqb u start) (record { falls = false; breaks = is_break j }) loop around start (jump_target j around)
  jump-out Break after fits told = Out.breaks refl fits refl
  jump-out Continue after fits told = Out.continues fits refl
  jump-out Return after fits told = let same : start + 0 ≡ start = omega arith in Out.returns (subst (λ n. returns_at nodes n ≡ true) same (told 0 refl)) refl
  jump-out ReturnNull after fits told = let same : start + 0 ≡ start = omega arith in Out.returns (subst (λ n. returns_at nodes n ≡ true) same (told 0 refl)) refl
  jump-out (ReturnValue value) after fits told = let same : start + 0 ≡ start = omega arith in Out.returns (subst (λ n. returns_at nodes n ≡ true) same (told 0 refl)) refl

-- ---- statements one after another

-- where the way into a list goes: its first node, or what follows it
entered : (live : ℕ → Bool) (n start : ℕ) (follow : Next) → (0 < n → live start ≡ true)
    → ((v : ℕ) × (first_of n start follow ≡ Some v) × (live v ≡ true)) ⊎ ((n ≡ 0) × (first_of n start follow ≡ follow))
entered live zero start follow first = inr (refl, refl)
entered live (suc n) start follow first = inl (start, refl, first (omega arith))

-- statements one after another, as one
abbrev pub list_part : List Part → Part
list_part parts = record { size = size_of parts; ways = along parts }

abbrev pub list_fall : List Fall → Fall
list_fall list = record { falls = all_fall list; breaks = some_breaks list }

module _ (nodes : List Node) (part : Part) (parts : List Part) (fall : Fall) (others : List Fall) (loop : Bool) (start : ℕ) (around : Around) where
  abbrev pub behind : Around
  behind = followed_by (first_of (size_of parts) (start + part.size) around.follow) around

  module _ (head : Kept nodes part fall loop start behind) (rest : Kept nodes (list_part parts) (list_fall others) loop (start + part.size) around) where
    abbrev live : ℕ → Bool
    live u = head.live u || (fall.falls && rest.live u)

    in-head : (u : ℕ) → u < start + part.size → live u ≡ true → head.live u ≡ true
    in-head u below met = elim (or_cases (head.live u) (fall.falls && rest.live u) met) [
      | inl here ↦ here
      | inr there ↦
          let parts = and_parts fall.falls (rest.live u) there in
          absurd (omega (arith, below, (rest.within u parts.1).0))
    ]

    in-rest : (u : ℕ) → start + part.size ≤ u → live u ≡ true → (fall.falls ≡ true) × (rest.live u ≡ true)
    in-rest u above met = elim (or_cases (head.live u) (fall.falls && rest.live u) met) [
      | inl here ↦ absurd (omega (arith, above, (head.within u here).1))
      | inr there ↦ and_parts fall.falls (rest.live u) there
    ]

    from-head : (from : ℕ) (next : Next) → Out nodes head.live fall loop behind from next → Out nodes live (list_fall (fall ∷ others)) loop around from next
    from-head from next (Out.inner v is met) = Out.inner v is (or_left (head.live v) (fall.falls && rest.live v) met)
    from-head from next (Out.falls end is) = elim (entered rest.live (size_of parts) (start + part.size) around.follow rest.first) [
      | inl into ↦ Out.inner into.0 (is ∙ into.1) (or_right (head.live into.0) (fall.falls && rest.live into.0) (both_true end into.2))
      | inr past ↦ Out.falls (both_true end (rest.empty past.0)) (is ∙ past.1)
    ]
    from-head from next (Out.breaks jumps looped is) = Out.breaks (or_left fall.breaks (some_breaks others) jumps) looped is
    from-head from next (Out.continues looped is) = Out.continues looped is
    from-head from next (Out.returns here is) = Out.returns here is

    from-rest : (from : ℕ) (next : Next) → fall.falls ≡ true → Out nodes rest.live (list_fall others) loop around from next → Out nodes live (list_fall (fall ∷ others)) loop around from next
    from-rest from next passed (Out.inner v is met) = Out.inner v is (or_right (head.live v) (fall.falls && rest.live v) (both_true passed met))
    from-rest from next passed (Out.falls end is) = Out.falls (both_true passed end) is
    from-rest from next passed (Out.breaks jumps looped is) = Out.breaks (or_right fall.breaks (some_breaks others) jumps) looped is
    from-rest from next passed (Out.continues looped is) = Out.continues looped is
    from-rest from next passed (Out.returns here is) = Out.returns here is

    rest-ways : (ways : List Way) → AllGo nodes rest.live (list_fall others) loop around (start + part.size) (start + part.size + size_of parts) ways
        → AllGo nodes live (list_fall (fall ∷ others)) loop around start (start + (part.size + size_of parts)) ways
    rest-ways [] go = tt
    rest-ways (way ∷ ways) go = (
      record {
        from = go.0.from;
        source = go.0.source;
        above = omega (arith, go.0.above);
        below = omega (arith, go.0.below);
        to = λ passed met.
            let here = in-rest go.0.from go.0.above met in
            from-rest go.0.from way.target here.0 (go.0.to passed here.1);
      },
      rest-ways ways go.1,
    )

    first-live : (n : ℕ) → part.size ≡ n → 0 < n + size_of parts → live start ≡ true
    first-live zero is more =
        let same : start + part.size ≡ start = omega (arith, is) in
        let there : rest.live start ≡ true = subst (λ u. rest.live u ≡ true) same (rest.first (omega (arith, more))) in
        or_right (head.live start) (fall.falls && rest.live start) (both_true (head.empty is) there)
    first-live (suc n) is more = or_left (head.live start) (fall.falls && rest.live start) (head.first (omega (arith, is)))

    all-within : (u : ℕ) → live u ≡ true → (start ≤ u) × (u < start + (part.size + size_of parts))
    all-within u met = elim (or_cases (head.live u) (fall.falls && rest.live u) met) [
      | inl here ↦ let w = head.within u here in (w.0, omega (arith, w.1))
      | inr there ↦ let w = rest.within u (and_parts fall.falls (rest.live u) there).1 in (omega (arith, w.0), omega (arith, w.1))
    ]

    pub list-kept : Kept nodes (list_part (part ∷ parts)) (list_fall (fall ∷ others)) loop start around
    list-kept = record {
      live = live;
      first = first-live part.size refl;
      empty = λ none. both_true (head.empty (omega (arith, none))) (rest.empty (omega (arith, none)));
      within = all-within;
      ways = both nodes live (list_fall (fall ∷ others)) loop around start (start + (part.size + size_of parts)) (part.ways start behind) (along parts (start + part.size) around)
          (widened nodes head.live live fall (list_fall (fall ∷ others)) loop loop behind around start (start + part.size) start (start + (part.size + size_of parts))
          (λ u above below met. in-head u below met) from-head (omega arith) (omega arith) (part.ways start behind) head.ways)
          (rest-ways (along parts (start + part.size) around) rest.ways);
    }

-- ---- the two sides of an `if`

module _ (nodes : List Node) (c : Cond) (as_true as_false : List Part) (fall_true fall_false : List Fall) (loop : Bool) (start : ℕ) (around : Around) where
  abbrev other : ℕ
  other = start + 1 + size_of as_true

  abbrev if_fall : Fall
  if_fall = record { falls = all_fall fall_true || all_fall fall_false; breaks = some_breaks fall_true || some_breaks fall_false }

  module _ (yes_kept : Kept nodes (list_part as_true) (list_fall fall_true) loop (start + 1) around) (no_kept : Kept nodes (list_part as_false) (list_fall fall_false) loop other around) where
    abbrev if_live : ℕ → Bool
    if_live u = eqb u start || (yes_kept.live u || no_kept.live u)

    in-yes : (u : ℕ) → start + 1 ≤ u → u < other → if_live u ≡ true → yes_kept.live u ≡ true
    in-yes u above below met = elim (or_cases (eqb u start) (yes_kept.live u || no_kept.live u) met) [
      | inl here ↦ absurd (omega (arith, above, the-node u start here))
      | inr there ↦ elim (or_cases (yes_kept.live u) (no_kept.live u) there) [
        | inl mine ↦ mine
        | inr past ↦ absurd (omega (arith, below, (no_kept.within u past).0))
      ]
    ]

    in-no : (u : ℕ) → other ≤ u → if_live u ≡ true → no_kept.live u ≡ true
    in-no u above met = elim (or_cases (eqb u start) (yes_kept.live u || no_kept.live u) met) [
      | inl here ↦ absurd (omega (arith, above, the-node u start here))
      | inr there ↦ elim (or_cases (yes_kept.live u) (no_kept.live u) there) [
        | inl before ↦ absurd (omega (arith, above, (yes_kept.within u before).1))
        | inr mine ↦ mine
      ]
    ]

    yes-live : (u : ℕ) → yes_kept.live u ≡ true → if_live u ≡ true
    yes-live u met = or_right (eqb u start) (yes_kept.live u || no_kept.live u) (or_left (yes_kept.live u) (no_kept.live u) met)

    no-live : (u : ℕ) → no_kept.live u ≡ true → if_live u ≡ true
    no-live u met = or_right (eqb u start) (yes_kept.live u || no_kept.live u) (or_right (yes_kept.live u) (no_kept.live u) met)

    from-yes : (from : ℕ) (next : Next) → Out nodes yes_kept.live (list_fall fall_true) loop around from next → Out nodes if_live if_fall loop around from next
    from-yes from next (Out.inner v is met) = Out.inner v is (yes-live v met)
    from-yes from next (Out.falls end is) = Out.falls (or_left (all_fall fall_true) (all_fall fall_false) end) is
    from-yes from next (Out.breaks jumps looped is) = Out.breaks (or_left (some_breaks fall_true) (some_breaks fall_false) jumps) looped is
    from-yes from next (Out.continues looped is) = Out.continues looped is
    from-yes from next (Out.returns here is) = Out.returns here is

    from-no : (from : ℕ) (next : Next) → Out nodes no_kept.live (list_fall fall_false) loop around from next → Out nodes if_live if_fall loop around from next
    from-no from next (Out.inner v is met) = Out.inner v is (no-live v met)
    from-no from next (Out.falls end is) = Out.falls (or_right (all_fall fall_true) (all_fall fall_false) end) is
    from-no from next (Out.breaks jumps looped is) = Out.breaks (or_right (some_breaks fall_true) (some_breaks fall_false) jumps) looped is
    from-no from next (Out.continues looped is) = Out.continues looped is
    from-no from next (Out.returns here is) = Out.returns here is

    to-yes : Out nodes if_live if_fall loop around start (first_of (size_of as_true) (start + 1) around.follow)
    to-yes = elim (entered yes_kept.live (size_of as_true) (start + 1) around.follow yes_kept.first) [
      | inl into ↦ Out.inner into.0 into.1 (yes-live into.0 into.2)
      | inr past ↦ Out.falls (or_left (all_fall fall_true) (all_fall fall_false) (yes_kept.empty past.0)) past.1
    ]

    to-no : Out nodes if_live if_fall loop around start (first_of (size_of as_false) other around.follow)
    to-no = elim (entered no_kept.live (size_of as_false) other around.follow no_kept.first) [
      | inl into ↦ Out.inner into.0 into.1 (no-live into.0 into.2)
      | inr past ↦ Out.falls (or_right (all_fall fall_true) (all_fall fall_false) (no_kept.empty past.0)) past.1
    ]

    if-within : (u : ℕ) → if_live u ≡ true → (start ≤ u) × (u < start + (1 + size_of as_true + size_of as_false))
    if-within u met = elim (or_cases (eqb u start) (yes_kept.live u || no_kept.live u) met) [
      | inl here ↦ let same = the-node u start here in (omega (arith, same), omega (arith, same))
      | inr there ↦ elim (or_cases (yes_kept.live u) (no_kept.live u) there) [
        | inl mine ↦ let w = yes_kept.within u mine in (omega (arith, w.0), omega (arith, w.1))
        | inr mine ↦ let w = no_kept.within u mine in (omega (arith, w.0), omega (arith, w.1))
      ]
    ]

    pub if-kept : Kept nodes (record { size = 1 + size_of as_true + size_of as_false; ways = if_ways c as_true as_false }) if_fall loop start around
    if-kept = record {
      live = if_live;
      first = λ more. or_left (eqb start start) (yes_kept.live start || no_kept.live start) (same-node start);
      empty = λ none. absurd (omega (arith, none));
      within = if-within;
      ways = (
        record { from = start; source = refl; above = omega arith; below = omega arith; to = λ passed met. to-yes },
        (
          record { from = start; source = refl; above = omega arith; below = omega arith; to = λ passed met. to-no },
          both nodes if_live if_fall loop around start (start + (1 + size_of as_true + size_of as_false)) (along as_true (start + 1) around) (along as_false other around)
              (widened nodes yes_kept.live if_live (list_fall fall_true) if_fall loop loop around around (start + 1) (start + 1 + size_of as_true) start (start + (1 + size_of as_true + size_of as_false))
              in-yes from-yes (omega arith) (omega arith) (along as_true (start + 1) around) yes_kept.ways)
              (widened nodes no_kept.live if_live (list_fall fall_false) if_fall loop loop around around other (other + size_of as_false) start (start + (1 + size_of as_true + size_of as_false))
              (λ u above below met. in-no u above met) from-no (omega arith) (omega arith) (along as_false other around) no_kept.ways),
        ),
      );
    }

-- ---- a loop

ends-by-break : (always some : Bool) → some ≡ true → not (always && not some) ≡ true
ends-by-break true some h = rw h refl
ends-by-break false some h = refl

ends-by-test : (always some : Bool) → always ≡ false → not (always && not some) ≡ true
ends-by-test always some h = rw h refl

module _ (nodes : List Node) (c : Cond) (step : Option Step) (body : List Part) (inside : List Fall) (loop : Bool) (start : ℕ) (around : Around) where
  abbrev again : ℕ
  again = start + step_nodes step

  abbrev begin : ℕ
  begin = start + 1 + step_nodes step

  abbrev loop_fall : Fall
  loop_fall = record { falls = not (is_always c.test && not (some_breaks inside)); breaks = false }

  abbrev loop_size : ℕ
  loop_size = 1 + step_nodes step + size_of body

  module _ (kept : Kept nodes (list_part body) (list_fall inside) true begin (in_loop again around)) where
    abbrev loop_live : ℕ → Bool
    loop_live u = eqb u start || (eqb u again || kept.live u)

    start-live : loop_live start ≡ true
    start-live = or_left (eqb start start) (eqb start again || kept.live start) (same-node start)

    again-live : loop_live again ≡ true
    again-live = or_right (eqb again start) (eqb again again || kept.live again) (or_left (eqb again again) (kept.live again) (same-node again))

    body-live : (u : ℕ) → kept.live u ≡ true → loop_live u ≡ true
    body-live u met = or_right (eqb u start) (eqb u again || kept.live u) (or_right (eqb u again) (kept.live u) met)

    in-body : (u : ℕ) → begin ≤ u → loop_live u ≡ true → kept.live u ≡ true
    in-body u above met = elim (or_cases (eqb u start) (eqb u again || kept.live u) met) [
      | inl here ↦ absurd (omega (arith, above, the-node u start here))
      | inr there ↦ elim (or_cases (eqb u again) (kept.live u) there) [
        | inl here ↦ absurd (omega (arith, above, the-node u again here))
        | inr mine ↦ mine
      ]
    ]

    from-body : (from : ℕ) (next : Next) → Out nodes kept.live (list_fall inside) true (in_loop again around) from next → Out nodes loop_live loop_fall loop around from next
    from-body from next (Out.inner v is met) = Out.inner v is (body-live v met)
    from-body from next (Out.falls end is) = Out.inner again is again-live
    from-body from next (Out.breaks jumps looped is) = Out.falls (ends-by-break (is_always c.test) (some_breaks inside) jumps) is
    from-body from next (Out.continues looped is) = Out.inner again is again-live
    from-body from next (Out.returns here is) = Out.returns here is

    to-body : Out nodes loop_live loop_fall loop around start (first_of (size_of body) begin (Some again))
    to-body = elim (entered kept.live (size_of body) begin (Some again) kept.first) [
      | inl into ↦ Out.inner into.0 into.1 (body-live into.0 into.2)
      | inr past ↦ Out.inner again past.1 again-live
    ]

    step-goes : (s : Option Step) → step ≡ s → AllGo nodes loop_live loop_fall loop around start (start + loop_size) (step_ways s start)
    step-goes None is = tt
    step-goes (Some s) is =
        let one : step_nodes step ≡ 1 = ap step_nodes is in (
          record {
            from = start + 1;
            source = refl;
            above = omega arith;
            below = omega (arith, one);
            to = λ passed met. Out.inner start refl start-live;
          },
          tt,
        )

    loop-within : (u : ℕ) → loop_live u ≡ true → (start ≤ u) × (u < start + loop_size)
    loop-within u met = elim (or_cases (eqb u start) (eqb u again || kept.live u) met) [
      | inl here ↦ let same = the-node u start here in (omega (arith, same), omega (arith, same))
      | inr there ↦ elim (or_cases (eqb u again) (kept.live u) there) [
        | inl here ↦ let same = the-node u again here in (omega (arith, same), omega (arith, same))
        | inr mine ↦ let w = kept.within u mine in (omega (arith, w.0), omega (arith, w.1))
      ]
    ]

    pub loop-kept : Kept nodes (record { size = loop_size; ways = loop_ways c step body }) loop_fall loop start around
    loop-kept = record {
      live = loop_live;
      first = λ more. start-live;
      empty = λ none. absurd (omega (arith, none));
      within = loop-within;
      ways = (
        record { from = start; source = refl; above = omega arith; below = omega arith; to = λ passed met. to-body },
        (
          record {
            from = start;
            source = refl;
            above = omega arith;
            below = omega arith;
            to = λ passed met. Out.falls (ends-by-test (is_always c.test) (some_breaks inside) (always-dead c.test ∙ passed)) refl;
          },
          both nodes loop_live loop_fall loop around start (start + loop_size) (step_ways step start) (along body begin (in_loop again around))
              (step-goes step refl)
              (widened nodes kept.live loop_live (list_fall inside) loop_fall loop true (in_loop again around) around begin (begin + size_of body) start (start + loop_size)
              (λ u above below met. in-body u above met) from-body (omega arith) (omega arith) (along body begin (in_loop again around)) kept.ways),
        ),
      );
    }
