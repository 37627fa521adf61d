-- A program is not patched exactly where no operation stands at a place and no order begins with a token.
use Rattle.std.proofs.Common.{◌≡◌, ℕ, zero, suc, Bool, true, false, ◌||◌, List, [], ◌∷◌, ◌++◌, map, Option, Some, None, subst, refl, ap, sym, ◌∙◌, true≢false}
use Rattle.std.specs.Prelude.{slice_get}
use Rattle.std.specs.List.{list_any}
use Rattle.std.proofs.lemmas.List.Folds.{list_any-append}
use Rattle.cfix_base.specs.declared.op.Op.{Op}
use Rattle.cfix_base.specs.declared.place.Place.{Place}
use Rattle.cfix_base.specs.declared.place.Place.TheVariants as at
use Rattle.c_prog.specs.declared.function.Function.{Function}
use Rattle.c_prog.specs.declared.stmt.Step.{Step}
use Rattle.c_prog.specs.declared.stmt.Stmt.{Stmt}
use Rattle.c_prog.specs.declared.stmt.Stmt.TheVariants as stmt
use Rattle.c_prog.specs.declared.stmt.Stmt.TheViews.{roll-Stmt}
use Rattle.c_prog.specs.declared.stmt.Stmt.TheOpen.{Stmt-F}
use Rattle.c_prog.specs.declared.stmt.Stmt.TheFolds.{ind-Stmt, map-Stmt}
use Rattle.c_prog.specs.declared.tree.Tree.{Tree}
use Rattle.c_prog.specs.Order.{Node, act, cond, step, jump, order, order_of, step_order, function_order, functions_order, tree_order, node_at}
use Rattle.c_prog.specs.Patched.{has_some, cond_patched, step_patched, patched, patched_of, function_patched, functions_patched, tree_patched}
use Rattle.c_prog.specs.Places.{ops, start_ops, after_ops, true_ops, false_ops}
use Rattle.c_prog.proofs.Equations.{patched-Simple, patched-Jump, patched-If, patched-Loop, patched-Block, order-Simple, order-Jump, order-If, order-Loop, order-Block}
use Rattle.prog_laws.specs.Bare.{IsBare}

-- an operation stands behind the node, or on a way out of it
abbrev node_patched : Node → Bool
node_patched (act a list) = has_some list
node_patched (cond c) = cond_patched c
node_patched (step s) = has_some s.after
node_patched (jump j list) = has_some list

or-false : (b : Bool) → (b || false) ≡ b
or-false true = refl
or-false false = refl

or-groups : (a b c : Bool) → ((a || b) || c) ≡ (a || (b || c))
or-groups true b c = refl
or-groups false b c = refl

-- ---- a statement is patched where one of its nodes is

abbrev Told : Stmt → Type 0
Told s = patched s ≡ list_any node_patched (order s)

abbrev E : Type 0
E = (s : Stmt) × Told s

abbrev stmts : List E → List Stmt
stmts es = map (λ e. e.0) es

all-told : (es : List E) → patched_of (stmts es) ≡ list_any node_patched (order_of (stmts es))
all-told [] = refl
all-told (e ∷ es) =
    ap (λ b. b || patched_of (stmts es)) e.1
    ∙ ap (λ b. list_any node_patched (order e.0) || b) (all-told es)
    ∙ sym (list_any-append node_patched (order e.0) (order_of (stmts es)))

step-told : (s : Option Step) → step_patched s ≡ list_any node_patched (step_order s)
step-told None = refl
step-told (Some s) = sym (or-false (has_some s.after))

-- two parts, one after the other
two-told : (b c : Bool) (x y : List Node) → b ≡ list_any node_patched x → c ≡ list_any node_patched y
    → (b || c) ≡ list_any node_patched (x ++ y)
two-told b c x y p q =
    ap (λ b. b || c) p ∙ ap (λ c. list_any node_patched x || c) q ∙ sym (list_any-append node_patched x y)

level : (y : Stmt-F E) → Told (roll-Stmt (map-Stmt E Stmt (λ e. e.0) y))
level (Stmt-F.Simple a list) =
    subst Told (sym (stmt.rolls-Simple a list))
    (patched-Simple a list ∙ sym (or-false (has_some list)) ∙ sym (ap (list_any node_patched) (order-Simple a list)))
level (Stmt-F.Jump j list) =
    subst Told (sym (stmt.rolls-Jump j list))
    (patched-Jump j list ∙ sym (or-false (has_some list)) ∙ sym (ap (list_any node_patched) (order-Jump j list)))
level (Stmt-F.If c x y) =
    subst Told (sym (stmt.rolls-If c (stmts x) (stmts y)))
    (patched-If c (stmts x) (stmts y)
    ∙ or-groups (cond_patched c) (patched_of (stmts x)) (patched_of (stmts y))
    ∙ ap (λ b. cond_patched c || b)
    (two-told (patched_of (stmts x)) (patched_of (stmts y)) (order_of (stmts x)) (order_of (stmts y)) (all-told x) (all-told y))
    ∙ sym (ap (list_any node_patched) (order-If c (stmts x) (stmts y))))
level (Stmt-F.Loop c s x) =
    subst Told (sym (stmt.rolls-Loop c s (stmts x)))
    (patched-Loop c s (stmts x)
    ∙ or-groups (cond_patched c) (step_patched s) (patched_of (stmts x))
    ∙ ap (λ b. cond_patched c || b)
    (two-told (step_patched s) (patched_of (stmts x)) (step_order s) (order_of (stmts x)) (step-told s) (all-told x))
    ∙ sym (ap (list_any node_patched) (order-Loop c s (stmts x))))
level (Stmt-F.Block x) =
    subst Told (sym (stmt.rolls-Block (stmts x)))
    (patched-Block (stmts x) ∙ all-told x ∙ sym (ap (list_any node_patched) (order-Block (stmts x))))

told : (s : Stmt) → Told s
told = ind-Stmt Told (λ x y is. subst (λ z. Told (roll-Stmt z)) is (level y))

body-told : (list : List Stmt) → patched_of list ≡ list_any node_patched (order_of list)
body-told [] = refl
body-told (s ∷ list) = two-told (patched s) (patched_of list) (order s) (order_of list) (told s) (body-told list)

-- ---- a program is patched where an order begins with a token, a function starts with an operation, or a node is patched

abbrev starts_patched : List Function → Bool
starts_patched list = list_any (λ f. has_some f.start) list

left-false : (a b : Bool) → (a || b) ≡ false → a ≡ false
left-false false b is = refl
left-false true b is = is

right-false : (a b : Bool) → (a || b) ≡ false → b ≡ false
right-false false b is = is
right-false true b is = absurd (true≢false is)

both-false : (a b : Bool) → a ≡ false → b ≡ false → (a || b) ≡ false
both-false a b p q = ap (λ c. c || b) p ∙ q

parts-none : (list : List Function) → functions_patched list ≡ false
    → (starts_patched list ≡ false) × (list_any node_patched (functions_order list) ≡ false)
parts-none [] is = (refl, refl)
parts-none (f ∷ list) is =
    let here : function_patched f ≡ false = left-false (function_patched f) (functions_patched list) is in
    let rest : (starts_patched list ≡ false) × (list_any node_patched (functions_order list) ≡ false) =
    parts-none list (right-false (function_patched f) (functions_patched list) is) in
    let body : list_any node_patched (function_order f) ≡ false =
    sym (body-told f.body) ∙ right-false (has_some f.start) (patched_of f.body) here in (
      both-false (has_some f.start) (starts_patched list) (left-false (has_some f.start) (patched_of f.body) here) rest.0,
      list_any-append node_patched (function_order f) (functions_order list)
          ∙ both-false (list_any node_patched (function_order f)) (list_any node_patched (functions_order list)) body rest.1,
    )

none-parts : (list : List Function) → starts_patched list ≡ false → list_any node_patched (functions_order list) ≡ false
    → functions_patched list ≡ false
none-parts [] starts nodes = refl
none-parts (f ∷ list) starts nodes =
    let split : (list_any node_patched (function_order f) || list_any node_patched (functions_order list)) ≡ false =
    sym (list_any-append node_patched (function_order f) (functions_order list)) ∙ nodes in
    let body : patched_of f.body ≡ false =
    body-told f.body ∙ left-false (list_any node_patched (function_order f)) (list_any node_patched (functions_order list)) split in
    both-false (function_patched f) (functions_patched list)
    (both-false (has_some f.start) (patched_of f.body) (left-false (has_some f.start) (starts_patched list) starts) body)
    (none-parts list (right-false (has_some f.start) (starts_patched list) starts)
    (right-false (list_any node_patched (function_order f)) (list_any node_patched (functions_order list)) split))

-- ---- a list in which none is, place by place

abbrev passes : {A : Type 0} → (A → Bool) → Option A → Bool
passes p None = false
passes p (Some x) = p x

none-at : {A : Type 0} (p : A → Bool) (list : List A) (n : ℕ) → list_any p list ≡ false → passes p (slice_get list n) ≡ false
none-at p [] n none = refl
none-at p (x ∷ list) zero none = left-false (p x) (list_any p list) none
none-at p (x ∷ list) (suc n) none = none-at p list n (right-false (p x) (list_any p list) none)

at-none : {A : Type 0} (p : A → Bool) (list : List A) → ((n : ℕ) → passes p (slice_get list n) ≡ false) → list_any p list ≡ false
at-none p [] each = refl
at-none p (x ∷ list) each = both-false (p x) (list_any p list) (each 0) (at-none p list (λ n. each (suc n)))

empty : {A : Type 0} (list : List A) → has_some list ≡ false → list ≡ []
empty [] is = refl
empty (x ∷ list) is = absurd (true≢false is)

-- no operation stands at a place, where there is one
abbrev Unused : Option (List Op) → Type 0
Unused found = passes has_some found ≡ false

used-nowhere : (found : Option (List Op)) → ((list : List Op) → found ≡ Some list → list ≡ []) → Unused found
used-nowhere None each = refl
used-nowhere (Some list) each = ap has_some (each list refl)

nowhere-used : (found : Option (List Op)) → Unused found → (list : List Op) → found ≡ Some list → list ≡ []
nowhere-used found unused list is = empty list (sym (ap (passes has_some) is) ∙ unused)

-- ---- the places of a function and of a node

starts-used : (f : Option Function) → passes (λ f. has_some f.start) f ≡ passes has_some (start_ops f)
starts-used None = refl
starts-used (Some f) = refl

node-after : (n : Option Node) → passes node_patched n ≡ false → Unused (after_ops n)
node-after None is = refl
node-after (Some (act a list)) is = is
node-after (Some (cond c)) is = refl
node-after (Some (step s)) is = is
node-after (Some (jump j list)) is = is

node-true : (n : Option Node) → passes node_patched n ≡ false → Unused (true_ops n)
node-true None is = refl
node-true (Some (act a list)) is = refl
node-true (Some (cond c)) is = left-false (has_some c.on_true) (has_some c.on_false) is
node-true (Some (step s)) is = refl
node-true (Some (jump j list)) is = refl

node-false : (n : Option Node) → passes node_patched n ≡ false → Unused (false_ops n)
node-false None is = refl
node-false (Some (act a list)) is = refl
node-false (Some (cond c)) is = right-false (has_some c.on_true) (has_some c.on_false) is
node-false (Some (step s)) is = refl
node-false (Some (jump j list)) is = refl

node-none : (n : Option Node) → Unused (after_ops n) → Unused (true_ops n) → Unused (false_ops n) → passes node_patched n ≡ false
node-none None after on_true on_false = refl
node-none (Some (act a list)) after on_true on_false = after
node-none (Some (cond c)) after on_true on_false = both-false (has_some c.on_true) (has_some c.on_false) on_true on_false
node-none (Some (step s)) after on_true on_false = after
node-none (Some (jump j list)) after on_true on_false = after

-- ---- the two ways of the law

place-unused : (t : Tree) → starts_patched t.functions ≡ false → list_any node_patched (tree_order t) ≡ false
    → (place : Place) → Unused (ops t place)
place-unused t starts nodes (at.Start f) =
    sym (starts-used (slice_get t.functions f.number)) ∙ none-at (λ f. has_some f.start) t.functions f.number starts
place-unused t starts nodes (at.After n) = node-after (node_at t n.number) (none-at node_patched (tree_order t) n.number nodes)
place-unused t starts nodes (at.True n) = node-true (node_at t n.number) (none-at node_patched (tree_order t) n.number nodes)
place-unused t starts nodes (at.False n) = node-false (node_at t n.number) (none-at node_patched (tree_order t) n.number nodes)

pub bare-of : (t : Tree) → tree_patched t ≡ false → IsBare t
bare-of t is =
    let parts : (starts_patched t.functions ≡ false) × (list_any node_patched (tree_order t) ≡ false) =
    parts-none t.functions (right-false (has_some t.starts) (functions_patched t.functions) is) in
    record {
      starts = empty t.starts (left-false (has_some t.starts) (functions_patched t.functions) is);
      places = λ place. nowhere-used (ops t place) (place-unused t parts.0 parts.1 place);
    }

pub unpatched-of : (t : Tree) → IsBare t → tree_patched t ≡ false
unpatched-of t bare =
    let unused : (place : Place) → Unused (ops t place) = λ place. used-nowhere (ops t place) (bare.places place) in
    both-false (has_some t.starts) (functions_patched t.functions) (ap has_some bare.starts)
    (none-parts t.functions
    (at-none (λ f. has_some f.start) t.functions
    (λ n. starts-used (slice_get t.functions n) ∙ unused (at.Start (record { number = n }))))
    (at-none node_patched (tree_order t)
    (λ n. node-none (node_at t n) (unused (at.After (record { number = n }))) (unused (at.True (record { number = n })))
    (unused (at.False (record { number = n }))))))
