-- The greatest number of a list, and the marks of a valid program.
use Rattle.std.proofs.Common.{◌≡◌, ℕ, ◌≤◌, max, Bool, true, nat_le, List, [], ◌∷◌, ◌++◌, ap, sym, ◌∙◌, arith}
use Rattle.std.specs.List.{list_all}
use Rattle.std.proofs.Math.Nat.{max-zero, zero-max}
use Rattle.std.proofs.lemmas.Bool.{and_parts, leb-true}
use Rattle.cfix_base.specs.declared.number.OrderId.{OrderId}
use Rattle.cfix_base.specs.declared.op.Op.{Op}
use Rattle.cfix_base.specs.declared.op.Op.TheVariants.{Leave, First, Done, Wait, Enter, Add}
use Rattle.c_prog.specs.declared.tree.Tree.{Tree}
use Rattle.c_prog.specs.Marks.{above_lock, above_order, above_start, greatest, tree_all}
use Rattle.c_prog.specs.Valid.{IsValid}
use Rattle.c_prog.specs.Valid.Operations.{op_number, are_rising}
use Rattle.c_marks.proofs.AllOps.{functions-valid}

pub max-groups : (a b c : ℕ) → max (max a b) c ≡ max a (max b c)
max-groups a b c = omega arith

pub greatest-append : {A : Type 0} (f : A → ℕ) (xs ys : List A) → greatest f (xs ++ ys) ≡ max (greatest f xs) (greatest f ys)
greatest-append f [] ys = sym (zero-max (greatest f ys))
greatest-append f (x ∷ xs) ys =
    ap (λ n. max (f x) n) (greatest-append f xs ys) ∙ sym (max-groups (f x) (greatest f xs) (greatest f ys))

pub ruleset greatest_steps = (greatest-append, max-groups, max-zero, zero-max)

bounded : {A : Type 0} (f : A → ℕ) (p : A → Bool) (top : ℕ) → ((x : A) → p x ≡ true → f x ≤ top)
    → (list : List A) → list_all p list ≡ true → greatest f list ≤ top
bounded f p top each [] h = omega arith
bounded f p top each (x ∷ list) h =
    let here : f x ≤ top = each x (and_parts (p x) (list_all p list) h).0 in
    let more : greatest f list ≤ top = bounded f p top each list (and_parts (p x) (list_all p list) h).1 in
    omega (arith, here, more)

small-lock : (op : Op) → nat_le (op_number op) 2147483647 ≡ true → above_lock op ≤ 2147483648
small-lock (Leave k) h = let q : k.number ≤ 2147483647 = leb-true k.number 2147483647 h in omega (arith, q)
small-lock (Enter k) h = let q : k.number ≤ 2147483647 = leb-true k.number 2147483647 h in omega (arith, q)
small-lock (First j) h = omega arith
small-lock (Done j) h = omega arith
small-lock (Wait j) h = omega arith
small-lock (Add j) h = omega arith

small-order : (op : Op) → nat_le (op_number op) 2147483647 ≡ true → above_order op ≤ 2147483648
small-order (Leave k) h = omega arith
small-order (Enter k) h = omega arith
small-order (First j) h = let q : j.number ≤ 2147483647 = leb-true j.number 2147483647 h in omega (arith, q)
small-order (Done j) h = let q : j.number ≤ 2147483647 = leb-true j.number 2147483647 h in omega (arith, q)
small-order (Wait j) h = let q : j.number ≤ 2147483647 = leb-true j.number 2147483647 h in omega (arith, q)
small-order (Add j) h = let q : j.number ≤ 2147483647 = leb-true j.number 2147483647 h in omega (arith, q)

small-start : (j : OrderId) → nat_le j.number 2147483647 ≡ true → above_start j ≤ 2147483648
small-start j h = let q : j.number ≤ 2147483647 = leb-true j.number 2147483647 h in omega (arith, q)

-- the numbers above those of a valid program are small
pub small-locks : (t : Tree) → IsValid t → greatest above_lock (tree_all t) ≤ 2147483648
small-locks t valid =
    bounded above_lock (λ op. nat_le (op_number op) 2147483647) 2147483648 small-lock (tree_all t)
    (sym (functions-valid t.functions) ∙ valid.operations)

pub small-orders : (t : Tree) → IsValid t → greatest above_order (tree_all t) ≤ 2147483648
small-orders t valid =
    bounded above_order (λ op. nat_le (op_number op) 2147483647) 2147483648 small-order (tree_all t)
    (sym (functions-valid t.functions) ∙ valid.operations)

pub small-starts : (t : Tree) → IsValid t → greatest above_start t.starts ≤ 2147483648
small-starts t valid =
    bounded above_start (λ order. nat_le order.number 2147483647) 2147483648 small-start t.starts
    (and_parts (are_rising t.starts) (list_all (λ order. nat_le order.number 2147483647) t.starts) valid.starts).1
