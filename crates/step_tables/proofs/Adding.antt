-- How parts that were added one after another join.
use Rattle.std.proofs.Common.{◌≡◌, ℕ, ◌+◌, ◌<◌, Bool, true, false, List, [], ◌∷◌, ◌++◌, map, length, slice_set, refl, ap, sym, not, ◌∙◌, append_assoc, arith}
use Rattle.std.proofs.lemmas.Grind.{common_steps}
use Rattle.std.proofs.lemmas.List.{length-append, length-map, length-set, append-nil}
use Rattle.cfix_base.specs.declared.number.VarId.{VarId}
use Rattle.c_prog.specs.declared.access_item.Touch.{Touch}
use Rattle.c_prog.specs.declared.expr.BinOp.{BinOp}
use Rattle.c_prog.specs.declared.expr.Expr.{Expr}
use Rattle.c_prog.specs.declared.expr.Expr.TheVariants as expr
use Rattle.c_prog.specs.Accesses.{expr_accesses, marked, stops_early, unsure}
use Rattle.c_prog.proofs.Equations.{accesses-Binary}
use Rattle.step_state.specs.declared.item.Item.{Item}
use Rattle.step_state.specs.declared.item.Item.TheVariants.{Reduce}
use Rattle.step_state.specs.declared.item.Operand.{Operand}
use Rattle.step_state.specs.declared.item.Reduction.{Reduction}
use Rattle.step_state.specs.declared.item.Reduction.TheVariants as reduction
use Rattle.step_state.specs.declared.item.Binary.{Binary}
use Rattle.step_state.specs.Code.{node}
use Rattle.step_state.specs.Parts.{At, Part, past, nothing, one, both, operated, early, behind, binary_part, expr_part}
use Rattle.step_state.proofs.PartEquations.{part-Binary}
use Rattle.step_tables.specs.declared.sheet.Sheet.{Sheet}
use Rattle.step_tables.specs.declared.uses.Early.{Early}
use Rattle.step_tables.specs.Uses.{decision}
use Rattle.step_tables.specs.Adds.{at, variables, Adds}

variables-append : (xs ys : List Touch) → variables (xs ++ ys) ≡ variables xs ++ variables ys
variables-append xs ys = grind (arith, common_steps)

variables-unsure : (xs : List Touch) → variables (map unsure xs) ≡ variables xs
variables-unsure [] = refl
variables-unsure (x ∷ xs) = ap (λ vs. x.var ∷ vs) (variables-unsure xs)

variables-marked : (b : Bool) (xs : List Touch) → variables (marked b xs) ≡ variables xs
variables-marked true xs = refl
variables-marked false xs = variables-unsure xs

-- the same part, with the same variables of accesses
pub adds_as : (p q : Part) (xs ys : List Touch) (items : List Item) (sheet : Sheet) (new : List Item) (next : Sheet)
    → p ≡ q → variables xs ≡ variables ys → Adds p xs items sheet new next → Adds q ys items sheet new next
adds_as p q xs ys items sheet new next same marks added = record {
  items = added.items ∙ ap (λ r. items ++ r.items (at sheet)) same;
  operands = added.operands ∙ ap (λ r. sheet.operands ++ r.operands (at sheet)) same;
  variables = added.variables ∙ ap (λ vs. sheet.variables ++ vs) marks;
  place = added.place ∙ ap (λ r. past r (at sheet)) same;
}

past_both : (a b : Part) (place : At) → past b (past a place) ≡ past (both a b) place
past_both a b place =
    let touch : place.touch + a.touches + b.touches ≡ place.touch + (a.touches + b.touches) = omega arith in
    let operator : place.operator + a.operators + b.operators ≡ place.operator + (a.operators + b.operators) = omega arith in
    let with : ℕ → ℕ → At = λ t o. record { node = place.node; touch = t; operator = o } in
    ap (λ t. with t (place.operator + a.operators + b.operators)) touch
    ∙ ap (λ o. with (place.touch + (a.touches + b.touches)) o) operator

pub adds_both : (a b : Part) (xs ys : List Touch) (items : List Item) (sheet : Sheet) (middle : List Item) (mid : Sheet) (new : List Item) (next : Sheet)
    → Adds a xs items sheet middle mid → Adds b ys middle mid new next → Adds (both a b) (xs ++ ys) items sheet new next
adds_both a b xs ys items sheet middle mid new next first second = record {
  items = second.items ∙ ap (λ is. is ++ b.items (at mid)) first.items
      ∙ ap (λ p. items ++ a.items (at sheet) ++ b.items p) first.place
      ∙ append_assoc items (a.items (at sheet)) (b.items (past a (at sheet)));
  operands = second.operands ∙ ap (λ os. os ++ b.operands (at mid)) first.operands
      ∙ ap (λ p. sheet.operands ++ a.operands (at sheet) ++ b.operands p) first.place
      ∙ append_assoc sheet.operands (a.operands (at sheet)) (b.operands (past a (at sheet)));
  variables = second.variables ∙ ap (λ vs. vs ++ variables ys) first.variables
      ∙ append_assoc sheet.variables (variables xs) (variables ys) ∙ ap (λ vs. sheet.variables ++ vs) (sym (variables-append xs ys));
  place = second.place ∙ ap (past b) first.place ∙ past_both a b (at sheet);
}

past_nothing : (place : At) → place ≡ past nothing place
past_nothing place =
    let touch : place.touch ≡ place.touch + 0 = omega arith in
    let operator : place.operator ≡ place.operator + 0 = omega arith in
    let with : ℕ → ℕ → At = λ t o. record { node = place.node; touch = t; operator = o } in
    ap (λ t. with t place.operator) touch ∙ ap (λ o. with (place.touch + 0) o) operator

pub adds_one : (item : Item) (items : List Item) (sheet : Sheet) (new : List Item) → new ≡ items ++ item ∷ [] → Adds (one item) [] items sheet new sheet
adds_one item items sheet new is = record {
  items = is;
  operands = sym (append-nil sheet.operands);
  variables = sym (append-nil sheet.variables);
  place = past_nothing (at sheet);
}

-- two items that are no accesses
pub adds_two : (first second : Item) (items : List Item) (sheet : Sheet) (new : List Item)
    → new ≡ items ++ (first ∷ second ∷ []) → Adds (both (one first) (one second)) [] items sheet new sheet
adds_two first second items sheet new is = record {
  items = is;
  operands = sym (append-nil sheet.operands);
  variables = sym (append-nil sheet.variables);
  place = past_nothing (at sheet);
}

-- the accesses of both operands
operand_variables : (e l r : Expr) (op : BinOp) → e ≡ expr.Binary op l r
    → variables (expr_accesses l ++ expr_accesses r) ≡ variables (expr_accesses e)
operand_variables e l r op is =
    variables-append (expr_accesses l) (expr_accesses r)
    ∙ ap (λ vs. variables (expr_accesses l) ++ vs) (sym (variables-marked (not (stops_early op)) (expr_accesses r)))
    ∙ sym (variables-append (expr_accesses l) (marked (not (stops_early op)) (expr_accesses r)))
    ∙ ap variables (sym (accesses-Binary op l r) ∙ ap expr_accesses (sym is))

-- an operator both of whose operands are always evaluated
pub added_strict : (e l r : Expr) (op : BinOp) (operator : Binary) (old : List Item) (sheet : Sheet) (m : List Item) (t : Sheet) (n : List Item) (u : Sheet) (new : List Item)
    → e ≡ expr.Binary op l r → ((a b : Part) → binary_part op a b ≡ operated operator a b)
    → Adds (expr_part l) (expr_accesses l) old sheet m t → Adds (expr_part r) (expr_accesses r) m t n u
    → new ≡ n ++ Reduce (reduction.Bin operator) ∷ [] → Adds (expr_part e) (expr_accesses e) old sheet new u
added_strict e l r op operator old sheet m t n u new is acts left right pushed =
    adds_as (operated operator (expr_part l) (expr_part r)) (expr_part e) (expr_accesses l ++ (expr_accesses r ++ [])) (expr_accesses e) old sheet new u
    (sym (ap expr_part is ∙ part-Binary op l r ∙ acts (expr_part l) (expr_part r)))
    (ap (λ xs. variables (expr_accesses l ++ xs)) (append-nil (expr_accesses r)) ∙ operand_variables e l r op is)
    (adds_both (expr_part l) (both (expr_part r) (one (Reduce (reduction.Bin operator)))) (expr_accesses l) (expr_accesses r ++ []) old sheet m t new u left
    (adds_both (expr_part r) (one (Reduce (reduction.Bin operator))) (expr_accesses r) [] m t n u new u right
    (adds_one (Reduce (reduction.Bin operator)) n u new pushed)))

set_between : {A : Type 0} (xs ys : List A) (x y : A) → slice_set (xs ++ x ∷ [] ++ ys) (length xs) y ≡ xs ++ (y ∷ ys)
set_between [] ys x y = refl
set_between (z ∷ xs) ys x y = ap (λ zs. z ∷ zs) (set_between xs ys x y)

-- where a right operand stands, once a place is kept for its items
behind_at : (a : Part) (place : At) (t : Sheet) → at t ≡ past a place
    → at (record t { operands = t.operands ++ [] ∷ [] }) ≡ behind a place
behind_at a place t is =
    let more : length (t.operands ++ [] ∷ []) ≡ length t.operands + 1 = omega (arith, length-append t.operands ([] ∷ [])) in
    let with : ℕ → At = λ n. record { node = t.node.number; touch = length t.variables; operator = n } in
    let after : At → At = λ p. record { node = p.node; touch = p.touch; operator = p.operator + 1 } in
    ap with more ∙ ap after is

-- behind a right operand
behind_both : (decide : Operand → Reduction) (a b : Part) (place : At) → past b (behind a place) ≡ past (early decide a b) place
behind_both decide a b place =
    let touch : place.touch + a.touches + b.touches ≡ place.touch + (a.touches + b.touches) = omega arith in
    let operator : place.operator + a.operators + 1 + b.operators ≡ place.operator + (a.operators + 1 + b.operators) = omega arith in
    let with : ℕ → ℕ → At = λ t o. record { node = place.node; touch = t; operator = o } in
    ap (λ t. with t (place.operator + a.operators + 1 + b.operators)) touch
    ∙ ap (λ o. with (place.touch + (a.touches + b.touches)) o) operator

-- an operator whose right operand is evaluated only at some values of the left one: the items of that operand stand apart
pub adds_early : (decide : Operand → Reduction) (a b : Part) (xs ys : List Touch) (old : List Item) (sheet : Sheet) (m : List Item) (t : Sheet)
    (new : List Item) (u : Sheet) (inner : List Item) (v w : Sheet)
    → Adds a xs old sheet m t → new ≡ m ++ Reduce (decide (record { node = t.node; number = length t.operands })) ∷ []
    → u ≡ record t { operands = t.operands ++ [] ∷ [] } → Adds b ys [] u inner v
    → w ≡ record v { operands = slice_set v.operands (length t.operands) inner }
    → Adds (early decide a b) (xs ++ ys) old sheet new w
adds_early decide a b xs ys old sheet m t new u inner v w first decided begins second ends =
    let place = at sheet in
    let decision : Item = Reduce (decide (record { node = node place.node; number = place.operator + a.operators })) in
    let with : ℕ → At = λ n. record { node = v.node.number; touch = length v.variables; operator = n } in
    let here : at u ≡ behind a place = ap at begins ∙ behind_at a place t first.place in
    let kept : v.operands ≡ t.operands ++ [] ∷ [] ++ b.operands (at u) = second.operands ∙ ap (λ s. s.operands ++ b.operands (at u)) begins in
    record {
      items = decided ∙ ap (λ p. m ++ Reduce (decide (record { node = node p.node; number = p.operator })) ∷ []) first.place
          ∙ ap (λ is. is ++ decision ∷ []) first.items ∙ append_assoc old (a.items place) (decision ∷ []);
      operands = ap (λ s. s.operands) ends ∙ ap (λ os. slice_set os (length t.operands) inner) kept
          ∙ set_between t.operands (b.operands (at u)) [] inner
          ∙ ap (λ is. t.operands ++ is ∷ b.operands (at u)) second.items
          ∙ ap (λ p. t.operands ++ b.items p ∷ b.operands p) here
          ∙ ap (λ os. os ++ b.items (behind a place) ∷ b.operands (behind a place)) first.operands
          ∙ append_assoc sheet.operands (a.operands place) (b.items (behind a place) ∷ b.operands (behind a place));
      variables = ap (λ s. s.variables) ends ∙ second.variables ∙ ap (λ s. s.variables ++ variables ys) begins
          ∙ ap (λ vs. vs ++ variables ys) first.variables
          ∙ append_assoc sheet.variables (variables xs) (variables ys) ∙ ap (λ vs. sheet.variables ++ vs) (sym (variables-append xs ys));
      place = ap at ends ∙ ap with (length-set v.operands (length t.operands) inner)
          ∙ second.place ∙ ap (past b) here ∙ behind_both decide a b place;
    }

-- the same in an expression
pub added_early : (e l r : Expr) (op : BinOp) (operator : Early) (old : List Item) (sheet : Sheet) (m : List Item) (t : Sheet)
    (new : List Item) (u : Sheet) (inner : List Item) (v w : Sheet)
    → e ≡ expr.Binary op l r → ((a b : Part) → binary_part op a b ≡ early (decision operator) a b)
    → Adds (expr_part l) (expr_accesses l) old sheet m t → new ≡ m ++ Reduce (decision operator (record { node = t.node; number = length t.operands })) ∷ []
    → u ≡ record t { operands = t.operands ++ [] ∷ [] } → Adds (expr_part r) (expr_accesses r) [] u inner v
    → w ≡ record v { operands = slice_set v.operands (length t.operands) inner }
    → Adds (expr_part e) (expr_accesses e) old sheet new w
added_early e l r op operator old sheet m t new u inner v w is acts left decided begins right ends =
    adds_as (early (decision operator) (expr_part l) (expr_part r)) (expr_part e) (expr_accesses l ++ expr_accesses r) (expr_accesses e) old sheet new w
    (sym (ap expr_part is ∙ part-Binary op l r ∙ acts (expr_part l) (expr_part r)))
    (operand_variables e l r op is)
    (adds_early (decision operator) (expr_part l) (expr_part r) (expr_accesses l) (expr_accesses r) old sheet m t new u inner v w left decided begins right ends)

-- what is left has few accesses where the whole has few
pub room_left : (a b : List VarId) (all left xs ys : List Touch) (limit : ℕ) → a ++ variables left ≡ b ++ variables all → left ≡ xs ++ ys
    → length b + length all < limit → length a + length xs < limit
room_left a b all left xs ys limit same splits room =
    omega (
      arith,
      ap length same,
      length-append a (variables left),
      length-append b (variables all),
      length-map left (λ touch. touch.var),
      length-map all (λ touch. touch.var),
      ap length splits,
      length-append xs ys,
    )
