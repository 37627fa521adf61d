-- The operations of a program: the rules on their numbers speak of all of them, and stripping leaves the old ones.
use Rattle.std.proofs.Common.{◌≡◌, ℕ, ◌<◌, Bool, true, false, ◌&&◌, nat_le, nat_lt, List, [], ◌∷◌, ◌++◌, map, Option, Some, None, refl, ap, sym, ◌∙◌, arith}
use Rattle.std.specs.Cmp.Derive.{both_true}
use Rattle.std.specs.List.{list_all}
use Rattle.std.proofs.lemmas.Bool.{and_parts, ltb-true, lt-ltb}
use Rattle.std.proofs.lemmas.List.Folds.{list_all-append}
use Rattle.cfix_base.specs.declared.mark.Marks.{Marks}
use Rattle.cfix_base.specs.declared.number.OrderId.{OrderId}
use Rattle.cfix_base.specs.declared.op.Op.{Op}
use Rattle.c_prog.specs.declared.function.Function.{Function}
use Rattle.c_prog.specs.declared.stmt.Cond.{Cond}
use Rattle.c_prog.specs.declared.stmt.Step.{Step}
use Rattle.c_prog.specs.declared.stmt.Stmt.{Stmt}
use Rattle.c_prog.specs.declared.stmt.Stmt.TheOpen.{Stmt-F}
use Rattle.c_prog.specs.declared.stmt.Stmt.TheFolds.{map-Stmt}
use Rattle.c_prog.specs.Marks.{is_new, is_new_start, keep_old, old_of, old_ops, cond_ops, step_ops, all_level, all_ops, all_of, function_all, functions_all}
use Rattle.c_prog.specs.Order.{joined}
use Rattle.c_prog.specs.Strip.{strip_all, strip_cond, strip_step, strip_function, strip_functions}
use Rattle.c_prog.specs.Valid.{has_valid_function_ops}
use Rattle.c_prog.specs.Valid.Operations.{op_number, are_valid_ops, has_valid_cond, has_valid_step, all_true, ops_level, have_valid_ops, rise_after, are_rising, are_valid_starts}
use Rattle.c_marks.proofs.Fuses.{all-fused}
use Rattle.c_marks.proofs.StripFolds.{strip-folds}

left : (a b : Bool) → (a && b) ≡ true → a ≡ true
left a b h = (and_parts a b h).0

right : (a b : Bool) → (a && b) ≡ true → b ≡ true
right a b h = (and_parts a b h).1

and-groups : (a b c : Bool) → ((a && b) && c) ≡ (a && (b && c))
and-groups true b c = refl
and-groups false b c = refl

-- ---- the rules on numbers

valid-both : (xs ys : List Op) → are_valid_ops (xs ++ ys) ≡ (are_valid_ops xs && are_valid_ops ys)
valid-both xs ys = list_all-append (λ op. nat_le (op_number op) 2147483647) xs ys

valid-joined : (x : List (List Op)) → all_true (map are_valid_ops x) ≡ are_valid_ops (joined x)
valid-joined [] = refl
valid-joined (ops ∷ x) = ap (λ b. are_valid_ops ops && b) (valid-joined x) ∙ sym (valid-both ops (joined x))

valid-cond : (c : Cond) → has_valid_cond c ≡ are_valid_ops (cond_ops c)
valid-cond c = sym (valid-both c.on_true c.on_false)

valid-step : (s : Option Step) → has_valid_step s ≡ are_valid_ops (step_ops s)
valid-step None = refl
valid-step (Some s) = refl

-- three groups of operations
valid-groups : (a b c : Bool) (x y z : List Op) → a ≡ are_valid_ops x → b ≡ are_valid_ops y → c ≡ are_valid_ops z
    → (a && b && c) ≡ are_valid_ops (x ++ (y ++ z))
valid-groups a b c x y z p q r =
    ap (λ d. d && b && c) p ∙ ap (λ d. are_valid_ops x && d && c) q ∙ ap (λ d. are_valid_ops x && are_valid_ops y && d) r
    ∙ and-groups (are_valid_ops x) (are_valid_ops y) (are_valid_ops z)
    ∙ ap (λ d. are_valid_ops x && d) (sym (valid-both y z)) ∙ sym (valid-both x (y ++ z))

level-valid : (y : Stmt-F (List Op)) → ops_level (map-Stmt (List Op) Bool are_valid_ops y) ≡ are_valid_ops (all_level y)
level-valid (Stmt-F.Simple a ops) = refl
level-valid (Stmt-F.Jump j ops) = refl
level-valid (Stmt-F.If c x y) =
    valid-groups (has_valid_cond c) (all_true (map are_valid_ops x)) (all_true (map are_valid_ops y)) (cond_ops c) (joined x) (joined y)
    (valid-cond c) (valid-joined x) (valid-joined y)
level-valid (Stmt-F.Loop c s x) =
    valid-groups (has_valid_cond c) (has_valid_step s) (all_true (map are_valid_ops x)) (cond_ops c) (step_ops s) (joined x)
    (valid-cond c) (valid-step s) (valid-joined x)
level-valid (Stmt-F.Block x) = valid-joined x

-- statements have valid operations where all their operations are valid
pub body-valid : (list : List Stmt) → have_valid_ops list ≡ are_valid_ops (all_of list)
body-valid list = ap all_true (all-fused all_level ops_level are_valid_ops level-valid list) ∙ valid-joined (map all_ops list)

function-valid : (f : Function) → has_valid_function_ops f ≡ are_valid_ops (function_all f)
function-valid f = ap (λ b. are_valid_ops f.start && b) (body-valid f.body) ∙ sym (valid-both f.start (all_of f.body))

pub functions-valid : (list : List Function) → list_all has_valid_function_ops list ≡ are_valid_ops (functions_all list)
functions-valid [] = refl
functions-valid (f ∷ list) =
    ap (λ b. b && list_all has_valid_function_ops list) (function-valid f)
    ∙ ap (λ b. are_valid_ops (function_all f) && b) (functions-valid list)
    ∙ sym (valid-both (function_all f) (functions_all list))

-- ---- the old ones

keep-before : {A : Type 0} (b : Bool) (x : A) (xs ys : List A) → keep_old b x (xs ++ ys) ≡ keep_old b x xs ++ ys
keep-before true x xs ys = refl
keep-before false x xs ys = refl

pub old-append : {A : Type 0} (new : A → Bool) (xs ys : List A) → old_of new (xs ++ ys) ≡ old_of new xs ++ old_of new ys
old-append new [] ys = refl
old-append new (x ∷ xs) ys = ap (λ rest. keep_old (new x) x rest) (old-append new xs ys) ∙ keep-before (new x) x (old_of new xs) (old_of new ys)

keep-valid : {A : Type 0} (p : A → Bool) (b : Bool) (x : A) (xs : List A) → p x ≡ true → list_all p xs ≡ true → list_all p (keep_old b x xs) ≡ true
keep-valid p true x xs one more = more
keep-valid p false x xs one more = both_true one more

-- what holds of all holds of the old ones
pub old-all : {A : Type 0} (p new : A → Bool) (list : List A) → list_all p list ≡ true → list_all p (old_of new list) ≡ true
old-all p new [] h = refl
old-all p new (x ∷ list) h =
    keep-valid p (new x) x (old_of new list) (left (p x) (list_all p list) h) (old-all p new list (right (p x) (list_all p list) h))

module _ (m : Marks) where
  old-joined : (x : List (List Op)) → joined (map (old_ops m) x) ≡ old_ops m (joined x)
  old-joined [] = refl
  old-joined (ops ∷ x) = ap (λ rest. old_ops m ops ++ rest) (old-joined x) ∙ sym (old-append (is_new m) ops (joined x))

  old-cond : (c : Cond) → cond_ops (strip_cond m c) ≡ old_ops m (cond_ops c)
  old-cond c = sym (old-append (is_new m) c.on_true c.on_false)

  old-step : (s : Option Step) → step_ops (strip_step m s) ≡ old_ops m (step_ops s)
  old-step None = refl
  old-step (Some s) = refl

  old-groups : (x y z x' y' z' : List Op) → x' ≡ old_ops m x → y' ≡ old_ops m y → z' ≡ old_ops m z
      → (x' ++ (y' ++ z')) ≡ old_ops m (x ++ (y ++ z))
  old-groups x y z x' y' z' p q r =
      ap (λ l. l ++ (y' ++ z')) p ∙ ap (λ l. old_ops m x ++ (l ++ z')) q ∙ ap (λ l. old_ops m x ++ (old_ops m y ++ l)) r
      ∙ ap (λ l. old_ops m x ++ l) (sym (old-append (is_new m) y z)) ∙ sym (old-append (is_new m) x (y ++ z))

  -- all operations of stripped statements are the old ones of the statements
  pub old-body : (list : List Stmt) → all_of (strip_all m list) ≡ old_ops m (all_of list)
  old-body list =
      ap joined (strip-folds m all_level all_level (old_ops m) (record {
        simple = λ a ops. refl;
        jump = λ j ops. refl;
        branch = λ c x y.
            old-groups (cond_ops c) (joined x) (joined y) (cond_ops (strip_cond m c)) (joined (map (old_ops m) x)) (joined (map (old_ops m) y))
            (old-cond c) (old-joined x) (old-joined y);
        loop = λ c s x.
            old-groups (cond_ops c) (step_ops s) (joined x) (cond_ops (strip_cond m c)) (step_ops (strip_step m s)) (joined (map (old_ops m) x))
            (old-cond c) (old-step s) (old-joined x);
        block = old-joined;
      }) list) ∙ old-joined (map all_ops list)

  old-function : (f : Function) → function_all (strip_function m f) ≡ old_ops m (function_all f)
  old-function f = ap (λ l. old_ops m f.start ++ l) (old-body f.body) ∙ sym (old-append (is_new m) f.start (all_of f.body))

  -- and so with functions
  pub old-functions : (list : List Function) → functions_all (strip_functions m list) ≡ old_ops m (functions_all list)
  old-functions [] = refl
  old-functions (f ∷ list) =
      ap (λ l. l ++ functions_all (strip_functions m list)) (old-function f)
      ∙ ap (λ l. old_ops m (function_all f) ++ l) (old-functions list)
      ∙ sym (old-append (is_new m) (function_all f) (functions_all list))

  -- valid operations stay valid
  pub strip-operations : (list : List Function) → list_all has_valid_function_ops list ≡ true
      → list_all has_valid_function_ops (strip_functions m list) ≡ true
  strip-operations list h =
      functions-valid (strip_functions m list) ∙ ap are_valid_ops (old-functions list)
      ∙ old-all (λ op. nat_le (op_number op) 2147483647) (is_new m) (functions_all list) (sym (functions-valid list) ∙ h)

-- ---- the old starts

lower : (a b : ℕ) (list : List OrderId) → (nat_lt a b && rise_after b list) ≡ true → rise_after a list ≡ true
lower a b [] h = refl
lower a b (j ∷ list) h =
    let first : a < b = ltb-true a b (left (nat_lt a b) (rise_after b (j ∷ list)) h) in
    let rest : rise_after b (j ∷ list) ≡ true = right (nat_lt a b) (rise_after b (j ∷ list)) h in
    let second : b < j.number = ltb-true b j.number (left (nat_lt b j.number) (rise_after j.number list) rest) in
    both_true (lt-ltb a j.number (omega (arith, first, second))) (right (nat_lt b j.number) (rise_after j.number list) rest)

keep-rising : (a : ℕ) (b : Bool) (j : OrderId) (list : List OrderId) → nat_lt a j.number ≡ true → rise_after j.number list ≡ true
    → rise_after a (keep_old b j list) ≡ true
keep-rising a true j list first rest = lower a j.number list (both_true first rest)
keep-rising a false j list first rest = both_true first rest

old-rise : (new : OrderId → Bool) (a : ℕ) (list : List OrderId) → rise_after a list ≡ true → rise_after a (old_of new list) ≡ true
old-rise new a [] h = refl
old-rise new a (j ∷ list) h =
    keep-rising a (new j) j (old_of new list) (left (nat_lt a j.number) (rise_after j.number list) h)
    (old-rise new j.number list (right (nat_lt a j.number) (rise_after j.number list) h))

rising-after : (a : ℕ) (list : List OrderId) → rise_after a list ≡ true → are_rising list ≡ true
rising-after a [] h = refl
rising-after a (j ∷ list) h = right (nat_lt a j.number) (rise_after j.number list) h

keep-first : (b : Bool) (j : OrderId) (list : List OrderId) → rise_after j.number list ≡ true → are_rising (keep_old b j list) ≡ true
keep-first true j list h = rising-after j.number list h
keep-first false j list h = h

old-rising : (new : OrderId → Bool) (list : List OrderId) → are_rising list ≡ true → are_rising (old_of new list) ≡ true
old-rising new [] h = refl
old-rising new (j ∷ list) h = keep-first (new j) j (old_of new list) (old-rise new j.number list h)

pub strip-starts : (m : Marks) (list : List OrderId) → are_valid_starts list ≡ true → are_valid_starts (old_of (is_new_start m) list) ≡ true
strip-starts m list h =
    both_true (old-rising (is_new_start m) list (left (are_rising list) (list_all (λ order. nat_le order.number 2147483647) list) h))
    (old-all (λ order. nat_le order.number 2147483647) (is_new_start m) list (right (are_rising list) (list_all (λ order. nat_le order.number 2147483647) list) h))
