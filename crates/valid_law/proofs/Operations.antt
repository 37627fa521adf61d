-- The numbers of the operations that a file without faults spells are small.
use Rattle.std.proofs.Common.{◌≡◌, ℕ, nat_le, nat_lt, true, false, ◌&&◌, List, [], ◌∷◌, ◌++◌, Option, Some, None, unsigned_abs, refl, ap, ◌∙◌, arith}
use Rattle.std.specs.List.{list_all}
use Rattle.std.proofs.lemmas.Bool.Decides.{nat_tests}
use Rattle.std.proofs.lemmas.Bool.{and_parts, and_from}
use Rattle.cfix_base.specs.declared.Spot.{Spot}
use Rattle.cfix_base.specs.declared.op.Op as o
use Rattle.c_grammar.specs.Marks.{each}
use Rattle.c_grammar.specs.Op as g
use Rattle.c_grammar.specs.Cond as c
use Rattle.c_grammar.specs.Stmt as t
use Rattle.c_grammar.specs.File as f
use Rattle.c_prog.specs.declared.act.Act.{Act}
use Rattle.c_prog.specs.declared.stmt.Stmt.{Stmt}
use Rattle.c_prog.specs.declared.stmt.Stmt.TheVariants as stmt
use Rattle.c_prog.specs.Valid.{has_valid_function_ops}
use Rattle.c_prog.specs.Valid.Operations.{op_number, are_valid_ops, has_valid_cond, has_valid_step, has_valid_ops, have_valid_ops}
use Rattle.c_prog.specs.Valid.Scope.{Scope, entered, passed}
use Rattle.c_prog.specs.Valid.Statements.{Around, looped}
use Rattle.c_prog.proofs.ValidEquations.{ops-Simple, ops-Jump, ops-If, ops-Loop, ops-Block}
use Rattle.c_names.specs.declared.fault.Fault.{Fault}
use Rattle.c_names.specs.declared.fault.FaultKind.TheVariants.{Limit}
use Rattle.c_names.specs.Expressions.{expr_faults, value_faults}
use Rattle.c_names.specs.Files.{body_around, body_scope, body_of, top_faults}
use Rattle.c_names.specs.Returns.{bare_faults, returned_faults, jump_faults}
use Rattle.c_names.specs.Scopes.{listed, in_for, stmt_locals, item_after}
use Rattle.c_names.specs.Simples.{op_faults, ops_faults, more_ops_faults, plain_faults, simple_faults}
use Rattle.c_names.specs.Sources.{top_functions_of}
use Rattle.c_names.specs.SpelledExpressions.{plain_of, simple_of}
use Rattle.c_names.specs.SpelledStatements.{operation, op_of, ops_of, more_ops_of, decl_of, loop_ints_of, with_ops, guard_of, cond_of, test_of, step_of, bare_of, return_of, jump_of, first_of, for_of, as_item, stmt_of, else_of, items_of, item_of}
use Rattle.c_names.specs.Statements.{decl_faults, first_faults, guard_faults, cond_faults, test_faults, step_faults, stmt_faults, else_faults, items_faults, item_faults}
use Rattle.c_names.specs.Uses.{Names}
use Rattle.valid_law.proofs.Faultless.{none-left, none-right, no_fault, all-each}
use Rattle.valid_law.proofs.FaultlessParts.{FunctionFaultless, function_parts}

-- ---- operations

number-is : (verb : g.Verb) (n : ℕ) → op_number (operation verb n) ≡ n
number-is g.Enter n = refl
number-is g.Leave n = refl
number-is g.Wait n = refl
number-is g.Done n = refl
number-is g.First n = refl
number-is g.Add n = refl

small : (n : ℕ) → nat_lt 999 n ≡ false → nat_le n 2147483647 ≡ true
small n is = grind (arith, nat_tests)

op-valid : (op : g.Op) → op_faults op ≡ [] → nat_le (op_number (op_of op)) 2147483647 ≡ true
op-valid (g.OpOf verb at before n after) none =
    ap (λ k. nat_le k 2147483647) (number-is verb (unsigned_abs n.value))
    ∙ small (unsigned_abs n.value) (no_fault (nat_lt 999 (unsigned_abs n.value)) at Limit none)

ops-valid : (ops : g.Ops) → ops_faults ops ≡ [] → are_valid_ops (ops_of ops) ≡ true
ops-valid [] none = refl
ops-valid (x ∷ ops) none =
    and_from (nat_le (op_number (op_of x.0)) 2147483647) (are_valid_ops (ops_of ops))
    (op-valid x.0 (none-left (op_faults x.0) (ops_faults ops) none))
    (ops-valid ops (none-right (op_faults x.0) (ops_faults ops) none))

more_ops-valid : (ops : List (Spot × g.Op)) → more_ops_faults ops ≡ [] → are_valid_ops (more_ops_of ops) ≡ true
more_ops-valid [] none = refl
more_ops-valid (x ∷ ops) none =
    and_from (nat_le (op_number (op_of x.1)) 2147483647) (are_valid_ops (more_ops_of ops))
    (op-valid x.1 (none-left (op_faults x.1) (more_ops_faults ops) none))
    (more_ops-valid ops (none-right (op_faults x.1) (more_ops_faults ops) none))

-- an operation and others behind it
some-valid : (op : g.Op) (ops : g.Ops) → op_faults op ≡ [] → ops_faults ops ≡ [] → are_valid_ops (op_of op ∷ ops_of ops) ≡ true
some-valid op ops none more = and_from (nat_le (op_number (op_of op)) 2147483647) (are_valid_ops (ops_of ops)) (op-valid op none) (ops-valid ops more)

guard-valid : (x : c.Guard) → guard_faults x ≡ [] → are_valid_ops (guard_of x) ≡ true
guard-valid (c.GuardOf op comma more at) none =
    some-valid op more (none-left (op_faults op) (ops_faults more) none) (none-right (op_faults op) (ops_faults more) none)

-- ---- parts of statements

module _ (names : Names) (scope : Scope) where
  cond-valid : (x : c.Cond) → cond_faults names scope x ≡ [] → has_valid_cond (cond_of names scope x) ≡ true
  cond-valid (c.Bare e) none = refl
  cond-valid (c.OnTrue (c.TrueGuardOf before e after also before2 guard after2)) none =
      and_from (are_valid_ops (guard_of guard)) true (guard-valid guard (none-right (expr_faults names scope e) (guard_faults guard) none)) refl
  cond-valid (c.OnFalse before e after or before2 guard after2) none =
      guard-valid guard (none-right (expr_faults names scope e) (guard_faults guard) none)
  cond-valid (c.OnBoth before (c.TrueGuardOf before1 e after1 also before2 guard1 after2) after or before3 guard after3) none =
      let first : expr_faults names scope e ++ guard_faults guard1 ≡ [] =
      none-left (expr_faults names scope e ++ guard_faults guard1) (guard_faults guard) none in
      and_from (are_valid_ops (guard_of guard1)) (are_valid_ops (guard_of guard))
      (guard-valid guard1 (none-right (expr_faults names scope e) (guard_faults guard1) first))
      (guard-valid guard (none-right (expr_faults names scope e ++ guard_faults guard1) (guard_faults guard) none))

  test-valid : (x : Option c.Cond) → test_faults names scope x ≡ [] → has_valid_cond (test_of names scope x) ≡ true
  test-valid None none = refl
  test-valid (Some x) none = cond-valid x none

  step-valid : (x : Option t.LoopStep) → step_faults names scope x ≡ [] → has_valid_step (step_of names scope x) ≡ true
  step-valid None none = refl
  step-valid (Some (t.LoopStepOf p ops)) none = more_ops-valid ops (none-right (plain_faults names scope p) (more_ops_faults ops) none)

-- simple statements with the operations behind the last
with_ops-valid : (acts : List Act) (ops : List o.Op) → are_valid_ops ops ≡ true → have_valid_ops (with_ops acts ops) ≡ true
with_ops-valid [] ops valid = refl
with_ops-valid (a ∷ []) ops valid = and_from (has_valid_ops (stmt.Simple a ops)) true (ops-Simple a ops ∙ valid) refl
with_ops-valid (a ∷ b ∷ more) ops valid =
    and_from (has_valid_ops (stmt.Simple a [])) (have_valid_ops (with_ops (b ∷ more) ops)) (ops-Simple a []) (with_ops-valid (b ∷ more) ops valid)

have-append : (xs ys : List Stmt) → have_valid_ops xs ≡ true → have_valid_ops ys ≡ true → have_valid_ops (xs ++ ys) ≡ true
have-append [] ys on_xs on_ys = on_ys
have-append (x ∷ xs) ys on_xs on_ys =
    and_from (has_valid_ops x) (have_valid_ops (xs ++ ys)) (and_parts (has_valid_ops x) (have_valid_ops xs) on_xs).0
    (have-append xs ys (and_parts (has_valid_ops x) (have_valid_ops xs) on_xs).1 on_ys)

one-valid : (x : Stmt) → has_valid_ops x ≡ true → have_valid_ops (x ∷ []) ≡ true
one-valid x valid = and_from (has_valid_ops x) true valid refl

-- the first part of a `for` has no operations
first-valid : (names : Names) (scope : Scope) (x : t.First) → have_valid_ops (first_of names scope x) ≡ true
first-valid names scope (t.FirstInts at x more) = with_ops-valid (loop_ints_of names scope (listed x more)) [] refl
first-valid names scope (t.FirstPlain p) = one-valid (stmt.Simple (plain_of names scope p) []) (ops-Simple (plain_of names scope p) [])

for-valid : (names : Names) (scope : Scope) (x : Option t.First) (loop : Stmt)
    → has_valid_ops loop ≡ true → has_valid_ops (for_of names scope x loop) ≡ true
for-valid names scope None loop valid = valid
for-valid names scope (Some x) loop valid =
    ops-Block (first_of names scope x ++ loop ∷ [])
    ∙ have-append (first_of names scope x) (loop ∷ []) (first-valid names scope x) (one-valid loop valid)

jump-valid : (names : Names) (around : Around) (scope : Scope) (x : t.Jump)
    → jump_faults names around scope x ≡ [] → has_valid_ops (jump_of names around scope x) ≡ true
jump-valid names around scope (t.BareJump b end) none = ops-Jump (bare_of b) []
jump-valid names around scope (t.ReturnValue at v end) none = ops-Jump (return_of names around scope v) []
jump-valid names around scope (t.BareBlock before op end ops b end2 after) none =
    let later : ops_faults ops ++ bare_faults around b ≡ [] = none-right (op_faults op) (ops_faults ops ++ bare_faults around b) none in
    ops-Jump (bare_of b) (op_of op ∷ ops_of ops)
    ∙ some-valid op ops (none-left (op_faults op) (ops_faults ops ++ bare_faults around b) none) (none-left (ops_faults ops) (bare_faults around b) later)
jump-valid names around scope (t.ValueBlock before int name set v end op end2 ops return name2 end3 after) none =
    let last : List Fault = ops_faults ops ++ returned_faults names around scope return v in
    let behind : op_faults op ++ last ≡ [] = none-right (value_faults names scope v) (op_faults op ++ last) none in
    ops-Jump (return_of names around scope v) (op_of op ∷ ops_of ops)
    ∙ some-valid op ops (none-left (op_faults op) last behind)
    (none-left (ops_faults ops) (returned_faults names around scope return v) (none-right (op_faults op) last behind))

-- a block that is an item is a statement
as_item-valid : (st : t.Stmt) (list : List Stmt) → have_valid_ops list ≡ true → have_valid_ops (as_item st list) ≡ true
as_item-valid (t.Block before items after) list valid = one-valid (stmt.Block list) (ops-Block list ∙ valid)
as_item-valid (t.Nothing end) list valid = valid
as_item-valid (t.Simply x end ops) list valid = valid
as_item-valid (t.Jumps j) list valid = valid
as_item-valid (t.If at before x after st e) list valid = valid
as_item-valid (t.While at before x after st) list valid = valid
as_item-valid (t.For at before first end x end2 step after st) list valid = valid

-- ---- statements

mutual
  stmt-valid : (names : Names) (around : Around) (scope : Scope) (st : t.Stmt)
      → stmt_faults names around scope st ≡ [] → have_valid_ops (stmt_of names around scope st) ≡ true
  stmt-valid names around scope (t.Block before items after) none = items-valid names around (entered scope) items none
  stmt-valid names around scope (t.Nothing end) none = refl
  stmt-valid names around scope (t.Simply x end ops) none =
      one-valid (stmt.Simple (simple_of names scope x) (ops_of ops))
      (ops-Simple (simple_of names scope x) (ops_of ops) ∙ ops-valid ops (none-right (simple_faults names scope x) (ops_faults ops) none))
  stmt-valid names around scope (t.Jumps j) none = one-valid (jump_of names around scope j) (jump-valid names around scope j none)
  stmt-valid names around scope (t.If at before x after st e) none =
      let on_true : List Stmt = stmt_of names around (entered scope) st in
      let on_false : List Stmt = else_of names around (passed (stmt_locals st) scope) e in
      let first : List Fault = stmt_faults names around (entered scope) st in
      let second : List Fault = else_faults names around (passed (stmt_locals st) scope) e in
      let later : first ++ second ≡ [] = none-right (cond_faults names scope x) (first ++ second) none in
      one-valid (stmt.If (cond_of names scope x) on_true on_false)
      (ops-If (cond_of names scope x) on_true on_false
      ∙ and_from (has_valid_cond (cond_of names scope x) && have_valid_ops on_true) (have_valid_ops on_false)
      (and_from (has_valid_cond (cond_of names scope x)) (have_valid_ops on_true)
      (cond-valid names scope x (none-left (cond_faults names scope x) (first ++ second) none))
      (stmt-valid names around (entered scope) st (none-left first second later)))
      (else-valid names around (passed (stmt_locals st) scope) e (none-right first second later)))
  stmt-valid names around scope (t.While at before x after st) none =
      let body : List Stmt = stmt_of names (looped around) (entered scope) st in
      let inside : List Fault = stmt_faults names (looped around) (entered scope) st in
      one-valid (stmt.Loop (cond_of names scope x) None body)
      (ops-Loop (cond_of names scope x) None body
      ∙ and_from (has_valid_cond (cond_of names scope x) && true) (have_valid_ops body)
      (and_from (has_valid_cond (cond_of names scope x)) true (cond-valid names scope x (none-left (cond_faults names scope x) inside none)) refl)
      (stmt-valid names (looped around) (entered scope) st (none-right (cond_faults names scope x) inside none)))
  stmt-valid names around scope (t.For at before first end x end2 step after st) none =
      let here : Scope = in_for first scope in
      let body : List Stmt = stmt_of names (looped around) (entered here) st in
      let inside : List Fault = stmt_faults names (looped around) (entered here) st in
      let stepping : List Fault = step_faults names here step ++ inside in
      let testing : List Fault = test_faults names here x ++ stepping in
      let later : testing ≡ [] = none-right (first_faults names (entered scope) first) testing none in
      let last : stepping ≡ [] = none-right (test_faults names here x) stepping later in
      let loop : Stmt = stmt.Loop (test_of names here x) (step_of names here step) body in
      one-valid (for_of names (entered scope) first loop)
      (for-valid names (entered scope) first loop
      (ops-Loop (test_of names here x) (step_of names here step) body
      ∙ and_from (has_valid_cond (test_of names here x) && has_valid_step (step_of names here step)) (have_valid_ops body)
      (and_from (has_valid_cond (test_of names here x)) (has_valid_step (step_of names here step))
      (test-valid names here x (none-left (test_faults names here x) stepping later))
      (step-valid names here step (none-left (step_faults names here step) inside last)))
      (stmt-valid names (looped around) (entered here) st (none-right (step_faults names here step) inside last))))

  else-valid : (names : Names) (around : Around) (scope : Scope) (e : t.Else)
      → else_faults names around scope e ≡ [] → have_valid_ops (else_of names around scope e) ≡ true
  else-valid names around scope t.NoElse none = refl
  else-valid names around scope (t.ElseDo at st) none = stmt-valid names around (entered scope) st none

  items-valid : (names : Names) (around : Around) (scope : Scope) (items : t.Items)
      → items_faults names around scope items ≡ [] → have_valid_ops (items_of names around scope items) ≡ true
  items-valid names around scope t.NoItems none = refl
  items-valid names around scope (t.AndItem i more) none =
      let first : List Fault = item_faults names around scope i in
      let later : List Fault = items_faults names around (item_after scope i) more in
      have-append (item_of names around scope i) (items_of names around (item_after scope i) more)
      (item-valid names around scope i (none-left first later none))
      (items-valid names around (item_after scope i) more (none-right first later none))

  item-valid : (names : Names) (around : Around) (scope : Scope) (i : t.Item)
      → item_faults names around scope i ≡ [] → have_valid_ops (item_of names around scope i) ≡ true
  item-valid names around scope (t.Declares decl end ops) none =
      with_ops-valid (decl_of names scope decl) (ops_of ops) (ops-valid ops (none-right (decl_faults names scope decl) (ops_faults ops) none))
  item-valid names around scope (t.Does st) none =
      as_item-valid st (stmt_of names around scope st) (stmt-valid names around scope st none)

-- ---- functions

top-valid : (names : Names) (x : f.Top) → top_faults names x ≡ [] → list_all has_valid_function_ops (top_functions_of names x) ≡ true
top-valid names (f.Include at name header) none = refl
top-valid names (f.Define at name x value) none = refl
top-valid names (f.Variables qualifiers globals end) none = refl
top-valid names (f.Prototype head end) none = refl
top-valid names (f.Function head before ops items after) none =
    let parts : FunctionFaultless names head ops items = function_parts names head ops items none in
    and_from (are_valid_ops (ops_of ops) && have_valid_ops (body_of names head items)) true
    (and_from (are_valid_ops (ops_of ops)) (have_valid_ops (body_of names head items)) (ops-valid ops parts.ops)
    (items-valid names (body_around head) (body_scope head) items parts.items))
    refl

-- the operations of the functions that a file without faults spells
pub operations-valid : (names : Names) (file : f.File) → each (top_faults names) file ≡ []
    → list_all has_valid_function_ops (each (top_functions_of names) file) ≡ true
operations-valid names = all-each (top_faults names) (top_functions_of names) has_valid_function_ops (top-valid names)
