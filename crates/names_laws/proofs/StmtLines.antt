-- Statements have as many lines as accesses.
use Rattle.std.proofs.Common.{◌≡◌, ℕ, ◌+◌, pos, Bool, true, false, ◌&&◌, List, [], ◌∷◌, ◌++◌, map, length, Option, Some, None, refl, ap, sym, ◌∙◌, arith, if◌then◌else◌}
use Rattle.std.proofs.lemmas.List.{length-append}
use Rattle.cfix_base.specs.declared.Spot.{Spot}
use Rattle.cfix_base.specs.declared.op.Op.{Op}
use Rattle.c_grammar.specs.Expr as g
use Rattle.c_grammar.specs.Simple as s
use Rattle.c_grammar.specs.Decl as d
use Rattle.c_grammar.specs.Cond as c
use Rattle.c_grammar.specs.Stmt as t
use Rattle.c_prog.specs.declared.act.Act.{Act}
use Rattle.c_prog.specs.declared.stmt.Jump.TheVariants as jump
use Rattle.c_prog.specs.declared.stmt.Stmt.{Stmt}
use Rattle.c_prog.specs.declared.stmt.Stmt.TheVariants as stmt
use Rattle.c_prog.specs.Order.{Node}
use Rattle.c_prog.specs.Accesses.{act_accesses, expr_accesses, jump_accesses, value_accesses}
use Rattle.c_prog.specs.Valid.Expressions.{is_thread_kind}
use Rattle.c_prog.specs.Valid.Scope.{Scope, int, declared, entered, passed}
use Rattle.c_prog.specs.Valid.Statements.{Around, looped}
use Rattle.c_prog.proofs.Equations.{accesses-Number}
use Rattle.c_names.specs.Uses.{Names, Use, IsLocal, IsGlobal, IsFunction, IsDefined, IsUnknown, use_of}
use Rattle.c_names.specs.Scopes.{local_int_declared, loop_int_declared, with_local, listed, in_for, stmt_locals, item_after}
use Rattle.c_names.specs.Returns.{is_zero_use, is_zero_expr, is_zero_value, is_null}
use Rattle.c_names.specs.SpelledExpressions.{expr_of, value_of, plain_of, simple_of}
use Rattle.c_names.specs.SpelledStatements.{ops_of, op_of, local_int_of, local_ints_of, hold_of, decl_of, loop_int_of, loop_ints_of, with_ops, cond_of, test_of, step_of, bare_of, return_of, jump_of, first_of, for_of, as_item, stmt_of, else_of, items_of, item_of}
use Rattle.c_names.specs.LinesExpressions.{read_lines, expr_lines, value_lines, plain_lines, simple_lines}
use Rattle.c_names.specs.LinesStatements.{local_int_lines, local_ints_lines, decl_lines, loop_int_lines, loop_ints_lines, first_lines, cond_lines, test_lines, step_lines, jump_lines, stmt_lines, else_lines, items_lines, item_lines}
use Rattle.names_laws.proofs.Weights.{in_stmt, in_stmts, in_stmts-append, in_step, in-Simple, in-Jump, in-If, in-Loop, in-Block, touch_count}
use Rattle.names_laws.proofs.ExprLines.{expr-even, value-even, plain-even, simple-even}

-- the accesses of simple statements
abbrev in_acts : List Act → ℕ
in_acts [] = 0
in_acts (a ∷ more) = length (act_accesses a) + in_acts more

in-with_ops : (acts : List Act) (ops : List Op) → in_stmts touch_count (with_ops acts ops) ≡ in_acts acts
in-with_ops [] ops = refl
in-with_ops (a ∷ []) ops = omega (arith, in-Simple touch_count a ops)
in-with_ops (a ∷ b ∷ more) ops = omega (arith, in-Simple touch_count a [], in-with_ops (b ∷ more) ops)

local_int-even : (names : Names) (scope : Scope) (x : d.LocalInt)
    → length (local_int_lines names scope x) ≡ length (act_accesses (local_int_of names scope x))
local_int-even names scope (d.OneLocal x) = refl
local_int-even names scope (d.SetLocal x at v) = value-even names (declared x.text int scope) v
local_int-even names scope (d.LocalArray x before n after) = refl

local_ints-even : (names : Names) (scope : Scope) (xs : List d.LocalInt)
    → length (local_ints_lines names scope xs) ≡ in_acts (local_ints_of names scope xs)
local_ints-even names scope [] = refl
local_ints-even names scope (x ∷ xs) =
    omega (
      arith,
      length-append (local_int_lines names scope x) (local_ints_lines names (with_local (local_int_declared x) scope) xs),
      local_int-even names scope x,
      local_ints-even names (with_local (local_int_declared x) scope) xs,
    )

holds-even : (names : Names) (xs : List d.Hold) → 0 ≡ in_acts (map (hold_of names) xs)
holds-even names [] = refl
holds-even names (d.OneThread x ∷ xs) = omega (arith, holds-even names xs)
holds-even names (d.Threads x before n after ∷ xs) = omega (arith, holds-even names xs)

decl-even : (names : Names) (scope : Scope) (x : d.Decl) → length (decl_lines names scope x) ≡ in_acts (decl_of names scope x)
decl-even names scope (d.Ints at x more) = local_ints-even names scope (listed x more)
decl-even names scope (d.Holds at x more) = holds-even names (listed x more)

loop_int-even : (names : Names) (scope : Scope) (x : d.LoopInt)
    → length (loop_int_lines names scope x) ≡ length (act_accesses (loop_int_of names scope x))
loop_int-even names scope (d.OneLoop x) = refl
loop_int-even names scope (d.SetLoop x at e) = expr-even names (declared x.text int scope) e

loop_ints-even : (names : Names) (scope : Scope) (xs : List d.LoopInt)
    → length (loop_ints_lines names scope xs) ≡ in_acts (loop_ints_of names scope xs)
loop_ints-even names scope [] = refl
loop_ints-even names scope (x ∷ xs) =
    omega (
      arith,
      length-append (loop_int_lines names scope x) (loop_ints_lines names (with_local (loop_int_declared x) scope) xs),
      loop_int-even names scope x,
      loop_ints-even names (with_local (loop_int_declared x) scope) xs,
    )

-- the first part of a `for`
first-even : (names : Names) (scope : Scope) (x : t.First)
    → length (first_lines names scope (Some x)) ≡ in_stmts touch_count (first_of names scope x)
first-even names scope (t.FirstInts at x more) =
    omega (arith, loop_ints-even names scope (listed x more), in-with_ops (loop_ints_of names scope (listed x more)) [])
first-even names scope (t.FirstPlain p) = omega (arith, plain-even names scope p, in-Simple touch_count (plain_of names scope p) [])

for-even : (names : Names) (scope : Scope) (x : Option t.First) (loop : Stmt)
    → length (first_lines names scope x) + in_stmt touch_count loop ≡ in_stmt touch_count (for_of names scope x loop)
for-even names scope None loop = omega (arith)
for-even names scope (Some x) loop =
    omega (arith, first-even names scope x, in-Block touch_count (first_of names scope x ++ loop ∷ []), in_stmts-append touch_count (first_of names scope x) (loop ∷ []))

-- a condition
cond-even : (names : Names) (scope : Scope) (x : c.Cond)
    → length (cond_lines names scope x) ≡ length (expr_accesses (cond_of names scope x).test)
cond-even names scope (c.Bare e) = expr-even names scope e
cond-even names scope (c.OnTrue (c.TrueGuardOf before e after both before2 guard after2)) = expr-even names scope e
cond-even names scope (c.OnFalse before e after or before2 guard after2) = expr-even names scope e
cond-even names scope (c.OnBoth before (c.TrueGuardOf before1 e after1 both before2 guard1 after2) after or before3 guard after3) = expr-even names scope e

test-even : (names : Names) (scope : Scope) (x : Option c.Cond)
    → length (test_lines names scope x) ≡ length (expr_accesses (test_of names scope x).test)
test-even names scope None = sym (ap length (accesses-Number (pos 1)))
test-even names scope (Some x) = cond-even names scope x

step-even : (names : Names) (scope : Scope) (x : Option t.LoopStep)
    → length (step_lines names scope x) ≡ in_step touch_count (step_of names scope x)
step-even names scope None = refl
step-even names scope (Some (t.LoopStepOf p ops)) = omega (arith, plain-even names scope p)

-- the number 0 has no access
zero-use : (u : Use) (at : Spot) → is_zero_use u ≡ true → read_lines u at ≡ []
zero-use (IsDefined n) at z = refl
zero-use (IsLocal n k) at z = absurd cc
zero-use (IsGlobal n k) at z = absurd cc
zero-use (IsFunction n k m) at z = absurd cc
zero-use IsUnknown at z = absurd cc

zero-expr : (names : Names) (scope : Scope) (e : g.Expr) → is_zero_expr names scope e ≡ true → expr_lines names scope e ≡ []
zero-expr names scope (g.Number n) z = refl
zero-expr names scope (g.Name x) z = zero-use (use_of names scope x.text) x.spot z
zero-expr names scope (g.Index x before e after) z = absurd cc
zero-expr names scope (g.Paren before e after) z = zero-expr names scope e z
zero-expr names scope (g.Cast before w after long x) z = absurd cc
zero-expr names scope (g.Unary op at e) z = absurd cc
zero-expr names scope (g.Operation a op at b) z = absurd cc

zero-value : (names : Names) (scope : Scope) (v : s.Value) → is_zero_value names scope v ≡ true → value_lines names scope v ≡ []
zero-value names scope (s.Computed e) z = zero-expr names scope e z
zero-value names scope (s.Called f) z = absurd cc

and-right : (a b : Bool) → (a && b) ≡ true → b ≡ true
and-right true b z = z
and-right false b z = absurd cc

returned : (names : Names) (scope : Scope) (v : s.Value) (kind : Bool) (zero : Bool) → is_zero_value names scope v ≡ zero
    → length (value_lines names scope v) ≡ length (jump_accesses (if kind && zero then jump.ReturnNull else jump.ReturnValue (value_of names scope v)))
returned names scope v true true z = ap length (zero-value names scope v z)
returned names scope v true false z = value-even names scope v
returned names scope v false zero z = value-even names scope v

return-even : (names : Names) (around : Around) (scope : Scope) (v : s.Value)
    → length (value_lines names scope v) ≡ length (jump_accesses (return_of names around scope v))
return-even names around scope v = returned names scope v (is_thread_kind around.kind) (is_zero_value names scope v) refl

bare-none : (b : t.Bare) → 0 ≡ length (jump_accesses (bare_of b))
bare-none (t.Break at) = refl
bare-none (t.Continue at) = refl
bare-none (t.Return at) = refl
bare-none (t.ReturnNull at null) = refl

jump-even : (names : Names) (around : Around) (scope : Scope) (x : t.Jump)
    → length (jump_lines names scope x) ≡ in_stmt touch_count (jump_of names around scope x)
jump-even names around scope (t.BareJump b end) = omega (arith, bare-none b, in-Jump touch_count (bare_of b) [])
jump-even names around scope (t.ReturnValue at v end) =
    omega (arith, return-even names around scope v, in-Jump touch_count (return_of names around scope v) [])
jump-even names around scope (t.BareBlock before op end ops b end2 after) =
    omega (arith, bare-none b, in-Jump touch_count (bare_of b) (op_of op ∷ ops_of ops))
jump-even names around scope (t.ValueBlock before w name set v end op end2 ops return name2 end3 after) =
    omega (arith, return-even names around scope v, in-Jump touch_count (return_of names around scope v) (op_of op ∷ ops_of ops))

-- a block that is an item is a statement
pub in-as_item : (of : Node → ℕ) (st : t.Stmt) (list : List Stmt) → in_stmts of (as_item st list) ≡ in_stmts of list
in-as_item of (t.Block before items after) list = omega (arith, in-Block of list)
in-as_item of (t.Nothing end) list = refl
in-as_item of (t.Simply x end ops) list = refl
in-as_item of (t.Jumps j) list = refl
in-as_item of (t.If at before x after st e) list = refl
in-as_item of (t.While at before x after st) list = refl
in-as_item of (t.For at before first end x end2 step after st) list = refl

mutual
  pub stmt-even : (names : Names) (around : Around) (scope : Scope) (st : t.Stmt)
      → length (stmt_lines names scope st) ≡ in_stmts touch_count (stmt_of names around scope st)
  stmt-even names around scope (t.Block before items after) = items-even names around (entered scope) items
  stmt-even names around scope (t.Nothing end) = refl
  stmt-even names around scope (t.Simply x end ops) =
      omega (arith, simple-even names scope x, in-Simple touch_count (simple_of names scope x) (ops_of ops))
  stmt-even names around scope (t.Jumps j) = omega (arith, jump-even names around scope j)
  stmt-even names around scope (t.If at before x after st e) =
      omega (
        arith,
        length-append (cond_lines names scope x) (stmt_lines names (entered scope) st ++ else_lines names (passed (stmt_locals st) scope) e),
        length-append (stmt_lines names (entered scope) st) (else_lines names (passed (stmt_locals st) scope) e),
        cond-even names scope x,
        stmt-even names around (entered scope) st,
        else-even names around (passed (stmt_locals st) scope) e,
        in-If touch_count (cond_of names scope x) (stmt_of names around (entered scope) st) (else_of names around (passed (stmt_locals st) scope) e),
      )
  stmt-even names around scope (t.While at before x after st) =
      omega (
        arith,
        length-append (cond_lines names scope x) (stmt_lines names (entered scope) st),
        cond-even names scope x,
        stmt-even names (looped around) (entered scope) st,
        in-Loop touch_count (cond_of names scope x) None (stmt_of names (looped around) (entered scope) st),
      )
  stmt-even names around scope (t.For at before first end x end2 step after st) =
      omega (
        arith,
        length-append (first_lines names (entered scope) first) (test_lines names (in_for first scope) x ++ (step_lines names (in_for first scope) step ++ stmt_lines names (entered (in_for first scope)) st)),
        length-append (test_lines names (in_for first scope) x) (step_lines names (in_for first scope) step ++ stmt_lines names (entered (in_for first scope)) st),
        length-append (step_lines names (in_for first scope) step) (stmt_lines names (entered (in_for first scope)) st),
        test-even names (in_for first scope) x,
        step-even names (in_for first scope) step,
        stmt-even names (looped around) (entered (in_for first scope)) st,
        for-even names (entered scope) first (stmt.Loop (test_of names (in_for first scope) x) (step_of names (in_for first scope) step) (stmt_of names (looped around) (entered (in_for first scope)) st)),
        in-Loop touch_count (test_of names (in_for first scope) x) (step_of names (in_for first scope) step) (stmt_of names (looped around) (entered (in_for first scope)) st),
      )

  pub else-even : (names : Names) (around : Around) (scope : Scope) (e : t.Else)
      → length (else_lines names scope e) ≡ in_stmts touch_count (else_of names around scope e)
  else-even names around scope t.NoElse = refl
  else-even names around scope (t.ElseDo at st) = stmt-even names around (entered scope) st

  pub items-even : (names : Names) (around : Around) (scope : Scope) (items : t.Items)
      → length (items_lines names scope items) ≡ in_stmts touch_count (items_of names around scope items)
  items-even names around scope t.NoItems = refl
  items-even names around scope (t.AndItem i more) =
      omega (
        arith,
        length-append (item_lines names scope i) (items_lines names (item_after scope i) more),
        in_stmts-append touch_count (item_of names around scope i) (items_of names around (item_after scope i) more),
        item-even names around scope i,
        items-even names around (item_after scope i) more,
      )

  pub item-even : (names : Names) (around : Around) (scope : Scope) (i : t.Item)
      → length (item_lines names scope i) ≡ in_stmts touch_count (item_of names around scope i)
  item-even names around scope (t.Declares decl end ops) =
      omega (arith, decl-even names scope decl, in-with_ops (decl_of names scope decl) (ops_of ops))
  item-even names around scope (t.Does st) =
      omega (arith, stmt-even names around scope st, in-as_item touch_count st (stmt_of names around scope st))
