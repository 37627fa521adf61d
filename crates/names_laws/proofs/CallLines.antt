-- Statements have as many lines of called names as calls.
use Rattle.std.proofs.Common.{◌≡◌, ℕ, ◌+◌, Bool, true, false, ◌&&◌, List, [], ◌∷◌, ◌++◌, map, length, Option, Some, None, refl, ap, sym, ◌∙◌, arith, if◌then◌else◌}
use Rattle.std.proofs.lemmas.List.{length-append}
use Rattle.cfix_base.specs.declared.op.Op.{Op}
use Rattle.c_grammar.specs.Marks.{each}
use Rattle.c_grammar.specs.Simple as s
use Rattle.c_grammar.specs.Decl as d
use Rattle.c_grammar.specs.Cond as c
use Rattle.c_grammar.specs.Stmt as t
use Rattle.c_prog.specs.declared.act.Act.{Act}
use Rattle.c_prog.specs.declared.act.Value as v
use Rattle.c_prog.specs.declared.expr.Target.{Target}
use Rattle.c_prog.specs.declared.stmt.Cond as e
use Rattle.c_prog.specs.declared.stmt.Jump.TheVariants as jump
use Rattle.c_prog.specs.declared.stmt.Stmt.{Stmt}
use Rattle.c_prog.specs.declared.stmt.Stmt.TheVariants as stmt
use Rattle.c_prog.specs.Calls.{value_callee, act_callee, jump_callee}
use Rattle.c_prog.specs.Valid.Expressions.{is_thread_kind}
use Rattle.c_prog.specs.Valid.Scope.{Scope, int, declared, entered, passed}
use Rattle.c_prog.specs.Valid.Statements.{Around, looped}
use Rattle.c_names.specs.Uses.{Names}
use Rattle.c_names.specs.Scopes.{local_int_declared, loop_int_declared, with_local, listed, in_for, stmt_locals, item_after}
use Rattle.c_names.specs.Returns.{is_zero_value}
use Rattle.c_names.specs.SpelledExpressions.{value_of, target_of, stepped, plain_of, library_of, simple_of}
use Rattle.c_names.specs.SpelledStatements.{ops_of, op_of, local_int_of, local_ints_of, hold_of, decl_of, loop_int_of, loop_ints_of, with_ops, cond_of, test_of, step_of, bare_of, return_of, jump_of, first_of, for_of, stmt_of, else_of, items_of, item_of}
use Rattle.c_names.specs.LinesExpressions.{value_calls, simple_calls}
use Rattle.c_names.specs.LinesStatements.{local_int_calls, decl_calls, jump_calls, stmt_calls, else_calls, items_calls, item_calls}
use Rattle.names_laws.proofs.Weights.{in_stmt, in_stmts, in_stmts-append, in_step, in-Simple, in-Jump, in-If, in-Loop, in-Block, is_called, call_count}
use Rattle.names_laws.proofs.StmtLines.{in-as_item}

value-even : (names : Names) (scope : Scope) (x : s.Value) → length (value_calls x) ≡ is_called (value_callee (value_of names scope x))
value-even names scope (s.Computed a) = refl
value-even names scope (s.Called (s.CallOf f before args after)) = refl

step-none : (step : s.Step) (x : Target) → 0 ≡ is_called (act_callee (stepped step x))
step-none s.Up x = refl
step-none s.Down x = refl

plain-none : (names : Names) (scope : Scope) (p : s.Plain) → 0 ≡ is_called (act_callee (plain_of names scope p))
plain-none names scope (s.SetTo x at a) = refl
plain-none names scope (s.Changed x how at a) = refl
plain-none names scope (s.SteppedAfter x step at) = step-none step (target_of names scope x)
plain-none names scope (s.SteppedBefore step at x) = step-none step (target_of names scope x)

library-none : (names : Names) (scope : Scope) (l : s.Library) → 0 ≡ is_called (act_callee (library_of names scope l))
library-none names scope (s.Create at before amp x comma1 null comma2 f comma3 arg after) = refl
library-none names scope (s.Join at before x comma null after) = refl
library-none names scope (s.Lock at before amp m after) = refl
library-none names scope (s.Unlock at before amp m after) = refl
library-none names scope (s.Print at before text more after) = refl
library-none names scope (s.Scan at before text comma amp x after) = refl
library-none names scope (s.Wait at before amp1 c comma amp2 m after) = refl
library-none names scope (s.Signal at before amp c after) = refl
library-none names scope (s.Broadcast at before amp c after) = refl

simple-even : (names : Names) (scope : Scope) (x : s.Simple) → length (simple_calls x) ≡ is_called (act_callee (simple_of names scope x))
simple-even names scope (s.PlainPart p) = plain-none names scope p
simple-even names scope (s.SetCall x at (s.CallOf f before args after)) = refl
simple-even names scope (s.OnlyCall (s.CallOf f before args after)) = refl
simple-even names scope (s.LibraryPart l) = library-none names scope l

-- the calls of simple statements
abbrev in_acts : List Act → ℕ
in_acts [] = 0
in_acts (a ∷ more) = is_called (act_callee a) + in_acts more

in-with_ops : (acts : List Act) (ops : List Op) → in_stmts call_count (with_ops acts ops) ≡ in_acts acts
in-with_ops [] ops = refl
in-with_ops (a ∷ []) ops = omega (arith, in-Simple call_count a ops)
in-with_ops (a ∷ b ∷ more) ops = omega (arith, in-Simple call_count a [], in-with_ops (b ∷ more) ops)

local_int-even : (names : Names) (scope : Scope) (x : d.LocalInt) → length (local_int_calls x) ≡ is_called (act_callee (local_int_of names scope x))
local_int-even names scope (d.OneLocal x) = refl
local_int-even names scope (d.SetLocal x at a) = value-even names (declared x.text int scope) a
local_int-even names scope (d.LocalArray x before n after) = refl

local_ints-even : (names : Names) (scope : Scope) (xs : List d.LocalInt) → length (each local_int_calls xs) ≡ in_acts (local_ints_of names scope xs)
local_ints-even names scope [] = refl
local_ints-even names scope (x ∷ xs) =
    omega (
      arith,
      length-append (local_int_calls x) (each local_int_calls xs),
      local_int-even names scope x,
      local_ints-even names (with_local (local_int_declared x) scope) xs,
    )

holds-even : (names : Names) (xs : List d.Hold) → 0 ≡ in_acts (map (hold_of names) xs)
holds-even names [] = refl
holds-even names (d.OneThread x ∷ xs) = omega (arith, holds-even names xs)
holds-even names (d.Threads x before n after ∷ xs) = omega (arith, holds-even names xs)

decl-even : (names : Names) (scope : Scope) (x : d.Decl) → length (decl_calls x) ≡ in_acts (decl_of names scope x)
decl-even names scope (d.Ints at x more) = local_ints-even names scope (listed x more)
decl-even names scope (d.Holds at x more) = holds-even names (listed x more)

loop_ints-none : (names : Names) (scope : Scope) (xs : List d.LoopInt) → 0 ≡ in_acts (loop_ints_of names scope xs)
loop_ints-none names scope [] = refl
loop_ints-none names scope (d.OneLoop x ∷ xs) = omega (arith, loop_ints-none names (with_local (loop_int_declared (d.OneLoop x)) scope) xs)
loop_ints-none names scope (d.SetLoop x at a ∷ xs) = omega (arith, loop_ints-none names (with_local (loop_int_declared (d.SetLoop x at a)) scope) xs)

first-none : (names : Names) (scope : Scope) (x : t.First) → 0 ≡ in_stmts call_count (first_of names scope x)
first-none names scope (t.FirstInts at x more) =
    omega (arith, loop_ints-none names scope (listed x more), in-with_ops (loop_ints_of names scope (listed x more)) [])
first-none names scope (t.FirstPlain p) = omega (arith, plain-none names scope p, in-Simple call_count (plain_of names scope p) [])

for-even : (names : Names) (scope : Scope) (x : Option t.First) (loop : Stmt)
    → in_stmt call_count loop ≡ in_stmt call_count (for_of names scope x loop)
for-even names scope None loop = refl
for-even names scope (Some x) loop =
    omega (arith, first-none names scope x, in-Block call_count (first_of names scope x ++ loop ∷ []), in_stmts-append call_count (first_of names scope x) (loop ∷ []))

step-even : (names : Names) (scope : Scope) (x : Option t.LoopStep) → 0 ≡ in_step call_count (step_of names scope x)
step-even names scope None = refl
step-even names scope (Some (t.LoopStepOf p ops)) = omega (arith, plain-none names scope p)

-- the number 0 is no call
zero-value : (names : Names) (scope : Scope) (x : s.Value) → is_zero_value names scope x ≡ true → value_calls x ≡ []
zero-value names scope (s.Computed a) z = refl
zero-value names scope (s.Called f) z = absurd cc

returned : (names : Names) (scope : Scope) (x : s.Value) (kind : Bool) (zero : Bool) → is_zero_value names scope x ≡ zero
    → length (value_calls x) ≡ is_called (jump_callee (if kind && zero then jump.ReturnNull else jump.ReturnValue (value_of names scope x)))
returned names scope x true true z = ap length (zero-value names scope x z)
returned names scope x true false z = value-even names scope x
returned names scope x false zero z = value-even names scope x

return-even : (names : Names) (around : Around) (scope : Scope) (x : s.Value)
    → length (value_calls x) ≡ is_called (jump_callee (return_of names around scope x))
return-even names around scope x = returned names scope x (is_thread_kind around.kind) (is_zero_value names scope x) refl

bare-none : (b : t.Bare) → 0 ≡ is_called (jump_callee (bare_of b))
bare-none (t.Break at) = refl
bare-none (t.Continue at) = refl
bare-none (t.Return at) = refl
bare-none (t.ReturnNull at null) = refl

jump-even : (names : Names) (around : Around) (scope : Scope) (x : t.Jump)
    → length (jump_calls x) ≡ in_stmt call_count (jump_of names around scope x)
jump-even names around scope (t.BareJump b end) = omega (arith, bare-none b, in-Jump call_count (bare_of b) [])
jump-even names around scope (t.ReturnValue at x end) =
    omega (arith, return-even names around scope x, in-Jump call_count (return_of names around scope x) [])
jump-even names around scope (t.BareBlock before op end ops b end2 after) =
    omega (arith, bare-none b, in-Jump call_count (bare_of b) (op_of op ∷ ops_of ops))
jump-even names around scope (t.ValueBlock before w name set x end op end2 ops return name2 end3 after) =
    omega (arith, return-even names around scope x, in-Jump call_count (return_of names around scope x) (op_of op ∷ ops_of ops))

mutual
  pub stmt-calls : (names : Names) (around : Around) (scope : Scope) (st : t.Stmt)
      → length (stmt_calls st) ≡ in_stmts call_count (stmt_of names around scope st)
  stmt-calls names around scope (t.Block before items after) = items-calls names around (entered scope) items
  stmt-calls names around scope (t.Nothing end) = refl
  stmt-calls names around scope (t.Simply x end ops) =
      omega (arith, simple-even names scope x, in-Simple call_count (simple_of names scope x) (ops_of ops))
  stmt-calls names around scope (t.Jumps j) = omega (arith, jump-even names around scope j)
  stmt-calls names around scope (t.If at before x after st a) =
      omega (
        arith,
        length-append (stmt_calls st) (else_calls a),
        stmt-calls names around (entered scope) st,
        else-calls names around (passed (stmt_locals st) scope) a,
        in-If call_count (cond_of names scope x) (stmt_of names around (entered scope) st) (else_of names around (passed (stmt_locals st) scope) a),
      )
  stmt-calls names around scope (t.While at before x after st) =
      omega (
        arith,
        stmt-calls names (looped around) (entered scope) st,
        in-Loop call_count (cond_of names scope x) None (stmt_of names (looped around) (entered scope) st),
      )
  stmt-calls names around scope (t.For at before first end x end2 step after st) =
      omega (
        arith,
        step-even names (in_for first scope) step,
        stmt-calls names (looped around) (entered (in_for first scope)) st,
        for-even names (entered scope) first (stmt.Loop (test_of names (in_for first scope) x) (step_of names (in_for first scope) step) (stmt_of names (looped around) (entered (in_for first scope)) st)),
        in-Loop call_count (test_of names (in_for first scope) x) (step_of names (in_for first scope) step) (stmt_of names (looped around) (entered (in_for first scope)) st),
      )

  pub else-calls : (names : Names) (around : Around) (scope : Scope) (a : t.Else)
      → length (else_calls a) ≡ in_stmts call_count (else_of names around scope a)
  else-calls names around scope t.NoElse = refl
  else-calls names around scope (t.ElseDo at st) = stmt-calls names around (entered scope) st

  pub items-calls : (names : Names) (around : Around) (scope : Scope) (items : t.Items)
      → length (items_calls items) ≡ in_stmts call_count (items_of names around scope items)
  items-calls names around scope t.NoItems = refl
  items-calls names around scope (t.AndItem i more) =
      omega (
        arith,
        length-append (item_calls i) (items_calls more),
        in_stmts-append call_count (item_of names around scope i) (items_of names around (item_after scope i) more),
        item-calls names around scope i,
        items-calls names around (item_after scope i) more,
      )

  pub item-calls : (names : Names) (around : Around) (scope : Scope) (i : t.Item)
      → length (item_calls i) ≡ in_stmts call_count (item_of names around scope i)
  item-calls names around scope (t.Declares decl end ops) =
      omega (arith, decl-even names scope decl, in-with_ops (decl_of names scope decl) (ops_of ops))
  item-calls names around scope (t.Does st) =
      omega (arith, stmt-calls names around scope st, in-as_item call_count st (stmt_of names around scope st))
