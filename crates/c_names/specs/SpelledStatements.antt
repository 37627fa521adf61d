-- What declarations, conditions, jumps and statements spell, whatever their faults.
use Rattle.std.specs.Prelude.{ℕ, pos, List, [], ◌∷◌, ◌++◌, map, Option, Some, None, unsigned_abs, if◌then◌else◌}
use Rattle.cfix_base.specs.declared.Spot.{Spot}
use Rattle.cfix_base.specs.declared.op.Op as o
use Rattle.cfix_base.specs.declared.op.Op.TheVariants as op
use Rattle.c_grammar.specs.Op.{Op, OpOf, Ops, Verb}
use Rattle.c_grammar.specs.Op as g
use Rattle.c_grammar.specs.Simple.{Value}
use Rattle.c_grammar.specs.Decl.{Hold, OneThread, Threads, LocalInt, OneLocal, SetLocal, LocalArray, Decl, Ints, Holds, LoopInt, OneLoop, SetLoop}
use Rattle.c_grammar.specs.Cond.{Guard, GuardOf, TrueGuard, TrueGuardOf, Cond}
use Rattle.c_grammar.specs.Cond as c
use Rattle.c_grammar.specs.Stmt as s
use Rattle.c_grammar.specs.Stmt.{Bare, Jump, BareJump, ReturnValue, BareBlock, ValueBlock, First, FirstInts, FirstPlain, LoopStep, LoopStepOf, Stmt, Block, Nothing, Simply, Jumps, If, While, For, Else, NoElse, ElseDo, Items, NoItems, AndItem, Item, Declares, Does}
use Rattle.c_prog.specs.declared.act.Act.{Act}
use Rattle.c_prog.specs.declared.act.Act.TheVariants as act
use Rattle.c_prog.specs.declared.act.LocalKind.TheVariants as local_kind
use Rattle.c_prog.specs.declared.act.Value.TheVariants as value
use Rattle.c_prog.specs.declared.expr.Expr.TheVariants as expr
use Rattle.c_prog.specs.declared.stmt.Cond as d
use Rattle.c_prog.specs.declared.stmt.Jump as j
use Rattle.c_prog.specs.declared.stmt.Jump.TheVariants as jump
use Rattle.c_prog.specs.declared.stmt.Step as e
use Rattle.c_prog.specs.declared.stmt.Stmt as t
use Rattle.c_prog.specs.declared.stmt.Stmt.TheVariants as stmt
use Rattle.c_prog.specs.Valid.Scope.{int, Scope, declared, entered, passed}
use Rattle.c_prog.specs.Valid.Statements.{Around, looped}
use Rattle.c_names.specs.Uses.{Names}
use Rattle.c_names.specs.Names.{size_length}
use Rattle.c_names.specs.Returns.{is_null}
use Rattle.c_names.specs.Scopes.{local_int_declared, loop_int_declared, with_local, listed, in_for, stmt_locals, item_after}
use Rattle.c_names.specs.SpelledExpressions.{expr_of, value_of, plain_of, simple_of}

-- an operation with this number
abbrev pub operation : Verb → ℕ → o.Op
operation g.Enter n = op.Enter (record { number = n })
operation g.Leave n = op.Leave (record { number = n })
operation g.Wait n = op.Wait (record { number = n })
operation g.Done n = op.Done (record { number = n })
operation g.First n = op.First (record { number = n })
operation g.Add n = op.Add (record { number = n })

abbrev pub op_of : Op → o.Op
op_of (OpOf verb at before n after) = operation verb (unsigned_abs n.value)

-- operations, each with the token behind it
abbrev pub ops_of : Ops → List o.Op
ops_of = map (λ x. op_of x.0)

-- operations, each with the comma before it
abbrev pub more_ops_of : List (Spot × Op) → List o.Op
more_ops_of = map (λ x. op_of x.1)

-- a declarator of type `int`
abbrev pub local_int_of : Names → Scope → LocalInt → Act
local_int_of names scope (OneLocal x) = act.Declare x.text local_kind.Int None
local_int_of names scope (SetLocal x at v) = act.Declare x.text local_kind.Int (Some (value_of names (declared x.text int scope) v))
local_int_of names scope (LocalArray x before n after) = act.Declare x.text (local_kind.IntArray (size_length names n)) None

abbrev pub local_ints_of : Names → Scope → List LocalInt → List Act
local_ints_of names scope [] = []
local_ints_of names scope (x ∷ more) = local_int_of names scope x ∷ local_ints_of names (with_local (local_int_declared x) scope) more

-- a declarator of type `pthread_t`
abbrev pub hold_of : Names → Hold → Act
hold_of names (OneThread x) = act.Declare x.text local_kind.Thread None
hold_of names (Threads x before n after) = act.Declare x.text (local_kind.ThreadArray (size_length names n)) None

-- a declaration of several names spells one declaration each
abbrev pub decl_of : Names → Scope → Decl → List Act
decl_of names scope (Ints at x more) = local_ints_of names scope (listed x more)
decl_of names scope (Holds at x more) = map (hold_of names) (listed x more)

-- a declarator in the first part of a `for`
abbrev pub loop_int_of : Names → Scope → LoopInt → Act
loop_int_of names scope (OneLoop x) = act.Declare x.text local_kind.Int None
loop_int_of names scope (SetLoop x at e) = act.Declare x.text local_kind.Int (Some (value.Expr (expr_of names (declared x.text int scope) e)))

abbrev pub loop_ints_of : Names → Scope → List LoopInt → List Act
loop_ints_of names scope [] = []
loop_ints_of names scope (x ∷ more) = loop_int_of names scope x ∷ loop_ints_of names (with_local (loop_int_declared x) scope) more

-- simple statements, the operations behind them belonging to the last
abbrev pub with_ops : List Act → List o.Op → List t.Stmt
with_ops [] ops = []
with_ops (a ∷ []) ops = stmt.Simple a ops ∷ []
with_ops (a ∷ b ∷ more) ops = stmt.Simple a [] ∷ with_ops (b ∷ more) ops

-- the operations of a guard
abbrev pub guard_of : Guard → List o.Op
guard_of (GuardOf op comma more at) = op_of op ∷ ops_of more

-- a condition; operations with `1` are those of its True place, and with `0` those of its False place
abbrev pub cond_of : Names → Scope → Cond → d.Cond
cond_of names scope (c.Bare e) = record { test = expr_of names scope e; on_true = []; on_false = [] }
cond_of names scope (c.OnTrue (TrueGuardOf before e after both before2 guard after2)) =
    record { test = expr_of names scope e; on_true = guard_of guard; on_false = [] }
cond_of names scope (c.OnFalse before e after or before2 guard after2) =
    record { test = expr_of names scope e; on_true = []; on_false = guard_of guard }
cond_of names scope (c.OnBoth before (TrueGuardOf before1 e after1 both before2 guard1 after2) after or before3 guard after3) =
    record { test = expr_of names scope e; on_true = guard_of guard1; on_false = guard_of guard }

-- without a condition, that of a `for` is 1
abbrev pub test_of : Names → Scope → Option Cond → d.Cond
test_of names scope None = record { test = expr.Number (pos 1); on_true = []; on_false = [] }
test_of names scope (Some cond) = cond_of names scope cond

-- the step of a `for`, if there is one
abbrev pub step_of : Names → Scope → Option LoopStep → Option e.Step
step_of names scope None = None
step_of names scope (Some (LoopStepOf p ops)) = Some (record { act = plain_of names scope p; after = more_ops_of ops })

-- a jump without a value
abbrev pub bare_of : Bare → j.Jump
bare_of (s.Break at) = jump.Break
bare_of (s.Continue at) = jump.Continue
bare_of (s.Return at) = jump.Return
bare_of (s.ReturnNull at null) = jump.ReturnNull

-- the number 0 that the function of a thread returns spells `NULL`
abbrev pub return_of : Names → Around → Scope → Value → j.Jump
return_of names around scope v = if is_null names around scope v then jump.ReturnNull else jump.ReturnValue (value_of names scope v)

-- a jump with its operations
abbrev pub jump_of : Names → Around → Scope → Jump → t.Stmt
jump_of names around scope (BareJump b end) = stmt.Jump (bare_of b) []
jump_of names around scope (ReturnValue at v end) = stmt.Jump (return_of names around scope v) []
jump_of names around scope (BareBlock before op end ops b end2 after) = stmt.Jump (bare_of b) (op_of op ∷ ops_of ops)
jump_of names around scope (ValueBlock before word name set v end op end2 ops return name2 end3 after) =
    stmt.Jump (return_of names around scope v) (op_of op ∷ ops_of ops)

-- the first part of a `for`, in the block of the `for`
abbrev pub first_of : Names → Scope → First → List t.Stmt
first_of names scope (FirstInts at x more) = with_ops (loop_ints_of names scope (listed x more)) []
first_of names scope (FirstPlain p) = stmt.Simple (plain_of names scope p) [] ∷ []

-- a `for` with a first part is a block of that part and the loop
abbrev pub for_of : Names → Scope → Option First → t.Stmt → t.Stmt
for_of names scope None loop = loop
for_of names scope (Some first) loop = stmt.Block (first_of names scope first ++ loop ∷ [])

-- a block that is an item of a block is a statement; another item is what it spells
abbrev pub as_item : Stmt → List t.Stmt → List t.Stmt
as_item (Block before items after) body = stmt.Block body ∷ []
as_item _ list = list

-- The list that a statement under `if`, `else`, `while` or `for` spells: a block its items, an empty statement nothing, and any
-- other statement itself. An `else` with an empty list spells no `else`.
abbrev mutual
  pub stmt_of : Names → Around → Scope → Stmt → List t.Stmt
  stmt_of names around scope (Block before items after) = items_of names around (entered scope) items
  stmt_of names around scope (Nothing end) = []
  stmt_of names around scope (Simply simple end ops) = stmt.Simple (simple_of names scope simple) (ops_of ops) ∷ []
  stmt_of names around scope (Jumps jump) = jump_of names around scope jump ∷ []
  stmt_of names around scope (If at before c after st e) =
      stmt.If (cond_of names scope c) (stmt_of names around (entered scope) st) (else_of names around (passed (stmt_locals st) scope) e) ∷ []
  stmt_of names around scope (While at before c after st) =
      stmt.Loop (cond_of names scope c) None (stmt_of names (looped around) (entered scope) st) ∷ []
  stmt_of names around scope (For at before first end c end2 step after st) =
      for_of names (entered scope) first
      (stmt.Loop (test_of names (in_for first scope) c) (step_of names (in_for first scope) step)
      (stmt_of names (looped around) (entered (in_for first scope)) st)) ∷ []

  pub else_of : Names → Around → Scope → Else → List t.Stmt
  else_of names around scope NoElse = []
  else_of names around scope (ElseDo at st) = stmt_of names around (entered scope) st

  pub items_of : Names → Around → Scope → Items → List t.Stmt
  items_of names around scope NoItems = []
  items_of names around scope (AndItem i more) = item_of names around scope i ++ items_of names around (item_after scope i) more

  pub item_of : Names → Around → Scope → Item → List t.Stmt
  item_of names around scope (Declares decl end ops) = with_ops (decl_of names scope decl) (ops_of ops)
  item_of names around scope (Does st) = as_item st (stmt_of names around scope st)
