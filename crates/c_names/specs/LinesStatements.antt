-- The lines of the accesses and of the called names of statements, node after node.
use Rattle.std.specs.Prelude.{ℕ, List, [], ◌∷◌, ◌++◌, Option, Some, None}
use Rattle.c_grammar.specs.Marks.{each}
use Rattle.c_grammar.specs.Decl.{LocalInt, OneLocal, SetLocal, LocalArray, Decl, Ints, Holds, LoopInt, OneLoop, SetLoop}
use Rattle.c_grammar.specs.Cond.{TrueGuard, TrueGuardOf, Cond, Bare, OnTrue, OnFalse, OnBoth}
use Rattle.c_grammar.specs.Stmt.{Jump, BareJump, ReturnValue, BareBlock, ValueBlock, First, FirstInts, FirstPlain, LoopStep, LoopStepOf, Stmt, Block, Nothing, Simply, Jumps, If, While, For, Else, NoElse, ElseDo, Items, NoItems, AndItem, Item, Declares, Does}
use Rattle.c_prog.specs.Valid.Scope.{int, Scope, declared, entered, passed}
use Rattle.c_names.specs.Uses.{Names}
use Rattle.c_names.specs.Scopes.{local_int_declared, loop_int_declared, with_local, listed, in_for, stmt_locals, item_after}
use Rattle.c_names.specs.LinesExpressions.{expr_lines, value_lines, plain_lines, simple_lines, value_calls, simple_calls}

-- the initialiser of a declarator
abbrev pub local_int_lines : Names → Scope → LocalInt → List ℕ
local_int_lines names scope (OneLocal x) = []
local_int_lines names scope (SetLocal x at v) = value_lines names (declared x.text int scope) v
local_int_lines names scope (LocalArray x before n after) = []

abbrev pub local_ints_lines : Names → Scope → List LocalInt → List ℕ
local_ints_lines names scope [] = []
local_ints_lines names scope (x ∷ more) = local_int_lines names scope x ++ local_ints_lines names (with_local (local_int_declared x) scope) more

abbrev pub decl_lines : Names → Scope → Decl → List ℕ
decl_lines names scope (Ints at x more) = local_ints_lines names scope (listed x more)
decl_lines names scope (Holds at x more) = []

abbrev pub loop_int_lines : Names → Scope → LoopInt → List ℕ
loop_int_lines names scope (OneLoop x) = []
loop_int_lines names scope (SetLoop x at e) = expr_lines names (declared x.text int scope) e

abbrev pub loop_ints_lines : Names → Scope → List LoopInt → List ℕ
loop_ints_lines names scope [] = []
loop_ints_lines names scope (x ∷ more) = loop_int_lines names scope x ++ loop_ints_lines names (with_local (loop_int_declared x) scope) more

-- the first part of a `for`
abbrev pub first_lines : Names → Scope → Option First → List ℕ
first_lines names scope None = []
first_lines names scope (Some (FirstInts at x more)) = loop_ints_lines names scope (listed x more)
first_lines names scope (Some (FirstPlain p)) = plain_lines names scope p

abbrev pub true_guard_lines : Names → Scope → TrueGuard → List ℕ
true_guard_lines names scope (TrueGuardOf before e after both before2 guard after2) = expr_lines names scope e

-- a condition
abbrev pub cond_lines : Names → Scope → Cond → List ℕ
cond_lines names scope (Bare e) = expr_lines names scope e
cond_lines names scope (OnTrue g) = true_guard_lines names scope g
cond_lines names scope (OnFalse before e after or before2 guard after2) = expr_lines names scope e
cond_lines names scope (OnBoth before g after or before2 guard after2) = true_guard_lines names scope g

abbrev pub test_lines : Names → Scope → Option Cond → List ℕ
test_lines names scope None = []
test_lines names scope (Some c) = cond_lines names scope c

-- the step of a `for`, if there is one
abbrev pub step_lines : Names → Scope → Option LoopStep → List ℕ
step_lines names scope None = []
step_lines names scope (Some (LoopStepOf p ops)) = plain_lines names scope p

-- a jump
abbrev pub jump_lines : Names → Scope → Jump → List ℕ
jump_lines names scope (BareJump b end) = []
jump_lines names scope (ReturnValue at v end) = value_lines names scope v
jump_lines names scope (BareBlock before op end ops b end2 after) = []
jump_lines names scope (ValueBlock before word name set v end op end2 ops return name2 end3 after) = value_lines names scope v

-- the accesses of statements
abbrev mutual
  pub stmt_lines : Names → Scope → Stmt → List ℕ
  stmt_lines names scope (Block before items after) = items_lines names (entered scope) items
  stmt_lines names scope (Nothing end) = []
  stmt_lines names scope (Simply simple end ops) = simple_lines names scope simple
  stmt_lines names scope (Jumps jump) = jump_lines names scope jump
  stmt_lines names scope (If at before c after st e) =
      cond_lines names scope c ++ (stmt_lines names (entered scope) st ++ else_lines names (passed (stmt_locals st) scope) e)
  stmt_lines names scope (While at before c after st) = cond_lines names scope c ++ stmt_lines names (entered scope) st
  stmt_lines names scope (For at before first end c end2 step after st) =
      first_lines names (entered scope) first ++ (test_lines names (in_for first scope) c
      ++ (step_lines names (in_for first scope) step ++ stmt_lines names (entered (in_for first scope)) st))

  pub else_lines : Names → Scope → Else → List ℕ
  else_lines names scope NoElse = []
  else_lines names scope (ElseDo at st) = stmt_lines names (entered scope) st

  pub items_lines : Names → Scope → Items → List ℕ
  items_lines names scope NoItems = []
  items_lines names scope (AndItem i more) = item_lines names scope i ++ items_lines names (item_after scope i) more

  pub item_lines : Names → Scope → Item → List ℕ
  item_lines names scope (Declares decl end ops) = decl_lines names scope decl
  item_lines names scope (Does st) = stmt_lines names scope st

-- ---- the called names

abbrev pub local_int_calls : LocalInt → List ℕ
local_int_calls (OneLocal x) = []
local_int_calls (SetLocal x at v) = value_calls v
local_int_calls (LocalArray x before n after) = []

abbrev pub decl_calls : Decl → List ℕ
decl_calls (Ints at x more) = each local_int_calls (listed x more)
decl_calls (Holds at x more) = []

abbrev pub jump_calls : Jump → List ℕ
jump_calls (BareJump b end) = []
jump_calls (ReturnValue at v end) = value_calls v
jump_calls (BareBlock before op end ops b end2 after) = []
jump_calls (ValueBlock before word name set v end op end2 ops return name2 end3 after) = value_calls v

-- the called names of statements; the parts of a `for` have none
abbrev mutual
  pub stmt_calls : Stmt → List ℕ
  stmt_calls (Block before items after) = items_calls items
  stmt_calls (Nothing end) = []
  stmt_calls (Simply simple end ops) = simple_calls simple
  stmt_calls (Jumps jump) = jump_calls jump
  stmt_calls (If at before c after st e) = stmt_calls st ++ else_calls e
  stmt_calls (While at before c after st) = stmt_calls st
  stmt_calls (For at before first end c end2 step after st) = stmt_calls st

  pub else_calls : Else → List ℕ
  else_calls NoElse = []
  else_calls (ElseDo at st) = stmt_calls st

  pub items_calls : Items → List ℕ
  items_calls NoItems = []
  items_calls (AndItem i more) = item_calls i ++ items_calls more

  pub item_calls : Item → List ℕ
  item_calls (Declares decl end ops) = decl_calls decl
  item_calls (Does st) = stmt_calls st
