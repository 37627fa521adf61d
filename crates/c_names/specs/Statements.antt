-- Declarations, conditions and statements of a body: the faults of their names.
use Rattle.std.specs.Prelude.{List, [], ◌∷◌, ◌++◌, Option, Some, None}
use Rattle.c_grammar.specs.Decl.{Hold, OneThread, Threads, LocalInt, OneLocal, SetLocal, LocalArray, Decl, Ints, Holds, LoopInt, OneLoop, SetLoop}
use Rattle.c_grammar.specs.Cond.{Guard, GuardOf, TrueGuard, TrueGuardOf, Cond, Bare, OnTrue, OnFalse, OnBoth}
use Rattle.c_grammar.specs.Stmt.{First, FirstInts, FirstPlain, LoopStep, LoopStepOf, Stmt, Block, Nothing, Simply, Jumps, If, While, For, Else, NoElse, ElseDo, Items, NoItems, AndItem, Item, Declares, Does}
use Rattle.c_prog.specs.Valid.Scope.{int, Scope, declared, entered, passed}
use Rattle.c_prog.specs.Valid.Statements.{Around, looped}
use Rattle.c_names.specs.declared.fault.Fault.{Fault}
use Rattle.c_names.specs.Uses.{Names}
use Rattle.c_names.specs.Names.{declare_faults, size_faults, size_length, length_faults}
use Rattle.c_names.specs.Expressions.{expr_faults, value_faults}
use Rattle.c_names.specs.Simples.{op_faults, ops_faults, more_ops_faults, plain_faults, simple_faults}
use Rattle.c_names.specs.Scopes.{local_int_declared, hold_declared, loop_int_declared, with_local, listed, in_for, stmt_locals, item_after}
use Rattle.c_names.specs.Returns.{jump_faults}

-- A declarator of type `int`: its initialiser sees the name, since the scope of a name begins behind its declarator
-- (6.2.1 of ISO/IEC 9899:2011); a length does not.
abbrev pub local_int_faults : Names → Scope → LocalInt → List Fault
local_int_faults names scope (OneLocal x) = declare_faults names scope x
local_int_faults names scope (SetLocal x at v) = declare_faults names scope x ++ value_faults names (declared x.text int scope) v
local_int_faults names scope (LocalArray x before n after) =
    declare_faults names scope x ++ (length_faults (size_length names n) x.spot ++ size_faults names scope n)

-- declarators, each of which sees the names of those before it
abbrev pub local_ints_faults : Names → Scope → List LocalInt → List Fault
local_ints_faults names scope [] = []
local_ints_faults names scope (x ∷ more) = local_int_faults names scope x ++ local_ints_faults names (with_local (local_int_declared x) scope) more

-- a declarator of type `pthread_t`
abbrev pub hold_faults : Names → Scope → Hold → List Fault
hold_faults names scope (OneThread x) = declare_faults names scope x
hold_faults names scope (Threads x before n after) =
    declare_faults names scope x ++ (length_faults (size_length names n) x.spot ++ size_faults names scope n)

abbrev pub holds_faults : Names → Scope → List Hold → List Fault
holds_faults names scope [] = []
holds_faults names scope (x ∷ more) = hold_faults names scope x ++ holds_faults names (with_local (hold_declared x) scope) more

-- a declaration of locals
abbrev pub decl_faults : Names → Scope → Decl → List Fault
decl_faults names scope (Ints at x more) = local_ints_faults names scope (listed x more)
decl_faults names scope (Holds at x more) = holds_faults names scope (listed x more)

-- a declarator in the first part of a `for`
abbrev pub loop_int_faults : Names → Scope → LoopInt → List Fault
loop_int_faults names scope (OneLoop x) = declare_faults names scope x
loop_int_faults names scope (SetLoop x at e) = declare_faults names scope x ++ expr_faults names (declared x.text int scope) e

abbrev pub loop_ints_faults : Names → Scope → List LoopInt → List Fault
loop_ints_faults names scope [] = []
loop_ints_faults names scope (x ∷ more) = loop_int_faults names scope x ++ loop_ints_faults names (with_local (loop_int_declared x) scope) more

-- the first part of a `for`, in the block of the `for`
abbrev pub first_faults : Names → Scope → Option First → List Fault
first_faults names scope None = []
first_faults names scope (Some (FirstInts at x more)) = loop_ints_faults names scope (listed x more)
first_faults names scope (Some (FirstPlain p)) = plain_faults names scope p

-- the operations of a guard
abbrev pub guard_faults : Guard → List Fault
guard_faults (GuardOf op comma more at) = op_faults op ++ ops_faults more

abbrev pub true_guard_faults : Names → Scope → TrueGuard → List Fault
true_guard_faults names scope (TrueGuardOf before e after both before2 guard after2) = expr_faults names scope e ++ guard_faults guard

-- a condition with its operations
abbrev pub cond_faults : Names → Scope → Cond → List Fault
cond_faults names scope (Bare e) = expr_faults names scope e
cond_faults names scope (OnTrue g) = true_guard_faults names scope g
cond_faults names scope (OnFalse before e after or before2 guard after2) = expr_faults names scope e ++ guard_faults guard
cond_faults names scope (OnBoth before g after or before2 guard after2) = true_guard_faults names scope g ++ guard_faults guard

-- the condition of a `for`, if there is one
abbrev pub test_faults : Names → Scope → Option Cond → List Fault
test_faults names scope None = []
test_faults names scope (Some c) = cond_faults names scope c

-- the step of a `for` with its operations, if there is one
abbrev pub step_faults : Names → Scope → Option LoopStep → List Fault
step_faults names scope None = []
step_faults names scope (Some (LoopStepOf p ops)) = plain_faults names scope p ++ more_ops_faults ops

-- Statements, in what they stand in. What stands under `if`, `else`, `while` and `for` is a block of its own
-- (6.8.4 and 6.8.5 of ISO/IEC 9899:2011).
abbrev mutual
  pub stmt_faults : Names → Around → Scope → Stmt → List Fault
  stmt_faults names around scope (Block before items after) = items_faults names around (entered scope) items
  stmt_faults names around scope (Nothing end) = []
  stmt_faults names around scope (Simply simple end ops) = simple_faults names scope simple ++ ops_faults ops
  stmt_faults names around scope (Jumps jump) = jump_faults names around scope jump
  stmt_faults names around scope (If at before c after st e) =
      cond_faults names scope c ++ (stmt_faults names around (entered scope) st ++ else_faults names around (passed (stmt_locals st) scope) e)
  stmt_faults names around scope (While at before c after st) = cond_faults names scope c ++ stmt_faults names (looped around) (entered scope) st
  stmt_faults names around scope (For at before first end c end2 step after st) =
      first_faults names (entered scope) first ++ (test_faults names (in_for first scope) c
      ++ (step_faults names (in_for first scope) step ++ stmt_faults names (looped around) (entered (in_for first scope)) st))

  pub else_faults : Names → Around → Scope → Else → List Fault
  else_faults names around scope NoElse = []
  else_faults names around scope (ElseDo at st) = stmt_faults names around (entered scope) st

  pub items_faults : Names → Around → Scope → Items → List Fault
  items_faults names around scope NoItems = []
  items_faults names around scope (AndItem i more) = item_faults names around scope i ++ items_faults names around (item_after scope i) more

  pub item_faults : Names → Around → Scope → Item → List Fault
  item_faults names around scope (Declares decl end ops) = decl_faults names scope decl ++ ops_faults ops
  item_faults names around scope (Does st) = stmt_faults names around scope st
