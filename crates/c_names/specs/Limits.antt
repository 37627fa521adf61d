-- The limits of a source: how many nodes, functions, variables and cells it may have.
use Rattle.std.specs.Prelude.{ℕ, ◌-◌, nat_lt, List, [], ◌∷◌, ◌++◌, map, drop, Option, Some, None}
use Rattle.cfix_base.specs.declared.Spot.{Spot}
use Rattle.c_grammar.specs.Expr.{Expr, Number, Name, Index, Paren, Cast, Unary, Operation}
use Rattle.c_grammar.specs.Simple.{Target, TargetOf, Call, CallOf, Plain, SetTo, Changed, SteppedAfter, SteppedBefore, Library, Create, Join, Lock, Unlock, Print, Scan, Wait, Signal, Broadcast, Simple, PlainPart, SetCall, OnlyCall, LibraryPart}
use Rattle.c_grammar.specs.Decl.{Hold, OneThread, Threads, LocalInt, OneLocal, SetLocal, LocalArray, Decl, Ints, Holds, LoopInt, OneLoop, SetLoop}
use Rattle.c_grammar.specs.Cond.{TrueGuard, TrueGuardOf, Cond, Bare, OnTrue, OnFalse, OnBoth}
use Rattle.c_grammar.specs.Stmt.{Jump, BareJump, ReturnValue, BareBlock, ValueBlock, First, FirstInts, FirstPlain, LoopStep, LoopStepOf, Stmt, Block, Nothing, Simply, Jumps, If, While, For, Else, NoElse, ElseDo, Items, NoItems, AndItem, Item, Declares, Does}
use Rattle.c_names.specs.declared.fault.Fault.{Fault}
use Rattle.c_names.specs.declared.fault.FaultKind.TheVariants.{Limit}
use Rattle.c_names.specs.Faults.{fault, fault_if}
use Rattle.c_names.specs.Uses.{Names}
use Rattle.c_names.specs.Names.{size_length}
use Rattle.c_names.specs.Returns.{bare_spot}
use Rattle.c_names.specs.Scopes.{listed}

-- each of these that stands behind the first `limit` is one too many
abbrev pub excess_faults : ℕ → List Spot → List Fault
excess_faults limit spots = map (λ spot. fault spot Limit) (drop limit spots)

-- A declared name and how many cells its variable has.
abbrev pub Cells : Type 0
Cells = Spot × ℕ

-- each of these that has more cells than are left behind those before it is too large
abbrev pub cells_faults : ℕ → List Cells → List Fault
cells_faults left [] = []
cells_faults left (x ∷ more) = fault_if (nat_lt left x.1) x.0 Limit ++ cells_faults (left - x.1) more

-- ---- the cells of the locals of a body, in the order of the text: one of a scalar, and of an array its length

abbrev pub local_int_cells : Names → LocalInt → Cells
local_int_cells names (OneLocal x) = (x.spot, 1)
local_int_cells names (SetLocal x at v) = (x.spot, 1)
local_int_cells names (LocalArray x before n after) = (x.spot, size_length names n)

abbrev pub hold_cells : Names → Hold → Cells
hold_cells names (OneThread x) = (x.spot, 1)
hold_cells names (Threads x before n after) = (x.spot, size_length names n)

abbrev pub loop_int_cells : LoopInt → Cells
loop_int_cells (OneLoop x) = (x.spot, 1)
loop_int_cells (SetLoop x at e) = (x.spot, 1)

abbrev pub decl_cells : Names → Decl → List Cells
decl_cells names (Ints at x more) = map (local_int_cells names) (listed x more)
decl_cells names (Holds at x more) = map (hold_cells names) (listed x more)

abbrev pub first_cells : Option First → List Cells
first_cells None = []
first_cells (Some (FirstInts at x more)) = map loop_int_cells (listed x more)
first_cells (Some (FirstPlain p)) = []

abbrev mutual
  pub stmt_cells : Names → Stmt → List Cells
  stmt_cells names (Block before items after) = items_cells names items
  stmt_cells names (Nothing end) = []
  stmt_cells names (Simply simple end ops) = []
  stmt_cells names (Jumps jump) = []
  stmt_cells names (If at before c after st e) = stmt_cells names st ++ else_cells names e
  stmt_cells names (While at before c after st) = stmt_cells names st
  stmt_cells names (For at before first end c end2 step after st) = first_cells first ++ stmt_cells names st

  pub else_cells : Names → Else → List Cells
  else_cells names NoElse = []
  else_cells names (ElseDo at st) = stmt_cells names st

  pub items_cells : Names → Items → List Cells
  items_cells names NoItems = []
  items_cells names (AndItem i more) = item_cells names i ++ items_cells names more

  pub item_cells : Names → Item → List Cells
  item_cells names (Declares decl end ops) = decl_cells names decl
  item_cells names (Does st) = stmt_cells names st

-- ---- the nodes of a body, in the order of the text, each by the token at which it stands

-- the first token of an expression
abbrev pub expr_spot : Expr → Spot
expr_spot (Number n) = n.spot
expr_spot (Name x) = x.spot
expr_spot (Index x before e after) = x.spot
expr_spot (Paren before e after) = before
expr_spot (Cast before word after long x) = before
expr_spot (Unary op at e) = at
expr_spot (Operation a op at b) = expr_spot a

abbrev pub target_spot : Target → Spot
target_spot (TargetOf x index) = x.spot

abbrev pub call_spot : Call → Spot
call_spot (CallOf f before args after) = f.spot

abbrev pub plain_spot : Plain → Spot
plain_spot (SetTo t at e) = target_spot t
plain_spot (Changed t how at e) = target_spot t
plain_spot (SteppedAfter t step at) = target_spot t
plain_spot (SteppedBefore step at t) = at

abbrev pub library_spot : Library → Spot
library_spot (Create at before amp t comma1 null comma2 f comma3 arg after) = at
library_spot (Join at before t comma null after) = at
library_spot (Lock at before amp m after) = at
library_spot (Unlock at before amp m after) = at
library_spot (Print at before text more after) = at
library_spot (Scan at before text comma amp t after) = at
library_spot (Wait at before amp1 c comma amp2 m after) = at
library_spot (Signal at before amp c after) = at
library_spot (Broadcast at before amp c after) = at

abbrev pub simple_spot : Simple → Spot
simple_spot (PlainPart p) = plain_spot p
simple_spot (SetCall t at c) = target_spot t
simple_spot (OnlyCall c) = call_spot c
simple_spot (LibraryPart l) = library_spot l

abbrev pub true_guard_spot : TrueGuard → Spot
true_guard_spot (TrueGuardOf before e after both before2 guard after2) = before

abbrev pub cond_spot : Cond → Spot
cond_spot (Bare e) = expr_spot e
cond_spot (OnTrue g) = true_guard_spot g
cond_spot (OnFalse before e after or before2 guard after2) = before
cond_spot (OnBoth before g after or before2 guard after2) = before

-- a jump block stands at its `{`
abbrev pub jump_spot : Jump → Spot
jump_spot (BareJump b end) = bare_spot b
jump_spot (ReturnValue at v end) = at
jump_spot (BareBlock before op end ops b end2 after) = before
jump_spot (ValueBlock before word name set v end op end2 ops return name2 end3 after) = before

-- a declaration stands at the name that it declares
abbrev pub local_int_spot : LocalInt → Spot
local_int_spot (OneLocal x) = x.spot
local_int_spot (SetLocal x at v) = x.spot
local_int_spot (LocalArray x before n after) = x.spot

abbrev pub hold_spot : Hold → Spot
hold_spot (OneThread x) = x.spot
hold_spot (Threads x before n after) = x.spot

abbrev pub loop_int_spot : LoopInt → Spot
loop_int_spot (OneLoop x) = x.spot
loop_int_spot (SetLoop x at e) = x.spot

abbrev pub decl_nodes : Decl → List Spot
decl_nodes (Ints at x more) = map local_int_spot (listed x more)
decl_nodes (Holds at x more) = map hold_spot (listed x more)

abbrev pub first_nodes : Option First → List Spot
first_nodes None = []
first_nodes (Some (FirstInts at x more)) = map loop_int_spot (listed x more)
first_nodes (Some (FirstPlain p)) = plain_spot p ∷ []

abbrev pub step_nodes : Option LoopStep → List Spot
step_nodes None = []
step_nodes (Some (LoopStepOf p ops)) = plain_spot p ∷ []

-- the first part and the condition of a `for`: an absent condition stands at the `for`
abbrev pub for_nodes : Spot → Option First → Option Cond → List Spot
for_nodes at first None = at ∷ first_nodes first
for_nodes at first (Some c) = first_nodes first ++ cond_spot c ∷ []

abbrev mutual
  pub stmt_nodes : Stmt → List Spot
  stmt_nodes (Block before items after) = items_nodes items
  stmt_nodes (Nothing end) = []
  stmt_nodes (Simply simple end ops) = simple_spot simple ∷ []
  stmt_nodes (Jumps jump) = jump_spot jump ∷ []
  stmt_nodes (If at before c after st e) = cond_spot c ∷ (stmt_nodes st ++ else_nodes e)
  stmt_nodes (While at before c after st) = cond_spot c ∷ stmt_nodes st
  stmt_nodes (For at before first end c end2 step after st) = for_nodes at first c ++ (step_nodes step ++ stmt_nodes st)

  pub else_nodes : Else → List Spot
  else_nodes NoElse = []
  else_nodes (ElseDo at st) = stmt_nodes st

  pub items_nodes : Items → List Spot
  items_nodes NoItems = []
  items_nodes (AndItem i more) = item_nodes i ++ items_nodes more

  pub item_nodes : Item → List Spot
  item_nodes (Declares decl end ops) = decl_nodes decl
  item_nodes (Does st) = stmt_nodes st
