-- The nodes of a body stand at tokens.
use Rattle.std.proofs.Common.{ℕ, zero, suc, List, [], ◌∷◌, map, drop, Option, Some, None}
use Rattle.cfix_base.specs.declared.Spot.{Spot}
use Rattle.c_grammar.specs.Marks.{maybe}
use Rattle.c_grammar.specs.Expr.{Expr, Number, Name, Index, Paren, Cast, Unary, Operation, pieces}
use Rattle.c_grammar.specs.Simple.{Target, TargetOf, target_marks, Call, CallOf, call_marks, Plain, SetTo, Changed, SteppedAfter, SteppedBefore, plain_marks, Library, Create, Join, Lock, Unlock, Print, Scan, Wait, Signal, Broadcast, library_marks, Simple, PlainPart, SetCall, OnlyCall, LibraryPart, simple_marks}
use Rattle.c_grammar.specs.Decl.{Hold, OneThread, Threads, hold_marks, LocalInt, OneLocal, SetLocal, LocalArray, local_int_marks, Decl, Ints, Holds, decl_marks, LoopInt, OneLoop, SetLoop, loop_int_marks}
use Rattle.c_grammar.specs.Cond.{TrueGuard, TrueGuardOf, Cond, Bare, OnTrue, OnFalse, OnBoth, true_guard_pieces, cond_pieces, cond_marks}
use Rattle.c_grammar.specs.Stmt.{Jump, BareJump, ReturnValue, BareBlock, ValueBlock, jump_marks, First, FirstInts, FirstPlain, first_marks, LoopStep, LoopStepOf, loop_step_marks, Stmt, Block, Nothing, Simply, Jumps, If, While, For, Else, NoElse, ElseDo, Items, NoItems, AndItem, Item, Declares, Does, stmt_marks, else_marks, items_marks, item_marks}
use Rattle.c_names.specs.declared.fault.FaultKind.TheVariants.{Limit}
use Rattle.c_names.specs.Faults.{fault}
use Rattle.c_names.specs.Limits.{excess_faults, expr_spot, target_spot, call_spot, plain_spot, library_spot, simple_spot, true_guard_spot, cond_spot, jump_spot, local_int_spot, hold_spot, loop_int_spot, decl_nodes, first_nodes, step_nodes, for_nodes, stmt_nodes, else_nodes, items_nodes, item_nodes}
use Rattle.fault_laws.proofs.Each.{Each, none, more, only, first, rest, front, back, both, Tokens, Pieces, Faults, unplaced}
use Rattle.fault_laws.proofs.Simples.{bare-at}
use Rattle.fault_laws.proofs.Cells.{behind_commas}

limit_faults : (P : Spot → Type 0) (spots : List Spot) → Each P spots → Faults P (map (λ spot. fault spot Limit) spots)
limit_faults P [] h = none
limit_faults P (x ∷ xs) h = more (first h) (limit_faults P xs (rest h))

behind_limit : (P : Spot → Type 0) (limit : ℕ) (spots : List Spot) → Each P spots → Each P (drop limit spots)
behind_limit P zero xs h = h
behind_limit P (suc n) [] h = none
behind_limit P (suc n) (x ∷ xs) h = behind_limit P n xs (rest h)

pub excess-at : (P : Spot → Type 0) (limit : ℕ) (spots : List Spot) → Each P spots → Faults P (excess_faults limit spots)
excess-at P limit spots h = limit_faults P (drop limit spots) (behind_limit P limit spots h)

expr_spot-at : (P : Spot → Type 0) (d : ℕ) (e : Expr) → Pieces P (pieces d e) → P (expr_spot e)
expr_spot-at P d (Number n) h = first h
expr_spot-at P d (Name x) h = first h
expr_spot-at P d (Index x before e after) h = first h
expr_spot-at P d (Paren before e after) h = first h
expr_spot-at P d (Cast before word after long x) h = first h
expr_spot-at P d (Unary op at e) h = first h
expr_spot-at P d (Operation a op at b) h = expr_spot-at P d a (front _ _ h)

target_spot-at : (P : Spot → Type 0) (d : ℕ) (t : Target) → Tokens P (target_marks d t) → P (target_spot t)
target_spot-at P d (TargetOf x index) h = first h

call_spot-at : (P : Spot → Type 0) (d : ℕ) (x : Call) → Tokens P (call_marks d x) → P (call_spot x)
call_spot-at P d (CallOf f before args after) h = first h

plain_spot-at : (P : Spot → Type 0) (d : ℕ) (p : Plain) → Tokens P (plain_marks d p) → P (plain_spot p)
plain_spot-at P d (SetTo t at e) h = target_spot-at P d t (front _ _ h)
plain_spot-at P d (Changed t how at e) h = target_spot-at P d t (front _ _ h)
plain_spot-at P d (SteppedAfter t step at) h = target_spot-at P d t (front _ _ h)
plain_spot-at P d (SteppedBefore step at t) h = first h

library_spot-at : (P : Spot → Type 0) (d : ℕ) (l : Library) → Tokens P (library_marks d l) → P (library_spot l)
library_spot-at P d (Create at before amp t comma1 null comma2 f comma3 arg after) h = first h
library_spot-at P d (Join at before t comma null after) h = first h
library_spot-at P d (Lock at before amp m after) h = first h
library_spot-at P d (Unlock at before amp m after) h = first h
library_spot-at P d (Print at before text list after) h = first h
library_spot-at P d (Scan at before text comma amp t after) h = first h
library_spot-at P d (Wait at before amp1 c comma amp2 m after) h = first h
library_spot-at P d (Signal at before amp c after) h = first h
library_spot-at P d (Broadcast at before amp c after) h = first h

simple_spot-at : (P : Spot → Type 0) (d : ℕ) (x : Simple) → Tokens P (simple_marks d x) → P (simple_spot x)
simple_spot-at P d (PlainPart p) h = plain_spot-at P d p h
simple_spot-at P d (SetCall t at x) h = target_spot-at P d t (front _ _ h)
simple_spot-at P d (OnlyCall x) h = call_spot-at P d x h
simple_spot-at P d (LibraryPart l) h = library_spot-at P d l h

true_guard_spot-at : (P : Spot → Type 0) (d : ℕ) (g : TrueGuard) → Pieces P (true_guard_pieces d g) → P (true_guard_spot g)
true_guard_spot-at P d (TrueGuardOf before e after sign before2 guard after2) h = first h

cond_pieces_spot : (P : Spot → Type 0) (d : ℕ) (c : Cond) → Pieces P (cond_pieces d c) → P (cond_spot c)
cond_pieces_spot P d (Bare e) h = expr_spot-at P d e h
cond_pieces_spot P d (OnTrue g) h = true_guard_spot-at P d g h
cond_pieces_spot P d (OnFalse before e after sign before2 guard after2) h = first h
cond_pieces_spot P d (OnBoth before g after sign before2 guard after2) h = first h

cond_spot-at : (P : Spot → Type 0) (d : ℕ) (c : Cond) → Tokens P (cond_marks d c) → P (cond_spot c)
cond_spot-at P d c h = cond_pieces_spot P d c (unplaced P 0 (cond_pieces d c) h)

jump_spot-at : (P : Spot → Type 0) (d : ℕ) (j : Jump) → Tokens P (jump_marks d j) → P (jump_spot j)
jump_spot-at P d (BareJump b end) h = bare-at P d b (front _ _ h)
jump_spot-at P d (ReturnValue at v end) h = first h
jump_spot-at P d (BareBlock before op end ops b end2 after) h = first h
jump_spot-at P d (ValueBlock before word name set v end op end2 ops return name2 end3 after) h = first h

local_int_spot-at : (P : Spot → Type 0) (d : ℕ) (x : LocalInt) → Tokens P (local_int_marks d x) → P (local_int_spot x)
local_int_spot-at P d (OneLocal x) h = first h
local_int_spot-at P d (SetLocal x at v) h = first h
local_int_spot-at P d (LocalArray x before n after) h = first h

hold_spot-at : (P : Spot → Type 0) (d : ℕ) (x : Hold) → Tokens P (hold_marks d x) → P (hold_spot x)
hold_spot-at P d (OneThread x) h = first h
hold_spot-at P d (Threads x before n after) h = first h

loop_int_spot-at : (P : Spot → Type 0) (d : ℕ) (x : LoopInt) → Tokens P (loop_int_marks d x) → P (loop_int_spot x)
loop_int_spot-at P d (OneLoop x) h = first h
loop_int_spot-at P d (SetLoop x at e) h = first h

decl_nodes-at : (P : Spot → Type 0) (d : ℕ) (x : Decl) → Tokens P (decl_marks d x) → Each P (decl_nodes x)
decl_nodes-at P d (Ints at x list) h =
    more (local_int_spot-at P d x (front _ _ (rest h))) (behind_commas P P d (local_int_marks d) local_int_spot (local_int_spot-at P d) list (back _ _ (rest h)))
decl_nodes-at P d (Holds at x list) h =
    more (hold_spot-at P d x (front _ _ (rest h))) (behind_commas P P d (hold_marks d) hold_spot (hold_spot-at P d) list (back _ _ (rest h)))

first_nodes-at : (P : Spot → Type 0) (d : ℕ) (x : Option First) → Tokens P (maybe [] (first_marks d) x) → Each P (first_nodes x)
first_nodes-at P d None h = none
first_nodes-at P d (Some (FirstInts at x list)) h =
    more (loop_int_spot-at P d x (front _ _ (rest h))) (behind_commas P P d (loop_int_marks d) loop_int_spot (loop_int_spot-at P d) list (back _ _ (rest h)))
first_nodes-at P d (Some (FirstPlain p)) h = only (plain_spot-at P d p h)

step_nodes-at : (P : Spot → Type 0) (d : ℕ) (x : Option LoopStep) → Tokens P (maybe [] (loop_step_marks d) x) → Each P (step_nodes x)
step_nodes-at P d None h = none
step_nodes-at P d (Some (LoopStepOf p ops)) h = only (plain_spot-at P d p (front _ _ h))

for_nodes-at : (P : Spot → Type 0) (d : ℕ) (at : Spot) (x : Option First) (c : Option Cond) → P at
    → Tokens P (maybe [] (first_marks d) x) → Tokens P (maybe [] (cond_marks d) c) → Each P (for_nodes at x c)
for_nodes-at P d at x None here f g = more here (first_nodes-at P d x f)
for_nodes-at P d at x (Some c) here f g = both (first_nodes-at P d x f) (only (cond_spot-at P d c g))

mutual
  pub stmt_nodes-at : (P : Spot → Type 0) (d : ℕ) (st : Stmt) → Tokens P (stmt_marks d st) → Each P (stmt_nodes st)
  stmt_nodes-at P d (Block before items after) h = items_nodes-at P (suc d) items (front _ _ (rest h))
  stmt_nodes-at P d (Nothing end) h = none
  stmt_nodes-at P d (Simply x end ops) h = only (simple_spot-at P d x (front _ _ h))
  stmt_nodes-at P d (Jumps j) h = only (jump_spot-at P d j h)
  stmt_nodes-at P d (If at before c after st e) h =
      let behind = rest (back _ _ (rest (rest h))) in
      more (cond_spot-at P (suc d) c (front _ _ (rest (rest h)))) (both (stmt_nodes-at P (suc d) st (front _ _ behind)) (else_nodes-at P (suc d) e (back _ _ behind)))
  stmt_nodes-at P d (While at before c after st) h =
      more (cond_spot-at P (suc d) c (front _ _ (rest (rest h)))) (stmt_nodes-at P (suc d) st (rest (back _ _ (rest (rest h)))))
  stmt_nodes-at P d (For at before part end c end2 step after st) h =
      let test = rest (back _ _ (rest (rest h))) in
      let behind = rest (back _ _ test) in
      both (for_nodes-at P (suc (suc d)) at part c (first h) (front _ _ (rest (rest h))) (front _ _ test))
      (both (step_nodes-at P (suc (suc d)) step (front _ _ behind)) (stmt_nodes-at P (suc (suc d)) st (rest (back _ _ behind))))

  pub else_nodes-at : (P : Spot → Type 0) (d : ℕ) (e : Else) → Tokens P (else_marks d e) → Each P (else_nodes e)
  else_nodes-at P d NoElse h = none
  else_nodes-at P d (ElseDo at st) h = stmt_nodes-at P d st (rest h)

  pub items_nodes-at : (P : Spot → Type 0) (d : ℕ) (items : Items) → Tokens P (items_marks d items) → Each P (items_nodes items)
  items_nodes-at P d NoItems h = none
  items_nodes-at P d (AndItem i list) h = both (item_nodes-at P d i (front _ _ h)) (items_nodes-at P d list (back _ _ h))

  pub item_nodes-at : (P : Spot → Type 0) (d : ℕ) (i : Item) → Tokens P (item_marks d i) → Each P (item_nodes i)
  item_nodes-at P d (Declares x end ops) h = decl_nodes-at P d x (front _ _ h)
  item_nodes-at P d (Does st) h = stmt_nodes-at P d st h
