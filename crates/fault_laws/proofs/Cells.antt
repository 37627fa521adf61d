-- The variables of a body stand at their names.
use Rattle.std.proofs.Common.{ℕ, suc, ◌-◌, List, [], ◌∷◌, map, Option, Some, None}
use Rattle.cfix_base.specs.declared.Spot.{Spot}
use Rattle.c_grammar.specs.declared.sign.Sign.TheVariants as s
use Rattle.c_grammar.specs.Marks.{each, maybe}
use Rattle.c_grammar.specs.Token.{Mark, sign}
use Rattle.c_grammar.specs.Decl.{Hold, OneThread, Threads, hold_marks, LocalInt, OneLocal, SetLocal, LocalArray, local_int_marks, Decl, Ints, Holds, decl_marks, LoopInt, OneLoop, SetLoop, loop_int_marks}
use Rattle.c_grammar.specs.Stmt.{First, FirstInts, FirstPlain, first_marks, Stmt, Block, Nothing, Simply, Jumps, If, While, For, Else, NoElse, ElseDo, Items, NoItems, AndItem, Item, Declares, Does, stmt_marks, else_marks, items_marks, item_marks}
use Rattle.c_names.specs.declared.fault.FaultKind.TheVariants.{Limit}
use Rattle.c_names.specs.Uses.{Names}
use Rattle.c_names.specs.Limits.{Cells, cells_faults, local_int_cells, hold_cells, loop_int_cells, decl_cells, first_cells, stmt_cells, else_cells, items_cells, item_cells}
use Rattle.fault_laws.proofs.Each.{Each, none, more, first, rest, front, back, both, Tokens, Faults, if_so}

-- it holds of the place of each variable
abbrev pub Variables : (Spot → Type 0) → List Cells → Type 0
Variables P xs = Each (λ (x : Cells). P x.0) xs

pub too_large-at : (P : Spot → Type 0) (xs : List Cells) (left : ℕ) → Variables P xs → Faults P (cells_faults left xs)
too_large-at P [] left h = none
too_large-at P (x ∷ xs) left h = both (if_so P _ x.0 Limit (first h)) (too_large-at P xs (left - x.1) (rest h))

-- what holds of each item behind a comma
pub behind_commas : {A B : Type 0} (P : Spot → Type 0) (R : B → Type 0) (d : ℕ) (marks : A → List Mark) (of : A → B)
    → ((a : A) → Tokens P (marks a) → R (of a)) → (list : List (Spot × A))
    → Tokens P (each (λ y. (sign s.Comma y.0, d) ∷ marks y.1) list) → Each R (map of (map (λ y. y.1) list))
behind_commas P R d marks of so [] h = none
behind_commas P R d marks of so (y ∷ list) h = more (so y.1 (front _ _ (rest h))) (behind_commas P R d marks of so list (back _ _ (rest h)))

local_int_cells-at : (P : Spot → Type 0) (names : Names) (d : ℕ) (x : LocalInt) → Tokens P (local_int_marks d x) → P (local_int_cells names x).0
local_int_cells-at P names d (OneLocal x) h = first h
local_int_cells-at P names d (SetLocal x at v) h = first h
local_int_cells-at P names d (LocalArray x before n after) h = first h

hold_cells-at : (P : Spot → Type 0) (names : Names) (d : ℕ) (x : Hold) → Tokens P (hold_marks d x) → P (hold_cells names x).0
hold_cells-at P names d (OneThread x) h = first h
hold_cells-at P names d (Threads x before n after) h = first h

loop_int_cells-at : (P : Spot → Type 0) (d : ℕ) (x : LoopInt) → Tokens P (loop_int_marks d x) → P (loop_int_cells x).0
loop_int_cells-at P d (OneLoop x) h = first h
loop_int_cells-at P d (SetLoop x at e) h = first h

decl_cells-at : (P : Spot → Type 0) (names : Names) (d : ℕ) (x : Decl) → Tokens P (decl_marks d x) → Variables P (decl_cells names x)
decl_cells-at P names d (Ints at x list) h =
    more (local_int_cells-at P names d x (front _ _ (rest h)))
    (behind_commas P (λ (x : Cells). P x.0) d (local_int_marks d) (local_int_cells names) (local_int_cells-at P names d) list (back _ _ (rest h)))
decl_cells-at P names d (Holds at x list) h =
    more (hold_cells-at P names d x (front _ _ (rest h)))
    (behind_commas P (λ (x : Cells). P x.0) d (hold_marks d) (hold_cells names) (hold_cells-at P names d) list (back _ _ (rest h)))

first_cells-at : (P : Spot → Type 0) (d : ℕ) (x : Option First) → Tokens P (maybe [] (first_marks d) x) → Variables P (first_cells x)
first_cells-at P d None h = none
first_cells-at P d (Some (FirstInts at x list)) h =
    more (loop_int_cells-at P d x (front _ _ (rest h)))
    (behind_commas P (λ (x : Cells). P x.0) d (loop_int_marks d) loop_int_cells (loop_int_cells-at P d) list (back _ _ (rest h)))
first_cells-at P d (Some (FirstPlain p)) h = none

mutual
  pub stmt_cells-at : (P : Spot → Type 0) (names : Names) (d : ℕ) (st : Stmt) → Tokens P (stmt_marks d st) → Variables P (stmt_cells names st)
  stmt_cells-at P names d (Block before items after) h = items_cells-at P names (suc d) items (front _ _ (rest h))
  stmt_cells-at P names d (Nothing end) h = none
  stmt_cells-at P names d (Simply x end ops) h = none
  stmt_cells-at P names d (Jumps j) h = none
  stmt_cells-at P names d (If at before c after st e) h =
      let behind = rest (back _ _ (rest (rest h))) in
      both (stmt_cells-at P names (suc d) st (front _ _ behind)) (else_cells-at P names (suc d) e (back _ _ behind))
  stmt_cells-at P names d (While at before c after st) h = stmt_cells-at P names (suc d) st (rest (back _ _ (rest (rest h))))
  stmt_cells-at P names d (For at before part end c end2 step after st) h =
      let behind = rest (back _ _ (rest (back _ _ (rest (rest h))))) in
      both (first_cells-at P (suc (suc d)) part (front _ _ (rest (rest h)))) (stmt_cells-at P names (suc (suc d)) st (rest (back _ _ behind)))

  pub else_cells-at : (P : Spot → Type 0) (names : Names) (d : ℕ) (e : Else) → Tokens P (else_marks d e) → Variables P (else_cells names e)
  else_cells-at P names d NoElse h = none
  else_cells-at P names d (ElseDo at st) h = stmt_cells-at P names d st (rest h)

  pub items_cells-at : (P : Spot → Type 0) (names : Names) (d : ℕ) (items : Items) → Tokens P (items_marks d items) → Variables P (items_cells names items)
  items_cells-at P names d NoItems h = none
  items_cells-at P names d (AndItem i list) h = both (item_cells-at P names d i (front _ _ h)) (items_cells-at P names d list (back _ _ h))

  pub item_cells-at : (P : Spot → Type 0) (names : Names) (d : ℕ) (i : Item) → Tokens P (item_marks d i) → Variables P (item_cells names i)
  item_cells-at P names d (Declares x end ops) h = decl_cells-at P names d x (front _ _ h)
  item_cells-at P names d (Does st) h = stmt_cells-at P names d st h
