-- Statements declare at most as many locals as they have nodes.
use Rattle.std.proofs.Common.{◌≡◌, ℕ, zero, suc, ◌+◌, ◌≤◌, true, List, [], ◌∷◌, map, length, slice_get, Some, subst, ap, sym, arith}
use Rattle.std.specs.List.{list_all}
use Rattle.std.proofs.lemmas.List.{length-append}
use Rattle.std.proofs.lemmas.Bool.{and_parts, leb-true}
use Rattle.c_prog.specs.declared.act.Act.{Act}
use Rattle.c_prog.specs.declared.act.Act.TheVariants as act
use Rattle.c_prog.specs.declared.function.Function.{Function}
use Rattle.c_prog.specs.declared.stmt.Stmt.{Stmt}
use Rattle.c_prog.specs.declared.stmt.Stmt.TheVariants as stmt
use Rattle.c_prog.specs.declared.stmt.Stmt.TheViews.{roll-Stmt}
use Rattle.c_prog.specs.declared.stmt.Stmt.TheOpen.{Stmt-F}
use Rattle.c_prog.specs.declared.stmt.Stmt.TheFolds.{ind-Stmt, map-Stmt}
use Rattle.c_prog.specs.Nodes.{nodes, nodes_of, functions_nodes}
use Rattle.c_prog.specs.Valid.Locals.{act_locals, locals, locals_of, function_locals, function_cells}
use Rattle.c_prog.proofs.Equations.{nodes-Simple, nodes-If, nodes-Loop, nodes-Block}
use Rattle.c_prog.proofs.ValidEquations.{locals-Simple, locals-Jump, locals-If, locals-Loop, locals-Block}
use Rattle.valid_law.proofs.Cells.{has_few_cells}

abbrev AreFew : Stmt → Type 0
AreFew s = length (locals s) ≤ nodes s

abbrev E : Type 0
E = (s : Stmt) × AreFew s

abbrev stmts : List E → List Stmt
stmts es = map (λ e. e.0) es

all-few : (es : List E) → length (locals_of (stmts es)) ≤ nodes_of (stmts es)
all-few [] = omega (arith)
all-few (e ∷ es) = omega (arith, length-append (locals e.0) (locals_of (stmts es)), e.1, all-few es)

one-local : (a : Act) → length (act_locals a) ≤ 1
one-local (act.Declare name kind initial) = omega (arith)
one-local (act.Assign target how value) = omega (arith)
one-local (act.Up target) = omega (arith)
one-local (act.Down target) = omega (arith)
one-local (act.Call call) = omega (arith)
one-local (act.Create target function arg) = omega (arith)
one-local (act.Join target) = omega (arith)
one-local (act.Lock lock) = omega (arith)
one-local (act.Unlock lock) = omega (arith)
one-local (act.Print text args) = omega (arith)
one-local (act.Scan target) = omega (arith)
one-local (act.Wait waited lock) = omega (arith)
one-local (act.Signal waited) = omega (arith)
one-local (act.Broadcast waited) = omega (arith)

level : (y : Stmt-F E) → AreFew (roll-Stmt (map-Stmt E Stmt (λ e. e.0) y))
level (Stmt-F.Simple a ops) =
    subst AreFew (sym (stmt.rolls-Simple a ops)) (omega (arith, ap length (locals-Simple a ops), one-local a, nodes-Simple a ops))
level (Stmt-F.Jump j ops) = subst AreFew (sym (stmt.rolls-Jump j ops)) (omega (arith, ap length (locals-Jump j ops)))
level (Stmt-F.If c x y) =
    subst AreFew (sym (stmt.rolls-If c (stmts x) (stmts y)))
    (omega (
      arith,
      ap length (locals-If c (stmts x) (stmts y)),
      length-append (locals_of (stmts x)) (locals_of (stmts y)),
      all-few x,
      all-few y,
      nodes-If c (stmts x) (stmts y),
    ))
level (Stmt-F.Loop c s x) =
    subst AreFew (sym (stmt.rolls-Loop c s (stmts x)))
    (omega (arith, ap length (locals-Loop c s (stmts x)), all-few x, nodes-Loop c s (stmts x)))
level (Stmt-F.Block x) =
    subst AreFew (sym (stmt.rolls-Block (stmts x)))
    (omega (arith, ap length (locals-Block (stmts x)), all-few x, nodes-Block (stmts x)))

few-locals : (s : Stmt) → length (locals s) ≤ nodes s
few-locals = ind-Stmt AreFew (λ x y is. subst (λ z. AreFew (roll-Stmt z)) is (level y))

pub few-locals_of : (list : List Stmt) → length (locals_of list) ≤ nodes_of list
few-locals_of [] = omega (arith)
few-locals_of (s ∷ list) = omega (arith, length-append (locals s) (locals_of list), few-locals s, few-locals_of list)

-- a function among these has few parameters and locals
pub locals-among : (list : List Function) (n : ℕ) → list_all has_few_cells list ≡ true
    → function_locals (slice_get list n) ≤ 1024 + functions_nodes list
locals-among [] n small = omega (arith)
locals-among (x ∷ list) zero small =
    omega (
      arith,
      few-locals_of x.body,
      leb-true (function_cells (Some x)) 1024 (and_parts (has_few_cells x) (list_all has_few_cells list) small).0,
    )
locals-among (x ∷ list) (suc n) small =
    omega (arith, locals-among list n (and_parts (has_few_cells x) (list_all has_few_cells list) small).1)

-- a function among these has few cells of them
pub cells-among : (list : List Function) (n : ℕ) → list_all has_few_cells list ≡ true → function_cells (slice_get list n) ≤ 1024
cells-among [] n small = omega (arith)
cells-among (x ∷ list) zero small = leb-true (function_cells (Some x)) 1024 (and_parts (has_few_cells x) (list_all has_few_cells list) small).0
cells-among (x ∷ list) (suc n) small = cells-among list n (and_parts (has_few_cells x) (list_all has_few_cells list) small).1
