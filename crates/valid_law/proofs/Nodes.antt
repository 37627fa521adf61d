-- The program that a file spells has as many nodes as the file has tokens at which nodes stand.
use Rattle.std.proofs.Common.{◌≡◌, ℕ, suc, ◌+◌, ◌≤◌, List, [], ◌∷◌, ◌++◌, map, drop, length, Option, Some, None, refl, ap, sym, ◌∙◌, arith}
use Rattle.std.proofs.lemmas.List.{length-append, length-map, length-drop}
use Rattle.cfix_base.specs.declared.Spot.{Spot}
use Rattle.cfix_base.specs.declared.op.Op.{Op}
use Rattle.c_grammar.specs.Marks.{each}
use Rattle.c_grammar.specs.Decl as d
use Rattle.c_grammar.specs.Cond as c
use Rattle.c_grammar.specs.Stmt as t
use Rattle.c_grammar.specs.File as f
use Rattle.c_prog.specs.declared.act.Act.{Act}
use Rattle.c_prog.specs.declared.function.Function.{Function}
use Rattle.c_prog.specs.declared.stmt.Stmt.{Stmt}
use Rattle.c_prog.specs.declared.stmt.Stmt.TheVariants as stmt
use Rattle.c_prog.specs.Nodes as n
use Rattle.c_prog.specs.Nodes.{nodes, nodes_of, functions_nodes}
use Rattle.c_prog.specs.Valid.Scope.{Scope, entered, passed}
use Rattle.c_prog.specs.Valid.Statements.{Around, looped}
use Rattle.c_prog.proofs.Equations.{nodes-Simple, nodes-Jump, nodes-If, nodes-Loop, nodes-Block}
use Rattle.c_names.specs.declared.fault.FaultKind.TheVariants.{Limit}
use Rattle.c_names.specs.Faults.{fault}
use Rattle.c_names.specs.Files.{top_nodes, body_around, body_scope}
use Rattle.c_names.specs.Limits.{excess_faults, local_int_spot, hold_spot, loop_int_spot, decl_nodes, first_nodes, step_nodes, for_nodes, stmt_nodes, else_nodes, items_nodes, item_nodes}
use Rattle.c_names.specs.Scopes.{listed, local_int_declared, loop_int_declared, with_local, in_for, stmt_locals, item_after}
use Rattle.c_names.specs.Sources.{top_functions_of}
use Rattle.c_names.specs.SpelledExpressions.{plain_of, simple_of}
use Rattle.c_names.specs.SpelledStatements.{op_of, ops_of, local_ints_of, hold_of, decl_of, loop_ints_of, with_ops, cond_of, test_of, step_of, bare_of, return_of, jump_of, first_of, for_of, as_item, stmt_of, else_of, items_of, item_of}
use Rattle.c_names.specs.Uses.{Names}

-- at most so many, where none is one too many
pub within : (limit : ℕ) (spots : List Spot) → excess_faults limit spots ≡ [] → length spots ≤ limit
within limit spots none =
    omega (arith, ap length none, length-map (drop limit spots) (λ spot. fault spot Limit), length-drop limit spots)

nodes-append : (xs ys : List Stmt) → nodes_of (xs ++ ys) ≡ nodes_of xs + nodes_of ys
nodes-append [] ys = omega (arith)
nodes-append (x ∷ xs) ys = omega (arith, nodes-append xs ys)

with_ops-nodes : (acts : List Act) (ops : List Op) → nodes_of (with_ops acts ops) ≡ length acts
with_ops-nodes [] ops = refl
with_ops-nodes (a ∷ []) ops = omega (arith, nodes-Simple a ops)
with_ops-nodes (a ∷ b ∷ more) ops = omega (arith, nodes-Simple a [], with_ops-nodes (b ∷ more) ops)

-- ---- parts of statements

local_ints-count : (names : Names) (scope : Scope) (xs : List d.LocalInt)
    → length (map local_int_spot xs) ≡ length (local_ints_of names scope xs)
local_ints-count names scope [] = refl
local_ints-count names scope (x ∷ xs) = ap suc (local_ints-count names (with_local (local_int_declared x) scope) xs)

loop_ints-count : (names : Names) (scope : Scope) (xs : List d.LoopInt)
    → length (map loop_int_spot xs) ≡ length (loop_ints_of names scope xs)
loop_ints-count names scope [] = refl
loop_ints-count names scope (x ∷ xs) = ap suc (loop_ints-count names (with_local (loop_int_declared x) scope) xs)

decl-count : (names : Names) (scope : Scope) (x : d.Decl) → length (decl_nodes x) ≡ length (decl_of names scope x)
decl-count names scope (d.Ints at x more) = local_ints-count names scope (listed x more)
decl-count names scope (d.Holds at x more) = length-map (listed x more) hold_spot ∙ sym (length-map (listed x more) (hold_of names))

first-count : (names : Names) (scope : Scope) (x : t.First) → length (first_nodes (Some x)) ≡ nodes_of (first_of names scope x)
first-count names scope (t.FirstInts at x more) =
    loop_ints-count names scope (listed x more) ∙ sym (with_ops-nodes (loop_ints_of names scope (listed x more)) [])
first-count names scope (t.FirstPlain p) = omega (arith, nodes-Simple (plain_of names scope p) [])

for-count : (names : Names) (scope : Scope) (x : Option t.First) (loop : Stmt)
    → length (first_nodes x) + nodes loop ≡ nodes (for_of names scope x loop)
for-count names scope None loop = omega (arith)
for-count names scope (Some x) loop =
    omega (arith, first-count names scope x, nodes-Block (first_of names scope x ++ loop ∷ []), nodes-append (first_of names scope x) (loop ∷ []))

-- the condition is one node, whether it is there or not
test-count : (at : Spot) (first : Option t.First) (x : Option c.Cond) → length (for_nodes at first x) ≡ length (first_nodes first) + 1
test-count at first None = omega (arith)
test-count at first (Some x) = length-append (first_nodes first) _

step-count : (names : Names) (scope : Scope) (x : Option t.LoopStep) → length (step_nodes x) ≡ n.step_nodes (step_of names scope x)
step-count names scope None = refl
step-count names scope (Some (t.LoopStepOf p ops)) = refl

jump-count : (names : Names) (around : Around) (scope : Scope) (x : t.Jump) → nodes (jump_of names around scope x) ≡ 1
jump-count names around scope (t.BareJump b end) = nodes-Jump (bare_of b) []
jump-count names around scope (t.ReturnValue at v end) = nodes-Jump (return_of names around scope v) []
jump-count names around scope (t.BareBlock before op end ops b end2 after) = nodes-Jump (bare_of b) (op_of op ∷ ops_of ops)
jump-count names around scope (t.ValueBlock before int name set v end op end2 ops return name2 end3 after) =
    nodes-Jump (return_of names around scope v) (op_of op ∷ ops_of ops)

-- a block that is an item is a statement
as_item-nodes : (st : t.Stmt) (list : List Stmt) → nodes_of (as_item st list) ≡ nodes_of list
as_item-nodes (t.Block before items after) list = omega (arith, nodes-Block list)
as_item-nodes (t.Nothing end) list = refl
as_item-nodes (t.Simply x end ops) list = refl
as_item-nodes (t.Jumps j) list = refl
as_item-nodes (t.If at before x after st e) list = refl
as_item-nodes (t.While at before x after st) list = refl
as_item-nodes (t.For at before first end x end2 step after st) list = refl

-- ---- statements

mutual
  stmt-count : (names : Names) (around : Around) (scope : Scope) (st : t.Stmt)
      → length (stmt_nodes st) ≡ nodes_of (stmt_of names around scope st)
  stmt-count names around scope (t.Block before items after) = items-count names around (entered scope) items
  stmt-count names around scope (t.Nothing end) = refl
  stmt-count names around scope (t.Simply x end ops) = omega (arith, nodes-Simple (simple_of names scope x) (ops_of ops))
  stmt-count names around scope (t.Jumps j) = omega (arith, jump-count names around scope j)
  stmt-count names around scope (t.If at before x after st e) =
      omega (
        arith,
        length-append (stmt_nodes st) (else_nodes e),
        stmt-count names around (entered scope) st,
        else-count names around (passed (stmt_locals st) scope) e,
        nodes-If (cond_of names scope x) (stmt_of names around (entered scope) st) (else_of names around (passed (stmt_locals st) scope) e),
      )
  stmt-count names around scope (t.While at before x after st) =
      omega (
        arith,
        stmt-count names (looped around) (entered scope) st,
        nodes-Loop (cond_of names scope x) None (stmt_of names (looped around) (entered scope) st),
      )
  stmt-count names around scope (t.For at before first end x end2 step after st) =
      let here : Scope = in_for first scope in
      let body : List Stmt = stmt_of names (looped around) (entered here) st in
      omega (
        arith,
        length-append (for_nodes at first x) (step_nodes step ++ stmt_nodes st),
        length-append (step_nodes step) (stmt_nodes st),
        test-count at first x,
        step-count names here step,
        stmt-count names (looped around) (entered here) st,
        for-count names (entered scope) first (stmt.Loop (test_of names here x) (step_of names here step) body),
        nodes-Loop (test_of names here x) (step_of names here step) body,
      )

  else-count : (names : Names) (around : Around) (scope : Scope) (e : t.Else)
      → length (else_nodes e) ≡ nodes_of (else_of names around scope e)
  else-count names around scope t.NoElse = refl
  else-count names around scope (t.ElseDo at st) = stmt-count names around (entered scope) st

  items-count : (names : Names) (around : Around) (scope : Scope) (items : t.Items)
      → length (items_nodes items) ≡ nodes_of (items_of names around scope items)
  items-count names around scope t.NoItems = refl
  items-count names around scope (t.AndItem i more) =
      omega (
        arith,
        length-append (item_nodes i) (items_nodes more),
        nodes-append (item_of names around scope i) (items_of names around (item_after scope i) more),
        item-count names around scope i,
        items-count names around (item_after scope i) more,
      )

  item-count : (names : Names) (around : Around) (scope : Scope) (i : t.Item)
      → length (item_nodes i) ≡ nodes_of (item_of names around scope i)
  item-count names around scope (t.Declares decl end ops) =
      omega (arith, decl-count names scope decl, with_ops-nodes (decl_of names scope decl) (ops_of ops))
  item-count names around scope (t.Does st) =
      omega (arith, stmt-count names around scope st, as_item-nodes st (stmt_of names around scope st))

-- ---- functions

functions-append : (xs ys : List Function) → functions_nodes (xs ++ ys) ≡ functions_nodes xs + functions_nodes ys
functions-append [] ys = omega (arith)
functions-append (x ∷ xs) ys = omega (arith, functions-append xs ys)

top-count : (names : Names) (x : f.Top) → length (top_nodes x) ≡ functions_nodes (top_functions_of names x)
top-count names (f.Include at name header) = refl
top-count names (f.Define at name x value) = refl
top-count names (f.Variables qualifiers globals end) = refl
top-count names (f.Prototype head end) = refl
top-count names (f.Function head before ops items after) = omega (arith, items-count names (body_around head) (body_scope head) items)

-- the nodes of the functions that a file spells
pub nodes-count : (names : Names) (file : f.File) → length (each top_nodes file) ≡ functions_nodes (each (top_functions_of names) file)
nodes-count names [] = refl
nodes-count names (x ∷ more) =
    omega (
      arith,
      length-append (top_nodes x) (each top_nodes more),
      functions-append (top_functions_of names x) (each (top_functions_of names) more),
      top-count names x,
      nodes-count names more,
    )
