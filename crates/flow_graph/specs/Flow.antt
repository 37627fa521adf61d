-- Control flow: the node that control meets after a place, or the exit, by cases on the tree around
-- the place (6.8.4, 6.8.5 and 6.8.6 of ISO/IEC 9899:2011).
use Rattle.std.specs.Prelude.{ℕ, zero, suc, ◌+◌, ℤ, pos, negsuc, Bool, true, false, ◌==◌, List, [], ◌∷◌, ◌++◌, map, length, slice_get, Option, Some, None, if◌then◌else◌}
use Rattle.std.specs.List.{range_with_len}
use Rattle.cfix_base.specs.declared.number.NodeId.{NodeId}
use Rattle.cfix_base.specs.declared.number.FnId.{FnId}
use Rattle.cfix_base.specs.declared.place.Place.{Place}
use Rattle.cfix_base.specs.declared.place.Place.TheVariants.{Start, After, True, False}
use Rattle.c_prog.specs.declared.expr.Expr.{Expr}
use Rattle.c_prog.specs.declared.expr.Expr.TheOpen.{Expr-F, Target-F}
use Rattle.c_prog.specs.declared.expr.Expr.TheFolds.{fold-Expr}
use Rattle.c_prog.specs.declared.stmt.Cond.{Cond}
use Rattle.c_prog.specs.declared.stmt.Jump.{Jump}
use Rattle.c_prog.specs.declared.stmt.Jump.TheVariants.{Break, Continue, Return, ReturnNull, ReturnValue}
use Rattle.c_prog.specs.declared.stmt.Step.{Step}
use Rattle.c_prog.specs.declared.stmt.Stmt.{Stmt}
use Rattle.c_prog.specs.declared.stmt.Stmt.TheOpen.{Stmt-F}
use Rattle.c_prog.specs.declared.stmt.Stmt.TheFolds.{fold-Stmt}
use Rattle.c_prog.specs.declared.function.Function.{Function}
use Rattle.c_prog.specs.declared.tree.Tree.{Tree}
use Rattle.c_prog.specs.Nodes.{total, step_nodes, first_node, tree_nodes}
use Rattle.flow_graph.specs.declared.around.Around.{Around}

-- a node, or the exit
abbrev pub Next : Type 0
Next = Option ℕ

-- a place: the node that it stands behind, or the start of the function, what control meets next,
-- and whether the place is dead, so that control never passes it
pub record Way : Type 0 where
  pub place : Place
  pub source : Option ℕ
  pub target : Next
  pub is_dead : Bool

abbrev pub node : ℕ → NodeId
node n = record { number = n }

abbrev pub fn_id : ℕ → FnId
fn_id n = record { number = n }

-- the number of nodes of a statement, and its places in order, from the number of its first node and
-- what is around it
pub record Part : Type 0 where
  pub size : ℕ
  pub ways : ℕ → Around → List Way

abbrev pub part_size : Part → ℕ
part_size part = part.size

abbrev pub size_of : List Part → ℕ
size_of parts = total (map part_size parts)

-- the first of so many nodes from here on, or what follows them
abbrev pub first_of : ℕ → ℕ → Next → Next
first_of zero start follow = follow
first_of (suc n) start follow = Some start

abbrev pub followed_by : Next → Around → Around
followed_by follow around = record around { follow = follow }

-- the places of statements one after another
abbrev pub along : List Part → ℕ → Around → List Way
along [] start around = []
along (part ∷ rest) start around =
    part.ways start (followed_by (first_of (size_of rest) (start + part.size) around.follow) around)
    ++ along rest (start + part.size) around

-- the value of an expression that is a number
abbrev pub constant_level : Expr-F (Option ℤ) (Option ℤ) → Option ℤ
constant_level (Expr-F.Number n) = Some n
constant_level (Expr-F.Read target) = None
constant_level (Expr-F.Cast n) = None
constant_level (Expr-F.Neg e) = None
constant_level (Expr-F.Not e) = None
constant_level (Expr-F.Binary op left right) = None

abbrev pub constant_target : Target-F (Option ℤ) (Option ℤ) → Option ℤ
constant_target target = None

abbrev pub constant : Expr → Option ℤ
constant = fold-Expr (Option ℤ) (Option ℤ) constant_level constant_target

-- the number 0, and a number other than 0
abbrev pub is_zero : Option ℤ → Bool
is_zero None = false
is_zero (Some (pos zero)) = true
is_zero (Some (pos (suc n))) = false
is_zero (Some (negsuc n)) = false

abbrev pub is_other : Option ℤ → Bool
is_other None = false
is_other (Some (pos zero)) = false
is_other (Some (pos (suc n))) = true
is_other (Some (negsuc n)) = true

-- the place behind a node that is no condition
abbrev pub after_way : ℕ → Next → List Way
after_way n target = record { place = After (node n); source = Some n; target = target; is_dead = false } ∷ []

abbrev pub true_way : ℕ → Next → Bool → Way
true_way n target is_dead = record { place = True (node n); source = Some n; target = target; is_dead = is_dead }

abbrev pub false_way : ℕ → Next → Bool → Way
false_way n target is_dead = record { place = False (node n); source = Some n; target = target; is_dead = is_dead }

-- the two places of a condition: the True place is dead where the condition is the number 0, the
-- False place where it is another number
abbrev pub cond_ways : ℕ → Cond → Next → Next → List Way
cond_ways n cond on_true on_false =
    true_way n on_true (is_zero (constant cond.test)) ∷ false_way n on_false (is_other (constant cond.test)) ∷ []

-- where a jump goes
abbrev pub jump_target : Jump → Around → Next
jump_target Break around = around.on_break
jump_target Continue around = around.on_continue
jump_target Return around = None
jump_target ReturnNull around = None
jump_target (ReturnValue value) around = None

-- inside a loop: a `break` goes behind it, and a `continue`, as the end of the body, to the step or
-- the condition
abbrev pub in_loop : ℕ → Around → Around
in_loop again around = record { follow = Some again; on_break = around.follow; on_continue = Some again }

-- the places of an `if`, from the number of its condition
abbrev pub if_ways : Cond → List Part → List Part → ℕ → Around → List Way
if_ways cond as_true as_false start around =
    let other = start + 1 + size_of as_true in
    cond_ways start cond (first_of (size_of as_true) (start + 1) around.follow) (first_of (size_of as_false) other around.follow)
    ++ (along as_true (start + 1) around ++ along as_false other around)

-- the place behind the step of a loop with this condition, if there is a step: it goes back to the
-- condition
abbrev pub step_ways : Option Step → ℕ → List Way
step_ways None start = []
step_ways (Some step) start = after_way (start + 1) (Some start)

-- the places of a loop, from the number of its condition: the body goes again to the step, or to the
-- condition where there is no step
abbrev pub loop_ways : Cond → Option Step → List Part → ℕ → Around → List Way
loop_ways cond step body start around =
    let again = start + step_nodes step in
    let first = start + 1 + step_nodes step in
    cond_ways start cond (first_of (size_of body) first (Some again)) around.follow
    ++ (step_ways step start ++ along body first (in_loop again around))

-- one level of a statement, with the parts of the statements inside
abbrev pub flow_level : Stmt-F Part → Part
flow_level (Stmt-F.Simple act after) = record { size = 1; ways = λ start around. after_way start around.follow }
flow_level (Stmt-F.Jump jump after) = record { size = 1; ways = λ start around. after_way start (jump_target jump around) }
flow_level (Stmt-F.If cond as_true as_false) = record {
  size = 1 + size_of as_true + size_of as_false;
  ways = if_ways cond as_true as_false;
}
flow_level (Stmt-F.Loop cond step body) = record {
  size = 1 + step_nodes step + size_of body;
  ways = loop_ways cond step body;
}
flow_level (Stmt-F.Block body) = record { size = size_of body; ways = along body }

abbrev pub flow : Stmt → Part
flow = fold-Stmt Part flow_level

abbrev pub parts_of : List Stmt → List Part
parts_of list = map flow list

-- outside any statement: behind the body comes the exit
abbrev pub outermost : Around
outermost = record { follow = None; on_break = None; on_continue = None }

abbrev pub start_way : ℕ → Next → Way
start_way function target = record { place = Start (fn_id function); source = None; target = target; is_dead = false }

-- the places of the function with this number, whose body these statements are, from the number of
-- its first node
abbrev pub body_ways : ℕ → ℕ → List Part → List Way
body_ways function first parts =
    start_way function (first_of (size_of parts) first None) ∷ along parts first outermost

-- the places of a function of a program
abbrev pub function_ways : Tree → ℕ → Function → List Way
function_ways tree number function = body_ways number (first_node tree number) (parts_of function.body)

-- the places of the functions of a program, from this number on
abbrev pub ways_from : Tree → ℕ → List Function → List Way
ways_from tree number [] = []
ways_from tree number (function ∷ rest) = function_ways tree number function ++ ways_from tree (number + 1) rest

-- the places of a program
abbrev pub tree_ways : Tree → List Way
tree_ways tree = ways_from tree 0 tree.functions

abbrev pub same_place : Place → Place → Bool
same_place (Start f) (Start g) = f.number == g.number
same_place (After n) (After m) = n.number == m.number
same_place (True n) (True m) = n.number == m.number
same_place (False n) (False m) = n.number == m.number
same_place _ _ = false

-- what control meets after a place, if the place is among these
abbrev pub next_at : Place → List Way → Option Next
next_at place [] = None
next_at place (way ∷ rest) = if same_place way.place place then Some way.target else next_at place rest

-- what control meets after a place of a program
abbrev pub next : Tree → Place → Option Next
next tree place = next_at place (tree_ways tree)

-- the number of a node, if it is one
abbrev pub number_of : Option NodeId → Next
number_of None = None
number_of (Some id) = Some id.number

-- a place that is not dead is an edge: from a node, or from the start of the function, to what
-- control meets next
pub record Edge : Type 0 where
  pub place : Place
  pub source : Option ℕ
  pub target : Next

abbrev pub edge_unless : Bool → Edge → List Edge
edge_unless true edge = []
edge_unless false edge = edge ∷ []

-- the edge of a place, unless the place is dead
abbrev pub way_edges : Way → List Edge
way_edges way = edge_unless way.is_dead (record { place = way.place; source = way.source; target = way.target })

-- the edges are the places that are not dead
abbrev pub edges_of : List Way → List Edge
edges_of [] = []
edges_of (way ∷ rest) = way_edges way ++ edges_of rest

-- the edges of a function of a program
abbrev pub function_edges : Tree → ℕ → Function → List Edge
function_edges tree number function = edges_of (function_ways tree number function)

-- the edges of a program
abbrev pub tree_edges : Tree → List Edge
tree_edges tree = edges_of (tree_ways tree)

-- control flow of one function: its number, its places, and the number of nodes of the program
pub record Graph : Type 0 where
  pub function : ℕ
  pub ways : List Way
  pub size : ℕ

abbrev pub ways_if : Tree → ℕ → Option Function → List Way
ways_if tree number None = []
ways_if tree number (Some function) = function_ways tree number function

-- control flow of the function with this number
abbrev pub graph_of : Tree → ℕ → Graph
graph_of tree number = record {
  function = number;
  ways = ways_if tree number (slice_get tree.functions number);
  size = tree_nodes tree;
}

-- control flow of each function, in order
abbrev pub graphs_of : Tree → List Graph
graphs_of tree = map (graph_of tree) (range_with_len 0 (length tree.functions))
