-- The ways of control flow without their targets are those behind the nodes, in the order of the nodes: so a way of a
-- condition is dead exactly where the condition is a number of the other kind.
use Rattle.std.proofs.Common.{◌≡◌, ℕ, zero, suc, ◌+◌, Bool, false, List, [], ◌∷◌, ◌++◌, map, take, drop, length, slice_get, Option, Some, None, refl, ap, sym, ◌∙◌, subst, append_assoc, arith}
use Rattle.cfix_base.specs.declared.place.Place.{Place}
use Rattle.cfix_base.specs.declared.place.Place.TheVariants.{Start, After, True, False}
use Rattle.c_prog.specs.declared.function.Function.{Function}
use Rattle.c_prog.specs.declared.stmt.Cond.{Cond}
use Rattle.c_prog.specs.declared.stmt.Step.{Step}
use Rattle.c_prog.specs.declared.stmt.Stmt.{Stmt}
use Rattle.c_prog.specs.declared.stmt.Stmt.TheVariants as stmt
use Rattle.c_prog.specs.declared.stmt.Stmt.TheViews.{roll-Stmt}
use Rattle.c_prog.specs.declared.stmt.Stmt.TheOpen.{Stmt-F}
use Rattle.c_prog.specs.declared.stmt.Stmt.TheFolds.{fold-roll-Stmt, ind-Stmt, map-Stmt}
use Rattle.c_prog.specs.declared.tree.Tree.{Tree}
use Rattle.c_prog.specs.Nodes.{step_nodes, function_nodes, functions_nodes, first_node}
use Rattle.c_prog.specs.Order.{Node, act, cond, step, jump, order, order_of, step_order, function_order}
use Rattle.c_prog.proofs.Equations.{order-Simple, order-Jump, order-If, order-Loop, order-Block}
use Rattle.c_prog.proofs.NodeLaws.{order-length, order_of-length}
use Rattle.flow_graph.specs.declared.around.Around.{Around}
use Rattle.flow_graph.specs.Flow.{Way, Part, node, fn_id, flow, flow_level, size_of, parts_of, along, first_of, followed_by, in_loop, outermost, step_ways, function_ways, ways_from, constant, is_zero, is_other}
use Rattle.flow_graph.proofs.NodeCounts.{stmt_size, size_is_nodes}
use Rattle.flow_graph.proofs.Graphs.{nodes_more}

-- a way without its target
pub record Bare : Type 0 where
  pub place : Place
  pub source : Option ℕ
  pub is_dead : Bool

abbrev pub bare : Way → Bare
bare way = record { place = way.place; source = way.source; is_dead = way.is_dead }

abbrev pub bares : List Way → List Bare
bares ways = map bare ways

abbrev pub after_bare : ℕ → List Bare
after_bare n = record { place = After (node n); source = Some n; is_dead = false } ∷ []

abbrev pub cond_bares : ℕ → Cond → List Bare
cond_bares n c =
    record { place = True (node n); source = Some n; is_dead = is_zero (constant c.test) }
    ∷ record { place = False (node n); source = Some n; is_dead = is_other (constant c.test) } ∷ []

-- what stands behind one node, and behind nodes from this number on
abbrev pub node_bares : ℕ → Node → List Bare
node_bares n (act a after) = after_bare n
node_bares n (cond c) = cond_bares n c
node_bares n (step s) = after_bare n
node_bares n (jump j after) = after_bare n

abbrev pub bares_from : ℕ → List Node → List Bare
bares_from n [] = []
bares_from n (x ∷ rest) = node_bares n x ++ bares_from (n + 1) rest

pub bares_append : (xs ys : List Way) → bares (xs ++ ys) ≡ bares xs ++ bares ys
bares_append [] ys = refl
bares_append (x ∷ xs) ys = ap (λ ps. bare x ∷ ps) (bares_append xs ys)

from_append : (n : ℕ) (xs ys : List Node) → bares_from n (xs ++ ys) ≡ bares_from n xs ++ bares_from (n + length xs) ys
from_append n [] ys = let same : n ≡ n + 0 = omega arith in ap (λ m. bares_from m ys) same
from_append n (x ∷ xs) ys =
    let same : n + 1 + length xs ≡ n + suc (length xs) = omega arith in
    ap (λ ps. node_bares n x ++ ps) (from_append (n + 1) xs ys ∙ ap (λ m. bares_from (n + 1) xs ++ bares_from m ys) same)
    ∙ sym (append_assoc (node_bares n x) (bares_from (n + 1) xs) (bares_from (n + suc (length xs)) ys))

-- the ways of a statement, wherever it stands
abbrev Behind : Stmt → Type 0
Behind s = (start : ℕ) (around : Around) → bares ((flow s).ways start around) ≡ bares_from start (order s)

stmt_length : (s : Stmt) → (flow s).size ≡ length (order s)
stmt_length s = stmt_size s ∙ sym (order-length s)

list_length : (list : List Stmt) → size_of (parts_of list) ≡ length (order_of list)
list_length list = size_is_nodes list ∙ sym (order_of-length list)

abbrev E : Type 0
E = (s : Stmt) × Behind s

abbrev stmts : List E → List Stmt
stmts es = map (λ e. e.0) es

all_behind : (es : List E) (start : ℕ) (around : Around) → bares (along (parts_of (stmts es)) start around) ≡ bares_from start (order_of (stmts es))
all_behind [] start around = refl
all_behind (e ∷ es) start around =
    let rest = parts_of (stmts es) in
    let next = start + (flow e.0).size in
    let own = followed_by (first_of (size_of rest) next around.follow) around in
    bares_append ((flow e.0).ways start own) (along rest next around)
    ∙ ap (λ ps. ps ++ bares (along rest next around)) (e.1 start own)
    ∙ ap (λ ps. bares_from start (order e.0) ++ ps) (all_behind es next around)
    ∙ ap (λ n. bares_from start (order e.0) ++ bares_from (start + n) (order_of (stmts es))) (stmt_length e.0)
    ∙ sym (from_append start (order e.0) (order_of (stmts es)))

step_behind : (s : Option Step) (start : ℕ) → bares (step_ways s start) ≡ bares_from (start + 1) (step_order s)
step_behind None start = refl
step_behind (Some s) start = refl

step_length : (s : Option Step) → step_nodes s ≡ length (step_order s)
step_length None = refl
step_length (Some s) = refl

level : (y : Stmt-F E) → Behind (roll-Stmt (map-Stmt E Stmt (λ e. e.0) y))
level (Stmt-F.Simple a ops) start around =
    ap (λ p. bares (p.ways start around)) (fold-roll-Stmt Part flow_level (Stmt-F.Simple a ops))
    ∙ ap (bares_from start) (sym (ap order (stmt.rolls-Simple a ops) ∙ order-Simple a ops))
level (Stmt-F.Jump j ops) start around =
    ap (λ p. bares (p.ways start around)) (fold-roll-Stmt Part flow_level (Stmt-F.Jump j ops))
    ∙ ap (bares_from start) (sym (ap order (stmt.rolls-Jump j ops) ∙ order-Jump j ops))
level (Stmt-F.If c x y) start around =
    let first = along (parts_of (stmts x)) (start + 1) around in
    let other = start + 1 + size_of (parts_of (stmts x)) in
    let second = along (parts_of (stmts y)) other around in
    let two = cond_bares start c in
    ap (λ p. bares (p.ways start around)) (fold-roll-Stmt Part flow_level (Stmt-F.If c (stmts x) (stmts y)))
    ∙ ap (λ ps. two ++ ps) (bares_append first second)
    ∙ ap (λ ps. two ++ (ps ++ bares second)) (all_behind x (start + 1) around)
    ∙ ap (λ ps. two ++ (bares_from (start + 1) (order_of (stmts x)) ++ ps)) (all_behind y other around)
    ∙ ap (λ n. two ++ (bares_from (start + 1) (order_of (stmts x)) ++ bares_from (start + 1 + n) (order_of (stmts y)))) (list_length (stmts x))
    ∙ ap (λ ps. two ++ ps) (sym (from_append (start + 1) (order_of (stmts x)) (order_of (stmts y))))
    ∙ ap (bares_from start) (sym (ap order (stmt.rolls-If c (stmts x) (stmts y)) ∙ order-If c (stmts x) (stmts y)))
level (Stmt-F.Loop c s x) start around =
    let again = start + step_nodes s in
    let first = start + 1 + step_nodes s in
    let own = step_ways s start in
    let body = along (parts_of (stmts x)) first (in_loop again around) in
    let two = cond_bares start c in
    ap (λ p. bares (p.ways start around)) (fold-roll-Stmt Part flow_level (Stmt-F.Loop c s (stmts x)))
    ∙ ap (λ ps. two ++ ps) (bares_append own body)
    ∙ ap (λ ps. two ++ (ps ++ bares body)) (step_behind s start)
    ∙ ap (λ ps. two ++ (bares_from (start + 1) (step_order s) ++ ps)) (all_behind x first (in_loop again around))
    ∙ ap (λ n. two ++ (bares_from (start + 1) (step_order s) ++ bares_from (start + 1 + n) (order_of (stmts x)))) (step_length s)
    ∙ ap (λ ps. two ++ ps) (sym (from_append (start + 1) (step_order s) (order_of (stmts x))))
    ∙ ap (bares_from start) (sym (ap order (stmt.rolls-Loop c s (stmts x)) ∙ order-Loop c s (stmts x)))
level (Stmt-F.Block x) start around =
    ap (λ p. bares (p.ways start around)) (fold-roll-Stmt Part flow_level (Stmt-F.Block (stmts x)))
    ∙ all_behind x start around
    ∙ ap (bares_from start) (sym (ap order (stmt.rolls-Block (stmts x)) ∙ order-Block (stmts x)))

stmt_behind : (s : Stmt) → Behind s
stmt_behind = ind-Stmt Behind (λ x y is. subst (λ z. Behind (roll-Stmt z)) is (level y))

body_behind : (list : List Stmt) (start : ℕ) (around : Around) → bares (along (parts_of list) start around) ≡ bares_from start (order_of list)
body_behind [] start around = refl
body_behind (s ∷ list) start around =
    let next = start + (flow s).size in
    let own = followed_by (first_of (size_of (parts_of list)) next around.follow) around in
    bares_append ((flow s).ways start own) (along (parts_of list) next around)
    ∙ ap (λ ps. ps ++ bares (along (parts_of list) next around)) (stmt_behind s start own)
    ∙ ap (λ ps. bares_from start (order s) ++ ps) (body_behind list next around)
    ∙ ap (λ n. bares_from start (order s) ++ bares_from (start + n) (order_of list)) (stmt_length s)
    ∙ sym (from_append start (order s) (order_of list))

-- of functions, from the numbers of the first one and of its first node
abbrev pub bares_by : ℕ → ℕ → List Function → List Bare
bares_by a n [] = []
bares_by a n (f ∷ rest) =
    record { place = Start (fn_id a); source = None; is_dead = false } ∷ (bares_from n (function_order f) ++ bares_by (a + 1) (n + function_nodes f) rest)

head_of : {A : Type 0} (xs : List A) (a : ℕ) (x : A) (rest : List A) → drop a xs ≡ x ∷ rest → (slice_get xs a ≡ Some x) × (drop (suc a) xs ≡ rest)
head_of [] zero x rest is = absurd (cc is)
head_of [] (suc a) x rest is = absurd (cc is)
head_of (y ∷ xs) zero x rest is = (cc is, cc is)
head_of (y ∷ xs) (suc a) x rest is = head_of xs a x rest is

pub tree_bares : (tree : Tree) (a : ℕ) (fs : List Function) → drop a tree.functions ≡ fs → bares (ways_from tree a fs) ≡ bares_by a (first_node tree a) fs
tree_bares tree a [] is = refl
tree_bares tree a (f ∷ rest) is =
    let head = head_of tree.functions a f rest is in
    let more : suc a ≡ a + 1 = omega arith in
    let after : drop (a + 1) tree.functions ≡ rest = ap (λ k. drop k tree.functions) (sym more) ∙ head.1 in
    let first : first_node tree (a + 1) ≡ first_node tree a + function_nodes f =
    ap (λ k. functions_nodes (take k tree.functions)) (sym more) ∙ nodes_more tree.functions a f head.0 in
    bares_append (function_ways tree a f) (ways_from tree (a + 1) rest)
    ∙ ap (λ ps. bares (function_ways tree a f) ++ ps) (tree_bares tree (a + 1) rest after ∙ ap (λ n. bares_by (a + 1) n rest) first)
    ∙ ap (λ ps. record { place = Start (fn_id a); source = None; is_dead = false } ∷ (ps ++ bares_by (a + 1) (first_node tree a + function_nodes f) rest))
    (body_behind f.body (first_node tree a) outermost)
