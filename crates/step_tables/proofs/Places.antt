-- The places of a function's control flow are those behind its nodes, in the order of the nodes.
use Rattle.std.proofs.Common.{◌≡◌, ℕ, suc, ◌+◌, Bool, true, false, List, [], ◌∷◌, ◌++◌, map, length, Option, Some, None, refl, ap, sym, ◌∙◌, subst, append_assoc, arith}
use Rattle.cfix_base.specs.declared.place.Place.{Place}
use Rattle.cfix_base.specs.declared.place.Place.TheVariants.{After, True, False}
use Rattle.c_prog.specs.declared.stmt.Step.{Step}
use Rattle.c_prog.specs.declared.stmt.Stmt.{Stmt}
use Rattle.c_prog.specs.declared.stmt.Stmt.TheVariants as stmt
use Rattle.c_prog.specs.declared.stmt.Stmt.TheViews.{roll-Stmt}
use Rattle.c_prog.specs.declared.stmt.Stmt.TheOpen.{Stmt-F}
use Rattle.c_prog.specs.declared.stmt.Stmt.TheFolds.{fold-roll-Stmt, ind-Stmt, map-Stmt}
use Rattle.c_prog.specs.Nodes.{step_nodes}
use Rattle.c_prog.specs.Order.{Node, order, order_of, step_order}
use Rattle.c_prog.proofs.Equations.{order-Simple, order-Jump, order-If, order-Loop, order-Block}
use Rattle.c_prog.proofs.NodeLaws.{order-length, order_of-length}
use Rattle.flow_graph.specs.declared.around.Around.{Around}
use Rattle.flow_graph.specs.Flow.{Way, Part, node, flow, flow_level, size_of, parts_of, along, first_of, followed_by, in_loop, step_ways}
use Rattle.flow_graph.proofs.NodeCounts.{stmt_size, size_is_nodes}
use Rattle.step_tables.specs.Rows.{is_cond}

abbrev pub places : List Way → List Place
places ways = map (λ way. way.place) ways

-- the places behind one node, and behind nodes from this number on
abbrev pub node_places : ℕ → Bool → List Place
node_places n false = After (node n) ∷ []
node_places n true = True (node n) ∷ False (node n) ∷ []

abbrev pub places_from : ℕ → List Node → List Place
places_from n [] = []
places_from n (x ∷ rest) = node_places n (is_cond x) ++ places_from (n + 1) rest

places-append : (xs ys : List Way) → places (xs ++ ys) ≡ places xs ++ places ys
places-append [] ys = refl
places-append (x ∷ xs) ys = ap (λ ps. x.place ∷ ps) (places-append xs ys)

pub from-append : (n : ℕ) (xs ys : List Node) → places_from n (xs ++ ys) ≡ places_from n xs ++ places_from (n + length xs) ys
from-append n [] ys = let same : n ≡ n + 0 = omega arith in ap (λ m. places_from m ys) same
from-append n (x ∷ xs) ys =
    let same : n + 1 + length xs ≡ n + suc (length xs) = omega arith in
    ap (λ ps. node_places n (is_cond x) ++ ps) (from-append (n + 1) xs ys ∙ ap (λ m. places_from (n + 1) xs ++ places_from m ys) same)
    ∙ sym (append_assoc (node_places n (is_cond x)) (places_from (n + 1) xs) (places_from (n + suc (length xs)) ys))

-- The places of a statement, wherever it stands.
abbrev Placed : Stmt → Type 0
Placed s = (start : ℕ) (around : Around) → places ((flow s).ways start around) ≡ places_from start (order s)

stmt-length : (s : Stmt) → (flow s).size ≡ length (order s)
stmt-length s = stmt_size s ∙ sym (order-length s)

pub list-length : (list : List Stmt) → size_of (parts_of list) ≡ length (order_of list)
list-length list = size_is_nodes list ∙ sym (order_of-length list)

abbrev E : Type 0
E = (s : Stmt) × Placed s

abbrev stmts : List E → List Stmt
stmts es = map (λ e. e.0) es

all-placed : (es : List E) (start : ℕ) (around : Around) → places (along (parts_of (stmts es)) start around) ≡ places_from start (order_of (stmts es))
all-placed [] start around = refl
all-placed (e ∷ es) start around =
    let rest = parts_of (stmts es) in
    let next = start + (flow e.0).size in
    let own = followed_by (first_of (size_of rest) next around.follow) around in
    places-append ((flow e.0).ways start own) (along rest next around)
    ∙ ap (λ ps. ps ++ places (along rest next around)) (e.1 start own)
    ∙ ap (λ ps. places_from start (order e.0) ++ ps) (all-placed es next around)
    ∙ ap (λ n. places_from start (order e.0) ++ places_from (start + n) (order_of (stmts es))) (stmt-length e.0)
    ∙ sym (from-append start (order e.0) (order_of (stmts es)))

step-placed : (s : Option Step) (start : ℕ) → places (step_ways s start) ≡ places_from (start + 1) (step_order s)
step-placed None start = refl
step-placed (Some s) start = refl

step-length : (s : Option Step) → step_nodes s ≡ length (step_order s)
step-length None = refl
step-length (Some s) = refl

level : (y : Stmt-F E) → Placed (roll-Stmt (map-Stmt E Stmt (λ e. e.0) y))
level (Stmt-F.Simple a ops) start around =
    ap (λ p. places (p.ways start around)) (fold-roll-Stmt Part flow_level (Stmt-F.Simple a ops))
    ∙ ap (places_from start) (sym (ap order (stmt.rolls-Simple a ops) ∙ order-Simple a ops))
level (Stmt-F.Jump j ops) start around =
    ap (λ p. places (p.ways start around)) (fold-roll-Stmt Part flow_level (Stmt-F.Jump j ops))
    ∙ ap (places_from start) (sym (ap order (stmt.rolls-Jump j ops) ∙ order-Jump j ops))
level (Stmt-F.If c x y) start around =
    let first = along (parts_of (stmts x)) (start + 1) around in
    let other = start + 1 + size_of (parts_of (stmts x)) in
    let second = along (parts_of (stmts y)) other around in
    let two : List Place = True (node start) ∷ False (node start) ∷ [] in
    ap (λ p. places (p.ways start around)) (fold-roll-Stmt Part flow_level (Stmt-F.If c (stmts x) (stmts y)))
    ∙ ap (λ ps. two ++ ps) (places-append first second)
    ∙ ap (λ ps. two ++ (ps ++ places second)) (all-placed x (start + 1) around)
    ∙ ap (λ ps. two ++ (places_from (start + 1) (order_of (stmts x)) ++ ps)) (all-placed y other around)
    ∙ ap (λ n. two ++ (places_from (start + 1) (order_of (stmts x)) ++ places_from (start + 1 + n) (order_of (stmts y)))) (list-length (stmts x))
    ∙ ap (λ ps. two ++ ps) (sym (from-append (start + 1) (order_of (stmts x)) (order_of (stmts y))))
    ∙ ap (places_from start) (sym (ap order (stmt.rolls-If c (stmts x) (stmts y)) ∙ order-If c (stmts x) (stmts y)))
level (Stmt-F.Loop c s x) start around =
    let again = start + step_nodes s in
    let first = start + 1 + step_nodes s in
    let own = step_ways s start in
    let body = along (parts_of (stmts x)) first (in_loop again around) in
    let two : List Place = True (node start) ∷ False (node start) ∷ [] in
    ap (λ p. places (p.ways start around)) (fold-roll-Stmt Part flow_level (Stmt-F.Loop c s (stmts x)))
    ∙ ap (λ ps. two ++ ps) (places-append own body)
    ∙ ap (λ ps. two ++ (ps ++ places body)) (step-placed s start)
    ∙ ap (λ ps. two ++ (places_from (start + 1) (step_order s) ++ ps)) (all-placed x first (in_loop again around))
    ∙ ap (λ n. two ++ (places_from (start + 1) (step_order s) ++ places_from (start + 1 + n) (order_of (stmts x)))) (step-length s)
    ∙ ap (λ ps. two ++ ps) (sym (from-append (start + 1) (step_order s) (order_of (stmts x))))
    ∙ ap (places_from start) (sym (ap order (stmt.rolls-Loop c s (stmts x)) ∙ order-Loop c s (stmts x)))
level (Stmt-F.Block x) start around =
    ap (λ p. places (p.ways start around)) (fold-roll-Stmt Part flow_level (Stmt-F.Block (stmts x)))
    ∙ all-placed x start around
    ∙ ap (places_from start) (sym (ap order (stmt.rolls-Block (stmts x)) ∙ order-Block (stmts x)))

stmt-placed : (s : Stmt) → Placed s
stmt-placed = ind-Stmt Placed (λ x y is. subst (λ z. Placed (roll-Stmt z)) is (level y))

pub body-placed : (list : List Stmt) (start : ℕ) (around : Around) → places (along (parts_of list) start around) ≡ places_from start (order_of list)
body-placed [] start around = refl
body-placed (s ∷ list) start around =
    let next = start + (flow s).size in
    let own = followed_by (first_of (size_of (parts_of list)) next around.follow) around in
    places-append ((flow s).ways start own) (along (parts_of list) next around)
    ∙ ap (λ ps. ps ++ places (along (parts_of list) next around)) (stmt-placed s start own)
    ∙ ap (λ ps. places_from start (order s) ++ ps) (body-placed list next around)
    ∙ ap (λ n. places_from start (order s) ++ places_from (start + n) (order_of list)) (stmt-length s)
    ∙ sym (from-append start (order s) (order_of list))
