-- The number of nodes of a statement, as control flow counts them, is that of the numbering.
use Rattle.std.proofs.Common.{◌≡◌, ℕ, List, [], ◌∷◌, map, ap, sym, ◌∙◌, refl, subst, arith}
use Rattle.c_prog.specs.declared.stmt.Stmt.{Stmt}
use Rattle.c_prog.specs.declared.stmt.Stmt.TheViews.{roll-Stmt}
use Rattle.c_prog.specs.declared.stmt.Stmt.TheOpen.{Stmt-F}
use Rattle.c_prog.specs.declared.stmt.Stmt.TheFolds.{fold-roll-Stmt, ind-Stmt, map-Stmt}
use Rattle.c_prog.specs.Nodes.{nodes, nodes_of, nodes_level}
use Rattle.flow_graph.specs.Flow.{Part, flow, flow_level, part_size, size_of, parts_of}

abbrev Same : Stmt → Type 0
Same s = (flow s).size ≡ nodes s

-- a child with its proof
abbrev E : Type 0
E = (s : Stmt) × Same s

abbrev stmts : List E → List Stmt
stmts es = map (λ e. e.0) es

all-same : (es : List E) → size_of (parts_of (stmts es)) ≡ nodes_of (stmts es)
all-same [] = refl
all-same (e ∷ es) = omega (arith, e.1, all-same es)

level : (y : Stmt-F E) → Same (roll-Stmt (map-Stmt E Stmt (λ e. e.0) y))
level (Stmt-F.Simple act after) =
    ap part_size (fold-roll-Stmt Part flow_level (Stmt-F.Simple act after)) ∙ sym (fold-roll-Stmt ℕ nodes_level (Stmt-F.Simple act after))
level (Stmt-F.Jump jump after) =
    ap part_size (fold-roll-Stmt Part flow_level (Stmt-F.Jump jump after)) ∙ sym (fold-roll-Stmt ℕ nodes_level (Stmt-F.Jump jump after))
level (Stmt-F.If cond as_true as_false) =
    ap part_size (fold-roll-Stmt Part flow_level (Stmt-F.If cond (stmts as_true) (stmts as_false)))
    ∙ omega (arith, all-same as_true, all-same as_false)
    ∙ sym (fold-roll-Stmt ℕ nodes_level (Stmt-F.If cond (stmts as_true) (stmts as_false)))
level (Stmt-F.Loop cond step body) =
    ap part_size (fold-roll-Stmt Part flow_level (Stmt-F.Loop cond step (stmts body)))
    ∙ omega (arith, all-same body)
    ∙ sym (fold-roll-Stmt ℕ nodes_level (Stmt-F.Loop cond step (stmts body)))
level (Stmt-F.Block body) =
    ap part_size (fold-roll-Stmt Part flow_level (Stmt-F.Block (stmts body)))
    ∙ all-same body
    ∙ sym (fold-roll-Stmt ℕ nodes_level (Stmt-F.Block (stmts body)))

pub stmt_size : (s : Stmt) → Same s
stmt_size = ind-Stmt Same (λ x y is. subst (λ z. Same (roll-Stmt z)) is (level y))

pub size_is_nodes : (list : List Stmt) → size_of (parts_of list) ≡ nodes_of list
size_is_nodes [] = refl
size_is_nodes (s ∷ list) = omega (arith, stmt_size s, size_is_nodes list)
