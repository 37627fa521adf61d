-- What the nodes of a function declare is what its statements declare.
use Rattle.std.proofs.Common.{◌≡◌, List, [], ◌∷◌, ◌++◌, map, Option, Some, None, ap, sym, ◌∙◌, refl, subst}
use Rattle.std.proofs.lemmas.List.{append-nil}
use Rattle.c_prog.specs.declared.stmt.Step.{Step}
use Rattle.c_prog.specs.declared.stmt.Stmt.{Stmt}
use Rattle.c_prog.specs.declared.stmt.Stmt.TheVariants as stmt
use Rattle.c_prog.specs.declared.stmt.Stmt.TheViews.{roll-Stmt}
use Rattle.c_prog.specs.declared.stmt.Stmt.TheOpen.{Stmt-F}
use Rattle.c_prog.specs.declared.stmt.Stmt.TheFolds.{ind-Stmt, map-Stmt}
use Rattle.c_prog.specs.Order.{order, order_of, step_order}
use Rattle.c_prog.specs.Valid.Locals.{act_locals, locals, locals_of}
use Rattle.c_prog.proofs.Equations.{order-Simple, order-Jump, order-If, order-Loop, order-Block}
use Rattle.c_prog.proofs.ValidEquations.{locals-Simple, locals-Jump, locals-If, locals-Loop, locals-Block}
use Rattle.step_tables.specs.Kept.{node_locals, nodes_locals}
use Rattle.step_tables.proofs.Keeping.{joined-append}

abbrev Same : Stmt → Type 0
Same s = nodes_locals (order s) ≡ locals s

abbrev E : Type 0
E = (s : Stmt) × Same s

abbrev stmts : List E → List Stmt
stmts es = map (λ e. e.0) es

all-same : (es : List E) → nodes_locals (order_of (stmts es)) ≡ locals_of (stmts es)
all-same [] = refl
all-same (e ∷ es) =
    joined-append node_locals (order e.0) (order_of (stmts es)) ∙ ap (λ ks. ks ++ nodes_locals (order_of (stmts es))) e.1
    ∙ ap (λ ks. locals e.0 ++ ks) (all-same es)

step-none : (s : Option Step) → nodes_locals (step_order s) ≡ []
step-none None = refl
step-none (Some s) = refl

level : (y : Stmt-F E) → Same (roll-Stmt (map-Stmt E Stmt (λ e. e.0) y))
level (Stmt-F.Simple a ops) =
    subst Same (sym (stmt.rolls-Simple a ops)) (ap nodes_locals (order-Simple a ops) ∙ append-nil (act_locals a) ∙ sym (locals-Simple a ops))
level (Stmt-F.Jump j ops) =
    subst Same (sym (stmt.rolls-Jump j ops)) (ap nodes_locals (order-Jump j ops) ∙ sym (locals-Jump j ops))
level (Stmt-F.If c x y) =
    subst Same (sym (stmt.rolls-If c (stmts x) (stmts y)))
    (ap nodes_locals (order-If c (stmts x) (stmts y))
    ∙ joined-append node_locals (order_of (stmts x)) (order_of (stmts y))
    ∙ ap (λ ks. ks ++ nodes_locals (order_of (stmts y))) (all-same x) ∙ ap (λ ks. locals_of (stmts x) ++ ks) (all-same y)
    ∙ sym (locals-If c (stmts x) (stmts y)))
level (Stmt-F.Loop c s x) =
    subst Same (sym (stmt.rolls-Loop c s (stmts x)))
    (ap nodes_locals (order-Loop c s (stmts x))
    ∙ joined-append node_locals (step_order s) (order_of (stmts x))
    ∙ ap (λ ks. ks ++ nodes_locals (order_of (stmts x))) (step-none s) ∙ all-same x
    ∙ sym (locals-Loop c s (stmts x)))
level (Stmt-F.Block x) =
    subst Same (sym (stmt.rolls-Block (stmts x)))
    (ap nodes_locals (order-Block (stmts x)) ∙ all-same x ∙ sym (locals-Block (stmts x)))

stmt-same : (s : Stmt) → Same s
stmt-same = ind-Stmt Same (λ x y is. subst (λ z. Same (roll-Stmt z)) is (level y))

pub body_declares : (list : List Stmt) → nodes_locals (order_of list) ≡ locals_of list
body_declares [] = refl
body_declares (s ∷ list) =
    joined-append node_locals (order s) (order_of list) ∙ ap (λ ks. ks ++ nodes_locals (order_of list)) (stmt-same s)
    ∙ ap (λ ks. locals s ++ ks) (body_declares list)
