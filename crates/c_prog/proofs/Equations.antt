-- What the definitions over trees give, variant by variant. A fold does not compute in a proof:
-- cite these.
use Rattle.std.proofs.Common.{◌≡◌, ℕ, ℤ, ◌+◌, Bool, not, ◌||◌, List, [], ◌∷◌, ◌++◌, Option, Some, None, ap, sym, ◌∙◌, refl}
use Rattle.cfix_base.specs.declared.mark.Marks.{Marks}
use Rattle.cfix_base.specs.declared.op.Op.{Op}
use Rattle.cfix_base.specs.declared.access.Access.TheVariants.{Read}
use Rattle.c_prog.specs.declared.access_item.Touch.{Touch}
use Rattle.c_prog.specs.declared.act.Act.{Act}
use Rattle.c_prog.specs.declared.expr.BinOp.{BinOp}
use Rattle.c_prog.specs.declared.expr.Expr.{Expr}
use Rattle.c_prog.specs.declared.expr.Expr.TheVariants as expr
use Rattle.c_prog.specs.declared.expr.Expr.TheOpen.{Expr-F}
use Rattle.c_prog.specs.declared.expr.Expr.TheFolds.{fold-roll-Expr, fold_out-Target}
use Rattle.c_prog.specs.declared.expr.Target.{Target}
use Rattle.c_prog.specs.declared.expr.Var.{Var}
use Rattle.c_prog.specs.declared.stmt.Cond.{Cond}
use Rattle.c_prog.specs.declared.stmt.Jump.{Jump}
use Rattle.c_prog.specs.declared.stmt.Step.{Step}
use Rattle.c_prog.specs.declared.stmt.Stmt.{Stmt}
use Rattle.c_prog.specs.declared.stmt.Stmt.TheVariants as stmt
use Rattle.c_prog.specs.declared.stmt.Stmt.TheOpen.{Stmt-F}
use Rattle.c_prog.specs.declared.stmt.Stmt.TheFolds.{fold-roll-Stmt}
use Rattle.c_prog.specs.Accesses.{expr_accesses, read_accesses, index_accesses, touched, marked, stops_early, expr_level, target_level}
use Rattle.c_prog.specs.Marks.{old_ops}
use Rattle.c_prog.specs.Nodes.{nodes, nodes_of, nodes_level, step_nodes}
use Rattle.c_prog.specs.Order.{Node, act, cond, jump, order, order_of, order_level, step_order}
use Rattle.c_prog.specs.Patched.{patched, patched_of, patched_level, has_some, cond_patched, step_patched}
use Rattle.c_prog.specs.Strip.{strip, strip_all, strip_level, strip_cond, strip_step}

pub nodes-Simple : (a : Act) (after : List Op) → nodes (stmt.Simple a after) ≡ 1
nodes-Simple a after = ap nodes (sym (stmt.rolls-Simple a after)) ∙ fold-roll-Stmt ℕ nodes_level (Stmt-F.Simple a after)

pub nodes-Jump : (j : Jump) (after : List Op) → nodes (stmt.Jump j after) ≡ 1
nodes-Jump j after = ap nodes (sym (stmt.rolls-Jump j after)) ∙ fold-roll-Stmt ℕ nodes_level (Stmt-F.Jump j after)

pub nodes-If : (c : Cond) (as_true as_false : List Stmt) → nodes (stmt.If c as_true as_false) ≡ 1 + nodes_of as_true + nodes_of as_false
nodes-If c as_true as_false =
    ap nodes (sym (stmt.rolls-If c as_true as_false)) ∙ fold-roll-Stmt ℕ nodes_level (Stmt-F.If c as_true as_false)

pub nodes-Loop : (c : Cond) (s : Option Step) (body : List Stmt) → nodes (stmt.Loop c s body) ≡ 1 + step_nodes s + nodes_of body
nodes-Loop c s body = ap nodes (sym (stmt.rolls-Loop c s body)) ∙ fold-roll-Stmt ℕ nodes_level (Stmt-F.Loop c s body)

pub nodes-Block : (body : List Stmt) → nodes (stmt.Block body) ≡ nodes_of body
nodes-Block body = ap nodes (sym (stmt.rolls-Block body)) ∙ fold-roll-Stmt ℕ nodes_level (Stmt-F.Block body)

pub order-Simple : (a : Act) (after : List Op) → order (stmt.Simple a after) ≡ act a after ∷ []
order-Simple a after = ap order (sym (stmt.rolls-Simple a after)) ∙ fold-roll-Stmt (List Node) order_level (Stmt-F.Simple a after)

pub order-Jump : (j : Jump) (after : List Op) → order (stmt.Jump j after) ≡ jump j after ∷ []
order-Jump j after = ap order (sym (stmt.rolls-Jump j after)) ∙ fold-roll-Stmt (List Node) order_level (Stmt-F.Jump j after)

pub order-If : (c : Cond) (as_true as_false : List Stmt)
    → order (stmt.If c as_true as_false) ≡ cond c ∷ (order_of as_true ++ order_of as_false)
order-If c as_true as_false =
    ap order (sym (stmt.rolls-If c as_true as_false)) ∙ fold-roll-Stmt (List Node) order_level (Stmt-F.If c as_true as_false)

pub order-Loop : (c : Cond) (s : Option Step) (body : List Stmt)
    → order (stmt.Loop c s body) ≡ cond c ∷ (step_order s ++ order_of body)
order-Loop c s body = ap order (sym (stmt.rolls-Loop c s body)) ∙ fold-roll-Stmt (List Node) order_level (Stmt-F.Loop c s body)

pub order-Block : (body : List Stmt) → order (stmt.Block body) ≡ order_of body
order-Block body = ap order (sym (stmt.rolls-Block body)) ∙ fold-roll-Stmt (List Node) order_level (Stmt-F.Block body)

pub strip-Simple : (m : Marks) (a : Act) (after : List Op) → strip m (stmt.Simple a after) ≡ stmt.Simple a (old_ops m after)
strip-Simple m a after = ap (strip m) (sym (stmt.rolls-Simple a after)) ∙ fold-roll-Stmt Stmt (strip_level m) (Stmt-F.Simple a after)

pub strip-Jump : (m : Marks) (j : Jump) (after : List Op) → strip m (stmt.Jump j after) ≡ stmt.Jump j (old_ops m after)
strip-Jump m j after = ap (strip m) (sym (stmt.rolls-Jump j after)) ∙ fold-roll-Stmt Stmt (strip_level m) (Stmt-F.Jump j after)

pub strip-If : (m : Marks) (c : Cond) (as_true as_false : List Stmt)
    → strip m (stmt.If c as_true as_false) ≡ stmt.If (strip_cond m c) (strip_all m as_true) (strip_all m as_false)
strip-If m c as_true as_false =
    ap (strip m) (sym (stmt.rolls-If c as_true as_false)) ∙ fold-roll-Stmt Stmt (strip_level m) (Stmt-F.If c as_true as_false)

pub strip-Loop : (m : Marks) (c : Cond) (s : Option Step) (body : List Stmt)
    → strip m (stmt.Loop c s body) ≡ stmt.Loop (strip_cond m c) (strip_step m s) (strip_all m body)
strip-Loop m c s body = ap (strip m) (sym (stmt.rolls-Loop c s body)) ∙ fold-roll-Stmt Stmt (strip_level m) (Stmt-F.Loop c s body)

pub strip-Block : (m : Marks) (body : List Stmt) → strip m (stmt.Block body) ≡ stmt.Block (strip_all m body)
strip-Block m body = ap (strip m) (sym (stmt.rolls-Block body)) ∙ fold-roll-Stmt Stmt (strip_level m) (Stmt-F.Block body)

pub patched-Simple : (a : Act) (after : List Op) → patched (stmt.Simple a after) ≡ has_some after
patched-Simple a after = ap patched (sym (stmt.rolls-Simple a after)) ∙ fold-roll-Stmt Bool patched_level (Stmt-F.Simple a after)

pub patched-Jump : (j : Jump) (after : List Op) → patched (stmt.Jump j after) ≡ has_some after
patched-Jump j after = ap patched (sym (stmt.rolls-Jump j after)) ∙ fold-roll-Stmt Bool patched_level (Stmt-F.Jump j after)

pub patched-If : (c : Cond) (as_true as_false : List Stmt)
    → patched (stmt.If c as_true as_false) ≡ cond_patched c || patched_of as_true || patched_of as_false
patched-If c as_true as_false =
    ap patched (sym (stmt.rolls-If c as_true as_false)) ∙ fold-roll-Stmt Bool patched_level (Stmt-F.If c as_true as_false)

pub patched-Loop : (c : Cond) (s : Option Step) (body : List Stmt)
    → patched (stmt.Loop c s body) ≡ cond_patched c || step_patched s || patched_of body
patched-Loop c s body = ap patched (sym (stmt.rolls-Loop c s body)) ∙ fold-roll-Stmt Bool patched_level (Stmt-F.Loop c s body)

pub patched-Block : (body : List Stmt) → patched (stmt.Block body) ≡ patched_of body
patched-Block body = ap patched (sym (stmt.rolls-Block body)) ∙ fold-roll-Stmt Bool patched_level (Stmt-F.Block body)

pub accesses-Number : (n : ℤ) → expr_accesses (expr.Number n) ≡ []
accesses-Number n =
    ap expr_accesses (sym (expr.rolls-Number n)) ∙ fold-roll-Expr (List Touch) (List Touch) expr_level target_level (Expr-F.Number n)

pub accesses-Cast : (n : ℕ) → expr_accesses (expr.Cast n) ≡ []
accesses-Cast n =
    ap expr_accesses (sym (expr.rolls-Cast n)) ∙ fold-roll-Expr (List Touch) (List Touch) expr_level target_level (Expr-F.Cast n)

pub accesses-Neg : (e : Expr) → expr_accesses (expr.Neg e) ≡ expr_accesses e
accesses-Neg e =
    ap expr_accesses (sym (expr.rolls-Neg e)) ∙ fold-roll-Expr (List Touch) (List Touch) expr_level target_level (Expr-F.Neg e)

pub accesses-Not : (e : Expr) → expr_accesses (expr.Not e) ≡ expr_accesses e
accesses-Not e =
    ap expr_accesses (sym (expr.rolls-Not e)) ∙ fold-roll-Expr (List Touch) (List Touch) expr_level target_level (Expr-F.Not e)

pub accesses-Read : (t : Target) → expr_accesses (expr.Read t) ≡ read_accesses t
accesses-Read t =
    ap expr_accesses (sym (expr.rolls-Read t)) ∙ fold-roll-Expr (List Touch) (List Touch) expr_level target_level (Expr-F.Read t)

pub accesses-Binary : (op : BinOp) (l r : Expr)
    → expr_accesses (expr.Binary op l r) ≡ expr_accesses l ++ marked (not (stops_early op)) (expr_accesses r)
accesses-Binary op l r =
    ap expr_accesses (sym (expr.rolls-Binary op l r))
    ∙ fold-roll-Expr (List Touch) (List Touch) expr_level target_level (Expr-F.Binary op l r)

read-at : (v : Var) (i : Option Expr)
    → read_accesses (record { var = v; index = i }) ≡ index_accesses i ++ touched Read v
read-at v None = fold_out-Target (List Touch) (List Touch) expr_level target_level (record { var = v; index = None }) ∙ refl
read-at v (Some e) = fold_out-Target (List Touch) (List Touch) expr_level target_level (record { var = v; index = Some e }) ∙ refl

pub read-is : (t : Target) → read_accesses t ≡ index_accesses t.index ++ touched Read t.var
read-is t = read-at t.var t.index
