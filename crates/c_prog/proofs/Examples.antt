-- Small trees, computed by the definitions.
use Rattle.std.proofs.Common.{◌≡◌, ℕ, List, [], ◌∷◌, map, Some, None, Bool, true, false, refl}
use Rattle.cfix_base.specs.declared.mark.Marks.{Marks}
use Rattle.cfix_base.specs.declared.op.Op.{Op}
use Rattle.cfix_base.specs.declared.op.Op.TheVariants as ops
use Rattle.cfix_base.specs.declared.access.Access.{Access}
use Rattle.cfix_base.specs.declared.access.Access.TheVariants as access
use Rattle.c_prog.specs.declared.access_item.Touch.{Touch}
use Rattle.c_prog.specs.declared.act.Act.{Act}
use Rattle.c_prog.specs.declared.act.Act.TheVariants as act
use Rattle.c_prog.specs.declared.act.How.TheVariants as how
use Rattle.c_prog.specs.declared.act.Value.TheVariants as value
use Rattle.c_prog.specs.declared.expr.BinOp.TheVariants as op
use Rattle.c_prog.specs.declared.expr.Expr.TheVariants as expr
use Rattle.c_prog.specs.declared.expr.Target.{Target}
use Rattle.c_prog.specs.declared.expr.Var.TheVariants as var
use Rattle.c_prog.specs.declared.function.FnKind.TheVariants as fn_kind
use Rattle.c_prog.specs.declared.stmt.Cond.{Cond}
use Rattle.c_prog.specs.declared.stmt.Jump.TheVariants as jump
use Rattle.c_prog.specs.declared.stmt.Stmt.{Stmt}
use Rattle.c_prog.specs.declared.stmt.Stmt.TheVariants as stmt
use Rattle.c_prog.specs.Accesses.{act_accesses}
use Rattle.c_prog.specs.Nodes.{nodes}
use Rattle.c_prog.specs.Order.{Node, order}
use Rattle.c_prog.specs.Order as node
use Rattle.c_prog.specs.declared.tree.Tree.{Tree}
use Rattle.c_prog.specs.Marks.{old_ops, tree_marks}
use Rattle.c_prog.specs.Strip.{strip, strip_tree}
use Rattle.c_prog.proofs.Equations.{nodes-Simple, nodes-Jump, nodes-If, nodes-Loop, order-Simple, order-Jump, order-If, order-Loop, accesses-Read, accesses-Binary, read-is, strip-Loop, strip-Simple}

-- the global variable with this number, and an access to it
variable : ℕ → Target
variable n = record { var = var.Global (record { number = n }); index = None }

-- for (; test; act) { if (test) break; else act; }
loop : Cond → Act → Stmt
loop c a = stmt.Loop c (Some (record { act = a; after = [] })) (stmt.If c (stmt.Jump jump.Break [] ∷ []) (stmt.Simple a [] ∷ []) ∷ [])

loop-nodes : (c : Cond) (a : Act) → nodes (loop c a) ≡ 5
unfolding loop
loop-nodes c a = simp (nodes-Loop, nodes-If, nodes-Jump, nodes-Simple) refl

loop-order : (c : Cond) (a : Act)
    → order (loop c a) ≡ node.cond c ∷ node.step (record { act = a; after = [] }) ∷ node.cond c ∷ node.jump jump.Break [] ∷ node.act a [] ∷ []
unfolding loop
loop-order c a = simp (order-Loop, order-If, order-Jump, order-Simple) refl

-- an access to the global variable with this number
touch : ℕ → Access → Bool → Touch
touch n kind sure = record { var = record { number = n }; access = kind; certain = sure }

-- a[x] += y && z, where a, x, y and z are the global variables 0 to 3
compound : Act
compound =
    act.Assign (record { var = var.Global (record { number = 0 }); index = Some (expr.Read (variable 1)) }) how.Add
    (value.Expr (expr.Binary op.And (expr.Read (variable 2)) (expr.Read (variable 3))))

compound-accesses : act_accesses compound
    ≡ touch 1 access.Read true ∷ touch 0 access.Read true ∷ touch 2 access.Read true ∷ touch 3 access.Read false ∷ touch 0 access.Write true ∷ []
unfolding compound variable touch
compound-accesses = simp (accesses-Read, accesses-Binary, read-is) refl

-- while (x) lock; keeps its shape without its new operations
strip-while : (m : Marks) (c : Cond) (after : List Op) → strip m (stmt.Loop c None (stmt.Simple (act.Lock (record { number = 0 })) after ∷ []))
    ≡ stmt.Loop (record { test = c.test; on_true = old_ops m c.on_true; on_false = old_ops m c.on_false }) None (stmt.Simple (act.Lock (record { number = 0 })) (old_ops m after) ∷ [])
strip-while m c after = simp (strip-Loop, strip-Simple) refl

-- operations of locks and orders, rising, and those that are below the marks
abbrev mixed : List Op
mixed =
    ops.Leave (record { number = 0 }) ∷ ops.First (record { number = 1 }) ∷ ops.Done (record { number = 4 }) ∷ ops.Wait (record { number = 0 })
    ∷ ops.Enter (record { number = 2 }) ∷ ops.Add (record { number = 2 }) ∷ []

below-marks : old_ops (record { lock = 2; order = 2 }) mixed
    ≡ ops.Leave (record { number = 0 }) ∷ ops.First (record { number = 1 }) ∷ ops.Wait (record { number = 0 }) ∷ []
below-marks = refl

-- the marks of a program: main with these operations, and an order that begins with a token
abbrev marked_program : List Op → List ℕ → Tree
marked_program start tokens = record {
  globals = [];
  functions = record { name = []; kind = fn_kind.Int; params = []; start = start; body = [] } ∷ [];
  starts = map (λ n. record { number = n }) tokens;
}

marks-of-operations : tree_marks (marked_program mixed []) ≡ record { lock = 3; order = 5 }
marks-of-operations = refl

marks-of-starts : tree_marks (marked_program mixed (2 ∷ 7 ∷ [])) ≡ record { lock = 3; order = 8 }
marks-of-starts = refl

no-marks : tree_marks (marked_program [] []) ≡ record { lock = 0; order = 0 }
no-marks = refl

old-starts : (strip_tree (record { lock = 0; order = 7 }) (marked_program mixed (2 ∷ 7 ∷ []))).starts ≡ record { number = 2 } ∷ []
old-starts = refl
