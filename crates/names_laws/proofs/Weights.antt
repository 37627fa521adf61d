-- How many accesses and calls statements have, statement by statement.
use Rattle.std.proofs.Common.{◌≡◌, ℕ, ◌+◌, List, [], ◌∷◌, ◌++◌, map, length, Option, Some, None, refl, ap, sym, ◌∙◌, arith}
use Rattle.std.proofs.lemmas.List.{length-append}
use Rattle.cfix_base.specs.declared.op.Op.{Op}
use Rattle.cfix_base.specs.declared.number.FnId.{FnId}
use Rattle.cfix_base.specs.declared.number.NodeId.{NodeId}
use Rattle.c_prog.specs.declared.access_item.Touch.{Touch}
use Rattle.c_prog.specs.declared.act.Act.{Act}
use Rattle.c_prog.specs.declared.stmt.Cond.{Cond}
use Rattle.c_prog.specs.declared.stmt.Jump.{Jump}
use Rattle.c_prog.specs.declared.stmt.Step.{Step}
use Rattle.c_prog.specs.declared.stmt.Stmt.{Stmt}
use Rattle.c_prog.specs.declared.stmt.Stmt.TheVariants as stmt
use Rattle.c_prog.specs.declared.function.Function.{Function}
use Rattle.c_prog.specs.Accesses.{touches, numbered, act_accesses, expr_accesses, jump_accesses}
use Rattle.c_prog.specs.Calls.{callee, act_callee, jump_callee}
use Rattle.c_prog.specs.Lines.{accesses_from, calls_from, if_call}
use Rattle.c_prog.specs.Order.{Node, act, cond, step, jump, order, order_of, step_order, function_order, functions_order}
use Rattle.c_prog.proofs.Equations.{order-Simple, order-Jump, order-If, order-Loop, order-Block}

-- how many there are of what a node has
module _ (of : Node → ℕ) where
  -- in nodes
  abbrev pub in_nodes : List Node → ℕ
  in_nodes [] = 0
  in_nodes (n ∷ more) = of n + in_nodes more

  pub in_nodes-append : (xs ys : List Node) → in_nodes (xs ++ ys) ≡ in_nodes xs + in_nodes ys
  in_nodes-append [] ys = omega (arith)
  in_nodes-append (x ∷ xs) ys = omega (arith, in_nodes-append xs ys)

  -- in a statement
  abbrev pub in_stmt : Stmt → ℕ
  in_stmt s = in_nodes (order s)

  -- in statements
  abbrev pub in_stmts : List Stmt → ℕ
  in_stmts [] = 0
  in_stmts (s ∷ more) = in_stmt s + in_stmts more

  pub in_order : (list : List Stmt) → in_nodes (order_of list) ≡ in_stmts list
  in_order [] = refl
  in_order (s ∷ more) = omega (arith, in_nodes-append (order s) (order_of more), in_order more)

  pub in_stmts-append : (xs ys : List Stmt) → in_stmts (xs ++ ys) ≡ in_stmts xs + in_stmts ys
  in_stmts-append [] ys = omega (arith)
  in_stmts-append (x ∷ xs) ys = omega (arith, in_stmts-append xs ys)

  -- in functions
  abbrev pub in_functions : List Function → ℕ
  in_functions [] = 0
  in_functions (f ∷ more) = in_stmts f.body + in_functions more

  pub in_functions-append : (xs ys : List Function) → in_functions (xs ++ ys) ≡ in_functions xs + in_functions ys
  in_functions-append [] ys = omega (arith)
  in_functions-append (x ∷ xs) ys = omega (arith, in_functions-append xs ys)

  pub in_program : (list : List Function) → in_nodes (functions_order list) ≡ in_functions list
  in_program [] = refl
  in_program (f ∷ more) =
      omega (arith, in_nodes-append (function_order f) (functions_order more), in_order f.body, in_program more)

  -- of each form of statement
  pub in-Simple : (a : Act) (ops : List Op) → in_stmt (stmt.Simple a ops) ≡ of (act a ops)
  in-Simple a ops = omega (arith, ap in_nodes (order-Simple a ops))

  pub in-Jump : (j : Jump) (ops : List Op) → in_stmt (stmt.Jump j ops) ≡ of (jump j ops)
  in-Jump j ops = omega (arith, ap in_nodes (order-Jump j ops))

  pub in-If : (c : Cond) (x y : List Stmt) → in_stmt (stmt.If c x y) ≡ of (cond c) + (in_stmts x + in_stmts y)
  in-If c x y =
      omega (arith, ap in_nodes (order-If c x y), in_nodes-append (order_of x) (order_of y), in_order x, in_order y)

  abbrev pub in_step : Option Step → ℕ
  in_step s = in_nodes (step_order s)

  pub in-Loop : (c : Cond) (s : Option Step) (x : List Stmt) → in_stmt (stmt.Loop c s x) ≡ of (cond c) + (in_step s + in_stmts x)
  in-Loop c s x =
      omega (arith, ap in_nodes (order-Loop c s x), in_nodes-append (step_order s) (order_of x), in_order x)

  pub in-Block : (x : List Stmt) → in_stmt (stmt.Block x) ≡ in_stmts x
  in-Block x = omega (arith, ap in_nodes (order-Block x), in_order x)

-- how many accesses a node has
abbrev pub touch_count : Node → ℕ
touch_count n = length (touches n)

-- one call, or none
abbrev pub is_called : Option FnId → ℕ
is_called None = 0
is_called (Some f) = 1

-- how many calls a node makes
abbrev pub call_count : Node → ℕ
call_count n = is_called (callee n)

numbered-length : (node : NodeId) (i : ℕ) (ts : List Touch) → length (numbered node i ts) ≡ length ts
numbered-length node i [] = refl
numbered-length node i (t ∷ ts) = omega (arith, numbered-length node (i + 1) ts)

pub accesses-length : (n : ℕ) (nodes : List Node) → length (accesses_from n nodes) ≡ in_nodes touch_count nodes
accesses-length n [] = refl
accesses-length n (x ∷ nodes) =
    omega (arith, length-append (numbered (record { number = n }) 0 (touches x)) (accesses_from (n + 1) nodes), numbered-length (record { number = n }) 0 (touches x), accesses-length (n + 1) nodes)

if_call-length : (node : NodeId) (f : Option FnId) → length (if_call node f) ≡ is_called f
if_call-length node None = refl
if_call-length node (Some f) = refl

pub calls-length : (n : ℕ) (nodes : List Node) → length (calls_from n nodes) ≡ in_nodes call_count nodes
calls-length n [] = refl
calls-length n (x ∷ nodes) =
    omega (arith, length-append (if_call (record { number = n }) (callee x)) (calls_from (n + 1) nodes), if_call-length (record { number = n }) (callee x), calls-length (n + 1) nodes)
