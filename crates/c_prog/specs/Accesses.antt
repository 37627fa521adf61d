-- The accesses of a node to global `int` variables in evaluation order: operands from left to
-- right, an index before its element, a right side before the write (`op=` reads its target before
-- its right side). An access under a right operand of `&&` or `||` is not certain (6.5.13 and
-- 6.5.14 of ISO/IEC 9899:2011).
use Rattle.std.specs.Prelude.{ℕ, ◌+◌, Bool, not, ◌&&◌, true, false, List, [], ◌∷◌, ◌++◌, map, Option, Some, None}
use Rattle.cfix_base.specs.declared.access.Access.{Access}
use Rattle.cfix_base.specs.declared.access.Access.TheVariants.{Read, Write}
use Rattle.cfix_base.specs.declared.number.NodeId.{NodeId}
use Rattle.c_prog.specs.declared.access_item.AccessItem.{AccessItem}
use Rattle.c_prog.specs.declared.access_item.Touch.{Touch}
use Rattle.c_prog.specs.declared.expr.Var.{Var}
use Rattle.c_prog.specs.declared.expr.Var.TheVariants.{Global, Local}
use Rattle.c_prog.specs.declared.expr.BinOp.{BinOp}
use Rattle.c_prog.specs.declared.expr.BinOp.TheVariants.{And, Or}
use Rattle.c_prog.specs.declared.expr.Expr.{Expr}
use Rattle.c_prog.specs.declared.expr.Target.{Target}
use Rattle.c_prog.specs.declared.expr.Expr.TheOpen.{Expr-F, Target-F}
use Rattle.c_prog.specs.declared.expr.Expr.TheFolds.{fold-Expr, fold-Target}
use Rattle.c_prog.specs.declared.act.Act.{Act}
use Rattle.c_prog.specs.declared.act.Act.TheVariants as form
use Rattle.c_prog.specs.declared.act.How.{How}
use Rattle.c_prog.specs.declared.act.How.TheVariants.{Set}
use Rattle.c_prog.specs.declared.act.Value.{Value}
use Rattle.c_prog.specs.declared.act.Value.TheVariants as value
use Rattle.c_prog.specs.declared.stmt.Jump.{Jump}
use Rattle.c_prog.specs.declared.stmt.Jump.TheVariants.{ReturnValue}
use Rattle.c_prog.specs.declared.tree.Tree.{Tree}
use Rattle.c_prog.specs.Order.{Node, act, cond, step, jump, joined, node_at}

-- whether the right operand is evaluated only at some values of the left one
abbrev pub stops_early : BinOp → Bool
stops_early And = true
stops_early Or = true
stops_early _ = false

-- an access that may be passed over
abbrev pub unsure : Touch → Touch
unsure item = record item { certain = false }

-- accesses that are certain only where this is true
abbrev pub marked : Bool → List Touch → List Touch
marked true items = items
marked false items = map unsure items

-- the access to a variable itself: none if it is a local
abbrev pub touched : Access → Var → List Touch
touched access (Global v) = record { var = v; access = access; certain = true } ∷ []
touched access (Local n) = []

-- the accesses of an index, if there is one
abbrev pub inner : Option (List Touch) → List Touch
inner None = []
inner (Some items) = items

-- one level of an expression, with the accesses of the expressions inside
abbrev pub expr_level : Expr-F (List Touch) (List Touch) → List Touch
expr_level (Expr-F.Number n) = []
expr_level (Expr-F.Read target) = target
expr_level (Expr-F.Cast n) = []
expr_level (Expr-F.Neg e) = e
expr_level (Expr-F.Not e) = e
expr_level (Expr-F.Binary op left right) = left ++ marked (not (stops_early op)) right

-- one level of a variable or element that is read: its index, then itself
abbrev pub target_level : Target-F (List Touch) (List Touch) → List Touch
target_level target = inner target.index ++ touched Read target.var

-- the accesses of an expression
abbrev pub expr_accesses : Expr → List Touch
expr_accesses = fold-Expr (List Touch) (List Touch) expr_level target_level

-- the accesses of a variable or element that is read
abbrev pub read_accesses : Target → List Touch
read_accesses = fold-Target (List Touch) (List Touch) expr_level target_level

-- the accesses of an index
abbrev pub index_accesses : Option Expr → List Touch
index_accesses None = []
index_accesses (Some e) = expr_accesses e

-- the accesses of arguments, from left to right
abbrev pub args_accesses : List Expr → List Touch
args_accesses args = joined (map expr_accesses args)

-- the accesses of what is assigned, returned or begun with
abbrev pub value_accesses : Value → List Touch
value_accesses (value.Expr e) = expr_accesses e
value_accesses (value.Call c) = args_accesses c.args

-- the accesses of an initialiser
abbrev pub initial_accesses : Option Value → List Touch
initial_accesses None = []
initial_accesses (Some v) = value_accesses v

-- the read of its target by which a compound assignment begins (6.5.16.2 of ISO/IEC 9899:2011)
abbrev pub kept_accesses : How → Var → List Touch
kept_accesses Set v = []
kept_accesses _ v = touched Read v

-- the accesses of a simple statement or a step
abbrev pub act_accesses : Act → List Touch
act_accesses (form.Declare name kind initial) = initial_accesses initial
act_accesses (form.Assign target how v) =
    index_accesses target.index ++ kept_accesses how target.var ++ value_accesses v ++ touched Write target.var
act_accesses (form.Up target) = index_accesses target.index ++ touched Read target.var ++ touched Write target.var
act_accesses (form.Down target) = index_accesses target.index ++ touched Read target.var ++ touched Write target.var
act_accesses (form.Call c) = args_accesses c.args
act_accesses (form.Create target of arg) = index_accesses target.index ++ expr_accesses arg
act_accesses (form.Join target) = index_accesses target.index
act_accesses (form.Lock m) = []
act_accesses (form.Unlock m) = []
act_accesses (form.Print text args) = args_accesses args
act_accesses (form.Scan target) = index_accesses target.index ++ touched Write target.var
act_accesses (form.Wait c m) = []
act_accesses (form.Signal c) = []
act_accesses (form.Broadcast c) = []

-- the accesses of a jump
abbrev pub jump_accesses : Jump → List Touch
jump_accesses (ReturnValue v) = value_accesses v
jump_accesses _ = []

-- the accesses of a node
abbrev pub touches : Node → List Touch
touches (act a after) = act_accesses a
touches (cond c) = expr_accesses c.test
touches (step s) = act_accesses s.act
touches (jump j after) = jump_accesses j

-- an access with its number
abbrev pub numbered_one : NodeId → ℕ → Touch → AccessItem
numbered_one node index item = record {
  id = record { node = node; index = index };
  var = item.var;
  access = item.access;
  certain = item.certain;
}

-- accesses of a node, numbered in order from `index`
abbrev pub numbered : NodeId → ℕ → List Touch → List AccessItem
numbered node index [] = []
numbered node index (item ∷ rest) = numbered_one node index item ∷ numbered node (index + 1) rest

-- the accesses of a node before they are numbered; none where the program has no such node
abbrev pub touches_of : Option Node → List Touch
touches_of None = []
touches_of (Some n) = touches n

-- the accesses of the node with this number, in evaluation order
abbrev pub accesses : Tree → NodeId → List AccessItem
accesses tree node = numbered node 0 (touches_of (node_at tree node.number))

-- whether the right operand of an expression that is certain or not is certain
abbrev pub right_certain : Bool → BinOp → Bool
right_certain certain op = certain && not (stops_early op)
