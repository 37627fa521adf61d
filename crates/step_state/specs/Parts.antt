-- The items of expressions: operands from left to right, an index before its element, the right operand of `&&` and `||`
-- apart, since it is evaluated only at some values of the left one (6.5.13 and 6.5.14 of ISO/IEC 9899:2011).
use Rattle.std.specs.Prelude.{ℕ, ◌+◌, Bool, true, false, List, [], ◌∷◌, ◌++◌, Option, Some, None}
use Rattle.cfix_base.specs.declared.number.VarId.{VarId}
use Rattle.cfix_base.specs.declared.access.AccessId.{AccessId}
use Rattle.c_prog.specs.declared.expr.Var.{Var}
use Rattle.c_prog.specs.declared.expr.Var.TheVariants.{Global, Local}
use Rattle.c_prog.specs.declared.expr.BinOp.{BinOp}
use Rattle.c_prog.specs.declared.expr.BinOp.TheVariants as op
use Rattle.c_prog.specs.declared.expr.Expr.{Expr}
use Rattle.c_prog.specs.declared.expr.Expr.TheOpen.{Expr-F, Target-F}
use Rattle.c_prog.specs.declared.expr.Expr.TheFolds.{fold-Expr}
use Rattle.step_state.specs.declared.item.Item.{Item}
use Rattle.step_state.specs.declared.item.Item.TheVariants.{Reduce, Act}
use Rattle.step_state.specs.declared.item.Reduction.{Reduction}
use Rattle.step_state.specs.declared.item.Reduction.TheVariants as reduction
use Rattle.step_state.specs.declared.item.Action.TheVariants as action
use Rattle.step_state.specs.declared.item.Operand.{Operand}
use Rattle.step_state.specs.declared.item.LocalSite.{LocalSite}
use Rattle.step_state.specs.declared.item.GlobalSite.{GlobalSite}
use Rattle.step_state.specs.declared.item.Unary.TheVariants.{Neg, Not}
use Rattle.step_state.specs.declared.item.Binary.{Binary}
use Rattle.step_state.specs.declared.item.Binary.TheVariants as binary
use Rattle.step_state.specs.Code.{node}

-- where a part of a node stands: the node, the number of its next access and of its next `&&` or `||`
pub record At : Type 0 where
  pub node : ℕ
  pub touch : ℕ
  pub operator : ℕ

-- A part of a node: how many accesses and how many `&&` and `||` it has, its items, and the items of the right operands in
-- it, in the order of their operators.
pub record Part : Type 0 where
  pub touches : ℕ
  pub operators : ℕ
  pub items : At → List Item
  pub operands : At → List (List Item)

-- behind a part
abbrev pub past : Part → At → At
past part at = record { node = at.node; touch = at.touch + part.touches; operator = at.operator + part.operators }

-- nothing
abbrev pub nothing : Part
nothing = record { touches = 0; operators = 0; items = λ at. []; operands = λ at. [] }

-- one item that is no access
abbrev pub one : Item → Part
one item = record { touches = 0; operators = 0; items = λ at. item ∷ []; operands = λ at. [] }

-- one item that is no access and names its node
abbrev pub own : (ℕ → Item) → Part
own item = record { touches = 0; operators = 0; items = λ at. item at.node ∷ []; operands = λ at. [] }

-- one access
abbrev pub access : (AccessId → Item) → Part
access item = record {
  touches = 1;
  operators = 0;
  items = λ at. item (record { node = node at.node; index = at.touch }) ∷ [];
  operands = λ at. [];
}

-- two parts, one after the other
abbrev pub both : Part → Part → Part
both a b = record {
  touches = a.touches + b.touches;
  operators = a.operators + b.operators;
  items = λ at. a.items at ++ b.items (past a at);
  operands = λ at. a.operands at ++ b.operands (past a at);
}

-- the right operand behind a left one
abbrev pub behind : Part → At → At
behind left at = record { node = at.node; touch = at.touch + left.touches; operator = at.operator + left.operators + 1 }

-- a left operand, and the item that decides whether the right one is evaluated
abbrev pub early : (Operand → Reduction) → Part → Part → Part
early decide left right = record {
  touches = left.touches + right.touches;
  operators = left.operators + 1 + right.operators;
  items = λ at. left.items at ++ Reduce (decide (record { node = node at.node; number = at.operator + left.operators })) ∷ [];
  operands = λ at. left.operands at ++ right.items (behind left at) ∷ right.operands (behind left at);
}

-- both operands, and then the operator
abbrev pub operated : Binary → Part → Part → Part
operated binary left right = both left (both right (one (Reduce (reduction.Bin binary))))

abbrev pub binary_part : BinOp → Part → Part → Part
binary_part op.Add = operated binary.Add
binary_part op.Sub = operated binary.Sub
binary_part op.Mul = operated binary.Mul
binary_part op.Div = operated binary.Div
binary_part op.Rem = operated binary.Rem
binary_part op.Lt = operated binary.Lt
binary_part op.Le = operated binary.Le
binary_part op.Gt = operated binary.Gt
binary_part op.Ge = operated binary.Ge
binary_part op.Eq = operated binary.Eq
binary_part op.Ne = operated binary.Ne
binary_part op.And = early reduction.And
binary_part op.Or = early reduction.Or

-- an index, if there is one
abbrev pub index_part : Option Part → Part
index_part None = nothing
index_part (Some part) = part

abbrev pub has_index : {A : Type 0} → Option A → Bool
has_index None = false
has_index (Some i) = true

abbrev pub local_site : ℕ → Bool → LocalSite
local_site x indexed = record { local = x; indexed = indexed }

abbrev pub global_site : VarId → Bool → AccessId → GlobalSite
global_site v indexed id = record { access = id; var = v; indexed = indexed }

-- a variable or element is read, behind its index
abbrev pub read_var : Var → Bool → Part
read_var (Global v) indexed = access (λ id. Act (action.Get (global_site v indexed id)))
read_var (Local x) indexed = one (Reduce (reduction.Local (local_site x indexed)))

-- the same for the target of `op=`, whose index stays
abbrev pub read_keep : Var → Bool → Part
read_keep (Global v) indexed = access (λ id. Act (action.GetKeep (global_site v indexed id)))
read_keep (Local x) indexed = one (Reduce (reduction.LocalKeep (local_site x indexed)))

-- a variable or element is written, behind its index and the value
abbrev pub write_var : Var → Bool → Part
write_var (Global v) indexed = access (λ id. Act (action.Put (global_site v indexed id)))
write_var (Local x) indexed = one (Reduce (reduction.Put (local_site x indexed)))

-- one level of an expression, with the parts of the expressions inside
abbrev pub expr_part_level : Expr-F Part Part → Part
expr_part_level (Expr-F.Number n) = one (Reduce (reduction.Push n))
expr_part_level (Expr-F.Read target) = target
expr_part_level (Expr-F.Cast x) = one (Reduce (reduction.Local (local_site x false)))
expr_part_level (Expr-F.Neg e) = both e (one (Reduce (reduction.Un Neg)))
expr_part_level (Expr-F.Not e) = both e (one (Reduce (reduction.Un Not)))
expr_part_level (Expr-F.Binary op left right) = binary_part op left right

-- one level of a variable or element that is read
abbrev pub target_part_level : Target-F Part Part → Part
target_part_level target = both (index_part target.index) (read_var target.var (has_index target.index))

-- the part that an expression is
abbrev pub expr_part : Expr → Part
expr_part = fold-Expr Part Part expr_part_level target_part_level

-- the parts of arguments, one after another
abbrev pub args_part : List Expr → Part
args_part [] = nothing
args_part (e ∷ rest) = both (expr_part e) (args_part rest)

-- the index of a target, if it has one
abbrev pub target_index : Option Expr → Part
target_index None = nothing
target_index (Some e) = expr_part e
