-- The operations of a program, its marks, and which operations are new: those with numbers from the marks on.
use Rattle.std.specs.Prelude.{ℕ, ◌+◌, max, nat_le, Bool, true, false, List, [], ◌∷◌, ◌++◌, map, Option, Some, None}
use Rattle.cfix_base.specs.declared.mark.Marks.{Marks}
use Rattle.cfix_base.specs.declared.number.OrderId.{OrderId}
use Rattle.cfix_base.specs.declared.op.Op.{Op}
use Rattle.cfix_base.specs.declared.op.Op.TheVariants.{Leave, First, Done, Wait, Enter, Add}
use Rattle.c_prog.specs.declared.stmt.Cond.{Cond}
use Rattle.c_prog.specs.declared.stmt.Step.{Step}
use Rattle.c_prog.specs.declared.stmt.Stmt.{Stmt}
use Rattle.c_prog.specs.declared.stmt.Stmt.TheOpen.{Stmt-F}
use Rattle.c_prog.specs.declared.stmt.Stmt.TheFolds.{fold-Stmt}
use Rattle.c_prog.specs.declared.function.Function.{Function}
use Rattle.c_prog.specs.declared.tree.Tree.{Tree}
use Rattle.c_prog.specs.Order.{joined}

-- an operation is new where its lock, or its order, is not below the mark
abbrev pub is_new : Marks → Op → Bool
is_new m (Leave k) = nat_le m.lock k.number
is_new m (First j) = nat_le m.order j.number
is_new m (Done j) = nat_le m.order j.number
is_new m (Wait j) = nat_le m.order j.number
is_new m (Enter k) = nat_le m.lock k.number
is_new m (Add j) = nat_le m.order j.number

-- and so is an order that begins with a token
abbrev pub is_new_start : Marks → OrderId → Bool
is_new_start m j = nat_le m.order j.number

-- an item before others, unless it is new
abbrev pub keep_old : {A : Type 0} → Bool → A → List A → List A
keep_old true x xs = xs
keep_old false x xs = x ∷ xs

-- the list without what is new
abbrev pub old_of : {A : Type 0} → (A → Bool) → List A → List A
old_of new [] = []
old_of new (x ∷ xs) = keep_old (new x) x (old_of new xs)

-- operations without the new ones
abbrev pub old_ops : Marks → List Op → List Op
old_ops m ops = old_of (is_new m) ops

-- the marks from which on all operations are new
abbrev pub all_new : Marks
all_new = record { lock = 0; order = 0 }

-- the operations of a condition
abbrev pub cond_ops : Cond → List Op
cond_ops cond = cond.on_true ++ cond.on_false

-- the operations of a step, if there is one
abbrev pub step_ops : Option Step → List Op
step_ops None = []
step_ops (Some step) = step.after

-- one level of a statement, with the operations of the statements inside
abbrev pub all_level : Stmt-F (List Op) → List Op
all_level (Stmt-F.Simple act after) = after
all_level (Stmt-F.Jump jump after) = after
all_level (Stmt-F.If cond as_true as_false) = cond_ops cond ++ (joined as_true ++ joined as_false)
all_level (Stmt-F.Loop cond step body) = cond_ops cond ++ (step_ops step ++ joined body)
all_level (Stmt-F.Block body) = joined body

-- all operations of a statement
abbrev pub all_ops : Stmt → List Op
all_ops = fold-Stmt (List Op) all_level

-- those of statements
abbrev pub all_of : List Stmt → List Op
all_of list = joined (map all_ops list)

-- those of a function
abbrev pub function_all : Function → List Op
function_all function = function.start ++ all_of function.body

-- those of functions
abbrev pub functions_all : List Function → List Op
functions_all list = joined (map function_all list)

-- those of a program
abbrev pub tree_all : Tree → List Op
tree_all tree = functions_all tree.functions

-- 1 plus the number of an operation's lock, or 0 where it has none
abbrev pub above_lock : Op → ℕ
above_lock (Leave k) = k.number + 1
above_lock (Enter k) = k.number + 1
above_lock _ = 0

-- 1 plus the number of an operation's order, or 0 where it has none
abbrev pub above_order : Op → ℕ
above_order (First j) = j.number + 1
above_order (Done j) = j.number + 1
above_order (Wait j) = j.number + 1
above_order (Add j) = j.number + 1
above_order _ = 0

-- 1 plus the number of an order that begins with a token
abbrev pub above_start : OrderId → ℕ
above_start j = j.number + 1

-- the greatest of these numbers, or 0
abbrev pub greatest : {A : Type 0} → (A → ℕ) → List A → ℕ
greatest f [] = 0
greatest f (x ∷ xs) = max (f x) (greatest f xs)

-- the marks of a program: all its operations and starts are below them
abbrev pub tree_marks : Tree → Marks
tree_marks tree = record {
  lock = greatest above_lock (tree_all tree);
  order = max (greatest above_order (tree_all tree)) (greatest above_start tree.starts);
}
