-- The numbers in inserted operations, as a text can spell them.
use Rattle.std.specs.Prelude.{ℕ, Bool, true, ◌&&◌, nat_le, nat_lt, List, [], ◌∷◌, map, Option, Some, None}
use Rattle.std.specs.List.{list_all}
use Rattle.cfix_base.specs.declared.number.OrderId.{OrderId}
use Rattle.cfix_base.specs.declared.op.Op.{Op}
use Rattle.cfix_base.specs.declared.op.Op.TheVariants.{Leave, First, Done, Wait, Enter, Add}
use Rattle.c_prog.specs.declared.stmt.Cond.{Cond}
use Rattle.c_prog.specs.declared.stmt.Step.{Step}
use Rattle.c_prog.specs.declared.stmt.Stmt.{Stmt}
use Rattle.c_prog.specs.declared.stmt.Stmt.TheOpen.{Stmt-F}
use Rattle.c_prog.specs.declared.stmt.Stmt.TheFolds.{fold-Stmt}

-- the number of an operation
abbrev pub op_number : Op → ℕ
op_number (Leave lock) = lock.number
op_number (First order) = order.number
op_number (Done order) = order.number
op_number (Wait order) = order.number
op_number (Enter lock) = lock.number
op_number (Add order) = order.number

-- operations whose numbers a text spells
abbrev pub are_valid_ops : List Op → Bool
are_valid_ops ops = list_all (λ op. nat_le (op_number op) 2147483647) ops

-- the operations of a condition
abbrev pub has_valid_cond : Cond → Bool
has_valid_cond cond = are_valid_ops cond.on_true && are_valid_ops cond.on_false

-- the operations of a step, if there is one
abbrev pub has_valid_step : Option Step → Bool
has_valid_step None = true
has_valid_step (Some step) = are_valid_ops step.after

-- each of these is true
abbrev pub all_true : List Bool → Bool
all_true list = list_all (λ each. each) list

-- one level of a statement
abbrev pub ops_level : Stmt-F Bool → Bool
ops_level (Stmt-F.Simple act ops) = are_valid_ops ops
ops_level (Stmt-F.Jump jump ops) = are_valid_ops ops
ops_level (Stmt-F.If cond on_true on_false) = has_valid_cond cond && all_true on_true && all_true on_false
ops_level (Stmt-F.Loop cond step body) = has_valid_cond cond && has_valid_step step && all_true body
ops_level (Stmt-F.Block body) = all_true body

-- the operations in a statement
abbrev pub has_valid_ops : Stmt → Bool
has_valid_ops = fold-Stmt Bool ops_level

-- the operations in statements
abbrev pub have_valid_ops : List Stmt → Bool
have_valid_ops body = all_true (map has_valid_ops body)

-- orders that rise, from this one on
abbrev pub rise_after : ℕ → List OrderId → Bool
rise_after last [] = true
rise_after last (order ∷ orders) = nat_lt last order.number && rise_after order.number orders

-- orders that rise
abbrev pub are_rising : List OrderId → Bool
are_rising [] = true
are_rising (order ∷ orders) = rise_after order.number orders

-- the orders that begin with a token, as a text spells them: each once, here in rising order
abbrev pub are_valid_starts : List OrderId → Bool
are_valid_starts starts = are_rising starts && list_all (λ order. nat_le order.number 2147483647) starts
