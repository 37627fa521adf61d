-- What is needed of a program and marks.
use Rattle.std.specs.Prelude.{◌≡◌, ℕ, ◌≤◌}
use Rattle.step_state.specs.declared.item.Operand.{Operand}
use Rattle.step_state.specs.Code.{Code}
use Rattle.cfix_base.specs.declared.mark.Marks.{Marks}
use Rattle.step_state.specs.Erase.{strip_work}

-- the program has no fewer locks and orders than the marks say, and its nodes hold no operation that is new
pub record IsMarked (m : Marks) (c : Code) : Type 0 where
  pub locks : m.lock ≤ c.locks
  pub orders : m.order ≤ c.orders
  pub items : (n : ℕ) → strip_work m (c.items n) ≡ c.items n
  pub operand : (r : Operand) → strip_work m (c.operand r) ≡ c.operand r
