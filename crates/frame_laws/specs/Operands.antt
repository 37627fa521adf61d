-- The right operand of a reduction.
use Rattle.std.specs.Prelude.{Option, Some, None}
use Rattle.step_state.specs.declared.item.Reduction.{Reduction}
use Rattle.step_state.specs.declared.item.Reduction.TheVariants as reduction
use Rattle.step_state.specs.declared.item.Operand.{Operand}

-- the right operand that a reduction may go on with
abbrev pub operand_in : Reduction → Option Operand
operand_in (reduction.And r) = Some r
operand_in (reduction.Or r) = Some r
operand_in _ = None
