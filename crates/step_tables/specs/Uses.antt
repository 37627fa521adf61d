-- What an item does with a variable, and what an operator does with its operands.
use Rattle.std.specs.Prelude.{Bool, List, length, Option, Some, None}
use Rattle.cfix_base.specs.declared.access.Access.TheVariants as access
use Rattle.c_prog.specs.declared.access_item.Touch.{Touch}
use Rattle.c_prog.specs.declared.act.How.{How}
use Rattle.c_prog.specs.declared.act.How.TheVariants as how
use Rattle.c_prog.specs.declared.expr.Expr.{Expr}
use Rattle.c_prog.specs.declared.expr.Target.{Target}
use Rattle.c_prog.specs.declared.expr.Var.{Var}
use Rattle.c_prog.specs.Accesses.{touched}
use Rattle.step_state.specs.declared.item.Action.{Action}
use Rattle.step_state.specs.declared.item.Action.TheVariants as action
use Rattle.step_state.specs.declared.item.GlobalSite.{GlobalSite}
use Rattle.step_state.specs.declared.item.LocalSite.{LocalSite}
use Rattle.step_state.specs.declared.item.Operand.{Operand}
use Rattle.step_state.specs.declared.item.Item.TheVariants as item
use Rattle.step_state.specs.declared.item.Binary.{Binary}
use Rattle.step_state.specs.declared.item.Binary.TheVariants as binary
use Rattle.step_state.specs.declared.item.Reduction.{Reduction}
use Rattle.step_state.specs.declared.item.Reduction.TheVariants as reduction
use Rattle.step_state.specs.Code.{node}
use Rattle.step_state.specs.Parts.{Part, one, own, both, args_part, target_index, has_index, read_var, read_keep, write_var, operated, early}
use Rattle.step_tables.specs.declared.uses.Use.{Use}
use Rattle.step_tables.specs.declared.uses.Use.TheVariants.{Read, Keep, Write}
use Rattle.step_tables.specs.declared.uses.Early.{Early}
use Rattle.step_tables.specs.declared.uses.Early.TheVariants.{And, Or}
use Rattle.step_tables.specs.declared.uses.Operator.{Operator}
use Rattle.step_tables.specs.declared.uses.Operator.TheVariants as operator

-- a variable or element is read, read and its index kept, or written
abbrev pub use_part : Use → Var → Bool → Part
use_part Read = read_var
use_part Keep = read_keep
use_part Write = write_var

-- the access that this is, if the variable is a global
abbrev pub use_touches : Use → Var → List Touch
use_touches Read v = touched access.Read v
use_touches Keep v = touched access.Read v
use_touches Write v = touched access.Write v

-- the item at a global variable and at a local one
abbrev pub global_action : Use → GlobalSite → Action
global_action Read = action.Get
global_action Keep = action.GetKeep
global_action Write = action.Put

abbrev pub local_reduction : Use → LocalSite → Reduction
local_reduction Read = reduction.Local
local_reduction Keep = reduction.LocalKeep
local_reduction Write = reduction.Put

-- the item that decides whether the right operand is evaluated
abbrev pub decision : Early → Operand → Reduction
decision And = reduction.And
decision Or = reduction.Or

-- an operator and its operands
abbrev pub operator_part : Operator → Part → Part → Part
operator_part (operator.Strict op) = operated op
operator_part (operator.Early op) = early (decision op)

-- the operator of an `op=`; `=` has none
abbrev pub operator_of : How → Option Binary
operator_of how.Set = None
operator_of how.Add = Some binary.Add
operator_of how.Sub = Some binary.Sub
operator_of how.Mul = Some binary.Mul
operator_of how.Div = Some binary.Div
operator_of how.Rem = Some binary.Rem

-- a printf with these arguments
abbrev pub print_part : List Expr → Part
print_part args = both (args_part args) (own (λ n. item.Act (action.Print (node n) (length args))))

-- a scanf into this target
abbrev pub scan_part : Target → Part
scan_part target =
    both (target_index target.index) (both (one (item.Act action.Take)) (write_var target.var (has_index target.index)))
