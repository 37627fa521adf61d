-- The function that a node calls, and the function whose thread a node creates.
use Rattle.std.specs.Prelude.{Bool, true, false, Option, Some, None}
use Rattle.cfix_base.specs.declared.number.FnId.{FnId}
use Rattle.c_prog.specs.declared.act.Act.{Act}
use Rattle.c_prog.specs.declared.act.Act.TheVariants as form
use Rattle.c_prog.specs.declared.act.Value.{Value}
use Rattle.c_prog.specs.declared.act.Value.TheVariants as value
use Rattle.c_prog.specs.declared.stmt.Jump.{Jump}
use Rattle.c_prog.specs.declared.stmt.Jump.TheVariants.{ReturnValue}
use Rattle.c_prog.specs.Order.{Node, act, cond, step, jump}

-- the function that a value calls
abbrev pub value_callee : Value → Option FnId
value_callee (value.Expr e) = None
value_callee (value.Call c) = Some c.of

-- the function that a simple statement calls: as a statement of its own, as an initialiser, or as
-- the right side of an assignment
abbrev pub act_callee : Act → Option FnId
act_callee (form.Declare name kind (Some v)) = value_callee v
act_callee (form.Assign target how v) = value_callee v
act_callee (form.Call c) = Some c.of
act_callee _ = None

-- the function that a jump calls, behind `return`
abbrev pub jump_callee : Jump → Option FnId
jump_callee (ReturnValue v) = value_callee v
jump_callee _ = None

-- the function that a node calls; the creation of a thread is no call
abbrev pub callee : Node → Option FnId
callee (act a after) = act_callee a
callee (cond c) = None
callee (step s) = act_callee s.act
callee (jump j after) = jump_callee j

-- the function whose thread a simple statement creates
abbrev pub act_created : Act → Option FnId
act_created (form.Create target of arg) = Some of
act_created _ = None

-- the function whose thread a node creates
abbrev pub created : Node → Option FnId
created (act a after) = act_created a
created (cond c) = None
created (step s) = act_created s.act
created (jump j after) = None

-- there is such a function
abbrev pub has_callee : Option FnId → Bool
has_callee None = false
has_callee (Some function) = true
