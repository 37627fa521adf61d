-- Which jumps fit where they stand (6.8.6 of ISO/IEC 9899:2011).
use Rattle.std.specs.Prelude.{ℤ, pos, Bool, false, not, ◌&&◌, ◌||◌, List, ◌++◌}
use Rattle.std.specs.Ordering.{int_eq}
use Rattle.cfix_base.specs.declared.Spot.{Spot}
use Rattle.c_grammar.specs.Expr.{Expr, Number, Name, Paren}
use Rattle.c_grammar.specs.Simple.{Value, Computed, Called}
use Rattle.c_grammar.specs.Stmt.{Bare, Break, Continue, Return, ReturnNull, Jump, BareJump, ReturnValue, BareBlock, ValueBlock}
use Rattle.c_prog.specs.Valid.Scope.{Scope}
use Rattle.c_prog.specs.Valid.Expressions.{is_int_kind, is_void_kind, is_thread_kind}
use Rattle.c_prog.specs.Valid.Statements.{Around}
use Rattle.c_names.specs.declared.fault.Fault.{Fault}
use Rattle.c_names.specs.declared.fault.FaultKind.TheVariants.{WrongUse}
use Rattle.c_names.specs.Faults.{fault_if}
use Rattle.c_names.specs.Uses.{Names, Use, IsDefined, use_of}
use Rattle.c_names.specs.Expressions.{value_faults}
use Rattle.c_names.specs.Simples.{op_faults, ops_faults}

-- the number is 0
abbrev pub is_zero : ℤ → Bool
is_zero n = int_eq n (pos 0)

-- the name is defined as 0
abbrev pub is_zero_use : Use → Bool
is_zero_use (IsDefined value) = is_zero value
is_zero_use _ = false

-- the expression spells the number 0
abbrev pub is_zero_expr : Names → Scope → Expr → Bool
is_zero_expr names scope (Number n) = is_zero n.value
is_zero_expr names scope (Name x) = is_zero_use (use_of names scope x.text)
is_zero_expr names scope (Paren before e after) = is_zero_expr names scope e
is_zero_expr names scope _ = false

-- the value is the number 0
abbrev pub is_zero_value : Names → Scope → Value → Bool
is_zero_value names scope (Computed e) = is_zero_expr names scope e
is_zero_value names scope (Called c) = false

-- `break` and `continue` stand in a loop, `return;` in a void function, and `return NULL;` in the function of a thread
abbrev pub bare_fits : Around → Bare → Bool
bare_fits around (Break at) = around.in_loop
bare_fits around (Continue at) = around.in_loop
bare_fits around (Return at) = is_void_kind around.kind
bare_fits around (ReturnNull at null) = is_thread_kind around.kind

-- the word of a jump
abbrev pub bare_spot : Bare → Spot
bare_spot (Break at) = at
bare_spot (Continue at) = at
bare_spot (Return at) = at
bare_spot (ReturnNull at null) = at

-- a jump without a value
abbrev pub bare_faults : Around → Bare → List Fault
bare_faults around b = fault_if (not (bare_fits around b)) (bare_spot b) WrongUse

-- the number 0 in the function of a thread is `NULL`
abbrev pub is_null : Names → Around → Scope → Value → Bool
is_null names around scope v = is_thread_kind around.kind && is_zero_value names scope v

-- a value is returned from an `int` function, and the number 0 also from the function of a thread
abbrev pub returned_faults : Names → Around → Scope → Spot → Value → List Fault
returned_faults names around scope at v = fault_if (not (is_int_kind around.kind || is_null names around scope v)) at WrongUse

-- a jump, with its operations
abbrev pub jump_faults : Names → Around → Scope → Jump → List Fault
jump_faults names around scope (BareJump b end) = bare_faults around b
jump_faults names around scope (ReturnValue at v end) = returned_faults names around scope at v ++ value_faults names scope v
jump_faults names around scope (BareBlock before op end ops b end2 after) = op_faults op ++ (ops_faults ops ++ bare_faults around b)
jump_faults names around scope (ValueBlock before word name set v end op end2 ops return name2 end3 after) =
    value_faults names scope v ++ (op_faults op ++ (ops_faults ops ++ returned_faults names around scope return v))
