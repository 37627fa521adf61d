-- Statements in lines.
use Rattle.std.specs.Prelude.{ℕ, Bool, true, false, List, [], ◌∷◌, ◌++◌, map, codes, Option, Some, None, if◌then◌else◌}
use Rattle.cfix_base.specs.declared.op.Op.{Op}
use Rattle.c_prog.specs.declared.stmt.Cond.{Cond}
use Rattle.c_prog.specs.declared.stmt.Step.{Step}
use Rattle.c_prog.specs.declared.stmt.Jump.{Jump}
use Rattle.c_prog.specs.declared.stmt.Jump.TheVariants.{Break, Continue, Return, ReturnNull, ReturnValue}
use Rattle.c_prog.specs.declared.stmt.Stmt.{Stmt}
use Rattle.c_prog.specs.declared.stmt.Stmt.TheOpen.{Stmt-F}
use Rattle.c_prog.specs.declared.stmt.Stmt.TheFolds.{fold-Stmt}
use Rattle.c_prog.specs.Order.{joined}
use Rattle.c_print.specs.Text.Names.{Names}
use Rattle.c_print.specs.Text.Pieces.{between, ended, deeper, braced, led}
use Rattle.c_print.specs.Text.Acts.{act_text, value_text}
use Rattle.c_print.specs.Text.Operations.{op_text, op_lines, cond_text}

-- a statement in lines, and whether it is an `if`
pub record Part : Type 0 where
  pub is_if : Bool
  pub lines : List (List ℕ)

abbrev pub lines_of : List Part → List (List ℕ)
lines_of parts = joined (map (λ part. part.lines) parts)

-- a jump (6.8.6 of ISO/IEC 9899:2011)
abbrev pub jump_text : Names → Jump → List ℕ
jump_text names Break = codes "break"
jump_text names Continue = codes "continue"
jump_text names Return = codes "return"
jump_text names ReturnNull = codes "return NULL"
jump_text names (ReturnValue v) = codes "return " ++ value_text names v

-- what stands in the block of a jump that has operations: a value is taken before them
abbrev pub block_lines : Names → Jump → List Op → List (List ℕ)
block_lines names (ReturnValue v) ops =
    ended (codes "int cfix_value = " ++ value_text names v) ∷ op_lines ops ++ codes "return cfix_value;" ∷ []
block_lines names jump ops = op_lines ops ++ ended (jump_text names jump) ∷ []

-- a jump with its operations
abbrev pub jump_lines : Names → Jump → List Op → List (List ℕ)
jump_lines names jump [] = ended (jump_text names jump) ∷ []
jump_lines names jump (o ∷ more) = braced [] (block_lines names jump (o ∷ more))

-- the `else` of an `if`, from the brace that closes its first list on: an only `if` stands on its line
abbrev pub else_lines : List Part → List (List ℕ)
else_lines [] = codes "}" ∷ []
else_lines (part ∷ []) = if part.is_if then led (codes "} else ") part.lines else braced (codes "} else ") part.lines
else_lines (part ∷ next ∷ more) = braced (codes "} else ") (lines_of (part ∷ next ∷ more))

-- `if (C) {`, its list, and the rest
abbrev pub if_lines : List ℕ → List (List ℕ) → List (List ℕ) → List (List ℕ)
if_lines cond yes_lines rest = (codes "if (" ++ cond ++ codes ") {") ∷ deeper yes_lines ++ rest

-- a step with its operations
abbrev pub step_text : Names → Step → List ℕ
step_text names step = between (codes ", ") (act_text names step.act ∷ map op_text step.after)

-- the head of a loop: a `for` where it has a step
abbrev pub loop_head : Names → Cond → Option Step → List ℕ
loop_head names cond None = codes "while (" ++ cond_text names cond ++ codes ") "
loop_head names cond (Some step) = codes "for (; " ++ cond_text names cond ++ codes "; " ++ step_text names step ++ codes ") "

abbrev pub part : List (List ℕ) → Part
part lines = record { is_if = false; lines = lines }

-- one level of a statement, with the statements inside in lines
abbrev pub stmt_level : Names → Stmt-F Part → Part
stmt_level names (Stmt-F.Simple act after) = part (ended (act_text names act) ∷ op_lines after)
stmt_level names (Stmt-F.Jump jump after) = part (jump_lines names jump after)
stmt_level names (Stmt-F.If cond as_true as_false) =
    record { is_if = true; lines = if_lines (cond_text names cond) (lines_of as_true) (else_lines as_false) }
stmt_level names (Stmt-F.Loop cond step body) = part (braced (loop_head names cond step) (lines_of body))
stmt_level names (Stmt-F.Block body) = part (braced [] (lines_of body))

abbrev pub stmt_part : Names → Stmt → Part
stmt_part names = fold-Stmt Part (stmt_level names)

-- statements, one after another
abbrev pub body_lines : Names → List Stmt → List (List ℕ)
body_lines names body = lines_of (map (stmt_part names) body)
