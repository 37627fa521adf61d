-- Inserted operations in text, and conditions with theirs.
use Rattle.std.specs.Prelude.{ℕ, List, [], ◌∷◌, ◌++◌, map, codes, decimal}
use Rattle.cfix_base.specs.declared.op.Op.{Op}
use Rattle.cfix_base.specs.declared.op.Op.TheVariants.{Leave, First, Done, Wait, Enter, Add}
use Rattle.c_prog.specs.declared.stmt.Cond.{Cond}
use Rattle.c_print.specs.Text.Names.{Names}
use Rattle.c_print.specs.Text.Pieces.{between, ended, in_parentheses}
use Rattle.c_print.specs.Text.Expressions.{expr_text}

-- an operation
abbrev pub op_text : Op → List ℕ
op_text (Leave k) = codes "cfix_leave" ++ in_parentheses (decimal k.number)
op_text (First j) = codes "cfix_first" ++ in_parentheses (decimal j.number)
op_text (Done j) = codes "cfix_done" ++ in_parentheses (decimal j.number)
op_text (Wait j) = codes "cfix_wait" ++ in_parentheses (decimal j.number)
op_text (Enter k) = codes "cfix_enter" ++ in_parentheses (decimal k.number)
op_text (Add j) = codes "cfix_add" ++ in_parentheses (decimal j.number)

-- operations as statements, one a line
abbrev pub op_lines : List Op → List (List ℕ)
op_lines ops = map (λ o. ended (op_text o)) ops

-- operations as one expression that has this value (6.5.17 of ISO/IEC 9899:2011)
abbrev pub valued : List Op → List ℕ → List ℕ
valued ops number = in_parentheses (between (codes ", ") (map op_text ops) ++ codes ", " ++ number)

-- a condition with what is done where it is true
abbrev pub with_true : List ℕ → List Op → List ℕ
with_true test [] = test
with_true test (o ∷ more) = in_parentheses test ++ codes " && " ++ valued (o ∷ more) (codes "1")

-- a condition with what is done where it is false
abbrev pub with_false : List ℕ → List Op → List ℕ
with_false test [] = test
with_false test (o ∷ more) = in_parentheses test ++ codes " || " ++ valued (o ∷ more) (codes "0")

-- a condition with its operations
abbrev pub cond_text : Names → Cond → List ℕ
cond_text names cond = with_false (with_true (expr_text names cond.test) cond.on_true) cond.on_false
