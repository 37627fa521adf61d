-- Texts as they are written: an indentation that comes down in place of lines that move to the right.
use Rattle.std.specs.Prelude.{ℕ, ◌+◌, nat_lt, Bool, List, [], ◌∷◌, ◌++◌, map, codes, Option, Some, None, if◌then◌else◌}
use Rattle.cfix_base.specs.declared.number.FnId.{FnId}
use Rattle.cfix_base.specs.declared.number.OrderId.{OrderId}
use Rattle.cfix_base.specs.declared.op.Op.{Op}
use Rattle.c_prog.specs.declared.expr.BinOp.{BinOp}
use Rattle.c_prog.specs.declared.expr.Expr.{Expr}
use Rattle.c_prog.specs.declared.function.Function.{Function}
use Rattle.c_prog.specs.declared.stmt.Stmt.{Stmt}
use Rattle.c_prog.specs.Order.{joined}
use Rattle.c_print.specs.Text.Canonical.{head_of, start_line}
use Rattle.c_print.specs.Text.Statements.{stmt_part, body_lines}
use Rattle.c_print.specs.Text.Expressions.{Printed, operand, binding, sign_of, expr_text, thread_argument}
use Rattle.c_print.specs.Text.Operations.{op_text, op_lines}
use Rattle.c_print.specs.Text.Names.{Names, name_at, local_names}
use Rattle.c_print.specs.Text.Pieces.{closed, ended, in_brackets, braced, spaced, text_of}

-- the parenthesis before an operand that binds so much where this much is wanted
abbrev pub opening : ℕ → ℕ → List ℕ
opening binds least = if nat_lt binds least then codes "(" else []

-- the parenthesis behind it
abbrev pub closing : ℕ → ℕ → List ℕ
closing binds least = if nat_lt binds least then codes ")" else []

-- a unary `-` and its operand
abbrev pub negated : Printed → Printed
negated inner = record { binds = 7; text = codes "-" ++ operand 8 inner }

-- a binary operator and its operands
abbrev pub combined : BinOp → Printed → Printed → Printed
combined o left right = record {
  binds = binding o;
  text = operand (binding o) left ++ codes " " ++ sign_of o ++ codes " " ++ operand (binding o + 1) right;
}

-- the index of a variable, if there is one
abbrev pub index_of : Names → Option Expr → List ℕ
index_of names None = []
index_of names (Some index) = in_brackets (expr_text names index)

-- what a created thread runs, with its argument
abbrev pub thread_text : Names → FnId → Expr → List ℕ
thread_text names of argument =
    codes ", NULL, " ++ name_at names.functions of.number ++ codes ", " ++ thread_argument names argument

-- the parenthesis before a test that operations follow
abbrev pub guard_start : List Op → List ℕ
guard_start [] = []
guard_start (o ∷ more) = codes "("

-- operations of a way out of a condition, between this sign and this value
abbrev pub guard_end : List ℕ → List Op → List ℕ → List ℕ
guard_end sign [] value = []
guard_end sign (o ∷ more) value = sign ++ joined (map (λ o. op_text o ++ codes ", ") (o ∷ more)) ++ value

-- the text of lines with this indentation
unfoldable pub at : List ℕ → List (List ℕ) → List ℕ
at indent lines = joined (map (λ line. indent ++ closed line) lines)

-- the same where the indentation of the first line stands already
unfoldable pub behind : List ℕ → List (List ℕ) → List ℕ
behind indent [] = []
behind indent (line ∷ more) = closed line ++ at indent more

-- one nesting more
abbrev pub inside : List ℕ → List ℕ
inside indent = indent ++ codes "    "

-- lines in braces, from the opening brace on
abbrev pub braces : List ℕ → List (List ℕ) → List ℕ
braces indent lines = codes "{\n" ++ at (inside indent) lines ++ indent ++ codes "}\n"

-- an `if` up to the end of its first list, where its indentation stands already
abbrev pub if_start : List ℕ → List ℕ → List (List ℕ) → List ℕ
if_start indent cond lines = codes "if (" ++ cond ++ codes ") {\n" ++ at (inside indent) lines

-- operations, one a line, with this indentation
abbrev pub ops_at : List ℕ → List Op → List ℕ
ops_at indent ops = joined (map (λ o. indent ++ closed (ended (op_text o))) ops)

-- statements with this indentation
abbrev pub body_at : Names → List ℕ → List Stmt → List ℕ
body_at names indent body = joined (map (λ s. at indent (stmt_part names s).lines) body)

-- the lines of a function with these names
abbrev pub lines_with : Names → Function → List (List ℕ)
lines_with names function = braced (head_of function ++ codes " ") (op_lines function.start ++ body_lines names function.body)

-- the lines of a function, by the names of the global variables and functions
abbrev pub function_with : List (List ℕ) → List (List ℕ) → Function → List (List ℕ)
function_with globals functions function =
    lines_with (record { globals = globals; functions = functions; locals = local_names function }) function

-- what a program includes, by whether it has an operation or a start
abbrev pub own_with : Bool → List OrderId → List (List ℕ)
own_with patched starts =
    if patched then map start_line starts ++ (codes "#include " ++ 34 ∷ codes "cfix.h" ++ 34 ∷ []) ∷ [] else []

-- the header, by whether a program has an operation or a start
abbrev pub header_text : Bool → List OrderId → List ℕ
header_text patched starts = text_of (spaced (codes "#include <pthread.h>" ∷ codes "#include <stdio.h>" ∷ own_with patched starts))

-- an empty line behind lines, if there are any
abbrev pub gap : List (List ℕ) → List ℕ
gap [] = []
gap (line ∷ more) = codes "\n"
