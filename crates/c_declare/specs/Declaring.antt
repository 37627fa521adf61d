-- What declarations add to a table of names, and which of them declare a name again.
use Rattle.std.specs.Prelude.{ℕ, suc, ◌+◌, Bool, true, false, List, [], ◌∷◌, ◌++◌, length, Option, Some, None}
use Rattle.c_grammar.specs.Token.{Ident}
use Rattle.c_grammar.specs.File.{Top, Include, Define, Variables, Prototype, Function}
use Rattle.c_names.specs.declared.fault.Fault.{Fault}
use Rattle.c_names.specs.declared.fault.FaultKind.TheVariants.{Twice}
use Rattle.c_names.specs.Faults.{fault_if}
use Rattle.c_names.specs.Uses.{OfVariable, OfFunction, OfNumber}
use Rattle.c_names.specs.Uses as u
use Rattle.c_names.specs.Declarations.{variables, replacement_number, Declaration, numbered, function_declaration}
use Rattle.c_prog.specs.Valid.Scope as s
use Rattle.c_scope.specs.declared.kind.VarKind.{VarKind}
use Rattle.c_scope.specs.declared.kind.VarKind.TheVariants as kind
use Rattle.c_scope.specs.declared.table.Meaning.{Meaning}
use Rattle.c_scope.specs.declared.table.Meaning.TheVariants as meaning
use Rattle.c_scope.specs.declared.table.Row.{Row}
use Rattle.c_scope.specs.Tables.{Rows, row_of, with_row, joined}

-- the kind of a variable in a table
abbrev pub kind_kept : s.VarKind → VarKind
kind_kept s.int = kind.Int
kind_kept s.int_array = kind.IntArray
kind_kept s.thread = kind.Thread
kind_kept s.thread_array = kind.ThreadArray
kind_kept s.mutex = kind.Mutex
kind_kept s.cond = kind.Cond
kind_kept s.argument = kind.Argument

-- what a table keeps of what is declared
abbrev pub meaning_kept : u.Meaning → Meaning
meaning_kept (OfVariable n kind) = meaning.Variable n (kind_kept kind)
meaning_kept (OfFunction n kind params) = meaning.Function n kind params
meaning_kept (OfNumber value) = meaning.Number value

-- the table behind a declaration
abbrev pub with_name : Rows → List ℕ → Meaning → Rows
with_name rows text m = with_row text (joined (row_of text rows) m) rows

-- the table behind declarations
abbrev pub with_declarations : Rows → List Declaration → Rows
with_declarations rows [] = rows
with_declarations rows (d ∷ more) = with_declarations (with_name rows d.0.text (meaning_kept d.1)) more

abbrev pub has_row : Option Row → Bool
has_row None = false
has_row (Some row) = true

-- a name is declared that has a row already
abbrev pub again_faults : Rows → Ident → List Fault
again_faults rows x = fault_if (has_row (row_of x.text rows)) x.spot Twice

-- the names of declarations, each behind those before it
abbrev pub all_again_faults : Rows → List Declaration → List Fault
all_again_faults rows [] = []
all_again_faults rows (d ∷ more) = again_faults rows d.0 ++ all_again_faults (with_name rows d.0.text (meaning_kept d.1)) more

-- what one part of a file declares, behind this many variables and functions
abbrev pub top_declarations : ℕ → ℕ → Top → List Declaration
top_declarations globals functions (Include at name header) = []
top_declarations globals functions (Define at name x value) = (x, OfNumber (replacement_number value)) ∷ []
top_declarations globals functions (Variables qualifiers list end) = numbered globals (variables list)
top_declarations globals functions (Prototype head end) = []
top_declarations globals functions (Function head before ops items after) = function_declaration functions head ∷ []

-- how many variables and functions stand before the next part
abbrev pub globals_behind : ℕ → Top → ℕ
globals_behind globals (Variables qualifiers list end) = globals + length (variables list)
globals_behind globals _ = globals

abbrev pub functions_behind : ℕ → Top → ℕ
functions_behind functions (Function head before ops items after) = suc functions
functions_behind functions _ = functions
