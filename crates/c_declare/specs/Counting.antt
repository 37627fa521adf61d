-- How many variables, functions, parameters and locals a file declares.
use Rattle.std.specs.Prelude.{ℕ, suc, ◌+◌, Bool, true, pos, int_le, [], ◌∷◌, length}
use Rattle.std.specs.List.{list_all}
use Rattle.c_grammar.specs.Decl.{GlobalInt, OneGlobal, SetGlobal, GlobalArray, Globals, GlobalInts}
use Rattle.c_grammar.specs.File.{Top, Variables, Function, File}
use Rattle.c_names.specs.Declarations.{variables, head_params}
use Rattle.c_names.specs.Names.{size_number}
use Rattle.c_names.specs.Uses.{Names}
use Rattle.c_names.specs.Scopes.{listed, items_locals}

-- in one part of a file
abbrev pub top_count : Top → ℕ
top_count (Variables qualifiers globals end) = length (variables globals)
top_count (Function head before ops items after) = suc (length (head_params head) + items_locals items)
top_count _ = 0

-- in a file
abbrev pub file_count : File → ℕ
file_count [] = 0
file_count (top ∷ more) = top_count top + file_count more

-- the number of an initial value is not below 0
abbrev pub has_value : Names → GlobalInt → Bool
has_value names (OneGlobal x) = true
has_value names (SetGlobal x at minus n) = int_le (pos 0) (size_number names n)
has_value names (GlobalArray x before n after) = true

-- the numbers of the initial values of a declaration are not below 0
abbrev pub globals_fit : Names → Globals → Bool
globals_fit names (GlobalInts at x more) = list_all (has_value names) (listed x more)
globals_fit names _ = true

-- those of one part of a file
abbrev pub top_fits : Names → Top → Bool
top_fits names (Variables qualifiers globals end) = globals_fit names globals
top_fits names _ = true
