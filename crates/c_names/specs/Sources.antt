-- The program that a file spells, with the lines of its accesses and called names.
use Rattle.std.specs.Prelude.{ℕ, ℤ, pos, neg_ℤ, List, [], ◌∷◌, map, Option, Some, None, zip}
use Rattle.cfix_base.specs.declared.Spot.{Spot}
use Rattle.c_grammar.specs.Marks.{each}
use Rattle.c_grammar.specs.Op.{Ops}
use Rattle.c_grammar.specs.Decl.{Hold, OneThread, Threads, GlobalInt, OneGlobal, SetGlobal, GlobalArray, GlobalMutex, OneMutex, SetMutex, GlobalCond, OneCond, SetCond, Globals, GlobalInts, GlobalHolds, GlobalMutexes, GlobalConds}
use Rattle.c_grammar.specs.Stmt.{Items}
use Rattle.c_grammar.specs.File.{Head, Top, Variables, Function, File}
use Rattle.c_prog.specs.declared.function.Function as f
use Rattle.c_prog.specs.declared.global.Global as g
use Rattle.c_prog.specs.declared.global.GlobalKind.TheVariants as kind
use Rattle.c_prog.specs.declared.tree.Tree.{Tree}
use Rattle.c_prog.specs.Lines.{LineTable, SourceTree, tree_accesses, tree_calls}
use Rattle.c_names.specs.Uses.{Names}
use Rattle.c_names.specs.Names.{size_number, size_length}
use Rattle.c_names.specs.Scopes.{listed}
use Rattle.c_names.specs.SpelledStatements.{ops_of}
use Rattle.c_names.specs.LinesStatements.{items_lines, items_calls}
use Rattle.c_names.specs.Declarations.{head_name, head_kind, head_params, names_of}
use Rattle.c_names.specs.Files.{param_text, body_scope, body_of}
use Rattle.c_names.specs.Starts.{starts_of}

-- a number with its `-`, if it has one
abbrev pub signed : Option Spot → ℤ → ℤ
signed None n = n
signed (Some at) n = neg_ℤ n

-- a global variable of type `int`: without an initial value it begins with 0
abbrev pub global_int_of : Names → GlobalInt → g.Global
global_int_of names (OneGlobal x) = record { name = x.text; kind = kind.Int (pos 0) }
global_int_of names (SetGlobal x at minus n) = record { name = x.text; kind = kind.Int (signed minus (size_number names n)) }
global_int_of names (GlobalArray x before n after) = record { name = x.text; kind = kind.IntArray (size_length names n) }

abbrev pub global_hold_of : Names → Hold → g.Global
global_hold_of names (OneThread x) = record { name = x.text; kind = kind.Thread }
global_hold_of names (Threads x before n after) = record { name = x.text; kind = kind.ThreadArray (size_length names n) }

abbrev pub global_mutex_of : GlobalMutex → g.Global
global_mutex_of (OneMutex x) = record { name = x.text; kind = kind.Mutex }
global_mutex_of (SetMutex x at value) = record { name = x.text; kind = kind.Mutex }

abbrev pub global_cond_of : GlobalCond → g.Global
global_cond_of (OneCond x) = record { name = x.text; kind = kind.Cond }
global_cond_of (SetCond x at value) = record { name = x.text; kind = kind.Cond }

-- a declaration of several names spells one declaration each
abbrev pub globals_of : Names → Globals → List g.Global
globals_of names (GlobalInts at x more) = map (global_int_of names) (listed x more)
globals_of names (GlobalHolds at x more) = map (global_hold_of names) (listed x more)
globals_of names (GlobalMutexes at x more) = map global_mutex_of (listed x more)
globals_of names (GlobalConds at x more) = map global_cond_of (listed x more)

-- a function, with the operations at its start
abbrev pub function_of : Names → Head → Ops → Items → f.Function
function_of names head ops items = record {
  name = (head_name head).text;
  kind = head_kind head;
  params = map param_text (head_params head);
  start = ops_of ops;
  body = body_of names head items;
}

-- includes, prototypes, `static` and `volatile` spell nothing
abbrev pub top_globals : Names → Top → List g.Global
top_globals names (Variables qualifiers globals end) = globals_of names globals
top_globals names _ = []

abbrev pub top_functions_of : Names → Top → List f.Function
top_functions_of names (Function head before ops items after) = function_of names head ops items ∷ []
top_functions_of names _ = []

-- the program that a file spells
abbrev pub tree_with : Names → File → Tree
tree_with names file = record {
  globals = each (top_globals names) file;
  functions = each (top_functions_of names) file;
  starts = starts_of file;
}

-- the lines of its accesses and of its called names
abbrev pub top_lines : Names → Top → List ℕ
top_lines names (Function head before ops items after) = items_lines names (body_scope head) items
top_lines names _ = []

abbrev pub top_calls : Top → List ℕ
top_calls (Function head before ops items after) = items_calls items
top_calls _ = []

-- each access and each call of the program with its line
abbrev pub line_table : Tree → List ℕ → List ℕ → LineTable
line_table tree accesses calls = record {
  accesses = zip (map (λ item. item.id) (tree_accesses tree)) accesses;
  calls = zip (tree_calls tree) calls;
}

-- the source that a file spells whose names mean this
abbrev pub source_with : Names → File → SourceTree
source_with names file = record {
  tree = tree_with names file;
  lines = line_table (tree_with names file) (each (top_lines names) file) (each top_calls file);
}

-- the source that a file spells, whatever its faults
abbrev pub source_of : File → SourceTree
source_of file = source_with (names_of file) file
