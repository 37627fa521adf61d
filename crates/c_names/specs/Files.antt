-- A file: the faults of its names, row by row, and its limits.
use Rattle.std.specs.Prelude.{ℕ, Bool, true, false, not, ◌&&◌, ◌==◌, List, [], ◌∷◌, ◌++◌, map, Option, Some, None, codes}
use Rattle.cfix_base.specs.declared.limits.TheConstants.{MAX_NODES, MAX_FUNCTIONS, MAX_GLOBALS, MAX_GLOBAL_CELLS, MAX_LOCAL_CELLS}
use Rattle.cfix_base.specs.declared.Spot.{Spot}
use Rattle.c_grammar.specs.Marks.{each, maybe}
use Rattle.c_grammar.specs.Token.{Ident}
use Rattle.c_grammar.specs.Op.{Ops}
use Rattle.c_grammar.specs.Decl.{Size, Hold, OneThread, Threads, GlobalInt, OneGlobal, SetGlobal, GlobalArray, GlobalMutex, OneMutex, SetMutex, GlobalCond, OneCond, SetCond, Globals, GlobalInts, GlobalHolds, GlobalMutexes, GlobalConds}
use Rattle.c_grammar.specs.Stmt.{Items}
use Rattle.c_grammar.specs.File.{Head, Top, Include, Define, Variables, Prototype, Function, File}
use Rattle.c_prog.specs.declared.function.FnKind.{FnKind}
use Rattle.c_prog.specs.declared.function.FnKind.TheVariants as kind
use Rattle.c_prog.specs.declared.stmt.Stmt as t
use Rattle.c_prog.specs.Valid.Scope.{VarKind, Scope, nothing_declared, declared}
use Rattle.c_prog.specs.Valid.Expressions.{is_int_kind, is_main_name}
use Rattle.c_prog.specs.Valid.Falls.{falls_through}
use Rattle.c_prog.specs.Valid.Functions.{param_kind, with_params}
use Rattle.c_prog.specs.Valid.Statements.{Around}
use Rattle.c_names.specs.declared.fault.Fault.{Fault}
use Rattle.c_names.specs.declared.fault.FaultKind.TheVariants.{Unknown, Twice, WrongUse, NoReturn}
use Rattle.c_names.specs.Faults.{fault, fault_if}
use Rattle.c_names.specs.Uses.{Form, Names, Use, IsFunction, file_use}
use Rattle.c_names.specs.Names.{reserved_faults, declare_faults, size_faults, size_length, length_faults}
use Rattle.c_names.specs.Simples.{ops_faults}
use Rattle.c_names.specs.Scopes.{listed}
use Rattle.c_names.specs.Statements.{items_faults}
use Rattle.c_names.specs.SpelledStatements.{items_of}
use Rattle.c_names.specs.Limits.{excess_faults, Cells, cells_faults, items_cells, items_nodes}
use Rattle.c_names.specs.Starts.{start_number, start_faults}
use Rattle.c_names.specs.Declarations.{replacement_number, head_name, head_kind, Parameter, head_params, head_form, Declaration, declarations, names_of, is_declared}

-- ---- declared names

-- a name is declared behind these declarations: none of them is of this name
abbrev pub twice_faults : List Declaration → Ident → List Fault
twice_faults before x = fault_if (is_declared before x.text) x.spot Twice

-- the names of declarations, each behind those before it
abbrev pub all_twice_faults : List Declaration → List Declaration → List Fault
all_twice_faults before [] = []
all_twice_faults before (d ∷ more) = twice_faults before d.0 ++ all_twice_faults (before ++ d ∷ []) more

-- a variable or defined name is not named main
abbrev pub no_main_faults : Ident → List Fault
no_main_faults x = fault_if (is_main_name x.text) x.spot WrongUse

-- main is an `int` function without parameters (5.1.2.2.1 of ISO/IEC 9899:2011)
abbrev pub main_form_faults : Ident → Form → List Fault
main_form_faults x form = fault_if (is_main_name x.text && not (is_int_kind form.0 && form.1 == 0)) x.spot WrongUse

-- ---- global variables

-- a global variable without a number in its declarator
abbrev pub variable_faults : Ident → List Fault
variable_faults x = reserved_faults x ++ no_main_faults x

-- a number in a declarator sees the names of the file alone
abbrev pub number_faults : Names → Size → List Fault
number_faults names n = size_faults names nothing_declared n

abbrev pub global_int_faults : Names → GlobalInt → List Fault
global_int_faults names (OneGlobal x) = variable_faults x
global_int_faults names (SetGlobal x at minus n) = variable_faults x ++ number_faults names n
global_int_faults names (GlobalArray x before n after) = variable_faults x ++ (length_faults (size_length names n) x.spot ++ number_faults names n)

abbrev pub global_hold_faults : Names → Hold → List Fault
global_hold_faults names (OneThread x) = variable_faults x
global_hold_faults names (Threads x before n after) = variable_faults x ++ (length_faults (size_length names n) x.spot ++ number_faults names n)

abbrev pub global_mutex_faults : GlobalMutex → List Fault
global_mutex_faults (OneMutex x) = variable_faults x
global_mutex_faults (SetMutex x at value) = variable_faults x

abbrev pub global_cond_faults : GlobalCond → List Fault
global_cond_faults (OneCond x) = variable_faults x
global_cond_faults (SetCond x at value) = variable_faults x

-- a declaration of global variables
abbrev pub globals_faults : Names → Globals → List Fault
globals_faults names (GlobalInts at x more) = each (global_int_faults names) (listed x more)
globals_faults names (GlobalHolds at x more) = each (global_hold_faults names) (listed x more)
globals_faults names (GlobalMutexes at x more) = each global_mutex_faults (listed x more)
globals_faults names (GlobalConds at x more) = each global_cond_faults (listed x more)

-- how many cells each variable of a declaration has: a scalar one, an array its length
abbrev pub global_int_cells : Names → GlobalInt → Cells
global_int_cells names (OneGlobal x) = (x.spot, 1)
global_int_cells names (SetGlobal x at minus n) = (x.spot, 1)
global_int_cells names (GlobalArray x before n after) = (x.spot, size_length names n)

abbrev pub global_hold_cells : Names → Hold → Cells
global_hold_cells names (OneThread x) = (x.spot, 1)
global_hold_cells names (Threads x before n after) = (x.spot, size_length names n)

abbrev pub global_mutex_cells : GlobalMutex → Cells
global_mutex_cells (OneMutex x) = (x.spot, 1)
global_mutex_cells (SetMutex x at value) = (x.spot, 1)

abbrev pub global_cond_cells : GlobalCond → Cells
global_cond_cells (OneCond x) = (x.spot, 1)
global_cond_cells (SetCond x at value) = (x.spot, 1)

abbrev pub globals_cells : Names → Globals → List Cells
globals_cells names (GlobalInts at x more) = map (global_int_cells names) (listed x more)
globals_cells names (GlobalHolds at x more) = map (global_hold_cells names) (listed x more)
globals_cells names (GlobalMutexes at x more) = map global_mutex_cells (listed x more)
globals_cells names (GlobalConds at x more) = map global_cond_cells (listed x more)

-- ---- prototypes and functions

abbrev pub is_same_kind : FnKind → FnKind → Bool
is_same_kind kind.Int kind.Int = true
is_same_kind kind.Void kind.Void = true
is_same_kind kind.Thread kind.Thread = true
is_same_kind _ _ = false

-- a prototype says what the definition says
abbrev pub is_same_form : Form → Form → Bool
is_same_form a b = is_same_kind a.0 b.0 && a.1 == b.1

-- a prototype has a definition, and agrees with it
abbrev pub prototype_name_faults : Option Form → Ident → Form → List Fault
prototype_name_faults None x form = fault x.spot Unknown ∷ []
prototype_name_faults (Some defined) x form = fault_if (not (is_same_form defined form)) x.spot WrongUse

-- the parameters of a prototype declare nothing
abbrev pub prototype_param_faults : Parameter → List Fault
prototype_param_faults p = maybe [] reserved_faults p.1

abbrev pub prototype_faults : Names → Head → List Fault
prototype_faults names head =
    reserved_faults (head_name head) ++ (prototype_name_faults (names (head_name head).text).form (head_name head) (head_form head)
    ++ each prototype_param_faults (head_params head))

-- the text of a parameter's name, if it has one
abbrev pub param_text : Parameter → List ℕ
param_text p = maybe [] (λ x. x.text) p.1

-- a parameter of a function that is defined has a name
abbrev pub param_name_faults : Names → Scope → Spot → Option Ident → List Fault
param_name_faults names scope at None = fault at WrongUse ∷ []
param_name_faults names scope at (Some x) = declare_faults names scope x

-- the parameters of a function that is defined
abbrev pub params_faults : Names → VarKind → Scope → List Parameter → List Fault
params_faults names kind scope [] = []
params_faults names kind scope (p ∷ more) =
    param_name_faults names scope p.0 p.1 ++ params_faults names kind (declared (param_text p) kind scope) more

-- the scope in which a body begins: the parameters are in its outermost block
abbrev pub body_scope : Head → Scope
body_scope head = with_params (param_kind (head_kind head)) (map param_text (head_params head)) nothing_declared

-- what a body stands in
abbrev pub body_around : Head → Around
body_around head = record { kind = head_kind head; in_loop = false }

-- what a body spells
abbrev pub body_of : Names → Head → Items → List t.Stmt
body_of names head items = items_of names (body_around head) (body_scope head) items

-- the body of an `int` function other than main does not fall through (6.9.1 of ISO/IEC 9899:2011)
abbrev pub end_faults : Head → List t.Stmt → List Fault
end_faults head body =
    fault_if (is_int_kind (head_kind head) && (not (is_main_name (head_name head).text) && falls_through body)) (head_name head).spot NoReturn

-- one cell for each parameter
abbrev pub param_cells : Parameter → Cells
param_cells p = (maybe p.0 (λ x. x.spot) p.1, 1)

-- the parameters and locals of a function with their cells
abbrev pub function_cells : Names → Head → Items → List Cells
function_cells names head items = map param_cells (head_params head) ++ items_cells names items

-- a function
abbrev pub function_faults : Names → Head → Ops → Items → List Fault
function_faults names head ops items =
    reserved_faults (head_name head) ++ (main_form_faults (head_name head) (head_form head)
    ++ (params_faults names (param_kind (head_kind head)) nothing_declared (head_params head)
    ++ (ops_faults ops ++ (items_faults names (body_around head) (body_scope head) items
    ++ (end_faults head (body_of names head items) ++ cells_faults MAX_LOCAL_CELLS (function_cells names head items))))))

-- ---- the file

-- what a file is made of; the tokens of an include meet no rule
abbrev pub top_faults : Names → Top → List Fault
top_faults names (Include at name header) = []
top_faults names (Define at name x value) = start_faults (start_number x.text) x (replacement_number value) ++ no_main_faults x
top_faults names (Variables qualifiers globals end) = globals_faults names globals
top_faults names (Prototype head end) = prototype_faults names head
top_faults names (Function head before ops items after) = function_faults names head ops items

-- the name stands for a function
abbrev pub is_function_use : Use → Bool
is_function_use (IsFunction n kind params) = true
is_function_use _ = false

-- main is there; its absence stands at the text's end
abbrev pub main_faults : Names → Spot → List Fault
main_faults names end = fault_if (not (is_function_use (file_use (names (codes "main")).first))) end Unknown

-- the names of the functions, of the global variables with their cells, and the nodes, in the order of the text
abbrev pub top_functions : Top → List Spot
top_functions (Function head before ops items after) = (head_name head).spot ∷ []
top_functions _ = []

abbrev pub top_cells : Names → Top → List Cells
top_cells names (Variables qualifiers globals end) = globals_cells names globals
top_cells names _ = []

abbrev pub top_nodes : Top → List Spot
top_nodes (Function head before ops items after) = items_nodes items
top_nodes _ = []

-- how many functions, global variables, cells of them, and nodes a file has
abbrev pub count_faults : Names → File → List Fault
count_faults names file =
    excess_faults MAX_FUNCTIONS (each top_functions file) ++ (excess_faults MAX_GLOBALS (map (λ x. x.0) (each (top_cells names) file))
    ++ (cells_faults MAX_GLOBAL_CELLS (each (top_cells names) file) ++ excess_faults MAX_NODES (each top_nodes file)))

-- all faults of a file whose names mean this
abbrev pub faults_with : Names → Spot → File → List Fault
faults_with names end file =
    all_twice_faults [] (declarations file) ++ (each (top_faults names) file ++ (main_faults names end ++ count_faults names file))

-- all faults of a file, whose text ends here
abbrev pub faults_of : Spot → File → List Fault
faults_of end file = faults_with (names_of file) end file
