-- What a file declares: its global variables, functions and defined names in the order of the text. A prototype declares nothing.
use Rattle.std.specs.Prelude.{ℕ, suc, ◌+◌, ℤ, Bool, true, false, ◌||◌, List, [], ◌∷◌, ◌++◌, map, length, Option, Some, None, if◌then◌else◌}
use Rattle.std.specs.List.{list_any}
use Rattle.std.specs.Str.{bytes_eq}
use Rattle.cfix_base.specs.declared.Spot.{Spot}
use Rattle.c_grammar.specs.Token.{Ident}
use Rattle.c_grammar.specs.Decl.{Hold, OneThread, Threads, GlobalInt, OneGlobal, SetGlobal, GlobalArray, GlobalMutex, OneMutex, SetMutex, GlobalCond, OneCond, SetCond, Globals, GlobalInts, GlobalHolds, GlobalMutexes, GlobalConds}
use Rattle.c_grammar.specs.File.{Replacement, Plainly, InParens, Return, ReturnsInt, ReturnsVoid, Param, ParamOf, Params, NoParams, VoidParams, SomeParams, Head, PlainHead, ThreadHead, Include, Define, Variables, Prototype, Function, File}
use Rattle.c_prog.specs.declared.function.FnKind.{FnKind}
use Rattle.c_prog.specs.declared.function.FnKind.TheVariants as kind
use Rattle.c_prog.specs.Valid.Scope.{VarKind, int, int_array, thread, thread_array, mutex, cond}
use Rattle.c_names.specs.Uses.{Meaning, OfVariable, OfFunction, OfNumber, Form, Names}
use Rattle.c_names.specs.Scopes.{listed}

-- ---- global variables

-- A declared variable with its kind.
abbrev pub Variable : Type 0
Variable = Ident × VarKind

abbrev pub global_int_variable : GlobalInt → Variable
global_int_variable (OneGlobal x) = (x, int)
global_int_variable (SetGlobal x at minus n) = (x, int)
global_int_variable (GlobalArray x before n after) = (x, int_array)

abbrev pub hold_variable : Hold → Variable
hold_variable (OneThread x) = (x, thread)
hold_variable (Threads x before n after) = (x, thread_array)

abbrev pub mutex_variable : GlobalMutex → Variable
mutex_variable (OneMutex x) = (x, mutex)
mutex_variable (SetMutex x at value) = (x, mutex)

abbrev pub cond_variable : GlobalCond → Variable
cond_variable (OneCond x) = (x, cond)
cond_variable (SetCond x at value) = (x, cond)

-- the variables of a declaration
abbrev pub variables : Globals → List Variable
variables (GlobalInts at x more) = map global_int_variable (listed x more)
variables (GlobalHolds at x more) = map hold_variable (listed x more)
variables (GlobalMutexes at x more) = map mutex_variable (listed x more)
variables (GlobalConds at x more) = map cond_variable (listed x more)

-- ---- functions

-- the number that a name is defined as
abbrev pub replacement_number : Replacement → ℤ
replacement_number (Plainly n) = n.value
replacement_number (InParens before n after) = n.value

-- what a function gives back
abbrev pub return_kind : Return → FnKind
return_kind ReturnsInt = kind.Int
return_kind ReturnsVoid = kind.Void

abbrev pub head_name : Head → Ident
head_name (PlainHead static return at name before list after) = name
head_name (ThreadHead static at star name before void star2 param after) = name

abbrev pub head_kind : Head → FnKind
head_kind (PlainHead static return at name before list after) = return_kind return
head_kind (ThreadHead static at star name before void star2 param after) = kind.Thread

-- a parameter: the place of its type, and its name, if it has one
abbrev pub Parameter : Type 0
Parameter = Spot × Option Ident

abbrev pub param_of : Param → Parameter
param_of (ParamOf at name) = (at, name)

abbrev pub params_of : Params → List Parameter
params_of NoParams = []
params_of (VoidParams at) = []
params_of (SomeParams p more) = map param_of (listed p more)

abbrev pub head_params : Head → List Parameter
head_params (PlainHead static return at name before list after) = params_of list
head_params (ThreadHead static at star name before void star2 param after) = (void, param) ∷ []

-- the kind of a function and its number of parameters
abbrev pub head_form : Head → Form
head_form head = (head_kind head, length (head_params head))

-- ---- the names of a file

-- A declared name and what it declares.
abbrev pub Declaration : Type 0
Declaration = Ident × Meaning

-- variables, counted from this number
abbrev pub numbered : ℕ → List Variable → List Declaration
numbered n [] = []
numbered n (x ∷ more) = (x.0, OfVariable n x.1) ∷ numbered (suc n) more

abbrev pub function_declaration : ℕ → Head → Declaration
function_declaration n head = (head_name head, OfFunction n (head_kind head) (length (head_params head)))

-- what a file declares behind this many variables and functions
abbrev pub declarations_from : ℕ → ℕ → File → List Declaration
declarations_from globals functions [] = []
declarations_from globals functions (Include at name header ∷ more) = declarations_from globals functions more
declarations_from globals functions (Define at name x value ∷ more) = (x, OfNumber (replacement_number value)) ∷ declarations_from globals functions more
declarations_from globals functions (Variables qualifiers list end ∷ more) =
    numbered globals (variables list) ++ declarations_from (globals + length (variables list)) functions more
declarations_from globals functions (Prototype head end ∷ more) = declarations_from globals functions more
declarations_from globals functions (Function head before ops items after ∷ more) = function_declaration functions head ∷ declarations_from globals (suc functions) more

-- what a file declares
abbrev pub declarations : File → List Declaration
declarations file = declarations_from 0 0 file

-- the declaration is of this name
abbrev pub is_of : List ℕ → Declaration → Bool
is_of text d = bytes_eq text d.0.text

-- the first declaration of a name counts
abbrev pub first_meaning : List Declaration → List ℕ → Option Meaning
first_meaning [] text = None
first_meaning (d ∷ more) text = if is_of text d then Some d.1 else first_meaning more text

-- the form of a function, or else another
abbrev pub form_or : Meaning → Option Form → Option Form
form_or (OfFunction n kind params) other = Some (kind, params)
form_or (OfVariable n kind) other = other
form_or (OfNumber value) other = other

-- the form of the first function with this name
abbrev pub first_form : List Declaration → List ℕ → Option Form
first_form [] text = None
first_form (d ∷ more) text = if is_of text d then form_or d.1 (first_form more text) else first_form more text

-- it is a number that is defined
abbrev pub is_number : Meaning → Bool
is_number (OfNumber value) = true
is_number _ = false

-- some of the declarations defines a number of this name
abbrev pub is_defined_in : List Declaration → List ℕ → Bool
is_defined_in [] text = false
is_defined_in (d ∷ more) text = if is_of text d then is_number d.1 || is_defined_in more text else is_defined_in more text

-- what declarations say of each name
abbrev pub names_in : List Declaration → Names
names_in list text = record { first = first_meaning list text; form = first_form list text; is_defined = is_defined_in list text }

-- what the file says of each name
abbrev pub names_of : File → Names
names_of file = names_in (declarations file)

-- a name is declared already
abbrev pub is_declared : List Declaration → List ℕ → Bool
is_declared list text = list_any (is_of text) list
