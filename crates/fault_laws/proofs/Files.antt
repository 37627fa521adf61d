-- Faults of a file stand at its tokens, or at the text's end.
use Rattle.std.proofs.Common.{ℕ, suc, ◌+◌, ℤ, List, [], ◌∷◌, ◌++◌, map, length, Option, Some, None, refl, inl, inr, All, arith}
use Rattle.std.specs.Prelude.{Contains}
use Rattle.std.proofs.lemmas.List.Elements.{All-nil, All-cons, Contains-append_right}
use Rattle.cfix_base.specs.declared.limits.TheConstants.{MAX_NODES, MAX_FUNCTIONS, MAX_GLOBALS, MAX_GLOBAL_CELLS, MAX_LOCAL_CELLS}
use Rattle.cfix_base.specs.declared.Spot.{Spot}
use Rattle.c_grammar.specs.declared.sign.Sign.TheVariants as s
use Rattle.c_grammar.specs.Marks.{each, tokens}
use Rattle.c_grammar.specs.Token.{Ident, Mark, sign}
use Rattle.c_grammar.specs.Op.{Ops, ops_marks}
use Rattle.c_grammar.specs.Decl.{Size, size_marks, Hold, OneThread, Threads, hold_marks, GlobalInt, OneGlobal, SetGlobal, GlobalArray, global_int_marks, GlobalMutex, OneMutex, SetMutex, global_mutex_marks, GlobalCond, OneCond, SetCond, global_cond_marks, Globals, GlobalInts, GlobalHolds, GlobalMutexes, GlobalConds, globals_marks}
use Rattle.c_grammar.specs.Stmt.{Items, items_marks}
use Rattle.c_grammar.specs.File.{Param, ParamOf, param_marks, Params, NoParams, VoidParams, SomeParams, params_marks, Head, PlainHead, ThreadHead, head_marks, name_marks, Top, Include, Define, Variables, Prototype, Function, top_marks, File, file_marks}
use Rattle.c_prog.specs.Valid.Scope.{VarKind, Scope, nothing_declared, declared}
use Rattle.c_names.specs.declared.fault.Fault.{Fault}
use Rattle.c_names.specs.declared.fault.FaultKind.TheVariants.{Unknown, Twice, WrongUse, NoReturn, Limit}
use Rattle.c_names.specs.Uses.{Form, Names}
use Rattle.c_names.specs.Limits.{Cells}
use Rattle.c_names.specs.Starts.{start_number, start_faults}
use Rattle.c_names.specs.Declarations.{Variable, global_int_variable, hold_variable, mutex_variable, cond_variable, variables, replacement_number, head_name, Parameter, param_of, params_of, head_params, head_form, Declaration, numbered, declarations_from, declarations, names_of}
use Rattle.c_names.specs.Files.{all_twice_faults, variable_faults, number_faults, global_int_faults, global_hold_faults, global_mutex_faults, global_cond_faults, globals_faults, global_int_cells, global_hold_cells, global_mutex_cells, global_cond_cells, globals_cells, prototype_name_faults, prototype_param_faults, prototype_faults, param_text, param_name_faults, params_faults, body_scope, body_around, param_cells, function_cells, function_faults, top_faults, top_functions, top_cells, top_nodes, count_faults, faults_of}
use Rattle.fault_laws.specs.Places.{StandsAt}
use Rattle.fault_laws.proofs.Each.{Over, Each, none, more, only, first, rest, front, back, both, Tokens, Faults, if_so, reserved}
use Rattle.fault_laws.proofs.Simples.{ops-at}
use Rattle.fault_laws.proofs.Declarations.{declare-at, size-at}
use Rattle.fault_laws.proofs.Statements.{items-at}
use Rattle.fault_laws.proofs.Cells as cells
use Rattle.fault_laws.proofs.Nodes.{excess-at, items_nodes-at}

-- ---- declared names

-- it holds of the place of each declared name
abbrev Declared : (Spot → Type 0) → List Declaration → Type 0
Declared P ds = Each (λ (x : Declaration). P x.0.spot) ds

abbrev DeclaredVariables : (Spot → Type 0) → List Variable → Type 0
DeclaredVariables P vs = Each (λ (v : Variable). P v.0.spot) vs

twice-at : (P : Spot → Type 0) (ds before : List Declaration) → Declared P ds → Faults P (all_twice_faults before ds)
twice-at P [] before h = none
twice-at P (x ∷ ds) before h = both (if_so P _ x.0.spot Twice (first h)) (twice-at P ds (before ++ x ∷ []) (rest h))

numbered-at : (P : Spot → Type 0) (vs : List Variable) (n : ℕ) → DeclaredVariables P vs → Declared P (numbered n vs)
numbered-at P [] n h = none
numbered-at P (v ∷ vs) n h = more (first h) (numbered-at P vs (suc n) (rest h))

global_int_variable-at : (P : Spot → Type 0) (x : GlobalInt) → Tokens P (global_int_marks 0 x) → P (global_int_variable x).0.spot
global_int_variable-at P (OneGlobal x) h = first h
global_int_variable-at P (SetGlobal x at minus n) h = first h
global_int_variable-at P (GlobalArray x before n after) h = first h

hold_variable-at : (P : Spot → Type 0) (x : Hold) → Tokens P (hold_marks 0 x) → P (hold_variable x).0.spot
hold_variable-at P (OneThread x) h = first h
hold_variable-at P (Threads x before n after) h = first h

mutex_variable-at : (P : Spot → Type 0) (x : GlobalMutex) → Tokens P (global_mutex_marks 0 x) → P (mutex_variable x).0.spot
mutex_variable-at P (OneMutex x) h = first h
mutex_variable-at P (SetMutex x at value) h = first h

cond_variable-at : (P : Spot → Type 0) (x : GlobalCond) → Tokens P (global_cond_marks 0 x) → P (cond_variable x).0.spot
cond_variable-at P (OneCond x) h = first h
cond_variable-at P (SetCond x at value) h = first h

variables-at : (P : Spot → Type 0) (x : Globals) → Tokens P (globals_marks 0 x) → DeclaredVariables P (variables x)
variables-at P (GlobalInts at x list) h =
    more (global_int_variable-at P x (front _ _ (rest h)))
    (cells.behind_commas P (λ (v : Variable). P v.0.spot) 0 (global_int_marks 0) global_int_variable (global_int_variable-at P) list (back _ _ (rest h)))
variables-at P (GlobalHolds at x list) h =
    more (hold_variable-at P x (front _ _ (rest h)))
    (cells.behind_commas P (λ (v : Variable). P v.0.spot) 0 (hold_marks 0) hold_variable (hold_variable-at P) list (back _ _ (rest h)))
variables-at P (GlobalMutexes at x list) h =
    more (mutex_variable-at P x (front _ _ (rest h)))
    (cells.behind_commas P (λ (v : Variable). P v.0.spot) 0 (global_mutex_marks 0) mutex_variable (mutex_variable-at P) list (back _ _ (rest h)))
variables-at P (GlobalConds at x list) h =
    more (cond_variable-at P x (front _ _ (rest h)))
    (cells.behind_commas P (λ (v : Variable). P v.0.spot) 0 (global_cond_marks 0) cond_variable (cond_variable-at P) list (back _ _ (rest h)))

head_name-at : (P : Spot → Type 0) (head : Head) → Tokens P (head_marks head) → P (head_name head).spot
head_name-at P (PlainHead static return at name before list after) h = first (rest (back _ _ h))
head_name-at P (ThreadHead static at star name before void star2 param after) h = first (rest (rest (back _ _ h)))

declarations-at : (P : Spot → Type 0) (file : File) (globals functions : ℕ) → Tokens P (file_marks file)
    → Declared P (declarations_from globals functions file)
declarations-at P [] globals functions h = none
declarations-at P (Include at name header ∷ file) globals functions h = declarations-at P file globals functions (back _ _ (rest (rest h)))
declarations-at P (Define at name x value ∷ file) globals functions h =
    more (first (rest (rest h))) (declarations-at P file globals functions (back _ _ (rest (rest (rest h)))))
declarations-at P (Variables qualifiers list end ∷ file) globals functions h =
    both (numbered-at P (variables list) globals (variables-at P list (front _ _ (back _ _ (front _ _ h)))))
    (declarations-at P file (globals + length (variables list)) functions (back _ _ h))
declarations-at P (Prototype head end ∷ file) globals functions h = declarations-at P file globals functions (back _ _ h)
declarations-at P (Function head before ops items after ∷ file) globals functions h =
    more (head_name-at P head (front _ _ (front _ _ h))) (declarations-at P file globals (suc functions) (back _ _ h))

-- ---- global variables

variable-at : (P : Spot → Type 0) (x : Ident) → P x.spot → Faults P (variable_faults x)
variable-at P x h = both (reserved P x h) (if_so P _ x.spot WrongUse h)

number-at : (P : Spot → Type 0) (names : Names) (n : Size) → Tokens P (size_marks 0 n) → Faults P (number_faults names n)
number-at P names n h = size-at P names nothing_declared 0 n h

global_int-at : (P : Spot → Type 0) (names : Names) (x : GlobalInt) → Tokens P (global_int_marks 0 x) → Faults P (global_int_faults names x)
global_int-at P names (OneGlobal x) h = variable-at P x (first h)
global_int-at P names (SetGlobal x at minus n) h = both (variable-at P x (first h)) (number-at P names n (back _ _ (rest (rest h))))
global_int-at P names (GlobalArray x before n after) h =
    both (variable-at P x (first h)) (both (if_so P _ x.spot Limit (first h)) (number-at P names n (front _ _ (rest (rest h)))))

global_hold-at : (P : Spot → Type 0) (names : Names) (x : Hold) → Tokens P (hold_marks 0 x) → Faults P (global_hold_faults names x)
global_hold-at P names (OneThread x) h = variable-at P x (first h)
global_hold-at P names (Threads x before n after) h =
    both (variable-at P x (first h)) (both (if_so P _ x.spot Limit (first h)) (number-at P names n (front _ _ (rest (rest h)))))

global_mutex-at : (P : Spot → Type 0) (x : GlobalMutex) → Tokens P (global_mutex_marks 0 x) → Faults P (global_mutex_faults x)
global_mutex-at P (OneMutex x) h = variable-at P x (first h)
global_mutex-at P (SetMutex x at value) h = variable-at P x (first h)

global_cond-at : (P : Spot → Type 0) (x : GlobalCond) → Tokens P (global_cond_marks 0 x) → Faults P (global_cond_faults x)
global_cond-at P (OneCond x) h = variable-at P x (first h)
global_cond-at P (SetCond x at value) h = variable-at P x (first h)

-- the faults of each item behind a comma
each_behind : {A : Type 0} (P : Spot → Type 0) (marks : A → List Mark) (of : A → List Fault) → ((a : A) → Tokens P (marks a) → Faults P (of a))
    → (list : List (Spot × A)) → Tokens P (each (λ y. (sign s.Comma y.0, 0) ∷ marks y.1) list) → Faults P (each of (map (λ y. y.1) list))
each_behind P marks of so [] h = none
each_behind P marks of so (y ∷ list) h = both (so y.1 (front _ _ (rest h))) (each_behind P marks of so list (back _ _ (rest h)))

globals-at : (P : Spot → Type 0) (names : Names) (x : Globals) → Tokens P (globals_marks 0 x) → Faults P (globals_faults names x)
globals-at P names (GlobalInts at x list) h =
    both (global_int-at P names x (front _ _ (rest h)))
    (each_behind P (global_int_marks 0) (global_int_faults names) (global_int-at P names) list (back _ _ (rest h)))
globals-at P names (GlobalHolds at x list) h =
    both (global_hold-at P names x (front _ _ (rest h)))
    (each_behind P (hold_marks 0) (global_hold_faults names) (global_hold-at P names) list (back _ _ (rest h)))
globals-at P names (GlobalMutexes at x list) h =
    both (global_mutex-at P x (front _ _ (rest h)))
    (each_behind P (global_mutex_marks 0) global_mutex_faults (global_mutex-at P) list (back _ _ (rest h)))
globals-at P names (GlobalConds at x list) h =
    both (global_cond-at P x (front _ _ (rest h)))
    (each_behind P (global_cond_marks 0) global_cond_faults (global_cond-at P) list (back _ _ (rest h)))

global_int_cells-at : (P : Spot → Type 0) (names : Names) (x : GlobalInt) → Tokens P (global_int_marks 0 x) → P (global_int_cells names x).0
global_int_cells-at P names (OneGlobal x) h = first h
global_int_cells-at P names (SetGlobal x at minus n) h = first h
global_int_cells-at P names (GlobalArray x before n after) h = first h

global_hold_cells-at : (P : Spot → Type 0) (names : Names) (x : Hold) → Tokens P (hold_marks 0 x) → P (global_hold_cells names x).0
global_hold_cells-at P names (OneThread x) h = first h
global_hold_cells-at P names (Threads x before n after) h = first h

global_mutex_cells-at : (P : Spot → Type 0) (x : GlobalMutex) → Tokens P (global_mutex_marks 0 x) → P (global_mutex_cells x).0
global_mutex_cells-at P (OneMutex x) h = first h
global_mutex_cells-at P (SetMutex x at value) h = first h

global_cond_cells-at : (P : Spot → Type 0) (x : GlobalCond) → Tokens P (global_cond_marks 0 x) → P (global_cond_cells x).0
global_cond_cells-at P (OneCond x) h = first h
global_cond_cells-at P (SetCond x at value) h = first h

globals_cells-at : (P : Spot → Type 0) (names : Names) (x : Globals) → Tokens P (globals_marks 0 x) → cells.Variables P (globals_cells names x)
globals_cells-at P names (GlobalInts at x list) h =
    more (global_int_cells-at P names x (front _ _ (rest h)))
    (cells.behind_commas P (λ (c : Cells). P c.0) 0 (global_int_marks 0) (global_int_cells names) (global_int_cells-at P names) list (back _ _ (rest h)))
globals_cells-at P names (GlobalHolds at x list) h =
    more (global_hold_cells-at P names x (front _ _ (rest h)))
    (cells.behind_commas P (λ (c : Cells). P c.0) 0 (hold_marks 0) (global_hold_cells names) (global_hold_cells-at P names) list (back _ _ (rest h)))
globals_cells-at P names (GlobalMutexes at x list) h =
    more (global_mutex_cells-at P x (front _ _ (rest h)))
    (cells.behind_commas P (λ (c : Cells). P c.0) 0 (global_mutex_marks 0) global_mutex_cells (global_mutex_cells-at P) list (back _ _ (rest h)))
globals_cells-at P names (GlobalConds at x list) h =
    more (global_cond_cells-at P x (front _ _ (rest h)))
    (cells.behind_commas P (λ (c : Cells). P c.0) 0 (global_cond_marks 0) global_cond_cells (global_cond_cells-at P) list (back _ _ (rest h)))

-- ---- parameters

-- it holds of the place of a name, if there is one
abbrev AtName : (Spot → Type 0) → Option Ident → Type 0
AtName P None = Unit {0}
AtName P (Some x) = P x.spot

-- it holds of the places of each parameter
abbrev AtParams : (Spot → Type 0) → List Parameter → Type 0
AtParams P ps = Each (λ (p : Parameter). P p.0 × AtName P p.1) ps

name-at : (P : Spot → Type 0) (name : Option Ident) → Tokens P (name_marks name) → AtName P name
name-at P None h = tt
name-at P (Some x) h = first h

param-at : (P : Spot → Type 0) (p : Param) → Tokens P (param_marks p) → P (param_of p).0 × AtName P (param_of p).1
param-at P (ParamOf at name) h = (first h, name-at P name (rest h))

params-at : (P : Spot → Type 0) (ps : Params) → Tokens P (params_marks ps) → AtParams P (params_of ps)
params-at P NoParams h = none
params-at P (VoidParams at) h = none
params-at P (SomeParams p list) h =
    more (param-at P p (front _ _ h))
    (cells.behind_commas P (λ (p : Parameter). P p.0 × AtName P p.1) 0 param_marks param_of (param-at P) list (back _ _ h))

head_params-at : (P : Spot → Type 0) (head : Head) → Tokens P (head_marks head) → AtParams P (head_params head)
head_params-at P (PlainHead static return at name before list after) h = params-at P list (front _ _ (rest (rest (rest (back _ _ h)))))
head_params-at P (ThreadHead static at star name before void star2 param after) h =
    let behind = rest (rest (rest (rest (back _ _ h)))) in
    only (first behind, name-at P param (front _ _ (rest (rest behind))))

prototype_param-at : (P : Spot → Type 0) (at : Spot) (name : Option Ident) → AtName P name → Faults P (prototype_param_faults (at, name))
prototype_param-at P at None h = none
prototype_param-at P at (Some x) h = reserved P x h

prototype_params-at : (P : Spot → Type 0) (ps : List Parameter) → AtParams P ps → Faults P (each prototype_param_faults ps)
prototype_params-at P [] h = none
prototype_params-at P (p ∷ ps) h = both (prototype_param-at P p.0 p.1 (first h).1) (prototype_params-at P ps (rest h))

prototype_name-at : (P : Spot → Type 0) (found : Option Form) (x : Ident) (form : Form) → P x.spot → Faults P (prototype_name_faults found x form)
prototype_name-at P None x form h = only h
prototype_name-at P (Some other) x form h = if_so P _ x.spot WrongUse h

param_name-at : (P : Spot → Type 0) (names : Names) (scope : Scope) (at : Spot) (name : Option Ident) → P at → AtName P name
    → Faults P (param_name_faults names scope at name)
param_name-at P names scope at None here h = only here
param_name-at P names scope at (Some x) here h = declare-at P names scope x h

params_faults-at : (P : Spot → Type 0) (names : Names) (kind : VarKind) (ps : List Parameter) (scope : Scope) → AtParams P ps
    → Faults P (params_faults names kind scope ps)
params_faults-at P names kind [] scope h = none
params_faults-at P names kind (p ∷ ps) scope h =
    both (param_name-at P names scope p.0 p.1 (first h).0 (first h).1) (params_faults-at P names kind ps (declared (param_text p) kind scope) (rest h))

param_place : (P : Spot → Type 0) (at : Spot) (name : Option Ident) → P at → AtName P name → P (param_cells (at, name)).0
param_place P at None here h = here
param_place P at (Some x) here h = h

param_cells-at : (P : Spot → Type 0) (ps : List Parameter) → AtParams P ps → cells.Variables P (map param_cells ps)
param_cells-at P [] h = none
param_cells-at P (p ∷ ps) h = more (param_place P p.0 p.1 (first h).0 (first h).1) (param_cells-at P ps (rest h))

-- ---- functions

prototype-at : (P : Spot → Type 0) (names : Names) (head : Head) → Tokens P (head_marks head) → Faults P (prototype_faults names head)
prototype-at P names head h =
    let name = head_name-at P head h in
    both (reserved P (head_name head) name) (both (prototype_name-at P (names (head_name head).text).form (head_name head) (head_form head) name) (prototype_params-at P (head_params head) (head_params-at P head h)))

function-at : (P : Spot → Type 0) (names : Names) (head : Head) (ops : Ops) (items : Items) → Tokens P (head_marks head) → Tokens P (ops_marks 0 ops)
    → Tokens P (items_marks 0 items) → Faults P (function_faults names head ops items)
function-at P names head ops items h o b =
    let name = head_name-at P head h in
    let params = head_params-at P head h in
    both (reserved P (head_name head) name)
    (both (if_so P _ (head_name head).spot WrongUse name)
    (both (params_faults-at P names _ (head_params head) nothing_declared params)
    (both (ops-at P 0 ops o)
    (both (items-at P names (body_around head) (body_scope head) 0 items b)
    (both (if_so P _ (head_name head).spot NoReturn name)
    (cells.too_large-at P (function_cells names head items) MAX_LOCAL_CELLS
    (both (param_cells-at P (head_params head) params) (cells.items_cells-at P names 0 items b))))))))

-- ---- the file

start-at : (P : Spot → Type 0) (start : Option ℕ) (x : Ident) (value : ℤ) → P x.spot → Faults P (start_faults start x value)
start-at P None x value h = reserved P x h
start-at P (Some order) x value h = both (if_so P _ x.spot WrongUse h) (if_so P _ x.spot Limit h)

top-at : (P : Spot → Type 0) (names : Names) (t : Top) → Tokens P (top_marks t) → Faults P (top_faults names t)
top-at P names (Include at name header) h = none
top-at P names (Define at name x value) h =
    both (start-at P (start_number x.text) x (replacement_number value) (first (rest (rest h)))) (if_so P _ x.spot WrongUse (first (rest (rest h))))
top-at P names (Variables qualifiers list end) h = globals-at P names list (front _ _ (back _ _ h))
top-at P names (Prototype head end) h = prototype-at P names head (front _ _ h)
top-at P names (Function head before ops items after) h =
    function-at P names head ops items (front _ _ h) (front _ _ (rest (back _ _ h))) (front _ _ (back _ _ (rest (back _ _ h))))

top_functions-at : (P : Spot → Type 0) (t : Top) → Tokens P (top_marks t) → Each P (top_functions t)
top_functions-at P (Include at name header) h = none
top_functions-at P (Define at name x value) h = none
top_functions-at P (Variables qualifiers list end) h = none
top_functions-at P (Prototype head end) h = none
top_functions-at P (Function head before ops items after) h = only (head_name-at P head (front _ _ h))

top_cells-at : (P : Spot → Type 0) (names : Names) (t : Top) → Tokens P (top_marks t) → cells.Variables P (top_cells names t)
top_cells-at P names (Include at name header) h = none
top_cells-at P names (Define at name x value) h = none
top_cells-at P names (Variables qualifiers list end) h = globals_cells-at P names list (front _ _ (back _ _ h))
top_cells-at P names (Prototype head end) h = none
top_cells-at P names (Function head before ops items after) h = none

top_nodes-at : (P : Spot → Type 0) (t : Top) → Tokens P (top_marks t) → Each P (top_nodes t)
top_nodes-at P (Include at name header) h = none
top_nodes-at P (Define at name x value) h = none
top_nodes-at P (Variables qualifiers list end) h = none
top_nodes-at P (Prototype head end) h = none
top_nodes-at P (Function head before ops items after) h = items_nodes-at P 0 items (front _ _ (back _ _ (rest (back _ _ h))))

-- what holds of each part of a file
each_top : {B : Type 0} (P : Spot → Type 0) (R : B → Type 0) (of : Top → List B) → ((t : Top) → Tokens P (top_marks t) → Each R (of t)) → (file : File)
    → Tokens P (file_marks file) → Each R (each of file)
each_top P R of so [] h = none
each_top P R of so (t ∷ file) h = both (so t (front (top_marks t) (file_marks file) h)) (each_top P R of so file (back (top_marks t) (file_marks file) h))

places : (P : Spot → Type 0) (xs : List Cells) → cells.Variables P xs → Each P (map (λ x. x.0) xs)
places P [] h = none
places P (x ∷ xs) h = more (first h) (places P xs (rest h))

count-at : (P : Spot → Type 0) (names : Names) (file : File) → Tokens P (file_marks file) → Faults P (count_faults names file)
count-at P names file h =
    let variables = each_top P (λ (c : Cells). P c.0) (top_cells names) (top_cells-at P names) file h in
    both (excess-at P MAX_FUNCTIONS (each top_functions file) (each_top P P top_functions (top_functions-at P) file h))
    (both (excess-at P MAX_GLOBALS (map (λ x. x.0) (each (top_cells names) file)) (places P (each (top_cells names) file) variables))
    (both (cells.too_large-at P (each (top_cells names) file) MAX_GLOBAL_CELLS variables)
    (excess-at P MAX_NODES (each top_nodes file) (each_top P P top_nodes (top_nodes-at P) file h))))

pub faults-at : (P : Spot → Type 0) (end : Spot) (file : File) → P end → Tokens P (file_marks file) → Faults P (faults_of end file)
faults-at P end file here h =
    both (twice-at P (declarations file) [] (declarations-at P file 0 0 h))
    (both (each_top P (λ (f : Fault). P f.spot) (top_faults (names_of file)) (top-at P (names_of file)) file h)
    (both (if_so P _ end Unknown here) (count-at P (names_of file) file h)))

-- ---- the law

-- each token stands where a token of the list stands
each_token : (P : Spot → Type 0) (ms : List Mark) → ((at : Spot) → Contains (map (λ token. token.spot) (tokens ms)) at → P at)
    → Over (λ (m : Mark). P m.0.spot) ms
each_token P [] so = tt
each_token P (m ∷ ms) so = (
  so m.0.spot (0, omega arith, refl),
  each_token P ms (λ at here. so at (Contains-append_right (m.0.spot ∷ []) (map (λ token. token.spot) (tokens ms)) at here)),
)

all_of : {T : Type 0} (Q : T → Type 0) (xs : List T) → Over Q xs → All Q xs
all_of Q [] h = All-nil Q
all_of Q (x ∷ xs) h = All-cons Q x xs h.0 (all_of Q xs h.1)

pub each_stands : (end : Spot) (file : File) → All (λ (f : Fault). StandsAt end file f.spot) (faults_of end file)
each_stands end file =
    all_of (λ (f : Fault). StandsAt end file f.spot) (faults_of end file)
    (faults-at (StandsAt end file) end file (inr refl) (record { all = each_token (StandsAt end file) (file_marks file) (λ at here. inl here) })).all
