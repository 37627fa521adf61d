-- The parts of a file and of a function without faults have none.
use Rattle.std.proofs.Common.{◌≡◌, List, [], ◌++◌, map}
use Rattle.cfix_base.specs.declared.Spot.{Spot}
use Rattle.cfix_base.specs.declared.limits.TheConstants.{MAX_NODES, MAX_FUNCTIONS, MAX_GLOBALS, MAX_GLOBAL_CELLS, MAX_LOCAL_CELLS}
use Rattle.c_grammar.specs.Marks.{each}
use Rattle.c_grammar.specs.Op.{Ops}
use Rattle.c_grammar.specs.Stmt.{Items}
use Rattle.c_grammar.specs.File.{Head, File}
use Rattle.c_prog.specs.Valid.Scope.{nothing_declared}
use Rattle.c_prog.specs.Valid.Functions.{param_kind}
use Rattle.c_names.specs.declared.fault.Fault.{Fault}
use Rattle.c_names.specs.Declarations.{head_name, head_kind, head_params, head_form, declarations}
use Rattle.c_names.specs.Files.{all_twice_faults, main_form_faults, params_faults, body_scope, body_around, body_of, end_faults, function_cells, function_faults, top_faults, main_faults, top_functions, top_cells, top_nodes, faults_with}
use Rattle.c_names.specs.Limits.{Cells, excess_faults, cells_faults}
use Rattle.c_names.specs.Names.{reserved_faults}
use Rattle.c_names.specs.Simples.{ops_faults}
use Rattle.c_names.specs.Statements.{items_faults}
use Rattle.c_names.specs.Uses.{Names}
use Rattle.valid_law.proofs.Faultless.{none-left, none-right}

-- a function: its name, main's form, its parameters, the operations at its start, its body, its end and its cells
pub record FunctionFaultless (names : Names) (head : Head) (start : Ops) (block : Items) : Type 0 where
  pub name : reserved_faults (head_name head) ≡ []
  pub form : main_form_faults (head_name head) (head_form head) ≡ []
  pub params : params_faults names (param_kind (head_kind head)) nothing_declared (head_params head) ≡ []
  pub ops : ops_faults start ≡ []
  pub items : items_faults names (body_around head) (body_scope head) block ≡ []
  pub end : end_faults head (body_of names head block) ≡ []
  pub cells : cells_faults MAX_LOCAL_CELLS (function_cells names head block) ≡ []

pub function_parts : (names : Names) (head : Head) (ops : Ops) (items : Items)
    → function_faults names head ops items ≡ [] → FunctionFaultless names head ops items
function_parts names head ops items none =
    let a : List Fault = reserved_faults (head_name head) in
    let b : List Fault = main_form_faults (head_name head) (head_form head) in
    let c : List Fault = params_faults names (param_kind (head_kind head)) nothing_declared (head_params head) in
    let d : List Fault = ops_faults ops in
    let e : List Fault = items_faults names (body_around head) (body_scope head) items in
    let f : List Fault = end_faults head (body_of names head items) in
    let g : List Fault = cells_faults MAX_LOCAL_CELLS (function_cells names head items) in
    let in_b : b ++ (c ++ (d ++ (e ++ (f ++ g)))) ≡ [] = none-right a (b ++ (c ++ (d ++ (e ++ (f ++ g))))) none in
    let in_c : c ++ (d ++ (e ++ (f ++ g))) ≡ [] = none-right b (c ++ (d ++ (e ++ (f ++ g)))) in_b in
    let in_d : d ++ (e ++ (f ++ g)) ≡ [] = none-right c (d ++ (e ++ (f ++ g))) in_c in
    let in_e : e ++ (f ++ g) ≡ [] = none-right d (e ++ (f ++ g)) in_d in
    let in_f : f ++ g ≡ [] = none-right e (f ++ g) in_e in
    record {
      name = none-left a (b ++ (c ++ (d ++ (e ++ (f ++ g))))) none;
      form = none-left b (c ++ (d ++ (e ++ (f ++ g)))) in_b;
      params = none-left c (d ++ (e ++ (f ++ g))) in_c;
      ops = none-left d (e ++ (f ++ g)) in_d;
      items = none-left e (f ++ g) in_e;
      end = none-left f g in_f;
      cells = none-right f g in_f;
    }

-- a file: its declared names, what it is made of, main, and its counts
pub record FileFaultless (names : Names) (end : Spot) (file : File) : Type 0 where
  pub twice : all_twice_faults [] (declarations file) ≡ []
  pub tops : each (top_faults names) file ≡ []
  pub main : main_faults names end ≡ []
  pub functions : excess_faults MAX_FUNCTIONS (each top_functions file) ≡ []
  pub globals : excess_faults MAX_GLOBALS (map (λ (x : Cells). x.0) (each (top_cells names) file)) ≡ []
  pub cells : cells_faults MAX_GLOBAL_CELLS (each (top_cells names) file) ≡ []
  pub nodes : excess_faults MAX_NODES (each top_nodes file) ≡ []

pub file_parts : (names : Names) (end : Spot) (file : File) → faults_with names end file ≡ [] → FileFaultless names end file
file_parts names end file none =
    let a : List Fault = all_twice_faults [] (declarations file) in
    let b : List Fault = each (top_faults names) file in
    let c : List Fault = main_faults names end in
    let d : List Fault = excess_faults MAX_FUNCTIONS (each top_functions file) in
    let e : List Fault = excess_faults MAX_GLOBALS (map (λ (x : Cells). x.0) (each (top_cells names) file)) in
    let f : List Fault = cells_faults MAX_GLOBAL_CELLS (each (top_cells names) file) in
    let g : List Fault = excess_faults MAX_NODES (each top_nodes file) in
    let in_b : b ++ (c ++ (d ++ (e ++ (f ++ g)))) ≡ [] = none-right a (b ++ (c ++ (d ++ (e ++ (f ++ g))))) none in
    let in_c : c ++ (d ++ (e ++ (f ++ g))) ≡ [] = none-right b (c ++ (d ++ (e ++ (f ++ g)))) in_b in
    let in_d : d ++ (e ++ (f ++ g)) ≡ [] = none-right c (d ++ (e ++ (f ++ g))) in_c in
    let in_e : e ++ (f ++ g) ≡ [] = none-right d (e ++ (f ++ g)) in_d in
    let in_f : f ++ g ≡ [] = none-right e (f ++ g) in_e in
    record {
      twice = none-left a (b ++ (c ++ (d ++ (e ++ (f ++ g))))) none;
      tops = none-left b (c ++ (d ++ (e ++ (f ++ g)))) in_b;
      main = none-left c (d ++ (e ++ (f ++ g))) in_c;
      functions = none-left d (e ++ (f ++ g)) in_d;
      globals = none-left e (f ++ g) in_e;
      cells = none-left f g in_f;
      nodes = none-right f g in_f;
    }
