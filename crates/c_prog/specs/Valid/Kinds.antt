-- What the names of a file mean at a place of a body.
use Rattle.std.specs.Prelude.{ℕ, List, map, length, Option, Some, None, if◌then◌else◌, slice_get, option_map}
use Rattle.cfix_base.specs.declared.number.FnId.{FnId}
use Rattle.c_prog.specs.declared.act.LocalKind.{LocalKind}
use Rattle.c_prog.specs.declared.act.LocalKind.TheVariants as local_kind
use Rattle.c_prog.specs.declared.expr.Var.{Var}
use Rattle.c_prog.specs.declared.expr.Var.TheVariants.{Global, Local}
use Rattle.c_prog.specs.declared.function.FnKind.{FnKind}
use Rattle.c_prog.specs.declared.function.Function.{Function}
use Rattle.c_prog.specs.declared.global.Global as global_struct
use Rattle.c_prog.specs.declared.global.GlobalKind.{GlobalKind}
use Rattle.c_prog.specs.declared.global.GlobalKind.TheVariants as global_kind
use Rattle.c_prog.specs.declared.tree.Tree.{Tree}
use Rattle.c_prog.specs.Valid.Scope.{VarKind, int, int_array, thread, thread_array, mutex, cond, Scope, is_hidden, local_here}

-- A function as the rest of the file sees it: its name, what it gives back, and how many parameters it has.
pub record Signature : Type 0 where
  pub name : List ℕ
  pub kind : FnKind
  pub params : ℕ

-- What is visible in the whole file. A function's number is its place in the list, and so is a global's.
pub record File : Type 0 where
  pub globals : List global_struct.Global
  pub functions : List Signature

-- a function without its body
abbrev pub signature_of : Function → Signature
signature_of function = record { name = function.name; kind = function.kind; params = length function.params }

-- what the file of a tree declares
abbrev pub file_of : Tree → File
file_of tree = record { globals = tree.globals; functions = map signature_of tree.functions }

-- the kind of a global
abbrev pub global_var_kind : GlobalKind → VarKind
global_var_kind (global_kind.Int value) = int
global_var_kind (global_kind.IntArray count) = int_array
global_var_kind global_kind.Thread = thread
global_var_kind (global_kind.ThreadArray count) = thread_array
global_var_kind global_kind.Mutex = mutex
global_var_kind global_kind.Cond = cond

-- the kind of a local
abbrev pub local_var_kind : LocalKind → VarKind
local_var_kind local_kind.Int = int
local_var_kind (local_kind.IntArray count) = int_array
local_var_kind local_kind.Thread = thread
local_var_kind (local_kind.ThreadArray count) = thread_array

-- a global, where no local hides it
abbrev pub global_seen : Scope → Option global_struct.Global → Option VarKind
global_seen scope None = None
global_seen scope (Some global) = if is_hidden global.name scope then None else Some (global_var_kind global.kind)

-- a function, where no local hides it
abbrev pub function_seen : Scope → Option Signature → Option Signature
function_seen scope None = None
function_seen scope (Some function) = if is_hidden function.name scope then None else Some function

-- the kind of a variable, where its name means it here
abbrev pub kind_here : File → Scope → Var → Option VarKind
kind_here file scope (Global id) = global_seen scope (slice_get file.globals id.number)
kind_here file scope (Local number) = option_map (λ local. local.kind) (local_here number scope)

-- the function of this number, where its name means it here
abbrev pub function_here : File → Scope → FnId → Option Signature
function_here file scope id = function_seen scope (slice_get file.functions id.number)
