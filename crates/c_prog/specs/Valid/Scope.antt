-- What a name means at a place of a body: the scopes of 6.2.1 of ISO/IEC 9899:2011.
use Rattle.std.specs.Prelude.{ℕ, ◌+◌, ◌==◌, Bool, false, ◌&&◌, List, [], ◌∷◌, ◌++◌, Option, Some, None, find}
use Rattle.std.specs.List.{list_any}
use Rattle.std.specs.Str.{bytes_eq}

-- What a variable can be. `argument` is the `void *` parameter of a thread function.
pub data VarKind : Type 0 where
  int : VarKind
  int_array : VarKind
  thread : VarKind
  thread_array : VarKind
  mutex : VarKind
  cond : VarKind
  argument : VarKind

-- A parameter or a local of a function. They are numbered in the order of the text.
pub record Local : Type 0 where
  pub name : List ℕ
  pub kind : VarKind
  pub number : ℕ

-- The parameters and locals that are declared before a place, the latest first: in the innermost block that is open there,
-- and in the blocks around it. `count` is how many stand before the place in the text, those of closed blocks included.
pub record Scope : Type 0 where
  pub block : List Local
  pub around : List Local
  pub count : ℕ

-- where nothing is declared yet
abbrev pub nothing_declared : Scope
nothing_declared = record { block = []; around = []; count = 0 }

-- the locals of all open blocks, the innermost first
abbrev pub visible : Scope → List Local
visible scope = scope.block ++ scope.around

-- a local of this name
abbrev pub is_named : List ℕ → Local → Bool
is_named name local = bytes_eq name local.name

-- the block that is open here has a local of this name
abbrev pub is_in_block : List ℕ → Scope → Bool
is_in_block name scope = list_any (is_named name) scope.block

-- a local has this name here, so that it hides what the file declares under the name
abbrev pub is_hidden : List ℕ → Scope → Bool
is_hidden name scope = list_any (is_named name) (visible scope)

-- the local that a name means: the innermost declaration counts
abbrev pub local_named : List ℕ → Scope → Option Local
local_named name scope = find (is_named name) (visible scope)

-- it is there and has this number
abbrev pub is_numbered : ℕ → Option Local → Bool
is_numbered number None = false
is_numbered number (Some local) = local.number == number

-- the local of this number, where its name means it here
abbrev pub local_here : ℕ → Scope → Option Local
local_here number scope =
    find (λ local. local.number == number && is_numbered number (local_named local.name scope)) (visible scope)

-- after a declaration in the block that is open
abbrev pub declared : List ℕ → VarKind → Scope → Scope
declared name kind scope = record {
  block = record { name = name; kind = kind; number = scope.count } ∷ scope.block;
  around = scope.around;
  count = scope.count + 1;
}

-- at the start of a block
abbrev pub entered : Scope → Scope
entered scope = record { block = []; around = visible scope; count = scope.count }

-- after blocks that declare so many locals
abbrev pub passed : ℕ → Scope → Scope
passed locals scope = record { block = scope.block; around = scope.around; count = scope.count + locals }
