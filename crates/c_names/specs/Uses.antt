-- What a name stands for at a place of a body (6.2.1 and 6.2.3 of ISO/IEC 9899:2011): the innermost declaration counts, and
-- globals, functions and defined names are visible in the whole file and share one name space.
use Rattle.std.specs.Prelude.{ℕ, ℤ, Bool, true, false, List, Option, Some, None}
use Rattle.c_prog.specs.declared.expr.Var.{Var}
use Rattle.c_prog.specs.declared.expr.Var.TheVariants as var
use Rattle.c_prog.specs.declared.function.FnKind.{FnKind}
use Rattle.c_prog.specs.Valid.Scope.{VarKind, Local, Scope, local_named}

-- What a declaration of the file declares: a variable with its number and kind, a function with its number, its kind and
-- its number of parameters, or the number that a name is defined as. Variables and functions are counted from 0, each on
-- their own, in the order of the text.
pub data Meaning : Type 0 where
  OfVariable : ℕ → VarKind → Meaning
  OfFunction : ℕ → FnKind → ℕ → Meaning
  OfNumber : ℤ → Meaning

-- a function as its prototypes see it: its kind and its number of parameters
abbrev pub Form : Type 0
Form = FnKind × ℕ

-- What the file says of a name: what its first declaration declares, the form of the first function with this name, and
-- whether some `#define` defines it.
pub record Known : Type 0 where
  pub first : Option Meaning
  pub form : Option Form
  pub is_defined : Bool

-- what the file says of each name
abbrev pub Names : Type 0
Names = List ℕ → Known

-- what a name stands for
pub data Use : Type 0 where
  IsLocal : ℕ → VarKind → Use
  IsGlobal : ℕ → VarKind → Use
  IsFunction : ℕ → FnKind → ℕ → Use
  IsDefined : ℤ → Use
  IsUnknown : Use

-- what a name stands for where no local has it
abbrev pub file_use : Option Meaning → Use
file_use None = IsUnknown
file_use (Some (OfVariable n kind)) = IsGlobal n kind
file_use (Some (OfFunction n kind params)) = IsFunction n kind params
file_use (Some (OfNumber value)) = IsDefined value

-- a local counts before the names of the file
abbrev pub local_use : Option Local → Use → Use
local_use None other = other
local_use (Some local) other = IsLocal local.number local.kind

-- what a name stands for at this place
abbrev pub use_of : Names → Scope → List ℕ → Use
use_of names scope text = local_use (local_named text scope) (file_use (names text).first)

-- the kind of the variable, where the name stands for one
abbrev pub kind_of : Use → Option VarKind
kind_of (IsLocal n kind) = Some kind
kind_of (IsGlobal n kind) = Some kind
kind_of _ = None

-- the variable that the name stands for; where it is none, the name has a fault, and the first local stands for it
abbrev pub var_of : Use → Var
var_of (IsLocal n kind) = var.Local n
var_of (IsGlobal n kind) = var.Global (record { number = n })
var_of _ = var.Local 0

-- the number of the local that the name stands for
abbrev pub local_number : Use → ℕ
local_number (IsLocal n kind) = n
local_number _ = 0

-- the number of the global that the name stands for
abbrev pub global_number : Use → ℕ
global_number (IsGlobal n kind) = n
global_number _ = 0

-- the number of the function that the name stands for
abbrev pub function_number : Use → ℕ
function_number (IsFunction n kind params) = n
function_number _ = 0

-- the name has no declaration
abbrev pub is_unknown : Use → Bool
is_unknown IsUnknown = true
is_unknown _ = false

-- the name stands for a number
abbrev pub is_defined_use : Use → Bool
is_defined_use (IsDefined value) = true
is_defined_use _ = false

-- the number that a name stands for by the file
abbrev pub defined_number : Option Meaning → Option ℤ
defined_number (Some (OfNumber value)) = Some value
defined_number _ = None
