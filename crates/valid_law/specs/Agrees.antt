-- The names of a file and what its program declares say the same of each name.
use Rattle.std.specs.Prelude.{◌≡◌, ℕ, ℤ, List, Some, slice_get, IsTrue}
use Rattle.c_prog.specs.declared.function.FnKind.{FnKind}
use Rattle.c_prog.specs.declared.global.Global.{Global}
use Rattle.c_prog.specs.Valid.Scope.{VarKind}
use Rattle.c_prog.specs.Valid.Kinds.{File, global_var_kind}
use Rattle.c_prog.specs.Valid.Expressions.{is_number}
use Rattle.c_names.specs.Uses.{Names, OfVariable, OfFunction, OfNumber}

-- the global of this number has this name and this kind
pub record GlobalOf (file : File) (text : List ℕ) (n : ℕ) (kind : VarKind) : Type 0 where
  pub global : Global
  pub found : slice_get file.globals n ≡ Some global
  pub named : global.name ≡ text
  pub is_kind : global_var_kind global.kind ≡ kind

-- the names stand for the globals and functions of these numbers, or for numbers that a text spells
pub record Agrees (names : Names) (file : File) : Type 0 where
  pub global : (text : List ℕ) → (n : ℕ) → (kind : VarKind) → (names text).first ≡ Some (OfVariable n kind) → GlobalOf file text n kind
  pub function : (text : List ℕ) → (n : ℕ) → (kind : FnKind) → (params : ℕ) → (names text).first ≡ Some (OfFunction n kind params)
      → slice_get file.functions n ≡ Some (record { name = text; kind = kind; params = params })
  pub number : (text : List ℕ) → (value : ℤ) → (names text).first ≡ Some (OfNumber value) → IsTrue (is_number value)
