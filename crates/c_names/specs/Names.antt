-- The rules of single names: where they are used, and where they are declared.
use Rattle.std.specs.Prelude.{ℕ, ℤ, pos, Bool, not, ◌||◌, ◌==◌, nat_lt, List, [], ◌∷◌, ◌++◌, Option, Some, None, unsigned_abs}
use Rattle.cfix_base.specs.declared.limits.TheConstants.{MAX_ARRAY_LENGTH}
use Rattle.cfix_base.specs.declared.Spot.{Spot}
use Rattle.cfix_base.specs.Words.{is_reserved_text}
use Rattle.c_grammar.specs.Token.{Ident}
use Rattle.c_grammar.specs.Decl.{Size, Count, Named}
use Rattle.c_prog.specs.Valid.Scope.{Scope, is_in_block}
use Rattle.c_names.specs.declared.fault.Fault.{Fault}
use Rattle.c_names.specs.declared.fault.FaultKind.TheVariants.{Unknown, Twice, WrongUse, Reserved, Limit}
use Rattle.c_names.specs.Faults.{fault, fault_if}
use Rattle.c_names.specs.Uses.{Names, Use, IsUnknown, use_of, is_defined_use, defined_number}

-- the name has a beginning that is reserved
abbrev pub reserved_faults : Ident → List Fault
reserved_faults x = fault_if (is_reserved_text x.text) x.spot Reserved

-- a name is used: it has a declaration, and what it stands for fits
abbrev pub use_faults : Bool → Use → Spot → List Fault
use_faults fits IsUnknown spot = fault spot Unknown ∷ []
use_faults fits _ spot = fault_if (not fits) spot WrongUse

-- A local or parameter is declared: its block has none of this name, and the file defines no number of this name.
abbrev pub declare_faults : Names → Scope → Ident → List Fault
declare_faults names scope x = reserved_faults x ++ fault_if (is_in_block x.text scope || (names x.text).is_defined) x.spot Twice

-- the name in a size or an initial value stands for a number
abbrev pub size_faults : Names → Scope → Size → List Fault
size_faults names scope (Count n) = []
size_faults names scope (Named x) =
    reserved_faults x ++ use_faults (is_defined_use (use_of names scope x.text)) (use_of names scope x.text) x.spot

-- a number that is defined, or 1 where none is
abbrev pub number_or_one : Option ℤ → ℤ
number_or_one None = pos 1
number_or_one (Some n) = n

-- The number that is spelled by a number or by a defined name. It is 1 where the first declaration of the name defines no number;
-- a name that has a fault for another cause, as a reserved one, keeps the number that is defined.
abbrev pub size_number : Names → Size → ℤ
size_number names (Count n) = n.value
size_number names (Named x) = number_or_one (defined_number (names x.text).first)

-- the length of an array
abbrev pub size_length : Names → Size → ℕ
size_length names size = unsigned_abs (size_number names size)

-- the length of an array is 1 to 65536
abbrev pub length_faults : ℕ → Spot → List Fault
length_faults n spot = fault_if (n == 0 || nat_lt MAX_ARRAY_LENGTH n) spot Limit
