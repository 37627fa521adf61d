-- The orders that begin with a token: `#define CFIX_START_3 1` says so of order 3.
use Rattle.std.specs.Prelude.{ℕ, ℤ, pos, not, nat_le, nat_lt, List, [], ◌∷◌, ◌++◌, drop, length, Option, Some, None, eqb, codes, if◌then◌else◌}
use Rattle.std.specs.List.{starts_with}
use Rattle.std.specs.Ordering.{int_eq}
use Rattle.cfix_base.specs.declared.limits.TheConstants.{MAX_OPERATION_NUMBER}
use Rattle.cfix_base.specs.declared.number.OrderId.{OrderId}
use Rattle.c_grammar.specs.Token.{Ident}
use Rattle.c_grammar.specs.File.{Define, File}
use Rattle.c_lex.specs.Meaning.{decimal, is_number}
use Rattle.c_names.specs.declared.fault.Fault.{Fault}
use Rattle.c_names.specs.declared.fault.FaultKind.TheVariants.{WrongUse, Limit}
use Rattle.c_names.specs.Faults.{fault_if}
use Rattle.c_names.specs.Names.{reserved_faults}

-- the beginning of the names that say so
abbrev pub start_prefix : List ℕ
start_prefix = codes "CFIX_START_"

-- the number that digits spell: at most 2147483647, and no 0 leads other digits
abbrev pub digits_number : List ℕ → Option ℕ
digits_number [] = None
digits_number (digit ∷ rest) = if is_number (digit ∷ rest) then Some (decimal (digit ∷ rest)) else None

-- the order that a name begins
abbrev pub start_number : List ℕ → Option ℕ
start_number text = if starts_with eqb text start_prefix then digits_number (drop (length start_prefix) text) else None

-- the value of a start is 1, and its order at most 999; another defined name has no beginning that is reserved
abbrev pub start_faults : Option ℕ → Ident → ℤ → List Fault
start_faults None x value = reserved_faults x
start_faults (Some order) x value = fault_if (not (int_eq value (pos 1))) x.spot WrongUse ++ fault_if (nat_lt MAX_OPERATION_NUMBER order) x.spot Limit

-- an order among orders that rise
abbrev pub with_order : Option ℕ → List OrderId → List OrderId
with_order None orders = orders
with_order (Some n) [] = record { number = n } ∷ []
with_order (Some n) (order ∷ orders) =
    if nat_le n order.number then record { number = n } ∷ order ∷ orders else order ∷ with_order (Some n) orders

-- the orders that a file begins with a token, rising
abbrev pub starts_of : File → List OrderId
starts_of [] = []
starts_of (Define at name x value ∷ more) = with_order (start_number x.text) (starts_of more)
starts_of (_ ∷ more) = starts_of more
