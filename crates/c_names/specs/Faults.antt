-- Faults, and the one that is told: the fault at the least token, and of those the first in the list of kinds.
use Rattle.std.specs.Prelude.{◌≡◌, ℕ, Bool, true, false, ◌&&◌, ◌||◌, ◌==◌, nat_lt, List, [], ◌∷◌, Option, Some, None, fold, All, Contains, if◌then◌else◌}
use Rattle.cfix_base.specs.declared.Spot.{Spot}
use Rattle.c_names.specs.declared.fault.Fault.{Fault}
use Rattle.c_names.specs.declared.fault.FaultKind.{FaultKind}
use Rattle.c_names.specs.declared.fault.FaultKind.TheVariants.{Unknown, Twice, Arity, WrongUse, NoReturn, RootCalled, Reserved, Limit}

-- the place of a kind in the list
abbrev pub rank : FaultKind → ℕ
rank Unknown = 0
rank Twice = 1
rank Arity = 2
rank WrongUse = 3
rank NoReturn = 4
rank RootCalled = 5
rank Reserved = 6
rank Limit = 7

-- at a lesser place, or at the same place and earlier in the list of kinds
abbrev pub comes_before : Fault → Fault → Bool
comes_before a b = nat_lt a.spot.at b.spot.at || (a.spot.at == b.spot.at && nat_lt (rank a.kind) (rank b.kind))

abbrev pub fault : Spot → FaultKind → Fault
fault spot kind = record { kind = kind; spot = spot }

-- this fault alone, where the test holds
abbrev pub fault_if : Bool → Spot → FaultKind → List Fault
fault_if test spot kind = if test then fault spot kind ∷ [] else []

-- the lesser of the least so far and a fault
unfoldable pub noted : Option Fault → Fault → Option Fault
noted None f = Some f
noted (Some least) f = if comes_before f least then Some f else Some least

-- the least of the least so far and of faults
abbrev pub noted_all : Option Fault → List Fault → Option Fault
noted_all least faults = fold noted least faults

-- a limit is passed, which no rule of the language forbids
abbrev pub is_limit : FaultKind → Bool
is_limit Limit = true
is_limit _ = false

-- among the faults, and none comes before it
pub record IsLeast (f : Fault) (faults : List Fault) : Type 0 where
  pub among : Contains faults f
  pub least : All (λ g. comes_before g f ≡ false) faults
