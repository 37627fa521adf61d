-- How a fault is told.
use Rattle.std.specs.Prelude.{◌≡◌, List, Option, Some}
use Rattle.c_names.specs.declared.fault.Fault.{Fault}
use Rattle.c_names.specs.declared.fault.FaultKind.TheVariants as kind
use Rattle.c_names.specs.Faults.{fault, IsLeast}
use Rattle.c_types.specs.declared.fault.NameFault.{NameFault}
use Rattle.c_types.specs.declared.fault.NameFault.TheVariants.{NoMemory, Unknown, Twice, Arity, WrongUse, NoReturn, RootCalled, Reserved, Limit}

-- The fault that is told is the least one: none of the faults stands at a lesser place, and none of them at the same
-- place has a kind that stands earlier in the list of kinds.
abbrev pub Refuses : NameFault → List Fault → Type 0
Refuses NoMemory faults = Unit {0}
Refuses (Unknown at) faults = IsLeast (fault at kind.Unknown) faults
Refuses (Twice at) faults = IsLeast (fault at kind.Twice) faults
Refuses (Arity at) faults = IsLeast (fault at kind.Arity) faults
Refuses (WrongUse at) faults = IsLeast (fault at kind.WrongUse) faults
Refuses (NoReturn at) faults = IsLeast (fault at kind.NoReturn) faults
Refuses (RootCalled at) faults = IsLeast (fault at kind.RootCalled) faults
Refuses (Reserved at) faults = IsLeast (fault at kind.Reserved) faults
Refuses (Limit at) faults = IsLeast (fault at kind.Limit) faults

-- The fault that is told is the one that is kept.
abbrev pub Tells : NameFault → Option Fault → Type 0
Tells NoMemory least = Unit {0}
Tells (Unknown at) least = least ≡ Some (fault at kind.Unknown)
Tells (Twice at) least = least ≡ Some (fault at kind.Twice)
Tells (Arity at) least = least ≡ Some (fault at kind.Arity)
Tells (WrongUse at) least = least ≡ Some (fault at kind.WrongUse)
Tells (NoReturn at) least = least ≡ Some (fault at kind.NoReturn)
Tells (RootCalled at) least = least ≡ Some (fault at kind.RootCalled)
Tells (Reserved at) least = least ≡ Some (fault at kind.Reserved)
Tells (Limit at) least = least ≡ Some (fault at kind.Limit)
