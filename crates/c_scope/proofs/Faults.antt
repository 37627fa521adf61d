-- The least of faults, one list after another.
use Rattle.std.proofs.Common.{◌≡◌, List, [], ◌∷◌, ◌++◌, Option, refl}
use Rattle.c_names.specs.declared.fault.Fault.{Fault}
use Rattle.c_names.specs.Faults.{noted, noted_all}

pub noted_all-append : (least : Option Fault) (fs gs : List Fault) → noted_all least (fs ++ gs) ≡ noted_all (noted_all least fs) gs
noted_all-append least [] gs = refl
noted_all-append least (f ∷ fs) gs = noted_all-append (noted least f) fs gs

pub ruleset faults = (noted_all-append)
