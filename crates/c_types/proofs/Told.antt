-- What is told of the fault that is kept.
use Rattle.std.proofs.Common.{List, None}
use Rattle.c_names.specs.declared.fault.Fault.{Fault}
use Rattle.c_names.specs.declared.fault.FaultKind.TheVariants as kind
use Rattle.c_names.specs.Faults.{fault, noted_all}
use Rattle.c_types.specs.declared.fault.NameFault.{NameFault}
use Rattle.c_types.specs.declared.fault.NameFault.TheVariants.{NoMemory, Unknown, Twice, Arity, WrongUse, NoReturn, RootCalled, Reserved, Limit}
use Rattle.c_types.specs.Outcome.{Refuses, Tells}
use Rattle.c_types.proofs.Least.{least-kept}

-- it is the least of the faults
pub refuses : (e : NameFault) (faults : List Fault) → Tells e (noted_all None faults) → Refuses e faults
refuses NoMemory faults told = tt
refuses (Unknown at) faults told = least-kept faults (fault at kind.Unknown) told
refuses (Twice at) faults told = least-kept faults (fault at kind.Twice) told
refuses (Arity at) faults told = least-kept faults (fault at kind.Arity) told
refuses (WrongUse at) faults told = least-kept faults (fault at kind.WrongUse) told
refuses (NoReturn at) faults told = least-kept faults (fault at kind.NoReturn) told
refuses (RootCalled at) faults told = least-kept faults (fault at kind.RootCalled) told
refuses (Reserved at) faults told = least-kept faults (fault at kind.Reserved) told
refuses (Limit at) faults told = least-kept faults (fault at kind.Limit) told
