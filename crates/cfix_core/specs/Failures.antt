-- Why a stage of a command fails.
use Rattle.cfix_core.specs.declared.failure.Refusal.{Refusal}
use Rattle.cfix_core.specs.declared.failure.Failure.{Failure}
use Rattle.cfix_core.specs.declared.failure.Failure.TheVariants as failure

-- want of memory needs no reason
abbrev pub FailsBy : (Refusal → Type 0) → Failure → Type 0
FailsBy Why failure.NoMemory = Unit {0}
FailsBy Why (failure.Refused refusal) = Why refusal
