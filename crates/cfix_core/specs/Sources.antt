-- What a command makes of the bytes of its source, and why it refuses them.
use Rattle.std.specs.Prelude.{ℕ, ◌≡◌, ◌⊎◌, true, false, List}
use Rattle.c_print.specs.Text.Canonical.{canonical}
use Rattle.c_prog.specs.Lines.{SourceTree}
use Rattle.c_read.specs.declared.flaw.Flaw.{Flaw}
use Rattle.c_read.specs.declared.flaw.ReadFault.{ReadFault}
use Rattle.c_read.specs.declared.flaw.ReadFault.TheVariants as fault
use Rattle.c_read.specs.Reading.{Reads, IsFlawed}
use Rattle.first_form.specs.Form.{is_first_form}
use Rattle.cfix_core.specs.declared.failure.Refusal.{Refusal}
use Rattle.cfix_core.specs.declared.failure.Refusal.TheVariants.{Source, Form}
use Rattle.cfix_core.specs.declared.failure.Failure.{Failure}
use Rattle.cfix_core.specs.declared.failure.Failure.TheVariants as failure

-- the source is not accepted, and this is its flaw
pub record IsRefusedSource (refusal : Refusal) (text : List ℕ) : Type 0 where
  pub flaw : Flaw
  pub is_refusal : refusal ≡ Source flaw
  pub flawed : IsFlawed text flaw

-- `shown` is the canonical text of the program that the source spells
pub record Shown (text shown : List ℕ) : Type 0 where
  pub source : SourceTree
  pub reads : Reads text source
  pub is_text : shown ≡ canonical source.tree

-- the source spells this program with these lines, which is of the first form
pub record IsFirstSource (text : List ℕ) (source : SourceTree) : Type 0 where
  pub reads : Reads text source
  pub form : is_first_form source.tree ≡ true

-- the source spells a program of another form
pub record IsOtherSource (text : List ℕ) : Type 0 where
  pub source : SourceTree
  pub reads : Reads text source
  pub other : is_first_form source.tree ≡ false

-- why the source is refused where a program of the first form is wanted
abbrev pub IsNoFirstSource : Refusal → List ℕ → Type 0
IsNoFirstSource refusal text = IsRefusedSource refusal text ⊎ ((refusal ≡ Form) × IsOtherSource text)

-- the failure for a fault of reading
abbrev pub failure_of_fault : ReadFault → Failure
failure_of_fault fault.NoMemory = failure.NoMemory
failure_of_fault (fault.Flawed flaw) = failure.Refused (Source flaw)
