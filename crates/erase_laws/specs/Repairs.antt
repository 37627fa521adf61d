-- What a patched program does is what the program does, with further operations between its steps.
use Rattle.std.specs.Prelude.{◌≡◌, ℕ, ℤ, List, Some}
use Rattle.cfix_base.specs.declared.entry.Entry.{Entry}
use Rattle.c_prog.specs.declared.tree.Tree.{Tree}
use Rattle.step_state.specs.declared.state.Configuration.{Configuration}
use Rattle.cfix_base.specs.declared.mark.Marks.{Marks}
use Rattle.step_state.specs.Erase.{strip_configuration, erased}
use Rattle.step_state.specs.Run.{Seen, run, CanGo}
use Rattle.erase_laws.specs.Runs.{strip_steps}
use Rattle.step_tables.specs.TreeCode.{tree_code}

-- q is p with further operations, which are those from the marks on
pub record AddsNothing (p q : Tree) (m : Marks) (input : List ℤ) (es : List Entry) : Type 0 where
  pub erases : (steps : List Seen) (last : Configuration) → run (tree_code q) input es ≡ Some (steps, last)
      → run (tree_code p) input (erased m (tree_code q) input es) ≡ Some (strip_steps m steps, strip_configuration m last)
  pub goes_on : (steps : List Seen) (last : Configuration) → run (tree_code q) input es ≡ Some (steps, last)
      → (t : ℕ) → CanGo (tree_code p) (strip_configuration m last) t → CanGo (tree_code q) last t
