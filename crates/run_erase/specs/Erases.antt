-- What erasing answers.
use Rattle.std.specs.Prelude.{◌≡◌, ℕ, ℤ, List, Option, Some, None}
use Rattle.cfix_base.specs.declared.entry.Entry.{Entry}
use Rattle.cfix_base.specs.declared.mark.Marks.{Marks}
use Rattle.c_prog.specs.declared.tree.Tree.{Tree}
use Rattle.step_state.specs.Erase.{erased}
use Rattle.step_tables.specs.TreeCode.{tree_code}
use Rattle.run_replay.specs.Trace.{refused}
use Rattle.sched_text.specs.declared.check_fault.CheckFault.{CheckFault}
use Rattle.sched_text.specs.declared.check_fault.CheckFault.TheVariants as fault

-- each entry made a step, and those whose steps were no new operations are these
pub record IsErased (m : Marks) (tree : Tree) (input : List ℤ) (es kept : List Entry) : Type 0 where
  pub none : refused tree input es ≡ None
  pub is_kept : kept ≡ erased m (tree_code tree) input es

-- the cause of each fault
abbrev pub Cause : CheckFault → Tree → List ℤ → List Entry → Type 0
Cause fault.NoMemory tree input es = Unit {0}
Cause (fault.NotEnabled n) tree input es = refused tree input es ≡ Some n
