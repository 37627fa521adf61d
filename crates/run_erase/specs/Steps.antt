-- One step of erasing, and what is so before each entry.
use Rattle.std.specs.Prelude.{◌≡◌, ℕ, ℤ, ◌+◌, ◌≤◌, List, [], ◌++◌, drop, length, Some, None}
use Rattle.cfix_base.specs.declared.entry.Entry.{Entry}
use Rattle.cfix_base.specs.declared.mark.Marks.{Marks}
use Rattle.c_prog.specs.declared.tree.Tree.{Tree}
use Rattle.step_state.specs.declared.event.Event.{Event}
use Rattle.step_state.specs.declared.state.Counted.{Counted}
use Rattle.step_state.specs.Code.{Code}
use Rattle.step_state.specs.Erase.{erased, erased_from, is_inserted, kept_if}
use Rattle.step_state.specs.Step.{step}
use Rattle.step_tables.specs.TreeCode.{tree_code}
use Rattle.run_replay.specs.Trace.{refused, refused_from}
use Rattle.sched_text.specs.declared.check_fault.CheckFault.{CheckFault}
use Rattle.sched_text.specs.declared.check_fault.CheckFault.TheVariants as fault

-- why no step was made
abbrev pub NoStep : CheckFault → Code → Counted → Entry → Type 0
NoStep fault.NoMemory c s e = Unit {0}
NoStep (fault.NotEnabled n) c s e = (n ≡ s.steps + 1) × (step c s.configuration e ≡ None)

-- a step was made, and the entry was kept unless it was a new operation
pub record IsKept (m : Marks) (c : Code) (s : Counted) (e : Entry) (next : Counted) (old new : List Entry) : Type 0 where
  pub event : Event
  pub goes : step c s.configuration e ≡ Some (next.configuration, event)
  pub counted : next.steps ≡ s.steps + 1
  pub is_kept : new ≡ old ++ kept_if (is_inserted m event) e []

-- what is so once the first entries, so many, have made their steps
pub record IsUnderWay (m : Marks) (tree : Tree) (input : List ℤ) (es : List Entry) (i : ℕ) (s : Counted) (kept : List Entry) : Type 0 where
  pub counted : s.steps ≡ i
  pub first : refused tree input es ≡ refused_from (tree_code tree) s.configuration (i + 1) (drop i es)
  pub rest : erased m (tree_code tree) input es ≡ kept ++ erased_from m (tree_code tree) s.configuration (drop i es)
  pub few : length kept ≤ i
