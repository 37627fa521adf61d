-- What a replay leaves in the output, by its answer.
use Rattle.std.specs.Prelude.{◌≡◌, ℕ, ℤ, ◌⊎◌, List, ◌++◌, Option, Some, None}
use Rattle.cfix_base.specs.declared.entry.Entry.{Entry}
use Rattle.cfix_outside.specs.Faults.{Rose}
use Rattle.cfix_outside.specs.Sinks.{Gained, GainedFront}
use Rattle.c_prog.specs.declared.tree.Tree.{Tree}
use Rattle.step_state.specs.Run.{Seen}
use Rattle.run_replay.specs.declared.fault.ReplayFault.{ReplayFault}
use Rattle.run_replay.specs.declared.fault.ReplayFault.TheVariants as fault
use Rattle.run_replay.specs.Trace.{IsTrace, refused, seen, step_lines}

-- each entry made a step, and the whole trace came
pub record IsDone (tree : Tree) (input : List ℤ) (es : List Entry) (old new : Option (List ℕ)) : Type 0 where
  pub text : List ℕ
  pub none : refused tree input es ≡ None
  pub trace : IsTrace tree input es text
  pub gained : Gained old new text

-- the first entry that makes no step is this one, and the lines of the steps before it came
pub record IsRefused (tree : Tree) (input : List ℤ) (es : List Entry) (n : ℕ) (old new : Option (List ℕ)) : Type 0 where
  pub first : refused tree input es ≡ Some n
  pub gained : Gained old new (step_lines tree 1 (seen tree input es))

-- the lines of the first steps came, up to some step, and no more
pub record IsBegun (tree : Tree) (input : List ℤ) (es : List Entry) (old new : Option (List ℕ)) : Type 0 where
  pub steps : List Seen
  pub others : List Seen
  pub front : seen tree input es ≡ steps ++ others
  pub gained : Gained old new (step_lines tree 1 steps)

-- some front of the lines of the steps that were made came
pub record IsCut (tree : Tree) (input : List ℤ) (es : List Entry) (old new : Option (List ℕ)) : Type 0 where
  pub steps : List Seen
  pub others : List Seen
  pub front : seen tree input es ≡ steps ++ others
  pub gained : GainedFront old new (step_lines tree 1 steps)

-- each entry made a step, and some front of the trace came
pub record IsCutTrace (tree : Tree) (input : List ℤ) (es : List Entry) (old new : Option (List ℕ)) : Type 0 where
  pub text : List ℕ
  pub trace : IsTrace tree input es text
  pub gained : GainedFront old new text

-- the cause of each fault, and what came
abbrev pub Cause : ReplayFault → Tree → List ℤ → List Entry → (old new : Option (List ℕ)) → (before now : ℕ) → Type 0
Cause fault.NoMemory tree input es old new before now = IsBegun tree input es old new
Cause (fault.NotEnabled n) tree input es old new before now = IsRefused tree input es n old new
Cause fault.Write tree input es old new before now =
    Rose before now × (IsCut tree input es old new ⊎ IsCutTrace tree input es old new)
