-- What the stages of erasing answer is what the command answers.
use Rattle.std.proofs.Common.{◌≡◌, ◌≤◌, ℕ, ℤ, List, length, inr, refl, ap, sym, subst, ◌∙◌, arith}
use Rattle.cfix_base.specs.declared.entry.Entry.{Entry}
use Rattle.cfix_base.specs.declared.limits.TheConstants.{MAX_SCHEDULE_ENTRIES}
use Rattle.cfix_base.specs.declared.mark.Marks.{Marks}
use Rattle.c_prog.specs.declared.tree.Tree.{Tree}
use Rattle.sched_text.specs.Schedules.{SpellsSchedule, written}
use Rattle.cfix_core.specs.declared.failure.Failure.{Failure}
use Rattle.cfix_core.specs.declared.failure.Failure.TheVariants as failure
use Rattle.cfix_core.specs.declared.failure.Refusal.{Refusal}
use Rattle.cfix_core.specs.declared.failure.Refusal.TheVariants.{NotEnabled}
use Rattle.cfix_core.specs.declared.run_files.RunFiles.{RunFiles}
use Rattle.cfix_core.specs.Failures.{FailsBy}
use Rattle.cfix_core.specs.NamedFiles.{Contents}
use Rattle.cfix_core.specs.Replay.{IsErasedText, RefusesRun}
use Rattle.cfix_core.specs.Stages.{AreRead, ErasesTo, EraseFails}
use Rattle.cfix_core.proofs.Stages.{run_of}

module _ (contents : Contents) (files : RunFiles) (read : AreRead contents files) (tree : Tree) (input : List ℤ)
    (same : tree ≡ files.source.tree) (values : input ≡ files.values.items) where
  -- the schedule that is kept, as a text
  pub erased_whole : (m : Marks) (kept : List Entry) (text : List ℕ) → ErasesTo m tree input files.entries kept
      → text ≡ written kept → (length kept ≤ MAX_SCHEDULE_ENTRIES → SpellsSchedule text kept) → IsErasedText m contents text
  erased_whole m kept text erases is again =
      let here : ErasesTo m files.source.tree files.values.items files.entries kept =
      subst (λ t. ErasesTo m t files.values.items files.entries kept) same (subst (λ v. ErasesTo m tree v files.entries kept) values erases) in
      record {
        is_run = run_of contents files read;
        none = here.erases.none;
        is_text = is ∙ ap written here.erases.is_kept;
        again = subst (SpellsSchedule text) here.erases.is_kept (again (omega (arith, here.shorter, read.is_schedule.few)));
      }

  fails_here : (refusal : Refusal) → EraseFails refusal files.source.tree files.values.items files.entries → RefusesRun refusal contents
  fails_here (NotEnabled number) h = inr (record { is_run = run_of contents files read; number = number; is_refusal = refl; first = h })
  fails_here _ h = absurd h

  -- the entry that makes no step
  erase_refused : (refusal : Refusal) → EraseFails refusal tree input files.entries → RefusesRun refusal contents
  erase_refused refusal h =
      fails_here refusal (subst (λ t. EraseFails refusal t files.values.items files.entries) same
      (subst (λ v. EraseFails refusal tree v files.entries) values h))

  pub erase_fails : (failure : Failure) → FailsBy (λ refusal. EraseFails refusal tree input files.entries) failure
      → FailsBy (λ refusal. RefusesRun refusal contents) failure
  erase_fails failure.NoMemory h = tt
  erase_fails (failure.Refused refusal) h = erase_refused refusal h
