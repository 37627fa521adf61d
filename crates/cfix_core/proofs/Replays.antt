-- The files of a run are refused for one reason, and where each entry makes a step they are not refused.
use Rattle.std.proofs.Common.{◌≡◌, ◌⊎◌, inl, inr, ℕ, ℤ, List, Option, Some, None, Result, Ok, Err, subst, ap, sym, ◌∙◌, refl}
use Rattle.cfix_base.specs.declared.entry.Entry.{Entry}
use Rattle.cfix_base.specs.declared.mark.Marks.{Marks}
use Rattle.c_prog.specs.Lines.{SourceTree}
use Rattle.c_read.proofs.Once.{one_reading}
use Rattle.sched_text.specs.Inputs.{SpellsInput, ExplainsInputFault}
use Rattle.sched_text.specs.Schedules.{SpellsSchedule, ExplainsSchedFault}
use Rattle.sched_text.specs.declared.input_reader.InputFault.{InputFault}
use Rattle.sched_text.specs.declared.input_reader.InputFault.TheVariants as input_fault
use Rattle.sched_text.specs.declared.schedule_reader.SchedFault.{SchedFault}
use Rattle.sched_text.specs.declared.schedule_reader.SchedFault.TheVariants as sched_fault
use Rattle.sched_text.proofs.Inputs as inputs
use Rattle.sched_text.proofs.Schedules as schedules
use Rattle.run_replay.specs.Trace.{refused}
use Rattle.cfix_core.specs.declared.failure.Refusal.{Refusal}
use Rattle.cfix_core.specs.declared.failure.Refusal.TheVariants.{NotEnabled}
use Rattle.cfix_core.specs.NamedFiles.{Contents}
use Rattle.cfix_core.specs.Replay.{IsRun, GoesOn, IsReplayed, IsErasedText, input_refusal, sched_refusal, IsBadInput, IsBadSchedule, RefusesTexts, RefusesEntry, RefusesRun}
use Rattle.cfix_core.proofs.Repair.{refused_reads, one_refused_source}

none_some : {X : Type 0} (o : Option X) (x : X) → o ≡ None → o ≡ Some x → ⊥
none_some o x e f = cc

same_some : {X : Type 0} (o : Option X) (x y : X) → o ≡ Some x → o ≡ Some y → x ≡ y
same_some o x y e f = cc

-- ---- the input

module _ (text : List ℕ) where
  abbrev bad_input : InputFault → Result (List ℤ) InputFault
  bad_input fault = Err fault

  unreal_input : (fault : InputFault) (a : Refusal) → input_refusal fault ≡ Some a → fault ≡ input_fault.NoMemory → ⊥
  unreal_input fault a is e = none_some (input_refusal fault) a (ap input_refusal e) is

  bad_input_spells : (a : Refusal) (values : List ℤ) → IsBadInput a text → SpellsInput text values → ⊥
  bad_input_spells a values p spells =
      unreal_input p.fault a p.is_refusal (inputs.reads (λ (v : List ℤ). v) text (bad_input p.fault) tt p.explained values spells)

  same_values : (a b : List ℤ) → SpellsInput text a → SpellsInput text b → a ≡ b
  same_values a b p q = inputs.reads (λ (v : List ℤ). v) text (Ok a) p tt b q

  picked_input : (f g : InputFault) (a : Refusal) → input_refusal f ≡ Some a
      → (bad_input f ≡ bad_input g) ⊎ (bad_input f ≡ bad_input input_fault.NoMemory) → f ≡ g
  picked_input f g a is (inl e) = cc
  picked_input f g a is (inr e) = absurd (unreal_input f a is (let same : f ≡ input_fault.NoMemory = cc in same))

  input_once : (f g : InputFault) (a b : Refusal) → input_refusal f ≡ Some a → input_refusal g ≡ Some b
      → ExplainsInputFault text f → ExplainsInputFault text g → f ≡ g
  input_once f input_fault.NoMemory a b is also p q = absurd (unreal_input input_fault.NoMemory b also refl)
  input_once f (input_fault.BadNumber start) a b is also p q =
      picked_input f (input_fault.BadNumber start) a is (inputs.bad_number (λ (v : List ℤ). v) text (bad_input f) tt p start q)

  one_bad_input : (a b : Refusal) → IsBadInput a text → IsBadInput b text → b ≡ a
  one_bad_input a b p q =
      same_some (input_refusal q.fault) b a q.is_refusal
      (sym (ap input_refusal (input_once p.fault q.fault a b p.is_refusal q.is_refusal p.explained q.explained)) ∙ p.is_refusal)

-- ---- the schedule

module _ (text : List ℕ) where
  abbrev bad_schedule : SchedFault → Result (List Entry) SchedFault
  bad_schedule fault = Err fault

  abbrev good_schedule : List Entry → Result (List Entry) SchedFault
  good_schedule entries = Ok entries

  unreal_schedule : (fault : SchedFault) (a : Refusal) → sched_refusal fault ≡ Some a → fault ≡ sched_fault.NoMemory → ⊥
  unreal_schedule fault a is e = none_some (sched_refusal fault) a (ap sched_refusal e) is

  schedule_or : (f : SchedFault) (a : Refusal) (entries : List Entry) → sched_refusal f ≡ Some a
      → (bad_schedule f ≡ good_schedule entries) ⊎ (bad_schedule f ≡ bad_schedule sched_fault.NoMemory) → ⊥
  schedule_or f a entries is (inl e) = cc
  schedule_or f a entries is (inr e) = unreal_schedule f a is (let same : f ≡ sched_fault.NoMemory = cc in same)

  bad_schedule_spells : (a : Refusal) (entries : List Entry) → IsBadSchedule a text → SpellsSchedule text entries → ⊥
  bad_schedule_spells a entries p spells =
      schedule_or p.fault a entries p.is_refusal (schedules.reads text (bad_schedule p.fault) tt p.explained entries spells)

  entries_or : (a b : List Entry) → (good_schedule a ≡ good_schedule b) ⊎ (good_schedule a ≡ bad_schedule sched_fault.NoMemory) → a ≡ b
  entries_or a b (inl e) = cc
  entries_or a b (inr e) = cc

  same_entries : (a b : List Entry) → SpellsSchedule text a → SpellsSchedule text b → a ≡ b
  same_entries a b p q = entries_or a b (schedules.reads text (good_schedule a) p tt b q)

  picked_schedule : (f g : SchedFault) (a : Refusal) → sched_refusal f ≡ Some a
      → (bad_schedule f ≡ bad_schedule g) ⊎ (bad_schedule f ≡ bad_schedule sched_fault.NoMemory) → f ≡ g
  picked_schedule f g a is (inl e) = cc
  picked_schedule f g a is (inr e) = absurd (unreal_schedule f a is (let same : f ≡ sched_fault.NoMemory = cc in same))

  schedule_once : (f g : SchedFault) (a b : Refusal) → sched_refusal f ≡ Some a → sched_refusal g ≡ Some b
      → ExplainsSchedFault text f → ExplainsSchedFault text g → f ≡ g
  schedule_once f sched_fault.NoMemory a b is also p q = absurd (unreal_schedule sched_fault.NoMemory b also refl)
  schedule_once f (sched_fault.BadLine number) a b is also p q =
      picked_schedule f (sched_fault.BadLine number) a is (schedules.bad_line text (bad_schedule f) tt p number q)
  schedule_once f sched_fault.TooMany a b is also p q =
      picked_schedule f sched_fault.TooMany a is (schedules.too_many text (bad_schedule f) tt p q)

  one_bad_schedule : (a b : Refusal) → IsBadSchedule a text → IsBadSchedule b text → b ≡ a
  one_bad_schedule a b p q =
      same_some (sched_refusal q.fault) b a q.is_refusal
      (sym (ap sched_refusal (schedule_once p.fault q.fault a b p.is_refusal q.is_refusal p.explained q.explained)) ∙ p.is_refusal)

-- ---- the three files

module _ (contents : Contents) where
  abbrev stopped : IsRun contents → Option ℕ
  stopped run = refused run.source.tree run.values run.entries

  same_stop : (p q : IsRun contents) → stopped p ≡ stopped q
  same_stop p q =
      ap (λ (s : SourceTree). refused s.tree p.values p.entries) (one_reading contents.program p.source q.source p.reads q.reads)
      ∙ ap (λ v. refused q.source.tree v p.entries) (same_values contents.input p.values q.values p.is_input q.is_input)
      ∙ ap (refused q.source.tree q.values) (same_entries contents.schedule p.entries q.entries p.is_schedule q.is_schedule)

  pub texts_run : (a : Refusal) → RefusesTexts a contents → IsRun contents → ⊥
  texts_run a (inl p) run = refused_reads a contents.program run.source p run.reads
  texts_run a (inr (inl p)) run = bad_input_spells contents.input a run.values p.bad run.is_input
  texts_run a (inr (inr p)) run = bad_schedule_spells contents.schedule a run.entries p.bad run.is_schedule

  texts_once : (a b : Refusal) → RefusesTexts a contents → RefusesTexts b contents → b ≡ a
  texts_once a b (inl p) (inl q) = one_refused_source a b contents.program p q
  texts_once a b (inl p) (inr (inl q)) = absurd (refused_reads a contents.program q.source p q.reads)
  texts_once a b (inl p) (inr (inr q)) = absurd (refused_reads a contents.program q.source p q.reads)
  texts_once a b (inr (inl p)) (inl q) = absurd (refused_reads b contents.program p.source q p.reads)
  texts_once a b (inr (inr p)) (inl q) = absurd (refused_reads b contents.program p.source q p.reads)
  texts_once a b (inr (inl p)) (inr (inl q)) = one_bad_input contents.input a b p.bad q.bad
  texts_once a b (inr (inl p)) (inr (inr q)) = absurd (bad_input_spells contents.input a q.values p.bad q.is_input)
  texts_once a b (inr (inr p)) (inr (inl q)) = absurd (bad_input_spells contents.input b p.values q.bad p.is_input)
  texts_once a b (inr (inr p)) (inr (inr q)) = one_bad_schedule contents.schedule a b p.bad q.bad

  entry_once : (a b : Refusal) → RefusesEntry a contents → RefusesEntry b contents → b ≡ a
  entry_once a b p q =
      q.is_refusal
      ∙ ap NotEnabled (same_some (stopped q.is_run) q.number p.number q.first (sym (same_stop p.is_run q.is_run) ∙ p.first))
      ∙ sym p.is_refusal

  pub one_refused_run : (a b : Refusal) → RefusesRun a contents → RefusesRun b contents → b ≡ a
  one_refused_run a b (inl p) (inl q) = texts_once a b p q
  one_refused_run a b (inl p) (inr q) = absurd (texts_run a p q.is_run)
  one_refused_run a b (inr p) (inl q) = absurd (texts_run b q p.is_run)
  one_refused_run a b (inr p) (inr q) = entry_once a b p q

  -- where each entry makes a step, nothing is refused
  pub run_goes_on : (a : Refusal) (run : IsRun contents) → stopped run ≡ None → RefusesRun a contents → ⊥
  run_goes_on a run none (inl p) = texts_run a p run
  run_goes_on a run none (inr p) = none_some (stopped run) p.number none (same_stop run p.is_run ∙ p.first)

pub not_replayed : (a : Refusal) (contents : Contents) (text : List ℕ) → IsReplayed contents text → RefusesRun a contents → ⊥
not_replayed a contents text p q = run_goes_on contents a p.is_run p.none q

pub not_erased : (a : Refusal) (m : Marks) (contents : Contents) (text : List ℕ) → IsErasedText m contents text → RefusesRun a contents → ⊥
not_erased a m contents text p q = run_goes_on contents a p.is_run p.none q

pub not_refused_run : (a : Refusal) (contents : Contents) → GoesOn contents → RefusesRun a contents → ⊥
not_refused_run a contents p q = run_goes_on contents a p.is_run p.none q
