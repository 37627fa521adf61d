-- What the stages of a replay, and of erasing, answer is what the command answers.
use Rattle.std.proofs.Common.{◌≡◌, ℕ, List, Option, Some, inl, inr, refl}
use Rattle.cfix_outside.specs.Shelves.{Files}
use Rattle.c_read.specs.declared.flaw.Flaw.{Flaw}
use Rattle.sched_text.specs.declared.input_reader.InputFault.{InputFault}
use Rattle.sched_text.specs.declared.input_reader.InputFault.TheVariants as input_fault
use Rattle.sched_text.specs.declared.schedule_reader.SchedFault.{SchedFault}
use Rattle.sched_text.specs.declared.schedule_reader.SchedFault.TheVariants as sched_fault
use Rattle.run_replay.specs.Replays.{IsDone}
use Rattle.cfix_core.specs.declared.failure.Refusal.{Refusal}
use Rattle.cfix_core.specs.declared.failure.Refusal.TheVariants.{NotEnabled, Source}
use Rattle.cfix_core.specs.declared.failure.Failure.{Failure}
use Rattle.cfix_core.specs.declared.failure.Failure.TheVariants as failure
use Rattle.cfix_core.specs.declared.run_files.RunFiles.{RunFiles}
use Rattle.cfix_core.specs.declared.stop.Stop.{Stop}
use Rattle.cfix_core.specs.declared.stop.Stop.TheVariants.{NoMemory, CannotRead, TooLong, CannotWrite, Refused}
use Rattle.cfix_core.specs.Words.{Asked, replay}
use Rattle.cfix_core.specs.NamedFiles.{Contents, Holds}
use Rattle.cfix_core.specs.Failures.{FailsBy}
use Rattle.cfix_core.specs.Replay.{IsRun, RefusesRun, RefusesTexts, input_refusal, sched_refusal}
use Rattle.cfix_core.specs.Stops.{stop_of}
use Rattle.cfix_core.specs.Answers.{Cause}
use Rattle.cfix_core.specs.Stages.{AreRead, IsPutRun, RunLeft, RunStops, EntryStops, EntriesStop}

-- what the three files are read as
abbrev pub run_of : (contents : Contents) (files : RunFiles) → AreRead contents files → IsRun contents
run_of contents files h = record {
  source = files.source;
  reads = h.reads;
  values = files.values.items;
  is_input = h.is_input;
  entries = files.entries;
  is_schedule = h.is_schedule;
}

-- ---- the texts of the files

no_input_entry : (fault : InputFault) (n : ℕ) → input_refusal fault ≡ Some (NotEnabled n) → ⊥
no_input_entry input_fault.NoMemory n e = cc
no_input_entry (input_fault.BadNumber start) n e = cc

no_sched_entry : (fault : SchedFault) (n : ℕ) → sched_refusal fault ≡ Some (NotEnabled n) → ⊥
no_sched_entry sched_fault.NoMemory n e = cc
no_sched_entry (sched_fault.BadLine number) n e = cc
no_sched_entry sched_fault.TooMany n e = cc

no_source_entry : (flaw : Flaw) (n : ℕ) → NotEnabled n ≡ Source flaw → ⊥
no_source_entry flaw n e = cc

-- no text is refused for an entry
texts_entry : (contents : Contents) (n : ℕ) → RefusesTexts (NotEnabled n) contents → ⊥
texts_entry contents n (inl p) = no_source_entry p.flaw n p.is_refusal
texts_entry contents n (inr (inl p)) = no_input_entry p.bad.fault n p.bad.is_refusal
texts_entry contents n (inr (inr p)) = no_sched_entry p.bad.fault n p.bad.is_refusal

module _ (contents : Contents) (old : Option (List ℕ)) (put : ℕ) where
  texts_left : (refusal : Refusal) → RefusesTexts refusal contents → RunLeft refusal contents old old put put
  texts_left (NotEnabled n) h = absurd (texts_entry contents n h)
  texts_left _ h = (refl, refl)

  -- a replay is stopped before its first entry
  pub texts_stop : (failure : Failure) → FailsBy (λ refusal. RefusesTexts refusal contents) failure
      → RunStops (stop_of failure) contents old old put put
  texts_stop failure.NoMemory h = inl refl
  texts_stop (failure.Refused refusal) h = (inl h, texts_left refusal h)

-- ---- the entries

module _ (contents : Contents) (run : IsRun contents) (old new : Option (List ℕ)) where
  pub entries_done : IsDone run.source.tree run.values run.entries old new → IsPutRun contents old new
  entries_done h = record {
    text = h.text;
    replayed = record { is_run = run; none = h.none; trace = h.trace };
    gained = h.gained;
  }

  module _ (put puts : ℕ) where
    entry_stops : (refusal : Refusal) → EntryStops refusal run.source.tree run.values run.entries old new
        → RefusesRun refusal contents × RunLeft refusal contents old new put puts
    entry_stops (NotEnabled number) h =
        (inr (record { is_run = run; number = number; is_refusal = refl; first = h.first }), record { is_run = run; stands = h })
    entry_stops _ h = absurd h

    short_stops : EntriesStop NoMemory run.source.tree run.values run.entries old new put puts → RunStops NoMemory contents old new put puts
    short_stops (inl h) = inl h
    short_stops (inr h) = inr (record { is_run = run; begun = h })

    pub entries_stop : (stop : Stop) → EntriesStop stop run.source.tree run.values run.entries old new put puts
        → RunStops stop contents old new put puts
    entries_stop NoMemory h = short_stops h
    entries_stop (CannotRead file) h = absurd h
    entries_stop (TooLong file) h = absurd h
    entries_stop CannotWrite h = (record { is_run = run; cut = h.1 }, h.0)
    entries_stop (Refused refusal) h = entry_stops refusal h

-- ---- the files

-- a replay is stopped for this
pub run_cause : (files : Option Files) (contents : Contents) (before now : List ℕ → ℕ) (old new : Option (List ℕ)) (put puts : ℕ)
    (source input schedule : List ℕ) (stop : Stop) → Holds files (replay source input schedule) contents
    → RunStops stop contents old new put puts → Cause stop (replay source input schedule) files before now old new put puts
run_cause files contents before now old new put puts source input schedule NoMemory holds h = tt
run_cause files contents before now old new put puts source input schedule (CannotRead file) holds h = absurd h
run_cause files contents before now old new put puts source input schedule (TooLong file) holds h = absurd h
run_cause files contents before now old new put puts source input schedule CannotWrite holds h =
    (record { contents = contents; holds = holds; cut = h.0 }, h.1)
run_cause files contents before now old new put puts source input schedule (Refused refusal) holds h =
    record { contents = contents; holds = holds; refused = h.0 }
