-- Where no entry makes a step.
use Rattle.std.proofs.Common.{◌≡◌, ℕ, suc, ◌+◌, ◌||◌, Bool, true, false, is_some, length, slice_get, Some, None, inl, inr, refl, ap, sym, subst, arith}
use Rattle.std.proofs.lemmas.Bool.Decides.{leb_tells}
use Rattle.std.proofs.lemmas.Option.{slice_get_past}
use Rattle.cfix_base.specs.declared.entry.Entry.{Entry}
use Rattle.step_state.specs.declared.event.Ending.{Ending}
use Rattle.step_state.specs.declared.event.Ending.TheVariants.{Running, End, Trap}
use Rattle.step_state.specs.declared.state.Configuration.{Configuration}
use Rattle.step_state.specs.Code.{Code}
use Rattle.step_state.specs.Changes.{Made}
use Rattle.step_state.specs.Step.{step, thread_step, unended_step}
use Rattle.step_machine.specs.Answers.{is_running}
use Rattle.run_replay.specs.Steps.{NoneBelow}
use Rattle.run_replay.specs.Trace.{IsStuck}

none-ended : (c : Code) (s : Configuration) (t : ℕ) (late : Bool) (x : Ending) → is_running x ≡ false → unended_step c s t late x ≡ None
none-ended c s t late Running e = absurd (cc e)
none-ended c s t late End e = refl
none-ended c s t late (Trap x) e = refl

pub ended_none : (c : Code) (s : Configuration) (e : Entry) → is_running s.ending ≡ false → step c s e ≡ None
ended_none c s e over = none-ended c s e.thread e.timeout s.ending over

none-absent : (c : Code) (s : Configuration) (t : ℕ) (late : Bool) (x : Ending) → slice_get s.threads t ≡ None → unended_step c s t late x ≡ None
none-absent c s t late Running none = ap (thread_step c s t late) none
none-absent c s t late End none = refl
none-absent c s t late (Trap x) none = refl

-- no thread makes a step where none of those that there are does
pub none_stuck : (c : Code) (s : Configuration) → NoneBelow c s (length s.threads) → IsStuck c s
none_stuck c s none e = elim (leb_tells (suc e.thread) (length s.threads)) [
  | inl below ↦ none e.thread (omega (arith, below.1)) e.timeout
  | inr past ↦ none-absent c s e.thread e.timeout s.ending (slice_get_past s.threads e.thread (omega (arith, past.1)))
]

-- whether a thread makes a step in one of the two modes
abbrev pub either : Code → Configuration → ℕ → Bool
either c s t = is_some (step c s (record { thread = t; timeout = false })) || is_some (step c s (record { thread = t; timeout = true }))

pub goes_not_stuck : (c : Code) (s : Configuration) (t : ℕ)
    → is_some (step c s (record { thread = t; timeout = false })) || is_some (step c s (record { thread = t; timeout = true })) ≡ true → IsStuck c s → ⊥
goes_not_stuck c s t goes stuck =
    let first : is_some (step c s (record { thread = t; timeout = false })) ≡ false = ap is_some (stuck (record { thread = t; timeout = false })) in
    let second : is_some (step c s (record { thread = t; timeout = true })) ≡ false = ap is_some (stuck (record { thread = t; timeout = true })) in
    cc

none-of : (m : Made) → is_some m ≡ false → m ≡ None
none-of None e = refl
none-of (Some x) e = absurd (cc e)

or-false : (a b : Bool) → a || b ≡ false → (a ≡ false) × (b ≡ false)
or-false true b e = absurd (cc e)
or-false false b e = (refl, e)

in-mode : (c : Code) (s : Configuration) (t : ℕ) (late : Bool) → is_some (step c s (record { thread = t; timeout = false })) ≡ false
    → is_some (step c s (record { thread = t; timeout = true })) ≡ false → step c s (record { thread = t; timeout = late }) ≡ None
in-mode c s t false first second = none-of (step c s (record { thread = t; timeout = false })) first
in-mode c s t true first second = none-of (step c s (record { thread = t; timeout = true })) second

-- one thread more makes no step
pub none_more : (c : Code) (s : Configuration) (t : ℕ) → NoneBelow c s t
    → is_some (step c s (record { thread = t; timeout = false })) || is_some (step c s (record { thread = t; timeout = true })) ≡ false → NoneBelow c s (t + 1)
none_more c s t none neither u below late = elim (leb_tells (suc u) t) [
  | inl earlier ↦ none u (omega (arith, earlier.1)) late
  | inr same ↦
      let both = or-false (is_some (step c s (record { thread = t; timeout = false }))) (is_some (step c s (record { thread = t; timeout = true }))) neither in
      let is : u ≡ t = omega (arith, same.1, below) in
      subst (λ n. step c s (record { thread = n; timeout = late }) ≡ None) (sym is) (in-mode c s t late both.0 both.1)
]
