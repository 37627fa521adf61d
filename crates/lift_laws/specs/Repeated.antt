-- A source run that the patched program repeats.
use Rattle.std.specs.Prelude.{◌≡◌, ◌<◌, ◌≤◌, ℕ, ℤ, Bool, true, List, Some, slice_index}
use Rattle.cfix_base.specs.declared.entry.Entry.{Entry}
use Rattle.cfix_base.specs.declared.op.Op.{Op}
use Rattle.cfix_base.specs.declared.place.Place.{Place}
use Rattle.cfix_base.specs.declared.place.Place.TheVariants.{Start}
use Rattle.step_state.specs.declared.state.Configuration.{Configuration}
use Rattle.step_state.specs.Code.{Code, fn_id}
use Rattle.cfix_base.specs.declared.mark.Marks.{Marks}
use Rattle.step_state.specs.Erase.{strip_code, strip_configuration, erased}
use Rattle.step_state.specs.Run.{Seen, run}
use Rattle.step_state.specs.Start.{start, initial_tokens}
use Rattle.erase_laws.specs.Marked.{IsMarked}
use Rattle.layout_laws.specs.Layout.{Layout, IsLaidOut}
use Rattle.lock_laws.specs.Guard.{Carries}
use Rattle.lift_laws.specs.Lift.{Placed, lifted}
use Rattle.lift_laws.specs.LiftRun.{NoneLate}
use Rattle.lift_laws.specs.Sorted.{Sorted}
use Rattle.order_laws.specs.Tokens.{Signals, CreatesOnce, owes, before_set}

-- the lifted schedule is a run in which no new operation times out, it erases to the schedule, and its last configuration is the
-- source's but for what is new
pub record Repeated (m : Marks) (q : Code) (posts pres : Place → List Op) (input : List ℤ) (es : List Entry) (last : Configuration) : Type 0 where
  pub steps : List Seen
  pub end : Configuration
  pub ran : run q input (lifted (strip_code m q) posts pres (start (strip_code m q) input) es) ≡ Some (steps, end)
  pub timely : NoneLate m steps
  pub erases : erased m q input (lifted (strip_code m q) posts pres (start (strip_code m q) input) es) ≡ es
  pub same : strip_configuration m end ≡ last

-- what is asked of a patched program: new lock k stands on the edges into and out of kept k, which lies in K k; the operations of
-- new order j follow the nodes al j, bs j and those that may come to al j
pub record IsPatched (m : Marks) (q : Code) (y : Layout) (posts pres : Place → List Op) (kept K : ℕ → ℕ → Bool) (al bs : ℕ → ℕ) (comes : ℕ → ℕ → Bool) (root : ℕ → Bool) : Type 0 where
  pub marked : IsMarked m q
  pub laid : IsLaidOut q y
  pub placed : Placed m q posts pres
  pub sorted : Sorted m q bs posts pres
  pub inside : (k n : ℕ) → kept k n ≡ true → K k n ≡ true
  pub carries : (k : ℕ) → m.lock ≤ k → k < q.locks → Carries q y (kept k) k
  pub signals : (j : ℕ) → m.order ≤ j → j < q.orders → Signals q y j (al j) (bs j) (comes j) root
  pub once : (j : ℕ) → m.order ≤ j → j < q.orders → CreatesOnce q y (comes j)
  pub begins : (j : ℕ) → m.order ≤ j → j < q.orders → slice_index (initial_tokens q.orders q.starts) j ≡ before_set q (owes (comes j) root) (Start (fn_id q.main))

-- no order is ready by a visit that has passed
abbrev pub none_passed : List Seen → ℕ → Type 0
none_passed past j = ⊥
