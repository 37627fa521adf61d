-- One thread at a time is inside a class, in runs of programs.
use Rattle.std.proofs.Common.{◌≡◌, inl, inr, ◌<◌, ℕ, ℤ, Bool, List, [], ◌∷◌, Some, None, Option, subst}
use Rattle.cfix_base.specs.declared.entry.Entry.{Entry}
use Rattle.cfix_base.specs.declared.number.NodeId.{NodeId}
use Rattle.c_prog.specs.declared.tree.Tree.{Tree}
use Rattle.step_state.specs.declared.event.Event.{Event}
use Rattle.step_state.specs.declared.event.Event.TheVariants as event
use Rattle.step_state.specs.declared.frame.Frame.{Frame}
use Rattle.step_state.specs.Code.{Code}
use Rattle.step_state.specs.Run.{Seen, run_from}
use Rattle.step_state.specs.Start.{start}
use Rattle.lock_laws.specs.Coverage.{Covers, kept_in}
use Rattle.lock_laws.specs.Guard.{Carries}
use Rattle.lock_laws.specs.Inside.{NoneMissed, IsAt, Inside, OneInside}
use Rattle.layout_laws.specs.Layout.{Layout}
use Rattle.step_tables.specs.TreeCode.{tree_code}
use Rattle.layout_laws.specs.TreeLayout.{layout_of}
use Rattle.frame_laws.proofs.Frames.{AllOf, KeptByRun}
use Rattle.lock_laws.proofs.Counts.{Timely, TimelyStep, Good, good_run, good_start, one_inside}
use Rattle.lock_laws.proofs.Coverage.{AtSet, SomeAt, set_holds}
use Rattle.layout_laws.proofs.TreeLaid.{laid_out}

module _ (tree : Tree) (set covered : ℕ → Bool) (k : ℕ) (carries : Carries (tree_code tree) (layout_of tree) (kept_in (layout_of tree) set covered) k)
    (covers : Covers (layout_of tree) set covered) (few : k < (tree_code tree).locks) where
  abbrev c : Code
  c = tree_code tree

  abbrev y : Layout
  y = layout_of tree

  abbrev kept : ℕ → Bool
  kept = kept_in y set covered

  timely_one : (ev : Event) → (ev ≡ event.EnterMissed (record { number = k }) → ⊥) → Timely k ev
  timely_one (event.EnterMissed j) h = λ e. h (λ i. event.EnterMissed (record { number = e i }))
  timely_one ev h = tt

  timely : (ms : List Seen) → NoneMissed k ms → AllOf (TimelyStep kept k c y carries (laid_out tree)) ms
  timely [] h = tt
  timely (m ∷ ms) h = (timely_one m.event h.0, timely ms h.1)

  at_set : (visit : Option NodeId) → IsAt set visit → AtSet c y (laid_out tree) set covered covers k visit
  at_set None h = h
  at_set (Some n) h = h

  some_at : (fs : List Frame) → Inside set fs → SomeAt c y (laid_out tree) set covered covers k fs
  some_at [] h = h
  some_at (f ∷ below) (inl h) = inl (at_set f.visit h)
  some_at (f ∷ below) (inr h) = inr (some_at below h)

  pub inside : (input : List ℤ) (es : List Entry) → OneInside tree set covered k input es
  inside input es = record {
    one = λ steps last ran none t u th other at there mine his.
        let kept_run : KeptByRun (TimelyStep kept k c y carries (laid_out tree)) (Good kept k c y carries (laid_out tree)) (run_from c (start c input) es) =
        good_run kept k c y carries (laid_out tree) few es (start c input) (good_start kept k c y carries (laid_out tree) few input) in
        let good : Good kept k c y carries (laid_out tree) last =
        subst (KeptByRun (TimelyStep kept k c y carries (laid_out tree)) (Good kept k c y carries (laid_out tree))) ran kept_run (timely steps none) in
        one_inside kept k c y carries (laid_out tree) last good t u th other at there
        (set_holds c y (laid_out tree) set covered covers k last.made t th.frames (good.shapes.at t th at) (some_at th.frames mine))
        (set_holds c y (laid_out tree) set covered covers k last.made u other.frames (good.shapes.at u other there) (some_at other.frames his));
  }
