-- Runs as lists of steps.
use Rattle.std.proofs.Common.{◌≡◌, Bool, true, false, List, [], ◌∷◌, ◌++◌, refl, ap, ◌∙◌}
use Rattle.step_state.specs.declared.state.Configuration.{Configuration}
use Rattle.step_state.specs.Code.{Code}
use Rattle.cfix_base.specs.declared.mark.Marks.{Marks}
use Rattle.step_state.specs.Erase.{is_inserted, kept_if, kept, erased_from}
use Rattle.step_state.specs.Run.{Seen}
use Rattle.frame_laws.specs.Trail.{Trail, entries}
use Rattle.lift_laws.specs.LiftRun.{old_entries, NoneLate}

-- a trail erases to the entries that are not of new operations
pub trail_erased : (m : Marks) (c : Code) (ks : List Seen) (s last : Configuration) → Trail c s ks last → erased_from m c s (entries ks) ≡ old_entries m ks
trail_erased m c [] s last t = refl
trail_erased m c (k ∷ ks) s last t =
    ap (λ o. kept m k.entry o (λ next. erased_from m c next (entries ks))) t.goes
    ∙ ap (kept_if (is_inserted m k.event) k.entry) (trail_erased m c ks t.next last t.rest)

pub old_append : (m : Marks) (a b : List Seen) → old_entries m (a ++ b) ≡ old_entries m a ++ old_entries m b
old_append m [] b = refl
old_append m (k ∷ a) b = by_bool (is_inserted m k.event) (old_append m a b)
  where
    by_bool : (i : Bool) → old_entries m (a ++ b) ≡ old_entries m a ++ old_entries m b
        → kept_if i k.entry (old_entries m (a ++ b)) ≡ kept_if i k.entry (old_entries m a) ++ old_entries m b
    by_bool true h = h
    by_bool false h = ap (λ es. k.entry ∷ es) h

pub late_append : (m : Marks) (a b : List Seen) → NoneLate m a → NoneLate m b → NoneLate m (a ++ b)
late_append m [] b h g = g
late_append m (k ∷ a) b h g = (h.0, late_append m a b h.1 g)
