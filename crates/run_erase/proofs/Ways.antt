-- Erasing step by step.
use Rattle.std.proofs.Common.{◌≡◌, ℕ, ℤ, ◌+◌, ◌<◌, ◌≤◌, Bool, true, false, List, [], ◌∷◌, ◌++◌, drop, length, Some, None, refl, ap, sym, ◌∙◌, append_assoc, arith}
use Rattle.std.proofs.lemmas.List.{append-nil, length-append}
use Rattle.cfix_base.specs.declared.entry.Entry.{Entry}
use Rattle.cfix_base.specs.declared.mark.Marks.{Marks}
use Rattle.c_prog.specs.declared.tree.Tree.{Tree}
use Rattle.step_state.specs.declared.state.Counted.{Counted}
use Rattle.step_state.specs.Code.{Code}
use Rattle.step_state.specs.Erase.{erased, erased_from, is_inserted, kept, kept_if}
use Rattle.step_state.specs.Start.{start}
use Rattle.step_state.specs.Step.{step}
use Rattle.step_tables.specs.TreeCode.{tree_code}
use Rattle.run_replay.specs.Trace.{refused, refused_from, refused_on}
use Rattle.sched_text.specs.declared.check_fault.CheckFault.{CheckFault}
use Rattle.sched_text.specs.declared.check_fault.CheckFault.TheVariants as fault
use Rattle.run_erase.specs.Erases.{Cause, IsErased}
use Rattle.run_erase.specs.Steps.{IsKept, IsUnderWay, NoStep}

-- what is kept of an entry stands before what is kept of the rest
kept_before : (old rest : List Entry) (new : Bool) (e : Entry) → old ++ kept_if new e rest ≡ (old ++ kept_if new e []) ++ rest
kept_before old rest true e = ap (λ l. l ++ rest) (sym (append-nil old))
kept_before old rest false e = sym (append_assoc old (e ∷ []) rest)

-- at most one entry more is kept
kept_more : (old : List Entry) (new : Bool) (e : Entry) → length (old ++ kept_if new e []) ≤ length old + 1
kept_more old true e = omega (arith, length-append old [])
kept_more old false e = omega (arith, length-append old (e ∷ []))

module _ (m : Marks) (tree : Tree) (input : List ℤ) (es : List Entry) where
  abbrev c : Code
  c = tree_code tree

  -- before the first entry
  pub way_begins : (s : Counted) → s ≡ record { configuration = start c input; steps = 0 } → IsUnderWay m tree input es 0 s []
  way_begins s is = record {
    counted = ap (λ x. x.steps) is;
    first = ap (λ x. refused_from c x.configuration 1 es) (sym is);
    rest = ap (λ x. erased_from m c x.configuration es) (sym is);
    few = omega arith;
  }

  module _ (i : ℕ) (s : Counted) (old : List Entry) (way : IsUnderWay m tree input es i s old) where
    module _ (e : Entry) (split : drop i es ≡ e ∷ drop (i + 1) es) where
      abbrev left : List Entry
      left = drop (i + 1) es

      -- an entry whose step was made
      pub way_goes : (t : Counted) (new : List Entry) → IsKept m c s e t old new → IsUnderWay m tree input es (i + 1) t new
      way_goes t new h = record {
        counted = omega (arith, h.counted, way.counted);
        first = way.first ∙ ap (refused_from c s.configuration (i + 1)) split
            ∙ ap (λ x. refused_on (i + 1) x (λ k. refused_from c k (i + 1 + 1) left)) h.goes;
        rest = way.rest ∙ ap (λ l. old ++ erased_from m c s.configuration l) split
            ∙ ap (λ x. old ++ kept m e x (λ k. erased_from m c k left)) h.goes
            ∙ kept_before old (erased_from m c t.configuration left) (is_inserted m h.event) e
            ∙ ap (λ l. l ++ erased_from m c t.configuration left) (sym h.is_kept);
        few = omega (arith, way.few, kept_more old (is_inserted m h.event) e, ap length h.is_kept);
      }

      -- an entry whose step was not made
      pub way_stops : (f : CheckFault) → NoStep f c s e → Cause f tree input es
      way_stops fault.NoMemory h = tt
      way_stops (fault.NotEnabled n) h =
          let number : i + 1 ≡ n = omega (arith, h.0, way.counted) in
          way.first ∙ ap (refused_from c s.configuration (i + 1)) split
          ∙ ap (λ x. refused_on (i + 1) x (λ k. refused_from c k (i + 1 + 1) left)) h.1 ∙ ap Some number

    -- behind the last entry
    pub way_done : drop i es ≡ [] → IsErased m tree input es old
    way_done all = record {
      none = way.first ∙ ap (refused_from c s.configuration (i + 1)) all;
      is_kept = sym (way.rest ∙ ap (λ l. old ++ erased_from m c s.configuration l) all ∙ append-nil old);
    }
