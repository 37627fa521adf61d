-- Traces step by step.
use Rattle.std.proofs.Common.{◌≡◌, ℕ, ℤ, zero, suc, ◌+◌, ◌<◌, ◌≤◌, List, [], ◌∷◌, ◌++◌, drop, length, get_or, slice_get, Option, Some, None, inl, inr, refl, ap, sym, ◌∙◌, subst, append_assoc, arith}
use Rattle.std.proofs.lemmas.List.{append-nil, drop_more, length-append}
use Rattle.cfix_base.specs.declared.entry.Entry.{Entry}
use Rattle.cfix_outside.specs.Faults.{Rose}
use Rattle.cfix_outside.specs.Sinks.{Gained, GainedFront}
use Rattle.cfix_outside.proofs.Gains.{gained-none, gained-then, front-then, rose-later}
use Rattle.c_prog.specs.declared.tree.Tree.{Tree}
use Rattle.step_state.specs.declared.event.Event.{Event}
use Rattle.step_state.specs.declared.frame.Frame.{Frame}
use Rattle.step_state.specs.declared.state.Configuration.{Configuration}
use Rattle.step_state.specs.declared.state.Counted.{Counted}
use Rattle.step_state.specs.Code.{Code}
use Rattle.step_state.specs.Changes.{Made}
use Rattle.step_state.specs.Start.{start}
use Rattle.step_state.specs.Step.{step}
use Rattle.step_state.specs.Run.{Seen, Ran, frames_at, add_seen, go_on, run_from}
use Rattle.step_tables.specs.TreeCode.{tree_code}
use Rattle.trace_text.specs.Events.{event_line}
use Rattle.run_replay.specs.declared.fault.ReplayFault.{ReplayFault}
use Rattle.run_replay.specs.declared.fault.ReplayFault.TheVariants as fault
use Rattle.run_replay.specs.Trace.{Closes, IsTrace, last_from, last_on, refused, refused_from, refused_on, seen, seen_from, seen_on, step_lines}
use Rattle.run_replay.specs.Replays.{Cause, IsBegun, IsCut, IsCutTrace, IsDone, IsRefused}
use Rattle.run_replay.specs.Steps.{IsClosed, IsClosedInPart, IsPut, IsUnderWay, NoLine}

lines-append : (tree : Tree) (n : ℕ) (xs ys : List Seen) → step_lines tree n (xs ++ ys) ≡ step_lines tree n xs ++ step_lines tree (n + length xs) ys
lines-append tree n [] ys = let same : n ≡ n + 0 = omega arith in ap (λ m. step_lines tree m ys) same
lines-append tree n (x ∷ xs) ys =
    let line = event_line tree n x.entry.thread x.event in
    let same : n + 1 + length xs ≡ n + suc (length xs) = omega arith in
    ap (λ t. line ++ t) (lines-append tree (n + 1) xs ys ∙ ap (λ m. step_lines tree (n + 1) xs ++ step_lines tree m ys) same)
    ∙ sym (append_assoc line (step_lines tree (n + 1) xs) (step_lines tree (n + suc (length xs)) ys))

-- where no entry is refused, the entries make a run
ran-on : (e : Entry) (before : List Frame) (s : Configuration) (n : ℕ) (m : Made) (go : Configuration → Ran) (steps : Configuration → List Seen)
    (last : Configuration → Configuration) (first : Configuration → Option ℕ)
    → ((next : Configuration) → first next ≡ None → go next ≡ Some (steps next, last next))
    → refused_on n m first ≡ None → go_on e before m go ≡ Some (seen_on e before m steps, last_on s m last)
ran-on e before s n None go steps last first rest none = absurd (cc none)
ran-on e before s n (Some (next, ev)) go steps last first rest none =
    ap (add_seen (record { entry = e; before = before; event = ev })) (rest next none)

ran : (c : Code) (es : List Entry) (s : Configuration) (n : ℕ) → refused_from c s n es ≡ None → run_from c s es ≡ Some (seen_from c s es, last_from c s es)
ran c [] s n none = refl
ran c (e ∷ es) s n none =
    ran-on e (frames_at (slice_get s.threads e.thread)) s n (step c s e) (λ next. run_from c next es) (λ next. seen_from c next es)
    (λ next. last_from c next es) (λ next. refused_from c next (n + 1) es) (λ next. ran c es next (n + 1)) none

-- the entries that are left at an entry, and behind the last one
pub left_at : (list es : List Entry) (i : ℕ) (default : Entry) → list ≡ es → i < length list → drop i es ≡ get_or list i default ∷ drop (i + 1) es
left_at list es i default same within =
    ap (drop i) (sym same) ∙ drop_more list i default within ∙ ap (λ l. get_or list i default ∷ drop (i + 1) l) same

all_dropped : (list : List Entry) (i : ℕ) → length list ≤ i → drop i list ≡ []
all_dropped [] zero past = refl
all_dropped [] (suc i) past = refl
all_dropped (x ∷ list) zero past = absurd (omega (arith, past))
all_dropped (x ∷ list) (suc i) past = all_dropped list i (omega (arith, past))

pub left_none : (list es : List Entry) (i : ℕ) → list ≡ es → length list ≤ i → drop i es ≡ []
left_none list es i same past = ap (drop i) (sym same) ∙ all_dropped list i past

module _ (tree : Tree) (input : List ℤ) (es : List Entry) where
  abbrev c : Code
  c = tree_code tree

  -- before the first entry
  pub way_begins : (s : Counted) (a : Option (List ℕ)) → s ≡ record { configuration = start c input; steps = 0 } → IsUnderWay tree input es 0 s a a
  way_begins s a is = subst (λ x. IsUnderWay tree input es 0 x a a) (sym is) (record {
    steps = [];
    front = refl;
    count = refl;
    counted = refl;
    first = refl;
    last = refl;
    gained = gained-none a;
  })

  module _ (i : ℕ) (s : Counted) (old new : Option (List ℕ)) (way : IsUnderWay tree input es i s old new) where
    -- so far
    pub way_begun : (now : Option (List ℕ)) → now ≡ new → IsBegun tree input es old now
    way_begun now same = record {
      steps = way.steps;
      others = seen_from c s.configuration (drop i es);
      front = way.front;
      gained = subst (λ x. Gained old x (step_lines tree 1 way.steps)) (sym same) way.gained;
    }

    module _ (e : Entry) (split : drop i es ≡ e ∷ drop (i + 1) es) where
      abbrev rest : List Entry
      rest = drop (i + 1) es

      abbrev before : List Frame
      before = frames_at (slice_get s.configuration.threads e.thread)

      number : 1 + length way.steps ≡ s.steps + 1
      number = omega (arith, way.count, way.counted)

      -- an entry that makes no step
      pub way_refused : (n : ℕ) (now : Option (List ℕ)) → n ≡ s.steps + 1 → step c s.configuration e ≡ None → now ≡ new → IsRefused tree input es n old now
      way_refused n now is none same =
          let all : seen tree input es ≡ way.steps =
          way.front ∙ ap (λ l. way.steps ++ seen_from c s.configuration l) split
          ∙ ap (λ m. way.steps ++ seen_on e before m (λ next. seen_from c next rest)) none ∙ append-nil way.steps in
          let count : i + 1 ≡ n = omega (arith, is, way.counted) in
          record {
            first = way.first ∙ ap (refused_from c s.configuration (i + 1)) split
                ∙ ap (λ m. refused_on (i + 1) m (λ next. refused_from c next (i + 1 + 1) rest)) none ∙ ap Some count;
            gained = subst (λ x. Gained old x (step_lines tree 1 (seen tree input es))) (sym same)
                (subst (λ steps. Gained old new (step_lines tree 1 steps)) (sym all) way.gained);
          }

      module _ (next : Configuration) (event : Event) (goes : step c s.configuration e ≡ Some (next, event)) where
        abbrev made : Seen
        made = record { entry = e; before = before; event = event }

        longer : seen tree input es ≡ (way.steps ++ made ∷ []) ++ seen_from c next rest
        longer =
            way.front ∙ ap (λ l. way.steps ++ seen_from c s.configuration l) split
            ∙ ap (λ m. way.steps ++ seen_on e before m (λ k. seen_from c k rest)) goes
            ∙ sym (append_assoc way.steps (made ∷ []) (seen_from c next rest))

        line : step_lines tree 1 (way.steps ++ made ∷ []) ≡ step_lines tree 1 way.steps ++ event_line tree (s.steps + 1) e.thread event
        line =
            lines-append tree 1 way.steps (made ∷ [])
            ∙ ap (λ t. step_lines tree 1 way.steps ++ t) (append-nil (event_line tree (1 + length way.steps) e.thread event))
            ∙ ap (λ n. step_lines tree 1 way.steps ++ event_line tree n e.thread event) number

        pub way_cut : (now : Option (List ℕ)) → GainedFront new now (event_line tree (s.steps + 1) e.thread event) → IsCut tree input es old now
        way_cut now gained = record {
          steps = way.steps ++ made ∷ [];
          others = seen_from c next rest;
          front = longer;
          gained = subst (λ t. GainedFront old now t) (sym line)
              (front-then old new now (step_lines tree 1 way.steps) (event_line tree (s.steps + 1) e.thread event) way.gained gained);
        }

        pub way_goes : (t : Counted) (now : Option (List ℕ)) → t.configuration ≡ next → t.steps ≡ s.steps + 1
            → Gained new now (event_line tree (s.steps + 1) e.thread event) → IsUnderWay tree input es (i + 1) t old now
        way_goes t now is counted gained = record {
          steps = way.steps ++ made ∷ [];
          front = longer ∙ ap (λ k. (way.steps ++ made ∷ []) ++ seen_from c k rest) (sym is);
          count = length-append way.steps (made ∷ []) ∙ omega (arith, way.count);
          counted = omega (arith, counted, way.counted);
          first = way.first ∙ ap (refused_from c s.configuration (i + 1)) split
              ∙ ap (λ m. refused_on (i + 1) m (λ k. refused_from c k (i + 1 + 1) rest)) goes
              ∙ ap (λ k. refused_from c k (i + 1 + 1) rest) (sym is);
          last = way.last ∙ ap (last_from c s.configuration) split
              ∙ ap (λ m. last_on s.configuration m (λ k. last_from c k rest)) goes
              ∙ ap (λ k. last_from c k rest) (sym is);
          gained = gained-then old new now (step_lines tree 1 way.steps) (event_line tree (s.steps + 1) e.thread event)
              (step_lines tree 1 (way.steps ++ made ∷ [])) way.gained gained line;
        }

      -- an entry whose line did not come
      pub way_stops : (f : ReplayFault) (now : Option (List ℕ)) (a b d : ℕ) → a ≤ b → NoLine f tree s e new now b d → Cause f tree input es old now a d
      way_stops fault.NoMemory now a b d later none = way_begun now none
      way_stops (fault.NotEnabled n) now a b d later none = way_refused n now none.0 none.1 none.2
      way_stops fault.Write now a b d later none =
          (rose-later a b d later none.0, inl (way_cut none.1.next none.1.event none.1.goes now none.1.gained))

      -- an entry whose line came
      pub way_put : (t : Counted) (now : Option (List ℕ)) → IsPut tree s e t new now → IsUnderWay tree input es (i + 1) t old now
      way_put t now put = way_goes t.configuration put.event put.goes t now refl put.counted put.gained

    -- behind the last entry
    module _ (all : drop i es ≡ []) where
      none : refused tree input es ≡ None
      none = way.first ∙ ap (refused_from c s.configuration (i + 1)) all

      whole : seen tree input es ≡ way.steps
      whole = way.front ∙ ap (λ l. way.steps ++ seen_from c s.configuration l) all ∙ append-nil way.steps

      final : last_from c (start c input) es ≡ s.configuration
      final = way.last ∙ ap (last_from c s.configuration) all

      traced : (line : List ℕ) → Closes c s.configuration line → IsTrace tree input es (step_lines tree 1 way.steps ++ line)
      traced line closes = record {
        steps = way.steps;
        last = s.configuration;
        closing = line;
        ran = ran c es (start c input) 1 none ∙ ap (λ ms. Some (ms, last_from c (start c input) es)) whole ∙ ap (λ k. Some (way.steps, k)) final;
        closes = closes;
        is_text = refl;
      }

      pub way_done : (now : Option (List ℕ)) → IsClosed tree s.configuration new now → IsDone tree input es old now
      way_done now closed = record {
        text = step_lines tree 1 way.steps ++ closed.line;
        none = none;
        trace = traced closed.line closed.closes;
        gained = gained-then old new now (step_lines tree 1 way.steps) closed.line (step_lines tree 1 way.steps ++ closed.line) way.gained closed.gained refl;
      }

      pub way_cut_trace : (now : Option (List ℕ)) → IsClosedInPart tree s.configuration new now → IsCutTrace tree input es old now
      way_cut_trace now closed = record {
        text = step_lines tree 1 way.steps ++ closed.line;
        trace = traced closed.line closed.closes;
        gained = front-then old new now (step_lines tree 1 way.steps) closed.line way.gained closed.gained;
      }

      pub way_fails : (now : Option (List ℕ)) (a b d : ℕ) → a ≤ b → Rose b d → IsClosedInPart tree s.configuration new now
          → Cause fault.Write tree input es old now a d
      way_fails now a b d later rose closed = (rose-later a b d later rose, inr (way_cut_trace now closed))
