-- Whole runs without their new operations.
use Rattle.std.proofs.Common.{◌≡◌, ℤ, Bool, true, false, List, [], ◌∷◌, map, take, set, Option, Some, None, refl, sym, ap, ◌∙◌, subst}
use Rattle.std.specs.Prelude.{slice_get, option_map}
use Rattle.std.proofs.lemmas.Option.{slice_get-map}
use Rattle.std.proofs.lemmas.List.{take-replicate}
use Rattle.cfix_base.specs.declared.entry.Entry.{Entry}
use Rattle.cfix_base.specs.declared.number.OrderId.{OrderId}
use Rattle.step_state.specs.declared.event.Event.{Event}
use Rattle.step_state.specs.declared.frame.Frame.{Frame}
use Rattle.step_state.specs.declared.thread.Thread.{Thread}
use Rattle.step_state.specs.declared.state.Configuration.{Configuration}
use Rattle.step_state.specs.Code.{Code}
use Rattle.step_state.specs.Changes.{Made, frame_of, thread_of}
use Rattle.step_state.specs.Start.{start, initial_tokens}
use Rattle.step_state.specs.Step.{step}
use Rattle.step_state.specs.Run.{Ran, Seen, add_seen, frames_at, go_on, run_from}
use Rattle.cfix_base.specs.declared.mark.Marks.{Marks}
use Rattle.c_prog.specs.Marks.{is_new_start, keep_old, old_of}
use Rattle.step_state.specs.Erase.{strip_code, strip_frame, strip_thread, strip_configuration, is_inserted, kept_if, kept, erased_from, erased}
use Rattle.erase_laws.specs.Marked.{IsMarked}
use Rattle.erase_laws.specs.Follows.{ByEvent, Follows}
use Rattle.erase_laws.specs.Runs.{Erases, strip_seen, kept_seen, strip_steps}
use Rattle.erase_laws.proofs.Plain.{take_old, take_new}
use Rattle.erase_laws.proofs.Strips.{step_follows, strip_new, strip_frame_of}
use Rattle.erase_laws.proofs.Goes.{can_go}

-- where the run is defined, x is that run without what is new
abbrev Ends : Marks → Ran → Ran → Type 0
Ends m None x = Unit {0}
Ends m (Some (ms, last)) x = x ≡ Some (strip_steps m ms, strip_configuration m last)

-- the same, of a run with one more step at its front; b says whether that step is dropped
abbrev EndsAfter : Marks → Bool → Seen → Ran → Ran → Type 0
EndsAfter m b k None x = Unit {0}
EndsAfter m b k (Some (ms, last)) x = x ≡ Some (kept_seen b (strip_seen m k) (strip_steps m ms), strip_configuration m last)

ends_after : (m : Marks) (k : Seen) (r x : Ran) → EndsAfter m (is_inserted m k.event) k r x → Ends m (add_seen k r) x
ends_after m k None x h = h
ends_after m k (Some (ms, last)) x h = h

frames_strip : (m : Marks) (o : Option Thread) → frames_at (option_map (strip_thread m) o) ≡ map (strip_frame m) (frames_at o)
frames_strip m None = refl
frames_strip m (Some th) = refl

module _ (m : Marks) (c : Code) (marked : IsMarked m c) where
  abbrev S : Configuration → Configuration
  S s = strip_configuration m s

  abbrev d : Code
  d = strip_code m c

  run_after : (s next : Configuration) (e : Entry) (ev : Event) (rest : List Entry) (b : Bool) (r : Ran)
      → ByEvent b (S next ≡ S s) (step d (S s) e ≡ Some (S next, ev)) → Ends m r (run_from d (S next) rest)
      → EndsAfter m b (record { entry = e; before = frames_at (slice_get s.threads e.thread); event = ev }) r (run_from d (S s) (kept_if b e rest))
  run_after s next e ev rest b None f h = tt
  run_after s next e ev rest true (Some (ms, last)) f h = ap (λ w. run_from d w rest) (sym f) ∙ h
  run_after s next e ev rest false (Some (ms, last)) f h =
      let before = frames_at (slice_get (S s).threads e.thread) in
      let same : before ≡ map (strip_frame m) (frames_at (slice_get s.threads e.thread)) =
      ap frames_at (slice_get-map (strip_thread m) s.threads e.thread) ∙ frames_strip m (slice_get s.threads e.thread) in
      ap (λ o. go_on e before o (λ w. run_from d w rest)) f
      ∙ (ap (add_seen (record { entry = e; before = before; event = ev })) h
      ∙ (λ i. Some (record { entry = e; before = same i; event = ev } ∷ strip_steps m ms, S last)))

  run_more : (s : Configuration) (e : Entry) (es : List Entry) (made : Made) → Follows m s made (step d (S s) e)
      → ((next : Configuration) → Ends m (run_from c next es) (run_from d (S next) (erased_from m c next es)))
      → Ends m (go_on e (frames_at (slice_get s.threads e.thread)) made (λ next. run_from c next es)) (run_from d (S s) (kept m e made (λ next. erased_from m c next es)))
  run_more s e es None f h = tt
  run_more s e es (Some (next, ev)) f h =
      ends_after m (record { entry = e; before = frames_at (slice_get s.threads e.thread); event = ev }) (run_from c next es) _
      (run_after s next e ev (erased_from m c next es) (is_inserted m ev) (run_from c next es) f (h next))

  run_follows : (es : List Entry) (s : Configuration) → Ends m (run_from c s es) (run_from d (S s) (erased_from m c s es))
  run_follows [] s = refl
  run_follows (e ∷ es) s = run_more s e es (step c s e) (step_follows m c marked s e) (λ next. run_follows es next)

  -- the starting configuration
  tokens_more : (new : Bool) (j : OrderId) (rest : List OrderId) → is_new_start m j ≡ new
      → take m.order (initial_tokens c.orders rest) ≡ initial_tokens m.order (old_of (is_new_start m) rest)
      → take m.order (set (initial_tokens c.orders rest) j.number 1) ≡ initial_tokens m.order (keep_old new j (old_of (is_new_start m) rest))
  tokens_more true j rest is h = take_new m.order (initial_tokens c.orders rest) j.number 1 is ∙ h
  tokens_more false j rest is h = take_old m.order (initial_tokens c.orders rest) j.number 1 is ∙ ap (λ ts. set ts j.number 1) h

  tokens_start : (starts : List OrderId) → take m.order (initial_tokens c.orders starts) ≡ initial_tokens m.order (old_of (is_new_start m) starts)
  tokens_start [] = take-replicate m.order c.orders 0 marked.orders
  tokens_start (j ∷ rest) = tokens_more (is_new_start m j) j rest refl (tokens_start rest)

  pub start_strips : (input : List ℤ) → S (start c input) ≡ start d input
  start_strips input =
      let first : Frame = frame_of c 0 c.main [] in
      let made : thread_of d (frame_of d 0 c.main []) ≡ strip_thread m (thread_of c first) =
      ap (thread_of d) (strip_frame_of m c marked (start c input) 0 (thread_of c first) [] first 0 c.main []) ∙ strip_new m c marked (start c input) 0 (thread_of c first) [] first first in
      λ i. record (start d input) {
        threads = sym made i ∷ [];
        locks = take-replicate m.lock c.locks None marked.locks i;
        tokens = tokens_start c.starts i;
        flags = take-replicate m.order c.orders false marked.orders i;
      }

  pub erases : (input : List ℤ) (es : List Entry) → Erases m c input es
  erases input es = record {
    erases = λ ms last ran.
        ap (λ s. run_from d s (erased m c input es)) (sym (start_strips input))
        ∙ subst (λ r. Ends m r (run_from d (S (start c input)) (erased m c input es))) ran (run_follows es (start c input));
    goes_on = λ ms last ran t can. can_go m c marked last t can;
  }
