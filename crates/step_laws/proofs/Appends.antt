-- A run of one schedule after another.
use Rattle.std.proofs.Common.{◌≡◌, List, [], ◌∷◌, ◌++◌, slice_get, Some, None, refl, ap, ◌∙◌}
use Rattle.cfix_base.specs.declared.entry.Entry.{Entry}
use Rattle.step_state.specs.declared.frame.Frame.{Frame}
use Rattle.step_state.specs.declared.state.Configuration.{Configuration}
use Rattle.step_state.specs.Code.{Code}
use Rattle.step_state.specs.Changes.{Made}
use Rattle.step_state.specs.Step.{step}
use Rattle.step_state.specs.Run.{Ran, Seen, add_seen, frames_at, go_on, run_from}
use Rattle.step_laws.specs.Runs.{after_steps, then_run}

after_none : (r : Ran) → r ≡ after_steps [] r
after_none None = refl
after_none (Some (later, last)) = refl

add_after : (m : Seen) (seen : List Seen) (r : Ran) → add_seen m (after_steps seen r) ≡ after_steps (m ∷ seen) r
add_after m seen None = refl
add_after m seen (Some (later, last)) = refl

add_then : (m : Seen) (r : Ran) (go : Configuration → Ran) → add_seen m (then_run r go) ≡ then_run (add_seen m r) go
add_then m None go = refl
add_then m (Some (seen, s)) go = add_after m seen (go s)

append_more : (c : Code) (e : Entry) (before : List Frame) (a b : List Entry) (made : Made)
    → ((s : Configuration) → run_from c s (a ++ b) ≡ then_run (run_from c s a) (λ next. run_from c next b))
    → go_on e before made (λ next. run_from c next (a ++ b)) ≡ then_run (go_on e before made (λ next. run_from c next a)) (λ next. run_from c next b)
append_more c e before a b None h = refl
append_more c e before a b (Some (s, ev)) h =
    let m : Seen = record { entry = e; before = before; event = ev } in
    ap (add_seen m) (h s) ∙ add_then m (run_from c s a) (λ next. run_from c next b)

pub run_append : (c : Code) (s : Configuration) (a b : List Entry) → run_from c s (a ++ b) ≡ then_run (run_from c s a) (λ next. run_from c next b)
run_append c s [] b = after_none (run_from c s b)
run_append c s (e ∷ a) b = append_more c e (frames_at (slice_get s.threads e.thread)) a b (step c s e) (λ next. run_append c next a b)
