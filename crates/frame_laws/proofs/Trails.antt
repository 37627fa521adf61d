-- Runs are trails, and trails split and join at every step.
use Rattle.std.proofs.Common.{◌≡◌, ◌⊎◌, inl, inr, List, [], ◌∷◌, ◌++◌, Some, None, refl, sym, ap, ◌∙◌, subst, slice_get}
use Rattle.cfix_base.specs.declared.entry.Entry.{Entry}
use Rattle.step_state.specs.declared.state.Configuration.{Configuration}
use Rattle.step_state.specs.Code.{Code}
use Rattle.step_state.specs.Changes.{Made}
use Rattle.step_state.specs.Run.{Seen, Ran, frames_at, add_seen, go_on, run_from}
use Rattle.step_state.specs.Step.{step}
use Rattle.frame_laws.specs.Trail.{Trail, Moment}
use Rattle.frame_laws.specs.Trail.{entries}
use Rattle.frame_laws.specs.Trail.{Every, SomeStep}
use Rattle.frame_laws.proofs.Frames.{AllOf, Kept, at_event}

pub all_left : (G : Seen → Type 0) (a b : List Seen) → AllOf G (a ++ b) → AllOf G a
all_left G [] b h = tt
all_left G (m ∷ a) b h = (h.0, all_left G a b h.1)

pub all_right : (G : Seen → Type 0) (a b : List Seen) → AllOf G (a ++ b) → AllOf G b
all_right G [] b h = h
all_right G (m ∷ a) b h = all_right G a b h.1

pub all_join : (G : Seen → Type 0) (a b : List Seen) → AllOf G a → AllOf G b → AllOf G (a ++ b)
all_join G [] b h k = k
all_join G (m ∷ a) b h k = (h.0, all_join G a b h.1 k)

pub every_left : (Q : Seen → Type 0) (a b : List Seen) → Every Q (a ++ b) → Every Q a
every_left Q [] b h = tt
every_left Q (m ∷ a) b h = (h.0, every_left Q a b h.1)

pub every_right : (Q : Seen → Type 0) (a b : List Seen) → Every Q (a ++ b) → Every Q b
every_right Q [] b h = h
every_right Q (m ∷ a) b h = every_right Q a b h.1

-- a step of which the fact holds, and the steps around it
pub record Found (Q : Seen → Type 0) (ms : List Seen) : Type 0 where
  pub left : List Seen
  pub step : Seen
  pub right : List Seen
  pub whole : ms ≡ left ++ step ∷ right
  pub good : Q step

pub found : (Q : Seen → Type 0) (ms : List Seen) → SomeStep Q ms → Found Q ms
found Q [] h = absurd h
found Q (m ∷ ms) (inl h) = record { left = []; step = m; right = ms; whole = refl; good = h }
found Q (m ∷ ms) (inr h) =
    let f = found Q ms h in
    record { left = m ∷ f.left; step = f.step; right = f.right; whole = ap (λ x. m ∷ x) f.whole; good = f.good }

pub some_append : (Q : Seen → Type 0) (a b : List Seen) → SomeStep Q (a ++ b) → SomeStep Q a ⊎ SomeStep Q b
some_append Q [] b h = inr h
some_append Q (m ∷ a) b (inl h) = inl (inl h)
some_append Q (m ∷ a) b (inr h) = up (some_append Q a b h)
  where
    up : SomeStep Q a ⊎ SomeStep Q b → (Q m ⊎ SomeStep Q a) ⊎ SomeStep Q b
    up (inl x) = inl (inr x)
    up (inr y) = inr y

pub assoc : (a b c : List Seen) → (a ++ b) ++ c ≡ a ++ (b ++ c)
assoc [] b c = refl
assoc (m ∷ a) b c = ap (λ x. m ∷ x) (assoc a b c)

module _ (c : Code) (G : Seen → Type 0) (I : Configuration → Type 0)
    (keeps : (s : Configuration) (e : Entry) → I s → Kept (at_event G e (frames_at (slice_get s.threads e.thread))) I (step c s e)) where
  -- what each good step keeps is kept by a made step
  pub made_keeps : (s next : Configuration) (m : Seen) → step c s m.entry ≡ Some (next, m.event) → frames_at (slice_get s.threads m.entry.thread) ≡ m.before
      → I s → G m → I next
  made_keeps s next m goes same i g =
      subst (Kept (at_event G m.entry (frames_at (slice_get s.threads m.entry.thread))) I) goes (keeps s m.entry i)
      (subst (λ b. at_event G m.entry b m.event) (sym same) g)

  -- what each good step keeps holds after good steps
  pub trail_keeps : (ms : List Seen) (s last : Configuration) → Trail c s ms last → AllOf G ms → I s → I last
  trail_keeps [] s last t g i = subst I t i
  trail_keeps (m ∷ ms) s last t g i = trail_keeps ms t.next last t.rest g.1 (made_keeps s t.next m t.goes t.frames i g.0)

pub trail_split : (c : Code) (a b : List Seen) (s last : Configuration) → Trail c s (a ++ b) last → Moment c s a b last
trail_split c [] b s last t = record { now = s; past = refl; future = t }
trail_split c (m ∷ a) b s last t =
    let w = trail_split c a b t.next last t.rest in
    record { now = w.now; past = record { next = t.next; goes = t.goes; frames = t.frames; rest = w.past }; future = w.future }

pub trail_join : (c : Code) (a b : List Seen) (s now last : Configuration) → Trail c s a now → Trail c now b last → Trail c s (a ++ b) last
trail_join c [] b s now last past future = subst (λ x. Trail c x b last) (sym past) future
trail_join c (m ∷ a) b s now last past future =
    record { next = past.next; goes = past.goes; frames = past.frames; rest = trail_join c a b past.next now last past.rest future }

abbrev Trails : Code → Configuration → Ran → Type 0
Trails c s None = Unit {0}
Trails c s (Some (ms, last)) = Trail c s ms last

add_trails : (c : Code) (s next : Configuration) (m : Seen) (r : Ran) → step c s m.entry ≡ Some (next, m.event)
    → frames_at (slice_get s.threads m.entry.thread) ≡ m.before → Trails c next r → Trails c s (add_seen m r)
add_trails c s next m None goes same t = tt
add_trails c s next m (Some (ms, last)) goes same t = record { next = next; goes = goes; frames = same; rest = t }

on_trails : (c : Code) (s : Configuration) (e : Entry) (es : List Entry) (o : Made) → step c s e ≡ o
    → ((next : Configuration) → Trails c next (run_from c next es))
    → Trails c s (go_on e (frames_at (slice_get s.threads e.thread)) o (λ next. run_from c next es))
on_trails c s e es None at h = tt
on_trails c s e es (Some (next, ev)) at h =
    add_trails c s next (record { entry = e; before = frames_at (slice_get s.threads e.thread); event = ev }) (run_from c next es) at refl (h next)

trails : (c : Code) (es : List Entry) (s : Configuration) → Trails c s (run_from c s es)
trails c [] s = refl
trails c (e ∷ es) s = on_trails c s e es (step c s e) refl (λ next. trails c es next)

-- a run is a trail
pub run_trail : (c : Code) (es : List Entry) (s : Configuration) (ms : List Seen) (last : Configuration) → run_from c s es ≡ Some (ms, last) → Trail c s ms last
run_trail c es s ms last e = subst (Trails c s) e (trails c es s)

-- and a trail is a run
pub trail_run : (c : Code) (ms : List Seen) (s last : Configuration) → Trail c s ms last → run_from c s (entries ms) ≡ Some (ms, last)
trail_run c [] s last t = ap some_run t
  where
    some_run : Configuration → Ran
    some_run x = Some ([], x)
trail_run c (m ∷ ms) s last t =
    ap (λ o. go_on m.entry (frames_at (slice_get s.threads m.entry.thread)) o (λ next. run_from c next (entries ms))) t.goes
    ∙ (ap (λ b. add_seen (record { entry = m.entry; before = b; event = m.event }) (run_from c t.next (entries ms))) t.frames
    ∙ ap (add_seen m) (trail_run c ms t.next last t.rest))

-- whose entries are those of the schedule
abbrev Lists : List Entry → Ran → Type 0
Lists es None = Unit {0}
Lists es (Some (ks, last)) = entries ks ≡ es

add_lists : (k : Seen) (es : List Entry) (r : Ran) → Lists es r → Lists (k.entry ∷ es) (add_seen k r)
add_lists k es None h = tt
add_lists k es (Some (ks, last)) h = ap (λ x. k.entry ∷ x) h

see_lists : (c : Code) (before : _) (e : Entry) (es : List Entry) (o : Made) → ((next : Configuration) → Lists es (run_from c next es))
    → Lists (e ∷ es) (go_on e before o (λ next. run_from c next es))
see_lists c before e es None h = tt
see_lists c before e es (Some (next, ev)) h = add_lists (record { entry = e; before = before; event = ev }) es (run_from c next es) (h next)

lists : (c : Code) (es : List Entry) (s : Configuration) → Lists es (run_from c s es)
lists c [] s = refl
lists c (e ∷ es) s = see_lists c (frames_at (slice_get s.threads e.thread)) e es (step c s e) (λ next. lists c es next)

pub run_lists : (c : Code) (es : List Entry) (s : Configuration) (ks : List Seen) (last : Configuration) → run_from c s es ≡ Some (ks, last) → entries ks ≡ es
run_lists c es s ks last e = subst (Lists es) e (lists c es s)

pub entries_append : (a b : List Seen) → entries (a ++ b) ≡ entries a ++ entries b
entries_append [] b = refl
entries_append (k ∷ a) b = ap (λ es. k.entry ∷ es) (entries_append a b)
