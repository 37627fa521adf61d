-- Who owns a lock is a thread, and holds it.
use Rattle.std.proofs.Common.{◌≡◌, ◌≢◌, ◌⊎◌, ⊎_elim, inl, inr, ℕ, zero, suc, ◌+◌, ◌<◌, ℤ, Bool, true, false, List, [], ◌∷◌, ◌++◌, length, set, get_or, replicate, Option, Some, None, refl, sym, ap, ◌∙◌, subst, arith}
use Rattle.std.specs.Prelude.{slice_get, slice_index, slice_index_or, ◌||◌}
use Rattle.std.proofs.lemmas.Grind.{get_or-set_at}
use Rattle.std.proofs.lemmas.Bool.Decides.{eqb_tells}
use Rattle.std.proofs.Math.Dec.{eqb}
use Rattle.std.proofs.lemmas.List.{length-set, get_or-set_other, length-replicate, get_or-replicate}
use Rattle.cfix_base.specs.declared.entry.Entry.{Entry}
use Rattle.cfix_base.specs.declared.number.LockId.{LockId}
use Rattle.cfix_base.specs.declared.number.OrderId.{OrderId}
use Rattle.cfix_base.specs.declared.op.Op.{Op}
use Rattle.cfix_base.specs.declared.op.Op.TheVariants.{Leave, First, Done, Wait, Enter, Add}
use Rattle.step_state.specs.declared.event.Event.{Event}
use Rattle.step_state.specs.declared.frame.Frame.{Frame}
use Rattle.step_state.specs.declared.thread.Thread.{Thread}
use Rattle.step_state.specs.declared.state.Configuration.{Configuration}
use Rattle.step_state.specs.Code.{Code}
use Rattle.step_state.specs.Changes.{Made, with_frames, with_thread, thread_of, frame_of}
use Rattle.step_state.specs.Operate.{may_enter, enter, leave, no_token, wait, operate, token_taken}
use Rattle.step_state.specs.Start.{start}
use Rattle.step_state.specs.Step.{step}
use Rattle.frame_laws.proofs.Each.{each_set, each_push}
use Rattle.frame_laws.proofs.Change.{Change, IsTold, step_tells, IsTrapped, IsOperated, IsReduced, IsActed, IsJoined, IsCreated, IsCalled, IsBegun, IsPassed, IsReturned, IsExited}
use Rattle.lock_laws.specs.Holds.{Holder, Exact}

pub get_set_same : (ths : List Thread) (t : ℕ) (th new : Thread) → slice_get ths t ≡ Some th → slice_get (set ths t new) t ≡ Some new
get_set_same [] t th new e = cc
get_set_same (x ∷ ths) zero th new e = refl
get_set_same (x ∷ ths) (suc t) th new e = get_set_same ths t th new e

pub get_set_other : (ths : List Thread) (t u : ℕ) (new : Thread) → u ≢ t → slice_get (set ths t new) u ≡ slice_get ths u
get_set_other [] t u new ne = refl
get_set_other (x ∷ ths) zero zero new ne = absurd (ne refl)
get_set_other (x ∷ ths) zero (suc u) new ne = refl
get_set_other (x ∷ ths) (suc t) zero new ne = refl
get_set_other (x ∷ ths) (suc t) (suc u) new ne = get_set_other ths t u new (λ e. ne (ap suc e))

pub get_push : (ths : List Thread) (u : ℕ) (th new : Thread) → slice_get ths u ≡ Some th → slice_get (ths ++ new ∷ []) u ≡ Some th
get_push [] u th new e = cc
get_push (x ∷ ths) zero th new e = e
get_push (x ∷ ths) (suc u) th new e = get_push ths u th new e

module _ (k : ℕ) where
  -- a thread is changed that holds the lock where it held it
  holder_set : (ths : List Thread) (t u : ℕ) (th new : Thread) → slice_get ths t ≡ Some th → (0 < get_or th.held k 0 → 0 < get_or new.held k 0)
      → Holder ths k u → Holder (set ths t new) k u
  holder_set ths t u th new at deep h = by_eq (eqb_tells u t)
    where
      by_eq : ((eqb u t ≡ true) × (u ≡ t)) ⊎ ((eqb u t ≡ false) × (u ≢ t)) → Holder (set ths t new) k u
      by_eq (inl e) =
          let at2 : slice_get ths t ≡ Some h.thread = subst (λ i. slice_get ths i ≡ Some h.thread) e.1 h.stands in
          let q : th ≡ h.thread = cc in
          subst (λ i. Holder (set ths t new) k i) (sym e.1) (record {
            thread = new;
            stands = get_set_same ths t th new at;
            deep = deep (subst (λ x. 0 < get_or x.held k 0) (sym q) h.deep);
          })
      by_eq (inr e) = record { thread = h.thread; stands = get_set_other ths t u new e.1 ∙ h.stands; deep = h.deep }

  abbrev Sized : ℕ → Thread → Type 0
  Sized t th = k < length th.held

  -- no lock and no depth of k changes
  same : (locks others : List (Option ℕ)) (ths : List Thread) (t : ℕ) (th new : Thread) → Exact k locks ths → slice_get ths t ≡ Some th
      → length others ≡ length locks → get_or others k None ≡ get_or locks k None → length new.held ≡ length th.held → get_or new.held k 0 ≡ get_or th.held k 0
      → Exact k others (set ths t new)
  same locks others ths t th new exact at size owner long depth = record {
    lock = subst (λ n. k < n) (sym size) exact.lock;
    sized = λ u x is. (each_set Sized Sized ths t new (record { at = exact.sized }) (subst (λ n. k < n) (sym long) (exact.sized t th at)) (λ v z ne h. h)).at u x is;
    holder = λ u is. holder_set ths t u th new at (λ d. subst (λ n. 0 < n) (sym depth) d) (exact.holder u (sym owner ∙ is));
  }

  pub moved : (locks : List (Option ℕ)) (ths : List Thread) (t : ℕ) (th new : Thread) → Exact k locks ths → slice_get ths t ≡ Some th → new.held ≡ th.held
      → Exact k locks (set ths t new)
  moved locks ths t th new exact at held = same locks locks ths t th new exact at refl refl (ap length held) (ap (λ x. get_or x k 0) held)

  -- the owner and the thread's depth are set alike
  own : (locks others : List (Option ℕ)) (ths : List Thread) (t : ℕ) (th new : Thread) (o : Option ℕ) → Exact k locks ths → slice_get ths t ≡ Some th
      → length others ≡ length locks → get_or others k None ≡ o → length new.held ≡ length th.held → (o ≡ None) ⊎ ((o ≡ Some t) × (0 < get_or new.held k 0))
      → Exact k others (set ths t new)
  own locks others ths t th new o exact at size owner long how = record {
    lock = subst (λ n. k < n) (sym size) exact.lock;
    sized = λ u x is. (each_set Sized Sized ths t new (record { at = exact.sized }) (subst (λ n. k < n) (sym long) (exact.sized t th at)) (λ v z ne h. h)).at u x is;
    holder = λ u is. by_how u (sym is ∙ owner) how;
  }
    where
      by_how : (u : ℕ) → Some u ≡ o → (o ≡ None) ⊎ ((o ≡ Some t) × (0 < get_or new.held k 0)) → Holder (set ths t new) k u
      by_how u is (inl none) = absurd (let z : ◌≡◌ {A = Option ℕ} (Some u) None = is ∙ none in cc)
      by_how u is (inr h) =
          let z : ◌≡◌ {A = Option ℕ} (Some u) (Some t) = is ∙ h.0 in
          let q : u ≡ t = cc in
          subst (λ i. Holder (set ths t new) k i) (sym q) (record { thread = new; stands = get_set_same ths t th new at; deep = h.1 })

  pushed : (locks : List (Option ℕ)) (ths : List Thread) (new : Thread) → Exact k locks ths → k < length new.held → Exact k locks (ths ++ new ∷ [])
  pushed locks ths new exact long = record {
    lock = exact.lock;
    sized = λ u x is. (each_push Sized ths new (record { at = exact.sized }) long).at u x is;
    holder = λ u is. let h = exact.holder u is in record { thread = h.thread; stands = get_push ths u h.thread new h.stands; deep = h.deep };
  }

  abbrev KeptExact : Made → Type 0
  KeptExact None = Unit {0}
  KeptExact (Some (next, ev)) = Exact k next.locks next.threads

  module _ (s : Configuration) (t : ℕ) (th : Thread) (at : slice_get s.threads t ≡ Some th) (exact : Exact k s.locks s.threads) (gs : List Frame) where
    abbrev popped : Thread
    popped = with_frames th gs

    -- the depth and the owner of a lock are set
    both : (j d : ℕ) (o : Option ℕ) → (o ≡ None) ⊎ ((o ≡ Some t) × (0 < d)) → Exact k (set s.locks j o) (set s.threads t (record popped { held = set th.held j d }))
    both j d o how = ⊎_elim mine other (eqb_tells j k)
      where
        mine : (eqb j k ≡ true) × (j ≡ k) → Exact k (set s.locks j o) (set s.threads t (record popped { held = set th.held j d }))
        mine e =
            let w : j < length th.held = subst (λ i. i < length th.held) (sym e.1) (exact.sized t th at) in
            let l : j < length s.locks = subst (λ i. i < length s.locks) (sym e.1) exact.lock in
            let g : get_or (set th.held j d) k 0 ≡ d = get_or-set_at th.held j k d 0 (sym e.1) w in
            let h : get_or (set s.locks j o) k None ≡ o = get_or-set_at s.locks j k o None (sym e.1) l in
            own s.locks (set s.locks j o) s.threads t th (record popped { held = set th.held j d }) o exact at (length-set s.locks j o) h (length-set th.held j d)
            (⊎_elim (λ n. inl n) (λ (n : (o ≡ Some t) × (0 < d)). inr (n.0, subst (λ x. 0 < x) (sym g) n.1)) how)

        other : (eqb j k ≡ false) × (j ≢ k) → Exact k (set s.locks j o) (set s.threads t (record popped { held = set th.held j d }))
        other e =
            same s.locks (set s.locks j o) s.threads t th (record popped { held = set th.held j d }) exact at (length-set s.locks j o)
            (get_or-set_other s.locks j k o None (λ x. e.1 (sym x))) (length-set th.held j d) (get_or-set_other th.held j k d 0 (λ x. e.1 (sym x)))

    enter_exact : (j : LockId) (late may : Bool) → KeptExact (enter s t popped j late may)
    enter_exact j false true = both j.number (slice_index th.held j.number + 1) (Some t) (inr (refl, omega arith))
    enter_exact j true false = moved s.locks s.threads t th _ exact at refl
    enter_exact j false false = tt
    enter_exact j true true = tt

    leave_exact : (j : LockId) (h g : ℕ) → Exact k (leave s t popped j h g).locks (leave s t popped j h g).threads
    leave_exact j (suc zero) g = both j.number zero None (inl refl)
    leave_exact j (suc (suc d)) g = both j.number (suc d) (Some t) (inr (refl, omega arith))
    leave_exact j zero (suc g) = moved s.locks s.threads t th _ exact at refl
    leave_exact j zero zero = moved s.locks s.threads t th _ exact at refl

    wait_exact : (j : OrderId) (late ready : Bool) → KeptExact (wait s t popped j late ready)
    wait_exact j false true = moved s.locks s.threads t th _ exact at refl
    wait_exact j true false = moved s.locks s.threads t th _ exact at refl
    wait_exact j false false = tt
    wait_exact j true true = tt

    token_exact : (j : OrderId) (n : ℕ) → Exact k (token_taken (with_thread s t popped) j n).locks (token_taken (with_thread s t popped) j n).threads
    token_exact j zero = moved s.locks s.threads t th _ exact at refl
    token_exact j (suc n) = moved s.locks s.threads t th _ exact at refl

    operate_exact : (late : Bool) (o : Op) → KeptExact (operate s t popped late o)
    operate_exact late (Enter j) = enter_exact j late (may_enter (slice_index_or s.locks j.number None) t)
    operate_exact late (Wait j) = wait_exact j late (no_token (slice_index s.tokens j.number) || slice_index_or s.flags j.number false)
    operate_exact true (Leave j) = tt
    operate_exact true (First j) = tt
    operate_exact true (Done j) = tt
    operate_exact true (Add j) = tt
    operate_exact false (Leave j) = leave_exact j (slice_index th.held j.number) (slice_index th.missed j.number)
    operate_exact false (First j) = moved s.locks s.threads t th _ exact at refl
    operate_exact false (Done j) = token_exact j (slice_index s.tokens j.number)
    operate_exact false (Add j) = moved s.locks s.threads t th _ exact at refl

  -- one step
  module _ (c : Code) (few : k < c.locks) (s : Configuration) (t : ℕ) (late : Bool) where
    by_change : (next : Configuration) (ev : Event) (th : Thread) (f : Frame) (below : List Frame) → slice_get s.threads t ≡ Some th → Exact k s.locks s.threads
        → Change c s t late th f below next ev → Exact k next.locks next.threads
    by_change next ev th f below at exact change = go change
      where
        put : (new : Thread) → next.locks ≡ s.locks → next.threads ≡ set s.threads t new → new.held ≡ th.held → Exact k next.locks next.threads
        put new locks threads held =
            subst (λ l. Exact k l next.threads) (sym locks) (subst (λ ths. Exact k s.locks ths) (sym threads) (moved s.locks s.threads t th new exact at held))

        go : Change c s t late th f below next ev → Exact k next.locks next.threads
        go (IsTrapped b plain) = subst (λ l. Exact k l next.threads) (sym b.locks) (subst (λ ths. Exact k s.locks ths) (sym b.threads) exact)
        go (IsOperated o rest is goes) = subst KeptExact goes (operate_exact s t th at exact _ late o)
        go (IsReduced r rest g is e b plain) = put _ b.locks b.threads refl
        go (IsActed a rest vs is simple b plain) = put _ b.locks b.threads refl
        go (IsJoined a rest vs n other is simple there b plain) =
            let one = moved s.locks s.threads n other (record other { joined = true }) exact there refl in
            let two = ⊎_elim (λ (e : (eqb t n ≡ true) × (t ≡ n)).
            let same_thread : ◌≡◌ {A = Option Thread} (Some th) (Some other) = sym at ∙ (ap (λ i. slice_get s.threads i) e.1 ∙ there) in
            let q : th ≡ other = cc in
            moved s.locks (set s.threads n (record other { joined = true })) t (record other { joined = true }) _ one
            (ap (λ i. slice_get (set s.threads n (record other { joined = true })) i) e.1 ∙ get_set_same s.threads n other _ there) (ap (λ x. x.held) q))
            (λ (e : (eqb t n ≡ false) × (t ≢ n)).
            moved s.locks (set s.threads n (record other { joined = true })) t th _ one (get_set_other s.threads n t _ e.1 ∙ at) refl) (eqb_tells t n) in
            subst (λ l. Exact k l next.threads) (sym b.locks) (subst (λ ths. Exact k s.locks ths) (sym b.threads) two)
        go (IsCreated target g rest vs hs args is b plain) =
            let new : Thread = thread_of c (frame_of c s.made g.number args) in
            let long : k < length new.held = subst (λ x. k < x) (sym (length-replicate {A = ℕ} c.locks 0)) few in
            let one = pushed s.locks (set s.threads t _) new (moved s.locks s.threads t th _ exact at refl) long in
            subst (λ l. Exact k l next.threads) (sym b.locks) (subst (λ ths. Exact k s.locks ths) (sym b.threads) one)
        go (IsCalled g rest args vs is b plain) = put _ b.locks b.threads refl
        go (IsBegun n rest is b e) = put _ b.locks b.threads refl
        go (IsPassed n g place rest vs is passes b plain) = put _ b.locks b.threads refl
        go (IsReturned rest g under v is e b plain) = put _ b.locks b.threads refl
        go (IsExited rest is e b plain) = put _ b.locks b.threads refl

  exact_if : (c : Code) → k < c.locks → (s : Configuration) (e : Entry) (made : Made) → IsTold c s e.thread e.timeout made → Exact k s.locks s.threads → KeptExact made
  exact_if c few s e None told exact = tt
  exact_if c few s e (Some (next, ev)) told exact = by_change c few s e.thread e.timeout next ev told.thread told.frame told.below told.stands exact told.change

  -- each step keeps it
  pub exact_step : (c : Code) → k < c.locks → (s next : Configuration) (e : Entry) (ev : Event) → step c s e ≡ Some (next, ev)
      → Exact k s.locks s.threads → Exact k next.locks next.threads
  exact_step c few s next e ev goes exact = subst KeptExact goes (exact_if c few s e (step c s e) (step_tells c s e) exact)

  pub exact_start : (c : Code) → k < c.locks → (input : List ℤ) → Exact k (start c input).locks (start c input).threads
  exact_start c few input =
      let none : get_or (replicate {A = Option ℕ} c.locks None) k None ≡ None = get_or-replicate {A = Option ℕ} c.locks k None None few in
      let long : k < length (replicate {A = ℕ} c.locks 0) = subst (λ x. k < x) (sym (length-replicate {A = ℕ} c.locks 0)) few in
      record {
        lock = subst (λ x. k < x) (sym (length-replicate {A = Option ℕ} c.locks None)) few;
        sized = λ u x is. (each_push Sized [] _ (record { at = λ v z e. cc }) long).at u x is;
        holder = λ u is. absurd (let z : ◌≡◌ {A = Option ℕ} None (Some u) = sym none ∙ is in cc);
      }
