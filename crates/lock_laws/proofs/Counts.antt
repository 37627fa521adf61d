-- Without timeouts a thread's held depth counts what its frames hold, and the thread that holds a lock is its owner.
use Rattle.std.proofs.Common.{◌≡◌, ◌≢◌, ◌⊎◌, ⊎_elim, inl, inr, ℕ, zero, suc, ◌+◌, ◌-◌, ◌<◌, ◌≤◌, ℤ, Bool, true, false, List, [], ◌∷◌, ◌++◌, length, map, set, get_or, replicate, Option, Some, None, refl, sym, ap, ◌∙◌, subst, arith}
use Rattle.std.specs.Prelude.{slice_get, slice_index, slice_index_or, ◌==◌, ◌||◌}
use Rattle.std.proofs.lemmas.Grind.{get_or-set_at}
use Rattle.std.proofs.lemmas.Bool.Decides.{eqb_tells}
use Rattle.std.proofs.Math.Dec.{eqb}
use Rattle.std.proofs.lemmas.List.{length-set, get_or-set_other, length-replicate, get_or-replicate}
use Rattle.cfix_base.specs.declared.entry.Entry.{Entry}
use Rattle.cfix_base.specs.declared.number.NodeId.{NodeId}
use Rattle.cfix_base.specs.declared.number.FnId.{FnId}
use Rattle.cfix_base.specs.declared.number.LockId.{LockId}
use Rattle.cfix_base.specs.declared.number.OrderId.{OrderId}
use Rattle.cfix_base.specs.declared.op.Op.{Op}
use Rattle.cfix_base.specs.declared.op.Op.TheVariants.{Leave, First, Done, Wait, Enter, Add}
use Rattle.cfix_base.specs.declared.place.Place.{Place}
use Rattle.cfix_base.specs.declared.place.Place.TheVariants.{Start}
use Rattle.step_state.specs.declared.event.Event.{Event}
use Rattle.step_state.specs.declared.event.Event.TheVariants as event
use Rattle.step_state.specs.declared.item.Item.{Item}
use Rattle.step_state.specs.declared.item.Item.TheVariants as item
use Rattle.step_state.specs.declared.item.Action.TheVariants as action
use Rattle.step_state.specs.declared.item.Move.{Move}
use Rattle.step_state.specs.declared.item.Move.TheVariants as move
use Rattle.step_state.specs.declared.frame.Frame.{Frame}
use Rattle.step_state.specs.declared.thread.Thread.{Thread}
use Rattle.step_state.specs.declared.state.Configuration.{Configuration}
use Rattle.step_state.specs.Code.{Code, arrive, go_to}
use Rattle.step_state.specs.Changes.{Made, with_frames, with_thread, with_work, with_values, pass, frame_of, thread_of}
use Rattle.step_state.specs.Operate.{may_enter, enter, owner_after, leave, no_token, wait, operate, token_taken}
use Rattle.step_state.specs.Step.{branch_place, step}
use Rattle.layout_laws.specs.Layout.{Layout, Live, source, Between, Stands, IsLaidOut}
use Rattle.lock_laws.specs.Guard.{bit, in_set, enters, leaves, Carries, need_op, need, need_of, needs}
use Rattle.frame_laws.proofs.Each.{Each, each_set, each_push}
use Rattle.step_state.specs.Run.{Seen, frames_at, run_from}
use Rattle.step_state.specs.Start.{start}
use Rattle.frame_laws.proofs.Frames.{AllFrames, Framed, GoodStep, Kept, KeptByRun, ThreadFrames, at_event, framed_step, run_keeps}
use Rattle.layout_laws.proofs.Shape.{Shaped, Any, GoesOn, arrived, between_goes, keeps_shape}
use Rattle.frame_laws.proofs.Reduced.{reduced_follows}
use Rattle.frame_laws.proofs.Change.{Beside, Passes, Change, IsTold, step_tells, IsTrapped, IsOperated, IsReduced, IsActed, IsJoined, IsCreated, IsCalled, IsBegun, IsPassed, IsReturned, IsExited}

-- the step is no timeout of lock k
abbrev pub Timely : ℕ → Event → Type 0
Timely k (event.EnterMissed j) = j.number ≢ k
Timely k _ = Unit {0}

module _ (kept : ℕ → Bool) (k : ℕ) where
  nothing : 0 < 0 → ⊥
  nothing h = omega arith

  bit_below : (b : Bool) → bit b ≤ 1
  bit_below true = omega arith
  bit_below false = omega arith

  set_below : (o : Option ℕ) → in_set kept o ≤ 1
  set_below None = omega arith
  set_below (Some n) = bit_below (kept n)

  -- operations before work that holds as often as they enter
  pub need_ops : (ops : List Op) (work : List Item) → enters k ops ≤ need kept k work
      → need kept k (map item.Op ops ++ work) + enters k ops ≡ leaves k ops + need kept k work
  need_ops [] work le = omega arith
  need_ops (Enter j ∷ ops) work le = omega (arith, need_ops ops work (omega arith))
  need_ops (Leave j ∷ ops) work le = omega (arith, need_ops ops work le)
  need_ops (First j ∷ ops) work le = omega (arith, need_ops ops work le)
  need_ops (Done j ∷ ops) work le = omega (arith, need_ops ops work le)
  need_ops (Wait j ∷ ops) work le = omega (arith, need_ops ops work le)
  need_ops (Add j ∷ ops) work le = omega (arith, need_ops ops work le)

  pub enters_append : (a b : List Op) → enters k (a ++ b) ≡ enters k a + enters k b
  enters_append [] b = omega arith
  enters_append (Enter j ∷ a) b = omega (arith, enters_append a b)
  enters_append (Leave j ∷ a) b = enters_append a b
  enters_append (First j ∷ a) b = enters_append a b
  enters_append (Done j ∷ a) b = enters_append a b
  enters_append (Wait j ∷ a) b = enters_append a b
  enters_append (Add j ∷ a) b = enters_append a b

  pub own_bit : (j : ℕ) → j ≡ k → bit (j == k) ≡ 1
  own_bit j e = ⊎_elim (λ (p : (eqb j k ≡ true) × (j ≡ k)). ap bit p.0) (λ (p : (eqb j k ≡ false) × (j ≢ k)). absurd (p.1 e)) (eqb_tells j k)

  pub other_bit : (j : ℕ) → j ≢ k → bit (j == k) ≡ 0
  other_bit j ne = ⊎_elim (λ (p : (eqb j k ≡ true) × (j ≡ k)). absurd (ne p.1)) (λ (p : (eqb j k ≡ false) × (j ≢ k)). ap bit p.0) (eqb_tells j k)

  need_goes : (o : Option ℕ) → need kept k (go_to o ∷ []) ≡ in_set kept o
  need_goes None = refl
  need_goes (Some n) = refl

  module _ (c : Code) (y : Layout) (carries : Carries c y kept k) where
    -- the work after a place holds what the node before it holds
    pub need_arrive : (place : Place) → Live y place → need kept k (arrive c place) ≡ in_set kept (source place)
    need_arrive place live =
        let next = c.next place in
        let i = carries.entered place live in
        let l = carries.left place live in
        let e = need_goes next in
        let a = need_ops (c.ops place) (go_to next ∷ []) (omega arith) in
        omega arith

    -- after an enter the frame holds
    entered_left : (of : FnId) (last : Place) (rest : List Item) (j : LockId) → j.number ≡ k → (b : Between c y of last (item.Op (Enter j) ∷ rest)) (left : List Op)
        → b.left ≡ left → 0 < need kept k rest
    entered_left of last rest j same b [] is = no (c.next last) (b.rest ∙ ap (λ l. map item.Op l ++ go_to (c.next last) ∷ []) is)
      where
        no : (next : Option ℕ) → item.Op (Enter j) ∷ rest ≡ go_to next ∷ [] → 0 < need kept k rest
        no None e = cc
        no (Some n) e = cc
    entered_left of last rest j same b (p ∷ left) is =
        let next = c.next last in
        let e : item.Op (Enter j) ∷ rest ≡ map item.Op (p ∷ left) ++ go_to next ∷ [] = b.rest ∙ ap (λ l. map item.Op l ++ go_to next ∷ []) is in
        let pe : Enter j ≡ p = cc in
        let re : rest ≡ map item.Op left ++ go_to next ∷ [] = cc in
        let i = carries.entered last b.live in
        let l = carries.left last b.live in
        let one = own_bit j.number same in
        let ei : enters k (c.ops last) ≡ enters k b.passed + (bit (j.number == k) + enters k left) =
        ap (enters k) (sym b.ops ∙ ap (λ x. b.passed ++ x) (is ∙ ap (λ x. x ∷ left) (sym pe))) ∙ enters_append b.passed (Enter j ∷ left) in
        let g = need_goes next in
        let s = set_below next in
        let a = need_ops left (go_to next ∷ []) (omega arith) in
        subst (λ x. 0 < need kept k x) (sym re) (omega arith)

    -- what holds of each thread, by the owners of locks
    pub record Fits (locks : List (Option ℕ)) (t : ℕ) (th : Thread) : Type 0 where
      pub sized : k < length th.held
      pub depth : get_or th.held k 0 ≡ needs kept k th.frames
      pub owner : 0 < get_or th.held k 0 → get_or locks k None ≡ Some t

    pub record Fit (s : Configuration) : Type 0 where
      pub lock : k < length s.locks
      pub each : Each (Fits s.locks) s.threads

    -- where one thread is changed and no lock is
    changed : (s next : Configuration) (t : ℕ) (new : Thread) → Fit s → next.locks ≡ s.locks → next.threads ≡ set s.threads t new → Fits s.locks t new → Fit next
    changed s next t new fit locks threads here = record {
      lock = subst (λ l. k < length l) (sym locks) fit.lock;
      each = subst (λ l. Each (Fits l) next.threads) (sym locks)
          (subst (λ ths. Each (Fits s.locks) ths) (sym threads) (each_set (Fits s.locks) (Fits s.locks) s.threads t new fit.each here (λ u other ne o. o)));
    }

    -- a thread whose frames change, and hold as often
    with_same : (locks : List (Option ℕ)) (t : ℕ) (th : Thread) (gs : List Frame) → Fits locks t th → needs kept k gs ≡ needs kept k th.frames → Fits locks t (with_frames th gs)
    with_same locks t th gs f e = record { sized = f.sized; depth = f.depth ∙ sym e; owner = f.owner }

    -- operations
    module _ (s : Configuration) (t : ℕ) (th : Thread) (fit : Fit s) (stands : slice_get s.threads t ≡ Some th) (gs : List Frame) (n b : ℕ)
        (after : needs kept k gs ≡ n + b) where
      abbrev popped : Thread
      popped = with_frames th gs

      mine : Fits s.locks t th
      mine = fit.each.at t th stands

      enter_fits : (j : LockId) (may : Bool) → may ≡ may_enter (get_or s.locks j.number None) t → get_or th.held k 0 ≡ (n - bit (j.number == k)) + b
          → (j.number ≡ k → 0 < n) → (late : Bool) → Kept (Timely k) Fit (enter s t popped j late may)
      enter_fits j true can was holds false = λ timely. ⊎_elim same other (eqb_tells j.number k)
        where
          same : (eqb j.number k ≡ true) × (j.number ≡ k) → Fit (record (with_thread s t (record popped { held = set th.held j.number (get_or th.held j.number 0 + 1) })) { locks = set s.locks j.number (Some t) })
          same e =
              let w = mine.sized in
              let one = own_bit j.number e.1 in
              let up = holds e.1 in
              let g : get_or (set th.held j.number (get_or th.held j.number 0 + 1)) k 0 ≡ get_or th.held j.number 0 + 1 =
              get_or-set_at th.held j.number k (get_or th.held j.number 0 + 1) 0 (sym e.1) (subst (λ i. i < length th.held) (sym e.1) w) in
              let h : get_or th.held j.number 0 ≡ get_or th.held k 0 = ap (λ i. get_or th.held i 0) e.1 in
              let l : get_or (set s.locks j.number (Some t)) k None ≡ Some t =
              get_or-set_at s.locks j.number k (Some t) None (sym e.1) (subst (λ i. i < length s.locks) (sym e.1) fit.lock) in
              record {
                lock = subst (λ x. k < x) (sym (length-set s.locks j.number (Some t))) fit.lock;
                each = each_set (Fits s.locks) (Fits (set s.locks j.number (Some t))) s.threads t _ fit.each
                    (record { sized = subst (λ x. k < x) (sym (length-set th.held j.number (get_or th.held j.number 0 + 1))) w; depth = omega arith; owner = λ _. l })
                    (λ u x ne f. record { sized = f.sized; depth = f.depth; owner = λ deep. absurd (taken u ne (f.owner deep) e.1 (get_or s.locks j.number None) refl) });
              }
            where
              taken : (u : ℕ) → u ≢ t → get_or s.locks k None ≡ Some u → j.number ≡ k → (o : Option ℕ) → get_or s.locks j.number None ≡ o → ⊥
              taken u ne owned e None is = let c2 : get_or s.locks j.number None ≡ get_or s.locks k None = ap (λ i. get_or s.locks i None) e in cc
              taken u ne owned e (Some v) is =
                  let c2 : get_or s.locks j.number None ≡ get_or s.locks k None = ap (λ i. get_or s.locks i None) e in
                  let uv : v ≡ u = cc in
                  let vt : (v == t) ≡ true = sym (can ∙ ap (λ o. may_enter o t) is) in
                  ⊎_elim (λ (p : (eqb v t ≡ true) × (v ≡ t)). ne (sym uv ∙ p.1)) (λ (p : (eqb v t ≡ false) × (v ≢ t)). differ (sym vt ∙ p.0)) (eqb_tells v t)
                where
                  differ : true ≡ false → ⊥
                  differ d = cc

          other : (eqb j.number k ≡ false) × (j.number ≢ k) → Fit (record (with_thread s t (record popped { held = set th.held j.number (get_or th.held j.number 0 + 1) })) { locks = set s.locks j.number (Some t) })
          other e =
              let none = other_bit j.number e.1 in
              let g = get_or-set_other th.held j.number k (get_or th.held j.number 0 + 1) 0 (λ x. e.1 (sym x)) in
              let l = get_or-set_other s.locks j.number k (Some t) None (λ x. e.1 (sym x)) in
              record {
                lock = subst (λ x. k < x) (sym (length-set s.locks j.number (Some t))) fit.lock;
                each = each_set (Fits s.locks) (Fits (set s.locks j.number (Some t))) s.threads t _ fit.each
                    (record {
                      sized = subst (λ x. k < x) (sym (length-set th.held j.number (get_or th.held j.number 0 + 1))) mine.sized;
                      depth = omega arith;
                      owner = λ deep. l ∙ mine.owner (subst (λ x. 0 < x) g deep);
                    })
                    (λ u x ne f. record { sized = f.sized; depth = f.depth; owner = λ deep. l ∙ f.owner deep });
              }
      enter_fits j false can was holds true = λ timely.
          let none = other_bit j.number timely in
          changed s _ t (record popped { missed = _ }) fit refl refl (record { sized = mine.sized; depth = omega arith; owner = mine.owner })
      enter_fits j false can was holds false = tt
      enter_fits j true can was holds true = tt

      -- an operation that touches no lock
      plain_fits : (next : Configuration) → next.locks ≡ s.locks → next.threads ≡ set s.threads t popped → get_or th.held k 0 ≡ n + b → Fit next
      plain_fits next locks threads was = changed s next t popped fit locks threads (record { sized = mine.sized; depth = was ∙ sym after; owner = mine.owner })

      leave_fits : (j : LockId) (h m : ℕ) → get_or th.held j.number 0 ≡ h → get_or th.held k 0 ≡ (bit (j.number == k) + n) + b → Fit (leave s t popped j h m)
      leave_fits j (suc d) m deep was = ⊎_elim same other (eqb_tells j.number k)
        where
          left_owner : (x : ℕ) → 0 < x → owner_after t x ≡ Some t
          left_owner zero pos = absurd (omega arith)
          left_owner (suc x) pos = refl

          same : (eqb j.number k ≡ true) × (j.number ≡ k) → Fit (leave s t popped j (suc d) m)
          same e =
              let w = mine.sized in
              let one = own_bit j.number e.1 in
              let g : get_or (set th.held j.number d) k 0 ≡ d = get_or-set_at th.held j.number k d 0 (sym e.1) (subst (λ i. i < length th.held) (sym e.1) w) in
              let h : get_or th.held j.number 0 ≡ get_or th.held k 0 = ap (λ i. get_or th.held i 0) e.1 in
              let l : get_or (set s.locks j.number (owner_after t d)) k None ≡ owner_after t d =
              get_or-set_at s.locks j.number k (owner_after t d) None (sym e.1) (subst (λ i. i < length s.locks) (sym e.1) fit.lock) in
              let own : get_or s.locks k None ≡ Some t = mine.owner (omega arith) in
              record {
                lock = subst (λ x. k < x) (sym (length-set s.locks j.number (owner_after t d))) fit.lock;
                each = each_set (Fits s.locks) (Fits (set s.locks j.number (owner_after t d))) s.threads t (record popped { held = set th.held j.number d }) fit.each
                    (record {
                      sized = subst (λ x. k < x) (sym (length-set th.held j.number d)) w;
                      depth = omega arith;
                      owner = λ up. l ∙ left_owner d (subst (λ x. 0 < x) g up);
                    })
                    (λ u x ne f. record { sized = f.sized; depth = f.depth; owner = λ up. absurd (ne (let o = f.owner up in cc)) });
              }

          other : (eqb j.number k ≡ false) × (j.number ≢ k) → Fit (leave s t popped j (suc d) m)
          other e =
              let none = other_bit j.number e.1 in
              let g = get_or-set_other th.held j.number k d 0 (λ x. e.1 (sym x)) in
              let l = get_or-set_other s.locks j.number k (owner_after t d) None (λ x. e.1 (sym x)) in
              record {
                lock = subst (λ x. k < x) (sym (length-set s.locks j.number (owner_after t d))) fit.lock;
                each = each_set (Fits s.locks) (Fits (set s.locks j.number (owner_after t d))) s.threads t (record popped { held = set th.held j.number d }) fit.each
                    (record {
                      sized = subst (λ x. k < x) (sym (length-set th.held j.number d)) mine.sized;
                      depth = omega arith;
                      owner = λ up. l ∙ mine.owner (subst (λ x. 0 < x) g up);
                    })
                    (λ u x ne f. record { sized = f.sized; depth = f.depth; owner = λ up. l ∙ f.owner up });
              }
      leave_fits j zero m deep was = ⊎_elim same other (eqb_tells j.number k)
        where
          idle : (missed : List ℕ) → j.number ≢ k → Fits s.locks t (record popped { missed = missed })
          idle missed ne = let none = other_bit j.number ne in record { sized = mine.sized; depth = omega arith; owner = mine.owner }

          by_missed : (m : ℕ) → j.number ≢ k → Fit (leave s t popped j zero m)
          by_missed (suc m) ne = changed s _ t (record popped { missed = set th.missed j.number m }) fit refl refl (idle (set th.missed j.number m) ne)
          by_missed zero ne = changed s _ t popped fit refl refl (idle th.missed ne)

          same : (eqb j.number k ≡ true) × (j.number ≡ k) → Fit (leave s t popped j zero m)
          same e =
              let one = own_bit j.number e.1 in
              let h : get_or th.held j.number 0 ≡ get_or th.held k 0 = ap (λ i. get_or th.held i 0) e.1 in
              absurd (omega arith)

          other : (eqb j.number k ≡ false) × (j.number ≢ k) → Fit (leave s t popped j zero m)
          other e = by_missed m e.1

      wait_fits : (j : OrderId) (late ready : Bool) → get_or th.held k 0 ≡ n + b → Kept (Timely k) Fit (wait s t popped j late ready)
      wait_fits j false true was = λ timely. plain_fits _ refl refl was
      wait_fits j true false was = λ timely. plain_fits _ refl refl was
      wait_fits j false false was = tt
      wait_fits j true true was = tt

      token_fits : (j : OrderId) (x : ℕ) → get_or th.held k 0 ≡ n + b → Fit (token_taken (with_thread s t popped) j x)
      token_fits j zero was = plain_fits (token_taken (with_thread s t popped) j zero) refl refl was
      token_fits j (suc x) was = plain_fits (token_taken (with_thread s t popped) j (suc x)) refl refl was

      -- whether the enter of an operation raises what the frame holds
      abbrev Raises : Op → Type 0
      Raises (Enter j) = j.number ≡ k → 0 < n
      Raises _ = Unit {0}

      operate_fits : (late : Bool) (o : Op) → Raises o → get_or th.held k 0 ≡ need_op k o n + b → Kept (Timely k) Fit (operate s t popped late o)
      operate_fits late (Enter j) raises was = enter_fits j (may_enter (get_or s.locks j.number None) t) refl was raises late
      operate_fits late (Wait j) raises was = wait_fits j late (no_token (slice_index s.tokens j.number) || slice_index_or s.flags j.number false) was
      operate_fits true (Leave j) raises was = tt
      operate_fits true (First j) raises was = tt
      operate_fits true (Done j) raises was = tt
      operate_fits true (Add j) raises was = tt
      operate_fits false (Leave j) raises was = λ timely. leave_fits j (get_or th.held j.number 0) (slice_index th.missed j.number) refl was
      operate_fits false (First j) raises was = λ timely. plain_fits _ refl refl was
      operate_fits false (Done j) raises was = λ timely. token_fits j (slice_index s.tokens j.number) was
      operate_fits false (Add j) raises was = λ timely. plain_fits _ refl refl was

    module _ (laid : IsLaidOut c y) where
      abbrev Shapes : Configuration → Type 0
      Shapes s = Framed c (Shaped c y laid) (Any c y laid) s

      -- during a visit a frame holds what its node says, whatever its work is
      visiting : (of : FnId) (visit : Option NodeId) (last : Place) (vs : List ℤ) (i : Item) (rest work : List Item) → (GoesOn i → ⊥)
          → Stands c y of visit last vs (i ∷ rest) → need_of kept k visit work ≡ need_of kept k visit (i ∷ rest)
      visiting of None last vs i rest work never h = absurd (never (between_goes c y of last (i ∷ rest) h))
      visiting of (Some n) last vs i rest work never h = refl

      -- an operation stands first: the frame is in no visit
      pub record OpFirst (visit : Option NodeId) (o : Op) (rest : List Item) : Type 0 where
        pub before : need_of kept k visit (item.Op o ∷ rest) ≡ need_op k o (need kept k rest)
        pub behind : need_of kept k visit rest ≡ need kept k rest
        pub raises : (j : LockId) → o ≡ Enter j → j.number ≡ k → 0 < need kept k rest

      op_first : (of : FnId) (visit : Option NodeId) (last : Place) (vs : List ℤ) (o : Op) (rest : List Item)
          → Stands c y of visit last vs (item.Op o ∷ rest) → OpFirst visit o rest
      op_first of (Some n) last vs o rest h = absurd h.does
      op_first of None last vs o rest h = record {
        before = refl;
        behind = refl;
        raises = λ j is same.
            let here : Between c y of last (item.Op (Enter j) ∷ rest) = subst (λ x. Between c y of last (item.Op x ∷ rest)) is h in
            entered_left of last rest j same here here.left refl;
      }

      raised : (n : ℕ) (o : Op) → ((j : LockId) → o ≡ Enter j → j.number ≡ k → 0 < n) → (s : Configuration) (t : ℕ) (th : Thread) (fit : Fit s)
          (stands : slice_get s.threads t ≡ Some th) (gs : List Frame) (b : ℕ) (after : needs kept k gs ≡ n + b) → get_or th.held k 0 ≡ need_op k o n + b
          → (late : Bool) → Kept (Timely k) Fit (operate s t (with_frames th gs) late o)
      raised n (Enter j) up s t th fit stands gs b after was late = operate_fits s t th fit stands gs n b after late (Enter j) (up j refl) was
      raised n (Leave j) up s t th fit stands gs b after was late = operate_fits s t th fit stands gs n b after late (Leave j) tt was
      raised n (First j) up s t th fit stands gs b after was late = operate_fits s t th fit stands gs n b after late (First j) tt was
      raised n (Done j) up s t th fit stands gs b after was late = operate_fits s t th fit stands gs n b after late (Done j) tt was
      raised n (Wait j) up s t th fit stands gs b after was late = operate_fits s t th fit stands gs n b after late (Wait j) tt was
      raised n (Add j) up s t th fit stands gs b after was late = operate_fits s t th fit stands gs n b after late (Add j) tt was

      get_set : (ths : List Thread) (t : ℕ) (th new : Thread) → slice_get ths t ≡ Some th → slice_get (set ths t new) t ≡ Some new
      get_set [] t th new is = cc
      get_set (x ∷ ths) zero th new is = refl
      get_set (x ∷ ths) (suc t) th new is = get_set ths t th new is

      -- the place that a frame came to is live
      live_next : (s next : Configuration) (t : ℕ) (th : Thread) (f : Frame) (vs : List ℤ) (rest : List Item) (place : Place) (below : List Frame)
          → slice_get s.threads t ≡ Some th
          → next.threads ≡ set s.threads t (with_frames th (pass c (with_values (with_work f rest) vs) place ∷ below)) → Shapes next → Live y place
      live_next s next t th f vs rest place below stands threads shapes =
          let new : Thread = with_frames th (pass c (with_values (with_work f rest) vs) place ∷ below) in
          let at : slice_get next.threads t ≡ Some new = ap (λ ths. slice_get ths t) threads ∙ get_set s.threads t th new stands in
          (shapes.at t new at).0.stands.live

      source_passed : (n : NodeId) (place : Place) (g : Move) → Passes n place g → in_set kept (source place) ≡ bit (kept n.number)
      source_passed n place (move.Branch b) h = ap (λ p. in_set kept (source p)) h.1.1 ∙ branch_source h.1.0
        where
          branch_source : (nought : Bool) → in_set kept (source (branch_place n nought)) ≡ bit (kept n.number)
          branch_source true = refl
          branch_source false = refl
      source_passed n place (move.Edge b) h = ap (λ p. in_set kept (source p)) h.1
      source_passed n place (move.Node b) h = absurd h
      source_passed n place move.Exit h = absurd h

      passing : (of : FnId) (visit : Option NodeId) (last : Place) (vs : List ℤ) (n : NodeId) (place : Place) (g : Move) (rest : List Item) → Passes n place g
          → Stands c y of visit last vs (item.Go g ∷ rest) → need_of kept k visit (item.Go g ∷ rest) ≡ bit (kept n.number)
      passing of None last vs n place (move.Branch b) rest p h = absurd (between_goes c y of last (item.Go (move.Branch b) ∷ rest) h)
      passing of None last vs n place (move.Edge b) rest p h = absurd (between_goes c y of last (item.Go (move.Edge b) ∷ rest) h)
      passing of None last vs n place (move.Node b) rest p h = absurd p
      passing of None last vs n place move.Exit rest p h = absurd p
      passing of (Some v) last vs n place (move.Branch b) rest p h = ap (λ x. bit (kept x)) (sym h.does.0 ∙ ap (λ x. x.number) p.0)
      passing of (Some v) last vs n place (move.Edge b) rest p h = ap (λ x. bit (kept x)) (sym h.does.0 ∙ ap (λ x. x.number) p.0)
      passing of (Some v) last vs n place (move.Node b) rest p h = absurd p
      passing of (Some v) last vs n place move.Exit rest p h = absurd p

      beginning : (of : FnId) (visit : Option NodeId) (last : Place) (vs : List ℤ) (n : NodeId) (rest : List Item)
          → Stands c y of visit last vs (item.Go (move.Node n) ∷ rest) → need_of kept k visit (item.Go (move.Node n) ∷ rest) ≡ bit (kept n.number)
      beginning of None last vs n rest h = refl
      beginning of (Some v) last vs n rest h = absurd h.does

      leaving : (of : FnId) (visit : Option NodeId) (last : Place) (vs : List ℤ) (rest : List Item)
          → Stands c y of visit last vs (item.Go move.Exit ∷ rest) → need_of kept k visit (item.Go move.Exit ∷ rest) ≡ 0
      leaving of None last vs rest h = refl
      leaving of (Some v) last vs rest h = absurd h.does

      new_fits : (serial g : ℕ) (args : List ℤ) → needs kept k (frame_of c serial g args ∷ []) ≡ 0
      new_fits serial g args = let e = need_arrive (Start (record { number = g })) tt in omega arith

      -- one step
      step_fits : (s next : Configuration) (t : ℕ) (late : Bool) (ev : Event) → k < c.locks → Fit s → Shapes s → Shapes next → Timely k ev
          → (th : Thread) (f : Frame) (below : List Frame) → slice_get s.threads t ≡ Some th → th.frames ≡ f ∷ below → Change c s t late th f below next ev → Fit next
      step_fits s next t late ev few fit shapes later timely th f below stands top change = by_change change
        where
          mine : Fits s.locks t th
          mine = fit.each.at t th stands

          shape : (work : List Item) → f.work ≡ work → Stands c y f.of f.visit f.last f.values work
          shape work at =
              let all : AllFrames c (Shaped c y laid) (Any c y laid) s.made t (f ∷ below) = subst (AllFrames c (Shaped c y laid) (Any c y laid) s.made t) top (shapes.at t th stands) in
              subst (Stands c y f.of f.visit f.last f.values) at all.0.stands

          holds : (work : List Item) → f.work ≡ work → needs kept k th.frames ≡ need_of kept k f.visit work + needs kept k below
          holds work at = ap (needs kept k) top ∙ ap (λ w. need_of kept k f.visit w + needs kept k below) at

          -- the frames of the thread are others that hold as often
          same_fits : (next : Configuration) (gs : List Frame) (made : ℕ) → Beside s next (set s.threads t (with_frames th gs)) made → needs kept k gs ≡ needs kept k th.frames → Fit next
          same_fits next gs made b e = changed s next t (with_frames th gs) fit b.locks b.threads (with_same s.locks t th gs mine e)

          by_change : Change c s t late th f below next ev → Fit next
          by_change (IsTrapped b plain) = record {
            lock = subst (λ l. k < length l) (sym b.locks) fit.lock;
            each = subst (λ l. Each (Fits l) next.threads) (sym b.locks) (subst (Each (Fits s.locks)) (sym b.threads) fit.each);
          }
          by_change (IsOperated o rest at goes) =
              let first = op_first f.of f.visit f.last f.values o rest (shape (item.Op o ∷ rest) at) in
              let gs : List Frame = with_work f rest ∷ below in
              let was : get_or th.held k 0 ≡ need_op k o (need kept k rest) + needs kept k below =
              mine.depth ∙ (holds (item.Op o ∷ rest) at ∙ ap (λ x. x + needs kept k below) first.before) in
              let done : Kept (Timely k) Fit (operate s t (with_frames th gs) late o) =
              raised (need kept k rest) o first.raises s t th fit stands gs (needs kept k below) (ap (λ x. x + needs kept k below) first.behind) was late in
              let kept_here : Kept (Timely k) Fit (Some (next, ev)) = subst (Kept (Timely k) Fit) goes done in
              kept_here timely
          by_change (IsReduced r rest g at is b plain) =
              let same = reduced_follows c (with_work f rest) g r is in
              same_fits next (g ∷ below) s.made b
              (ap (λ v. need_of kept k v g.work + needs kept k below) same.visit
              ∙ (ap (λ x. x + needs kept k below) (visiting f.of f.visit f.last f.values (item.Reduce r) rest g.work (λ x. x) (shape (item.Reduce r ∷ rest) at))
              ∙ sym (holds (item.Reduce r ∷ rest) at)))
          by_change (IsActed a rest vs at simple b plain) =
              same_fits next (with_values (with_work f rest) vs ∷ below) s.made b
              (ap (λ x. x + needs kept k below) (visiting f.of f.visit f.last f.values (item.Act a) rest rest (λ x. x) (shape (item.Act a ∷ rest) at))
              ∙ sym (holds (item.Act a ∷ rest) at))
          by_change (IsJoined a rest vs n other at simple there b plain) =
              let gs : List Frame = with_values (with_work f rest) vs ∷ below in
              let his = fit.each.at n other there in
              let e : needs kept k gs ≡ needs kept k th.frames =
              ap (λ x. x + needs kept k below) (visiting f.of f.visit f.last f.values (item.Act a) rest rest (λ x. x) (shape (item.Act a ∷ rest) at))
              ∙ sym (holds (item.Act a ∷ rest) at) in
              let first : Each (Fits s.locks) (set s.threads n (record other { joined = true })) =
              each_set (Fits s.locks) (Fits s.locks) s.threads n (record other { joined = true }) fit.each (record { sized = his.sized; depth = his.depth; owner = his.owner }) (λ u x ne o. o) in
              let second : Each (Fits s.locks) (set (set s.threads n (record other { joined = true })) t (with_frames th gs)) =
              each_set (Fits s.locks) (Fits s.locks) (set s.threads n (record other { joined = true })) t (with_frames th gs) first (with_same s.locks t th gs mine e) (λ u x ne o. o) in
              record {
                lock = subst (λ l. k < length l) (sym b.locks) fit.lock;
                each = subst (λ l. Each (Fits l) next.threads) (sym b.locks) (subst (Each (Fits s.locks)) (sym b.threads) second);
              }
          by_change (IsCreated target g rest vs hs args at b plain) =
              let top : Frame = record (with_work f rest) { values = vs; handles = hs } in
              let e : needs kept k (top ∷ below) ≡ needs kept k th.frames =
              ap (λ x. x + needs kept k below) (visiting f.of f.visit f.last f.values (item.Act (action.Create target g)) rest rest (λ x. x) (shape (item.Act (action.Create target g) ∷ rest) at))
              ∙ sym (holds (item.Act (action.Create target g) ∷ rest) at) in
              let new : Thread = thread_of c (frame_of c s.made g.number args) in
              let none : get_or (replicate c.locks 0) k 0 ≡ 0 = get_or-replicate {A = ℕ} c.locks k 0 0 few in
              let first : Each (Fits s.locks) (set s.threads t (with_frames th (top ∷ below))) =
              each_set (Fits s.locks) (Fits s.locks) s.threads t (with_frames th (top ∷ below)) fit.each (with_same s.locks t th (top ∷ below) mine e) (λ u x ne o. o) in
              let second : Each (Fits s.locks) (set s.threads t (with_frames th (top ∷ below)) ++ new ∷ []) =
              each_push (Fits s.locks) (set s.threads t (with_frames th (top ∷ below))) new first (record {
                sized = subst (λ x. k < x) (sym (length-replicate {A = ℕ} c.locks 0)) few;
                depth = none ∙ sym (new_fits s.made g.number args);
                owner = λ up. absurd (nothing (subst (λ x. 0 < x) none up));
              }) in
              record {
                lock = subst (λ l. k < length l) (sym b.locks) fit.lock;
                each = subst (λ l. Each (Fits l) next.threads) (sym b.locks) (subst (Each (Fits s.locks)) (sym b.threads) second);
              }
          by_change (IsCalled g rest args vs at b plain) =
              let e : need_of kept k f.visit rest + needs kept k below ≡ needs kept k th.frames =
              ap (λ x. x + needs kept k below) (visiting f.of f.visit f.last f.values (item.Act (action.Call g)) rest rest (λ x. x) (shape (item.Act (action.Call g) ∷ rest) at))
              ∙ sym (holds (item.Act (action.Call g) ∷ rest) at) in
              let new = new_fits s.made g.number args in
              same_fits next (frame_of c s.made g.number args ∷ with_values (with_work f rest) vs ∷ below) (s.made + 1) b (omega arith)
          by_change (IsBegun n rest at b is) =
              same_fits next (record (with_work f rest) { visit = Some n; values = []; work = c.items n.number } ∷ below) s.made b
              (ap (λ x. x + needs kept k below) (sym (beginning f.of f.visit f.last f.values n rest (shape (item.Go (move.Node n) ∷ rest) at)))
              ∙ sym (holds (item.Go (move.Node n) ∷ rest) at))
          by_change (IsPassed n g place rest vs at passes b plain) =
              let live : Live y place = live_next s next t th f vs rest place below stands b.threads later in
              let old = passing f.of f.visit f.last f.values n place g rest passes (shape (item.Go g ∷ rest) at) in
              same_fits next (pass c (with_values (with_work f rest) vs) place ∷ below) s.made b
              (ap (λ x. x + needs kept k below) (need_arrive place live ∙ (source_passed n place g passes ∙ sym old)) ∙ sym (holds (item.Go g ∷ rest) at))
          by_change (IsReturned rest g under v at is b plain) =
              let none = leaving f.of f.visit f.last f.values rest (shape (item.Go move.Exit ∷ rest) at) in
              let h = holds (item.Go move.Exit ∷ rest) at in
              let l : needs kept k below ≡ need_of kept k g.visit g.work + needs kept k under = ap (needs kept k) is in
              same_fits next (with_values g (v ∷ g.values) ∷ under) s.made b (omega arith)
          by_change (IsExited rest at is b plain) =
              let none = leaving f.of f.visit f.last f.values rest (shape (item.Go move.Exit ∷ rest) at) in
              let h = holds (item.Go move.Exit ∷ rest) at in
              let l : needs kept k below ≡ 0 = ap (needs kept k) is in
              same_fits next [] s.made b (omega arith)

      -- all that holds of a configuration
      pub record Good (s : Configuration) : Type 0 where
        pub fit : Fit s
        pub shapes : Shapes s

      abbrev pub TimelyStep : Seen → Type 0
      TimelyStep m = Timely k m.event

      good_if : (s : Configuration) (e : Entry) (made : Made) → k < c.locks → Good s → IsTold c s e.thread e.timeout made
          → Kept (at_event (GoodStep c (Shaped c y laid) (Any c y laid)) e (frames_at (slice_get s.threads e.thread))) Shapes made
          → Kept (at_event TimelyStep e (frames_at (slice_get s.threads e.thread))) Good made
      good_if s e None few good told shaped = tt
      good_if s e (Some (next, ev)) few good told shaped = λ timely. record {
        fit = step_fits s next e.thread e.timeout ev few good.fit good.shapes (shaped tt) timely told.thread told.frame told.below told.stands told.top told.change;
        shapes = shaped tt;
      }

      pub good_step : k < c.locks → (s : Configuration) (e : Entry) → Good s → Kept (at_event TimelyStep e (frames_at (slice_get s.threads e.thread))) Good (step c s e)
      good_step few s e good = good_if s e (step c s e) few good (step_tells c s e) (framed_step c (Shaped c y laid) (Any c y laid) (keeps_shape c y laid) s e good.shapes)

      -- a run without timeouts of the lock
      pub good_run : k < c.locks → (es : List Entry) (s : Configuration) → Good s → KeptByRun TimelyStep Good (run_from c s es)
      good_run few es s good = run_keeps c TimelyStep Good (good_step few) es s good

      pub good_start : k < c.locks → (input : List ℤ) → Good (start c input)
      good_start few input =
          let none : get_or (replicate c.locks 0) k 0 ≡ 0 = get_or-replicate {A = ℕ} c.locks k 0 0 few in
          let new : Thread = thread_of c (frame_of c 0 c.main []) in
          let empty : Each (Fits (start c input).locks) [] = record { at = λ t th e. cc } in
          let bare : Each (ThreadFrames c (Shaped c y laid) (Any c y laid) 1) [] = record { at = λ t th e. cc } in
          record {
            fit = record {
              lock = subst (λ x. k < x) (sym (length-replicate {A = Option ℕ} c.locks None)) few;
              each = each_push (Fits (start c input).locks) [] new empty (record {
                sized = subst (λ x. k < x) (sym (length-replicate {A = ℕ} c.locks 0)) few;
                depth = none ∙ sym (new_fits 0 c.main []);
                owner = λ up. absurd (nothing (subst (λ x. 0 < x) none up));
              });
            };
            shapes = each_push (ThreadFrames c (Shaped c y laid) (Any c y laid) 1) [] new bare
                (record { stands = arrived c y (frame_of c 0 c.main []).of (Start (frame_of c 0 c.main []).of) tt refl; under = laid.main }, tt);
          }

      -- some frame visits a node of the set
      abbrev pub AtSet : Option NodeId → Type 0
      AtSet None = ⊥
      AtSet (Some n) = kept n.number ≡ true

      abbrev pub AnyVisit : List Frame → Type 0
      AnyVisit [] = ⊥
      AnyVisit (f ∷ below) = AtSet f.visit ⊎ AnyVisit below

      one_at : (visit : Option NodeId) (work : List Item) → AtSet visit → need_of kept k visit work ≡ 1
      one_at None work h = absurd h
      one_at (Some n) work h = ap bit h

      -- a frame at a node of the set holds the lock, so no two threads have one
      visits_hold : (fs : List Frame) → AnyVisit fs → 0 < needs kept k fs
      visits_hold [] h = absurd h
      visits_hold (f ∷ below) (inl h) = omega (arith, one_at f.visit f.work h)
      visits_hold (f ∷ below) (inr h) = omega (arith, visits_hold below h)

      pub one_inside : (s : Configuration) → Good s → (t u : ℕ) (th other : Thread) → slice_get s.threads t ≡ Some th → slice_get s.threads u ≡ Some other
          → 0 < needs kept k th.frames → 0 < needs kept k other.frames → t ≡ u
      one_inside s good t u th other at there mine his =
          let a = good.fit.each.at t th at in
          let b = good.fit.each.at u other there in
          let x = a.owner (subst (λ n. 0 < n) (sym a.depth) mine) in
          let z = b.owner (subst (λ n. 0 < n) (sym b.depth) his) in
          cc
