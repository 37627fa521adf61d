-- The tokens of an order are the sum of what all frames owe; and where there are none, none come.
use Rattle.std.proofs.Common.{◌≡◌, ◌≢◌, ◌⊎◌, ⊎_elim, inl, inr, ℕ, zero, suc, ◌+◌, ◌-◌, ◌<◌, ◌≤◌, ℤ, Bool, true, false, ◌&&◌, List, [], ◌∷◌, ◌++◌, length, map, set, get_or, Option, Some, None, refl, sym, ap, ◌∙◌, subst, arith}
use Rattle.std.specs.Prelude.{slice_get, slice_index, slice_index_or, ◌==◌, ◌||◌, option_map}
use Rattle.std.proofs.lemmas.Grind.{get_or-set_at}
use Rattle.std.proofs.lemmas.Bool.Decides.{eqb_tells}
use Rattle.std.proofs.lemmas.Option.{slice_get-map, get_or_from_slice_get}
use Rattle.std.proofs.Math.Dec.{eqb}
use Rattle.std.proofs.Math.Seq.{map-set_same}
use Rattle.std.proofs.lemmas.List.{length-set, get_or-set_other, map-set, map-append}
use Rattle.cfix_base.specs.declared.number.NodeId.{NodeId}
use Rattle.cfix_base.specs.declared.number.FnId.{FnId}
use Rattle.cfix_base.specs.declared.number.LockId.{LockId}
use Rattle.cfix_base.specs.declared.number.OrderId.{OrderId}
use Rattle.cfix_base.specs.declared.op.Op.{Op}
use Rattle.cfix_base.specs.declared.op.Op.TheVariants.{Leave, First, Done, Wait, Enter, Add}
use Rattle.cfix_base.specs.declared.place.Place.{Place}
use Rattle.cfix_base.specs.declared.place.Place.TheVariants.{Start}
use Rattle.step_state.specs.declared.event.Event.{Event}
use Rattle.step_state.specs.declared.item.Item.{Item}
use Rattle.step_state.specs.declared.item.Item.TheVariants as item
use Rattle.step_state.specs.declared.item.Action.{Action}
use Rattle.step_state.specs.declared.item.Action.TheVariants as action
use Rattle.step_state.specs.declared.item.Move.{Move}
use Rattle.step_state.specs.declared.item.Move.TheVariants as move
use Rattle.step_state.specs.declared.item.Reduction.{Reduction}
use Rattle.step_state.specs.declared.item.Reduction.TheVariants as reduction
use Rattle.step_state.specs.declared.item.Operand.{Operand}
use Rattle.step_state.specs.declared.item.HandleSite.{HandleSite}
use Rattle.step_state.specs.declared.frame.Frame.{Frame}
use Rattle.step_state.specs.declared.thread.Thread.{Thread}
use Rattle.step_state.specs.declared.state.Configuration.{Configuration}
use Rattle.step_state.specs.Code.{Code, go_to, fn_id}
use Rattle.step_state.specs.Changes.{frame_of, thread_of, with_frames, with_thread, with_work, with_values, pass}
use Rattle.step_state.specs.Operate.{may_enter, enter, leave, no_token, wait, operate, token_taken}
use Rattle.step_state.specs.Step.{branch_place}
use Rattle.layout_laws.specs.Layout.{Layout, Live, Between, Stands, IsLaidOut}
use Rattle.frame_laws.specs.Operands.{operand_in}
use Rattle.lock_laws.specs.Guard.{bit, in_set}
use Rattle.order_laws.specs.Tokens.{adds, first_of, owes, before_set, Signals, to_create, due_op, due_work, due, dues, CreatesOnce}
use Rattle.frame_laws.proofs.Frames.{AllFrames, Framed, Kept}
use Rattle.layout_laws.proofs.Shape.{GoesOn, between_goes, next_is}
use Rattle.frame_laws.proofs.Reduced.{FollowsIn, reduced_follows}
use Rattle.frame_laws.proofs.Change.{Beside, Passes, Simple, Change, IsTrapped, IsOperated, IsReduced, IsActed, IsJoined, IsCreated, IsCalled, IsBegun, IsPassed, IsReturned, IsExited}
use Rattle.order_laws.proofs.Tokens.{Chained, All, front, creates_le, due_goes, due_ops, adds_append, due_arrive}

abbrev CreatesFn : Action → FnId → Type 0
CreatesFn (action.Create target of) g = of ≡ g
CreatesFn _ g = ⊥

module _ (c : Code) (y : Layout) (laid : IsLaidOut c y) (j a b : ℕ) (comes root : ℕ → Bool) (sig : Signals c y j a b comes root) (once : CreatesOnce c y comes) where
  abbrev owe : ℕ → Bool
  owe n = owes comes root n

  abbrev D : Option NodeId → List Item → ℕ
  D visit work = due c y j comes root visit work

  abbrev W : List Item → ℕ
  W work = due_work c y j comes root work

  abbrev Ds : List Frame → ℕ
  Ds fs = dues c y j comes root fs

  -- the frames of all threads
  abbrev pub stacks : List Thread → List (List Frame)
  stacks ths = map (λ th. th.frames) ths

  abbrev pub total : List (List Frame) → ℕ
  total [] = 0
  total (fs ∷ rest) = Ds fs + total rest

  total_set : (fss : List (List Frame)) (t : ℕ) (fs gs : List Frame) → slice_get fss t ≡ Some fs → total (set fss t gs) + Ds fs ≡ total fss + Ds gs
  total_set [] t fs gs e = cc
  total_set (x ∷ fss) zero fs gs e = let q : x ≡ fs = cc in subst (λ z. Ds gs + total fss + Ds z ≡ Ds x + total fss + Ds gs) q (omega arith)
  total_set (x ∷ fss) (suc t) fs gs e = omega (arith, total_set fss t fs gs e)

  total_push : (fss : List (List Frame)) (fs : List Frame) → total (fss ++ fs ∷ []) ≡ total fss + Ds fs
  total_push [] fs = omega arith
  total_push (x ∷ fss) fs = omega (arith, total_push fss fs)

  pub stands_at : (ths : List Thread) (t : ℕ) (th : Thread) → slice_get ths t ≡ Some th → slice_get (stacks ths) t ≡ Some th.frames
  stands_at ths t th is = slice_get-map (λ x. x.frames) ths t ∙ ap (option_map (λ x. x.frames)) is

  -- the sum after one thread's frames were changed
  total_changed : (ths : List Thread) (t : ℕ) (th : Thread) (gs : List Frame) → slice_get ths t ≡ Some th
      → total (stacks (set ths t (with_frames th gs))) + Ds th.frames ≡ total (stacks ths) + Ds gs
  total_changed ths t th gs is =
      ap (λ fss. total fss + Ds th.frames) (map-set (λ x. x.frames) ths t (with_frames th gs)) ∙ total_set (stacks ths) t th.frames gs (stands_at ths t th is)

  pub record Count (s : Configuration) : Type 0 where
    pub sized : j < length s.tokens
    pub tokens : get_or s.tokens j 0 ≡ total (stacks s.threads)

  -- what a step does: the tokens are counted, and none come where there are none
  pub record Next (s next : Configuration) : Type 0 where
    pub count : Count next
    pub none : get_or s.tokens j 0 ≡ 0 → get_or next.tokens j 0 ≡ 0

  own_bit : (i : ℕ) → i ≡ j → bit (i == j) ≡ 1
  own_bit i e = ⊎_elim (λ (q : (eqb i j ≡ true) × (i ≡ j)). ap bit q.0) (λ (q : (eqb i j ≡ false) × (i ≢ j)). absurd (q.1 e)) (eqb_tells i j)

  other_bit : (i : ℕ) → i ≢ j → bit (i == j) ≡ 0
  other_bit i ne = ⊎_elim (λ (q : (eqb i j ≡ true) × (i ≡ j)). absurd (ne q.1)) (λ (q : (eqb i j ≡ false) × (i ≢ j)). ap bit q.0) (eqb_tells i j)

  -- the tokens stay, and so does the sum
  same_next : (s next : Configuration) → Count s → next.tokens ≡ s.tokens → total (stacks next.threads) ≡ total (stacks s.threads) → Next s next
  same_next s next count tokens sum = record {
    count = record {
      sized = subst (λ l. j < length l) (sym tokens) count.sized;
      tokens = ap (λ l. get_or l j 0) tokens ∙ (count.tokens ∙ sym sum);
    };
    none = λ none. ap (λ l. get_or l j 0) tokens ∙ none;
  }

  -- operations of the thread th, whose frames then are gs
  module _ (s : Configuration) (t : ℕ) (th : Thread) (count : Count s) (stands : slice_get s.threads t ≡ Some th) (gs : List Frame) (n below : ℕ)
      (after : Ds gs ≡ n + below) where
    abbrev popped : Thread
    popped = with_frames th gs

    plain_next : (next : Configuration) → next.tokens ≡ s.tokens → stacks next.threads ≡ stacks (set s.threads t popped) → Ds th.frames ≡ n + below → Next s next
    plain_next next tokens threads was =
        let c1 = total_changed s.threads t th gs stands in
        same_next s next count tokens (ap total threads ∙ (omega arith))

    enter_next : (k : LockId) (late may : Bool) → Ds th.frames ≡ n + below → Kept (λ ev. Unit {0}) (Next s) (enter s t popped k late may)
    enter_next k false true was = λ good. plain_next _ refl (frames_only (record popped { held = set th.held k.number (slice_index th.held k.number + 1) }) refl) was
      where
        frames_only : (new : Thread) → new.frames ≡ gs → stacks (set s.threads t new) ≡ stacks (set s.threads t popped)
        frames_only new e = map-set (λ x. x.frames) s.threads t new ∙ (ap (set (stacks s.threads) t) e ∙ sym (map-set (λ x. x.frames) s.threads t popped))
    enter_next k true false was = λ good. plain_next _ refl (frames_only (record popped { missed = set th.missed k.number (slice_index th.missed k.number + 1) }) refl) was
      where
        frames_only : (new : Thread) → new.frames ≡ gs → stacks (set s.threads t new) ≡ stacks (set s.threads t popped)
        frames_only new e = map-set (λ x. x.frames) s.threads t new ∙ (ap (set (stacks s.threads) t) e ∙ sym (map-set (λ x. x.frames) s.threads t popped))
    enter_next k false false was = tt
    enter_next k true true was = tt

    leave_next : (k : LockId) (h g : ℕ) → Ds th.frames ≡ n + below → Next s (leave s t popped k h g)
    leave_next k (suc h) g was = plain_next _ refl (map-set (λ x. x.frames) s.threads t (record popped { held = set th.held k.number h }) ∙ sym (map-set (λ x. x.frames) s.threads t popped)) was
    leave_next k zero (suc g) was = plain_next _ refl (map-set (λ x. x.frames) s.threads t (record popped { missed = set th.missed k.number g }) ∙ sym (map-set (λ x. x.frames) s.threads t popped)) was
    leave_next k zero zero was = plain_next _ refl refl was

    wait_next : (o : OrderId) (late ready : Bool) → Ds th.frames ≡ n + below → Kept (λ ev. Unit {0}) (Next s) (wait s t popped o late ready)
    wait_next o false true was = λ good. plain_next _ refl refl was
    wait_next o true false was = λ good. plain_next _ refl refl was
    wait_next o false false was = tt
    wait_next o true true was = tt

    done_next : (o : OrderId) (x : ℕ) → get_or s.tokens o.number 0 ≡ x → Ds th.frames ≡ (bit (o.number == j) + n) + below → Next s (token_taken (with_thread s t popped) o x)
    done_next o zero has was = ⊎_elim same other (eqb_tells o.number j)
      where
        c1 : total (stacks (set s.threads t popped)) + Ds th.frames ≡ total (stacks s.threads) + Ds gs
        c1 = total_changed s.threads t th gs stands

        same : (eqb o.number j ≡ true) × (o.number ≡ j) → Next s (token_taken (with_thread s t popped) o zero)
        same e =
            let one = own_bit o.number e.1 in
            let k = count.tokens in
            let h : get_or s.tokens o.number 0 ≡ get_or s.tokens j 0 = ap (λ i. get_or s.tokens i 0) e.1 in
            let q = c1 in
            absurd (omega arith)

        other : (eqb o.number j ≡ false) × (o.number ≢ j) → Next s (token_taken (with_thread s t popped) o zero)
        other e = let no_bit = other_bit o.number e.1 in plain_next (token_taken (with_thread s t popped) o zero) refl refl (omega arith)
    done_next o (suc x) has was = ⊎_elim same other (eqb_tells o.number j)
      where
        c1 : total (stacks (set s.threads t popped)) + Ds th.frames ≡ total (stacks s.threads) + Ds gs
        c1 = total_changed s.threads t th gs stands

        same : (eqb o.number j ≡ true) × (o.number ≡ j) → Next s (token_taken (with_thread s t popped) o (suc x))
        same e =
            let one = own_bit o.number e.1 in
            let k = count.tokens in
            let h : get_or s.tokens o.number 0 ≡ get_or s.tokens j 0 = ap (λ i. get_or s.tokens i 0) e.1 in
            let q = c1 in
            let g : get_or (set s.tokens o.number x) j 0 ≡ x = get_or-set_at s.tokens o.number j x 0 (sym e.1) (subst (λ i. i < length s.tokens) (sym e.1) count.sized) in
            record {
              count = record { sized = subst (λ l. j < l) (sym (length-set s.tokens o.number x)) count.sized; tokens = omega arith };
              none = λ none. absurd (omega arith);
            }

        other : (eqb o.number j ≡ false) × (o.number ≢ j) → Next s (token_taken (with_thread s t popped) o (suc x))
        other e =
            let no_bit = other_bit o.number e.1 in
            let k = count.tokens in
            let q = c1 in
            let g = get_or-set_other s.tokens o.number j x 0 (λ z. e.1 (sym z)) in
            record {
              count = record { sized = subst (λ l. j < l) (sym (length-set s.tokens o.number x)) count.sized; tokens = omega arith };
              none = λ none. g ∙ none;
            }

    add_next : (o : OrderId) → (o.number ≡ j → (0 < n) × (0 < total (stacks s.threads))) → Ds th.frames ≡ (n - bit (o.number == j)) + below
        → Next s (record (with_thread s t popped) { tokens = set s.tokens o.number (get_or s.tokens o.number 0 + 1) })
    add_next o holds was = ⊎_elim same other (eqb_tells o.number j)
      where
        c1 : total (stacks (set s.threads t popped)) + Ds th.frames ≡ total (stacks s.threads) + Ds gs
        c1 = total_changed s.threads t th gs stands

        same : (eqb o.number j ≡ true) × (o.number ≡ j) → Next s (record (with_thread s t popped) { tokens = set s.tokens o.number (get_or s.tokens o.number 0 + 1) })
        same e =
            let one = own_bit o.number e.1 in
            let up = (holds e.1).0 in
            let some = (holds e.1).1 in
            let k = count.tokens in
            let q = c1 in
            let h : get_or s.tokens o.number 0 ≡ get_or s.tokens j 0 = ap (λ i. get_or s.tokens i 0) e.1 in
            let g : get_or (set s.tokens o.number (get_or s.tokens o.number 0 + 1)) j 0 ≡ get_or s.tokens o.number 0 + 1 =
            get_or-set_at s.tokens o.number j (get_or s.tokens o.number 0 + 1) 0 (sym e.1) (subst (λ i. i < length s.tokens) (sym e.1) count.sized) in
            record {
              count = record { sized = subst (λ l. j < l) (sym (length-set s.tokens o.number (get_or s.tokens o.number 0 + 1))) count.sized; tokens = omega arith };
              none = λ none. absurd (omega arith);
            }

        other : (eqb o.number j ≡ false) × (o.number ≢ j) → Next s (record (with_thread s t popped) { tokens = set s.tokens o.number (get_or s.tokens o.number 0 + 1) })
        other e =
            let no_bit = other_bit o.number e.1 in
            let k = count.tokens in
            let q = c1 in
            let g = get_or-set_other s.tokens o.number j (get_or s.tokens o.number 0 + 1) 0 (λ z. e.1 (sym z)) in
            record {
              count = record { sized = subst (λ l. j < l) (sym (length-set s.tokens o.number (get_or s.tokens o.number 0 + 1))) count.sized; tokens = omega arith };
              none = λ none. g ∙ none;
            }

    -- whether the add of an operation is of a frame that owes
    abbrev Raises : Op → Type 0
    Raises (Add o) = o.number ≡ j → (0 < n) × (0 < total (stacks s.threads))
    Raises _ = Unit {0}

    operate_next : (late : Bool) (o : Op) → Raises o → Ds th.frames ≡ due_op j o n + below → Kept (λ ev. Unit {0}) (Next s) (operate s t popped late o)
    operate_next late (Enter k) raises was = enter_next k late (may_enter (get_or s.locks k.number None) t) was
    operate_next late (Wait o) raises was = wait_next o late (no_token (slice_index s.tokens o.number) || slice_index_or s.flags o.number false) was
    operate_next true (Leave k) raises was = tt
    operate_next true (First o) raises was = tt
    operate_next true (Done o) raises was = tt
    operate_next true (Add o) raises was = tt
    operate_next false (Leave k) raises was = λ good. leave_next k (slice_index th.held k.number) (slice_index th.missed k.number) was
    operate_next false (First o) raises was = λ good. plain_next _ refl refl was
    operate_next false (Done o) raises was = λ good. done_next o (get_or s.tokens o.number 0) refl was
    operate_next false (Add o) raises was = λ good. add_next o raises was

  abbrev Chains : ℕ → ℕ → List Frame → Type 0
  Chains m t fs = AllFrames c (Chained c y laid j a b comes root sig) (All c y laid j a b comes root sig) m t fs

  abbrev ChainedAll : Configuration → Type 0
  ChainedAll s = Framed c (Chained c y laid j a b comes root sig) (All c y laid j a b comes root sig) s

  -- a frame owes what its node owes
  due_front : (of : FnId) (visit : Option NodeId) (last : Place) (vs : List ℤ) (work : List Item) → Stands c y of visit last vs work
      → in_set owe (front c y laid j a b comes root sig visit last) ≤ D visit work
  due_front of (Some n) last vs work h = omega arith
  due_front of None last vs work h =
      let next = c.next last in
      let sum : adds j (c.ops last) ≡ adds j h.passed + adds j h.left = ap (adds j) (sym h.ops) ∙ adds_append c y laid j a b comes root sig h.passed h.left in
      let is = sig.added last h.live in
      let e = due_goes c y laid j a b comes root sig next in
      let x = due_ops c y laid j a b comes root sig h.left (go_to next ∷ []) (omega arith) in
      let le : in_set owe next ≤ W (map item.Op h.left ++ go_to next ∷ []) = omega arith in
      subst (λ w. in_set owe next ≤ W w) (sym h.rest) le

  -- in a root a node owes where it may come
  pub owe_root : (o : Option ℕ) → ((v : ℕ) → o ≡ Some v → root v ≡ true) → in_set owe o ≡ in_set comes o
  owe_root None r = refl
  owe_root (Some v) r = ap (λ x. bit (x && comes v)) (r v refl)

  front_root : (of : FnId) (visit : Option NodeId) (last : Place) (vs : List ℤ) (work : List Item) → Stands c y of visit last vs work → y.is_root of.number ≡ true
      → (v : ℕ) → front c y laid j a b comes root sig visit last ≡ Some v → root v ≡ true
  front_root of (Some n) last vs work h is v e = let same : n.number ≡ v = cc in ap root (sym same) ∙ (sig.roots n.number ∙ (ap y.is_root h.function ∙ is))
  front_root of None last vs work h is v e = sig.roots v ∙ (ap y.is_root (laid.along last v h.live e ∙ h.function) ∙ is)

  -- a thread of which a frame may come to a owes a done
  pub comes_due : (m t : ℕ) (f : Frame) (below : List Frame) → Chains m t (f ∷ below) → 0 < in_set comes (front c y laid j a b comes root sig f.visit f.last) → 0 < Ds (f ∷ below)
  comes_due m t f [] all may =
      let d = due_front f.of f.visit f.last f.values f.work all.0.shape.stands in
      let e = owe_root (front c y laid j a b comes root sig f.visit f.last) (front_root f.of f.visit f.last f.values f.work all.0.shape.stands all.0.shape.under) in
      omega arith
  comes_due m t f (g ∷ below) all may = let l = all.0.link in let r = comes_due m t g below all.1 (omega arith) in omega arith

  pub total_has : (fss : List (List Frame)) (t : ℕ) (fs : List Frame) → slice_get fss t ≡ Some fs → Ds fs ≤ total fss
  total_has [] t fs e = cc
  total_has (x ∷ fss) zero fs e = let q : x ≡ fs = cc in subst (λ z. Ds z ≤ Ds x + total fss) q (omega arith)
  total_has (x ∷ fss) (suc t) fs e = omega (arith, total_has fss t fs e)

  -- an add that stands first is of a frame that then owes, and that may come to a
  added : (of : FnId) (last : Place) (rest : List Item) (o : OrderId) → o.number ≡ j → (h : Between c y of last (item.Op (Add o) ∷ rest)) (left : List Op) → h.left ≡ left
      → (0 < W rest) × (0 < in_set comes (c.next last))
  added of last rest o same h [] is = none (c.next last) (h.rest ∙ ap (λ l. map item.Op l ++ go_to (c.next last) ∷ []) is)
    where
      none : (next : Option ℕ) → item.Op (Add o) ∷ rest ≡ go_to next ∷ [] → (0 < W rest) × (0 < in_set comes (c.next last))
      none None e = cc
      none (Some n) e = cc
  added of last rest o same h (q ∷ left) is =
      let next = c.next last in
      let e : item.Op (Add o) ∷ rest ≡ map item.Op (q ∷ left) ++ go_to next ∷ [] = h.rest ∙ ap (λ l. map item.Op l ++ go_to next ∷ []) is in
      let qe : Add o ≡ q = cc in
      let re : rest ≡ map item.Op left ++ go_to next ∷ [] = cc in
      let one = own_bit o.number same in
      let sum : adds j (c.ops last) ≡ adds j h.passed + (bit (o.number == j) + adds j left) =
      ap (adds j) (sym h.ops ∙ ap (λ x. h.passed ++ x) (is ∙ ap (λ x. x ∷ left) (sym qe))) ∙ adds_append c y laid j a b comes root sig h.passed (Add o ∷ left) in
      let is_added = sig.added last h.live in
      let le = creates_le c y laid j a b comes root sig next in
      let le1 = set_le next in
      let g = due_goes c y laid j a b comes root sig next in
      let x = due_ops c y laid j a b comes root sig left (go_to next ∷ []) (omega arith) in
      (subst (λ w. 0 < W w) (sym re) (omega arith), omega arith)
    where
      bit_one : (x : Bool) → bit x ≤ 1
      bit_one true = omega arith
      bit_one false = omega arith

      set_le : (o : Option ℕ) → in_set comes o ≤ 1
      set_le None = omega arith
      set_le (Some n) = bit_one (comes n)

  pub record OpFirst (visit : Option NodeId) (last : Place) (o : Op) (rest : List Item) : Type 0 where
    pub before : D visit (item.Op o ∷ rest) ≡ due_op j o (W rest)
    pub behind : D visit rest ≡ W rest
    pub raises : (i : OrderId) → o ≡ Add i → i.number ≡ j → (0 < W rest) × (0 < in_set comes (front c y laid j a b comes root sig visit last))

  op_first : (of : FnId) (visit : Option NodeId) (last : Place) (vs : List ℤ) (o : Op) (rest : List Item) → Stands c y of visit last vs (item.Op o ∷ rest) → OpFirst visit last o rest
  op_first of (Some n) last vs o rest h = absurd h.does
  op_first of None last vs o rest h = record {
    before = refl;
    behind = refl;
    raises = λ i is same.
        let here : Between c y of last (item.Op (Add i) ∷ rest) = subst (λ x. Between c y of last (item.Op x ∷ rest)) is h in
        added of last rest i same here here.left refl;
  }

  raised : (n : ℕ) (o : Op) (s : Configuration) (t : ℕ) (th : Thread) (count : Count s) (stands : slice_get s.threads t ≡ Some th) (gs : List Frame) (below : ℕ)
      (after : Ds gs ≡ n + below) → ((i : OrderId) → o ≡ Add i → i.number ≡ j → (0 < n) × (0 < total (stacks s.threads))) → Ds th.frames ≡ due_op j o n + below
      → (late : Bool) → Kept (λ ev. Unit {0}) (Next s) (operate s t (with_frames th gs) late o)
  raised n (Add i) s t th count stands gs below after up was late = operate_next s t th count stands gs n below after late (Add i) (up i refl) was
  raised n (Enter k) s t th count stands gs below after up was late = operate_next s t th count stands gs n below after late (Enter k) tt was
  raised n (Leave k) s t th count stands gs below after up was late = operate_next s t th count stands gs n below after late (Leave k) tt was
  raised n (First i) s t th count stands gs below after up was late = operate_next s t th count stands gs n below after late (First i) tt was
  raised n (Done i) s t th count stands gs below after up was late = operate_next s t th count stands gs n below after late (Done i) tt was
  raised n (Wait i) s t th count stands gs below after up was late = operate_next s t th count stands gs n below after late (Wait i) tt was

  -- visits
  simple_creates : (x : Action) (rest : List Item) → Simple x → to_create c comes (item.Act x ∷ rest) ≡ to_create c comes rest
  simple_creates (action.Get site) rest h = refl
  simple_creates (action.GetKeep site) rest h = refl
  simple_creates (action.Put site) rest h = refl
  simple_creates action.Take rest h = refl
  simple_creates (action.Lock v) rest h = refl
  simple_creates (action.Unlock v) rest h = refl
  simple_creates (action.Create target g) rest h = absurd h
  simple_creates (action.Join target) rest h = refl
  simple_creates (action.Print n args) rest h = refl
  simple_creates (action.Call g) rest h = absurd h
  simple_creates (action.Sleep v w) rest h = refl
  simple_creates (action.Wake v w) rest h = refl
  simple_creates (action.Signal v) rest h = refl
  simple_creates (action.Broadcast v) rest h = refl

  visiting : (of : FnId) (visit : Option NodeId) (last : Place) (vs : List ℤ) (i : Item) (rest work : List Item) → (GoesOn i → ⊥)
      → to_create c comes work ≡ to_create c comes (i ∷ rest) → Stands c y of visit last vs (i ∷ rest) → D visit work ≡ D visit (i ∷ rest)
  visiting of None last vs i rest work never e h = absurd (never (between_goes c y of last (i ∷ rest) h))
  visiting of (Some n) last vs i rest work never e h = ap (λ x. bit (owe n.number) + x) e

  reduced_creates : (f g : Frame) (r : Reduction) (rest : List Item) → FollowsIn c (with_work f rest) g (operand_in r) → to_create c comes g.work ≡ to_create c comes rest
  reduced_creates f g r rest same = pick same.work
    where
      pick : (g.work ≡ rest) ⊎ ((o : Operand) × (operand_in r ≡ Some o) × (g.work ≡ c.operand o ++ item.Reduce reduction.Bool ∷ rest)) → to_create c comes g.work ≡ to_create c comes rest
      pick (inl e) = ap (to_create c comes) e
      pick (inr h) = ap (to_create c comes) h.2 ∙ once.operands h.0 (item.Reduce reduction.Bool ∷ rest)

  -- a visit that begins, and one that ends
  beginning : (of : FnId) (visit : Option NodeId) (last : Place) (vs : List ℤ) (n : NodeId) (rest : List Item) → Stands c y of visit last vs (item.Go (move.Node n) ∷ rest)
      → D (Some n) (c.items n.number) ≡ D visit (item.Go (move.Node n) ∷ rest)
  beginning of (Some k) last vs n rest h = absurd h.does
  beginning of None last vs n rest h =
      ap (λ x. bit (owe n.number) + x) (once.items last n.number h.live (next_is c last n rest h.left (c.next last) h.rest))

  passing : (of : FnId) (visit : Option NodeId) (last : Place) (vs : List ℤ) (n : NodeId) (place : Place) (g : Move) (rest : List Item) → Passes n place g
      → Stands c y of visit last vs (item.Go g ∷ rest) → D visit (item.Go g ∷ rest) ≡ bit (owe n.number)
  passing of None last vs n place (move.Branch k) rest p h = absurd (between_goes c y of last (item.Go (move.Branch k) ∷ rest) h)
  passing of None last vs n place (move.Edge k) rest p h = absurd (between_goes c y of last (item.Go (move.Edge k) ∷ rest) h)
  passing of None last vs n place (move.Node k) rest p h = absurd p
  passing of None last vs n place move.Exit rest p h = absurd p
  passing of (Some v) last vs n place (move.Branch k) rest p h = let e : bit (owe v.number) ≡ bit (owe n.number) = ap (λ x. bit (owe x)) (sym h.does.0 ∙ ap (λ x. x.number) p.0) in omega arith
  passing of (Some v) last vs n place (move.Edge k) rest p h = let e : bit (owe v.number) ≡ bit (owe n.number) = ap (λ x. bit (owe x)) (sym h.does.0 ∙ ap (λ x. x.number) p.0) in omega arith
  passing of (Some v) last vs n place (move.Node k) rest p h = absurd p
  passing of (Some v) last vs n place move.Exit rest p h = absurd p

  before_passed : (n : NodeId) (place : Place) (g : Move) → Passes n place g → before_set c owe place ≡ bit (owe n.number)
  before_passed n place (move.Branch k) p = ap (before_set c owe) p.1.1 ∙ by_way p.1.0
    where
      by_way : (nought : Bool) → before_set c owe (branch_place n nought) ≡ bit (owe n.number)
      by_way true = refl
      by_way false = refl
  before_passed n place (move.Edge k) p = ap (before_set c owe) p.1
  before_passed n place (move.Node k) p = absurd p
  before_passed n place move.Exit p = absurd p

  leaving : (of : FnId) (visit : Option NodeId) (last : Place) (vs : List ℤ) (rest : List Item) → Stands c y of visit last vs (item.Go move.Exit ∷ rest)
      → D visit (item.Go move.Exit ∷ rest) ≡ 0
  leaving of None last vs rest h = refl
  leaving of (Some v) last vs rest h = absurd h.does

  -- a called frame owes nothing; a created one owes where it may come
  new_called : (of : FnId) (visit : Option NodeId) (last : Place) (vs : List ℤ) (g : FnId) (rest : List Item) (serial : ℕ) (args : List ℤ)
      → Stands c y of visit last vs (item.Act (action.Call g) ∷ rest) → Ds (frame_of c serial g.number args ∷ []) ≡ 0
  new_called of None last vs g rest serial args h = absurd (between_goes c y of last (item.Act (action.Call g) ∷ rest) h)
  new_called of (Some n) last vs g rest serial args h =
      let e = due_arrive c y laid j a b comes root sig (Start (fn_id g.number)) tt in
      let z = by_first (first_of c g.number) refl in
      omega arith
    where
      by_first : (o : Option ℕ) → first_of c g.number ≡ o → in_set owe o ≡ 0
      by_first None e = refl
      by_first (Some v) e =
          let r : root v ≡ false = sig.roots v ∙ (ap y.is_root (laid.along (Start (fn_id g.number)) v tt e) ∙ sig.never_called n.number g.number h.does.0) in
          ap (λ x. bit (x && comes v)) r

  new_created : (of : FnId) (visit : Option NodeId) (last : Place) (vs : List ℤ) (i : Action) (g : FnId) (rest : List Item) (serial : ℕ) (args : List ℤ) → CreatesFn i g
      → Stands c y of visit last vs (item.Act i ∷ rest) → Ds (frame_of c serial g.number args ∷ []) ≡ in_set comes (first_of c g.number)
  new_created of None last vs i g rest serial args is h = absurd (between_goes c y of last (item.Act i ∷ rest) h)
  new_created of (Some n) last vs (action.Create target k) g rest serial args is h =
      let e = due_arrive c y laid j a b comes root sig (Start (fn_id g.number)) tt in
      let z = owe_root (first_of c g.number) (λ v w. sig.roots v ∙ (ap y.is_root (laid.along (Start (fn_id g.number)) v tt w)
      ∙ laid.created n.number g.number (h.does.0 ∙ ap Some (ap (λ x. x.number) is)))) in
      omega arith
  new_created of (Some n) last vs _ g rest serial args is h = absurd is

  creating : (visit : Option NodeId) (rest : List Item) (target : HandleSite) (g : FnId) (of : FnId) (last : Place) (vs : List ℤ)
      → Stands c y of visit last vs (item.Act (action.Create target g) ∷ rest)
      → D visit (item.Act (action.Create target g) ∷ rest) ≡ in_set comes (first_of c g.number) + D visit rest
  creating None rest target g of last vs h = absurd (between_goes c y of last (item.Act (action.Create target g) ∷ rest) h)
  creating (Some n) rest target g of last vs h = omega arith

  get_set : (ths : List Thread) (t : ℕ) (th new : Thread) → slice_get ths t ≡ Some th → slice_get (set ths t new) t ≡ Some new
  get_set [] t th new is = cc
  get_set (x ∷ ths) zero th new is = refl
  get_set (x ∷ ths) (suc t) th new is = get_set ths t th new is

  live_next : (s next : Configuration) (t : ℕ) (th : Thread) (f : Frame) (vs : List ℤ) (rest : List Item) (place : Place) (below : List Frame)
      → slice_get s.threads t ≡ Some th
      → next.threads ≡ set s.threads t (with_frames th (pass c (with_values (with_work f rest) vs) place ∷ below)) → ChainedAll next → Live y place
  live_next s next t th f vs rest place below stands threads chained =
      let new : Thread = with_frames th (pass c (with_values (with_work f rest) vs) place ∷ below) in
      let at : slice_get next.threads t ≡ Some new = ap (λ ths. slice_get ths t) threads ∙ get_set s.threads t th new stands in
      (chained.at t new at).0.shape.stands.live

  -- one step
  pub step_next : (s next : Configuration) (t : ℕ) (late : Bool) (ev : Event) → Count s → ChainedAll s → ChainedAll next
      → (th : Thread) (f : Frame) (below : List Frame) → slice_get s.threads t ≡ Some th → th.frames ≡ f ∷ below → Change c s t late th f below next ev → Next s next
  step_next s next t late ev count chained later th f below stands top change = by_change change
    where
      all : Chains s.made t (f ∷ below)
      all = subst (Chains s.made t) top (chained.at t th stands)

      shape : (work : List Item) → f.work ≡ work → Stands c y f.of f.visit f.last f.values work
      shape work at = subst (Stands c y f.of f.visit f.last f.values) at all.0.shape.stands

      owed : (work : List Item) → f.work ≡ work → Ds th.frames ≡ D f.visit work + Ds below
      owed work at = ap Ds top ∙ ap (λ w. D f.visit w + Ds below) at

      moved : (gs : List Frame) (made : ℕ) → Beside s next (set s.threads t (with_frames th gs)) made → Ds gs ≡ Ds th.frames → Next s next
      moved gs made beside e =
          let q = total_changed s.threads t th gs stands in
          same_next s next count beside.tokens (ap (λ ths. total (stacks ths)) beside.threads ∙ (omega arith))

      by_change : Change c s t late th f below next ev → Next s next
      by_change (IsTrapped beside plain) = same_next s next count beside.tokens (ap (λ ths. total (stacks ths)) beside.threads)
      by_change (IsOperated o rest at goes) =
          let first = op_first f.of f.visit f.last f.values o rest (shape (item.Op o ∷ rest) at) in
          let gs : List Frame = with_work f rest ∷ below in
          let was : Ds th.frames ≡ due_op j o (W rest) + Ds below = owed (item.Op o ∷ rest) at ∙ ap (λ x. x + Ds below) first.before in
          let has : Ds th.frames ≤ total (stacks s.threads) = total_has (stacks s.threads) t th.frames (stands_at s.threads t th stands) in
          let up : (i : OrderId) → o ≡ Add i → i.number ≡ j → (0 < W rest) × (0 < total (stacks s.threads)) = λ i is same.
          let r = first.raises i is same in
          let some : 0 < Ds (f ∷ below) = comes_due s.made t f below all r.1 in
          let here : 0 < Ds th.frames = subst (λ fs. 0 < Ds fs) (sym top) some in
          (r.0, omega arith) in
          let done : Kept (λ e. Unit {0}) (Next s) (operate s t (with_frames th gs) late o) =
          raised (W rest) o s t th count stands gs (Ds below) (ap (λ x. x + Ds below) first.behind) up was late in
          let kept_here : Kept (λ e. Unit {0}) (Next s) (Some (next, ev)) = subst (Kept (λ e. Unit {0}) (Next s)) goes done in
          kept_here tt
      by_change (IsReduced r rest g at is beside plain) =
          let same = reduced_follows c (with_work f rest) g r is in
          moved (g ∷ below) s.made beside
          (ap (λ v. D v g.work + Ds below) same.visit
          ∙ (ap (λ x. x + Ds below) (visiting f.of f.visit f.last f.values (item.Reduce r) rest g.work (λ x. x) (reduced_creates f g r rest same) (shape (item.Reduce r ∷ rest) at))
          ∙ sym (owed (item.Reduce r ∷ rest) at)))
      by_change (IsActed x rest vs at simple beside plain) =
          moved (with_values (with_work f rest) vs ∷ below) s.made beside
          (ap (λ z. z + Ds below) (visiting f.of f.visit f.last f.values (item.Act x) rest rest (λ z. z) (sym (simple_creates x rest simple)) (shape (item.Act x ∷ rest) at))
          ∙ sym (owed (item.Act x ∷ rest) at))
      by_change (IsJoined x rest vs n other at simple there beside plain) =
          let gs : List Frame = with_values (with_work f rest) vs ∷ below in
          let e : Ds gs ≡ Ds th.frames =
          ap (λ z. z + Ds below) (visiting f.of f.visit f.last f.values (item.Act x) rest rest (λ z. z) (sym (simple_creates x rest simple)) (shape (item.Act x ∷ rest) at))
          ∙ sym (owed (item.Act x ∷ rest) at) in
          let one : stacks (set s.threads n (record other { joined = true })) ≡ stacks s.threads =
          map-set_same (λ z. z.frames) s.threads n (record other { joined = true }) other (ap (λ z. z.frames) (sym (get_or_from_slice_get s.threads n other other there))) in
          let two : stacks next.threads ≡ set (stacks s.threads) t gs =
          ap stacks beside.threads ∙ (map-set (λ z. z.frames) (set s.threads n (record other { joined = true })) t (with_frames th gs) ∙ ap (λ fss. set fss t gs) one) in
          let q = total_set (stacks s.threads) t th.frames gs (stands_at s.threads t th stands) in
          same_next s next count beside.tokens (ap total two ∙ (omega arith))
      by_change (IsCreated target g rest vs hs args at beside plain) =
          let up : Frame = record (with_work f rest) { values = vs; handles = hs } in
          let new = frame_of c s.made g.number args in
          let h = shape (item.Act (action.Create target g) ∷ rest) at in
          let owes_new = new_created f.of f.visit f.last f.values (action.Create target g) g rest s.made args refl h in
          let was = owed (item.Act (action.Create target g) ∷ rest) at in
          let less = creating f.visit rest target g f.of f.last f.values h in
          let q = total_changed s.threads t th (up ∷ below) stands in
          let fss = stacks (set s.threads t (with_frames th (up ∷ below))) in
          let push = total_push fss (new ∷ []) in
          let threads : stacks next.threads ≡ fss ++ (new ∷ []) ∷ [] =
          ap stacks beside.threads ∙ map-append (λ z. z.frames) (set s.threads t (with_frames th (up ∷ below))) (thread_of c new ∷ []) in
          same_next s next count beside.tokens (ap total threads ∙ (push ∙ (omega arith)))
      by_change (IsCalled g rest args vs at beside plain) =
          let h = shape (item.Act (action.Call g) ∷ rest) at in
          let none = new_called f.of f.visit f.last f.values g rest s.made args h in
          let was = owed (item.Act (action.Call g) ∷ rest) at in
          let same = visiting f.of f.visit f.last f.values (item.Act (action.Call g)) rest rest (λ z. z) refl h in
          moved (frame_of c s.made g.number args ∷ with_values (with_work f rest) vs ∷ below) (s.made + 1) beside (omega arith)
      by_change (IsBegun n rest at beside is) =
          moved (record (with_work f rest) { visit = Some n; values = []; work = c.items n.number } ∷ below) s.made beside
          (ap (λ x. x + Ds below) (beginning f.of f.visit f.last f.values n rest (shape (item.Go (move.Node n) ∷ rest) at)) ∙ sym (owed (item.Go (move.Node n) ∷ rest) at))
      by_change (IsPassed n g place rest vs at passes beside plain) =
          let live : Live y place = live_next s next t th f vs rest place below stands beside.threads later in
          let old = passing f.of f.visit f.last f.values n place g rest passes (shape (item.Go g ∷ rest) at) in
          let new = due_arrive c y laid j a b comes root sig place live ∙ before_passed n place g passes in
          moved (pass c (with_values (with_work f rest) vs) place ∷ below) s.made beside (ap (λ x. x + Ds below) (new ∙ sym old) ∙ sym (owed (item.Go g ∷ rest) at))
      by_change (IsReturned rest g under v at is beside plain) =
          let none = leaving f.of f.visit f.last f.values rest (shape (item.Go move.Exit ∷ rest) at) in
          let h = owed (item.Go move.Exit ∷ rest) at in
          let l : Ds below ≡ D g.visit g.work + Ds under = ap Ds is in
          moved (with_values g (v ∷ g.values) ∷ under) s.made beside (omega arith)
      by_change (IsExited rest at is beside plain) =
          let none = leaving f.of f.visit f.last f.values rest (shape (item.Go move.Exit ∷ rest) at) in
          let h = owed (item.Go move.Exit ∷ rest) at in
          let l : Ds below ≡ 0 = ap Ds is in
          moved [] s.made beside (omega arith)
