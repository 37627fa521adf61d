-- Where no thread's bottom frame may come to a, the order has no token: each pending wait passes.
use Rattle.std.proofs.Common.{◌≡◌, inl, inr, ℕ, suc, ◌+◌, ◌≤◌, Bool, true, false, List, [], ◌∷◌, ◌++◌, map, get_or, Option, Some, None, refl, sym, ap, ◌∙◌, arith}
use Rattle.std.specs.Prelude.{nat_le, slice_get, slice_index_or, ◌==◌, ◌||◌, ◌&&◌}
use Rattle.cfix_base.specs.declared.number.NodeId.{NodeId}
use Rattle.cfix_base.specs.declared.number.FnId.{FnId}
use Rattle.cfix_base.specs.declared.op.Op.{Op}
use Rattle.cfix_base.specs.declared.op.Op.TheVariants.{Leave, First, Done, Wait, Enter, Add}
use Rattle.cfix_base.specs.declared.place.Place.{Place}
use Rattle.cfix_base.specs.declared.place.Place.TheVariants.{Start, After, True, False}
use Rattle.step_state.specs.declared.item.Item.{Item}
use Rattle.step_state.specs.declared.item.Item.TheVariants as item
use Rattle.step_state.specs.declared.item.Action.TheVariants as action
use Rattle.step_state.specs.declared.frame.Frame.{Frame}
use Rattle.step_state.specs.declared.thread.Thread.{Thread}
use Rattle.step_state.specs.declared.state.Configuration.{Configuration}
use Rattle.step_state.specs.Code.{Code, go_to, fn_id}
use Rattle.cfix_base.specs.declared.mark.Marks.{Marks}
use Rattle.c_prog.specs.Marks.{is_new, keep_old, old_of}
use Rattle.step_state.specs.Erase.{strip_code, strip_configuration, strip_thread, strip_frame, strip_work}
use Rattle.step_state.specs.Operate.{no_token}
use Rattle.erase_laws.specs.Marked.{IsMarked}
use Rattle.layout_laws.specs.Layout.{Layout, IsLaidOut, InVisit, Stands, Under, Calls, Live, place_function}
use Rattle.lock_laws.specs.Guard.{bit, in_set}
use Rattle.step_state.specs.Spots.{edge_spot, left_spot, spot}
use Rattle.lift_laws.specs.Lift.{may_spot, bottom_may, Placed, Settled}
use Rattle.step_state.specs.Reads.{frames_of}
use Rattle.lift_laws.specs.LiftRun.{Ready}
use Rattle.lift_laws.specs.Sorted.{Coming, Sorted}
use Rattle.order_laws.specs.Tokens.{Signals, adds, dones, owes, first_of, before_set, to_create, due, due_work, dues, CreatesOnce}
use Rattle.lift_laws.proofs.Around.{TopSettled, pre_strip}
use Rattle.lock_laws.proofs.Counts.{other_bit}
use Rattle.frame_laws.proofs.Frames.{AllFrames, Framed}
use Rattle.erase_laws.proofs.Plain.{is_below}
use Rattle.order_laws.proofs.TokenCounts.{Count, total}
use Rattle.step_state.specs.Run.{frames_at}
use Rattle.std.proofs.lemmas.Option.{slice_get-map}
use Rattle.std.specs.Prelude.{option_map}
use Rattle.order_laws.proofs.Tokens.{Chained, All, front, due_ops, adds_append, due_goes, owe_before, created_le, creates_le}

module _ (m : Marks) (q : Code) (marked : IsMarked m q) (y : Layout) (laid : IsLaidOut q y) (bs : ℕ → ℕ) (posts pres : Place → List Op) (placed : Placed m q posts pres)
    (sorted : Sorted m q bs posts pres) (j a b : ℕ) (comes root : ℕ → Bool) (sig : Signals q y j a b comes root) (new : m.order ≤ j) where
  abbrev owe : ℕ → Bool
  owe n = owes comes root n

  abbrev W : List Item → ℕ
  W work = due_work q y j comes root work

  abbrev D : Option NodeId → List Item → ℕ
  D visit work = due q y j comes root visit work

  abbrev Chains : ℕ → ℕ → List Frame → Type 0
  Chains made t fs = AllFrames q (Chained q y laid j a b comes root sig) (All q y laid j a b comes root sig) made t fs

  owe_le : (n : ℕ) → bit (owe n) ≤ bit (comes n)
  owe_le n = by_root (root n)
    where
      by_root : (r : Bool) → bit (r && comes n) ≤ bit (comes n)
      by_root true = omega arith
      by_root false = omega arith

  owe_set : (o : Option ℕ) → in_set owe o ≤ in_set comes o
  owe_set None = omega arith
  owe_set (Some n) = owe_le n

  not_root : (n : ℕ) → root n ≡ false → bit (owe n) ≡ 0
  not_root n e = ap (λ r. bit (r && comes n)) e

  below_other : (i : ℕ) → nat_le m.order i ≡ false → bit (i == j) ≡ 0
  below_other i old = other_bit comes j i (λ e. let w = is_below m.order i old in absurd (omega arith))

  old_adds : (ops : List Op) → adds j (old_of (is_new m) ops) ≡ 0
  old_adds [] = refl
  old_adds (o ∷ ops) = more o (is_new m o) refl (old_adds ops)
    where
      more : (o : Op) (is : Bool) → is_new m o ≡ is → adds j (old_of (is_new m) ops) ≡ 0 → adds j (keep_old is o (old_of (is_new m) ops)) ≡ 0
      more o true e h = h
      more (Add i) false e h = omega (arith, h, below_other i.number e)
      more (Leave i) false e h = h
      more (First i) false e h = h
      more (Done i) false e h = h
      more (Wait i) false e h = h
      more (Enter i) false e h = h

  old_dones : (ops : List Op) → dones j (old_of (is_new m) ops) ≡ 0
  old_dones [] = refl
  old_dones (o ∷ ops) = more o (is_new m o) refl (old_dones ops)
    where
      more : (o : Op) (is : Bool) → is_new m o ≡ is → dones j (old_of (is_new m) ops) ≡ 0 → dones j (keep_old is o (old_of (is_new m) ops)) ≡ 0
      more o true e h = h
      more (Done i) false e h = omega (arith, h, below_other i.number e)
      more (Leave i) false e h = h
      more (First i) false e h = h
      more (Add i) false e h = h
      more (Wait i) false e h = h
      more (Enter i) false e h = h

  dones_append : (x z : List Op) → dones j (x ++ z) ≡ dones j x + dones j z
  dones_append [] z = omega arith
  dones_append (Done i ∷ x) z = omega (arith, dones_append x z)
  dones_append (Enter i ∷ x) z = dones_append x z
  dones_append (Leave i ∷ x) z = dones_append x z
  dones_append (First i ∷ x) z = dones_append x z
  dones_append (Add i ∷ x) z = dones_append x z
  dones_append (Wait i ∷ x) z = dones_append x z

  coming_dones : (next : Option ℕ) (ops : List Op) → Coming q bs next ops → dones j ops ≡ 0
  coming_dones next [] h = refl
  coming_dones next (Leave i ∷ ops) h = absurd h
  coming_dones next (First i ∷ ops) h = absurd h
  coming_dones next (Done i ∷ ops) h = absurd h
  coming_dones next (Wait i ∷ ops) h = coming_dones next ops h.2
  coming_dones next (Enter i ∷ ops) h = coming_dones next ops h.1
  coming_dones next (Add i ∷ ops) h = coming_dones next ops h

  all_adds : (last : Place) → adds j (q.ops last) ≡ adds j (posts last ++ pres last)
  all_adds last =
      let o = old_adds (q.ops last) in
      let e : adds j (q.ops last) ≡ adds j (old_of (is_new m) (q.ops last)) + adds j (posts last ++ pres last) =
      ap (adds j) (placed.ops last) ∙ adds_append q y laid j a b comes root sig (old_of (is_new m) (q.ops last)) (posts last ++ pres last) in
      omega (arith, o, e)

  all_dones : (last : Place) → dones j (q.ops last) ≡ dones j (posts last ++ pres last)
  all_dones last =
      let o = old_dones (q.ops last) in
      let e : dones j (q.ops last) ≡ dones j (old_of (is_new m) (q.ops last)) + dones j (posts last ++ pres last) =
      ap (dones j) (placed.ops last) ∙ dones_append (old_of (is_new m) (q.ops last)) (posts last ++ pres last) in
      omega (arith, o, e)

  -- once those that leave are made, the frame owes what comes next
  due_made : (last : Place) → Live y last → in_set comes (q.next last) ≡ 0 → W (map item.Op (pres last) ++ go_to (q.next last) ∷ []) ≡ 0
  due_made last live none =
      let next = q.next last in
      let i = sig.added last live in
      let t = all_adds last in
      let s = adds_append q y laid j a b comes root sig (posts last) (pres last) in
      let d = coming_dones next (pres last) (sorted.coming last) in
      let g = due_goes q y laid j a b comes root sig next in
      let l = creates_le q y laid j a b comes root sig next in
      let o = owe_set next in
      let w = due_ops q y laid j a b comes root sig (pres last) (go_to next ∷ []) (omega (arith, i, t, s, g)) in
      omega (arith, i, t, s, d, g, l, o, w, none)

  -- before, it owes what stands before the place
  due_unmade : (last : Place) → Live y last → (left : List Op) → adds j left ≡ 0 → dones j left ≡ 0
      → W (map item.Op (left ++ (posts last ++ pres last)) ++ go_to (q.next last) ∷ []) ≡ before_set q owe last
  due_unmade last live left na nd =
      let next = q.next last in
      let i = sig.added last live in
      let l = sig.done last live in
      let t = all_adds last in
      let u = all_dones last in
      let s = adds_append q y laid j a b comes root sig left (posts last ++ pres last) in
      let v = dones_append left (posts last ++ pres last) in
      let g = due_goes q y laid j a b comes root sig next in
      let le = owe_before q y laid j a b comes root sig last live in
      let w = due_ops q y laid j a b comes root sig (left ++ (posts last ++ pres last)) (go_to next ∷ []) (omega (arith, i, t, s, g, na)) in
      omega (arith, i, l, t, u, s, v, g, le, w, na, nd)

  visit_none : (n : ℕ) (work : List Item) → InVisit y n work → bit (comes n) ≡ 0 → to_create q comes work ≡ 0
  visit_none n [] h z = refl
  visit_none n (item.Op o ∷ work) h z = absurd h
  visit_none n (item.Reduce r ∷ work) h z = visit_none n work h.1 z
  visit_none n (item.Act (action.Create target g) ∷ work) h z =
      let r = visit_none n work h.1 z in
      let l = created_le q y laid j a b comes root sig n (Some g.number) h.0 in
      omega (arith, r, l, z)
  visit_none n (item.Act x ∷ work) h z = visit_none n work h.1 z
  visit_none n (item.Go g ∷ work) h z = refl

  due_visit : (n : NodeId) (work : List Item) → InVisit y n.number work → bit (comes n.number) ≡ 0 → D (Some n) work ≡ 0
  due_visit n work h z = omega (arith, owe_le n.number, visit_none n.number work h z, z)

  -- a frame that has operations of the source to make
  unmade_none : (last : Place) (work : List Item) (left : List Op) (o : Op) → Live y last
      → work ≡ map item.Op (o ∷ left ++ (posts last ++ pres last)) ++ go_to (q.next last) ∷ [] → is_new m o ≡ false → old_of (is_new m) left ≡ left
      → before_set q owe last ≡ 0 → W work ≡ 0
  unmade_none last work left o live e old lefts z =
      let mine = o ∷ left in
      let same : old_of (is_new m) mine ≡ mine = ap (λ b. keep_old b o (old_of (is_new m) left)) old ∙ ap (λ l. o ∷ l) lefts in
      ap W e ∙ (due_unmade last live mine (ap (adds j) (sym same) ∙ old_adds mine) (ap (dones j) (sym same) ∙ old_dones mine) ∙ z)

  -- a place of a function that is no root owes nothing
  before_none : (of : FnId) (last : Place) → Live y last → place_function y last ≡ of.number → y.is_root of.number ≡ false → before_set q owe last ≡ 0
  before_none of (Start f) live fn none = first (first_of q f.number) refl
    where
      first : (o : Option ℕ) → first_of q f.number ≡ o → in_set owe o ≡ 0
      first None e = refl
      first (Some v) e = not_root v (sig.roots v ∙ (ap y.is_root (laid.along (Start (fn_id f.number)) v tt e ∙ fn) ∙ none))
  before_none of (After n) live fn none = not_root n.number (sig.roots n.number ∙ (ap y.is_root fn ∙ none))
  before_none of (True n) live fn none = not_root n.number (sig.roots n.number ∙ (ap y.is_root fn ∙ none))
  before_none of (False n) live fn none = not_root n.number (sig.roots n.number ∙ (ap y.is_root fn ∙ none))

  abbrev FrontZero : List Frame → Type 0
  FrontZero [] = Unit {0}
  FrontZero (f ∷ below) = in_set comes (front q y laid j a b comes root sig f.visit f.last) ≡ 0

  -- frames below others
  low : (made t fn : ℕ) (fs : List Frame) → Under y fn fs → Chains made t fs → bottom_may (strip_code m q) comes (map (strip_frame m) fs) ≡ 0
      → (dues q y j comes root fs ≡ 0) × FrontZero fs
  low made t fn [] under chains z = (refl, tt)
  low made t fn (f ∷ []) under chains z = one f.visit under chains.0.shape.stands z
    where
      one : (visit : Option NodeId) → Calls y fn visit → Stands q y f.of visit f.last f.values f.work
          → may_spot (strip_code m q) comes (spot visit f.last (strip_work m f.work)) ≡ 0
          → (D visit f.work + 0 ≡ 0) × (in_set comes (front q y laid j a b comes root sig visit f.last) ≡ 0)
      one None h stands z = absurd h
      one (Some n) h stands z = (omega (arith, due_visit n f.work stands.does z), z)
  low made t fn (f ∷ g ∷ below) under chains z =
      let r = low made t f.of.number (g ∷ below) chains.0.shape.under chains.1 z in
      one f.visit under chains.0.shape.stands (omega (arith, chains.0.link, r.1)) r.0
    where
      one : (visit : Option NodeId) → Calls y fn visit → Stands q y f.of visit f.last f.values f.work → in_set comes (front q y laid j a b comes root sig f.visit f.last) ≡ 0
          → dues q y j comes root (g ∷ below) ≡ 0
          → (D f.visit f.work + dues q y j comes root (g ∷ below) ≡ 0) × (in_set comes (front q y laid j a b comes root sig f.visit f.last) ≡ 0)
      one visit h stands none rest = (omega (arith, here f.visit under chains.0.shape.stands none, rest), none)
        where
          here : (visit : Option NodeId) → Calls y fn visit → Stands q y f.of visit f.last f.values f.work → in_set comes (front q y laid j a b comes root sig visit f.last) ≡ 0
              → D visit f.work ≡ 0
          here None h stands none = absurd h
          here (Some n) h stands none = due_visit n f.work stands.does none

  before_le : (last : Place) → before_set q owe last ≤ may_spot (strip_code m q) comes (left_spot last)
  before_le (Start f) = owe_set (q.next (Start (fn_id f.number)))
  before_le (After n) = owe_le n.number
  before_le (True n) = owe_le n.number
  before_le (False n) = owe_le n.number

  go_may : (last : Place) (next : Option ℕ) → may_spot (strip_code m q) comes (edge_spot last (go_to next ∷ [])) ≡ in_set comes next
  go_may last None = refl
  go_may last (Some n) = refl

  -- the frames of a settled thread
  tops_none : (made t : ℕ) (f : Frame) (below : List Frame) → Chains made t (f ∷ below) → Settled m q posts pres f.visit f.last f.work
      → bottom_may (strip_code m q) comes (map (strip_frame m) (f ∷ below)) ≡ 0 → dues q y j comes root (f ∷ below) ≡ 0
  tops_none made t f [] chains settled z = omega (arith, one f.visit chains.0.shape.stands settled z)
    where
      one : (visit : Option NodeId) → Stands q y f.of visit f.last f.values f.work → Settled m q posts pres visit f.last f.work
          → may_spot (strip_code m q) comes (spot visit f.last (strip_work m f.work)) ≡ 0 → D visit f.work ≡ 0
      one (Some n) stands h z = due_visit n f.work stands.does z
      one None stands (inl h) z =
          let rest = map item.Op (h.0 ++ (posts f.last ++ pres f.last)) ++ go_to (q.next f.last) ∷ [] in
          let left : may_spot (strip_code m q) comes (edge_spot f.last (strip_work m f.work)) ≡ may_spot (strip_code m q) comes (left_spot f.last) =
          ap (λ w. may_spot (strip_code m q) comes (edge_spot f.last (strip_work m w))) h.2
          ∙ ap (λ b. may_spot (strip_code m q) comes (edge_spot f.last (keep_old b (item.Op h.1) (strip_work m rest)))) h.3 in
          unmade_none f.last f.work h.0 h.1 stands.live h.2 h.3 h.4 (omega (arith, before_le f.last, left, z))
      one None stands (inr e) z =
          let next : may_spot (strip_code m q) comes (edge_spot f.last (strip_work m f.work)) ≡ in_set comes (q.next f.last) =
          ap (λ w. may_spot (strip_code m q) comes (edge_spot f.last (strip_work m w))) e
          ∙ (ap (λ w. may_spot (strip_code m q) comes (edge_spot f.last w)) (pre_strip m q marked y laid bs posts pres placed sorted f.last) ∙ go_may f.last (q.next f.last)) in
          ap W e ∙ due_made f.last stands.live (sym next ∙ z)
  tops_none made t f (g ∷ below) chains settled z =
      let r = low made t f.of.number (g ∷ below) chains.0.shape.under chains.1 z in
      omega (arith, r.0, one f.visit chains.0.shape.stands settled (omega (arith, chains.0.link, r.1)))
    where
      called : (visit : Option NodeId) → Calls y f.of.number visit → y.is_root f.of.number ≡ false
      called None h = absurd h
      called (Some n) h = sig.never_called n.number f.of.number h

      one : (visit : Option NodeId) → Stands q y f.of visit f.last f.values f.work → Settled m q posts pres visit f.last f.work
          → in_set comes (front q y laid j a b comes root sig f.visit f.last) ≡ 0 → D f.visit f.work ≡ 0
      one visit stands h z = here f.visit chains.0.shape.stands settled z
        where
          here : (visit : Option NodeId) → Stands q y f.of visit f.last f.values f.work → Settled m q posts pres visit f.last f.work
              → in_set comes (front q y laid j a b comes root sig visit f.last) ≡ 0 → D visit f.work ≡ 0
          here (Some n) stands h z = due_visit n f.work stands.does z
          here None stands (inl h) z =
              unmade_none f.last f.work h.0 h.1 stands.live h.2 h.3 h.4 (before_none f.of f.last stands.live stands.function (called g.visit chains.0.shape.under))
          here None stands (inr e) z = ap W e ∙ due_made f.last stands.live z

  thread_none : (made t : ℕ) (fs : List Frame) → Chains made t fs → TopSettled m q marked y laid bs posts pres placed sorted fs
      → bottom_may (strip_code m q) comes (map (strip_frame m) fs) ≡ 0 → dues q y j comes root fs ≡ 0
  thread_none made t [] chains settled z = refl
  thread_none made t (f ∷ below) chains settled z = tops_none made t f below chains settled z

  module _ (once : CreatesOnce q y comes) where
    abbrev Total : List (List Frame) → ℕ
    Total fss = total q y laid j a b comes root sig once fss

    all_none : (ths : List Thread) → ((t : ℕ) (th : Thread) → slice_get ths t ≡ Some th → dues q y j comes root th.frames ≡ 0) → Total (map (λ th. th.frames) ths) ≡ 0
    all_none [] h = refl
    all_none (x ∷ ths) h = omega (arith, h 0 x refl, all_none ths (λ t th e. h (suc t) th e))

    -- where all bottom frames are past a, the order has no token, and a wait passes
    pub ready_zero : (c : Configuration) → Count q y laid j a b comes root sig once c
        → Framed q (Chained q y laid j a b comes root sig) (All q y laid j a b comes root sig) c
        → ((u : ℕ) (uh : Thread) → slice_get c.threads u ≡ Some uh → TopSettled m q marked y laid bs posts pres placed sorted uh.frames)
        → ((u : ℕ) → bottom_may (strip_code m q) comes (frames_of (strip_configuration m c) u) ≡ 0) → Ready c j
    ready_zero c count chains settled none =
        let zero_tokens : get_or c.tokens j 0 ≡ 0 = count.tokens ∙ all_none c.threads (λ t th e.
        thread_none c.made t th.frames (chains.at t th e) (settled t th e)
        (ap (bottom_may (strip_code m q) comes) (sym (ap frames_at (slice_get-map (strip_thread m) c.threads t ∙ ap (option_map (strip_thread m)) e))) ∙ none t)) in
        ap (λ n. no_token n || slice_index_or c.flags j false) zero_tokens
