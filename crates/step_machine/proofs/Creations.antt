-- What a creation leaves.
use Rattle.std.proofs.Common.{◌≡◌, ℕ, ◌+◌, ℤ, List, [], ◌∷◌, ◌++◌, length, set, Option, Some, None, refl, ap, sym, ◌∙◌}
use Rattle.std.specs.Prelude.{slice_get}
use Rattle.step_state.specs.declared.item.HandleSite.{HandleSite}
use Rattle.step_state.specs.declared.frame.Frame.{Frame}
use Rattle.step_state.specs.declared.thread.Thread.{Thread}
use Rattle.step_state.specs.declared.state.Configuration.{Configuration}
use Rattle.step_state.specs.StackLends.{with_top}
use Rattle.step_state.specs.Changes.{with_frames}
use Rattle.step_machine.specs.Tops.{created_index, creating, creating_top, creation, global_numbers, thread_top, top_index, top_of}
use Rattle.step_machine.proofs.Lookups.{get_in_front, set_in_front}

abbrev with_made : Configuration → List (List ℕ) → List Thread → Configuration
with_made s handles threads = record s { handles = handles; threads = threads; made = s.made + 1 }

top_created : (fs : List Frame) (fr w : Frame) (site : HandleSite) (n m : ℕ) → slice_get fs 0 ≡ Some fr → w ≡ creating fr site n → n ≡ m → with_top fs w ≡ creating_top fs site m
top_created [] fr w site n m h e g = refl
top_created (f ∷ below) fr w site n m h e g =
    let same : f ≡ fr = cc in
    ap (λ x. x ∷ below) (e ∙ ap (λ x. creating x site n) (sym same) ∙ ap (creating f site) g)

index_is : (fs : List Frame) (f : Frame) (site : HandleSite) → slice_get fs 0 ≡ Some f → created_index site f ≡ top_index site fs
index_is [] f site h = cc
index_is (g ∷ below) f site h = let same : g ≡ f = cc in ap (created_index site) (sym same)

pub creation_is : (s : Configuration) (t : ℕ) (site : HandleSite) (new th : Thread) (top fr w : Frame) (pushed : List Thread) (handles : List (List ℕ)) (n : ℕ) (i : ℤ) → top_of s t ≡ Some top → i ≡ created_index site top → pushed ≡ s.threads ++ new ∷ [] → slice_get pushed t ≡ Some th → slice_get th.frames 0 ≡ Some fr → w ≡ creating fr site n → handles ≡ global_numbers s.handles site.var i n → n ≡ length s.threads → with_made s handles (set pushed t (with_frames th (with_top th.frames w))) ≡ creation s t site new (slice_get s.threads t)
creation_is s t site new th top fr w pushed handles n i at_top index p at first fin store count = by_thread (slice_get s.threads t) refl at_top
  where
    by_thread : (o : Option Thread) → slice_get s.threads t ≡ o → thread_top o ≡ Some top → with_made s handles (set pushed t (with_frames th (with_top th.frames w))) ≡ creation s t site new o
    by_thread None e h = absurd (let a : None ≡ Some top = h in cc)
    by_thread (Some before) e h =
        let there : slice_get (s.threads ++ new ∷ []) t ≡ Some before = get_in_front s.threads t before new e in
        let found : Some th ≡ Some before = sym at ∙ ap (λ xs. slice_get xs t) p ∙ there in
        let same : th ≡ before = cc in
        let tops : with_top before.frames w ≡ creating_top before.frames site (length s.threads) =
        top_created before.frames fr w site n (length s.threads) (ap (λ (x : Thread). slice_get x.frames 0) (sym same) ∙ first) fin count in
        let new_thread : with_frames th (with_top th.frames w) ≡ with_frames before (creating_top before.frames site (length s.threads)) =
        ap (λ (x : Thread). with_frames x (with_top x.frames w)) same ∙ ap (with_frames before) tops in
        let threads : set pushed t (with_frames th (with_top th.frames w)) ≡ set s.threads t (with_frames before (creating_top before.frames site (length s.threads))) ++ new ∷ [] =
        ap (λ xs. set xs t (with_frames th (with_top th.frames w))) p ∙ set_in_front s.threads t before (with_frames th (with_top th.frames w)) new e ∙ ap (λ x. set s.threads t x ++ new ∷ []) new_thread in
        let stored : handles ≡ global_numbers s.handles site.var (top_index site before.frames) (length s.threads) =
        store ∙ ap (λ k. global_numbers s.handles site.var k n) (index ∙ index_is before.frames top site h) ∙ ap (global_numbers s.handles site.var (top_index site before.frames)) count in
        ap (λ hs. with_made s hs (set pushed t (with_frames th (with_top th.frames w)))) stored ∙ ap (with_made s (global_numbers s.handles site.var (top_index site before.frames) (length s.threads))) threads
