-- After each run the tokens of an order are what all frames owe, and where there are none, none come.
use Rattle.std.proofs.Common.{◌≡◌, ℕ, suc, ◌+◌, ℤ, Bool, List, [], ◌∷◌, get_or, Some, None, refl, sym, ap, ◌∙◌, subst, arith}
use Rattle.std.specs.Prelude.{slice_get}
use Rattle.c_prog.specs.declared.tree.Tree.{Tree}
use Rattle.cfix_base.specs.declared.entry.Entry.{Entry}
use Rattle.step_state.specs.declared.event.Event.{Event}
use Rattle.step_state.specs.declared.frame.Frame.{Frame}
use Rattle.step_state.specs.declared.thread.Thread.{Thread}
use Rattle.step_state.specs.declared.state.Configuration.{Configuration}
use Rattle.step_state.specs.Code.{Code}
use Rattle.step_state.specs.Changes.{Made}
use Rattle.step_state.specs.Start.{start}
use Rattle.step_state.specs.Step.{step}
use Rattle.step_state.specs.Run.{Seen, frames_at}
use Rattle.layout_laws.specs.Layout.{Layout, IsLaidOut}
use Rattle.order_laws.specs.Tokens.{Signals, CreatesOnce, dues, all_dues}
use Rattle.order_laws.specs.OrderRuns.{Starts}
use Rattle.order_laws.specs.TokenRuns.{CountedRun}
use Rattle.step_tables.specs.TreeCode.{tree_code}
use Rattle.layout_laws.specs.TreeLayout.{layout_of}
use Rattle.frame_laws.proofs.Frames.{AllOf, Framed, GoodStep, Kept, at_event, framed_step}
use Rattle.frame_laws.proofs.Change.{Told, IsTold, step_tells}
use Rattle.order_laws.proofs.Tokens.{Chained, All, keeps_chained}
use Rattle.order_laws.proofs.TokenCounts.{Count, Next, step_next, stacks, total}
use Rattle.order_laws.proofs.Ready.{order_start}
use Rattle.frame_laws.specs.Trail.{Trail}
use Rattle.frame_laws.proofs.Trails.{trail_keeps, run_trail}
use Rattle.layout_laws.proofs.TreeLaid.{laid_out}

module _ (c : Code) (y : Layout) (laid : IsLaidOut c y) (j a b : ℕ) (comes root : ℕ → Bool) (sig : Signals c y j a b comes root) (once : CreatesOnce c y comes) where
  abbrev P : ℕ → ℕ → Frame → List Frame → Type 0
  P = Chained c y laid j a b comes root sig

  abbrev G : ℕ → List Frame → Event → Type 0
  G = All c y laid j a b comes root sig

  pub record Tokens (s : Configuration) : Type 0 where
    pub count : Count c y laid j a b comes root sig once s
    pub chain : Framed c P G s

  pub record NoToken (s : Configuration) : Type 0 where
    pub tokens : Tokens s
    pub zero : get_or s.tokens j 0 ≡ 0

  abbrev Every : Seen → Type 0
  Every m = Unit {0}

  next_of : (s next : Configuration) (t : ℕ) (late : Bool) (ev : Event) → Tokens s → Framed c P G next → Told c s t late next ev → Next c y laid j a b comes root sig once s next
  next_of s next t late ev h later told =
      step_next c y laid j a b comes root sig once s next t late ev h.count h.chain later told.thread told.frame told.below told.stands told.top told.change

  tokens_kept : (s : Configuration) (e : Entry) (fs : List Frame) (made : Made) → Tokens s → IsTold c s e.thread e.timeout made
      → Kept (at_event (GoodStep c P G) e fs) (Framed c P G) made → Kept (at_event Every e fs) Tokens made
  tokens_kept s e fs None h told on = tt
  tokens_kept s e fs (Some (next, ev)) h told on = λ good. record { count = (next_of s next e.thread e.timeout ev h (on tt) told).count; chain = on tt }

  none_kept : (s : Configuration) (e : Entry) (fs : List Frame) (made : Made) → NoToken s → IsTold c s e.thread e.timeout made
      → Kept (at_event (GoodStep c P G) e fs) (Framed c P G) made → Kept (at_event Every e fs) NoToken made
  none_kept s e fs None h told on = tt
  none_kept s e fs (Some (next, ev)) h told on = λ good.
      let n = next_of s next e.thread e.timeout ev h.tokens (on tt) told in
      record { tokens = record { count = n.count; chain = on tt }; zero = n.none h.zero }

  pub tokens_step : (s : Configuration) (e : Entry) → Tokens s → Kept (at_event Every e (frames_at (slice_get s.threads e.thread))) Tokens (step c s e)
  tokens_step s e h = tokens_kept s e (frames_at (slice_get s.threads e.thread)) (step c s e) h (step_tells c s e) (framed_step c P G (keeps_chained c y laid j a b comes root sig) s e h.chain)

  pub none_step : (s : Configuration) (e : Entry) → NoToken s → Kept (at_event Every e (frames_at (slice_get s.threads e.thread))) NoToken (step c s e)
  none_step s e h = none_kept s e (frames_at (slice_get s.threads e.thread)) (step c s e) h (step_tells c s e) (framed_step c P G (keeps_chained c y laid j a b comes root sig) s e h.tokens.chain)

  every : (ms : List Seen) → AllOf Every ms
  every [] = tt
  every (m ∷ ms) = (tt, every ms)

  total_dues : (ths : List Thread) → total c y laid j a b comes root sig once (stacks c y laid j a b comes root sig once ths) ≡ all_dues c y j comes root ths
  total_dues [] = refl
  total_dues (th ∷ ths) = ap (λ n. dues c y j comes root th.frames + n) (total_dues ths)

  -- where no thread owes, there is no token
  pub no_dues : (ths : List Thread) → ((t : ℕ) (th : Thread) → slice_get ths t ≡ Some th → dues c y j comes root th.frames ≡ 0) → all_dues c y j comes root ths ≡ 0
  no_dues [] none = refl
  no_dues (th ∷ ths) none = let one = none 0 th refl in let more = no_dues ths (λ t u e. none (t + 1) u (at_next t u e)) in omega arith
    where
      at_next : (t : ℕ) (u : Thread) → slice_get ths t ≡ Some u → slice_get (th ∷ ths) (t + 1) ≡ Some u
      at_next t u e = let n : t + 1 ≡ suc t = omega arith in subst (λ k. slice_get (th ∷ ths) k ≡ Some u) (sym n) e

  pub none_owed : (s : Configuration) → Tokens s → ((t : ℕ) (th : Thread) → slice_get s.threads t ≡ Some th → dues c y j comes root th.frames ≡ 0) → get_or s.tokens j 0 ≡ 0
  none_owed s h none = h.count.tokens ∙ (total_dues s.threads ∙ no_dues s.threads none)

  pub tokens_run : Starts c j comes → (input : List ℤ) (ms : List Seen) (last : Configuration) → Trail c (start c input) ms last → Tokens last
  tokens_run starts input ms last trail =
      let order = order_start c y laid j a b comes root sig once starts input in
      trail_keeps c Every Tokens tokens_step ms (start c input) last trail (every ms) (record { count = order.count; chain = order.chain })

  pub counted_run : Starts c j comes → (input : List ℤ) (es : List Entry) → CountedRun c y j comes root input es
  counted_run starts input es = record {
    counted = λ steps last ran.
        let h = tokens_run starts input steps last (run_trail c es (start c input) steps last ran) in
        record { tokens = h.count.tokens ∙ total_dues last.threads };
    stays = λ steps more now last later ran zero on.
        let h = tokens_run starts input steps now (run_trail c es (start c input) steps now ran) in
        (trail_keeps c Every NoToken none_step more now last (run_trail c later now more last on) (every more) (record { tokens = h; zero = zero })).zero;
  }

-- in runs of programs
pub tokens_counted : (tree : Tree) (j a b : ℕ) (comes root : ℕ → Bool) → Signals (tree_code tree) (layout_of tree) j a b comes root
    → CreatesOnce (tree_code tree) (layout_of tree) comes → Starts (tree_code tree) j comes
    → (input : List ℤ) (es : List Entry) → CountedRun (tree_code tree) (layout_of tree) j comes root input es
tokens_counted tree j a b comes root sig once starts input es = counted_run (tree_code tree) (layout_of tree) (laid_out tree) j a b comes root sig once starts input es
