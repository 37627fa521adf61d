-- The tokens of an order in runs.
use Rattle.std.specs.Prelude.{◌≡◌, ℕ, ℤ, Bool, List, Some, slice_index}
use Rattle.cfix_base.specs.declared.entry.Entry.{Entry}
use Rattle.step_state.specs.declared.state.Configuration.{Configuration}
use Rattle.step_state.specs.Code.{Code}
use Rattle.step_state.specs.Run.{Seen, run, run_from}
use Rattle.layout_laws.specs.Layout.{Layout}
use Rattle.order_laws.specs.Tokens.{Counted}

-- after a run the tokens are what all frames owe, and where there are none, none come
pub record CountedRun (c : Code) (y : Layout) (j : ℕ) (comes root : ℕ → Bool) (input : List ℤ) (es : List Entry) : Type 0 where
  pub counted : (steps : List Seen) (last : Configuration) → run c input es ≡ Some (steps, last) → Counted c y j comes root last
  pub stays : (steps more : List Seen) (now last : Configuration) (later : List Entry) → run c input es ≡ Some (steps, now) → slice_index now.tokens j ≡ 0
      → run_from c now later ≡ Some (more, last) → slice_index last.tokens j ≡ 0
