-- The configuration in which a run begins.
use Rattle.std.specs.Prelude.{ℕ, ℤ, pos, false, List, [], ◌∷◌, map, length, replicate, slice_set, Option, None}
use Rattle.cfix_base.specs.declared.number.OrderId.{OrderId}
use Rattle.c_prog.specs.declared.global.GlobalKind.{GlobalKind}
use Rattle.c_prog.specs.declared.global.GlobalKind.TheVariants as kind
use Rattle.step_state.specs.declared.event.Ending.TheVariants.{Running}
use Rattle.step_state.specs.declared.state.Configuration.{Configuration}
use Rattle.step_state.specs.Code.{Code}
use Rattle.step_state.specs.Changes.{frame_of, thread_of}

-- the cells of a global: its initial value, or 0
abbrev pub initial_cells : GlobalKind → List ℤ
initial_cells (kind.Int v) = v ∷ []
initial_cells (kind.IntArray n) = replicate n (pos 0)
initial_cells _ = []

-- the thread numbers in a global: none
abbrev pub initial_handles : GlobalKind → List ℕ
initial_handles kind.Thread = 0 ∷ []
initial_handles (kind.ThreadArray n) = replicate n 0
initial_handles _ = []

-- one token for each of these orders, of so many
abbrev pub initial_tokens : ℕ → List OrderId → List ℕ
initial_tokens n [] = replicate n 0
initial_tokens n (j ∷ rest) = slice_set (initial_tokens n rest) j.number 1

-- no mutex has an owner
abbrev pub unowned : List GlobalKind → List (Option ℕ)
unowned globals = replicate (length globals) None

-- no thread sleeps
abbrev pub all_awake : List GlobalKind → List (List ℕ)
all_awake globals = map (λ g. []) globals

-- thread 0 stands at the start of main
abbrev pub start : Code → List ℤ → Configuration
start c input = record {
  globals = map initial_cells c.globals;
  handles = map initial_handles c.globals;
  owners = unowned c.globals;
  sleepers = all_awake c.globals;
  input = input;
  output = [];
  threads = thread_of c (frame_of c 0 c.main []) ∷ [];
  made = 1;
  locks = replicate c.locks None;
  tokens = initial_tokens c.orders c.starts;
  flags = replicate c.orders false;
  ending = Running;
}
