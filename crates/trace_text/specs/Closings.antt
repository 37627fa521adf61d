-- The last line of a trace: how the run ended, or whether it can go on.
use Rattle.std.specs.Prelude.{ℕ, Bool, true, false, List, ◌++◌, codes}
use Rattle.c_print.specs.Text.Pieces.{closed}
use Rattle.step_state.specs.declared.event.Ending.{Ending}
use Rattle.step_state.specs.declared.event.Ending.TheVariants.{Running, End, Trap as Trapped}
use Rattle.step_state.specs.declared.event.Trap.{Trap}
use Rattle.step_state.specs.declared.event.Trap.TheVariants.{Overflow, Zero, Index, Unlock, Join}

abbrev pub trap_name : Trap → List ℕ
trap_name Overflow = codes "overflow"
trap_name Zero = codes "zero"
trap_name Index = codes "index"
trap_name Unlock = codes "unlock"
trap_name Join = codes "join"

-- a run that goes on, by whether no entry makes a step
abbrev pub open_text : Bool → List ℕ
open_text true = codes "stuck"
open_text false = codes "open"

-- how a run stands
abbrev pub ending_text : Ending → Bool → List ℕ
ending_text Running stuck = open_text stuck
ending_text End stuck = codes "end"
ending_text (Trapped t) stuck = codes "trap " ++ trap_name t

-- the line, with its line feed
abbrev pub closing_line : Ending → Bool → List ℕ
closing_line ending stuck = closed (ending_text ending stuck)
