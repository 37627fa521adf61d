-- Declarations, as trees of the grammar.
use Rattle.std.specs.Prelude.{List, map}
use Rattle.cfix_base.specs.declared.Spot.{Spot}
use Rattle.c_raw.specs.declared.decl.Size.{Size}
use Rattle.c_raw.specs.declared.decl.Size.TheVariants as size
use Rattle.c_raw.specs.declared.decl.Hold.{Hold}
use Rattle.c_raw.specs.declared.decl.Hold.TheVariants as hold
use Rattle.c_raw.specs.declared.decl.LocalInt.{LocalInt}
use Rattle.c_raw.specs.declared.decl.LocalInt.TheVariants as local
use Rattle.c_raw.specs.declared.decl.Decl.{Decl}
use Rattle.c_raw.specs.declared.decl.Decl.TheVariants as decl
use Rattle.c_raw.specs.declared.decl.LoopInt.{LoopInt}
use Rattle.c_raw.specs.declared.decl.LoopInt.TheVariants as loop
use Rattle.c_raw.specs.declared.decl.GlobalInt.{GlobalInt}
use Rattle.c_raw.specs.declared.decl.GlobalInt.TheVariants as global
use Rattle.c_raw.specs.declared.decl.GlobalMutex.{GlobalMutex}
use Rattle.c_raw.specs.declared.decl.GlobalMutex.TheVariants as mutex
use Rattle.c_raw.specs.declared.decl.GlobalCond.{GlobalCond}
use Rattle.c_raw.specs.declared.decl.GlobalCond.TheVariants as cond
use Rattle.c_raw.specs.declared.decl.Globals.{Globals}
use Rattle.c_raw.specs.declared.decl.Globals.TheVariants as globals
use Rattle.c_raw.specs.declared.decl.Qualifier.{Qualifier}
use Rattle.c_raw.specs.declared.decl.Qualifier.TheVariants as qualifier
use Rattle.c_raw.specs.Tokens.{ident_view, numeral_view}
use Rattle.c_raw.specs.Exprs.{expr_view}
use Rattle.c_raw.specs.Simples.{value_view}
use Rattle.c_grammar.specs.Decl as g

abbrev pub size_view : Size → g.Size
size_view (size.Count n) = g.Count (numeral_view n)
size_view (size.Named x) = g.Named (ident_view x)

abbrev pub hold_view : Hold → g.Hold
hold_view (hold.OneThread x) = g.OneThread (ident_view x)
hold_view (hold.Threads x before n after) = g.Threads (ident_view x) before (size_view n) after

-- declarators, each with the comma before it
abbrev pub more_holds_view : List (Spot × Hold) → List (Spot × g.Hold)
more_holds_view more = map (λ x. (x.0, hold_view x.1)) more

abbrev pub local_int_view : LocalInt → g.LocalInt
local_int_view (local.OneLocal x) = g.OneLocal (ident_view x)
local_int_view (local.SetLocal x at v) = g.SetLocal (ident_view x) at (value_view v)
local_int_view (local.LocalArray x before n after) = g.LocalArray (ident_view x) before (size_view n) after

abbrev pub more_local_ints_view : List (Spot × LocalInt) → List (Spot × g.LocalInt)
more_local_ints_view more = map (λ x. (x.0, local_int_view x.1)) more

abbrev pub decl_view : Decl → g.Decl
decl_view (decl.Ints at x more) = g.Ints at (local_int_view x) (more_local_ints_view more)
decl_view (decl.Holds at x more) = g.Holds at (hold_view x) (more_holds_view more)

abbrev pub loop_int_view : LoopInt → g.LoopInt
loop_int_view (loop.OneLoop x) = g.OneLoop (ident_view x)
loop_int_view (loop.SetLoop x at e) = g.SetLoop (ident_view x) at (expr_view e)

abbrev pub more_loop_ints_view : List (Spot × LoopInt) → List (Spot × g.LoopInt)
more_loop_ints_view more = map (λ x. (x.0, loop_int_view x.1)) more

abbrev pub global_int_view : GlobalInt → g.GlobalInt
global_int_view (global.OneGlobal x) = g.OneGlobal (ident_view x)
global_int_view (global.SetGlobal x at minus n) = g.SetGlobal (ident_view x) at minus (size_view n)
global_int_view (global.GlobalArray x before n after) = g.GlobalArray (ident_view x) before (size_view n) after

abbrev pub more_global_ints_view : List (Spot × GlobalInt) → List (Spot × g.GlobalInt)
more_global_ints_view more = map (λ x. (x.0, global_int_view x.1)) more

abbrev pub global_mutex_view : GlobalMutex → g.GlobalMutex
global_mutex_view (mutex.OneMutex x) = g.OneMutex (ident_view x)
global_mutex_view (mutex.SetMutex x at value) = g.SetMutex (ident_view x) at value

abbrev pub more_global_mutexes_view : List (Spot × GlobalMutex) → List (Spot × g.GlobalMutex)
more_global_mutexes_view more = map (λ x. (x.0, global_mutex_view x.1)) more

abbrev pub global_cond_view : GlobalCond → g.GlobalCond
global_cond_view (cond.OneCond x) = g.OneCond (ident_view x)
global_cond_view (cond.SetCond x at value) = g.SetCond (ident_view x) at value

abbrev pub more_global_conds_view : List (Spot × GlobalCond) → List (Spot × g.GlobalCond)
more_global_conds_view more = map (λ x. (x.0, global_cond_view x.1)) more

abbrev pub globals_view : Globals → g.Globals
globals_view (globals.Ints at x more) = g.GlobalInts at (global_int_view x) (more_global_ints_view more)
globals_view (globals.Holds at x more) = g.GlobalHolds at (hold_view x) (more_holds_view more)
globals_view (globals.Mutexes at x more) = g.GlobalMutexes at (global_mutex_view x) (more_global_mutexes_view more)
globals_view (globals.Conds at x more) = g.GlobalConds at (global_cond_view x) (more_global_conds_view more)

abbrev pub qualifier_view : Qualifier → g.Qualifier
qualifier_view qualifier.Static = g.Static
qualifier_view qualifier.Volatile = g.Volatile

abbrev pub qualifiers_view : List (Qualifier × Spot) → List (g.Qualifier × Spot)
qualifiers_view qualifiers = map (λ x. (qualifier_view x.0, x.1)) qualifiers
