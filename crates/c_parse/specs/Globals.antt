-- The readers of declarations of global variables that the code has besides those of the grammar.
use Rattle.std.specs.Prelude.{List, Option, Some, None}
use Rattle.std.proofs.Common.{inl, inr}
use Rattle.cfix_base.specs.declared.Spot.{Spot}
use Rattle.c_grammar.specs.declared.sign.Sign.TheVariants as s
use Rattle.c_grammar.specs.Token.{Token}
use Rattle.c_reading.specs.Reader.{Out, seq, mapped}
use Rattle.c_reading.specs.Read.{read_sign}
use Rattle.c_grammar.specs.Decl as g
use Rattle.c_reading.specs.ReadDecl as read
use Rattle.c_reading.specs.ReadFile.{GlobalTail, HoldParts, MutexParts, CondParts, read_holds, read_mutexes, read_conds}
use Rattle.c_raw.specs.declared.decl.GlobalInt.{GlobalInt}
use Rattle.c_raw.specs.declared.decl.GlobalMutex.{GlobalMutex}
use Rattle.c_raw.specs.declared.decl.GlobalCond.{GlobalCond}
use Rattle.c_raw.specs.declared.decl.Globals.{Globals}
use Rattle.c_raw.specs.Decls.{size_view, global_int_view, more_global_ints_view, global_mutex_view, global_cond_view, globals_view}
use Rattle.c_stmt.specs.Decls.{length_view}
use Rattle.c_parse.specs.declared.globals.Declared.{Declared}
use Rattle.c_parse.specs.declared.globals.Declared.TheVariants as declared
use Rattle.c_parse.specs.declared.globals.IntsTail.{IntsTail}

abbrev pub declared_view : Declared → read.Declared (Option Spot × g.Size)
declared_view declared.Nothing = inr None
declared_view (declared.Set at minus value) = inl (at, (minus, size_view value))
declared_view (declared.Array n) = inr (Some (length_view n))

-- a declarator with the comma before it
abbrev pub next_int_view : Spot × GlobalInt → Spot × g.GlobalInt
next_int_view x = (x.0, global_int_view x.1)

abbrev pub next_mutex_view : Spot × GlobalMutex → Spot × g.GlobalMutex
next_mutex_view x = (x.0, global_mutex_view x.1)

abbrev pub next_cond_view : Spot × GlobalCond → Spot × g.GlobalCond
next_cond_view x = (x.0, global_cond_view x.1)

abbrev pub next_int : List Token → Out Token (Spot × g.GlobalInt)
next_int = seq (read_sign s.Comma) read.read_global_int

abbrev pub next_mutex : List Token → Out Token (Spot × g.GlobalMutex)
next_mutex = seq (read_sign s.Comma) read.read_global_mutex

abbrev pub next_cond : List Token → Out Token (Spot × g.GlobalCond)
next_cond = seq (read_sign s.Comma) read.read_global_cond

abbrev pub ints_tail_view : IntsTail → GlobalTail
ints_tail_view x = (declared_view x.declared, (more_global_ints_view x.more, x.end))

-- a declaration with its semicolon
abbrev pub globals_view_of : Globals × Spot → g.Globals × Spot
globals_view_of x = (globals_view x.0, x.1)

abbrev pub holds_from : HoldParts → g.Globals × Spot
holds_from x = (g.GlobalHolds x.0.0 x.0.1.0 x.0.1.1, x.1)

abbrev pub mutexes_from : MutexParts → g.Globals × Spot
mutexes_from x = (g.GlobalMutexes x.0.0 x.0.1.0 x.0.1.1, x.1)

abbrev pub conds_from : CondParts → g.Globals × Spot
conds_from x = (g.GlobalConds x.0.0 x.0.1.0 x.0.1.1, x.1)

abbrev pub read_holds_at : List Token → Out Token (g.Globals × Spot)
read_holds_at = mapped holds_from read_holds

abbrev pub read_mutexes_at : List Token → Out Token (g.Globals × Spot)
read_mutexes_at = mapped mutexes_from read_mutexes

abbrev pub read_conds_at : List Token → Out Token (g.Globals × Spot)
read_conds_at = mapped conds_from read_conds
