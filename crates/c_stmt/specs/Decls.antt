-- The readers of declarations that the code has besides those of the grammar.
use Rattle.std.specs.Prelude.{ℕ, List}
use Rattle.cfix_base.specs.declared.Spot.{Spot}
use Rattle.c_grammar.specs.declared.sign.Sign.TheVariants as s
use Rattle.c_grammar.specs.Token.{Token}
use Rattle.c_reading.specs.Reader.{Out, seq}
use Rattle.c_reading.specs.Read.{read_sign}
use Rattle.c_grammar.specs.Decl as g
use Rattle.c_reading.specs.ReadDecl as read
use Rattle.c_raw.specs.declared.decl.Hold.{Hold}
use Rattle.c_raw.specs.declared.decl.LocalInt.{LocalInt}
use Rattle.c_raw.specs.declared.decl.LoopInt.{LoopInt}
use Rattle.c_raw.specs.Decls.{size_view, hold_view, local_int_view, more_local_ints_view, loop_int_view}
use Rattle.c_stmt.specs.declared.decl.Length.{Length}
use Rattle.c_stmt.specs.declared.decl.Locals.{Locals}

abbrev pub length_view : Length → read.Length
length_view x = (x.before, (size_view x.size, x.after))

abbrev pub locals_view : Locals → g.LocalInt × List (Spot × g.LocalInt)
locals_view x = (local_int_view x.first, more_local_ints_view x.more)

-- a declarator with the comma before it
abbrev pub next_hold_view : Spot × Hold → Spot × g.Hold
next_hold_view x = (x.0, hold_view x.1)

abbrev pub next_local_view : Spot × LocalInt → Spot × g.LocalInt
next_local_view x = (x.0, local_int_view x.1)

abbrev pub next_loop_int_view : Spot × LoopInt → Spot × g.LoopInt
next_loop_int_view x = (x.0, loop_int_view x.1)

abbrev pub next_hold : List Token → Out Token (Spot × g.Hold)
next_hold = seq (read_sign s.Comma) read.read_hold

abbrev pub next_local : (d : ℕ) → List Token → Out Token (Spot × g.LocalInt)
next_local d = seq (read_sign s.Comma) (read.local_at 200 d)

abbrev pub next_loop_int : (d : ℕ) → List Token → Out Token (Spot × g.LoopInt)
next_loop_int d = seq (read_sign s.Comma) (read.loop_int_at 200 d)
