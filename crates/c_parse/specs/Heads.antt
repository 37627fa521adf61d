-- The readers of heads that the code has besides those of the grammar.
use Rattle.std.specs.Prelude.{List}
use Rattle.std.proofs.Common.{inl, inr}
use Rattle.cfix_base.specs.declared.Spot.{Spot}
use Rattle.c_grammar.specs.declared.sign.Sign.TheVariants as s
use Rattle.c_grammar.specs.Token.{Token}
use Rattle.c_reading.specs.Reader.{Out, seq}
use Rattle.c_reading.specs.Read.{read_sign}
use Rattle.c_grammar.specs.File as g
use Rattle.c_reading.specs.ReadFile as read
use Rattle.c_raw.specs.declared.file.Param.{Param}
use Rattle.c_raw.specs.Tokens.{ident_view}
use Rattle.c_raw.specs.Ops.{ops_view}
use Rattle.c_raw.specs.Stmts.{items_view}
use Rattle.c_raw.specs.Files.{name_view, param_view, params_view}
use Rattle.c_parse.specs.declared.head.HeadEnd.{HeadEnd}
use Rattle.c_parse.specs.declared.head.HeadEnd.TheVariants as end
use Rattle.c_parse.specs.declared.head.HeadTail.{HeadTail}
use Rattle.c_parse.specs.declared.head.ThreadHead.{ThreadHead}

-- a parameter with the comma before it
abbrev pub next_param_view : Spot × Param → Spot × g.Param
next_param_view x = (x.0, param_view x.1)

abbrev pub next_param : List Token → Out Token (Spot × g.Param)
next_param = seq (read_sign s.Comma) read.read_param

abbrev pub head_end_view : HeadEnd → read.HeadEnd
head_end_view (end.Prototype at) = inl at
head_end_view (end.Body b) = inr (b.before, (ops_view b.ops, (items_view b.items, b.after)))

abbrev pub head_tail_view : HeadTail → read.HeadTail
head_tail_view x = (x.before, (params_view x.params, (x.after, head_end_view x.end)))

abbrev pub thread_head_view : ThreadHead → read.ThreadHeadParts
thread_head_view x = (x.star, (ident_view x.name, (x.before, (x.void, (x.param_star, (name_view x.param, (x.after, head_end_view x.end)))))))
