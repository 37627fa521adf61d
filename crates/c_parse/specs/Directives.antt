-- The readers of includes and defines in the order in which the code reads.
use Rattle.std.specs.Prelude.{ℕ, List, map, codes, ◌⊎◌}
use Rattle.std.proofs.Common.{inl, inr}
use Rattle.std.specs.Str.{bytes_eq}
use Rattle.cfix_base.specs.declared.Spot.{Spot}
use Rattle.c_grammar.specs.declared.sign.Sign.TheVariants as s
use Rattle.c_grammar.specs.Token as t
use Rattle.c_reading.specs.Reader.{Out, Stop, Unexpected, next, one_of, seq, map_out, mapped, either}
use Rattle.c_reading.specs.Read.{read_sign, ident_of}
use Rattle.c_grammar.specs.File as g
use Rattle.c_reading.specs.ReadFile as read
use Rattle.c_raw.specs.declared.token.Token.{Token}
use Rattle.c_raw.specs.Tokens.{ident_view, token_view}
use Rattle.c_raw.specs.Files.{header_view, replacement_view}
use Rattle.c_parse.specs.declared.directive.Directive.{Directive}
use Rattle.c_parse.specs.declared.directive.Directive.TheVariants as directive

abbrev pub inside_view : List Token → List t.Token
inside_view tokens = map token_view tokens

abbrev pub header_at : ℕ → List t.Token → Out t.Token g.Header
header_at line = mapped read.header_from (read.header_on line)

abbrev pub replacement_at : ℕ → List t.Token → Out t.Token g.Replacement
replacement_at line = mapped read.replacement_from (read.replacement_on line)

-- a header behind the name `include` at this place, or a definition behind `define`
abbrev pub Parts : Type 0
Parts = (Spot × g.Header) ⊎ (Spot × (t.Ident × g.Replacement))

abbrev pub directive_view : Directive → Parts
directive_view (directive.Include name header) = inl (name, header_view header)
directive_view (directive.Define name defined value) = inr (name, (ident_view defined, replacement_view value))

abbrev pub included : Spot → g.Header → Parts
included name h = inl (name, h)

abbrev pub defined : Spot → t.Ident × g.Replacement → Parts
defined name x = inr (name, x)

-- behind the first word of a line, where here are the tokens from this word on
abbrev pub named_at : t.Ident → ℕ → List t.Token → List t.Token → Out t.Token Parts
named_at x line here ts = either (bytes_eq x.text (codes "include")) (map_out (included x.spot) (header_at line ts))
    (either (bytes_eq x.text (codes "define")) (map_out (defined x.spot) (seq (one_of (read.on_line line ident_of)) (replacement_at line) ts)) (Stop Unexpected here))

abbrev pub directive_tail_at : ℕ → List t.Token → Out t.Token Parts
directive_tail_at line ts = next (one_of (read.on_line line ident_of) ts) (λ x r. named_at x line ts r)

abbrev pub directive_from : Spot → Parts → g.Top
directive_from at (inl x) = g.Include at x.0 x.1
directive_from at (inr x) = g.Define at x.0 x.1.0 x.1.1

abbrev pub directive_at : List t.Token → Out t.Token g.Top
directive_at ts = next (read_sign s.Hash ts) (λ at r. map_out (directive_from at) (directive_tail_at at.line r))
