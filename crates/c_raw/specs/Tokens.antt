-- Names, numbers, strings and tokens, as the grammar speaks of them.
use Rattle.c_raw.specs.declared.token.Ident.{Ident}
use Rattle.c_raw.specs.declared.token.Numeral.{Numeral}
use Rattle.c_raw.specs.declared.token.Text.{Text}
use Rattle.c_raw.specs.declared.token.Kind.{Kind}
use Rattle.c_raw.specs.declared.token.Kind.TheVariants as k
use Rattle.c_raw.specs.declared.token.Token.{Token}
use Rattle.c_grammar.specs.Token as g

abbrev pub ident_view : Ident → g.Ident
ident_view x = record { text = x.text; spot = x.spot }

abbrev pub numeral_view : Numeral → g.Numeral
numeral_view n = record { value = n.value; spot = n.spot }

abbrev pub text_view : Text → g.Text
text_view t = record { bytes = t.bytes; spot = t.spot }

abbrev pub kind_view : Kind → g.Kind
kind_view (k.Name text) = g.IsName text
kind_view (k.Number n) = g.IsNumber n
kind_view (k.Quoted bytes) = g.IsQuoted bytes
kind_view (k.Word w) = g.IsWord w
kind_view (k.Other text) = g.IsOther text
kind_view (k.Sign s) = g.IsSign s

abbrev pub token_view : Token → g.Token
token_view t = record { kind = kind_view t.kind; spot = t.spot }
