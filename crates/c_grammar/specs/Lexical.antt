-- The tokens of a text as the grammar speaks of them.
use Rattle.std.specs.Prelude.{List, map}
use Rattle.c_lex.specs.declared.token.Kind as k
use Rattle.c_lex.specs.declared.token.Kind.TheVariants as lexed_kind
use Rattle.c_lex.specs.declared.token.Token as t
use Rattle.c_grammar.specs.Token.{Kind, IsName, IsNumber, IsQuoted, Token}
use Rattle.c_grammar.specs.Spelling.{word_kind, sign_kind}

-- a kind of token of the text as the grammar knows it
abbrev pub kind_read : k.Kind → Kind
kind_read (lexed_kind.Name text) = IsName text
kind_read (lexed_kind.Word text) = word_kind text
kind_read (lexed_kind.Number n) = IsNumber n
kind_read (lexed_kind.Quoted bytes) = IsQuoted bytes
kind_read (lexed_kind.Sign text) = sign_kind text

-- a token of the text as the grammar knows it
abbrev pub token_read : t.Token → Token
token_read token = record { kind = kind_read token.kind; spot = token.spot }

abbrev pub tokens_read : List t.Token → List Token
tokens_read tokens = map token_read tokens
