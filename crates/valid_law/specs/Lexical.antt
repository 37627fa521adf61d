-- What the tokens of a text hold: a name is no word, a number is at most 2147483647, and a string has the bytes that one can have.
use Rattle.std.specs.Prelude.{ℕ, nat_le, Bool, true, List}
use Rattle.std.specs.List.{list_all}
use Rattle.cfix_base.specs.Words.{is_name_text}
use Rattle.c_grammar.specs.Token.{Kind, IsName, IsNumber, IsQuoted, Token, Mark}
use Rattle.c_prog.specs.Valid.Expressions.{is_number}
use Rattle.c_prog.specs.Valid.Strings.{is_string}

-- the numbers of a text are bytes
abbrev pub are_bytes : List ℕ → Bool
are_bytes text = list_all (λ byte. nat_le byte 255) text

-- what a token of a text can be
abbrev pub is_lexical : Kind → Bool
is_lexical (IsName text) = is_name_text text
is_lexical (IsNumber value) = is_number value
is_lexical (IsQuoted bytes) = is_string bytes
is_lexical _ = true

-- each token can be one of a text
abbrev pub all_lexical : List Token → Bool
all_lexical tokens = list_all (λ t. is_lexical t.kind) tokens

-- each token of a tree can be one of a text
abbrev pub are_lexical : List Mark → Bool
are_lexical marks = list_all (λ m. is_lexical m.0.kind) marks
