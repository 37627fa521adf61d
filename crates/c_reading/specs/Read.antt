-- Tests on tokens, and what each token carries.
use Rattle.std.specs.Prelude.{ℕ, eqb, Bool, true, false, List, Option, Some, None, cond}
use Rattle.cfix_base.specs.declared.Spot.{Spot}
use Rattle.c_grammar.specs.declared.word.Word.{Word}
use Rattle.c_grammar.specs.declared.word.Word.TheVariants as w
use Rattle.c_grammar.specs.declared.sign.Sign.{Sign}
use Rattle.c_grammar.specs.declared.sign.Sign.TheVariants as s
use Rattle.c_reading.specs.Reader.{Out, one_of, seq, many}
use Rattle.c_grammar.specs.Token.{Kind, IsName, IsNumber, IsQuoted, IsWord, IsSign, Token, Ident, Numeral, Text}

-- a number for each word, to compare them by
abbrev pub word_code : Word → ℕ
word_code w.Break = 0
word_code w.Continue = 1
word_code w.Else = 2
word_code w.For = 3
word_code w.If = 4
word_code w.Int = 5
word_code w.Long = 6
word_code w.Return = 7
word_code w.Static = 8
word_code w.Void = 9
word_code w.Volatile = 10
word_code w.While = 11
word_code w.Null = 12
word_code w.Printf = 13
word_code w.Scanf = 14
word_code w.Thread = 15
word_code w.Mutex = 16
word_code w.Create = 17
word_code w.Join = 18
word_code w.Lock = 19
word_code w.Unlock = 20
word_code w.MutexInitializer = 21
word_code w.Cond = 22
word_code w.CondWait = 23
word_code w.Signal = 24
word_code w.Broadcast = 25
word_code w.CondInitializer = 26
word_code w.Enter = 27
word_code w.Leave = 28
word_code w.Wait = 29
word_code w.Done = 30
word_code w.First = 31
word_code w.Add = 32
word_code w.Value = 33

-- a number for each sign, to compare them by
abbrev pub sign_code : Sign → ℕ
sign_code s.OpenParen = 0
sign_code s.CloseParen = 1
sign_code s.OpenBrace = 2
sign_code s.CloseBrace = 3
sign_code s.OpenBracket = 4
sign_code s.CloseBracket = 5
sign_code s.Semicolon = 6
sign_code s.Comma = 7
sign_code s.Assign = 8
sign_code s.Plus = 9
sign_code s.Minus = 10
sign_code s.Star = 11
sign_code s.Slash = 12
sign_code s.Percent = 13
sign_code s.Less = 14
sign_code s.Greater = 15
sign_code s.LessEqual = 16
sign_code s.GreaterEqual = 17
sign_code s.Equal = 18
sign_code s.NotEqual = 19
sign_code s.Not = 20
sign_code s.AndAnd = 21
sign_code s.OrOr = 22
sign_code s.Ampersand = 23
sign_code s.PlusPlus = 24
sign_code s.MinusMinus = 25
sign_code s.PlusAssign = 26
sign_code s.MinusAssign = 27
sign_code s.StarAssign = 28
sign_code s.SlashAssign = 29
sign_code s.PercentAssign = 30
sign_code s.Hash = 31
sign_code s.Dot = 32

abbrev pub is_word_kind : Word → Kind → Bool
is_word_kind x (IsWord y) = eqb (word_code x) (word_code y)
is_word_kind x _ = false

abbrev pub is_sign_kind : Sign → Kind → Bool
is_sign_kind x (IsSign y) = eqb (sign_code x) (sign_code y)
is_sign_kind x _ = false

-- the token is this word
abbrev pub is_word : Word → Token → Bool
is_word x t = is_word_kind x t.kind

-- the token is this sign
abbrev pub is_sign : Sign → Token → Bool
is_sign x t = is_sign_kind x t.kind

abbrev pub at_word : Word → Token → Option Spot
at_word x t = cond (is_word x t) (Some t.spot) None

abbrev pub at_sign : Sign → Token → Option Spot
at_sign x t = cond (is_sign x t) (Some t.spot) None

abbrev pub ident_in : Kind → Spot → Option Ident
ident_in (IsName text) at = Some (record { text = text; spot = at })
ident_in _ at = None

abbrev pub numeral_in : Kind → Spot → Option Numeral
numeral_in (IsNumber n) at = Some (record { value = n; spot = at })
numeral_in _ at = None

abbrev pub text_in : Kind → Spot → Option Text
text_in (IsQuoted bytes) at = Some (record { bytes = bytes; spot = at })
text_in _ at = None

abbrev pub ident_of : Token → Option Ident
ident_of t = ident_in t.kind t.spot

abbrev pub numeral_of : Token → Option Numeral
numeral_of t = numeral_in t.kind t.spot

abbrev pub text_of : Token → Option Text
text_of t = text_in t.kind t.spot

abbrev pub is_name_kind : Kind → Bool
is_name_kind (IsName text) = true
is_name_kind _ = false

abbrev pub is_number_kind : Kind → Bool
is_number_kind (IsNumber n) = true
is_number_kind _ = false

abbrev pub is_name : Token → Bool
is_name t = is_name_kind t.kind

abbrev pub is_number : Token → Bool
is_number t = is_number_kind t.kind

-- the readers of one token
abbrev pub read_word : Word → List Token → Out Token Spot
read_word x = one_of (at_word x)

abbrev pub read_sign : Sign → List Token → Out Token Spot
read_sign x = one_of (at_sign x)

abbrev pub read_ident : List Token → Out Token Ident
read_ident = one_of ident_of

abbrev pub read_numeral : List Token → Out Token Numeral
read_numeral = one_of numeral_of

abbrev pub read_text : List Token → Out Token Text
read_text = one_of text_of

-- { "," item }
abbrev pub commas : {A : Type 0} → (List Token → Out Token A) → List Token → Out Token (List (Spot × A))
commas item = many (is_sign s.Comma) (seq (read_sign s.Comma) item)

-- item { "," item }
abbrev pub listed : {A : Type 0} → (List Token → Out Token A) → List Token → Out Token (A × List (Spot × A))
listed item = seq item (commas item)
