-- The tokens that the grammar speaks of, each with its place in the text.
use Rattle.std.specs.Prelude.{ℕ, ℤ, pos, List}
use Rattle.cfix_base.specs.declared.Spot.{Spot}
use Rattle.c_grammar.specs.declared.word.Word.{Word}
use Rattle.c_grammar.specs.declared.sign.Sign.{Sign}

-- the kind of a token: a name, a number, a string, a word that the grammar knows, another word, or a sign
-- (6.4 of ISO/IEC 9899:2011)
pub data Kind : Type 0 where
  IsName : List ℕ → Kind
  IsNumber : ℤ → Kind
  IsQuoted : List ℕ → Kind
  IsWord : Word → Kind
  IsOther : List ℕ → Kind
  IsSign : Sign → Kind

pub record Token : Type 0 where
  pub kind : Kind
  pub spot : Spot

-- a name with its bytes
pub record Ident : Type 0 where
  pub text : List ℕ
  pub spot : Spot

-- a number with its value
pub record Numeral : Type 0 where
  pub value : ℤ
  pub spot : Spot

-- a string with the bytes that it stands for
pub record Text : Type 0 where
  pub bytes : List ℕ
  pub spot : Spot

abbrev pub ident : Ident → Token
ident x = record { kind = IsName x.text; spot = x.spot }

abbrev pub numeral : Numeral → Token
numeral n = record { kind = IsNumber n.value; spot = n.spot }

abbrev pub quoted : Text → Token
quoted t = record { kind = IsQuoted t.bytes; spot = t.spot }

abbrev pub word : Word → Spot → Token
word w s = record { kind = IsWord w; spot = s }

abbrev pub sign : Sign → Spot → Token
sign g s = record { kind = IsSign g; spot = s }

-- the number n as it stands in an operation's parentheses
abbrev pub digit : ℕ → Spot → Token
digit n s = record { kind = IsNumber (pos n); spot = s }

-- a token with its depth
abbrev pub Mark : Type 0
Mark = Token × ℕ
