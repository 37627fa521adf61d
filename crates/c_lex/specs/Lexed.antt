use Rattle.std.specs.Prelude.{◌≡◌, ◌⊎◌, ℕ, nat_le, true, List, Result, Err}
use Rattle.std.specs.List.{list_all}
use Rattle.cfix_base.specs.declared.spot.Spot.{Spot}
use Rattle.c_lex.specs.declared.token.Token.{Token}
use Rattle.c_lex.specs.declared.fault.LexFault.{LexFault}
use Rattle.c_lex.specs.declared.fault.LexFault.TheVariants.{NoMemory}
use Rattle.c_lex.specs.Pieces.{Piece}
use Rattle.c_lex.specs.Division.{Divides}
use Rattle.c_lex.specs.Faults.{spot_behind, tokens_of, lengths_of, HaveNoFault}

-- what is read from a text: its tokens in order, how many bytes each has, and the text's end
pub record Lexed : Type 0 where
  pub tokens : List Token
  pub lengths : List ℕ
  pub end : Spot

-- the text has no fault, and these are its tokens and its end
pub record Lexes (text : List ℕ) (lexed : Lexed) : Type 0 where
  pub pieces : List Piece
  pub division : Divides pieces text
  pub faultless : HaveNoFault pieces
  pub tokens : lexed.tokens ≡ tokens_of pieces
  pub lengths : lexed.lengths ≡ lengths_of pieces
  pub end : lexed.end ≡ spot_behind text

-- these are the tokens of some text of bytes, and its end
pub record IsLexed (lexed : Lexed) : Type 0 where
  pub text : List ℕ
  pub bytes : list_all (λ byte. nat_le byte 255) text ≡ true
  pub lexes : Lexes text lexed

-- the answer is this one, or there was no memory for it
abbrev pub IsOrNoMemory : Result Lexed LexFault → Result Lexed LexFault → Type 0
IsOrNoMemory result answer = (result ≡ answer) ⊎ (result ≡ Err NoMemory)
