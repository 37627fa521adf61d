use Rattle.std.specs.Prelude.{◌≡◌, ℕ, ◌+◌, leb, if◌then◌else◌, List, [], ◌∷◌, ◌++◌, length, Some, None, Option}
use Rattle.std.specs.List.{count_by}
use Rattle.cfix_base.specs.declared.limits.TheConstants.{MAX_TOKENS}
use Rattle.cfix_base.specs.declared.spot.Spot.{Spot}
use Rattle.c_lex.specs.declared.token.Token.{Token}
use Rattle.c_lex.specs.declared.fault.LexFault.{LexFault}
use Rattle.c_lex.specs.declared.fault.LexFault.TheVariants as f
use Rattle.c_lex.specs.declared.fault.Refusal.{Refusal}
use Rattle.c_lex.specs.declared.fault.Refusal.TheVariants as r
use Rattle.c_lex.specs.Bytes.{is_line_feed}
use Rattle.c_lex.specs.Pieces.{Piece, spelling}
use Rattle.c_lex.specs.Division.{Divides}
use Rattle.c_lex.specs.Meaning.{Verdict, Between, Counts, Refuses, verdict}

-- the place behind these bytes of a text: their number, and 1 plus the number of line feeds in them
abbrev pub spot_behind : List ℕ → Spot
spot_behind bytes = record { at = length bytes; line = 1 + count_by is_line_feed bytes }

-- the bytes of pieces that stand one behind the other
abbrev pub pieces_spelled : List Piece → List ℕ
pieces_spelled [] = []
pieces_spelled (piece ∷ pieces) = spelling piece ++ pieces_spelled pieces

-- the token that a piece at a spot is, if it is one
abbrev pub token_of : Verdict → Spot → List Token
token_of (Counts kind) spot = record { kind = kind; spot = spot } ∷ []
token_of _ spot = []

-- the number of bytes of a piece that is a token
abbrev pub length_of : Verdict → ℕ → List ℕ
length_of (Counts kind) bytes = bytes ∷ []
length_of _ bytes = []

-- the tokens of pieces that stand behind the bytes `before`
abbrev pub tokens_behind : List ℕ → List Piece → List Token
tokens_behind before [] = []
tokens_behind before (piece ∷ pieces) = token_of (verdict piece) (spot_behind before) ++ tokens_behind (before ++ spelling piece) pieces

-- the tokens of a text's pieces
abbrev pub tokens_of : List Piece → List Token
tokens_of pieces = tokens_behind [] pieces

-- how many bytes each of the tokens has
abbrev pub lengths_of : List Piece → List ℕ
lengths_of [] = []
lengths_of (piece ∷ pieces) = length_of (verdict piece) (length (spelling piece)) ++ lengths_of pieces

-- the fault that says why and where a piece is refused
abbrev pub refusal_at : Refusal → Spot → LexFault
refusal_at r.BadByte spot = f.BadByte spot
refusal_at r.OpenComment spot = f.OpenComment spot
refusal_at r.BadString spot = f.BadString spot
refusal_at r.BadNumber spot = f.BadNumber spot

-- the fault of a piece at a spot, with `count` tokens before it: that it is refused, or that it is
-- a token too many
abbrev pub fault_of : Verdict → ℕ → Spot → Option LexFault
fault_of Between count spot = None
fault_of (Counts kind) count spot = (if leb MAX_TOKENS count then Some (f.TooMany spot) else None)
fault_of (Refuses refusal) count spot = Some (refusal_at refusal spot)

-- the fault of a piece that stands behind the pieces `before`
abbrev pub fault_behind : List Piece → Piece → Option LexFault
fault_behind before piece = fault_of (verdict piece) (length (tokens_of before)) (spot_behind (pieces_spelled before))

-- none of the pieces has a fault
abbrev pub HaveNoFault : List Piece → Type 0
HaveNoFault pieces = (before : List Piece) (piece : Piece) (behind : List Piece) → pieces ≡ before ++ piece ∷ behind → fault_behind before piece ≡ None

-- the fault is that of the first piece of the text that has one
pub record IsFirstFault (text : List ℕ) (fault : LexFault) : Type 0 where
  pub before : List Piece
  pub piece : Piece
  pub behind : List Piece
  pub division : Divides (before ++ piece ∷ behind) text
  pub earlier : HaveNoFault before
  pub cause : fault_behind before piece ≡ Some fault

-- want of memory is free; another fault is the first of the text
abbrev pub IsCaused : LexFault → List ℕ → Type 0
IsCaused f.NoMemory text = Unit {0}
IsCaused fault text = IsFirstFault text fault
