use Rattle.std.specs.Prelude.{◌≡◌, true, ◌≤◌, List, [], ◌∷◌, ◌++◌, ℕ, length}
use Rattle.c_lex.specs.Pieces.{Piece, spelling, is_piece}

-- the piece stands at the front of the text, before `rest`
pub record Stands (piece : Piece) (text rest : List ℕ) : Type 0 where
  pub known : is_piece piece ≡ true
  pub front : text ≡ spelling piece ++ rest

-- no longer piece stands at the front of the text: the longest one is taken
-- (6.4 of ISO/IEC 9899:2011, paragraph 4)
abbrev pub IsLongest : Piece → List ℕ → Type 0
IsLongest piece text = (other : Piece) (rest : List ℕ) → Stands other text rest → length (spelling other) ≤ length (spelling piece)

-- the text is these pieces one behind the other, each the longest at its place
abbrev pub Divides : List Piece → List ℕ → Type 0
Divides [] text = text ≡ []
Divides (piece ∷ pieces) text = (rest : List ℕ) × (Stands piece text rest × IsLongest piece text × Divides pieces rest)

-- the text divides in exactly one way
pub record HasOneDivision (text : List ℕ) : Type 0 where
  pub pieces : List Piece
  pub division : Divides pieces text
  pub only : (others : List Piece) → Divides others text → others ≡ pieces
