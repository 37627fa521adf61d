use Rattle.std.specs.Prelude.{ℕ, Bool, not, ◌||◌, List, [], ◌∷◌, ◌++◌}
use Rattle.std.specs.List.{list_all}
use Rattle.std.specs.Char.{is_ascii_digit}
use Rattle.cfix_base.specs.Words.{is_name_start, is_identifier}
use Rattle.c_lex.specs.Bytes.{is_blank, is_line_byte, is_plain, is_escape, is_sign, is_numeral, holds_close}

-- a character of a string: a byte for itself, or a `\` and the byte behind it
-- (6.4.5 and 6.4.4.4 of ISO/IEC 9899:2011)
pub data Character : Type 0 where
  Plain : ℕ → Character
  Escape : ℕ → Character

-- what a text is made of (6.4 of ISO/IEC 9899:2011): blanks, comments (6.4.9), identifiers (6.4.2),
-- numbers (6.4.8), strings (6.4.5), signs (6.4.6), and single bytes that are none of these.
-- A comment of more lines is closed, or open to the text's end.
pub data Piece : Type 0 where
  Blank : ℕ → Piece
  LineComment : List ℕ → Piece
  ClosedComment : List ℕ → Piece
  UnclosedComment : List ℕ → Piece
  Identifier : List ℕ → Piece
  Numeral : List ℕ → Piece
  Literal : List Character → Piece
  Punctuator : List ℕ → Piece
  Stray : ℕ → Piece

-- the bytes of a string between its quotes
abbrev pub characters_spelled : List Character → List ℕ
characters_spelled [] = []
characters_spelled (Plain byte ∷ rest) = byte ∷ characters_spelled rest
characters_spelled (Escape byte ∷ rest) = 92 ∷ byte ∷ characters_spelled rest

-- the bytes of a piece: 47 is `/`, 42 is `*`, 34 is `"` and 92 is `\`
abbrev pub spelling : Piece → List ℕ
spelling (Blank byte) = byte ∷ []
spelling (LineComment body) = 47 ∷ 47 ∷ body
spelling (ClosedComment body) = 47 ∷ 42 ∷ (body ++ 42 ∷ 47 ∷ [])
spelling (UnclosedComment body) = 47 ∷ 42 ∷ body
spelling (Identifier text) = text
spelling (Numeral text) = text
spelling (Literal characters) = 34 ∷ (characters_spelled characters ++ 34 ∷ [])
spelling (Punctuator text) = text
spelling (Stray byte) = byte ∷ []

-- which characters a string may have
abbrev pub is_character : Character → Bool
is_character (Plain byte) = is_plain byte
is_character (Escape byte) = is_escape byte

-- which pieces there are: a line comment ends before the line feed, a closed comment at its first
-- `*/`, and an unclosed one has none, so that the longest reaches the text's end
abbrev pub is_piece : Piece → Bool
is_piece (Blank byte) = is_blank byte
is_piece (LineComment body) = list_all is_line_byte body
is_piece (ClosedComment body) = not (holds_close body)
is_piece (UnclosedComment body) = not (holds_close body)
is_piece (Identifier text) = is_identifier text
is_piece (Numeral text) = is_numeral text
is_piece (Literal characters) = list_all is_character characters
is_piece (Punctuator text) = is_sign text
is_piece (Stray byte) = not (((is_blank byte || is_name_start byte) || is_ascii_digit byte) || is_sign (byte ∷ []))
