-- How the code finds the pieces, byte by byte. The public clauses do not cite it: it is proved to give
-- the one division of a text, and what that division comes to.
use Rattle.std.specs.Prelude.{ℕ, zero, suc, ◌+◌, ◌-◌, Bool, true, false, ◌&&◌, eqb, if◌then◌else◌, List, [], ◌∷◌, ◌++◌, length, take, Some, None, Option}
use Rattle.std.specs.List.{prefix_len}
use Rattle.std.specs.Option.{option_map}
use Rattle.std.specs.Char.{is_ascii_digit}
use Rattle.cfix_base.specs.declared.spot.Spot.{Spot}
use Rattle.cfix_base.specs.Words.{is_name_start, is_name_byte}
use Rattle.c_lex.specs.declared.token.Token.{Token}
use Rattle.c_lex.specs.declared.fault.LexFault.{LexFault}
use Rattle.c_lex.specs.declared.fault.LexFault.TheVariants.{TooMany}
use Rattle.c_lex.specs.Bytes.{is_blank, is_line_byte, is_plain, is_escape, is_sign, begins_with}
use Rattle.c_lex.specs.Pieces.{Character, Plain, Escape, Piece, Blank, LineComment, ClosedComment, UnclosedComment, Identifier, Numeral, Literal, Punctuator, Stray, spelling}
use Rattle.c_lex.specs.declared.literal.Part.{Part}
use Rattle.c_lex.specs.declared.literal.Part.TheVariants.{Close, Backslash, Value, Bad}
use Rattle.c_lex.specs.Meaning.{character_value, Verdict, Between, Counts, Refuses, verdict}
use Rattle.c_lex.specs.Faults.{refusal_at, spot_behind}
use Rattle.c_lex.specs.Lexed.{Lexed}

-- how many bytes stand before the first `*/`
abbrev pub close_at : List ℕ → Option ℕ
close_at [] = None
close_at (byte ∷ rest) = (if eqb byte 42 && begins_with 47 rest then Some 0 else option_map (λ n. n + 1) (close_at rest))

-- a byte as a character, behind a `\` or not
abbrev pub character_at : Bool → ℕ → Character
character_at true byte = Escape byte
character_at false byte = Plain byte

-- that the byte is a character of the string
abbrev pub value_at : Bool → ℕ → Part
value_at escaped byte = Value (character_value (character_at escaped byte))

-- what a byte of a string is, behind a `\` or not
abbrev pub part_at : Bool → ℕ → Part
part_at true byte = (if is_escape byte then value_at true byte else Bad)
part_at false byte = (if eqb byte 34 then Close else (if eqb byte 92 then Backslash else (if is_plain byte then value_at false byte else Bad)))

-- the characters from a byte on, by what that byte is
abbrev pub characters_by : Part → Character → (Bool → Option (List Character)) → Option (List Character)
characters_by Close character go = Some []
characters_by Backslash character go = go true
characters_by (Value byte) character go = option_map (λ more. character ∷ more) (go false)
characters_by Bad character go = None

-- the characters before the closing quote; behind a `\` where the flag is set
abbrev pub characters_at : Bool → List ℕ → Option (List Character)
characters_at escaped [] = None
characters_at escaped (byte ∷ rest) = characters_by (part_at escaped byte) (character_at escaped byte) (λ next. characters_at next rest)

-- the string with these characters, or a `"` with none behind it
abbrev pub literal_at : Option (List Character) → Piece
literal_at (Some characters) = Literal characters
literal_at None = Stray 34

-- the comment whose `*/` stands at this place, or one without
abbrev pub comment_at : List ℕ → Option ℕ → Piece
comment_at body (Some n) = ClosedComment (take n body)
comment_at body None = UnclosedComment body

-- a sign of one byte, or no sign
abbrev pub single_at : ℕ → Piece
single_at byte = (if is_sign (byte ∷ []) then Punctuator (byte ∷ []) else Stray byte)

-- a sign of two bytes, or else what the first byte is
abbrev pub pair_at : ℕ → ℕ → Piece
pair_at byte next = (if is_sign (byte ∷ next ∷ []) then Punctuator (byte ∷ next ∷ []) else single_at byte)

-- the longest sign at a byte, where this text follows it
abbrev pub sign_at : ℕ → List ℕ → Piece
sign_at byte [] = single_at byte
sign_at byte (next ∷ rest) = pair_at byte next

-- a comment or a sign at a `/`, where this text follows it
abbrev pub slash_at : List ℕ → Piece
slash_at [] = single_at 47
slash_at (next ∷ rest) =
    (if eqb next 47 then LineComment (take (prefix_len is_line_byte rest) rest)
    else (if eqb next 42 then comment_at rest (close_at rest)
    else pair_at 47 next))

-- the piece that stands first, where the text is a byte and what follows it
abbrev pub piece_at : ℕ → List ℕ → Piece
piece_at byte rest =
    (if is_blank byte then Blank byte
    else (if is_name_start byte then Identifier (byte ∷ take (prefix_len is_name_byte rest) rest)
    else (if is_ascii_digit byte then Numeral (byte ∷ take (prefix_len is_name_byte rest) rest)
    else (if eqb byte 34 then literal_at (characters_at false rest)
    else (if eqb byte 47 then slash_at rest
    else sign_at byte rest)))))

-- the pieces of a text, of which the first so many bytes are passed over
unfoldable pub pieces_at : ℕ → List ℕ → List Piece
pieces_at n [] = []
pieces_at (suc n) (byte ∷ rest) = pieces_at n rest
pieces_at zero (byte ∷ rest) = piece_at byte rest ∷ pieces_at (length (spelling (piece_at byte rest)) - 1) rest

-- what the pieces of a text come to
pub data Outcome : Type 0 where
  Whole : Lexed → Outcome
  Faulty : LexFault → Outcome

-- tokens that stand before all others
abbrev pub with_front : List Token → List ℕ → Outcome → Outcome
with_front tokens lengths (Whole lexed) = Whole (record { tokens = tokens ++ lexed.tokens; lengths = lengths ++ lexed.lengths; end = lexed.end })
with_front tokens lengths (Faulty fault) = Faulty fault

-- what the pieces from one on come to, by the verdict on that one
abbrev pub outcome_by : Verdict → Spot → ℕ → ℕ → (ℕ → Outcome) → Outcome
outcome_by Between spot bytes left go = go left
outcome_by (Counts kind) spot bytes zero go = Faulty (TooMany spot)
outcome_by (Counts kind) spot bytes (suc left) go = with_front (record { kind = kind; spot = spot } ∷ []) (bytes ∷ []) (go left)
outcome_by (Refuses refusal) spot bytes left go = Faulty (refusal_at refusal spot)

-- what pieces behind the bytes `before` come to, where so many tokens may still come
unfoldable pub outcome : ℕ → List ℕ → List Piece → Outcome
outcome left before [] = Whole (record { tokens = []; lengths = []; end = spot_behind before })
outcome left before (piece ∷ pieces) = outcome_by (verdict piece) (spot_behind before) (length (spelling piece)) left (λ more. outcome more (before ++ spelling piece) pieces)
