-- What `parse` answers.
use Rattle.std.specs.Prelude.{◌≡◌, ◌⊎◌, ℕ, List, [], map, Result, Ok, Err}
use Rattle.cfix_base.specs.declared.Spot.{Spot}
use Rattle.c_lex.specs.Lexed.{Lexed}
use Rattle.c_grammar.specs.Token.{Token}
use Rattle.c_grammar.specs.Lexical.{tokens_read}
use Rattle.c_reading.specs.Reader.{Unexpected, Deep, Got, Stop}
use Rattle.c_grammar.specs.File.{File, file_marks, is_file}
use Rattle.c_reading.specs.ReadFile.{read_file}
use Rattle.c_grammar.specs.Verdict.{IsRead, IsUnexpectedAt, IsDeepAt}
use Rattle.c_raw.specs.declared.file.Raw.{Raw}
use Rattle.c_raw.specs.declared.file.Top.{Top}
use Rattle.c_cursor.specs.declared.fault.ReadFault.{ReadFault}
use Rattle.c_cursor.specs.Gives.{Stops}
use Rattle.c_raw.specs.Files.{top_view, file_view}
use Rattle.c_cursor.specs.Seen.{spot_at}
use Rattle.c_parse.specs.declared.fault.ParseFault.{ParseFault}
use Rattle.c_parse.specs.declared.fault.ParseFault.TheVariants as fault

-- the file has these tokens, keeps the rules of the grammar, and no token is deeper than 200
abbrev pub IsFileOf : Lexed → File → Type 0
IsFileOf lexed file = IsRead 200 file_marks is_file (tokens_read lexed.tokens) file

-- the tree is the file of these tokens, and ends where their text does
pub record Parses (lexed : Lexed) (raw : Raw) : Type 0 where
  pub file : IsFileOf lexed (file_view raw)
  pub end : raw.end ≡ lexed.end

-- From here on are the tokens whose first is the first with which no file goes on, or none are left and a file is only
-- begun; no token before is too deep.
abbrev pub IsUnexpected : Lexed → List Token → Type 0
IsUnexpected lexed rest = IsUnexpectedAt 200 file_marks is_file (tokens_read lexed.tokens) rest

-- from here on are the tokens whose first is the first that is too deep, and a file goes on with it
abbrev pub IsDeep : Lexed → List Token → Type 0
IsDeep lexed rest = IsDeepAt 200 file_marks is_file (tokens_read lexed.tokens) rest

-- where the first of these tokens stands, or the text's end
abbrev pub spot_in : Lexed → List Token → Spot
spot_in lexed rest = spot_at lexed.end rest

-- the fault stands where it is said to
abbrev pub FaultIs : ParseFault → Lexed → Type 0
FaultIs fault.NoMemory lexed = Unit {0}
FaultIs (fault.Unexpected spot) lexed = (rest : List Token) × IsUnexpected lexed rest × (spot ≡ spot_in lexed rest)
FaultIs (fault.Deep spot) lexed = (rest : List Token) × IsDeep lexed rest × (spot ≡ spot_in lexed rest)

-- the answer is a tree of this file, or there was no memory for it
abbrev pub IsTreeOf : File → Result Raw ParseFault → Type 0
IsTreeOf file (Ok raw) = file_view raw ≡ file
IsTreeOf file (Err e) = e ≡ fault.NoMemory

-- the answer is this fault, or there was no memory for it
abbrev pub IsFault : ParseFault → Result Raw ParseFault → Type 0
IsFault e result = (result ≡ Err e) ⊎ (result ≡ Err fault.NoMemory)

-- what reading the tokens answers, with the place of a fault
abbrev pub Answers : Lexed → Result Raw ParseFault → Type 0
Answers lexed (Ok raw) = (read_file 200 (tokens_read lexed.tokens) ≡ Got (file_view raw) []) × (raw.end ≡ lexed.end)
Answers lexed (Err fault.NoMemory) = Unit {0}
Answers lexed (Err (fault.Unexpected spot)) = (rest : List Token) × (read_file 200 (tokens_read lexed.tokens) ≡ Stop Unexpected rest) × (spot ≡ spot_in lexed rest)
Answers lexed (Err (fault.Deep spot)) = (rest : List Token) × (read_file 200 (tokens_read lexed.tokens) ≡ Stop Deep rest) × (spot ≡ spot_in lexed rest)

abbrev pub tops_view : List Top → File
tops_view tops = map top_view tops

-- what reading the tokens of a cursor answers, with the tokens from a fault on
abbrev pub Reads : List Token → Result (List Top) ReadFault → Type 0
Reads ts (Ok tops) = read_file 200 ts ≡ Got (tops_view tops) []
Reads ts (Err e) = Stops ts e (read_file 200 ts)
