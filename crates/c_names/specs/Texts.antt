-- Which source a text spells, and which texts are accepted. The text divides into tokens; the tokens are those of a file of the
-- grammar; and the names of the file resolve to the source.
use Rattle.std.specs.Prelude.{◌≡◌, ℕ, ◌≤◌, Bool, true, false, List, [], length}
use Rattle.std.specs.List.{list_all}
use Rattle.cfix_base.specs.declared.limits.TheConstants.{MAX_DEPTH, MAX_SOURCE_BYTES}
use Rattle.c_lex.specs.Pieces.{Piece}
use Rattle.c_lex.specs.Division.{Divides}
use Rattle.c_lex.specs.Meaning.{Verdict, Refuses, verdict}
use Rattle.c_lex.specs.Faults.{spot_behind, tokens_of}
use Rattle.c_lex.specs.Lexed.{Lexed, Lexes}
use Rattle.c_grammar.specs.Token.{Token}
use Rattle.c_grammar.specs.Lexical.{tokens_read}
use Rattle.c_grammar.specs.File.{File, file_marks, file_tokens, is_file}
use Rattle.c_grammar.specs.Verdict.{IsRead}
use Rattle.c_prog.specs.Lines.{SourceTree}
use Rattle.c_names.specs.Faults.{is_limit}
use Rattle.c_names.specs.Files.{faults_of}
use Rattle.c_names.specs.Sources.{source_of}

-- the piece is a token, or stands between tokens
abbrev pub is_known : Verdict → Bool
is_known (Refuses refusal) = false
is_known _ = true

-- The text divides into pieces of which none is refused, and these are its tokens, whatever their number.
pub record DividesInto (text : List ℕ) (tokens : List Token) : Type 0 where
  pub pieces : List Piece
  pub division : Divides pieces text
  pub known : list_all (λ piece. is_known (verdict piece)) pieces ≡ true
  pub are_tokens : tokens ≡ tokens_read (tokens_of pieces)

-- The text spells the source: its tokens are those of a file, of whatever depth, whose names have no fault but that a limit is
-- passed, and which spells the source.
pub record Spells (text : List ℕ) (source : SourceTree) : Type 0 where
  pub file : File
  pub divided : DividesInto text (file_tokens file)
  pub derived : is_file file ≡ true
  pub faultless : list_all (λ f. is_limit f.kind) (faults_of (spot_behind text) file) ≡ true
  pub is_source : source ≡ source_of file

-- The text is accepted: it is not too long, it has a token for each piece that is no blank or comment and not too many, they are those
-- of a file and none stands too deep, and the names of the file have no fault.
pub record Accepts (text : List ℕ) : Type 0 where
  pub within : length text ≤ MAX_SOURCE_BYTES
  pub lexed : Lexed
  pub lexes : Lexes text lexed
  pub file : File
  pub read : IsRead MAX_DEPTH file_marks is_file (tokens_read lexed.tokens) file
  pub faultless : faults_of (spot_behind text) file ≡ []
