-- What a source text is read as, and why it is refused: its tokens come first, then its grammar, then its names.
use Rattle.std.specs.Prelude.{◌≡◌, ◌⊎◌, ℕ, List, Some, None}
use Rattle.cfix_base.specs.declared.limits.TheConstants.{MAX_DEPTH}
use Rattle.c_lex.specs.declared.fault.LexFault.{LexFault}
use Rattle.c_lex.specs.Faults.{IsFirstFault, spot_behind}
use Rattle.c_lex.specs.Lexed.{Lexed, Lexes}
use Rattle.c_grammar.specs.File.{File, file_marks, is_file}
use Rattle.c_grammar.specs.Verdict.{IsRead}
use Rattle.c_parse.specs.declared.fault.ParseFault.{ParseFault}
use Rattle.c_parse.specs.Parsed.{FaultIs}
use Rattle.c_names.specs.declared.fault.Fault.{Fault}
use Rattle.c_names.specs.Faults.{IsLeast, noted_all}
use Rattle.c_names.specs.Files.{faults_of}
use Rattle.c_names.specs.Sources.{source_of}
use Rattle.c_grammar.specs.Lexical.{tokens_read}
use Rattle.c_names.specs.Texts.{Accepts}
use Rattle.c_prog.specs.Lines.{SourceTree}
use Rattle.c_read.specs.declared.flaw.Flaw.{Flaw}
use Rattle.c_read.specs.declared.flaw.ReadFault.{ReadFault}
use Rattle.c_read.specs.declared.flaw.ReadFault.TheVariants.{NoMemory, Flawed}
use Rattle.c_read.specs.Flaws.{token_flaw, grammar_flaw, name_flaw}

-- the text is accepted, and spells this source
pub record Reads (text : List ℕ) (source : SourceTree) : Type 0 where
  pub accepted : Accepts text
  pub is_source : source ≡ source_of accepted.file

-- the first of its tokens or comments that is refused
pub record HasBadToken (text : List ℕ) (flaw : Flaw) : Type 0 where
  pub fault : LexFault
  pub is_flaw : token_flaw fault ≡ Some flaw
  pub first : IsFirstFault text fault

-- how these tokens are no file
pub record BreaksGrammar (lexed : Lexed) (flaw : Flaw) : Type 0 where
  pub fault : ParseFault
  pub is_flaw : grammar_flaw fault ≡ Some flaw
  pub explained : FaultIs fault lexed

-- the tokens are no file
pub record HasBadGrammar (text : List ℕ) (flaw : Flaw) : Type 0 where
  pub lexed : Lexed
  pub lexes : Lexes text lexed
  pub breaks : BreaksGrammar lexed flaw

-- The one of these faults that is told: none comes before it, and it is the first of those alike.
pub record BreaksNames (faults : List Fault) (flaw : Flaw) : Type 0 where
  pub fault : Fault
  pub is_flaw : flaw ≡ name_flaw fault
  pub least : IsLeast fault faults
  pub told : noted_all None faults ≡ Some fault

-- the tokens are a file, whose names have faults
pub record HasBadName (text : List ℕ) (flaw : Flaw) : Type 0 where
  pub lexed : Lexed
  pub lexes : Lexes text lexed
  pub file : File
  pub read : IsRead MAX_DEPTH file_marks is_file (tokens_read lexed.tokens) file
  pub breaks : BreaksNames (faults_of (spot_behind text) file) flaw

-- why a text is refused
abbrev pub IsFlawed : List ℕ → Flaw → Type 0
IsFlawed text flaw = HasBadToken text flaw ⊎ (HasBadGrammar text flaw ⊎ HasBadName text flaw)

-- why a stage fails; want of memory needs no reason
abbrev pub FailsBy : (Flaw → Type 0) → ReadFault → Type 0
FailsBy Why NoMemory = Unit {0}
FailsBy Why (Flawed flaw) = Why flaw
