-- What each fault tells, and what a text without faults is read as.
use Rattle.std.proofs.Common.{◌≡◌, ℕ, ◌≤◌, List, [], length, None, refl, ap, sym, ◌∙◌}
use Rattle.cfix_base.specs.declared.limits.TheConstants.{MAX_SOURCE_BYTES}
use Rattle.c_lex.specs.declared.fault.LexFault.{LexFault}
use Rattle.c_lex.specs.declared.fault.LexFault.TheVariants as lex
use Rattle.c_lex.specs.Faults.{IsCaused}
use Rattle.c_lex.specs.Lexed.{Lexed, Lexes}
use Rattle.c_raw.specs.declared.file.Raw.{Raw}
use Rattle.c_raw.specs.Files.{file_view}
use Rattle.c_parse.specs.declared.fault.ParseFault.{ParseFault}
use Rattle.c_parse.specs.declared.fault.ParseFault.TheVariants as parse
use Rattle.c_parse.specs.Parsed.{FaultIs, Parses}
use Rattle.c_names.specs.declared.fault.Fault.{Fault}
use Rattle.c_names.specs.declared.fault.FaultKind.TheVariants as kind
use Rattle.c_names.specs.Faults.{fault, noted_all}
use Rattle.c_names.specs.Files.{faults_of}
use Rattle.c_names.specs.Sources.{source_of}
use Rattle.c_prog.specs.Lines.{SourceTree}
use Rattle.c_types.specs.declared.fault.NameFault.{NameFault}
use Rattle.c_types.specs.declared.fault.NameFault.TheVariants as name
use Rattle.c_types.specs.Outcome.{Refuses, Tells}
use Rattle.c_read.specs.Flaws.{token_answer, grammar_answer, name_answer}
use Rattle.c_read.specs.Reading.{Reads, HasBadToken, BreaksGrammar, BreaksNames, FailsBy}

pub token_fails : (text : List ℕ) (fault : LexFault) → IsCaused fault text → FailsBy (HasBadToken text) (token_answer fault)
token_fails text lex.NoMemory h = tt
token_fails text (lex.BadByte spot) h = record { fault = lex.BadByte spot; is_flaw = refl; first = h }
token_fails text (lex.OpenComment spot) h = record { fault = lex.OpenComment spot; is_flaw = refl; first = h }
token_fails text (lex.BadString spot) h = record { fault = lex.BadString spot; is_flaw = refl; first = h }
token_fails text (lex.BadNumber spot) h = record { fault = lex.BadNumber spot; is_flaw = refl; first = h }
token_fails text (lex.TooMany spot) h = record { fault = lex.TooMany spot; is_flaw = refl; first = h }

pub grammar_fails : (lexed : Lexed) (fault : ParseFault) → FaultIs fault lexed → FailsBy (BreaksGrammar lexed) (grammar_answer fault)
grammar_fails lexed parse.NoMemory h = tt
grammar_fails lexed (parse.Unexpected spot) h = record { fault = parse.Unexpected spot; is_flaw = refl; explained = h }
grammar_fails lexed (parse.Deep spot) h = record { fault = parse.Deep spot; is_flaw = refl; explained = h }

pub name_fails : (faults : List Fault) (f : NameFault) → Refuses f faults → Tells f (noted_all None faults)
    → FailsBy (BreaksNames faults) (name_answer f)
name_fails faults name.NoMemory h e = tt
name_fails faults (name.Unknown spot) h e = record { fault = fault spot kind.Unknown; is_flaw = refl; least = h; told = e }
name_fails faults (name.Twice spot) h e = record { fault = fault spot kind.Twice; is_flaw = refl; least = h; told = e }
name_fails faults (name.Arity spot) h e = record { fault = fault spot kind.Arity; is_flaw = refl; least = h; told = e }
name_fails faults (name.WrongUse spot) h e = record { fault = fault spot kind.WrongUse; is_flaw = refl; least = h; told = e }
name_fails faults (name.NoReturn spot) h e = record { fault = fault spot kind.NoReturn; is_flaw = refl; least = h; told = e }
name_fails faults (name.RootCalled spot) h e = record { fault = fault spot kind.RootCalled; is_flaw = refl; least = h; told = e }
name_fails faults (name.Reserved spot) h e = record { fault = fault spot kind.Reserved; is_flaw = refl; least = h; told = e }
name_fails faults (name.Limit spot) h e = record { fault = fault spot kind.Limit; is_flaw = refl; least = h; told = e }

-- the source that is made of a file without faults
pub reads_as : (text : List ℕ) (lexed : Lexed) (raw : Raw) (source : SourceTree) → length text ≤ MAX_SOURCE_BYTES → Lexes text lexed
    → Parses lexed raw → source ≡ source_of (file_view raw) → faults_of raw.end (file_view raw) ≡ [] → Reads text source
reads_as text lexed raw source within lexes parses made clean = record {
  accepted = record {
    within = within;
    lexed = lexed;
    lexes = lexes;
    file = file_view raw;
    read = parses.file;
    faultless = ap (λ z. faults_of z (file_view raw)) (sym lexes.end ∙ sym parses.end) ∙ clean;
  };
  is_source = made;
}
