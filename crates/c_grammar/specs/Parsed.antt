-- Which files are those of a text that is read.
use Rattle.std.specs.Prelude.{◌≡◌, ℕ, nat_le, true, List}
use Rattle.std.specs.List.{list_all}
use Rattle.cfix_base.specs.declared.Spot.{Spot}
use Rattle.cfix_base.specs.declared.limits.TheConstants.{MAX_DEPTH}
use Rattle.c_lex.specs.Lexed.{Lexed, Lexes}
use Rattle.c_grammar.specs.File.{File, file_marks, is_file}
use Rattle.c_grammar.specs.Verdict.{IsRead}
use Rattle.c_grammar.specs.Lexical.{tokens_read}

-- The file is the one that the grammar assigns to the tokens of some text, whose end is this: at most 1,000,000 tokens, none deeper
-- than 200. The text is bytes.
pub record IsParsed (end : Spot) (file : File) : Type 0 where
  pub text : List ℕ
  pub bytes : list_all (λ byte. nat_le byte 255) text ≡ true
  pub lexed : Lexed
  pub lexes : Lexes text lexed
  pub read : IsRead MAX_DEPTH file_marks is_file (tokens_read lexed.tokens) file
  pub ends : end ≡ lexed.end
