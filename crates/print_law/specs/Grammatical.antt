-- Texts that are files of the grammar.
use Rattle.std.specs.Prelude.{◌≡◌, ℕ, true, List}
use Rattle.c_grammar.specs.File.{File, file_tokens, is_file}
use Rattle.c_names.specs.Texts.{DividesInto}

-- The text divides into tokens, of whatever number and depth, that are those of a file of the grammar.
pub record IsGrammatical (text : List ℕ) : Type 0 where
  pub file : File
  pub divided : DividesInto text (file_tokens file)
  pub derived : is_file file ≡ true
