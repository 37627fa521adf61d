-- What a list of tokens is for the grammar of files.
use Rattle.std.specs.Prelude.{◌≡◌, ℕ, List, []}
use Rattle.c_grammar.specs.Token.{Token}
use Rattle.c_grammar.specs.File.{File, file_marks, is_file}
use Rattle.c_reading.specs.Reader.{Unexpected, Deep, Out, Got, Stop}
use Rattle.c_grammar.specs.Verdict.{IsRead, IsUnexpectedAt, IsDeepAt}

-- The tokens are those of this file, to their end; or they stop being those of a file here; or they are too deep here.
abbrev pub HasVerdict : ℕ → List Token → Out Token File → Type 0
HasVerdict limit tokens (Got file rest) = (rest ≡ []) × IsRead limit file_marks is_file tokens file
HasVerdict limit tokens (Stop Unexpected rest) = IsUnexpectedAt limit file_marks is_file tokens rest
HasVerdict limit tokens (Stop Deep rest) = IsDeepAt limit file_marks is_file tokens rest
