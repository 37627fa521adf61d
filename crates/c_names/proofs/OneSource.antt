-- A text divides in one way, its tokens are those of one file, and the file spells its source.
use Rattle.std.proofs.Common.{◌≡◌, ℕ, List, sym, ap, ◌∙◌}
use Rattle.c_lex.specs.Pieces.{Piece}
use Rattle.c_lex.specs.Faults.{tokens_of}
use Rattle.c_lex.proofs.Divisions.{unique}
use Rattle.c_grammar.specs.File.{file_tokens}
use Rattle.c_reading.proofs.ReadFile.{file_one_tree}
use Rattle.c_prog.specs.Lines.{SourceTree}
use Rattle.c_names.specs.Sources.{source_of}
use Rattle.c_grammar.specs.Lexical.{tokens_read}
use Rattle.c_names.specs.Texts.{Spells}

pub one_source : (text : List ℕ) (a b : SourceTree) → Spells text a → Spells text b → a ≡ b
one_source text a b x y =
    let pieces : x.divided.pieces ≡ y.divided.pieces =
    unique x.divided.pieces text x.divided.division ∙ sym (unique y.divided.pieces text y.divided.division) in
    let same : file_tokens x.file ≡ file_tokens y.file =
    x.divided.are_tokens ∙ ap (λ (p : List Piece). tokens_read (tokens_of p)) pieces ∙ sym y.divided.are_tokens in
    x.is_source ∙ ap source_of (file_one_tree x.file y.file x.derived y.derived same) ∙ sym y.is_source
