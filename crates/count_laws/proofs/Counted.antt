-- The counts of a file are those of the program that it spells.
use Rattle.std.proofs.Common.{◌≡◌, ◌+◌, List, [], ◌∷◌, ap, refl, ◌∙◌, sym}
use Rattle.std.proofs.lemmas.List.{length-map}
use Rattle.c_grammar.specs.Marks.{each}
use Rattle.c_grammar.specs.File.{File}
use Rattle.c_names.specs.Declarations.{names_of}
use Rattle.c_names.specs.Files.{top_cells}
use Rattle.c_names.specs.Limits.{Cells}
use Rattle.c_names.specs.Sources.{source_of}
use Rattle.count_laws.specs.Counts.{all_cells, AreCounts}
use Rattle.valid_law.proofs.Cells.{in_cells, global-cells, global-count, function-count}
use Rattle.valid_law.proofs.Nodes.{nodes-count}

together : (list : List Cells) → all_cells list ≡ in_cells list
together [] = refl
together (x ∷ more) = ap (λ n. x.1 + n) (together more)

pub counted : (file : File) → AreCounts file (source_of file).tree
counted file = record {
  nodes = nodes-count (names_of file) file;
  functions = sym (function-count (names_of file) file);
  variables = sym (global-count (names_of file) file ∙ length-map (each (top_cells (names_of file)) file) (λ (x : Cells). x.0));
  cells = together (each (top_cells (names_of file)) file) ∙ sym (global-cells (names_of file) file);
}
