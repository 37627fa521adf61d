use Rattle.std.proofs.Common.{ap, ◌∙◌, refl}
use Rattle.c_lex.specs.Faults.{spot_behind}
use Rattle.c_names.specs.Files.{faults_of}
use Rattle.c_names.specs.Sources.{source_of}
use Rattle.c_print.specs.Text.Canonical.{canonical}
use Rattle.print_law.proofs.Meanings.{limits}
use Rattle.print_law.proofs.Programs.{tree_spots, tree_file, tree_file-is, file-derived, text-divided}
use Rattle.print_law.proofs.Again.{faults-clean, program-again}
use Rattle.print_law.proofs.laws.the_canonical_text_spells_its_program.Goals as goal

pub returns : goal.returns
returns c = λ tree valid. record {
  source = source_of (tree_file tree);
  spells = record {
    file = tree_file tree;
    divided = text-divided tree valid;
    derived = file-derived tree valid;
    faultless =
        ap (λ z. limits (faults_of (spot_behind (canonical tree)) z)) (tree_file-is tree) ∙ faults-clean tree valid (tree_spots tree) (spot_behind (canonical tree));
    is_source = refl;
  };
  program = ap (λ z. (source_of z).tree) (tree_file-is tree) ∙ program-again tree valid (tree_spots tree);
}
