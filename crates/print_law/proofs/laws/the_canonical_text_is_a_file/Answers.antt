use Rattle.print_law.proofs.Programs.{tree_file, file-derived, text-divided}
use Rattle.print_law.proofs.laws.the_canonical_text_is_a_file.Goals as goal

pub returns : goal.returns
returns c = λ tree valid. record { file = tree_file tree; divided = text-divided tree valid; derived = file-derived tree valid }
