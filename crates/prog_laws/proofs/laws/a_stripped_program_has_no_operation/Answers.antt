use Rattle.c_patched.proofs.PatchedStrip.{stays-unpatched}
use Rattle.c_prog.specs.Marks.{all_new}
use Rattle.c_prog.specs.Strip.{strip_tree}
use Rattle.prog_laws.proofs.Bare.{bare-of}
use Rattle.prog_laws.proofs.Stripped.{strip-twice}
use Rattle.prog_laws.proofs.laws.a_stripped_program_has_no_operation.Goals as goal

pub returns : goal.returns
returns c = λ t. bare-of (strip_tree all_new t) (stays-unpatched (strip_tree all_new t) (strip-twice all_new t))
