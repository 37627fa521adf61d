use Rattle.std.proofs.Common.{sym, subst}
use Rattle.c_prog.specs.Valid.{IsValid}
use Rattle.c_strip.proofs.ValidStrip.{valid-strip}
use Rattle.c_strip.proofs.stripping.strip.Goals as goal

pub of-requires : goal.of-requires
of-requires c = record { valid = subst IsValid (sym c.in_ok-tree.ensures) (valid-strip c.args.marks c.tree.result.now c.tree.ensures.valid) }
