use Rattle.prog_laws.proofs.Stripped.{strip-twice}
use Rattle.prog_laws.proofs.laws.stripping_twice_is_stripping_once.Goals as goal

pub returns : goal.returns
returns c = strip-twice
