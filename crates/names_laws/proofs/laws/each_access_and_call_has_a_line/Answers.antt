use Rattle.names_laws.proofs.Lined.{lined_spelled}
use Rattle.names_laws.proofs.laws.each_access_and_call_has_a_line.Goals as goal

pub returns : goal.returns
returns c = lined_spelled
