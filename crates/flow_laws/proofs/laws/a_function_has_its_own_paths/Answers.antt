use Rattle.flow_laws.proofs.OwnPaths.{own_paths}
use Rattle.flow_laws.proofs.laws.a_function_has_its_own_paths.Goals as goal

pub returns : goal.returns
returns c = own_paths
