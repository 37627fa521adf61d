use Rattle.flow_laws.proofs.RegionEnds.{ends}
use Rattle.flow_laws.proofs.laws.a_region_has_its_ends.Goals as goal

pub returns : goal.returns
returns c = ends
