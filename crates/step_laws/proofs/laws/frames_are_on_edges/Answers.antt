use Rattle.step_laws.proofs.Edges.{on_edges}
use Rattle.step_laws.proofs.laws.frames_are_on_edges.Goals as goal

pub returns : goal.returns
returns c = on_edges
