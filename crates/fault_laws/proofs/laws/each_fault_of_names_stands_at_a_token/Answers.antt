use Rattle.fault_laws.proofs.Files.{each_stands}
use Rattle.fault_laws.proofs.laws.each_fault_of_names_stands_at_a_token.Goals as goal

pub returns : goal.returns
returns c = each_stands
