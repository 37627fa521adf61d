use Rattle.c_parse.proofs.Whole.{tree_from, parsed_from, fault_from, read_from, unexpected_from, deep_from}
use Rattle.c_parse.proofs.parsing.parse.Goals as goal

pub returns-clause-tree : goal.returns-clause-tree
returns-clause-tree c = tree_from c.args.tokens.now c.read.result c.read.ensures

pub returns-clause-parsed : goal.returns-clause-parsed
returns-clause-parsed c = parsed_from c.args.tokens.now c.read.result c.read.ensures

pub returns-clause-fault : goal.returns-clause-fault
returns-clause-fault c = fault_from c.args.tokens.now c.read.result c.read.ensures

pub returns-clause-is_read : goal.returns-clause-is_read
returns-clause-is_read c = read_from c.args.tokens.now c.read.result c.read.ensures

pub returns-clause-is_unexpected : goal.returns-clause-is_unexpected
returns-clause-is_unexpected c = unexpected_from c.args.tokens.now c.read.result c.read.ensures

pub returns-clause-is_deep : goal.returns-clause-is_deep
returns-clause-is_deep c = deep_from c.args.tokens.now c.read.result c.read.ensures
