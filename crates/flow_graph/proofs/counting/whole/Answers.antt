use Rattle.std.proofs.Common.{arith}
use Rattle.flow_graph.proofs.CountLaws.{of-If, of-Loop, of-Block}
use Rattle.flow_graph.proofs.counting.whole.Goals as goal

pub overflow_add-result : goal.overflow_add-result
overflow_add-result c = omega (arith, (of-If c.args.stmt.now c.args.inside c.in-If.cond c.in-If.yes c.in-If.no c.in-If.is c.requires.told).whole, c.requires.fits)

pub overflow_add-result-in-If : goal.overflow_add-result-in-If
overflow_add-result-in-If c = omega (arith, (of-If c.args.stmt.now c.args.inside c.in-If.cond c.in-If.yes c.in-If.no c.in-If.is c.requires.told).whole, c.requires.fits)

pub overflow_add-result-in-Loop-2 : goal.overflow_add-result-in-Loop-2
overflow_add-result-in-Loop-2 c = omega (arith, c.step_size.ensures, (of-Loop c.args.stmt.now c.args.inside c.in-Loop.cond c.in-Loop.step c.in-Loop.body c.in-Loop.is c.requires.told).whole, c.requires.fits)

pub returns-in-If : goal.returns-in-If
returns-in-If c = (of-If c.args.stmt.now c.args.inside c.in-If.cond c.in-If.yes c.in-If.no c.in-If.is c.requires.told).whole

pub returns-in-Loop : goal.returns-in-Loop
returns-in-Loop c = omega (arith, c.step_size.ensures, (of-Loop c.args.stmt.now c.args.inside c.in-Loop.cond c.in-Loop.step c.in-Loop.body c.in-Loop.is c.requires.told).whole)

pub returns-in-Block : goal.returns-in-Block
returns-in-Block c = (of-Block c.args.stmt.now c.args.inside c.in-Block.field-0 c.in-Block.is c.requires.told).whole
