-- The text fixes the answer.
use Rattle.c_read.proofs.Once.{reads_so, tells_so}
use Rattle.c_read.proofs.reading.read_source.Goals as goal

pub returns-clause-reads : goal.returns-clause-reads
returns-clause-reads c = reads_so c.args.text.now c.read_text.result c.read_text.ensures.read c.read_text.ensures.flawed

pub returns-clause-tells : goal.returns-clause-tells
returns-clause-tells c = tells_so c.args.text.now c.read_text.result c.read_text.ensures.read c.read_text.ensures.flawed
