-- The accesses and the calls of a program rise.
use Rattle.c_source.proofs.LinesRise.{lined-rise}
use Rattle.c_types.proofs.line_table.lines_with.Goals as goal

pub of-requires : goal.of-requires
of-requires c = lined-rise c.args.program.now (record { accesses = c.args.accesses; calls = c.args.calls }) c.requires
