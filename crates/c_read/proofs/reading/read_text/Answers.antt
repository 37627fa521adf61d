-- What is lexed, parsed and resolved is what the text is read as.
use Rattle.c_read.proofs.Fails.{reads_as}
use Rattle.c_read.proofs.reading.read_text.Goals as goal

pub returns-in-Ok-clause-read : goal.returns-in-Ok-clause-read
returns-in-Ok-clause-read c =
    reads_as c.args.text.now c.in_ok-tokens.tokens c.in_ok-raw.raw c.in-Ok.source c.requires c.in_ok-tokens.ensures.read
    c.in_ok-raw.ensures.read c.in-Ok.ensures.spelled c.in-Ok.ensures.clean
