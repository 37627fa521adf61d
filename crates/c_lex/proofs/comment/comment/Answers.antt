use Rattle.std.proofs.Common.{sym, arith}
use Rattle.c_lex.proofs.Comments.{close_at-room, closed_tells}
use Rattle.c_lex.proofs.comment.comment.Goals as goal

pub overflow_add-result : goal.overflow_add-result
overflow_add-result c = omega (arith, close_at-room c.args.body.now c.in-Some.bytes (sym c.in-Some.ensures))

pub returns-in-Some : goal.returns-in-Some
returns-in-Some c = closed_tells c.args.body.now c.in-Some.bytes (sym c.in-Some.ensures)
