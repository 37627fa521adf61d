use Rattle.std.proofs.Common.{length, List, ℕ, ap, arith}
use Rattle.std.proofs.lemmas.List.Sums.{prefix_len-le-length}
use Rattle.c_lex.specs.Bytes.{is_line_byte}
use Rattle.c_lex.proofs.comment.slash.Goals as goal

pub overflow_add-result : goal.overflow_add-result
overflow_add-result c = omega (arith, c.line_len.ensures, prefix_len-le-length is_line_byte c.in-Some-eq47-default.line.now, ap (λ (z : List ℕ). length z) c.in-Some-eq47-default.ensures.cases.0)
