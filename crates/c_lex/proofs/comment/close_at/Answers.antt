use Rattle.std.proofs.Common.{ℕ, ◌+◌, List, length, sym, ap, ◌∙◌, arith}
use Rattle.std.specs.Option.{option_map}
use Rattle.c_lex.specs.Reading.{close_at}
use Rattle.c_lex.proofs.Comments.{passes}
use Rattle.c_lex.proofs.comment.close_at.Goals as goal

pub bytes-preserved : goal.bytes-preserved
bytes-preserved c = (
  passes c.bytes.passed c.in-Some.byte.now c.in-Some.behind.now (sym c.is_close.ensures ∙ c.if-is_close.false)
      ∙ ap (λ (z : List ℕ). option_map (λ n. c.bytes.passed + n) (close_at z)) (sym c.in-Some.ensures.cases.0) ∙ c.bytes.invariant.0,
  omega (arith, ap (λ (z : List ℕ). length z) c.in-Some.ensures.cases.0),
)
