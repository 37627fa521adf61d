use Rattle.std.proofs.Common.{◌≡◌, ◌+◌, length}
use Rattle.std.specs.Option.{option_map}
use Rattle.c_lex.specs.Reading.{close_at}
use Rattle.c_lex.proofs.comment.close_at.Given as goal

abbrev pub invariant-bytes : goal.invariant-bytes
invariant-bytes l = (option_map (λ n. l.passed + n) (close_at l.rest) ≡ close_at l.text) × (l.passed + length l.rest ≡ length l.text)

abbrev pub decreases-bytes : goal.decreases-bytes
decreases-bytes l = length l.rest
