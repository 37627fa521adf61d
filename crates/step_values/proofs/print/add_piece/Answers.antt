use Rattle.std.proofs.Common.{◌+◌, ◌∷◌, ap, ◌∙◌, drop, ℕ, ◌≡◌, refl, arith}
use Rattle.step_values.proofs.Prints.{byte_written, directive_written, not_percent, shown_byte}
use Rattle.step_values.proofs.print.add_piece.Goals as goal

pub returns-then-byte-ne37-clause-written : goal.returns-then-byte-ne37-clause-written
returns-then-byte-ne37-clause-written c =
    let rest = drop (c.args.so_far.at + 1) c.args.text.now in
    let vs = drop c.args.so_far.used c.args.values.now in
    byte_written c.args.bytes.now.items c.push-then-byte-ne37.new.self.items (drop c.args.so_far.at c.args.text.now) rest vs c.byte_at-byte.result c.byte_at-byte.ensures (shown_byte rest c.byte_at-byte.result vs (not_percent c.byte_at-byte.result c.if-byte-ne37.true)) c.in_ok-push-2.ensures.items

pub returns-clause-written : goal.returns-clause-written
returns-clause-written c =
    let at = c.args.so_far.at in
    let rest = drop (at + 2) c.args.text.now in
    let two : at + 1 + 1 ≡ at + 2 = omega arith in
    directive_written c.args.bytes.now.items c.add_directive.new.bytes.items (drop at c.args.text.now) rest (drop c.args.so_far.used c.args.values.now) (drop c.in_ok-next.next c.args.values.now) c.byte_at-byte.result c.byte_at.result (c.byte_at-byte.ensures ∙ ap (λ l. c.byte_at-byte.result ∷ l) c.byte_at.ensures ∙ ap (λ k. c.byte_at-byte.result ∷ c.byte_at.result ∷ drop k c.args.text.now) two) c.if-byte-ne37.false (c.in_ok-next.ensures.written rest)
