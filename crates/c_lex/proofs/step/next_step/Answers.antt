use Rattle.std.proofs.Common.{◌≡◌, ℕ, List, IfOk, sym, ap, ◌∙◌, subst}
use Rattle.cfix_base.specs.Words.{is_name_byte}
use Rattle.c_lex.specs.Pieces.{Piece, Identifier, Numeral}
use Rattle.c_lex.specs.Reading.{piece_at}
use Rattle.c_lex.specs.Steps.{Tells}
use Rattle.c_lex.proofs.Classes.{start_is_byte, digit_is_byte}
use Rattle.c_lex.proofs.Runs.{run, run-yes}
use Rattle.c_lex.proofs.Fronts.{at_name, at_digit}
use Rattle.c_lex.proofs.step.next_step.Goals as goal

pub returns-then-is_name_start : goal.returns-then-is_name_start
returns-then-is_name_start c =
    let first = c.args.first in
    let after = c.args.after.now in
    let start = sym c.is_name_start.ensures ∙ c.if-is_name_start.true in
    let is : Identifier (run is_name_byte c.args.text.now) ≡ piece_at first after =
    ap (λ (z : List ℕ). Identifier (run is_name_byte z)) c.requires ∙ ap Identifier (run-yes is_name_byte first after (start_is_byte first start))
    ∙ sym (at_name first after start) in
    subst (λ (piece : Piece). IfOk c.identifier.result (λ step. Tells step piece)) is c.identifier.ensures

pub returns-then-is_ascii_digit : goal.returns-then-is_ascii_digit
returns-then-is_ascii_digit c =
    let first = c.args.first in
    let after = c.args.after.now in
    let digit = sym c.is_ascii_digit.ensures.value ∙ c.if-is_ascii_digit.true in
    let is : Numeral (run is_name_byte c.args.text.now) ≡ piece_at first after =
    ap (λ (z : List ℕ). Numeral (run is_name_byte z)) c.requires ∙ ap Numeral (run-yes is_name_byte first after (digit_is_byte first digit))
    ∙ sym (at_digit first after digit) in
    subst (λ (piece : Piece). Tells c.numeral.result piece) is c.numeral.ensures
