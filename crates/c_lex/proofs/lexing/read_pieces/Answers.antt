use Rattle.std.proofs.Common.{ℕ, inr, List, length, ap, ◌∙◌, subst, arith}
use Rattle.std.proofs.lemmas.List.{length-drop, nil_from_length}
use Rattle.std.proofs.lemmas.Result.{err_from_is_err_and}
use Rattle.c_lex.specs.declared.step.Step.{Step}
use Rattle.c_lex.specs.declared.step.Step.TheVariants.{Skip, Take, Refuse}
use Rattle.c_lex.specs.Steps.{Tells}
use Rattle.c_lex.specs.Reading.{piece_at}
use Rattle.c_lex.proofs.Turns.{first_piece, skip_turn, token_turn, many_turn, add_fault, refuse_turn, last_turn, turn_length}
use Rattle.c_lex.proofs.lexing.read_pieces.Goals as goal

pub advance-spot-requires-clause-within : goal.advance-spot-requires-clause-within
advance-spot-requires-clause-within c =
    let tells : Tells (Skip c.in-Skip.bytes) (piece_at c.in-Some.first.now c.in-Some.after.now) =
    subst (λ (s : Step). Tells s (piece_at c.in-Some.first.now c.in-Some.after.now)) c.in-Skip.is c.in_ok-bytes.ensures in
    (first_piece c.pieces.rest.now c.in-Some.first.now c.in-Some.after.now c.in-Skip.bytes c.in-Some.ensures.cases.0 tells.1).within

pub advance-spot-requires-clause-room : goal.advance-spot-requires-clause-room
advance-spot-requires-clause-room c =
    let tells : Tells (Skip c.in-Skip.bytes) (piece_at c.in-Some.first.now c.in-Some.after.now) =
    subst (λ (s : Step). Tells s (piece_at c.in-Some.first.now c.in-Some.after.now)) c.in-Skip.is c.in_ok-bytes.ensures in
    let first = first_piece c.pieces.rest.now c.in-Some.first.now c.in-Some.after.now c.in-Skip.bytes c.in-Some.ensures.cases.0 tells.1 in
    omega (arith, first.within, turn_length c.args.text.now c.pieces.rest.now c.pieces.tokens c.pieces.spot c.pieces.invariant, c.requires)

pub behind-rest-requires : goal.behind-rest-requires
behind-rest-requires c =
    let tells : Tells (Skip c.in-Skip.bytes) (piece_at c.in-Some.first.now c.in-Some.after.now) =
    subst (λ (s : Step). Tells s (piece_at c.in-Some.first.now c.in-Some.after.now)) c.in-Skip.is c.in_ok-bytes.ensures in
    (first_piece c.pieces.rest.now c.in-Some.first.now c.in-Some.after.now c.in-Skip.bytes c.in-Some.ensures.cases.0 tells.1).within

pub pieces-smaller-in-Skip : goal.pieces-smaller-in-Skip
pieces-smaller-in-Skip c =
    let tells : Tells (Skip c.in-Skip.bytes) (piece_at c.in-Some.first.now c.in-Some.after.now) =
    subst (λ (s : Step). Tells s (piece_at c.in-Some.first.now c.in-Some.after.now)) c.in-Skip.is c.in_ok-bytes.ensures in
    let first = first_piece c.pieces.rest.now c.in-Some.first.now c.in-Some.after.now c.in-Skip.bytes c.in-Some.ensures.cases.0 tells.1 in
    let size = ap (λ (z : List ℕ). length z) c.behind-rest.ensures ∙ length-drop c.in-Skip.bytes c.pieces.rest.now in
    omega (arith, size, first.some, first.within)

pub pieces-preserved-in-Skip : goal.pieces-preserved-in-Skip
pieces-preserved-in-Skip c =
    let piece = piece_at c.in-Some.first.now c.in-Some.after.now in
    let tells : Tells (Skip c.in-Skip.bytes) piece = subst (λ (s : Step). Tells s piece) c.in-Skip.is c.in_ok-bytes.ensures in
    let first = first_piece c.pieces.rest.now c.in-Some.first.now c.in-Some.after.now c.in-Skip.bytes c.in-Some.ensures.cases.0 tells.1 in
    rw c.behind-rest.ensures
    (skip_turn c.args.text.now c.pieces.rest.now c.pieces.tokens c.pieces.spot piece c.in-Skip.bytes first c.pieces.invariant tells.0
    c.advance-spot.result c.advance-spot.ensures.at c.advance-spot.ensures.line)

pub overflow_cast-bytes : goal.overflow_cast-bytes
overflow_cast-bytes c =
    let piece = piece_at c.in-Some.first.now c.in-Some.after.now in
    let tells : Tells (Take c.in-Take.kind c.in-Take.bytes) piece = subst (λ (s : Step). Tells s piece) c.in-Take.is c.in_ok-bytes.ensures in
    let first = first_piece c.pieces.rest.now c.in-Some.first.now c.in-Some.after.now c.in-Take.bytes c.in-Some.ensures.cases.0 tells.1 in
    omega (arith, first.within, turn_length c.args.text.now c.pieces.rest.now c.pieces.tokens c.pieces.spot c.pieces.invariant, c.requires)

pub returns-in_err-add-in-Take : goal.returns-in_err-add-in-Take
returns-in_err-add-in-Take c =
    let piece = piece_at c.in-Some.first.now c.in-Some.after.now in
    let tells : Tells (Take c.in-Take.kind c.in-Take.bytes) piece = subst (λ (s : Step). Tells s piece) c.in-Take.is c.in_ok-bytes.ensures in
    let first = first_piece c.pieces.rest.now c.in-Some.first.now c.in-Some.after.now c.in-Take.bytes c.in-Some.ensures.cases.0 tells.1 in
    let same = err_from_is_err_and c.from_residual-in_err-add-in-Take.result c.from_residual-in_err-add-in-Take.ensures.1 in
    rw (same.1, same.2)
    (add_fault c.args.text.now c.in_err-add-in-Take.field-0.0 c.pieces.spot _
    (λ full. many_turn c.args.text.now c.pieces.rest.now c.pieces.tokens c.pieces.spot piece c.in-Take.bytes first c.pieces.invariant c.in-Take.kind tells.0 full)
    c.in_err-add-in-Take.ensures.fault)

pub advance-spot-requires-in-Take-clause-within : goal.advance-spot-requires-in-Take-clause-within
advance-spot-requires-in-Take-clause-within c =
    let piece = piece_at c.in-Some.first.now c.in-Some.after.now in
    let tells : Tells (Take c.in-Take.kind c.in-Take.bytes) piece = subst (λ (s : Step). Tells s piece) c.in-Take.is c.in_ok-bytes.ensures in
    (first_piece c.pieces.rest.now c.in-Some.first.now c.in-Some.after.now c.in-Take.bytes c.in-Some.ensures.cases.0 tells.1).within

pub advance-spot-requires-in-Take-clause-room : goal.advance-spot-requires-in-Take-clause-room
advance-spot-requires-in-Take-clause-room c =
    let piece = piece_at c.in-Some.first.now c.in-Some.after.now in
    let tells : Tells (Take c.in-Take.kind c.in-Take.bytes) piece = subst (λ (s : Step). Tells s piece) c.in-Take.is c.in_ok-bytes.ensures in
    let first = first_piece c.pieces.rest.now c.in-Some.first.now c.in-Some.after.now c.in-Take.bytes c.in-Some.ensures.cases.0 tells.1 in
    omega (arith, first.within, turn_length c.args.text.now c.pieces.rest.now c.pieces.tokens c.pieces.spot c.pieces.invariant, c.requires)

pub behind-rest-requires-in-Take : goal.behind-rest-requires-in-Take
behind-rest-requires-in-Take c =
    let piece = piece_at c.in-Some.first.now c.in-Some.after.now in
    let tells : Tells (Take c.in-Take.kind c.in-Take.bytes) piece = subst (λ (s : Step). Tells s piece) c.in-Take.is c.in_ok-bytes.ensures in
    (first_piece c.pieces.rest.now c.in-Some.first.now c.in-Some.after.now c.in-Take.bytes c.in-Some.ensures.cases.0 tells.1).within

pub pieces-smaller : goal.pieces-smaller
pieces-smaller c =
    let piece = piece_at c.in-Some.first.now c.in-Some.after.now in
    let tells : Tells (Take c.in-Take.kind c.in-Take.bytes) piece = subst (λ (s : Step). Tells s piece) c.in-Take.is c.in_ok-bytes.ensures in
    let first = first_piece c.pieces.rest.now c.in-Some.first.now c.in-Some.after.now c.in-Take.bytes c.in-Some.ensures.cases.0 tells.1 in
    let size = ap (λ (z : List ℕ). length z) c.behind-rest-in-Take.ensures ∙ length-drop c.in-Take.bytes c.pieces.rest.now in
    omega (arith, size, first.some, first.within)

pub pieces-preserved : goal.pieces-preserved
pieces-preserved c =
    let piece = piece_at c.in-Some.first.now c.in-Some.after.now in
    let tells : Tells (Take c.in-Take.kind c.in-Take.bytes) piece = subst (λ (s : Step). Tells s piece) c.in-Take.is c.in_ok-bytes.ensures in
    let first = first_piece c.pieces.rest.now c.in-Some.first.now c.in-Some.after.now c.in-Take.bytes c.in-Some.ensures.cases.0 tells.1 in
    rw c.behind-rest-in-Take.ensures
    (token_turn c.args.text.now c.pieces.rest.now c.pieces.tokens c.pieces.spot piece c.in-Take.bytes first c.pieces.invariant c.in-Take.kind tells.0
    c.advance-spot-in-Take.result c.advance-spot-in-Take.ensures.at c.advance-spot-in-Take.ensures.line
    c.in_ok-add-in-Take.ensures.room c.add.new.self c.in_ok-add-in-Take.ensures.tokens c.in_ok-add-in-Take.ensures.lengths)

pub returns-in-Refuse : goal.returns-in-Refuse
returns-in-Refuse c =
    let piece = piece_at c.in-Some.first.now c.in-Some.after.now in
    let tells : Tells (Refuse c.in-Refuse.refusal) piece = subst (λ (s : Step). Tells s piece) c.in-Refuse.is c.in_ok-bytes.ensures in
    rw c.at.ensures
    (inr
    (refuse_turn c.args.text.now c.pieces.rest.now c.in-Some.after.now c.pieces.tokens c.pieces.spot c.in-Some.first.now c.in-Refuse.refusal c.in-Some.ensures.cases.0 tells c.pieces.invariant))

pub returns : goal.returns
returns c =
    last_turn c.args.text.now c.pieces.rest.now c.pieces.tokens c.ending.result c.pieces.spot (nil_from_length _ c.in_default.ensures.cases) c.pieces.invariant
    c.ending.ensures.tokens c.ending.ensures.lengths c.ending.ensures.end
