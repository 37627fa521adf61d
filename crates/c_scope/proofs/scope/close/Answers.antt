use Rattle.std.proofs.Common.{◌≡◌, ap, sym, subst, ◌∙◌}
use Rattle.c_scope.specs.Tables.{row_of, with_row}
use Rattle.c_scope.specs.Places.{Indexed}
use Rattle.c_scope.proofs.Innermost.{must, closed, present, front-of}
use Rattle.c_scope.proofs.scope.close.Goals as goal

pub returns-in-Some-clause-indexed : goal.returns-in-Some-clause-indexed
returns-in-Some-clause-indexed c =
    let places = c.args.places.now in
    let rest = c.pop.new.self in
    let entry = c.in-Some.entry in
    let kept = subst (Indexed places) c.in-Some.ensures c.requires.indexed in
    let sets : c.set.new.self ≡ with_row c.into_vec.result.items entry.hidden places =
    must c.set.result c.set.ensures.set c.set.ensures.absent
    (λ none. present places rest entry kept (ap (λ k. row_of k places) (sym c.into_vec.ensures) ∙ none)) in
    subst (λ p. Indexed p rest) (sym (sets ∙ ap (λ k. with_row k entry.hidden places) c.into_vec.ensures)) (closed places rest entry kept)

pub returns-in-Some-clause-shorter : goal.returns-in-Some-clause-shorter
returns-in-Some-clause-shorter c = front-of c.args.locals.now c.pop.new.self c.in-Some.entry c.in-Some.ensures
