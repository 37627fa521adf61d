use Rattle.std.proofs.Common.{◌≡◌, length, Some, ap, sym, subst, ◌∙◌}
use Rattle.c_scope.specs.declared.entry.Entry.{Entry}
use Rattle.c_scope.specs.Tables.{row_of, with_row}
use Rattle.c_scope.specs.Places.{flat, Indexed}
use Rattle.c_scope.proofs.Innermost.{opened}
use Rattle.c_scope.proofs.scope.open.Goals as goal

pub returns-in-Ok-clause-indexed : goal.returns-in-Ok-clause-indexed
returns-in-Ok-clause-indexed c =
    let places = c.args.places.now in
    let locals = c.args.locals.now in
    let name = c.args.local.name in
    let entry : Entry = record { local = c.args.local; hidden = c.get-hidden.result } in
    let hides : entry.hidden ≡ flat (row_of name places) =
    c.get-hidden.ensures ∙ ap (λ t. flat (row_of t places)) (c.as_slice.ensures.value ∙ c.requires.named) in
    let sets : c.set.new.self ≡ with_row name (Some (length locals)) places =
    c.in-Ok.ensures.set
    ∙ ap (λ k. with_row k (Some c.len-place.result) places) c.requires.named
    ∙ ap (λ n. with_row name (Some n) places) c.len-place.ensures in
    subst (λ p. Indexed p c.push.new.self) (sym sets)
    (subst (λ l. Indexed (with_row name (Some (length locals)) places) l) (sym c.in_ok-push.ensures.ok) (opened places locals entry c.requires.indexed hides))
