use Rattle.std.proofs.Common.{◌≡◌, Some, None, ap, sym, ◌∙◌}
use Rattle.std.specs.Prelude.{find, reverse, slice_get, option_map}
use Rattle.std.proofs.lemmas.List.{reverse-reverse}
use Rattle.c_prog.specs.Valid.Scope.{is_named, local_named}
use Rattle.c_scope.specs.Places.{entry_view, place_of}
use Rattle.c_scope.proofs.Scopes.{seen-split}
use Rattle.c_scope.proofs.Innermost.{found-at, found-none}
use Rattle.c_scope.proofs.scope.Scope.find.Goals as goal

pub returns-in-None : goal.returns-in-None
returns-in-None c =
    let all = c.self.inside.locals in
    let text = c.args.text.now in
    let found : place_of text (reverse all) ≡ None = sym (c.in-None.ensures ∙ c.self.invariant.1.placed text) in
    sym (found-none text (reverse all) found)
    ∙ ap (find (is_named text)) (sym (seen-split entry_view c.self.inside.first all))
    ∙ ap (local_named text) c.self.view_is

pub returns-in-Some : goal.returns-in-Some
returns-in-Some c =
    let all = c.self.inside.locals in
    let text = c.args.text.now in
    let place = c.in-Some.place in
    let found : place_of text (reverse all) ≡ Some place = sym (c.in-Some.ensures ∙ c.self.invariant.1.placed text) in
    c.local_at.ensures
    ∙ ap (λ l. option_map entry_view (slice_get l place)) (c.as_slice.ensures ∙ sym (reverse-reverse all))
    ∙ found-at text (reverse all) place found
    ∙ ap (find (is_named text)) (sym (seen-split entry_view c.self.inside.first all))
    ∙ ap (local_named text) c.self.view_is
