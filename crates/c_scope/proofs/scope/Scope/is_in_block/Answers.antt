use Rattle.std.proofs.Common.{◌≡◌, Some, None, ap, sym, ◌∙◌}
use Rattle.std.specs.Prelude.{reverse}
use Rattle.c_prog.specs.Valid.Scope.{is_in_block}
use Rattle.c_scope.specs.Places.{place_of}
use Rattle.c_scope.proofs.Innermost.{is_from, block-has}
use Rattle.c_scope.proofs.scope.Scope.is_in_block.Goals as goal

pub returns-in-None : goal.returns-in-None
returns-in-None c =
    let all = c.self.inside.locals in
    let text = c.args.text.now in
    let first = c.self.inside.first in
    let found : place_of text (reverse all) ≡ None = sym (c.in-None.ensures ∙ c.self.invariant.1.placed text) in
    sym (block-has text first all c.self.invariant.0 ∙ ap (is_from first) found)
    ∙ ap (is_in_block text) c.self.view_is

pub returns-in-Some : goal.returns-in-Some
returns-in-Some c =
    let all = c.self.inside.locals in
    let text = c.args.text.now in
    let first = c.self.inside.first in
    let found : place_of text (reverse all) ≡ Some c.in-Some.place = sym (c.in-Some.ensures ∙ c.self.invariant.1.placed text) in
    sym (block-has text first all c.self.invariant.0 ∙ ap (is_from first) found)
    ∙ ap (is_in_block text) c.self.view_is
