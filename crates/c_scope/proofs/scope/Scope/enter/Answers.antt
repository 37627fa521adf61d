use Rattle.std.proofs.Common.{◌≡◌, [], drop, take, ap, sym, ◌∙◌, arith}
use Rattle.std.proofs.lemmas.Grind.{common_steps}
use Rattle.std.specs.Prelude.{List}
use Rattle.c_prog.specs.Valid.Scope as valid
use Rattle.c_prog.specs.Valid.Scope.{entered}
use Rattle.c_scope.specs.Places.{entry_view}
use Rattle.c_scope.proofs.Scopes.{seen, seen-split}
use Rattle.c_scope.proofs.scope.Scope.enter.Goals as goal

pub returns-clause-entered : goal.returns-clause-entered
returns-clause-entered c =
    let all = c.self.inside.locals in
    let n = c.len-self-inside.result in
    let none : drop n all ≡ [] = grind (arith, common_steps) in
    let whole : take n all ≡ all = grind (arith, common_steps) in
    ap (λ (b : List valid.Local). record { block = b; around = seen entry_view (take n all); count = c.self.inside.count }) (ap (seen entry_view) none)
    ∙ ap (λ (a : List valid.Local). record { block = []; around = a; count = c.self.inside.count })
    (ap (seen entry_view) whole ∙ sym (seen-split entry_view c.self.inside.first all))
    ∙ ap entered c.self.view_is
