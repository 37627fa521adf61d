use Rattle.c_scope.specs.declared.entry.Entry.{Entry}
use Rattle.std.proofs.Common.{◌-◌, length, drop, take, ap, sym, ◌∙◌}
use Rattle.std.specs.Prelude.{List}
use Rattle.c_prog.specs.Valid.Scope as valid
use Rattle.c_scope.specs.Places.{entry_view}
use Rattle.c_scope.specs.Scopes.{left}
use Rattle.c_scope.proofs.Scopes.{seen, take-seen, drop-seen}
use Rattle.c_scope.proofs.scope.Scope.leave.Goals as goal

pub returns : goal.returns
returns c =
    let outer = c.args.outer in
    let around = take c.self.inside.first c.self.inside.locals in
    ap (λ (l : List Entry). record { block = seen entry_view (drop outer l); around = seen entry_view (take outer l); count = c.self.inside.count }) c.close_all.ensures.shorter
    ∙ ap (λ (b : List valid.Local). record { block = b; around = seen entry_view (take outer around); count = c.self.inside.count }) (sym (take-seen entry_view outer around))
    ∙ ap (λ (a : List valid.Local). record { block = take (length (seen entry_view around) - outer) (seen entry_view around); around = a; count = c.self.inside.count }) (sym (drop-seen entry_view outer around))
    ∙ ap (left outer) c.self.view_is
