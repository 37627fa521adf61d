use Rattle.std.proofs.Common.{◌≡◌, sym, ◌∙◌, ap}
use Rattle.c_prog.specs.Marks.{all_new}
use Rattle.c_prog.specs.Patched.{tree_patched}
use Rattle.c_patched.proofs.PatchedStrip.{unpatched-stays, stays-unpatched}
use Rattle.c_patched.proofs.patched.is_patched.Goals as goal

pub returns-clause-changes : goal.returns-clause-changes
returns-clause-changes c =
    let mine : c.tree_patched.result ≡ tree_patched c.args.program.now = c.tree_patched.ensures ∙ ap tree_patched c.tree.ensures.same in
    (λ is. unpatched-stays all_new c.args.program.now (sym mine ∙ is), λ is. mine ∙ stays-unpatched c.args.program.now is)
