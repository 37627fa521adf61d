use Rattle.std.proofs.Common.{◌≡◌, List, ℕ, IfOk, ap, sym, subst, ◌∙◌}
use Rattle.c_prog.specs.declared.tree.Tree.{Tree}
use Rattle.c_prog.specs.Patched.{tree_patched}
use Rattle.c_print.specs.Text.Canonical.{canonical}
use Rattle.c_print.proofs.printing.print.Goals as goal

pub returns : goal.returns
returns c =
    subst (λ (tree : Tree). IfOk c.print_tree.result (λ text. text.items ≡ canonical tree)) c.tree.ensures.same
    (c.print_tree.ensures (c.is_patched.ensures.patched ∙ sym (ap tree_patched c.tree.ensures.same)))
