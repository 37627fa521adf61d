use Rattle.std.proofs.Common.{◌≡◌, Some, sym, ap, ◌∙◌}
use Rattle.c_print.specs.Text.Canonical.{canonical}
use Rattle.first_form.specs.Form.{plains_of, acts_of}
use Rattle.first_form.specs.Straight.{guarded}
use Rattle.cfix_core.proofs.Repaired.{repaired_by}
use Rattle.cfix_core.proofs.patch.patched_for.Goals as goal

pub returns-in-Some-clause-done : goal.returns-in-Some-clause-done
returns-in-Some-clause-done c =
    let source = c.args.source.now in
    let plains = c.in_ok-plains.plains.items in
    let statements : plains ≡ plains_of source.tree = c.in_ok-plains.ensures ∙ ap plains_of c.program.ensures in
    let text : c.in_ok-guarded_text-in-Some.field-0.items
    ≡ canonical (guarded source.tree.globals (acts_of plains) (Some c.in-Some.region)) =
    c.in_ok-guarded_text-in-Some.ensures
    ∙ ap (λ p. canonical (guarded source.tree.globals (acts_of p) (Some c.in-Some.region))) c.as_slice.ensures.value in
    repaired_by source c.args.report.now c.in_ok-bound.bound plains c.in-Some.region c.in_ok-guarded_text-in-Some.field-0.items c.requires.form
    statements c.in_ok-bound.ensures.bound (sym c.in-Some.ensures) text
