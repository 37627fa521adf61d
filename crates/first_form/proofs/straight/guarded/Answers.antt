use Rattle.std.proofs.Common.{◌≡◌, Some, sym, ◌∙◌, ap, subst, rules}
use Rattle.c_prog.specs.Valid.{IsValid}
use Rattle.first_form.specs.Form.{acts_of, plains_of}
use Rattle.first_form.specs.Straight.{guarded}
use Rattle.first_form.proofs.FirstTrees.{valid-first}
use Rattle.first_form.proofs.straight.guarded.Goals as goal

pub of-requires : goal.of-requires
of-requires c =
    let program = c.args.program.now in
    let valid : IsValid program = subst IsValid c.tree.ensures.same c.tree.ensures.valid in
    let globals : c.in_ok-globals.globals ≡ program.globals = search rules in
    let is : c.in_ok-tree.tree ≡ guarded program.globals (acts_of (plains_of program)) (Some c.args.region) =
    c.in_ok-tree.ensures ∙ ap (λ g. guarded g (acts_of c.args.plains.now) (Some c.args.region)) globals
    ∙ ap (λ p. guarded program.globals (acts_of p) (Some c.args.region)) c.requires.statements in
    record { valid = subst IsValid (sym is) (valid-first program (Some c.args.region) c.requires.form valid) }
