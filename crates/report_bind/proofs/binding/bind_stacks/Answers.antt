use Rattle.std.proofs.Common.{◌≡◌, length, sym, ap, ◌∙◌, Some, arith}
use Rattle.report_bind.specs.Binds.{is_stacked}
use Rattle.report_bind.specs.Stacks.{stack_of}
use Rattle.report_bind.proofs.Traced.{site-exists}
use Rattle.report_bind.proofs.Rules.{by-stacks}
use Rattle.report_bind.proofs.binding.bind_stacks.Goals as goal

pub find_stack-requires-clause-exists : goal.find_stack-requires-clause-exists
find_stack-requires-clause-exists c =
    omega (arith, site-exists c.args.source.now c.args.p.now c.args.sites.p c.requires.sites.is_p, ap (λ g. length g.calls.sites) c.requires.own)

pub find_stack-requires-2-clause-exists : goal.find_stack-requires-2-clause-exists
find_stack-requires-2-clause-exists c =
    omega (arith, site-exists c.args.source.now c.args.c.now c.args.sites.c c.requires.sites.is_c, ap (λ g. length g.calls.sites) c.requires.own)

pub returns : goal.returns
returns c =
    let source = c.args.source.now in
    let p_is : stack_of source c.args.p.now.stack c.args.sites.p.id ≡ Some c.in-Some.p_stack =
    ap (λ s. stack_of source s c.args.sites.p.id) (sym c.as_slice.ensures) ∙ sym c.in_ok-p_stack.ensures ∙ c.in-Some.is in
    let c_is : stack_of source c.args.c.now.stack c.args.sites.c.id ≡ Some c.in-Some-c_stack.c_stack =
    ap (λ s. stack_of source s c.args.sites.c.id) (sym c.as_slice-2.ensures) ∙ sym c.in_ok-c_stack.ensures ∙ c.in-Some-c_stack.is in
    by-stacks source (is_stacked c.args.p.now c.args.c.now) c.args.sites c.in-Some.p_stack c.in-Some-c_stack.c_stack c.bind_calls.result
    (stack_of source c.args.p.now.stack c.args.sites.p.id) (stack_of source c.args.c.now.stack c.args.sites.c.id) p_is c_is
    (omega (arith, c.if-p_stack-c_stack.false)) c.bind_calls.ensures
