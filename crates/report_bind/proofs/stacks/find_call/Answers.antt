use Rattle.std.proofs.Common.{◌≡◌, ◌<◌, length, sym, subst, ap, ◌∙◌}
use Rattle.std.specs.Prelude.{All}
use Rattle.cfix_base.specs.declared.number.NodeId.{NodeId}
use Rattle.c_prog.specs.Lines.{InOrder}
use Rattle.c_prog.specs.Rising.{keys}
use Rattle.report_bind.proofs.Traced.{call-exists, key-is}
use Rattle.report_bind.proofs.Turns.{call-line-at}
use Rattle.report_bind.proofs.stacks.find_call.Goals as goal

pub is_call-requires-clause-exists : goal.is_call-requires-clause-exists
is_call-requires-clause-exists c =
    let entries : c.calls-entries.result.now ≡ c.args.source.now.lines.calls = c.calls-entries.ensures.same ∙ ap (λ l. l.calls) c.lines.ensures.same in
    let exist = call-exists c.args.source.now c.lines.ensures.lined in
    let first = subst (λ g. All (λ (node : NodeId). node.number < length g.sites) (keys c.args.source.now.lines.calls)) (sym c.requires) exist in
    key-is (λ node. node.number < length c.args.calls.now.sites) c.calls-entries.result.now c.loop-entry.entry-index (record { number = 0 }, 0)
    (subst (λ es. All (λ (node : NodeId). node.number < length c.args.calls.now.sites) (keys es)) (sym entries) first) c.loop-entry-test.true

pub is_call-requires-clause-lined : goal.is_call-requires-clause-lined
is_call-requires-clause-lined c =
    call-line-at c.args.source.now c.calls-entries.result.now c.loop-entry.entry-index (record { number = 0 }, 0)
    (subst InOrder c.lines.ensures.same c.calls-entries.ensures.rising)
    (c.calls-entries.ensures.same ∙ ap (λ l. l.calls) c.lines.ensures.same) c.loop-entry-test.true
