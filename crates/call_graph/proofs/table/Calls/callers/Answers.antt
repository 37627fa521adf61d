use Rattle.std.proofs.Common.{◌≡◌, [], sym, ◌∙◌, subst, length, ap, arith}
use Rattle.call_graph.specs.Calls.{AreCallers}
use Rattle.call_graph.specs.Kept.{list_at}
use Rattle.call_graph.proofs.Pushes.{got}
use Rattle.call_graph.proofs.table.Calls.callers.Goals as goal

pub returns : goal.returns
returns c =
    let list : list_at c.self.inside.callers c.args.of ≡ c.as_slice.result.now =
    got c.self.inside.callers c.args.of.number [] c.at.result.now c.at.ensures ∙ sym c.as_slice.ensures in
    subst (λ graph. AreCallers graph.sites c.args.of c.as_slice.result.now) c.self.view_is
    (subst (AreCallers c.self.inside.sites c.args.of) list
    (c.self.invariant.callers_kept c.args.of (omega (arith, c.requires, c.self.invariant.callers_sized, ap (λ graph. length graph.mains) c.self.view_is))))
