use Rattle.std.proofs.Common.{◌≡◌, ◌∷◌, ◌++◌, [], length, ap, ◌∙◌, subst, arith}
use Rattle.std.specs.List.{Contains}
use Rattle.std.proofs.lemmas.List.{length-append}
use Rattle.flow_graph.specs.Links.{listed}
use Rattle.flow_graph.proofs.Turnings.{empty_more}
use Rattle.flow_graph.proofs.backward.empty_lists.Goals as goal

pub loop-preserved : goal.loop-preserved
loop-preserved c =
    let items : c.push.new.self.items ≡ c.loop.lists.items ++ [] ∷ [] =
    c.in_ok-push.ensures.items ∙ ap (λ list. c.loop.lists.items ++ list ∷ []) c.new.ensures in (
      omega (arith, ap length items, length-append c.loop.lists.items ([] ∷ []), c.loop.invariant.0),
      λ place u here. empty_more c.loop.lists.items c.loop.invariant.1 place u (subst (λ l. Contains (listed l place) u) items here),
    )
