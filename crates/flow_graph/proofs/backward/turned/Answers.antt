use Rattle.std.proofs.Common.{◌≡◌, length, arith, sym, ◌∙◌, subst}
use Rattle.std.specs.List.{Contains}
use Rattle.flow_graph.specs.Links.{listed, Gains, Turned}
use Rattle.flow_graph.proofs.Turnings.{turned_none, turned_more, item_listed}
use Rattle.flow_graph.proofs.backward.turned.Goals as goal

pub loop-list-init : goal.loop-list-init
loop-list-init c = (
  omega arith,
  c.in_ok-turned.ensures.sized,
  turned_none c.args.first c.args.lists.now c.in_ok-turned.turned.items c.in_ok-turned.ensures.empty,
)

pub add_links-requires : goal.add_links-requires
add_links-requires c =
    let item : c.as_slice.result.now ≡ listed c.args.lists.now c.loop-list.list-index =
    c.as_slice.ensures ∙ sym (item_listed c.args.lists.now c.loop-list.list-index c.list-item.result c.loop-list-test.true c.list-item.is) in
    λ v here.
    let within = c.requires.within c.loop-list.list-index v (subst (λ l. Contains l v) item here) in
    (within.0, omega (arith, within.1, c.loop-list.invariant.1))

pub loop-list-preserved : goal.loop-list-preserved
loop-list-preserved c =
    let item : c.as_slice.result.now ≡ listed c.args.lists.now c.loop-list.list-index =
    c.as_slice.ensures ∙ sym (item_listed c.args.lists.now c.loop-list.list-index c.list-item.result c.loop-list-test.true c.list-item.is) in
    let gains = subst (λ l. Gains c.args.first c.loop-list.turned.items c.add_links.new.lists.items c.loop-list.from l) item c.in_ok-add_links.ensures in
    let from = subst (λ n. Gains c.args.first c.loop-list.turned.items c.add_links.new.lists.items n (listed c.args.lists.now c.loop-list.list-index)) c.loop-list.invariant.0 gains in (
      omega (arith, c.loop-list.invariant.0),
      gains.sized ∙ c.loop-list.invariant.1,
      turned_more c.args.first c.loop-list.list-index c.args.lists.now c.loop-list.turned.items c.add_links.new.lists.items c.loop-list.invariant.2 from,
    )

pub returns : goal.returns
returns c =
    let all : c.loop-list.list-index ≡ length c.args.lists.now = omega (arith, c.loop-list-test.false, c.loop-list.auto.list-index-end) in
    subst (λ n. Turned c.args.first n c.args.lists.now c.loop-list.turned.items) all c.loop-list.invariant.2
