use Rattle.std.proofs.Common.{◌≡◌, ◌<◌, ◌^◌, ◌-◌, length, ap, sym, ◌∙◌, arith}
use Rattle.c_prog.specs.Accesses.{touches_of}
use Rattle.c_prog.specs.Order.{node_at}
use Rattle.c_access.proofs.node_accesses.accesses.Goals as goal

pub numbered-requires : goal.numbered-requires
numbered-requires c =
    let few : length (touches_of (node_at c.tree-tree.result.now c.args.node.number)) < 2 ^ 32 - 1 = c.tree-tree.ensures.valid.few_accesses c.args.node.number in
    let mine : length c.as_slice.result.now ≡ length (touches_of (node_at c.tree-tree.result.now c.args.node.number))
    = ap length (c.as_slice.ensures ∙ c.in_ok-touches.ensures ∙ ap touches_of c.node_of.ensures ∙ ap (λ tree. touches_of (node_at tree c.args.node.number)) (sym c.tree-tree.ensures.same)) in
    omega (arith, few, mine)
