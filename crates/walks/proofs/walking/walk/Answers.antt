use Rattle.std.proofs.Common.{◌≡◌, ℕ, List, ◌∷◌, [], length, arith, refl, ◌∙◌, subst}
use Rattle.std.specs.List.{Contains}
use Rattle.walks.specs.Walks.{Grows, targets_in}
use Rattle.walks.proofs.Walks.{Walking, walked, all_found}
use Rattle.walks.proofs.walking.walk.Goals as goal

pub follow-requires : goal.follow-requires
follow-requires c =
    λ v here. omega (arith, c.loop-node.invariant.0, c.requires c.in-Some.node v (subst (λ l. Contains l v) c.targets_in.ensures here))

pub loop-node-preserved : goal.loop-node-preserved
loop-node-preserved c =
    let grows = subst (λ met. Grows c.args.avoiding.now met c.loop-node.found c.pop.new.self.items c.follow.new.found c.follow.new.work.items)
    c.targets_in.ensures c.in_ok-follow.ensures in (
      grows.size ∙ c.loop-node.invariant.0,
      walked (targets_in c.args.lists.now c.args.first) c.args.avoiding.now c.args.starts.items c.loop-node.found c.follow.new.found
          c.loop-node.work.items c.pop.new.self.items c.follow.new.work.items c.in-Some.node c.in-Some.ensures.items c.loop-node.invariant.1 grows,
    )

no_items : (xs : List ℕ) → length xs ≡ 0 → xs ≡ []
no_items [] none = refl
no_items (x ∷ xs) none = absurd (omega (arith, none))

pub returns : goal.returns
returns c =
    let empty : c.loop-node.work.items ≡ [] = no_items c.loop-node.work.items (omega (arith, c.in_default.ensures.cases.0)) in
    let next = targets_in c.args.lists.now c.args.first in
    let done : Walking next c.args.avoiding.now c.args.starts.items c.loop-node.found [] =
    subst (Walking next c.args.avoiding.now c.args.starts.items c.loop-node.found) empty c.loop-node.invariant.1 in
    record {
      sized = c.loop-node.invariant.0;
      sound = done.sound;
      all = λ n to. all_found next c.args.avoiding.now c.args.starts.items c.loop-node.found n done to;
    }
