use Rattle.std.proofs.Common.{◌≡◌, ◌<◌, [], length, ap, sym, ◌∙◌, arith}
use Rattle.std.proofs.lemmas.List.{get_or_read}
use Rattle.walks.specs.Links.{next_in}
use Rattle.walks.proofs.LinkLaws.{links-pushed}
use Rattle.walks.proofs.linked.Links.add.Goals as goal

pub invariant_of-self : goal.invariant_of-self
invariant_of-self c =
    let size : length c.args.self.now ≡ c.self.inside.size = sym (ap length c.self.view_is) ∙ c.self.invariant.sized in
    let from : c.args.from < length c.self.inside.lists.items = omega (arith, c.requires.from, size, c.self.invariant.sized) in
    let old : c.index_mut.result.now ≡ next_in c.self.inside.lists.items c.args.from = get_or_read _ _ _ from c.index_mut.ensures.value [] in
    links-pushed c.self.inside.size c.self.inside.lists.items c.args.from c.args.to c.index_mut.result.now c.push.new.self c.push.result c.self.invariant
    (omega (arith, c.requires.from, size)) (omega (arith, c.requires.to, size)) old c.push.ensures.pushed c.push.ensures.unchanged
