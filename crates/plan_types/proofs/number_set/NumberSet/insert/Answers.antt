use Rattle.std.proofs.Common.{◌≡◌, ◌<◌, ap, sym, ◌∙◌, length, arith}
use Rattle.std.proofs.lemmas.List.{get_or_read}
use Rattle.plan_types.specs.Sets.{with_number}
use Rattle.plan_types.proofs.Bits.{size-numbers, number-place, insert-words}
use Rattle.plan_types.proofs.number_set.NumberSet.insert.Goals as goal

pub index-word-requires : goal.index-word-requires
index-word-requires c =
    let e : length c.args.self.now ≡ c.self.inside.size = sym (ap length c.self.view_is) ∙ size-numbers _ _ in
    omega (arith, e, c.self.invariant.enough, c.requires)

pub index_mut-requires : goal.index_mut-requires
index_mut-requires c =
    let e : length c.args.self.now ≡ c.self.inside.size = sym (ap length c.self.view_is) ∙ size-numbers _ _ in
    omega (arith, e, c.self.invariant.enough, c.requires)

pub returns : goal.returns
returns c =
    let e : length c.args.self.now ≡ c.self.inside.size = sym (ap length c.self.view_is) ∙ size-numbers _ _ in
    let below : c.args.number < c.self.inside.size = omega (arith, e, c.requires) in
    let place = number-place _ _ c.args.number below c.self.invariant.enough in
    let read = get_or_read _ _ _ place c.index-word.ensures 0 in
    insert-words c.self.inside.size c.self.inside.words.items c.args.number _ below c.self.invariant.enough read
    ∙ ap (λ set. with_number set c.args.number) c.self.view_is
