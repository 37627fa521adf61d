use Rattle.std.proofs.Common.{◌<◌, length, get_or, take, sym, subst, arith}
use Rattle.std.proofs.lemmas.List.{take_more}
use Rattle.std.proofs.lemmas.List.Elements.{Contains-get_or}
use Rattle.walks.specs.Links.{IsWithAll}
use Rattle.walks.proofs.LinkLaws.{with-more}
use Rattle.walks.proofs.linked.insert_all.Goals as goal

pub insert-requires : goal.insert-requires
insert-requires c =
    omega (arith, c.loop-number.invariant.sized, c.requires _ (Contains-get_or c.args.numbers.now c.loop-number.number-index 0 c.loop-number-test.true))

pub loop-number-preserved : goal.loop-number-preserved
loop-number-preserved c =
    let number = get_or c.args.numbers.now c.loop-number.number-index 0 in
    let below : number < length c.loop-number.set =
    omega (arith, c.loop-number.invariant.sized, c.requires number (Contains-get_or c.args.numbers.now c.loop-number.number-index 0 c.loop-number-test.true)) in
    subst (λ numbers. IsWithAll c.args.set.now numbers c.insert.new.self)
    (sym (take_more c.args.numbers.now c.loop-number.number-index 0 c.loop-number-test.true))
    (subst (IsWithAll c.args.set.now _) (sym c.insert.ensures)
    (with-more c.args.set.now (take c.loop-number.number-index c.args.numbers.now) c.loop-number.set number c.loop-number.invariant below))
