use Rattle.std.proofs.Common.{ap, sym, ◌∙◌}
use Rattle.std.proofs.lemmas.List.{get_or_read}
use Rattle.plan_types.specs.Sets.{is_in}
use Rattle.plan_types.proofs.Bits.{in-numbers, past-numbers, number-place, bit-test}
use Rattle.plan_types.proofs.number_set.NumberSet.contains.Goals as goal

pub returns-then-number-self : goal.returns-then-number-self
returns-then-number-self c =
    sym (past-numbers c.self.inside.size c.self.inside.words.items c.args.number c.if-number-self.true) ∙ ap (λ set. is_in set c.args.number) c.self.view_is

pub returns : goal.returns
returns c =
    let place = number-place _ _ c.args.number c.if-number-self.false c.self.invariant.enough in
    let read = get_or_read _ _ _ place c.index-word.ensures 0 in
    bit-test _ c.args.number _ read
    ∙ sym (in-numbers _ _ c.args.number c.if-number-self.false)
    ∙ ap (λ set. is_in set c.args.number) c.self.view_is
