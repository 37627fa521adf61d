use Rattle.std.proofs.Common.{◌≡◌, length, ap, sym, ◌∙◌, subst, arith}
use Rattle.plan_types.specs.Bits.{numbers_of, AreUnited}
use Rattle.plan_types.specs.Sets.{IsUnion}
use Rattle.plan_types.proofs.Bits.{size-numbers}
use Rattle.plan_types.proofs.Words.{united-numbers}
use Rattle.plan_types.proofs.number_set.NumberSet.unite.Goals as goal

pub unite_words-requires : goal.unite_words-requires
unite_words-requires c =
    let one : length c.args.self.now ≡ c.self.inside.size = sym (ap length c.self.view_is) ∙ size-numbers _ _ in
    let other : length c.args.other.now ≡ c.other.inside.size = sym (ap length c.other.view_is) ∙ size-numbers _ _ in
    omega (
      arith,
      one,
      other,
      c.requires,
      c.self.invariant.enough,
      c.self.invariant.few,
      c.other.invariant.enough,
      c.other.invariant.few,
      ap length c.as_slice.ensures.value,
    )

pub returns : goal.returns
returns c =
    let one : length c.args.self.now ≡ c.self.inside.size = sym (ap length c.self.view_is) ∙ size-numbers _ _ in
    let other : length c.args.other.now ≡ c.other.inside.size = sym (ap length c.other.view_is) ∙ size-numbers _ _ in
    let sizes : c.other.inside.size ≡ c.self.inside.size = sym other ∙ sym c.requires ∙ one in
    let united : AreUnited c.self.inside.words.items c.other.inside.words.items c.unite_words.new.words.items =
    subst (λ others. AreUnited c.self.inside.words.items others c.unite_words.new.words.items) c.as_slice.ensures.value c.unite_words.ensures in
    subst (λ set. IsUnion set c.args.other.now (numbers_of c.self.inside.size c.unite_words.new.words.items)) c.self.view_is
    (subst (λ set. IsUnion (numbers_of c.self.inside.size c.self.inside.words.items) set (numbers_of c.self.inside.size c.unite_words.new.words.items))
    (ap (λ size. numbers_of size c.other.inside.words.items) (sym sizes) ∙ c.other.view_is)
    (united-numbers c.self.inside.size c.self.inside.words.items c.other.inside.words.items c.unite_words.new.words.items united c.self.invariant.enough))
