use Rattle.std.proofs.Common.{◌≡◌, ◌/◌, ◌<◌, ◌*◌, length, get_or, ap, sym, ◌∙◌, inl, inr, subst, arith}
use Rattle.std.proofs.lemmas.List.{get_or_read}
use Rattle.std.proofs.lemmas.Bool.{false≢true, cases_lt}
use lib.Bits.{bit_and}
use Rattle.plan_types.specs.Sets.{IsIn}
use Rattle.plan_types.proofs.Words.{no-shared-bit, in-bit}
use Rattle.plan_types.proofs.number_set.NumberSet.meets.Goals as goal
use Rattle.plan_types.proofs.number_set.NumberSet.meets.Goals.{else-word-other_word-ne0-via-then-word-other_word-ne0+else-meets_in_word, else-word-other_word-ne0-via-else-word-other_word-ne0}

pub loop-place-preserved : goal.loop-place-preserved
loop-place-preserved c = λ n below one other. elim (cases_lt n (64 * c.loop-place.place)) [
  | inl before ↦ c.loop-place.invariant n before one other
  | inr here ↦
      elim c.else-word-other_word-ne0.branch [
        | else-word-other_word-ne0-via-then-word-other_word-ne0+else-meets_in_word w ↦
            false≢true (sym w.if-meets_in_word.false ∙ w.meets_in_word.ensures.1 (n, omega (arith, here), omega (arith, below), one, other))
        | else-word-other_word-ne0-via-else-word-other_word-ne0 w ↦
            let place : n / 64 ≡ c.loop-place.place = omega (arith, here, below) in
            let first = in-bit c.self.inside.size c.self.inside.words.items n (subst (λ set. IsIn set n) (sym c.self.view_is) one) in
            let second = in-bit c.other.inside.size c.other.inside.words.items n (subst (λ set. IsIn set n) (sym c.other.view_is) other) in
            let within : c.loop-place.place < length c.self.inside.words.items = omega (arith, c.self.invariant.enough, first.0, here) in
            let within_other : c.loop-place.place < length c.other.inside.words.items = omega (arith, c.other.invariant.enough, second.0, here) in
            let read : c.index-word.result.now ≡ get_or c.self.inside.words.items c.loop-place.place 0 =
            get_or_read _ _ _ within c.index-word.ensures 0 in
            let read_other : c.index-other_word.result.now ≡ get_or c.other.inside.words.items c.loop-place.place 0 =
            get_or_read _ _ _ within_other c.index-other_word.ensures 0 in
            no-shared-bit c.self.inside.words.items c.other.inside.words.items n
            (ap (λ i. bit_and (get_or c.self.inside.words.items i 0) (get_or c.other.inside.words.items i 0)) place
            ∙ ap (λ x. bit_and x (get_or c.other.inside.words.items c.loop-place.place 0)) (sym read)
            ∙ ap (λ x. bit_and c.index-word.result.now x) (sym read_other)
            ∙ w.if-word-other_word-ne0.false)
            first.1 second.1
      ]
]

pub returns : goal.returns
returns c = (
  λ no. absurd (false≢true no),
  λ both.
      let first = in-bit c.self.inside.size c.self.inside.words.items both.0 (subst (λ set. IsIn set both.0) (sym c.self.view_is) both.1) in
      let second = in-bit c.other.inside.size c.other.inside.words.items both.0 (subst (λ set. IsIn set both.0) (sym c.other.view_is) both.2) in
      absurd (c.loop-place.invariant both.0 (omega (arith, first.0, second.0, c.loop-place-test.false, c.div_ceil-count.ensures, c.min.ensures)) both.1 both.2),
)
