use Rattle.std.proofs.Common.{◌≡◌, ◌<◌, length, ap, sym, ◌∙◌, inl, inr, arith}
use Rattle.std.proofs.lemmas.Bool.{false≢true, cases_eq}
use Rattle.plan_types.specs.Sets.{is_in}
use Rattle.plan_types.proofs.Bits.{size-numbers}
use Rattle.plan_types.proofs.Sets.{IsIn-below}
use Rattle.plan_types.proofs.number_set.NumberSet.meets_in_word.Goals as goal
use Rattle.plan_types.proofs.number_set.NumberSet.meets_in_word.Goals.{else-contains-via-then-contains+else-contains-2, else-contains-via-else-contains}

pub loop-number-preserved : goal.loop-number-preserved
loop-number-preserved c = λ n from below one other. elim (cases_eq n c.loop-number.number) [
  | inl last ↦
      elim c.else-contains.branch [
        | else-contains-via-then-contains+else-contains-2 w ↦
            false≢true (sym (sym w.contains-then-contains.ensures ∙ w.if-contains-2.false) ∙ ap (is_in c.args.other.now) (sym last) ∙ other)
        | else-contains-via-else-contains w ↦
            false≢true (sym (sym c.contains.ensures ∙ w.if-contains.false) ∙ ap (is_in c.args.self.now) (sym last) ∙ one)
      ]
  | inr before ↦ c.loop-number.invariant n from (omega (arith, below, before)) one other
]

pub returns : goal.returns
returns c = (
  λ no. absurd (false≢true no),
  λ both.
      let size : length c.args.self.now ≡ c.self.inside.size = sym (ap length c.self.view_is) ∙ size-numbers _ _ in
      let below : both.0 < c.self.inside.size = omega (arith, size, IsIn-below c.args.self.now both.0 both.3) in
      absurd (c.loop-number.invariant both.0 both.1 (omega (arith, below, both.1, both.2, c.loop-number-test.false, c.min-end.ensures, c.saturating_add.ensures)) both.3 both.4),
)
