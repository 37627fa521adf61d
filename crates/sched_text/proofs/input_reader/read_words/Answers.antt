use Rattle.std.proofs.Common.{rules, ◌++◌, ◌∷◌, [], ℤ, List, take, arith, sym, ap, subst, ◌∙◌, w32, FitsSigned}
use Rattle.std.proofs.lemmas.Int.{to_z-of_z}
use Rattle.sched_text.specs.Inputs.{AreNumbers}
use Rattle.sched_text.proofs.Inputs.{word_at, word_within, pass_blank, take_word, first_bad, numbers-push}
use Rattle.sched_text.proofs.input_reader.read_words.Goals as goal

pub words-preserved-then-len-eq0 : goal.words-preserved-then-len-eq0
words-preserved-then-len-eq0 c =
    record {
      within = omega arith;
      good = c.words.invariant.good;
      read = pass_blank c.args.text.now c.words.at c.words.invariant.good c.words.invariant.read c.text_from-rest.result.now c.text_from-rest.ensures
          c.word_len-len.result c.word_len-len.ensures c.words-test.true c.if-len-eq0.true;
      numbers = c.words.invariant.numbers;
    }

pub overflow_add-at-else-len-eq0 : goal.overflow_add-at-else-len-eq0
overflow_add-at-else-len-eq0 c =
    let within = word_within c.args.text.now c.words.at c.words.invariant.good c.words.invariant.read c.text_from-rest.result.now c.text_from-rest.ensures
    c.word_len-len.result c.word_len-len.ensures c.words.invariant.within in
    omega (arith, within, c.requires)

pub returns-in-None-clause-refused : goal.returns-in-None-clause-refused
returns-in-None-clause-refused c =
    first_bad c.args.text.now c.words.at c.words.invariant.good c.words.invariant.read c.text_from-rest.result.now c.text_from-rest.ensures
    c.word_len-len.result c.word_len-len.ensures c.if-len-eq0.false c.words.values.items c.words.invariant.numbers c.in-None.ensures

pub words-preserved : goal.words-preserved
words-preserved c =
    let within = word_within c.args.text.now c.words.at c.words.invariant.good c.words.invariant.read c.text_from-rest.result.now c.text_from-rest.ensures
    c.word_len-len.result c.word_len-len.ensures c.words.invariant.within in
    let word = word_at c.words.at (take c.word_len-len.result c.text_from-rest.result.now) in
    let fits : FitsSigned w32 c.in-Some.value = search rules in
    let pushed = c.in_ok-push-in-Some.ensures.items ∙ ap (λ (z : ℤ). c.words.values.items ++ z ∷ []) (to_z-of_z w32 c.in-Some.value fits) in
    record {
      within = within;
      good = c.words.invariant.good ++ word ∷ [];
      read = take_word c.args.text.now c.words.at c.words.invariant.good c.words.invariant.read c.text_from-rest.result.now c.text_from-rest.ensures
          c.word_len-len.result c.word_len-len.ensures c.if-len-eq0.false;
      numbers = subst (λ (z : List ℤ). AreNumbers (c.words.invariant.good ++ word ∷ []) z) (sym pushed)
          (numbers-push c.words.invariant.good word c.words.values.items c.in-Some.value c.words.invariant.numbers c.in-Some.ensures);
    }
