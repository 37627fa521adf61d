use Rattle.std.proofs.Common.{◌≡◌, ◌≤◌, ◌-◌, ◌++◌, List, length, drop}
use Rattle.sched_text.specs.Inputs.{Word, words, words_from, AreNumbers}
use Rattle.sched_text.proofs.input_reader.read_words.Given as goal

abbrev pub invariant-words : goal.invariant-words
invariant-words l = record {
  within : l.at ≤ length l.text;
  good : List Word;
  read : words l.text ≡ good ++ words_from l.at (drop l.at l.text);
  numbers : AreNumbers good l.values.items;
}

abbrev pub decreases-words : goal.decreases-words
decreases-words l = length l.text - l.at
