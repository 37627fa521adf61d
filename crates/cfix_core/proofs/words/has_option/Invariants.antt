use Rattle.std.proofs.Common.{◌≡◌, drop}
use Rattle.std.specs.List.{list_any}
use Rattle.cfix_core.specs.Words.{texts, is_option}
use Rattle.cfix_core.proofs.words.has_option.Given as goal

abbrev pub invariant-loop-word : goal.invariant-loop-word
invariant-loop-word l = list_any is_option (texts (drop l.word-index l.words)) ≡ list_any is_option (texts l.words)
