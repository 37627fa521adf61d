use Rattle.c_grammar.proofs.Spelling.{word_spelled, sign_spelled}
use Rattle.c_grammar.proofs.laws.words_and_signs_are_told_by_their_spelling.Goals as goal

pub returns : goal.returns
returns c = record { words = word_spelled; signs = sign_spelled }
