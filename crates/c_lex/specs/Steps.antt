use Rattle.std.specs.Prelude.{◌≡◌, ◌⊎◌, length, Result, Ok, Err}
use Rattle.c_lex.specs.declared.step.Step.{Step}
use Rattle.c_lex.specs.declared.step.Step.TheVariants.{Skip, Take, Refuse}
use Rattle.c_lex.specs.declared.fault.LexFault.{LexFault}
use Rattle.c_lex.specs.declared.fault.LexFault.TheVariants.{NoMemory}
use Rattle.c_lex.specs.Pieces.{Piece, spelling}
use Rattle.c_lex.specs.Meaning.{Between, Counts, Refuses, verdict}
use Rattle.c_lex.specs.Lexed.{Lexed}
use Rattle.c_lex.specs.Reading.{Outcome, Whole, Faulty}

-- the step says what the piece is, and how many bytes it has
abbrev pub Tells : Step → Piece → Type 0
Tells (Skip bytes) piece = (verdict piece ≡ Between) × (length (spelling piece) ≡ bytes)
Tells (Take kind bytes) piece = (verdict piece ≡ Counts kind) × (length (spelling piece) ≡ bytes)
Tells (Refuse refusal) piece = verdict piece ≡ Refuses refusal

-- the answer is what the pieces of the text come to, or want of memory
abbrev pub Comes : Result Lexed LexFault → Outcome → Type 0
Comes (Ok lexed) found = found ≡ Whole lexed
Comes (Err fault) found = (fault ≡ NoMemory) ⊎ (found ≡ Faulty fault)
