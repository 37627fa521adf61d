-- The operations of CFix as they stand in a text: `cfix_enter(3)`.
use Rattle.std.specs.Prelude.{ℕ, List, [], ◌∷◌, ◌++◌}
use Rattle.cfix_base.specs.declared.Spot.{Spot}
use Rattle.c_grammar.specs.declared.word.Word.{Word}
use Rattle.c_grammar.specs.declared.word.Word.TheVariants as w
use Rattle.c_grammar.specs.declared.sign.Sign.TheVariants as s
use Rattle.c_grammar.specs.Marks.{each}
use Rattle.c_grammar.specs.Token.{Numeral, numeral, word, sign, Mark}

pub data Verb : Type 0 where
  Enter : Verb
  Leave : Verb
  Wait : Verb
  Done : Verb
  First : Verb
  Add : Verb

abbrev pub verb_word : Verb → Word
verb_word Enter = w.Enter
verb_word Leave = w.Leave
verb_word Wait = w.Wait
verb_word Done = w.Done
verb_word First = w.First
verb_word Add = w.Add

-- verb "(" number ")"
pub data Op : Type 0 where
  OpOf : Verb → Spot → Spot → Numeral → Spot → Op

abbrev pub op_marks : ℕ → Op → List Mark
op_marks d (OpOf verb at before n after) = (word (verb_word verb) at, d) ∷ ((sign s.OpenParen before, d) ∷ ((numeral n, d) ∷ ((sign s.CloseParen after, d) ∷ [])))

-- { op ";" }
abbrev pub Ops : Type 0
Ops = List (Op × Spot)

abbrev pub ops_marks : ℕ → Ops → List Mark
ops_marks d = each (λ x. op_marks d x.0 ++ (sign s.Semicolon x.1, d) ∷ [])

-- { "," op }
abbrev pub more_ops_marks : ℕ → List (Spot × Op) → List Mark
more_ops_marks d = each (λ x. (sign s.Comma x.0, d) ∷ op_marks d x.1)
