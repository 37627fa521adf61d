-- Equal words and equal signs, as the grammar tells them.
use Rattle.std.proofs.Common.{◌≡◌, Bool, true, false, refl, sym, rules}
use Rattle.std.proofs.lemmas.Bool.{eq-eqb}
use denote.Enum.Bare.{sameb, same_true, same_false}
use Rattle.c_grammar.specs.declared.word.Word.{Word}
use Rattle.c_grammar.specs.contracts.word.Word as word_row
use Rattle.c_grammar.specs.declared.sign.Sign.{Sign}
use Rattle.c_grammar.specs.contracts.sign.Sign as sign_row
use Rattle.c_grammar.specs.Token.{IsWord, IsSign}
use Rattle.c_reading.specs.Read.{word_code, sign_code, is_word_kind, is_sign_kind}
use Rattle.c_reading.proofs.Token.{only_word, only_sign}

pub same_word : (found x : Word) → sameb word_row.the_type found x ≡ is_word_kind x (IsWord found)
same_word found x = by (sameb word_row.the_type found x) refl
  where
    other : (v : Bool) → is_word_kind x (IsWord found) ≡ v → (found ≡ x → ⊥) → false ≡ v
    other true e h = let k = only_word x (IsWord found) e in absurd (h cc)
    other false e h = refl

    by : (v : Bool) → sameb word_row.the_type found x ≡ v → v ≡ is_word_kind x (IsWord found)
    by true e = let k = same_true word_row.the_type (search rules) found x e in rw k (sym (eq-eqb (word_code x) (word_code x) refl))
    by false e = other _ refl (same_false word_row.the_type found x e)

pub same_sign : (found x : Sign) → sameb sign_row.the_type found x ≡ is_sign_kind x (IsSign found)
same_sign found x = by (sameb sign_row.the_type found x) refl
  where
    other : (v : Bool) → is_sign_kind x (IsSign found) ≡ v → (found ≡ x → ⊥) → false ≡ v
    other true e h = let k = only_sign x (IsSign found) e in absurd (h cc)
    other false e h = refl

    by : (v : Bool) → sameb sign_row.the_type found x ≡ v → v ≡ is_sign_kind x (IsSign found)
    by true e = let k = same_true sign_row.the_type (search rules) found x e in rw k (sym (eq-eqb (sign_code x) (sign_code x) refl))
    by false e = other _ refl (same_false sign_row.the_type found x e)
