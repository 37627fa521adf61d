-- What a word or a sign is spelled, told by what it is.
use Rattle.std.specs.Str.{bytes_eq}
use Rattle.std.proofs.Common.{◌≡◌, ◌⊎◌, ℕ, Bool, true, false, List, [], ◌∷◌, cond, refl, sym, ap, ◌∙◌, inl, inr}
use Rattle.c_grammar.specs.declared.word.Word.{Word}
use Rattle.c_grammar.specs.declared.sign.Sign.{Sign}
use Rattle.c_grammar.specs.Token.{Kind, IsWord, IsOther, IsSign}
use Rattle.c_grammar.specs.Spelling.{words, word_text, word_among, word_kind, signs, sign_text, sign_among, sign_kind}
use Rattle.c_cursor.specs.declared.look.Look.{Look}
use Rattle.c_cursor.specs.declared.look.Look.TheVariants as look
use Rattle.c_cursor.specs.Seen.{look_of}

word_cases : (xs : List Word) (text : List ℕ) → ((x : Word) × (word_among xs text ≡ IsWord x)) ⊎ (word_among xs text ≡ IsOther text)
word_cases [] text = inr refl
word_cases (x ∷ xs) text = at (bytes_eq text (word_text x)) (word_cases xs text)
  where
    at : (b : Bool) → ((y : Word) × (word_among xs text ≡ IsWord y)) ⊎ (word_among xs text ≡ IsOther text)
        → ((y : Word) × (cond b (IsWord x) (word_among xs text) ≡ IsWord y)) ⊎ (cond b (IsWord x) (word_among xs text) ≡ IsOther text)
    at true h = inl (x, refl)
    at false h = h

sign_cases : (xs : List Sign) (text : List ℕ) → ((x : Sign) × (sign_among xs text ≡ IsSign x)) ⊎ (sign_among xs text ≡ IsOther text)
sign_cases [] text = inr refl
sign_cases (x ∷ xs) text = at (bytes_eq text (sign_text x)) (sign_cases xs text)
  where
    at : (b : Bool) → ((y : Sign) × (sign_among xs text ≡ IsSign y)) ⊎ (sign_among xs text ≡ IsOther text)
        → ((y : Sign) × (cond b (IsSign x) (sign_among xs text) ≡ IsSign y)) ⊎ (cond b (IsSign x) (sign_among xs text) ≡ IsOther text)
    at true h = inl (x, refl)
    at false h = h

pub word_known : (text : List ℕ) (x : Word) → look.Word x ≡ look_of (word_kind text) → IsWord x ≡ word_kind text
word_known text x e = by (word_cases words text)
  where
    by : ((y : Word) × (word_kind text ≡ IsWord y)) ⊎ (word_kind text ≡ IsOther text) → IsWord x ≡ word_kind text
    by (inl (y, h)) = let k : look.Word x ≡ look.Word y = e ∙ ap look_of h in let same : x ≡ y = cc in ap IsWord same ∙ sym h
    by (inr h) = let k : look.Word x ≡ look.Other = e ∙ ap look_of h in absurd cc

pub word_unknown : (text : List ℕ) (l : Look) → l ≡ look_of (word_kind text) → ((x : Word) → l ≡ look.Word x → ⊥) → IsOther text ≡ word_kind text
word_unknown text l e n = by (word_cases words text)
  where
    by : ((y : Word) × (word_kind text ≡ IsWord y)) ⊎ (word_kind text ≡ IsOther text) → IsOther text ≡ word_kind text
    by (inl (y, h)) = absurd (n y (e ∙ ap look_of h))
    by (inr h) = sym h

pub sign_known : (text : List ℕ) (x : Sign) → look.Sign x ≡ look_of (sign_kind text) → IsSign x ≡ sign_kind text
sign_known text x e = by (sign_cases signs text)
  where
    by : ((y : Sign) × (sign_kind text ≡ IsSign y)) ⊎ (sign_kind text ≡ IsOther text) → IsSign x ≡ sign_kind text
    by (inl (y, h)) = let k : look.Sign x ≡ look.Sign y = e ∙ ap look_of h in let same : x ≡ y = cc in ap IsSign same ∙ sym h
    by (inr h) = let k : look.Sign x ≡ look.Other = e ∙ ap look_of h in absurd cc

pub sign_unknown : (text : List ℕ) (l : Look) → l ≡ look_of (sign_kind text) → ((x : Sign) → l ≡ look.Sign x → ⊥) → IsOther text ≡ sign_kind text
sign_unknown text l e n = by (sign_cases signs text)
  where
    by : ((y : Sign) × (sign_kind text ≡ IsSign y)) ⊎ (sign_kind text ≡ IsOther text) → IsOther text ≡ sign_kind text
    by (inl (y, h)) = absurd (n y (e ∙ ap look_of h))
    by (inr h) = sym h
