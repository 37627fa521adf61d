-- What a token is, as the grammar's tests tell it.
use Rattle.std.specs.Prelude.{option_map}
use Rattle.std.specs.Str.{bytes_eq}
use Rattle.std.proofs.Common.{◌≡◌, ℕ, ℤ, zero, suc, ◌+◌, ◌<◌, Bool, true, false, List, [], ◌∷◌, length, drop, map, Option, Some, None, refl, sym, ap, ◌∙◌, add-one, slice_get, cond}
use Rattle.std.proofs.lemmas.Option.{slice_get-map}
use denote.Enum.Bare.{sameb}
use Rattle.cfix_base.specs.declared.Spot.{Spot}
use Rattle.c_lex.specs.declared.token.Kind as lexed
use Rattle.c_lex.specs.declared.token.Kind.TheVariants as kind
use Rattle.c_lex.specs.declared.token.Token as lex
use Rattle.c_grammar.specs.declared.word.Word.{Word}
use Rattle.c_grammar.specs.contracts.word.Word as word_row
use Rattle.c_grammar.specs.declared.sign.Sign.{Sign}
use Rattle.c_grammar.specs.contracts.sign.Sign as sign_row
use Rattle.c_reading.specs.Reader.{Got, Stop, Unexpected, begins}
use Rattle.c_grammar.specs.Token.{Kind, IsName, IsNumber, IsQuoted, IsWord, IsOther, IsSign, Token, Numeral}
use Rattle.c_grammar.specs.Spelling.{words, word_text, word_among, signs, sign_text, sign_among}
use Rattle.c_reading.specs.Read.{is_word_kind, is_sign_kind, is_number_kind, is_word, is_sign, is_number, read_word, read_sign, ident_in, numeral_in, text_in, read_numeral}
use Rattle.c_cursor.specs.declared.look.Look.TheVariants as look
use Rattle.c_cursor.specs.declared.cursor.Mark.{Mark}
use Rattle.c_grammar.specs.Lexical.{kind_read, token_read}
use Rattle.c_cursor.specs.Seen.{bare_kind, passes, look_of, look_at, number_in, number_at, spot_at}
use Rattle.c_cursor.specs.Marks.{mark_of, marked}
use Rattle.c_cursor.proofs.Places.{drop-here, drop-behind, begins-within}
use Rattle.c_cursor.proofs.Same.{same_word, same_sign}

pub look-mark : (ts : List lex.Token) (at : ℕ) (m : Mark) → slice_get (marked ts) at ≡ Some m → Some m.look ≡ look_at (drop at (map token_read ts))
look-mark [] at m e = absurd cc
look-mark (t ∷ ts) zero m e = let h : mark_of t ≡ m = cc in ap (λ (x : Mark). Some x.look) (sym h)
look-mark (t ∷ ts) (suc at) m e = look-mark ts at m e

pub spot-mark : (end : Spot) (ts : List lex.Token) (at : ℕ) (m : Mark) → slice_get (marked ts) at ≡ Some m → m.spot ≡ spot_at end (drop at (map token_read ts))
spot-mark end [] at m e = absurd cc
spot-mark end (t ∷ ts) zero m e = let h : mark_of t ≡ m = cc in ap (λ (x : Mark). x.spot) (sym h)
spot-mark end (t ∷ ts) (suc at) m e = spot-mark end ts at m e

pub next-mark : (ts : List lex.Token) (at : ℕ) (m : Mark) → slice_get (marked ts) at ≡ Some m
    → (t : Token) × (drop at (map token_read ts) ≡ t ∷ drop (at + 1) (map token_read ts)) × (look_of t.kind ≡ m.look) × (t.spot ≡ m.spot)
next-mark ts at m e = rw (add-one at) (by ts at e)
  where
    by : (ts : List lex.Token) (at : ℕ) → slice_get (marked ts) at ≡ Some m
        → (t : Token) × (drop at (map token_read ts) ≡ t ∷ drop (suc at) (map token_read ts)) × (look_of t.kind ≡ m.look) × (t.spot ≡ m.spot)
    by [] at e = absurd cc
    by (t ∷ ts) zero e = let h : mark_of t ≡ m = cc in (token_read t, refl, ap (λ (x : Mark). x.look) h, ap (λ (x : Mark). x.spot) h)
    by (t ∷ ts) (suc at) e = by ts at e

-- ---- the token at a place

module _ (ts : List Token) (at : ℕ) (end : Spot) where
  pub word-got : (x : Word) → begins (is_word x) (drop at ts) ≡ true → read_word x (drop at ts) ≡ Got (spot_at end (drop at ts)) (drop (at + 1) ts)
  word-got x h = by (drop at ts) refl h
    where
      by : (more : List Token) → drop at ts ≡ more → begins (is_word x) more ≡ true → read_word x more ≡ Got (spot_at end more) (drop (at + 1) ts)
      by [] e h = absurd cc
      by (t ∷ more) e h = rw h (ap (λ (z : List Token). Got t.spot z) (drop-behind ts at t more e).0)

  pub sign-got : (x : Sign) → begins (is_sign x) (drop at ts) ≡ true → read_sign x (drop at ts) ≡ Got (spot_at end (drop at ts)) (drop (at + 1) ts)
  sign-got x h = by (drop at ts) refl h
    where
      by : (more : List Token) → drop at ts ≡ more → begins (is_sign x) more ≡ true → read_sign x more ≡ Got (spot_at end more) (drop (at + 1) ts)
      by [] e h = absurd cc
      by (t ∷ more) e h = rw h (ap (λ (z : List Token). Got t.spot z) (drop-behind ts at t more e).0)

-- ---- tests

word_begins : (ts : List Token) (found x : Word) → look_at ts ≡ Some (look.Word found) → is_word_kind x (IsWord found) ≡ begins (is_word x) ts
word_begins [] found x e = absurd cc
word_begins (t ∷ ts) found x e = by t.kind e
  where
    by : (k : Kind) → Some (look_of k) ≡ Some (look.Word found) → is_word_kind x (IsWord found) ≡ is_word_kind x k
    by (IsWord w) e = let h : w ≡ found = cc in rw h refl
    by (IsName w) e = absurd cc
    by (IsNumber w) e = absurd cc
    by (IsQuoted w) e = absurd cc
    by (IsOther w) e = absurd cc
    by (IsSign w) e = absurd cc

sign_begins : (ts : List Token) (found x : Sign) → look_at ts ≡ Some (look.Sign found) → is_sign_kind x (IsSign found) ≡ begins (is_sign x) ts
sign_begins [] found x e = absurd cc
sign_begins (t ∷ ts) found x e = by t.kind e
  where
    by : (k : Kind) → Some (look_of k) ≡ Some (look.Sign found) → is_sign_kind x (IsSign found) ≡ is_sign_kind x k
    by (IsWord w) e = absurd cc
    by (IsName w) e = absurd cc
    by (IsNumber w) e = absurd cc
    by (IsQuoted w) e = absurd cc
    by (IsOther w) e = absurd cc
    by (IsSign w) e = let h : w ≡ found = cc in rw h refl

pub word-is : (ts : List Token) (found x : Word) → look_at ts ≡ Some (look.Word found) → sameb word_row.the_type found x ≡ begins (is_word x) ts
word-is ts found x e = same_word found x ∙ word_begins ts found x e

pub sign-is : (ts : List Token) (found x : Sign) → look_at ts ≡ Some (look.Sign found) → sameb sign_row.the_type found x ≡ begins (is_sign x) ts
sign-is ts found x e = same_sign found x ∙ sign_begins ts found x e

-- ---- what a token carries

-- a token of the text, as the first one of those from its place on
pub seen-here : (all : List lex.Token) (at : ℕ) (t : lex.Token) → slice_get all at ≡ Some t → drop at (map token_read all) ≡ token_read t ∷ drop (at + 1) (map token_read all)
seen-here all at t e = drop-here (map token_read all) at (token_read t) (slice_get-map token_read all at ∙ ap (λ (x : Option lex.Token). option_map token_read x) e)

other_if : {A : Type 0} (v : Bool) (by : Kind → Option A) (k more : Kind) → by k ≡ None → by more ≡ None → by (cond v k more) ≡ None
other_if true by k more h g = h
other_if false by k more h g = g

other_word : {A : Type 0} (by : Kind → Option A) → ((w : Word) → by (IsWord w) ≡ None) → ((text : List ℕ) → by (IsOther text) ≡ None) → (all : List Word) (text : List ℕ) → by (word_among all text) ≡ None
other_word by h k [] text = k text
other_word by h k (w ∷ all) text = other_if (bytes_eq text (word_text w)) by (IsWord w) (word_among all text) (h w) (other_word by h k all text)

other_sign : {A : Type 0} (by : Kind → Option A) → ((x : Sign) → by (IsSign x) ≡ None) → ((text : List ℕ) → by (IsOther text) ≡ None) → (all : List Sign) (text : List ℕ) → by (sign_among all text) ≡ None
other_sign by h k [] text = k text
other_sign by h k (x ∷ all) text = other_if (bytes_eq text (sign_text x)) by (IsSign x) (sign_among all text) (h x) (other_sign by h k all text)

pub no-ident : (k : lexed.Kind) (at : Spot) → ((text : List ℕ) → k ≡ kind.Name text → ⊥) → ident_in (kind_read k) at ≡ None
no-ident (kind.Name text) at h = absurd (h text refl)
no-ident (kind.Word text) at h = other_word (λ k. ident_in k at) (λ w. refl) (λ w. refl) words text
no-ident (kind.Number n) at h = refl
no-ident (kind.Quoted text) at h = refl
no-ident (kind.Sign text) at h = other_sign (λ k. ident_in k at) (λ w. refl) (λ w. refl) signs text

pub no-text : (k : lexed.Kind) (at : Spot) → ((text : List ℕ) → k ≡ kind.Quoted text → ⊥) → text_in (kind_read k) at ≡ None
no-text (kind.Name text) at h = refl
no-text (kind.Word text) at h = other_word (λ k. text_in k at) (λ w. refl) (λ w. refl) words text
no-text (kind.Number n) at h = refl
no-text (kind.Quoted text) at h = absurd (h text refl)
no-text (kind.Sign text) at h = other_sign (λ k. text_in k at) (λ w. refl) (λ w. refl) signs text

-- ---- numbers

numeral_from : (k : Kind) (at : Spot) (n : ℤ) → number_in k ≡ Some n → numeral_in k at ≡ Some (record { value = n; spot = at })
numeral_from (IsNumber m) at n e = let h : m ≡ n = cc in rw h refl
numeral_from (IsName x) at n e = absurd cc
numeral_from (IsQuoted x) at n e = absurd cc
numeral_from (IsWord x) at n e = absurd cc
numeral_from (IsOther x) at n e = absurd cc
numeral_from (IsSign x) at n e = absurd cc

no_numeral : (k : Kind) (at : Spot) → number_in k ≡ None → numeral_in k at ≡ None
no_numeral (IsNumber m) at e = absurd cc
no_numeral (IsName x) at e = refl
no_numeral (IsQuoted x) at e = refl
no_numeral (IsWord x) at e = refl
no_numeral (IsOther x) at e = refl
no_numeral (IsSign x) at e = refl

pub numeral-got : (ts : List Token) (at : ℕ) (end : Spot) (n : ℤ) → number_at (drop at ts) ≡ Some n → read_numeral (drop at ts) ≡ Got (record { value = n; spot = spot_at end (drop at ts) }) (drop (at + 1) ts)
numeral-got ts at end n h = by (drop at ts) refl h
  where
    by : (more : List Token) → drop at ts ≡ more → number_at more ≡ Some n → read_numeral more ≡ Got (record { value = n; spot = spot_at end more }) (drop (at + 1) ts)
    by [] e h = absurd cc
    by (t ∷ more) e h = rw (numeral_from t.kind t.spot n h) (ap (λ (z : List Token). let x : Numeral = record { value = n; spot = t.spot } in Got x z) (drop-behind ts at t more e).0)

pub numeral-none : (ts : List Token) → number_at ts ≡ None → read_numeral ts ≡ Stop Unexpected ts
numeral-none [] h = refl
numeral-none (t ∷ ts) h = rw (no_numeral t.kind t.spot h) refl

number_begins : (ts : List Token) (n : ℤ) → number_at ts ≡ Some n → begins is_number ts ≡ true
number_begins [] n e = absurd cc
number_begins (t ∷ ts) n e = by t.kind e
  where
    by : (k : Kind) → number_in k ≡ Some n → is_number_kind k ≡ true
    by (IsNumber m) e = refl
    by (IsName x) e = absurd cc
    by (IsQuoted x) e = absurd cc
    by (IsWord x) e = absurd cc
    by (IsOther x) e = absurd cc
    by (IsSign x) e = absurd cc

pub number-within : (ts : List Token) (at : ℕ) (n : ℤ) → number_at (drop at ts) ≡ Some n → at < length ts
number-within ts at n e = begins-within is_number ts at (number_begins (drop at ts) n e)

-- a test that looks at no bytes says of a token what it says of what the token is
pub passes-begins : (test : Kind → Bool) → ((k : Kind) → test (bare_kind (look_of k)) ≡ test k) → (ts : List Token) → passes test (look_at ts) ≡ begins (λ t. test t.kind) ts
passes-begins test same [] = refl
passes-begins test same (t ∷ ts) = same t.kind
