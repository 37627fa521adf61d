-- The readers of one token.
use Rattle.std.proofs.Common.{◌≡◌, ℕ, eqb, ◌≤◌, pos, Bool, true, false, [], ◌∷◌, Some, None, refl, sym, ap, ◌∙◌, cond}
use Rattle.std.proofs.lemmas.Bool.{eqb-true, eq-eqb}
use Rattle.cfix_base.specs.declared.Spot.{Spot}
use Rattle.c_grammar.specs.declared.word.Word.{Word}
use Rattle.c_grammar.specs.declared.word.Word.TheVariants as w
use Rattle.c_grammar.specs.declared.sign.Sign.{Sign}
use Rattle.c_grammar.specs.declared.sign.Sign.TheVariants as s
use Rattle.c_reading.specs.Reader.{Lang, one_of}
use Rattle.c_grammar.specs.Token.{Kind, IsName, IsNumber, IsQuoted, IsWord, IsSign, Token, Ident, Numeral, Text, ident, numeral, quoted, word, sign}
use Rattle.c_reading.specs.Read.{word_code, sign_code, is_word_kind, is_sign_kind, is_word, is_sign, at_word, at_sign, ident_in, numeral_in, text_in, ident_of, numeral_of, text_of, read_word, read_text}
use Rattle.c_reading.proofs.Reader.{IsReader, one_reader, IsToken}

word_at : ℕ → Word
word_at n = cond (eqb n 0) w.Break (cond (eqb n 1) w.Continue (cond (eqb n 2) w.Else (cond (eqb n 3) w.For (cond (eqb n 4) w.If (cond (eqb n 5) w.Int (cond (eqb n 6) w.Long (cond (eqb n 7) w.Return (cond (eqb n 8) w.Static (cond (eqb n 9) w.Void (cond (eqb n 10) w.Volatile (cond (eqb n 11) w.While (cond (eqb n 12) w.Null (cond (eqb n 13) w.Printf (cond (eqb n 14) w.Scanf (cond (eqb n 15) w.Thread (cond (eqb n 16) w.Mutex (cond (eqb n 17) w.Create (cond (eqb n 18) w.Join (cond (eqb n 19) w.Lock (cond (eqb n 20) w.Unlock (cond (eqb n 21) w.MutexInitializer (cond (eqb n 22) w.Cond (cond (eqb n 23) w.CondWait (cond (eqb n 24) w.Signal (cond (eqb n 25) w.Broadcast (cond (eqb n 26) w.CondInitializer (cond (eqb n 27) w.Enter (cond (eqb n 28) w.Leave (cond (eqb n 29) w.Wait (cond (eqb n 30) w.Done (cond (eqb n 31) w.First (cond (eqb n 32) w.Add (w.Value)))))))))))))))))))))))))))))))))

word_back : (x : Word) → word_at (word_code x) ≡ x
unfolding word_at
word_back w.Break = refl
word_back w.Continue = refl
word_back w.Else = refl
word_back w.For = refl
word_back w.If = refl
word_back w.Int = refl
word_back w.Long = refl
word_back w.Return = refl
word_back w.Static = refl
word_back w.Void = refl
word_back w.Volatile = refl
word_back w.While = refl
word_back w.Null = refl
word_back w.Printf = refl
word_back w.Scanf = refl
word_back w.Thread = refl
word_back w.Mutex = refl
word_back w.Create = refl
word_back w.Join = refl
word_back w.Lock = refl
word_back w.Unlock = refl
word_back w.MutexInitializer = refl
word_back w.Cond = refl
word_back w.CondWait = refl
word_back w.Signal = refl
word_back w.Broadcast = refl
word_back w.CondInitializer = refl
word_back w.Enter = refl
word_back w.Leave = refl
word_back w.Wait = refl
word_back w.Done = refl
word_back w.First = refl
word_back w.Add = refl
word_back w.Value = refl

sign_at : ℕ → Sign
sign_at n = cond (eqb n 0) s.OpenParen (cond (eqb n 1) s.CloseParen (cond (eqb n 2) s.OpenBrace (cond (eqb n 3) s.CloseBrace (cond (eqb n 4) s.OpenBracket (cond (eqb n 5) s.CloseBracket (cond (eqb n 6) s.Semicolon (cond (eqb n 7) s.Comma (cond (eqb n 8) s.Assign (cond (eqb n 9) s.Plus (cond (eqb n 10) s.Minus (cond (eqb n 11) s.Star (cond (eqb n 12) s.Slash (cond (eqb n 13) s.Percent (cond (eqb n 14) s.Less (cond (eqb n 15) s.Greater (cond (eqb n 16) s.LessEqual (cond (eqb n 17) s.GreaterEqual (cond (eqb n 18) s.Equal (cond (eqb n 19) s.NotEqual (cond (eqb n 20) s.Not (cond (eqb n 21) s.AndAnd (cond (eqb n 22) s.OrOr (cond (eqb n 23) s.Ampersand (cond (eqb n 24) s.PlusPlus (cond (eqb n 25) s.MinusMinus (cond (eqb n 26) s.PlusAssign (cond (eqb n 27) s.MinusAssign (cond (eqb n 28) s.StarAssign (cond (eqb n 29) s.SlashAssign (cond (eqb n 30) s.PercentAssign (cond (eqb n 31) s.Hash (s.Dot))))))))))))))))))))))))))))))))

sign_back : (x : Sign) → sign_at (sign_code x) ≡ x
unfolding sign_at
sign_back s.OpenParen = refl
sign_back s.CloseParen = refl
sign_back s.OpenBrace = refl
sign_back s.CloseBrace = refl
sign_back s.OpenBracket = refl
sign_back s.CloseBracket = refl
sign_back s.Semicolon = refl
sign_back s.Comma = refl
sign_back s.Assign = refl
sign_back s.Plus = refl
sign_back s.Minus = refl
sign_back s.Star = refl
sign_back s.Slash = refl
sign_back s.Percent = refl
sign_back s.Less = refl
sign_back s.Greater = refl
sign_back s.LessEqual = refl
sign_back s.GreaterEqual = refl
sign_back s.Equal = refl
sign_back s.NotEqual = refl
sign_back s.Not = refl
sign_back s.AndAnd = refl
sign_back s.OrOr = refl
sign_back s.Ampersand = refl
sign_back s.PlusPlus = refl
sign_back s.MinusMinus = refl
sign_back s.PlusAssign = refl
sign_back s.MinusAssign = refl
sign_back s.StarAssign = refl
sign_back s.SlashAssign = refl
sign_back s.PercentAssign = refl
sign_back s.Hash = refl
sign_back s.Dot = refl

word_same : (x y : Word) → word_code x ≡ word_code y → x ≡ y
word_same x y e = sym (word_back x) ∙ ap word_at e ∙ word_back y

sign_same : (x y : Sign) → sign_code x ≡ sign_code y → x ≡ y
sign_same x y e = sym (sign_back x) ∙ ap sign_at e ∙ sign_back y

pub only_word : (x : Word) (k : Kind) → is_word_kind x k ≡ true → k ≡ IsWord x
only_word x (IsWord y) e = ap IsWord (sym (word_same x y (eqb-true (word_code x) (word_code y) e)))
only_word x _ e = absurd cc

pub only_sign : (x : Sign) (k : Kind) → is_sign_kind x k ≡ true → k ≡ IsSign x
only_sign x (IsSign y) e = ap IsSign (sym (sign_same x y (eqb-true (sign_code x) (sign_code y) e)))
only_sign x _ e = absurd cc

pub only_word_token : (x : Word) (t : Token) → is_word x t ≡ true → t ≡ word x t.spot
only_word_token x t e = ap (λ (k : Kind). let y : Token = record { kind = k; spot = t.spot } in y) (only_word x t.kind e)

pub only_sign_token : (x : Sign) (t : Token) → is_sign x t ≡ true → t ≡ sign x t.spot
only_sign_token x t e = ap (λ (k : Kind). let y : Token = record { kind = k; spot = t.spot } in y) (only_sign x t.kind e)

pub cond_some : {A : Type 0} (v : Bool) (a b : A) → cond v (Some a) None ≡ Some b → (v ≡ true) × (a ≡ b)
cond_some true a b e = (refl, cc)
cond_some false a b e = absurd cc

abbrev pub no_spot : Spot
no_spot = record { at = 0; line = 0 }

-- ---- their languages, where they stand in d constructs

abbrev pub word_lang : Word → ℕ → Lang Token Spot
word_lang x d = record { marks = λ at. (word x at, d) ∷ []; good = λ _. true; stops = λ _ _. true }

abbrev pub sign_lang : Sign → ℕ → Lang Token Spot
sign_lang x d = record { marks = λ at. (sign x at, d) ∷ []; good = λ _. true; stops = λ _ _. true }

abbrev pub ident_lang : ℕ → Lang Token Ident
ident_lang d = record { marks = λ x. (ident x, d) ∷ []; good = λ _. true; stops = λ _ _. true }

abbrev pub numeral_lang : ℕ → Lang Token Numeral
numeral_lang d = record { marks = λ x. (numeral x, d) ∷ []; good = λ _. true; stops = λ _ _. true }

abbrev pub text_lang : ℕ → Lang Token Text
text_lang d = record { marks = λ x. (quoted x, d) ∷ []; good = λ _. true; stops = λ _ _. true }

pub word_reader : (limit d : ℕ) → d ≤ limit → (x : Word) → IsReader limit (word_lang x d) (read_word x)
word_reader limit d h x = one_reader limit (word_lang x d) (at_word x) (word x) (record {
  back = λ at g. rw (eq-eqb (word_code x) (word_code x) refl) refl;
  only = λ t at e. let c = cond_some (is_word x t) t.spot at e in (only_word_token x t c.0 ∙ ap (word x) c.1, refl);
  depth = d;
  marks = λ at. refl;
  shallow = h;
  some = no_spot;
  some_good = refl;
})

pub sign_token : (limit d : ℕ) → d ≤ limit → (x : Sign) → IsToken limit (sign_lang x d) (at_sign x) (sign x)
sign_token limit d h x = record {
  back = λ at g. rw (eq-eqb (sign_code x) (sign_code x) refl) refl;
  only = λ t at e. let c = cond_some (is_sign x t) t.spot at e in (only_sign_token x t c.0 ∙ ap (sign x) c.1, refl);
  depth = d;
  marks = λ at. refl;
  shallow = h;
  some = no_spot;
  some_good = refl;
}

pub sign_reader : (limit d : ℕ) → d ≤ limit → (x : Sign) → IsReader limit (sign_lang x d) (one_of (at_sign x))
sign_reader limit d h x = one_reader limit (sign_lang x d) (at_sign x) (sign x) (sign_token limit d h x)

only_ident : (k : Kind) (at : Spot) (x : Ident) → ident_in k at ≡ Some x → let y : Token = record { kind = k; spot = at } in y ≡ ident x
only_ident (IsName text) at x e = let h : record { text = text; spot = at } ≡ x = cc in ap ident h
only_ident _ at x e = absurd cc

only_numeral : (k : Kind) (at : Spot) (x : Numeral) → numeral_in k at ≡ Some x → let y : Token = record { kind = k; spot = at } in y ≡ numeral x
only_numeral (IsNumber n) at x e = let h : record { value = n; spot = at } ≡ x = cc in ap numeral h
only_numeral _ at x e = absurd cc

only_text : (k : Kind) (at : Spot) (x : Text) → text_in k at ≡ Some x → let y : Token = record { kind = k; spot = at } in y ≡ quoted x
only_text (IsQuoted bytes) at x e = let h : record { bytes = bytes; spot = at } ≡ x = cc in ap quoted h
only_text _ at x e = absurd cc

pub ident_token : (limit d : ℕ) → d ≤ limit → IsToken limit (ident_lang d) ident_of ident
ident_token limit d h = record {
  back = λ x g. refl;
  only = λ t x e. (only_ident t.kind t.spot x e, refl);
  depth = d;
  marks = λ x. refl;
  shallow = h;
  some = record { text = []; spot = no_spot };
  some_good = refl;
}

pub ident_reader : (limit d : ℕ) → d ≤ limit → IsReader limit (ident_lang d) (one_of ident_of)
ident_reader limit d h = one_reader limit (ident_lang d) ident_of ident (ident_token limit d h)

pub numeral_token : (limit d : ℕ) → d ≤ limit → IsToken limit (numeral_lang d) numeral_of numeral
numeral_token limit d h = record {
  back = λ x g. refl;
  only = λ t x e. (only_numeral t.kind t.spot x e, refl);
  depth = d;
  marks = λ x. refl;
  shallow = h;
  some = record { value = pos 0; spot = no_spot };
  some_good = refl;
}

pub numeral_reader : (limit d : ℕ) → d ≤ limit → IsReader limit (numeral_lang d) (one_of numeral_of)
numeral_reader limit d h = one_reader limit (numeral_lang d) numeral_of numeral (numeral_token limit d h)

pub text_reader : (limit d : ℕ) → d ≤ limit → IsReader limit (text_lang d) read_text
text_reader limit d h = one_reader limit (text_lang d) text_of quoted (record {
  back = λ x g. refl;
  only = λ t x e. (only_text t.kind t.spot x e, refl);
  depth = d;
  marks = λ x. refl;
  shallow = h;
  some = record { bytes = []; spot = no_spot };
  some_good = refl;
})
