-- The words of a text, and the answer that they fix.
use Rattle.std.proofs.Common.{◌≡◌, ℕ, suc, ◌+◌, ◌-◌, ◌<◌, ◌≤◌, ◌⊎◌, inl, inr, Bool, true, false, List, [], ◌∷◌, ◌++◌, length, take, drop, refl, sym, ap, subst, ◌∙◌, arith, ℤ, Result, Ok, Err, IfOk, IfErr, MatchResult, one-add, add-one, add-zero, nat_lt}
use Rattle.std.specs.List.{prefix_len, filter}
use Rattle.std.proofs.lemmas.Bool.Decides.{nat_tests}
use Rattle.std.proofs.lemmas.List.Sums.{prefix_len-le-length}
use Rattle.std.proofs.lemmas.List.{append_assoc, drop-drop, length-drop}
use Rattle.sched_text.specs.Inputs.{is_in_word, Word, with_byte, pieces, has_bytes, words_from, words, IsNumber, IsMalformedWord, AreNumbers, SpellsInput, IsFirstBadWord, ExplainsInputFault}
use Rattle.sched_text.specs.declared.input_reader.InputFault.{InputFault}
use Rattle.sched_text.specs.declared.input_reader.InputFault.TheVariants.{NoMemory, BadNumber}

abbrev pub word_at : ℕ → List ℕ → Word
word_at start bytes = record { start = start; bytes = bytes }

-- the first piece, and the words behind it
abbrev Splits : ℕ → List ℕ → Type 0
Splits start text = (more : List Word)
    × (pieces start text ≡ word_at start (take (prefix_len is_in_word text) text) ∷ more)
    × (filter has_bytes more ≡ words_from (start + prefix_len is_in_word text) (drop (prefix_len is_in_word text) text))

splits_case : (start byte : ℕ) (rest : List ℕ) (v : Bool) → is_in_word byte ≡ v → Splits (suc start) rest → Splits start (byte ∷ rest)
splits_case start byte rest false e r = (pieces (suc start) rest, rw e refl, rw e (rw (add-zero start, e) refl))
splits_case start byte rest true e r =
    let m = prefix_len is_in_word rest in
    let first : with_byte start byte (pieces (suc start) rest) ≡ word_at start (take (1 + m) (byte ∷ rest)) ∷ r.0 = rw (one-add m) (ap (with_byte start byte) r.1) in
    let behind : filter has_bytes r.0 ≡ words_from (start + (1 + m)) (drop (1 + m) (byte ∷ rest)) =
    let sum : start + suc m ≡ suc start + m = omega arith in
    rw (one-add m, sum) r.2 in
    (r.0, rw e first, rw e behind)

splits : (start : ℕ) (text : List ℕ) → Splits start text
splits start [] = ([], refl, refl)
splits start (byte ∷ rest) = splits_case start byte rest (is_in_word byte) refl (splits (suc start) rest)

positive : (n : ℕ) → nat_lt 0 (suc n) ≡ true
positive n = grind (arith, nat_tests)

first_word : (start byte : ℕ) (rest : List ℕ) (v : Bool) → is_in_word byte ≡ v → (let text : List ℕ = byte ∷ rest in 0 < prefix_len is_in_word text
    → words_from start text ≡ word_at start (take (prefix_len is_in_word text) text) ∷ words_from (start + prefix_len is_in_word text) (drop (prefix_len is_in_word text) text))
first_word start byte rest false e h = absurd (omega (arith, rw e at h))
first_word start byte rest true e h =
    let r = splits start (byte ∷ rest) in
    let m = prefix_len is_in_word rest in
    let kept : has_bytes (word_at start (take (prefix_len is_in_word (byte ∷ rest)) (byte ∷ rest))) ≡ true = rw (e, one-add m) (positive (length (take m rest))) in
    ap (filter has_bytes) r.1 ∙ rw kept (ap (λ (z : List Word). word_at start (take (prefix_len is_in_word (byte ∷ rest)) (byte ∷ rest)) ∷ z) r.2)

-- the word that stands first, and the words behind it
pub words_from-word : (start : ℕ) (text : List ℕ) → 0 < prefix_len is_in_word text
    → words_from start text ≡ word_at start (take (prefix_len is_in_word text) text) ∷ words_from (start + prefix_len is_in_word text) (drop (prefix_len is_in_word text) text)
words_from-word start [] h = absurd (omega arith)
words_from-word start (byte ∷ rest) h = first_word start byte rest (is_in_word byte) refl h

-- a blank is passed over
pub words_from-blank : (start byte : ℕ) (rest : List ℕ) → is_in_word byte ≡ false → words_from start (byte ∷ rest) ≡ words_from (suc start) rest
words_from-blank start byte rest e = rw e refl

-- ---- what the words are fixes the answer

same_value : (word : List ℕ) (v w : ℤ) → IsNumber word v → IsNumber word w → v ≡ w
same_value word v w hv hw = hv.writes ∙ sym hw.writes

-- the same words write the same values
same_values : (ws : List Word) (vs us : List ℤ) → AreNumbers ws vs → AreNumbers ws us → vs ≡ us
same_values [] [] [] hv hu = refl
same_values [] [] (u ∷ us) hv hu = absurd hu
same_values [] (v ∷ vs) us hv hu = absurd hv
same_values (w ∷ ws) [] us hv hu = absurd hv
same_values (w ∷ ws) (v ∷ vs) [] hv hu = absurd hu
same_values (w ∷ ws) (v ∷ vs) (u ∷ us) hv hu =
    let first : v ≡ u = same_value w.bytes v u hv.0 hu.0 in
    let more = same_values ws vs us hv.1 hu.1 in
    cc

-- words that write values hold no malformed one
not_bad_among : (good : List Word) (bad : Word) (more : List Word) (vs : List ℤ) → AreNumbers (good ++ bad ∷ more) vs → IsMalformedWord bad.bytes → ⊥
not_bad_among [] bad more [] h malformed = h
not_bad_among [] bad more (v ∷ vs) h malformed = malformed v h.0
not_bad_among (w ∷ good) bad more [] h malformed = h
not_bad_among (w ∷ good) bad more (v ∷ vs) h malformed = not_bad_among good bad more vs h.1 malformed

not_bad : (text : List ℕ) (vs : List ℤ) (start : ℕ) → SpellsInput text vs → IsFirstBadWord text start → ⊥
not_bad text vs start spells bad = not_bad_among bad.good bad.bad bad.more vs (subst (λ (z : List Word). AreNumbers z vs) bad.words spells) bad.malformed

-- the first malformed word is one
same_bad : (g h : List Word) (b c : Word) (m n : List Word) (vs us : List ℤ) → AreNumbers g vs → AreNumbers h us
    → IsMalformedWord b.bytes → IsMalformedWord c.bytes → g ++ b ∷ m ≡ h ++ c ∷ n → b ≡ c
same_bad [] [] b c m n vs us hg hh mb mc is = cc
same_bad [] (w ∷ h) b c m n vs [] hg hh mb mc is = absurd hh
same_bad [] (w ∷ h) b c m n vs (u ∷ us) hg hh mb mc is =
    let head : w ≡ b = cc in
    absurd (mb u (subst (λ (z : Word). IsNumber z.bytes u) head hh.0))
same_bad (w ∷ g) [] b c m n [] us hg hh mb mc is = absurd hg
same_bad (w ∷ g) [] b c m n (v ∷ vs) us hg hh mb mc is =
    let head : w ≡ c = cc in
    absurd (mc v (subst (λ (z : Word). IsNumber z.bytes v) head hg.0))
same_bad (w ∷ g) (x ∷ h) b c m n [] us hg hh mb mc is = absurd hg
same_bad (w ∷ g) (x ∷ h) b c m n (v ∷ vs) [] hg hh mb mc is = absurd hh
same_bad (w ∷ g) (x ∷ h) b c m n (v ∷ vs) (u ∷ us) hg hh mb mc is =
    let tails : g ++ b ∷ m ≡ h ++ c ∷ n = cc in
    same_bad g h b c m n vs us hg.1 hh.1 mb mc tails

same_start : (text : List ℕ) (m n : ℕ) → IsFirstBadWord text m → IsFirstBadWord text n → m ≡ n
same_start text m n a b =
    a.begins ∙ ap (λ (z : Word). z.start) (same_bad a.good b.good a.bad b.bad a.more b.more a.values b.values a.numbers b.numbers a.malformed b.malformed (sym a.words ∙ b.words))
    ∙ sym b.begins

-- an answer that is explained is the one that the text fixes
module _ {V : Type 0} (items : V → List ℤ) (text : List ℕ) where
  pub reads : (r : Result V InputFault) → IfOk r (λ v. SpellsInput text (items v)) → IfErr r (ExplainsInputFault text)
      → (values : List ℤ) → SpellsInput text values → MatchResult r (λ v. items v ≡ values) (λ fault. fault ≡ NoMemory)
  reads (Ok v) ok refused values spells = same_values (words text) (items v) values ok spells
  reads (Err NoMemory) ok refused values spells = refl
  reads (Err (BadNumber start)) ok refused values spells = absurd (not_bad text values start spells refused)

  pub bad_number : (r : Result V InputFault) → IfOk r (λ v. SpellsInput text (items v)) → IfErr r (ExplainsInputFault text)
      → (start : ℕ) → IsFirstBadWord text start → (r ≡ Err (BadNumber start)) ⊎ (r ≡ Err NoMemory)
  bad_number (Ok v) ok refused start bad = absurd (not_bad text (items v) start ok bad)
  bad_number (Err NoMemory) ok refused start bad = inr refl
  bad_number (Err (BadNumber other)) ok refused start bad = inl (ap (λ (n : ℕ). Err (BadNumber n)) (same_start text other start refused bad))

-- ---- the turns of the reader

blank_first : (byte : ℕ) (rest : List ℕ) (v : Bool) → is_in_word byte ≡ v → prefix_len is_in_word (byte ∷ rest) ≡ 0 → is_in_word byte ≡ false
blank_first byte rest false e z = e
blank_first byte rest true e z = let more : 1 + prefix_len is_in_word rest ≡ 0 = rw e at z in absurd (omega (arith, more))

skip_blank : (start : ℕ) (rest : List ℕ) → 0 < length rest → prefix_len is_in_word rest ≡ 0 → words_from start rest ≡ words_from (suc start) (drop 1 rest)
skip_blank start [] h z = absurd (omega arith)
skip_blank start (byte ∷ rest) h z = words_from-blank start byte rest (blank_first byte rest (is_in_word byte) refl z)

module _ (text : List ℕ) (at : ℕ) (good : List Word) (read : words text ≡ good ++ words_from at (drop at text)) (rest : List ℕ) (rest_is : rest ≡ drop at text) (len : ℕ) (is : len ≡ prefix_len is_in_word rest) where
  read_rest : words text ≡ good ++ words_from at rest
  read_rest = read ∙ ap (λ (z : List ℕ). good ++ words_from at z) (sym rest_is)

  behind : (n : ℕ) → drop n rest ≡ drop (at + n) text
  behind n = ap (λ (z : List ℕ). drop n z) rest_is ∙ drop-drop n at text

  pub rest_len : length rest ≡ length text - at
  rest_len = ap length rest_is ∙ length-drop at text

  pub word_within : at ≤ length text → at + len ≤ length text
  word_within low = omega (arith, is, prefix_len-le-length is_in_word rest, rest_len)

  pub pass_blank : at < length text → len ≡ 0 → words text ≡ good ++ words_from (at + 1) (drop (at + 1) text)
  pass_blank within none =
      let some : 0 < length rest = omega (arith, rest_len) in
      let next : words_from at rest ≡ words_from (suc at) (drop (at + 1) text) = skip_blank at rest some (sym is ∙ none) ∙ ap (λ (z : List ℕ). words_from (suc at) z) (behind 1) in
      read_rest ∙ ap (λ (z : List Word). good ++ z) (next ∙ ap (λ (n : ℕ). words_from n (drop (at + 1) text)) (sym (add-one at)))

  pub split_word : (len ≡ 0 → ⊥) → words text ≡ good ++ word_at at (take len rest) ∷ words_from (at + len) (drop (at + len) text)
  split_word some =
      let positive : 0 < prefix_len is_in_word rest = omega (arith, is) in
      let parts : ℕ → List Word = λ n. word_at at (take n rest) ∷ words_from (at + n) (drop n rest) in
      read_rest ∙ ap (λ (z : List Word). good ++ z) (words_from-word at rest positive ∙ ap parts (sym is)
      ∙ ap (λ (z : List ℕ). word_at at (take len rest) ∷ words_from (at + len) z) (behind len))

  pub take_word : (len ≡ 0 → ⊥) → words text ≡ (good ++ word_at at (take len rest) ∷ []) ++ words_from (at + len) (drop (at + len) text)
  take_word some = split_word some ∙ sym (append_assoc good (word_at at (take len rest) ∷ []) (words_from (at + len) (drop (at + len) text)))

  pub first_bad : (len ≡ 0 → ⊥) → (values : List ℤ) → AreNumbers good values → IsMalformedWord (take len rest) → IsFirstBadWord text at
  first_bad some values numbers malformed = record {
    good = good;
    values = values;
    bad = word_at at (take len rest);
    more = words_from (at + len) (drop (at + len) text);
    words = split_word some;
    numbers = numbers;
    malformed = malformed;
    begins = refl;
  }

pub numbers-push : (good : List Word) (word : Word) (vs : List ℤ) (v : ℤ) → AreNumbers good vs → IsNumber word.bytes v → AreNumbers (good ++ word ∷ []) (vs ++ v ∷ [])
numbers-push [] word [] v h n = (n, tt)
numbers-push [] word (u ∷ vs) v h n = absurd h
numbers-push (w ∷ good) word [] v h n = absurd h
numbers-push (w ∷ good) word (u ∷ vs) v h n = (h.0, numbers-push good word vs v h.1 n)
