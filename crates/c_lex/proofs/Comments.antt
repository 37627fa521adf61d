-- The first `*/` of a text.
use Rattle.std.proofs.Common.{◌≡◌, ℕ, zero, suc, ◌+◌, ◌≤◌, ◌<◌, inl, inr, Bool, true, false, ◌&&◌, eqb, List, [], ◌∷◌, ◌++◌, length, length-append, take, refl, sym, ap, subst, ◌∙◌, Some, None, Option, arith}
use Rattle.std.proofs.lemmas.List.{length-take-le}
use Rattle.std.proofs.lemmas.Bool.{and_parts, and_cases, and_left, and_right, or_parts, eqb-true, true≢false}
use Rattle.std.specs.Option.{option_map}
use Rattle.c_lex.specs.Bytes.{begins_with, holds_close}
use Rattle.c_lex.specs.Pieces.{spelling}
use Rattle.c_lex.specs.Meaning.{Between, verdict}
use Rattle.c_lex.specs.Reading.{close_at, comment_at}

one_more : (passed : ℕ) (found : Option ℕ) → option_map (λ n. passed + 1 + n) found ≡ option_map (λ n. passed + n) (option_map (λ n. n + 1) found)
one_more passed None = refl
one_more passed (Some n) = ap Some (omega arith)

pub close_at-no : (byte : ℕ) (rest : List ℕ) → (eqb byte 42 && begins_with 47 rest) ≡ false → close_at (byte ∷ rest) ≡ option_map (λ n. n + 1) (close_at rest)
close_at-no byte rest e = rw e refl

pub close_at-yes : (byte : ℕ) (rest : List ℕ) → (eqb byte 42 && begins_with 47 rest) ≡ true → close_at (byte ∷ rest) ≡ Some 0
close_at-yes byte rest e = rw e refl

pub passes : (passed byte : ℕ) (rest : List ℕ) → (eqb byte 42 && begins_with 47 rest) ≡ false
    → option_map (λ n. passed + 1 + n) (close_at rest) ≡ option_map (λ n. passed + n) (close_at (byte ∷ rest))
passes passed byte rest e = one_more passed (close_at rest) ∙ ap (option_map (λ n. passed + n)) (sym (close_at-no byte rest e))

-- where `*/` is found, there is room for it
has_room : (byte : ℕ) (rest : List ℕ) → (eqb byte 42 && begins_with 47 rest) ≡ true → 1 ≤ length rest
has_room byte [] e = elim (eqb byte 42) as (λ b. (b && false) ≡ true → 1 ≤ 0) [ true ↦ λ h. cc | false ↦ λ h. cc ] e
has_room byte (next ∷ rest) e = omega arith

step_room : (byte : ℕ) (rest : List ℕ) (here : Bool) → (eqb byte 42 && begins_with 47 rest) ≡ here → (n : ℕ)
    → ((m : ℕ) → close_at rest ≡ Some m → m + 2 ≤ length rest) → close_at (byte ∷ rest) ≡ Some n → n + 2 ≤ length (byte ∷ rest)
step_room byte rest true e n more h =
    let zero_is : Some 0 ≡ Some n = sym (close_at-yes byte rest e) ∙ h in
    let n_is : 0 ≡ n = cc in
    omega (arith, has_room byte rest e)
step_room byte rest false e n more h =
    let h2 = sym (close_at-no byte rest e) ∙ h in
    found (close_at rest) refl h2
  where
    found : (o : Option ℕ) → close_at rest ≡ o → option_map (λ k. k + 1) o ≡ Some n → n + 2 ≤ length (byte ∷ rest)
    found None same g = cc
    found (Some m) same g = let m_is : m + 1 ≡ n = cc in omega (arith, more m same)

pub close_at-room : (text : List ℕ) (n : ℕ) → close_at text ≡ Some n → n + 2 ≤ length text
close_at-room [] n h = cc
close_at-room (byte ∷ rest) n h = step_room byte rest (eqb byte 42 && begins_with 47 rest) refl n (close_at-room rest) h

pub closed_tells : (body : List ℕ) (n : ℕ) → close_at body ≡ Some n
    → (verdict (comment_at body (close_at body)) ≡ Between) × (length (spelling (comment_at body (close_at body))) ≡ n + 4)
closed_tells body n e =
    let room = close_at-room body n e in
    let within : n ≤ length body = omega (arith, room) in
    let size : length (take n body ++ 42 ∷ 47 ∷ []) ≡ n + 2 = length-append (take n body) (42 ∷ 47 ∷ []) ∙ rw (length-take-le n body within) refl in
    rw e (refl, omega (arith, size))

abbrev pub closes : ℕ → List ℕ → Bool
closes byte rest = eqb byte 42 && begins_with 47 rest

begins_parts : (byte : ℕ) (rest : List ℕ) → begins_with byte rest ≡ true → (tail : List ℕ) × (rest ≡ byte ∷ tail)
begins_parts byte [] e = cc
begins_parts byte (first ∷ rest) e = (rest, ap (λ (b : ℕ). b ∷ rest) (eqb-true first byte e))

begins_take : (byte n : ℕ) (rest : List ℕ) → begins_with byte rest ≡ false → begins_with byte (take n rest) ≡ false
begins_take byte zero rest e = refl
begins_take byte (suc n) [] e = refl
begins_take byte (suc n) (first ∷ rest) e = e

closes_take : (byte n : ℕ) (rest : List ℕ) → closes byte rest ≡ false → closes byte (take n rest) ≡ false
closes_take byte n rest e = elim (and_cases (eqb byte 42) (begins_with 47 rest) e) [
  | inl a ↦ and_left (eqb byte 42) (begins_with 47 (take n rest)) a
  | inr b ↦ and_right (eqb byte 42) (begins_with 47 (take n rest)) (begins_take 47 n rest b)
]

-- where `*/` is found first
pub record ClosesAt (text : List ℕ) (n : ℕ) : Type 0 where
  pub tail : List ℕ
  pub parts : text ≡ take n text ++ 42 ∷ 47 ∷ tail
  pub none : holds_close (take n text) ≡ false

none_here : (byte m : ℕ) (rest : List ℕ) → closes byte rest ≡ false → holds_close (take m rest) ≡ false → holds_close (byte ∷ take m rest) ≡ false
none_here byte m rest e h = rw (closes_take byte m rest e, h) refl

closes_later : (byte m : ℕ) (rest : List ℕ) → closes byte rest ≡ false → ClosesAt rest m → ClosesAt (byte ∷ rest) (suc m)
closes_later byte m rest e c = record {
  tail = c.tail;
  parts = ap (λ (z : List ℕ). byte ∷ z) c.parts;
  none = none_here byte m rest e c.none;
}

closes_here : (byte : ℕ) (rest : List ℕ) → closes byte rest ≡ true → ClosesAt (byte ∷ rest) 0
closes_here byte rest e =
    let both = and_parts (eqb byte 42) (begins_with 47 rest) e in
    let slash = begins_parts 47 rest both.1 in
    record {
      tail = slash.0;
      parts = ap (λ (b : ℕ). b ∷ rest) (eqb-true byte 42 both.0) ∙ ap (λ (z : List ℕ). 42 ∷ z) slash.1;
      none = refl;
    }

closes_step : (byte : ℕ) (rest : List ℕ) (here : Bool) → closes byte rest ≡ here → (n : ℕ)
    → ((m : ℕ) → close_at rest ≡ Some m → ClosesAt rest m) → close_at (byte ∷ rest) ≡ Some n → ClosesAt (byte ∷ rest) n
closes_step byte rest true e n more h =
    let n_is : 0 ≡ n = (let both : Some 0 ≡ Some n = sym (close_at-yes byte rest e) ∙ h in cc) in
    subst (λ (k : ℕ). ClosesAt (byte ∷ rest) k) n_is (closes_here byte rest e)
closes_step byte rest false e n more h = found (close_at rest) refl (sym (close_at-no byte rest e) ∙ h)
  where
    found : (o : Option ℕ) → close_at rest ≡ o → option_map (λ k. k + 1) o ≡ Some n → ClosesAt (byte ∷ rest) n
    found None same g = cc
    found (Some m) same g =
        let m_is : m + 1 ≡ n = cc in
        let suc_is : suc m ≡ n = omega (arith, m_is) in
        subst (λ (k : ℕ). ClosesAt (byte ∷ rest) k) suc_is (closes_later byte m rest e (more m same))

pub closes_at : (text : List ℕ) (n : ℕ) → close_at text ≡ Some n → ClosesAt text n
closes_at [] n h = cc
closes_at (byte ∷ rest) n h = closes_step byte rest (closes byte rest) refl n (closes_at rest) h

option_none : (o : Option ℕ) → option_map (λ k. k + 1) o ≡ None → o ≡ None
option_none None e = refl
option_none (Some n) e = cc

no_both : (o : Option ℕ) → o ≡ Some 0 → o ≡ None → ⊥
no_both o a b = cc

unclosed_step : (byte : ℕ) (rest : List ℕ) (here : Bool) → closes byte rest ≡ here
    → (close_at rest ≡ None → holds_close rest ≡ false) → close_at (byte ∷ rest) ≡ None → holds_close (byte ∷ rest) ≡ false
unclosed_step byte rest true e more h = absurd (no_both (close_at (byte ∷ rest)) (close_at-yes byte rest e) h)
unclosed_step byte rest false e more h = rw (e, more (option_none (close_at rest) (sym (close_at-no byte rest e) ∙ h))) refl

pub unclosed : (text : List ℕ) → close_at text ≡ None → holds_close text ≡ false
unclosed [] h = refl
unclosed (byte ∷ rest) h = unclosed_step byte rest (closes byte rest) refl (unclosed rest) h

-- a body without `*/`, and `*/` behind it
closes_body : (byte : ℕ) (body after : List ℕ) → closes byte body ≡ false → closes byte (body ++ 42 ∷ 47 ∷ after) ≡ false
closes_body byte [] after e = and_right (eqb byte 42) false refl
closes_body byte (first ∷ body) after e = e

pub close_at-body : (body after : List ℕ) → holds_close body ≡ false → close_at (body ++ 42 ∷ 47 ∷ after) ≡ Some (length body)
close_at-body [] after h = refl
close_at-body (byte ∷ body) after h =
    let hs = or_parts (closes byte body) (holds_close body) h in
    close_at-no byte (body ++ 42 ∷ 47 ∷ after) (closes_body byte body after hs.0)
    ∙ ap (option_map (λ n. n + 1)) (close_at-body body after hs.1) ∙ ap Some (omega arith)

-- a body without `*/`, and anything behind it: `*/` is found no earlier than the last byte of the body
late_here : (byte : ℕ) (body after : List ℕ) → closes byte body ≡ false → closes byte (body ++ after) ≡ true → body ≡ []
late_here byte [] after e h = refl
late_here byte (first ∷ body) after e h = absurd (true≢false (sym h ∙ e))

late_step : (byte : ℕ) (body after : List ℕ) (here : Bool) → closes byte (body ++ after) ≡ here → (n : ℕ) → closes byte body ≡ false
    → ((m : ℕ) → close_at (body ++ after) ≡ Some m → length body < m + 2) → close_at (byte ∷ (body ++ after)) ≡ Some n → length (byte ∷ body) < n + 2
late_step byte body after true e n none more h =
    let empty : length body ≡ 0 = ap (λ (z : List ℕ). length z) (late_here byte body after none e) in
    omega (arith, empty)
late_step byte body after false e n none more h = found (close_at (body ++ after)) refl (sym (close_at-no byte (body ++ after) e) ∙ h)
  where
    found : (o : Option ℕ) → close_at (body ++ after) ≡ o → option_map (λ k. k + 1) o ≡ Some n → length (byte ∷ body) < n + 2
    found None same g = cc
    found (Some m) same g = let m_is : m + 1 ≡ n = cc in omega (arith, more m same)

pub close_at-late : (body after : List ℕ) (n : ℕ) → holds_close body ≡ false → close_at (body ++ after) ≡ Some n → length body < n + 2
close_at-late [] after n h e = omega arith
close_at-late (byte ∷ body) after n h e =
    let hs = or_parts (closes byte body) (holds_close body) h in
    late_step byte body after (closes byte (body ++ after)) refl n hs.0 (λ m g. close_at-late body after m hs.1 g) e
