-- What a printf writes, piece by piece.
use Rattle.std.proofs.Common.{◌≡◌, ◌≢◌, ℕ, zero, suc, ◌+◌, ◌<◌, ◌≤◌, ℤ, pos, Bool, true, false, List, [], ◌∷◌, ◌++◌, length, drop, eqb, Option, Some, None, refl, ap, sym, ◌∙◌, arith}
use Rattle.std.proofs.lemmas.List.{append_assoc, append-nil, drop_all}
use Rattle.std.proofs.lemmas.Bool.{ne_eqb}
use Rattle.std.specs.Prelude.{slice_get, if◌then◌else◌}
use Rattle.std.specs.Fmt.{signed_decimal}
use Rattle.step_state.specs.Values.{last_value, other_values}
use Rattle.step_state.specs.Act.{directive, number_sign, percent, shown}

pub value_in : (vs : List ℤ) (n : ℕ) (v : ℤ) → slice_get vs n ≡ Some v → v ≡ last_value (drop n vs)
value_in [] n v h = cc
value_in (x ∷ vs) zero v h = cc
value_in (x ∷ vs) (suc n) v h = value_in vs n v h

pub value_out : (vs : List ℤ) (n : ℕ) → slice_get vs n ≡ None → pos 0 ≡ last_value (drop n vs)
value_out [] zero h = refl
value_out [] (suc n) h = refl
value_out (x ∷ vs) zero h = cc
value_out (x ∷ vs) (suc n) h = value_out vs n h

pub others_of : (vs : List ℤ) (n m : ℕ) → m ≡ n + 1 → drop m vs ≡ other_values (drop n vs)
others_of vs n m e = ap (λ k. drop k vs) (let s : m ≡ suc n = omega arith in s) ∙ next vs n
  where
    next : (vs : List ℤ) (n : ℕ) → drop (suc n) vs ≡ other_values (drop n vs)
    next [] zero = refl
    next [] (suc n) = refl
    next (x ∷ vs) zero = refl
    next (x ∷ vs) (suc n) = next vs n

-- a byte that stands for itself
pub shown_byte : (text : List ℕ) (b : ℕ) (vs : List ℤ) → eqb b percent ≡ false → shown (b ∷ text) vs ≡ b ∷ shown text vs
shown_byte [] b vs h = refl
shown_byte (d ∷ rest) b vs h = ap (λ (t : Bool). if t then directive (eqb d number_sign) d vs (shown rest) else b ∷ shown (d ∷ rest) vs) h

pub shown_last : (b : ℕ) (vs : List ℤ) → shown (b ∷ []) vs ≡ b ∷ shown [] vs
shown_last b vs = refl

-- a directive
pub shown_directive : (rest : List ℕ) (b d : ℕ) (vs : List ℤ) → eqb b percent ≡ true → shown (b ∷ d ∷ rest) vs ≡ directive (eqb d number_sign) d vs (shown rest)
shown_directive rest b d vs h = ap (λ (t : Bool). if t then directive (eqb d number_sign) d vs (shown rest) else b ∷ shown (d ∷ rest) vs) h

-- what is written, and what is left, are the same together
pub number_written : (old new rest : List ℕ) (values : List ℤ) (letter used : ℕ) (v : ℤ) → letter ≡ 100 → v ≡ last_value (drop used values) → new ≡ old ++ signed_decimal v → new ++ shown rest (drop (used + 1) values) ≡ old ++ directive (eqb letter number_sign) letter (drop used values) (shown rest)
number_written old new rest values letter used v l e n =
    ap (λ x. x ++ shown rest (drop (used + 1) values)) n ∙ append_assoc old (signed_decimal v) (shown rest (drop (used + 1) values)) ∙ ap (λ w. old ++ (signed_decimal w ++ shown rest (drop (used + 1) values))) e ∙ ap (λ ys. old ++ (signed_decimal (last_value (drop used values)) ++ shown rest ys)) (others_of values used (used + 1) refl) ∙ sym (ap (λ k. old ++ directive (eqb k number_sign) k (drop used values) (shown rest)) l)

pub byte_written : (old new front rest : List ℕ) (vs : List ℤ) (b : ℕ) → front ≡ b ∷ rest → shown (b ∷ rest) vs ≡ b ∷ shown rest vs → new ≡ old ++ b ∷ [] → new ++ shown rest vs ≡ old ++ shown front vs
byte_written old new front rest vs b f e n =
    ap (λ x. x ++ shown rest vs) n ∙ append_assoc old (b ∷ []) (shown rest vs) ∙ ap (λ x. old ++ x) (sym e) ∙ ap (λ x. old ++ shown x vs) (sym f)

pub directive_written : (old new front rest : List ℕ) (vs left : List ℤ) (b d : ℕ) → front ≡ b ∷ d ∷ rest → b ≡ 37 → new ++ shown rest left ≡ old ++ directive (eqb d number_sign) d vs (shown rest) → new ++ shown rest left ≡ old ++ shown front vs
directive_written old new front rest vs left b d f p w =
    w ∙ ap (λ x. old ++ x) (sym (shown_directive rest b d vs (ap (λ k. eqb k percent) p))) ∙ ap (λ x. old ++ shown x vs) (sym f)

pub last_byte : (text : List ℕ) (at b : ℕ) (vs : List ℤ) → length text ≤ at + 1 → shown (b ∷ drop (at + 1) text) vs ≡ b ∷ shown (drop (at + 1) text) vs
last_byte text at b vs h =
    let e : drop (at + 1) text ≡ [] = drop_all (at + 1) text h in
    ap (λ x. shown (b ∷ x) vs) e ∙ sym (ap (λ x. b ∷ shown x vs) e)

pub not_percent : (b : ℕ) → b ≢ 37 → eqb b percent ≡ false
not_percent b h = ne_eqb b 37 h

pub written_all : (bytes text whole : List ℕ) (left : List ℤ) (at : ℕ) → length text ≤ at → bytes ++ shown (drop at text) left ≡ whole → bytes ≡ whole
written_all bytes text whole left at h e =
    sym (append-nil bytes) ∙ ap (λ l. bytes ++ shown l left) (sym (drop_all at text h)) ∙ e
