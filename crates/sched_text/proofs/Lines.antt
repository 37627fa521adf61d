-- The first line of a text, and what follows it.
use Rattle.std.proofs.Common.{◌≡◌, ℕ, suc, ◌+◌, Bool, true, false, List, [], ◌∷◌, ◌++◌, take, drop, refl, ap, one-add, add-one}
use Rattle.std.specs.List.{prefix_len, All}
use Rattle.std.proofs.lemmas.List.Elements.{All-head, All-tail}
use Rattle.sched_text.specs.Lines.{lines, with_byte, is_in_line}

abbrev Splits : List ℕ → Type 0
Splits text = lines text ≡ take (prefix_len is_in_line text) text ∷ lines (drop (prefix_len is_in_line text + 1) text)

grows : (byte : ℕ) (rest : List ℕ) (m : ℕ) → lines rest ≡ take m rest ∷ lines (drop (m + 1) rest) →
    with_byte byte (lines rest) ≡ take (1 + m) (byte ∷ rest) ∷ lines (drop (1 + m + 1) (byte ∷ rest))
grows byte rest m e = rw (one-add m, add-one (suc m)) (ap (with_byte byte) (rw add-one at e))

lines-split-case : (byte : ℕ) (rest : List ℕ) (v : Bool) → is_in_line byte ≡ v → Splits (byte ∷ rest)
lines-split-case byte rest false e = rw e refl
lines-split-case byte [] true e = rw e refl
lines-split-case byte (next ∷ rest) true e = rw e (grows byte (next ∷ rest) (prefix_len is_in_line (next ∷ rest)) (lines-split-case next rest (is_in_line next) refl))

-- the first line of a text that is not empty
pub lines-split : (byte : ℕ) (rest : List ℕ) → Splits (byte ∷ rest)
lines-split byte rest = lines-split-case byte rest (is_in_line byte) refl

abbrev pub IsInLine : ℕ → Type 0
IsInLine byte = is_in_line byte ≡ true

-- a line and its line feed stand before other lines
pub lines-line : (line rest : List ℕ) → All IsInLine line → lines (line ++ 10 ∷ rest) ≡ line ∷ lines rest
lines-line [] rest h = refl
lines-line (byte ∷ line) rest h = rw (All-head IsInLine byte line h) (ap (with_byte byte) (lines-line line rest (All-tail IsInLine byte line h)))
