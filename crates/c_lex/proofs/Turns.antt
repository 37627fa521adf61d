-- The turns of the loop over the pieces.
use Rattle.std.proofs.Common.{◌≡◌, ℕ, suc, ◌+◌, ◌-◌, ◌<◌, ◌≤◌, inl, inr, ◌⊎◌, List, [], ◌∷◌, ◌++◌, length, length-append, take, drop, refl, sym, ap, ◌∙◌, subst, append_assoc, cond, arith}
use Rattle.std.proofs.Math.Seq.{take-append_seam, drop-append_seam}
use Rattle.std.proofs.lemmas.List.{append-nil, take-append-drop}
use Rattle.std.proofs.lemmas.List.Sums.{count_by-le-length, sum_by-append}
use Rattle.std.specs.List.{count_by}
use Rattle.cfix_base.specs.declared.spot.Spot.{Spot}
use Rattle.c_lex.specs.declared.token.Kind.{Kind}
use Rattle.c_lex.specs.declared.token.Token.{Token}
use Rattle.c_lex.specs.declared.fault.LexFault.{LexFault}
use Rattle.c_lex.specs.declared.fault.LexFault.TheVariants as f
use Rattle.c_lex.specs.declared.fault.Refusal.{Refusal}
use Rattle.c_lex.specs.Bytes.{is_line_feed}
use Rattle.c_lex.specs.Pieces.{Piece, spelling}
use Rattle.c_lex.specs.Meaning.{Verdict, Between, Counts, Refuses, verdict}
use Rattle.c_lex.specs.Faults.{spot_behind, refusal_at}
use Rattle.c_lex.specs.Lexed.{Lexed}
use Rattle.c_lex.specs.Reading.{piece_at, pieces_at, Outcome, Whole, Faulty, with_front, outcome_by, outcome}
use Rattle.c_lex.proofs.Fronts.{piece_fronts}
use Rattle.c_lex.proofs.Divisions.{pieces_at-drop}

-- what was read of a text: the bytes passed, the place behind them, and that the tokens so far and
-- the rest come to what the text comes to
pub record Turn (text : List ℕ) (lexed : Lexed) (rest : List ℕ) (spot : Spot) : Type 0 where
  pub before : List ℕ
  pub parts : before ++ rest ≡ text
  pub at : spot.at ≡ length before
  pub line : spot.line ≡ 1 + count_by is_line_feed before
  pub few : length lexed.tokens ≤ 1000000
  pub come : with_front lexed.tokens lexed.lengths (outcome (1000000 - length lexed.tokens) before (pieces_at 0 rest)) ≡ outcome 1000000 [] (pieces_at 0 text)

-- the first piece of a text, of so many bytes
pub record FirstPiece (piece : Piece) (bytes : ℕ) (rest : List ℕ) : Type 0 where
  pub front : take bytes rest ≡ spelling piece
  pub within : bytes ≤ length rest
  pub some : 1 ≤ bytes
  pub unroll : (left : ℕ) (before : List ℕ) → outcome left before (pieces_at 0 rest)
      ≡ outcome_by (verdict piece) (spot_behind before) bytes left (λ more. outcome more (before ++ take bytes rest) (pieces_at 0 (drop bytes rest)))

unrolled : (first : ℕ) (after : List ℕ) (left : ℕ) (before : List ℕ) → outcome left before (pieces_at 0 (first ∷ after))
    ≡ outcome_by (verdict (piece_at first after)) (spot_behind before) (length (spelling (piece_at first after))) left
    (λ more. outcome more (before ++ spelling (piece_at first after)) (pieces_at (length (spelling (piece_at first after)) - 1) after))
unfolding outcome pieces_at
unrolled first after left before = refl

first_of_cons : (first : ℕ) (after : List ℕ) → FirstPiece (piece_at first after) (length (spelling (piece_at first after))) (first ∷ after)
first_of_cons first after =
    let piece = piece_at first after in
    let n = length (spelling piece) in
    let fronts = piece_fronts first after in
    let text : first ∷ after ≡ spelling piece ++ drop (n - 1) after = fronts.0.front in
    let taken : take n (first ∷ after) ≡ spelling piece = ap (take n) text ∙ take-append_seam (spelling piece) (drop (n - 1) after) in
    let dropped : drop n (first ∷ after) ≡ drop (n - 1) after = ap (drop n) text ∙ drop-append_seam (spelling piece) (drop (n - 1) after) in
    let size : length (first ∷ after) ≡ n + length (drop (n - 1) after) = ap (λ (z : List ℕ). length z) text ∙ length-append (spelling piece) (drop (n - 1) after) in
    let some_is : n ≡ length (first ∷ fronts.1.0) = ap (λ (z : List ℕ). length z) fronts.1.1 in
    record {
      front = taken;
      within = omega (arith, size);
      some = omega (arith, some_is);
      unroll = λ left before.
          let v = outcome_by (verdict piece) (spot_behind before) n left in
          unrolled first after left before
          ∙ ap (λ (z : List ℕ). v (λ more. outcome more (before ++ z) (pieces_at (n - 1) after))) (sym taken)
          ∙ ap (λ (ps : List Piece). v (λ more. outcome more (before ++ take n (first ∷ after)) ps))
          (pieces_at-drop (n - 1) after ∙ ap (pieces_at 0) (sym dropped));
    }

pub first_piece : (rest : List ℕ) (first : ℕ) (after : List ℕ) (bytes : ℕ) → rest ≡ first ∷ after → length (spelling (piece_at first after)) ≡ bytes → FirstPiece (piece_at first after) bytes rest
first_piece rest first after bytes e n =
    subst (λ (z : List ℕ). FirstPiece (piece_at first after) bytes z) (sym e)
    (subst (λ (k : ℕ). FirstPiece (piece_at first after) k (first ∷ after)) n (first_of_cons first after))

same_spot : (s t : Spot) → s.at ≡ t.at → s.line ≡ t.line → s ≡ t
same_spot s t a b =
    let with_at : ℕ → Spot = λ x. record { at = x; line = s.line } in
    let with_line : ℕ → Spot = λ y. record { at = t.at; line = y } in
    ap with_at a ∙ ap with_line b

pub same_lexed : (x y : Lexed) → x.tokens ≡ y.tokens → x.lengths ≡ y.lengths → x.end ≡ y.end → x ≡ y
same_lexed x y a b c =
    let with_tokens : List Token → Lexed = λ z. record { tokens = z; lengths = x.lengths; end = x.end } in
    let with_lengths : List ℕ → Lexed = λ z. record { tokens = y.tokens; lengths = z; end = x.end } in
    let with_end : Spot → Lexed = λ z. record { tokens = y.tokens; lengths = y.lengths; end = z } in
    ap with_tokens a ∙ ap with_lengths b ∙ ap with_end c

spot_is : (text : List ℕ) (lexed : Lexed) (rest : List ℕ) (spot : Spot) (t : Turn text lexed rest spot) → spot ≡ spot_behind t.before
spot_is text lexed rest spot t = same_spot spot (spot_behind t.before) t.at t.line

-- bytes that are passed
abbrev passed_before : (before bytes behind text : List ℕ) → before ++ (bytes ++ behind) ≡ text → (before ++ bytes) ++ behind ≡ text
passed_before before bytes behind text e = append_assoc before bytes behind ∙ e

regroup : (ts : List Token) (ls : List ℕ) (t : Token) (l : ℕ) (o : Outcome) → with_front ts ls (with_front (t ∷ []) (l ∷ []) o) ≡ with_front (ts ++ t ∷ []) (ls ++ l ∷ []) o
regroup ts ls t l (Whole lexed) =
    ap (λ (z : List Token). Whole (record { tokens = z; lengths = ls ++ l ∷ lexed.lengths; end = lexed.end })) (sym (append_assoc ts (t ∷ []) lexed.tokens))
    ∙ ap (λ (z : List ℕ). Whole (record { tokens = (ts ++ t ∷ []) ++ lexed.tokens; lengths = z; end = lexed.end })) (sym (append_assoc ls (l ∷ []) lexed.lengths))
regroup ts ls t l (Faulty fault) = refl

module _ (text rest : List ℕ) (lexed : Lexed) (spot : Spot) (piece : Piece) (bytes : ℕ) (first : FirstPiece piece bytes rest) (t : Turn text lexed rest spot) where
  moved_parts : (t.before ++ take bytes rest) ++ drop bytes rest ≡ text
  moved_parts = passed_before t.before (take bytes rest) (drop bytes rest) text (ap (λ (z : List ℕ). t.before ++ z) (take-append-drop bytes rest) ∙ t.parts)

  moved_at : (next : Spot) → next.at ≡ spot.at + length (take bytes rest) → next.at ≡ length (t.before ++ take bytes rest)
  moved_at next a = omega (arith, a, t.at, length-append t.before (take bytes rest))

  moved_line : (next : Spot) → next.line ≡ spot.line + count_by is_line_feed (take bytes rest) → next.line ≡ 1 + count_by is_line_feed (t.before ++ take bytes rest)
  moved_line next b = omega (arith, b, t.line, sum_by-append (λ x. cond (is_line_feed x) 1 0) t.before (take bytes rest))

  here : (v : Verdict) → verdict piece ≡ v → (left : ℕ) → outcome left t.before (pieces_at 0 rest)
      ≡ outcome_by v (spot_behind t.before) bytes left (λ more. outcome more (t.before ++ take bytes rest) (pieces_at 0 (drop bytes rest)))
  here v e left = first.unroll left t.before
      ∙ ap (λ (w : Verdict). outcome_by w (spot_behind t.before) bytes left (λ more. outcome more (t.before ++ take bytes rest) (pieces_at 0 (drop bytes rest)))) e

  pub skip_turn : verdict piece ≡ Between → (next : Spot) → next.at ≡ spot.at + length (take bytes rest) → next.line ≡ spot.line + count_by is_line_feed (take bytes rest)
      → Turn text lexed (drop bytes rest) next
  skip_turn e next a b = record {
    before = t.before ++ take bytes rest;
    parts = moved_parts;
    at = moved_at next a;
    line = moved_line next b;
    few = t.few;
    come = ap (with_front lexed.tokens lexed.lengths) (sym (here Between e (1000000 - length lexed.tokens))) ∙ t.come;
  }

  one_less : (kind : Kind) (left more : ℕ) → left ≡ suc more
      → outcome_by (Counts kind) (spot_behind t.before) bytes left (λ m. outcome m (t.before ++ take bytes rest) (pieces_at 0 (drop bytes rest)))
      ≡ with_front (record { kind = kind; spot = spot_behind t.before } ∷ []) (bytes ∷ []) (outcome more (t.before ++ take bytes rest) (pieces_at 0 (drop bytes rest)))
  one_less kind left more e = rw e refl

  pub token_turn : (kind : Kind) → verdict piece ≡ Counts kind → (next : Spot) → next.at ≡ spot.at + length (take bytes rest) → next.line ≡ spot.line + count_by is_line_feed (take bytes rest)
      → length lexed.tokens < 1000000 → (made : Lexed) → made.tokens ≡ lexed.tokens ++ record { kind = kind; spot = spot } ∷ [] → made.lengths ≡ lexed.lengths ++ bytes ∷ []
      → Turn text made (drop bytes rest) next
  token_turn kind e next a b room made ts ls =
      let size : length made.tokens ≡ length lexed.tokens + 1 = ap (λ (z : List Token). length z) ts ∙ length-append lexed.tokens (record { kind = kind; spot = spot } ∷ []) in
      let left : 1000000 - length lexed.tokens ≡ suc (1000000 - length made.tokens) = omega (arith, size, room) in
      let later = outcome (1000000 - length made.tokens) (t.before ++ take bytes rest) (pieces_at 0 (drop bytes rest)) in
      let place = spot_is text lexed rest spot t in
      let one = here (Counts kind) e (1000000 - length lexed.tokens) ∙ one_less kind (1000000 - length lexed.tokens) (1000000 - length made.tokens) left in
      let joined : with_front (lexed.tokens ++ record { kind = kind; spot = spot } ∷ []) (lexed.lengths ++ bytes ∷ []) later ≡ outcome 1000000 [] (pieces_at 0 text) =
      sym (regroup lexed.tokens lexed.lengths (record { kind = kind; spot = spot }) bytes later)
      ∙ ap (λ (s : Spot). with_front lexed.tokens lexed.lengths (with_front (record { kind = kind; spot = s } ∷ []) (bytes ∷ []) later)) place
      ∙ ap (with_front lexed.tokens lexed.lengths) (sym one) ∙ t.come in
      record {
        before = t.before ++ take bytes rest;
        parts = moved_parts;
        at = moved_at next a;
        line = moved_line next b;
        few = omega (arith, size, room);
        come = ap (λ (z : List Token). with_front z made.lengths later) ts ∙ ap (λ (z : List ℕ). with_front (lexed.tokens ++ record { kind = kind; spot = spot } ∷ []) z later) ls ∙ joined;
      }

  pub many_turn : (kind : Kind) → verdict piece ≡ Counts kind → 1000000 ≤ length lexed.tokens → outcome 1000000 [] (pieces_at 0 text) ≡ Faulty (f.TooMany spot)
  many_turn kind e full =
      let none : 1000000 - length lexed.tokens ≡ 0 = omega (arith, full) in
      let later : ℕ → Outcome = λ m. outcome m (t.before ++ take bytes rest) (pieces_at 0 (drop bytes rest)) in
      let one : outcome (1000000 - length lexed.tokens) t.before (pieces_at 0 rest) ≡ Faulty (f.TooMany (spot_behind t.before)) =
      here (Counts kind) e (1000000 - length lexed.tokens) ∙ ap (λ (k : ℕ). outcome_by (Counts kind) (spot_behind t.before) bytes k later) none in
      sym t.come ∙ ap (with_front lexed.tokens lexed.lengths) one ∙ ap (λ (s : Spot). Faulty (f.TooMany s)) (sym (spot_is text lexed rest spot t))

pub refuse_turn : (text rest after : List ℕ) (lexed : Lexed) (spot : Spot) (first : ℕ) (refusal : Refusal) → rest ≡ first ∷ after → verdict (piece_at first after) ≡ Refuses refusal
    → Turn text lexed rest spot → outcome 1000000 [] (pieces_at 0 text) ≡ Faulty (refusal_at refusal spot)
refuse_turn text rest after lexed spot first refusal e v t =
    let piece = piece_at first after in
    let bytes = length (spelling piece) in
    let one = here text rest lexed spot piece bytes (first_piece rest first after bytes e refl) t (Refuses refusal) v (1000000 - length lexed.tokens) in
    sym t.come ∙ ap (with_front lexed.tokens lexed.lengths) one ∙ ap (λ (s : Spot). Faulty (refusal_at refusal s)) (sym (spot_is text lexed rest spot t))

-- what `add` answers is the fault, or want of memory
pub add_fault : (text : List ℕ) (fault : LexFault) (spot : Spot) (full : Type 0) → (full → outcome 1000000 [] (pieces_at 0 text) ≡ Faulty (f.TooMany spot))
    → ((fault ≡ f.NoMemory) ⊎ ((fault ≡ f.TooMany spot) × full)) → (fault ≡ f.NoMemory) ⊎ (outcome 1000000 [] (pieces_at 0 text) ≡ Faulty fault)
add_fault text fault spot full many e = elim e [
  | inl none ↦ inl none
  | inr more ↦ inr (many more.1 ∙ sym (ap Faulty more.0))
]

-- the first turn, and what is known behind the last
pub first_turn : (text : List ℕ) (lexed : Lexed) → lexed.tokens ≡ [] → lexed.lengths ≡ [] → (spot : Spot) → spot.at ≡ 0 → spot.line ≡ 1 → Turn text lexed text spot
first_turn text lexed ts ls spot a b = record {
  before = [];
  parts = refl;
  at = a;
  line = b;
  few = let size = ap (λ (z : List Token). length z) ts in omega (arith, size);
  come = ap (λ (z : List Token). with_front z lexed.lengths (outcome (1000000 - length z) [] (pieces_at 0 text))) ts
      ∙ ap (λ (z : List ℕ). with_front [] z (outcome 1000000 [] (pieces_at 0 text))) ls ∙ none (outcome 1000000 [] (pieces_at 0 text));
}
  where
    none : (o : Outcome) → with_front [] [] o ≡ o
    none (Whole more) = refl
    none (Faulty fault) = refl

end_outcome : (left : ℕ) (before : List ℕ) → outcome left before (pieces_at 0 []) ≡ Whole (record { tokens = []; lengths = []; end = spot_behind before })
unfolding outcome pieces_at
end_outcome left before = refl

pub last_turn : (text rest : List ℕ) (lexed made : Lexed) (spot : Spot) → rest ≡ [] → Turn text lexed rest spot → made.tokens ≡ lexed.tokens → made.lengths ≡ lexed.lengths → made.end ≡ spot
    → outcome 1000000 [] (pieces_at 0 text) ≡ Whole made
last_turn text rest lexed made spot e t ts ls n =
    let one : outcome (1000000 - length lexed.tokens) t.before (pieces_at 0 rest) ≡ Whole (record { tokens = []; lengths = []; end = spot_behind t.before }) =
    ap (λ (z : List ℕ). outcome (1000000 - length lexed.tokens) t.before (pieces_at 0 z)) e ∙ end_outcome (1000000 - length lexed.tokens) t.before in
    let same : made ≡ record { tokens = lexed.tokens ++ []; lengths = lexed.lengths ++ []; end = spot_behind t.before } =
    same_lexed made _ (ts ∙ sym (append-nil lexed.tokens)) (ls ∙ sym (append-nil lexed.lengths)) (n ∙ spot_is text lexed rest spot t) in
    sym t.come ∙ ap (with_front lexed.tokens lexed.lengths) one ∙ ap Whole (sym same)

-- what the sums of a turn need
pub turn_length : (text rest : List ℕ) (lexed : Lexed) (spot : Spot) → Turn text lexed rest spot → spot.at + length rest ≡ length text
turn_length text rest lexed spot t = omega (arith, t.at, length-append t.before rest, ap (λ (z : List ℕ). length z) t.parts)

pub turn_line : (text rest : List ℕ) (lexed : Lexed) (spot : Spot) → Turn text lexed rest spot → spot.line ≤ spot.at + 1
turn_line text rest lexed spot t = omega (arith, t.at, t.line, count_by-le-length is_line_feed t.before)
