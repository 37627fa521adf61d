-- What the pieces of a text come to: its tokens, or the fault of the first piece that has one.
use Rattle.std.proofs.Common.{◌≡◌, ℕ, zero, suc, ◌+◌, ◌<◌, ◌≤◌, inl, inr, ◌⊎◌, List, [], ◌∷◌, ◌++◌, length, length-append, refl, sym, ap, ◌∙◌, subst, append_assoc, Some, None, arith}
use Rattle.std.proofs.lemmas.Bool.{le-leb, lt-leb}
use Rattle.std.proofs.lemmas.List.{append-nil}
use Rattle.cfix_base.specs.declared.spot.Spot.{Spot}
use Rattle.c_lex.specs.declared.token.Kind.{Kind}
use Rattle.c_lex.specs.declared.token.Token.{Token}
use Rattle.c_lex.specs.declared.fault.LexFault.{LexFault}
use Rattle.c_lex.specs.declared.fault.LexFault.TheVariants as f
use Rattle.c_lex.specs.Pieces.{Piece, spelling}
use Rattle.c_lex.specs.Division.{Divides}
use Rattle.c_lex.specs.Meaning.{Verdict, Between, Counts, Refuses, verdict}
use Rattle.c_lex.specs.Faults.{spot_behind, pieces_spelled, token_of, length_of, tokens_behind, tokens_of, lengths_of, fault_of, fault_behind, HaveNoFault, IsFirstFault, IsCaused}
use Rattle.c_lex.specs.Lexed.{Lexed, Lexes}
use Rattle.c_lex.specs.Reading.{Outcome, Whole, Faulty, with_front, outcome_by, outcome, pieces_at}
use Rattle.c_lex.proofs.Divisions.{divides}

-- one more piece at the end
pieces_spelled-push : (front : List Piece) (piece : Piece) → pieces_spelled (front ++ piece ∷ []) ≡ pieces_spelled front ++ spelling piece
pieces_spelled-push [] piece = append-nil (spelling piece)
pieces_spelled-push (p ∷ front) piece = ap (λ (z : List ℕ). spelling p ++ z) (pieces_spelled-push front piece) ∙ sym (append_assoc (spelling p) (pieces_spelled front) (spelling piece))

tokens_behind-push : (before : List ℕ) (front : List Piece) (piece : Piece)
    → tokens_behind before (front ++ piece ∷ []) ≡ tokens_behind before front ++ token_of (verdict piece) (spot_behind (before ++ pieces_spelled front))
tokens_behind-push before [] piece =
    append-nil (token_of (verdict piece) (spot_behind before)) ∙ ap (λ (z : List ℕ). token_of (verdict piece) (spot_behind z)) (sym (append-nil before))
tokens_behind-push before (p ∷ front) piece =
    let here = token_of (verdict p) (spot_behind before) in
    ap (λ (z : List Token). here ++ z)
    (tokens_behind-push (before ++ spelling p) front piece
    ∙ ap (λ (z : List ℕ). tokens_behind (before ++ spelling p) front ++ token_of (verdict piece) (spot_behind z)) (append_assoc before (spelling p) (pieces_spelled front)))
    ∙ sym (append_assoc here (tokens_behind (before ++ spelling p) front) (token_of (verdict piece) (spot_behind (before ++ pieces_spelled (p ∷ front)))))

tokens_of-push : (front : List Piece) (piece : Piece) (v : Verdict) → verdict piece ≡ v → tokens_of (front ++ piece ∷ []) ≡ tokens_of front ++ token_of v (spot_behind (pieces_spelled front))
tokens_of-push front piece v e = tokens_behind-push [] front piece ∙ ap (λ (w : Verdict). tokens_of front ++ token_of w (spot_behind (pieces_spelled front))) e

lengths_of-push : (front : List Piece) (piece : Piece) → lengths_of (front ++ piece ∷ []) ≡ lengths_of front ++ length_of (verdict piece) (length (spelling piece))
lengths_of-push [] piece = append-nil (length_of (verdict piece) (length (spelling piece)))
lengths_of-push (p ∷ front) piece =
    ap (λ (z : List ℕ). length_of (verdict p) (length (spelling p)) ++ z) (lengths_of-push front piece)
    ∙ sym (append_assoc (length_of (verdict p) (length (spelling p))) (lengths_of front) (length_of (verdict piece) (length (spelling piece))))

lengths_of-push_by : (front : List Piece) (piece : Piece) (v : Verdict) → verdict piece ≡ v → lengths_of (front ++ piece ∷ []) ≡ lengths_of front ++ length_of v (length (spelling piece))
lengths_of-push_by front piece v e = lengths_of-push front piece ∙ ap (λ (w : Verdict). lengths_of front ++ length_of w (length (spelling piece))) e

no_split : (before behind : List Piece) (piece : Piece) → [] ≡ before ++ piece ∷ behind → ⊥
no_split [] behind piece e = cc
no_split (x ∷ before) behind piece e = cc

-- a place of a list with one more at its end: the last, or one of the list
split_push : (front : List Piece) (last : Piece) (before : List Piece) (piece : Piece) (behind : List Piece) → front ++ last ∷ [] ≡ before ++ piece ∷ behind
    → ((before ≡ front) × (piece ≡ last)) ⊎ ((more : List Piece) × (front ≡ before ++ piece ∷ more))
split_push [] last [] piece behind e = inl (refl, cc)
split_push [] last (x ∷ before) piece behind e = absurd (no_split before behind piece (cc))
split_push (x ∷ front) last [] piece behind e = inr (front, cc)
split_push (x ∷ front) last (y ∷ before) piece behind e =
    let head_is : x ≡ y = cc in
    let tail_is : front ++ last ∷ [] ≡ before ++ piece ∷ behind = cc in
    elim (split_push front last before piece behind tail_is) [
      | inl here ↦ inl (cc, here.1)
      | inr there ↦ inr (there.0, cc)
    ]

pub no_fault-push : (front : List Piece) (last : Piece) → HaveNoFault front → fault_behind front last ≡ None → HaveNoFault (front ++ last ∷ [])
no_fault-push front last h none before piece behind e = elim (split_push front last before piece behind e) [
  | inl here ↦ ap (λ (z : List Piece). fault_behind z piece) here.0 ∙ ap (fault_behind front) here.1 ∙ none
  | inr there ↦ h before piece there.0 there.1
]

-- the fault of a piece behind others, by its verdict
fault_is : (front : List Piece) (piece : Piece) (v : Verdict) → verdict piece ≡ v → fault_behind front piece ≡ fault_of v (length (tokens_of front)) (spot_behind (pieces_spelled front))
fault_is front piece v e = ap (λ (w : Verdict). fault_of w (length (tokens_of front)) (spot_behind (pieces_spelled front))) e

-- that all pieces have passed
pub record Passed (front pieces : List Piece) (lexed : Lexed) : Type 0 where
  pub faultless : HaveNoFault (front ++ pieces)
  pub tokens : tokens_of (front ++ pieces) ≡ tokens_of front ++ lexed.tokens
  pub lengths : lengths_of (front ++ pieces) ≡ lengths_of front ++ lexed.lengths
  pub end : lexed.end ≡ spot_behind (pieces_spelled (front ++ pieces))

-- the first piece that has a fault
pub record Stopped (front pieces : List Piece) (fault : LexFault) : Type 0 where
  pub before : List Piece
  pub piece : Piece
  pub behind : List Piece
  pub parts : front ++ pieces ≡ before ++ piece ∷ behind
  pub earlier : HaveNoFault before
  pub cause : fault_behind before piece ≡ Some fault

abbrev pub Agrees : List Piece → List Piece → Outcome → Type 0
Agrees front pieces (Whole lexed) = Passed front pieces lexed
Agrees front pieces (Faulty fault) = Stopped front pieces fault

at_end : (front : List Piece) → HaveNoFault front → Passed front [] (record { tokens = []; lengths = []; end = spot_behind (pieces_spelled front) })
at_end front none = record {
  faultless = subst (λ (z : List Piece). HaveNoFault z) (sym (append-nil front)) none;
  tokens = ap (λ (z : List Piece). tokens_of z) (append-nil front) ∙ sym (append-nil (tokens_of front));
  lengths = ap (λ (z : List Piece). lengths_of z) (append-nil front) ∙ sym (append-nil (lengths_of front));
  end = ap (λ (z : List Piece). spot_behind (pieces_spelled z)) (sym (append-nil front));
}

regroup : (front : List Piece) (piece : Piece) (pieces : List Piece) → (front ++ piece ∷ []) ++ pieces ≡ front ++ piece ∷ pieces
regroup front piece pieces = append_assoc front (piece ∷ []) pieces

-- a piece between tokens
pass_between : (front : List Piece) (piece : Piece) (pieces : List Piece) → verdict piece ≡ Between → (o : Outcome) → Agrees (front ++ piece ∷ []) pieces o → Agrees front (piece ∷ pieces) o
pass_between front piece pieces e (Whole lexed) a = record {
  faultless = subst (λ (z : List Piece). HaveNoFault z) (regroup front piece pieces) a.faultless;
  tokens = ap (λ (z : List Piece). tokens_of z) (sym (regroup front piece pieces)) ∙ a.tokens
      ∙ ap (λ (z : List Token). z ++ lexed.tokens) (tokens_of-push front piece Between e ∙ append-nil (tokens_of front));
  lengths = ap (λ (z : List Piece). lengths_of z) (sym (regroup front piece pieces)) ∙ a.lengths
      ∙ ap (λ (z : List ℕ). z ++ lexed.lengths) (lengths_of-push_by front piece Between e ∙ append-nil (lengths_of front));
  end = a.end ∙ ap (λ (z : List Piece). spot_behind (pieces_spelled z)) (regroup front piece pieces);
}
pass_between front piece pieces e (Faulty fault) a = record {
  before = a.before;
  piece = a.piece;
  behind = a.behind;
  parts = sym (regroup front piece pieces) ∙ a.parts;
  earlier = a.earlier;
  cause = a.cause;
}

-- a token
pass_token : (front : List Piece) (piece : Piece) (pieces : List Piece) (kind : Kind) → verdict piece ≡ Counts kind → (o : Outcome) → Agrees (front ++ piece ∷ []) pieces o
    → Agrees front (piece ∷ pieces) (with_front (record { kind = kind; spot = spot_behind (pieces_spelled front) } ∷ []) (length (spelling piece) ∷ []) o)
pass_token front piece pieces kind e (Whole lexed) a = record {
  faultless = subst (λ (z : List Piece). HaveNoFault z) (regroup front piece pieces) a.faultless;
  tokens = ap (λ (z : List Piece). tokens_of z) (sym (regroup front piece pieces)) ∙ a.tokens
      ∙ ap (λ (z : List Token). z ++ lexed.tokens) (tokens_of-push front piece (Counts kind) e)
      ∙ append_assoc (tokens_of front) (token_of (Counts kind) (spot_behind (pieces_spelled front))) lexed.tokens;
  lengths = ap (λ (z : List Piece). lengths_of z) (sym (regroup front piece pieces)) ∙ a.lengths
      ∙ ap (λ (z : List ℕ). z ++ lexed.lengths) (lengths_of-push_by front piece (Counts kind) e)
      ∙ append_assoc (lengths_of front) (length (spelling piece) ∷ []) lexed.lengths;
  end = a.end ∙ ap (λ (z : List Piece). spot_behind (pieces_spelled z)) (regroup front piece pieces);
}
pass_token front piece pieces kind e (Faulty fault) a = record {
  before = a.before;
  piece = a.piece;
  behind = a.behind;
  parts = sym (regroup front piece pieces) ∙ a.parts;
  earlier = a.earlier;
  cause = a.cause;
}

stop : (front : List Piece) (piece : Piece) (pieces : List Piece) (fault : LexFault) → HaveNoFault front → fault_behind front piece ≡ Some fault → Stopped front (piece ∷ pieces) fault
stop front piece pieces fault none c = record { before = front; piece = piece; behind = pieces; parts = refl; earlier = none; cause = c }

-- how many tokens may still come behind these pieces
abbrev pub Leaves : ℕ → List Piece → Type 0
Leaves left front = left + length (tokens_of front) ≡ 1000000

many : (count : ℕ) (spot : Spot) (kind : Kind) → 1000000 ≤ count → fault_of (Counts kind) count spot ≡ Some (f.TooMany spot)
many count spot kind h = rw (le-leb 1000000 count h) refl

not_many : (count : ℕ) (spot : Spot) (kind : Kind) → count < 1000000 → fault_of (Counts kind) count spot ≡ None
not_many count spot kind h = rw (lt-leb 1000000 count h) refl

abbrev Later : List Piece → Type 0
Later pieces = (front : List Piece) (left : ℕ) → HaveNoFault front → Leaves left front → Agrees front pieces (outcome left (pieces_spelled front) pieces)

moved : (front : List Piece) (piece : Piece) (pieces : List Piece) (left : ℕ) → Later pieces → HaveNoFault front → fault_behind front piece ≡ None → Leaves left (front ++ piece ∷ [])
    → Agrees (front ++ piece ∷ []) pieces (outcome left (pieces_spelled front ++ spelling piece) pieces)
moved front piece pieces left later none pass leaves =
    subst (λ (z : List ℕ). Agrees (front ++ piece ∷ []) pieces (outcome left z pieces)) (pieces_spelled-push front piece)
    (later (front ++ piece ∷ []) left (no_fault-push front piece none pass) leaves)

turn : (front : List Piece) (piece : Piece) (pieces : List Piece) (left : ℕ) (v : Verdict) → verdict piece ≡ v → Later pieces → HaveNoFault front → Leaves left front
    → Agrees front (piece ∷ pieces) (outcome_by v (spot_behind (pieces_spelled front)) (length (spelling piece)) left (λ more. outcome more (pieces_spelled front ++ spelling piece) pieces))
turn front piece pieces left Between e later none leaves =
    let size = ap (λ (z : List Token). length z) (tokens_of-push front piece Between e ∙ append-nil (tokens_of front)) in
    pass_between front piece pieces e _ (moved front piece pieces left later none (fault_is front piece Between e) (omega (arith, size, leaves)))
turn front piece pieces zero (Counts kind) e later none leaves =
    stop front piece pieces _ none (fault_is front piece (Counts kind) e ∙ many (length (tokens_of front)) (spot_behind (pieces_spelled front)) kind (omega (arith, leaves)))
turn front piece pieces (suc left) (Counts kind) e later none leaves =
    let size = ap (λ (z : List Token). length z) (tokens_of-push front piece (Counts kind) e) ∙ length-append (tokens_of front) (token_of (Counts kind) (spot_behind (pieces_spelled front))) in
    pass_token front piece pieces kind e _
    (moved front piece pieces left later none
    (fault_is front piece (Counts kind) e ∙ not_many (length (tokens_of front)) (spot_behind (pieces_spelled front)) kind (omega (arith, leaves)))
    (omega (arith, size, leaves)))
turn front piece pieces left (Refuses refusal) e later none leaves = stop front piece pieces _ none (fault_is front piece (Refuses refusal) e)

pub agrees : (pieces front : List Piece) (left : ℕ) → HaveNoFault front → Leaves left front → Agrees front pieces (outcome left (pieces_spelled front) pieces)
unfolding outcome
agrees [] front left none leaves = at_end front none
agrees (piece ∷ pieces) front left none leaves = turn front piece pieces left (verdict piece) refl (agrees pieces) none leaves

nothing : HaveNoFault []
nothing before piece behind e = absurd (no_split before behind piece e)

pub spelled_text : (pieces : List Piece) (text : List ℕ) → Divides pieces text → text ≡ pieces_spelled pieces
spelled_text [] text d = d
spelled_text (piece ∷ pieces) text d = d.1.0.front ∙ ap (λ (z : List ℕ). spelling piece ++ z) (spelled_text pieces d.0 d.1.2)

pub agrees_all : (text : List ℕ) → Agrees [] (pieces_at 0 text) (outcome 1000000 [] (pieces_at 0 text))
agrees_all text = agrees (pieces_at 0 text) [] 1000000 nothing refl

pub whole : (text : List ℕ) (lexed : Lexed) → outcome 1000000 [] (pieces_at 0 text) ≡ Whole lexed → Lexes text lexed
whole text lexed e =
    let pieces = pieces_at 0 text in
    let a : Passed [] pieces lexed = subst (λ (o : Outcome). Agrees [] pieces o) e (agrees_all text) in
    record {
      pieces = pieces;
      division = divides 0 text;
      faultless = a.faultless;
      tokens = sym a.tokens;
      lengths = sym a.lengths;
      end = a.end ∙ ap (λ (z : List ℕ). spot_behind z) (sym (spelled_text pieces text (divides 0 text)));
    }

first_fault : (text : List ℕ) (fault : LexFault) → outcome 1000000 [] (pieces_at 0 text) ≡ Faulty fault → IsFirstFault text fault
first_fault text fault e =
    let pieces = pieces_at 0 text in
    let a : Stopped [] pieces fault = subst (λ (o : Outcome). Agrees [] pieces o) e (agrees_all text) in
    record {
      before = a.before;
      piece = a.piece;
      behind = a.behind;
      division = subst (λ (ps : List Piece). Divides ps text) a.parts (divides 0 text);
      earlier = a.earlier;
      cause = a.cause;
    }

pub caused : (text : List ℕ) (fault : LexFault) → outcome 1000000 [] (pieces_at 0 text) ≡ Faulty fault → IsCaused fault text
caused text f.NoMemory e = tt
caused text (f.BadByte spot) e = first_fault text (f.BadByte spot) e
caused text (f.OpenComment spot) e = first_fault text (f.OpenComment spot) e
caused text (f.BadString spot) e = first_fault text (f.BadString spot) e
caused text (f.BadNumber spot) e = first_fault text (f.BadNumber spot) e
caused text (f.TooMany spot) e = first_fault text (f.TooMany spot) e
