-- A text has either one list of tokens or one first fault.
use Rattle.std.proofs.Common.{◌≡◌, ℕ, inl, inr, ◌⊎◌, List, [], ◌∷◌, ◌++◌, refl, sym, ap, ◌∙◌, subst, Some, None, Option, Ok, Err, Result, IfOk, IfErr}
use Rattle.c_lex.specs.declared.fault.LexFault.{LexFault}
use Rattle.c_lex.specs.Pieces.{Piece}
use Rattle.c_lex.specs.Faults.{spot_behind, tokens_of, lengths_of, fault_behind, IsFirstFault, IsCaused}
use Rattle.c_lex.specs.Lexed.{Lexed, Lexes, IsOrNoMemory}
use Rattle.c_lex.specs.Reading.{Outcome, Whole, Faulty, outcome, pieces_at}
use Rattle.c_lex.specs.Steps.{Comes}
use Rattle.c_lex.proofs.Divisions.{divides, unique}
use Rattle.c_lex.proofs.Outcomes.{Agrees, agrees_all, spelled_text, whole, caused}
use Rattle.c_lex.proofs.Turns.{same_lexed}

abbrev pub found_in : List ℕ → Outcome
found_in text = outcome 1000000 [] (pieces_at 0 text)

some_none : (o : Option LexFault) (fault : LexFault) → o ≡ Some fault → o ≡ None → ⊥
some_none o fault a b = cc

whole_by : (text : List ℕ) (lexed : Lexed) (o : Outcome) → Agrees [] (pieces_at 0 text) o → Lexes text lexed → o ≡ Whole lexed
whole_by text lexed (Whole made) a l =
    let same = unique l.pieces text l.division in
    ap Whole
    (same_lexed made lexed
    (sym a.tokens ∙ sym (l.tokens ∙ ap (λ (z : List Piece). tokens_of z) same))
    (sym a.lengths ∙ sym (l.lengths ∙ ap (λ (z : List Piece). lengths_of z) same))
    (a.end ∙ ap (λ (z : List ℕ). spot_behind z) (sym (spelled_text (pieces_at 0 text) text (divides 0 text))) ∙ sym l.end))
whole_by text lexed (Faulty fault) a l =
    let none = l.faultless a.before a.piece a.behind (unique l.pieces text l.division ∙ a.parts) in
    absurd (some_none (fault_behind a.before a.piece) fault a.cause none)

pub whole_only : (text : List ℕ) (lexed : Lexed) → Lexes text lexed → found_in text ≡ Whole lexed
whole_only text lexed l = whole_by text lexed (found_in text) (agrees_all text) l

-- two places of one list: one stands before the other, or they are the same
abbrev Places : List Piece → Piece → List Piece → Piece → Type 0
Places before piece before' piece' =
    ((before ≡ before') × (piece ≡ piece')) ⊎ (((more : List Piece) × (before' ≡ before ++ piece ∷ more)) ⊎ ((more : List Piece) × (before ≡ before' ++ piece' ∷ more)))

later_place : (x : Piece) (before : List Piece) (piece : Piece) (before' : List Piece) (piece' : Piece) → Places before piece before' piece' → Places (x ∷ before) piece (x ∷ before') piece'
later_place x before piece before' piece' p = elim p [
  | inl same ↦ inl (ap (λ (z : List Piece). x ∷ z) same.0, same.1)
  | inr apart ↦ inr (elim apart [
    | inl a ↦ inl (a.0, ap (λ (z : List Piece). x ∷ z) a.1)
    | inr b ↦ inr (b.0, ap (λ (z : List Piece). x ∷ z) b.1)
  ])
]

places : (before : List Piece) (piece : Piece) (behind before' : List Piece) (piece' : Piece) (behind' : List Piece)
    → before ++ piece ∷ behind ≡ before' ++ piece' ∷ behind' → Places before piece before' piece'
places [] piece behind [] piece' behind' e = inl (refl, cc)
places [] piece behind (x ∷ before') piece' behind' e = inr (inl (before', cc))
places (x ∷ before) piece behind [] piece' behind' e = inr (inr (before, cc))
places (x ∷ before) piece behind (y ∷ before') piece' behind' e =
    let head_is : x ≡ y = cc in
    let tail_is : before ++ piece ∷ behind ≡ before' ++ piece' ∷ behind' = cc in
    subst (λ (z : Piece). Places (x ∷ before) piece (z ∷ before') piece') head_is
    (later_place x before piece before' piece' (places before piece behind before' piece' behind' tail_is))

same_some : (o : Option LexFault) (a b : LexFault) → o ≡ Some a → o ≡ Some b → a ≡ b
same_some o a b p q = cc

fault_by : (text : List ℕ) (fault : LexFault) (o : Outcome) → Agrees [] (pieces_at 0 text) o → IsFirstFault text fault → o ≡ Faulty fault
fault_by text fault (Whole made) a i =
    let none = a.faultless i.before i.piece i.behind (sym (unique (i.before ++ i.piece ∷ i.behind) text i.division)) in
    absurd (some_none (fault_behind i.before i.piece) fault i.cause none)
fault_by text fault (Faulty other) a i =
    let split = sym (unique (i.before ++ i.piece ∷ i.behind) text i.division) in
    elim (places a.before a.piece a.behind i.before i.piece i.behind (sym a.parts ∙ split)) [
      | inl same ↦
          (let cause : fault_behind a.before a.piece ≡ Some fault =
          ap (λ (z : List Piece). fault_behind z a.piece) same.0 ∙ ap (fault_behind i.before) same.1 ∙ i.cause in
          ap Faulty (same_some (fault_behind a.before a.piece) other fault a.cause cause))
      | inr apart ↦ elim apart [
        | inl earlier ↦ absurd (some_none (fault_behind a.before a.piece) other a.cause (i.earlier a.before a.piece earlier.0 earlier.1))
        | inr later ↦ absurd (some_none (fault_behind i.before i.piece) fault i.cause (a.earlier i.before i.piece later.0 later.1))
      ]
    ]

pub fault_only : (text : List ℕ) (fault : LexFault) → IsFirstFault text fault → found_in text ≡ Faulty fault
fault_only text fault i = fault_by text fault (found_in text) (agrees_all text) i

-- the clauses of `lex`
pub answer_tokens : (text : List ℕ) (result : Result Lexed LexFault) → Comes result (found_in text) → IfOk result (λ lexed. Lexes text lexed)
answer_tokens text (Ok lexed) c = whole text lexed c
answer_tokens text (Err fault) c = tt

pub answer_fault : (text : List ℕ) (result : Result Lexed LexFault) → Comes result (found_in text) → IfErr result (λ fault. IsCaused fault text)
answer_fault text (Ok lexed) c = tt
answer_fault text (Err fault) c = elim c [ inl none ↦ subst (λ (x : LexFault). IsCaused x text) (sym none) tt | inr stop ↦ caused text fault stop ]

apart : (o : Outcome) (lexed : Lexed) (fault : LexFault) → o ≡ Whole lexed → o ≡ Faulty fault → ⊥
apart o lexed fault a b = cc

same_whole : (o : Outcome) (x y : Lexed) → o ≡ Whole x → o ≡ Whole y → x ≡ y
same_whole o x y a b = cc

same_faulty : (o : Outcome) (x y : LexFault) → o ≡ Faulty x → o ≡ Faulty y → x ≡ y
same_faulty o x y a b = cc

pub answer_whole : (text : List ℕ) (result : Result Lexed LexFault) → Comes result (found_in text) → (lexed : Lexed) → Lexes text lexed → IsOrNoMemory result (Ok lexed)
answer_whole text (Ok made) c lexed l = inl (ap (λ (z : Lexed). Ok z) (same_whole (found_in text) made lexed c (whole_only text lexed l)))
answer_whole text (Err fault) c lexed l = elim c [
  | inl none ↦ inr (ap (λ (z : LexFault). Err z) none)
  | inr stop ↦ absurd (apart (found_in text) lexed fault (whole_only text lexed l) stop)
]

pub answer_faulty : (text : List ℕ) (result : Result Lexed LexFault) → Comes result (found_in text) → (fault : LexFault) → IsFirstFault text fault → IsOrNoMemory result (Err fault)
answer_faulty text (Ok made) c fault i = absurd (apart (found_in text) made fault c (fault_only text fault i))
answer_faulty text (Err other) c fault i = elim c [
  | inl none ↦ inr (ap (λ (z : LexFault). Err z) none)
  | inr stop ↦ inl (ap (λ (z : LexFault). Err z) (same_faulty (found_in text) other fault stop (fault_only text fault i)))
]

-- a text has one list of tokens, or one first fault, and not both
pub lexes_once : (text : List ℕ) (x y : Lexed) → Lexes text x → Lexes text y → x ≡ y
lexes_once text x y a b = same_whole (found_in text) x y (whole_only text x a) (whole_only text y b)

pub fault_once : (text : List ℕ) (x y : LexFault) → IsFirstFault text x → IsFirstFault text y → x ≡ y
fault_once text x y a b = same_faulty (found_in text) x y (fault_only text x a) (fault_only text y b)

pub no_fault_lexes : (text : List ℕ) (lexed : Lexed) (fault : LexFault) → Lexes text lexed → IsFirstFault text fault → ⊥
no_fault_lexes text lexed fault a b = apart (found_in text) lexed fault (whole_only text lexed a) (fault_only text fault b)
