-- A file that is read has at most a million tokens.
use Rattle.std.proofs.Common.{◌≡◌, ℕ, ◌+◌, ◌≤◌, leb, suc, Bool, true, false, List, [], ◌∷◌, ◌++◌, length, Some, None, if◌then◌else◌, refl, ap, sym, subst, ◌∙◌, append_assoc, append-nil, arith}
use Rattle.std.proofs.lemmas.List.{length-append, length-map}
use Rattle.std.proofs.lemmas.Bool.Decides.{nat_tests}
use Rattle.cfix_base.specs.declared.Spot.{Spot}
use Rattle.c_lex.specs.declared.fault.LexFault.TheVariants as f
use Rattle.c_lex.specs.Pieces.{Piece, spelling}
use Rattle.c_lex.specs.Meaning.{Verdict, Between, Counts, Refuses, verdict}
use Rattle.c_lex.specs.Faults.{token_of, tokens_behind, tokens_of, fault_of, fault_behind, pieces_spelled, spot_behind, HaveNoFault}
use Rattle.c_grammar.specs.Marks.{tokens}
use Rattle.c_grammar.specs.File.{File, file_marks}
use Rattle.c_grammar.specs.Parsed.{IsParsed}
use Rattle.c_grammar.specs.Lexical.{token_read}

length-tokens : {T : Type 0} (marks : List (T × ℕ)) → length (tokens marks) ≡ length marks
length-tokens [] = refl
length-tokens (m ∷ ms) = ap suc (length-tokens ms)

behind-append : (before : List ℕ) (xs ys : List Piece)
    → tokens_behind before (xs ++ ys) ≡ tokens_behind before xs ++ tokens_behind (before ++ pieces_spelled xs) ys
behind-append before [] ys = ap (λ b. tokens_behind b ys) (sym (append-nil before))
behind-append before (x ∷ xs) ys =
    ap (λ rest. token_of (verdict x) (spot_behind before) ++ rest)
    (behind-append (before ++ spelling x) xs ys
    ∙ ap (λ b. tokens_behind (before ++ spelling x) xs ++ tokens_behind b ys) (append_assoc before (spelling x) (pieces_spelled xs)))
    ∙ sym (append_assoc (token_of (verdict x) (spot_behind before)) (tokens_behind (before ++ spelling x) xs) (tokens_behind (before ++ pieces_spelled (x ∷ xs)) ys))

one-more : (v : Verdict) (count : ℕ) (spot : Spot) → fault_of v count spot ≡ None → count ≤ 1000000 → count + length (token_of v spot) ≤ 1000000
one-more Between count spot is few = omega (arith)
one-more (Refuses refusal) count spot is few = absurd cc
one-more (Counts kind) count spot is few = by (leb 1000000 count) refl is
  where
    by : (b : Bool) → leb 1000000 count ≡ b → (if b then Some (f.TooMany spot) else None) ≡ None → count + 1 ≤ 1000000
    by true test none = absurd cc
    by false test none = grind (arith, nat_tests)

few-along : (before rest : List Piece) → HaveNoFault (before ++ rest) → length (tokens_of before) ≤ 1000000
    → length (tokens_of (before ++ rest)) ≤ 1000000
few-along before [] faultless few = subst (λ l. length (tokens_of l) ≤ 1000000) (sym (append-nil before)) few
few-along before (p ∷ rest) faultless few =
    let here : fault_behind before p ≡ None = faultless before p rest refl in
    let more : length (tokens_of before) + length (token_of (verdict p) (spot_behind (pieces_spelled before))) ≤ 1000000 =
    one-more (verdict p) (length (tokens_of before)) (spot_behind (pieces_spelled before)) here few in
    let split : tokens_of (before ++ p ∷ []) ≡ tokens_of before ++ tokens_behind (pieces_spelled before) (p ∷ []) = behind-append [] before (p ∷ []) in
    let joined : (before ++ p ∷ []) ++ rest ≡ before ++ p ∷ rest = append_assoc before (p ∷ []) rest in
    let next : length (tokens_of (before ++ p ∷ [])) ≤ 1000000 =
    omega (
      arith,
      ap length split,
      length-append (tokens_of before) (tokens_behind (pieces_spelled before) (p ∷ [])),
      length-append (token_of (verdict p) (spot_behind (pieces_spelled before))) [],
      more,
    ) in
    subst (λ l. length (tokens_of l) ≤ 1000000) joined (few-along (before ++ p ∷ []) rest (subst HaveNoFault (sym joined) faultless) next)

pub tokens-few : (end : Spot) (file : File) → IsParsed end file → length (file_marks file) ≤ 1000000
tokens-few end file parsed =
    let few : length (tokens_of parsed.lexes.pieces) ≤ 1000000 = few-along [] parsed.lexes.pieces parsed.lexes.faultless (omega (arith)) in
    omega (
      arith,
      length-tokens (file_marks file),
      ap length parsed.read.spelled,
      length-map parsed.lexed.tokens token_read,
      ap length parsed.lexes.tokens,
      few,
    )
