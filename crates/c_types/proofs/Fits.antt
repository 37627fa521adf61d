-- The numbers of a file that is read are not below 0, and so are those that its names are defined as.
use Rattle.std.proofs.Common.{◌≡◌, ℕ, ◌+◌, suc, pos, Bool, true, false, ◌&&◌, cond, List, [], ◌∷◌, ◌++◌, map, length, Some, refl, ap, sym, subst, ◌∙◌, arith}
use Rattle.std.specs.Prelude.{if◌then◌else◌, int_le, leb}
use Rattle.std.proofs.lemmas.Bool.Decides.{nat_tests}
use Rattle.std.specs.List.{list_all}
use Rattle.std.specs.Str.{bytes_eq}
use Rattle.cfix_base.specs.declared.Spot.{Spot}
use Rattle.c_lex.specs.declared.token.Token as t
use Rattle.c_lex.specs.declared.token.Kind.TheVariants as lexed
use Rattle.c_lex.specs.Pieces.{Piece, Blank, LineComment, ClosedComment, UnclosedComment, Identifier, Numeral, Literal, Punctuator, Stray, spelling}
use Rattle.c_lex.specs.Meaning.{Counts, Refuses, verdict, is_number, decimal}
use Rattle.c_lex.specs.Faults.{token_of, tokens_behind, tokens_of, spot_behind}
use Rattle.cfix_base.specs.Words.{is_word_text}
use Rattle.c_lex.specs.declared.fault.Refusal.TheVariants.{BadNumber}
use Rattle.c_grammar.specs.declared.word.Word.{Word}
use Rattle.c_grammar.specs.declared.sign.Sign.{Sign}
use Rattle.c_grammar.specs.declared.sign.Sign.TheVariants as s
use Rattle.c_grammar.specs.Marks.{each, tokens}
use Rattle.c_grammar.specs.Token.{Kind, IsNumber, IsWord, IsSign, Token, Mark, sign}
use Rattle.c_grammar.specs.Spelling.{word_among, words, word_text, word_kind, sign_among, signs, sign_text, sign_kind}
use Rattle.c_grammar.specs.Decl.{Size, Count, Named, GlobalInt, OneGlobal, SetGlobal, GlobalArray, Globals, GlobalInts, GlobalHolds, GlobalMutexes, GlobalConds, minus_marks, size_marks, global_int_marks, globals_marks, qualifiers_marks}
use Rattle.c_grammar.specs.File.{Replacement, Plainly, InParens, Top, Include, Define, Variables, Prototype, Function, File, replacement_marks, top_marks, file_marks}
use Rattle.c_names.specs.Uses.{Meaning, OfVariable, OfFunction, OfNumber, defined_number}
use Rattle.c_names.specs.Declarations.{Variable, Declaration, numbered, variables, replacement_number, declarations_from, names_of, is_of, first_meaning}
use Rattle.c_names.specs.Names.{number_or_one, size_number}
use Rattle.c_grammar.specs.Parsed.{IsParsed}
use Rattle.c_grammar.specs.Lexical.{token_read, tokens_read}
use Rattle.c_declare.specs.Counting.{has_value, globals_fit, top_fits}

-- tests of lists

and-left : (a b : Bool) → (a && b) ≡ true → a ≡ true
and-left true b h = refl
and-left false b h = h

and-right : (a b : Bool) → (a && b) ≡ true → b ≡ true
and-right true b h = h
and-right false b h = absurd cc

both : (a b : Bool) → a ≡ true → b ≡ true → (a && b) ≡ true
both a b p q = subst (λ x. (x && b) ≡ true) (sym p) q

module _ {A : Type 0} (p : A → Bool) where
  all-left : (xs ys : List A) → list_all p (xs ++ ys) ≡ true → list_all p xs ≡ true
  all-left [] ys h = refl
  all-left (x ∷ xs) ys h = both (p x) (list_all p xs) (and-left (p x) (list_all p (xs ++ ys)) h) (all-left xs ys (and-right (p x) (list_all p (xs ++ ys)) h))

  all-right : (xs ys : List A) → list_all p (xs ++ ys) ≡ true → list_all p ys ≡ true
  all-right [] ys h = h
  all-right (x ∷ xs) ys h = all-right xs ys (and-right (p x) (list_all p (xs ++ ys)) h)

  all-both : (xs ys : List A) → list_all p xs ≡ true → list_all p ys ≡ true → list_all p (xs ++ ys) ≡ true
  all-both [] ys g h = h
  all-both (x ∷ xs) ys g h = both (p x) (list_all p (xs ++ ys)) (and-left (p x) (list_all p xs) g) (all-both xs ys (and-right (p x) (list_all p xs) g) h)

-- tokens

abbrev plain_kind : Kind → Bool
plain_kind (IsNumber n) = int_le (pos 0) n
plain_kind _ = true

abbrev plain : Token → Bool
plain token = plain_kind token.kind

plain-word : (list : List Word) (text : List ℕ) → plain_kind (word_among list text) ≡ true
plain-word [] text = refl
plain-word (x ∷ more) text = by (bytes_eq text (word_text x)) (plain-word more text)
  where
    by : (b : Bool) → plain_kind (word_among more text) ≡ true → plain_kind (cond b (IsWord x) (word_among more text)) ≡ true
    by true rest = refl
    by false rest = rest

plain-sign : (list : List Sign) (text : List ℕ) → plain_kind (sign_among list text) ≡ true
plain-sign [] text = refl
plain-sign (x ∷ more) text = by (bytes_eq text (sign_text x)) (plain-sign more text)
  where
    by : (b : Bool) → plain_kind (sign_among more text) ≡ true → plain_kind (cond b (IsSign x) (sign_among more text)) ≡ true
    by true rest = refl
    by false rest = rest

nonneg : (n : ℕ) → leb 0 n ≡ true
nonneg n = grind (arith, nat_tests)

plain-piece : (p : Piece) (spot : Spot) → list_all plain (tokens_read (token_of (verdict p) spot)) ≡ true
plain-piece (Blank byte) spot = refl
plain-piece (LineComment body) spot = refl
plain-piece (ClosedComment body) spot = refl
plain-piece (UnclosedComment body) spot = refl
plain-piece (Identifier text) spot = by (is_word_text text)
  where
    by : (b : Bool) → list_all plain (tokens_read (token_of (Counts (if b then lexed.Word text else lexed.Name text)) spot)) ≡ true
    by true = both (plain_kind (word_kind text)) true (plain-word words text) refl
    by false = refl
plain-piece (Numeral text) spot = by (is_number text)
  where
    by : (b : Bool) → list_all plain (tokens_read (token_of (if b then Counts (lexed.Number (pos (decimal text))) else Refuses BadNumber) spot)) ≡ true
    by true = both (leb 0 (decimal text)) true (nonneg (decimal text)) refl
    by false = refl
plain-piece (Literal characters) spot = refl
plain-piece (Punctuator text) spot = both (plain_kind (sign_kind text)) true (plain-sign signs text) refl
plain-piece (Stray byte) spot = refl

map-append-read : (xs ys : List t.Token) → tokens_read (xs ++ ys) ≡ tokens_read xs ++ tokens_read ys
map-append-read [] ys = refl
map-append-read (x ∷ xs) ys = ap (λ l. token_read x ∷ l) (map-append-read xs ys)

plain-pieces : (before : List ℕ) (pieces : List Piece) → list_all plain (tokens_read (tokens_behind before pieces)) ≡ true
plain-pieces before [] = refl
plain-pieces before (p ∷ pieces) =
    subst (λ l. list_all plain l ≡ true)
    (sym (map-append-read (token_of (verdict p) (spot_behind before)) (tokens_behind (before ++ spelling p) pieces)))
    (all-both plain (tokens_read (token_of (verdict p) (spot_behind before))) (tokens_read (tokens_behind (before ++ spelling p) pieces))
    (plain-piece p (spot_behind before)) (plain-pieces (before ++ spelling p) pieces))

-- marks

abbrev plain_mark : Mark → Bool
plain_mark m = plain m.0

plain-marks : (marks : List Mark) → list_all plain (tokens marks) ≡ true → list_all plain_mark marks ≡ true
plain-marks [] h = refl
plain-marks (m ∷ ms) h = both (plain m.0) (list_all plain_mark ms) (and-left (plain m.0) (list_all plain (tokens ms)) h) (plain-marks ms (and-right (plain m.0) (list_all plain (tokens ms)) h))

-- declarations

abbrev good : Meaning → Bool
good (OfNumber value) = int_le (pos 0) value
good _ = true

abbrev good_declaration : Declaration → Bool
good_declaration d = good d.1

good-numbered : (n : ℕ) (list : List Variable) → list_all good_declaration (numbered n list) ≡ true
good-numbered n [] = refl
good-numbered n (x ∷ more) = good-numbered (suc n) more

good-replacement : (value : Replacement) → list_all plain_mark (replacement_marks value) ≡ true → int_le (pos 0) (replacement_number value) ≡ true
good-replacement (Plainly n) h = and-left (int_le (pos 0) n.value) true h
good-replacement (InParens before n after) h = and-left (int_le (pos 0) n.value) true h

good-declarations : (globals functions : ℕ) (file : File) → list_all plain_mark (file_marks file) ≡ true
    → list_all good_declaration (declarations_from globals functions file) ≡ true
good-declarations globals functions [] h = refl
good-declarations globals functions (Include at name header ∷ more) h =
    good-declarations globals functions more (all-right plain_mark (top_marks (Include at name header)) (file_marks more) h)
good-declarations globals functions (Define at name x value ∷ more) h =
    both (int_le (pos 0) (replacement_number value)) (list_all good_declaration (declarations_from globals functions more))
    (good-replacement value (all-left plain_mark (replacement_marks value) (file_marks more) h))
    (good-declarations globals functions more (all-right plain_mark (top_marks (Define at name x value)) (file_marks more) h))
good-declarations globals functions (Variables qualifiers list end ∷ more) h =
    all-both good_declaration (numbered globals (variables list)) (declarations_from (globals + length (variables list)) functions more)
    (good-numbered globals (variables list))
    (good-declarations (globals + length (variables list)) functions more (all-right plain_mark (top_marks (Variables qualifiers list end)) (file_marks more) h))
good-declarations globals functions (Prototype head end ∷ more) h =
    good-declarations globals functions more (all-right plain_mark (top_marks (Prototype head end)) (file_marks more) h)
good-declarations globals functions (Function head before ops items after ∷ more) h =
    good-declarations globals (suc functions) more (all-right plain_mark (top_marks (Function head before ops items after)) (file_marks more) h)

-- a size that a name gives

good-first : (ds : List Declaration) (text : List ℕ) → list_all good_declaration ds ≡ true
    → int_le (pos 0) (number_or_one (defined_number (first_meaning ds text))) ≡ true
good-first [] text h = refl
good-first (d ∷ ds) text h = by (is_of text d) (and-left (good d.1) (list_all good_declaration ds) h) (good-first ds text (and-right (good d.1) (list_all good_declaration ds) h))
  where
    of : (m : Meaning) → good m ≡ true → int_le (pos 0) (number_or_one (defined_number (Some m))) ≡ true
    of (OfVariable n kind) g = refl
    of (OfFunction n kind params) g = refl
    of (OfNumber value) g = g

    by : (b : Bool) → good d.1 ≡ true → int_le (pos 0) (number_or_one (defined_number (first_meaning ds text))) ≡ true
        → int_le (pos 0) (number_or_one (defined_number (if b then Some d.1 else first_meaning ds text))) ≡ true
    by true g rest = of d.1 g
    by false g rest = rest

module _ (file : File) (plain_file : list_all plain_mark (file_marks file) ≡ true) where
  size-fits : (size : Size) → list_all plain_mark (size_marks 0 size) ≡ true → int_le (pos 0) (size_number (names_of file) size) ≡ true
  size-fits (Count n) h = and-left (int_le (pos 0) n.value) true h
  size-fits (Named x) h = good-first (declarations_from 0 0 file) x.text (good-declarations 0 0 file plain_file)

  value-fits : (x : GlobalInt) → list_all plain_mark (global_int_marks 0 x) ≡ true → has_value (names_of file) x ≡ true
  value-fits (OneGlobal x) h = refl
  value-fits (SetGlobal x at minus n) h = size-fits n (all-right plain_mark (minus_marks 0 minus) (size_marks 0 n) h)
  value-fits (GlobalArray x before n after) h = refl

  values-fit : (more : List (Spot × GlobalInt)) → list_all plain_mark (each (λ y. (sign s.Comma y.0, 0) ∷ global_int_marks 0 y.1) more) ≡ true
      → list_all (has_value (names_of file)) (map (λ (y : Spot × GlobalInt). y.1) more) ≡ true
  values-fit [] h = refl
  values-fit (y ∷ more) h =
      both (has_value (names_of file) y.1) (list_all (has_value (names_of file)) (map (λ (y : Spot × GlobalInt). y.1) more))
      (value-fits y.1 (all-left plain_mark (global_int_marks 0 y.1) (each (λ y. (sign s.Comma y.0, 0) ∷ global_int_marks 0 y.1) more) h))
      (values-fit more (all-right plain_mark (global_int_marks 0 y.1) (each (λ y. (sign s.Comma y.0, 0) ∷ global_int_marks 0 y.1) more) h))

  globals-fit : (globals : Globals) → list_all plain_mark (globals_marks 0 globals) ≡ true → globals_fit (names_of file) globals ≡ true
  globals-fit (GlobalInts at x more) h =
      both (has_value (names_of file) x) (list_all (has_value (names_of file)) (map (λ (y : Spot × GlobalInt). y.1) more))
      (value-fits x (all-left plain_mark (global_int_marks 0 x) (each (λ y. (sign s.Comma y.0, 0) ∷ global_int_marks 0 y.1) more) h))
      (values-fit more (all-right plain_mark (global_int_marks 0 x) (each (λ y. (sign s.Comma y.0, 0) ∷ global_int_marks 0 y.1) more) h))
  globals-fit (GlobalHolds at x more) h = refl
  globals-fit (GlobalMutexes at x more) h = refl
  globals-fit (GlobalConds at x more) h = refl

  top-fits : (top : Top) → list_all plain_mark (top_marks top) ≡ true → top_fits (names_of file) top ≡ true
  top-fits (Include at name header) h = refl
  top-fits (Define at name x value) h = refl
  top-fits (Variables qualifiers globals end) h =
      globals-fit globals (all-left plain_mark (globals_marks 0 globals) ((sign s.Semicolon end, 0) ∷ [])
      (all-right plain_mark (qualifiers_marks 0 qualifiers) (globals_marks 0 globals ++ (sign s.Semicolon end, 0) ∷ []) h))
  top-fits (Prototype head end) h = refl
  top-fits (Function head before ops items after) h = refl

  tops-fit : (tops : File) → list_all plain_mark (file_marks tops) ≡ true → list_all (top_fits (names_of file)) tops ≡ true
  tops-fit [] h = refl
  tops-fit (top ∷ more) h =
      both (top_fits (names_of file) top) (list_all (top_fits (names_of file)) more)
      (top-fits top (all-left plain_mark (top_marks top) (file_marks more) h))
      (tops-fit more (all-right plain_mark (top_marks top) (file_marks more) h))

-- the initial values of a file that is read have numbers that are not below 0
pub fits-parsed : (end : Spot) (file : File) → IsParsed end file → list_all (top_fits (names_of file)) file ≡ true
fits-parsed end file parsed =
    let read : tokens_read (tokens_of parsed.lexes.pieces) ≡ tokens (file_marks file) = ap tokens_read (sym parsed.lexes.tokens) ∙ parsed.read.spelled in
    let plain_file : list_all plain_mark (file_marks file) ≡ true =
    plain-marks (file_marks file) (subst (λ l. list_all plain l ≡ true) read (plain-pieces [] parsed.lexes.pieces)) in
    tops-fit file plain_file file plain_file
