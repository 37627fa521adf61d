-- The tokens of a text are names, numbers and strings in their ranges, and so are those of a part of a tree.
use Rattle.std.proofs.Common.{◌≡◌, ℕ, suc, max, pos, eqb, leb, nat_le, Bool, true, false, not, ◌&&◌, List, [], ◌∷◌, ◌++◌, map, cond, refl, ap, sym, ◌∙◌, arith, if◌then◌else◌}
use Rattle.std.proofs.lemmas.Bool.{and_parts, and_from}
use Rattle.std.proofs.lemmas.Bool.Decides.{nat_tests}
use Rattle.std.proofs.lemmas.List.Folds.{list_all-append, list_all-map}
use Rattle.std.specs.List.{list_all}
use Rattle.std.specs.Str.{bytes_eq}
use Rattle.std.specs.Char.{is_ascii_digit}
use Rattle.cfix_base.specs.Words.{is_identifier, is_word_text}
use Rattle.cfix_base.specs.declared.spot.Spot.{Spot}
use Rattle.c_lex.specs.declared.token.Kind.TheVariants as lexed_kind
use Rattle.c_lex.specs.declared.token.Token as t
use Rattle.c_lex.specs.declared.fault.Refusal.TheVariants as r
use Rattle.c_lex.specs.Bytes.{is_plain, is_escape}
use Rattle.c_lex.specs.Pieces.{Character, Plain, Escape, characters_spelled, is_character, Piece, Blank, LineComment, ClosedComment, UnclosedComment, Identifier, Numeral, Literal, Punctuator, Stray, spelling, is_piece}
use Rattle.c_lex.specs.Division.{Divides}
use Rattle.c_lex.specs.Meaning as m
use Rattle.c_lex.specs.Faults.{spot_behind, token_of, tokens_behind, tokens_of}
use Rattle.c_grammar.specs.declared.word.Word.{Word}
use Rattle.c_grammar.specs.declared.sign.Sign.{Sign}
use Rattle.c_grammar.specs.Marks.{each, tokens}
use Rattle.c_grammar.specs.Token.{Kind, IsWord, IsSign, Mark}
use Rattle.c_grammar.specs.Spelling.{word_text, word_among, words, sign_text, sign_among, signs}
use Rattle.c_grammar.specs.Expr as e
use Rattle.c_grammar.specs.File.{File, file_marks}
use Rattle.c_prog.specs.Valid.Expressions.{is_number}
use Rattle.c_prog.specs.Valid.Strings.{is_string_byte, is_string}
use Rattle.c_names.specs.declared.fault.Fault.{Fault}
use Rattle.c_grammar.specs.Lexical.{kind_read, token_read, tokens_read}
use Rattle.c_grammar.specs.Parsed.{IsParsed}
use Rattle.valid_law.specs.Lexical.{are_bytes, is_lexical, all_lexical, are_lexical}
use Rattle.valid_law.proofs.Faultless.{none-left, none-right, all-append}

-- ---- lists that pass a test

-- both parts of a list pass
pub all-left : {X : Type 0} (p : X → Bool) (xs ys : List X) → list_all p (xs ++ ys) ≡ true → list_all p xs ≡ true
all-left p xs ys h = (and_parts (list_all p xs) (list_all p ys) (sym (list_all-append p xs ys) ∙ h)).0

pub all-right : {X : Type 0} (p : X → Bool) (xs ys : List X) → list_all p (xs ++ ys) ≡ true → list_all p ys ≡ true
all-right p xs ys h = (and_parts (list_all p xs) (list_all p ys) (sym (list_all-append p xs ys) ∙ h)).1

pub all-head : {X : Type 0} (p : X → Bool) (x : X) (xs : List X) → list_all p (x ∷ xs) ≡ true → p x ≡ true
all-head p x xs h = (and_parts (p x) (list_all p xs) h).0

pub all-tail : {X : Type 0} (p : X → Bool) (x : X) (xs : List X) → list_all p (x ∷ xs) ≡ true → list_all p xs ≡ true
all-tail p x xs h = (and_parts (p x) (list_all p xs) h).1

-- each item passes, where it does so by a test on it and its empty list
pub passes-each : {A B : Type 0} (p q : A → Bool) (f : A → List B) → ((a : A) → p a ≡ true → f a ≡ [] → q a ≡ true) → (xs : List A) → list_all p xs ≡ true → each f xs ≡ [] → list_all q xs ≡ true
passes-each p q f here [] h e = refl
passes-each p q f here (x ∷ xs) h e =
    let hs = and_parts (p x) (list_all p xs) h in
    and_from _ _ (here x hs.0 (none-left (f x) (each f xs) e)) (passes-each p q f here xs hs.1 (none-right (f x) (each f xs) e))

-- ---- the tokens of parts of a tree

pub lexical-left : (xs ys : List Mark) → are_lexical (xs ++ ys) ≡ true → are_lexical xs ≡ true
lexical-left xs ys h = all-left (λ (m : Mark). is_lexical m.0.kind) xs ys h

pub lexical-right : (xs ys : List Mark) → are_lexical (xs ++ ys) ≡ true → are_lexical ys ≡ true
lexical-right xs ys h = all-right (λ (m : Mark). is_lexical m.0.kind) xs ys h

pub lexical-head : (x : Mark) (xs : List Mark) → are_lexical (x ∷ xs) ≡ true → is_lexical x.0.kind ≡ true
lexical-head x xs h = all-head (λ (m : Mark). is_lexical m.0.kind) x xs h

pub lexical-tail : (x : Mark) (xs : List Mark) → are_lexical (x ∷ xs) ≡ true → are_lexical xs ≡ true
lexical-tail x xs h = all-tail (λ (m : Mark). is_lexical m.0.kind) x xs h

-- the tokens one by one, so that a field takes out the fact on each
abbrev pub AllLexical : List Mark → Type 0
AllLexical [] = Unit {0}
AllLexical (x ∷ xs) = (is_lexical x.0.kind ≡ true) × AllLexical xs

pub lexical-parts : (xs : List Mark) → are_lexical xs ≡ true → AllLexical xs
lexical-parts [] h = tt
lexical-parts (x ∷ xs) h = (lexical-head x xs h, lexical-parts xs (lexical-tail x xs h))

pub parts-lexical : (xs : List Mark) → AllLexical xs → are_lexical xs ≡ true
parts-lexical [] h = refl
parts-lexical (x ∷ xs) h = and_from _ _ h.0 (parts-lexical xs h.1)

-- each item's tokens, where a list of items has these tokens
pub lexical-each : {A : Type 0} (f : A → List Mark) (xs : List A) → are_lexical (each f xs) ≡ true → list_all (λ x. are_lexical (f x)) xs ≡ true
lexical-each f [] h = refl
lexical-each f (x ∷ xs) h = and_from _ _ (lexical-left (f x) (each f xs) h) (lexical-each f xs (lexical-right (f x) (each f xs) h))

-- where the parts of a list spell what passes a test, if their tokens can be those of a text and they have no fault, so does the list
pub lexical-all : {A B : Type 0} (marks : A → List Mark) (faults : A → List Fault) (of : A → List B) (p : B → Bool)
    → ((a : A) → are_lexical (marks a) ≡ true → faults a ≡ [] → list_all p (of a) ≡ true)
    → (list : List A) → are_lexical (each marks list) ≡ true → each faults list ≡ [] → list_all p (each of list) ≡ true
lexical-all marks faults of p part [] l none = refl
lexical-all marks faults of p part (a ∷ more) l none =
    all-append p (of a) (each of more)
    (part a (lexical-left (marks a) (each marks more) l) (none-left (faults a) (each faults more) none))
    (lexical-all marks faults of p part more (lexical-right (marks a) (each marks more) l) (none-right (faults a) (each faults more) none))

-- the tokens of an expression are those of its pieces, whatever their depths
abbrev pub are_lexical_pieces : List e.Piece → Bool
are_lexical_pieces pieces = list_all (λ x. is_lexical x.0.kind) pieces

placed-by : (b : Bool) (x : e.Piece) (n : ℕ) (more : List e.Piece) → ((n : ℕ) → are_lexical (e.placed n more) ≡ are_lexical_pieces more)
    → are_lexical (cond b ((x.0, max x.1 (suc n)) ∷ e.placed (suc n) more) ((x.0, x.1) ∷ e.placed n more)) ≡ (is_lexical x.0.kind && are_lexical_pieces more)
placed-by true x n more h = ap (λ z. is_lexical x.0.kind && z) (h (suc n))
placed-by false x n more h = ap (λ z. is_lexical x.0.kind && z) (h n)

pub lexical-placed : (n : ℕ) (pieces : List e.Piece) → are_lexical (e.placed n pieces) ≡ are_lexical_pieces pieces
lexical-placed n [] = refl
lexical-placed n (x ∷ more) = placed-by x.2 x n more (λ z. lexical-placed z more)

pub lexical-expr : (d : ℕ) (x : e.Expr) → are_lexical (e.expr_marks d x) ≡ true → are_lexical_pieces (e.pieces d x) ≡ true
lexical-expr d x h = sym (lexical-placed 0 (e.pieces d x)) ∙ h

lexical-tokens : (marks : List Mark) → are_lexical marks ≡ all_lexical (tokens marks)
lexical-tokens [] = refl
lexical-tokens (x ∷ more) = ap (λ z. is_lexical x.0.kind && z) (lexical-tokens more)

-- ---- the tokens of a text

string-byte : (byte : ℕ) → is_plain byte ≡ true → nat_le byte 255 ≡ true → is_string_byte byte ≡ true
string-byte byte h g = grind (arith, nat_tests)

escape-byte : (byte : ℕ) → eqb byte 110 ≡ false → eqb byte 116 ≡ false → is_escape byte ≡ true → is_string_byte byte ≡ true
escape-byte byte a b h = grind (arith, nat_tests)

escape-by : (a b : Bool) (byte : ℕ) → eqb byte 110 ≡ a → eqb byte 116 ≡ b → is_escape byte ≡ true → is_string_byte (if a then 10 else (if b then 9 else byte)) ≡ true
escape-by true b byte g h known = refl
escape-by false true byte g h known = refl
escape-by false false byte g h known = escape-byte byte g h known

string-of : (cs : List Character) → list_all is_character cs ≡ true → are_bytes (characters_spelled cs) ≡ true → is_string (map m.character_value cs) ≡ true
string-of [] h g = refl
string-of (Plain byte ∷ cs) h g =
    let hs = and_parts (is_plain byte) (list_all is_character cs) h in
    let gs = and_parts (nat_le byte 255) (are_bytes (characters_spelled cs)) g in
    and_from _ _ (string-byte byte hs.0 gs.0) (string-of cs hs.1 gs.1)
string-of (Escape byte ∷ cs) h g =
    let hs = and_parts (is_escape byte) (list_all is_character cs) h in
    let gs = and_parts (nat_le byte 255) (are_bytes (characters_spelled cs)) g in
    and_from _ _ (escape-by (eqb byte 110) (eqb byte 116) byte refl refl hs.0) (string-of cs hs.1 gs.1)

word-by : (b : Bool) (x : Word) (other : Kind) → is_lexical other ≡ true → is_lexical (cond b (IsWord x) other) ≡ true
word-by true x other h = refl
word-by false x other h = h

word-lexical : (known : List Word) (text : List ℕ) → is_lexical (word_among known text) ≡ true
word-lexical [] text = refl
word-lexical (x ∷ more) text = word-by (bytes_eq text (word_text x)) x (word_among more text) (word-lexical more text)

sign-by : (b : Bool) (x : Sign) (other : Kind) → is_lexical other ≡ true → is_lexical (cond b (IsSign x) other) ≡ true
sign-by true x other h = refl
sign-by false x other h = h

sign-lexical : (known : List Sign) (text : List ℕ) → is_lexical (sign_among known text) ≡ true
sign-lexical [] text = refl
sign-lexical (x ∷ more) text = sign-by (bytes_eq text (sign_text x)) x (sign_among more text) (sign-lexical more text)

-- the tokens of the text as the grammar knows them
abbrev are_read : List t.Token → Bool
are_read list = list_all (λ x. is_lexical (kind_read x.kind)) list

name-read : (text : List ℕ) (spot : Spot) (b : Bool) → is_word_text text ≡ b → is_identifier text ≡ true
    → are_read (token_of (m.Counts (if b then lexed_kind.Word text else lexed_kind.Name text)) spot) ≡ true
name-read text spot true w h = and_from _ _ (word-lexical words text) refl
name-read text spot false w h = and_from _ _ (and_from _ _ h (ap not w)) refl

small-number : (n : ℕ) → leb n 2147483647 ≡ true → is_number (pos n) ≡ true
small-number n h = grind (arith, nat_tests)

number-read : (text : List ℕ) (spot : Spot) (b : Bool) → m.is_number text ≡ b → are_read (token_of (if b then m.Counts (lexed_kind.Number (pos (m.decimal text))) else m.Refuses r.BadNumber) spot) ≡ true
number-read text spot false w = refl
number-read text spot true w =
    let value = (and_parts (not (m.has_leading_zero text)) (m.is_value text) w).1 in
    and_from _ _ (small-number (m.decimal text) (and_parts (list_all is_ascii_digit text) (leb (m.decimal text) 2147483647) value).1) refl

quoted-read : (cs : List Character) (spot : Spot) → list_all is_character cs ≡ true → are_bytes (34 ∷ (characters_spelled cs ++ 34 ∷ [])) ≡ true
    → are_read (token_of (m.Counts (lexed_kind.Quoted (map m.character_value cs))) spot) ≡ true
quoted-read cs spot h b =
    and_from _ _ (string-of cs h (all-left (λ byte. nat_le byte 255) (characters_spelled cs) (34 ∷ []) (all-tail (λ byte. nat_le byte 255) 34 (characters_spelled cs ++ 34 ∷ []) b))) refl

piece-read : (piece : Piece) (spot : Spot) → is_piece piece ≡ true → are_bytes (spelling piece) ≡ true → are_read (token_of (m.verdict piece) spot) ≡ true
piece-read (Blank byte) spot h b = refl
piece-read (LineComment body) spot h b = refl
piece-read (ClosedComment body) spot h b = refl
piece-read (UnclosedComment body) spot h b = refl
piece-read (Identifier text) spot h b = name-read text spot (is_word_text text) refl h
piece-read (Numeral text) spot h b = number-read text spot (m.is_number text) refl
piece-read (Literal characters) spot h b = quoted-read characters spot h b
piece-read (Punctuator text) spot h b = and_from _ _ (sign-lexical signs text) refl
piece-read (Stray byte) spot h b = refl

tokens-read : (before : List ℕ) (pieces : List Piece) (text : List ℕ) → Divides pieces text → are_bytes text ≡ true → are_read (tokens_behind before pieces) ≡ true
tokens-read before [] text d b = refl
tokens-read before (piece ∷ pieces) text d b =
    let bytes : are_bytes (spelling piece ++ d.0) ≡ true = ap are_bytes (sym d.1.0.front) ∙ b in
    all-append (λ x. is_lexical (kind_read x.kind)) (token_of (m.verdict piece) (spot_behind before)) (tokens_behind (before ++ spelling piece) pieces)
    (piece-read piece (spot_behind before) d.1.0.known (all-left (λ byte. nat_le byte 255) (spelling piece) d.0 bytes))
    (tokens-read (before ++ spelling piece) pieces d.0 d.1.2 (all-right (λ byte. nat_le byte 255) (spelling piece) d.0 bytes))

-- the tokens of a file that is read
pub parsed-lexical : (end : Spot) (file : File) → IsParsed end file → are_lexical (file_marks file) ≡ true
parsed-lexical end file parsed =
    lexical-tokens (file_marks file) ∙ ap all_lexical (sym parsed.read.spelled) ∙ ap (λ z. all_lexical (tokens_read z)) parsed.lexes.tokens
    ∙ list_all-map (λ x. is_lexical x.kind) token_read (tokens_of parsed.lexes.pieces)
    ∙ tokens-read [] parsed.lexes.pieces parsed.text parsed.lexes.division parsed.bytes
