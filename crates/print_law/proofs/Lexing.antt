-- Items that stand apart are read again as their tokens.
use Rattle.std.proofs.Common.{◌≡◌, ℕ, ℤ, pos, negsuc, ◌^◌, ◌<◌, ◌≤◌, eqb, int_le, Bool, true, false, not, ◌&&◌, List, [], ◌∷◌, ◌++◌, map, Option, Some, None, append_assoc, append-nil, refl, ap, sym, ◌∙◌, subst, arith, true≢false, if◌then◌else◌}
use Rattle.std.proofs.lemmas.Bool.{and_parts, eqb-true, not-true, leb-true, le-leb}
use Rattle.std.specs.Fmt as fmt
use Rattle.std.specs.List.{list_all}
use Rattle.std.specs.Char.{is_ascii_digit}
use Rattle.cfix_base.specs.Words.{is_name_start, is_name_byte, is_identifier, is_word_text, is_name_text}
use Rattle.cfix_base.specs.declared.spot.Spot.{Spot}
use Rattle.c_grammar.specs.declared.sign.Sign.{Sign}
use Rattle.c_grammar.specs.declared.sign.Sign.TheVariants as s
use Rattle.c_grammar.specs.declared.word.Word.{Word}
use Rattle.c_grammar.specs.declared.word.Word.TheVariants as w
use Rattle.c_grammar.specs.Marks.{first}
use Rattle.c_grammar.specs.Spelling.{word_text, sign_text}
use Rattle.c_grammar.specs.Token.{Kind, IsName, IsNumber, IsQuoted, IsWord, IsOther, IsSign}
use Rattle.c_grammar.proofs.Spelling.{word_spelled, sign_spelled}
use Rattle.c_lex.specs.declared.token.Kind as lexed_kind
use Rattle.c_lex.specs.declared.token.Kind.TheVariants as k
use Rattle.c_lex.specs.declared.token.Token as lexed
use Rattle.c_lex.specs.Bytes.{is_sign, is_numeral}
use Rattle.c_lex.specs.Pieces.{Piece, Blank, Identifier, Numeral, Literal, Punctuator, spelling, is_piece}
use Rattle.c_lex.specs.Division.{Divides}
use Rattle.c_lex.specs.Meaning.{Counts, verdict, is_number, decimal}
use Rattle.c_lex.specs.Faults.{spot_behind, tokens_behind, token_of}
use Rattle.c_lex.specs.Reading.{pieces_at}
use Rattle.c_lex.proofs.Again.{IsFirst, again, blank_first, begins_by, identifier_first, numeral_first, literal_first, two_first, one_first}
use Rattle.c_lex.proofs.Classes.{start_is_byte, digit_is_byte}
use Rattle.c_lex.proofs.Divisions.{divides}
use Rattle.c_grammar.specs.Lexical.{kind_read, token_read, tokens_read}
use Rattle.c_names.specs.Texts.{is_known, DividesInto}
use Rattle.c_print.specs.Text.Pieces as pieces
use Rattle.c_prog.specs.Order.{joined}
use Rattle.c_prog.specs.Valid.Expressions as valid
use Rattle.c_prog.specs.Valid.Strings.{is_string}
use Rattle.print_law.proofs.Items.{Item, Gap, Is, kinds, marked, marked-append}
use Rattle.print_law.proofs.Texts.{kind_text, item_text, spelled}
use Rattle.print_law.proofs.Apart.{sign_stands, shuts, apart, fits, both}
use Rattle.print_law.proofs.Lines.{Line, line_kinds, all_fit}
use Rattle.print_law.proofs.Parts.{line_spots, spots_of, lines_text, beyond-line}
use Rattle.print_law.proofs.Decimals.{Written, written}
use Rattle.print_law.proofs.Quotes.{characters_of, quote-spelled, quote-known, quote-value}

-- which tokens a text can have
abbrev pub kind_ok : Kind → Bool
kind_ok (IsName text) = is_name_text text
kind_ok (IsNumber n) = valid.is_number n
kind_ok (IsQuoted bytes) = is_string bytes
kind_ok (IsWord x) = true
kind_ok (IsOther text) = false
kind_ok (IsSign x) = true

abbrev pub items_ok : List Item → Bool
items_ok [] = true
items_ok (Gap ∷ items) = items_ok items
items_ok (Is k ∷ items) = kind_ok k && items_ok items

abbrev pub lines_ok : List Line → Bool
lines_ok [] = true
lines_ok (line ∷ more) = items_ok line && lines_ok more

-- the piece that an item is
abbrev pub kind_piece : Kind → Piece
kind_piece (IsName text) = Identifier text
kind_piece (IsNumber n) = Numeral (fmt.signed_decimal n)
kind_piece (IsQuoted bytes) = Literal (characters_of bytes)
kind_piece (IsWord x) = Identifier (word_text x)
kind_piece (IsOther text) = Identifier text
kind_piece (IsSign x) = Punctuator (sign_text x)

abbrev pub item_piece : Item → Piece
item_piece Gap = Blank 32
item_piece (Is k) = kind_piece k

kind-spelled : (k : Kind) → spelling (kind_piece k) ≡ kind_text k
kind-spelled (IsName text) = refl
kind-spelled (IsNumber n) = refl
kind-spelled (IsQuoted bytes) = ap (λ z. 34 ∷ (z ++ 34 ∷ [])) (sym (quote-spelled bytes))
kind-spelled (IsWord x) = refl
kind-spelled (IsOther text) = refl
kind-spelled (IsSign x) = refl

item-spelled : (i : Item) → spelling (item_piece i) ≡ item_text i
item-spelled Gap = refl
item-spelled (Is k) = kind-spelled k

-- what the words and signs are

record WordFacts (x : Word) : Type 0 where
  identifier : is_identifier (word_text x) ≡ true
  is_word : is_word_text (word_text x) ≡ true

word-facts : (x : Word) → WordFacts x
word-facts w.Break = record { identifier = refl; is_word = refl }
word-facts w.Continue = record { identifier = refl; is_word = refl }
word-facts w.Else = record { identifier = refl; is_word = refl }
word-facts w.For = record { identifier = refl; is_word = refl }
word-facts w.If = record { identifier = refl; is_word = refl }
word-facts w.Int = record { identifier = refl; is_word = refl }
word-facts w.Long = record { identifier = refl; is_word = refl }
word-facts w.Return = record { identifier = refl; is_word = refl }
word-facts w.Static = record { identifier = refl; is_word = refl }
word-facts w.Void = record { identifier = refl; is_word = refl }
word-facts w.Volatile = record { identifier = refl; is_word = refl }
word-facts w.While = record { identifier = refl; is_word = refl }
word-facts w.Null = record { identifier = refl; is_word = refl }
word-facts w.Printf = record { identifier = refl; is_word = refl }
word-facts w.Scanf = record { identifier = refl; is_word = refl }
word-facts w.Thread = record { identifier = refl; is_word = refl }
word-facts w.Mutex = record { identifier = refl; is_word = refl }
word-facts w.Create = record { identifier = refl; is_word = refl }
word-facts w.Join = record { identifier = refl; is_word = refl }
word-facts w.Lock = record { identifier = refl; is_word = refl }
word-facts w.Unlock = record { identifier = refl; is_word = refl }
word-facts w.MutexInitializer = record { identifier = refl; is_word = refl }
word-facts w.Cond = record { identifier = refl; is_word = refl }
word-facts w.CondWait = record { identifier = refl; is_word = refl }
word-facts w.Signal = record { identifier = refl; is_word = refl }
word-facts w.Broadcast = record { identifier = refl; is_word = refl }
word-facts w.CondInitializer = record { identifier = refl; is_word = refl }
word-facts w.Enter = record { identifier = refl; is_word = refl }
word-facts w.Leave = record { identifier = refl; is_word = refl }
word-facts w.Wait = record { identifier = refl; is_word = refl }
word-facts w.Done = record { identifier = refl; is_word = refl }
word-facts w.First = record { identifier = refl; is_word = refl }
word-facts w.Add = record { identifier = refl; is_word = refl }
word-facts w.Value = record { identifier = refl; is_word = refl }

-- a byte that goes on with no sign and begins no comment
record Calm (c : ℕ) : Type 0 where
  equal : eqb c 61 ≡ false
  ampersand : eqb c 38 ≡ false
  bar : eqb c 124 ≡ false
  plus : eqb c 43 ≡ false
  minus : eqb c 45 ≡ false
  slash : eqb c 47 ≡ false
  star : eqb c 42 ≡ false

abbrev passes : (ℕ → Bool) → List ℕ → Bool
passes p [] = true
passes p (byte ∷ rest) = p byte

-- a sign of one byte goes on with no such byte; one of two bytes goes on with nothing
abbrev SignAlone : Sign → Type 0
SignAlone x = (c : ℕ) → Calm c → sign_stands (sign_text x) (c ∷ []) ≡ true

sign-alone : (x : Sign) → SignAlone x
sign-alone s.OpenParen c h = refl
sign-alone s.CloseParen c h = refl
sign-alone s.OpenBrace c h = refl
sign-alone s.CloseBrace c h = refl
sign-alone s.OpenBracket c h = refl
sign-alone s.CloseBracket c h = refl
sign-alone s.Semicolon c h = refl
sign-alone s.Comma c h = refl
sign-alone s.Assign c h = simp (h.equal) refl
sign-alone s.Plus c h = simp (h.equal, h.plus) refl
sign-alone s.Minus c h = simp (h.equal, h.minus) refl
sign-alone s.Star c h = simp (h.equal) refl
sign-alone s.Slash c h = simp (h.equal, h.slash, h.star) refl
sign-alone s.Percent c h = simp (h.equal) refl
sign-alone s.Less c h = simp (h.equal) refl
sign-alone s.Greater c h = simp (h.equal) refl
sign-alone s.LessEqual c h = refl
sign-alone s.GreaterEqual c h = refl
sign-alone s.Equal c h = refl
sign-alone s.NotEqual c h = refl
sign-alone s.Not c h = simp (h.equal) refl
sign-alone s.AndAnd c h = refl
sign-alone s.OrOr c h = refl
sign-alone s.Ampersand c h = simp (h.ampersand) refl
sign-alone s.PlusPlus c h = refl
sign-alone s.MinusMinus c h = refl
sign-alone s.PlusAssign c h = refl
sign-alone s.MinusAssign c h = refl
sign-alone s.StarAssign c h = refl
sign-alone s.SlashAssign c h = refl
sign-alone s.PercentAssign c h = refl
sign-alone s.Hash c h = refl
sign-alone s.Dot c h = refl

apart-from : (p : ℕ → Bool) (c k : ℕ) → p c ≡ true → p k ≡ false → eqb c k ≡ false
apart-from p c k h none = by (eqb c k) refl
  where
    by : (test : Bool) → eqb c k ≡ test → eqb c k ≡ false
    by true e = absurd (true≢false (sym h ∙ ap p (eqb-true c k e) ∙ none))
    by false e = e

calm-name : (c : ℕ) → is_name_byte c ≡ true → Calm c
calm-name c h = record {
  equal = apart-from is_name_byte c 61 h refl;
  ampersand = apart-from is_name_byte c 38 h refl;
  bar = apart-from is_name_byte c 124 h refl;
  plus = apart-from is_name_byte c 43 h refl;
  minus = apart-from is_name_byte c 45 h refl;
  slash = apart-from is_name_byte c 47 h refl;
  star = apart-from is_name_byte c 42 h refl;
}

calm-quote : Calm 34
calm-quote = record { equal = refl; ampersand = refl; bar = refl; plus = refl; minus = refl; slash = refl; star = refl }

calm-space : Calm 32
calm-space = record { equal = refl; ampersand = refl; bar = refl; plus = refl; minus = refl; slash = refl; star = refl }

calm-feed : Calm 10
calm-feed = record { equal = refl; ampersand = refl; bar = refl; plus = refl; minus = refl; slash = refl; star = refl }

-- the first byte of a text
record Front (text : List ℕ) : Type 0 where
  byte : ℕ
  tail : List ℕ
  is : text ≡ byte ∷ tail

-- numbers

decimal-front : (n : ℕ) (text : List ℕ) → Written n text → (f : Front text) × (is_name_byte f.byte ≡ true)
decimal-front n [] h = absurd (true≢false (sym h.some))
decimal-front n (byte ∷ tail) h = (record { byte = byte; tail = tail; is = refl }, digit_is_byte byte (and_parts (is_ascii_digit byte) _ h.digits).0)

number-range : (n : ℤ) → valid.is_number n ≡ true → (m : ℕ) × (n ≡ pos m) × (m ≤ 2147483647)
number-range (pos m) h = (m, refl, leb-true m 2147483647 (and_parts (int_le (pos 0) (pos m)) (int_le (pos m) (pos 2147483647)) h).1)
number-range (negsuc m) h = absurd (true≢false (sym h))

small : (m : ℕ) → m ≤ 2147483647 → m < 2 ^ 64
small m h = omega (arith, h)

numeral-known : (n : ℕ) (text : List ℕ) → Written n text → is_numeral text ≡ true
numeral-known n [] h = absurd (true≢false (sym h.some))
numeral-known n (byte ∷ tail) h =
    let hs = and_parts (is_ascii_digit byte) (list_all is_ascii_digit tail) h.digits in
    both _ _ hs.0 (all-bytes tail hs.1)
  where
    all-bytes : (xs : List ℕ) → list_all is_ascii_digit xs ≡ true → list_all is_name_byte xs ≡ true
    all-bytes [] g = refl
    all-bytes (x ∷ xs) g = let gs = and_parts (is_ascii_digit x) (list_all is_ascii_digit xs) g in both _ _ (digit_is_byte x gs.0) (all-bytes xs gs.1)

number-read : (n : ℕ) (text : List ℕ) → Written n text → n ≤ 2147483647 → is_number text ≡ true
number-read n text h small =
    let value = h.value in
    both _ _ (ap not h.first) (both _ _ h.digits (le-leb (decimal text) 2147483647 (omega (arith, value, small))))

pick : {A : Type 0} (b : Bool) (x y : A) → b ≡ true → (if b then x else y) ≡ x
pick b x y e = rw e refl

drop-else : {A : Type 0} (b : Bool) (x y : A) → b ≡ false → (if b then x else y) ≡ y
drop-else b x y e = rw e refl

-- a piece of a text: known, and read as the token
record Read (k : Kind) : Type 0 where
  known : is_piece (kind_piece k) ≡ true
  counts : (l : lexed_kind.Kind) × (verdict (kind_piece k) ≡ Counts l) × (kind_read l ≡ k)

sign-known : (x : Sign) → is_sign (sign_text x) ≡ true
sign-known s.OpenParen = refl
sign-known s.CloseParen = refl
sign-known s.OpenBrace = refl
sign-known s.CloseBrace = refl
sign-known s.OpenBracket = refl
sign-known s.CloseBracket = refl
sign-known s.Semicolon = refl
sign-known s.Comma = refl
sign-known s.Assign = refl
sign-known s.Plus = refl
sign-known s.Minus = refl
sign-known s.Star = refl
sign-known s.Slash = refl
sign-known s.Percent = refl
sign-known s.Less = refl
sign-known s.Greater = refl
sign-known s.LessEqual = refl
sign-known s.GreaterEqual = refl
sign-known s.Equal = refl
sign-known s.NotEqual = refl
sign-known s.Not = refl
sign-known s.AndAnd = refl
sign-known s.OrOr = refl
sign-known s.Ampersand = refl
sign-known s.PlusPlus = refl
sign-known s.MinusMinus = refl
sign-known s.PlusAssign = refl
sign-known s.MinusAssign = refl
sign-known s.StarAssign = refl
sign-known s.SlashAssign = refl
sign-known s.PercentAssign = refl
sign-known s.Hash = refl
sign-known s.Dot = refl

kind-read : (k : Kind) → kind_ok k ≡ true → Read k
kind-read (IsName text) h =
    let hs = and_parts (is_identifier text) (not (is_word_text text)) h in
    record { known = hs.0; counts = (k.Name text, ap Counts (drop-else (is_word_text text) (k.Word text) (k.Name text) (not-true _ hs.1)), refl) }
kind-read (IsNumber n) h =
    let r = number-range n h in
    let w = written r.0 (small r.0 r.2) in
    subst Read (ap IsNumber (sym r.1))
    (record {
      known = numeral-known r.0 (fmt.decimal r.0) w;
      counts = (
        k.Number (pos (decimal (fmt.decimal r.0))),
        pick (is_number (fmt.decimal r.0)) _ _ (number-read r.0 (fmt.decimal r.0) w r.2),
        ap (λ z. IsNumber (pos z)) w.value,
      );
    })
kind-read (IsQuoted bytes) h = record { known = quote-known bytes h; counts = (k.Quoted bytes, ap (λ z. Counts (k.Quoted z)) (quote-value bytes), refl) }
kind-read (IsWord x) h =
    let f = word-facts x in
    record { known = f.identifier; counts = (k.Word (word_text x), ap Counts (pick (is_word_text (word_text x)) (k.Word (word_text x)) (k.Name (word_text x)) f.is_word), word_spelled x) }
kind-read (IsOther text) h = absurd (true≢false (sym h))
kind-read (IsSign x) h = record { known = sign-known x; counts = (k.Sign (sign_text x), refl, sign_spelled x) }

-- the first byte of a token's text

sign-front : (x : Sign) → (f : Front (sign_text x)) × (is_name_byte f.byte ≡ false)
sign-front s.OpenParen = (record { byte = 40; tail = []; is = refl }, refl)
sign-front s.CloseParen = (record { byte = 41; tail = []; is = refl }, refl)
sign-front s.OpenBrace = (record { byte = 123; tail = []; is = refl }, refl)
sign-front s.CloseBrace = (record { byte = 125; tail = []; is = refl }, refl)
sign-front s.OpenBracket = (record { byte = 91; tail = []; is = refl }, refl)
sign-front s.CloseBracket = (record { byte = 93; tail = []; is = refl }, refl)
sign-front s.Semicolon = (record { byte = 59; tail = []; is = refl }, refl)
sign-front s.Comma = (record { byte = 44; tail = []; is = refl }, refl)
sign-front s.Assign = (record { byte = 61; tail = []; is = refl }, refl)
sign-front s.Plus = (record { byte = 43; tail = []; is = refl }, refl)
sign-front s.Minus = (record { byte = 45; tail = []; is = refl }, refl)
sign-front s.Star = (record { byte = 42; tail = []; is = refl }, refl)
sign-front s.Slash = (record { byte = 47; tail = []; is = refl }, refl)
sign-front s.Percent = (record { byte = 37; tail = []; is = refl }, refl)
sign-front s.Less = (record { byte = 60; tail = []; is = refl }, refl)
sign-front s.Greater = (record { byte = 62; tail = []; is = refl }, refl)
sign-front s.LessEqual = (record { byte = 60; tail = 61 ∷ []; is = refl }, refl)
sign-front s.GreaterEqual = (record { byte = 62; tail = 61 ∷ []; is = refl }, refl)
sign-front s.Equal = (record { byte = 61; tail = 61 ∷ []; is = refl }, refl)
sign-front s.NotEqual = (record { byte = 33; tail = 61 ∷ []; is = refl }, refl)
sign-front s.Not = (record { byte = 33; tail = []; is = refl }, refl)
sign-front s.AndAnd = (record { byte = 38; tail = 38 ∷ []; is = refl }, refl)
sign-front s.OrOr = (record { byte = 124; tail = 124 ∷ []; is = refl }, refl)
sign-front s.Ampersand = (record { byte = 38; tail = []; is = refl }, refl)
sign-front s.PlusPlus = (record { byte = 43; tail = 43 ∷ []; is = refl }, refl)
sign-front s.MinusMinus = (record { byte = 45; tail = 45 ∷ []; is = refl }, refl)
sign-front s.PlusAssign = (record { byte = 43; tail = 61 ∷ []; is = refl }, refl)
sign-front s.MinusAssign = (record { byte = 45; tail = 61 ∷ []; is = refl }, refl)
sign-front s.StarAssign = (record { byte = 42; tail = 61 ∷ []; is = refl }, refl)
sign-front s.SlashAssign = (record { byte = 47; tail = 61 ∷ []; is = refl }, refl)
sign-front s.PercentAssign = (record { byte = 37; tail = 61 ∷ []; is = refl }, refl)
sign-front s.Hash = (record { byte = 35; tail = []; is = refl }, refl)
sign-front s.Dot = (record { byte = 46; tail = []; is = refl }, refl)

identifier-front : (text : List ℕ) → is_identifier text ≡ true → (f : Front text) × (is_name_byte f.byte ≡ true)
identifier-front [] h = absurd (true≢false (sym h))
identifier-front (byte ∷ tail) h =
    (record { byte = byte; tail = tail; is = refl }, start_is_byte byte (and_parts (is_name_start byte) (list_all is_name_byte tail) h).0)

-- the first byte of a token that is no sign, or of a blank, is calm
other-front : (k : Kind) → kind_ok k ≡ true → ((x : Sign) → k ≡ IsSign x → ⊥) → (f : Front (kind_text k)) × Calm f.byte
other-front (IsName text) h none = let f = identifier-front text (and_parts (is_identifier text) (not (is_word_text text)) h).0 in (f.0, calm-name f.0.byte f.1)
other-front (IsNumber n) h none =
    let r = number-range n h in
    let f = decimal-front r.0 (fmt.decimal r.0) (written r.0 (small r.0 r.2)) in
    (record { byte = f.0.byte; tail = f.0.tail; is = ap fmt.signed_decimal r.1 ∙ f.0.is }, calm-name f.0.byte f.1)
other-front (IsQuoted bytes) h none = (record { byte = 34; tail = joined (map pieces.escaped bytes) ++ 34 ∷ []; is = refl }, calm-quote)
other-front (IsWord x) h none = let f = identifier-front (word_text x) (word-facts x).identifier in (f.0, calm-name f.0.byte f.1)
other-front (IsOther text) h none = absurd (true≢false (sym h))
other-front (IsSign x) h none = absurd (none x refl)

-- what stands behind an item

abbrev Behind : Option Item → List ℕ → Type 0
Behind None text = (tail : List ℕ) × (text ≡ 10 ∷ tail)
Behind (Some Gap) text = (tail : List ℕ) × (text ≡ 32 ∷ tail)
Behind (Some (Is k)) text = (tail : List ℕ) × (text ≡ kind_text k ++ tail) × (kind_ok k ≡ true)

behind : (items : List Item) (rest : List ℕ) → items_ok items ≡ true → Behind (first items None) (spelled items ++ 10 ∷ rest)
behind [] rest h = (rest, refl)
behind (Gap ∷ items) rest h = (spelled items ++ 10 ∷ rest, refl)
behind (Is k ∷ items) rest h = (spelled items ++ 10 ∷ rest, append_assoc (kind_text k) (spelled items) (10 ∷ rest), (and_parts (kind_ok k) (items_ok items) h).0)

-- what may follow a name, a word or a number
abbrev shut_by : Option Item → Bool
shut_by None = true
shut_by (Some Gap) = true
shut_by (Some (Is k)) = shuts k

abbrev is_shut : Kind → Bool
is_shut (IsQuoted bytes) = false
is_shut (IsSign x) = false
is_shut _ = true

-- the first byte of what stands behind

begins-by : (p : ℕ → Bool) (text tail : List ℕ) (byte : ℕ) → text ≡ byte ∷ tail → p byte ≡ false → begins_by p text ≡ false
begins-by p text tail byte e h = ap (begins_by p) e ∙ h

front-append : (text front tail : List ℕ) (f : Front front) → text ≡ front ++ tail → text ≡ f.byte ∷ (f.tail ++ tail)
front-append text front tail f e = e ∙ ap (λ z. z ++ tail) f.is

stops : (next : Option Item) (text : List ℕ) → Behind next text → shut_by next ≡ true → begins_by is_name_byte text ≡ false
stops None text b h = begins-by is_name_byte text b.0 10 b.1 refl
stops (Some Gap) text b h = begins-by is_name_byte text b.0 32 b.1 refl
stops (Some (Is (IsSign y))) text b h =
    let f = sign-front y in
    begins-by is_name_byte text (f.0.tail ++ b.0) f.0.byte (front-append text (sign_text y) b.0 f.0 b.1) f.1
stops (Some (Is (IsQuoted bytes))) text b h = begins-by is_name_byte text ((joined (map pieces.escaped bytes) ++ 34 ∷ []) ++ b.0) 34 b.1 refl
stops (Some (Is (IsName text))) _ b h = absurd (true≢false (sym h))
stops (Some (Is (IsNumber n))) text b h = absurd (true≢false (sym h))
stops (Some (Is (IsWord x))) text b h = absurd (true≢false (sym h))
stops (Some (Is (IsOther text))) _ b h = absurd (true≢false (sym h))

-- signs

front-only : (sign : List ℕ) (c : ℕ) (tail : List ℕ) → sign_stands sign (c ∷ tail) ≡ sign_stands sign (c ∷ [])
front-only [] c tail = refl
front-only (b ∷ []) c tail = refl
front-only (b ∷ b2 ∷ rest) c tail = refl

calm-behind : (x : Sign) (text tail : List ℕ) (c : ℕ) → text ≡ c ∷ tail → Calm c → sign_stands (sign_text x) text ≡ true
calm-behind x text tail c e h = ap (sign_stands (sign_text x)) e ∙ front-only (sign_text x) c tail ∙ sign-alone x c h

other-behind : (x : Sign) (l : Kind) (text : List ℕ) → Behind (Some (Is l)) text → ((y : Sign) → l ≡ IsSign y → ⊥) → sign_stands (sign_text x) text ≡ true
other-behind x l text b none =
    let f = other-front l b.2 none in
    calm-behind x text (f.0.tail ++ b.0) f.0.byte (front-append text (kind_text l) b.0 f.0 b.1) f.1

sign-behind : (x : Sign) (next : Option Item) (text : List ℕ) → Behind next text → apart (Is (IsSign x)) next ≡ true → sign_stands (sign_text x) text ≡ true
sign-behind x None text b h = calm-behind x text b.0 10 b.1 calm-feed
sign-behind x (Some Gap) text b h = calm-behind x text b.0 32 b.1 calm-space
sign-behind x (Some (Is (IsSign y))) text b h =
    let f = sign-front y in
    ap (sign_stands (sign_text x)) (front-append text (sign_text y) b.0 f.0 b.1)
    ∙ front-only (sign_text x) f.0.byte (f.0.tail ++ b.0) ∙ sym (front-only (sign_text x) f.0.byte f.0.tail) ∙ ap (sign_stands (sign_text x)) (sym f.0.is) ∙ h
sign-behind x (Some (Is (IsName t))) text b h = other-behind x (IsName t) text b (λ y e. cc)
sign-behind x (Some (Is (IsNumber n))) text b h = other-behind x (IsNumber n) text b (λ y e. cc)
sign-behind x (Some (Is (IsQuoted bytes))) text b h = other-behind x (IsQuoted bytes) text b (λ y e. cc)
sign-behind x (Some (Is (IsWord y))) text b h = other-behind x (IsWord y) text b (λ y e. cc)
sign-behind x (Some (Is (IsOther t))) text b h = other-behind x (IsOther t) text b (λ y e. cc)

sign-first : (x : Sign) (text : List ℕ) → sign_stands (sign_text x) text ≡ true → IsFirst (Punctuator (sign_text x)) (sign_text x ++ text)
sign-first s.OpenParen text h = one_first 40 text refl (not-true _ h)
sign-first s.CloseParen text h = one_first 41 text refl (not-true _ h)
sign-first s.OpenBrace text h = one_first 123 text refl (not-true _ h)
sign-first s.CloseBrace text h = one_first 125 text refl (not-true _ h)
sign-first s.OpenBracket text h = one_first 91 text refl (not-true _ h)
sign-first s.CloseBracket text h = one_first 93 text refl (not-true _ h)
sign-first s.Semicolon text h = one_first 59 text refl (not-true _ h)
sign-first s.Comma text h = one_first 44 text refl (not-true _ h)
sign-first s.Assign text h = one_first 61 text refl (not-true _ h)
sign-first s.Plus text h = one_first 43 text refl (not-true _ h)
sign-first s.Minus text h = one_first 45 text refl (not-true _ h)
sign-first s.Star text h = one_first 42 text refl (not-true _ h)
sign-first s.Slash text h = one_first 47 text refl (not-true _ h)
sign-first s.Percent text h = one_first 37 text refl (not-true _ h)
sign-first s.Less text h = one_first 60 text refl (not-true _ h)
sign-first s.Greater text h = one_first 62 text refl (not-true _ h)
sign-first s.LessEqual text h = two_first 60 61 text refl
sign-first s.GreaterEqual text h = two_first 62 61 text refl
sign-first s.Equal text h = two_first 61 61 text refl
sign-first s.NotEqual text h = two_first 33 61 text refl
sign-first s.Not text h = one_first 33 text refl (not-true _ h)
sign-first s.AndAnd text h = two_first 38 38 text refl
sign-first s.OrOr text h = two_first 124 124 text refl
sign-first s.Ampersand text h = one_first 38 text refl (not-true _ h)
sign-first s.PlusPlus text h = two_first 43 43 text refl
sign-first s.MinusMinus text h = two_first 45 45 text refl
sign-first s.PlusAssign text h = two_first 43 61 text refl
sign-first s.MinusAssign text h = two_first 45 61 text refl
sign-first s.StarAssign text h = two_first 42 61 text refl
sign-first s.SlashAssign text h = two_first 47 61 text refl
sign-first s.PercentAssign text h = two_first 37 61 text refl
sign-first s.Hash text h = one_first 35 text refl (not-true _ h)
sign-first s.Dot text h = one_first 46 text refl (not-true _ h)

-- what a name, a number or a word needs of the next item

apart-shut : (k : Kind) (next : Option Item) → is_shut k ≡ true → apart (Is k) next ≡ true → shut_by next ≡ true
apart-shut k None s h = refl
apart-shut k (Some Gap) s h = refl
apart-shut (IsName t) (Some (Is l)) s h = h
apart-shut (IsNumber n) (Some (Is l)) s h = h
apart-shut (IsWord x) (Some (Is l)) s h = h
apart-shut (IsOther t) (Some (Is l)) s h = h
apart-shut (IsQuoted bytes) (Some (Is l)) s h = absurd (true≢false (sym s))
apart-shut (IsSign x) (Some (Is l)) s h = absurd (true≢false (sym s))

kind-first : (k : Kind) (next : Option Item) (text : List ℕ) → kind_ok k ≡ true → apart (Is k) next ≡ true → Behind next text
    → IsFirst (kind_piece k) (spelling (kind_piece k) ++ text)
kind-first (IsName t) next text h a b =
    identifier_first t text (and_parts (is_identifier t) (not (is_word_text t)) h).0 (stops next text b (apart-shut (IsName t) next refl a))
kind-first (IsNumber n) next text h a b = numeral_first (fmt.signed_decimal n) text (kind-read (IsNumber n) h).known (stops next text b (apart-shut (IsNumber n) next refl a))
kind-first (IsQuoted bytes) next text h a b = literal_first (characters_of bytes) text (quote-known bytes h)
kind-first (IsWord x) next text h a b = identifier_first (word_text x) text (word-facts x).identifier (stops next text b (apart-shut (IsWord x) next refl a))
kind-first (IsOther t) next text h a b = absurd (true≢false (sym h))
kind-first (IsSign x) next text h a b = sign-first x text (sign-behind x next text b a)

-- the pieces of a line, and of lines

abbrev pub lines_pieces : List Line → List Piece
lines_pieces [] = []
lines_pieces (line ∷ more) = map item_piece line ++ Blank 10 ∷ lines_pieces more

found : (piece : Piece) (text rest : List ℕ) → spelling piece ≡ text → is_piece piece ≡ true → IsFirst piece (spelling piece ++ rest) → pieces_at 0 (text ++ rest) ≡ piece ∷ pieces_at 0 rest
found piece text rest e known f = ap (λ z. pieces_at 0 (z ++ rest)) (sym e) ∙ again piece rest known f

line-pieces : (items : List Item) (rest : List ℕ) → items_ok items ≡ true → fits items None ≡ true
    → pieces_at 0 (spelled items ++ 10 ∷ rest) ≡ map item_piece items ++ pieces_at 0 (10 ∷ rest)
line-pieces [] rest h f = refl
line-pieces (Gap ∷ items) rest h f =
    found (Blank 32) (32 ∷ []) (spelled items ++ 10 ∷ rest) refl refl (blank_first 32 (spelled items ++ 10 ∷ rest) refl)
    ∙ ap (λ z. Blank 32 ∷ z) (line-pieces items rest h f)
line-pieces (Is k ∷ items) rest h f =
    let hs = and_parts (kind_ok k) (items_ok items) h in
    let fs = and_parts (apart (Is k) (first items None)) (fits items None) f in
    ap (pieces_at 0) (append_assoc (kind_text k) (spelled items) (10 ∷ rest))
    ∙ found (kind_piece k) (kind_text k) (spelled items ++ 10 ∷ rest) (kind-spelled k) (kind-read k hs.0).known
    (kind-first k (first items None) (spelled items ++ 10 ∷ rest) hs.0 fs.0 (behind items rest hs.1))
    ∙ ap (λ z. kind_piece k ∷ z) (line-pieces items rest hs.1 fs.1)

pub lines-pieces : (lines : List Line) → lines_ok lines ≡ true → all_fit lines ≡ true → pieces_at 0 (lines_text lines) ≡ lines_pieces lines
unfolding pieces_at
lines-pieces [] h f = refl
lines-pieces (line ∷ more) h f =
    let hs = and_parts (items_ok line) (lines_ok more) h in
    let fs = and_parts (fits line None) (all_fit more) f in
    ap (pieces_at 0) (append_assoc (spelled line) (10 ∷ []) (lines_text more))
    ∙ line-pieces line (lines_text more) hs.0 fs.0
    ∙ ap (λ z. map item_piece line ++ z)
    (found (Blank 10) (10 ∷ []) (lines_text more) refl refl (blank_first 10 (lines_text more) refl) ∙ ap (λ z. Blank 10 ∷ z) (lines-pieces more hs.1 fs.1))

-- their tokens

read-append : (xs ys : List lexed.Token) → tokens_read (xs ++ ys) ≡ tokens_read xs ++ tokens_read ys
read-append [] ys = refl
read-append (x ∷ xs) ys = ap (λ z. token_read x ∷ z) (read-append xs ys)

token-is : (k : Kind) (at : Spot) → kind_ok k ≡ true → tokens_read (token_of (verdict (kind_piece k)) at) ≡ record { kind = k; spot = at } ∷ []
token-is k at h =
    let r = (kind-read k h).counts in
    ap (λ z. tokens_read (token_of z at)) r.1 ∙ ap (λ z. record { kind = z; spot = at } ∷ []) r.2

line-tokens : (items : List Item) (before : List ℕ) (ps : List Piece) → items_ok items ≡ true
    → tokens_read (tokens_behind before (map item_piece items ++ ps)) ≡ marked (line_spots before items) (kinds items) ++ tokens_read (tokens_behind (before ++ spelled items) ps)
line-tokens [] before ps h = ap (λ z. tokens_read (tokens_behind z ps)) (sym (append-nil before))
line-tokens (Gap ∷ items) before ps h =
    line-tokens items (before ++ 32 ∷ []) ps h
    ∙ ap (λ z. marked (line_spots (before ++ 32 ∷ []) items) (kinds items) ++ tokens_read (tokens_behind z ps)) (append_assoc before (32 ∷ []) (spelled items))
line-tokens (Is k ∷ items) before ps h =
    let hs = and_parts (kind_ok k) (items_ok items) h in
    let next = before ++ kind_text k in
    read-append (token_of (verdict (kind_piece k)) (spot_behind before)) (tokens_behind (before ++ spelling (kind_piece k)) (map item_piece items ++ ps))
    ∙ ap (λ z. z ++ tokens_read (tokens_behind (before ++ spelling (kind_piece k)) (map item_piece items ++ ps))) (token-is k (spot_behind before) hs.0)
    ∙ ap (λ z. record { kind = k; spot = spot_behind before } ∷ tokens_read (tokens_behind (before ++ z) (map item_piece items ++ ps))) (kind-spelled k)
    ∙ ap (λ z. record { kind = k; spot = spot_behind before } ∷ z) (line-tokens items next ps hs.1)
    ∙ ap (λ z. record { kind = k; spot = spot_behind before } ∷ (marked (line_spots next items) (kinds items) ++ tokens_read (tokens_behind z ps))) (append_assoc before (kind_text k) (spelled items))

marked-line : (before : List ℕ) (line : Line) (rest : List Spot) → marked (line_spots before line ++ rest) (kinds line) ≡ marked (line_spots before line) (kinds line)
marked-line before [] rest = refl
marked-line before (Gap ∷ items) rest = marked-line (before ++ 32 ∷ []) items rest
marked-line before (Is k ∷ items) rest = ap (λ z. record { kind = k; spot = spot_behind before } ∷ z) (marked-line (before ++ kind_text k) items rest)

pub lines-tokens : (lines : List Line) (before : List ℕ) → lines_ok lines ≡ true
    → tokens_read (tokens_behind before (lines_pieces lines)) ≡ marked (spots_of before lines) (line_kinds lines)
lines-tokens [] before h = refl
lines-tokens (line ∷ more) before h =
    let hs = and_parts (items_ok line) (lines_ok more) h in
    let next = before ++ (spelled line ++ 10 ∷ []) in
    line-tokens line before (Blank 10 ∷ lines_pieces more) hs.0
    ∙ ap (λ z. marked (line_spots before line) (kinds line) ++ tokens_read (tokens_behind z (lines_pieces more))) (append_assoc before (spelled line) (10 ∷ []))
    ∙ ap (λ z. marked (line_spots before line) (kinds line) ++ z) (lines-tokens more next hs.1)
    ∙ ap (λ z. z ++ marked (spots_of next more) (line_kinds more)) (sym (marked-line before line (spots_of next more)))
    ∙ ap (λ z. marked (line_spots before line ++ spots_of next more) (kinds line) ++ marked z (line_kinds more)) (sym (beyond-line before line (spots_of next more)))
    ∙ sym (marked-append (line_spots before line ++ spots_of next more) (kinds line) (line_kinds more))

-- none of the pieces is refused

abbrev kept : Piece → Bool
kept piece = is_known (verdict piece)

kept-line : (items : List Item) (ps : List Piece) → items_ok items ≡ true → list_all kept ps ≡ true → list_all kept (map item_piece items ++ ps) ≡ true
kept-line [] ps h a = a
kept-line (Gap ∷ items) ps h a = kept-line items ps h a
kept-line (Is k ∷ items) ps h a =
    let hs = and_parts (kind_ok k) (items_ok items) h in
    both _ _ (ap is_known (kind-read k hs.0).counts.1) (kept-line items ps hs.1 a)

kept-lines : (lines : List Line) → lines_ok lines ≡ true → list_all kept (lines_pieces lines) ≡ true
kept-lines [] h = refl
kept-lines (line ∷ more) h =
    let hs = and_parts (items_ok line) (lines_ok more) h in
    kept-line line (Blank 10 ∷ lines_pieces more) hs.0 (kept-lines more hs.1)

-- the text of lines divides into their tokens
pub lines-divided : (lines : List Line) → lines_ok lines ≡ true → all_fit lines ≡ true → DividesInto (lines_text lines) (marked (spots_of [] lines) (line_kinds lines))
lines-divided lines h f = record {
  pieces = lines_pieces lines;
  division = subst (λ (z : List Piece). Divides z (lines_text lines)) (lines-pieces lines h f) (divides 0 (lines_text lines));
  known = kept-lines lines h;
  are_tokens = sym (lines-tokens lines [] h);
}
