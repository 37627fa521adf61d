-- The laws of the readers of includes and defines, whose tokens stand on one line.
use Rattle.std.proofs.Common.{◌≡◌, ℕ, eqb, pos, Bool, true, false, not, ◌&&◌, List, [], ◌∷◌, Option, Some, None, refl, sym, ap, ◌∙◌, inl, inr, cond, arith, codes}
use Rattle.std.specs.Str.{bytes_eq}
use Rattle.std.specs.List.{list_all}
use Rattle.std.proofs.lemmas.Bool.{and_from, and_parts, eq-eqb}
use Rattle.std.proofs.lemmas.Slice.Eq.{bytes_eq-Decides}
use Rattle.cfix_base.specs.declared.Spot.{Spot}
use Rattle.c_grammar.specs.declared.sign.Sign.{Sign}
use Rattle.c_grammar.specs.declared.sign.Sign.TheVariants as s
use Rattle.c_reading.specs.Reader.{Lang, one_of, holds, many}
use Rattle.c_grammar.specs.Marks.{each}
use Rattle.c_grammar.specs.Token.{Kind, IsName, IsQuoted, Token, Ident, Numeral, Text, ident, numeral, quoted, sign, Mark}
use Rattle.c_grammar.specs.File.{name_token, is_greater, stands_on}
use Rattle.c_reading.specs.Read.{is_sign, at_sign, text_in, ident_of, numeral_of, read_sign}
use Rattle.c_reading.specs.ReadSimple.{is_paren}
use Rattle.c_reading.specs.ReadFile.{on_line, sign_on, is_named_kind, is_named, at_name, name_on, header_text, header_text_of, is_inside, inside_of, HeaderParts, header_on, ReplacementParts, replacement_on, DirectiveTail, directive_tail_on, read_directive}
use Rattle.c_reading.proofs.Reader.{IsReader, IsToken, one_reader, pair, pair_dep, seq_reader, dep_reader, choice, choice_reader}
use Rattle.c_reading.proofs.Many.{items, many_reader}
use Rattle.c_reading.proofs.Token.{no_spot, sign_lang, sign_reader, sign_token, ident_token, numeral_token, ident_lang, numeral_lang, cond_some}
use Rattle.c_reading.proofs.ReadExpr.{made, not_true}

spot_on : ℕ → Spot
spot_on line = record { at = 0; line = line }

cond_none : {A : Type 0} (v : Bool) (o : Option A) (a : A) → cond v o None ≡ Some a → (v ≡ true) × (o ≡ Some a)
cond_none true o a e = (refl, e)
cond_none false o a e = absurd cc

-- a token that is restricted to a line
on_reader : {A : Type 0} (limit line : ℕ) (l : Lang Token A) (by : Token → Option A) (of : A → Token) → IsToken limit l by of → (good : A → Bool) → ((a : A) → good a ≡ (l.good a && eqb (of a).spot.line line)) → (some : A) → good some ≡ true
    → IsReader limit (record { marks = l.marks; good = good; stops = λ _ _. true }) (one_of (on_line line by))
on_reader {A} limit line l by of t good same some some_good = one_reader limit (record { marks = l.marks; good = good; stops = λ _ _. true }) (on_line line by) of (record {
  back = λ a g. let p = and_parts _ _ (sym (same a) ∙ g) in ap (λ (v : Bool). cond v (by (of a)) None) p.1 ∙ t.back a p.0;
  only = λ x a e. let c = cond_none (eqb x.spot.line line) (by x) a e in let o = t.only x a c.1 in (o.0, same a ∙ and_from _ _ o.1 (ap (λ (z : Token). eqb z.spot.line line) (sym o.0) ∙ c.0));
  depth = t.depth;
  marks = t.marks;
  shallow = t.shallow;
  some = some;
  some_good = some_good;
})

abbrev sign_line : ℕ → Sign → Lang Token Spot
sign_line line x = record { marks = λ at. (sign x at, 0) ∷ []; good = λ at. eqb at.line line; stops = λ _ _. true }

line_here : (line : ℕ) → eqb (spot_on line).line line ≡ true
unfolding spot_on
line_here line = eq-eqb line line refl

sign_on_reader : (limit line : ℕ) (x : Sign) → IsReader limit (sign_line line x) (sign_on line x)
sign_on_reader limit line x = on_reader limit line (sign_lang x 0) (at_sign x) (sign x) (sign_token limit 0 (omega arith) x) (λ at. eqb at.line line) (λ at. refl) (spot_on line) (line_here line)

abbrev ident_line : ℕ → Lang Token Ident
ident_line line = record { marks = λ x. (ident x, 0) ∷ []; good = λ x. eqb x.spot.line line; stops = λ _ _. true }

ident_on_reader : (limit line : ℕ) → IsReader limit (ident_line line) (one_of (on_line line ident_of))
ident_on_reader limit line = on_reader limit line (ident_lang 0) ident_of ident (ident_token limit 0 (omega arith)) (λ x. eqb x.spot.line line) (λ x. refl) (record { text = []; spot = spot_on line }) (line_here line)

abbrev numeral_line : ℕ → Lang Token Numeral
numeral_line line = record { marks = λ x. (numeral x, 0) ∷ []; good = λ x. eqb x.spot.line line; stops = λ _ _. true }

numeral_on_reader : (limit line : ℕ) → IsReader limit (numeral_line line) (one_of (on_line line numeral_of))
numeral_on_reader limit line = on_reader limit line (numeral_lang 0) numeral_of numeral (numeral_token limit 0 (omega arith)) (λ x. eqb x.spot.line line) (λ x. refl) (record { value = pos 0; spot = spot_on line }) (line_here line)

-- ---- the names `include` and `define`

abbrev name_lang : List ℕ → Lang Token Spot
name_lang text = record { marks = λ at. (name_token text at, 0) ∷ []; good = λ _. true; stops = λ _ _. true }

only_named : (text : List ℕ) (k : Kind) → is_named_kind text k ≡ true → k ≡ IsName text
only_named text (IsName x) e = ap IsName ((bytes_eq-Decides x text).0 e)
only_named text _ e = absurd cc

name_token_is : (limit : ℕ) (text : List ℕ) → bytes_eq text text ≡ true → IsToken limit (name_lang text) (at_name text) (name_token text)
name_token_is limit text same = record {
  back = λ at g. ap (λ (v : Bool). cond v (Some at) None) same;
  only = λ t at e. let c = cond_some (is_named text t) t.spot at e in (ap (λ (k : Kind). made k t.spot) (only_named text t.kind c.0) ∙ ap (name_token text) c.1, refl);
  depth = 0;
  marks = λ at. refl;
  shallow = omega arith;
  some = no_spot;
  some_good = refl;
}

abbrev name_line : ℕ → List ℕ → Lang Token Spot
name_line line text = record { marks = λ at. (name_token text at, 0) ∷ []; good = λ at. eqb at.line line; stops = λ _ _. true }

name_on_reader : (limit line : ℕ) (text : List ℕ) → bytes_eq text text ≡ true → IsReader limit (name_line line text) (name_on line text)
name_on_reader limit line text same = on_reader limit line (name_lang text) (at_name text) (name_token text) (name_token_is limit text same) (λ at. eqb at.line line) (λ at. refl) (spot_on line) (line_here line)

-- ---- headers

abbrev is_header_text : Text → Bool
is_header_text x = bytes_eq x.bytes (codes "cfix.h")

abbrev header_lang : Lang Token Text
header_lang = record { marks = λ x. (quoted x, 0) ∷ []; good = is_header_text; stops = λ _ _. true }

header_back : (x : Text) → is_header_text x ≡ true → header_text_of (quoted x) ≡ Some x
header_back x g = ap (λ (v : Bool). cond v (Some x) None) g

header_only : (k : Kind) (at : Spot) (x : Text) → header_text (text_in k at) ≡ Some x → (made k at ≡ quoted x) × (is_header_text x ≡ true)
header_only (IsQuoted bytes) at x e =
    let y : Text = record { bytes = bytes; spot = at } in
    let c = cond_some (is_header_text y) y x e in
    (ap quoted c.1, ap is_header_text (sym c.1) ∙ c.0)
header_only _ at x e = absurd cc

header_token : (limit : ℕ) → IsToken limit header_lang header_text_of quoted
header_token limit = record {
  back = header_back;
  only = λ t x e. header_only t.kind t.spot x e;
  depth = 0;
  marks = λ x. refl;
  shallow = omega arith;
  some = record { bytes = codes "cfix.h"; spot = no_spot };
  some_good = refl;
}

abbrev header_line : ℕ → Lang Token Text
header_line line = record { marks = λ x. (quoted x, 0) ∷ []; good = λ x. is_header_text x && eqb x.spot.line line; stops = λ _ _. true }

header_text_reader : (limit line : ℕ) → IsReader limit (header_line line) (one_of (on_line line header_text_of))
header_text_reader limit line = on_reader limit line header_lang header_text_of quoted (header_token limit) (λ x. is_header_text x && eqb x.spot.line line) (λ x. refl) (record { bytes = codes "cfix.h"; spot = spot_on line }) (line_here line)

abbrev inside_lang : ℕ → Lang Token Token
inside_lang line = record { marks = λ t. (t, 0) ∷ []; good = is_inside line; stops = λ _ _. true }

inside_reader : (limit line : ℕ) → IsReader limit (inside_lang line) (one_of (inside_of line))
inside_reader limit line = one_reader limit (inside_lang line) (inside_of line) (λ t. t) (record {
  back = λ t g. ap (λ (v : Bool). cond v (Some t) None) g;
  only = λ t x e. let c = cond_some (is_inside line t) t x e in (c.1, ap (is_inside line) (sym c.1) ∙ c.0);
  depth = 0;
  marks = λ t. refl;
  shallow = omega arith;
  some = ident (record { text = []; spot = spot_on line });
  some_good = line_here line;
})

abbrev ends_inside : ℕ → Option Token → Bool
ends_inside line h = not (holds (is_inside line) h)

abbrev pub insides_lang : ℕ → Lang Token (List Token)
insides_lang line = items (inside_lang line) (ends_inside line)

insides_reader : (limit line : ℕ) → IsReader limit (insides_lang line) (many (is_inside line) (one_of (inside_of line)))
insides_reader limit line = many_reader limit (inside_lang line) (is_inside line) (ends_inside line)
    (record { begun = λ t h g. g; ends = λ h e. not_true _ e; stops_more = λ t h g e. refl; stops_last = λ t h g e. refl }) (one_of (inside_of line)) (inside_reader limit line)

abbrev angled_line : ℕ → Lang Token (Spot × (List Token × Spot))
angled_line line = pair (sign_line line s.Less) (pair (insides_lang line) (sign_line line s.Greater) (λ _ _. true)) (λ _ _. true)

abbrev headers_line : ℕ → Lang Token HeaderParts
headers_line line = choice (angled_line line) (header_line line)

headers_reader : (limit line : ℕ) → IsReader limit (headers_line line) (header_on line)
headers_reader limit line = choice_reader limit (is_sign s.Less) (angled_line line) (header_line line) _ _ (λ a h g. refl) (λ c h g e. refl)
    (seq_reader limit (sign_line line s.Less) (pair (insides_lang line) (sign_line line s.Greater) (λ _ _. true)) (λ _ _. true) (sign_on line s.Less) _ (sign_on_reader limit line s.Less)
    (seq_reader limit (insides_lang line) (sign_line line s.Greater) (λ _ _. true) _ (sign_on line s.Greater) (insides_reader limit line) (sign_on_reader limit line s.Greater) (λ a b h g1 g2 e. (refl, refl)) (spot_on line) (line_here line))
    (λ a b h g1 g2 e. (refl, refl)) ([], spot_on line) (line_here line)) (header_text_reader limit line)

-- ---- replacements

abbrev in_parens_line : ℕ → Lang Token (Spot × (Numeral × Spot))
in_parens_line line = pair (sign_line line s.OpenParen) (pair (numeral_line line) (sign_line line s.CloseParen) (λ _ _. true)) (λ _ _. true)

abbrev replacement_line : ℕ → Lang Token ReplacementParts
replacement_line line = choice (in_parens_line line) (numeral_line line)

some_number : ℕ → Numeral
some_number line = record { value = pos 0; spot = spot_on line }

number_here : (line : ℕ) → eqb (some_number line).spot.line line ≡ true
unfolding some_number
number_here line = line_here line

replacement_reader : (limit line : ℕ) → IsReader limit (replacement_line line) (replacement_on line)
replacement_reader limit line = choice_reader limit is_paren (in_parens_line line) (numeral_line line) _ _ (λ a h g. refl) (λ c h g e. refl)
    (seq_reader limit (sign_line line s.OpenParen) (pair (numeral_line line) (sign_line line s.CloseParen) (λ _ _. true)) (λ _ _. true) (sign_on line s.OpenParen) _ (sign_on_reader limit line s.OpenParen)
    (seq_reader limit (numeral_line line) (sign_line line s.CloseParen) (λ _ _. true) _ (sign_on line s.CloseParen) (numeral_on_reader limit line) (sign_on_reader limit line s.CloseParen) (λ a b h g1 g2 e. (refl, refl)) (spot_on line) (line_here line))
    (λ a b h g1 g2 e. (refl, refl)) (some_number line, spot_on line) (and_from _ _ (number_here line) (line_here line))) (numeral_on_reader limit line)

-- ---- directives

abbrev include_line : ℕ → Lang Token (Spot × HeaderParts)
include_line line = pair (name_line line (codes "include")) (headers_line line) (λ _ _. true)

abbrev define_line : ℕ → Lang Token (Spot × (Ident × ReplacementParts))
define_line line = pair (name_line line (codes "define")) (pair (ident_line line) (replacement_line line) (λ _ _. true)) (λ _ _. true)

abbrev pub directive_tail_lang : ℕ → Lang Token DirectiveTail
directive_tail_lang line = choice (include_line line) (define_line line)

headers_stop : (line : ℕ) (x : HeaderParts) (h : Option Token) → (headers_line line).stops x h ≡ true
headers_stop line (inl x) h = refl
headers_stop line (inr x) h = refl

replacement_stops : (line : ℕ) (x : ReplacementParts) (h : Option Token) → (replacement_line line).stops x h ≡ true
replacement_stops line (inl x) h = refl
replacement_stops line (inr x) h = refl

some_ident_on : ℕ → Ident
some_ident_on line = record { text = []; spot = spot_on line }

ident_here : (line : ℕ) → eqb (some_ident_on line).spot.line line ≡ true
unfolding some_ident_on
ident_here line = line_here line

directive_tail_reader : (limit line : ℕ) → IsReader limit (directive_tail_lang line) (directive_tail_on line)
directive_tail_reader limit line = choice_reader limit (is_named (codes "include")) (include_line line) (define_line line) _ _ (λ a h g. refl) (λ c h g e. refl)
    (seq_reader limit (name_line line (codes "include")) (headers_line line) (λ _ _. true) _ (header_on line) (name_on_reader limit line (codes "include") refl) (headers_reader limit line) (λ a b h g1 g2 e. (refl, headers_stop line b h)) (inl (spot_on line, ([], spot_on line))) (and_from _ _ (line_here line) (line_here line)))
    (seq_reader limit (name_line line (codes "define")) (pair (ident_line line) (replacement_line line) (λ _ _. true)) (λ _ _. true) _ _ (name_on_reader limit line (codes "define") refl)
    (seq_reader limit (ident_line line) (replacement_line line) (λ _ _. true) _ (replacement_on line) (ident_on_reader limit line) (replacement_reader limit line) (λ a b h g1 g2 e. (refl, replacement_stops line b h)) (inr (some_number line)) (number_here line))
    (λ a b h g1 g2 e. (refl, refl)) (some_ident_on line, inr (some_number line)) (and_from _ _ (ident_here line) (number_here line)))

abbrev pub directive_lang : Lang Token (Spot × DirectiveTail)
directive_lang = pair_dep (sign_lang s.Hash 0) (λ at. directive_tail_lang at.line) (λ _ _. true)

tail_stops : (line : ℕ) (x : DirectiveTail) (h : Option Token) → (directive_tail_lang line).stops x h ≡ true
tail_stops line (inl x) h = refl
tail_stops line (inr x) h = refl

pub directive_reader : (limit : ℕ) → IsReader limit directive_lang read_directive
directive_reader limit = dep_reader limit (sign_lang s.Hash 0) (λ at. directive_tail_lang at.line) (λ _ _. true) (read_sign s.Hash) (λ at. directive_tail_on at.line) (sign_reader limit 0 (omega arith) s.Hash) (λ at. directive_tail_reader limit at.line)
    (λ a b h g1 g2 e. (refl, tail_stops a.line b h)) (λ at. inr (spot_on at.line, (some_ident_on at.line, inr (some_number at.line)))) (λ at. and_from _ _ (line_here at.line) (and_from _ _ (ident_here at.line) (number_here at.line)))

-- ---- the tests of the trees

pub inside_good : (line : ℕ) (xs : List Token) → (list_all (λ x. not (is_greater x)) xs && list_all (stands_on line) (each (λ x. let m : Mark = (x, 0) in m ∷ []) xs)) ≡ (insides_lang line).good xs
inside_good line [] = refl
inside_good line (x ∷ xs) = mixed (not (is_greater x)) _ (eqb x.spot.line line) _ ∙ ap (λ (v : Bool). is_inside line x && v) (inside_good line xs)
  where
    mixed : (a b c d : Bool) → ((a && b) && (c && d)) ≡ ((a && c) && (b && d))
    mixed true true c d = refl
    mixed true false true d = refl
    mixed true false false d = refl
    mixed false b c d = refl
