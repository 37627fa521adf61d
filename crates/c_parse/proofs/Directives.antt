-- Includes and defines are read as the grammar's reader reads them.
use Rattle.std.proofs.Common.{◌≡◌, ℕ, eqb, Bool, true, false, List, [], ◌∷◌, Option, Some, None, cond, codes, refl, sym, ap, ◌∙◌, inl, inr}
use Rattle.std.specs.Str.{bytes_eq}
use Rattle.cfix_base.specs.declared.Spot.{Spot}
use Rattle.c_grammar.specs.Token.{Kind, IsName, Token, Ident, Text}
use Rattle.c_reading.specs.Reader.{Fault, Unexpected, Out, Got, Stop, next, one_of, one_at, seq, map_out, mapped, either, begins}
use Rattle.c_reading.specs.Read.{ident_of, text_of}
use Rattle.c_reading.specs.ReadFile as read
use Rattle.c_cursor.specs.Seen.{spot_at}
use Rattle.c_stmt.proofs.Outs.{map_map, map_same, seq_is, alt_is}
use Rattle.c_parse.specs.Directives.{Parts, included, defined, directive_tail_at}

-- ---- what stands on a line

module _ {A : Type 0} (line : ℕ) (by : Token → Option A) (end : Spot) where
  pub on : (ts : List Token) → eqb (spot_at end ts).line line ≡ true → one_of (read.on_line line by) ts ≡ one_of by ts
  on [] h = refl
  on (t ∷ r) h = rw h refl

  pub off : (ts : List Token) → eqb (spot_at end ts).line line ≡ false → one_of (read.on_line line by) ts ≡ Stop Unexpected ts
  off [] h = refl
  off (t ∷ r) h = rw h refl

-- ---- the string of an include

abbrev is_cfix : List ℕ → Bool
is_cfix bytes = bytes_eq bytes (codes "cfix.h")

filtered : (b : Bool) (o : Option Text) → cond b (read.header_text o) None ≡ read.header_text (cond b o None)
filtered true o = refl
filtered false o = refl

module _ (line : ℕ) where
  header_one : (t : Token) (r : List Token) → one_of (read.on_line line read.header_text_of) (t ∷ r) ≡ one_at (read.header_text (read.on_line line text_of t)) t r
  header_one t r = ap (λ (o : Option Text). one_at o t r) (filtered (eqb t.spot.line line) (text_of t))

  good_at : (o : Option Text) (t : Token) (r r2 : List Token) (x : Text) → one_at o t r ≡ Got x r2 → is_cfix x.bytes ≡ true → one_at (read.header_text o) t r ≡ Got x r2
  good_at None t r r2 x e h = absurd cc
  good_at (Some y) t r r2 x e h =
      let same : y ≡ x = cc in
      let rest : r ≡ r2 = cc in
      rw (same, h) (ap (λ (z : List Token). Got x z) rest)

  bad_at : (o : Option Text) (t : Token) (r r2 : List Token) (x : Text) → one_at o t r ≡ Got x r2 → is_cfix x.bytes ≡ false → one_at (read.header_text o) t r ≡ Stop Unexpected (t ∷ r)
  bad_at None t r r2 x e h = absurd cc
  bad_at (Some y) t r r2 x e h = let same : y ≡ x = cc in rw (same, h) refl

  none_at : (o : Option Text) (t : Token) (r r2 : List Token) (f : Fault) → one_at o t r ≡ Stop f r2 → one_at (read.header_text o) t r ≡ Stop f r2
  none_at None t r r2 f e = e
  none_at (Some y) t r r2 f e = absurd cc

  pub header_good : (ts r : List Token) (x : Text) → one_of (read.on_line line text_of) ts ≡ Got x r → is_cfix x.bytes ≡ true → one_of (read.on_line line read.header_text_of) ts ≡ Got x r
  header_good [] r x e h = absurd cc
  header_good (t ∷ ts) r x e h = header_one t ts ∙ good_at (read.on_line line text_of t) t ts r x e h

  pub header_bad : (ts r : List Token) (x : Text) → one_of (read.on_line line text_of) ts ≡ Got x r → is_cfix x.bytes ≡ false → one_of (read.on_line line read.header_text_of) ts ≡ Stop Unexpected ts
  header_bad [] r x e h = absurd cc
  header_bad (t ∷ ts) r x e h = header_one t ts ∙ bad_at (read.on_line line text_of t) t ts r x e h

  pub header_stop : (ts : List Token) (f : Fault) (r : List Token) → one_of (read.on_line line text_of) ts ≡ Stop f r → one_of (read.on_line line read.header_text_of) ts ≡ Stop f r
  header_stop [] f r e = e
  header_stop (t ∷ ts) f r e = header_one t ts ∙ none_at (read.on_line line text_of t) t ts r f e

-- ---- the tokens inside an include

module _ (line : ℕ) where
  pub inside_more : (ts : List Token) → begins (read.is_inside line) ts ≡ true → one_of (read.inside_of line) ts ≡ one_of (λ t. Some t) ts
  inside_more [] h = refl
  inside_more (t ∷ ts) h = rw h refl

  pub inside_end : (ts : List Token) → begins (read.is_inside line) ts ≡ false → one_of (read.inside_of line) ts ≡ Stop Unexpected ts
  inside_end [] h = refl
  inside_end (t ∷ ts) h = rw h refl

-- ---- the first word of a line

abbrev pub to_parts : read.DirectiveTail → Parts
to_parts (inl x) = inl (x.0, read.header_from x.1)
to_parts (inr x) = inr (x.0, (x.1.0, read.replacement_from x.1.1))

second_same : {A B C D : Type 0} (f : A × C → D) (h : B → C) (a : A) (o : Out Token B) → map_out f (next (map_out h o) (λ b s. Got (a, b) s)) ≡ map_out (λ (x : A × B). f (x.0, h x.1)) (next o (λ b s. Got (a, b) s))
second_same f h a (Got b r) = refl
second_same f h a (Stop e r) = refl

seq_second : {A B C D : Type 0} (f : A × C → D) (h : B → C) (p : List Token → Out Token A) (q : List Token → Out Token B) (ts : List Token)
    → map_out f (seq p (mapped h q) ts) ≡ map_out (λ (x : A × B). f (x.0, h x.1)) (seq p q ts)
seq_second {A} {B} {C} f h p q ts = at (p ts)
  where
    at : (o : Out Token A) → map_out f (next {B = A × C} o (λ a r. next (map_out h (q r)) (λ b s. Got (a, b) s))) ≡ map_out (λ (x : A × B). f (x.0, h x.1)) (next {B = A × B} o (λ a r. next (q r) (λ b s. Got (a, b) s)))
    at (Got a r) = second_same f h a (q r)
    at (Stop e r) = refl

abbrev include : List ℕ
include = codes "include"

abbrev define : List ℕ
define = codes "define"

module _ (line : ℕ) where
  abbrev include_parts : List Token → Out Token (Spot × read.HeaderParts)
  include_parts = seq (read.name_on line include) (read.header_on line)

  abbrev define_rest : List Token → Out Token (Ident × read.ReplacementParts)
  define_rest = seq (one_of (read.on_line line ident_of)) (read.replacement_on line)

  abbrev define_parts : List Token → Out Token (Spot × (Ident × read.ReplacementParts))
  define_parts = seq (read.name_on line define) define_rest

  parts_is : (ts : List Token) → map_out to_parts (read.directive_tail_on line ts)
      ≡ either (begins (read.is_named include) ts) (next (read.name_on line include ts) (λ n r. map_out (λ h. inl (n, read.header_from h)) (read.header_on line r)))
      (next (read.name_on line define ts) (λ n r. map_out (λ y. inr (n, (y.0, read.replacement_from y.1))) (define_rest r)))
  parts_is ts = alt_is to_parts (read.is_named include) include_parts define_parts ts
      ∙ Rattle.c_stmt.proofs.Outs.either_same (begins (read.is_named include) ts) _ _ _ _ (seq_is (λ x. to_parts (inl x)) (read.name_on line include) (read.header_on line) ts) (seq_is (λ x. to_parts (inr x)) (read.name_on line define) define_rest ts)

  -- a token that is no name, or stands on another line
  module _ (k : Kind) (at : Spot) (r : List Token) where
    abbrev here : List Token
    here = record { kind = k; spot = at } ∷ r

    abbrev code : Out Token Parts
    code = either (begins (read.is_named include) here) (next (read.name_on line include here) (λ n z. map_out (λ h. inl (n, read.header_from h)) (read.header_on line z)))
        (next (read.name_on line define here) (λ n z. map_out (λ y. inr (n, (y.0, read.replacement_from y.1))) (define_rest z)))

    elsewhere : (b : Bool) → read.is_named_kind include k ≡ b → eqb at.line line ≡ false → code ≡ directive_tail_at line here
    elsewhere true e h = rw (e, h) refl
    elsewhere false e h = rw (e, h) refl

  module _ (y : List ℕ) (at : Spot) (r : List Token) (h : eqb at.line line ≡ true) where
    named_same : (b c : Bool) → bytes_eq y include ≡ b → bytes_eq y define ≡ c → code (IsName y) at r ≡ directive_tail_at line (here (IsName y) at r)
    named_same true c e f = rw (h, e) (sym (map_map (included at) read.header_from (read.header_on line r)))
    named_same false true e f = rw (h, e, f) (sym (seq_second (defined at) read.replacement_from (one_of (read.on_line line ident_of)) (read.replacement_on line) r))
    named_same false false e f = rw (h, e, f) refl

  kind_same : (k : Kind) (at : Spot) (r : List Token) → eqb at.line line ≡ true → code k at r ≡ directive_tail_at line (here k at r)
  kind_same (IsName y) at r h = named_same y at r h (bytes_eq y include) (bytes_eq y define) refl refl
  kind_same k at r h = rw h refl

  line_same : (k : Kind) (at : Spot) (r : List Token) (v : Bool) → eqb at.line line ≡ v → code k at r ≡ directive_tail_at line (here k at r)
  line_same k at r true h = kind_same k at r h
  line_same k at r false h = elsewhere k at r (read.is_named_kind include k) refl h

  pub tail_is : (ts : List Token) → map_out to_parts (read.directive_tail_on line ts) ≡ directive_tail_at line ts
  tail_is [] = refl
  tail_is (t ∷ r) = parts_is (t ∷ r) ∙ line_same t.kind t.spot r (eqb t.spot.line line) refl
