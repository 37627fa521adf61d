-- The laws of the readers of operations.
use Rattle.std.proofs.Common.{◌≡◌, ℕ, ◌≤◌, pos, Bool, true, not, List, [], ◌∷◌, ◌++◌, Option, Some, refl, ap}
use Rattle.cfix_base.specs.declared.Spot.{Spot}
use Rattle.c_grammar.specs.declared.word.Word.TheVariants as w
use Rattle.c_grammar.specs.declared.sign.Sign.TheVariants as s
use Rattle.c_grammar.specs.Marks.{first, tokens}
use Rattle.c_reading.specs.Reader.{Lang, one_of, seq, holds}
use Rattle.c_grammar.specs.Token.{Kind, IsWord, Token, Numeral, word, Mark}
use Rattle.c_grammar.specs.Op.{Verb, Enter, Leave, Wait, Done, First, Add, verb_word, Op, OpOf, op_marks, Ops}
use Rattle.c_reading.specs.Read.{read_sign, read_numeral}
use Rattle.c_reading.specs.ReadExpr.{is_some}
use Rattle.c_reading.specs.ReadOp.{verb_in, verb_of, is_verb, OpParts, op_from, read_op, read_ops}
use Rattle.c_reading.proofs.Reader.{IsReader, one_reader, pair, seq_reader, same_all, map_reader}
use Rattle.c_reading.proofs.Many.{items, many_reader}
use Rattle.c_reading.proofs.Token.{no_spot, sign_lang, numeral_lang, sign_reader, numeral_reader}
use Rattle.c_reading.proofs.ReadExpr.{made, not_true}

abbrev verbs : Verb × Spot → Token
verbs x = word (verb_word x.0) x.1

verb_back : (v : Verb) (at : Spot) → verb_of (word (verb_word v) at) ≡ Some (v, at)
verb_back Enter at = refl
verb_back Leave at = refl
verb_back Wait at = refl
verb_back Done at = refl
verb_back First at = refl
verb_back Add at = refl

only_verb : (k : Kind) (at : Spot) (x : Verb × Spot) → verb_in k at ≡ Some x → made k at ≡ verbs x
only_verb (IsWord w.Enter) at x e = let h : (Enter, at) ≡ x = cc in ap verbs h
only_verb (IsWord w.Leave) at x e = let h : (Leave, at) ≡ x = cc in ap verbs h
only_verb (IsWord w.Wait) at x e = let h : (Wait, at) ≡ x = cc in ap verbs h
only_verb (IsWord w.Done) at x e = let h : (Done, at) ≡ x = cc in ap verbs h
only_verb (IsWord w.First) at x e = let h : (First, at) ≡ x = cc in ap verbs h
only_verb (IsWord w.Add) at x e = let h : (Add, at) ≡ x = cc in ap verbs h
only_verb _ at x e = absurd cc

pub verb_some : (v : Verb) (at : Spot) → is_verb (word (verb_word v) at) ≡ true
verb_some v at = ap is_some (verb_back v at)

abbrev verb_lang : ℕ → Lang Token (Verb × Spot)
verb_lang d = record { marks = λ x. (verbs x, d) ∷ []; good = λ _. true; stops = λ _ _. true }

verb_reader : (limit d : ℕ) → d ≤ limit → IsReader limit (verb_lang d) (one_of verb_of)
verb_reader limit d h = one_reader limit (verb_lang d) verb_of verbs (record {
  back = λ x g. verb_back x.0 x.1;
  only = λ t x e. (only_verb t.kind t.spot x e, refl);
  depth = d;
  marks = λ x. refl;
  shallow = h;
  some = (Enter, no_spot);
  some_good = refl;
})

abbrev pub some_numeral : Numeral
some_numeral = record { value = pos 0; spot = no_spot }

abbrev pub some_op : Op
some_op = OpOf Enter no_spot no_spot some_numeral no_spot

abbrev pub op_lang : ℕ → Lang Token Op
op_lang d = record { marks = op_marks d; good = λ _. true; stops = λ _ _. true }

abbrev op_parts : ℕ → Lang Token OpParts
op_parts d = pair (verb_lang d) (pair (sign_lang s.OpenParen d) (pair (numeral_lang d) (sign_lang s.CloseParen d) (λ _ _. true)) (λ _ _. true)) (λ _ _. true)

abbrev op_to : Op → OpParts
op_to (OpOf v at before n after) = ((v, at), (before, (n, after)))

op_back : (x : Op) → op_from (op_to x) ≡ x
op_back (OpOf v at before n after) = refl

pub op_reader : (limit d : ℕ) → d ≤ limit → IsReader limit (op_lang d) read_op
op_reader limit d h = map_reader limit (op_parts d) (op_lang d) op_from op_to (same_all (op_parts d) (op_lang d) op_from op_to op_back (λ x. refl) (λ x. refl) (λ x k e. refl)) _
    (seq_reader limit _ _ (λ _ _. true) (one_of verb_of) _ (verb_reader limit d h)
    (seq_reader limit _ _ (λ _ _. true) (read_sign s.OpenParen) _ (sign_reader limit d h s.OpenParen)
    (seq_reader limit _ _ (λ _ _. true) read_numeral (read_sign s.CloseParen) (numeral_reader limit d h) (sign_reader limit d h s.CloseParen) (λ a b k g1 g2 e. (refl, refl)) no_spot refl)
    (λ a b k g1 g2 e. (refl, refl)) (some_numeral, no_spot) refl)
    (λ a b k g1 g2 e. (refl, refl)) (no_spot, (some_numeral, no_spot)) refl)

pub op_begins : (d : ℕ) (op : Op) (more : List Mark) (h : Option Token) → holds is_verb (first (tokens (op_marks d op ++ more)) h) ≡ true
op_begins d (OpOf v at before n after) more h = verb_some v at

-- operations, each with a token behind it
abbrev pub no_verb : Option Token → Bool
no_verb h = not (holds is_verb h)

abbrev pub ops_lang : ℕ → Lang Token Ops
ops_lang d = items (pair (op_lang d) (sign_lang s.Semicolon d) (λ _ _. true)) no_verb

pub ops_reader : (limit d : ℕ) → d ≤ limit → IsReader limit (ops_lang d) read_ops
ops_reader limit d h = many_reader limit (pair (op_lang d) (sign_lang s.Semicolon d) (λ _ _. true)) is_verb no_verb
    (record { begun = λ x k g. op_begins d x.0 _ k; ends = λ k e. not_true _ e; stops_more = λ x k g e. refl; stops_last = λ x k g e. refl }) (seq read_op (read_sign s.Semicolon))
    (seq_reader limit (op_lang d) (sign_lang s.Semicolon d) (λ _ _. true) read_op (read_sign s.Semicolon) (op_reader limit d h) (sign_reader limit d h s.Semicolon) (λ a b k g1 g2 e. (refl, refl)) no_spot refl)

pub ops_good : (d : ℕ) (ops : Ops) → (ops_lang d).good ops ≡ true
ops_good d [] = refl
ops_good d (x ∷ ops) = ops_good d ops
