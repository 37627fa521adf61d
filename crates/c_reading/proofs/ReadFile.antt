-- The laws of the reader of files.
use Rattle.std.proofs.Common.{◌≡◌, ℕ, eqb, Bool, true, false, ◌&&◌, List, [], ◌∷◌, ◌++◌, Option, Some, None, refl, sym, ap, subst, ◌∙◌, append_assoc, inl, inr}
use Rattle.std.proofs.lemmas.Bool.{and_from, and_parts, eq-eqb}
use Rattle.std.proofs.lemmas.List.{append-nil}
use Rattle.std.specs.List.{list_all}
use Rattle.cfix_base.specs.declared.Spot.{Spot}
use Rattle.c_grammar.specs.declared.word.Word.TheVariants as w
use Rattle.c_grammar.specs.declared.sign.Sign.TheVariants as s
use Rattle.c_reading.specs.Reader.{Fault, Unexpected, Out, Got, Stop, next, Lang, toks, deep, outcome, holds, many}
use Rattle.c_grammar.specs.Marks.{head, first, tokens, each}
use Rattle.c_grammar.specs.Token.{Token, Ident, Text, ident, sign, word, Mark}
use Rattle.c_grammar.specs.Decl.{GlobalInt, OneGlobal, SetGlobal, GlobalArray, global_int_marks, GlobalInts, GlobalHolds, GlobalMutexes, GlobalConds, Static, Volatile}
use Rattle.c_grammar.specs.Stmt.{are_items}
use Rattle.c_grammar.specs.File.{Angled, Quoted, Plainly, InParens, Return, ReturnsInt, ReturnsVoid, return_word, Params, Head, PlainHead, ThreadHead, Top, Include, Define, Variables, Prototype, Function, File, static_marks, params_marks, name_marks, head_marks, top_marks, file_marks, file_tokens, is_top, is_header, stands_on, line_of, is_later, is_file}
use Rattle.c_reading.specs.ReadFile.{ReplacementParts, replacement_from, Qualifiers, heads_allowed, static_of, HeadEnd, HeadTail, TopParts, with_end, top_from, top_at, begins_top, checked_at, checked, read_file}
use Rattle.c_reading.specs.ReadDecl.{global_int_from}
use Rattle.c_grammar.specs.Verdict.{HasOneTree, FixesDepths}
use Rattle.c_reading.specs.Exact.{ReadsExactly}
use Rattle.c_reading.proofs.Reader.{Reads, Faults, IsReader, Got-inj, next_got, next_stop, map_reader}
use Rattle.c_reading.proofs.Many.{items_after, many_after_reader}
use Rattle.c_reading.proofs.Whole.{is_end, ended_got, whole_reader}
use Rattle.c_reading.proofs.Verdict.{one_tree, fixes_depths, reads_exactly}
use Rattle.c_reading.proofs.ReadExpr.{and_true}
use Rattle.c_reading.proofs.ReadOp.{ops_good}
use Rattle.c_reading.proofs.ReadHead.{qualifiers_lang, qualifiers_good, head_end_lang, head_tail_lang}
use Rattle.c_reading.proofs.ReadLine.{inside_good}
use Rattle.c_reading.proofs.ReadTop.{global_int_marks_is, globals_tail_good, hold_parts_good, mutexes_good, conds_good, thread_head_lang, top_parts, top_parts_reader}

-- ---- from a tree to its parts and back

abbrev qualifiers_of : Option Spot → Qualifiers
qualifiers_of None = []
qualifiers_of (Some at) = (Static, at) ∷ []

abbrev head_to : Head → HeadEnd → TopParts
head_to (PlainHead st ReturnsInt at x before ps after) e = inr (qualifiers_of st, inl (at, (x, inl (before, (ps, (after, e))))))
head_to (PlainHead st ReturnsVoid at x before ps after) e = inr (qualifiers_of st, inr (inr (inr (inl (at, inr (x, (before, (ps, (after, e)))))))))
head_to (ThreadHead st at star x before void star2 p after) e = inr (qualifiers_of st, inr (inr (inr (inl (at, inl (star, (x, (before, (void, (star2, (p, (after, e))))))))))))

abbrev global_to : Qualifiers → Spot → GlobalInt → List (Spot × GlobalInt) → Spot → TopParts
global_to q at (OneGlobal x) more end = inr (q, inl (at, (x, inr (inr None, (more, end)))))
global_to q at (SetGlobal x set minus n) more end = inr (q, inl (at, (x, inr (inl (set, (minus, n)), (more, end)))))
global_to q at (GlobalArray x before n after) more end = inr (q, inl (at, (x, inr (inr (Some (before, (n, after))), (more, end)))))

abbrev top_to : Top → TopParts
top_to (Include at name (Angled before xs after)) = inl (at, inl (name, inl (before, (xs, after))))
top_to (Include at name (Quoted t)) = inl (at, inl (name, inr t))
top_to (Define at name x (Plainly n)) = inl (at, inr (name, (x, inr n)))
top_to (Define at name x (InParens before n after)) = inl (at, inr (name, (x, inl (before, (n, after)))))
top_to (Variables q (GlobalInts at g more) end) = global_to q at g more end
top_to (Variables q (GlobalHolds at x more) end) = inr (q, inr (inl ((at, (x, more)), end)))
top_to (Variables q (GlobalMutexes at x more) end) = inr (q, inr (inr (inl ((at, (x, more)), end))))
top_to (Variables q (GlobalConds at x more) end) = inr (q, inr (inr (inr (inr ((at, (x, more)), end)))))
top_to (Prototype head end) = head_to head (inl end)
top_to (Function head before ops items after) = head_to head (inr (before, (ops, (items, after))))

head_back : (head : Head) (e : HeadEnd) → top_from (head_to head e) ≡ with_end head e
head_back (PlainHead None ReturnsInt at x before ps after) e = refl
head_back (PlainHead (Some st) ReturnsInt at x before ps after) e = refl
head_back (PlainHead None ReturnsVoid at x before ps after) e = refl
head_back (PlainHead (Some st) ReturnsVoid at x before ps after) e = refl
head_back (ThreadHead None at star x before void star2 p after) e = refl
head_back (ThreadHead (Some st) at star x before void star2 p after) e = refl

top_back : (t : Top) → top_from (top_to t) ≡ t
top_back (Include at name (Angled before xs after)) = refl
top_back (Include at name (Quoted t)) = refl
top_back (Define at name x (Plainly n)) = refl
top_back (Define at name x (InParens before n after)) = refl
top_back (Variables q (GlobalInts at (OneGlobal x) more) end) = refl
top_back (Variables q (GlobalInts at (SetGlobal x set minus n) more) end) = refl
top_back (Variables q (GlobalInts at (GlobalArray x before n after) more) end) = refl
top_back (Variables q (GlobalHolds at x more) end) = refl
top_back (Variables q (GlobalMutexes at x more) end) = refl
top_back (Variables q (GlobalConds at x more) end) = refl
top_back (Prototype head end) = head_back head (inl end)
top_back (Function head before ops items after) = head_back head (inr (before, (ops, (items, after))))

-- ---- the tokens

end_marks : (head : Head) (e : HeadEnd) → top_marks (with_end head e) ≡ head_marks head ++ head_end_lang.marks e
end_marks head (inl end) = refl
end_marks head (inr x) = refl

qualifier_marks : (q : Qualifiers) → heads_allowed q ≡ true → static_marks (static_of q) ≡ qualifiers_lang.marks q
qualifier_marks [] e = refl
qualifier_marks ((Static, at) ∷ []) e = refl
qualifier_marks ((Volatile, at) ∷ []) e = absurd cc
qualifier_marks ((Static, at) ∷ (x ∷ q)) e = absurd cc
qualifier_marks ((Volatile, at) ∷ (x ∷ q)) e = absurd cc

plain_marks : (st : List Mark) (r : Return) (at : Spot) (x : Ident) (before : Spot) (ps : Params) (after : Spot) (e : List Mark)
    → (st ++ ((word (return_word r) at, 0) ∷ ((ident x, 0) ∷ ((sign s.OpenParen before, 0) ∷ (params_marks ps ++ (sign s.CloseParen after, 0) ∷ []))))) ++ e
    ≡ st ++ ((word (return_word r) at, 0) ∷ ((ident x, 0) ∷ ((sign s.OpenParen before, 0) ∷ (params_marks ps ++ ((sign s.CloseParen after, 0) ∷ e)))))
plain_marks st r at x before ps after e = append_assoc st _ e
    ∙ ap (λ (z : List Mark). st ++ ((word (return_word r) at, 0) ∷ ((ident x, 0) ∷ ((sign s.OpenParen before, 0) ∷ z)))) (append_assoc (params_marks ps) ((sign s.CloseParen after, 0) ∷ []) e)

thread_marks : (st : List Mark) (at star : Spot) (x : Ident) (before void star2 : Spot) (p : Option Ident) (after : Spot) (e : List Mark)
    → (st ++ ((word w.Void at, 0) ∷ ((sign s.Star star, 0) ∷ ((ident x, 0) ∷ ((sign s.OpenParen before, 0) ∷ ((word w.Void void, 0) ∷ ((sign s.Star star2, 0) ∷ (name_marks p ++ (sign s.CloseParen after, 0) ∷ [])))))))) ++ e
    ≡ st ++ ((word w.Void at, 0) ∷ ((sign s.Star star, 0) ∷ ((ident x, 0) ∷ ((sign s.OpenParen before, 0) ∷ ((word w.Void void, 0) ∷ ((sign s.Star star2, 0) ∷ (name_marks p ++ ((sign s.CloseParen after, 0) ∷ e))))))))
thread_marks st at star x before void star2 p after e = append_assoc st _ e
    ∙ ap (λ (z : List Mark). st ++ ((word w.Void at, 0) ∷ ((sign s.Star star, 0) ∷ ((ident x, 0) ∷ ((sign s.OpenParen before, 0) ∷ ((word w.Void void, 0) ∷ ((sign s.Star star2, 0) ∷ z))))))) (append_assoc (name_marks p) ((sign s.CloseParen after, 0) ∷ []) e)

-- heads are allowed here
plain_top : (q : Qualifiers) (r : Return) (at : Spot) (x : Ident) (t : HeadTail) → heads_allowed q ≡ true
    → top_marks (with_end (PlainHead (static_of q) r at x t.0 t.1.0 t.1.1.0) t.1.1.1) ≡ qualifiers_lang.marks q ++ ((word (return_word r) at, 0) ∷ ((ident x, 0) ∷ head_tail_lang.marks t))
plain_top q r at x t h =
    end_marks (PlainHead (static_of q) r at x t.0 t.1.0 t.1.1.0) t.1.1.1
    ∙ plain_marks (static_marks (static_of q)) r at x t.0 t.1.0 t.1.1.0 (head_end_lang.marks t.1.1.1)
    ∙ ap (λ (z : List Mark). z ++ ((word (return_word r) at, 0) ∷ ((ident x, 0) ∷ head_tail_lang.marks t))) (qualifier_marks q h)

thread_top : (q : Qualifiers) (at star : Spot) (x : Ident) (before void star2 : Spot) (p : Option Ident) (after : Spot) (e : HeadEnd) → heads_allowed q ≡ true
    → top_marks (with_end (ThreadHead (static_of q) at star x before void star2 p after) e) ≡ qualifiers_lang.marks q ++ ((word w.Void at, 0) ∷ thread_head_lang.marks (star, (x, (before, (void, (star2, (p, (after, e))))))))
thread_top q at star x before void star2 None after e h =
    end_marks (ThreadHead (static_of q) at star x before void star2 None after) e
    ∙ thread_marks (static_marks (static_of q)) at star x before void star2 None after (head_end_lang.marks e)
    ∙ ap (λ (z : List Mark). z ++ ((word w.Void at, 0) ∷ thread_head_lang.marks (star, (x, (before, (void, (star2, (None, (after, e))))))))) (qualifier_marks q h)
thread_top q at star x before void star2 (Some p) after e h =
    end_marks (ThreadHead (static_of q) at star x before void star2 (Some p) after) e
    ∙ thread_marks (static_marks (static_of q)) at star x before void star2 (Some p) after (head_end_lang.marks e)
    ∙ ap (λ (z : List Mark). z ++ ((word w.Void at, 0) ∷ thread_head_lang.marks (star, (x, (before, (void, (star2, (Some p, (after, e))))))))) (qualifier_marks q h)

top_marks_is : (x : TopParts) → top_parts.good x ≡ true → top_marks (top_from x) ≡ top_parts.marks x
top_marks_is (inl (at, inl (name, inl x))) g = refl
top_marks_is (inl (at, inl (name, inr t))) g = refl
top_marks_is (inl (at, inr (name, (x, inl n)))) g = refl
top_marks_is (inl (at, inr (name, (x, inr n)))) g = refl
top_marks_is (inr (q, inl (at, (x, inl t)))) g = plain_top q ReturnsInt at x t (and_parts _ _ (and_parts _ _ g).1).0
top_marks_is (inr (q, inl (at, (x, inr t)))) g =
    ap (λ (z : List Mark). qualifiers_lang.marks q ++ ((word w.Int at, 0) ∷ z))
    (append_assoc (global_int_marks 0 (global_int_from (x, t.0))) _ ((sign s.Semicolon t.1.1, 0) ∷ [])
    ∙ ap (λ (z : List Mark). z ++ (each (λ y. (sign s.Comma y.0, 0) ∷ global_int_marks 0 y.1) t.1.0 ++ (sign s.Semicolon t.1.1, 0) ∷ [])) (global_int_marks_is (x, t.0)))
top_marks_is (inr (q, inr (inl x))) g = refl
top_marks_is (inr (q, inr (inr (inl x)))) g = refl
top_marks_is (inr (q, inr (inr (inr (inl (at, inl (star, (x, (before, (void, (star2, (p, (after, e))))))))))))) g = thread_top q at star x before void star2 p after e (and_parts _ _ (and_parts _ _ g).1).0
top_marks_is (inr (q, inr (inr (inr (inl (at, inr (x, t))))))) g = plain_top q ReturnsVoid at x t (and_parts _ _ (and_parts _ _ g).1).0
top_marks_is (inr (q, inr (inr (inr (inr x))))) g = refl

-- ---- the tests

all_append : {A : Type 0} (test : A → Bool) (xs ys : List A) → list_all test (xs ++ ys) ≡ (list_all test xs && list_all test ys)
all_append test [] ys = refl
all_append test (x ∷ xs) ys = ap (λ (v : Bool). test x && v) (all_append test xs ys) ∙ regroup (test x) (list_all test xs) (list_all test ys)
  where
    regroup : (a b c : Bool) → (a && (b && c)) ≡ ((a && b) && c)
    regroup true b c = refl
    regroup false b c = refl

angled_tests : (a n b x l : Bool) → (a && (true && (n && (b && (x && (l && true)))))) ≡ (n && (b && ((a && x) && l)))
angled_tests true n b x true = refl
angled_tests true n b x false = refl
angled_tests false true true x l = refl
angled_tests false true false x l = refl
angled_tests false false b x l = refl

quoted_tests : (h n t : Bool) → (h && (true && (n && (t && true)))) ≡ (n && (h && t))
quoted_tests true n true = refl
quoted_tests true n false = refl
quoted_tests false true t = refl
quoted_tests false false t = refl

angled_good : (at name before : Spot) (xs : List Token) (after : Spot) → is_top (Include at name (Angled before xs after)) ≡ top_parts.good (inl (at, inl (name, inl (before, (xs, after)))))
angled_good at name before xs after =
    ap (λ (v : Bool). is_header (Angled before xs after) && (v && (eqb name.line at.line && (eqb before.line at.line && list_all (stands_on at.line) (each (λ x. (x, 0) ∷ []) xs ++ (sign s.Greater after, 0) ∷ []))))) (eq-eqb at.line at.line refl)
    ∙ ap (λ (v : Bool). is_header (Angled before xs after) && (true && (eqb name.line at.line && (eqb before.line at.line && v)))) (all_append (stands_on at.line) (each (λ x. (x, 0) ∷ []) xs) ((sign s.Greater after, 0) ∷ []))
    ∙ angled_tests (is_header (Angled before xs after)) (eqb name.line at.line) (eqb before.line at.line) (list_all (stands_on at.line) (each (λ x. (x, 0) ∷ []) xs)) (eqb after.line at.line)
    ∙ ap (λ (v : Bool). eqb name.line at.line && (eqb before.line at.line && (v && eqb after.line at.line))) (inside_good at.line xs)

end_tests : (n x b v a : Bool) → (n && (x && (b && (v && (a && true))))) ≡ (n && (x && (b && (v && a))))
end_tests n x b v a = ap (λ (u : Bool). n && (x && (b && (v && u)))) (and_true a)

define_good : (at name : Spot) (x : Ident) (r : ReplacementParts) → is_top (Define at name x (replacement_from r)) ≡ top_parts.good (inl (at, inr (name, (x, r))))
define_good at name x (inl (before, (n, after))) =
    ap (λ (u : Bool). u && (eqb name.line at.line && (eqb x.spot.line at.line && (eqb before.line at.line && (eqb n.spot.line at.line && (eqb after.line at.line && true)))))) (eq-eqb at.line at.line refl)
    ∙ end_tests (eqb name.line at.line) (eqb x.spot.line at.line) (eqb before.line at.line) (eqb n.spot.line at.line) (eqb after.line at.line)
define_good at name x (inr n) =
    ap (λ (u : Bool). u && (eqb name.line at.line && (eqb x.spot.line at.line && (eqb n.spot.line at.line && true)))) (eq-eqb at.line at.line refl)
    ∙ ap (λ (u : Bool). eqb name.line at.line && (eqb x.spot.line at.line && u)) (and_true (eqb n.spot.line at.line))

quoted_good : (at name : Spot) (t : Text) → is_top (Include at name (Quoted t)) ≡ top_parts.good (inl (at, inl (name, inr t)))
quoted_good at name t =
    ap (λ (u : Bool). is_header (Quoted t) && (u && (eqb name.line at.line && (eqb t.spot.line at.line && true)))) (eq-eqb at.line at.line refl)
    ∙ quoted_tests (is_header (Quoted t)) (eqb name.line at.line) (eqb t.spot.line at.line)

end_good : (head : Head) (e : HeadEnd) → is_top (with_end head e) ≡ head_end_lang.good e
end_good head (inl end) = refl
end_good head (inr x) = sym (ap (λ (v : Bool). v && (are_items x.1.1.0 && true)) (ops_good 0 x.1.0) ∙ and_true (are_items x.1.1.0))

-- what stands behind the qualifiers, where heads are allowed
head_to_good : (head : Head) (e : HeadEnd) → head_end_lang.good e ≡ true → top_parts.good (head_to head e) ≡ true
head_to_good (PlainHead None ReturnsInt at x before ps after) e g = g
head_to_good (PlainHead (Some st) ReturnsInt at x before ps after) e g = g
head_to_good (PlainHead None ReturnsVoid at x before ps after) e g = g
head_to_good (PlainHead (Some st) ReturnsVoid at x before ps after) e g = g
head_to_good (ThreadHead None at star x before void star2 None after) e g = g
head_to_good (ThreadHead None at star x before void star2 (Some p) after) e g = g
head_to_good (ThreadHead (Some st) at star x before void star2 None after) e g = g
head_to_good (ThreadHead (Some st) at star x before void star2 (Some p) after) e g = g

top_good_back : (t : Top) → is_top t ≡ true → top_parts.good (top_to t) ≡ true
top_good_back (Include at name (Angled before xs after)) g = sym (angled_good at name before xs after) ∙ g
top_good_back (Include at name (Quoted t)) g = sym (quoted_good at name t) ∙ g
top_good_back (Define at name x (Plainly n)) g = sym (define_good at name x (inr n)) ∙ g
top_good_back (Define at name x (InParens before n after)) g = sym (define_good at name x (inl (before, (n, after)))) ∙ g
top_good_back (Variables q (GlobalInts at (OneGlobal x) more) end) g = and_from _ _ (qualifiers_good q) (globals_tail_good (inr None, (more, end)))
top_good_back (Variables q (GlobalInts at (SetGlobal x set minus n) more) end) g = and_from _ _ (qualifiers_good q) (globals_tail_good (inl (set, (minus, n)), (more, end)))
top_good_back (Variables q (GlobalInts at (GlobalArray x before n after) more) end) g = and_from _ _ (qualifiers_good q) (globals_tail_good (inr (Some (before, (n, after))), (more, end)))
top_good_back (Variables q (GlobalHolds at x more) end) g = and_from _ _ (qualifiers_good q) (hold_parts_good ((at, (x, more)), end))
top_good_back (Variables q (GlobalMutexes at x more) end) g = and_from _ _ (qualifiers_good q) (mutexes_good ((at, (x, more)), end))
top_good_back (Variables q (GlobalConds at x more) end) g = and_from _ _ (qualifiers_good q) (conds_good ((at, (x, more)), end))
top_good_back (Prototype head end) g = head_to_good head (inl end) refl
top_good_back (Function head before ops items after) g = head_to_good head (inr (before, (ops, (items, after)))) (sym (end_good head (inr (before, (ops, (items, after))))) ∙ g)

top_good : (x : TopParts) → top_parts.good x ≡ true → is_top (top_from x) ≡ true
top_good (inl (at, inl (name, inl (before, (xs, after))))) g = angled_good at name before xs after ∙ g
top_good (inl (at, inl (name, inr t))) g = quoted_good at name t ∙ g
top_good (inl (at, inr (name, (x, r)))) g = define_good at name x r ∙ g
top_good (inr (q, inl (at, (x, inl t)))) g = end_good (PlainHead (static_of q) ReturnsInt at x t.0 t.1.0 t.1.1.0) t.1.1.1 ∙ (and_parts _ _ (and_parts _ _ g).1).1
top_good (inr (q, inl (at, (x, inr t)))) g = refl
top_good (inr (q, inr (inl x))) g = refl
top_good (inr (q, inr (inr (inl x)))) g = refl
top_good (inr (q, inr (inr (inr (inl (at, inl (star, (x, (before, (void, (star2, (None, (after, e))))))))))))) g = end_good (ThreadHead (static_of q) at star x before void star2 None after) e ∙ (and_parts _ _ (and_parts _ _ g).1).1
top_good (inr (q, inr (inr (inr (inl (at, inl (star, (x, (before, (void, (star2, (Some p, (after, e))))))))))))) g = end_good (ThreadHead (static_of q) at star x before void star2 (Some p) after) e ∙ (and_parts _ _ (and_parts _ _ g).1).1
top_good (inr (q, inr (inr (inr (inl (at, inr (x, t))))))) g = end_good (PlainHead (static_of q) ReturnsVoid at x t.0 t.1.0 t.1.1.0) t.1.1.1 ∙ (and_parts _ _ (and_parts _ _ g).1).1
top_good (inr (q, inr (inr (inr (inr x))))) g = refl

abbrev top_lang : Lang Token Top
top_lang = record { marks = top_marks; good = is_top; stops = λ _ _. true }

top_reader : (limit : ℕ) → IsReader limit top_lang (top_at limit)
top_reader limit = map_reader limit top_parts top_lang top_from top_to (record { back = λ t g. top_back t; good_back = top_good_back; marks = top_marks_is; good = top_good; stops = λ t h g e. refl }) _ (top_parts_reader limit)

-- ---- the next token on a later line

abbrev later_lang : Lang Token Top
later_lang = record { marks = top_marks; good = is_top; stops = λ t h. is_later (line_of t) h }

module _ (limit : ℕ) (p : List Token → Out Token Top) (rp : IsReader limit top_lang p) where
  checked_got : (v : Bool) (t a : Top) (r rest : List Token) → checked_at v t r ≡ Got a rest → (v ≡ true) × (t ≡ a) × (r ≡ rest)
  checked_got true t a r rest e = let i = Got-inj t a r rest e in (refl, i.0, i.1)
  checked_got false t a r rest e = absurd cc

  checked_stop : (v : Bool) (t : Top) (r rest : List Token) (f : Fault) → checked_at v t r ≡ Stop f rest → (v ≡ false) × (Unexpected ≡ f) × (r ≡ rest)
  checked_stop true t r rest f e = absurd cc
  checked_stop false t r rest f e = (refl, cc, cc)

  got : (ts : List Token) (a : Top) (rest : List Token) → checked p ts ≡ Got a rest → (p ts ≡ Got a rest) × (is_later (line_of a) (head rest) ≡ true)
  got ts a rest e =
      let n = next_got (p ts) (λ t r. checked_at (is_later (line_of t) (head r)) t r) a rest e in
      let c = checked_got (is_later (line_of n.0) (head n.1)) n.0 a n.1 rest n.3 in
      (n.2 ∙ ap (λ (z : Top). Got z n.1) c.1 ∙ ap (λ (z : List Token). Got a z) c.2, ap (λ (z : Top). is_later (line_of z) (head rest)) (sym c.1) ∙ ap (λ (z : List Token). is_later (line_of n.0) (head z)) (sym c.2) ∙ c.0)

  later_sound : (ts : List Token) (a : Top) (rest : List Token) → checked p ts ≡ Got a rest → Reads limit later_lang (checked p) ts a rest
  later_sound ts a rest e =
      let g = got ts a rest e in
      let x = rp.sound ts a rest g.0 in
      record {
        whole = x.whole;
        good = x.good;
        level = x.level;
        again = λ r h. ap (λ (o : Out Token Top). next o (λ t u. checked_at (is_later (line_of t) (head u)) t u)) (x.again r h) ∙ ap (λ (v : Bool). checked_at v a r) (ap (is_later (line_of a)) h ∙ g.1);
      }

  later_outcome : (a : Top) (d : Option (List Token)) (rest : List Token) → is_later (line_of a) (head rest) ≡ true → next (outcome a d rest) (λ t u. checked_at (is_later (line_of t) (head u)) t u) ≡ outcome a d rest
  later_outcome a None rest h = ap (λ (v : Bool). checked_at v a rest) h
  later_outcome a (Some z) rest h = refl

  later_fault : (ts : List Token) (f : Fault) (rest : List Token) → checked p ts ≡ Stop f rest → Faults later_lang (checked p) ts f rest
  later_fault ts f rest e =
      elim (next_stop (p ts) (λ t r. checked_at (is_later (line_of t) (head r)) t r) f rest e) [
        | inl e1 ↦ let y = rp.fault ts f rest e1 in
            record {
              seen = y.seen;
              parts = y.parts;
              value = y.value;
              suffix = y.suffix;
              place = y.place;
              whole = y.whole;
              good = y.good;
              same = λ r k. ap (λ (o : Out Token Top). next o (λ t u. checked_at (is_later (line_of t) (head u)) t u)) (y.same r k);
            }
        | inr n ↦
            let c = checked_stop (is_later (line_of n.0) (head n.1)) n.0 n.1 rest f n.3 in
            let x = rp.sound ts n.0 n.1 n.2 in
            subst (λ (g : Fault). Faults later_lang (checked p) ts g rest) c.1
            (record {
              seen = toks top_lang n.0;
              parts = x.whole ∙ ap (λ (z : List Token). toks top_lang n.0 ++ z) c.2;
              value = n.0;
              suffix = [];
              place = tt;
              whole = sym (append-nil (toks top_lang n.0));
              good = x.good;
              same = λ r k. ap (λ (o : Out Token Top). next o (λ t u. checked_at (is_later (line_of t) (head u)) t u)) (x.again r (k ∙ ap head (sym c.2)))
                  ∙ ap (λ (v : Bool). checked_at v n.0 r) (ap (is_later (line_of n.0)) (k ∙ ap head (sym c.2)) ∙ c.0);
            })
      ]

  later_reader : IsReader limit later_lang (checked p)
  later_reader = record {
    sound = later_sound;
    complete = λ a rest g h. ap (λ (o : Out Token Top). next o (λ t u. checked_at (is_later (line_of t) (head u)) t u)) (rp.complete a rest g refl) ∙ later_outcome a (deep limit top_lang a) rest h;
    fault = later_fault;
    fixed = λ a b h k ga gb sa sb da db. rp.fixed a b h k ga gb refl refl da db;
  }

-- ---- files

top_begins : (t : Top) (h : Option Token) → holds begins_top (first (tokens (top_marks t)) h) ≡ true
top_begins (Include at name header) h = refl
top_begins (Define at name x r) h = refl
top_begins (Variables [] (GlobalInts at x more) end) h = refl
top_begins (Variables [] (GlobalHolds at x more) end) h = refl
top_begins (Variables [] (GlobalMutexes at x more) end) h = refl
top_begins (Variables [] (GlobalConds at x more) end) h = refl
top_begins (Variables ((Static, at) ∷ q) globals end) h = refl
top_begins (Variables ((Volatile, at) ∷ q) globals end) h = refl
top_begins (Prototype (PlainHead None ReturnsInt at x before ps after) end) h = refl
top_begins (Prototype (PlainHead None ReturnsVoid at x before ps after) end) h = refl
top_begins (Prototype (PlainHead (Some st) r at x before ps after) end) h = refl
top_begins (Prototype (ThreadHead None at star x before void star2 p after) end) h = refl
top_begins (Prototype (ThreadHead (Some st) at star x before void star2 p after) end) h = refl
top_begins (Function (PlainHead None ReturnsInt at x before ps after) b ops items a) h = refl
top_begins (Function (PlainHead None ReturnsVoid at x before ps after) b ops items a) h = refl
top_begins (Function (PlainHead (Some st) r at x before ps after) b ops items a) h = refl
top_begins (Function (ThreadHead None at star x before void star2 p after) b ops items a) h = refl
top_begins (Function (ThreadHead (Some st) at star x before void star2 p after) b ops items a) h = refl

later_none : (o : Option ℕ) → is_later o None ≡ true
later_none None = refl
later_none (Some n) = refl

end_none : (h : Option Token) → is_end h ≡ true → (None ≡ h)
end_none None e = refl
end_none (Some x) e = absurd cc

abbrev tops_lang : Lang Token File
tops_lang = items_after later_lang (λ t h. is_later (line_of t) h) is_end

tops_reader : (limit : ℕ) → IsReader limit tops_lang (many begins_top (checked (top_at limit)))
tops_reader limit = many_after_reader limit later_lang begins_top (λ t h. is_later (line_of t) h) is_end (checked (top_at limit))
    (record {
      begun = λ t h g. top_begins t h;
      ends = λ h e. ap (holds begins_top) (sym (end_none h e));
      stops_more = λ t h g f e. f;
      stops_last = λ t h g e. ap (is_later (line_of t)) (sym (end_none h e)) ∙ later_none (line_of t);
      at_end = λ t. later_none (line_of t);
      looks = λ ts r a e. (got limit (top_at limit) (top_reader limit) ts a r e).1;
    }) (later_reader limit (top_at limit) (top_reader limit))

file_good : (f : File) → is_file f ≡ tops_lang.good f
file_good [] = refl
file_good (t ∷ more) = ap (λ (v : Bool). is_top t && (is_later (line_of t) (head (file_tokens more)) && v)) (file_good more)

abbrev file_lang : Lang Token File
file_lang = record { marks = file_marks; good = is_file; stops = λ _ h. is_end h }

-- a reader of the same language, tested in other words
reworded : (limit : ℕ) (p : List Token → Out Token File) → IsReader limit tops_lang p → IsReader limit file_lang p
reworded limit p rp = record {
  sound = λ ts a rest e. let x = rp.sound ts a rest e in record { whole = x.whole; good = file_good a ∙ x.good; level = x.level; again = x.again };
  complete = λ a rest g h. rp.complete a rest (sym (file_good a) ∙ g) h;
  fault = λ ts f rest e. let y = rp.fault ts f rest e in
      record { seen = y.seen; parts = y.parts; same = y.same; value = y.value; suffix = y.suffix; whole = y.whole; good = file_good y.value ∙ y.good; place = y.place };
  fixed = λ a b h k ga gb sa sb da db. rp.fixed a b h k (sym (file_good a) ∙ ga) (sym (file_good b) ∙ gb) sa sb da db;
}

file_reader : (limit : ℕ) → IsReader limit file_lang (read_file limit)
unfolding read_file
file_reader limit = whole_reader limit file_lang (many begins_top (checked (top_at limit))) (reworded limit _ (tops_reader limit)) (λ a g. refl)

empties : (limit : ℕ) (ts : List Token) (a : File) (rest : List Token) → read_file limit ts ≡ Got a rest → rest ≡ []
unfolding read_file
empties limit ts a rest e = (ended_got (many begins_top (checked (top_at limit)) ts) a rest e).1

pub file_one_tree : HasOneTree file_marks is_file
file_one_tree = one_tree file_marks is_file (λ _ h. is_end h) read_file file_reader (λ a g. refl) empties

pub file_fixes_depths : FixesDepths file_marks is_file
file_fixes_depths = fixes_depths file_marks is_file (λ _ h. is_end h) read_file file_reader (λ a g. refl) empties

pub file_reads_exactly : (limit : ℕ) → ReadsExactly limit file_marks is_file (read_file limit)
file_reads_exactly limit = reads_exactly file_marks is_file (λ _ h. is_end h) read_file file_reader (λ a g. refl) empties limit
