-- The laws of the readers of statements: an `else` goes to the nearest `if`.
use Rattle.std.proofs.Common.{◌≡◌, ℕ, suc, ◌+◌, ◌≤◌, Bool, true, false, not, ◌&&◌, List, [], ◌∷◌, ◌++◌, Option, refl, sym, ap, ◌∙◌, append_assoc, inl, inr, ◌⊎◌, arith}
use Rattle.std.proofs.lemmas.Bool.{and_parts}
use Rattle.cfix_base.specs.declared.Spot.{Spot}
use Rattle.c_grammar.specs.declared.word.Word.TheVariants as w
use Rattle.c_grammar.specs.declared.sign.Sign.TheVariants as s
use Rattle.c_reading.specs.Reader.{Out, Lang, toks, seq, holds}
use Rattle.c_grammar.specs.Marks.{first, tokens}
use Rattle.c_grammar.specs.Token.{Kind, IsName, IsWord, IsSign, Token, sign, word, Mark}
use Rattle.c_grammar.specs.Op.{ops_marks}
use Rattle.c_grammar.specs.Simple.{TargetOf, CallOf, SetTo, Changed, SteppedAfter, SteppedBefore, Step, Up, Down, step_sign, Create, Join, Lock, Unlock, Print, Scan, Wait, Signal, Broadcast, Simple, PlainPart, SetCall, OnlyCall, LibraryPart, simple_marks, is_simple, is_value}
use Rattle.c_grammar.specs.Decl.{Ints, Holds, is_local_int}
use Rattle.c_grammar.specs.Stmt.{Break, Continue, Return, ReturnNull, BareJump, ReturnValue, BareBlock, ValueBlock, Stmt, Block, Nothing, Simply, Jumps, If, While, For, Else, NoElse, ElseDo, NoItems, AndItem, Declares, Does, is_open, is_open_else, has_else, is_stmt, are_items, stmt_marks}
use Rattle.c_reading.specs.Read.{is_word, is_word_kind, is_sign, is_sign_kind}
use Rattle.c_reading.specs.ReadExpr.{begins_expr}
use Rattle.c_reading.specs.ReadSimple.{simple_at}
use Rattle.c_reading.specs.ReadOp.{read_ops}
use Rattle.c_reading.specs.ReadStmt.{is_semicolon, read_semicolon, JumpParts, jump_from, jump_parts_at, first_at, loop_step_at, begins_plain, begins_first, BareBlockParts, ValueBlockParts, IntsBlockParts, OtherItem, BraceParts, brace_from, brace_with, ElseParts, else_from, IfParts, WhileParts, ForParts, else_tail_with, if_with, while_with, for_with, if_from, while_from, for_from, SimplyParts, StmtParts, stmt_from, begins_jump, stmt_with, stmt_at}
use Rattle.c_reading.specs.ReadStmt as read
use Rattle.c_reading.proofs.Reader.{IsReader, pair, pair_fit, seq_reader, map_reader, sum, empty, optional, choice, choice_reader}
use Rattle.c_reading.proofs.Token.{no_spot, word_lang, sign_lang, sign_reader}
use Rattle.c_reading.proofs.Commas.{list_good_is, commas_lang}
use Rattle.c_reading.proofs.ReadExpr.{apart, and_true, ends_expr}
use Rattle.c_reading.proofs.ReadOp.{no_verb, ops_lang, ops_reader, ops_good}
use Rattle.c_reading.proofs.ReadDecl.{local_lang, ends_decl, holds_good}
use Rattle.c_reading.proofs.ReadSimple.{simple_lang, simple_reader}
use Rattle.c_reading.proofs.ReadCond.{cond_lang}
use Rattle.c_reading.proofs.ReadJump.{jump_parts, jump_parts_reader, jump_marks_is, jump_good_is, first_lang, ends_first, loop_step_lang, ends_ops}
use Rattle.c_reading.proofs.ReadBlock.{stmt_stops, stmt_lang, items_lang, in_braces, holds_ops_lang}

-- ---- the languages

abbrev pub brace_lang : ℕ → Lang Token BraceParts
brace_lang d = pair (sign_lang s.OpenBrace (suc d)) (in_braces (suc d)) (λ x h. (in_braces (suc d)).stops x.1 h)

abbrev pub ends_else : ElseParts → Option Token → Bool
ends_else e h = no_verb h && not (is_open_else (else_from e) && holds read.is_else h)

abbrev pub else_lang : ℕ → Lang Token ElseParts
else_lang d = sum (pair (word_lang w.Else d) (stmt_lang d) (λ x h. stmt_stops x.1 h)) empty ends_else

abbrev pub fit : Stmt → ElseParts → Bool
fit st e = not (has_else (else_from e) && is_open st)

abbrev pub tail_lang : ℕ → Lang Token (Stmt × ElseParts)
tail_lang d = pair_fit (stmt_lang d) (else_lang d) fit (λ x h. ends_else x.1 h)

abbrev pub if_lang : ℕ → Lang Token IfParts
if_lang d = (pair (word_lang w.If (suc d)) (pair (sign_lang s.OpenParen (suc d)) (pair (cond_lang (suc d)) (pair (sign_lang s.CloseParen (suc d)) (tail_lang (suc d)) (λ x h. (tail_lang (suc d)).stops x.1 h)) (λ x h. (tail_lang (suc d)).stops x.1.1 h)) (λ x h. (tail_lang (suc d)).stops x.1.1.1 h)) (λ x h. (tail_lang (suc d)).stops x.1.1.1.1 h))

abbrev pub while_lang : ℕ → Lang Token WhileParts
while_lang d = (pair (word_lang w.While (suc d)) (pair (sign_lang s.OpenParen (suc d)) (pair (cond_lang (suc d)) (pair (sign_lang s.CloseParen (suc d)) (stmt_lang (suc d)) (λ x h. stmt_stops x.1 h)) (λ x h. stmt_stops x.1.1 h)) (λ x h. stmt_stops x.1.1.1 h)) (λ x h. stmt_stops x.1.1.1.1 h))

abbrev pub ends_first_part : Option Token → Bool
ends_first_part h = ends_first h && not (holds begins_first h)

abbrev pub ends_cond_part : Option Token → Bool
ends_cond_part h = ends_expr h && not (holds begins_expr h)

abbrev pub ends_step_part : Option Token → Bool
ends_step_part h = ends_ops h && not (holds begins_plain h)

abbrev pub for_lang : ℕ → Lang Token ForParts
for_lang d = (pair (word_lang w.For (suc (suc d))) (pair (sign_lang s.OpenParen (suc (suc d))) (pair (optional (first_lang (suc (suc d))) ends_first_part) (pair (sign_lang s.Semicolon (suc (suc d))) (pair (optional (cond_lang (suc (suc d))) ends_cond_part) (pair (sign_lang s.Semicolon (suc (suc d))) (pair (optional (loop_step_lang (suc (suc d))) ends_step_part) (pair (sign_lang s.CloseParen (suc (suc d))) (stmt_lang (suc (suc d))) (λ x h. stmt_stops x.1 h)) (λ x h. stmt_stops x.1.1 h)) (λ x h. stmt_stops x.1.1.1 h)) (λ x h. stmt_stops x.1.1.1.1 h)) (λ x h. stmt_stops x.1.1.1.1.1 h)) (λ x h. stmt_stops x.1.1.1.1.1.1 h)) (λ x h. stmt_stops x.1.1.1.1.1.1.1 h)) (λ x h. stmt_stops x.1.1.1.1.1.1.1.1 h))

abbrev simply_lang : ℕ → Lang Token SimplyParts
simply_lang d = pair (simple_lang d) (pair (sign_lang s.Semicolon d) (ops_lang d) (λ _ h. no_verb h)) (λ _ h. no_verb h)

abbrev last_parts : ℕ → Lang Token (JumpParts ⊎ SimplyParts)
last_parts d = choice (jump_parts d) (simply_lang d)

abbrev semicolon_parts : ℕ → Lang Token (Spot ⊎ (JumpParts ⊎ SimplyParts))
semicolon_parts d = choice (sign_lang s.Semicolon d) (last_parts d)

abbrev for_parts : ℕ → Lang Token (ForParts ⊎ (Spot ⊎ (JumpParts ⊎ SimplyParts)))
for_parts d = choice (for_lang d) (semicolon_parts d)

abbrev while_parts : ℕ → Lang Token (WhileParts ⊎ (ForParts ⊎ (Spot ⊎ (JumpParts ⊎ SimplyParts))))
while_parts d = choice (while_lang d) (for_parts d)

abbrev if_parts : ℕ → Lang Token (IfParts ⊎ (WhileParts ⊎ (ForParts ⊎ (Spot ⊎ (JumpParts ⊎ SimplyParts)))))
if_parts d = choice (if_lang d) (while_parts d)

abbrev stmt_parts : ℕ → Lang Token StmtParts
stmt_parts d = choice (brace_lang d) (if_parts d)

-- ---- what each begins with

abbrev begins_simple_kind : Kind → Bool
begins_simple_kind (IsName x) = true
begins_simple_kind (IsSign s.PlusPlus) = true
begins_simple_kind (IsSign s.MinusMinus) = true
begins_simple_kind (IsWord w.Printf) = true
begins_simple_kind (IsWord w.Scanf) = true
begins_simple_kind (IsWord w.Create) = true
begins_simple_kind (IsWord w.Join) = true
begins_simple_kind (IsWord w.Lock) = true
begins_simple_kind (IsWord w.Unlock) = true
begins_simple_kind (IsWord w.CondWait) = true
begins_simple_kind (IsWord w.Signal) = true
begins_simple_kind (IsWord w.Broadcast) = true
begins_simple_kind _ = false

abbrev begins_simple : Token → Bool
begins_simple t = begins_simple_kind t.kind

step_begins : (x : Step) → begins_simple_kind (IsSign (step_sign x)) ≡ true
step_begins Up = refl
step_begins Down = refl

simple_begins : (d : ℕ) (x : Simple) (more : List Mark) (h : Option Token) → holds begins_simple (first (tokens (simple_marks d x ++ more)) h) ≡ true
simple_begins d (PlainPart (SetTo (TargetOf x i) at e)) more h = refl
simple_begins d (PlainPart (Changed (TargetOf x i) how at e)) more h = refl
simple_begins d (PlainPart (SteppedAfter (TargetOf x i) step at)) more h = refl
simple_begins d (PlainPart (SteppedBefore step at t)) more h = step_begins step
simple_begins d (SetCall (TargetOf x i) at call) more h = refl
simple_begins d (OnlyCall (CallOf f before args after)) more h = refl
simple_begins d (LibraryPart (Create a b c e f g i j k l m)) more h = refl
simple_begins d (LibraryPart (Join a b c e f g)) more h = refl
simple_begins d (LibraryPart (Lock a b c e f)) more h = refl
simple_begins d (LibraryPart (Unlock a b c e f)) more h = refl
simple_begins d (LibraryPart (Print a b c e f)) more h = refl
simple_begins d (LibraryPart (Scan a b c e f g i)) more h = refl
simple_begins d (LibraryPart (Wait a b c e f g i j)) more h = refl
simple_begins d (LibraryPart (Signal a b c e f)) more h = refl
simple_begins d (LibraryPart (Broadcast a b c e f)) more h = refl

jump_begins : (d : ℕ) (x : JumpParts) (h : Option Token) → holds begins_jump (first (toks (jump_parts d) x) h) ≡ true
jump_begins d (inl x) h = refl
jump_begins d (inr (inl x)) h = refl
jump_begins d (inr (inr x)) h = refl

simple_no_jump : (k : Kind) (at : Spot) → begins_simple_kind k ≡ true → begins_jump (record { kind = k; spot = at }) ≡ false
simple_no_jump (IsWord w.Break) at e = absurd cc
simple_no_jump (IsWord w.Continue) at e = absurd cc
simple_no_jump (IsWord w.Return) at e = absurd cc
simple_no_jump _ at e = refl

simple_no_sign : (k : Kind) → begins_simple_kind k ≡ true → (is_sign_kind s.Semicolon k ≡ false) × (is_sign_kind s.OpenBrace k ≡ false)
simple_no_sign (IsSign s.Semicolon) e = absurd cc
simple_no_sign (IsSign s.OpenBrace) e = absurd cc
simple_no_sign _ e = (refl, refl)

simple_no_word : (k : Kind) → begins_simple_kind k ≡ true → (is_word_kind w.If k ≡ false) × (is_word_kind w.While k ≡ false) × (is_word_kind w.For k ≡ false)
simple_no_word (IsWord w.If) e = absurd cc
simple_no_word (IsWord w.While) e = absurd cc
simple_no_word (IsWord w.For) e = absurd cc
simple_no_word _ e = (refl, refl, refl)

last_no_semicolon : (d : ℕ) (x : JumpParts ⊎ SimplyParts) (h : Option Token) → holds is_semicolon (first (toks (last_parts d) x) h) ≡ false
last_no_semicolon d (inl (inl x)) h = refl
last_no_semicolon d (inl (inr (inl x))) h = refl
last_no_semicolon d (inl (inr (inr x))) h = refl
last_no_semicolon d (inr x) h = apart begins_simple is_semicolon (λ y e. (simple_no_sign y.kind e).0) _ (simple_begins d x.0 _ h)

last_no_brace : (d : ℕ) (x : JumpParts ⊎ SimplyParts) (h : Option Token) → holds (is_sign s.OpenBrace) (first (toks (last_parts d) x) h) ≡ false
last_no_brace d (inl (inl x)) h = refl
last_no_brace d (inl (inr (inl x))) h = refl
last_no_brace d (inl (inr (inr x))) h = refl
last_no_brace d (inr x) h = apart begins_simple (is_sign s.OpenBrace) (λ y e. (simple_no_sign y.kind e).1) _ (simple_begins d x.0 _ h)

last_no_if : (d : ℕ) (x : JumpParts ⊎ SimplyParts) (h : Option Token) → holds (is_word w.If) (first (toks (last_parts d) x) h) ≡ false
last_no_if d (inl (inl x)) h = refl
last_no_if d (inl (inr (inl x))) h = refl
last_no_if d (inl (inr (inr x))) h = refl
last_no_if d (inr x) h = apart begins_simple (is_word w.If) (λ y e. (simple_no_word y.kind e).0) _ (simple_begins d x.0 _ h)

last_no_while : (d : ℕ) (x : JumpParts ⊎ SimplyParts) (h : Option Token) → holds (is_word w.While) (first (toks (last_parts d) x) h) ≡ false
last_no_while d (inl (inl x)) h = refl
last_no_while d (inl (inr (inl x))) h = refl
last_no_while d (inl (inr (inr x))) h = refl
last_no_while d (inr x) h = apart begins_simple (is_word w.While) (λ y e. (simple_no_word y.kind e).1) _ (simple_begins d x.0 _ h)

last_no_for : (d : ℕ) (x : JumpParts ⊎ SimplyParts) (h : Option Token) → holds (is_word w.For) (first (toks (last_parts d) x) h) ≡ false
last_no_for d (inl (inl x)) h = refl
last_no_for d (inl (inr (inl x))) h = refl
last_no_for d (inl (inr (inr x))) h = refl
last_no_for d (inr x) h = apart begins_simple (is_word w.For) (λ y e. (simple_no_word y.kind e).2) _ (simple_begins d x.0 _ h)

no_brace : (d : ℕ) (x : IfParts ⊎ (WhileParts ⊎ (ForParts ⊎ (Spot ⊎ (JumpParts ⊎ SimplyParts))))) (h : Option Token) → holds (is_sign s.OpenBrace) (first (toks (if_parts d) x) h) ≡ false
no_brace d (inl x) h = refl
no_brace d (inr (inl x)) h = refl
no_brace d (inr (inr (inl x))) h = refl
no_brace d (inr (inr (inr (inl x)))) h = refl
no_brace d (inr (inr (inr (inr x)))) h = last_no_brace d x h

no_if : (d : ℕ) (x : WhileParts ⊎ (ForParts ⊎ (Spot ⊎ (JumpParts ⊎ SimplyParts)))) (h : Option Token) → holds (is_word w.If) (first (toks (while_parts d) x) h) ≡ false
no_if d (inl x) h = refl
no_if d (inr (inl x)) h = refl
no_if d (inr (inr (inl x))) h = refl
no_if d (inr (inr (inr x))) h = last_no_if d x h

no_while : (d : ℕ) (x : ForParts ⊎ (Spot ⊎ (JumpParts ⊎ SimplyParts))) (h : Option Token) → holds (is_word w.While) (first (toks (for_parts d) x) h) ≡ false
no_while d (inl x) h = refl
no_while d (inr (inl x)) h = refl
no_while d (inr (inr x)) h = last_no_while d x h

no_for : (d : ℕ) (x : Spot ⊎ (JumpParts ⊎ SimplyParts)) (h : Option Token) → holds (is_word w.For) (first (toks (semicolon_parts d) x) h) ≡ false
no_for d (inl x) h = refl
no_for d (inr x) h = last_no_for d x h

-- ---- statements from their parts

abbrev else_to : Else → ElseParts
else_to NoElse = inr tt
else_to (ElseDo at st) = inl (at, st)

stmt_to : Stmt → StmtParts
stmt_to (Block before NoItems after) = inl (before, inr (inr (inl after)))
stmt_to (Block before (AndItem (Declares (Ints int x xs) end ops) more) after) = inl (before, inr (inl (int, inr ((x, xs), (end, (ops, (more, after)))))))
stmt_to (Block before (AndItem (Declares (Holds at x xs) end ops) more) after) = inl (before, inr (inr (inr (inl ((at, (x, xs)), (end, ops)), (more, after)))))
stmt_to (Block before (AndItem (Does st) more) after) = inl (before, inr (inr (inr (inr st, (more, after)))))
stmt_to (Nothing end) = inr (inr (inr (inr (inl end))))
stmt_to (Simply x end ops) = inr (inr (inr (inr (inr (inr (x, (end, ops)))))))
stmt_to (Jumps (BareJump (Break at) end)) = inr (inr (inr (inr (inr (inl (inl (at, end)))))))
stmt_to (Jumps (BareJump (Continue at) end)) = inr (inr (inr (inr (inr (inl (inr (inl (at, end))))))))
stmt_to (Jumps (BareJump (Return at) end)) = inr (inr (inr (inr (inr (inl (inr (inr (at, inr (inl end)))))))))
stmt_to (Jumps (BareJump (ReturnNull at null) end)) = inr (inr (inr (inr (inr (inl (inr (inr (at, inl (null, end)))))))))
stmt_to (Jumps (ReturnValue at v end)) = inr (inr (inr (inr (inr (inl (inr (inr (at, inr (inr (v, end))))))))))
stmt_to (Jumps (BareBlock before op end ops b end2 after)) = inl (before, inl (op, (end, (ops, (b, (end2, after))))))
stmt_to (Jumps (ValueBlock before int name set v end op end2 ops ret name2 end3 after)) = inl (before, inr (inl (int, inl (name, (set, (v, (end, (op, (end2, (ops, (ret, (name2, (end3, after)))))))))))))
stmt_to (If at before cond after st e) = inr (inl (at, (before, (cond, (after, (st, else_to e))))))
stmt_to (While at before cond after st) = inr (inr (inl (at, (before, (cond, (after, st))))))
stmt_to (For at before first end cond end2 step after st) = inr (inr (inr (inl (at, (before, (first, (end, (cond, (end2, (step, (after, st)))))))))))

stmt_back : (x : Stmt) → stmt_from (stmt_to x) ≡ x
unfolding stmt_to
stmt_back (Block before NoItems after) = refl
stmt_back (Block before (AndItem (Declares (Ints int x xs) end ops) more) after) = refl
stmt_back (Block before (AndItem (Declares (Holds at x xs) end ops) more) after) = refl
stmt_back (Block before (AndItem (Does st) more) after) = refl
stmt_back (Nothing end) = refl
stmt_back (Simply x end ops) = refl
stmt_back (Jumps (BareJump (Break at) end)) = refl
stmt_back (Jumps (BareJump (Continue at) end)) = refl
stmt_back (Jumps (BareJump (Return at) end)) = refl
stmt_back (Jumps (BareJump (ReturnNull at null) end)) = refl
stmt_back (Jumps (ReturnValue at v end)) = refl
stmt_back (Jumps (BareBlock before op end ops b end2 after)) = refl
stmt_back (Jumps (ValueBlock before int name set v end op end2 ops ret name2 end3 after)) = refl
stmt_back (If at before cond after st NoElse) = refl
stmt_back (If at before cond after st (ElseDo at2 st2)) = refl
stmt_back (While at before cond after st) = refl
stmt_back (For at before first end cond end2 step after st) = refl

regroup : (l o i c : List Mark) (x : Mark) → ((l ++ (x ∷ o)) ++ i) ++ c ≡ l ++ (x ∷ (o ++ (i ++ c)))
regroup l o i c x = append_assoc (l ++ (x ∷ o)) i c ∙ append_assoc l (x ∷ o) (i ++ c)

brace_marks_is : (d : ℕ) (x : BraceParts) → stmt_marks d (brace_from x) ≡ (brace_lang d).marks x
brace_marks_is d (before, inl x) = refl
brace_marks_is d (before, inr (inl (int, inl x))) = refl
brace_marks_is d (before, inr (inl (int, inr x))) = ap (λ (z : List Mark). (sign s.OpenBrace before, suc d) ∷ ((word w.Int int, suc d) ∷ z)) (regroup _ (ops_marks (suc d) x.1.1.0) _ _ (sign s.Semicolon x.1.0, suc d))
brace_marks_is d (before, inr (inr (inl after))) = refl
brace_marks_is d (before, inr (inr (inr (inl x, y)))) = ap (λ (z : List Mark). (sign s.OpenBrace before, suc d) ∷ z) (append_assoc ((holds_ops_lang (suc d)).marks x) ((items_lang (suc d)).marks y.0) _)
brace_marks_is d (before, inr (inr (inr (inr st, y)))) = ap (λ (z : List Mark). (sign s.OpenBrace before, suc d) ∷ z) (append_assoc (stmt_marks (suc d) st) ((items_lang (suc d)).marks y.0) _)

stmt_marks_is : (d : ℕ) (x : StmtParts) → stmt_marks d (stmt_from x) ≡ (stmt_parts d).marks x
stmt_marks_is d (inl x) = brace_marks_is d x
stmt_marks_is d (inr (inl (at, (before, (cond, (after, (st, inl e))))))) = refl
stmt_marks_is d (inr (inl (at, (before, (cond, (after, (st, inr u))))))) = refl
stmt_marks_is d (inr (inr (inl x))) = refl
stmt_marks_is d (inr (inr (inr (inl x)))) = refl
stmt_marks_is d (inr (inr (inr (inr (inl end))))) = refl
stmt_marks_is d (inr (inr (inr (inr (inr (inl j)))))) = jump_marks_is d j
stmt_marks_is d (inr (inr (inr (inr (inr (inr x)))))) = refl

brace_good_is : (d : ℕ) (x : BraceParts) → is_stmt (brace_from x) ≡ (brace_lang d).good x
brace_good_is d (before, inl x) = sym (and_true _ ∙ ops_good (suc d) x.1.1.0)
brace_good_is d (before, inr (inl (int, inl x))) = sym (ap (λ (v : Bool). is_value x.1.1.0 && (v && true)) (ops_good (suc d) x.1.1.1.1.1.1.0) ∙ and_true (is_value x.1.1.0))
brace_good_is d (before, inr (inl (int, inr x))) =
    ap (λ (v : Bool). (is_local_int x.0.0 && v) && are_items x.1.1.1.0) (list_good_is (suc d) (local_lang (suc d)) ends_decl is_local_int (λ a. refl) x.0.1)
    ∙ ap (λ (v : Bool). (is_local_int x.0.0 && (commas_lang (suc d) (local_lang (suc d)) ends_decl).good x.0.1) && v) (sym (ap (λ (v : Bool). v && (are_items x.1.1.1.0 && true)) (ops_good (suc d) x.1.1.0) ∙ and_true (are_items x.1.1.1.0)))
brace_good_is d (before, inr (inr (inl after))) = refl
brace_good_is d (before, inr (inr (inr (inl x, y)))) = sym (ap (λ (v : Bool). (v && (ops_lang (suc d)).good x.1.1) && (are_items y.0 && true)) (holds_good (suc d) x.0.1.1) ∙ ap (λ (v : Bool). v && (are_items y.0 && true)) (ops_good (suc d) x.1.1) ∙ and_true (are_items y.0))
brace_good_is d (before, inr (inr (inr (inr st, y)))) = ap (λ (v : Bool). is_stmt st && v) (sym (and_true (are_items y.0)))

stmt_good_is : (d : ℕ) (x : StmtParts) → is_stmt (stmt_from x) ≡ (stmt_parts d).good x
stmt_good_is d (inl x) = brace_good_is d x
stmt_good_is d (inr (inl (at, (before, (cond, (after, (st, inl e))))))) = refl
stmt_good_is d (inr (inl (at, (before, (cond, (after, (st, inr u))))))) = refl
stmt_good_is d (inr (inr (inl x))) = refl
stmt_good_is d (inr (inr (inr (inl x)))) = refl
stmt_good_is d (inr (inr (inr (inr (inl end))))) = refl
stmt_good_is d (inr (inr (inr (inr (inr (inl j)))))) = jump_good_is d j
stmt_good_is d (inr (inr (inr (inr (inr (inr x)))))) = sym (ap (λ (v : Bool). is_simple x.0 && v) (ops_good d x.1.1) ∙ and_true (is_simple x.0))

stmt_stops_is : (d : ℕ) (x : Stmt) (h : Option Token) → stmt_stops x h ≡ true → (stmt_parts d).stops (stmt_to x) h ≡ true
unfolding stmt_to
stmt_stops_is d (Block before NoItems after) h k = refl
stmt_stops_is d (Block before (AndItem (Declares (Ints int x xs) end ops) more) after) h k = refl
stmt_stops_is d (Block before (AndItem (Declares (Holds at x xs) end ops) more) after) h k = refl
stmt_stops_is d (Block before (AndItem (Does st) more) after) h k = refl
stmt_stops_is d (Nothing end) h k = refl
stmt_stops_is d (Simply x end ops) h k = (and_parts _ _ k).0
stmt_stops_is d (Jumps (BareJump (Break at) end)) h k = refl
stmt_stops_is d (Jumps (BareJump (Continue at) end)) h k = refl
stmt_stops_is d (Jumps (BareJump (Return at) end)) h k = refl
stmt_stops_is d (Jumps (BareJump (ReturnNull at null) end)) h k = refl
stmt_stops_is d (Jumps (ReturnValue at v end)) h k = refl
stmt_stops_is d (Jumps (BareBlock before op end ops b end2 after)) h k = refl
stmt_stops_is d (Jumps (ValueBlock before int name set v end op end2 ops ret name2 end3 after)) h k = refl
stmt_stops_is d (If at before cond after st NoElse) h k = k
stmt_stops_is d (If at before cond after st (ElseDo at2 st2)) h k = k
stmt_stops_is d (While at before cond after st) h k = k
stmt_stops_is d (For at before first end cond end2 step after st) h k = k

-- ---- over readers of the parts that nest

module _ (limit r d : ℕ) (h : r + d ≡ limit) (brace : List Token → Out Token BraceParts) (choose : List Token → Out Token IfParts) (loop : List Token → Out Token WhileParts) (counted : List Token → Out Token ForParts)
    (rb : IsReader limit (brace_lang d) brace) (ri : IsReader limit (if_lang d) choose) (rw : IsReader limit (while_lang d) loop) (rf : IsReader limit (for_lang d) counted) where
  hd : d ≤ limit
  hd = omega (arith, h)

  simply_reader : IsReader limit (simply_lang d) (seq (simple_at limit r) (seq read_semicolon read_ops))
  simply_reader = seq_reader limit (simple_lang d) (pair (sign_lang s.Semicolon d) (ops_lang d) (λ _ h. no_verb h)) (λ _ h. no_verb h) (simple_at limit r) _ (simple_reader limit r d h)
      (seq_reader limit (sign_lang s.Semicolon d) (ops_lang d) (λ _ h. no_verb h) read_semicolon read_ops (sign_reader limit d hd s.Semicolon) (ops_reader limit d hd) (λ a b k g1 g2 e. (refl, e)) [] refl) (λ a b k g1 g2 e. (refl, e)) (no_spot, []) refl

  pub stmt_with_reader : IsReader limit (stmt_lang d) (stmt_with limit r brace choose loop counted)
  stmt_with_reader = map_reader limit (stmt_parts d) (stmt_lang d) stmt_from stmt_to
      (record {
        back = λ x g. stmt_back x;
        good_back = λ x g. sym (stmt_good_is d (stmt_to x)) ∙ ap is_stmt (stmt_back x) ∙ g;
        marks = λ x g. stmt_marks_is d x;
        good = λ x g. stmt_good_is d x ∙ g;
        stops = λ x k g e. stmt_stops_is d x k e;
      }) _
      (choice_reader limit (is_sign s.OpenBrace) (brace_lang d) (if_parts d) brace _ (λ a k g. refl) (λ c k g e. no_brace d c k) rb
      (choice_reader limit (is_word w.If) (if_lang d) (while_parts d) choose _ (λ a k g. refl) (λ c k g e. no_if d c k) ri
      (choice_reader limit (is_word w.While) (while_lang d) (for_parts d) loop _ (λ a k g. refl) (λ c k g e. no_while d c k) rw
      (choice_reader limit (is_word w.For) (for_lang d) (semicolon_parts d) counted _ (λ a k g. refl) (λ c k g e. no_for d c k) rf
      (choice_reader limit is_semicolon (sign_lang s.Semicolon d) (last_parts d) read_semicolon _ (λ a k g. refl) (λ c k g e. last_no_semicolon d c k) (sign_reader limit d hd s.Semicolon)
      (choice_reader limit begins_jump (jump_parts d) (simply_lang d) _ _ (λ a k g. jump_begins d a k) (λ c k g e. apart begins_simple begins_jump (λ y. simple_no_jump y.kind y.spot) _ (simple_begins d c.0 _ k)) (jump_parts_reader limit r d h) simply_reader))))))
