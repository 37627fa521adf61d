-- The laws of the readers of statements: items, blocks, `if`, `while` and `for`, each over any reader of the statements inside.
use Rattle.std.proofs.Common.{◌≡◌, ℕ, ◌+◌, ◌≤◌, Bool, true, false, not, ◌&&◌, List, [], ◌∷◌, ◌++◌, Option, Some, None, refl, sym, ap, ◌∙◌, append_assoc, inl, inr, ◌⊎◌, arith, append-nil}
use Rattle.std.proofs.lemmas.Bool.{and_from, and_parts}
use Rattle.cfix_base.specs.declared.Spot.{Spot}
use Rattle.c_grammar.specs.declared.word.Word.TheVariants as w
use Rattle.c_grammar.specs.declared.sign.Sign.TheVariants as s
use Rattle.c_reading.specs.Reader.{Out, Lang, toks, seq, holds, alt}
use Rattle.c_grammar.specs.Marks.{first, tokens, each}
use Rattle.c_grammar.specs.Token.{Kind, IsWord, IsSign, Token, sign, word, Mark}
use Rattle.c_grammar.specs.Op.{Ops, ops_marks}
use Rattle.c_grammar.specs.Simple.{TargetOf, CallOf, Computed, SetTo, Changed, SteppedAfter, SteppedBefore, Step, Up, Down, step_sign, Create, Join, Lock, Unlock, Print, Scan, Wait, Signal, Broadcast, Simple, PlainPart, SetCall, OnlyCall, LibraryPart, simple_marks}
use Rattle.c_grammar.specs.Decl.{LocalInt, OneLocal, Hold, Decl, Ints, Holds, is_decl, decl_marks, local_int_marks}
use Rattle.c_grammar.specs.Stmt.{Break, Continue, Return, ReturnNull, bare_marks, Jump, BareJump, ReturnValue, BareBlock, ValueBlock, jump_marks, First, LoopStep, Stmt, Block, Nothing, Simply, Jumps, If, While, For, Else, NoElse, ElseDo, Items, NoItems, AndItem, Item, Declares, Does, is_open, is_open_else, has_else, is_stmt, is_else, are_items, is_item, stmt_marks, else_marks, items_marks, item_marks}
use Rattle.c_grammar.specs.Stmt as stmt
use Rattle.c_reading.specs.Read.{is_word, is_sign, is_name, read_word, read_sign, listed, is_name_kind}
use Rattle.c_reading.specs.ReadSimple.{value_at}
use Rattle.c_reading.specs.ReadOp.{is_verb, read_op, read_ops}
use Rattle.c_reading.specs.ReadDecl.{local_at, decl_at}
use Rattle.c_reading.specs.ReadStmt.{is_semicolon, read_semicolon, read_bare, first_at, loop_step_at, begins_plain, begins_first, begins_item_kind, begins_item, begins_decl, item_from, item_with, items_from, items_with, BareBlockParts, ValueBlockParts, IntsBlockParts, OtherItem, InBraces, BraceParts, other_item_from, brace_from, read_bare_block, value_block_at, ints_block_with, other_item_with, brace_with, ElseParts, else_from, IfParts, WhileParts, ForParts, else_tail_with, if_with, while_with, for_with, if_from, while_from, for_from}
use Rattle.c_reading.specs.ReadStmt as read
use Rattle.c_reading.proofs.Reader.{IsReader, pair, seq_reader, map_reader, choice, choice_reader}
use Rattle.c_reading.proofs.Many.{items, list_good, many_reader}
use Rattle.c_reading.proofs.Token.{no_spot, word_lang, sign_lang, word_reader, sign_reader}
use Rattle.c_reading.proofs.Commas.{listed_lang, listed_reader}
use Rattle.c_reading.proofs.ReadExpr.{not_true, apart, some_expr, and_true}
use Rattle.c_reading.proofs.ReadValue.{some_ident, value_lang, value_reader}
use Rattle.c_reading.proofs.ReadOp.{op_lang, op_reader, some_op, no_verb, ops_lang, ops_reader, ops_good, op_begins}
use Rattle.c_reading.proofs.ReadDecl.{local_lang, local_reader, ends_decl, holds_lang, holds_reader, decl_lang, decl_reader, local_begins}
use Rattle.c_reading.proofs.ReadJump.{bare_lang, bare_reader}

-- ---- what statements begin with

abbrev pub begins_stmt_kind : Kind → Bool
begins_stmt_kind (IsWord w.Int) = false
begins_stmt_kind (IsWord w.Thread) = false
begins_stmt_kind k = begins_item_kind k

abbrev pub begins_stmt : Token → Bool
begins_stmt t = begins_stmt_kind t.kind

step_begins : (x : Step) → begins_stmt_kind (IsSign (step_sign x)) ≡ true
step_begins Up = refl
step_begins Down = refl

simple_begins : (d : ℕ) (x : Simple) (more : List Mark) (h : Option Token) → holds begins_stmt (first (tokens (simple_marks d x ++ more)) h) ≡ true
simple_begins d (PlainPart (SetTo (TargetOf x i) at e)) more h = refl
simple_begins d (PlainPart (Changed (TargetOf x i) how at e)) more h = refl
simple_begins d (PlainPart (SteppedAfter (TargetOf x i) step at)) more h = refl
simple_begins d (PlainPart (SteppedBefore step at t)) more h = step_begins step
simple_begins d (SetCall (TargetOf x i) at call) more h = refl
simple_begins d (OnlyCall (CallOf f before args after)) more h = refl
simple_begins d (LibraryPart (Create a b c e f g i j k l m)) more h = refl
simple_begins d (LibraryPart (Join a b c e f g)) more h = refl
simple_begins d (LibraryPart (Lock a b c e f)) more h = refl
simple_begins d (LibraryPart (Unlock a b c e f)) more h = refl
simple_begins d (LibraryPart (Print a b c e f)) more h = refl
simple_begins d (LibraryPart (Scan a b c e f g i)) more h = refl
simple_begins d (LibraryPart (Wait a b c e f g i j)) more h = refl
simple_begins d (LibraryPart (Signal a b c e f)) more h = refl
simple_begins d (LibraryPart (Broadcast a b c e f)) more h = refl

pub stmt_begins : (d : ℕ) (st : Stmt) (more : List Mark) (h : Option Token) → holds begins_stmt (first (tokens (stmt_marks d st ++ more)) h) ≡ true
stmt_begins d (Block before items after) more h = refl
stmt_begins d (Nothing end) more h = refl
stmt_begins d (Simply x end ops) more h = ap (λ (z : List Mark). holds begins_stmt (first (tokens z) h)) (append_assoc (simple_marks d x) ((sign s.Semicolon end, d) ∷ ops_marks d ops) more) ∙ simple_begins d x _ h
stmt_begins d (Jumps (BareJump (Break at) end)) more h = refl
stmt_begins d (Jumps (BareJump (Continue at) end)) more h = refl
stmt_begins d (Jumps (BareJump (Return at) end)) more h = refl
stmt_begins d (Jumps (BareJump (ReturnNull at null) end)) more h = refl
stmt_begins d (Jumps (ReturnValue at v end)) more h = refl
stmt_begins d (Jumps (BareBlock before op end ops b end2 after)) more h = refl
stmt_begins d (Jumps (ValueBlock before int name set v end op end2 ops ret name2 end3 after)) more h = refl
stmt_begins d (If at before cond after st e) more h = refl
stmt_begins d (While at before cond after st) more h = refl
stmt_begins d (For at before first end cond end2 step after st) more h = refl

stmt_item_kind : (k : Kind) → begins_stmt_kind k ≡ true → begins_item_kind k ≡ true
stmt_item_kind (IsWord w.Int) e = refl
stmt_item_kind (IsWord w.Thread) e = refl
stmt_item_kind _ e = e

stmt_item : (h : Option Token) → holds begins_stmt h ≡ true → holds begins_item h ≡ true
stmt_item None e = absurd cc
stmt_item (Some x) e = stmt_item_kind x.kind e

pub item_begins : (d : ℕ) (i : Item) (more : List Mark) (h : Option Token) → holds begins_item (first (tokens (item_marks d i ++ more)) h) ≡ true
item_begins d (Declares (Ints at x xs) end ops) more h = refl
item_begins d (Declares (Holds at x xs) end ops) more h = refl
item_begins d (Does st) more h = stmt_item _ (stmt_begins d st more h)

stmt_no_decl_kind : (k : Kind) (at : Spot) → begins_stmt_kind k ≡ true → begins_decl (record { kind = k; spot = at }) ≡ false
stmt_no_decl_kind (IsWord w.Int) at e = absurd cc
stmt_no_decl_kind (IsWord w.Thread) at e = absurd cc
stmt_no_decl_kind _ at e = refl

stmt_no_thread_kind : (k : Kind) (at : Spot) → begins_stmt_kind k ≡ true → is_word w.Thread (record { kind = k; spot = at }) ≡ false
stmt_no_thread_kind (IsWord w.Thread) at e = absurd cc
stmt_no_thread_kind _ at e = refl

stmt_no_int_kind : (k : Kind) (at : Spot) → begins_stmt_kind k ≡ true → is_word w.Int (record { kind = k; spot = at }) ≡ false
stmt_no_int_kind (IsWord w.Int) at e = absurd cc
stmt_no_int_kind _ at e = refl

stmt_no_close_kind : (k : Kind) (at : Spot) → begins_stmt_kind k ≡ true → is_sign s.CloseBrace (record { kind = k; spot = at }) ≡ false
stmt_no_close_kind (IsSign s.CloseBrace) at e = absurd cc
stmt_no_close_kind _ at e = refl

-- what may stand behind an item: another one, or the closing brace
abbrev goes_on_kind : Kind → Bool
goes_on_kind (IsSign s.CloseBrace) = true
goes_on_kind k = begins_item_kind k

abbrev pub goes_on : Token → Bool
goes_on t = goes_on_kind t.kind

on_no_verb_kind : (k : Kind) (at : Spot) → goes_on_kind k ≡ true → is_verb (record { kind = k; spot = at }) ≡ false
on_no_verb_kind (IsWord w.Enter) at e = absurd cc
on_no_verb_kind (IsWord w.Leave) at e = absurd cc
on_no_verb_kind (IsWord w.Wait) at e = absurd cc
on_no_verb_kind (IsWord w.Done) at e = absurd cc
on_no_verb_kind (IsWord w.First) at e = absurd cc
on_no_verb_kind (IsWord w.Add) at e = absurd cc
on_no_verb_kind _ at e = refl

on_no_else_kind : (k : Kind) (at : Spot) → goes_on_kind k ≡ true → read.is_else (record { kind = k; spot = at }) ≡ false
on_no_else_kind (IsWord w.Else) at e = absurd cc
on_no_else_kind _ at e = refl

item_on_kind : (k : Kind) → begins_item_kind k ≡ true → goes_on_kind k ≡ true
item_on_kind (IsSign s.CloseBrace) e = refl
item_on_kind _ e = e

item_on : (h : Option Token) → holds begins_item h ≡ true → holds goes_on h ≡ true
item_on None e = absurd cc
item_on (Some x) e = item_on_kind x.kind e

no_of_false : (v : Bool) → v ≡ false → not v ≡ true
no_of_false true e = absurd cc
no_of_false false e = refl

pub on_no_verb : (h : Option Token) → holds goes_on h ≡ true → no_verb h ≡ true
on_no_verb h e = no_of_false _ (apart goes_on is_verb (λ y. on_no_verb_kind y.kind y.spot) h e)

on_no_else : (h : Option Token) → holds goes_on h ≡ true → holds read.is_else h ≡ false
on_no_else h e = apart goes_on read.is_else (λ y. on_no_else_kind y.kind y.spot) h e

-- ---- the languages

-- no `else` stands behind a statement that could take it
abbrev pub else_free : Stmt → Option Token → Bool
else_free st h = not (is_open st && holds read.is_else h)

abbrev pub stmt_stops : Stmt → Option Token → Bool
stmt_stops st h = no_verb h && else_free st h

abbrev pub stmt_lang : ℕ → Lang Token Stmt
stmt_lang d = record { marks = stmt_marks d; good = is_stmt; stops = stmt_stops }

abbrev item_stops : Item → Option Token → Bool
item_stops (Declares decl end ops) h = no_verb h
item_stops (Does st) h = stmt_stops st h

abbrev item_lang : ℕ → Lang Token Item
item_lang d = record { marks = item_marks d; good = is_item; stops = item_stops }

abbrev pub ends_items : Option Token → Bool
ends_items h = not (holds begins_item h) && (no_verb h && not (holds read.is_else h))

abbrev pub items_lang : ℕ → Lang Token Items
items_lang d = record { marks = items_marks d; good = are_items; stops = λ _ h. ends_items h }

pub free_of : (v w : Bool) → w ≡ false → not (v && w) ≡ true
free_of v true e = absurd cc
free_of true false e = refl
free_of false false e = refl

pub not_back : (v : Bool) → not v ≡ true → v ≡ false
not_back true e = absurd cc
not_back false e = refl

item_stops_on : (i : Item) (h : Option Token) → holds goes_on h ≡ true → item_stops i h ≡ true
item_stops_on (Declares decl end ops) h e = on_no_verb h e
item_stops_on (Does st) h e = and_from _ _ (on_no_verb h e) (free_of (is_open st) (holds read.is_else h) (on_no_else h e))

item_stops_last : (i : Item) (h : Option Token) → ends_items h ≡ true → item_stops i h ≡ true
item_stops_last (Declares decl end ops) h e = (and_parts _ _ (and_parts _ _ e).1).0
item_stops_last (Does st) h e = let p = (and_parts _ _ e).1 in and_from _ _ (and_parts _ _ p).0 (free_of (is_open st) (holds read.is_else h) (not_back _ (and_parts _ _ p).1))

-- what stands inside braces begins with an item or the closing brace
abbrev pub close_lang : ℕ → Lang Token (Items × Spot)
close_lang d = pair (items_lang d) (sign_lang s.CloseBrace d) (λ _ _. true)

pub close_on : (d : ℕ) (x : Items × Spot) (h : Option Token) → holds goes_on (first (toks (close_lang d) x) h) ≡ true
close_on d (NoItems, at) h = refl
close_on d (AndItem i more, at) h = ap (λ (z : List Mark). holds goes_on (first (tokens z) h)) (append_assoc (item_marks d i) (items_marks d more) _) ∙ item_on _ (item_begins d i _ h)

abbrev decl_ops_lang : ℕ → Lang Token (Decl × (Spot × Ops))
decl_ops_lang d = pair (decl_lang d) (pair (sign_lang s.Semicolon d) (ops_lang d) (λ _ h. no_verb h)) (λ _ h. no_verb h)

abbrev item_parts : ℕ → Lang Token ((Decl × (Spot × Ops)) ⊎ Stmt)
item_parts d = choice (decl_ops_lang d) (stmt_lang d)

decl_begins : (d : ℕ) (x : Decl) (more : List Mark) (h : Option Token) → holds begins_decl (first (tokens (decl_marks d x ++ more)) h) ≡ true
decl_begins d (Ints at x xs) more h = refl
decl_begins d (Holds at x xs) more h = refl

stmt_first : (d : ℕ) (st : Stmt) (h : Option Token) → holds begins_stmt (first (tokens (stmt_marks d st)) h) ≡ true
stmt_first d st h = ap (λ (z : List Mark). holds begins_stmt (first (tokens z) h)) (sym (append-nil (stmt_marks d st))) ∙ stmt_begins d st [] h

abbrev item_to : Item → (Decl × (Spot × Ops)) ⊎ Stmt
item_to (Declares decl end ops) = inl (decl, (end, ops))
item_to (Does st) = inr st

item_good_is : (d : ℕ) (x : (Decl × (Spot × Ops)) ⊎ Stmt) → is_item (item_from x) ≡ (item_parts d).good x
item_good_is d (inl x) = sym (ap (λ (v : Bool). is_decl x.0 && v) (ops_good d x.1.1) ∙ and_true (is_decl x.0))
item_good_is d (inr st) = refl

items_to : Items → List Item
items_to NoItems = []
items_to (AndItem i more) = i ∷ items_to more

items_back : (xs : Items) → items_from (items_to xs) ≡ xs
unfolding items_to
items_back NoItems = refl
items_back (AndItem i more) = ap (λ (z : Items). AndItem i z) (items_back more)

items_marks_is : (d : ℕ) (xs : List Item) → items_marks d (items_from xs) ≡ each (item_marks d) xs
items_marks_is d [] = refl
items_marks_is d (i ∷ xs) = ap (λ (z : List Mark). item_marks d i ++ z) (items_marks_is d xs)

items_good_is : (d : ℕ) (xs : List Item) → are_items (items_from xs) ≡ list_good (item_lang d) xs
items_good_is d [] = refl
items_good_is d (i ∷ xs) = ap (λ (v : Bool). is_item i && v) (items_good_is d xs)

abbrev some_stmt : Stmt
some_stmt = Nothing no_spot

-- ---- what stands in braces

abbrev bare_close : ℕ → Lang Token (stmt.Bare × (Spot × Spot))
bare_close d = (pair (bare_lang d) (pair (sign_lang s.Semicolon d) (sign_lang s.CloseBrace d) (λ _ _. true)) (λ _ _. true))

abbrev bare_block_lang : ℕ → Lang Token BareBlockParts
bare_block_lang d = (pair (op_lang d) (pair (sign_lang s.Semicolon d) (pair (ops_lang d) (pair (bare_lang d) (pair (sign_lang s.Semicolon d) (sign_lang s.CloseBrace d) (λ _ _. true)) (λ _ _. true)) (λ _ _. true)) (λ _ _. true)) (λ _ _. true))

bare_no_verb : (d : ℕ) (x : stmt.Bare × (Spot × Spot)) (h : Option Token) → no_verb (first (toks (bare_close d) x) h) ≡ true
bare_no_verb d (Break at, x) h = refl
bare_no_verb d (Continue at, x) h = refl
bare_no_verb d (Return at, x) h = refl
bare_no_verb d (ReturnNull at null, x) h = refl

bare_block_reader : (limit d : ℕ) → d ≤ limit → IsReader limit (bare_block_lang d) read_bare_block
bare_block_reader limit d hd =
    seq_reader limit _ _ (λ _ _. true) read_op _ (op_reader limit d hd)
    (seq_reader limit _ _ (λ _ _. true) read_semicolon _ (sign_reader limit d hd s.Semicolon)
    (seq_reader limit (ops_lang d) (bare_close d) (λ _ _. true) read_ops _ (ops_reader limit d hd)
    (seq_reader limit _ _ (λ _ _. true) read_bare _ (bare_reader limit d hd)
    (seq_reader limit _ _ (λ _ _. true) read_semicolon _ (sign_reader limit d hd s.Semicolon)
    (sign_reader limit d hd s.CloseBrace)
    (λ a b k g1 g2 e. (refl, refl)) no_spot refl)
    (λ a b k g1 g2 e. (refl, refl)) (no_spot, no_spot) refl)
    (λ a b k g1 g2 e. (bare_no_verb d b k, refl)) ((Break no_spot), (no_spot, no_spot)) refl)
    (λ a b k g1 g2 e. (refl, refl)) ([], ((Break no_spot), (no_spot, no_spot))) refl)
    (λ a b k g1 g2 e. (refl, refl)) (no_spot, ([], ((Break no_spot), (no_spot, no_spot)))) refl

abbrev value_block_lang : ℕ → Lang Token ValueBlockParts
value_block_lang d = (pair (word_lang w.Value d) (pair (sign_lang s.Assign d) (pair (value_lang d) (pair (sign_lang s.Semicolon d) (pair (op_lang d) (pair (sign_lang s.Semicolon d) (pair (ops_lang d) (pair (word_lang w.Return d) (pair (word_lang w.Value d) (pair (sign_lang s.Semicolon d) (sign_lang s.CloseBrace d) (λ _ _. true)) (λ _ _. true)) (λ _ _. true)) (λ _ _. true)) (λ _ _. true)) (λ _ _. true)) (λ _ _. true)) (λ _ _. true)) (λ _ _. true)) (λ _ _. true))

value_block_reader : (limit r d : ℕ) → r + d ≡ limit → IsReader limit (value_block_lang d) (value_block_at limit r)
value_block_reader limit r d h =
    let hd : d ≤ limit = omega (arith, h) in
    seq_reader limit _ _ (λ _ _. true) (read_word w.Value) _ (word_reader limit d hd w.Value)
    (seq_reader limit _ _ (λ _ _. true) (read_sign s.Assign) _ (sign_reader limit d hd s.Assign)
    (seq_reader limit _ _ (λ _ _. true) (value_at limit r) _ (value_reader limit r d h)
    (seq_reader limit _ _ (λ _ _. true) read_semicolon _ (sign_reader limit d hd s.Semicolon)
    (seq_reader limit _ _ (λ _ _. true) read_op _ (op_reader limit d hd)
    (seq_reader limit _ _ (λ _ _. true) read_semicolon _ (sign_reader limit d hd s.Semicolon)
    (seq_reader limit _ _ (λ _ _. true) read_ops _ (ops_reader limit d hd)
    (seq_reader limit _ _ (λ _ _. true) (read_word w.Return) _ (word_reader limit d hd w.Return)
    (seq_reader limit _ _ (λ _ _. true) (read_word w.Value) _ (word_reader limit d hd w.Value)
    (seq_reader limit _ _ (λ _ _. true) read_semicolon _ (sign_reader limit d hd s.Semicolon)
    (sign_reader limit d hd s.CloseBrace)
    (λ a b k g1 g2 e. (refl, refl)) no_spot refl)
    (λ a b k g1 g2 e. (refl, refl)) (no_spot, no_spot) refl)
    (λ a b k g1 g2 e. (refl, refl)) (no_spot, (no_spot, no_spot)) refl)
    (λ a b k g1 g2 e. (refl, refl)) (no_spot, (no_spot, (no_spot, no_spot))) refl)
    (λ a b k g1 g2 e. (refl, refl)) ([], (no_spot, (no_spot, (no_spot, no_spot)))) refl)
    (λ a b k g1 g2 e. (refl, refl)) (no_spot, ([], (no_spot, (no_spot, (no_spot, no_spot))))) refl)
    (λ a b k g1 g2 e. (refl, refl)) (some_op, (no_spot, ([], (no_spot, (no_spot, (no_spot, no_spot)))))) refl)
    (λ a b k g1 g2 e. (refl, refl)) (no_spot, (some_op, (no_spot, ([], (no_spot, (no_spot, (no_spot, no_spot))))))) refl)
    (λ a b k g1 g2 e. (refl, refl)) ((Computed some_expr), (no_spot, (some_op, (no_spot, ([], (no_spot, (no_spot, (no_spot, no_spot)))))))) refl)
    (λ a b k g1 g2 e. (refl, refl)) (no_spot, ((Computed some_expr), (no_spot, (some_op, (no_spot, ([], (no_spot, (no_spot, (no_spot, no_spot))))))))) refl

abbrev locals_lang : ℕ → Lang Token (LocalInt × List (Spot × LocalInt))
locals_lang d = listed_lang d (local_lang d) ends_decl

locals_reader : (limit r d : ℕ) → r + d ≡ limit → IsReader limit (locals_lang d) (listed (local_at limit r))
locals_reader limit r d h = listed_reader d (local_lang d) ends_decl limit (omega (arith, h)) (local_at limit r) (local_reader limit r d h) (OneLocal some_ident) refl (λ a at g. refl) (λ a k g e. (and_parts _ _ e).0) (λ k e. not_true _ (and_parts _ _ e).1)

abbrev ints_block_lang : ℕ → Lang Token IntsBlockParts
ints_block_lang d = (pair (locals_lang d) (pair (sign_lang s.Semicolon d) (pair (ops_lang d) (pair (items_lang d) (sign_lang s.CloseBrace d) (λ _ _. true)) (λ _ _. true)) (λ _ _. true)) (λ _ _. true))

abbrev ints_case_lang : ℕ → Lang Token (Spot × (ValueBlockParts ⊎ IntsBlockParts))
ints_case_lang d = pair (word_lang w.Int d) (choice (value_block_lang d) (ints_block_lang d)) (λ x h. (choice (value_block_lang d) (ints_block_lang d)).stops x.1 h)

abbrev pub holds_ops_lang : ℕ → Lang Token ((Spot × (Hold × List (Spot × Hold))) × (Spot × Ops))
holds_ops_lang d = pair (holds_lang d) (pair (sign_lang s.Semicolon d) (ops_lang d) (λ _ h. no_verb h)) (λ _ h. no_verb h)

abbrev other_item_lang : ℕ → Lang Token OtherItem
other_item_lang d = choice (holds_ops_lang d) (stmt_lang d)

abbrev others_lang : ℕ → Lang Token (OtherItem × (Items × Spot))
others_lang d = pair (other_item_lang d) (close_lang d) (λ _ _. true)

abbrev pub in_braces : ℕ → Lang Token InBraces
in_braces d = choice (bare_block_lang d) (choice (ints_case_lang d) (choice (sign_lang s.CloseBrace d) (others_lang d)))

other_stops_on : (d : ℕ) (x : OtherItem) (h : Option Token) → holds goes_on h ≡ true → (other_item_lang d).stops x h ≡ true
other_stops_on d (inl x) h e = on_no_verb h e
other_stops_on d (inr st) h e = item_stops_on (Does st) h e

other_kinds : (d : ℕ) (b : Token → Bool) → ((at : Spot) → b (word w.Thread at) ≡ false) → ((k : Kind) (at : Spot) → begins_stmt_kind k ≡ true → b (record { kind = k; spot = at }) ≡ false) → (x : OtherItem × (Items × Spot)) (h : Option Token) → holds b (first (toks (others_lang d) x) h) ≡ false
other_kinds d b f g (inl x, y) h = f x.0.0
other_kinds d b f g (inr st, y) h = apart begins_stmt b (λ t. g t.kind t.spot) _ (stmt_begins d st _ h)

thread_no_verb : (at : Spot) → is_verb (word w.Thread at) ≡ false
thread_no_verb at = refl

stmt_no_verb_kind : (k : Kind) (at : Spot) → begins_stmt_kind k ≡ true → is_verb (record { kind = k; spot = at }) ≡ false
stmt_no_verb_kind k at e = on_no_verb_kind k at (item_on_kind k (stmt_item_kind k e))

no_verb_here : (d : ℕ) (x : (Spot × (ValueBlockParts ⊎ IntsBlockParts)) ⊎ (Spot ⊎ (OtherItem × (Items × Spot)))) (h : Option Token) → holds is_verb (first (toks (choice (ints_case_lang d) (choice (sign_lang s.CloseBrace d) (others_lang d))) x) h) ≡ false
no_verb_here d (inl x) h = refl
no_verb_here d (inr (inl at)) h = refl
no_verb_here d (inr (inr x)) h = other_kinds d is_verb thread_no_verb stmt_no_verb_kind x h

no_int_here : (d : ℕ) (x : Spot ⊎ (OtherItem × (Items × Spot))) (h : Option Token) → holds (is_word w.Int) (first (toks (choice (sign_lang s.CloseBrace d) (others_lang d)) x) h) ≡ false
no_int_here d (inl at) h = refl
no_int_here d (inr x) h = other_kinds d (is_word w.Int) (λ at. refl) stmt_no_int_kind x h

name_no_value_kind : (k : Kind) (at : Spot) → is_name_kind k ≡ true → is_word w.Value (record { kind = k; spot = at }) ≡ false
name_no_value_kind (IsWord x) at e = absurd cc
name_no_value_kind _ at e = refl

local_no_word : (d : ℕ) (x : IntsBlockParts) (h : Option Token) → holds (is_word w.Value) (first (toks (ints_block_lang d) x) h) ≡ false
local_no_word d ((x, xs), more) h = apart is_name (is_word w.Value) (λ y. name_no_value_kind y.kind y.spot) _ (ap (λ (z : List Mark). holds is_name (first (tokens z) h)) (append_assoc (local_int_marks d x) _ _) ∙ local_begins d x _ h)

-- ---- over a reader of the statements inside

module _ (limit r d : ℕ) (h : r + d ≡ limit) (stmt : List Token → Out Token Stmt) (rs : IsReader limit (stmt_lang d) stmt) where
  hd : d ≤ limit
  hd = omega (arith, h)

  ops_end : IsReader limit (pair (sign_lang s.Semicolon d) (ops_lang d) (λ _ h. no_verb h)) (seq read_semicolon read_ops)
  ops_end = seq_reader limit (sign_lang s.Semicolon d) (ops_lang d) (λ _ h. no_verb h) read_semicolon read_ops (sign_reader limit d hd s.Semicolon) (ops_reader limit d hd) (λ a b k g1 g2 e. (refl, e)) [] refl

  item_reader : IsReader limit (item_lang d) (item_with limit r stmt)
  item_reader = map_reader limit (item_parts d) (item_lang d) item_from item_to
      (record {
        back = elim [ Declares decl end ops ↦ λ g. refl | Does st ↦ λ g. refl ];
        good_back = elim [ Declares decl end ops ↦ λ g. and_from _ _ g (ops_good d ops) | Does st ↦ λ g. g ];
        marks = elim [ inl x ↦ λ g. refl | inr st ↦ λ g. refl ];
        good = λ x g. item_good_is d x ∙ g;
        stops = elim [ Declares decl end ops ↦ λ k g e. e | Does st ↦ λ k g e. e ];
      }) _
      (choice_reader limit begins_decl (decl_ops_lang d) (stmt_lang d) _ stmt (λ a k g. decl_begins d a.0 _ k) (λ c k g e. apart begins_stmt begins_decl (λ y. stmt_no_decl_kind y.kind y.spot) _ (stmt_first d c k))
      (seq_reader limit (decl_lang d) (pair (sign_lang s.Semicolon d) (ops_lang d) (λ _ h. no_verb h)) (λ _ h. no_verb h) (decl_at limit r) _ (decl_reader limit r d h) ops_end (λ a b k g1 g2 e. (refl, e)) (no_spot, []) refl) rs)

  pub items_reader : IsReader limit (items_lang d) (items_with limit r stmt)
  items_reader = map_reader limit (items (item_lang d) ends_items) (items_lang d) items_from items_to
      (record {
        back = λ x g. items_back x;
        good_back = λ x g. sym (items_good_is d (items_to x)) ∙ ap are_items (items_back x) ∙ g;
        marks = λ x g. items_marks_is d x;
        good = λ x g. items_good_is d x ∙ g;
        stops = λ x k g e. e;
      }) _
      (many_reader limit (item_lang d) begins_item ends_items
      (record {
        begun = λ a k g. ap (λ (z : List Mark). holds begins_item (first (tokens z) k)) (sym (append-nil (item_marks d a))) ∙ item_begins d a [] k;
        ends = λ k e. not_true _ (and_parts _ _ e).0;
        stops_more = λ a k g e. item_stops_on a k (item_on k e);
        stops_last = λ a k g e. item_stops_last a k e;
      }) (item_with limit r stmt) item_reader)

  pub close_reader : IsReader limit (close_lang d) (seq (items_with limit r stmt) (read_sign s.CloseBrace))
  close_reader = seq_reader limit (items_lang d) (sign_lang s.CloseBrace d) (λ _ _. true) (items_with limit r stmt) (read_sign s.CloseBrace) items_reader (sign_reader limit d hd s.CloseBrace) (λ a b k g1 g2 e. (refl, refl)) no_spot refl

  ints_block_reader : IsReader limit (ints_block_lang d) (ints_block_with limit r stmt)
  ints_block_reader =
      seq_reader limit (locals_lang d) _ (λ _ _. true) (listed (local_at limit r)) _ (locals_reader limit r d h)
      (seq_reader limit (sign_lang s.Semicolon d) _ (λ _ _. true) read_semicolon _ (sign_reader limit d hd s.Semicolon)
      (seq_reader limit (ops_lang d) (close_lang d) (λ _ _. true) read_ops _ (ops_reader limit d hd) close_reader (λ a b k g1 g2 e. (on_no_verb _ (close_on d b k), refl)) (NoItems, no_spot) refl)
      (λ a b k g1 g2 e. (refl, refl)) ([], (NoItems, no_spot)) refl)
      (λ a b k g1 g2 e. (refl, refl)) (no_spot, ([], (NoItems, no_spot))) refl

  other_item_reader : IsReader limit (other_item_lang d) (other_item_with stmt)
  other_item_reader = choice_reader limit (is_word w.Thread) (holds_ops_lang d) (stmt_lang d) _ stmt (λ a k g. refl) (λ c k g e. apart begins_stmt (is_word w.Thread) (λ y. stmt_no_thread_kind y.kind y.spot) _ (stmt_first d c k))
      (seq_reader limit (holds_lang d) (pair (sign_lang s.Semicolon d) (ops_lang d) (λ _ h. no_verb h)) (λ _ h. no_verb h) _ _ (holds_reader limit d hd) ops_end (λ a b k g1 g2 e. (refl, e)) (no_spot, []) refl) rs

  others_reader : IsReader limit (others_lang d) (seq (other_item_with stmt) (seq (items_with limit r stmt) (read_sign s.CloseBrace)))
  others_reader = seq_reader limit (other_item_lang d) (close_lang d) (λ _ _. true) (other_item_with stmt) _ other_item_reader close_reader (λ a b k g1 g2 e. (other_stops_on d a _ (close_on d b k), refl)) (NoItems, no_spot) refl

  pub in_braces_reader : IsReader limit (in_braces d) (alt is_verb read_bare_block (alt (is_word w.Int) (seq (read_word w.Int) (alt (is_word w.Value) (value_block_at limit r) (ints_block_with limit r stmt)))
      (alt (is_sign s.CloseBrace) (read_sign s.CloseBrace) (seq (other_item_with stmt) (seq (items_with limit r stmt) (read_sign s.CloseBrace))))))
  in_braces_reader =
      choice_reader limit is_verb (bare_block_lang d) (choice (ints_case_lang d) (choice (sign_lang s.CloseBrace d) (others_lang d))) _ _ (λ a k g. op_begins d a.0 _ k) (λ c k g e. no_verb_here d c k) (bare_block_reader limit d hd)
      (choice_reader limit (is_word w.Int) (ints_case_lang d) (choice (sign_lang s.CloseBrace d) (others_lang d)) _ _ (λ a k g. refl) (λ c k g e. no_int_here d c k)
      (seq_reader limit (word_lang w.Int d) (choice (value_block_lang d) (ints_block_lang d)) (λ x h. (choice (value_block_lang d) (ints_block_lang d)).stops x.1 h) (read_word w.Int) _ (word_reader limit d hd w.Int)
      (choice_reader limit (is_word w.Value) (value_block_lang d) (ints_block_lang d) _ _ (λ a k g. refl) (λ c k g e. local_no_word d c k) (value_block_reader limit r d h) ints_block_reader) (λ a b k g1 g2 e. (refl, e)) (inr ((OneLocal some_ident, []), (no_spot, ([], (NoItems, no_spot))))) refl)
      (choice_reader limit (is_sign s.CloseBrace) (sign_lang s.CloseBrace d) (others_lang d) _ _ (λ a k g. refl) (λ c k g e. other_kinds d (is_sign s.CloseBrace) (λ at. refl) stmt_no_close_kind c k) (sign_reader limit d hd s.CloseBrace) others_reader))
