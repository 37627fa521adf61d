-- Simple statements: their items, and their trees.
use Rattle.std.proofs.Common.{◌≡◌, ℕ, pos, Bool, true, false, List, [], ◌∷◌, ◌++◌, map, Option, Some, None, append_assoc, append-nil, refl, ap, sym, ◌∙◌, codes, true≢false}
use Rattle.std.specs.Fmt.{decimal}
use Rattle.cfix_base.specs.declared.spot.Spot.{Spot}
use Rattle.c_prog.specs.declared.act.Act.{Act}
use Rattle.c_prog.specs.declared.act.Act.TheVariants as act
use Rattle.c_prog.specs.declared.act.How.{How}
use Rattle.c_prog.specs.declared.act.How.TheVariants as how
use Rattle.c_prog.specs.declared.act.LocalKind.{LocalKind}
use Rattle.c_prog.specs.declared.act.LocalKind.TheVariants as kind
use Rattle.c_prog.specs.declared.act.Value.{Value}
use Rattle.c_prog.specs.declared.act.Value.TheVariants as value
use Rattle.c_prog.specs.declared.expr.Expr.{Expr}
use Rattle.c_prog.specs.declared.expr.Target.{Target}
use Rattle.c_prog.specs.Order.{joined}
use Rattle.c_grammar.specs.declared.sign.Sign.{Sign}
use Rattle.c_grammar.specs.declared.sign.Sign.TheVariants as s
use Rattle.c_grammar.specs.declared.word.Word.{Word}
use Rattle.c_grammar.specs.declared.word.Word.TheVariants as w
use Rattle.c_grammar.specs.Token.{IsName, IsNumber, IsQuoted, IsWord, IsSign, Mark, Numeral, Text, word, sign, ident, quoted}
use Rattle.c_grammar.specs.Op.{Ops, ops_marks}
use Rattle.c_grammar.specs.Simple as m
use Rattle.c_grammar.specs.Decl as l
use Rattle.c_grammar.specs.Stmt as t
use Rattle.c_grammar.specs.Marks.{tokens, first}
use Rattle.c_grammar.specs.Spelling.{sign_text}
use Rattle.c_print.specs.Text.Names.{Names, name_at}
use Rattle.c_print.specs.Text.Expressions.{thread_argument, target_text, expr_text}
use Rattle.c_print.specs.Text.Acts.{local_text, initial_text, how_sign, act_text, value_text, call_text}
use Rattle.c_print.specs.Text.Pieces as pieces
use Rattle.print_law.proofs.Items.{Item, Gap, Is, here, later, spotted, after, joint}
use Rattle.print_law.proofs.Expressions.{ident_at}
use Rattle.print_law.proofs.Texts.{spelled, spelled-append, spelled-closed}
use Rattle.print_law.proofs.Apart.{apart, fits, ends, Fits, both, fits-then, closed-paren, closed-bracket, name-fits}
use Rattle.print_law.proofs.Calls.{items_of, text-of, target_items, target_tree, target-told, target-derived, target-text, target-fits, more_items, more_tree, more-told, more-derived, more-text, more-fits, call_items, call_tree, call-told, call-derived, call-text, call-fits, value_items, value_tree, value-told, value-derived, value-text, value-fits}
use Rattle.print_law.proofs.Acts.{argument_items, argument_tree, argument-told, argument-derived, argument-text, argument-fits, how-is, sign_for, assign_items, assign-fits, up-fits, down-fits, plain_items, plain_tree, plain-told, plain-derived, plain-fits}

-- a declaration or another simple statement, before what ends it
pub data Made : Type 0 where
  Declared : l.Decl → Made
  Simply : m.Simple → Made

abbrev pub made_marks : ℕ → Made → List Mark
made_marks d (Declared x) = l.decl_marks d x
made_marks d (Simply x) = m.simple_marks d x

abbrev pub is_made : Made → Bool
is_made (Declared x) = l.is_decl x
is_made (Simply x) = m.is_simple x

-- with its end and its operations
abbrev pub made_item : Made → Spot → Ops → t.Item
made_item (Declared x) end ops = t.Declares x end ops
made_item (Simply x) end ops = t.Does (t.Simply x end ops)

pub made-marks : (x : Made) (d : ℕ) (end : Spot) (ops : Ops)
    → t.item_marks d (made_item x end ops) ≡ made_marks d x ++ (sign s.Semicolon end, d) ∷ ops_marks d ops
made-marks (Declared x) d end ops = refl
made-marks (Simply x) d end ops = refl

pub made-good : (x : Made) (end : Spot) (ops : Ops) → t.is_item (made_item x end ops) ≡ is_made x
made-good (Declared x) end ops = refl
made-good (Simply x) end ops = refl

-- declarations

abbrev number_at : ℕ → List Spot → Numeral
number_at n spots = record { value = pos n; spot = here spots }

-- a word and a name
abbrev typed : Word → List ℕ → List Item → List Item
typed x name rest = Is (IsWord x) ∷ Gap ∷ Is (IsName name) ∷ rest

-- a length in brackets
abbrev pub length_items : ℕ → List Item
length_items n = Is (IsSign s.OpenBracket) ∷ Is (IsNumber (pos n)) ∷ Is (IsSign s.CloseBracket) ∷ []

abbrev pub declared_items : Names → List ℕ → LocalKind → Option Value → List Item
declared_items names name kind.Int None = typed w.Int name []
declared_items names name kind.Int (Some v) = typed w.Int name (Gap ∷ Is (IsSign s.Assign) ∷ Gap ∷ value_items names v)
declared_items names name (kind.IntArray n) initial = typed w.Int name (length_items n)
declared_items names name kind.Thread initial = typed w.Thread name []
declared_items names name (kind.ThreadArray n) initial = typed w.Thread name (length_items n)

abbrev pub declared_tree : Names → List ℕ → LocalKind → Option Value → List Spot → l.Decl
declared_tree names name kind.Int None spots = l.Ints (here spots) (l.OneLocal (ident_at name (later spots))) []
declared_tree names name kind.Int (Some v) spots =
    l.Ints (here spots) (l.SetLocal (ident_at name (later spots)) (here (later (later spots))) (value_tree names v (later (later (later spots))))) []
declared_tree names name (kind.IntArray n) initial spots =
    l.Ints (here spots) (l.LocalArray (ident_at name (later spots)) (here (later (later spots))) (l.Count (number_at n (later (later (later spots)))))
    (here (later (later (later (later spots)))))) []
declared_tree names name kind.Thread initial spots = l.Holds (here spots) (l.OneThread (ident_at name (later spots))) []
declared_tree names name (kind.ThreadArray n) initial spots =
    l.Holds (here spots) (l.Threads (ident_at name (later spots)) (here (later (later spots))) (l.Count (number_at n (later (later (later spots)))))
    (here (later (later (later (later spots)))))) []

declared-told : (names : Names) (name : List ℕ) (kind : LocalKind) (initial : Option Value) (d : ℕ) (spots : List Spot)
    → tokens (l.decl_marks d (declared_tree names name kind initial spots)) ≡ spotted spots (declared_items names name kind initial)
declared-told names name kind.Int None d spots = refl
declared-told names name kind.Int (Some v) d spots =
    ap (λ z. word w.Int (here spots) ∷ ident (ident_at name (later spots)) ∷ sign s.Assign (here (later (later spots))) ∷ z)
    (ap tokens (append-nil (m.value_marks d (value_tree names v (later (later (later spots)))))) ∙ value-told names v d (later (later (later spots))))
declared-told names name (kind.IntArray n) initial d spots = refl
declared-told names name kind.Thread initial d spots = refl
declared-told names name (kind.ThreadArray n) initial d spots = refl

declared-good : (names : Names) (name : List ℕ) (kind : LocalKind) (initial : Option Value) (spots : List Spot) → l.is_decl (declared_tree names name kind initial spots) ≡ true
declared-good names name kind.Int None spots = refl
declared-good names name kind.Int (Some v) spots = both _ _ (value-derived names v (later (later (later spots)))) refl
declared-good names name (kind.IntArray n) initial spots = refl
declared-good names name kind.Thread initial spots = refl
declared-good names name (kind.ThreadArray n) initial spots = refl

length-fits : (n : ℕ) (next : Option Item) → ends next ≡ true → fits (length_items n) next ≡ true
length-fits n next h = closed-bracket next h

declared-fits : (names : Names) (name : List ℕ) (kind : LocalKind) (initial : Option Value) → Fits (declared_items names name kind initial)
declared-fits names name kind.Int None next h = name-fits name next h
declared-fits names name kind.Int (Some v) next h = value-fits names v next h
declared-fits names name (kind.IntArray n) initial next h = length-fits n next h
declared-fits names name kind.Thread initial next h = name-fits name next h
declared-fits names name (kind.ThreadArray n) initial next h = length-fits n next h

-- whether a declaration has a form of the grammar: only an `int` begins with a value
abbrev pub has_form : LocalKind → Option Value → Bool
has_form kind None = true
has_form kind.Int (Some v) = true
has_form _ (Some v) = false

no-form : {A : Type 0} → false ≡ true → A
no-form e = absurd (true≢false (sym e))

number-text : (front : List ℕ) (name : List ℕ) (n : ℕ) → (front ++ name ++ (91 ∷ (decimal n ++ 93 ∷ []))) ++ [] ≡ front ++ (name ++ (91 ∷ (decimal n ++ 93 ∷ [])))
number-text front name n = append-nil _ ∙ append_assoc front name (91 ∷ (decimal n ++ 93 ∷ []))

declared-text : (names : Names) (name : List ℕ) (kind : LocalKind) (initial : Option Value) → has_form kind initial ≡ true
    → local_text name kind ++ initial_text names initial ≡ spelled (declared_items names name kind initial)
declared-text names name kind.Int None h = append_assoc (codes "int ") name []
declared-text names name kind.Int (Some v) h =
    append_assoc (codes "int ") name (codes " = " ++ value_text names v) ∙ ap (λ z. codes "int " ++ (name ++ (codes " = " ++ z))) (value-text names v)
declared-text names name (kind.IntArray n) None h = number-text (codes "int ") name n
declared-text names name (kind.IntArray n) (Some v) h = no-form h
declared-text names name kind.Thread None h = append_assoc (codes "pthread_t ") name []
declared-text names name kind.Thread (Some v) h = no-form h
declared-text names name (kind.ThreadArray n) None h = number-text (codes "pthread_t ") name n
declared-text names name (kind.ThreadArray n) (Some v) h = no-form h

-- the calls of the headers

-- what stands behind the target of a creation
abbrev thread_items : Names → ℕ → Expr → List Item
thread_items names f e =
    Is (IsSign s.Comma) ∷ Gap ∷ Is (IsWord w.Null) ∷ Is (IsSign s.Comma) ∷ Gap ∷ Is (IsName (name_at names.functions f)) ∷ Is (IsSign s.Comma) ∷ Gap
    ∷ (argument_items names e ++ Is (IsSign s.CloseParen) ∷ [])

abbrev create_items : Names → Target → ℕ → Expr → List Item
create_items names t f e = Is (IsWord w.Create) ∷ Is (IsSign s.OpenParen) ∷ Is (IsSign s.Ampersand) ∷ (target_items names t ++ thread_items names f e)

abbrev create_tree : Names → Target → ℕ → Expr → List Spot → m.Library
create_tree names t f e spots =
    let behind = after (later (later (later spots))) (target_items names t) in
    let last = later (later (later (later (later behind)))) in
    m.Create (here spots) (here (later spots)) (here (later (later spots))) (target_tree names t (later (later (later spots)))) (here behind) (here (later behind))
    (here (later (later behind))) (ident_at (name_at names.functions f) (later (later (later behind)))) (here (later (later (later (later behind)))))
    (argument_tree names e last) (here (after last (argument_items names e)))

abbrev join_end : List Item
join_end = Is (IsSign s.Comma) ∷ Gap ∷ Is (IsWord w.Null) ∷ Is (IsSign s.CloseParen) ∷ []

-- a call on a mutex or a condition variable
abbrev lock_items : Word → List ℕ → List Item
lock_items x name = Is (IsWord x) ∷ Is (IsSign s.OpenParen) ∷ Is (IsSign s.Ampersand) ∷ Is (IsName name) ∷ Is (IsSign s.CloseParen) ∷ []

abbrev wait_items : List ℕ → List ℕ → List Item
wait_items cond mutex =
    Is (IsWord w.CondWait) ∷ Is (IsSign s.OpenParen) ∷ Is (IsSign s.Ampersand) ∷ Is (IsName cond) ∷ Is (IsSign s.Comma) ∷ Gap ∷ Is (IsSign s.Ampersand)
    ∷ Is (IsName mutex) ∷ Is (IsSign s.CloseParen) ∷ []

-- the items of a simple statement
abbrev pub act_items : Names → Act → List Item
act_items names (act.Declare name kind initial) = declared_items names name kind initial
act_items names (act.Assign t how (value.Expr e)) = plain_items names (act.Assign t how (value.Expr e))
act_items names (act.Assign t how (value.Call c)) = assign_items names t s.Assign (call_items names c)
act_items names (act.Up t) = plain_items names (act.Up t)
act_items names (act.Down t) = plain_items names (act.Down t)
act_items names (act.Call c) = call_items names c
act_items names (act.Create t f e) = create_items names t f.number e
act_items names (act.Join t) = Is (IsWord w.Join) ∷ Is (IsSign s.OpenParen) ∷ (target_items names t ++ join_end)
act_items names (act.Lock x) = lock_items w.Lock (name_at names.globals x.number)
act_items names (act.Unlock x) = lock_items w.Unlock (name_at names.globals x.number)
act_items names (act.Print text args) =
    Is (IsWord w.Printf) ∷ Is (IsSign s.OpenParen) ∷ Is (IsQuoted text) ∷ (more_items names args ++ Is (IsSign s.CloseParen) ∷ [])
act_items names (act.Scan t) =
    Is (IsWord w.Scanf) ∷ Is (IsSign s.OpenParen) ∷ Is (IsQuoted (codes "%d")) ∷ Is (IsSign s.Comma) ∷ Gap ∷ Is (IsSign s.Ampersand)
    ∷ (target_items names t ++ Is (IsSign s.CloseParen) ∷ [])
act_items names (act.Wait c x) = wait_items (name_at names.globals c.number) (name_at names.globals x.number)
act_items names (act.Signal c) = lock_items w.Signal (name_at names.globals c.number)
act_items names (act.Broadcast c) = lock_items w.Broadcast (name_at names.globals c.number)

abbrev text_at : List ℕ → List Spot → Text
text_at bytes spots = record { bytes = bytes; spot = here spots }

-- its tree
abbrev pub act_made : Names → Act → List Spot → Made
act_made names (act.Declare name kind initial) spots = Declared (declared_tree names name kind initial spots)
act_made names (act.Assign t how (value.Expr e)) spots = Simply (m.PlainPart (plain_tree names (act.Assign t how (value.Expr e)) spots))
act_made names (act.Assign t how (value.Call c)) spots =
    Simply (m.SetCall (target_tree names t spots) (here (after spots (target_items names t))) (call_tree names c (later (after spots (target_items names t)))))
act_made names (act.Up t) spots = Simply (m.PlainPart (plain_tree names (act.Up t) spots))
act_made names (act.Down t) spots = Simply (m.PlainPart (plain_tree names (act.Down t) spots))
act_made names (act.Call c) spots = Simply (m.OnlyCall (call_tree names c spots))
act_made names (act.Create t f e) spots = Simply (m.LibraryPart (create_tree names t f.number e spots))
act_made names (act.Join t) spots =
    let behind = after (later (later spots)) (target_items names t) in
    Simply (m.LibraryPart (m.Join (here spots) (here (later spots)) (target_tree names t (later (later spots))) (here behind) (here (later behind)) (here (later (later behind)))))
act_made names (act.Lock x) spots =
    Simply (m.LibraryPart (m.Lock (here spots) (here (later spots)) (here (later (later spots))) (ident_at (name_at names.globals x.number) (later (later (later spots))))
    (here (later (later (later (later spots)))))))
act_made names (act.Unlock x) spots =
    Simply (m.LibraryPart (m.Unlock (here spots) (here (later spots)) (here (later (later spots))) (ident_at (name_at names.globals x.number) (later (later (later spots))))
    (here (later (later (later (later spots)))))))
act_made names (act.Print text args) spots =
    Simply (m.LibraryPart (m.Print (here spots) (here (later spots)) (text_at text (later (later spots))) (more_tree names args (later (later (later spots))))
    (here (after (later (later (later spots))) (more_items names args)))))
act_made names (act.Scan t) spots =
    Simply (m.LibraryPart (m.Scan (here spots) (here (later spots)) (text_at (codes "%d") (later (later spots))) (here (later (later (later spots))))
    (here (later (later (later (later spots))))) (target_tree names t (later (later (later (later (later spots))))))
    (here (after (later (later (later (later (later spots))))) (target_items names t)))))
act_made names (act.Wait c x) spots =
    let second = later (later (later (later spots))) in
    Simply (m.LibraryPart (m.Wait (here spots) (here (later spots)) (here (later (later spots))) (ident_at (name_at names.globals c.number) (later (later (later spots))))
    (here second) (here (later second)) (ident_at (name_at names.globals x.number) (later (later second))) (here (later (later (later second))))))
act_made names (act.Signal c) spots =
    Simply (m.LibraryPart (m.Signal (here spots) (here (later spots)) (here (later (later spots))) (ident_at (name_at names.globals c.number) (later (later (later spots))))
    (here (later (later (later (later spots)))))))
act_made names (act.Broadcast c) spots =
    Simply (m.LibraryPart (m.Broadcast (here spots) (here (later spots)) (here (later (later spots))) (ident_at (name_at names.globals c.number) (later (later (later spots))))
    (here (later (later (later (later spots)))))))

create-told : (names : Names) (t : Target) (f : ℕ) (e : Expr) (d : ℕ) (spots : List Spot)
    → tokens (m.library_marks d (create_tree names t f e spots)) ≡ spotted spots (create_items names t f e)
create-told names t f e d spots =
    let start = later (later (later spots)) in
    let behind = after start (target_items names t) in
    let last = later (later (later (later (later behind)))) in
    ap (λ z. word w.Create (here spots) ∷ sign s.OpenParen (here (later spots)) ∷ sign s.Ampersand (here (later (later spots))) ∷ z)
    (joint start (target_items names t) (thread_items names f e) (m.target_marks d (target_tree names t start)) _ (target-told names t d start)
    (ap (λ z. sign s.Comma (here behind) ∷ word w.Null (here (later behind)) ∷ sign s.Comma (here (later (later behind)))
    ∷ ident (ident_at (name_at names.functions f) (later (later (later behind)))) ∷ sign s.Comma (here (later (later (later (later behind))))) ∷ z)
    (joint last (argument_items names e) (Is (IsSign s.CloseParen) ∷ []) (m.thread_arg_marks d (argument_tree names e last)) _ (argument-told names e d last) refl)))

pub act-told : (names : Names) (a : Act) (d : ℕ) (spots : List Spot) → tokens (made_marks d (act_made names a spots)) ≡ spotted spots (act_items names a)
act-told names (act.Declare name kind initial) d spots = declared-told names name kind initial d spots
act-told names (act.Assign t how (value.Expr e)) d spots = plain-told names (act.Assign t how (value.Expr e)) d spots
act-told names (act.Assign t how (value.Call c)) d spots =
    let behind = after spots (target_items names t) in
    joint spots (target_items names t) (Gap ∷ Is (IsSign s.Assign) ∷ Gap ∷ call_items names c) (m.target_marks d (target_tree names t spots))
    ((sign s.Assign (here behind), d) ∷ m.call_marks d (call_tree names c (later behind))) (target-told names t d spots)
    (ap (λ z. sign s.Assign (here behind) ∷ z) (call-told names c d (later behind)))
act-told names (act.Up t) d spots = plain-told names (act.Up t) d spots
act-told names (act.Down t) d spots = plain-told names (act.Down t) d spots
act-told names (act.Call c) d spots = call-told names c d spots
act-told names (act.Create t f e) d spots = create-told names t f.number e d spots
act-told names (act.Join t) d spots =
    ap (λ z. word w.Join (here spots) ∷ sign s.OpenParen (here (later spots)) ∷ z)
    (joint (later (later spots)) (target_items names t) join_end (m.target_marks d (target_tree names t (later (later spots)))) _ (target-told names t d (later (later spots))) refl)
act-told names (act.Lock x) d spots = refl
act-told names (act.Unlock x) d spots = refl
act-told names (act.Print text args) d spots =
    ap (λ z. word w.Printf (here spots) ∷ sign s.OpenParen (here (later spots)) ∷ quoted (text_at text (later (later spots))) ∷ z)
    (joint (later (later (later spots))) (more_items names args) (Is (IsSign s.CloseParen) ∷ []) (m.more_exprs_marks d (more_tree names args (later (later (later spots))))) _
    (more-told names args d (later (later (later spots)))) refl)
act-told names (act.Scan t) d spots =
    let start = later (later (later (later (later spots)))) in
    ap (λ z. word w.Scanf (here spots) ∷ sign s.OpenParen (here (later spots)) ∷ quoted (text_at (codes "%d") (later (later spots)))
    ∷ sign s.Comma (here (later (later (later spots)))) ∷ sign s.Ampersand (here (later (later (later (later spots))))) ∷ z)
    (joint start (target_items names t) (Is (IsSign s.CloseParen) ∷ []) (m.target_marks d (target_tree names t start)) _ (target-told names t d start) refl)
act-told names (act.Wait c x) d spots = refl
act-told names (act.Signal c) d spots = refl
act-told names (act.Broadcast c) d spots = refl

pub act-derived : (names : Names) (a : Act) (spots : List Spot) → is_made (act_made names a spots) ≡ true
act-derived names (act.Declare name kind initial) spots = declared-good names name kind initial spots
act-derived names (act.Assign t how (value.Expr e)) spots = plain-derived names (act.Assign t how (value.Expr e)) spots
act-derived names (act.Assign t how (value.Call c)) spots =
    both _ _ (target-derived names t spots) (call-derived names c (later (after spots (target_items names t))))
act-derived names (act.Up t) spots = plain-derived names (act.Up t) spots
act-derived names (act.Down t) spots = plain-derived names (act.Down t) spots
act-derived names (act.Call c) spots = call-derived names c spots
act-derived names (act.Create t f e) spots =
    both _ _ (target-derived names t (later (later (later spots))))
    (argument-derived names e (later (later (later (later (later (after (later (later (later spots))) (target_items names t))))))))
act-derived names (act.Join t) spots = target-derived names t (later (later spots))
act-derived names (act.Lock x) spots = refl
act-derived names (act.Unlock x) spots = refl
act-derived names (act.Print text args) spots = more-derived names args (later (later (later spots)))
act-derived names (act.Scan t) spots = target-derived names t (later (later (later (later (later spots)))))
act-derived names (act.Wait c x) spots = refl
act-derived names (act.Signal c) spots = refl
act-derived names (act.Broadcast c) spots = refl

-- whether a simple statement has a form of the grammar
abbrev pub is_set : How → Bool
is_set how.Set = true
is_set _ = false

abbrev pub act_form : Act → Bool
act_form (act.Declare name kind initial) = has_form kind initial
act_form (act.Assign t how (value.Call c)) = is_set how
act_form _ = true

assign-shape : (t x v : List ℕ) → t ++ codes " " ++ x ++ codes " " ++ v ≡ t ++ (32 ∷ (x ++ (32 ∷ v)))
assign-shape t x v = simp append_assoc refl

assign-text : (names : Names) (t : Target) (x : Sign) (sign value : List ℕ) (items : List Item) → sign ≡ sign_text x → value ≡ spelled items
    → target_text names t ++ codes " " ++ sign ++ codes " " ++ value ≡ spelled (assign_items names t x items)
assign-text names t x sign value items p q =
    ap (λ z. z ++ codes " " ++ sign ++ codes " " ++ value) (target-text names t)
    ∙ assign-shape (spelled (target_items names t)) sign value
    ∙ ap (λ z. spelled (target_items names t) ++ (32 ∷ (z ++ (32 ∷ value)))) p
    ∙ ap (λ z. spelled (target_items names t) ++ (32 ∷ (sign_text x ++ (32 ∷ z)))) q
    ∙ sym (spelled-append (target_items names t) (Gap ∷ Is (IsSign x) ∷ Gap ∷ items))

set-is : (h : How) → is_set h ≡ true → how_sign h ≡ sign_text s.Assign
set-is how.Set e = refl
set-is how.Add e = no-form e
set-is how.Sub e = no-form e
set-is how.Mul e = no-form e
set-is how.Div e = no-form e
set-is how.Rem e = no-form e

behind-text : (names : Names) (t : Target) (back : List Item) (text : List ℕ) → text ≡ spelled back → target_text names t ++ text ≡ spelled (target_items names t ++ back)
behind-text names t back text p = ap (λ z. z ++ text) (target-text names t) ∙ ap (λ z. spelled (target_items names t) ++ z) p ∙ sym (spelled-append (target_items names t) back)

create-shape : (t f a : List ℕ)
    → codes "pthread_create(&" ++ t ++ codes ", NULL, " ++ f ++ codes ", " ++ a ++ codes ")"
    ≡ codes "pthread_create(&" ++ (t ++ (codes ", NULL, " ++ (f ++ (codes ", " ++ (a ++ codes ")")))))
create-shape t f a = simp append_assoc refl

wait-shape : (c x : List ℕ)
    → codes "pthread_cond_wait(&" ++ c ++ codes ", &" ++ x ++ codes ")" ≡ codes "pthread_cond_wait(&" ++ (c ++ (codes ", &" ++ (x ++ codes ")")))
wait-shape c x = simp append_assoc refl

pub act-text : (names : Names) (a : Act) → act_form a ≡ true → act_text names a ≡ spelled (act_items names a)
act-text names (act.Declare name kind initial) h = declared-text names name kind initial h
act-text names (act.Assign t how (value.Expr e)) h = assign-text names t (sign_for how) (how_sign how) (expr_text names e) (items_of names e) (how-is how) (text-of names e)
act-text names (act.Assign t how (value.Call c)) h = assign-text names t s.Assign (how_sign how) (call_text names c) (call_items names c) (set-is how h) (call-text names c)
act-text names (act.Up t) h = behind-text names t (Is (IsSign s.PlusPlus) ∷ []) (codes "++") refl
act-text names (act.Down t) h = behind-text names t (Is (IsSign s.MinusMinus) ∷ []) (codes "--") refl
act-text names (act.Call c) h = call-text names c
act-text names (act.Create t f e) h =
    let name = name_at names.functions f.number in
    create-shape (target_text names t) name (thread_argument names e)
    ∙ ap (λ z. codes "pthread_create(&" ++ z)
    (behind-text names t (thread_items names f.number e) (codes ", NULL, " ++ (name ++ (codes ", " ++ (thread_argument names e ++ codes ")"))))
    (ap (λ z. codes ", NULL, " ++ (name ++ (codes ", " ++ z)))
    (ap (λ z. z ++ codes ")") (argument-text names e) ∙ sym (spelled-closed (argument_items names e) (IsSign s.CloseParen)))))
act-text names (act.Join t) h =
    append_assoc (codes "pthread_join(") (target_text names t) (codes ", NULL)")
    ∙ ap (λ z. codes "pthread_join(" ++ z) (behind-text names t join_end (codes ", NULL)") refl)
act-text names (act.Lock x) h = append_assoc (codes "pthread_mutex_lock(&") (name_at names.globals x.number) (codes ")")
act-text names (act.Unlock x) h = append_assoc (codes "pthread_mutex_unlock(&") (name_at names.globals x.number) (codes ")")
act-text names (act.Print text args) h =
    append_assoc (codes "printf(" ++ pieces.quoted text) (joined (map (λ e. codes ", " ++ expr_text names e) args)) (codes ")")
    ∙ append_assoc (codes "printf(") (pieces.quoted text) (joined (map (λ e. codes ", " ++ expr_text names e) args) ++ codes ")")
    ∙ ap (λ z. codes "printf(" ++ (pieces.quoted text ++ (z ++ codes ")"))) (more-text names args)
    ∙ ap (λ z. codes "printf(" ++ (pieces.quoted text ++ z)) (sym (spelled-closed (more_items names args) (IsSign s.CloseParen)))
act-text names (act.Scan t) h =
    append_assoc (codes "scanf(" ++ pieces.quoted (codes "%d") ++ codes ", &") (target_text names t) (codes ")")
    ∙ ap (λ z. codes "scanf(" ++ pieces.quoted (codes "%d") ++ codes ", &" ++ z) (behind-text names t (Is (IsSign s.CloseParen) ∷ []) (codes ")") refl)
act-text names (act.Wait c x) h = wait-shape (name_at names.globals c.number) (name_at names.globals x.number)
act-text names (act.Signal c) h = append_assoc (codes "pthread_cond_signal(&") (name_at names.globals c.number) (codes ")")
act-text names (act.Broadcast c) h = append_assoc (codes "pthread_cond_broadcast(&") (name_at names.globals c.number) (codes ")")

amp-fits : (names : Names) (t : Target) (back : List Item) (next : Option Item) → ends (first back next) ≡ true → fits back next ≡ true
    → fits (Is (IsSign s.Ampersand) ∷ (target_items names t ++ back)) next ≡ true
amp-fits names t back next e f = fits-then (target_items names t) back next (target-fits names t) e f

create-fits : (names : Names) (f : ℕ) (e : Expr) (next : Option Item) → ends next ≡ true → fits (thread_items names f e) next ≡ true
create-fits names f e next h = fits-then (argument_items names e) (Is (IsSign s.CloseParen) ∷ []) next (argument-fits names e) refl (closed-paren next h)

quoted-apart : (bytes : List ℕ) (next : Option Item) → apart (Is (IsQuoted bytes)) next ≡ true
quoted-apart bytes None = refl
quoted-apart bytes (Some Gap) = refl
quoted-apart bytes (Some (Is k)) = refl

pub act-fits : (names : Names) (a : Act) → Fits (act_items names a)
act-fits names (act.Declare name kind initial) next h = declared-fits names name kind initial next h
act-fits names (act.Assign t how (value.Expr e)) next h = plain-fits names (act.Assign t how (value.Expr e)) next h
act-fits names (act.Assign t how (value.Call c)) next h = assign-fits names t s.Assign (call_items names c) (call-fits names c) next h
act-fits names (act.Up t) next h = up-fits names t next h
act-fits names (act.Down t) next h = down-fits names t next h
act-fits names (act.Call c) next h = call-fits names c next h
act-fits names (act.Create t f e) next h = amp-fits names t (thread_items names f.number e) next refl (create-fits names f.number e next h)
act-fits names (act.Join t) next h = fits-then (target_items names t) join_end next (target-fits names t) refl (closed-paren next h)
act-fits names (act.Lock x) next h = closed-paren next h
act-fits names (act.Unlock x) next h = closed-paren next h
act-fits names (act.Print text args) next h = both _ _ (quoted-apart text (first (more_items names args ++ Is (IsSign s.CloseParen) ∷ []) next)) (more-fits names args next h)
act-fits names (act.Scan t) next h = amp-fits names t (Is (IsSign s.CloseParen) ∷ []) next refl (closed-paren next h)
act-fits names (act.Wait c x) next h = closed-paren next h
act-fits names (act.Signal c) next h = closed-paren next h
act-fits names (act.Broadcast c) next h = closed-paren next h
