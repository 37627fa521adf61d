-- Inserted operations and conditions: their items, and their trees.
use Rattle.std.proofs.Common.{◌≡◌, ℕ, suc, pos, true, List, [], ◌∷◌, ◌++◌, map, Option, append_assoc, refl, ap, sym, ◌∙◌, codes, arith}
use Rattle.std.proofs.lemmas.Fmt.{decimal_digit}
use Rattle.cfix_base.specs.declared.op.Op.{Op}
use Rattle.cfix_base.specs.declared.op.Op.TheVariants.{Leave, First, Done, Wait, Enter, Add}
use Rattle.cfix_base.specs.declared.spot.Spot.{Spot}
use Rattle.c_prog.specs.declared.expr.Expr.{Expr}
use Rattle.c_prog.specs.declared.stmt.Cond.{Cond}
use Rattle.c_prog.specs.Order.{joined}
use Rattle.c_prog.specs.Valid.Operations.{op_number}
use Rattle.c_grammar.specs.declared.sign.Sign.{Sign}
use Rattle.c_grammar.specs.declared.sign.Sign.TheVariants as s
use Rattle.c_grammar.specs.Token.{IsNumber, IsWord, IsSign, sign}
use Rattle.c_grammar.specs.Expr as g
use Rattle.c_grammar.specs.Op as o
use Rattle.c_grammar.specs.Cond as c
use Rattle.c_grammar.specs.Spelling.{sign_text}
use Rattle.c_grammar.specs.Marks.{tokens, first, each}
use Rattle.c_print.specs.Text.Names.{Names}
use Rattle.c_print.specs.Text.Pieces.{between, ended, in_parentheses}
use Rattle.c_print.specs.Text.Operations.{op_text, op_lines, valued, with_true, with_false, cond_text}
use Rattle.c_print.proofs.Betweens.{between-behind}
use Rattle.print_law.proofs.Plain.{plain}
use Rattle.print_law.proofs.Items.{Item, Gap, Is, here, later, spotted, after, bare, joins, joint, tokens-placed}
use Rattle.print_law.proofs.Expressions.{expr-told}
use Rattle.print_law.proofs.Texts.{spelled, spelled-append, spelled-closed}
use Rattle.print_law.proofs.Apart.{fits, ends, fits-then, open-fits, begins-append, closed-paren, Phrase, expr-phrase}
use Rattle.print_law.proofs.Calls.{items_of, tree_of, text-of, derived-of}

-- operations

abbrev pub verb : Op → o.Verb
verb (Leave k) = o.Leave
verb (First j) = o.First
verb (Done j) = o.Done
verb (Wait j) = o.Wait
verb (Enter k) = o.Enter
verb (Add j) = o.Add

abbrev pub op_items : Op → List Item
op_items op =
    Is (IsWord (o.verb_word (verb op))) ∷ Is (IsSign s.OpenParen) ∷ Is (IsNumber (pos (op_number op))) ∷ Is (IsSign s.CloseParen) ∷ []

abbrev pub op_tree : Op → List Spot → o.Op
op_tree op spots =
    o.OpOf (verb op) (here spots) (here (later spots)) (record { value = pos (op_number op); spot = here (later (later spots)) }) (here (later (later (later spots))))

pub op-text : (op : Op) → op_text op ≡ spelled (op_items op)
op-text (Leave k) = refl
op-text (First j) = refl
op-text (Done j) = refl
op-text (Wait j) = refl
op-text (Enter k) = refl
op-text (Add j) = refl

-- operations as statements: their items one after another, and in lines

abbrev pub ops_items : List Op → List Item
ops_items [] = []
ops_items (op ∷ more) = op_items op ++ Is (IsSign s.Semicolon) ∷ ops_items more

abbrev pub ops_lines : List Op → List (List Item)
ops_lines [] = []
ops_lines (op ∷ more) = (op_items op ++ Is (IsSign s.Semicolon) ∷ []) ∷ ops_lines more

abbrev pub ops_tree : List Op → List Spot → o.Ops
ops_tree [] spots = []
ops_tree (op ∷ more) spots = (op_tree op spots, here (after spots (op_items op))) ∷ ops_tree more (later (after spots (op_items op)))

pub ops-told : (ops : List Op) (d : ℕ) (spots : List Spot) → tokens (o.ops_marks d (ops_tree ops spots)) ≡ spotted spots (ops_items ops)
ops-told [] d spots = refl
ops-told (op ∷ more) d spots =
    joint spots (op_items op ++ Is (IsSign s.Semicolon) ∷ []) (ops_items more) (o.op_marks d (op_tree op spots) ++ (record { kind = IsSign s.Semicolon; spot = here (after spots (op_items op)) }, d) ∷ [])
    (o.ops_marks d (ops_tree more (later (after spots (op_items op))))) refl (ops-told more d (later (after spots (op_items op))))

pub ops-text : (ops : List Op) → op_lines ops ≡ map spelled (ops_lines ops)
ops-text [] = refl
ops-text (op ∷ more) =
    ap (λ z. ended z ∷ op_lines more) (op-text op)
    ∙ ap (λ z. z ∷ op_lines more) (sym (spelled-closed (op_items op) (IsSign s.Semicolon)))
    ∙ ap (λ z. spelled (op_items op ++ Is (IsSign s.Semicolon) ∷ []) ∷ z) (ops-text more)

-- the operations of a way out of a condition

-- operations with a comma behind each
abbrev pub commas_items : List Op → List Item
commas_items [] = []
commas_items (op ∷ more) = op_items op ++ Is (IsSign s.Comma) ∷ Gap ∷ commas_items more

abbrev pub commas_tree : List Op → List Spot → List (o.Op × Spot)
commas_tree [] spots = []
commas_tree (op ∷ more) spots = (op_tree op spots, here (after spots (op_items op))) ∷ commas_tree more (later (after spots (op_items op)))

abbrev pub guard_items : ℕ → Op → List Op → List Item
guard_items n op more = op_items op ++ Is (IsSign s.Comma) ∷ Gap ∷ (commas_items more ++ Is (IsNumber (pos n)) ∷ [])

abbrev pub guard_tree : Op → List Op → List Spot → c.Guard
guard_tree op more spots =
    c.GuardOf (op_tree op spots) (here (after spots (op_items op))) (commas_tree more (later (after spots (op_items op))))
    (here (after (later (after spots (op_items op))) (commas_items more)))

abbrev commas_pieces : ℕ → List (o.Op × Spot) → List g.Piece
commas_pieces d = each (λ x. c.op_pieces d x.0 ++ g.plain (sign s.Comma x.1) d ∷ [])

commas-told : (more : List Op) (d : ℕ) (spots : List Spot) → bare (commas_pieces d (commas_tree more spots)) ≡ spotted spots (commas_items more)
commas-told [] d spots = refl
commas-told (op ∷ more) d spots =
    joins spots (op_items op ++ Is (IsSign s.Comma) ∷ Gap ∷ []) (commas_items more)
    (c.op_pieces d (op_tree op spots) ++ g.plain (sign s.Comma (here (after spots (op_items op)))) d ∷ [])
    (commas_pieces d (commas_tree more (later (after spots (op_items op))))) refl (commas-told more d (later (after spots (op_items op))))

guard-told : (n : ℕ) (op : Op) (more : List Op) (d : ℕ) (spots : List Spot) → bare (c.guard_pieces n d (guard_tree op more spots)) ≡ spotted spots (guard_items n op more)
guard-told n op more d spots =
    joins spots (op_items op ++ Is (IsSign s.Comma) ∷ []) (Gap ∷ (commas_items more ++ Is (IsNumber (pos n)) ∷ []))
    (c.op_pieces d (op_tree op spots) ++ g.plain (sign s.Comma (here (after spots (op_items op)))) d ∷ []) _ refl
    (joins (later (after spots (op_items op))) (commas_items more) (Is (IsNumber (pos n)) ∷ []) _ _ (commas-told more d (later (after spots (op_items op)))) refl)

-- a condition with the operations of one way: the sign is `&&` or `||`

abbrev pub guarded_items : Sign → ℕ → List Item → List Op → List Item
guarded_items x n test [] = test
guarded_items x n test (op ∷ more) =
    Is (IsSign s.OpenParen) ∷ (test ++ Is (IsSign s.CloseParen) ∷ Gap ∷ Is (IsSign x) ∷ Gap ∷ Is (IsSign s.OpenParen) ∷ (guard_items n op more ++ Is (IsSign s.CloseParen) ∷ []))

abbrev pub cond_items : Names → Cond → List Item
cond_items names cond = guarded_items s.OrOr 0 (guarded_items s.AndAnd 1 (items_of names cond.test) cond.on_true) cond.on_false

-- the spots behind a test in parentheses
abbrev behind : List Item → List Spot → List Spot
behind test spots = after (later spots) test

-- the spots of a guard behind the test
abbrev in_guard : List Item → List Spot → List Spot
in_guard test spots = later (later (later (after (later spots) test)))

abbrev true_tree : Names → g.Expr → List Item → Op → List Op → List Spot → c.TrueGuard
true_tree names e test op more spots =
    c.TrueGuardOf (here spots) e (here (behind test spots)) (here (later (behind test spots))) (here (later (later (behind test spots))))
    (guard_tree op more (in_guard test spots)) (here (after (in_guard test spots) (guard_items 1 op more)))

abbrev pub cond_by : Names → Expr → List Op → List Op → List Spot → c.Cond
cond_by names e [] [] spots = c.Bare (tree_of names e spots)
cond_by names e (op ∷ more) [] spots = c.OnTrue (true_tree names (tree_of names e (later spots)) (items_of names e) op more spots)
cond_by names e [] (op ∷ more) spots =
    c.OnFalse (here spots) (tree_of names e (later spots)) (here (behind (items_of names e) spots)) (here (later (behind (items_of names e) spots)))
    (here (later (later (behind (items_of names e) spots)))) (guard_tree op more (in_guard (items_of names e) spots))
    (here (after (in_guard (items_of names e) spots) (guard_items 0 op more)))
cond_by names e (first ∷ rest) (op ∷ more) spots =
    c.OnBoth (here spots) (true_tree names (tree_of names e (later (later spots))) (items_of names e) first rest (later spots))
    (here (behind (guarded_items s.AndAnd 1 (items_of names e) (first ∷ rest)) spots)) (here (later (behind (guarded_items s.AndAnd 1 (items_of names e) (first ∷ rest)) spots)))
    (here (later (later (behind (guarded_items s.AndAnd 1 (items_of names e) (first ∷ rest)) spots))))
    (guard_tree op more (in_guard (guarded_items s.AndAnd 1 (items_of names e) (first ∷ rest)) spots))
    (here (after (in_guard (guarded_items s.AndAnd 1 (items_of names e) (first ∷ rest)) spots) (guard_items 0 op more)))

abbrev pub cond_tree : Names → Cond → List Spot → c.Cond
cond_tree names cond spots = cond_by names cond.test cond.on_true cond.on_false spots

-- a test in parentheses, and a guard behind it
guarded-told : (x : Sign) (n : ℕ) (test : List Item) (op : Op) (more : List Op) (d : ℕ) (spots : List Spot) (ps : List g.Piece) → bare ps ≡ spotted (later spots) test
    → bare (g.plain (sign s.OpenParen (here spots)) (suc d) ∷ (ps ++ (g.plain (sign s.CloseParen (here (behind test spots))) (suc d) ∷ ((sign x (here (later (behind test spots))), d, true)
    ∷ (g.plain (sign s.OpenParen (here (later (later (behind test spots))))) (suc d) ∷ (c.guard_pieces n (suc d) (guard_tree op more (in_guard test spots))
    ++ g.plain (sign s.CloseParen (here (after (in_guard test spots) (guard_items n op more)))) (suc d) ∷ []))))))
    ≡ spotted spots (guarded_items x n test (op ∷ more))
guarded-told x n test op more d spots ps h =
    ap (λ z. sign s.OpenParen (here spots) ∷ z)
    (joins (later spots) test _ ps _ h
    (ap (λ z. sign s.CloseParen (here (behind test spots)) ∷ sign x (here (later (behind test spots))) ∷ sign s.OpenParen (here (later (later (behind test spots)))) ∷ z)
    (joins (in_guard test spots) (guard_items n op more) (Is (IsSign s.CloseParen) ∷ []) (c.guard_pieces n (suc d) (guard_tree op more (in_guard test spots)))
    (g.plain (sign s.CloseParen (here (after (in_guard test spots) (guard_items n op more)))) (suc d) ∷ []) (guard-told n op more (suc d) (in_guard test spots)) refl)))

true-told : (names : Names) (e : Expr) (op : Op) (more : List Op) (d : ℕ) (spots : List Spot)
    → bare (c.true_guard_pieces d (true_tree names (tree_of names e (later spots)) (items_of names e) op more spots)) ≡ spotted spots (guarded_items s.AndAnd 1 (items_of names e) (op ∷ more))
true-told names e op more d spots = guarded-told s.AndAnd 1 (items_of names e) op more d spots (g.pieces (suc d) (tree_of names e (later spots))) (expr-told names (plain e) (suc d) (later spots))

cond-pieces : (names : Names) (e : Expr) (on_true on_false : List Op) (d : ℕ) (spots : List Spot)
    → bare (c.cond_pieces d (cond_by names e on_true on_false spots)) ≡ spotted spots (guarded_items s.OrOr 0 (guarded_items s.AndAnd 1 (items_of names e) on_true) on_false)
cond-pieces names e [] [] d spots = expr-told names (plain e) d spots
cond-pieces names e (op ∷ more) [] d spots = true-told names e op more d spots
cond-pieces names e [] (op ∷ more) d spots =
    guarded-told s.OrOr 0 (items_of names e) op more d spots (g.pieces (suc d) (tree_of names e (later spots))) (expr-told names (plain e) (suc d) (later spots))
cond-pieces names e (first ∷ rest) (op ∷ more) d spots =
    guarded-told s.OrOr 0 (guarded_items s.AndAnd 1 (items_of names e) (first ∷ rest)) op more d spots
    (c.true_guard_pieces (suc d) (true_tree names (tree_of names e (later (later spots))) (items_of names e) first rest (later spots))) (true-told names e first rest (suc d) (later spots))

pub cond-told : (names : Names) (cond : Cond) (d : ℕ) (spots : List Spot) → tokens (c.cond_marks d (cond_tree names cond spots)) ≡ spotted spots (cond_items names cond)
cond-told names cond d spots =
    tokens-placed 0 (c.cond_pieces d (cond_tree names cond spots)) ∙ cond-pieces names cond.test cond.on_true cond.on_false d spots

cond-derived-by : (names : Names) (e : Expr) (on_true on_false : List Op) (spots : List Spot) → c.is_cond (cond_by names e on_true on_false spots) ≡ true
cond-derived-by names e [] [] spots = derived-of names e spots
cond-derived-by names e (op ∷ more) [] spots = derived-of names e (later spots)
cond-derived-by names e [] (op ∷ more) spots = derived-of names e (later spots)
cond-derived-by names e (first ∷ rest) (op ∷ more) spots = derived-of names e (later (later spots))

pub cond-derived : (names : Names) (cond : Cond) (spots : List Spot) → c.is_cond (cond_tree names cond spots) ≡ true
cond-derived names cond spots = cond-derived-by names cond.test cond.on_true cond.on_false spots

-- texts

commas-text : (more : List Op) → joined (map (λ op. op_text op ++ codes ", ") more) ≡ spelled (commas_items more)
commas-text [] = refl
commas-text (op ∷ more) =
    ap (λ z. z ++ codes ", " ++ joined (map (λ op. op_text op ++ codes ", ") more)) (op-text op)
    ∙ append_assoc (spelled (op_items op)) (codes ", ") (joined (map (λ op. op_text op ++ codes ", ") more))
    ∙ ap (λ z. spelled (op_items op) ++ (44 ∷ 32 ∷ z)) (commas-text more)
    ∙ sym (spelled-append (op_items op) (Is (IsSign s.Comma) ∷ Gap ∷ commas_items more))

guard-text : (n : ℕ) (op : Op) (more : List Op)
    → between (codes ", ") (map op_text (op ∷ more)) ++ codes ", " ++ spelled (Is (IsNumber (pos n)) ∷ []) ≡ spelled (guard_items n op more)
guard-text n op more =
    ap (λ z. z ++ spelled (Is (IsNumber (pos n)) ∷ [])) (between-behind (codes ", ") op_text op more ∙ commas-text (op ∷ more))
    ∙ sym (spelled-append (commas_items (op ∷ more)) (Is (IsNumber (pos n)) ∷ []))
    ∙ ap spelled (append_assoc (op_items op) (Is (IsSign s.Comma) ∷ Gap ∷ commas_items more) (Is (IsNumber (pos n)) ∷ []))

shape : (test x rest : List ℕ) → in_parentheses test ++ (32 ∷ (x ++ 32 ∷ [])) ++ (40 ∷ rest) ≡ 40 ∷ (test ++ (41 ∷ 32 ∷ (x ++ (32 ∷ 40 ∷ rest))))
shape test x rest =
    append_assoc (in_parentheses test) (32 ∷ (x ++ 32 ∷ [])) (40 ∷ rest)
    ∙ ap (λ z. 40 ∷ z) (append_assoc test (41 ∷ []) ((32 ∷ (x ++ 32 ∷ [])) ++ (40 ∷ rest)))
    ∙ ap (λ z. 40 ∷ (test ++ (41 ∷ 32 ∷ z))) (append_assoc x (32 ∷ []) (40 ∷ rest))

-- both forms of a guard, from the text of its number
guarded-text : (x : Sign) (n : ℕ) (number : List ℕ) (test : List Item) (op : Op) (more : List Op) → number ≡ spelled (Is (IsNumber (pos n)) ∷ [])
    → in_parentheses (spelled test) ++ (32 ∷ (sign_text x ++ 32 ∷ [])) ++ valued (op ∷ more) number ≡ spelled (guarded_items x n test (op ∷ more))
guarded-text x n number test op more h =
    let items = between (codes ", ") (map op_text (op ∷ more)) ++ codes ", " in
    let inner : items ++ number ≡ spelled (guard_items n op more) = ap (λ z. items ++ z) h ∙ guard-text n op more in
    let close : spelled (guard_items n op more) ++ 41 ∷ [] ≡ spelled (guard_items n op more ++ Is (IsSign s.CloseParen) ∷ []) = sym (spelled-closed (guard_items n op more) (IsSign s.CloseParen)) in
    ap (λ z. in_parentheses (spelled test) ++ (32 ∷ (sign_text x ++ 32 ∷ [])) ++ (40 ∷ (z ++ 41 ∷ []))) inner
    ∙ ap (λ z. in_parentheses (spelled test) ++ (32 ∷ (sign_text x ++ 32 ∷ [])) ++ (40 ∷ z)) close
    ∙ shape (spelled test) (sign_text x) (spelled (guard_items n op more ++ Is (IsSign s.CloseParen) ∷ []))
    ∙ ap (λ z. 40 ∷ z)
    (sym (spelled-append test (Is (IsSign s.CloseParen) ∷ Gap ∷ Is (IsSign x) ∷ Gap ∷ Is (IsSign s.OpenParen) ∷ (guard_items n op more ++ Is (IsSign s.CloseParen) ∷ []))))

number-one : codes "1" ≡ spelled (Is (IsNumber (pos 1)) ∷ [])
number-one = ap (λ z. z ++ []) (sym (decimal_digit 1 (omega arith)))

number-zero : codes "0" ≡ spelled (Is (IsNumber (pos 0)) ∷ [])
number-zero = ap (λ z. z ++ []) (sym (decimal_digit 0 (omega arith)))

true-text : (test : List Item) (ops : List Op) → with_true (spelled test) ops ≡ spelled (guarded_items s.AndAnd 1 test ops)
true-text test [] = refl
true-text test (op ∷ more) = guarded-text s.AndAnd 1 (codes "1") test op more number-one

false-text : (test : List Item) (ops : List Op) → with_false (spelled test) ops ≡ spelled (guarded_items s.OrOr 0 test ops)
false-text test [] = refl
false-text test (op ∷ more) = guarded-text s.OrOr 0 (codes "0") test op more number-zero

pub cond-text : (names : Names) (cond : Cond) → cond_text names cond ≡ spelled (cond_items names cond)
cond-text names cond =
    ap (λ z. with_false (with_true z cond.on_true) cond.on_false) (text-of names cond.test)
    ∙ ap (λ z. with_false z cond.on_false) (true-text (items_of names cond.test) cond.on_true)
    ∙ false-text (guarded_items s.AndAnd 1 (items_of names cond.test) cond.on_true) cond.on_false

-- they stand apart

commas-fit : (more : List Op) (rest : List Item) (next : Option Item) → fits (commas_items more ++ rest) next ≡ fits rest next
commas-fit [] rest next = refl
commas-fit (op ∷ more) rest next = commas-fit more rest next

guard-fits : (n : ℕ) (op : Op) (more : List Op) (next : Option Item) → ends next ≡ true
    → fits (Is (IsSign s.OpenParen) ∷ (guard_items n op more ++ Is (IsSign s.CloseParen) ∷ [])) next ≡ true
guard-fits n op more next h =
    ap (λ z. fits z next) (append_assoc (commas_items more) (Is (IsNumber (pos n)) ∷ []) (Is (IsSign s.CloseParen) ∷ []))
    ∙ commas-fit more (Is (IsNumber (pos n)) ∷ Is (IsSign s.CloseParen) ∷ []) next ∙ closed-paren next h

guarded-phrase : (x : Sign) (n : ℕ) (test : List Item) (ops : List Op) → Phrase test → Phrase (guarded_items x n test ops)
guarded-phrase x n test [] p = p
guarded-phrase x n test (op ∷ more) p =
    let rest = Is (IsSign s.CloseParen) ∷ Gap ∷ Is (IsSign x) ∷ Gap ∷ Is (IsSign s.OpenParen) ∷ (guard_items n op more ++ Is (IsSign s.CloseParen) ∷ []) in
    record {
      begins = refl;
      fits = λ next h. open-fits s.OpenParen (test ++ rest) next refl (begins-append test rest p.begins) (fits-then test rest next p.fits refl (guard-fits n op more next h));
    }

pub cond-phrase : (names : Names) (cond : Cond) → Phrase (cond_items names cond)
cond-phrase names cond =
    guarded-phrase s.OrOr 0 (guarded_items s.AndAnd 1 (items_of names cond.test) cond.on_true) cond.on_false
    (guarded-phrase s.AndAnd 1 (items_of names cond.test) cond.on_true (expr-phrase names (plain cond.test)))
