-- Variables, arguments, calls and values: their items, and their trees.
use Rattle.std.proofs.Common.{◌≡◌, ℕ, suc, true, List, [], ◌∷◌, ◌++◌, map, Option, Some, None, append_assoc, refl, ap, sym, ◌∙◌, codes}
use Rattle.cfix_base.specs.declared.spot.Spot.{Spot}
use Rattle.c_prog.specs.declared.act.CallForm.{CallForm}
use Rattle.c_prog.specs.declared.act.Value.{Value}
use Rattle.c_prog.specs.declared.act.Value.TheVariants as value
use Rattle.c_prog.specs.declared.expr.Expr.{Expr}
use Rattle.c_prog.specs.declared.expr.Target.{Target}
use Rattle.c_prog.specs.declared.expr.Var.{Var}
use Rattle.c_prog.specs.Order.{joined}
use Rattle.c_grammar.specs.declared.sign.Sign.TheVariants as s
use Rattle.c_grammar.specs.Token.{IsName, IsSign}
use Rattle.c_grammar.specs.Expr as g
use Rattle.c_grammar.specs.Simple as m
use Rattle.c_grammar.specs.Marks.{tokens, first}
use Rattle.c_print.specs.Text.Names.{Names, name_at, var_name}
use Rattle.c_print.specs.Text.Pieces.{between, in_parentheses}
use Rattle.c_print.specs.Text.Expressions.{target_text, expr_text}
use Rattle.c_print.specs.Text.Acts.{call_text, value_text}
use Rattle.c_print.proofs.TextEquations.{printed-variable, printed-element}
use Rattle.c_print.proofs.Betweens.{between-more}
use Rattle.print_law.proofs.Plain.{plain, plain-up}
use Rattle.print_law.proofs.Items.{Item, Gap, Is, here, later, spotted, after, joint, tokens-placed}
use Rattle.print_law.proofs.Expressions.{expr_items, expr_tree, expr-told, expr-derived, ident_at}
use Rattle.print_law.proofs.Texts.{spelled, spelled-append, spelled-closed, expr-text}
use Rattle.print_law.proofs.Apart.{fits, ends, Fits, both, fits-then, open-fits, begins-append, closed-paren, closed-bracket, name-fits, Phrase, expr-phrase}

-- expressions of a program

abbrev pub items_of : Names → Expr → List Item
items_of names e = expr_items names (plain e)

abbrev pub tree_of : Names → Expr → List Spot → g.Expr
tree_of names e = expr_tree names (plain e)

pub text-of : (names : Names) (e : Expr) → expr_text names e ≡ spelled (items_of names e)
text-of names e = ap (expr_text names) (sym (plain-up e)) ∙ expr-text names (plain e)

pub told-of : (names : Names) (e : Expr) (d : ℕ) (spots : List Spot) → tokens (g.expr_marks d (tree_of names e spots)) ≡ spotted spots (items_of names e)
told-of names e d spots = tokens-placed 0 (g.pieces d (tree_of names e spots)) ∙ expr-told names (plain e) d spots

pub derived-of : (names : Names) (e : Expr) (spots : List Spot) → g.is_expr (tree_of names e spots) ≡ true
derived-of names e spots = (expr-derived names (plain e) spots).is_expr

pub fits-of : (names : Names) (e : Expr) → Fits (items_of names e)
fits-of names e = (expr-phrase names (plain e)).fits

-- targets

abbrev pub index_items : Names → Option Expr → List Item
index_items names None = []
index_items names (Some e) = Is (IsSign s.OpenBracket) ∷ (items_of names e ++ Is (IsSign s.CloseBracket) ∷ [])

abbrev pub target_items : Names → Target → List Item
target_items names t = Is (IsName (var_name names t.var)) ∷ index_items names t.index

abbrev pub index_tree : Names → Option Expr → List Spot → Option m.Place
index_tree names None spots = None
index_tree names (Some e) spots = Some (here spots, (tree_of names e (later spots), here (after (later spots) (items_of names e))))

abbrev pub target_tree : Names → Target → List Spot → m.Target
target_tree names t spots = m.TargetOf (ident_at (var_name names t.var) spots) (index_tree names t.index (later spots))

target-by : (names : Names) (v : Var) (i : Option Expr) (d : ℕ) (spots : List Spot)
    → tokens (m.target_marks d (target_tree names (record { var = v; index = i }) spots)) ≡ spotted spots (target_items names (record { var = v; index = i }))
target-by names v None d spots = refl
target-by names v (Some e) d spots =
    ap (λ z. record { kind = IsName (var_name names v); spot = here spots } ∷ record { kind = IsSign s.OpenBracket; spot = here (later spots) } ∷ z)
    (joint (later (later spots)) (items_of names e) (Is (IsSign s.CloseBracket) ∷ []) _ _ (told-of names e (suc d) (later (later spots))) refl)

pub target-told : (names : Names) (t : Target) (d : ℕ) (spots : List Spot) → tokens (m.target_marks d (target_tree names t spots)) ≡ spotted spots (target_items names t)
target-told names t d spots = target-by names t.var t.index d spots

target-derived-by : (names : Names) (v : Var) (i : Option Expr) (spots : List Spot) → m.is_target (target_tree names (record { var = v; index = i }) spots) ≡ true
target-derived-by names v None spots = refl
target-derived-by names v (Some e) spots = derived-of names e (later (later spots))

pub target-derived : (names : Names) (t : Target) (spots : List Spot) → m.is_target (target_tree names t spots) ≡ true
target-derived names t spots = target-derived-by names t.var t.index spots

target-text-by : (names : Names) (v : Var) (i : Option Expr)
    → target_text names (record { var = v; index = i }) ≡ spelled (target_items names (record { var = v; index = i }))
target-text-by names v None = ap (λ z. z.text) (printed-variable names v)
target-text-by names v (Some e) =
    ap (λ z. z.text) (printed-element names v e) ∙ ap (λ z. var_name names v ++ (91 ∷ (z ++ 93 ∷ []))) (text-of names e)
    ∙ ap (λ z. var_name names v ++ (91 ∷ z)) (sym (spelled-closed (items_of names e) (IsSign s.CloseBracket)))

pub target-text : (names : Names) (t : Target) → target_text names t ≡ spelled (target_items names t)
target-text names t = target-text-by names t.var t.index

bracket-fits : (items : List Item) → Phrase items → Fits (Is (IsSign s.OpenBracket) ∷ (items ++ Is (IsSign s.CloseBracket) ∷ []))
bracket-fits items p next h =
    open-fits s.OpenBracket (items ++ Is (IsSign s.CloseBracket) ∷ []) next refl (begins-append items (Is (IsSign s.CloseBracket) ∷ []) p.begins)
    (fits-then items (Is (IsSign s.CloseBracket) ∷ []) next p.fits refl (closed-bracket next h))

target-fits-by : (names : Names) (v : Var) (i : Option Expr) → Fits (target_items names (record { var = v; index = i }))
target-fits-by names v None next h = name-fits (var_name names v) next h
target-fits-by names v (Some e) next h = bracket-fits (items_of names e) (expr-phrase names (plain e)) next h

pub target-fits : (names : Names) (t : Target) → Fits (target_items names t)
target-fits names t = target-fits-by names t.var t.index

-- arguments

abbrev pub more_items : Names → List Expr → List Item
more_items names [] = []
more_items names (e ∷ more) = Is (IsSign s.Comma) ∷ Gap ∷ (items_of names e ++ more_items names more)

abbrev pub args_items : Names → List Expr → List Item
args_items names [] = []
args_items names (e ∷ more) = items_of names e ++ more_items names more

abbrev pub more_tree : Names → List Expr → List Spot → List (Spot × g.Expr)
more_tree names [] spots = []
more_tree names (e ∷ more) spots = (here spots, tree_of names e (later spots)) ∷ more_tree names more (after (later spots) (items_of names e))

abbrev pub args_tree : Names → List Expr → List Spot → m.Args
args_tree names [] spots = None
args_tree names (e ∷ more) spots = Some (tree_of names e spots, more_tree names more (after spots (items_of names e)))

pub more-told : (names : Names) (more : List Expr) (d : ℕ) (spots : List Spot) → tokens (m.more_exprs_marks d (more_tree names more spots)) ≡ spotted spots (more_items names more)
more-told names [] d spots = refl
more-told names (e ∷ more) d spots =
    ap (λ z. record { kind = IsSign s.Comma; spot = here spots } ∷ z)
    (joint (later spots) (items_of names e) (more_items names more) _ _ (told-of names e d (later spots)) (more-told names more d (after (later spots) (items_of names e))))

pub args-told : (names : Names) (args : List Expr) (d : ℕ) (spots : List Spot) → tokens (m.args_marks d (args_tree names args spots)) ≡ spotted spots (args_items names args)
args-told names [] d spots = refl
args-told names (e ∷ more) d spots =
    joint spots (items_of names e) (more_items names more) _ _ (told-of names e d spots) (more-told names more d (after spots (items_of names e)))

pub more-derived : (names : Names) (more : List Expr) (spots : List Spot) → m.are_exprs (more_tree names more spots) ≡ true
more-derived names [] spots = refl
more-derived names (e ∷ more) spots = both _ _ (derived-of names e (later spots)) (more-derived names more (after (later spots) (items_of names e)))

pub args-derived : (names : Names) (args : List Expr) (spots : List Spot) → m.are_args (args_tree names args spots) ≡ true
args-derived names [] spots = refl
args-derived names (e ∷ more) spots = both _ _ (derived-of names e spots) (more-derived names more (after spots (items_of names e)))

pub more-text : (names : Names) (more : List Expr) → joined (map (λ e. codes ", " ++ expr_text names e) more) ≡ spelled (more_items names more)
more-text names [] = refl
more-text names (e ∷ more) =
    ap (λ z. codes ", " ++ z ++ joined (map (λ e. codes ", " ++ expr_text names e) more)) (text-of names e)
    ∙ ap (λ z. codes ", " ++ spelled (items_of names e) ++ z) (more-text names more)
    ∙ ap (λ z. 44 ∷ 32 ∷ z) (sym (spelled-append (items_of names e) (more_items names more)))

pub args-text : (names : Names) (args : List Expr) → between (codes ", ") (map (expr_text names) args) ≡ spelled (args_items names args)
args-text names [] = refl
args-text names (e ∷ more) =
    between-more (codes ", ") (expr_text names) e more ∙ ap (λ z. z ++ joined (map (λ e. codes ", " ++ expr_text names e) more)) (text-of names e)
    ∙ ap (λ z. spelled (items_of names e) ++ z) (more-text names more) ∙ sym (spelled-append (items_of names e) (more_items names more))

-- arguments before a parenthesis

pub more-ends : (names : Names) (more : List Expr) (next : Option Item) → ends (first (more_items names more ++ Is (IsSign s.CloseParen) ∷ []) next) ≡ true
more-ends names [] next = refl
more-ends names (e ∷ more) next = refl

pub more-fits : (names : Names) (more : List Expr) (next : Option Item) → ends next ≡ true → fits (more_items names more ++ Is (IsSign s.CloseParen) ∷ []) next ≡ true
more-fits names [] next h = closed-paren next h
more-fits names (e ∷ more) next h =
    rw (append_assoc (items_of names e) (more_items names more) (Is (IsSign s.CloseParen) ∷ []))
    (fits-then (items_of names e) (more_items names more ++ Is (IsSign s.CloseParen) ∷ []) next (fits-of names e) (more-ends names more next) (more-fits names more next h))

pub args-fits : (names : Names) (args : List Expr) (next : Option Item) → ends next ≡ true
    → fits (Is (IsSign s.OpenParen) ∷ (args_items names args ++ Is (IsSign s.CloseParen) ∷ [])) next ≡ true
args-fits names [] next h = closed-paren next h
args-fits names (e ∷ more) next h =
    let rest = more_items names more ++ Is (IsSign s.CloseParen) ∷ [] in
    rw (append_assoc (items_of names e) (more_items names more) (Is (IsSign s.CloseParen) ∷ []))
    (open-fits s.OpenParen (items_of names e ++ rest) next refl (begins-append (items_of names e) rest (expr-phrase names (plain e)).begins)
    (fits-then (items_of names e) rest next (fits-of names e) (more-ends names more next) (more-fits names more next h)))

-- calls

abbrev pub call_items : Names → CallForm → List Item
call_items names call =
    Is (IsName (name_at names.functions call.of.number)) ∷ Is (IsSign s.OpenParen) ∷ (args_items names call.args ++ Is (IsSign s.CloseParen) ∷ [])

abbrev pub call_tree : Names → CallForm → List Spot → m.Call
call_tree names call spots =
    m.CallOf (ident_at (name_at names.functions call.of.number) spots) (here (later spots)) (args_tree names call.args (later (later spots)))
    (here (after (later (later spots)) (args_items names call.args)))

pub call-told : (names : Names) (call : CallForm) (d : ℕ) (spots : List Spot) → tokens (m.call_marks d (call_tree names call spots)) ≡ spotted spots (call_items names call)
call-told names call d spots =
    ap (λ z. record { kind = IsName (name_at names.functions call.of.number); spot = here spots } ∷ record { kind = IsSign s.OpenParen; spot = here (later spots) } ∷ z)
    (joint (later (later spots)) (args_items names call.args) (Is (IsSign s.CloseParen) ∷ []) _ _ (args-told names call.args d (later (later spots))) refl)

pub call-derived : (names : Names) (call : CallForm) (spots : List Spot) → m.is_call (call_tree names call spots) ≡ true
call-derived names call spots = args-derived names call.args (later (later spots))

pub call-text : (names : Names) (call : CallForm) → call_text names call ≡ spelled (call_items names call)
call-text names call =
    ap (λ z. name_at names.functions call.of.number ++ in_parentheses z) (args-text names call.args)
    ∙ ap (λ z. name_at names.functions call.of.number ++ (40 ∷ z)) (sym (spelled-closed (args_items names call.args) (IsSign s.CloseParen)))

pub call-fits : (names : Names) (call : CallForm) → Fits (call_items names call)
call-fits names call next h = args-fits names call.args next h

-- values

abbrev pub value_items : Names → Value → List Item
value_items names (value.Expr e) = items_of names e
value_items names (value.Call c) = call_items names c

abbrev pub value_tree : Names → Value → List Spot → m.Value
value_tree names (value.Expr e) spots = m.Computed (tree_of names e spots)
value_tree names (value.Call c) spots = m.Called (call_tree names c spots)

pub value-told : (names : Names) (v : Value) (d : ℕ) (spots : List Spot) → tokens (m.value_marks d (value_tree names v spots)) ≡ spotted spots (value_items names v)
value-told names (value.Expr e) d spots = told-of names e d spots
value-told names (value.Call c) d spots = call-told names c d spots

pub value-derived : (names : Names) (v : Value) (spots : List Spot) → m.is_value (value_tree names v spots) ≡ true
value-derived names (value.Expr e) spots = derived-of names e spots
value-derived names (value.Call c) spots = call-derived names c spots

pub value-text : (names : Names) (v : Value) → value_text names v ≡ spelled (value_items names v)
value-text names (value.Expr e) = text-of names e
value-text names (value.Call c) = call-text names c

pub value-fits : (names : Names) (v : Value) → Fits (value_items names v)
value-fits names (value.Expr e) = fits-of names e
value-fits names (value.Call c) = call-fits names c
