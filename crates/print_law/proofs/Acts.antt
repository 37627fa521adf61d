-- Simple statements and steps: their items, and their trees.
use Rattle.std.proofs.Common.{◌≡◌, ℕ, nat_lt, Bool, true, false, ◌&&◌, List, [], ◌∷◌, ◌++◌, Some, None, refl, ap, sym, ◌∙◌, codes, true≢false, arith, if◌then◌else◌}
use Rattle.cfix_base.specs.declared.spot.Spot.{Spot}
use Rattle.c_prog.specs.declared.act.Act.{Act}
use Rattle.c_prog.specs.declared.act.Act.TheVariants as act
use Rattle.c_prog.specs.declared.act.How.{How}
use Rattle.c_prog.specs.declared.act.How.TheVariants as how
use Rattle.c_prog.specs.declared.act.Value.TheVariants as value
use Rattle.c_prog.specs.declared.expr.Expr.{Expr}
use Rattle.c_prog.specs.declared.expr.Target.{Target}
use Rattle.c_grammar.specs.declared.sign.Sign.{Sign}
use Rattle.c_grammar.specs.declared.sign.Sign.TheVariants as s
use Rattle.c_grammar.specs.declared.word.Word.{Word}
use Rattle.c_grammar.specs.declared.word.Word.TheVariants as w
use Rattle.c_grammar.specs.Token.{IsName, IsWord, IsSign, word, sign}
use Rattle.c_grammar.specs.Expr as g
use Rattle.c_grammar.specs.Simple as m
use Rattle.c_grammar.specs.Marks.{tokens}
use Rattle.c_grammar.specs.Spelling.{sign_text}
use Rattle.c_print.specs.Text.Names.{Names}
use Rattle.c_print.specs.Text.Expressions.{is_zero, printed, operand, thread_argument}
use Rattle.c_print.specs.Text.Acts.{how_sign}
use Rattle.print_law.proofs.Plain.{plain, plain-up}
use Rattle.print_law.proofs.Items.{Item, Gap, Is, here, later, spotted, after, joint, tokens-placed}
use Rattle.print_law.proofs.Expressions.{binds, wrap, wrap_tree, operand-told, operand-derived, ident_at}
use Rattle.print_law.proofs.Texts.{spelled, expr-printed, operand-is}
use Rattle.print_law.proofs.Apart.{sign_stands, Fits, both, fits-then, open-fits, operand-phrase}
use Rattle.print_law.proofs.Calls.{items_of, tree_of, told-of, derived-of, fits-of, target_items, target_tree, target-told, target-derived, target-fits}

-- the argument of a created thread

abbrev pub argument_by : Bool → Names → Expr → List Item
argument_by true names e = Is (IsWord w.Null) ∷ []
argument_by false names e =
    Is (IsSign s.OpenParen) ∷ Is (IsWord w.Void) ∷ Gap ∷ Is (IsSign s.Star) ∷ Is (IsSign s.CloseParen)
    ∷ Is (IsSign s.OpenParen) ∷ Is (IsWord w.Long) ∷ Is (IsSign s.CloseParen) ∷ wrap (nat_lt (binds (plain e)) 7) (items_of names e)

abbrev pub argument_items : Names → Expr → List Item
argument_items names e = argument_by (is_zero e) names e

abbrev pub argument_tree_by : Bool → Names → Expr → List Spot → m.ThreadArg
argument_tree_by true names e spots = m.NullArg (here spots)
argument_tree_by false names e spots =
    m.CastArg (here spots) (here (later spots)) (here (later (later spots))) (here (later (later (later spots))))
    (Some (here (later (later (later (later spots)))), (here (later (later (later (later (later spots))))), here (later (later (later (later (later (later spots)))))))))
    (wrap_tree (nat_lt (binds (plain e)) 7) (items_of names e) (tree_of names e) (later (later (later (later (later (later (later spots))))))))

abbrev pub argument_tree : Names → Expr → List Spot → m.ThreadArg
argument_tree names e spots = argument_tree_by (is_zero e) names e spots

argument-told-by : (zero : Bool) (names : Names) (e : Expr) (d : ℕ) (spots : List Spot)
    → tokens (m.thread_arg_marks d (argument_tree_by zero names e spots)) ≡ spotted spots (argument_by zero names e)
argument-told-by true names e d spots = refl
argument-told-by false names e d spots =
    let behind = later (later (later (later (later (later (later spots)))))) in
    let tree = wrap_tree (nat_lt (binds (plain e)) 7) (items_of names e) (tree_of names e) behind in
    let long : g.Long = Some (here (later (later (later (later spots)))), (here (later (later (later (later (later spots))))), here (later (later (later (later (later (later spots)))))))) in
    ap (λ z. sign s.OpenParen (here spots) ∷ word w.Void (here (later spots)) ∷ sign s.Star (here (later (later spots))) ∷ sign s.CloseParen (here (later (later (later spots)))) ∷ z)
    (tokens-placed 0 (g.long_pieces d long ++ g.pieces d tree)
    ∙ ap (λ z. sign s.OpenParen (here (later (later (later (later spots))))) ∷ word w.Long (here (later (later (later (later (later spots))))))
    ∷ sign s.CloseParen (here (later (later (later (later (later (later spots))))))) ∷ z)
    (operand-told names 7 (plain e) d behind))

pub argument-told : (names : Names) (e : Expr) (d : ℕ) (spots : List Spot) → tokens (m.thread_arg_marks d (argument_tree names e spots)) ≡ spotted spots (argument_items names e)
argument-told names e d spots = argument-told-by (is_zero e) names e d spots

argument-derived-by : (zero : Bool) (names : Names) (e : Expr) (spots : List Spot) → m.is_thread_arg (argument_tree_by zero names e spots) ≡ true
argument-derived-by true names e spots = refl
argument-derived-by false names e spots =
    let d = operand-derived names 7 (plain e) (later (later (later (later (later (later (later spots))))))) in
    both _ _ (d.unary (omega arith)) d.is_expr

pub argument-derived : (names : Names) (e : Expr) (spots : List Spot) → m.is_thread_arg (argument_tree names e spots) ≡ true
argument-derived names e spots = argument-derived-by (is_zero e) names e spots

argument-text-by : (zero : Bool) (names : Names) (e : Expr)
    → (if zero then codes "NULL" else codes "(void *)(long)" ++ operand 7 (printed names e)) ≡ spelled (argument_by zero names e)
argument-text-by true names e = refl
argument-text-by false names e =
    ap (λ z. codes "(void *)(long)" ++ z)
    (operand-is 7 (binds (plain e)) (printed names e) (items_of names e) (ap (printed names) (sym (plain-up e)) ∙ expr-printed names (plain e)))

pub argument-text : (names : Names) (e : Expr) → thread_argument names e ≡ spelled (argument_items names e)
argument-text names e = argument-text-by (is_zero e) names e

pub word-fits : (x : Word) → Fits (Is (IsWord x) ∷ [])
word-fits x None h = refl
word-fits x (Some Gap) h = refl
word-fits x (Some (Is (IsSign y))) h = refl
word-fits x (Some (Is k)) h = absurd (true≢false (sym h))

argument-fits-by : (zero : Bool) (names : Names) (e : Expr) → Fits (argument_by zero names e)
argument-fits-by true names e next h = word-fits w.Null next h
argument-fits-by false names e next h =
    let p = operand-phrase names 7 (plain e) in
    open-fits s.CloseParen (wrap (nat_lt (binds (plain e)) 7) (items_of names e)) next refl p.begins (p.fits next h)

pub argument-fits : (names : Names) (e : Expr) → Fits (argument_items names e)
argument-fits names e next h = argument-fits-by (is_zero e) names e next h

-- the sign of an assignment

abbrev pub sign_for : How → Sign
sign_for how.Set = s.Assign
sign_for how.Add = s.PlusAssign
sign_for how.Sub = s.MinusAssign
sign_for how.Mul = s.StarAssign
sign_for how.Div = s.SlashAssign
sign_for how.Rem = s.PercentAssign

pub how-is : (h : How) → how_sign h ≡ sign_text (sign_for h)
how-is how.Set = refl
how-is how.Add = refl
how-is how.Sub = refl
how-is how.Mul = refl
how-is how.Div = refl
how-is how.Rem = refl

abbrev pub assigned : How → m.Target → Spot → g.Expr → m.Plain
assigned how.Set t at e = m.SetTo t at e
assigned how.Add t at e = m.Changed t m.AddTo at e
assigned how.Sub t at e = m.Changed t m.SubtractFrom at e
assigned how.Mul t at e = m.Changed t m.MultiplyBy at e
assigned how.Div t at e = m.Changed t m.DivideBy at e
assigned how.Rem t at e = m.Changed t m.RemainderBy at e

assigned-marks : (h : How) (d : ℕ) (t : m.Target) (at : Spot) (e : g.Expr)
    → m.plain_marks d (assigned h t at e) ≡ m.target_marks d t ++ (sign (sign_for h) at, d) ∷ g.expr_marks d e
assigned-marks how.Set d t at e = refl
assigned-marks how.Add d t at e = refl
assigned-marks how.Sub d t at e = refl
assigned-marks how.Mul d t at e = refl
assigned-marks how.Div d t at e = refl
assigned-marks how.Rem d t at e = refl

assigned-good : (h : How) (t : m.Target) (at : Spot) (e : g.Expr) → m.is_plain (assigned h t at e) ≡ (m.is_target t && g.is_expr e)
assigned-good how.Set t at e = refl
assigned-good how.Add t at e = refl
assigned-good how.Sub t at e = refl
assigned-good how.Mul t at e = refl
assigned-good how.Div t at e = refl
assigned-good how.Rem t at e = refl

-- what can be the step of a loop; anything else stands as a step on nothing

abbrev pub assign_items : Names → Target → Sign → List Item → List Item
assign_items names t x items = target_items names t ++ (Gap ∷ Is (IsSign x) ∷ Gap ∷ items)

abbrev pub plain_items : Names → Act → List Item
plain_items names (act.Assign t how (value.Expr e)) = assign_items names t (sign_for how) (items_of names e)
plain_items names (act.Up t) = target_items names t ++ Is (IsSign s.PlusPlus) ∷ []
plain_items names (act.Down t) = target_items names t ++ Is (IsSign s.MinusMinus) ∷ []
plain_items names _ = Is (IsName []) ∷ Is (IsSign s.PlusPlus) ∷ []

abbrev pub plain_tree : Names → Act → List Spot → m.Plain
plain_tree names (act.Assign t how (value.Expr e)) spots =
    assigned how (target_tree names t spots) (here (after spots (target_items names t))) (tree_of names e (later (after spots (target_items names t))))
plain_tree names (act.Up t) spots = m.SteppedAfter (target_tree names t spots) m.Up (here (after spots (target_items names t)))
plain_tree names (act.Down t) spots = m.SteppedAfter (target_tree names t spots) m.Down (here (after spots (target_items names t)))
plain_tree names _ spots = m.SteppedAfter (m.TargetOf (ident_at [] spots) None) m.Up (here (later spots))

pub plain-told : (names : Names) (a : Act) (d : ℕ) (spots : List Spot) → tokens (m.plain_marks d (plain_tree names a spots)) ≡ spotted spots (plain_items names a)
plain-told names (act.Assign t how (value.Expr e)) d spots =
    let behind = after spots (target_items names t) in
    ap tokens (assigned-marks how d (target_tree names t spots) (here behind) (tree_of names e (later behind)))
    ∙ joint spots (target_items names t) (Gap ∷ Is (IsSign (sign_for how)) ∷ Gap ∷ items_of names e) (m.target_marks d (target_tree names t spots))
    ((sign (sign_for how) (here behind), d) ∷ g.expr_marks d (tree_of names e (later behind))) (target-told names t d spots)
    (ap (λ z. sign (sign_for how) (here behind) ∷ z) (told-of names e d (later behind)))
plain-told names (act.Up t) d spots = joint spots (target_items names t) (Is (IsSign s.PlusPlus) ∷ []) (m.target_marks d (target_tree names t spots)) _ (target-told names t d spots) refl
plain-told names (act.Down t) d spots = joint spots (target_items names t) (Is (IsSign s.MinusMinus) ∷ []) (m.target_marks d (target_tree names t spots)) _ (target-told names t d spots) refl
plain-told names (act.Assign t how (value.Call c)) d spots = refl
plain-told names (act.Declare name kind initial) d spots = refl
plain-told names (act.Call c) d spots = refl
plain-told names (act.Create t f e) d spots = refl
plain-told names (act.Join t) d spots = refl
plain-told names (act.Lock x) d spots = refl
plain-told names (act.Unlock x) d spots = refl
plain-told names (act.Print text args) d spots = refl
plain-told names (act.Scan t) d spots = refl
plain-told names (act.Wait c x) d spots = refl
plain-told names (act.Signal c) d spots = refl
plain-told names (act.Broadcast c) d spots = refl

pub plain-derived : (names : Names) (a : Act) (spots : List Spot) → m.is_plain (plain_tree names a spots) ≡ true
plain-derived names (act.Assign t how (value.Expr e)) spots =
    let behind = after spots (target_items names t) in
    assigned-good how (target_tree names t spots) (here behind) (tree_of names e (later behind))
    ∙ both _ _ (target-derived names t spots) (derived-of names e (later behind))
plain-derived names (act.Up t) spots = target-derived names t spots
plain-derived names (act.Down t) spots = target-derived names t spots
plain-derived names (act.Assign t how (value.Call c)) spots = refl
plain-derived names (act.Declare name kind initial) spots = refl
plain-derived names (act.Call c) spots = refl
plain-derived names (act.Create t f e) spots = refl
plain-derived names (act.Join t) spots = refl
plain-derived names (act.Lock x) spots = refl
plain-derived names (act.Unlock x) spots = refl
plain-derived names (act.Print text args) spots = refl
plain-derived names (act.Scan t) spots = refl
plain-derived names (act.Wait c x) spots = refl
plain-derived names (act.Signal c) spots = refl
plain-derived names (act.Broadcast c) spots = refl

two-fits : (x : Sign) → ((text : List ℕ) → sign_stands (sign_text x) text ≡ true) → Fits (Is (IsSign x) ∷ [])
two-fits x h None e = refl
two-fits x h (Some Gap) e = refl
two-fits x h (Some (Is (IsSign y))) e = both _ _ (h (sign_text y)) refl
two-fits x h (Some (Is k)) e = absurd (true≢false (sym e))

plus-plus : Fits (Is (IsSign s.PlusPlus) ∷ [])
plus-plus = two-fits s.PlusPlus (λ text. refl)

minus-minus : Fits (Is (IsSign s.MinusMinus) ∷ [])
minus-minus = two-fits s.MinusMinus (λ text. refl)

pub assign-fits : (names : Names) (t : Target) (x : Sign) (items : List Item) → Fits items → Fits (assign_items names t x items)
assign-fits names t x items f next h = fits-then (target_items names t) (Gap ∷ Is (IsSign x) ∷ Gap ∷ items) next (target-fits names t) refl (f next h)

pub up-fits : (names : Names) (t : Target) → Fits (target_items names t ++ Is (IsSign s.PlusPlus) ∷ [])
up-fits names t next h = fits-then (target_items names t) (Is (IsSign s.PlusPlus) ∷ []) next (target-fits names t) refl (plus-plus next h)

pub down-fits : (names : Names) (t : Target) → Fits (target_items names t ++ Is (IsSign s.MinusMinus) ∷ [])
down-fits names t next h = fits-then (target_items names t) (Is (IsSign s.MinusMinus) ∷ []) next (target-fits names t) refl (minus-minus next h)

pub plain-fits : (names : Names) (a : Act) → Fits (plain_items names a)
plain-fits names (act.Assign t how (value.Expr e)) = assign-fits names t (sign_for how) (items_of names e) (fits-of names e)
plain-fits names (act.Up t) = up-fits names t
plain-fits names (act.Down t) = down-fits names t
plain-fits names (act.Assign t how (value.Call c)) = plus-plus
plain-fits names (act.Declare name kind initial) = plus-plus
plain-fits names (act.Call c) = plus-plus
plain-fits names (act.Create t f e) = plus-plus
plain-fits names (act.Join t) = plus-plus
plain-fits names (act.Lock x) = plus-plus
plain-fits names (act.Unlock x) = plus-plus
plain-fits names (act.Print text args) = plus-plus
plain-fits names (act.Scan t) = plus-plus
plain-fits names (act.Wait c x) = plus-plus
plain-fits names (act.Signal c) = plus-plus
plain-fits names (act.Broadcast c) = plus-plus
