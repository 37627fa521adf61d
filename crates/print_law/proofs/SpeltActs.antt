-- Operations, conditions and simple statements that keep the rules are spelled again by their trees.
use Rattle.std.proofs.Common.{◌≡◌, ℕ, suc, ℤ, pos, negsuc, cond, ◌+◌, ◌==◌, nat_lt, nat_le, Bool, true, false, not, ◌&&◌, ◌||◌, List, [], ◌∷◌, ◌++◌, length, Option, Some, None, option_map, refl, ap, sym, ◌∙◌, subst, arith, true≢false, if◌then◌else◌}
use Rattle.std.proofs.lemmas.Bool.{and_parts, not-true, eqb-true, eq-eqb, le-leb}
use Rattle.std.proofs.lemmas.List.Sums.{sum_by-append}
use Rattle.std.specs.List.{list_all, list_any, count_by}
use Rattle.cfix_base.specs.declared.op.Op.{Op}
use Rattle.cfix_base.specs.declared.op.Op.TheVariants.{Leave, First, Done, Wait, Enter, Add}
use Rattle.cfix_base.specs.declared.limits.TheConstants.{MAX_OPERATION_NUMBER, MAX_ARGUMENTS, MAX_ARRAY_LENGTH}
use Rattle.cfix_base.specs.declared.number.FnId.{FnId}
use Rattle.cfix_base.specs.declared.number.VarId.{VarId}
use Rattle.cfix_base.specs.declared.spot.Spot.{Spot}
use Rattle.c_prog.specs.declared.act.Act.{Act}
use Rattle.c_prog.specs.declared.act.Act.TheVariants as act
use Rattle.c_prog.specs.declared.act.CallForm.{CallForm}
use Rattle.c_prog.specs.declared.act.How.{How}
use Rattle.c_prog.specs.declared.act.How.TheVariants as how
use Rattle.c_prog.specs.declared.act.LocalKind.{LocalKind}
use Rattle.c_prog.specs.declared.act.LocalKind.TheVariants as kind
use Rattle.c_prog.specs.declared.act.Value.{Value}
use Rattle.c_prog.specs.declared.act.Value.TheVariants as value
use Rattle.c_prog.specs.declared.expr.Expr as source
use Rattle.c_prog.specs.declared.expr.Expr.TheVariants as expr
use Rattle.c_prog.specs.declared.expr.Target.{Target}
use Rattle.c_prog.specs.declared.expr.Var.TheVariants as var
use Rattle.c_prog.specs.declared.stmt.Cond.{Cond}
use Rattle.c_prog.specs.Valid.Scope.{VarKind, int, mutex, cond as condition, Scope, visible, local_named, is_in_block, declared}
use Rattle.c_prog.specs.Valid.Kinds.{Signature, File, local_var_kind, kind_here, function_here}
use Rattle.c_prog.specs.Valid.Expressions as valid
use Rattle.c_prog.specs.Valid.Expressions.{is_valid_expr, is_mutex, is_cond, is_thread_kind, is_int_use, is_thread_use}
use Rattle.c_prog.specs.Valid.Acts.{is_declared_name, is_valid_kind, is_valid_initial, is_valid_assigned, is_valid_act, is_step}
use Rattle.c_prog.specs.Valid.Operations.{op_number, are_valid_ops, has_valid_cond}
use Rattle.c_prog.specs.Valid.Strings.{directives, directives_left, is_count, is_string}
use Rattle.c_print.proofs.TextEquations.{zero-Number, zero-Cast, zero-Read, zero-Neg, zero-Not, zero-Binary}
use Rattle.c_print.specs.Text.Names.{Names, name_at}
use Rattle.c_print.specs.Text.Expressions.{is_zero}
use Rattle.c_grammar.specs.declared.sign.Sign.{Sign}
use Rattle.c_grammar.specs.declared.sign.Sign.TheVariants as s
use Rattle.c_grammar.specs.Expr as g
use Rattle.c_grammar.specs.Simple as m
use Rattle.c_grammar.specs.Token.{IsSign, IsNumber}
use Rattle.c_names.specs.declared.fault.Fault.{Fault}
use Rattle.c_names.specs.declared.fault.FaultKind.TheVariants.{Arity, WrongUse, Twice}
use Rattle.c_names.specs.Faults.{fault_if}
use Rattle.c_names.specs.Uses as n
use Rattle.c_names.specs.Names.{reserved_faults, use_faults, declare_faults, length_faults}
use Rattle.c_names.specs.Strings.{pairs_from, is_number_pair, is_other_pair, numbers_in, has_other}
use Rattle.c_names.specs.Expressions.{expr_faults, int_target_faults, thread_target_faults, call_faults, value_faults}
use Rattle.c_names.specs.Simples.{op_faults, ops_faults, more_ops_faults, plain_faults, thread_arg_faults, is_thread_function_use, created_faults, mutex_faults, cond_variable_faults, printf_faults, simple_faults}
use Rattle.c_names.specs.Statements.{guard_faults, cond_faults, decl_faults}
use Rattle.c_names.specs.SpelledExpressions.{expr_of, target_of, call_of, plain_of, thread_arg_of, simple_of}
use Rattle.c_names.specs.SpelledStatements.{op_of, ops_of, more_ops_of, guard_of, cond_of, decl_of}
use Rattle.print_law.proofs.Plain.{Expr, Number, Variable, Element, Cast, Neg, Not, Binary, plain, plain-up, up}
use Rattle.print_law.proofs.Items.{Item, Gap, Is, here, later, after}
use Rattle.print_law.proofs.Expressions.{ident_at}
use Rattle.print_law.proofs.Apart.{both}
use Rattle.print_law.proofs.Calls.{items_of, tree_of, target_items, target_tree, more_items, more_tree, call_tree, value_tree}
use Rattle.print_law.proofs.Operations.{op_items, op_tree, ops_items, ops_tree, commas_items, commas_tree, guard_items, guard_tree, guarded_items, cond_items, cond_by, cond_tree}
use Rattle.print_law.proofs.Acts.{argument_by, argument_items, argument_tree_by, argument_tree, assigned, plain_items, plain_tree}
use Rattle.print_law.proofs.Simples.{Made, Declared, Simply, act_form, act_items, act_made}
use Rattle.print_law.proofs.Statements.{more_ops_items, more_ops_tree}
use Rattle.print_law.proofs.Lexing.{kind_ok, items_ok}
use Rattle.print_law.proofs.Meanings.{FileFacts, LocalFact, AllKnown, VarUse, var-use, function-use, declared-name, limits, limits-append, limit-if, no-fault, no-reserved}
use Rattle.print_law.proofs.SpeltExpressions.{ok-append, name-alone, spelt-of, spelt-operand, int-target, thread-target, spelt-more, more-length, spelt-call, spelt-value, valued-clean}

-- numbers that a text can have
pub number-ok : (number : ℕ) → nat_le number 2147483647 ≡ true → kind_ok (IsNumber (pos number)) ≡ true
number-ok number h = both _ _ (le-leb 0 number (omega arith)) h

-- operations

op-ok : (op : Op) (rest : List Item) → nat_le (op_number op) 2147483647 ≡ true → items_ok rest ≡ true → items_ok (op_items op ++ rest) ≡ true
op-ok op rest h r = both _ _ (number-ok (op_number op) h) r

op-again : (op : Op) (spots : List Spot) → op_of (op_tree op spots) ≡ op
op-again (Leave k) spots = refl
op-again (First j) spots = refl
op-again (Done j) spots = refl
op-again (Wait j) spots = refl
op-again (Enter k) spots = refl
op-again (Add j) spots = refl

op-clean : (op : Op) (spots : List Spot) → limits (op_faults (op_tree op spots)) ≡ true
op-clean op spots = limit-if (nat_lt MAX_OPERATION_NUMBER (op_number op)) (here spots)

pub ops-ok : (ops : List Op) → are_valid_ops ops ≡ true → items_ok (ops_items ops) ≡ true
ops-ok [] h = refl
ops-ok (op ∷ more) h =
    let hs = and_parts (nat_le (op_number op) 2147483647) (are_valid_ops more) h in
    op-ok op (Is (IsSign s.Semicolon) ∷ ops_items more) hs.0 (ops-ok more hs.1)

pub ops-again : (ops : List Op) (spots : List Spot) → ops_of (ops_tree ops spots) ≡ ops
ops-again [] spots = refl
ops-again (op ∷ more) spots =
    let behind = later (after spots (op_items op)) in
    ap (λ z. z ∷ ops_of (ops_tree more behind)) (op-again op spots) ∙ ap (λ z. op ∷ z) (ops-again more behind)

pub ops-clean : (ops : List Op) (spots : List Spot) → limits (ops_faults (ops_tree ops spots)) ≡ true
ops-clean [] spots = refl
ops-clean (op ∷ more) spots = limits-append (op_faults (op_tree op spots)) _ (op-clean op spots) (ops-clean more (later (after spots (op_items op))))

commas-ok : (ops : List Op) (rest : List Item) → are_valid_ops ops ≡ true → items_ok rest ≡ true → items_ok (commas_items ops ++ rest) ≡ true
commas-ok [] rest h r = r
commas-ok (op ∷ more) rest h r =
    let hs = and_parts (nat_le (op_number op) 2147483647) (are_valid_ops more) h in
    op-ok op (Is (IsSign s.Comma) ∷ Gap ∷ (commas_items more ++ rest)) hs.0 (commas-ok more rest hs.1 r)

commas-again : (ops : List Op) (spots : List Spot) → ops_of (commas_tree ops spots) ≡ ops
commas-again [] spots = refl
commas-again (op ∷ more) spots =
    let behind = later (after spots (op_items op)) in
    ap (λ z. z ∷ ops_of (commas_tree more behind)) (op-again op spots) ∙ ap (λ z. op ∷ z) (commas-again more behind)

commas-clean : (ops : List Op) (spots : List Spot) → limits (ops_faults (commas_tree ops spots)) ≡ true
commas-clean [] spots = refl
commas-clean (op ∷ more) spots = limits-append (op_faults (op_tree op spots)) _ (op-clean op spots) (commas-clean more (later (after spots (op_items op))))

pub more-ops-ok : (ops : List Op) → are_valid_ops ops ≡ true → items_ok (more_ops_items ops) ≡ true
more-ops-ok [] h = refl
more-ops-ok (op ∷ more) h =
    let hs = and_parts (nat_le (op_number op) 2147483647) (are_valid_ops more) h in
    op-ok op (more_ops_items more) hs.0 (more-ops-ok more hs.1)

pub more-ops-again : (ops : List Op) (spots : List Spot) → more_ops_of (more_ops_tree ops spots) ≡ ops
more-ops-again [] spots = refl
more-ops-again (op ∷ more) spots =
    let behind = after (later spots) (op_items op) in
    ap (λ z. z ∷ more_ops_of (more_ops_tree more behind)) (op-again op (later spots)) ∙ ap (λ z. op ∷ z) (more-ops-again more behind)

pub more-ops-clean : (ops : List Op) (spots : List Spot) → limits (more_ops_faults (more_ops_tree ops spots)) ≡ true
more-ops-clean [] spots = refl
more-ops-clean (op ∷ more) spots = limits-append (op_faults (op_tree op (later spots))) _ (op-clean op (later spots)) (more-ops-clean more (after (later spots) (op_items op)))

-- guards

guard-ok : (number : ℕ) (op : Op) (more : List Op) → nat_le number 2147483647 ≡ true → are_valid_ops (op ∷ more) ≡ true → items_ok (guard_items number op more ++ Is (IsSign s.CloseParen) ∷ []) ≡ true
guard-ok number op more v h =
    let hs = and_parts (nat_le (op_number op) 2147483647) (are_valid_ops more) h in
    ok-append (guard_items number op more) (Is (IsSign s.CloseParen) ∷ [])
    (op-ok op (Is (IsSign s.Comma) ∷ Gap ∷ (commas_items more ++ Is (IsNumber (pos number)) ∷ [])) hs.0
    (commas-ok more (Is (IsNumber (pos number)) ∷ []) hs.1 (both _ _ (number-ok number v) refl))) refl

guard-again : (op : Op) (more : List Op) (spots : List Spot) → guard_of (guard_tree op more spots) ≡ op ∷ more
guard-again op more spots =
    let behind = later (after spots (op_items op)) in
    ap (λ z. z ∷ ops_of (commas_tree more behind)) (op-again op spots) ∙ ap (λ z. op ∷ z) (commas-again more behind)

guard-clean : (op : Op) (more : List Op) (spots : List Spot) → limits (guard_faults (guard_tree op more spots)) ≡ true
guard-clean op more spots = limits-append (op_faults (op_tree op spots)) _ (op-clean op spots) (commas-clean more (later (after spots (op_items op))))

guarded-ok : (x : Sign) (number : ℕ) (test : List Item) (ops : List Op) → nat_le number 2147483647 ≡ true → items_ok test ≡ true → are_valid_ops ops ≡ true → items_ok (guarded_items x number test ops) ≡ true
guarded-ok x number test [] v t h = t
guarded-ok x number test (op ∷ more) v t h =
    ok-append test (Is (IsSign s.CloseParen) ∷ Gap ∷ Is (IsSign x) ∷ Gap ∷ Is (IsSign s.OpenParen) ∷ (guard_items number op more ++ Is (IsSign s.CloseParen) ∷ [])) t (guard-ok number op more v h)

-- strings of printf

some-same : (a b : ℕ) → Some a ≡ Some b → a ≡ b
some-same a b e = cc

abbrev IsNone : Option ℕ → Type 0
IsNone None = Unit {0}
IsNone (Some k) = ⊥

no-some : {B : Type 0} (a : ℕ) → None ≡ Some a → B
no-some a e = absurd (subst (λ (o : Option ℕ). IsNone o) e tt)

abbrev Counted : Bool → List ℕ → ℕ → Type 0
Counted flag text k = (count_by is_number_pair (pairs_from flag text) ≡ k) × (list_any is_other_pair (pairs_from flag text) ≡ false)

more-some : (o : Option ℕ) (k : ℕ) → option_map suc o ≡ Some k → (j : ℕ) × (o ≡ Some j) × (suc j ≡ k)
more-some None k e = no-some k e
more-some (Some j) k e = (j, refl, some-same (suc j) k e)

pair-by : (byte : ℕ) (rest : List ℕ) (k : ℕ) (is_d is_percent : Bool) → (byte == 100) ≡ is_d → (byte == 37) ≡ is_percent
    → (if is_d then option_map suc (directives_left false rest) else (if is_percent then directives_left false rest else None)) ≡ Some k
    → ((j : ℕ) → directives_left false rest ≡ Some j → Counted false rest j) → Counted true (byte ∷ rest) k
pair-by byte rest k true is_percent d p e g =
    let m = more-some (directives_left false rest) k e in
    let c = g m.0 m.1 in
    let total : count_by is_number_pair (pairs_from true (byte ∷ rest)) ≡ 1 + count_by is_number_pair (pairs_from false rest) =
    sum_by-append (λ z. cond (is_number_pair z) 1 0) (Some byte ∷ []) (pairs_from false rest) ∙ ap (λ z. (0 + cond z 1 0) + count_by is_number_pair (pairs_from false rest)) d in
    (omega (arith, total, c.0, m.2), ap (λ z. not (z || byte == 37) || list_any is_other_pair (pairs_from false rest)) d ∙ c.1)
pair-by byte rest k false true d p e g =
    let c = g k e in
    let total : count_by is_number_pair (pairs_from true (byte ∷ rest)) ≡ 0 + count_by is_number_pair (pairs_from false rest) =
    sum_by-append (λ z. cond (is_number_pair z) 1 0) (Some byte ∷ []) (pairs_from false rest) ∙ ap (λ z. (0 + cond z 1 0) + count_by is_number_pair (pairs_from false rest)) d in (
      omega (arith, total, c.0),
      ap (λ z. not (z || byte == 37) || list_any is_other_pair (pairs_from false rest)) d ∙ ap (λ z. not z || list_any is_other_pair (pairs_from false rest)) p ∙ c.1,
    )
pair-by byte rest k false false d p e g = no-some k e

counted : (text : List ℕ) (flag : Bool) (k : ℕ) → directives_left flag text ≡ Some k → Counted flag text k
counted [] false k e = (some-same 0 k e, refl)
counted [] true k e = no-some k e
counted (byte ∷ rest) false k e = counted rest (byte == 37) k e
counted (byte ∷ rest) true k e = pair-by byte rest k (byte == 100) (byte == 37) refl refl e (λ j f. counted rest false j f)

count-is : (count : ℕ) (o : Option ℕ) → is_count count o ≡ true → o ≡ Some count
count-is count None h = absurd (true≢false (sym h))
count-is count (Some k) h = ap Some (eqb-true k count h)

print-clean : (text : List ℕ) (count given : ℕ) (at spot : Spot) → is_count count (directives text) ≡ true → given ≡ count
    → (limits (printf_faults given text at) ≡ true) × (limits (fault_if (has_other text) spot WrongUse) ≡ true)
print-clean text count given at spot h e =
    let c = counted text false count (count-is count (directives text) h) in
    let wrong : not (numbers_in text == given) ≡ false = ap not (eq-eqb (numbers_in text) given (c.0 ∙ sym e)) in (
      limits-append (fault_if (not (numbers_in text == given)) at Arity) _ (no-fault (not (numbers_in text == given)) at Arity wrong) (limit-if (nat_lt MAX_ARGUMENTS given) at),
      no-fault (has_other text) spot WrongUse c.1,
    )

-- the number 0 as the argument of a thread

zero-value : (z : ℤ) → is_zero (expr.Number z) ≡ true → expr.Number z ≡ expr.Number (pos 0)
zero-value (pos k) h = ap (λ j. expr.Number (pos j)) (eqb-true k 0 (sym (zero-Number (pos k)) ∙ h))
zero-value (negsuc k) h = absurd (true≢false (sym (sym (zero-Number (negsuc k)) ∙ h)))

zero-is : (e : Expr) → is_zero (up e) ≡ true → up e ≡ expr.Number (pos 0)
zero-is (Number z) h = zero-value z h
zero-is (Variable v) h = absurd (true≢false (sym (sym (zero-Read (record { var = v; index = None })) ∙ h)))
zero-is (Element v e) h = absurd (true≢false (sym (sym (zero-Read (record { var = v; index = Some (up e) })) ∙ h)))
zero-is (Cast k) h = absurd (true≢false (sym (sym (zero-Cast k) ∙ h)))
zero-is (Neg e) h = absurd (true≢false (sym (sym (zero-Neg (up e)) ∙ h)))
zero-is (Not e) h = absurd (true≢false (sym (sym (zero-Not (up e)) ∙ h)))
zero-is (Binary op a b) h = absurd (true≢false (sym (sym (zero-Binary op (up a) (up b)) ∙ h)))

zero-of : (e : source.Expr) → is_zero e ≡ true → e ≡ expr.Number (pos 0)
zero-of e h = sym (plain-up e) ∙ zero-is (plain e) (ap is_zero (plain-up e) ∙ h)

-- assignments

assigned-again : (known : n.Names) (inner : Scope) (h : How) (t : m.Target) (at : Spot) (e : g.Expr)
    → plain_of known inner (assigned h t at e) ≡ act.Assign (target_of known inner t) h (value.Expr (expr_of known inner e))
assigned-again known inner how.Set t at e = refl
assigned-again known inner how.Add t at e = refl
assigned-again known inner how.Sub t at e = refl
assigned-again known inner how.Mul t at e = refl
assigned-again known inner how.Div t at e = refl
assigned-again known inner how.Rem t at e = refl

assigned-faults : (known : n.Names) (inner : Scope) (h : How) (t : m.Target) (at : Spot) (e : g.Expr)
    → plain_faults known inner (assigned h t at e) ≡ int_target_faults known inner t ++ expr_faults known inner e
assigned-faults known inner how.Set t at e = refl
assigned-faults known inner how.Add t at e = refl
assigned-faults known inner how.Sub t at e = refl
assigned-faults known inner how.Mul t at e = refl
assigned-faults known inner how.Div t at e = refl
assigned-faults known inner how.Rem t at e = refl

-- what a declaration or another simple statement spells, and its faults
abbrev pub made_acts : n.Names → Scope → Made → List Act
made_acts known inner (Declared d) = decl_of known inner d
made_acts known inner (Simply x) = simple_of known inner x ∷ []

abbrev pub made_faults : n.Names → Scope → Made → List Fault
made_faults known inner (Declared d) = decl_faults known inner d
made_faults known inner (Simply x) = simple_faults known inner x

module _ (names : Names) (known : n.Names) (file : File) (facts : FileFacts names known file) (scope : Scope) (locals : AllKnown names (visible scope)) where
  module _ (inner : Scope) (same : (text : List ℕ) → local_named text inner ≡ local_named text scope) where
    -- conditions

    pub record SpeltCond (cond : Cond) : Type 0 where
      pub ok : items_ok (cond_items names cond) ≡ true
      pub again : (spots : List Spot) → cond_of known inner (cond_tree names cond spots) ≡ cond
      pub clean : (spots : List Spot) → limits (cond_faults known inner (cond_tree names cond spots)) ≡ true

    abbrev Again : source.Expr → List Op → List Op → Type 0
    Again e on_true on_false =
        (spots : List Spot) → cond_of known inner (cond_by names e on_true on_false spots) ≡ record { test = e; on_true = on_true; on_false = on_false }

    abbrev tested : source.Expr → List Op → List Op → Cond
    tested e on_true on_false = record { test = e; on_true = on_true; on_false = on_false }

    cond-again : (e : source.Expr) (on_true on_false : List Op) → ((spots : List Spot) → expr_of known inner (tree_of names e spots) ≡ e) → Again e on_true on_false
    cond-again e [] [] h spots = ap (λ z. tested z [] []) (h spots)
    cond-again e (op ∷ more) [] h spots =
        let inside = later (later (later (after (later spots) (items_of names e)))) in
        ap (λ z. tested z (guard_of (guard_tree op more inside)) []) (h (later spots)) ∙ ap (λ z. tested e z []) (guard-again op more inside)
    cond-again e [] (op ∷ more) h spots =
        let inside = later (later (later (after (later spots) (items_of names e)))) in
        ap (λ z. tested z [] (guard_of (guard_tree op more inside))) (h (later spots)) ∙ ap (λ z. tested e [] z) (guard-again op more inside)
    cond-again e (first ∷ rest) (op ∷ more) h spots =
        let inside = later (later (later (after (later (later spots)) (items_of names e)))) in
        let outside = later (later (later (after (later spots) (guarded_items s.AndAnd 1 (items_of names e) (first ∷ rest))))) in
        ap (λ z. tested z (guard_of (guard_tree first rest inside)) (guard_of (guard_tree op more outside))) (h (later (later spots)))
        ∙ ap (λ z. tested e z (guard_of (guard_tree op more outside))) (guard-again first rest inside) ∙ ap (λ z. tested e (first ∷ rest) z) (guard-again op more outside)

    cond-clean : (e : source.Expr) (on_true on_false : List Op) → ((spots : List Spot) → limits (expr_faults known inner (tree_of names e spots)) ≡ true)
        → (spots : List Spot) → limits (cond_faults known inner (cond_by names e on_true on_false spots)) ≡ true
    cond-clean e [] [] h spots = h spots
    cond-clean e (op ∷ more) [] h spots =
        limits-append (expr_faults known inner (tree_of names e (later spots))) _ (h (later spots)) (guard-clean op more (later (later (later (after (later spots) (items_of names e))))))
    cond-clean e [] (op ∷ more) h spots =
        limits-append (expr_faults known inner (tree_of names e (later spots))) _ (h (later spots)) (guard-clean op more (later (later (later (after (later spots) (items_of names e))))))
    cond-clean e (first ∷ rest) (op ∷ more) h spots =
        let inside = later (later (later (after (later (later spots)) (items_of names e)))) in
        let outside = later (later (later (after (later spots) (guarded_items s.AndAnd 1 (items_of names e) (first ∷ rest))))) in
        limits-append (expr_faults known inner (tree_of names e (later (later spots))) ++ guard_faults (guard_tree first rest inside)) (guard_faults (guard_tree op more outside))
        (limits-append (expr_faults known inner (tree_of names e (later (later spots)))) (guard_faults (guard_tree first rest inside)) (h (later (later spots))) (guard-clean first rest inside))
        (guard-clean op more outside)

    pub spelt-cond : (cond : Cond) → is_valid_expr file scope cond.test ≡ true → has_valid_cond cond ≡ true → SpeltCond cond
    spelt-cond cond h v =
        let vs = and_parts (are_valid_ops cond.on_true) (are_valid_ops cond.on_false) v in
        let t = spelt-of names known file facts scope locals inner same cond.test h in
        record {
          ok = guarded-ok s.OrOr 0 (guarded_items s.AndAnd 1 (items_of names cond.test) cond.on_true) cond.on_false refl
              (guarded-ok s.AndAnd 1 (items_of names cond.test) cond.on_true refl t.ok vs.0) vs.1;
          again = λ spots. cond-again cond.test cond.on_true cond.on_false t.again spots;
          clean = λ spots. cond-clean cond.test cond.on_true cond.on_false t.clean spots;
        }

    -- steps

    pub record SpeltPlain (a : Act) : Type 0 where
      pub ok : items_ok (plain_items names a) ≡ true
      pub again : (spots : List Spot) → plain_of known inner (plain_tree names a spots) ≡ a
      pub clean : (spots : List Spot) → limits (plain_faults known inner (plain_tree names a spots)) ≡ true

    spelt-assign : (t : Target) (h : How) (e : source.Expr) → valid.is_int_target file scope t ≡ true → is_valid_expr file scope e ≡ true → SpeltPlain (act.Assign t h (value.Expr e))
    spelt-assign t h e p q =
        let ts = int-target names known file facts scope locals inner same t p in
        let es = spelt-of names known file facts scope locals inner same e q in
        record {
          ok = ok-append (target_items names t) _ ts.ok es.ok;
          again = λ spots.
              let behind = after spots (target_items names t) in
              assigned-again known inner h (target_tree names t spots) (here behind) (tree_of names e (later behind))
              ∙ ap (λ z. act.Assign z h (value.Expr (expr_of known inner (tree_of names e (later behind))))) (ts.again spots)
              ∙ ap (λ z. act.Assign t h (value.Expr z)) (es.again (later behind));
          clean = λ spots.
              let behind = after spots (target_items names t) in
              ap limits (assigned-faults known inner h (target_tree names t spots) (here behind) (tree_of names e (later behind)))
              ∙ limits-append (int_target_faults known inner (target_tree names t spots)) _ (ts.clean spots) (es.clean (later behind));
        }

    pub spelt-up : (t : Target) → valid.is_int_target file scope t ≡ true → SpeltPlain (act.Up t)
    spelt-up t p =
        let ts = int-target names known file facts scope locals inner same t p in
        record { ok = ok-append (target_items names t) _ ts.ok refl; again = λ spots. ap act.Up (ts.again spots); clean = λ spots. ts.clean spots }

    pub spelt-down : (t : Target) → valid.is_int_target file scope t ≡ true → SpeltPlain (act.Down t)
    spelt-down t p =
        let ts = int-target names known file facts scope locals inner same t p in
        record { ok = ok-append (target_items names t) _ ts.ok refl; again = λ spots. ap act.Down (ts.again spots); clean = λ spots. ts.clean spots }

    pub spelt-step : (a : Act) → is_step a ≡ true → is_valid_act file scope a ≡ true → SpeltPlain a
    spelt-step (act.Assign t h (value.Expr e)) st v =
        let vs = and_parts (valid.is_int_target file scope t) (is_valid_expr file scope e) v in
        spelt-assign t h e vs.0 vs.1
    spelt-step (act.Up t) st v = spelt-up t v
    spelt-step (act.Down t) st v = spelt-down t v
    spelt-step (act.Assign t h (value.Call c)) st v = absurd (true≢false (sym st))
    spelt-step (act.Declare name kind initial) st v = absurd (true≢false (sym st))
    spelt-step (act.Call c) st v = absurd (true≢false (sym st))
    spelt-step (act.Create t f e) st v = absurd (true≢false (sym st))
    spelt-step (act.Join t) st v = absurd (true≢false (sym st))
    spelt-step (act.Lock x) st v = absurd (true≢false (sym st))
    spelt-step (act.Unlock x) st v = absurd (true≢false (sym st))
    spelt-step (act.Print text args) st v = absurd (true≢false (sym st))
    spelt-step (act.Scan t) st v = absurd (true≢false (sym st))
    spelt-step (act.Wait c x) st v = absurd (true≢false (sym st))
    spelt-step (act.Signal c) st v = absurd (true≢false (sym st))
    spelt-step (act.Broadcast c) st v = absurd (true≢false (sym st))

  own : (text : List ℕ) → local_named text scope ≡ local_named text scope
  own text = refl

  -- simple statements

  pub record SpeltAct (a : Act) : Type 0 where
    pub form : act_form a ≡ true
    pub ok : items_ok (act_items names a) ≡ true
    pub again : (spots : List Spot) → made_acts known scope (act_made names a spots) ≡ a ∷ []
    pub clean : (spots : List Spot) → limits (made_faults known scope (act_made names a spots)) ≡ true

  -- a name that is declared
  declare-clean : (name : List ℕ) (spots : List Spot) → is_declared_name name ≡ true → is_in_block name scope ≡ false → limits (declare_faults known scope (ident_at name spots)) ≡ true
  declare-clean name spots d b =
      let twice : (is_in_block name scope || (known name).is_defined) ≡ false = ap (λ z. z || (known name).is_defined) b ∙ facts.undefined name d in
      limits-append (reserved_faults (ident_at name spots)) _ (no-reserved (ident_at name spots) d)
      (no-fault (is_in_block name scope || (known name).is_defined) (here spots) Twice twice)

  length-clean : (number : ℕ) (spot : Spot) → limits (length_faults number spot) ≡ true
  length-clean number spot = limit-if (number == 0 || nat_lt MAX_ARRAY_LENGTH number) spot

  no-initial : {B : Type 0} → false ≡ true → B
  no-initial e = absurd (true≢false (sym e))

  -- the local that is declared is known by its name
  abbrev pub DeclaresNext : List ℕ → Type 0
  DeclaresNext name = name_at names.locals scope.count ≡ name

  four : (a b c d : Bool) → (a && b && c && d) ≡ true → (a ≡ true) × (b ≡ true) × (c ≡ true) × (d ≡ true)
  four a b c d h =
      let x = and_parts (a && b && c) d h in
      let y = and_parts (a && b) c x.0 in
      let z = and_parts a b y.0 in
      (z.0, z.1, y.1, x.1)

  spelt-declared : (name : List ℕ) (k : LocalKind) (initial : Option Value) → is_declared_name name ≡ true → is_in_block name scope ≡ false → is_valid_kind k ≡ true
      → is_valid_initial file (declared name (local_var_kind k) scope) k initial ≡ true → DeclaresNext name → SpeltAct (act.Declare name k initial)
  spelt-declared name kind.Int None d b c i next = record {
    form = refl;
    ok = both _ _ (declared-name name d) refl;
    again = λ spots. refl;
    clean = λ spots. limits-append (declare_faults known scope (ident_at name (later spots))) [] (declare-clean name (later spots) d b) refl;
  }
  spelt-declared name kind.Int (Some v) d b c i next =
      let within = declared name int scope in
      let fact : LocalFact names (record { name = name; kind = int; number = scope.count }) = record { named = next; declared = d } in
      let sv = spelt-value names known file facts within (fact, locals) within (λ text. refl) v i in
      record {
        form = refl;
        ok = both _ _ (declared-name name d) sv.ok;
        again = λ spots. ap (λ z. act.Declare name kind.Int (Some z) ∷ []) (sv.again (later (later (later spots))));
        clean = λ spots.
            let x = ident_at name (later spots) in
            let tail = value_faults known within (value_tree names v (later (later (later spots)))) in
            limits-append (declare_faults known scope x ++ tail) []
            (limits-append (declare_faults known scope x) tail (declare-clean name (later spots) d b) (sv.clean (later (later (later spots))))) refl;
      }
  spelt-declared name (kind.IntArray k) None d b c i next = record {
    form = refl;
    ok = both _ _ (declared-name name d) (both _ _ (number-ok k c) refl);
    again = λ spots. refl;
    clean = λ spots.
        let x = ident_at name (later spots) in
        limits-append (declare_faults known scope x ++ (length_faults k (here (later spots)) ++ [])) []
        (limits-append (declare_faults known scope x) (length_faults k (here (later spots)) ++ []) (declare-clean name (later spots) d b)
        (limits-append (length_faults k (here (later spots))) [] (length-clean k (here (later spots))) refl)) refl;
  }
  spelt-declared name (kind.IntArray k) (Some v) d b c i next = no-initial i
  spelt-declared name kind.Thread None d b c i next = record {
    form = refl;
    ok = both _ _ (declared-name name d) refl;
    again = λ spots. refl;
    clean = λ spots. limits-append (declare_faults known scope (ident_at name (later spots))) [] (declare-clean name (later spots) d b) refl;
  }
  spelt-declared name kind.Thread (Some v) d b c i next = no-initial i
  spelt-declared name (kind.ThreadArray k) None d b c i next = record {
    form = refl;
    ok = both _ _ (declared-name name d) (both _ _ (number-ok k c) refl);
    again = λ spots. refl;
    clean = λ spots.
        let x = ident_at name (later spots) in
        limits-append (declare_faults known scope x ++ (length_faults k (here (later spots)) ++ [])) []
        (limits-append (declare_faults known scope x) (length_faults k (here (later spots)) ++ []) (declare-clean name (later spots) d b)
        (limits-append (length_faults k (here (later spots))) [] (length-clean k (here (later spots))) refl)) refl;
  }
  spelt-declared name (kind.ThreadArray k) (Some v) d b c i next = no-initial i

  -- the argument of a created thread

  record SpeltArgument (e : source.Expr) : Type 0 where
    ok : items_ok (argument_items names e) ≡ true
    again : (spots : List Spot) → thread_arg_of known scope (argument_tree names e spots) ≡ e
    clean : (spots : List Spot) → limits (thread_arg_faults known scope (argument_tree names e spots)) ≡ true

  argument-ok : (zero : Bool) (e : source.Expr) → is_valid_expr file scope e ≡ true → items_ok (argument_by zero names e) ≡ true
  argument-ok true e v = refl
  argument-ok false e v = (spelt-operand names known file facts scope locals scope own 7 e v).ok

  argument-again : (zero : Bool) (e : source.Expr) → is_valid_expr file scope e ≡ true → is_zero e ≡ zero → (spots : List Spot) → thread_arg_of known scope (argument_tree_by zero names e spots) ≡ e
  argument-again true e v z spots = sym (zero-of e z)
  argument-again false e v z spots = (spelt-operand names known file facts scope locals scope own 7 e v).again (later (later (later (later (later (later (later spots)))))))

  argument-clean : (zero : Bool) (e : source.Expr) → is_valid_expr file scope e ≡ true → (spots : List Spot) → limits (thread_arg_faults known scope (argument_tree_by zero names e spots)) ≡ true
  argument-clean true e v spots = refl
  argument-clean false e v spots = (spelt-operand names known file facts scope locals scope own 7 e v).clean (later (later (later (later (later (later (later spots)))))))

  thread-by : (f : Option Signature) → valid.is_thread_function f ≡ true → (g : Signature) × (f ≡ Some g) × (is_thread_kind g.kind ≡ true)
  thread-by None h = absurd (true≢false (sym h))
  thread-by (Some g) h = (g, refl, h)

  spelt-create : (t : Target) (id : FnId) (e : source.Expr) → valid.is_thread_target file scope t ≡ true → valid.is_thread_function (function_here file scope id) ≡ true
      → is_valid_expr file scope e ≡ true → SpeltAct (act.Create t id e)
  spelt-create t id e vt vf ve =
      let ts = thread-target names known file facts scope locals scope own t vt in
      let f = thread-by (function_here file scope id) vf in
      let u = function-use names known file facts scope locals scope own id f.0 f.1 in
      let name = name_at names.functions id.number in
      record {
        form = refl;
        ok = ok-append (target_items names t) _ ts.ok (both _ _ (declared-name name u.1) (ok-append (argument_items names e) (Is (IsSign s.CloseParen) ∷ []) (argument-ok (is_zero e) e ve) refl));
        again = λ spots.
            let behind = after (later (later (later spots))) (target_items names t) in
            let last = later (later (later (later (later behind)))) in
            ap (λ z. act.Create z (record { number = n.function_number (n.use_of known scope name) }) (thread_arg_of known scope (argument_tree names e last)) ∷ []) (ts.again (later (later (later spots))))
            ∙ ap (λ z. act.Create t (record { number = n.function_number z }) (thread_arg_of known scope (argument_tree names e last)) ∷ []) u.2
            ∙ ap (λ z. act.Create t id z ∷ []) (argument-again (is_zero e) e ve refl last);
        clean = λ spots.
            let behind = after (later (later (later spots))) (target_items names t) in
            let last = later (later (later (later (later behind)))) in
            let x = ident_at name (later (later (later behind))) in
            let fits : is_thread_function_use (n.use_of known scope name) ≡ true = ap is_thread_function_use u.2 ∙ f.2 in
            let uses : limits (use_faults (is_thread_function_use (n.use_of known scope name)) (n.use_of known scope name) x.spot) ≡ true =
            ap (λ z. limits (use_faults (is_thread_function_use z) z x.spot)) u.2 ∙ no-fault (not (is_thread_kind f.0.kind)) x.spot WrongUse (ap not f.2) in
            limits-append (thread_target_faults known scope (target_tree names t (later (later (later spots))))) _ (ts.clean (later (later (later spots))))
            (limits-append (created_faults known scope x) (thread_arg_faults known scope (argument_tree names e last))
            (limits-append (reserved_faults x) _ (no-reserved x u.1) uses) (argument-clean (is_zero e) e ve last));
      }

  mutex-kind : (o : Option VarKind) → is_mutex o ≡ true → o ≡ Some mutex
  mutex-kind (Some mutex) e = refl
  mutex-kind None e = absurd (true≢false (sym e))
  mutex-kind (Some _) e = absurd (true≢false (sym e))

  mutex-use : (x : VarId) → is_mutex (kind_here file scope (var.Global x)) ≡ true → VarUse names known scope (var.Global x) mutex
  mutex-use x h = var-use names known file facts scope locals scope own (var.Global x) mutex (mutex-kind (kind_here file scope (var.Global x)) h)

  mutex-clean : (x : VarId) (spots : List Spot) → is_mutex (kind_here file scope (var.Global x)) ≡ true → limits (mutex_faults known scope (ident_at (name_at names.globals x.number) spots)) ≡ true
  mutex-clean x spots h =
      let u = mutex-use x h in
      let name = name_at names.globals x.number in
      name-alone (ident_at name spots) (n.use_of known scope name) (var.Global x) mutex (λ found. is_mutex (n.kind_of found)) u.declared u.stands refl

  cond-kind : (o : Option VarKind) → is_cond o ≡ true → o ≡ Some condition
  cond-kind (Some condition) e = refl
  cond-kind None e = absurd (true≢false (sym e))
  cond-kind (Some _) e = absurd (true≢false (sym e))

  cond-use : (x : VarId) → is_cond (kind_here file scope (var.Global x)) ≡ true → VarUse names known scope (var.Global x) condition
  cond-use x h = var-use names known file facts scope locals scope own (var.Global x) condition (cond-kind (kind_here file scope (var.Global x)) h)

  condition-clean : (x : VarId) (spots : List Spot) → is_cond (kind_here file scope (var.Global x)) ≡ true → limits (cond_variable_faults known scope (ident_at (name_at names.globals x.number) spots)) ≡ true
  condition-clean x spots h =
      let u = cond-use x h in
      let name = name_at names.globals x.number in
      name-alone (ident_at name spots) (n.use_of known scope name) (var.Global x) condition (λ found. is_cond (n.kind_of found)) u.declared u.stands refl

  abbrev pub Next : Act → Type 0
  Next (act.Declare name k initial) = DeclaresNext name
  Next _ = Unit {0}

  set-by : (h : How) (c : CallForm) → is_valid_assigned file scope h (value.Call c) ≡ true → (h ≡ how.Set) × (valid.is_valid_value file scope (value.Call c) ≡ true)
  set-by how.Set c v = (refl, v)
  set-by how.Add c v = no-initial v
  set-by how.Sub c v = no-initial v
  set-by how.Mul c v = no-initial v
  set-by how.Div c v = no-initial v
  set-by how.Rem c v = no-initial v

  spelt-set : (t : Target) (c : CallForm) → valid.is_int_target file scope t ≡ true → valid.is_valid_value file scope (value.Call c) ≡ true → SpeltAct (act.Assign t how.Set (value.Call c))
  spelt-set t c vt vc =
      let vs = and_parts (valid.is_valid_call file scope c) (valid.has_value (function_here file scope c.of)) vc in
      let ts = int-target names known file facts scope locals scope own t vt in
      let cs = spelt-call names known file facts scope locals scope own c vs.0 in
      record {
        form = refl;
        ok = ok-append (target_items names t) _ ts.ok cs.ok;
        again = λ spots.
            let behind = after spots (target_items names t) in
            ap (λ z. act.Assign z how.Set (value.Call (call_of known scope (call_tree names c (later behind)))) ∷ []) (ts.again spots)
            ∙ ap (λ z. act.Assign t how.Set (value.Call z) ∷ []) (cs.again (later behind));
        clean = λ spots.
            let behind = after spots (target_items names t) in
            limits-append (int_target_faults known scope (target_tree names t spots)) _ (ts.clean spots)
            (limits-append (call_faults known scope (call_tree names c (later behind))) _ (cs.clean (later behind))
            (valued-clean names known file facts scope locals scope own c vs.1 (later behind)));
      }

  pub spelt-act : (a : Act) → is_valid_act file scope a ≡ true → Next a → SpeltAct a
  spelt-act (act.Declare name k initial) v next =
      let vs = four (is_declared_name name) (not (is_in_block name scope)) (is_valid_kind k) (is_valid_initial file (declared name (local_var_kind k) scope) k initial) v in
      spelt-declared name k initial vs.0 (not-true _ vs.1) vs.2 vs.3 next
  spelt-act (act.Assign t h (value.Expr e)) v next =
      let vs = and_parts (valid.is_int_target file scope t) (is_valid_expr file scope e) v in
      let p = spelt-assign scope own t h e vs.0 vs.1 in
      record { form = refl; ok = p.ok; again = λ spots. ap (λ z. z ∷ []) (p.again spots); clean = λ spots. p.clean spots }
  spelt-act (act.Assign t h (value.Call c)) v next =
      let vs = and_parts (valid.is_int_target file scope t) (is_valid_assigned file scope h (value.Call c)) v in
      let set = set-by h c vs.1 in
      subst (λ z. SpeltAct (act.Assign t z (value.Call c))) (sym set.0) (spelt-set t c vs.0 set.1)
  spelt-act (act.Up t) v next =
      let p = spelt-up scope own t v in
      record { form = refl; ok = p.ok; again = λ spots. ap (λ z. z ∷ []) (p.again spots); clean = λ spots. p.clean spots }
  spelt-act (act.Down t) v next =
      let p = spelt-down scope own t v in
      record { form = refl; ok = p.ok; again = λ spots. ap (λ z. z ∷ []) (p.again spots); clean = λ spots. p.clean spots }
  spelt-act (act.Call c) v next =
      let cs = spelt-call names known file facts scope locals scope own c v in
      record { form = refl; ok = cs.ok; again = λ spots. ap (λ z. act.Call z ∷ []) (cs.again spots); clean = λ spots. cs.clean spots }
  spelt-act (act.Create t id e) v next =
      let a = and_parts (valid.is_thread_target file scope t && valid.is_thread_function (function_here file scope id)) (is_valid_expr file scope e) v in
      let b = and_parts (valid.is_thread_target file scope t) (valid.is_thread_function (function_here file scope id)) a.0 in
      spelt-create t id e b.0 b.1 a.1
  spelt-act (act.Join t) v next =
      let ts = thread-target names known file facts scope locals scope own t v in
      record {
        form = refl;
        ok = ok-append (target_items names t) _ ts.ok refl;
        again = λ spots. ap (λ z. act.Join z ∷ []) (ts.again (later (later spots)));
        clean = λ spots. ts.clean (later (later spots));
      }
  spelt-act (act.Lock x) v next =
      let u = mutex-use x v in
      record {
        form = refl;
        ok = both _ _ (declared-name (name_at names.globals x.number) u.declared) refl;
        again = λ spots. ap (λ z. act.Lock (record { number = n.global_number z }) ∷ []) u.stands;
        clean = λ spots. mutex-clean x (later (later (later spots))) v;
      }
  spelt-act (act.Unlock x) v next =
      let u = mutex-use x v in
      record {
        form = refl;
        ok = both _ _ (declared-name (name_at names.globals x.number) u.declared) refl;
        again = λ spots. ap (λ z. act.Unlock (record { number = n.global_number z }) ∷ []) u.stands;
        clean = λ spots. mutex-clean x (later (later (later spots))) v;
      }
  spelt-act (act.Print text args) v next =
      let a = and_parts (is_string text && is_count (length args) (directives text)) (list_all (is_valid_expr file scope) args) v in
      let b = and_parts (is_string text) (is_count (length args) (directives text)) a.0 in
      let r = spelt-more names known file facts scope locals scope own args a.1 in
      record {
        form = refl;
        ok = both _ _ b.0 (ok-append (more_items names args) (Is (IsSign s.CloseParen) ∷ []) r.ok refl);
        again = λ spots. ap (λ z. act.Print text z ∷ []) (r.again (later (later (later spots))));
        clean = λ spots.
            let start = later (later (later spots)) in
            let given = length (more_tree names args start) in
            let p = print-clean text (length args) given (here spots) (here (later (later spots))) b.1 (more-length names known file facts scope locals scope own args start) in
            limits-append (printf_faults given text (here spots)) _ p.0
            (limits-append (fault_if (has_other text) (here (later (later spots))) WrongUse) _ p.1 (r.clean start));
      }
  spelt-act (act.Scan t) v next =
      let ts = int-target names known file facts scope locals scope own t v in
      record {
        form = refl;
        ok = ok-append (target_items names t) _ ts.ok refl;
        again = λ spots. ap (λ z. act.Scan z ∷ []) (ts.again (later (later (later (later (later spots))))));
        clean = λ spots. ts.clean (later (later (later (later (later spots)))));
      }
  spelt-act (act.Wait c x) v next =
      let vs = and_parts (is_cond (kind_here file scope (var.Global c))) (is_mutex (kind_here file scope (var.Global x))) v in
      let uc = cond-use c vs.0 in
      let ux = mutex-use x vs.1 in
      record {
        form = refl;
        ok = both _ _ (declared-name (name_at names.globals c.number) uc.declared) (both _ _ (declared-name (name_at names.globals x.number) ux.declared) refl);
        again = λ spots.
            ap (λ z. act.Wait (record { number = n.global_number z }) (record { number = n.global_number (n.use_of known scope (name_at names.globals x.number)) }) ∷ []) uc.stands
            ∙ ap (λ z. act.Wait c (record { number = n.global_number z }) ∷ []) ux.stands;
        clean = λ spots.
            limits-append (cond_variable_faults known scope (ident_at (name_at names.globals c.number) (later (later (later spots))))) _ (condition-clean c (later (later (later spots))) vs.0)
            (mutex-clean x (later (later (later (later (later (later spots)))))) vs.1);
      }
  spelt-act (act.Signal c) v next =
      let u = cond-use c v in
      record {
        form = refl;
        ok = both _ _ (declared-name (name_at names.globals c.number) u.declared) refl;
        again = λ spots. ap (λ z. act.Signal (record { number = n.global_number z }) ∷ []) u.stands;
        clean = λ spots. condition-clean c (later (later (later spots))) v;
      }
  spelt-act (act.Broadcast c) v next =
      let u = cond-use c v in
      record {
        form = refl;
        ok = both _ _ (declared-name (name_at names.globals c.number) u.declared) refl;
        again = λ spots. ap (λ z. act.Broadcast (record { number = n.global_number z }) ∷ []) u.stands;
        clean = λ spots. condition-clean c (later (later (later spots))) v;
      }
