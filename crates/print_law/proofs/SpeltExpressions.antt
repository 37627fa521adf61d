-- Expressions, variables and calls that keep the rules are spelled again by their trees.
use Rattle.std.proofs.Common.{◌≡◌, ℕ, suc, ◌+◌, ◌==◌, nat_lt, Bool, true, false, not, ◌&&◌, ◌||◌, List, [], ◌∷◌, ◌++◌, map, length, Option, Some, None, option_map, refl, ap, sym, ◌∙◌, subst, true≢false}
use Rattle.std.proofs.lemmas.Bool.{and_parts, not-true}
use Rattle.std.specs.List.{list_all}
use Rattle.cfix_base.specs.declared.spot.Spot.{Spot}
use Rattle.c_prog.specs.declared.act.CallForm.{CallForm}
use Rattle.c_prog.specs.declared.act.Value.{Value}
use Rattle.c_prog.specs.declared.act.Value.TheVariants as value
use Rattle.c_prog.specs.declared.expr.BinOp.{BinOp}
use Rattle.c_prog.specs.declared.expr.BinOp.TheVariants as op
use Rattle.c_prog.specs.declared.expr.Expr as source
use Rattle.c_prog.specs.declared.expr.Expr.TheVariants as expr
use Rattle.c_prog.specs.declared.expr.Target.{Target}
use Rattle.c_prog.specs.declared.expr.Var.{Var}
use Rattle.c_prog.specs.declared.expr.Var.TheVariants as var
use Rattle.c_prog.specs.declared.function.FnKind.{FnKind}
use Rattle.c_prog.specs.declared.function.FnKind.TheVariants as fn_kind
use Rattle.c_prog.specs.Valid.Scope.{VarKind, int, int_array, thread, thread_array, argument, Scope, visible, local_named}
use Rattle.c_prog.specs.Valid.Kinds.{Signature, File, kind_here, function_here}
use Rattle.c_prog.specs.Valid.Expressions as valid
use Rattle.c_prog.specs.Valid.Expressions.{is_valid_expr, is_int_use, is_thread_use, is_argument, is_callable, is_main_name, is_thread_kind, has_value, is_int_kind, is_void_kind}
use Rattle.c_prog.specs.Valid.Acts.{is_declared_name}
use Rattle.c_prog.proofs.ValidEquations.{valid-Number, valid-Read, valid-Cast, valid-Neg, valid-Not, valid-Binary, use-is}
use Rattle.c_grammar.specs.Expr as g
use Rattle.c_grammar.specs.Simple as m
use Rattle.c_grammar.specs.declared.sign.Sign.TheVariants as g_sign
use Rattle.c_grammar.specs.Token.{Ident, IsSign}
use Rattle.cfix_base.specs.declared.limits.TheConstants.{MAX_ARGUMENTS}
use Rattle.c_names.specs.declared.fault.Fault.{Fault}
use Rattle.c_names.specs.declared.fault.FaultKind.TheVariants.{Arity, RootCalled}
use Rattle.c_names.specs.Faults.{fault_if}
use Rattle.c_print.specs.Text.Names.{Names, name_at, var_name}
use Rattle.c_print.specs.Text.Expressions.{binding}
use Rattle.c_names.specs.Uses as n
use Rattle.c_names.specs.Names.{reserved_faults, use_faults}
use Rattle.c_names.specs.Expressions.{is_read, is_element, is_cast, expr_faults, exprs_faults, index_faults, indexed, args_list, is_root_name, callee_faults, count_faults, call_faults, is_void_use, valued_faults, value_faults}
use Rattle.c_names.specs.SpelledExpressions as spelled
use Rattle.c_names.specs.SpelledExpressions.{expr_of, exprs_of, target_of, call_of, value_of}
use Rattle.print_law.proofs.Plain.{Expr, Number, Variable, Element, Cast, Neg, Not, Binary, up, plain, plain-up}
use Rattle.print_law.proofs.Items.{Item, Gap, Is, here, later, after}
use Rattle.print_law.proofs.Expressions.{operator, binds, wrap, wrap_tree, binary_items, binary_tree, expr_items, expr_tree, ident_at}
use Rattle.print_law.proofs.Apart.{both}
use Rattle.print_law.proofs.Calls.{items_of, tree_of, target_items, target_tree, more_items, args_items, more_tree, args_tree, call_items, call_tree, value_items, value_tree}
use Rattle.print_law.proofs.Lexing.{kind_ok, items_ok}
use Rattle.print_law.proofs.Meanings.{FileFacts, AllKnown, VarUse, use_for, var-use, function-use, declared-name, limits, limits-append, limit-if, no-fault, no-reserved}

-- items that can stand in a text

pub ok-append : (xs ys : List Item) → items_ok xs ≡ true → items_ok ys ≡ true → items_ok (xs ++ ys) ≡ true
ok-append [] ys p q = q
ok-append (Gap ∷ xs) ys p q = ok-append xs ys p q
ok-append (Is k ∷ xs) ys p q = let ps = and_parts (kind_ok k) (items_ok xs) p in both _ _ ps.0 (ok-append xs ys ps.1 q)

-- kinds by what they are used for

int-scalar : (o : Option VarKind) → is_int_use o None ≡ true → o ≡ Some int
int-scalar (Some int) e = refl
int-scalar None e = absurd (true≢false (sym e))
int-scalar (Some _) e = absurd (true≢false (sym e))

int-element : (o : Option VarKind) (b : Bool) → is_int_use o (Some b) ≡ true → (o ≡ Some int_array) × (b ≡ true)
int-element (Some int_array) b e = (refl, e)
int-element None b e = absurd (true≢false (sym e))
int-element (Some _) b e = absurd (true≢false (sym e))

thread-scalar : (o : Option VarKind) → is_thread_use o None ≡ true → o ≡ Some thread
thread-scalar (Some thread) e = refl
thread-scalar None e = absurd (true≢false (sym e))
thread-scalar (Some _) e = absurd (true≢false (sym e))

thread-element : (o : Option VarKind) (b : Bool) → is_thread_use o (Some b) ≡ true → (o ≡ Some thread_array) × (b ≡ true)
thread-element (Some thread_array) b e = (refl, e)
thread-element None b e = absurd (true≢false (sym e))
thread-element (Some _) b e = absurd (true≢false (sym e))

argument-kind : (o : Option VarKind) → is_argument o ≡ true → o ≡ Some argument
argument-kind (Some argument) e = refl
argument-kind None e = absurd (true≢false (sym e))
argument-kind (Some _) e = absurd (true≢false (sym e))

-- what a use for a variable is

var-for : (v : Var) (kind : VarKind) → n.var_of (use_for v kind) ≡ v
var-for (var.Local number) kind = refl
var-for (var.Global id) kind = refl

kind-for : (v : Var) (kind : VarKind) → n.kind_of (use_for v kind) ≡ Some kind
kind-for (var.Local number) kind = refl
kind-for (var.Global id) kind = refl

read-for : (v : Var) (kind : VarKind) → spelled.read_of (use_for v kind) ≡ expr.Read (record { var = v; index = None })
read-for (var.Local number) kind = refl
read-for (var.Global id) kind = refl

fits-for : (v : Var) (kind : VarKind) (fits : Bool) (spot : Spot) → fits ≡ true → limits (use_faults fits (use_for v kind) spot) ≡ true
fits-for (var.Local number) kind fits spot e = no-fault (not fits) spot _ (ap not e)
fits-for (var.Global id) kind fits spot e = no-fault (not fits) spot _ (ap not e)

-- a name that is used as what it stands for, and what follows it
pub name-then : (x : Ident) (found : n.Use) (v : Var) (kind : VarKind) (fits : n.Use → Bool) (rest : List Fault) → is_declared_name x.text ≡ true → found ≡ use_for v kind
    → fits (use_for v kind) ≡ true → limits rest ≡ true → limits (reserved_faults x ++ (use_faults (fits found) found x.spot ++ rest)) ≡ true
name-then x found v kind fits rest d e f r =
    limits-append (reserved_faults x) (use_faults (fits found) found x.spot ++ rest) (no-reserved x d)
    (limits-append (use_faults (fits found) found x.spot) rest (ap (λ z. limits (use_faults (fits z) z x.spot)) e ∙ fits-for v kind (fits (use_for v kind)) x.spot f) r)

pub name-alone : (x : Ident) (found : n.Use) (v : Var) (kind : VarKind) (fits : n.Use → Bool) → is_declared_name x.text ≡ true → found ≡ use_for v kind
    → fits (use_for v kind) ≡ true → limits (reserved_faults x ++ use_faults (fits found) found x.spot) ≡ true
name-alone x found v kind fits d e f =
    limits-append (reserved_faults x) (use_faults (fits found) found x.spot) (no-reserved x d)
    (ap (λ z. limits (use_faults (fits z) z x.spot)) e ∙ fits-for v kind (fits (use_for v kind)) x.spot f)

read-fits : (v : Var) → is_read (use_for v int) ≡ true
read-fits (var.Local number) = refl
read-fits (var.Global id) = refl

element-fits : (v : Var) → is_element (use_for v int_array) ≡ true
element-fits (var.Local number) = refl
element-fits (var.Global id) = refl

kind-fits : (test : Option VarKind → Bool) (v : Var) (kind : VarKind) → test (Some kind) ≡ true → test (n.kind_of (use_for v kind)) ≡ true
kind-fits test v kind e = ap test (kind-for v kind) ∙ e

op-is : (o : BinOp) → spelled.op_of (operator o) ≡ o
op-is op.Add = refl
op-is op.Sub = refl
op-is op.Mul = refl
op-is op.Div = refl
op-is op.Rem = refl
op-is op.Lt = refl
op-is op.Le = refl
op-is op.Gt = refl
op-is op.Ge = refl
op-is op.Eq = refl
op-is op.Ne = refl
op-is op.And = refl
op-is op.Or = refl

module _ (names : Names) (known : n.Names) (file : File) (facts : FileFacts names known file) (scope : Scope) (locals : AllKnown names (visible scope))
    (inner : Scope) (same : (text : List ℕ) → local_named text inner ≡ local_named text scope) where
  used : (v : Var) (kind : VarKind) → kind_here file scope v ≡ Some kind → VarUse names known inner v kind
  used v kind e = var-use names known file facts scope locals inner same v kind e

  -- an expression: its tokens can stand, and its tree spells it again without a fault
  pub record Spelt (items : List Item) (tree : List Spot → g.Expr) (e : source.Expr) : Type 0 where
    pub ok : items_ok items ≡ true
    pub again : (spots : List Spot) → expr_of known inner (tree spots) ≡ e
    pub clean : (spots : List Spot) → limits (expr_faults known inner (tree spots)) ≡ true

  spelt-wrap : (test : Bool) (items : List Item) (tree : List Spot → g.Expr) (e : source.Expr) → Spelt items tree e → Spelt (wrap test items) (wrap_tree test items tree) e
  spelt-wrap true items tree e s = record {
    ok = ok-append items (Is (IsSign g_sign.CloseParen) ∷ []) s.ok refl;
    again = λ spots. s.again (later spots);
    clean = λ spots. s.clean (later spots);
  }
  spelt-wrap false items tree e s = s

  spelt-binary : (o : BinOp) (left right : List Item) (left_tree right_tree : List Spot → g.Expr) (l r : source.Expr) → Spelt left left_tree l → Spelt right right_tree r
      → Spelt (binary_items o left right) (binary_tree o left left_tree right_tree) (expr.Binary o l r)
  spelt-binary o left right left_tree right_tree l r p q = record {
    ok = ok-append left (Gap ∷ Is (IsSign (g.binary_sign (operator o))) ∷ Gap ∷ right) p.ok q.ok;
    again = λ spots.
        let behind = later (after spots left) in
        ap (λ z. expr.Binary z (expr_of known inner (left_tree spots)) (expr_of known inner (right_tree behind))) (op-is o)
        ∙ ap (λ z. expr.Binary o z (expr_of known inner (right_tree behind))) (p.again spots) ∙ ap (λ z. expr.Binary o l z) (q.again behind);
    clean = λ spots.
        limits-append (expr_faults known inner (left_tree spots)) (expr_faults known inner (right_tree (later (after spots left)))) (p.clean spots) (q.clean (later (after spots left)));
  }

  pub spelt-expr : (e : Expr) → is_valid_expr file scope (up e) ≡ true → Spelt (expr_items names e) (expr_tree names e) (up e)
  spelt-expr (Number z) h =
      record { ok = both _ _ (sym (valid-Number file scope z) ∙ h) refl; again = λ spots. refl; clean = λ spots. refl }
  spelt-expr (Variable v) h =
      let t : Target = record { var = v; index = None } in
      let fits : is_int_use (kind_here file scope v) None ≡ true =
      ap (λ (z : valid.Use). is_int_use z.kind z.index) (sym (use-is file scope t)) ∙ sym (valid-Read file scope t) ∙ h in
      let u = used v int (int-scalar (kind_here file scope v) fits) in
      record {
        ok = both _ _ (declared-name (var_name names v) u.declared) refl;
        again = λ spots. ap spelled.read_of u.stands ∙ read-for v int;
        clean = λ spots. name-alone (ident_at (var_name names v) spots) (n.use_of known inner (var_name names v)) v int is_read u.declared u.stands (read-fits v);
      }
  spelt-expr (Element v e) h =
      let t : Target = record { var = v; index = Some (up e) } in
      let fits : is_int_use (kind_here file scope v) (Some (is_valid_expr file scope (up e))) ≡ true =
      ap (λ (z : valid.Use). is_int_use z.kind z.index) (sym (use-is file scope t)) ∙ sym (valid-Read file scope t) ∙ h in
      let k = int-element (kind_here file scope v) (is_valid_expr file scope (up e)) fits in
      let u = used v int_array k.0 in
      let s = spelt-expr e k.1 in
      record {
        ok = both _ _ (declared-name (var_name names v) u.declared) (ok-append (expr_items names e) (Is (IsSign g_sign.CloseBracket) ∷ []) s.ok refl);
        again = λ spots.
            ap (λ z. expr.Read (record { var = z; index = Some (expr_of known inner (expr_tree names e (later (later spots)))) })) (ap n.var_of u.stands ∙ var-for v int_array)
            ∙ ap (λ (z : source.Expr). expr.Read (record { var = v; index = Some z })) (s.again (later (later spots)));
        clean = λ spots.
            name-then (ident_at (var_name names v) spots) (n.use_of known inner (var_name names v)) v int_array is_element (expr_faults known inner (expr_tree names e (later (later spots))))
            u.declared u.stands (element-fits v) (s.clean (later (later spots)));
      }
  spelt-expr (Cast number) h =
      let fits : is_argument (kind_here file scope (var.Local number)) ≡ true = sym (valid-Cast file scope number) ∙ h in
      let u = used (var.Local number) argument (argument-kind (kind_here file scope (var.Local number)) fits) in
      let name = name_at names.locals number in
      record {
        ok = both _ _ (declared-name name u.declared) refl;
        again = λ spots. ap (λ z. expr.Cast (n.local_number z)) u.stands;
        clean = λ spots.
            name-alone (ident_at name (later (later (later (later (later (later spots))))))) (n.use_of known inner name) (var.Local number) argument is_cast u.declared u.stands refl;
      }
  spelt-expr (Neg e) h =
      let s = spelt-wrap (nat_lt (binds e) 8) (expr_items names e) (expr_tree names e) (up e) (spelt-expr e (sym (valid-Neg file scope (up e)) ∙ h)) in
      record { ok = s.ok; again = λ spots. ap expr.Neg (s.again (later spots)); clean = λ spots. s.clean (later spots) }
  spelt-expr (Not e) h =
      let s = spelt-wrap (nat_lt (binds e) 7) (expr_items names e) (expr_tree names e) (up e) (spelt-expr e (sym (valid-Not file scope (up e)) ∙ h)) in
      record { ok = s.ok; again = λ spots. ap expr.Not (s.again (later spots)); clean = λ spots. s.clean (later spots) }
  spelt-expr (Binary o l r) h =
      let hs = and_parts (is_valid_expr file scope (up l)) (is_valid_expr file scope (up r)) (sym (valid-Binary file scope o (up l) (up r)) ∙ h) in
      spelt-binary o (wrap (nat_lt (binds l) (binding o)) (expr_items names l)) (wrap (nat_lt (binds r) (binding o + 1)) (expr_items names r))
      (wrap_tree (nat_lt (binds l) (binding o)) (expr_items names l) (expr_tree names l)) (wrap_tree (nat_lt (binds r) (binding o + 1)) (expr_items names r) (expr_tree names r)) (up l) (up r)
      (spelt-wrap (nat_lt (binds l) (binding o)) (expr_items names l) (expr_tree names l) (up l) (spelt-expr l hs.0))
      (spelt-wrap (nat_lt (binds r) (binding o + 1)) (expr_items names r) (expr_tree names r) (up r) (spelt-expr r hs.1))

  pub spelt-of : (e : source.Expr) → is_valid_expr file scope e ≡ true → Spelt (items_of names e) (tree_of names e) e
  spelt-of e h = subst (Spelt (items_of names e) (tree_of names e)) (plain-up e) (spelt-expr (plain e) (ap (is_valid_expr file scope) (plain-up e) ∙ h))

  pub spelt-operand : (least : ℕ) (e : source.Expr) → is_valid_expr file scope e ≡ true
      → Spelt (wrap (nat_lt (binds (plain e)) least) (items_of names e)) (wrap_tree (nat_lt (binds (plain e)) least) (items_of names e) (tree_of names e)) e
  spelt-operand least e h = spelt-wrap (nat_lt (binds (plain e)) least) (items_of names e) (tree_of names e) e (spelt-of e h)

  -- targets, whose kind a test looks at

  abbrev Test : Type 0
  Test = Option VarKind → Option Bool → Bool

  abbrev pub target_faults : Test → m.Target → List Fault
  target_faults test (m.TargetOf x index) =
      reserved_faults x ++ (use_faults (test (n.kind_of (n.use_of known inner x.text)) (indexed index)) (n.use_of known inner x.text) x.spot ++ index_faults known inner index)

  pub record SpeltTarget (test : Test) (t : Target) : Type 0 where
    pub ok : items_ok (target_items names t) ≡ true
    pub again : (spots : List Spot) → target_of known inner (target_tree names t spots) ≡ t
    pub clean : (spots : List Spot) → limits (target_faults test (target_tree names t spots)) ≡ true

  -- a test that takes this kind without an index, or with one
  scalar-target : (test : Test) (v : Var) (kind : VarKind) → kind_here file scope v ≡ Some kind → test (Some kind) None ≡ true → SpeltTarget test (record { var = v; index = None })
  scalar-target test v kind k t =
      let u = used v kind k in
      record {
        ok = both _ _ (declared-name (var_name names v) u.declared) refl;
        again = λ spots. ap (λ z. record { var = n.var_of z; index = None }) u.stands ∙ ap (λ z. record { var = z; index = None }) (var-for v kind);
        clean = λ spots.
            name-then (ident_at (var_name names v) spots) (n.use_of known inner (var_name names v)) v kind (λ found. test (n.kind_of found) None) [] u.declared u.stands
            (kind-fits (λ z. test z None) v kind t) refl;
      }

  element-target : (test : Test) (v : Var) (e : source.Expr) (kind : VarKind) → kind_here file scope v ≡ Some kind → test (Some kind) (Some true) ≡ true → is_valid_expr file scope e ≡ true
      → SpeltTarget test (record { var = v; index = Some e })
  element-target test v e kind k t h =
      let u = used v kind k in
      let s = spelt-of e h in
      record {
        ok = both _ _ (declared-name (var_name names v) u.declared) (ok-append (items_of names e) (Is (IsSign g_sign.CloseBracket) ∷ []) s.ok refl);
        again = λ spots.
            ap (λ z. record { var = n.var_of z; index = Some (expr_of known inner (tree_of names e (later (later spots)))) }) u.stands
            ∙ ap (λ z. record { var = z; index = Some (expr_of known inner (tree_of names e (later (later spots)))) }) (var-for v kind)
            ∙ ap (λ (z : source.Expr). record { var = v; index = Some z }) (s.again (later (later spots)));
        clean = λ spots.
            name-then (ident_at (var_name names v) spots) (n.use_of known inner (var_name names v)) v kind (λ found. test (n.kind_of found) (Some true))
            (expr_faults known inner (tree_of names e (later (later spots)))) u.declared u.stands (kind-fits (λ z. test z (Some true)) v kind t) (s.clean (later (later spots)));
      }

  int-target-by : (v : Var) (i : Option source.Expr) → is_int_use (kind_here file scope v) (option_map (is_valid_expr file scope) i) ≡ true → SpeltTarget is_int_use (record { var = v; index = i })
  int-target-by v None h = scalar-target is_int_use v int (int-scalar (kind_here file scope v) h) refl
  int-target-by v (Some e) h = let k = int-element (kind_here file scope v) (is_valid_expr file scope e) h in element-target is_int_use v e int_array k.0 refl k.1

  pub int-target : (t : Target) → valid.is_int_target file scope t ≡ true → SpeltTarget is_int_use t
  int-target t h = int-target-by t.var t.index (ap (λ (z : valid.Use). is_int_use z.kind z.index) (sym (use-is file scope t)) ∙ h)

  thread-target-by : (v : Var) (i : Option source.Expr) → is_thread_use (kind_here file scope v) (option_map (is_valid_expr file scope) i) ≡ true → SpeltTarget is_thread_use (record { var = v; index = i })
  thread-target-by v None h = scalar-target is_thread_use v thread (thread-scalar (kind_here file scope v) h) refl
  thread-target-by v (Some e) h = let k = thread-element (kind_here file scope v) (is_valid_expr file scope e) h in element-target is_thread_use v e thread_array k.0 refl k.1

  pub thread-target : (t : Target) → valid.is_thread_target file scope t ≡ true → SpeltTarget is_thread_use t
  thread-target t h = thread-target-by t.var t.index (ap (λ (z : valid.Use). is_thread_use z.kind z.index) (sym (use-is file scope t)) ∙ h)

  -- arguments

  pub record SpeltMore (more : List source.Expr) : Type 0 where
    pub ok : items_ok (more_items names more) ≡ true
    pub again : (spots : List Spot) → exprs_of known inner (map (λ y. y.1) (more_tree names more spots)) ≡ more
    pub clean : (spots : List Spot) → limits (exprs_faults known inner (map (λ y. y.1) (more_tree names more spots))) ≡ true

  pub spelt-more : (more : List source.Expr) → list_all (is_valid_expr file scope) more ≡ true → SpeltMore more
  spelt-more [] h = record { ok = refl; again = λ spots. refl; clean = λ spots. refl }
  spelt-more (e ∷ more) h =
      let hs = and_parts (is_valid_expr file scope e) (list_all (is_valid_expr file scope) more) h in
      let s = spelt-of e hs.0 in
      let r = spelt-more more hs.1 in
      record {
        ok = ok-append (items_of names e) (more_items names more) s.ok r.ok;
        again = λ spots.
            let behind = after (later spots) (items_of names e) in
            ap (λ z. z ∷ exprs_of known inner (map (λ y. y.1) (more_tree names more behind))) (s.again (later spots)) ∙ ap (λ z. e ∷ z) (r.again behind);
        clean = λ spots. limits-append (expr_faults known inner (tree_of names e (later spots))) _ (s.clean (later spots)) (r.clean (after (later spots) (items_of names e)));
      }

  pub more-length : (more : List source.Expr) (spots : List Spot) → length (more_tree names more spots) ≡ length more
  more-length [] spots = refl
  more-length (e ∷ more) spots = ap suc (more-length more (after (later spots) (items_of names e)))

  map-length : {A B : Type 0} (f : A → B) (xs : List A) → length (map f xs) ≡ length xs
  map-length f [] = refl
  map-length f (x ∷ xs) = ap suc (map-length f xs)

  record SpeltArgs (args : List source.Expr) : Type 0 where
    ok : items_ok (args_items names args) ≡ true
    again : (spots : List Spot) → exprs_of known inner (args_list (args_tree names args spots)) ≡ args
    clean : (spots : List Spot) → limits (exprs_faults known inner (args_list (args_tree names args spots))) ≡ true
    count : (spots : List Spot) → length (args_list (args_tree names args spots)) ≡ length args

  spelt-args : (args : List source.Expr) → list_all (is_valid_expr file scope) args ≡ true → SpeltArgs args
  spelt-args [] h = record { ok = refl; again = λ spots. refl; clean = λ spots. refl; count = λ spots. refl }
  spelt-args (e ∷ more) h =
      let hs = and_parts (is_valid_expr file scope e) (list_all (is_valid_expr file scope) more) h in
      let s = spelt-of e hs.0 in
      let r = spelt-more more hs.1 in
      record {
        ok = ok-append (items_of names e) (more_items names more) s.ok r.ok;
        again = λ spots.
            let behind = after spots (items_of names e) in
            ap (λ z. z ∷ exprs_of known inner (map (λ y. y.1) (more_tree names more behind))) (s.again spots) ∙ ap (λ z. e ∷ z) (r.again behind);
        clean = λ spots. limits-append (expr_faults known inner (tree_of names e spots)) _ (s.clean spots) (r.clean (after spots (items_of names e)));
        count = λ spots.
            let behind = after spots (items_of names e) in
            ap suc (map-length (λ y. y.1) (more_tree names more behind) ∙ more-length more behind);
      }

  -- calls

  pub record SpeltCall (call : CallForm) : Type 0 where
    pub ok : items_ok (call_items names call) ≡ true
    pub again : (spots : List Spot) → call_of known inner (call_tree names call spots) ≡ call
    pub clean : (spots : List Spot) → limits (call_faults known inner (call_tree names call spots)) ≡ true

  callable-by : (count : ℕ) (o : Option Signature) → is_callable count o ≡ true
      → (f : Signature) × (o ≡ Some f) × (is_main_name f.name ≡ false) × (is_thread_kind f.kind ≡ false) × ((f.params == count) ≡ true)
  callable-by count None h = absurd (true≢false (sym h))
  callable-by count (Some f) h =
      let a = and_parts (not (is_main_name f.name) && not (is_thread_kind f.kind)) (f.params == count) h in
      let b = and_parts (not (is_main_name f.name)) (not (is_thread_kind f.kind)) a.0 in
      (f, refl, not-true _ b.0, not-true _ b.1, a.1)

  root-no : (x : Ident) (f : Signature) → x.text ≡ f.name → is_main_name f.name ≡ false → is_thread_kind f.kind ≡ false → is_root_name x f.kind ≡ false
  root-no x f e a b = ap (λ z. is_main_name z || is_thread_kind f.kind) e ∙ ap (λ z. z || is_thread_kind f.kind) a ∙ b

  callee-clean : (x : Ident) (number : ℕ) (f : Signature) (count : ℕ) → is_root_name x f.kind ≡ false → (f.params == count) ≡ true
      → limits (callee_faults (n.IsFunction number f.kind f.params) x count) ≡ true
  callee-clean x number f count root same_count =
      let wrong = not (is_root_name x f.kind) && not (f.params == count) in
      limits-append (fault_if (is_root_name x f.kind) x.spot RootCalled) (fault_if wrong x.spot Arity) (no-fault (is_root_name x f.kind) x.spot RootCalled root)
      (no-fault wrong x.spot Arity (ap (λ z. not z && not (f.params == count)) root ∙ ap not same_count))

  pub spelt-call : (call : CallForm) → valid.is_valid_call file scope call ≡ true → SpeltCall call
  spelt-call call h =
      let hs = and_parts (is_callable (length call.args) (function_here file scope call.of)) (list_all (is_valid_expr file scope) call.args) h in
      let f = callable-by (length call.args) (function_here file scope call.of) hs.0 in
      let u = function-use names known file facts scope locals inner same call.of f.0 f.1 in
      let a = spelt-args call.args hs.1 in
      let name = name_at names.functions call.of.number in
      record {
        ok = both _ _ (declared-name name u.1) (ok-append (args_items names call.args) (Is (IsSign g_sign.CloseParen) ∷ []) a.ok refl);
        again = λ spots.
            ap (λ z. record { of = record { number = n.function_number z }; args = exprs_of known inner (args_list (args_tree names call.args (later (later spots)))) }) u.2
            ∙ ap (λ z. record { of = call.of; args = z }) (a.again (later (later spots)));
        clean = λ spots.
            let x = ident_at name spots in
            let list = args_list (args_tree names call.args (later (later spots))) in
            limits-append (reserved_faults x) _ (no-reserved x u.1)
            (limits-append (callee_faults (n.use_of known inner name) x (length list)) _
            (ap (λ z. limits (callee_faults z x (length list))) u.2
            ∙ ap (λ z. limits (callee_faults (n.IsFunction call.of.number f.0.kind f.0.params) x z)) (a.count (later (later spots)))
            ∙ callee-clean x call.of.number f.0 (length call.args) (root-no x f.0 u.0 f.2 f.3) f.4)
            (limits-append (count_faults (length list) x) _ (limit-if (nat_lt MAX_ARGUMENTS (length list)) x.spot) (a.clean (later (later spots)))));
      }

  -- values

  pub record SpeltValue (v : Value) : Type 0 where
    pub ok : items_ok (value_items names v) ≡ true
    pub again : (spots : List Spot) → value_of known inner (value_tree names v spots) ≡ v
    pub clean : (spots : List Spot) → limits (value_faults known inner (value_tree names v spots)) ≡ true

  void-no : (kind : FnKind) → is_int_kind kind ≡ true → is_void_kind kind ≡ false
  void-no fn_kind.Int h = refl
  void-no fn_kind.Void h = absurd (true≢false (sym h))
  void-no fn_kind.Thread h = absurd (true≢false (sym h))

  value-by : (o : Option Signature) → has_value o ≡ true → (f : Signature) × (o ≡ Some f) × (is_int_kind f.kind ≡ true)
  value-by None h = absurd (true≢false (sym h))
  value-by (Some f) h = (f, refl, h)

  -- the called function has a value
  pub valued-clean : (call : CallForm) → has_value (function_here file scope call.of) ≡ true → (spots : List Spot) → limits (valued_faults known inner (call_tree names call spots)) ≡ true
  valued-clean call h spots =
      let f = value-by (function_here file scope call.of) h in
      let u = function-use names known file facts scope locals inner same call.of f.0 f.1 in
      no-fault (is_void_use (n.use_of known inner (name_at names.functions call.of.number))) (here spots) _ (ap is_void_use u.2 ∙ void-no f.0.kind f.2)

  pub spelt-value : (v : Value) → valid.is_valid_value file scope v ≡ true → SpeltValue v
  spelt-value (value.Expr e) h =
      let s = spelt-of e h in
      record { ok = s.ok; again = λ spots. ap value.Expr (s.again spots); clean = λ spots. s.clean spots }
  spelt-value (value.Call c) h =
      let hs = and_parts (valid.is_valid_call file scope c) (has_value (function_here file scope c.of)) h in
      let s = spelt-call c hs.0 in
      record {
        ok = s.ok;
        again = λ spots. ap value.Call (s.again spots);
        clean = λ spots. limits-append (call_faults known inner (call_tree names c spots)) _ (s.clean spots) (valued-clean c hs.1 spots);
      }
