-- Expressions, targets and calls without faults spell valid ones.
use Rattle.std.proofs.Common.{◌≡◌, ℕ, suc, ◌==◌, Bool, true, false, not, ◌&&◌, ◌||◌, List, [], ◌∷◌, ◌++◌, map, length, Option, Some, None, option_map, refl, ap, sym, ◌∙◌, true≢false}
use Rattle.std.proofs.lemmas.Bool.{and_parts, and_from, not-false, or_parts}
use Rattle.std.proofs.lemmas.List.{length-map}
use Rattle.std.specs.List.{list_all}
use Rattle.cfix_base.specs.declared.Spot.{Spot}
use Rattle.c_grammar.specs.declared.sign.Sign.TheVariants as s
use Rattle.c_grammar.specs.Marks.{maybe}
use Rattle.c_grammar.specs.Token.{Ident, sign}
use Rattle.c_grammar.specs.Expr as g
use Rattle.c_grammar.specs.Expr.{pieces, placed, expr_marks, plain}
use Rattle.c_grammar.specs.Simple as m
use Rattle.c_grammar.specs.Simple.{place_marks, target_marks, more_exprs_marks, args_marks, call_marks, value_marks}
use Rattle.c_prog.specs.declared.expr.Expr.{Expr}
use Rattle.c_prog.specs.declared.expr.Expr.TheVariants as expr
use Rattle.c_prog.specs.declared.expr.Var.{Var}
use Rattle.c_prog.specs.declared.expr.Var.TheVariants as var
use Rattle.c_prog.specs.declared.function.FnKind.{FnKind}
use Rattle.c_prog.specs.declared.function.FnKind.TheVariants as fn_kind
use Rattle.c_prog.specs.Valid.Scope.{VarKind, Scope}
use Rattle.c_prog.specs.Valid.Kinds.{File, kind_here, function_here}
use Rattle.c_prog.specs.Valid.Expressions as valid
use Rattle.c_prog.specs.Valid.Expressions.{is_int_use, is_thread_use, is_argument, is_number, is_valid_expr, is_int_target, is_thread_target, is_main_name, is_thread_kind, is_int_kind, is_callable, has_value, is_valid_call, is_valid_value}
use Rattle.c_prog.proofs.ValidEquations.{valid-Number, valid-Read, valid-Cast, valid-Neg, valid-Not, valid-Binary, use-is}
use Rattle.c_names.specs.declared.fault.FaultKind.TheVariants.{Arity, WrongUse, RootCalled}
use Rattle.c_names.specs.Faults.{fault_if}
use Rattle.c_names.specs.Uses.{Names, Use, IsLocal, IsGlobal, IsFunction, IsDefined, IsUnknown, use_of, kind_of, var_of, local_number, function_number}
use Rattle.c_names.specs.Names.{reserved_faults, use_faults}
use Rattle.c_names.specs.Expressions.{is_read, is_element, is_cast, expr_faults, exprs_faults, index_faults, indexed, int_target_faults, thread_target_faults, args_list, is_root_name, callee_faults, count_faults, call_faults, is_void_use, valued_faults, value_faults}
use Rattle.c_names.specs.SpelledExpressions.{op_of, prefixed, read_of, expr_of, exprs_of, index_of, target_of, call_of, value_of}
use Rattle.valid_law.specs.Lexical.{are_lexical}
use Rattle.valid_law.proofs.Pieces.{pieces-left, pieces-right, lexical-pieces}
use Rattle.valid_law.proofs.Faultless.{none-left, none-right, no_fault}
use Rattle.valid_law.proofs.Lexical.{lexical-left, lexical-right, are_lexical_pieces}
use Rattle.valid_law.proofs.Uses.{Means}

-- a name that is used without a fault fits
pub used : (fits : Bool) (u : Use) (spot : Spot) → use_faults fits u spot ≡ [] → fits ≡ true
used fits IsUnknown spot e = absurd cc
used fits (IsLocal n k) spot e = not-false fits (no_fault (not fits) spot WrongUse e)
used fits (IsGlobal n k) spot e = not-false fits (no_fault (not fits) spot WrongUse e)
used fits (IsFunction n k p) spot e = not-false fits (no_fault (not fits) spot WrongUse e)
used fits (IsDefined v) spot e = not-false fits (no_fault (not fits) spot WrongUse e)

callable-by : (main thread same : Bool) (spot : Spot)
    → fault_if (main || thread) spot RootCalled ++ fault_if (not (main || thread) && not same) spot Arity ≡ [] → (not main && not thread && same) ≡ true
callable-by true thread same spot e = absurd cc
callable-by false true same spot e = absurd cc
callable-by false false true spot e = refl
callable-by false false false spot e = absurd cc

int-by : (kind : FnKind) → is_thread_kind kind ≡ false → valid.is_void_kind kind ≡ false → is_int_kind kind ≡ true
int-by fn_kind.Int t v = refl
int-by fn_kind.Void t v = absurd (true≢false v)
int-by fn_kind.Thread t v = absurd (true≢false t)

module _ (names : Names) (file : File) (scope inner : Scope) (means : (text : List ℕ) → Means file scope text (use_of names inner text)) where
  -- the kind of the variable that a name stands for
  pub kind-known : (text : List ℕ) (u : Use) (fits : Option VarKind → Bool) → fits None ≡ false → Means file scope text u → fits (kind_of u) ≡ true
      → fits (kind_here file scope (var_of u)) ≡ true
  kind-known text (IsLocal n k) fits none known h = ap fits known.0 ∙ h
  kind-known text (IsGlobal n k) fits none known h = ap fits known.0 ∙ h
  kind-known text (IsFunction n k p) fits none known h = absurd (true≢false (sym h ∙ none))
  kind-known text (IsDefined v) fits none known h = absurd (true≢false (sym h ∙ none))
  kind-known text IsUnknown fits none known h = absurd (true≢false (sym h ∙ none))

  -- a variable or element that is read
  read-is : (v : Var) (i : Option Expr) (index : Option Bool) → option_map (is_valid_expr file scope) i ≡ index
      → is_valid_expr file scope (expr.Read (record { var = v; index = i })) ≡ is_int_use (kind_here file scope v) index
  read-is v i index e =
      valid-Read file scope (record { var = v; index = i })
      ∙ ap (λ (u : valid.Use). is_int_use u.kind u.index) (use-is file scope (record { var = v; index = i }))
      ∙ ap (is_int_use (kind_here file scope v)) e

  read-valid : (text : List ℕ) (u : Use) → Means file scope text u → is_read u ≡ true → is_valid_expr file scope (read_of u) ≡ true
  read-valid text (IsDefined v) known h = valid-Number file scope v ∙ known
  read-valid text (IsLocal n k) known h = read-is (var.Local n) None None refl ∙ ap (λ z. is_int_use z None) known.0 ∙ h
  read-valid text (IsGlobal n k) known h = read-is (var.Global (record { number = n })) None None refl ∙ ap (λ z. is_int_use z None) known.0 ∙ h
  read-valid text (IsFunction n k p) known h = absurd (true≢false (sym h))
  read-valid text IsUnknown known h = absurd (true≢false (sym h))

  cast-valid : (text : List ℕ) (u : Use) → Means file scope text u → is_cast u ≡ true → is_valid_expr file scope (expr.Cast (local_number u)) ≡ true
  cast-valid text (IsLocal n k) known h = valid-Cast file scope n ∙ ap is_argument known.0 ∙ h
  cast-valid text (IsGlobal n k) known h = absurd (true≢false (sym h ∙ known.1))
  cast-valid text (IsFunction n k p) known h = absurd (true≢false (sym h))
  cast-valid text (IsDefined v) known h = absurd (true≢false (sym h))
  cast-valid text IsUnknown known h = absurd (true≢false (sym h))

  prefix-valid : (p : g.Prefix) (e : Expr) → is_valid_expr file scope e ≡ true → is_valid_expr file scope (prefixed p e) ≡ true
  prefix-valid g.Negate e h = valid-Neg file scope e ∙ h
  prefix-valid g.Invert e h = valid-Not file scope e ∙ h

  -- an expression
  pub expr-valid : (d : ℕ) (e : g.Expr) → are_lexical_pieces (pieces d e) ≡ true → expr_faults names inner e ≡ [] → is_valid_expr file scope (expr_of names inner e) ≡ true
  expr-valid d (g.Number n) t f = valid-Number file scope n.value ∙ (and_parts (is_number n.value) true t).0
  expr-valid d (g.Name x) t f =
      let u = use_of names inner x.text in
      read-valid x.text u (means x.text) (used (is_read u) u x.spot (none-right (reserved_faults x) (use_faults (is_read u) u x.spot) f))
  expr-valid d (g.Index x before e after) t f =
      let u = use_of names inner x.text in
      let behind = none-right (reserved_faults x) (use_faults (is_element u) u x.spot ++ expr_faults names inner e) f in
      let fits = used (is_element u) u x.spot (none-left (use_faults (is_element u) u x.spot) (expr_faults names inner e) behind) in
      let inside = pieces-left (pieces (suc d) e) (plain (sign s.CloseBracket after) (suc d) ∷ []) (and_parts _ _ t).1 in
      let index = expr-valid (suc d) e inside (none-right (use_faults (is_element u) u x.spot) (expr_faults names inner e) behind) in
      read-is (var_of u) (Some (expr_of names inner e)) (Some true) (ap Some index)
      ∙ kind-known x.text u (λ z. is_int_use z (Some true)) refl (means x.text) fits
  expr-valid d (g.Paren before e after) t f =
      expr-valid (suc d) e (pieces-left (pieces (suc d) e) (plain (sign s.CloseParen after) (suc d) ∷ []) t) f
  expr-valid d (g.Cast before word after long x) t f =
      let u = use_of names inner x.text in
      cast-valid x.text u (means x.text) (used (is_cast u) u x.spot (none-right (reserved_faults x) (use_faults (is_cast u) u x.spot) f))
  expr-valid d (g.Unary op at e) t f = prefix-valid op (expr_of names inner e) (expr-valid (suc d) e t f)
  expr-valid d (g.Operation a op at b) t f =
      let first = expr-valid d a (pieces-left (pieces d a) _ t) (none-left (expr_faults names inner a) (expr_faults names inner b) f) in
      let second = expr-valid d b (pieces-right (pieces d a) _ t) (none-right (expr_faults names inner a) (expr_faults names inner b) f) in
      valid-Binary file scope (op_of op) (expr_of names inner a) (expr_of names inner b) ∙ and_from _ _ first second

  -- a whole expression
  pub whole-valid : (d : ℕ) (e : g.Expr) → are_lexical (expr_marks d e) ≡ true → expr_faults names inner e ≡ [] → is_valid_expr file scope (expr_of names inner e) ≡ true
  whole-valid d e t f = expr-valid d e (lexical-pieces 0 (pieces d e) t) f

  -- expressions behind commas
  pub more-valid : (d : ℕ) (more : List (Spot × g.Expr)) → are_lexical (more_exprs_marks d more) ≡ true → exprs_faults names inner (map (λ y. y.1) more) ≡ []
      → list_all (is_valid_expr file scope) (exprs_of names inner (map (λ y. y.1) more)) ≡ true
  more-valid d [] t f = refl
  more-valid d (x ∷ more) t f =
      let first = whole-valid d x.1 (lexical-left (expr_marks d x.1) (more_exprs_marks d more) t) (none-left (expr_faults names inner x.1) _ f) in
      let rest = more-valid d more (lexical-right (expr_marks d x.1) (more_exprs_marks d more) t) (none-right (expr_faults names inner x.1) _ f) in
      and_from _ _ first rest

  args-valid : (d : ℕ) (args : m.Args) → are_lexical (args_marks d args) ≡ true → exprs_faults names inner (args_list args) ≡ []
      → list_all (is_valid_expr file scope) (exprs_of names inner (args_list args)) ≡ true
  args-valid d None t f = refl
  args-valid d (Some x) t f =
      let first = whole-valid d x.0 (lexical-left (expr_marks d x.0) (more_exprs_marks d x.1) t) (none-left (expr_faults names inner x.0) _ f) in
      let rest = more-valid d x.1 (lexical-right (expr_marks d x.0) (more_exprs_marks d x.1) t) (none-right (expr_faults names inner x.0) _ f) in
      and_from _ _ first rest

  -- an index, if there is one
  index-valid : (d : ℕ) (index : Option m.Place) → are_lexical (maybe [] (place_marks d) index) ≡ true → index_faults names inner index ≡ []
      → option_map (is_valid_expr file scope) (index_of names inner index) ≡ indexed index
  index-valid d None t f = refl
  index-valid d (Some i) t f = ap Some (whole-valid (suc d) i.1.0 (lexical-left (expr_marks (suc d) i.1.0) _ t) f)

  target-by : (fits : Option VarKind → Option Bool → Bool) (x : Ident) (index : Option m.Place) → fits None (indexed index) ≡ false → (d : ℕ)
      → are_lexical (maybe [] (place_marks d) index) ≡ true
      → reserved_faults x ++ (use_faults (fits (kind_of (use_of names inner x.text)) (indexed index)) (use_of names inner x.text) x.spot ++ index_faults names inner index) ≡ []
      → fits (valid.use_of file scope (target_of names inner (m.TargetOf x index))).kind (valid.use_of file scope (target_of names inner (m.TargetOf x index))).index ≡ true
  target-by fits x index none d t f =
      let u = use_of names inner x.text in
      let own = use_faults (fits (kind_of u) (indexed index)) u x.spot in
      let behind = none-right (reserved_faults x) (own ++ index_faults names inner index) f in
      let known = used (fits (kind_of u) (indexed index)) u x.spot (none-left own (index_faults names inner index) behind) in
      let inside = index-valid d index t (none-right own (index_faults names inner index) behind) in
      ap (λ (z : valid.Use). fits z.kind z.index) (use-is file scope (target_of names inner (m.TargetOf x index)))
      ∙ ap (fits (kind_here file scope (var_of u))) inside
      ∙ kind-known x.text u (λ z. fits z (indexed index)) none (means x.text) known

  none-int : (index : Option Bool) → is_int_use None index ≡ false
  none-int None = refl
  none-int (Some b) = refl

  none-thread : (index : Option Bool) → is_thread_use None index ≡ false
  none-thread None = refl
  none-thread (Some b) = refl

  -- an `int` variable or element
  pub int-target : (d : ℕ) (target : m.Target) → are_lexical (target_marks d target) ≡ true → int_target_faults names inner target ≡ []
      → is_int_target file scope (target_of names inner target) ≡ true
  int-target d (m.TargetOf x index) t f = target-by is_int_use x index (none-int (indexed index)) d (and_parts _ _ t).1 f

  -- a thread variable or element
  pub thread-target : (d : ℕ) (target : m.Target) → are_lexical (target_marks d target) ≡ true → thread_target_faults names inner target ≡ []
      → is_thread_target file scope (target_of names inner target) ≡ true
  thread-target d (m.TargetOf x index) t f = target-by is_thread_use x index (none-thread (indexed index)) d (and_parts _ _ t).1 f

  -- calls

  callable : (f : Ident) (u : Use) (count : ℕ) → Means file scope f.text u → callee_faults u f count ≡ []
      → is_callable count (function_here file scope (record { number = function_number u })) ≡ true
  callable f (IsFunction n k p) count known e =
      ap (is_callable count) known ∙ callable-by (is_main_name f.text) (is_thread_kind k) (p == count) f.spot e
  callable f (IsLocal n k) count known e = absurd cc
  callable f (IsGlobal n k) count known e = absurd cc
  callable f (IsDefined v) count known e = absurd cc
  callable f IsUnknown count known e = absurd cc

  pub call-valid : (d : ℕ) (call : m.Call) → are_lexical (call_marks d call) ≡ true → call_faults names inner call ≡ [] → is_valid_call file scope (call_of names inner call) ≡ true
  call-valid d (m.CallOf f before args after) t e =
      let u = use_of names inner f.text in
      let count = length (args_list args) in
      let behind = none-right (reserved_faults f) (callee_faults u f count ++ (count_faults count f ++ exprs_faults names inner (args_list args))) e in
      let last = none-right (callee_faults u f count) (count_faults count f ++ exprs_faults names inner (args_list args)) behind in
      let inside = args-valid d args (lexical-left (args_marks d args) _ (and_parts _ _ t).1) (none-right (count_faults count f) _ last) in
      let own = callable f u count (means f.text) (none-left (callee_faults u f count) _ behind) in
      and_from _ _ (ap (λ z. is_callable z (function_here file scope (record { number = function_number u }))) (length-map (args_list args) (expr_of names inner)) ∙ own) inside

  valued : (f : Ident) (u : Use) (count : ℕ) → Means file scope f.text u → callee_faults u f count ≡ [] → is_void_use u ≡ false
      → has_value (function_here file scope (record { number = function_number u })) ≡ true
  valued f (IsFunction n k p) count known e v =
      let roots = no_fault (is_root_name f k) f.spot RootCalled (none-left (fault_if (is_root_name f k) f.spot RootCalled) _ e) in
      ap has_value known ∙ int-by k (or_parts (is_main_name f.text) (is_thread_kind k) roots).1 v
  valued f (IsLocal n k) count known e v = absurd cc
  valued f (IsGlobal n k) count known e v = absurd cc
  valued f (IsDefined n) count known e v = absurd cc
  valued f IsUnknown count known e v = absurd cc

  -- a call that has a value
  pub valued-call : (d : ℕ) (call : m.Call) → are_lexical (call_marks d call) ≡ true → call_faults names inner call ++ valued_faults names inner call ≡ []
      → (is_valid_call file scope (call_of names inner call) && has_value (function_here file scope (call_of names inner call).of)) ≡ true
  valued-call d (m.CallOf f before args after) t e =
      let call = m.CallOf f before args after in
      let u = use_of names inner f.text in
      let count = length (args_list args) in
      let own = none-left (call_faults names inner call) (valued_faults names inner call) e in
      let callee = none-left (callee_faults u f count) _ (none-right (reserved_faults f) _ own) in
      let void = no_fault (is_void_use u) f.spot WrongUse (none-right (call_faults names inner call) (valued_faults names inner call) e) in
      and_from _ _ (call-valid d call t own) (valued f u count (means f.text) callee void)

  -- what is assigned, returned or begun with
  pub value-valid : (d : ℕ) (v : m.Value) → are_lexical (value_marks d v) ≡ true → value_faults names inner v ≡ [] → is_valid_value file scope (value_of names inner v) ≡ true
  value-valid d (m.Computed e) t f = whole-valid d e t f
  value-valid d (m.Called call) t f = valued-call d call t f
