-- Simple statements without faults spell valid ones.
use Rattle.std.proofs.Common.{◌≡◌, ℕ, suc, pos, ◌+◌, ◌==◌, Bool, true, false, not, ◌||◌, List, [], ◌∷◌, ◌++◌, map, length, cond, Option, Some, None, option_map, refl, ap, sym, ◌∙◌, arith, true≢false, if◌then◌else◌}
use Rattle.std.proofs.lemmas.Bool.{and_parts, and_from, not-false}
use Rattle.std.proofs.lemmas.List.{length-map}
use Rattle.std.proofs.lemmas.List.Sums.{sum_by-append}
use Rattle.std.specs.List.{list_any, count_by}
use Rattle.cfix_base.specs.declared.Spot.{Spot}
use Rattle.c_grammar.specs.Token.{Ident, Text}
use Rattle.c_grammar.specs.Expr as g
use Rattle.c_grammar.specs.Expr.{pieces, expr_marks, long_pieces}
use Rattle.c_grammar.specs.Simple as m
use Rattle.c_grammar.specs.Simple.{target_marks, more_exprs_marks, call_marks, plain_marks, thread_arg_marks, library_marks, simple_marks}
use Rattle.c_prog.specs.declared.act.Act.TheVariants as act
use Rattle.c_prog.specs.declared.act.Value.TheVariants as value
use Rattle.c_prog.specs.declared.expr.Expr.{Expr}
use Rattle.c_prog.specs.declared.expr.Var.TheVariants as var
use Rattle.c_prog.specs.declared.expr.Target.{Target}
use Rattle.c_prog.specs.Valid.Scope as k
use Rattle.c_prog.specs.Valid.Scope.{VarKind, Scope}
use Rattle.c_prog.specs.Valid.Kinds.{File, kind_here, function_here}
use Rattle.c_prog.specs.Valid.Expressions.{is_valid_expr, is_int_target, is_mutex, is_cond, is_thread_function}
use Rattle.c_prog.specs.Valid.Acts.{is_valid_assigned, is_valid_act, is_step}
use Rattle.c_prog.specs.Valid.Statements.{declares}
use Rattle.c_prog.specs.Valid.Strings.{is_string, directives_left, directives, is_count}
use Rattle.c_prog.proofs.ValidEquations.{valid-Number}
use Rattle.c_names.specs.declared.fault.FaultKind.TheVariants.{Arity, WrongUse}
use Rattle.c_names.specs.Faults.{fault_if}
use Rattle.c_names.specs.Uses.{Names, Use, IsLocal, IsGlobal, IsFunction, IsDefined, IsUnknown, use_of, kind_of, global_number, function_number}
use Rattle.c_names.specs.Names.{reserved_faults, use_faults}
use Rattle.c_names.specs.Strings.{pairs_from, is_number_pair, is_other_pair, numbers_in, has_other}
use Rattle.c_names.specs.Expressions.{exprs_faults, int_target_faults, thread_target_faults}
use Rattle.c_names.specs.Simples.{plain_faults, thread_arg_faults, is_thread_function_use, created_faults, mutex_faults, cond_variable_faults, printf_faults, library_faults, simple_faults}
use Rattle.c_names.specs.SpelledExpressions.{expr_of, exprs_of, target_of, how_of, stepped, plain_of, thread_arg_of, library_of, simple_of}
use Rattle.valid_law.specs.Lexical.{are_lexical}
use Rattle.valid_law.proofs.Pieces.{pieces-right, lexical-pieces}
use Rattle.valid_law.proofs.Faultless.{none-left, none-right, no_fault}
use Rattle.valid_law.proofs.Lexical.{lexical-left, lexical-right}
use Rattle.valid_law.proofs.Uses.{is_global_kind, Means}
use Rattle.valid_law.proofs.Expressions.{used, expr-valid, whole-valid, more-valid, int-target, thread-target, call-valid, valued-call}

-- ---- the strings of printf

pair-by : (byte : ℕ) (rest : List ℕ) (is_d is_percent : Bool) → (byte == 100) ≡ is_d → (byte == 37) ≡ is_percent
    → (not (is_d || is_percent) || list_any is_other_pair (pairs_from false rest)) ≡ false
    → (list_any is_other_pair (pairs_from false rest) ≡ false → directives_left false rest ≡ Some (count_by is_number_pair (pairs_from false rest)))
    → (if is_d then option_map suc (directives_left false rest) else (if is_percent then directives_left false rest else None))
    ≡ Some (count_by is_number_pair (pairs_from true (byte ∷ rest)))
pair-by byte rest true is_percent d p h g =
    let total : count_by is_number_pair (pairs_from true (byte ∷ rest)) ≡ 1 + count_by is_number_pair (pairs_from false rest) =
    sum_by-append (λ z. cond (is_number_pair z) 1 0) (Some byte ∷ []) (pairs_from false rest) ∙ ap (λ z. (0 + cond z 1 0) + count_by is_number_pair (pairs_from false rest)) d in
    let same : suc (count_by is_number_pair (pairs_from false rest)) ≡ count_by is_number_pair (pairs_from true (byte ∷ rest)) = omega (arith, total) in
    ap (option_map suc) (g h) ∙ ap Some same
pair-by byte rest false true d p h g =
    let total : count_by is_number_pair (pairs_from true (byte ∷ rest)) ≡ 0 + count_by is_number_pair (pairs_from false rest) =
    sum_by-append (λ z. cond (is_number_pair z) 1 0) (Some byte ∷ []) (pairs_from false rest) ∙ ap (λ z. (0 + cond z 1 0) + count_by is_number_pair (pairs_from false rest)) d in
    let same : count_by is_number_pair (pairs_from false rest) ≡ count_by is_number_pair (pairs_from true (byte ∷ rest)) = omega (arith, total) in
    g h ∙ ap Some same
pair-by byte rest false false d p h g = absurd (true≢false h)

counted : (text : List ℕ) (flag : Bool) → list_any is_other_pair (pairs_from flag text) ≡ false → directives_left flag text ≡ Some (count_by is_number_pair (pairs_from flag text))
counted [] false h = refl
counted [] true h = absurd (true≢false h)
counted (byte ∷ rest) false h = counted rest (byte == 37) h
counted (byte ∷ rest) true h = pair-by byte rest (byte == 100) (byte == 37) refl refl h (counted rest false)

module _ (names : Names) (inner : Scope) where
  stepped-step : (step : m.Step) (t : Target) → is_step (stepped step t) ≡ true
  stepped-step m.Up t = refl
  stepped-step m.Down t = refl

  -- an assignment of an expression, `++` and `--` can be the step of a `for`
  pub plain-step : (p : m.Plain) → is_step (plain_of names inner p) ≡ true
  plain-step (m.SetTo t at e) = refl
  plain-step (m.Changed t c at e) = refl
  plain-step (m.SteppedAfter t step at) = stepped-step step (target_of names inner t)
  plain-step (m.SteppedBefore step at t) = stepped-step step (target_of names inner t)

  stepped-declares : (step : m.Step) (t : Target) → declares (stepped step t) ≡ None
  stepped-declares m.Up t = refl
  stepped-declares m.Down t = refl

  pub plain-declares : (p : m.Plain) → declares (plain_of names inner p) ≡ None
  plain-declares (m.SetTo t at e) = refl
  plain-declares (m.Changed t c at e) = refl
  plain-declares (m.SteppedAfter t step at) = stepped-declares step (target_of names inner t)
  plain-declares (m.SteppedBefore step at t) = stepped-declares step (target_of names inner t)

  library-declares : (l : m.Library) → declares (library_of names inner l) ≡ None
  library-declares (m.Create at before amp t comma1 null comma2 f comma3 arg after) = refl
  library-declares (m.Join at before t comma null after) = refl
  library-declares (m.Lock at before amp x after) = refl
  library-declares (m.Unlock at before amp x after) = refl
  library-declares (m.Print at before text more after) = refl
  library-declares (m.Scan at before text comma amp t after) = refl
  library-declares (m.Wait at before amp1 x comma amp2 y after) = refl
  library-declares (m.Signal at before amp x after) = refl
  library-declares (m.Broadcast at before amp x after) = refl

  -- none of them declares a local
  pub simple-declares : (x : m.Simple) → declares (simple_of names inner x) ≡ None
  simple-declares (m.PlainPart p) = plain-declares p
  simple-declares (m.SetCall t at c) = refl
  simple-declares (m.OnlyCall c) = refl
  simple-declares (m.LibraryPart l) = library-declares l

-- no local is a mutex, or a condition variable

no-mutex : (kind : VarKind) → is_global_kind kind ≡ false → is_mutex (Some kind) ≡ false
no-mutex k.int h = refl
no-mutex k.int_array h = refl
no-mutex k.thread h = refl
no-mutex k.thread_array h = refl
no-mutex k.mutex h = h
no-mutex k.cond h = refl
no-mutex k.argument h = refl

no-cond : (kind : VarKind) → is_global_kind kind ≡ false → is_cond (Some kind) ≡ false
no-cond k.int h = refl
no-cond k.int_array h = refl
no-cond k.thread h = refl
no-cond k.thread_array h = refl
no-cond k.mutex h = refl
no-cond k.cond h = h
no-cond k.argument h = refl

module _ (names : Names) (file : File) (scope inner : Scope) (means : (text : List ℕ) → Means file scope text (use_of names inner text)) where
  -- assignments, `++` and `--`

  assigned : (c : m.Change) (e : Expr) → is_valid_expr file scope e ≡ true → is_valid_assigned file scope (how_of c) (value.Expr e) ≡ true
  assigned m.AddTo e h = h
  assigned m.SubtractFrom e h = h
  assigned m.MultiplyBy e h = h
  assigned m.DivideBy e h = h
  assigned m.RemainderBy e h = h

  stepped-valid : (step : m.Step) (t : Target) → is_int_target file scope t ≡ true → is_valid_act file scope (stepped step t) ≡ true
  stepped-valid m.Up t h = h
  stepped-valid m.Down t h = h

  pub plain-valid : (d : ℕ) (p : m.Plain) → are_lexical (plain_marks d p) ≡ true → plain_faults names inner p ≡ [] → is_valid_act file scope (plain_of names inner p) ≡ true
  plain-valid d (m.SetTo t at e) s f =
      let target = int-target names file scope inner means d t (lexical-left (target_marks d t) _ s) (none-left (int_target_faults names inner t) _ f) in
      let operand = whole-valid names file scope inner means d e (lexical-right (target_marks d t) _ s) (none-right (int_target_faults names inner t) _ f) in
      and_from _ _ target operand
  plain-valid d (m.Changed t c at e) s f =
      let target = int-target names file scope inner means d t (lexical-left (target_marks d t) _ s) (none-left (int_target_faults names inner t) _ f) in
      let operand = whole-valid names file scope inner means d e (lexical-right (target_marks d t) _ s) (none-right (int_target_faults names inner t) _ f) in
      and_from _ _ target (assigned c (expr_of names inner e) operand)
  plain-valid d (m.SteppedAfter t step at) s f =
      stepped-valid step (target_of names inner t) (int-target names file scope inner means d t (lexical-left (target_marks d t) _ s) f)
  plain-valid d (m.SteppedBefore step at t) s f =
      stepped-valid step (target_of names inner t) (int-target names file scope inner means d t s f)

  -- calls of the headers

  argument-valid : (d : ℕ) (a : m.ThreadArg) → are_lexical (thread_arg_marks d a) ≡ true → thread_arg_faults names inner a ≡ []
      → is_valid_expr file scope (thread_arg_of names inner a) ≡ true
  argument-valid d (m.NullArg at) s f = valid-Number file scope (pos 0)
  argument-valid d (m.CastArg before void star after long e) s f =
      expr-valid names file scope inner means d e (pieces-right (long_pieces d long) (pieces d e) (lexical-pieces 0 (long_pieces d long ++ pieces d e) s)) f

  created : (text : List ℕ) (u : Use) → Means file scope text u → is_thread_function_use u ≡ true
      → is_thread_function (function_here file scope (record { number = function_number u })) ≡ true
  created text (IsFunction n k p) known h = ap is_thread_function known ∙ h
  created text (IsLocal n k) known h = absurd (true≢false (sym h))
  created text (IsGlobal n k) known h = absurd (true≢false (sym h))
  created text (IsDefined v) known h = absurd (true≢false (sym h))
  created text IsUnknown known h = absurd (true≢false (sym h))

  module _ (test : Option VarKind → Bool) (none : test None ≡ false) (locals : (kind : VarKind) → is_global_kind kind ≡ false → test (Some kind) ≡ false) where
    -- a name whose variable has a kind that is never that of a local
    held : (text : List ℕ) (u : Use) → Means file scope text u → test (kind_of u) ≡ true
        → test (kind_here file scope (var.Global (record { number = global_number u }))) ≡ true
    held text (IsGlobal n kind) known h = ap test known.0 ∙ h
    held text (IsLocal n kind) known h = absurd (true≢false (sym h ∙ locals kind known.1))
    held text (IsFunction n kind p) known h = absurd (true≢false (sym h ∙ none))
    held text (IsDefined v) known h = absurd (true≢false (sym h ∙ none))
    held text IsUnknown known h = absurd (true≢false (sym h ∙ none))

    held-valid : (x : Ident) → reserved_faults x ++ use_faults (test (kind_of (use_of names inner x.text))) (use_of names inner x.text) x.spot ≡ []
        → test (kind_here file scope (var.Global (record { number = global_number (use_of names inner x.text) }))) ≡ true
    held-valid x f =
        let u = use_of names inner x.text in
        held x.text u (means x.text) (used (test (kind_of u)) u x.spot (none-right (reserved_faults x) _ f))

  mutex-valid : (x : Ident) → mutex_faults names inner x ≡ []
      → is_mutex (kind_here file scope (var.Global (record { number = global_number (use_of names inner x.text) }))) ≡ true
  mutex-valid x f = held-valid is_mutex refl no-mutex x f

  cond-valid : (x : Ident) → cond_variable_faults names inner x ≡ []
      → is_cond (kind_here file scope (var.Global (record { number = global_number (use_of names inner x.text) }))) ≡ true
  cond-valid x f = held-valid is_cond refl no-cond x f

  printed : (d : ℕ) (text : Text) (at : Spot) (more : List (Spot × g.Expr)) → is_string text.bytes ≡ true → are_lexical (more_exprs_marks d more) ≡ true
      → printf_faults (length more) text.bytes at ++ (fault_if (has_other text.bytes) text.spot WrongUse ++ exprs_faults names inner (map (λ y. y.1) more)) ≡ []
      → is_valid_act file scope (act.Print text.bytes (exprs_of names inner (map (λ y. y.1) more))) ≡ true
  printed d text at more string s f =
      let own = printf_faults (length more) text.bytes at in
      let behind = none-right own (fault_if (has_other text.bytes) text.spot WrongUse ++ exprs_faults names inner (map (λ y. y.1) more)) f in
      let same = not-false (numbers_in text.bytes == length more) (no_fault (not (numbers_in text.bytes == length more)) at Arity (none-left (fault_if (not (numbers_in text.bytes == length more)) at Arity) _ (none-left own _ f))) in
      let plain = no_fault (has_other text.bytes) text.spot WrongUse (none-left (fault_if (has_other text.bytes) text.spot WrongUse) _ behind) in
      let args = more-valid names file scope inner means d more s (none-right (fault_if (has_other text.bytes) text.spot WrongUse) _ behind) in
      let many : length (exprs_of names inner (map (λ y. y.1) more)) ≡ length more = length-map (map (λ y. y.1) more) (expr_of names inner) ∙ length-map more (λ y. y.1) in
      let count : is_count (length (exprs_of names inner (map (λ y. y.1) more))) (directives text.bytes) ≡ true =
      ap (is_count (length (exprs_of names inner (map (λ y. y.1) more)))) (counted text.bytes false plain) ∙ ap (λ z. numbers_in text.bytes == z) many ∙ same in
      and_from _ _ (and_from _ _ string count) args

  library-valid : (d : ℕ) (l : m.Library) → are_lexical (library_marks d l) ≡ true → library_faults names inner l ≡ [] → is_valid_act file scope (library_of names inner l) ≡ true
  library-valid d (m.Create at before amp t comma1 null comma2 f comma3 arg after) s e =
      let u = use_of names inner f.text in
      let own = thread_target_faults names inner t in
      let behind = none-right own (created_faults names inner f ++ thread_arg_faults names inner arg) e in
      let target = thread-target names file scope inner means d t (lexical-left (target_marks d t) _ s) (none-left own _ e) in
      let callee = used (is_thread_function_use u) u f.spot (none-right (reserved_faults f) _ (none-left (created_faults names inner f) _ behind)) in
      let last = lexical-left (thread_arg_marks d arg) _ (and_parts _ _ (lexical-right (target_marks d t) _ s)).1 in
      let argument = argument-valid d arg last (none-right (created_faults names inner f) _ behind) in
      and_from _ _ (and_from _ _ target (created f.text u (means f.text) callee)) argument
  library-valid d (m.Join at before t comma null after) s e = thread-target names file scope inner means d t (lexical-left (target_marks d t) _ s) e
  library-valid d (m.Lock at before amp x after) s e = mutex-valid x e
  library-valid d (m.Unlock at before amp x after) s e = mutex-valid x e
  library-valid d (m.Print at before text more after) s e =
      let parts = and_parts (is_string text.bytes) _ s in
      printed d text at more parts.0 (lexical-left (more_exprs_marks d more) _ parts.1) e
  library-valid d (m.Scan at before text comma amp t after) s e =
      int-target names file scope inner means d t (lexical-left (target_marks d t) _ (and_parts _ _ s).1) (none-right (fault_if _ text.spot WrongUse) _ e)
  library-valid d (m.Wait at before amp1 x comma amp2 y after) s e =
      and_from _ _ (cond-valid x (none-left (cond_variable_faults names inner x) _ e)) (mutex-valid y (none-right (cond_variable_faults names inner x) _ e))
  library-valid d (m.Signal at before amp x after) s e = cond-valid x e
  library-valid d (m.Broadcast at before amp x after) s e = cond-valid x e

  -- a simple statement that is no declaration
  pub simple-valid : (d : ℕ) (x : m.Simple) → are_lexical (simple_marks d x) ≡ true → simple_faults names inner x ≡ [] → is_valid_act file scope (simple_of names inner x) ≡ true
  simple-valid d (m.PlainPart p) s f = plain-valid d p s f
  simple-valid d (m.SetCall t at c) s f =
      let target = int-target names file scope inner means d t (lexical-left (target_marks d t) _ s) (none-left (int_target_faults names inner t) _ f) in
      let call = valued-call names file scope inner means d c (lexical-right (target_marks d t) _ s) (none-right (int_target_faults names inner t) _ f) in
      and_from _ _ target call
  simple-valid d (m.OnlyCall c) s f = call-valid names file scope inner means d c s f
  simple-valid d (m.LibraryPart l) s f = library-valid d l s f
