-- Statements without faults spell valid ones.
use Rattle.std.proofs.Common.{◌≡◌, ℕ, suc, pos, ◌+◌, Bool, true, false, not, ◌||◌, List, [], ◌∷◌, ◌++◌, length, Option, Some, None, refl, ap, sym, ◌∙◌, subst, arith, true≢false, if◌then◌else◌}
use Rattle.std.proofs.lemmas.Bool.{and_parts, and_from, not-false}
use Rattle.cfix_base.specs.declared.Spot.{Spot}
use Rattle.c_grammar.specs.Marks.{maybe}
use Rattle.c_grammar.specs.Expr.{pieces}
use Rattle.c_grammar.specs.Simple as m
use Rattle.c_grammar.specs.Simple.{value_marks, plain_marks, simple_marks}
use Rattle.c_grammar.specs.Decl.{decl_marks}
use Rattle.c_grammar.specs.Cond as c
use Rattle.c_grammar.specs.Cond.{true_guard_pieces, cond_pieces, cond_marks}
use Rattle.c_grammar.specs.Stmt as t
use Rattle.c_grammar.specs.Stmt.{jump_marks, first_marks, loop_step_marks, stmt_marks, else_marks, items_marks, item_marks}
use Rattle.c_prog.specs.declared.stmt.Cond.{Cond}
use Rattle.c_prog.specs.declared.stmt.Jump.TheVariants as jump
use Rattle.c_prog.specs.declared.stmt.Step.{Step}
use Rattle.c_prog.specs.declared.stmt.Stmt.{Stmt}
use Rattle.c_prog.specs.declared.stmt.Stmt.TheVariants as stmt
use Rattle.c_prog.specs.declared.stmt.Stmt.TheOpen.{Stmt-F}
use Rattle.c_prog.specs.Valid.Scope.{Scope, entered, passed}
use Rattle.c_prog.specs.Valid.Kinds.{File}
use Rattle.c_prog.specs.Valid.Expressions.{is_valid_expr, is_valid_value, is_int_kind, is_thread_kind}
use Rattle.c_prog.specs.Valid.Statements.{Around, looped, Part, counts, all_valid, is_valid_jump, is_valid_step, stmt_rules, part_of, parts_of}
use Rattle.c_prog.proofs.ValidEquations.{valid-Number, part-Jump, part-If, part-Loop, part-Block}
use Rattle.c_names.specs.declared.fault.FaultKind.TheVariants.{WrongUse}
use Rattle.c_names.specs.Uses.{Names, use_of}
use Rattle.c_names.specs.Expressions.{expr_faults, value_faults}
use Rattle.c_names.specs.Simples.{op_faults, ops_faults, plain_faults, simple_faults}
use Rattle.c_names.specs.Scopes.{first_declared, in_for, stmt_locals, else_locals, items_locals, item_after}
use Rattle.c_names.specs.Returns.{bare_fits, bare_spot, bare_faults, is_zero_value, is_null, returned_faults, jump_faults}
use Rattle.c_names.specs.Statements.{decl_faults, first_faults, true_guard_faults, cond_faults, test_faults, step_faults, stmt_faults, else_faults, items_faults, item_faults}
use Rattle.c_names.specs.SpelledExpressions.{value_of, simple_of}
use Rattle.c_names.specs.SpelledStatements.{op_of, ops_of, cond_of, test_of, step_of, bare_of, return_of, jump_of, first_of, as_item, stmt_of, else_of, items_of, item_of}
use Rattle.valid_law.specs.Agrees.{Agrees}
use Rattle.valid_law.specs.Lexical.{are_lexical}
use Rattle.valid_law.proofs.Pieces.{pieces-left, lexical-pieces}
use Rattle.valid_law.proofs.Faultless.{none-left, none-right, no_fault}
use Rattle.valid_law.proofs.Lexical.{lexical-left, lexical-right}
use Rattle.valid_law.proofs.Uses.{Means, means-of}
use Rattle.valid_law.proofs.Expressions.{expr-valid, value-valid}
use Rattle.valid_law.proofs.Simples.{plain-step, plain-valid, simple-declares, simple-valid}
use Rattle.valid_law.proofs.Scopes.{Fits, fits-passed, fits-for, fits-item, locals-count, items_after, items-count, passed-zero}
use Rattle.valid_law.proofs.Runs.{Runs, runs-none, runs-append, runs-inner, runs-count, runs-plain}
use Rattle.valid_law.proofs.Declarations.{decl-runs, first-runs}

-- ---- conditions, steps and jumps

module _ (names : Names) (file : File) (scope inner : Scope) (means : (text : List ℕ) → Means file scope text (use_of names inner text)) where
  cond-valid : (k : ℕ) (x : c.Cond) → are_lexical (cond_marks k x) ≡ true → cond_faults names inner x ≡ [] → is_valid_expr file scope (cond_of names inner x).test ≡ true
  cond-valid k (c.Bare e) s f = expr-valid names file scope inner means k e (lexical-pieces 0 (pieces k e) s) f
  cond-valid k (c.OnTrue (c.TrueGuardOf before e after both before2 guard after2)) s f =
      let whole = lexical-pieces 0 (cond_pieces k (c.OnTrue (c.TrueGuardOf before e after both before2 guard after2))) s in
      expr-valid names file scope inner means (suc k) e (pieces-left (pieces (suc k) e) _ whole) (none-left (expr_faults names inner e) _ f)
  cond-valid k (c.OnFalse before e after or before2 guard after2) s f =
      let whole = lexical-pieces 0 (cond_pieces k (c.OnFalse before e after or before2 guard after2)) s in
      expr-valid names file scope inner means (suc k) e (pieces-left (pieces (suc k) e) _ whole) (none-left (expr_faults names inner e) _ f)
  cond-valid k (c.OnBoth before (c.TrueGuardOf before1 e after1 both before2 guard1 after2) after or before3 guard after3) s f =
      let g = c.TrueGuardOf before1 e after1 both before2 guard1 after2 in
      let whole = lexical-pieces 0 (cond_pieces k (c.OnBoth before g after or before3 guard after3)) s in
      let inside = pieces-left (true_guard_pieces (suc k) g) _ whole in
      expr-valid names file scope inner means (suc (suc k)) e (pieces-left (pieces (suc (suc k)) e) _ inside)
      (none-left (expr_faults names inner e) _ (none-left (true_guard_faults names inner g) _ f))

  test-valid : (k : ℕ) (x : Option c.Cond) → are_lexical (maybe [] (cond_marks k) x) ≡ true → test_faults names inner x ≡ []
      → is_valid_expr file scope (test_of names inner x).test ≡ true
  test-valid k None s f = valid-Number file scope (pos 1)
  test-valid k (Some x) s f = cond-valid k x s f

  step-valid : (k : ℕ) (x : Option t.LoopStep) → are_lexical (maybe [] (loop_step_marks k) x) ≡ true → step_faults names inner x ≡ []
      → is_valid_step file scope (step_of names inner x) ≡ true
  step-valid k None s f = refl
  step-valid k (Some (t.LoopStepOf p ops)) s f =
      and_from _ _ (plain-step names inner p)
      (plain-valid names file scope inner means k p (lexical-left (plain_marks k p) _ s) (none-left (plain_faults names inner p) _ f))

bare-valid : (file : File) (around : Around) (scope : Scope) (b : t.Bare) → bare_fits around b ≡ true → is_valid_jump file around scope (bare_of b) ≡ true
bare-valid file around scope (t.Break at) h = h
bare-valid file around scope (t.Continue at) h = h
bare-valid file around scope (t.Return at) h = h
bare-valid file around scope (t.ReturnNull at null) h = h

bare-clean : (file : File) (around : Around) (scope : Scope) (b : t.Bare) → bare_faults around b ≡ [] → is_valid_jump file around scope (bare_of b) ≡ true
bare-clean file around scope b f = bare-valid file around scope b (not-false (bare_fits around b) (no_fault (not (bare_fits around b)) (bare_spot b) WrongUse f))

or-false : (a b : Bool) → b ≡ false → (a || b) ≡ true → a ≡ true
or-false true b e h = refl
or-false false b e h = absurd (true≢false (sym h ∙ e))

-- a statement that stands alone and the one that is an item
item-valid : (names : Names) (file : File) (around : Around) (scope : Scope) (st : t.Stmt) (next : Scope)
    → Runs file around (entered scope) (as_item st (stmt_of names around (entered scope) st)) next
    → all_valid (parts_of file (stmt_of names around (entered scope) st)) around (entered scope) ≡ true
item-valid names file around scope (t.Block before items after) next r =
    let body = items_of names around (entered scope) items in
    sym (ap (λ (p : Part). p.is_valid around (entered scope)) (part-Block file body)) ∙ (and_parts ((part_of file (stmt.Block body)).is_valid around (entered scope)) true r.valid).0
item-valid names file around scope (t.Nothing end) next r = r.valid
item-valid names file around scope (t.Simply x end ops) next r = r.valid
item-valid names file around scope (t.Jumps j) next r = r.valid
item-valid names file around scope (t.If at before x after st e) next r = r.valid
item-valid names file around scope (t.While at before x after st) next r = r.valid
item-valid names file around scope (t.For at before first end x end2 step after st) next r = r.valid

item-counts : (file : File) (st : t.Stmt) (list : List Stmt) → counts (parts_of file (as_item st list)) ≡ counts (parts_of file list)
item-counts file (t.Block before items after) list =
    let same : counts (parts_of file (stmt.Block list ∷ [])) ≡ counts (stmt_rules file (Stmt-F.Block (parts_of file list)) ∷ []) = ap (λ (p : Part). counts (p ∷ [])) (part-Block file list) in
    omega (arith, same)
item-counts file (t.Nothing end) list = refl
item-counts file (t.Simply x end ops) list = refl
item-counts file (t.Jumps j) list = refl
item-counts file (t.If at before x after st e) list = refl
item-counts file (t.While at before x after st) list = refl
item-counts file (t.For at before first end x end2 step after st) list = refl

stmt-counts : (names : Names) (file : File) (around : Around) (scope : Scope) (st : t.Stmt)
    → Runs file around scope (as_item st (stmt_of names around scope st)) (passed (stmt_locals st) scope)
    → counts (parts_of file (stmt_of names around scope st)) ≡ stmt_locals st
stmt-counts names file around scope st r =
    let list = stmt_of names around scope st in
    sym (item-counts file st list) ∙ runs-count file around scope (as_item st list) (passed (stmt_locals st) scope) (stmt_locals st) r refl

loop-runs : (file : File) (around : Around) (scope : Scope) (cond : Cond) (step : Option Step) (body : List Stmt) (n : ℕ) → is_valid_expr file scope cond.test ≡ true
    → is_valid_step file scope step ≡ true → all_valid (parts_of file body) (looped around) (entered scope) ≡ true → counts (parts_of file body) ≡ n
    → Runs file around scope (stmt.Loop cond step body ∷ []) (passed n scope)
loop-runs file around scope cond step body n test each inside count =
    runs-inner file around scope (stmt.Loop cond step body) (stmt_rules file (Stmt-F.Loop cond step (parts_of file body))) n (part-Loop file cond step body) refl count
    (and_from _ _ (and_from _ _ test each) inside)

module _ (names : Names) (file : File) (agrees : Agrees names file) where
  means : (scope : Scope) → Fits scope → (text : List ℕ) → Means file scope text (use_of names scope text)
  means scope k = means-of names file agrees scope k scope refl

  return-by : (around : Around) (scope : Scope) (v : m.Value) (null : Bool) → is_null names around scope v ≡ null → (is_int_kind around.kind || null) ≡ true
      → is_valid_value file scope (value_of names scope v) ≡ true
      → is_valid_jump file around scope (if null then jump.ReturnNull else jump.ReturnValue (value_of names scope v)) ≡ true
  return-by around scope v true e h valid = (and_parts (is_thread_kind around.kind) (is_zero_value names scope v) e).0
  return-by around scope v false e h valid = and_from _ _ (or-false (is_int_kind around.kind) false refl h) valid

  return-valid : (k : ℕ) (around : Around) (scope : Scope) (at : Spot) (v : m.Value) → Fits scope → are_lexical (value_marks k v) ≡ true
      → returned_faults names around scope at v ≡ [] → value_faults names scope v ≡ [] → is_valid_jump file around scope (return_of names around scope v) ≡ true
  return-valid k around scope at v p s r f =
      let fits = is_int_kind around.kind || is_null names around scope v in
      return-by around scope v (is_null names around scope v) refl (not-false fits (no_fault (not fits) at WrongUse r))
      (value-valid names file scope scope (means scope p) k v s f)

  jump-runs : (k : ℕ) (around : Around) (scope : Scope) (x : t.Jump) → Fits scope → are_lexical (jump_marks k x) ≡ true → jump_faults names around scope x ≡ []
      → Runs file around scope (jump_of names around scope x ∷ []) (passed 0 scope)
  jump-runs k around scope (t.BareJump b end) p s f =
      runs-inner file around scope (stmt.Jump (bare_of b) []) _ 0 (part-Jump file (bare_of b) []) refl refl (bare-clean file around scope b f)
  jump-runs k around scope (t.ReturnValue at v end) p s f =
      let returned = returned_faults names around scope at v in
      runs-inner file around scope (stmt.Jump (return_of names around scope v) []) _ 0 (part-Jump file (return_of names around scope v) []) refl refl
      (return-valid k around scope at v p (lexical-left (value_marks k v) _ s) (none-left returned _ f) (none-right returned _ f))
  jump-runs k around scope (t.BareBlock before op end ops b end2 after) p s f =
      runs-inner file around scope (stmt.Jump (bare_of b) (op_of op ∷ ops_of ops)) _ 0 (part-Jump file (bare_of b) (op_of op ∷ ops_of ops)) refl refl
      (bare-clean file around scope b (none-right (ops_faults ops) _ (none-right (op_faults op) _ f)))
  jump-runs k around scope (t.ValueBlock before word name set v end op end2 ops return name2 end3 after) p s f =
      let last = none-right (ops_faults ops) _ (none-right (op_faults op) _ (none-right (value_faults names scope v) _ f)) in
      runs-inner file around scope (stmt.Jump (return_of names around scope v) (op_of op ∷ ops_of ops)) _ 0 (part-Jump file (return_of names around scope v) (op_of op ∷ ops_of ops)) refl refl
      (return-valid (suc k) around scope return v p (lexical-left (value_marks (suc k) v) _ s) last (none-left (value_faults names scope v) _ f))

  -- ---- statements

  for-first : (around : Around) (scope : Scope) (first : t.First) (loop : Stmt) (n : ℕ)
      → Runs file around (entered scope) (first_of names (entered scope) first) (in_for (Some first) scope)
      → Runs file around (in_for (Some first) scope) (loop ∷ []) (passed n (in_for (Some first) scope))
      → Runs file around scope (stmt.Block (first_of names (entered scope) first ++ loop ∷ []) ∷ []) (passed (length (first_declared (Some first)) + n) scope)
  for-first around scope first loop n r q =
      let list = first_of names (entered scope) first ++ loop ∷ [] in
      let inner = in_for (Some first) scope in
      let whole = runs-append file around (entered scope) inner (passed n inner) (first_of names (entered scope) first) (loop ∷ []) r q in
      let start : inner.count ≡ scope.count + length (first_declared (Some first)) = locals-count (first_declared (Some first)) (entered scope) in
      let count : counts (parts_of file list) ≡ length (first_declared (Some first)) + n =
      runs-count file around (entered scope) list (passed n inner) (length (first_declared (Some first)) + n) whole (omega (arith, start)) in
      runs-inner file around scope (stmt.Block list) (stmt_rules file (Stmt-F.Block (parts_of file list))) _ (part-Block file list) refl count whole.valid

  mutual
    pub stmt-runs : (k : ℕ) (around : Around) (scope : Scope) (st : t.Stmt) → Fits scope → are_lexical (stmt_marks k st) ≡ true → stmt_faults names around scope st ≡ []
        → Runs file around scope (as_item st (stmt_of names around scope st)) (passed (stmt_locals st) scope)
    stmt-runs k around scope (t.Block before items after) p s f =
        let body = items_of names around (entered scope) items in
        let r = items-runs (suc k) around (entered scope) items p (lexical-left (items_marks (suc k) items) _ s) f in
        let count = runs-count file around (entered scope) body (items_after (entered scope) items) (items_locals items) r (items-count items (entered scope)) in
        runs-inner file around scope (stmt.Block body) (stmt_rules file (Stmt-F.Block (parts_of file body))) (items_locals items) (part-Block file body) refl count r.valid
    stmt-runs k around scope (t.Nothing end) p s f = record { valid = refl; ends = sym (passed-zero scope) }
    stmt-runs k around scope (t.Simply x end ops) p s f =
        runs-plain file around scope (simple_of names scope x) (ops_of ops)
        (simple-valid names file scope scope (means scope p) k x (lexical-left (simple_marks k x) _ s) (none-left (simple_faults names scope x) _ f)) (simple-declares names scope x)
    stmt-runs k around scope (t.Jumps j) p s f = jump-runs k around scope j p s f
    stmt-runs k around scope (t.If at before x after st e) p s f =
        let on_true = stmt_of names around (entered scope) st in
        let behind = passed (stmt_locals st) scope in
        let on_false = else_of names around behind e in
        let rest = lexical-right (cond_marks (suc k) x) _ s in
        let faultless = none-right (cond_faults names scope x) _ f in
        let test = cond-valid names file scope scope (means scope p) (suc k) x (lexical-left (cond_marks (suc k) x) _ s) (none-left (cond_faults names scope x) _ f) in
        let first = stmt-runs (suc k) around (entered scope) st p (lexical-left (stmt_marks (suc k) st) _ rest) (none-left (stmt_faults names around (entered scope) st) _ faultless) in
        let second = else-runs (suc k) around behind e (fits-passed (stmt_locals st) scope p) (lexical-right (stmt_marks (suc k) st) _ rest)
        (none-right (stmt_faults names around (entered scope) st) _ faultless) in
        let count = stmt-counts names file around (entered scope) st first in
        let both : counts (parts_of file on_true) + counts (parts_of file on_false) ≡ stmt_locals st + else_locals e = let other = second.1 in omega (arith, count, other) in
        let last = ap (λ n. all_valid (parts_of file on_false) around (entered (passed n scope))) count ∙ second.0 in
        runs-inner file around scope (stmt.If (cond_of names scope x) on_true on_false) (stmt_rules file (Stmt-F.If (cond_of names scope x) (parts_of file on_true) (parts_of file on_false)))
        (stmt_locals st + else_locals e) (part-If file (cond_of names scope x) on_true on_false) refl both
        (and_from _ _ (and_from _ _ test (item-valid names file around scope st _ first)) last)
    stmt-runs k around scope (t.While at before x after st) p s f =
        let body = stmt_of names (looped around) (entered scope) st in
        let rest = lexical-right (cond_marks (suc k) x) _ s in
        let test = cond-valid names file scope scope (means scope p) (suc k) x (lexical-left (cond_marks (suc k) x) _ s) (none-left (cond_faults names scope x) _ f) in
        let inside = stmt-runs (suc k) (looped around) (entered scope) st p rest (none-right (cond_faults names scope x) _ f) in
        loop-runs file around scope (cond_of names scope x) None body (stmt_locals st) test refl (item-valid names file (looped around) scope st _ inside)
        (stmt-counts names file (looped around) (entered scope) st inside)
    stmt-runs k around scope (t.For at before None end x end2 step after st) p s f =
        let inner = entered scope in
        let body = stmt_of names (looped around) (entered inner) st in
        let j = suc (suc k) in
        let rest = lexical-right (maybe [] (cond_marks j) x) _ s in
        let faultless = none-right (test_faults names inner x) _ f in
        let test = test-valid names file scope inner (means-of names file agrees scope p inner refl) j x (lexical-left (maybe [] (cond_marks j) x) _ s) (none-left (test_faults names inner x) _ f) in
        let each = step-valid names file scope inner (means-of names file agrees scope p inner refl) j step (lexical-left (maybe [] (loop_step_marks j) step) _ rest)
        (none-left (step_faults names inner step) _ faultless) in
        let inside = stmt-runs j (looped around) (entered inner) st p (lexical-right (maybe [] (loop_step_marks j) step) _ rest) (none-right (step_faults names inner step) _ faultless) in
        let same : stmt_locals st ≡ 0 + stmt_locals st = omega (arith) in
        subst (λ n. Runs file around scope (stmt.Loop (test_of names inner x) (step_of names inner step) body ∷ []) (passed n scope)) same
        (loop-runs file around scope (test_of names inner x) (step_of names inner step) body (stmt_locals st) test each (item-valid names file (looped around) inner st _ inside)
        (stmt-counts names file (looped around) (entered inner) st inside))
    stmt-runs k around scope (t.For at before (Some first) end x end2 step after st) p s f =
        let inner = in_for (Some first) scope in
        let fits = fits-for (Some first) scope p in
        let body = stmt_of names (looped around) (entered inner) st in
        let j = suc (suc k) in
        let own = first_faults names (entered scope) (Some first) in
        let behind = lexical-right (first_marks j first) _ s in
        let later = none-right own _ f in
        let rest = lexical-right (maybe [] (cond_marks j) x) _ behind in
        let faultless = none-right (test_faults names inner x) _ later in
        let begun = first-runs names file agrees j around scope first p (lexical-left (first_marks j first) _ s) (none-left own _ f) in
        let test = test-valid names file inner inner (means inner fits) j x (lexical-left (maybe [] (cond_marks j) x) _ behind) (none-left (test_faults names inner x) _ later) in
        let each = step-valid names file inner inner (means inner fits) j step (lexical-left (maybe [] (loop_step_marks j) step) _ rest) (none-left (step_faults names inner step) _ faultless) in
        let inside = stmt-runs j (looped around) (entered inner) st fits (lexical-right (maybe [] (loop_step_marks j) step) _ rest) (none-right (step_faults names inner step) _ faultless) in
        let loop = loop-runs file around inner (test_of names inner x) (step_of names inner step) body (stmt_locals st) test each (item-valid names file (looped around) inner st _ inside)
        (stmt-counts names file (looped around) (entered inner) st inside) in
        for-first around scope first (stmt.Loop (test_of names inner x) (step_of names inner step) body) (stmt_locals st) begun loop

    else-runs : (k : ℕ) (around : Around) (scope : Scope) (e : t.Else) → Fits scope → are_lexical (else_marks k e) ≡ true → else_faults names around scope e ≡ []
        → (all_valid (parts_of file (else_of names around scope e)) around (entered scope) ≡ true) × (counts (parts_of file (else_of names around scope e)) ≡ else_locals e)
    else-runs k around scope t.NoElse p s f = (refl, refl)
    else-runs k around scope (t.ElseDo at st) p s f =
        let r = stmt-runs k around (entered scope) st p s f in
        (item-valid names file around scope st _ r, stmt-counts names file around (entered scope) st r)

    pub items-runs : (k : ℕ) (around : Around) (scope : Scope) (items : t.Items) → Fits scope → are_lexical (items_marks k items) ≡ true
        → items_faults names around scope items ≡ [] → Runs file around scope (items_of names around scope items) (items_after scope items)
    items-runs k around scope t.NoItems p s f = runs-none file around scope
    items-runs k around scope (t.AndItem i more) p s f =
        let behind = item_after scope i in
        runs-append file around scope behind (items_after behind more) (item_of names around scope i) (items_of names around behind more)
        (item-runs k around scope i p (lexical-left (item_marks k i) _ s) (none-left (item_faults names around scope i) _ f))
        (items-runs k around behind more (fits-item i scope p) (lexical-right (item_marks k i) _ s) (none-right (item_faults names around scope i) _ f))

    item-runs : (k : ℕ) (around : Around) (scope : Scope) (i : t.Item) → Fits scope → are_lexical (item_marks k i) ≡ true → item_faults names around scope i ≡ []
        → Runs file around scope (item_of names around scope i) (item_after scope i)
    item-runs k around scope (t.Declares decl end ops) p s f =
        decl-runs names file agrees k around scope decl (ops_of ops) p (lexical-left (decl_marks k decl) _ s) (none-left (decl_faults names scope decl) _ f)
    item-runs k around scope (t.Does st) p s f = stmt-runs k around scope st p s f
