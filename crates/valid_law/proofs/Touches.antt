-- A file has no more lines of accesses than tokens.
use Rattle.std.proofs.Common.{◌≡◌, ℕ, suc, ◌+◌, ◌≤◌, max, cond, Bool, true, false, List, [], ◌∷◌, ◌++◌, map, length, Option, Some, None, refl, ap, arith}
use Rattle.std.proofs.lemmas.List.{length-append}
use Rattle.cfix_base.specs.declared.Spot.{Spot}
use Rattle.c_grammar.specs.declared.word.Word.TheVariants as word_of
use Rattle.c_grammar.specs.declared.sign.Sign.TheVariants as sign_of
use Rattle.c_grammar.specs.Marks.{each, maybe}
use Rattle.c_grammar.specs.Token.{ident, word, sign, Mark}
use Rattle.c_grammar.specs.Expr as g
use Rattle.c_grammar.specs.Expr.{Piece, plain, long_pieces, pieces, placed, expr_marks}
use Rattle.c_grammar.specs.Op.{op_marks, ops_marks, more_ops_marks}
use Rattle.c_grammar.specs.Simple as s
use Rattle.c_grammar.specs.Simple.{place_marks, target_marks, more_exprs_marks, args_marks, call_marks, value_marks, change_sign, step_sign, plain_marks, thread_arg_marks, library_marks, simple_marks}
use Rattle.c_grammar.specs.Decl as local
use Rattle.c_grammar.specs.Decl.{local_int_marks, decl_marks, loop_int_marks}
use Rattle.c_grammar.specs.Cond as c
use Rattle.c_grammar.specs.Cond.{guard_pieces, true_guard_pieces, cond_pieces, cond_marks}
use Rattle.c_grammar.specs.Stmt as t
use Rattle.c_grammar.specs.Stmt.{bare_marks, jump_marks, first_marks, loop_step_marks, stmt_marks, else_marks, items_marks, item_marks}
use Rattle.c_grammar.specs.File as f
use Rattle.c_grammar.specs.File.{head_marks, top_marks, file_marks}
use Rattle.c_prog.specs.declared.expr.Var.{Var}
use Rattle.c_prog.specs.declared.expr.Var.TheVariants as var
use Rattle.c_prog.specs.Valid.Scope.{Scope, int, declared, entered, passed}
use Rattle.c_names.specs.Uses.{Names, Use, IsLocal, IsGlobal, IsFunction, IsDefined, IsUnknown, use_of, var_of}
use Rattle.c_names.specs.Expressions.{args_list}
use Rattle.c_names.specs.Files.{body_scope}
use Rattle.c_names.specs.Scopes.{local_int_declared, loop_int_declared, with_local, in_for, stmt_locals, item_after}
use Rattle.c_names.specs.LinesExpressions.{touch_lines, read_lines, expr_lines, exprs_lines, index_lines, target_lines, args_lines, value_lines, plain_lines, thread_arg_lines, library_lines, simple_lines}
use Rattle.c_names.specs.LinesStatements.{local_int_lines, local_ints_lines, decl_lines, loop_int_lines, loop_ints_lines, first_lines, cond_lines, test_lines, step_lines, jump_lines, stmt_lines, else_lines, items_lines, item_lines}
use Rattle.c_names.specs.Sources.{top_lines}

-- ---- expressions

touch-few : (v : Var) (at : Spot) → length (touch_lines v at) ≤ 1
touch-few (var.Global id) at = omega (arith)
touch-few (var.Local n) at = omega (arith)

read-few : (u : Use) (at : Spot) → length (read_lines u at) ≤ 1
read-few (IsDefined n) at = omega (arith)
read-few (IsLocal n k) at = omega (arith)
read-few (IsGlobal n k) at = omega (arith)
read-few (IsFunction n k m) at = omega (arith)
read-few IsUnknown at = omega (arith)

placed-length : (n : ℕ) (list : List Piece) → length (placed n list) ≡ length list
placed-length n [] = refl
placed-length n (x ∷ more) = by x.2 (placed-length (suc n) more) (placed-length n more)
  where
    by : (b : Bool) → length (placed (suc n) more) ≡ length more → length (placed n more) ≡ length more
        → length (cond b ((x.0, max x.1 (suc n)) ∷ placed (suc n) more) ((x.0, x.1) ∷ placed n more)) ≡ suc (length more)
    by true next same = ap suc next
    by false next same = ap suc same

expr-pieces : (names : Names) (scope : Scope) (d : ℕ) (e : g.Expr) → length (expr_lines names scope e) ≤ length (pieces d e)
expr-pieces names scope d (g.Number n) = omega (arith)
expr-pieces names scope d (g.Name x) = read-few (use_of names scope x.text) x.spot
expr-pieces names scope d (g.Index x before e after) =
    omega (
      arith,
      length-append (expr_lines names scope e) (touch_lines (var_of (use_of names scope x.text)) x.spot),
      touch-few (var_of (use_of names scope x.text)) x.spot,
      expr-pieces names scope (suc d) e,
      length-append (pieces (suc d) e) (plain (sign sign_of.CloseBracket after) (suc d) ∷ []),
    )
expr-pieces names scope d (g.Paren before e after) =
    omega (arith, expr-pieces names scope (suc d) e, length-append (pieces (suc d) e) (plain (sign sign_of.CloseParen after) (suc d) ∷ []))
expr-pieces names scope d (g.Cast before word_at after long x) = omega (arith)
expr-pieces names scope d (g.Unary op at e) = omega (arith, expr-pieces names scope (suc d) e)
expr-pieces names scope d (g.Operation a op at b) =
    omega (
      arith,
      length-append (expr_lines names scope a) (expr_lines names scope b),
      expr-pieces names scope d a,
      expr-pieces names scope d b,
      length-append (pieces d a) ((sign (g.binary_sign op) at, d, true) ∷ pieces d b),
    )

module _ (names : Names) (scope : Scope) (d : ℕ) where
  expr-few : (e : g.Expr) → length (expr_lines names scope e) ≤ length (expr_marks d e)
  expr-few e = omega (arith, expr-pieces names scope d e, placed-length 0 (pieces d e))

  more_exprs-few : (more : List (Spot × g.Expr))
      → length (exprs_lines names scope (map (λ y. y.1) more)) ≤ length (more_exprs_marks d more)
  more_exprs-few [] = omega (arith)
  more_exprs-few (x ∷ more) =
      omega (
        arith,
        length-append (expr_lines names scope x.1) (exprs_lines names scope (map (λ (y : Spot × g.Expr). y.1) more)),
        expr-few x.1,
        more_exprs-few more,
        length-append (expr_marks d x.1) (more_exprs_marks d more),
      )

  args-few : (args : s.Args) → length (exprs_lines names scope (args_list args)) ≤ length (args_marks d args)
  args-few None = omega (arith)
  args-few (Some x) =
      omega (
        arith,
        length-append (expr_lines names scope x.0) (exprs_lines names scope (map (λ (y : Spot × g.Expr). y.1) x.1)),
        expr-few x.0,
        more_exprs-few x.1,
        length-append (expr_marks d x.0) (more_exprs_marks d x.1),
      )

  call-few : (x : s.Call) → length (args_lines names scope x) ≤ length (call_marks d x)
  call-few (s.CallOf of before args after) =
      omega (arith, args-few args, length-append (args_marks d args) ((sign sign_of.CloseParen after, d) ∷ []))

  value-few : (x : s.Value) → length (value_lines names scope x) ≤ length (value_marks d x)
  value-few (s.Computed e) = expr-few e
  value-few (s.Called x) = call-few x

-- ---- targets and simple statements

-- the name of a target is a token beside those of its index
index-few : (names : Names) (scope : Scope) (d : ℕ) (x : s.Target) → 1 + length (index_lines names scope x) ≤ length (target_marks d x)
index-few names scope d (s.TargetOf x None) = omega (arith)
index-few names scope d (s.TargetOf x (Some i)) =
    omega (
      arith,
      expr-few names scope (suc d) i.1.0,
      length-append (expr_marks (suc d) i.1.0) ((sign sign_of.CloseBracket i.1.1, suc d) ∷ []),
    )

target-few : (names : Names) (scope : Scope) (x : s.Target) → length (target_lines names scope x) ≤ 1
target-few names scope (s.TargetOf x index) = touch-few (var_of (use_of names scope x.text)) x.spot

three : {A : Type 0} (a b c : List A) → length (a ++ (b ++ c)) ≡ length a + (length b + length c)
three a b c = omega (arith, length-append a (b ++ c), length-append b c)

module _ (names : Names) (scope : Scope) (d : ℕ) where
  plain-few : (p : s.Plain) → length (plain_lines names scope p) ≤ length (plain_marks d p)
  plain-few (s.SetTo x at e) =
      omega (
        arith,
        three (index_lines names scope x) (expr_lines names scope e) (target_lines names scope x),
        index-few names scope d x,
        target-few names scope x,
        expr-few names scope d e,
        length-append (target_marks d x) ((sign sign_of.Assign at, d) ∷ expr_marks d e),
      )
  plain-few (s.Changed x how at e) =
      omega (
        arith,
        length-append (index_lines names scope x) (target_lines names scope x ++ (expr_lines names scope e ++ target_lines names scope x)),
        three (target_lines names scope x) (expr_lines names scope e) (target_lines names scope x),
        index-few names scope d x,
        target-few names scope x,
        expr-few names scope d e,
        length-append (target_marks d x) ((sign (change_sign how) at, d) ∷ expr_marks d e),
      )
  plain-few (s.SteppedAfter x step at) =
      omega (
        arith,
        three (index_lines names scope x) (target_lines names scope x) (target_lines names scope x),
        index-few names scope d x,
        target-few names scope x,
        length-append (target_marks d x) ((sign (step_sign step) at, d) ∷ []),
      )
  plain-few (s.SteppedBefore step at x) =
      omega (
        arith,
        three (index_lines names scope x) (target_lines names scope x) (target_lines names scope x),
        index-few names scope d x,
        target-few names scope x,
      )

  arg-few : (x : s.ThreadArg) → length (thread_arg_lines names scope x) ≤ length (thread_arg_marks d x)
  arg-few (s.NullArg at) = omega (arith)
  arg-few (s.CastArg before void star after long e) =
      omega (
        arith,
        expr-pieces names scope d e,
        placed-length 0 (long_pieces d long ++ pieces d e),
        length-append (long_pieces d long) (pieces d e),
      )

  library-few : (x : s.Library) → length (library_lines names scope x) ≤ length (library_marks d x)
  library-few (s.Create at before amp x comma1 null comma2 of comma3 arg after) =
      let last : List Mark = thread_arg_marks d arg ++ (sign sign_of.CloseParen after, d) ∷ [] in
      omega (
        arith,
        length-append (index_lines names scope x) (thread_arg_lines names scope arg),
        index-few names scope d x,
        arg-few arg,
        length-append (thread_arg_marks d arg) ((sign sign_of.CloseParen after, d) ∷ []),
        length-append (target_marks d x) ((sign sign_of.Comma comma1, d) ∷ ((word word_of.Null null, d) ∷ ((sign sign_of.Comma comma2, d) ∷ ((ident of, d) ∷ ((sign sign_of.Comma comma3, d) ∷ last))))),
      )
  library-few (s.Join at before x comma null after) =
      omega (
        arith,
        index-few names scope d x,
        length-append (target_marks d x) ((sign sign_of.Comma comma, d) ∷ ((word word_of.Null null, d) ∷ ((sign sign_of.CloseParen after, d) ∷ []))),
      )
  library-few (s.Lock at before amp m after) = omega (arith)
  library-few (s.Unlock at before amp m after) = omega (arith)
  library-few (s.Print at before text more after) =
      omega (arith, more_exprs-few names scope d more, length-append (more_exprs_marks d more) ((sign sign_of.CloseParen after, d) ∷ []))
  library-few (s.Scan at before text comma amp x after) =
      omega (
        arith,
        length-append (index_lines names scope x) (target_lines names scope x),
        index-few names scope d x,
        target-few names scope x,
        length-append (target_marks d x) ((sign sign_of.CloseParen after, d) ∷ []),
      )
  library-few (s.Wait at before amp1 c comma amp2 m after) = omega (arith)
  library-few (s.Signal at before amp c after) = omega (arith)
  library-few (s.Broadcast at before amp c after) = omega (arith)

  simple-few : (x : s.Simple) → length (simple_lines names scope x) ≤ length (simple_marks d x)
  simple-few (s.PlainPart p) = plain-few p
  simple-few (s.SetCall x at call) =
      omega (
        arith,
        three (index_lines names scope x) (args_lines names scope call) (target_lines names scope x),
        index-few names scope d x,
        target-few names scope x,
        call-few names scope d call,
        length-append (target_marks d x) ((sign sign_of.Assign at, d) ∷ call_marks d call),
      )
  simple-few (s.OnlyCall call) = call-few names scope d call
  simple-few (s.LibraryPart l) = library-few l

-- ---- declarations

local_int-few : (names : Names) (scope : Scope) (d : ℕ) (x : local.LocalInt) → length (local_int_lines names scope x) ≤ length (local_int_marks d x)
local_int-few names scope d (local.OneLocal x) = omega (arith)
local_int-few names scope d (local.SetLocal x at v) = omega (arith, value-few names (declared x.text int scope) d v)
local_int-few names scope d (local.LocalArray x before n after) = omega (arith)

abbrev later_ints : ℕ → List (Spot × local.LocalInt) → List Mark
later_ints d = each (λ y. (sign sign_of.Comma y.0, d) ∷ local_int_marks d y.1)

later_ints-few : (names : Names) (scope : Scope) (d : ℕ) (more : List (Spot × local.LocalInt))
    → length (local_ints_lines names scope (map (λ y. y.1) more)) ≤ length (later_ints d more)
later_ints-few names scope d [] = omega (arith)
later_ints-few names scope d (x ∷ more) =
    let next : Scope = with_local (local_int_declared x.1) scope in
    omega (
      arith,
      length-append (local_int_lines names scope x.1) (local_ints_lines names next (map (λ (y : Spot × local.LocalInt). y.1) more)),
      local_int-few names scope d x.1,
      later_ints-few names next d more,
      length-append (local_int_marks d x.1) (later_ints d more),
    )

decl-few : (names : Names) (scope : Scope) (d : ℕ) (x : local.Decl) → length (decl_lines names scope x) ≤ length (decl_marks d x)
decl-few names scope d (local.Ints at x more) =
    let next : Scope = with_local (local_int_declared x) scope in
    omega (
      arith,
      length-append (local_int_lines names scope x) (local_ints_lines names next (map (λ (y : Spot × local.LocalInt). y.1) more)),
      local_int-few names scope d x,
      later_ints-few names next d more,
      length-append (local_int_marks d x) (later_ints d more),
    )
decl-few names scope d (local.Holds at x more) = omega (arith)

loop_int-few : (names : Names) (scope : Scope) (d : ℕ) (x : local.LoopInt) → length (loop_int_lines names scope x) ≤ length (loop_int_marks d x)
loop_int-few names scope d (local.OneLoop x) = omega (arith)
loop_int-few names scope d (local.SetLoop x at e) = omega (arith, expr-few names (declared x.text int scope) d e)

abbrev later_loops : ℕ → List (Spot × local.LoopInt) → List Mark
later_loops d = each (λ y. (sign sign_of.Comma y.0, d) ∷ loop_int_marks d y.1)

later_loops-few : (names : Names) (scope : Scope) (d : ℕ) (more : List (Spot × local.LoopInt))
    → length (loop_ints_lines names scope (map (λ y. y.1) more)) ≤ length (later_loops d more)
later_loops-few names scope d [] = omega (arith)
later_loops-few names scope d (x ∷ more) =
    let next : Scope = with_local (loop_int_declared x.1) scope in
    omega (
      arith,
      length-append (loop_int_lines names scope x.1) (loop_ints_lines names next (map (λ (y : Spot × local.LoopInt). y.1) more)),
      loop_int-few names scope d x.1,
      later_loops-few names next d more,
      length-append (loop_int_marks d x.1) (later_loops d more),
    )

first-few : (names : Names) (scope : Scope) (d : ℕ) (x : Option t.First) → length (first_lines names scope x) ≤ length (maybe [] (first_marks d) x)
first-few names scope d None = omega (arith)
first-few names scope d (Some (t.FirstInts at x more)) =
    let next : Scope = with_local (loop_int_declared x) scope in
    omega (
      arith,
      length-append (loop_int_lines names scope x) (loop_ints_lines names next (map (λ (y : Spot × local.LoopInt). y.1) more)),
      loop_int-few names scope d x,
      later_loops-few names next d more,
      length-append (loop_int_marks d x) (later_loops d more),
    )
first-few names scope d (Some (t.FirstPlain p)) = plain-few names scope d p

-- ---- conditions, steps and jumps

-- the tokens behind the expression that is guarded
guarded : (d : ℕ) (e : g.Expr) (behind : List Piece) → length (pieces d e) ≤ length (pieces d e ++ behind)
guarded d e behind = omega (arith, length-append (pieces d e) behind)

true_guard-pieces : (names : Names) (scope : Scope) (d : ℕ) (before : Spot) (e : g.Expr) (after also before2 : Spot) (guard : c.Guard) (after2 : Spot)
    → length (expr_lines names scope e) ≤ length (true_guard_pieces d (c.TrueGuardOf before e after also before2 guard after2))
true_guard-pieces names scope d before e after also before2 guard after2 =
    let close : List Piece = guard_pieces 1 (suc d) guard ++ plain (sign sign_of.CloseParen after2) (suc d) ∷ [] in
    let open_two : List Piece = plain (sign sign_of.OpenParen before2) (suc d) ∷ close in
    omega (
      arith,
      expr-pieces names scope (suc d) e,
      guarded (suc d) e (plain (sign sign_of.CloseParen after) (suc d) ∷ ((sign sign_of.AndAnd also, d, true) ∷ open_two)),
    )

cond-pieces : (names : Names) (scope : Scope) (d : ℕ) (x : c.Cond) → length (cond_lines names scope x) ≤ length (cond_pieces d x)
cond-pieces names scope d (c.Bare e) = expr-pieces names scope d e
cond-pieces names scope d (c.OnTrue (c.TrueGuardOf before e after also before2 guard after2)) =
    true_guard-pieces names scope d before e after also before2 guard after2
cond-pieces names scope d (c.OnFalse before e after or before2 guard after2) =
    let close : List Piece = guard_pieces 0 (suc d) guard ++ plain (sign sign_of.CloseParen after2) (suc d) ∷ [] in
    let open_two : List Piece = plain (sign sign_of.OpenParen before2) (suc d) ∷ close in
    omega (
      arith,
      expr-pieces names scope (suc d) e,
      guarded (suc d) e (plain (sign sign_of.CloseParen after) (suc d) ∷ ((sign sign_of.OrOr or, d, true) ∷ open_two)),
    )
cond-pieces names scope d (c.OnBoth before (c.TrueGuardOf before1 e after1 also before2 guard1 after2) after or before3 guard after3) =
    let close : List Piece = guard_pieces 0 (suc d) guard ++ plain (sign sign_of.CloseParen after3) (suc d) ∷ [] in
    let open_two : List Piece = plain (sign sign_of.OpenParen before3) (suc d) ∷ close in
    omega (
      arith,
      true_guard-pieces names scope (suc d) before1 e after1 also before2 guard1 after2,
      length-append (true_guard_pieces (suc d) (c.TrueGuardOf before1 e after1 also before2 guard1 after2)) (plain (sign sign_of.CloseParen after) (suc d) ∷ ((sign sign_of.OrOr or, d, true) ∷ open_two)),
    )

cond-few : (names : Names) (scope : Scope) (d : ℕ) (x : c.Cond) → length (cond_lines names scope x) ≤ length (cond_marks d x)
cond-few names scope d x = omega (arith, cond-pieces names scope d x, placed-length 0 (cond_pieces d x))

test-few : (names : Names) (scope : Scope) (d : ℕ) (x : Option c.Cond) → length (test_lines names scope x) ≤ length (maybe [] (cond_marks d) x)
test-few names scope d None = omega (arith)
test-few names scope d (Some x) = cond-few names scope d x

step-few : (names : Names) (scope : Scope) (d : ℕ) (x : Option t.LoopStep) → length (step_lines names scope x) ≤ length (maybe [] (loop_step_marks d) x)
step-few names scope d None = omega (arith)
step-few names scope d (Some (t.LoopStepOf p ops)) =
    omega (arith, plain-few names scope d p, length-append (plain_marks d p) (more_ops_marks d ops))

jump-few : (names : Names) (scope : Scope) (d : ℕ) (x : t.Jump) → length (jump_lines names scope x) ≤ length (jump_marks d x)
jump-few names scope d (t.BareJump b end) = omega (arith)
jump-few names scope d (t.ReturnValue at v end) =
    omega (arith, value-few names scope d v, length-append (value_marks d v) ((sign sign_of.Semicolon end, d) ∷ []))
jump-few names scope d (t.BareBlock before op end ops b end2 after) = omega (arith)
jump-few names scope d (t.ValueBlock before word_at name set v end op end2 ops return name2 end3 after) =
    let last : List Mark = (word word_of.Return return, suc d) ∷ ((word word_of.Value name2, suc d) ∷ ((sign sign_of.Semicolon end3, suc d) ∷ ((sign sign_of.CloseBrace after, suc d) ∷ []))) in
    let operations : List Mark = op_marks (suc d) op ++ ((sign sign_of.Semicolon end2, suc d) ∷ (ops_marks (suc d) ops ++ last)) in
    omega (
      arith,
      value-few names scope (suc d) v,
      length-append (value_marks (suc d) v) ((sign sign_of.Semicolon end, suc d) ∷ operations),
    )

-- ---- statements

mutual
  stmt-few : (names : Names) (scope : Scope) (d : ℕ) (st : t.Stmt) → length (stmt_lines names scope st) ≤ length (stmt_marks d st)
  stmt-few names scope d (t.Block before items after) =
      omega (arith, items-few names (entered scope) (suc d) items, length-append (items_marks (suc d) items) ((sign sign_of.CloseBrace after, suc d) ∷ []))
  stmt-few names scope d (t.Nothing end) = omega (arith)
  stmt-few names scope d (t.Simply x end ops) =
      omega (arith, simple-few names scope d x, length-append (simple_marks d x) ((sign sign_of.Semicolon end, d) ∷ ops_marks d ops))
  stmt-few names scope d (t.Jumps j) = jump-few names scope d j
  stmt-few names scope d (t.If at before x after st e) =
      omega (
        arith,
        three (cond_lines names scope x) (stmt_lines names (entered scope) st) (else_lines names (passed (stmt_locals st) scope) e),
        cond-few names scope (suc d) x,
        stmt-few names (entered scope) (suc d) st,
        else-few names (passed (stmt_locals st) scope) (suc d) e,
        length-append (stmt_marks (suc d) st) (else_marks (suc d) e),
        length-append (cond_marks (suc d) x) ((sign sign_of.CloseParen after, suc d) ∷ (stmt_marks (suc d) st ++ else_marks (suc d) e)),
      )
  stmt-few names scope d (t.While at before x after st) =
      omega (
        arith,
        length-append (cond_lines names scope x) (stmt_lines names (entered scope) st),
        cond-few names scope (suc d) x,
        stmt-few names (entered scope) (suc d) st,
        length-append (cond_marks (suc d) x) ((sign sign_of.CloseParen after, suc d) ∷ stmt_marks (suc d) st),
      )
  stmt-few names scope d (t.For at before first end x end2 step after st) =
      let here : Scope = in_for first scope in
      let e : ℕ = suc (suc d) in
      let body : List Mark = stmt_marks e st in
      let stepping : List Mark = maybe [] (loop_step_marks e) step ++ ((sign sign_of.CloseParen after, e) ∷ body) in
      let testing : List Mark = maybe [] (cond_marks e) x ++ ((sign sign_of.Semicolon end2, e) ∷ stepping) in
      omega (
        arith,
        length-append (first_lines names (entered scope) first) (test_lines names here x ++ (step_lines names here step ++ stmt_lines names (entered here) st)),
        three (test_lines names here x) (step_lines names here step) (stmt_lines names (entered here) st),
        first-few names (entered scope) e first,
        test-few names here e x,
        step-few names here e step,
        stmt-few names (entered here) e st,
        length-append (maybe [] (loop_step_marks e) step) ((sign sign_of.CloseParen after, e) ∷ body),
        length-append (maybe [] (cond_marks e) x) ((sign sign_of.Semicolon end2, e) ∷ stepping),
        length-append (maybe [] (first_marks e) first) ((sign sign_of.Semicolon end, e) ∷ testing),
      )

  else-few : (names : Names) (scope : Scope) (d : ℕ) (e : t.Else) → length (else_lines names scope e) ≤ length (else_marks d e)
  else-few names scope d t.NoElse = omega (arith)
  else-few names scope d (t.ElseDo at st) = omega (arith, stmt-few names (entered scope) d st)

  items-few : (names : Names) (scope : Scope) (d : ℕ) (items : t.Items) → length (items_lines names scope items) ≤ length (items_marks d items)
  items-few names scope d t.NoItems = omega (arith)
  items-few names scope d (t.AndItem i more) =
      omega (
        arith,
        length-append (item_lines names scope i) (items_lines names (item_after scope i) more),
        item-few names scope d i,
        items-few names (item_after scope i) d more,
        length-append (item_marks d i) (items_marks d more),
      )

  item-few : (names : Names) (scope : Scope) (d : ℕ) (i : t.Item) → length (item_lines names scope i) ≤ length (item_marks d i)
  item-few names scope d (t.Declares decl end ops) =
      omega (arith, decl-few names scope d decl, length-append (decl_marks d decl) ((sign sign_of.Semicolon end, d) ∷ ops_marks d ops))
  item-few names scope d (t.Does st) = stmt-few names scope d st

-- ---- files

top-few : (names : Names) (x : f.Top) → length (top_lines names x) ≤ length (top_marks x)
top-few names (f.Include at name header) = omega (arith)
top-few names (f.Define at name x value) = omega (arith)
top-few names (f.Variables qualifiers globals end) = omega (arith)
top-few names (f.Prototype head end) = omega (arith)
top-few names (f.Function head before ops items after) =
    let last : List Mark = (sign sign_of.CloseBrace after, 0) ∷ [] in
    omega (
      arith,
      items-few names (body_scope head) 0 items,
      length-append (items_marks 0 items) last,
      length-append (ops_marks 0 ops) (items_marks 0 items ++ last),
      length-append (head_marks head) ((sign sign_of.OpenBrace before, 0) ∷ (ops_marks 0 ops ++ (items_marks 0 items ++ last))),
    )

-- the lines of the accesses of a file are no more than its tokens
pub lines-few : (names : Names) (file : f.File) → length (each (top_lines names) file) ≤ length (file_marks file)
lines-few names [] = omega (arith)
lines-few names (x ∷ more) =
    omega (
      arith,
      length-append (top_lines names x) (each (top_lines names) more),
      top-few names x,
      lines-few names more,
      length-append (top_marks x) (file_marks more),
    )
