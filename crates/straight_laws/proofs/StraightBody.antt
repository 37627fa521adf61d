-- The statements of a straight-line program, and its main, keep the rules.
use Rattle.std.proofs.Common.{◌≡◌, ℕ, zero, suc, ◌+◌, ◌≤◌, Bool, true, false, not, ◌&&◌, ◌||◌, List, [], ◌∷◌, ◌++◌, length, slice_get, ◌==◌, Option, Some, None, is_some, is_none, subst, refl, ap, sym, ◌∙◌, arith, option_map}
use Rattle.std.specs.List.{list_all}
use Rattle.std.specs.Cmp.Derive.{both_true}
use Rattle.std.proofs.lemmas.Bool.{and_parts}
use Rattle.std.proofs.lemmas.Grind.{common_steps}
use Rattle.cfix_base.specs.declared.op.Op.{Op}
use Rattle.c_prog.specs.declared.access_item.Touch.{Touch}
use Rattle.c_prog.specs.declared.act.Act.{Act}
use Rattle.c_prog.specs.declared.act.Act.TheVariants.{Declare, Assign, Up, Down, Call, Create, Join, Lock, Unlock, Print, Scan, Wait, Signal, Broadcast}
use Rattle.c_prog.specs.declared.act.How.TheVariants.{Set, Add, Sub, Mul, Div, Rem}
use Rattle.c_prog.specs.declared.act.Value.TheVariants as value
use Rattle.c_prog.specs.declared.expr.Expr.{Expr}
use Rattle.c_prog.specs.declared.expr.Expr.TheOpen.{Expr-F}
use Rattle.c_prog.specs.declared.expr.Expr.TheViews.{out-Expr}
use Rattle.c_prog.specs.declared.expr.Expr.TheFolds.{fold_out-Expr, fold-Target, map-Expr}
use Rattle.c_prog.specs.declared.expr.Target.{Target}
use Rattle.c_prog.specs.declared.expr.Var.{Var}
use Rattle.c_prog.specs.declared.expr.Var.TheVariants.{Global, Local}
use Rattle.c_prog.specs.declared.function.FnKind.{FnKind}
use Rattle.c_prog.specs.declared.function.FnKind.TheVariants as fn_kind
use Rattle.c_prog.specs.declared.global.Global as global_struct
use Rattle.c_prog.specs.declared.global.GlobalKind.{GlobalKind}
use Rattle.c_prog.specs.declared.global.GlobalKind.TheVariants as global_kind
use Rattle.c_prog.specs.declared.stmt.Stmt.{Stmt}
use Rattle.c_prog.specs.declared.stmt.Stmt.TheOpen.{Stmt-F}
use Rattle.c_prog.specs.declared.stmt.Stmt.TheViews.{out-Stmt}
use Rattle.c_prog.specs.declared.stmt.Stmt.TheFolds.{fold_out-Stmt, fold-Stmt, map-Stmt}
use Rattle.c_prog.specs.Order.{act, order_of, order_level}
use Rattle.cfix_base.specs.declared.access.Access.TheVariants.{Read}
use Rattle.c_prog.specs.Accesses.{index_accesses, touched, expr_accesses, read_accesses, act_accesses, touches_of, expr_level, target_level}
use Rattle.straight_laws.specs.Straight.{begins_with_zero, is_one_of, is_scalar, straight_expr_level, straight_target_level, is_straight_expr, is_straight_act, straight_level, is_straight_stmt}
use Rattle.c_prog.specs.Valid.Scope.{VarKind, int, Scope, passed}
use Rattle.c_prog.specs.Valid.Kinds.{File, global_seen, kind_here}
use Rattle.c_prog.specs.Valid.Expressions.{Use, expr_rules, target_rules, is_valid_expr, use_of, is_int_target, is_int_use, is_main_name, is_int_kind}
use Rattle.c_prog.specs.Valid.Acts.{is_valid_act}
use Rattle.c_prog.specs.Valid.Statements.{Around, stmt_rules, parts_of, all_valid, also_declared, declares}
use Rattle.c_prog.specs.Valid.Operations.{are_valid_ops, ops_level, have_valid_ops}
use Rattle.c_prog.specs.Valid.Falls.{falls_through}
use Rattle.c_prog.specs.Valid.Locals.{act_locals, locals_level, locals_of}
use Rattle.c_prog.specs.Valid.Functions.{is_valid_function}
use Rattle.c_prog.proofs.ValidEquations.{use-is}
use Rattle.c_prog.proofs.Equations.{read-is}
use Rattle.straight_laws.proofs.StraightEquations.{scalar-is}

left : (a b : Bool) → (a && b) ≡ true → a ≡ true
left a b h = (and_parts a b h).0

right : (a b : Bool) → (a && b) ≡ true → b ≡ true
right a b h = (and_parts a b h).1

-- no local is declared, and so many were
abbrev bare : ℕ → Scope
bare count = record { block = []; around = []; count = count }

-- what is known of the globals
abbrev pub Zeros : List global_struct.Global → Type 0
Zeros globals = list_all (λ global. begins_with_zero global.kind) globals ≡ true

kind-seen : (count : ℕ) (g : global_struct.Global) → begins_with_zero g.kind ≡ true → global_seen (bare count) (Some g) ≡ Some int
kind-seen count g h = by g.kind h
  where
    by : (kind : GlobalKind) → begins_with_zero kind ≡ true
        → global_seen (bare count) (Some (record { name = g.name; kind = kind })) ≡ Some int
    by (global_kind.Int number) h = refl
    by (global_kind.IntArray n) h = cc
    by global_kind.Thread h = cc
    by (global_kind.ThreadArray n) h = cc
    by global_kind.Mutex h = cc
    by global_kind.Cond h = cc

seen : (count : ℕ) (globals : List global_struct.Global) → Zeros globals → (n : ℕ) → is_some (slice_get globals n) ≡ true
    → global_seen (bare count) (slice_get globals n) ≡ Some int
seen count [] zeros n there = cc
seen count (g ∷ globals) zeros zero there = kind-seen count g (left (begins_with_zero g.kind) (list_all (λ global. begins_with_zero global.kind) globals) zeros)
seen count (g ∷ globals) zeros (suc n) there =
    seen count globals (right (begins_with_zero g.kind) (list_all (λ global. begins_with_zero global.kind) globals) zeros) n there

module _ (file : File) (zeros : Zeros file.globals) where
  kind-var : (count : ℕ) (v : Var) → is_one_of file.globals v ≡ true → kind_here file (bare count) v ≡ Some int
  kind-var count (Global id) h = seen count file.globals zeros id.number h
  kind-var count (Local n) h = cc

  int-use : (k : Option VarKind) (i : Option Expr) → k ≡ Some int → is_none i ≡ true → (f : Expr → Bool) → is_int_use k (option_map f i) ≡ true
  int-use k None is none f = ap (λ k. is_int_use k None) is
  int-use k (Some e) is none f = cc

  target : (count : ℕ) (t : Target) → is_scalar file.globals t ≡ true → is_int_target file (bare count) t ≡ true
  target count t h =
      ap (λ (u : Use). is_int_use u.kind u.index) (use-is file (bare count) t)
      ∙ int-use (kind_here file (bare count) t.var) t.index
      (kind-var count t.var (right (is_none t.index) (is_one_of file.globals t.var) h))
      (left (is_none t.index) (is_one_of file.globals t.var) h) (is_valid_expr file (bare count))

  -- what a level gives at an expression that is opened
  straight-is : (e : Expr) (y : Expr-F Expr Target) → out-Expr e ≡ y
      → is_straight_expr file.globals e
      ≡ straight_expr_level (map-Expr Expr Target Bool Bool (is_straight_expr file.globals)
      (fold-Target Bool Bool straight_expr_level (straight_target_level file.globals)) y)
  straight-is e y is = rw is at (fold_out-Expr Bool Bool straight_expr_level (straight_target_level file.globals) e)

  valid-is : (count : ℕ) (e : Expr) (y : Expr-F Expr Target) → out-Expr e ≡ y
      → is_valid_expr file (bare count) e
      ≡ expr_rules file (bare count) (map-Expr Expr Target Bool Use (is_valid_expr file (bare count)) (use_of file (bare count)) y)
  valid-is count e y is = rw is at (fold_out-Expr Bool Use (expr_rules file (bare count)) (target_rules file (bare count)) e)

  expression : (count : ℕ) (e : Expr) → is_straight_expr file.globals e ≡ true → is_valid_expr file (bare count) e ≡ true
  expression count e h = by (out-Expr e) refl
    where
      by : (y : Expr-F Expr Target) → out-Expr e ≡ y → is_valid_expr file (bare count) e ≡ true
      by (Expr-F.Number n) is = valid-is count e (Expr-F.Number n) is ∙ sym (straight-is e (Expr-F.Number n) is) ∙ h
      by (Expr-F.Read t) is =
          valid-is count e (Expr-F.Read t) is
          ∙ target count t (sym (scalar-is file.globals t) ∙ sym (straight-is e (Expr-F.Read t) is) ∙ h)
      by (Expr-F.Cast n) is = let q : false ≡ true = sym (straight-is e (Expr-F.Cast n) is) ∙ h in cc
      by (Expr-F.Neg a) is = let q : false ≡ true = sym (straight-is e (Expr-F.Neg a) is) ∙ h in cc
      by (Expr-F.Not a) is = let q : false ≡ true = sym (straight-is e (Expr-F.Not a) is) ∙ h in cc
      by (Expr-F.Binary op a b) is = let q : false ≡ true = sym (straight-is e (Expr-F.Binary op a b) is) ∙ h in cc

  few-read : (v : Var) (i : Option Expr) → is_none i ≡ true → length (index_accesses i ++ touched Read v) ≤ 1
  few-read (Global id) None none = omega arith
  few-read (Local n) None none = omega arith
  few-read v (Some e) none = cc

  -- a straight-line expression has at most one access
  few-expression : (e : Expr) → is_straight_expr file.globals e ≡ true → length (expr_accesses e) ≤ 1
  few-expression e h = by (out-Expr e) refl
    where
      accesses-is : (y : Expr-F Expr Target) → out-Expr e ≡ y
          → expr_accesses e ≡ expr_level (map-Expr Expr Target (List Touch) (List Touch) expr_accesses read_accesses y)
      accesses-is y is = rw is at (fold_out-Expr (List Touch) (List Touch) expr_level target_level e)

      by : (y : Expr-F Expr Target) → out-Expr e ≡ y → length (expr_accesses e) ≤ 1
      by (Expr-F.Number n) is = subst (λ touched. length touched ≤ 1) (sym (accesses-is (Expr-F.Number n) is)) (omega arith)
      by (Expr-F.Read t) is =
          subst (λ touched. length touched ≤ 1) (sym (accesses-is (Expr-F.Read t) is ∙ read-is t))
          (few-read t.var t.index (left (is_none t.index) (is_one_of file.globals t.var)
          (sym (scalar-is file.globals t) ∙ sym (straight-is e (Expr-F.Read t) is) ∙ h)))
      by (Expr-F.Cast n) is = let q : false ≡ true = sym (straight-is e (Expr-F.Cast n) is) ∙ h in cc
      by (Expr-F.Neg a) is = let q : false ≡ true = sym (straight-is e (Expr-F.Neg a) is) ∙ h in cc
      by (Expr-F.Not a) is = let q : false ≡ true = sym (straight-is e (Expr-F.Not a) is) ∙ h in cc
      by (Expr-F.Binary op a b) is = let q : false ≡ true = sym (straight-is e (Expr-F.Binary op a b) is) ∙ h in cc

  -- What is known of what a straight-line statement does.
  record Plain (a : Act) : Type 0 where
    valid : (count : ℕ) → is_valid_act file (bare count) a ≡ true
    nothing : declares a ≡ None
    none : act_locals a ≡ []
    few : length (act_accesses a) ≤ 2

  few-assign : (v : Var) (i : Option Expr) (e : Expr) → is_none i ≡ true → length (expr_accesses e) ≤ 1
      → length (act_accesses (Assign (record { var = v; index = i }) Set (value.Expr e))) ≤ 2
  few-assign (Global id) None e none few = grind (arith, common_steps, few)
  few-assign (Local n) None e none few = grind (arith, common_steps, few)
  few-assign v (Some i) e none few = cc

  few-up : (v : Var) (i : Option Expr) → is_none i ≡ true → length (act_accesses (Up (record { var = v; index = i }))) ≤ 2
  few-up (Global id) None none = omega arith
  few-up (Local n) None none = omega arith
  few-up v (Some i) none = cc

  plain : (a : Act) → is_straight_act file.globals a ≡ true → Plain a
  plain (Assign t Set (value.Expr e)) h =
      let scalar = left (is_scalar file.globals t) (is_straight_expr file.globals e) h in
      let straight = right (is_scalar file.globals t) (is_straight_expr file.globals e) h in
      record {
        valid = λ count. both_true (target count t scalar) (expression count e straight);
        nothing = refl;
        none = refl;
        few = few-assign t.var t.index e (left (is_none t.index) (is_one_of file.globals t.var) scalar) (few-expression e straight);
      }
  plain (Up t) h = record {
    valid = λ count. target count t h;
    nothing = refl;
    none = refl;
    few = few-up t.var t.index (left (is_none t.index) (is_one_of file.globals t.var) h);
  }
  plain (Assign t Set (value.Call c)) h = cc
  plain (Assign t Add v) h = cc
  plain (Assign t Sub v) h = cc
  plain (Assign t Mul v) h = cc
  plain (Assign t Div v) h = cc
  plain (Assign t Rem v) h = cc
  plain (Declare name kind initial) h = cc
  plain (Down t) h = cc
  plain (Call c) h = cc
  plain (Create t f arg) h = cc
  plain (Join t) h = cc
  plain (Lock m) h = cc
  plain (Unlock m) h = cc
  plain (Print text args) h = cc
  plain (Scan t) h = cc
  plain (Wait c m) h = cc
  plain (Signal c) h = cc
  plain (Broadcast c) h = cc

  -- A straight-line statement, opened.
  record Opened (s : Stmt) : Type 0 where
    does : Act
    ops : List Op
    is : out-Stmt s ≡ Stmt-F.Simple does ops
    straight : is_straight_act file.globals does ≡ true
    fit : are_valid_ops ops ≡ true

  opened : (s : Stmt) → is_straight_stmt file.globals s ≡ true → Opened s
  opened s h = by (out-Stmt s) refl
    where
      level-is : (y : Stmt-F Stmt) → out-Stmt s ≡ y
          → is_straight_stmt file.globals s ≡ straight_level file.globals (map-Stmt Stmt Bool (is_straight_stmt file.globals) y)
      level-is y is = rw is at (fold_out-Stmt Bool (straight_level file.globals) s)

      by : (y : Stmt-F Stmt) → out-Stmt s ≡ y → Opened s
      by (Stmt-F.Simple a ops) is =
          let q : (is_straight_act file.globals a && are_valid_ops ops) ≡ true = sym (level-is (Stmt-F.Simple a ops) is) ∙ h in
          record {
            does = a;
            ops = ops;
            is = is;
            straight = left (is_straight_act file.globals a) (are_valid_ops ops) q;
            fit = right (is_straight_act file.globals a) (are_valid_ops ops) q;
          }
      by (Stmt-F.Jump j ops) is = let q : false ≡ true = sym (level-is (Stmt-F.Jump j ops) is) ∙ h in cc
      by (Stmt-F.If c x y) is = let q : false ≡ true = sym (level-is (Stmt-F.If c x y) is) ∙ h in cc
      by (Stmt-F.Loop c t x) is = let q : false ≡ true = sym (level-is (Stmt-F.Loop c t x) is) ∙ h in cc
      by (Stmt-F.Block x) is = let q : false ≡ true = sym (level-is (Stmt-F.Block x) is) ∙ h in cc

  -- a fold over an opened statement
  folded : {A : Type 0} (f : Stmt-F A → A) (s : Stmt) (o : Opened s) → fold-Stmt A f s ≡ f (Stmt-F.Simple o.does o.ops)
  folded {A} f s o = rw o.is at (fold_out-Stmt A f s)

  abbrev Straight : List Stmt → Type 0
  Straight body = list_all (is_straight_stmt file.globals) body ≡ true

  first : (s : Stmt) (body : List Stmt) → Straight (s ∷ body) → Opened s
  first s body h = opened s (left (is_straight_stmt file.globals s) (list_all (is_straight_stmt file.globals) body) h)

  others : (s : Stmt) (body : List Stmt) → Straight (s ∷ body) → Straight body
  others s body h = right (is_straight_stmt file.globals s) (list_all (is_straight_stmt file.globals) body) h

  pub valid-along : (body : List Stmt) → Straight body → (around : Around) (count : ℕ)
      → all_valid (parts_of file body) around (bare count) ≡ true
  valid-along [] h around count = refl
  valid-along (s ∷ body) h around count =
      let o = first s body h in
      let p = plain o.does o.straight in
      ap (λ part. all_valid (part ∷ parts_of file body) around (bare count)) (folded (stmt_rules file) s o)
      ∙ both_true (p.valid count)
      (ap (λ local. all_valid (parts_of file body) around (passed 0 (also_declared local (bare count)))) p.nothing
      ∙ valid-along body (others s body h) around (count + 0))

  pub ops-along : (body : List Stmt) → Straight body → have_valid_ops body ≡ true
  ops-along [] h = refl
  ops-along (s ∷ body) h =
      let o = first s body h in
      both_true (folded ops_level s o ∙ o.fit) (ops-along body (others s body h))

  pub locals-along : (body : List Stmt) → Straight body → locals_of body ≡ []
  locals-along [] h = refl
  locals-along (s ∷ body) h =
      let o = first s body h in
      let p = plain o.does o.straight in
      ap (λ kinds. kinds ++ locals_of body) (folded locals_level s o ∙ p.none) ∙ locals-along body (others s body h)

  pub few-along : (body : List Stmt) → Straight body → (n : ℕ) → length (touches_of (slice_get (order_of body) n)) ≤ 2
  few-along [] h n = omega arith
  few-along (s ∷ body) h n =
      let o = first s body h in
      subst (λ nodes. length (touches_of (slice_get (nodes ++ order_of body) n)) ≤ 2) (sym (folded order_level s o))
      (by o (few-along body (others s body h)) n)
    where
      by : (o : Opened s) → ((n : ℕ) → length (touches_of (slice_get (order_of body) n)) ≤ 2)
          → (n : ℕ) → length (touches_of (slice_get (act o.does o.ops ∷ order_of body) n)) ≤ 2
      by o more zero = (plain o.does o.straight).few
      by o more (suc n) = more n

  -- main with a straight-line body
  pub main-valid : (name : List ℕ) (kind : FnKind) (params : List (List ℕ)) (start : List Op) (body : List Stmt)
      → is_main_name name ≡ true → is_int_kind kind ≡ true → (length params == 0) ≡ true → Straight body
      → is_valid_function file (record { name = name; kind = kind; params = params; start = start; body = body }) ≡ true
  main-valid name fn_kind.Int [] start body named gives none straight =
      both_true (valid-along body straight (record { kind = fn_kind.Int; in_loop = false }) 0)
      (ap (λ b. b || not (falls_through body)) named)
  main-valid name fn_kind.Int (param ∷ params) start body named gives none straight = grind (arith, common_steps, none)
  main-valid name fn_kind.Void params start body named gives none straight = cc
  main-valid name fn_kind.Thread params start body named gives none straight = cc
