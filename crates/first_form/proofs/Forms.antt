-- What the first form of a program gives, variant by variant, and what a statement of the first form is.
use Rattle.std.proofs.Common.{◌≡◌, ℕ, zero, suc, ℤ, true, nat_lt, List, [], ◌∷◌, length, slice_get, Option, Some, None, is_some, option_map, if◌then◌else◌, subst, ap, sym, ◌∙◌, refl, arith}
use Rattle.std.specs.Cmp.Derive.{both_true}
use Rattle.cfix_base.specs.declared.number.VarId.{VarId}
use Rattle.cfix_base.specs.declared.op.Op.{Op}
use Rattle.c_prog.specs.declared.act.Act.{Act}
use Rattle.c_prog.specs.declared.act.Act.TheVariants.{Declare, Assign, Up, Down, Call, Create, Join, Lock, Unlock, Print, Scan, Wait, Signal, Broadcast}
use Rattle.c_prog.specs.declared.act.How.TheVariants.{Set, Add, Sub, Mul, Div, Rem}
use Rattle.c_prog.specs.declared.act.Value.TheVariants as value
use Rattle.c_prog.specs.declared.expr.Expr.{Expr}
use Rattle.c_prog.specs.declared.expr.Expr.TheVariants as expr
use Rattle.c_prog.specs.declared.expr.Expr.TheOpen.{Expr-F}
use Rattle.c_prog.specs.declared.expr.Expr.TheViews.{out-Expr, roll-Expr, roll-out-Expr}
use Rattle.c_prog.specs.declared.expr.Expr.TheFolds.{fold_out-Expr, fold_out-Target, fold-Target, map-Expr}
use Rattle.c_prog.specs.declared.expr.Target.{Target}
use Rattle.c_prog.specs.declared.expr.Var.{Var}
use Rattle.c_prog.specs.declared.expr.Var.TheVariants.{Global, Local}
use Rattle.c_prog.specs.declared.global.Global as global_struct
use Rattle.c_prog.specs.declared.stmt.Stmt.{Stmt}
use Rattle.c_prog.specs.declared.stmt.Stmt.TheVariants as stmt
use Rattle.c_prog.specs.declared.stmt.Stmt.TheOpen.{Stmt-F}
use Rattle.c_prog.specs.declared.stmt.Stmt.TheViews.{out-Stmt, roll-Stmt, roll-out-Stmt}
use Rattle.c_prog.specs.declared.stmt.Stmt.TheFolds.{fold_out-Stmt, map-Stmt}
use Rattle.c_prog.specs.Patched.{has_some}
use Rattle.straight_laws.specs.Straight.{is_scalar, is_straight_expr, is_straight_act}
use Rattle.c_prog.specs.Valid.Expressions.{is_number}
use Rattle.straight_laws.proofs.StraightEquations.{straight-Number, straight-Read}
use Rattle.first_form.specs.declared.plain.Given.{Given}
use Rattle.first_form.specs.declared.plain.Given.TheVariants as given
use Rattle.first_form.specs.declared.plain.Plain.{Plain}
use Rattle.first_form.specs.declared.plain.Plain.TheVariants as plain
use Rattle.first_form.specs.Form.{without_index, scalar, number_given, given_level, given_target, given_by, assigned, assigned_by, plain_act, plain_level, plain_of, target_of, act_of}
use Rattle.first_form.proofs.Options.{some-is, if-some, bind-some}

scalar-at : (count : ℕ) (v : Var) (i : Option Expr)
    → fold-Target (Option Given) (Option VarId) given_level (given_target count) (record { var = v; index = i })
    ≡ scalar count (record { var = v; index = i })
scalar-at count v None =
    fold_out-Target (Option Given) (Option VarId) given_level (given_target count) (record { var = v; index = None }) ∙ refl
scalar-at count v (Some e) =
    fold_out-Target (Option Given) (Option VarId) given_level (given_target count) (record { var = v; index = Some e }) ∙ refl

-- what is read
pub read_scalar : (count : ℕ) (t : Target)
    → fold-Target (Option Given) (Option VarId) given_level (given_target count) t ≡ scalar count t
read_scalar count t = scalar-at count t.var t.index

map-some : {X Y : Type 0} (f : X → Y) (o : Option X) (y : Y) → option_map f o ≡ Some y → (x : X) × (o ≡ Some x) × (f x ≡ y)
map-some f None y e = cc
map-some f (Some x) y e = (x, refl, some-is (f x) y e)

pub there : {X : Type 0} (xs : List X) (n : ℕ) → nat_lt n (length xs) ≡ true → is_some (slice_get xs n) ≡ true
there [] n h = grind (arith, h)
there (x ∷ xs) zero h = refl
there (x ∷ xs) (suc n) h = there xs n (grind (arith, h))

module _ (globals : List global_struct.Global) where
  abbrev count : ℕ
  count = length globals

  record Scalar (t : Target) (id : VarId) : Type 0 where
    is : t ≡ target_of id
    straight : is_scalar globals t ≡ true

  scalar-of : (v : Var) (i : Option Expr) (id : VarId) → without_index count i v ≡ Some id → Scalar (record { var = v; index = i }) id
  scalar-of (Global g) None id e =
      let w = if-some (nat_lt g.number count) (Some g) id e in
      let same : g ≡ id = some-is g id w.1 in record {
        is = ap target_of same;
        straight = there globals g.number w.0;
      }
  scalar-of (Local n) None id e = cc
  scalar-of v (Some i) id e = cc

  scalar-is : (t : Target) (id : VarId) → scalar count t ≡ Some id → Scalar t id
  scalar-is t id e = scalar-of t.var t.index id e

  abbrev given_expr : Given → Expr
  given_expr (given.Number n) = expr.Number n
  given_expr (given.Variable id) = expr.Read (target_of id)

  record GivenBy (e : Expr) (g : Given) : Type 0 where
    is : e ≡ given_expr g
    straight : is_straight_expr globals e ≡ true

  number-is : (n : ℤ) (g : Given) → number_given n ≡ Some g → GivenBy (expr.Number n) g
  number-is n g e =
      let w = if-some (is_number n) (Some (given.Number n)) g e in
      let same : given.Number n ≡ g = some-is (given.Number n) g w.1 in record {
        is = ap given_expr same;
        straight = straight-Number globals n ∙ w.0;
      }

  read-is : (t : Target) (g : Given) → option_map given.Variable (scalar count t) ≡ Some g → GivenBy (expr.Read t) g
  read-is t g e =
      let w = map-some given.Variable (scalar count t) g e in
      let s = scalar-is t w.0 w.1 in record {
        is = ap expr.Read s.is ∙ ap given_expr w.2;
        straight = straight-Read globals t ∙ s.straight;
      }

  given-is : (e : Expr) (g : Given) → given_by count e ≡ Some g → GivenBy e g
  given-is e g h = by (out-Expr e) refl
    where
      level-is : (y : Expr-F Expr Target) → out-Expr e ≡ y
          → given_by count e ≡ given_level (map-Expr Expr Target (Option Given) (Option VarId) (given_by count)
          (fold-Target (Option Given) (Option VarId) given_level (given_target count)) y)
      level-is y is = rw is at (fold_out-Expr (Option Given) (Option VarId) given_level (given_target count) e)

      opened : (y : Expr-F Expr Target) → out-Expr e ≡ y → e ≡ roll-Expr y
      opened y is = sym (roll-out-Expr e) ∙ ap roll-Expr is

      back : (x : Expr) → e ≡ x → GivenBy x g → GivenBy e g
      back x same = subst (λ z. GivenBy z g) (sym same)

      by : (y : Expr-F Expr Target) → out-Expr e ≡ y → GivenBy e g
      by (Expr-F.Number n) is =
          back (expr.Number n) (opened (Expr-F.Number n) is ∙ expr.rolls-Number n)
          (number-is n g (sym (level-is (Expr-F.Number n) is) ∙ h))
      by (Expr-F.Read t) is =
          back (expr.Read t) (opened (Expr-F.Read t) is ∙ expr.rolls-Read t)
          (read-is t g (ap (option_map given.Variable) (sym (read_scalar count t)) ∙ sym (level-is (Expr-F.Read t) is) ∙ h))
      by (Expr-F.Cast n) is = let q : None ≡ Some g = sym (level-is (Expr-F.Cast n) is) ∙ h in cc
      by (Expr-F.Neg a) is = let q : None ≡ Some g = sym (level-is (Expr-F.Neg a) is) ∙ h in cc
      by (Expr-F.Not a) is = let q : None ≡ Some g = sym (level-is (Expr-F.Not a) is) ∙ h in cc
      by (Expr-F.Binary op a b) is = let q : None ≡ Some g = sym (level-is (Expr-F.Binary op a b) is) ∙ h in cc

  -- What a simple statement of the first form is.
  record Does (a : Act) (p : Plain) : Type 0 where
    is : a ≡ act_of p
    straight : is_straight_act globals a ≡ true

  set : (t : Target) (e : Expr) (to : VarId) (g : Given) → Scalar t to → GivenBy e g → (p : Plain) → assigned to g ≡ p
      → Does (Assign t Set (value.Expr e)) p
  set t e to (given.Number n) s v p same = record {
    is = ap (λ z. Assign z Set (value.Expr e)) s.is ∙ ap (λ z. Assign (target_of to) Set (value.Expr z)) v.is ∙ ap act_of same;
    straight = both_true s.straight v.straight;
  }
  set t e to (given.Variable id) s v p same = record {
    is = ap (λ z. Assign z Set (value.Expr e)) s.is ∙ ap (λ z. Assign (target_of to) Set (value.Expr z)) v.is ∙ ap act_of same;
    straight = both_true s.straight v.straight;
  }

  act-is : (a : Act) (p : Plain) → plain_act count a ≡ Some p → Does a p
  act-is (Assign t Set (value.Expr e)) p h =
      let w = bind-some (assigned_by count e) (scalar count t) p h in
      let v = map-some (assigned w.0) (given_by count e) p w.2 in
      set t e w.0 v.0 (scalar-is t w.0 w.1) (given-is e v.0 v.1) p v.2
  act-is (Up t) p h =
      let w = map-some plain.Up (scalar count t) p h in
      let s = scalar-is t w.0 w.1 in record {
        is = ap Up s.is ∙ ap act_of w.2;
        straight = s.straight;
      }
  act-is (Assign t Set (value.Call c)) p h = cc
  act-is (Assign t Add v) p h = cc
  act-is (Assign t Sub v) p h = cc
  act-is (Assign t Mul v) p h = cc
  act-is (Assign t Div v) p h = cc
  act-is (Assign t Rem v) p h = cc
  act-is (Declare name kind initial) p h = cc
  act-is (Down t) p h = cc
  act-is (Call c) p h = cc
  act-is (Create t f arg) p h = cc
  act-is (Join t) p h = cc
  act-is (Lock m) p h = cc
  act-is (Unlock m) p h = cc
  act-is (Print text args) p h = cc
  act-is (Scan t) p h = cc
  act-is (Wait c m) p h = cc
  act-is (Signal c) p h = cc
  act-is (Broadcast c) p h = cc

  -- What a statement of the first form is.
  pub record Is (s : Stmt) (p : Plain) : Type 0 where
    pub is : s ≡ stmt.Simple (act_of p) []
    pub straight : is_straight_act globals (act_of p) ≡ true

  simple-is : (a : Act) (ops : List Op) (p : Plain) → (if has_some ops then None else plain_act count a) ≡ Some p → Is (stmt.Simple a ops) p
  simple-is a [] p h =
      let d = act-is a p h in record {
        is = ap (λ z. stmt.Simple z []) d.is;
        straight = subst (λ z. is_straight_act globals z ≡ true) d.is d.straight;
      }
  simple-is a (op ∷ ops) p h = cc

  pub stmt-is : (s : Stmt) (p : Plain) → plain_of count s ≡ Some p → Is s p
  stmt-is s p h = by (out-Stmt s) refl
    where
      level-is : (y : Stmt-F Stmt) → out-Stmt s ≡ y
          → plain_of count s ≡ plain_level count (map-Stmt Stmt (Option Plain) (plain_of count) y)
      level-is y is = rw is at (fold_out-Stmt (Option Plain) (plain_level count) s)

      by : (y : Stmt-F Stmt) → out-Stmt s ≡ y → Is s p
      by (Stmt-F.Simple a ops) is =
          let same : s ≡ stmt.Simple a ops = sym (roll-out-Stmt s) ∙ ap roll-Stmt is ∙ stmt.rolls-Simple a ops in
          subst (λ z. Is z p) (sym same) (simple-is a ops p (sym (level-is (Stmt-F.Simple a ops) is) ∙ h))
      by (Stmt-F.Jump j ops) is = let q : None ≡ Some p = sym (level-is (Stmt-F.Jump j ops) is) ∙ h in cc
      by (Stmt-F.If c x y) is = let q : None ≡ Some p = sym (level-is (Stmt-F.If c x y) is) ∙ h in cc
      by (Stmt-F.Loop c t x) is = let q : None ≡ Some p = sym (level-is (Stmt-F.Loop c t x) is) ∙ h in cc
      by (Stmt-F.Block x) is = let q : None ≡ Some p = sym (level-is (Stmt-F.Block x) is) ∙ h in cc
