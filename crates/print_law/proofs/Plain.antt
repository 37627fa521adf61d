-- Programs as plain data: the same trees as those of c_prog, over which definitions go by clauses.
use Rattle.std.proofs.Common.{◌≡◌, ℕ, ℤ, List, [], ◌∷◌, map, Option, Some, None, refl, ap, sym, ◌∙◌, subst}
use Rattle.cfix_base.specs.declared.op.Op.{Op}
use Rattle.c_prog.specs.declared.act.Act.{Act}
use Rattle.c_prog.specs.declared.expr.BinOp.{BinOp}
use Rattle.c_prog.specs.declared.expr.Expr as source
use Rattle.c_prog.specs.declared.expr.Expr.TheVariants as expr
use Rattle.c_prog.specs.declared.expr.Expr.TheViews.{roll-Expr}
use Rattle.c_prog.specs.declared.expr.Expr.TheOpen.{Expr-F, Target-F}
use Rattle.c_prog.specs.declared.expr.Expr.TheFolds.{ind-Expr, map-Expr}
use Rattle.c_prog.specs.declared.expr.Target.{Target, roll-Target, map-Target}
use Rattle.c_prog.specs.declared.expr.Var.{Var}
use Rattle.c_prog.specs.declared.stmt.Cond.{Cond}
use Rattle.c_prog.specs.declared.stmt.Jump.{Jump}
use Rattle.c_prog.specs.declared.stmt.Step.{Step}
use Rattle.c_prog.specs.declared.stmt.Stmt as source_stmt
use Rattle.c_prog.specs.declared.stmt.Stmt.TheVariants as stmt
use Rattle.c_prog.specs.declared.stmt.Stmt.TheViews.{roll-Stmt}
use Rattle.c_prog.specs.declared.stmt.Stmt.TheOpen.{Stmt-F}
use Rattle.c_prog.specs.declared.stmt.Stmt.TheFolds.{ind-Stmt, map-Stmt}

pub data Expr : Type 0 where
  Number : ℤ → Expr
  Variable : Var → Expr
  Element : Var → Expr → Expr
  Cast : ℕ → Expr
  Neg : Expr → Expr
  Not : Expr → Expr
  Binary : BinOp → Expr → Expr → Expr

-- the tree that an expression stands for
abbrev pub up : Expr → source.Expr
up (Number n) = expr.Number n
up (Variable v) = expr.Read (record { var = v; index = None })
up (Element v e) = expr.Read (record { var = v; index = Some (up e) })
up (Cast n) = expr.Cast n
up (Neg e) = expr.Neg (up e)
up (Not e) = expr.Not (up e)
up (Binary op left right) = expr.Binary op (up left) (up right)

-- statements, and lists of them
mutual
  pub data Stmt : Type 0 where
    Simple : Act → List Op → Stmt
    Jumps : Jump → List Op → Stmt
    If : Cond → Stmts → Stmts → Stmt
    Loop : Cond → Option Step → Stmts → Stmt
    Block : Stmts → Stmt

  pub data Stmts : Type 0 where
    NoStmts : Stmts
    And : Stmt → Stmts → Stmts

abbrev mutual
  pub up_stmt : Stmt → source_stmt.Stmt
  up_stmt (Simple a ops) = stmt.Simple a ops
  up_stmt (Jumps j ops) = stmt.Jump j ops
  up_stmt (If c on_true on_false) = stmt.If c (up_stmts on_true) (up_stmts on_false)
  up_stmt (Loop c s body) = stmt.Loop c s (up_stmts body)
  up_stmt (Block body) = stmt.Block (up_stmts body)

  pub up_stmts : Stmts → List source_stmt.Stmt
  up_stmts NoStmts = []
  up_stmts (And s more) = up_stmt s ∷ up_stmts more

-- every expression is that of a plain one

abbrev Covered : source.Expr → Type 0
Covered e = (p : Expr) × (up p ≡ e)

abbrev CoveredTarget : Target → Type 0
CoveredTarget t = (p : Expr) × (up p ≡ expr.Read t)

abbrev E : Type 0
E = (e : source.Expr) × Covered e

abbrev T : Type 0
T = (t : Target) × CoveredTarget t

expr-level : (y : Expr-F E T) → Covered (roll-Expr (map-Expr E T source.Expr Target (λ e. e.0) (λ t. t.0) y))
expr-level (Expr-F.Number n) = (Number n, sym (expr.rolls-Number n))
expr-level (Expr-F.Read t) = (t.1.0, t.1.1 ∙ sym (expr.rolls-Read t.0))
expr-level (Expr-F.Cast n) = (Cast n, sym (expr.rolls-Cast n))
expr-level (Expr-F.Neg e) = (Neg e.1.0, ap expr.Neg e.1.1 ∙ sym (expr.rolls-Neg e.0))
expr-level (Expr-F.Not e) = (Not e.1.0, ap expr.Not e.1.1 ∙ sym (expr.rolls-Not e.0))
expr-level (Expr-F.Binary op l r) =
    (Binary op l.1.0 r.1.0, ap (λ z. expr.Binary op z (up r.1.0)) l.1.1 ∙ ap (λ z. expr.Binary op l.0 z) r.1.1 ∙ sym (expr.rolls-Binary op l.0 r.0))

target-with : (v : Var) (i : Option E) → CoveredTarget (roll-Target (map-Target E T source.Expr Target (λ e. e.0) (λ t. t.0) (record { var = v; index = i })))
target-with v None = (Variable v, refl)
target-with v (Some e) = (Element v e.1.0, ap (λ (z : source.Expr). expr.Read (record { var = v; index = Some z })) e.1.1)

target-level : (y : Target-F E T) → CoveredTarget (roll-Target (map-Target E T source.Expr Target (λ e. e.0) (λ t. t.0) y))
target-level y = target-with y.var y.index

pub cover : (e : source.Expr) → Covered e
cover = ind-Expr Covered CoveredTarget
    (λ x y is. subst (λ z. Covered (roll-Expr z)) is (expr-level y))
    (λ x y is. subst (λ z. CoveredTarget (roll-Target z)) is (target-level y))

-- every statement is that of a plain one

abbrev CoveredStmt : source_stmt.Stmt → Type 0
CoveredStmt s = (p : Stmt) × (up_stmt p ≡ s)

abbrev S : Type 0
S = (s : source_stmt.Stmt) × CoveredStmt s

gathered : List S → Stmts
gathered [] = NoStmts
gathered (s ∷ more) = And s.1.0 (gathered more)

gathered-up : (list : List S) → up_stmts (gathered list) ≡ map (λ s. s.0) list
unfolding gathered
gathered-up [] = refl
gathered-up (s ∷ more) = ap (λ z. z ∷ up_stmts (gathered more)) s.1.1 ∙ ap (λ z. s.0 ∷ z) (gathered-up more)

stmt-level : (y : Stmt-F S) → CoveredStmt (roll-Stmt (map-Stmt S source_stmt.Stmt (λ s. s.0) y))
stmt-level (Stmt-F.Simple a ops) = (Simple a ops, sym (stmt.rolls-Simple a ops))
stmt-level (Stmt-F.Jump j ops) = (Jumps j ops, sym (stmt.rolls-Jump j ops))
stmt-level (Stmt-F.If c x y) = (
  If c (gathered x) (gathered y),
  ap (λ z. stmt.If c z (up_stmts (gathered y))) (gathered-up x) ∙ ap (λ z. stmt.If c (map (λ s. s.0) x) z) (gathered-up y)
      ∙ sym (stmt.rolls-If c (map (λ s. s.0) x) (map (λ s. s.0) y)),
)
stmt-level (Stmt-F.Loop c s x) =
    (Loop c s (gathered x), ap (λ z. stmt.Loop c s z) (gathered-up x) ∙ sym (stmt.rolls-Loop c s (map (λ s. s.0) x)))
stmt-level (Stmt-F.Block x) = (Block (gathered x), ap (λ z. stmt.Block z) (gathered-up x) ∙ sym (stmt.rolls-Block (map (λ s. s.0) x)))

cover-stmt : (s : source_stmt.Stmt) → CoveredStmt s
cover-stmt = ind-Stmt CoveredStmt (λ x y is. subst (λ z. CoveredStmt (roll-Stmt z)) is (stmt-level y))

-- the plain statements of a body

pub plain_body : List source_stmt.Stmt → Stmts
plain_body [] = NoStmts
plain_body (s ∷ more) = And (cover-stmt s).0 (plain_body more)

pub plain_body-up : (body : List source_stmt.Stmt) → up_stmts (plain_body body) ≡ body
unfolding plain_body
plain_body-up [] = refl
plain_body-up (s ∷ more) = ap (λ z. z ∷ up_stmts (plain_body more)) (cover-stmt s).1 ∙ ap (λ z. s ∷ z) (plain_body-up more)

-- the plain form of an expression
pub plain : source.Expr → Expr
plain e = (cover e).0

pub plain-up : (e : source.Expr) → up (plain e) ≡ e
unfolding plain
plain-up e = (cover e).1
