-- What the rules over trees give, variant by variant. A fold does not compute in a proof: cite these.
use Rattle.std.proofs.Common.{◌≡◌, ℕ, ℤ, Bool, true, false, ◌&&◌, List, [], ◌++◌, map, Option, Some, None, ap, sym, ◌∙◌, refl, option_map}
use Rattle.cfix_base.specs.declared.op.Op.{Op}
use Rattle.c_prog.specs.declared.act.Act.{Act}
use Rattle.c_prog.specs.declared.act.LocalKind.{LocalKind}
use Rattle.c_prog.specs.declared.expr.BinOp.{BinOp}
use Rattle.c_prog.specs.declared.expr.Expr.{Expr}
use Rattle.c_prog.specs.declared.expr.Expr.TheVariants as expr
use Rattle.c_prog.specs.declared.expr.Expr.TheOpen.{Expr-F}
use Rattle.c_prog.specs.declared.expr.Expr.TheFolds.{fold-roll-Expr, fold_out-Target}
use Rattle.c_prog.specs.declared.expr.Target.{Target}
use Rattle.c_prog.specs.declared.expr.Var.{Var}
use Rattle.c_prog.specs.declared.stmt.Cond.{Cond}
use Rattle.c_prog.specs.declared.stmt.Jump.{Jump}
use Rattle.c_prog.specs.declared.stmt.Step.{Step}
use Rattle.c_prog.specs.declared.stmt.Stmt.{Stmt}
use Rattle.c_prog.specs.declared.stmt.Stmt.TheVariants as stmt
use Rattle.c_prog.specs.declared.stmt.Stmt.TheOpen.{Stmt-F}
use Rattle.c_prog.specs.declared.stmt.Stmt.TheFolds.{fold-roll-Stmt}
use Rattle.c_prog.specs.Valid.Scope.{Scope, local_here}
use Rattle.c_prog.specs.Valid.Kinds.{File, kind_here}
use Rattle.c_prog.specs.Valid.Expressions.{Use, expr_rules, target_rules, is_valid_expr, use_of, is_number, is_argument, is_int_use}
use Rattle.c_prog.specs.Valid.Statements.{Part, stmt_rules, part_of, parts_of}
use Rattle.c_prog.specs.Valid.Falls.{Fall, fall_level, fall_of, number_level, number_of, is_break}
use Rattle.c_prog.specs.Valid.Operations.{ops_level, has_valid_ops, have_valid_ops, are_valid_ops, has_valid_cond, has_valid_step}
use Rattle.c_prog.specs.Valid.Locals.{locals_level, locals, locals_of, act_locals}

module _ (file : File) (scope : Scope) where
  pub valid-Number : (n : ℤ) → is_valid_expr file scope (expr.Number n) ≡ is_number n
  valid-Number n =
      ap (is_valid_expr file scope) (sym (expr.rolls-Number n))
      ∙ fold-roll-Expr Bool Use (expr_rules file scope) (target_rules file scope) (Expr-F.Number n)

  pub valid-Read : (t : Target)
      → is_valid_expr file scope (expr.Read t) ≡ is_int_use (use_of file scope t).kind (use_of file scope t).index
  valid-Read t =
      ap (is_valid_expr file scope) (sym (expr.rolls-Read t))
      ∙ fold-roll-Expr Bool Use (expr_rules file scope) (target_rules file scope) (Expr-F.Read t)

  pub valid-Cast : (n : ℕ)
      → is_valid_expr file scope (expr.Cast n) ≡ is_argument (option_map (λ local. local.kind) (local_here n scope))
  valid-Cast n =
      ap (is_valid_expr file scope) (sym (expr.rolls-Cast n))
      ∙ fold-roll-Expr Bool Use (expr_rules file scope) (target_rules file scope) (Expr-F.Cast n)

  pub valid-Neg : (e : Expr) → is_valid_expr file scope (expr.Neg e) ≡ is_valid_expr file scope e
  valid-Neg e =
      ap (is_valid_expr file scope) (sym (expr.rolls-Neg e))
      ∙ fold-roll-Expr Bool Use (expr_rules file scope) (target_rules file scope) (Expr-F.Neg e)

  pub valid-Not : (e : Expr) → is_valid_expr file scope (expr.Not e) ≡ is_valid_expr file scope e
  valid-Not e =
      ap (is_valid_expr file scope) (sym (expr.rolls-Not e))
      ∙ fold-roll-Expr Bool Use (expr_rules file scope) (target_rules file scope) (Expr-F.Not e)

  pub valid-Binary : (op : BinOp) (l r : Expr)
      → is_valid_expr file scope (expr.Binary op l r) ≡ (is_valid_expr file scope l && is_valid_expr file scope r)
  valid-Binary op l r =
      ap (is_valid_expr file scope) (sym (expr.rolls-Binary op l r))
      ∙ fold-roll-Expr Bool Use (expr_rules file scope) (target_rules file scope) (Expr-F.Binary op l r)

  use-at : (v : Var) (i : Option Expr)
      → use_of file scope (record { var = v; index = i })
      ≡ record { kind = kind_here file scope v; index = option_map (is_valid_expr file scope) i }
  use-at v None = fold_out-Target Bool Use (expr_rules file scope) (target_rules file scope) (record { var = v; index = None }) ∙ refl
  use-at v (Some e) =
      fold_out-Target Bool Use (expr_rules file scope) (target_rules file scope) (record { var = v; index = Some e }) ∙ refl

  pub use-is : (t : Target)
      → use_of file scope t ≡ record { kind = kind_here file scope t.var; index = option_map (is_valid_expr file scope) t.index }
  use-is t = use-at t.var t.index

module _ (file : File) where
  pub part-Simple : (a : Act) (ops : List Op) → part_of file (stmt.Simple a ops) ≡ stmt_rules file (Stmt-F.Simple a ops)
  part-Simple a ops =
      ap (part_of file) (sym (stmt.rolls-Simple a ops)) ∙ fold-roll-Stmt Part (stmt_rules file) (Stmt-F.Simple a ops)

  pub part-Jump : (j : Jump) (ops : List Op) → part_of file (stmt.Jump j ops) ≡ stmt_rules file (Stmt-F.Jump j ops)
  part-Jump j ops = ap (part_of file) (sym (stmt.rolls-Jump j ops)) ∙ fold-roll-Stmt Part (stmt_rules file) (Stmt-F.Jump j ops)

  pub part-If : (c : Cond) (on_true on_false : List Stmt)
      → part_of file (stmt.If c on_true on_false) ≡ stmt_rules file (Stmt-F.If c (parts_of file on_true) (parts_of file on_false))
  part-If c on_true on_false =
      ap (part_of file) (sym (stmt.rolls-If c on_true on_false))
      ∙ fold-roll-Stmt Part (stmt_rules file) (Stmt-F.If c on_true on_false)

  pub part-Loop : (c : Cond) (s : Option Step) (body : List Stmt)
      → part_of file (stmt.Loop c s body) ≡ stmt_rules file (Stmt-F.Loop c s (parts_of file body))
  part-Loop c s body =
      ap (part_of file) (sym (stmt.rolls-Loop c s body)) ∙ fold-roll-Stmt Part (stmt_rules file) (Stmt-F.Loop c s body)

  pub part-Block : (body : List Stmt) → part_of file (stmt.Block body) ≡ stmt_rules file (Stmt-F.Block (parts_of file body))
  part-Block body = ap (part_of file) (sym (stmt.rolls-Block body)) ∙ fold-roll-Stmt Part (stmt_rules file) (Stmt-F.Block body)

pub number-Number : (n : ℤ) → number_of (expr.Number n) ≡ Some n
number-Number n =
    ap number_of (sym (expr.rolls-Number n)) ∙ fold-roll-Expr (Option ℤ) (Unit {0}) number_level (λ target. tt) (Expr-F.Number n)

pub number-Read : (t : Target) → number_of (expr.Read t) ≡ None
number-Read t =
    ap number_of (sym (expr.rolls-Read t)) ∙ fold-roll-Expr (Option ℤ) (Unit {0}) number_level (λ target. tt) (Expr-F.Read t)

pub number-Cast : (n : ℕ) → number_of (expr.Cast n) ≡ None
number-Cast n =
    ap number_of (sym (expr.rolls-Cast n)) ∙ fold-roll-Expr (Option ℤ) (Unit {0}) number_level (λ target. tt) (Expr-F.Cast n)

pub number-Neg : (e : Expr) → number_of (expr.Neg e) ≡ None
number-Neg e =
    ap number_of (sym (expr.rolls-Neg e)) ∙ fold-roll-Expr (Option ℤ) (Unit {0}) number_level (λ target. tt) (Expr-F.Neg e)

pub number-Not : (e : Expr) → number_of (expr.Not e) ≡ None
number-Not e =
    ap number_of (sym (expr.rolls-Not e)) ∙ fold-roll-Expr (Option ℤ) (Unit {0}) number_level (λ target. tt) (Expr-F.Not e)

pub number-Binary : (op : BinOp) (l r : Expr) → number_of (expr.Binary op l r) ≡ None
number-Binary op l r =
    ap number_of (sym (expr.rolls-Binary op l r))
    ∙ fold-roll-Expr (Option ℤ) (Unit {0}) number_level (λ target. tt) (Expr-F.Binary op l r)

pub fall-Simple : (a : Act) (ops : List Op) → fall_of (stmt.Simple a ops) ≡ record { falls = true; breaks = false }
fall-Simple a ops = ap fall_of (sym (stmt.rolls-Simple a ops)) ∙ fold-roll-Stmt Fall fall_level (Stmt-F.Simple a ops)

pub fall-Jump : (j : Jump) (ops : List Op) → fall_of (stmt.Jump j ops) ≡ record { falls = false; breaks = is_break j }
fall-Jump j ops = ap fall_of (sym (stmt.rolls-Jump j ops)) ∙ fold-roll-Stmt Fall fall_level (Stmt-F.Jump j ops)

pub fall-If : (c : Cond) (on_true on_false : List Stmt)
    → fall_of (stmt.If c on_true on_false) ≡ fall_level (Stmt-F.If c (map fall_of on_true) (map fall_of on_false))
fall-If c on_true on_false =
    ap fall_of (sym (stmt.rolls-If c on_true on_false)) ∙ fold-roll-Stmt Fall fall_level (Stmt-F.If c on_true on_false)

pub fall-Loop : (c : Cond) (s : Option Step) (body : List Stmt)
    → fall_of (stmt.Loop c s body) ≡ fall_level (Stmt-F.Loop c s (map fall_of body))
fall-Loop c s body = ap fall_of (sym (stmt.rolls-Loop c s body)) ∙ fold-roll-Stmt Fall fall_level (Stmt-F.Loop c s body)

pub fall-Block : (body : List Stmt) → fall_of (stmt.Block body) ≡ fall_level (Stmt-F.Block (map fall_of body))
fall-Block body = ap fall_of (sym (stmt.rolls-Block body)) ∙ fold-roll-Stmt Fall fall_level (Stmt-F.Block body)

pub ops-Simple : (a : Act) (ops : List Op) → has_valid_ops (stmt.Simple a ops) ≡ are_valid_ops ops
ops-Simple a ops = ap has_valid_ops (sym (stmt.rolls-Simple a ops)) ∙ fold-roll-Stmt Bool ops_level (Stmt-F.Simple a ops)

pub ops-Jump : (j : Jump) (ops : List Op) → has_valid_ops (stmt.Jump j ops) ≡ are_valid_ops ops
ops-Jump j ops = ap has_valid_ops (sym (stmt.rolls-Jump j ops)) ∙ fold-roll-Stmt Bool ops_level (Stmt-F.Jump j ops)

pub ops-If : (c : Cond) (on_true on_false : List Stmt)
    → has_valid_ops (stmt.If c on_true on_false) ≡ (has_valid_cond c && have_valid_ops on_true && have_valid_ops on_false)
ops-If c on_true on_false =
    ap has_valid_ops (sym (stmt.rolls-If c on_true on_false)) ∙ fold-roll-Stmt Bool ops_level (Stmt-F.If c on_true on_false)

pub ops-Loop : (c : Cond) (s : Option Step) (body : List Stmt)
    → has_valid_ops (stmt.Loop c s body) ≡ (has_valid_cond c && has_valid_step s && have_valid_ops body)
ops-Loop c s body = ap has_valid_ops (sym (stmt.rolls-Loop c s body)) ∙ fold-roll-Stmt Bool ops_level (Stmt-F.Loop c s body)

pub ops-Block : (body : List Stmt) → has_valid_ops (stmt.Block body) ≡ have_valid_ops body
ops-Block body = ap has_valid_ops (sym (stmt.rolls-Block body)) ∙ fold-roll-Stmt Bool ops_level (Stmt-F.Block body)

pub locals-Simple : (a : Act) (ops : List Op) → locals (stmt.Simple a ops) ≡ act_locals a
locals-Simple a ops = ap locals (sym (stmt.rolls-Simple a ops)) ∙ fold-roll-Stmt (List LocalKind) locals_level (Stmt-F.Simple a ops)

pub locals-Jump : (j : Jump) (ops : List Op) → locals (stmt.Jump j ops) ≡ []
locals-Jump j ops = ap locals (sym (stmt.rolls-Jump j ops)) ∙ fold-roll-Stmt (List LocalKind) locals_level (Stmt-F.Jump j ops)

pub locals-If : (c : Cond) (on_true on_false : List Stmt)
    → locals (stmt.If c on_true on_false) ≡ locals_of on_true ++ locals_of on_false
locals-If c on_true on_false =
    ap locals (sym (stmt.rolls-If c on_true on_false))
    ∙ fold-roll-Stmt (List LocalKind) locals_level (Stmt-F.If c on_true on_false)

pub locals-Loop : (c : Cond) (s : Option Step) (body : List Stmt) → locals (stmt.Loop c s body) ≡ locals_of body
locals-Loop c s body =
    ap locals (sym (stmt.rolls-Loop c s body)) ∙ fold-roll-Stmt (List LocalKind) locals_level (Stmt-F.Loop c s body)

pub locals-Block : (body : List Stmt) → locals (stmt.Block body) ≡ locals_of body
locals-Block body = ap locals (sym (stmt.rolls-Block body)) ∙ fold-roll-Stmt (List LocalKind) locals_level (Stmt-F.Block body)

pub ruleset valid_steps = (
  valid-Number,
  valid-Read,
  valid-Cast,
  valid-Neg,
  valid-Not,
  valid-Binary,
  use-is,
  part-Simple,
  part-Jump,
  part-If,
  part-Loop,
  part-Block,
  number-Number,
  number-Read,
  number-Cast,
  number-Neg,
  number-Not,
  number-Binary,
  fall-Simple,
  fall-Jump,
  fall-If,
  fall-Loop,
  fall-Block,
  ops-Simple,
  ops-Jump,
  ops-If,
  ops-Loop,
  ops-Block,
)
