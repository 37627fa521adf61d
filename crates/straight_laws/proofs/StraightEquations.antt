-- What the tests of straight-line programs give, variant by variant. A fold does not compute in a proof: cite these.
use Rattle.std.proofs.Common.{◌≡◌, ℤ, Bool, ◌&&◌, List, Option, Some, None, ap, sym, ◌∙◌, refl}
use Rattle.cfix_base.specs.declared.op.Op.{Op}
use Rattle.c_prog.specs.declared.act.Act.{Act}
use Rattle.c_prog.specs.declared.expr.Expr.{Expr}
use Rattle.c_prog.specs.declared.expr.Expr.TheVariants as expr
use Rattle.c_prog.specs.declared.expr.Expr.TheOpen.{Expr-F}
use Rattle.c_prog.specs.declared.expr.Expr.TheFolds.{fold-roll-Expr, fold_out-Target, fold-Target}
use Rattle.c_prog.specs.declared.expr.Target.{Target}
use Rattle.c_prog.specs.declared.expr.Var.{Var}
use Rattle.c_prog.specs.declared.global.Global.{Global}
use Rattle.c_prog.specs.declared.stmt.Stmt.TheVariants as stmt
use Rattle.c_prog.specs.declared.stmt.Stmt.TheOpen.{Stmt-F}
use Rattle.c_prog.specs.declared.stmt.Stmt.TheFolds.{fold-roll-Stmt}
use Rattle.straight_laws.specs.Straight.{is_scalar, straight_expr_level, straight_target_level, is_straight_expr, is_straight_act, straight_level, is_straight_stmt}
use Rattle.c_prog.specs.Valid.Expressions.{is_number}
use Rattle.c_prog.specs.Valid.Operations.{are_valid_ops}

module _ (globals : List Global) where
  scalar-at : (v : Var) (i : Option Expr)
      → fold-Target Bool Bool straight_expr_level (straight_target_level globals) (record { var = v; index = i })
      ≡ is_scalar globals (record { var = v; index = i })
  scalar-at v None = fold_out-Target Bool Bool straight_expr_level (straight_target_level globals) (record { var = v; index = None }) ∙ refl
  scalar-at v (Some e) =
      fold_out-Target Bool Bool straight_expr_level (straight_target_level globals) (record { var = v; index = Some e }) ∙ refl

  -- what is read is a scalar
  pub scalar-is : (t : Target) → fold-Target Bool Bool straight_expr_level (straight_target_level globals) t ≡ is_scalar globals t
  scalar-is t = scalar-at t.var t.index

  pub straight-Number : (n : ℤ) → is_straight_expr globals (expr.Number n) ≡ is_number n
  straight-Number n =
      ap (is_straight_expr globals) (sym (expr.rolls-Number n))
      ∙ fold-roll-Expr Bool Bool straight_expr_level (straight_target_level globals) (Expr-F.Number n)

  pub straight-Read : (t : Target) → is_straight_expr globals (expr.Read t) ≡ is_scalar globals t
  straight-Read t =
      ap (is_straight_expr globals) (sym (expr.rolls-Read t))
      ∙ fold-roll-Expr Bool Bool straight_expr_level (straight_target_level globals) (Expr-F.Read t) ∙ scalar-is t

  pub straight-Simple : (a : Act) (ops : List Op)
      → is_straight_stmt globals (stmt.Simple a ops) ≡ (is_straight_act globals a && are_valid_ops ops)
  straight-Simple a ops =
      ap (is_straight_stmt globals) (sym (stmt.rolls-Simple a ops)) ∙ fold-roll-Stmt Bool (straight_level globals) (Stmt-F.Simple a ops)
