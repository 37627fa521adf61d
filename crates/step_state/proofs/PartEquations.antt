-- What the parts of expressions are, variant by variant. A fold does not compute in a proof: cite these.
use Rattle.std.proofs.Common.{◌≡◌, ℕ, ℤ, false, Option, Some, None, ap, sym, ◌∙◌, refl}
use Rattle.c_prog.specs.declared.expr.BinOp.{BinOp}
use Rattle.c_prog.specs.declared.expr.Expr.{Expr}
use Rattle.c_prog.specs.declared.expr.Expr.TheVariants as expr
use Rattle.c_prog.specs.declared.expr.Expr.TheOpen.{Expr-F}
use Rattle.c_prog.specs.declared.expr.Expr.TheFolds.{fold-roll-Expr, fold_out-Target}
use Rattle.c_prog.specs.declared.expr.Target.{Target}
use Rattle.c_prog.specs.declared.expr.Expr.TheFolds.{fold-Target}
use Rattle.c_prog.specs.declared.expr.Var.{Var}
use Rattle.step_state.specs.declared.item.Item.TheVariants.{Reduce}
use Rattle.step_state.specs.declared.item.Reduction.TheVariants as reduction
use Rattle.step_state.specs.declared.item.Unary.TheVariants.{Neg, Not}
use Rattle.step_state.specs.Parts.{Part, one, both, expr_part, expr_part_level, target_part_level, target_index, has_index, read_var, local_site, binary_part}

-- a variable or element that is read, as a part
abbrev pub read_part : Target → Part
read_part = fold-Target Part Part expr_part_level target_part_level

pub part-Number : (n : ℤ) → expr_part (expr.Number n) ≡ one (Reduce (reduction.Push n))
part-Number n =
    ap expr_part (sym (expr.rolls-Number n)) ∙ fold-roll-Expr Part Part expr_part_level target_part_level (Expr-F.Number n)

pub part-Read : (t : Target) → expr_part (expr.Read t) ≡ read_part t
part-Read t = ap expr_part (sym (expr.rolls-Read t)) ∙ fold-roll-Expr Part Part expr_part_level target_part_level (Expr-F.Read t)

pub part-Cast : (x : ℕ) → expr_part (expr.Cast x) ≡ one (Reduce (reduction.Local (local_site x false)))
part-Cast x = ap expr_part (sym (expr.rolls-Cast x)) ∙ fold-roll-Expr Part Part expr_part_level target_part_level (Expr-F.Cast x)

pub part-Neg : (e : Expr) → expr_part (expr.Neg e) ≡ both (expr_part e) (one (Reduce (reduction.Un Neg)))
part-Neg e = ap expr_part (sym (expr.rolls-Neg e)) ∙ fold-roll-Expr Part Part expr_part_level target_part_level (Expr-F.Neg e)

pub part-Not : (e : Expr) → expr_part (expr.Not e) ≡ both (expr_part e) (one (Reduce (reduction.Un Not)))
part-Not e = ap expr_part (sym (expr.rolls-Not e)) ∙ fold-roll-Expr Part Part expr_part_level target_part_level (Expr-F.Not e)

pub part-Binary : (op : BinOp) (l r : Expr) → expr_part (expr.Binary op l r) ≡ binary_part op (expr_part l) (expr_part r)
part-Binary op l r =
    ap expr_part (sym (expr.rolls-Binary op l r)) ∙ fold-roll-Expr Part Part expr_part_level target_part_level (Expr-F.Binary op l r)

pub read-part-at : (v : Var) (i : Option Expr)
    → read_part (record { var = v; index = i }) ≡ both (target_index i) (read_var v (has_index i))
read-part-at v None = fold_out-Target Part Part expr_part_level target_part_level (record { var = v; index = None }) ∙ refl
read-part-at v (Some e) = fold_out-Target Part Part expr_part_level target_part_level (record { var = v; index = Some e }) ∙ refl

pub read-part-is : (t : Target) → read_part t ≡ both (target_index t.index) (read_var t.var (has_index t.index))
read-part-is t = read-part-at t.var t.index
