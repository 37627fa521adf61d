-- What the definitions of the text give, variant by variant.
use Rattle.std.proofs.Common.{◌≡◌, ℕ, ℤ, ◌+◌, Bool, true, false, List, [], ◌∷◌, ◌++◌, map, codes, Option, Some, None, ap, sym, ◌∙◌, refl}
use Rattle.std.specs.Fmt.{signed_decimal}
use Rattle.cfix_base.specs.declared.op.Op.{Op}
use Rattle.c_prog.specs.declared.act.Act.{Act}
use Rattle.c_prog.specs.declared.expr.BinOp.{BinOp}
use Rattle.c_prog.specs.declared.expr.Expr.{Expr}
use Rattle.c_prog.specs.declared.expr.Expr.TheVariants as expr
use Rattle.c_prog.specs.declared.expr.Expr.TheOpen.{Expr-F}
use Rattle.c_prog.specs.declared.expr.Expr.TheFolds.{fold-roll-Expr, fold_out-Target}
use Rattle.c_prog.specs.declared.expr.Target.{Target}
use Rattle.c_prog.specs.declared.expr.Var.{Var}
use Rattle.c_prog.specs.declared.stmt.Cond.{Cond}
use Rattle.c_prog.specs.declared.stmt.Jump.{Jump}
use Rattle.c_prog.specs.declared.stmt.Step.{Step}
use Rattle.c_prog.specs.declared.stmt.Stmt.{Stmt}
use Rattle.c_prog.specs.declared.stmt.Stmt.TheVariants as stmt
use Rattle.c_prog.specs.declared.stmt.Stmt.TheOpen.{Stmt-F}
use Rattle.c_prog.specs.declared.stmt.Stmt.TheFolds.{fold-roll-Stmt}
use Rattle.c_prog.specs.Order.{joined}
use Rattle.c_print.specs.Text.Acts.{act_text}
use Rattle.c_print.specs.Text.Expressions.{Printed, whole, operand, binding, sign_of, expr_level, target_level, printed, printed_target, zero_level, is_zero, is_zero_value}
use Rattle.c_print.specs.Text.Names.{Names, name_at, var_name, act_names, step_names, names_level, declared_names}
use Rattle.c_print.specs.Text.Operations.{op_lines, cond_text}
use Rattle.c_print.specs.Text.Pieces.{ended, in_brackets, braced}
use Rattle.c_print.specs.Text.Statements.{Part, part, jump_lines, if_lines, else_lines, loop_head, stmt_level, stmt_part, body_lines}

-- expressions

pub printed-Number : (names : Names) (n : ℤ) → printed names (expr.Number n) ≡ whole (signed_decimal n)
printed-Number names n =
    ap (printed names) (sym (expr.rolls-Number n)) ∙ fold-roll-Expr Printed Printed (expr_level names) (target_level names) (Expr-F.Number n)

pub printed-Cast : (names : Names) (n : ℕ) → printed names (expr.Cast n) ≡ whole (codes "(int)(long)" ++ name_at names.locals n)
printed-Cast names n =
    ap (printed names) (sym (expr.rolls-Cast n)) ∙ fold-roll-Expr Printed Printed (expr_level names) (target_level names) (Expr-F.Cast n)

pub printed-Read : (names : Names) (t : Target) → printed names (expr.Read t) ≡ printed_target names t
printed-Read names t =
    ap (printed names) (sym (expr.rolls-Read t)) ∙ fold-roll-Expr Printed Printed (expr_level names) (target_level names) (Expr-F.Read t)

pub printed-Neg : (names : Names) (e : Expr)
    → printed names (expr.Neg e) ≡ record { binds = 7; text = codes "-" ++ operand 8 (printed names e) }
printed-Neg names e =
    ap (printed names) (sym (expr.rolls-Neg e)) ∙ fold-roll-Expr Printed Printed (expr_level names) (target_level names) (Expr-F.Neg e)

pub printed-Not : (names : Names) (e : Expr) → printed names (expr.Not e) ≡ whole (codes "!" ++ operand 7 (printed names e))
printed-Not names e =
    ap (printed names) (sym (expr.rolls-Not e)) ∙ fold-roll-Expr Printed Printed (expr_level names) (target_level names) (Expr-F.Not e)

pub printed-Binary : (names : Names) (o : BinOp) (l r : Expr)
    → printed names (expr.Binary o l r) ≡ record {
      binds = binding o;
      text = operand (binding o) (printed names l) ++ codes " " ++ sign_of o ++ codes " " ++ operand (binding o + 1) (printed names r);
    }
printed-Binary names o l r =
    ap (printed names) (sym (expr.rolls-Binary o l r))
    ∙ fold-roll-Expr Printed Printed (expr_level names) (target_level names) (Expr-F.Binary o l r)

pub printed-variable : (names : Names) (v : Var)
    → printed_target names (record { var = v; index = None }) ≡ whole (var_name names v ++ [])
printed-variable names v = fold_out-Target Printed Printed (expr_level names) (target_level names) (record { var = v; index = None }) ∙ refl

pub printed-element : (names : Names) (v : Var) (e : Expr)
    → printed_target names (record { var = v; index = Some e }) ≡ whole (var_name names v ++ in_brackets (printed names e).text)
printed-element names v e = fold_out-Target Printed Printed (expr_level names) (target_level names) (record { var = v; index = Some e }) ∙ refl

pub zero-Number : (n : ℤ) → is_zero (expr.Number n) ≡ is_zero_value n
zero-Number n = ap is_zero (sym (expr.rolls-Number n)) ∙ fold-roll-Expr Bool Bool zero_level (λ target. false) (Expr-F.Number n)

pub zero-Cast : (n : ℕ) → is_zero (expr.Cast n) ≡ false
zero-Cast n = ap is_zero (sym (expr.rolls-Cast n)) ∙ fold-roll-Expr Bool Bool zero_level (λ target. false) (Expr-F.Cast n)

pub zero-Read : (t : Target) → is_zero (expr.Read t) ≡ false
zero-Read t = ap is_zero (sym (expr.rolls-Read t)) ∙ fold-roll-Expr Bool Bool zero_level (λ target. false) (Expr-F.Read t)

pub zero-Neg : (e : Expr) → is_zero (expr.Neg e) ≡ false
zero-Neg e = ap is_zero (sym (expr.rolls-Neg e)) ∙ fold-roll-Expr Bool Bool zero_level (λ target. false) (Expr-F.Neg e)

pub zero-Not : (e : Expr) → is_zero (expr.Not e) ≡ false
zero-Not e = ap is_zero (sym (expr.rolls-Not e)) ∙ fold-roll-Expr Bool Bool zero_level (λ target. false) (Expr-F.Not e)

pub zero-Binary : (o : BinOp) (l r : Expr) → is_zero (expr.Binary o l r) ≡ false
zero-Binary o l r =
    ap is_zero (sym (expr.rolls-Binary o l r)) ∙ fold-roll-Expr Bool Bool zero_level (λ target. false) (Expr-F.Binary o l r)

-- statements

pub part-Simple : (names : Names) (a : Act) (after : List Op)
    → stmt_part names (stmt.Simple a after) ≡ part (ended (act_text names a) ∷ op_lines after)
part-Simple names a after =
    ap (stmt_part names) (sym (stmt.rolls-Simple a after)) ∙ fold-roll-Stmt Part (stmt_level names) (Stmt-F.Simple a after)

pub part-Jump : (names : Names) (j : Jump) (after : List Op)
    → stmt_part names (stmt.Jump j after) ≡ part (jump_lines names j after)
part-Jump names j after =
    ap (stmt_part names) (sym (stmt.rolls-Jump j after)) ∙ fold-roll-Stmt Part (stmt_level names) (Stmt-F.Jump j after)

pub part-If : (names : Names) (c : Cond) (as_true as_false : List Stmt)
    → stmt_part names (stmt.If c as_true as_false) ≡ record {
      is_if = true;
      lines = if_lines (cond_text names c) (body_lines names as_true) (else_lines (map (stmt_part names) as_false));
    }
part-If names c as_true as_false =
    ap (stmt_part names) (sym (stmt.rolls-If c as_true as_false)) ∙ fold-roll-Stmt Part (stmt_level names) (Stmt-F.If c as_true as_false)

pub part-Loop : (names : Names) (c : Cond) (s : Option Step) (body : List Stmt)
    → stmt_part names (stmt.Loop c s body) ≡ part (braced (loop_head names c s) (body_lines names body))
part-Loop names c s body =
    ap (stmt_part names) (sym (stmt.rolls-Loop c s body)) ∙ fold-roll-Stmt Part (stmt_level names) (Stmt-F.Loop c s body)

pub part-Block : (names : Names) (body : List Stmt)
    → stmt_part names (stmt.Block body) ≡ part (braced [] (body_lines names body))
part-Block names body =
    ap (stmt_part names) (sym (stmt.rolls-Block body)) ∙ fold-roll-Stmt Part (stmt_level names) (Stmt-F.Block body)

-- declared names

pub names-Simple : (a : Act) (after : List Op) → declared_names (stmt.Simple a after) ≡ act_names a
names-Simple a after =
    ap declared_names (sym (stmt.rolls-Simple a after)) ∙ fold-roll-Stmt (List (List ℕ)) names_level (Stmt-F.Simple a after)

pub names-Jump : (j : Jump) (after : List Op) → declared_names (stmt.Jump j after) ≡ []
names-Jump j after =
    ap declared_names (sym (stmt.rolls-Jump j after)) ∙ fold-roll-Stmt (List (List ℕ)) names_level (Stmt-F.Jump j after)

pub names-If : (c : Cond) (as_true as_false : List Stmt)
    → declared_names (stmt.If c as_true as_false) ≡ joined (map declared_names as_true) ++ joined (map declared_names as_false)
names-If c as_true as_false =
    ap declared_names (sym (stmt.rolls-If c as_true as_false))
    ∙ fold-roll-Stmt (List (List ℕ)) names_level (Stmt-F.If c as_true as_false)

pub names-Loop : (c : Cond) (s : Option Step) (body : List Stmt)
    → declared_names (stmt.Loop c s body) ≡ step_names s ++ joined (map declared_names body)
names-Loop c s body =
    ap declared_names (sym (stmt.rolls-Loop c s body)) ∙ fold-roll-Stmt (List (List ℕ)) names_level (Stmt-F.Loop c s body)

pub names-Block : (body : List Stmt) → declared_names (stmt.Block body) ≡ joined (map declared_names body)
names-Block body =
    ap declared_names (sym (stmt.rolls-Block body)) ∙ fold-roll-Stmt (List (List ℕ)) names_level (Stmt-F.Block body)
