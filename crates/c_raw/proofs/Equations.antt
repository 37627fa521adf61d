-- What the views of recursive types give, variant by variant. A fold does not compute in a proof: cite these.
use Rattle.std.specs.Prelude.{option_map}
use Rattle.std.proofs.Common.{◌≡◌, List, Option, Some, None, ap, sym, ◌∙◌}
use Rattle.cfix_base.specs.declared.Spot.{Spot}
use Rattle.c_raw.specs.declared.token.Ident.{Ident}
use Rattle.c_raw.specs.declared.token.Numeral.{Numeral}
use Rattle.c_raw.specs.declared.expr.Prefix.{Prefix}
use Rattle.c_raw.specs.declared.expr.Binary.{Binary}
use Rattle.c_raw.specs.declared.expr.Cast.{Cast}
use Rattle.c_raw.specs.declared.expr.Expr.{Expr}
use Rattle.c_raw.specs.declared.expr.Expr.TheVariants as expr
use Rattle.c_raw.specs.declared.expr.Expr.TheOpen.{Expr-F}
use Rattle.c_raw.specs.declared.expr.Expr.TheFolds.{fold-roll-Expr}
use Rattle.c_raw.specs.declared.simple.Simple.{Simple}
use Rattle.c_raw.specs.declared.op.Op.{Op}
use Rattle.c_raw.specs.declared.decl.Decl.{Decl}
use Rattle.c_raw.specs.declared.stmt.Jump.{Jump}
use Rattle.c_raw.specs.declared.stmt.Test.{Test}
use Rattle.c_raw.specs.declared.stmt.LoopHead.{LoopHead}
use Rattle.c_raw.specs.declared.stmt.Stmt.{Stmt}
use Rattle.c_raw.specs.declared.stmt.Stmt.TheVariants as stmt
use Rattle.c_raw.specs.declared.stmt.Else.{Else}
use Rattle.c_raw.specs.declared.stmt.Item.{Item}
use Rattle.c_raw.specs.declared.stmt.Item.TheVariants as item
use Rattle.c_raw.specs.declared.stmt.Item.TheOpen.{Stmt-F, Item-F}
use Rattle.c_raw.specs.declared.stmt.Item.TheFolds.{fold-roll-Stmt, fold_out-Else, fold-roll-Item}
use Rattle.c_raw.specs.Tokens.{ident_view, numeral_view}
use Rattle.c_raw.specs.Exprs.{prefix_view, binary_view, cast_view, expr_level, expr_view}
use Rattle.c_raw.specs.Simples.{simple_view}
use Rattle.c_raw.specs.Ops.{ops_view}
use Rattle.c_raw.specs.Decls.{decl_view}
use Rattle.c_raw.specs.Stmts.{jump_view, if_view, while_view, for_view, else_from, items_view, stmt_level, else_level, item_level, stmt_view, else_view, item_view}
use Rattle.c_grammar.specs.Expr as g
use Rattle.c_grammar.specs.Stmt as s

pub expr-Number : (n : Numeral) → expr_view (expr.Number n) ≡ g.Number (numeral_view n)
expr-Number n = ap expr_view (sym (expr.rolls-Number n)) ∙ fold-roll-Expr g.Expr expr_level (Expr-F.Number n)

pub expr-Name : (x : Ident) → expr_view (expr.Name x) ≡ g.Name (ident_view x)
expr-Name x = ap expr_view (sym (expr.rolls-Name x)) ∙ fold-roll-Expr g.Expr expr_level (Expr-F.Name x)

pub expr-Index : (x : Ident) (before : Spot) (e : Expr) (after : Spot) → expr_view (expr.Index x before e after) ≡ g.Index (ident_view x) before (expr_view e) after
expr-Index x before e after = ap expr_view (sym (expr.rolls-Index x before e after)) ∙ fold-roll-Expr g.Expr expr_level (Expr-F.Index x before e after)

pub expr-Paren : (before : Spot) (e : Expr) (after : Spot) → expr_view (expr.Paren before e after) ≡ g.Paren before (expr_view e) after
expr-Paren before e after = ap expr_view (sym (expr.rolls-Paren before e after)) ∙ fold-roll-Expr g.Expr expr_level (Expr-F.Paren before e after)

pub expr-Cast : (c : Cast) → expr_view (expr.Cast c) ≡ cast_view c
expr-Cast c = ap expr_view (sym (expr.rolls-Cast c)) ∙ fold-roll-Expr g.Expr expr_level (Expr-F.Cast c)

pub expr-Unary : (op : Prefix) (at : Spot) (e : Expr) → expr_view (expr.Unary op at e) ≡ g.Unary (prefix_view op) at (expr_view e)
expr-Unary op at e = ap expr_view (sym (expr.rolls-Unary op at e)) ∙ fold-roll-Expr g.Expr expr_level (Expr-F.Unary op at e)

pub expr-Operation : (a : Expr) (op : Binary) (at : Spot) (b : Expr) → expr_view (expr.Operation a op at b) ≡ g.Operation (expr_view a) (binary_view op) at (expr_view b)
expr-Operation a op at b = ap expr_view (sym (expr.rolls-Operation a op at b)) ∙ fold-roll-Expr g.Expr expr_level (Expr-F.Operation a op at b)

-- the equations of expressions
pub ruleset exprs = (expr-Number, expr-Name, expr-Index, expr-Paren, expr-Cast, expr-Unary, expr-Operation)

pub stmt-Block : (before : Spot) (items : List Item) (after : Spot) → stmt_view (stmt.Block before items after) ≡ s.Block before (items_view items) after
stmt-Block before items after = ap stmt_view (sym (stmt.rolls-Block before items after)) ∙ fold-roll-Stmt s.Item s.Stmt s.Else item_level stmt_level else_level (Stmt-F.Block before items after)

pub stmt-Nothing : (end : Spot) → stmt_view (stmt.Nothing end) ≡ s.Nothing end
stmt-Nothing end = ap stmt_view (sym (stmt.rolls-Nothing end)) ∙ fold-roll-Stmt s.Item s.Stmt s.Else item_level stmt_level else_level (Stmt-F.Nothing end)

pub stmt-Simply : (x : Simple) (end : Spot) (ops : List (Op × Spot)) → stmt_view (stmt.Simply x end ops) ≡ s.Simply (simple_view x) end (ops_view ops)
stmt-Simply x end ops = ap stmt_view (sym (stmt.rolls-Simply x end ops)) ∙ fold-roll-Stmt s.Item s.Stmt s.Else item_level stmt_level else_level (Stmt-F.Simply x end ops)

pub stmt-Jumps : (j : Jump) → stmt_view (stmt.Jumps j) ≡ s.Jumps (jump_view j)
stmt-Jumps j = ap stmt_view (sym (stmt.rolls-Jumps j)) ∙ fold-roll-Stmt s.Item s.Stmt s.Else item_level stmt_level else_level (Stmt-F.Jumps j)

pub stmt-If : (t : Test) (body : Stmt) (other : Option Else) → stmt_view (stmt.If t body other) ≡ if_view t (stmt_view body) (else_from (option_map else_view other))
stmt-If t body None = ap stmt_view (sym (stmt.rolls-If t body None)) ∙ fold-roll-Stmt s.Item s.Stmt s.Else item_level stmt_level else_level (Stmt-F.If t body None)
stmt-If t body (Some e) = ap stmt_view (sym (stmt.rolls-If t body (Some e))) ∙ fold-roll-Stmt s.Item s.Stmt s.Else item_level stmt_level else_level (Stmt-F.If t body (Some e))

pub stmt-While : (t : Test) (body : Stmt) → stmt_view (stmt.While t body) ≡ while_view t (stmt_view body)
stmt-While t body = ap stmt_view (sym (stmt.rolls-While t body)) ∙ fold-roll-Stmt s.Item s.Stmt s.Else item_level stmt_level else_level (Stmt-F.While t body)

pub stmt-For : (h : LoopHead) (body : Stmt) → stmt_view (stmt.For h body) ≡ for_view h (stmt_view body)
stmt-For h body = ap stmt_view (sym (stmt.rolls-For h body)) ∙ fold-roll-Stmt s.Item s.Stmt s.Else item_level stmt_level else_level (Stmt-F.For h body)

pub else-is : (e : Else) → else_view e ≡ s.ElseDo e.at (stmt_view e.body)
else-is e = fold_out-Else s.Item s.Stmt s.Else item_level stmt_level else_level e

pub item-Declares : (d : Decl) (end : Spot) (ops : List (Op × Spot)) → item_view (item.Declares d end ops) ≡ s.Declares (decl_view d) end (ops_view ops)
item-Declares d end ops = ap item_view (sym (item.rolls-Declares d end ops)) ∙ fold-roll-Item s.Item s.Stmt s.Else item_level stmt_level else_level (Item-F.Declares d end ops)

pub item-Does : (x : Stmt) → item_view (item.Does x) ≡ s.Does (stmt_view x)
item-Does x = ap item_view (sym (item.rolls-Does x)) ∙ fold-roll-Item s.Item s.Stmt s.Else item_level stmt_level else_level (Item-F.Does x)

-- the equations of statements
pub ruleset stmts = (stmt-Block, stmt-Nothing, stmt-Simply, stmt-Jumps, stmt-If, stmt-While, stmt-For, else-is, item-Declares, item-Does)
