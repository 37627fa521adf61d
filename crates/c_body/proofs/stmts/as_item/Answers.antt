use Rattle.std.proofs.Common.{◌≡◌, List, IfOk, inl, inr, refl, ap, sym, ◌∙◌, subst}
use Rattle.c_raw.specs.declared.stmt.Stmt as r
use Rattle.c_raw.specs.Stmts.{stmt_view}
use Rattle.c_raw.proofs.Equations.{stmt-Block, stmt-Nothing, stmt-Simply, stmt-Jumps, stmt-If, stmt-While, stmt-For}
use Rattle.c_grammar.specs.Stmt as g
use Rattle.c_prog.specs.declared.stmt.Stmt.{Stmt}
use Rattle.c_names.specs.SpelledStatements.{as_item}
use Rattle.c_body.proofs.stmts.as_item.Goals as goal

pub returns-in-Block : goal.returns-in-Block
returns-in-Block c =
    subst (λ (s : g.Stmt). IfOk c.one.result (λ l. l ≡ as_item s c.args.list))
    (sym (ap stmt_view c.in-Block.is ∙ stmt-Block c.in-Block.before c.in-Block.items c.in-Block.after)) c.one.ensures

-- the list, where the statement shows as one that keeps it
kept : (list : List Stmt) (raw : r.Stmt) (s : g.Stmt) → stmt_view raw ≡ s → list ≡ as_item s list → list ≡ as_item (stmt_view raw) list
kept list raw s is same = same ∙ ap (λ t. as_item t list) (sym is)

pub returns-in-Nothing : goal.returns-in-Nothing
returns-in-Nothing c =
    let list = c.args.list in
    let raw = c.args.raw.now in
    elim c.in-Nothing.is [
      | inl (end, is) ↦ kept list raw _ (ap stmt_view is ∙ stmt-Nothing end) refl
      | inr (inl (x, end, ops, is)) ↦ kept list raw _ (ap stmt_view is ∙ stmt-Simply x end ops) refl
      | inr (inr (inl (j, is))) ↦ kept list raw _ (ap stmt_view is ∙ stmt-Jumps j) refl
      | inr (inr (inr (inl (t, body, other, is)))) ↦ kept list raw _ (ap stmt_view is ∙ stmt-If t body other) refl
      | inr (inr (inr (inr (inl (t, body, is))))) ↦ kept list raw _ (ap stmt_view is ∙ stmt-While t body) refl
      | inr (inr (inr (inr (inr (h, body, is))))) ↦ kept list raw _ (ap stmt_view is ∙ stmt-For h body) refl
    ]
