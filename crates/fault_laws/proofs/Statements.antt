-- Faults of statements stand at their tokens.
use Rattle.std.proofs.Common.{ℕ, suc}
use Rattle.cfix_base.specs.declared.Spot.{Spot}
use Rattle.c_grammar.specs.Stmt.{Stmt, Block, Nothing, Simply, Jumps, If, While, For, Else, NoElse, ElseDo, Items, NoItems, AndItem, Item, Declares, Does, stmt_marks, else_marks, items_marks, item_marks}
use Rattle.c_prog.specs.Valid.Scope.{Scope, entered, passed}
use Rattle.c_prog.specs.Valid.Statements.{Around, looped}
use Rattle.c_names.specs.Uses.{Names}
use Rattle.c_names.specs.Scopes.{in_for, stmt_locals, item_after}
use Rattle.c_names.specs.Statements.{stmt_faults, else_faults, items_faults, item_faults}
use Rattle.fault_laws.proofs.Each.{none, rest, front, back, both, Tokens, Faults}
use Rattle.fault_laws.proofs.Simples.{ops-at, simple-at, jump-at}
use Rattle.fault_laws.proofs.Declarations.{decl-at, first-at, step-at, cond-at, test-at}

mutual
  pub stmt-at : (P : Spot → Type 0) (names : Names) (around : Around) (scope : Scope) (d : ℕ) (st : Stmt)
      → Tokens P (stmt_marks d st) → Faults P (stmt_faults names around scope st)
  stmt-at P names around scope d (Block before items after) h = items-at P names around (entered scope) (suc d) items (front _ _ (rest h))
  stmt-at P names around scope d (Nothing end) h = none
  stmt-at P names around scope d (Simply x end ops) h = both (simple-at P names scope d x (front _ _ h)) (ops-at P d ops (rest (back _ _ h)))
  stmt-at P names around scope d (Jumps j) h = jump-at P names around scope d j h
  stmt-at P names around scope d (If at before c after st e) h =
      let behind = rest (back _ _ (rest (rest h))) in
      both (cond-at P names scope (suc d) c (front _ _ (rest (rest h))))
      (both (stmt-at P names around (entered scope) (suc d) st (front _ _ behind)) (else-at P names around (passed (stmt_locals st) scope) (suc d) e (back _ _ behind)))
  stmt-at P names around scope d (While at before c after st) h =
      both (cond-at P names scope (suc d) c (front _ _ (rest (rest h)))) (stmt-at P names (looped around) (entered scope) (suc d) st (rest (back _ _ (rest (rest h)))))
  stmt-at P names around scope d (For at before part end c end2 step after st) h =
      let test = rest (back _ _ (rest (rest h))) in
      let behind = rest (back _ _ test) in
      both (first-at P names (entered scope) (suc (suc d)) part (front _ _ (rest (rest h))))
      (both (test-at P names (in_for part scope) (suc (suc d)) c (front _ _ test))
      (both (step-at P names (in_for part scope) (suc (suc d)) step (front _ _ behind))
      (stmt-at P names (looped around) (entered (in_for part scope)) (suc (suc d)) st (rest (back _ _ behind)))))

  pub else-at : (P : Spot → Type 0) (names : Names) (around : Around) (scope : Scope) (d : ℕ) (e : Else)
      → Tokens P (else_marks d e) → Faults P (else_faults names around scope e)
  else-at P names around scope d NoElse h = none
  else-at P names around scope d (ElseDo at st) h = stmt-at P names around (entered scope) d st (rest h)

  pub items-at : (P : Spot → Type 0) (names : Names) (around : Around) (scope : Scope) (d : ℕ) (items : Items)
      → Tokens P (items_marks d items) → Faults P (items_faults names around scope items)
  items-at P names around scope d NoItems h = none
  items-at P names around scope d (AndItem i more) h =
      both (item-at P names around scope d i (front _ _ h)) (items-at P names around (item_after scope i) d more (back _ _ h))

  pub item-at : (P : Spot → Type 0) (names : Names) (around : Around) (scope : Scope) (d : ℕ) (i : Item)
      → Tokens P (item_marks d i) → Faults P (item_faults names around scope i)
  item-at P names around scope d (Declares x end ops) h = both (decl-at P names scope d x (front _ _ h)) (ops-at P d ops (rest (back _ _ h)))
  item-at P names around scope d (Does st) h = stmt-at P names around scope d st h
