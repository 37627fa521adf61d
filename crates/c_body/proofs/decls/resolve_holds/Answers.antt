use Rattle.std.proofs.Common.{◌≡◌, ◌+◌, ◌<◌, ◌^◌, [], ◌∷◌, ◌++◌, map, length, drop, List, ap, sym, ◌∙◌, subst, append_assoc}
use Rattle.std.proofs.lemmas.List.{drop_more}
use Rattle.cfix_base.specs.declared.Spot.{Spot}
use Rattle.c_raw.specs.declared.decl.Hold.{Hold}
use Rattle.c_raw.specs.Decls.{hold_view, more_holds_view}
use Rattle.c_grammar.specs.Decl as g
use Rattle.c_prog.specs.declared.stmt.Stmt.TheVariants as stmt
use Rattle.c_names.specs.Faults.{noted_all}
use Rattle.c_names.specs.Scopes.{hold_declared, with_local, with_locals}
use Rattle.c_names.specs.Statements.{hold_faults, holds_faults}
use Rattle.c_names.specs.SpelledStatements.{hold_of, with_ops}
use Rattle.c_scope.specs.Tables.{names_from}
use Rattle.c_scope.proofs.Faults.{noted_all-append}
use Rattle.c_body.proofs.Lists.{next-fits}
use Rattle.c_body.proofs.decls.resolve_holds.Goals as goal

abbrev seconds : List (Spot × Hold) → List g.Hold
seconds more = map (λ y. y.1) (more_holds_view more)

pub loop-next-preserved : goal.loop-next-preserved
loop-next-preserved c =
    let names = names_from c.args.names.now in
    let scope = c.loop-next.scope in
    let stmts = c.loop-next.stmts in
    let last = c.loop-next.last in
    let x = hold_view c.next-item.result.1 in
    let rest = drop (c.loop-next.next-index + 1) c.args.more.now in
    let more = seconds rest in
    let new = c.resolve_hold-in-loop-next.new.scope in
    let whole : drop c.loop-next.next-index c.args.more.now ≡ c.next-item.result ∷ rest =
    drop_more c.args.more.now c.loop-next.next-index c.next-item.result c.loop-next-test.true ∙ ap (λ y. y ∷ rest) (sym c.next-item.is) in
    let seen : new ≡ with_local (hold_declared x) scope = c.in_ok-act.ensures.seen in
    record {
      fits = next-fits new.count scope.count (length rest) (ap (λ s. s.count) seen)
          (subst (λ l. scope.count + length l < 2 ^ 32) whole c.loop-next.invariant.fits);
      built =
          ap (λ l. l ++ with_ops (c.replace-act.new.dest ∷ map (hold_of names) more) c.args.after)
          (c.in_ok-push.ensures.ok ∙ ap (λ a. stmts ++ stmt.Simple a c.new-after.result ∷ []) c.replace-act.ensures.value ∙ ap (λ o. stmts ++ stmt.Simple last o ∷ []) c.new-after.ensures)
          ∙ ap (λ a. (stmts ++ stmt.Simple last [] ∷ []) ++ with_ops (a ∷ map (hold_of names) more) c.args.after) (c.replace-act.ensures.after ∙ c.in_ok-act.ensures.built)
          ∙ append_assoc stmts (stmt.Simple last [] ∷ []) (with_ops (hold_of names x ∷ map (hold_of names) more) c.args.after)
          ∙ ap (λ l. stmts ++ with_ops (last ∷ map (hold_of names) (seconds l)) c.args.after) (sym whole)
          ∙ c.loop-next.invariant.built;
      noted =
          ap (λ w. noted_all w (holds_faults names new more)) c.in_ok-act.ensures.noted
          ∙ ap (λ s. noted_all (noted_all c.loop-next.least (hold_faults names scope x)) (holds_faults names s more)) seen
          ∙ sym (noted_all-append c.loop-next.least (hold_faults names scope x) (holds_faults names (with_local (hold_declared x) scope) more))
          ∙ ap (λ l. noted_all c.loop-next.least (holds_faults names scope (seconds l))) (sym whole)
          ∙ c.loop-next.invariant.noted;
      seen =
          ap (λ s. with_locals (map hold_declared more) s) seen
          ∙ ap (λ l. with_locals (map hold_declared (seconds l)) scope) (sym whole)
          ∙ c.loop-next.invariant.seen;
    }
