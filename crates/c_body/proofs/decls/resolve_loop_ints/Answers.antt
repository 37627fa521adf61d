use Rattle.std.proofs.Common.{◌≡◌, ◌+◌, ◌<◌, ◌^◌, [], ◌∷◌, ◌++◌, map, length, drop, List, ap, sym, ◌∙◌, subst, append_assoc}
use Rattle.std.proofs.lemmas.List.{drop_more}
use Rattle.cfix_base.specs.declared.Spot.{Spot}
use Rattle.c_raw.specs.declared.decl.LoopInt.{LoopInt}
use Rattle.c_raw.specs.Decls.{loop_int_view, more_loop_ints_view}
use Rattle.c_grammar.specs.Decl as g
use Rattle.c_prog.specs.declared.stmt.Stmt.TheVariants as stmt
use Rattle.c_names.specs.Faults.{noted_all}
use Rattle.c_names.specs.Scopes.{loop_int_declared, with_local, with_locals}
use Rattle.c_names.specs.Statements.{loop_int_faults, loop_ints_faults}
use Rattle.c_names.specs.SpelledStatements.{loop_ints_of, with_ops, loop_int_of}
use Rattle.c_names.specs.LinesStatements.{loop_int_lines, loop_ints_lines}
use Rattle.c_scope.specs.Tables.{names_from}
use Rattle.c_scope.proofs.Faults.{noted_all-append}
use Rattle.c_body.proofs.Lists.{next-fits}
use Rattle.c_body.proofs.decls.resolve_loop_ints.Goals as goal

abbrev seconds : List (Spot × LoopInt) → List g.LoopInt
seconds more = map (λ y. y.1) (more_loop_ints_view more)

pub loop-next-preserved : goal.loop-next-preserved
loop-next-preserved c =
    let names = names_from c.args.names.now in
    let scope = c.loop-next.scope in
    let walk = c.loop-next.walk in
    let stmts = c.loop-next.stmts in
    let last = c.loop-next.last in
    let x = loop_int_view c.next-item.result.1 in
    let rest = drop (c.loop-next.next-index + 1) c.args.more.now in
    let more = seconds rest in
    let new = c.resolve_loop_int-in-loop-next.new.scope in
    let whole : drop c.loop-next.next-index c.args.more.now ≡ c.next-item.result ∷ rest =
    drop_more c.args.more.now c.loop-next.next-index c.next-item.result c.loop-next-test.true ∙ ap (λ y. y ∷ rest) (sym c.next-item.is) in
    let seen : new ≡ with_local (loop_int_declared x) scope = c.in_ok-act.ensures.seen in
    record {
      fits = next-fits new.count scope.count (length rest) (ap (λ s. s.count) seen)
          (subst (λ l. scope.count + length l < 2 ^ 32) whole c.loop-next.invariant.fits);
      built =
          ap (λ l. l ++ with_ops (c.replace-act.new.dest ∷ loop_ints_of names new more) [])
          (c.in_ok-push.ensures.ok ∙ ap (λ a. stmts ++ stmt.Simple a c.new-after.result ∷ []) c.replace-act.ensures.value ∙ ap (λ o. stmts ++ stmt.Simple last o ∷ []) c.new-after.ensures)
          ∙ ap (λ a. (stmts ++ stmt.Simple last [] ∷ []) ++ with_ops (a ∷ loop_ints_of names new more) []) (c.replace-act.ensures.after ∙ c.in_ok-act.ensures.built)
          ∙ ap (λ s. (stmts ++ stmt.Simple last [] ∷ []) ++ with_ops (loop_int_of names scope x ∷ loop_ints_of names s more) []) seen
          ∙ append_assoc stmts (stmt.Simple last [] ∷ []) (with_ops (loop_int_of names scope x ∷ loop_ints_of names (with_local (loop_int_declared x) scope) more) [])
          ∙ ap (λ l. stmts ++ with_ops (last ∷ loop_ints_of names scope (seconds l)) []) (sym whole)
          ∙ c.loop-next.invariant.built;
      noted =
          ap (λ w. noted_all w (loop_ints_faults names new more)) c.in_ok-act.ensures.noted
          ∙ ap (λ s. noted_all (noted_all walk.least (loop_int_faults names scope x)) (loop_ints_faults names s more)) seen
          ∙ sym (noted_all-append walk.least (loop_int_faults names scope x) (loop_ints_faults names (with_local (loop_int_declared x) scope) more))
          ∙ ap (λ l. noted_all walk.least (loop_ints_faults names scope (seconds l))) (sym whole)
          ∙ c.loop-next.invariant.noted;
      lined =
          ap (λ l. l ++ loop_ints_lines names new more) c.in_ok-act.ensures.lined
          ∙ ap (λ s. (walk.lines ++ loop_int_lines names scope x) ++ loop_ints_lines names s more) seen
          ∙ append_assoc walk.lines (loop_int_lines names scope x) (loop_ints_lines names (with_local (loop_int_declared x) scope) more)
          ∙ ap (λ l. walk.lines ++ loop_ints_lines names scope (seconds l)) (sym whole)
          ∙ c.loop-next.invariant.lined;
      seen =
          ap (λ s. with_locals (map loop_int_declared more) s) seen
          ∙ ap (λ l. with_locals (map loop_int_declared (seconds l)) scope) (sym whole)
          ∙ c.loop-next.invariant.seen;
    }
