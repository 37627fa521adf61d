use Rattle.std.proofs.Common.{◌≡◌, ◌+◌, ◌<◌, ◌≤◌, ◌^◌, ◌∷◌, ◌++◌, length, drop, ap, sym, ◌∙◌, subst, append_assoc}
use Rattle.std.proofs.lemmas.List.{drop_more}
use Rattle.c_raw.specs.Stmts.{first_part_view, stmt_view, item_view, items_view}
use Rattle.c_prog.specs.Valid.Scope.{Scope, passed}
use Rattle.c_names.specs.Faults.{noted_all}
use Rattle.c_names.specs.Scopes.{first_declared, in_for, with_locals, stmt_locals, item_locals, items_locals, item_after}
use Rattle.c_names.specs.Statements.{item_faults, items_faults}
use Rattle.c_names.specs.SpelledStatements.{item_of, items_of}
use Rattle.c_names.specs.LinesStatements.{item_lines, items_lines}
use Rattle.c_scope.specs.Scopes.{left}
use Rattle.c_scope.specs.Tables.{names_from}
use Rattle.c_scope.proofs.Faults.{noted_all-append}
use Rattle.c_body.specs.Views.{around_view}
use Rattle.c_body.specs.After.{items_after}
use Rattle.c_body.proofs.Scopes.{room-for, left-for, count-item, after-fits}
use Rattle.c_body.proofs.stmts.+stmt.Goals as goal

pub resolve_for-leave-requires : goal.resolve_for-leave-requires
resolve_for-leave-requires t c =
    let scope = c.args.scope.now in
    let first = first_part_view c.args.head.now.first in
    let n = stmt_locals (stmt_view c.args.body.now) in
    let whole : c.resolve_body.new.scope ≡ passed n (in_for first scope) =
    c.in_ok-body.ensures.seen ∙ ap (passed n) (c.in_ok-first.ensures.seen ∙ ap (with_locals (first_declared first)) c.enter-outer.ensures.entered) in
    let at : length scope.around ≤ length c.resolve_body.new.scope.around =
    subst (λ (s : Scope). length scope.around ≤ length s.around) (sym whole) (room-for scope first n) in
    subst (λ k. k ≤ length c.resolve_body.new.scope.around) (sym c.enter-outer.ensures.outer) at

pub resolve_for-returns-clause-seen : goal.resolve_for-returns-clause-seen
resolve_for-returns-clause-seen t c =
    let scope = c.args.scope.now in
    let first = first_part_view c.args.head.now.first in
    let n = stmt_locals (stmt_view c.args.body.now) in
    let whole : c.resolve_body.new.scope ≡ passed n (in_for first scope) =
    c.in_ok-body.ensures.seen ∙ ap (passed n) (c.in_ok-first.ensures.seen ∙ ap (with_locals (first_declared first)) c.enter-outer.ensures.entered) in
    c.leave.ensures
    ∙ ap (λ k. left k c.resolve_body.new.scope) c.enter-outer.ensures.outer
    ∙ ap (left (length scope.around)) whole
    ∙ left-for scope first n

pub resolve_items-loop-raw-preserved : goal.resolve_items-loop-raw-preserved
resolve_items-loop-raw-preserved t c =
    let names = names_from c.args.names.now in
    let around = around_view c.args.around in
    let scope = c.loop-raw.scope in
    let walk = c.loop-raw.walk in
    let stmts = c.loop-raw.stmts in
    let i = item_view c.raw-item.result in
    let rest = drop (c.loop-raw.raw-index + 1) c.args.list.now in
    let more = items_view rest in
    let new = c.resolve_item.new.scope in
    let whole : drop c.loop-raw.raw-index c.args.list.now ≡ c.raw-item.result ∷ rest =
    drop_more c.args.list.now c.loop-raw.raw-index c.raw-item.result c.loop-raw-test.true ∙ ap (λ y. y ∷ rest) (sym c.raw-item.is) in
    let seen : new ≡ item_after scope i = c.in_ok-more.ensures.seen in
    let count : new.count ≡ scope.count + item_locals i = ap (λ (s : Scope). s.count) seen ∙ count-item scope i in
    let fits : scope.count + (item_locals i + items_locals more) < 2 ^ 32 =
    subst (λ l. scope.count + items_locals (items_view l) < 2 ^ 32) whole c.loop-raw.invariant.fits in
    record {
      fits = after-fits new.count scope.count (item_locals i) (items_locals more) count fits;
      built =
          ap (λ l. l ++ items_of names around new more) (c.in_ok-append.ensures ∙ ap (λ m. stmts ++ m) c.in_ok-more.ensures.built)
          ∙ ap (λ s. (stmts ++ item_of names around scope i) ++ items_of names around s more) seen
          ∙ append_assoc stmts (item_of names around scope i) (items_of names around (item_after scope i) more)
          ∙ ap (λ l. stmts ++ items_of names around scope (items_view l)) (sym whole)
          ∙ c.loop-raw.invariant.built;
      noted =
          ap (λ w. noted_all w (items_faults names around new more)) c.in_ok-more.ensures.noted
          ∙ ap (λ s. noted_all (noted_all walk.least (item_faults names around scope i)) (items_faults names around s more)) seen
          ∙ sym (noted_all-append walk.least (item_faults names around scope i) (items_faults names around (item_after scope i) more))
          ∙ ap (λ l. noted_all walk.least (items_faults names around scope (items_view l))) (sym whole)
          ∙ c.loop-raw.invariant.noted;
      lined =
          ap (λ l. l ++ items_lines names new more) c.in_ok-more.ensures.lined
          ∙ ap (λ s. (walk.lines ++ item_lines names scope i) ++ items_lines names s more) seen
          ∙ append_assoc walk.lines (item_lines names scope i) (items_lines names (item_after scope i) more)
          ∙ ap (λ l. walk.lines ++ items_lines names scope (items_view l)) (sym whole)
          ∙ c.loop-raw.invariant.lined;
      seen =
          ap (λ s. items_after s more) seen
          ∙ ap (λ l. items_after scope (items_view l)) (sym whole)
          ∙ c.loop-raw.invariant.seen;
    }
