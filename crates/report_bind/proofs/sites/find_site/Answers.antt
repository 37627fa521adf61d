use Rattle.std.proofs.Common.{◌≡◌, ◌≢◌, ◌+◌, ◌<◌, false, length, sym, subst, ap, ◌∙◌, arith}
use Rattle.cfix_base.specs.declared.access.Access.TheVariants.{Read}
use Rattle.c_prog.specs.declared.access_item.AccessItem.{AccessItem}
use Rattle.c_prog.specs.Lines.{InOrder}
use Rattle.report_bind.proofs.Turns.{left_of, meant-at, passes, counts, finds}
use Rattle.report_bind.proofs.sites.find_site.Goals as goal
use Rattle.report_bind.proofs.sites.find_site.Goals.{then-is_meant_on+else-left-eq0, else-is_meant_on}

abbrev no_item : AccessItem
no_item = record { id = record { node = record { number = 0 }; index = 0 }; var = record { number = 0 }; access = Read; certain = false }

pub returns-then-left-eq0 : goal.returns-then-left-eq0
returns-then-left-eq0 c =
    let below : c.loop-place.place < length c.args.items.now = omega (arith, c.loop-place-test.true) in
    let meant =
    meant-at c.args.source.now c.args.site.now c.program.result.now c.accesses-entries.result.now c.args.items.now c.loop-place.place
    (record { node = record { number = 0 }; index = 0 }, 0) no_item c.is_meant_on.result c.lines.ensures.lined
    (subst InOrder c.lines.ensures.same c.accesses-entries.ensures.rising)
    (c.accesses-entries.ensures.same ∙ ap (λ l. l.accesses) c.lines.ensures.same) c.requires.all c.program.ensures below c.is_meant_on.ensures in
    let none_left : c.loop-place.left ≡ 0 = omega (arith, c.if-left-eq0.true) in
    sym (finds c.args.source.now c.args.site.now c.args.items.now c.loop-place.place no_item below (meant ∙ c.if-is_meant_on.true))
    ∙ ap (left_of c.args.source.now c.args.site.now c.args.items.now c.loop-place.place) (sym none_left) ∙ c.loop-place.invariant

pub loop-place-preserved : goal.loop-place-preserved
loop-place-preserved c =
    let below : c.loop-place.place < length c.args.items.now = omega (arith, c.loop-place-test.true) in
    let meant =
    meant-at c.args.source.now c.args.site.now c.program.result.now c.accesses-entries.result.now c.args.items.now c.loop-place.place
    (record { node = record { number = 0 }; index = 0 }, 0) no_item c.is_meant_on.result c.lines.ensures.lined
    (subst InOrder c.lines.ensures.same c.accesses-entries.ensures.rising)
    (c.accesses-entries.ensures.same ∙ ap (λ l. l.accesses) c.lines.ensures.same) c.requires.all c.program.ensures below c.is_meant_on.ensures in
    elim c.if-is_meant_on.branch [
      | then-is_meant_on+else-left-eq0 w ↦
          let some : c.loop-place.left ≢ 0 = λ none. omega (arith, w.if-left-eq0.false, none) in
          ap (left_of c.args.source.now c.args.site.now c.args.items.now (c.loop-place.place + 1)) w.left-is
          ∙ sym (counts c.args.source.now c.args.site.now c.args.items.now c.loop-place.place c.loop-place.left no_item below (meant ∙ w.if-is_meant_on.true) some)
          ∙ c.loop-place.invariant
      | else-is_meant_on w ↦
          ap (left_of c.args.source.now c.args.site.now c.args.items.now (c.loop-place.place + 1)) w.left-is
          ∙ sym (passes c.args.source.now c.args.site.now c.args.items.now c.loop-place.place c.loop-place.left no_item below (meant ∙ w.if-is_meant_on.false))
          ∙ c.loop-place.invariant
    ]
