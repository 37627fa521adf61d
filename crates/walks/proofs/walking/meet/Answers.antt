use Rattle.std.proofs.Common.{◌∷◌, [], sym, ◌∙◌, subst}
use Rattle.walks.specs.Walks.{Grows}
use Rattle.walks.proofs.Turns.{met_avoided, met_new}
use Rattle.walks.proofs.walking.meet.Goals as goal

pub returns-then-contains-2 : goal.returns-then-contains-2
returns-then-contains-2 c =
    subst (λ found. Grows c.args.avoiding.now (c.args.node ∷ []) c.args.found.now c.args.work.now.items found c.args.work.now.items)
    (sym c.insert.ensures)
    (met_avoided c.args.avoiding.now c.args.found.now c.args.work.now.items c.args.node c.requires (sym c.contains.ensures ∙ c.if-contains.false)
    (sym c.contains-2.ensures ∙ c.if-contains-2.true))

pub returns : goal.returns
returns c =
    subst (λ found. Grows c.args.avoiding.now (c.args.node ∷ []) c.args.found.now c.args.work.now.items found c.push.new.self.items)
    (sym c.insert.ensures)
    (subst (Grows c.args.avoiding.now (c.args.node ∷ []) c.args.found.now c.args.work.now.items _) (sym c.in_ok-push.ensures.items)
    (met_new c.args.avoiding.now c.args.found.now c.args.work.now.items c.args.node c.requires (sym c.contains.ensures ∙ c.if-contains.false)
    (sym c.contains-2.ensures ∙ c.if-contains-2.false)))
