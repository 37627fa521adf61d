use Rattle.std.proofs.Common.{◌≡◌, ◌++◌, ◌∷◌, [], take, length, get_or, None, refl, subst, ap, sym, ◌∙◌}
use Rattle.std.proofs.lemmas.List.{take_more}
use Rattle.call_graph.specs.declared.site.Site.{Site}
use Rattle.call_graph.specs.Kept.{HasCreated, with_created}
use Rattle.call_graph.proofs.CreationsKept.{created_more, created_sized}
use Rattle.call_graph.proofs.created.created.Goals as goal

abbrev no_site : Site
no_site = record { of = record { number = 0 }; callee = None; created = None }

pub loop-site-preserved : goal.loop-site-preserved
loop-site-preserved c =
    let before = take c.loop-site.site-index c.args.sites.now in
    let site : Site = get_or c.args.sites.now c.loop-site.site-index no_site in
    let set : c.add_created.new.set ≡ with_created c.loop-site.set site.created = c.add_created.ensures in
    let has : HasCreated (before ++ site ∷ []) c.add_created.new.set =
    subst (HasCreated (before ++ site ∷ [])) (sym set) (created_more before site site.created c.loop-site.set refl c.loop-site.invariant.1) in (
      ap length set ∙ created_sized c.loop-site.set site.created ∙ c.loop-site.invariant.0,
      subst (λ sites. HasCreated sites c.add_created.new.set) (sym (take_more c.args.sites.now c.loop-site.site-index no_site c.loop-site-test.true)) has,
    )
