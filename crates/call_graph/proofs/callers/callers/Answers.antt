use Rattle.std.proofs.Common.{◌≡◌, ◌++◌, ◌∷◌, [], take, length, get_or, None, arith, refl, subst, ap, sym, ◌∙◌}
use Rattle.std.proofs.lemmas.List.{take_more, take_all}
use Rattle.call_graph.specs.declared.site.Site.{Site}
use Rattle.call_graph.specs.Kept.{HaveCallers, with_caller}
use Rattle.call_graph.proofs.CallersKept.{callers_more, callers_sized}
use Rattle.call_graph.proofs.Pushes.{taken}
use Rattle.call_graph.proofs.callers.callers.Goals as goal

abbrev no_site : Site
no_site = record { of = record { number = 0 }; callee = None; created = None }

pub loop-site-preserved : goal.loop-site-preserved
loop-site-preserved c =
    let before = take c.loop-site.site-index c.args.sites.now in
    let site : Site = get_or c.args.sites.now c.loop-site.site-index no_site in
    let last : length before ≡ c.loop-site.number =
    taken c.args.sites.now c.loop-site.site-index c.loop-site-test.true ∙ sym c.loop-site.invariant.0 in
    let lists : c.add_caller.new.lists.items ≡ with_caller c.loop-site.lists.items site.callee (record { number = length before }) =
    c.in_ok-add_caller.ensures ∙ ap (λ n. with_caller c.loop-site.lists.items site.callee (record { number = n })) (sym last) in
    let have : HaveCallers (before ++ site ∷ []) c.add_caller.new.lists.items =
    subst (HaveCallers (before ++ site ∷ [])) (sym lists) (callers_more before site site.callee c.loop-site.lists.items refl c.loop-site.invariant.2) in (
      omega (arith, c.loop-site.invariant.0),
      ap length lists ∙ callers_sized c.loop-site.lists.items site.callee (record { number = length before }) ∙ c.loop-site.invariant.1,
      subst (λ sites. HaveCallers sites c.add_caller.new.lists.items) (sym (take_more c.args.sites.now c.loop-site.site-index no_site c.loop-site-test.true)) have,
    )

pub returns-clause-kept : goal.returns-clause-kept
returns-clause-kept c =
    let all : take c.loop-site.site-index c.args.sites.now ≡ c.args.sites.now = take_all c.loop-site.site-index c.args.sites.now c.loop-site-test.false in
    subst (λ sites. HaveCallers sites c.from_vec.result) all
    (subst (HaveCallers (take c.loop-site.site-index c.args.sites.now)) (sym c.from_vec.ensures) c.loop-site.invariant.2)
