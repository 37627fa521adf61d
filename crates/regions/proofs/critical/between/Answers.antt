use Rattle.std.proofs.Common.{◌≡◌, length, ap, subst, ◌∙◌}
use Rattle.std.proofs.lemmas.Result.{IfOk-weaker}
use Rattle.flow_graph.specs.Flow.{edges_of}
use Rattle.flow_graph.specs.Paths.{IsReach, IsBack}
use Rattle.regions.specs.Region.{IsBetween}
use Rattle.regions.specs.Between.{one_number, two_numbers, IsGathered}
use Rattle.regions.proofs.Paths.{gathered_is}
use Rattle.regions.proofs.critical.between.Goals as goal

pub returns : goal.returns
returns c =
    let edges = edges_of c.args.flow.now.ways in
    let u = c.args.atom.now.np.number in
    let v = c.args.atom.now.nc.number in
    let size = c.args.flow.now.size in
    let ends_are : c.in_ok-ends.ends ≡ two_numbers size u v = c.in_ok-ends.ensures ∙ ap (λ s. two_numbers s u v) c.size.ensures in
    let last_is : c.in_ok-last.last ≡ one_number size v = c.in_ok-last.ensures ∙ ap (λ s. one_number s v) c.size-2.ensures in
    let reach : IsReach edges (two_numbers size u v) u size c.in_ok-ahead.ahead =
    subst (λ ends. IsReach edges ends u size c.in_ok-ahead.ahead) ends_are c.in_ok-ahead.ensures in
    let back : IsBack edges (two_numbers size u v) (one_number size v) size c.in_ok-behind.behind =
    subst (λ ends. IsBack edges ends (one_number size v) size c.in_ok-behind.behind) ends_are
    (subst (λ last. IsBack edges c.in_ok-ends.ends last size c.in_ok-behind.behind) last_is c.in_ok-behind.ensures) in
    IfOk-weaker c.gather.result (IsGathered c.in_ok-ahead.ahead c.in_ok-behind.behind u v (length c.in_ok-ahead.ahead)) (IsBetween c.args.flow.now c.args.atom.now)
    (λ set gathered. record {
      sized = gathered.sized ∙ reach.sized;
      nodes = gathered_is edges u v size c.requires.np c.requires.nc c.in_ok-ahead.ahead c.in_ok-behind.behind reach back set gathered;
    })
    c.gather.ensures
