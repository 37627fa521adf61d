use Rattle.std.proofs.Common.{◌≡◌, length, ap, sym, ◌∙◌, subst, arith}
use Rattle.std.specs.List.{Contains}
use Rattle.plan_types.specs.Sets.{IsSetOf, no_numbers}
use Rattle.walks.specs.Walks.{IsWalk, targets_in}
use Rattle.walks.specs.Links.{next_in, Comes}
use Rattle.walks.proofs.LinkLaws.{targets-next, comes-found}
use Rattle.walks.proofs.linked.Links.comes.Goals as goal

pub walk-requires : goal.walk-requires
walk-requires c = λ u v here.
    c.self.invariant.below u v
    (subst (λ l. Contains l v) (ap (λ lists. targets_in lists 0 u) c.as_slice.ensures.value ∙ targets-next c.self.inside.lists.items u) here)

pub insert_all-requires : goal.insert_all-requires
insert_all-requires c = λ u here.
    omega (arith, c.requires u here, ap length c.self.view_is, c.self.invariant.sized, c.in_ok-found.ensures.sized)

pub returns : goal.returns
returns c =
    let lists : c.as_slice.result.now ≡ c.self.inside.lists.items = c.as_slice.ensures.value in
    let size : length c.args.self.now ≡ c.self.inside.size = sym (ap length c.self.view_is) ∙ c.self.invariant.sized in
    let walk : IsWalk (targets_in c.self.inside.lists.items 0) (no_numbers c.self.inside.size) c.args.starts.now c.self.inside.size c.in_ok-found.found =
    subst (λ l. IsWalk (targets_in l 0) (no_numbers c.self.inside.size) c.args.starts.now c.self.inside.size c.in_ok-found.found) lists
    (subst (λ none. IsWalk (targets_in c.as_slice.result.now 0) none c.args.starts.now c.self.inside.size c.in_ok-found.found) c.in_ok-none.ensures
    (subst (λ starts. IsWalk (targets_in c.as_slice.result.now 0) c.in_ok-none.none starts c.self.inside.size c.in_ok-found.found) c.in_ok-from.ensures.items
    c.in_ok-found.ensures)) in
    subst (λ l. IsSetOf (length c.args.self.now) c.insert_all.new.set (Comes (next_in l) c.args.starts.now)) c.self.view_is
    (subst (λ n. IsSetOf n c.insert_all.new.set (Comes (next_in c.self.inside.lists.items) c.args.starts.now)) (sym size)
    (comes-found c.self.inside.lists.items c.self.inside.size c.args.starts.now c.in_ok-found.found c.insert_all.new.set walk c.insert_all.ensures))
