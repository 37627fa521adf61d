use Rattle.std.proofs.Common.{◌≡◌, ◌++◌, ◌∙◌, ap, append_assoc}
use Rattle.flow_graph.specs.Counts.{counts_of, inside}
use Rattle.flow_graph.proofs.CountLaws.{settled, size_all, added-If, added-Loop, added-Block}
use Rattle.flow_graph.proofs.counting.+count.Goals as goal

pub count-returns-in_ok-second-in-If-clause-counts :
    goal.count-returns-in_ok-second-in-If-clause-counts
count-returns-in_ok-second-in-If-clause-counts t c =
    let first : c.in_ok-first-in-If.first ≡ size_all c.in-If.yes = c.in_ok-first-in-If.ensures.size ∙ ap size_all c.as_slice.ensures in
    let second : c.in_ok-second-in-If.second ≡ size_all c.in-If.no = c.in_ok-second-in-If.ensures.size ∙ ap size_all c.as_slice-in-If.ensures in
    let yes : c.count_all.new.sizes ≡ c.keep.new.sizes ++ counts_of c.in-If.yes = c.in_ok-first-in-If.ensures.counts ∙ ap (λ l. c.keep.new.sizes ++ counts_of l) c.as_slice.ensures in
    let no : c.count_all-in-If.new.sizes ≡ c.count_all.new.sizes ++ counts_of c.in-If.no = c.in_ok-second-in-If.ensures.counts ∙ ap (λ l. c.count_all.new.sizes ++ counts_of l) c.as_slice-in-If.ensures in
    let both : c.count_all-in-If.new.sizes ≡ c.keep.new.sizes ++ (counts_of c.in-If.yes ++ counts_of c.in-If.no) =
    no ∙ ap (λ l. l ++ counts_of c.in-If.no) yes ∙ append_assoc c.keep.new.sizes (counts_of c.in-If.yes) (counts_of c.in-If.no) in
    settled c.args.sizes.now c.keep.new.sizes (counts_of c.in-If.yes ++ counts_of c.in-If.no) c.count_all-in-If.new.sizes c.settle.new.sizes (inside 0 0) (inside c.in_ok-first-in-If.first c.in_ok-second-in-If.second) c.in_ok-place.place c.in_ok-place.ensures.place c.in_ok-place.ensures.kept both c.settle.ensures
    ∙ added-If c.args.stmt.now c.args.sizes.now c.in-If.cond c.in-If.yes c.in-If.no c.in-If.is c.in_ok-first-in-If.first c.in_ok-second-in-If.second first second

pub count-returns-in_ok-first-in-Loop-clause-counts :
    goal.count-returns-in_ok-first-in-Loop-clause-counts
count-returns-in_ok-first-in-Loop-clause-counts t c =
    let first : c.in_ok-first-in-Loop.first ≡ size_all c.in-Loop.body = c.in_ok-first-in-Loop.ensures.size ∙ ap size_all c.as_slice-in-Loop.ensures in
    let body : c.count_all-in-Loop.new.sizes ≡ c.keep.new.sizes ++ counts_of c.in-Loop.body = c.in_ok-first-in-Loop.ensures.counts ∙ ap (λ l. c.keep.new.sizes ++ counts_of l) c.as_slice-in-Loop.ensures in
    settled c.args.sizes.now c.keep.new.sizes (counts_of c.in-Loop.body) c.count_all-in-Loop.new.sizes c.settle-in-Loop.new.sizes (inside 0 0) (inside c.in_ok-first-in-Loop.first 0) c.in_ok-place.place c.in_ok-place.ensures.place c.in_ok-place.ensures.kept body c.settle-in-Loop.ensures
    ∙ added-Loop c.args.stmt.now c.args.sizes.now c.in-Loop.cond c.in-Loop.step c.in-Loop.body c.in-Loop.is c.in_ok-first-in-Loop.first first

pub count-returns-in_ok-first-in-Block-clause-counts :
    goal.count-returns-in_ok-first-in-Block-clause-counts
count-returns-in_ok-first-in-Block-clause-counts t c =
    let first : c.in_ok-first-in-Block.first ≡ size_all c.in-Block.body = c.in_ok-first-in-Block.ensures.size ∙ ap size_all c.as_slice-in-Block.ensures in
    let body : c.count_all-in-Block.new.sizes ≡ c.keep.new.sizes ++ counts_of c.in-Block.body = c.in_ok-first-in-Block.ensures.counts ∙ ap (λ l. c.keep.new.sizes ++ counts_of l) c.as_slice-in-Block.ensures in
    settled c.args.sizes.now c.keep.new.sizes (counts_of c.in-Block.body) c.count_all-in-Block.new.sizes c.settle-in-Block.new.sizes (inside 0 0) (inside c.in_ok-first-in-Block.first 0) c.in_ok-place.place c.in_ok-place.ensures.place c.in_ok-place.ensures.kept body c.settle-in-Block.ensures
    ∙ added-Block c.args.stmt.now c.args.sizes.now c.in-Block.body c.in-Block.is c.in_ok-first-in-Block.first first
