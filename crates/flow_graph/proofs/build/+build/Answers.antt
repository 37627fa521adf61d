use Rattle.std.proofs.Common.{length, ◌≡◌, ◌+◌, ◌<◌, ◌++◌, List, ◌∙◌, ap, sym, subst, arith, append_assoc}
use Rattle.c_prog.specs.Nodes.{step_nodes}
use Rattle.flow_graph.specs.Flow.{flow, size_of, parts_of, along, in_loop}
use Rattle.flow_graph.specs.Table.{table_ways, table_end}
use Rattle.flow_graph.specs.Counts.{counted, counts_of, Begins}
use Rattle.flow_graph.specs.declared.inner_sizes.InnerSizes.{InnerSizes}
use Rattle.flow_graph.proofs.CountLaws.{size_all, of-If, of-Loop, of-Block, begins_as, begins_first, begins_second, fewer-first, fewer-second, fewer-inside, taken_at, size_at, on_ok, ways-If, ways-Loop}
use Rattle.flow_graph.proofs.build.+build.Goals as goal

pub add_stmt-add_if-requires : goal.add_stmt-add_if-requires
add_stmt-add_if-requires t c =
    let k = of-If c.args.stmt.now c.args.inside c.in-If.cond c.in-If.yes c.in-If.no c.in-If.is c.requires.own in
    record { fits = omega (arith, k.whole, c.requires.fits) }

pub add_stmt-add_all-requires : goal.add_stmt-add_all-requires
add_stmt-add_all-requires t c =
    let k = of-If c.args.stmt.now c.args.inside c.in-If.cond c.in-If.yes c.in-If.no c.in-If.is c.requires.own in
    let same : size_all c.as_slice.result.now ≡ size_all c.in-If.yes = ap size_all c.as_slice.ensures in
    let fits : c.args.start + 1 + size_of (parts_of c.as_slice.result.now) < 4294967296 = omega (arith, same, k.first, k.whole, c.requires.fits) in
    let here : c.args.start + 1 ≡ table_end c.add_if.new.table = omega (arith, c.requires.here, c.in_ok-add_if-in-If.ensures.last) in
    let told : Begins (counts_of c.as_slice.result.now) c.args.counts.now =
    subst (λ l. Begins (counts_of l) c.args.counts.now) (sym c.as_slice.ensures) (begins_first (counts_of c.in-If.yes) (counts_of c.in-If.no) (counted c.args.stmt.now).within c.args.counts.now k.within c.requires.told) in
    (omega (arith, fewer-first (counts_of c.in-If.yes) (counts_of c.in-If.no) (counted c.args.stmt.now).within k.within, ap (λ l. length (counts_of l)) c.as_slice.ensures, c.decreases), (fits, (here, (k.first ∙ sym same, told))))

pub add_stmt-overflow_add-other-in-If : goal.add_stmt-overflow_add-other-in-If
add_stmt-overflow_add-other-in-If t c =
    let k = of-If c.args.stmt.now c.args.inside c.in-If.cond c.in-If.yes c.in-If.no c.in-If.is c.requires.own in
    omega (arith, k.whole, c.requires.fits)

pub add_stmt-add_all-requires-in-If : goal.add_stmt-add_all-requires-in-If
add_stmt-add_all-requires-in-If t c =
    let k = of-If c.args.stmt.now c.args.inside c.in-If.cond c.in-If.yes c.in-If.no c.in-If.is c.requires.own in
    let first : size_all c.as_slice.result.now ≡ size_all c.in-If.yes = ap size_all c.as_slice.ensures in
    let same : size_all c.as_slice-in-If.result.now ≡ size_all c.in-If.no = ap size_all c.as_slice-in-If.ensures in
    let fits : c.args.start + 1 + c.args.inside.first + size_of (parts_of c.as_slice-in-If.result.now) < 4294967296 = omega (arith, same, k.second, k.whole, c.requires.fits) in
    let here : c.args.start + 1 + c.args.inside.first ≡ table_end c.add_all.new.table = omega (arith, first, k.first, c.in_ok-add_all-in-If.ensures.last) in
    let after : (rest : List InnerSizes) → c.args.counts.now ≡ counts_of c.in-If.yes ++ rest → c.add_all.new.counts ≡ rest =
    λ rest e. c.in_ok-add_all-in-If.ensures.rest rest (e ∙ ap (λ l. counts_of l ++ rest) (sym c.as_slice.ensures)) in
    let told : Begins (counts_of c.as_slice-in-If.result.now) c.add_all.new.counts =
    subst (λ l. Begins (counts_of l) c.add_all.new.counts) (sym c.as_slice-in-If.ensures) (begins_second (counts_of c.in-If.yes) (counts_of c.in-If.no) (counted c.args.stmt.now).within c.args.counts.now c.add_all.new.counts k.within c.requires.told after) in
    (omega (arith, fewer-second (counts_of c.in-If.yes) (counts_of c.in-If.no) (counted c.args.stmt.now).within k.within, ap (λ l. length (counts_of l)) c.as_slice-in-If.ensures, c.decreases), (fits, (here, (k.second ∙ sym same, told))))

pub add_stmt-add_loop-requires-clause-fits : goal.add_stmt-add_loop-requires-clause-fits
add_stmt-add_loop-requires-clause-fits t c =
    let k = of-Loop c.args.stmt.now c.args.inside c.in-Loop.cond c.in-Loop.step c.in-Loop.body c.in-Loop.is c.requires.own in
    omega (arith, k.whole, c.requires.fits)

pub add_stmt-add_all-requires-in-Loop : goal.add_stmt-add_all-requires-in-Loop
add_stmt-add_all-requires-in-Loop t c =
    let k = of-Loop c.args.stmt.now c.args.inside c.in-Loop.cond c.in-Loop.step c.in-Loop.body c.in-Loop.is c.requires.own in
    let same : size_all c.as_slice-in-Loop.result.now ≡ size_all c.in-Loop.body = ap size_all c.as_slice-in-Loop.ensures in
    let fits : c.args.start + c.step_size.result + 1 + size_of (parts_of c.as_slice-in-Loop.result.now) < 4294967296 = omega (arith, same, c.step_size.ensures, k.first, k.whole, c.requires.fits) in
    let here : c.args.start + c.step_size.result + 1 ≡ table_end c.add_loop.new.table = omega (arith, c.step_size.ensures, c.in_ok-add_loop-in-Loop.ensures.last) in
    let told : Begins (counts_of c.as_slice-in-Loop.result.now) c.args.counts.now =
    subst (λ l. Begins (counts_of l) c.args.counts.now) (sym c.as_slice-in-Loop.ensures) (begins_as (counts_of c.in-Loop.body) (counted c.args.stmt.now).within c.args.counts.now k.within c.requires.told) in
    (omega (arith, ap length k.within, ap (λ l. length (counts_of l)) c.as_slice-in-Loop.ensures, c.decreases), (fits, (here, (k.first ∙ sym same, told))))

pub add_stmt-add_all-requires-in-Block : goal.add_stmt-add_all-requires-in-Block
add_stmt-add_all-requires-in-Block t c =
    let k = of-Block c.args.stmt.now c.args.inside c.in-Block.body c.in-Block.is c.requires.own in
    let same : size_all c.as_slice-in-Block.result.now ≡ size_all c.in-Block.body = ap size_all c.as_slice-in-Block.ensures in
    let fits : c.args.start + size_of (parts_of c.as_slice-in-Block.result.now) < 4294967296 = omega (arith, same, k.first, k.whole, c.requires.fits) in
    let told : Begins (counts_of c.as_slice-in-Block.result.now) c.args.counts.now =
    subst (λ l. Begins (counts_of l) c.args.counts.now) (sym c.as_slice-in-Block.ensures) (begins_as (counts_of c.in-Block.body) (counted c.args.stmt.now).within c.args.counts.now k.within c.requires.told) in
    (omega (arith, ap length k.within, ap (λ l. length (counts_of l)) c.as_slice-in-Block.ensures, c.decreases), (fits, (c.requires.here, (k.first ∙ sym same, told))))

pub add_stmt-returns-in_ok-add_all-in-If-clause-ways :
    goal.add_stmt-returns-in_ok-add_all-in-If-clause-ways
add_stmt-returns-in_ok-add_all-in-If-clause-ways t c =
    on_ok c.add_all-in-If.result (table_ways c.add_all-in-If.new.table ≡ table_ways c.add_all.new.table ++ along (parts_of c.as_slice-in-If.result.now) (c.args.start + 1 + c.args.inside.first) c.args.around) (table_ways c.add_all-in-If.new.table ≡ table_ways c.args.table.now ++ (flow c.args.stmt.now).ways c.args.start c.args.around) c.add_all-in-If.ensures.ways
    (λ last. ways-If c.args.stmt.now c.args.inside c.in-If.cond c.in-If.yes c.in-If.no c.in-If.is c.requires.own c.args.start (table_end c.args.table.now) c.args.around c.requires.here
    (table_ways c.args.table.now) (table_ways c.add_if.new.table) (table_ways c.add_all.new.table) (table_ways c.add_all-in-If.new.table)
    c.in_ok-add_if-in-If.ensures.ways
    (c.in_ok-add_all-in-If.ensures.ways ∙ ap (λ l. table_ways c.add_if.new.table ++ along (parts_of l) (c.args.start + 1) c.args.around) c.as_slice.ensures)
    (last ∙ ap (λ l. table_ways c.add_all.new.table ++ along (parts_of l) (c.args.start + 1 + c.args.inside.first) c.args.around) c.as_slice-in-If.ensures))

pub add_stmt-returns-in_ok-add_all-in-If-clause-last :
    goal.add_stmt-returns-in_ok-add_all-in-If-clause-last
add_stmt-returns-in_ok-add_all-in-If-clause-last t c =
    let k = of-If c.args.stmt.now c.args.inside c.in-If.cond c.in-If.yes c.in-If.no c.in-If.is c.requires.own in
    let same : size_all c.as_slice-in-If.result.now ≡ size_all c.in-If.no = ap size_all c.as_slice-in-If.ensures in
    on_ok c.add_all-in-If.result (table_end c.add_all-in-If.new.table ≡ c.args.start + 1 + c.args.inside.first + size_of (parts_of c.as_slice-in-If.result.now)) (table_end c.add_all-in-If.new.table ≡ c.args.start + (flow c.args.stmt.now).size) c.add_all-in-If.ensures.last
    (λ last. omega (arith, last, same, k.second, k.whole))

pub add_stmt-returns-in_ok-add_all-in-If-clause-rest :
    goal.add_stmt-returns-in_ok-add_all-in-If-clause-rest
add_stmt-returns-in_ok-add_all-in-If-clause-rest t c =
    let k = of-If c.args.stmt.now c.args.inside c.in-If.cond c.in-If.yes c.in-If.no c.in-If.is c.requires.own in
    on_ok c.add_all-in-If.result ((rest : List InnerSizes) → c.add_all.new.counts ≡ counts_of c.as_slice-in-If.result.now ++ rest → c.add_all-in-If.new.counts ≡ rest) ((rest : List InnerSizes) → c.args.counts.now ≡ (counted c.args.stmt.now).within ++ rest → c.add_all-in-If.new.counts ≡ rest) c.add_all-in-If.ensures.rest
    (λ last rest e. last rest (c.in_ok-add_all-in-If.ensures.rest (counts_of c.as_slice-in-If.result.now ++ rest)
    (e ∙ ap (λ l. l ++ rest) (k.within ∙ ap (λ l. counts_of l ++ counts_of c.in-If.no) (sym c.as_slice.ensures) ∙ ap (λ l. counts_of c.as_slice.result.now ++ counts_of l) (sym c.as_slice-in-If.ensures)) ∙ append_assoc (counts_of c.as_slice.result.now) (counts_of c.as_slice-in-If.result.now) rest)))

pub add_stmt-returns-in_ok-add_loop-in-Loop-clause-ways :
    goal.add_stmt-returns-in_ok-add_loop-in-Loop-clause-ways
add_stmt-returns-in_ok-add_loop-in-Loop-clause-ways t c =
    let first : c.args.start + c.step_size.result + 1 ≡ c.args.start + 1 + step_nodes c.in-Loop.step = omega (arith, c.step_size.ensures) in
    on_ok c.add_all-in-Loop.result (table_ways c.add_all-in-Loop.new.table ≡ table_ways c.add_loop.new.table ++ along (parts_of c.as_slice-in-Loop.result.now) (c.args.start + c.step_size.result + 1) c.in_loop-around.result) (table_ways c.add_all-in-Loop.new.table ≡ table_ways c.args.table.now ++ (flow c.args.stmt.now).ways c.args.start c.args.around) c.add_all-in-Loop.ensures.ways
    (λ last. ways-Loop c.args.stmt.now c.args.inside c.in-Loop.cond c.in-Loop.step c.in-Loop.body c.in-Loop.is c.requires.own c.args.start (c.args.start + c.step_size.result + 1) c.args.around c.in_loop-around.result first
    (c.in_loop-around.ensures ∙ ap (λ n. in_loop (c.args.start + n) c.args.around) c.step_size.ensures)
    (table_ways c.args.table.now) (table_ways c.add_loop.new.table) (table_ways c.add_all-in-Loop.new.table)
    c.in_ok-add_loop-in-Loop.ensures.ways
    (last ∙ ap (λ l. table_ways c.add_loop.new.table ++ along (parts_of l) (c.args.start + c.step_size.result + 1) c.in_loop-around.result) c.as_slice-in-Loop.ensures))

pub add_stmt-returns-in_ok-add_loop-in-Loop-clause-rest :
    goal.add_stmt-returns-in_ok-add_loop-in-Loop-clause-rest
add_stmt-returns-in_ok-add_loop-in-Loop-clause-rest t c =
    let k = of-Loop c.args.stmt.now c.args.inside c.in-Loop.cond c.in-Loop.step c.in-Loop.body c.in-Loop.is c.requires.own in
    on_ok c.add_all-in-Loop.result ((rest : List InnerSizes) → c.args.counts.now ≡ counts_of c.as_slice-in-Loop.result.now ++ rest → c.add_all-in-Loop.new.counts ≡ rest) ((rest : List InnerSizes) → c.args.counts.now ≡ (counted c.args.stmt.now).within ++ rest → c.add_all-in-Loop.new.counts ≡ rest) c.add_all-in-Loop.ensures.rest
    (λ last rest e. last rest (e ∙ ap (λ l. l ++ rest) (k.within ∙ ap counts_of (sym c.as_slice-in-Loop.ensures))))

pub add_stmt-returns-in-Block-clause-rest : goal.add_stmt-returns-in-Block-clause-rest
add_stmt-returns-in-Block-clause-rest t c =
    let k = of-Block c.args.stmt.now c.args.inside c.in-Block.body c.in-Block.is c.requires.own in
    on_ok c.add_all-in-Block.result ((rest : List InnerSizes) → c.args.counts.now ≡ counts_of c.as_slice-in-Block.result.now ++ rest → c.add_all-in-Block.new.counts ≡ rest) ((rest : List InnerSizes) → c.args.counts.now ≡ (counted c.args.stmt.now).within ++ rest → c.add_all-in-Block.new.counts ≡ rest) c.add_all-in-Block.ensures.rest
    (λ last rest e. last rest (e ∙ ap (λ l. l ++ rest) (k.within ∙ ap counts_of (sym c.as_slice-in-Block.ensures))))

pub add_all-add_stmt-requires : goal.add_all-add_stmt-requires
add_all-add_stmt-requires t c =
    let list = c.args.list.now in
    let n = c.loop-stmt.stmt-index in
    let fewer = fewer-inside list n c.stmt-item.result c.loop-stmt-test.true in
    let sizes = size_at list n c.stmt-item.result c.loop-stmt-test.true c.stmt-item.is in
    let fits : c.loop-stmt.at + (flow c.stmt-item.result).size < 4294967296 = omega (arith, sizes, c.loop-stmt.invariant.0, c.loop-stmt.invariant.1, c.requires.fits) in
    let next = taken_at list n c.stmt-item.result c.loop-stmt-test.true c.stmt-item.is c.loop-stmt.counts c.next-inside.result c.next-inside.new.self c.requires.told.rest (c.loop-stmt.invariant.5 c.requires.told.rest c.requires.told.is) c.next-inside.ensures in
    (omega (arith, fewer, ap (λ s. length (counted s).within) c.stmt-item.is, c.decreases), (fits, (c.loop-stmt.invariant.2, (next.own, next.within))))
