use Rattle.std.proofs.Common.{rules, ◌≡◌, ◌<◌, length, get_or}
use Rattle.step_tables.proofs.Whole.{left_init, left_room, left_next}
use Rattle.step_tables.proofs.functions.keep_tree.Goals as goal

pub loop-function-init : goal.loop-function-init
loop-function-init c = left_init c.args.tree.now c.new-rows.result c.new-locals.result c.requires c.new-rows.ensures c.new-locals.ensures

pub keep_function-requires : goal.keep_function-requires
keep_function-requires c =
    let within : c.loop-function.function-index < length c.args.tree.now.functions = search rules in
    let is : c.function-item.result ≡ get_or c.args.tree.now.functions c.loop-function.function-index c.function-item.result = search rules in
    left_room c.args.tree.now c.loop-function.function-index c.loop-function.number c.loop-function.rows c.loop-function.locals c.function-item.result
    c.requires c.loop-function.invariant within is

pub loop-function-preserved : goal.loop-function-preserved
loop-function-preserved c =
    let within : c.loop-function.function-index < length c.args.tree.now.functions = search rules in
    let is : c.function-item.result ≡ get_or c.args.tree.now.functions c.loop-function.function-index c.function-item.result = search rules in
    left_next c.args.tree.now.functions c.loop-function.function-index c.loop-function.number c.loop-function.rows c.loop-function.locals c.function-item.result
    c.keep_function.new.rows c.in_ok-kinds.kinds c.push.new.self
    c.loop-function.invariant within is c.in_ok-kinds.ensures.rows c.in_ok-kinds.ensures.locals c.in_ok-push.ensures.pushed
