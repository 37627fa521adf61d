use Rattle.std.proofs.Common.{◌≡◌, take, map}
use Rattle.call_graph.specs.Sites.{is_main_function}
use Rattle.call_graph.proofs.mains.mains.Given as goal

abbrev pub invariant-loop-function : goal.invariant-loop-function
invariant-loop-function l = l.mains ≡ map is_main_function (take l.function-index l.functions)
