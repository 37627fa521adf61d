-- Which function each node of a program stands in, calls, and starts as a thread.
use Rattle.std.specs.Prelude.{ℕ, ◌+◌, Bool, List, [], ◌∷◌, ◌++◌, map}
use Rattle.c_prog.specs.declared.function.Function.{Function}
use Rattle.c_prog.specs.declared.tree.Tree.{Tree}
use Rattle.c_prog.specs.Calls.{callee, created}
use Rattle.c_prog.specs.Order.{Node, function_order}
use Rattle.c_prog.specs.Valid.Expressions.{is_main_name}
use Rattle.call_graph.specs.declared.site.Site.{Site}

-- a node of the function with this number
abbrev pub site : ℕ → Node → Site
site function node = record { of = record { number = function }; callee = callee node; created = created node }

-- the nodes of functions whose numbers begin here, function after function
abbrev pub sites_from : ℕ → List Function → List Site
sites_from number [] = []
sites_from number (function ∷ rest) = map (site number) (function_order function) ++ sites_from (number + 1) rest

-- the nodes of a program by their numbers, and of each function whether it is main
pub record CallGraph : Type 0 where
  pub sites : List Site
  pub mains : List Bool

abbrev pub is_main_function : Function → Bool
is_main_function function = is_main_name function.name

-- the calls of a program
abbrev pub calls_of : Tree → CallGraph
calls_of tree = record { sites = sites_from 0 tree.functions; mains = map is_main_function tree.functions }
