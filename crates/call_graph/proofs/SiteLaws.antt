-- How many nodes and functions the calls of a program have.
use Rattle.std.proofs.Common.{◌≡◌, ℕ, ◌+◌, List, [], ◌∷◌, map, length, refl, arith}
use Rattle.std.proofs.lemmas.List.{length-append, length-map}
use Rattle.c_prog.specs.declared.function.Function.{Function}
use Rattle.c_prog.specs.declared.tree.Tree.{Tree}
use Rattle.c_prog.specs.Nodes.{functions_nodes, tree_nodes}
use Rattle.c_prog.specs.Order.{function_order}
use Rattle.c_prog.proofs.NodeLaws.{order_of-length}
use Rattle.call_graph.specs.Sites.{site, sites_from, calls_of, is_main_function}

pub sites_from-length : (number : ℕ) (list : List Function) → length (sites_from number list) ≡ functions_nodes list
sites_from-length number [] = refl
sites_from-length number (f ∷ list) =
    omega (
      arith,
      length-append (map (site number) (function_order f)) (sites_from (number + 1) list),
      length-map (function_order f) (site number),
      order_of-length f.body,
      sites_from-length (number + 1) list,
    )

-- one for each node of the program
pub sites-length : (tree : Tree) → length (calls_of tree).sites ≡ tree_nodes tree
sites-length tree = sites_from-length 0 tree.functions

-- one for each function of the program
pub mains-length : (tree : Tree) → length (calls_of tree).mains ≡ length tree.functions
mains-length tree = length-map tree.functions is_main_function
