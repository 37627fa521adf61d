-- What a machine reads of a program, by the definition of control flow.
use Rattle.std.specs.Prelude.{slice_get, Option, Some, None, option_map}
use Rattle.cfix_base.specs.declared.access.AccessId.{AccessId}
use Rattle.cfix_base.specs.declared.number.VarId.{VarId}
use Rattle.cfix_base.specs.declared.place.Place.{Place}
use Rattle.c_prog.specs.declared.tree.Tree.{Tree}
use Rattle.c_prog.specs.Order.{node_at}
use Rattle.c_prog.specs.Accesses.{touches_of}
use Rattle.flow_graph.specs.Flow.{Next, next}
use Rattle.step_state.specs.Code.{Code}
use Rattle.step_state.specs.Items.{code_of}

-- what control meets after a place that the program may have; nothing follows a place that it does not have
abbrev pub next_or_exit : Option Next → Next
next_or_exit None = None
next_or_exit (Some target) = target

-- the node that control meets after a place, or the exit
abbrev pub next_of : Tree → Place → Next
next_of tree place = next_or_exit (next tree place)

-- what a machine reads of the program; not unfolded in the proofs of crates above, which speak of it as of any `Code`
unfoldable pub tree_code : Tree → Code
tree_code tree = code_of tree (next_of tree)

-- the variable of an access, if the program has the access
abbrev pub variable_of : Tree → AccessId → Option VarId
variable_of tree site = option_map (λ touch. touch.var) (slice_get (touches_of (node_at tree site.node.number)) site.index)
