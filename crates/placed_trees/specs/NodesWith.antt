-- Nodes with further operations.
use Rattle.std.specs.Prelude.{ℕ, ◌+◌, List, [], ◌∷◌, ◌++◌}
use Rattle.cfix_base.specs.declared.op.Op.{Op}
use Rattle.cfix_base.specs.declared.place.Place.{Place}
use Rattle.cfix_base.specs.declared.place.Place.TheVariants.{After}
use Rattle.c_prog.specs.Order.{Node, act, cond, step, jump}
use Rattle.step_state.specs.Code.{node}
use Rattle.placed_trees.specs.AddOps.{cond_with}

-- a node with further operations at its places
abbrev pub node_with : (Place → List Op) → ℕ → Node → Node
node_with ops n (act a after) = act a (after ++ ops (After (node n)))
node_with ops n (cond c) = cond (cond_with c ops n)
node_with ops n (step s) = step (record { act = s.act; after = s.after ++ ops (After (node n)) })
node_with ops n (jump j after) = jump j (after ++ ops (After (node n)))

-- nodes with further operations, by the number of the first
abbrev pub nodes_with : (Place → List Op) → ℕ → List Node → List Node
nodes_with ops n [] = []
nodes_with ops n (w ∷ ws) = node_with ops n w ∷ nodes_with ops (n + 1) ws
