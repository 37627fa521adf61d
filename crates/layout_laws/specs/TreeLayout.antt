-- The layout of a program.
use Rattle.std.specs.Prelude.{ℕ, suc, ◌-◌, nat_lt, ◌==◌, ◌||◌, Bool, true, false, List, [], ◌∷◌, Option, Some, None, ℤ}
use Rattle.cfix_base.specs.declared.number.FnId.{FnId}
use Rattle.c_prog.specs.declared.function.Function.{Function}
use Rattle.c_prog.specs.declared.tree.Tree.{Tree}
use Rattle.c_prog.specs.Calls.{callee, created}
use Rattle.c_prog.specs.Nodes.{function_nodes}
use Rattle.c_prog.specs.Order.{Node, act, cond, step, jump, tree_order, node_at}
use Rattle.flow_graph.specs.Flow.{constant}
use Rattle.step_state.specs.Items.{main_of}
use Rattle.layout_laws.specs.Layout.{Layout}

-- the number of a function, if there is one
abbrev pub number_if : Option FnId → Option ℕ
number_if None = None
number_if (Some f) = Some f.number

-- whether a node is a condition
abbrev pub is_condition : Node → Bool
is_condition (act a after) = false
is_condition (cond c) = true
is_condition (step s) = false
is_condition (jump j after) = false

-- and of a node, if there is one
abbrev pub cond_if : Option Node → Bool
cond_if None = false
cond_if (Some w) = is_condition w

-- the value of a condition that is a number
abbrev pub node_constant : Node → Option ℤ
node_constant (act a after) = None
node_constant (cond c) = constant c.test
node_constant (step s) = None
node_constant (jump j after) = None

-- and of a node, if there is one
abbrev pub constant_if : Option Node → Option ℤ
constant_if None = None
constant_if (Some w) = node_constant w

-- the function that a node calls
abbrev pub callee_if : Option Node → Option ℕ
callee_if None = None
callee_if (Some w) = number_if (callee w)

-- the function whose thread a node creates
abbrev pub created_if : Option Node → Option ℕ
created_if None = None
created_if (Some w) = number_if (created w)

-- the function in which a node stands
abbrev pub or_later : Bool → ℕ → ℕ
or_later true k = 0
or_later false k = suc k

-- the number of the function in which the node with this number stands
abbrev pub function_at : List Function → ℕ → ℕ
function_at [] n = 0
function_at (f ∷ fs) n = or_later (nat_lt n (function_nodes f)) (function_at fs (n - function_nodes f))

-- whether a function is there and has this number
abbrev pub is_number : Option ℕ → ℕ → Bool
is_number None f = false
is_number (Some g) f = g == f

-- whether some node creates a thread of the function
abbrev pub some_creates : List Node → ℕ → Bool
some_creates [] f = false
some_creates (w ∷ ws) f = is_number (number_if (created w)) f || some_creates ws f

-- the layout of a program: threads begin in main and in what nodes create
abbrev pub layout_of : Tree → Layout
layout_of tree = record {
  function = function_at tree.functions;
  is_cond = λ n. cond_if (node_at tree n);
  constant = λ n. constant_if (node_at tree n);
  callee = λ n. callee_if (node_at tree n);
  created = λ n. created_if (node_at tree n);
  is_root = λ f. (f == main_of tree.functions) || some_creates (tree_order tree) f;
}
