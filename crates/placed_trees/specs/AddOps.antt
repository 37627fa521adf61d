-- A program with further operations at its places, behind those that it has.
use Rattle.std.specs.Prelude.{ℕ, ◌+◌, List, [], ◌∷◌, ◌++◌, map, Option, Some, None}
use Rattle.cfix_base.specs.declared.number.OrderId.{OrderId}
use Rattle.cfix_base.specs.declared.op.Op.{Op}
use Rattle.cfix_base.specs.declared.place.Place.{Place}
use Rattle.cfix_base.specs.declared.place.Place.TheVariants.{Start, After, True, False}
use Rattle.c_prog.specs.declared.stmt.Cond.{Cond}
use Rattle.c_prog.specs.declared.stmt.Step.{Step}
use Rattle.c_prog.specs.declared.stmt.Stmt.{Stmt}
use Rattle.c_prog.specs.declared.stmt.Stmt.TheVariants.{Simple, Jump, If, Loop, Block}
use Rattle.c_prog.specs.declared.stmt.Stmt.TheOpen.{Stmt-F}
use Rattle.c_prog.specs.declared.stmt.Stmt.TheFolds.{fold-Stmt}
use Rattle.c_prog.specs.declared.function.Function.{Function}
use Rattle.c_prog.specs.declared.tree.Tree.{Tree}
use Rattle.c_prog.specs.Nodes.{total, step_nodes}
use Rattle.step_state.specs.Code.{node, fn_id}

-- a statement that is to get operations: how many nodes it has, and the statement with those of its places, by its first node
pub record Placed : Type 0 where
  pub size : ℕ
  pub build : (Place → List Op) → ℕ → Stmt

-- how many nodes it has
abbrev pub placed_size : Placed → ℕ
placed_size placed = placed.size

-- how many nodes they have
abbrev pub sizes : List Placed → ℕ
sizes list = total (map placed_size list)

-- statements with further operations, by the first node
abbrev pub build_all : List Placed → (Place → List Op) → ℕ → List Stmt
build_all [] ops start = []
build_all (placed ∷ rest) ops start = placed.build ops start ∷ build_all rest ops (start + placed.size)

-- a condition with further operations on its two ways
abbrev pub cond_with : Cond → (Place → List Op) → ℕ → Cond
cond_with cond ops n = record { test = cond.test; on_true = cond.on_true ++ ops (True (node n)); on_false = cond.on_false ++ ops (False (node n)) }

-- a step with further operations, if there is one
abbrev pub step_with : Option Step → (Place → List Op) → ℕ → Option Step
step_with None ops n = None
step_with (Some step) ops n = Some (record { act = step.act; after = step.after ++ ops (After (node n)) })

-- one level of a statement, with the statements inside
abbrev pub placed_level : Stmt-F Placed → Placed
placed_level (Stmt-F.Simple act after) = record { size = 1; build = λ ops n. Simple act (after ++ ops (After (node n))) }
placed_level (Stmt-F.Jump jump after) = record { size = 1; build = λ ops n. Jump jump (after ++ ops (After (node n))) }
placed_level (Stmt-F.If cond as_true as_false) = record {
  size = 1 + sizes as_true + sizes as_false;
  build = λ ops n. If (cond_with cond ops n) (build_all as_true ops (n + 1)) (build_all as_false ops (n + 1 + sizes as_true));
}
placed_level (Stmt-F.Loop cond step body) = record {
  size = 1 + step_nodes step + sizes body;
  build = λ ops n. Loop (cond_with cond ops n) (step_with step ops (n + 1)) (build_all body ops (n + 1 + step_nodes step));
}
placed_level (Stmt-F.Block body) = record { size = sizes body; build = λ ops n. Block (build_all body ops n) }

-- a statement that is to get operations
abbrev pub placed : Stmt → Placed
placed = fold-Stmt Placed placed_level

-- a function with further operations, by its number and its first node
abbrev pub function_with : (Place → List Op) → ℕ → ℕ → Function → Function
function_with ops number first function = record {
  name = function.name;
  kind = function.kind;
  params = function.params;
  start = function.start ++ ops (Start (fn_id number));
  body = build_all (map placed function.body) ops first;
}

-- functions with further operations
abbrev pub functions_with : (Place → List Op) → ℕ → ℕ → List Function → List Function
functions_with ops number first [] = []
functions_with ops number first (function ∷ rest) =
    function_with ops number first function ∷ functions_with ops (number + 1) (first + sizes (map placed function.body)) rest

-- the program with further operations and starts
abbrev pub add_ops : (Place → List Op) → List OrderId → Tree → Tree
add_ops ops starts tree = record {
  globals = tree.globals;
  functions = functions_with ops 0 0 tree.functions;
  starts = tree.starts ++ starts;
}
