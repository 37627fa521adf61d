-- What is inside statements: the numbers that a table of successors is built with, each counted once.
use Rattle.std.specs.Prelude.{ℕ, ◌≡◌, ◌+◌, List, [], ◌∷◌, ◌++◌, map}
use Rattle.c_prog.specs.declared.stmt.Stmt.{Stmt}
use Rattle.c_prog.specs.declared.stmt.Stmt.TheOpen.{Stmt-F}
use Rattle.c_prog.specs.declared.stmt.Stmt.TheFolds.{fold-Stmt}
use Rattle.c_prog.specs.Nodes.{step_nodes}
use Rattle.flow_graph.specs.declared.inner_sizes.InnerSizes.{InnerSizes}

-- the number of nodes of a statement, those of the lists inside it, and what is inside each statement
-- in it, in order
pub record Counted : Type 0 where
  pub size : ℕ
  pub own : InnerSizes
  pub within : List InnerSizes

abbrev pub inside : ℕ → ℕ → InnerSizes
inside first second = record { first = first; second = second }

abbrev pub sizes : List Counted → ℕ
sizes [] = 0
sizes (part ∷ rest) = part.size + sizes rest

-- what is inside each of these statements and of those in them, in order
abbrev pub told : List Counted → List InnerSizes
told [] = []
told (part ∷ rest) = part.own ∷ (part.within ++ told rest)

-- one level of a statement, with what is known of the statements inside
abbrev pub counted_level : Stmt-F Counted → Counted
counted_level (Stmt-F.Simple act after) = record { size = 1; own = inside 0 0; within = [] }
counted_level (Stmt-F.Jump jump after) = record { size = 1; own = inside 0 0; within = [] }
counted_level (Stmt-F.If cond as_true as_false) = record {
  size = 1 + sizes as_true + sizes as_false;
  own = inside (sizes as_true) (sizes as_false);
  within = told as_true ++ told as_false;
}
counted_level (Stmt-F.Loop cond step body) = record {
  size = 1 + step_nodes step + sizes body;
  own = inside (sizes body) 0;
  within = told body;
}
counted_level (Stmt-F.Block body) = record { size = sizes body; own = inside (sizes body) 0; within = told body }

abbrev pub counted : Stmt → Counted
counted = fold-Stmt Counted counted_level

abbrev pub counts_of : List Stmt → List InnerSizes
counts_of list = told (map counted list)

-- a list has another as its front
pub record Begins (front whole : List InnerSizes) : Type 0 where
  pub rest : List InnerSizes
  pub is : whole ≡ front ++ rest
