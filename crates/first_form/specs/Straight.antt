-- Straight programs: main alone, whose body is simple statements; and the operations of one class of
-- which some nodes of main are the critical region.
use Rattle.std.specs.Prelude.{ℕ, ◌+◌, Bool, true, false, ◌||◌, eqb, List, [], ◌∷◌, codes, Option, Some, None}
use Rattle.cfix_base.specs.declared.op.Op.{Op}
use Rattle.cfix_base.specs.declared.op.Op.TheVariants.{Leave, Enter}
use Rattle.c_prog.specs.declared.act.Act.{Act}
use Rattle.c_prog.specs.declared.stmt.Stmt.{Stmt}
use Rattle.c_prog.specs.declared.stmt.Stmt.TheVariants.{Simple}
use Rattle.c_prog.specs.declared.function.FnKind.TheVariants as kind
use Rattle.c_prog.specs.declared.function.Function.{Function}
use Rattle.c_prog.specs.declared.global.Global as global_module
use Rattle.c_prog.specs.declared.tree.Tree.{Tree}
use Rattle.first_form.specs.declared.region.Region.{Region}

-- statements as nodes `first` and on, each with the operations behind it
abbrev pub with_ops : (ℕ → List Op) → ℕ → List Act → List Stmt
with_ops behind first [] = []
with_ops behind first (act ∷ more) = Simple act (behind first) ∷ with_ops behind (first + 1) more

-- main with these operations at its start
abbrev pub main_with : List Op → List Stmt → Function
main_with start body = record { name = codes "main"; kind = kind.Int; params = []; start = start; body = body }

-- the program of these globals and these statements, with these operations at the start of main and
-- behind each node
abbrev pub straight : List global_module.Global → List Act → List Op → (ℕ → List Op) → Tree
straight globals acts start behind = record {
  globals = globals;
  functions = main_with start (with_ops behind 0 acts) ∷ [];
  starts = [];
}

-- without operations
abbrev pub bare : List global_module.Global → List Act → Tree
bare globals acts = straight globals acts [] (λ n. [])

-- one of two nodes
abbrev pub in_region : ℕ → ℕ → ℕ → Bool
in_region here there n = eqb n here || eqb n there

-- a node of the critical region, if there is one
abbrev pub inside : Option Region → ℕ → Bool
inside None n = false
inside (Some region) n = in_region region.here region.there n

-- the operations on the way from one node to the next, by whether each is in the region
abbrev pub crossing : Bool → Bool → List Op
crossing true true = []
crossing true false = Leave (record { number = 0 }) ∷ []
crossing false true = Enter (record { number = 0 }) ∷ []
crossing false false = []

-- the operations behind a node
abbrev pub behind : Option Region → ℕ → List Op
behind region n = crossing (inside region n) (inside region (n + 1))

-- the program with the operations of lock 0 round its critical region
abbrev pub guarded : List global_module.Global → List Act → Option Region → Tree
guarded globals acts region = straight globals acts (crossing false (inside region 0)) (behind region)
