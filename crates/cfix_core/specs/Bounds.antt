-- The critical regions and guards of bound reports.
use Rattle.std.specs.Prelude.{ℕ, ◌≡◌, ◌<◌, ◌⊎◌, ◌↔◌, Bool, List, [], ◌∷◌, length}
use Rattle.c_prog.specs.declared.tree.Tree.{Tree}
use Rattle.c_prog.specs.Nodes.{tree_nodes}
use Rattle.flow_graph.specs.Flow.{tree_edges}
use Rattle.flow_graph.specs.Regions.{InRegion}
use Rattle.plan_types.specs.declared.bound.Atom.{Atom}
use Rattle.plan_types.specs.declared.bound.Bound.{Bound}
use Rattle.plan_types.specs.declared.bound.Bound.TheVariants as bound
use Rattle.plan_types.specs.Sets.{IsIn}

-- a set of numbers below this size: those that have the property
pub record IsSetOf (size : ℕ) (set : List Bool) (P : ℕ → Type 0) : Type 0 where
  pub sized : length set ≡ size
  pub has : (n : ℕ) → n < size → (IsIn set n ↔ P n)

-- the critical region together with r's node
abbrev pub InGuard : Tree → Atom → ℕ → Type 0
InGuard tree atom n =
    InRegion atom.same_visit (tree_edges tree) atom.np.number atom.nc.number n ⊎ (n ≡ atom.r.node.number)

abbrev pub more_atoms : Bound → List Atom → List Atom
more_atoms (bound.Atom atom) rest = atom ∷ rest
more_atoms (bound.All a b) rest = rest
more_atoms (bound.First a b) rest = rest

-- the atomicity reports of a list of bound reports, in order
abbrev pub atoms_of : List Bound → List Atom
atoms_of [] = []
atoms_of (bound ∷ rest) = more_atoms bound (atoms_of rest)

-- the guards of atomicity reports, in order
abbrev pub AreGuards : Tree → List Atom → List (List Bool) → Type 0
AreGuards tree [] [] = Unit {0}
AreGuards tree (atom ∷ atoms) (guard ∷ guards) =
    IsSetOf (tree_nodes tree) guard (InGuard tree atom) × AreGuards tree atoms guards
AreGuards tree _ _ = ⊥
