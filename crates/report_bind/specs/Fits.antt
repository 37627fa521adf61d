-- Which bound reports fit a program.
use Rattle.std.specs.Prelude.{◌≡◌, ◌≢◌, true, List, [], ◌∷◌, Some, IsSome}
use Rattle.cfix_base.specs.declared.access.AccessId.{AccessId}
use Rattle.cfix_base.specs.declared.number.FnId.{FnId}
use Rattle.cfix_base.specs.declared.number.NodeId.{NodeId}
use Rattle.c_prog.specs.declared.access_item.AccessItem.{AccessItem}
use Rattle.c_prog.specs.declared.tree.Tree.{Tree}
use Rattle.call_graph.specs.Calls.{function_of, callee_of}
use Rattle.call_graph.specs.Sites.{calls_of}
use Rattle.call_graph.specs.declared.site.Site.{Site}
use Rattle.plan_types.specs.declared.bound.Atom.{Atom}
use Rattle.plan_types.specs.declared.bound.Bound.{Bound}
use Rattle.plan_types.specs.declared.bound.Bound.TheVariants as bound
use Rattle.report_bind.specs.Places.{item_at, start_of, in_one_visit, HasRegion}

-- the program has this access
abbrev pub IsAccess : Tree → AccessId → Type 0
IsAccess tree access = IsSome (item_at tree access)

-- calls from a function inwards to a node: each stands in the callee of the one before, the first in the
-- function itself, and the node in the callee of the last
abbrev pub IsCallPath : List Site → FnId → List NodeId → NodeId → Type 0
IsCallPath sites function [] own = function_of sites own ≡ Some function
IsCallPath sites function (node ∷ rest) own =
    (callee : FnId) × (function_of sites node ≡ Some function) × (callee_of sites node ≡ Some callee) × IsCallPath sites callee rest own

-- no call node is common to the fronts of the two paths
abbrev pub AreApart : List NodeId → List NodeId → Type 0
AreApart [] others = Unit {0}
AreApart (node ∷ rest) [] = Unit {0}
AreApart (node ∷ rest) (other ∷ others) = node ≢ other

-- a bound atomicity report of a program
pub record FitsAtom (tree : Tree) (atom : Atom) : Type 0 where
  pub has_p : IsAccess tree atom.p
  pub has_c : IsAccess tree atom.c
  pub has_r : IsAccess tree atom.r
  pub np : atom.np ≡ start_of atom.p_path atom.p.node
  pub nc : atom.nc ≡ start_of atom.c_path atom.c.node
  pub p_calls : IsCallPath (calls_of tree).sites atom.of atom.p_path atom.p.node
  pub c_calls : IsCallPath (calls_of tree).sites atom.of atom.c_path atom.c.node
  pub apart : AreApart atom.p_path atom.c_path
  pub mode : atom.same_visit ≡ in_one_visit tree atom.p_path atom.p atom.c_path atom.c
  pub region : HasRegion tree atom

-- the program has this access, and it is certain
abbrev pub IsCertain : Tree → AccessId → Type 0
IsCertain tree access = (item : AccessItem) × (item_at tree access ≡ Some item) × (item.certain ≡ true)

-- a bound report is one of the program
abbrev pub Fits : Tree → Bound → Type 0
Fits tree (bound.Atom atom) = FitsAtom tree atom
Fits tree (bound.All a b) = IsAccess tree a × IsAccess tree b
Fits tree (bound.First a b) = IsCertain tree a × IsAccess tree b
