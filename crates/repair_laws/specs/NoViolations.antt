-- What a placed program has no run with.
use Rattle.std.specs.Prelude.{◌≡◌, ℕ, ℤ, false, List}
use Rattle.cfix_base.specs.declared.access.AccessId.{AccessId}
use Rattle.cfix_base.specs.declared.entry.Entry.{Entry}
use Rattle.c_prog.specs.declared.tree.Tree.{Tree}
use Rattle.step_tables.specs.TreeCode.{tree_code}
use Rattle.atom_laws.specs.Violations.{NoAtomLater, NoAtomSame}
use Rattle.order_laws.specs.OrderRuns.{IsCertain, NoAllBefore, NoFirstBefore}
use Rattle.placed_trees.specs.Placement.{ClassPlan, OrderPlan}
use Rattle.repair_laws.specs.Regions.{GuardsPaths, GuardsVisit, Region}

-- no run of q without timeouts of lock k has an atomicity violation of a region that the class guards in the program
pub record NoAtomicityViolation (tree q : Tree) (class : ClassPlan) (k : ℕ) (g : Region) (input : List ℤ) (es : List Entry) : Type 0 where
  pub in_one_visit : GuardsVisit class g → NoAtomSame q g.np g.p g.c g.r g.p_path g.c_path k input es
  pub to_next_visit : GuardsPaths tree class g → NoAtomLater q g.np g.nc g.p g.c g.r g.p_path g.c_path k input es

-- no run of q without timeouts of order j has a violation of it: of a first-before, where each visit of a's node makes a
pub record NoOrderViolation (tree q : Tree) (o : OrderPlan) (j : ℕ) (a b : AccessId) (input : List ℤ) (es : List Entry) : Type 0 where
  pub all_before : o.is_first ≡ false → NoAllBefore (tree_code q) j a b input es
  pub first_before : IsCertain (tree_code tree) a → NoFirstBefore (tree_code q) j a b input es
