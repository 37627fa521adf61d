-- The plan of one atomicity report in one visit, in a straight main.
use Rattle.std.proofs.Common.{◌≡◌, ℕ, zero, suc, ◌<◌, Bool, true, false, ◌||◌, eqb, List, [], ◌∷◌, length, Some, inl, inr, ap, sym, ◌∙◌, refl, subst, arith}
use Rattle.std.specs.List.{Contains, slice_index_or}
use Rattle.std.proofs.lemmas.Bool.Decides.{eqb_tells}
use Rattle.std.proofs.lemmas.Bool.{eqb-true, eq-eqb, false≢true}
use Rattle.std.proofs.lemmas.List.Elements.{All-nil, All-cons}
use Rattle.std.proofs.Math.Bool.{or-true}
use Rattle.c_prog.specs.declared.act.Act.{Act}
use Rattle.c_prog.specs.declared.global.Global as global_module
use Rattle.c_prog.specs.declared.tree.Tree.{Tree}
use Rattle.c_prog.specs.Nodes.{tree_nodes}
use Rattle.call_graph.specs.Calls.{IsRoot}
use Rattle.call_graph.specs.Chains.{IsCovered}
use Rattle.call_graph.specs.Sites.{calls_of}
use Rattle.flow_graph.specs.Flow.{tree_edges, fn_id}
use Rattle.flow_graph.specs.Paths.{entry}
use Rattle.flow_graph.specs.Regions.{InRegion}
use Rattle.plan_types.specs.declared.bound.Atom.{Atom}
use Rattle.plan_types.specs.declared.bound.Bound.TheVariants as bound
use Rattle.plan_types.specs.declared.class.Class.{Class}
use Rattle.plan_types.specs.Classes.{AreJoined, guard_of, IsClass, AreClasses}
use Rattle.plan_types.specs.Sets.{IsIn}
use Rattle.first_form.specs.Straight.{in_region, bare, guarded}
use Rattle.first_form.proofs.Acts.{nodes-straight}
use Rattle.cfix_core.specs.Bounds.{IsSetOf, InGuard}
use Rattle.cfix_core.specs.Patched.{IsClassPlan, IsPlan, IsPatched}
use Rattle.cfix_core.proofs.StraightOps.{region_nodes, region_length, region_has, straight_plan, straight_patched}

is_first : (i k : ℕ) → k < 1 → slice_index_or (0 ∷ []) k i ≡ i → i ≡ 0
is_first i zero less e = sym e
is_first i (suc k) less e = absurd (omega (arith, less))

has_first : (i : ℕ) → i ≡ 0 → Contains (0 ∷ []) i
has_first i e = (0, omega arith, sym e)

only_zero : (n : ℕ) → n < 1 → n ≡ 0
only_zero n less = omega (arith, less)

-- ---- one report is one class

module _ (nodes : List Bool) where
  abbrev guards : List (List Bool)
  guards = nodes ∷ []

  abbrev class : Class
  class = record { nodes = nodes; reports = 0 ∷ [] }

  joined_first : (i : ℕ) → i ≡ 0 → AreJoined guards 0 i
  joined_first i e = ([], sym e)

  from_guards : (node report : ℕ) → report ≡ 0 → IsIn (guard_of guards report) node → IsIn nodes node
  from_guards node report e h = subst (λ i. IsIn (guard_of guards i) node) e h

  one_class : IsClass guards class
  one_class = record {
    has_report = omega arith;
    rising = λ i j d less within. absurd (omega (arith, less, within));
    joined = λ report. (
      (λ w. let e = is_first report w.0 w.1 w.2 in (omega (arith, e), joined_first report e)),
      (λ w. has_first report (only_zero report w.0)),
    );
    size = refl;
    union = λ node. (
      (λ h. (0, 0, omega arith, refl, h)),
      (λ w. from_guards node w.1 (is_first w.1 w.0 w.2 w.3) w.4),
    );
  }

  one_classes : AreClasses guards (class ∷ [])
  one_classes = record {
    each = All-cons (IsClass guards) class [] one_class (All-nil (IsClass guards));
    every = λ report less. (0, class, omega arith, refl, has_first report (only_zero report less));
    numbered = λ i j d less within. absurd (omega (arith, less, within));
  }

-- the guard of a report in one visit: the node of p and c, and that of r
pub record IsVisit (atom : Atom) (here there : ℕ) : Type 0 where
  pub same_visit : atom.same_visit ≡ true
  pub np : atom.np.number ≡ here
  pub r : atom.r.node.number ≡ there

module _ (globals : List global_module.Global) (acts : List Act) (here there : ℕ) (less_here : here < length acts) (less_there : there < length acts) where
  abbrev tree : Tree
  tree = bare globals acts

  abbrev nodes : List Bool
  nodes = region_nodes here there (length acts)

  in_guard : (atom : Atom) (n : ℕ) → IsVisit atom here there → in_region here there n ≡ true → InGuard tree atom n
  in_guard atom n is e =
      elim (eqb_tells n here) [
        | inl w ↦ inl (visit (w.1 ∙ sym is.np))
        | inr w ↦ inr (eqb-true n there (sym (ap (λ b. b || eqb n there) w.0) ∙ e) ∙ sym is.r)
      ]
    where
      visit : n ≡ atom.np.number → InRegion atom.same_visit (tree_edges tree) atom.np.number atom.nc.number n
      visit same = rw is.same_visit same

  region_node : (atom : Atom) (n : ℕ) → atom.same_visit ≡ true
      → InRegion atom.same_visit (tree_edges tree) atom.np.number atom.nc.number n → n ≡ atom.np.number
  region_node atom n e h = subst (λ b. InRegion b (tree_edges tree) atom.np.number atom.nc.number n) e h

  from_guard : (atom : Atom) (n : ℕ) → IsVisit atom here there → InGuard tree atom n → in_region here there n ≡ true
  from_guard atom n is h =
      elim h [
        | inl w ↦ ap (λ b. b || eqb n there) (eq-eqb n here (region_node atom n is.same_visit w ∙ is.np))
        | inr w ↦ ap (λ b. eqb n here || b) (eq-eqb n there (w ∙ is.r)) ∙ or-true (eqb n here)
      ]

  all_nodes : tree_nodes tree ≡ length acts
  all_nodes = omega (arith, nodes-straight (λ n. []) 0 acts)

  guard_is : (atom : Atom) → IsVisit atom here there → IsSetOf (tree_nodes tree) nodes (InGuard tree atom)
  guard_is atom is = record {
    sized = region_length here there (length acts) ∙ sym all_nodes;
    has = λ n less. (
      (λ h. in_guard atom n is (sym (region_has here there (length acts) n less_here less_there) ∙ h)),
      (λ h. region_has here there (length acts) n less_here less_there ∙ from_guard atom n is h),
    );
  }

  main_is : IsIn (calls_of tree).mains 0
  main_is = refl

  uncovered : IsCovered (calls_of tree) nodes (fn_id 0) → ⊥
  uncovered covered =
      let w = covered [] (record { root = fn_id 0; is_root = inl main_is; leads = refl }) in omega (arith, w.2)

  class_plan : IsClassPlan tree (record { class = record { nodes = nodes; reports = 0 ∷ [] }; covered = false ∷ [] })
  class_plan = record {
    sized = refl;
    has = λ f less. let e = only_zero f less in (
      (λ h. absurd (false≢true (subst (λ g. IsIn (false ∷ []) g) e h))),
      (λ h. absurd (uncovered (subst (λ g. IsCovered (calls_of tree) nodes (fn_id g)) e h))),
    );
  }

  plan_is : (atom : Atom) → IsVisit atom here there
      → IsPlan tree (entry tree 0) (bound.Atom atom ∷ []) (straight_plan here there (length acts))
  plan_is atom is = record {
    guards = nodes ∷ [];
    are_guards = (guard_is atom is, tt);
    classes = one_classes nodes;
    covered = All-cons (IsClassPlan tree) (record { class = record { nodes = nodes; reports = 0 ∷ [] }; covered = false ∷ [] }) []
        class_plan (All-nil (IsClassPlan tree));
    orders = tt;
    roots = record {
      sized = refl;
      has = λ f less. let e = only_zero f less in (
        (λ h. subst (λ g. IsRoot (calls_of tree) (fn_id g)) (sym e) (inl main_is)),
        (λ h. subst (λ g. IsIn (true ∷ []) g) (sym e) refl),
      );
    };
  }

  -- the straight main with its critical region is the patched program
  pub straight_is_patched : (atom : Atom) → IsVisit atom here there
      → IsPatched tree (bound.Atom atom ∷ []) (guarded globals acts (Some (record { here = here; there = there })))
  straight_is_patched atom is = record {
    main = 0;
    is_main = main_is;
    plan = straight_plan here there (length acts);
    is_plan = plan_is atom is;
    is_q = sym (straight_patched globals acts here there less_here less_there);
  }
