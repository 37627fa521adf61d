-- The places of control flow: where each stands, and in which function.
use Rattle.std.proofs.Common.{◌≡◌, ℕ, zero, suc, ◌+◌, ◌-◌, ◌<◌, ◌≤◌, Bool, true, false, ◌==◌, List, [], ◌∷◌, ◌++◌, map, take, slice_get, Option, Some, None, if◌then◌else◌, refl, ap, sym, ◌∙◌, subst, arith}
use Rattle.std.specs.Prelude.{nat_lt}
use Rattle.std.proofs.lemmas.Bool.{eqb-true}
use Rattle.cfix_base.specs.declared.number.NodeId.{NodeId}
use Rattle.cfix_base.specs.declared.place.Place.{Place}
use Rattle.cfix_base.specs.declared.place.Place.TheVariants.{Start, After, True, False}
use Rattle.c_prog.specs.declared.function.Function.{Function}
use Rattle.c_prog.specs.declared.stmt.Step.{Step}
use Rattle.c_prog.specs.declared.stmt.Stmt.{Stmt}
use Rattle.c_prog.specs.declared.stmt.Stmt.TheViews.{roll-Stmt}
use Rattle.c_prog.specs.declared.stmt.Stmt.TheOpen.{Stmt-F}
use Rattle.c_prog.specs.declared.stmt.Stmt.TheFolds.{fold-roll-Stmt, ind-Stmt, map-Stmt}
use Rattle.c_prog.specs.declared.tree.Tree.{Tree}
use Rattle.c_prog.specs.Nodes.{function_nodes, functions_nodes, first_node}
use Rattle.flow_graph.specs.declared.around.Around.{Around}
use Rattle.flow_graph.specs.Flow.{Way, Part, flow, flow_level, size_of, parts_of, along, first_of, outermost, step_ways, body_ways, function_ways, ways_from, same_place, next_at, next}
use Rattle.flow_graph.specs.Within.{IsWithin, AreWithin}
use Rattle.flow_graph.proofs.Within.{body_within}
use Rattle.flow_graph.proofs.NodeCounts.{size_is_nodes}
use Rattle.layout_laws.specs.TreeLayout.{or_later, function_at}

abbrev pub IsBehind : Place → Option ℕ → Type 0
IsBehind (Start f) o = ⊥
IsBehind (After n) o = o ≡ Some n.number
IsBehind (True n) o = o ≡ Some n.number
IsBehind (False n) o = o ≡ Some n.number

-- each way leaves the node of its place
abbrev pub Sited : List Way → Type 0
Sited [] = Unit {0}
Sited (way ∷ rest) = IsBehind way.place way.source × Sited rest

sited_append : (a b : List Way) → Sited a → Sited b → Sited (a ++ b)
sited_append [] b h k = k
sited_append (w ∷ a) b h k = (h.0, sited_append a b h.1 k)

abbrev Sites : Part → Type 0
Sites part = (start : ℕ) (around : Around) → Sited (part.ways start around)

abbrev AllSite : List Part → Type 0
AllSite [] = Unit {0}
AllSite (part ∷ parts) = Sites part × AllSite parts

pub along_sited : (parts : List Part) → AllSite parts → (start : ℕ) (around : Around) → Sited (along parts start around)
along_sited [] h start around = tt
along_sited (part ∷ parts) h start around =
    sited_append (part.ways start _) (along parts (start + part.size) around) (h.0 start _) (along_sited parts h.1 (start + part.size) around)

step_sited : (step : Option Step) (start : ℕ) → Sited (step_ways step start)
step_sited None start = tt
step_sited (Some step) start = (refl, tt)

abbrev E : Type 0
E = (s : Stmt) × Sites (flow s)

abbrev stmts : List E → List Stmt
stmts es = map (λ e. e.0) es

all_site : (es : List E) → AllSite (parts_of (stmts es))
all_site [] = tt
all_site (e ∷ es) = (e.1, all_site es)

rolled : (y : Stmt-F Stmt) → Sites (flow_level (map-Stmt Stmt Part flow y)) → Sites (flow (roll-Stmt y))
rolled y sites = subst Sites (sym (fold-roll-Stmt Part flow_level y)) sites

level : (y : Stmt-F E) → Sites (flow (roll-Stmt (map-Stmt E Stmt (λ e. e.0) y)))
level (Stmt-F.Simple act after) = rolled (Stmt-F.Simple act after) (λ start around. (refl, tt))
level (Stmt-F.Jump jump after) = rolled (Stmt-F.Jump jump after) (λ start around. (refl, tt))
level (Stmt-F.If cond x y) =
    rolled (Stmt-F.If cond (stmts x) (stmts y)) (λ start around. (
      refl,
      (
        refl,
        sited_append (along (parts_of (stmts x)) (start + 1) around) (along (parts_of (stmts y)) (start + 1 + size_of (parts_of (stmts x))) around)
            (along_sited (parts_of (stmts x)) (all_site x) (start + 1) around) (along_sited (parts_of (stmts y)) (all_site y) (start + 1 + size_of (parts_of (stmts x))) around),
      ),
    ))
level (Stmt-F.Loop cond step body) =
    rolled (Stmt-F.Loop cond step (stmts body)) (λ start around. (
      refl,
      (
        refl,
        sited_append (step_ways step start) (along (parts_of (stmts body)) _ _) (step_sited step start) (along_sited (parts_of (stmts body)) (all_site body) _ _),
      ),
    ))
level (Stmt-F.Block body) = rolled (Stmt-F.Block (stmts body)) (along_sited (parts_of (stmts body)) (all_site body))

stmt_sites : (s : Stmt) → Sites (flow s)
stmt_sites = ind-Stmt (λ s. Sites (flow s)) (λ x y is. subst (λ z. Sites (flow (roll-Stmt z))) is (level y))

pub list_site : (list : List Stmt) → AllSite (parts_of list)
list_site [] = tt
list_site (s ∷ list) = (stmt_sites s, list_site list)

-- the place stands in this function, whose nodes have numbers in this range
abbrev pub PlaceIn : ℕ → ℕ → ℕ → Place → Type 0
PlaceIn k low high (Start f) = f.number ≡ k
PlaceIn k low high (After n) = (low ≤ n.number) × (n.number < high)
PlaceIn k low high (True n) = (low ≤ n.number) × (n.number < high)
PlaceIn k low high (False n) = (low ≤ n.number) × (n.number < high)

abbrev pub AllIn : ℕ → ℕ → ℕ → List Way → Type 0
AllIn k low high [] = Unit {0}
AllIn k low high (way ∷ rest) = PlaceIn k low high way.place × IsWithin low high way.target × AllIn k low high rest

in_place : (k low high : ℕ) (place : Place) (o : Option ℕ) → IsBehind place o → IsWithin low high o → PlaceIn k low high place
in_place k low high (Start f) o h w = absurd h
in_place k low high (After n) o h w = subst (IsWithin low high) h w
in_place k low high (True n) o h w = subst (IsWithin low high) h w
in_place k low high (False n) o h w = subst (IsWithin low high) h w

all_in : (k low high : ℕ) (ways : List Way) → Sited ways → AreWithin low high ways → AllIn k low high ways
all_in k low high [] h w = tt
all_in k low high (way ∷ rest) h w = (in_place k low high way.place way.source h.0 w.0, w.1, all_in k low high rest h.1 w.2)

pub first_within : (count low : ℕ) → IsWithin low (low + count) (first_of count low None)
first_within zero low = tt
first_within (suc count) low = (omega arith, omega arith)

body_in : (k low : ℕ) (list : List Stmt) → AllIn k low (low + size_of (parts_of list)) (body_ways k low (parts_of list))
body_in k low list = (
  refl,
  first_within (size_of (parts_of list)) low,
  all_in k low (low + size_of (parts_of list)) (along (parts_of list) low outermost) (along_sited (parts_of list) (list_site list) low outermost) (body_within list low),
)

-- what control meets after a place stands in the function of the place
pub record Met (tree : Tree) (p : Place) (v : ℕ) : Type 0 where
  pub number : ℕ
  pub function : Function
  pub is : slice_get tree.functions number ≡ Some function
  pub place : PlaceIn number (first_node tree number) (first_node tree number + function_nodes function) p
  pub low : first_node tree number ≤ v
  pub high : v < first_node tree number + function_nodes function

number_same : (q p : NodeId) → (q.number == p.number) ≡ true → q ≡ p
number_same q p e = λ i. record { number = eqb-true q.number p.number e i }

place_same : (k low high : ℕ) (q p : Place) → same_place q p ≡ true → PlaceIn k low high q → PlaceIn k low high p
place_same k low high (Start f) (Start g) e h = sym (eqb-true f.number g.number e) ∙ h
place_same k low high (After n) (After m) e h = subst (λ x. (low ≤ x) × (x < high)) (eqb-true n.number m.number e) h
place_same k low high (True n) (True m) e h = subst (λ x. (low ≤ x) × (x < high)) (eqb-true n.number m.number e) h
place_same k low high (False n) (False m) e h = subst (λ x. (low ≤ x) × (x < high)) (eqb-true n.number m.number e) h
place_same k low high (Start f) (After m) e h = cc
place_same k low high (Start f) (True m) e h = cc
place_same k low high (Start f) (False m) e h = cc
place_same k low high (After n) (Start g) e h = cc
place_same k low high (After n) (True m) e h = cc
place_same k low high (After n) (False m) e h = cc
place_same k low high (True n) (Start g) e h = cc
place_same k low high (True n) (After m) e h = cc
place_same k low high (True n) (False m) e h = cc
place_same k low high (False n) (Start g) e h = cc
place_same k low high (False n) (After m) e h = cc
place_same k low high (False n) (True m) e h = cc

-- one of these ways, or one of the others
module _ (tree : Tree) (p : Place) (v : ℕ) where
  met_first : (k : ℕ) (f : Function) (is : slice_get tree.functions k ≡ Some f) (low high : ℕ) → low ≡ first_node tree k → high ≡ first_node tree k + function_nodes f
      → (way : Way) (b : Bool) → same_place way.place p ≡ b → PlaceIn k low high way.place → IsWithin low high way.target → (rest : List Way)
      → (next_at p rest ≡ Some (Some v) → Met tree p v) → (if b then Some way.target else next_at p rest) ≡ Some (Some v) → Met tree p v
  met_first k f is low high l h way false same here within rest later e = later e
  met_first k f is low high l h way true same here within rest later e =
      let target : way.target ≡ Some v = cc in
      let inside : (low ≤ v) × (v < high) = subst (IsWithin low high) target within in
      record {
        number = k;
        function = f;
        is = is;
        place = subst (λ x. PlaceIn k x (first_node tree k + function_nodes f) p) l (subst (λ x. PlaceIn k low x p) h (place_same k low high way.place p same here));
        low = subst (λ x. x ≤ v) l inside.0;
        high = subst (λ x. v < x) h inside.1;
      }

  met_among : (k : ℕ) (f : Function) (is : slice_get tree.functions k ≡ Some f) (low high : ℕ) → low ≡ first_node tree k → high ≡ first_node tree k + function_nodes f
      → (ways rest : List Way) → AllIn k low high ways → (next_at p rest ≡ Some (Some v) → Met tree p v) → next_at p (ways ++ rest) ≡ Some (Some v) → Met tree p v
  met_among k f is low high l h [] rest all later e = later e
  met_among k f is low high l h (way ∷ ways) rest all later e =
      met_first k f is low high l h way (same_place way.place p) refl all.0 all.1 (ways ++ rest) (met_among k f is low high l h ways rest all.2 later) e

  met_from : (k : ℕ) (fs : List Function) → ((i : ℕ) (f : Function) → slice_get fs i ≡ Some f → slice_get tree.functions (k + i) ≡ Some f)
      → next_at p (ways_from tree k fs) ≡ Some (Some v) → Met tree p v
  met_from k [] at e = cc
  met_from k (f ∷ fs) at e =
      let zeroth : k + 0 ≡ k = omega arith in
      met_among k f (ap (slice_get tree.functions) (sym zeroth) ∙ at 0 f refl) (first_node tree k) (first_node tree k + size_of (parts_of f.body)) refl
      (ap (λ x. first_node tree k + x) (size_is_nodes f.body)) (function_ways tree k f) (ways_from tree (k + 1) fs) (body_in k (first_node tree k) f.body)
      (met_from (k + 1) fs (λ i g is. let step : k + 1 + i ≡ k + suc i = omega arith in ap (slice_get tree.functions) step ∙ at (suc i) g is)) e

pub met : (tree : Tree) (p : Place) (v : ℕ) → next tree p ≡ Some (Some v) → Met tree p v
met tree p v e = met_from tree p v 0 tree.functions (λ i f is. let same : 0 + i ≡ i = omega arith in ap (slice_get tree.functions) same ∙ is) e

-- the function of a node, by the range of the function's nodes
lt_true : (a b : ℕ) → a < b → nat_lt a b ≡ true
lt_true a b h = grind arith

lt_false : (a b : ℕ) → b ≤ a → nat_lt a b ≡ false
lt_false a b h = grind arith

pub range_function : (fs : List Function) (k : ℕ) (f : Function) (n : ℕ) → slice_get fs k ≡ Some f → functions_nodes (take k fs) ≤ n
    → n < functions_nodes (take k fs) + function_nodes f → function_at fs n ≡ k
range_function [] k f n is low high = cc
range_function (g ∷ fs) zero f n is low high =
    let same : function_nodes g ≡ function_nodes f = ap (λ o. nodes_if o) is in
    ap (λ b. or_later b (function_at fs (n - function_nodes g))) (lt_true n (function_nodes g) (omega arith))
  where
    nodes_if : Option Function → ℕ
    nodes_if None = 0
    nodes_if (Some f) = function_nodes f
range_function (g ∷ fs) (suc k) f n is low high =
    ap (λ b. or_later b (function_at fs (n - function_nodes g))) (lt_false n (function_nodes g) (omega arith))
    ∙ ap suc (range_function fs k f (n - function_nodes g) is (omega arith) (omega arith))
