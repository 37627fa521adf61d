-- A straight program of `int` globals that begin with 0 is valid, with the operations round a region too.
use Rattle.std.proofs.Common.{◌≡◌, ℕ, ◌+◌, ◌-◌, ◌^◌, ◌<◌, Bool, true, false, not, List, [], ◌∷◌, map, length, Option, subst, ap, sym, ◌∙◌, refl, arith}
use Rattle.std.specs.List.{list_all, list_any}
use Rattle.std.specs.Cmp.Derive.{both_true}
use Rattle.std.proofs.lemmas.Bool.{and_parts}
use Rattle.cfix_base.specs.declared.op.Op.{Op}
use Rattle.c_prog.specs.declared.act.Act.{Act}
use Rattle.c_prog.specs.declared.global.Global as global_struct
use Rattle.c_prog.specs.Nodes.{nodes_of, tree_nodes}
use Rattle.straight_laws.specs.Straight.{begins_with_zero, is_straight_act, is_straight_stmt, is_straight}
use Rattle.c_prog.specs.Valid.{IsValid}
use Rattle.c_prog.specs.Valid.Expressions.{is_main_name}
use Rattle.c_prog.specs.Valid.Functions.{are_declared_names}
use Rattle.c_prog.specs.Valid.Operations.{are_valid_ops}
use Rattle.c_prog.proofs.Equations.{nodes-Simple}
use Rattle.straight_laws.proofs.StraightEquations.{straight-Simple}
use Rattle.straight_laws.proofs.ValidStraight.{valid-straight}
use Rattle.first_form.specs.declared.region.Region.{Region}
use Rattle.first_form.specs.Straight.{with_ops, crossing, inside, behind, guarded}

crossing-valid : (a b : Bool) → are_valid_ops (crossing a b) ≡ true
crossing-valid true true = refl
crossing-valid true false = refl
crossing-valid false true = refl
crossing-valid false false = refl

body-straight : (globals : List global_struct.Global) (after : ℕ → List Op) → ((n : ℕ) → are_valid_ops (after n) ≡ true)
    → (k : ℕ) (acts : List Act) → list_all (is_straight_act globals) acts ≡ true
    → list_all (is_straight_stmt globals) (with_ops after k acts) ≡ true
body-straight globals after fit k [] h = refl
body-straight globals after fit k (a ∷ acts) h =
    let parts = and_parts (is_straight_act globals a) (list_all (is_straight_act globals) acts) h in
    both_true (straight-Simple globals a (after k) ∙ both_true parts.0 (fit k)) (body-straight globals after fit (k + 1) acts parts.1)

-- each statement is a node
pub nodes-straight : (after : ℕ → List Op) (k : ℕ) (acts : List Act) → nodes_of (with_ops after k acts) ≡ length acts
nodes-straight after k [] = refl
nodes-straight after k (a ∷ acts) =
    ap (λ n. n + nodes_of (with_ops after (k + 1) acts)) (nodes-Simple a (after k))
    ∙ ap (λ n. 1 + n) (nodes-straight after (k + 1) acts) ∙ omega arith

-- What is asked of the globals and the statements.
pub record Fit (globals : List global_struct.Global) (does : List Act) : Type 0 where
  pub names : are_declared_names (map (λ global. global.name) globals) ≡ true
  pub no_main : list_any is_main_name (map (λ global. global.name) globals) ≡ false
  pub zeros : list_all (λ global. begins_with_zero global.kind) globals ≡ true
  pub acts : list_all (is_straight_act globals) does ≡ true
  pub few_acts : length does < 2 ^ 32 - 1
  pub few_globals : length globals < 2 ^ 32 - 1

pub valid-guarded : (globals : List global_struct.Global) (acts : List Act) (region : Option Region) → Fit globals acts
    → IsValid (guarded globals acts region)
valid-guarded globals acts region fit =
    let body = body-straight globals (behind region) (λ n. crossing-valid (inside region n) (inside region (n + 1))) 0 acts fit.acts in
    let start = crossing-valid false (inside region 0) in
    let form : is_straight (guarded globals acts region) ≡ true =
    both_true (both_true (both_true (both_true fit.names (ap not fit.no_main)) fit.zeros) (both_true (both_true refl start) body)) refl in
    let nodes : tree_nodes (guarded globals acts region) ≡ length acts =
    omega (arith, nodes-straight (behind region) 0 acts) in
    valid-straight (guarded globals acts region) form (subst (λ n. n < 2 ^ 32 - 1) (sym nodes) fit.few_acts) fit.few_globals
