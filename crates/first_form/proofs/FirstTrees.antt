-- A program of the first form is a straight program of its statements.
use Rattle.std.proofs.Common.{◌≡◌, ℕ, ◌+◌, ◌-◌, ◌^◌, ◌<◌, Bool, true, false, not, ◌&&◌, ◌==◌, List, [], ◌∷◌, ◌++◌, map, length, codes, Option, Some, None, is_some, subst, ap, sym, ◌∙◌, refl, arith}
use Rattle.std.specs.List.{list_all, list_any, filter_map, cons_option}
use Rattle.std.specs.Str.{bytes_eq}
use Rattle.std.specs.Cmp.Derive.{both_true}
use Rattle.std.proofs.lemmas.Bool.{and_parts, or_parts, not-true}
use Rattle.std.proofs.lemmas.List.Folds.{list_all-append, list_any-append}
use Rattle.std.proofs.lemmas.Slice.Eq.{bytes_eq-Decides}
use Rattle.cfix_base.specs.declared.number.OrderId.{OrderId}
use Rattle.cfix_base.specs.declared.op.Op.{Op}
use Rattle.c_prog.specs.declared.function.FnKind.{FnKind}
use Rattle.c_prog.specs.declared.function.FnKind.TheVariants as fn_kind
use Rattle.c_prog.specs.declared.function.Function.{Function}
use Rattle.c_prog.specs.declared.global.Global as global_struct
use Rattle.c_prog.specs.declared.stmt.Stmt.{Stmt}
use Rattle.c_prog.specs.declared.stmt.Stmt.TheVariants.{Simple}
use Rattle.c_prog.specs.declared.tree.Tree.{Tree}
use Rattle.c_prog.specs.Nodes.{tree_nodes}
use Rattle.c_prog.specs.Patched.{has_some}
use Rattle.straight_laws.specs.Straight.{begins_with_zero, is_straight_act}
use Rattle.c_prog.specs.Valid.{IsValid}
use Rattle.c_prog.specs.Valid.Acts.{is_declared_name}
use Rattle.c_prog.specs.Valid.Expressions.{is_main_name, is_int_kind}
use Rattle.c_prog.specs.Valid.Functions.{are_declared_names, are_distinct, is_main}
use Rattle.first_form.specs.declared.plain.Plain.{Plain}
use Rattle.first_form.specs.declared.region.Region.{Region}
use Rattle.first_form.specs.Form.{plain_of, is_plain, is_plain_main, is_only_main, is_first_form, plains_of, act_of, acts_of}
use Rattle.first_form.specs.Straight.{with_ops, main_with, bare, guarded}
use Rattle.first_form.proofs.Acts.{nodes-straight, valid-guarded}
use Rattle.first_form.proofs.Forms.{stmt-is}

empty : {A : Type 0} (list : List A) → not (has_some list) ≡ true → list ≡ []
empty [] h = refl
empty (x ∷ list) h = cc

module _ (globals : List global_struct.Global) where
  abbrev count : ℕ
  count = length globals

  -- What a body of the first form is.
  record Body (k : ℕ) (body : List Stmt) : Type 0 where
    is : body ≡ with_ops (λ n. []) k (acts_of (filter_map (plain_of count) body))
    straight : list_all (is_straight_act globals) (acts_of (filter_map (plain_of count) body)) ≡ true

  one-more : (k : ℕ) (s : Stmt) (body : List Stmt) (o : Option Plain) → plain_of count s ≡ o → is_some o ≡ true → Body (k + 1) body
      → Body k (s ∷ body)
  one-more k s body None e h rest = cc
  one-more k s body (Some p) e h rest =
      let found = stmt-is globals s p e in
      let more = filter_map (plain_of count) body in
      let picked : filter_map (plain_of count) (s ∷ body) ≡ p ∷ more = ap (λ o. cons_option o more) e in
      record {
        is = ap (λ z. z ∷ body) found.is ∙ ap (λ z. Simple (act_of p) [] ∷ z) rest.is
            ∙ ap (λ plains. with_ops (λ n. []) k (acts_of plains)) (sym picked);
        straight = subst (λ plains. list_all (is_straight_act globals) (acts_of plains) ≡ true) (sym picked)
            (both_true found.straight rest.straight);
      }

  body-is : (k : ℕ) (body : List Stmt) → list_all (is_plain count) body ≡ true → Body k body
  body-is k [] h = record { is = refl; straight = refl }
  body-is k (s ∷ body) h =
      let parts = and_parts (is_plain count s) (list_all (is_plain count) body) h in
      one-more k s body (plain_of count s) refl parts.0 (body-is (k + 1) body parts.1)

  no-params : (params : List (List ℕ)) → (length params == 0) ≡ true → params ≡ []
  no-params [] h = refl
  no-params (param ∷ params) h = grind (arith, h)

  int-kind : (kind : FnKind) → is_int_kind kind ≡ true → kind ≡ fn_kind.Int
  int-kind fn_kind.Int h = refl
  int-kind fn_kind.Void h = cc
  int-kind fn_kind.Thread h = cc

  -- What main of the first form is.
  record Main (f : Function) : Type 0 where
    is : f ≡ main_with [] (with_ops (λ n. []) 0 (acts_of (filter_map (plain_of count) f.body)))
    straight : list_all (is_straight_act globals) (acts_of (filter_map (plain_of count) f.body)) ≡ true

  main-is : (f : Function) → is_plain_main count f ≡ true → Main f
  main-is f h =
      let parts = and_parts (is_main f) (not (has_some f.start) && list_all (is_plain count) f.body) h in
      let back = and_parts (not (has_some f.start)) (list_all (is_plain count) f.body) parts.1 in
      let head = and_parts (is_main_name f.name && is_int_kind f.kind) (length f.params == 0) parts.0 in
      let named = and_parts (is_main_name f.name) (is_int_kind f.kind) head.0 in
      let body = body-is 0 f.body back.1 in
      let name : f.name ≡ codes "main" = (bytes_eq-Decides f.name (codes "main")).0 named.0 in
      let kind = int-kind f.kind named.1 in
      let params = no-params f.params head.1 in
      let start = empty f.start back.0 in
      let with : List ℕ → FnKind → List (List ℕ) → List Op → List Stmt → Function =
      λ name kind params start body. record { name = name; kind = kind; params = params; start = start; body = body } in
      record {
        is = ap (λ z. with z f.kind f.params f.start f.body) name ∙ ap (λ z. with (codes "main") z f.params f.start f.body) kind
            ∙ ap (λ z. with (codes "main") fn_kind.Int z f.start f.body) params
            ∙ ap (λ z. with (codes "main") fn_kind.Int [] z f.body) start
            ∙ ap (λ z. with (codes "main") fn_kind.Int [] [] z) body.is;
        straight = body.straight;
      }

-- What a program of the first form is.
pub record First (tree : Tree) : Type 0 where
  pub is : tree ≡ bare tree.globals (acts_of (plains_of tree))
  pub zeros : list_all (λ global. begins_with_zero global.kind) tree.globals ≡ true
  pub straight : list_all (is_straight_act tree.globals) (acts_of (plains_of tree)) ≡ true

abbrev tree_of : List global_struct.Global → List Function → List OrderId → Tree
tree_of globals functions starts = record { globals = globals; functions = functions; starts = starts }

by-functions : (globals : List global_struct.Global) (functions : List Function) (starts : List OrderId)
    → is_first_form (tree_of globals functions starts) ≡ true → First (tree_of globals functions starts)
by-functions globals functions starts h =
    let parts = and_parts (not (has_some starts))
    (list_all (λ global. begins_with_zero global.kind) globals && is_only_main (length globals) functions) h in
    let back = and_parts (list_all (λ global. begins_with_zero global.kind) globals) (is_only_main (length globals) functions) parts.1 in
    by functions back.1 (empty starts parts.0) back.0
  where
    by : (functions : List Function) → is_only_main (length globals) functions ≡ true → starts ≡ []
        → list_all (λ global. begins_with_zero global.kind) globals ≡ true → First (tree_of globals functions starts)
    by [] h none zeros = cc
    by (f ∷ g ∷ rest) h none zeros = cc
    by (f ∷ []) h none zeros =
        let main = main-is globals f h in
        record {
          is = ap (λ z. tree_of globals (f ∷ []) z) none ∙ ap (λ z. tree_of globals (z ∷ []) []) main.is;
          zeros = zeros;
          straight = main.straight;
        }

pub first-is : (tree : Tree) → is_first_form tree ≡ true → First tree
first-is tree h = by-functions tree.globals tree.functions tree.starts h

-- ---- the names of a valid program

any-left : {A : Type 0} (test : A → Bool) (xs ys : List A) → list_any test (xs ++ ys) ≡ false → list_any test xs ≡ false
any-left test xs ys h = (or_parts (list_any test xs) (list_any test ys) (sym (list_any-append test xs ys) ∙ h)).0

distinct-left : (names : List (List ℕ)) (name : List ℕ) → are_distinct (names ++ name ∷ []) ≡ true
    → (are_distinct names ≡ true) × (list_any (λ other. bytes_eq other name) names ≡ false)
distinct-left [] name h = (refl, refl)
distinct-left (other ∷ names) name h =
    let parts = and_parts (not (list_any (bytes_eq other) (names ++ name ∷ []))) (are_distinct (names ++ name ∷ [])) h in
    let apart = not-true (list_any (bytes_eq other) (names ++ name ∷ [])) parts.0 in
    let both = or_parts (list_any (bytes_eq other) names) (list_any (bytes_eq other) (name ∷ [])) (sym (list_any-append (bytes_eq other) names (name ∷ [])) ∙ apart) in
    let rest = distinct-left names name parts.1 in
    (both_true (ap not both.0) rest.0, grind (arith, both.1, rest.1))

names-left : (names : List (List ℕ)) → are_declared_names (names ++ codes "main" ∷ []) ≡ true
    → (are_declared_names names ≡ true) × (list_any is_main_name names ≡ false)
names-left names h =
    let parts = and_parts (list_all is_declared_name (names ++ codes "main" ∷ [])) (are_distinct (names ++ codes "main" ∷ [])) h in
    let good = and_parts (list_all is_declared_name names) (list_all is_declared_name (codes "main" ∷ []))
    (sym (list_all-append is_declared_name names (codes "main" ∷ [])) ∙ parts.0) in
    let apart = distinct-left names (codes "main") parts.1 in
    (both_true good.0 apart.0, apart.1)

-- the statements of a program of the first form are its nodes
pub nodes-first : (tree : Tree) → is_first_form tree ≡ true → tree_nodes tree ≡ length (acts_of (plains_of tree))
nodes-first tree h =
    ap tree_nodes (first-is tree h).is ∙ omega (arith, nodes-straight (λ n. []) 0 (acts_of (plains_of tree)))

-- with operations round a region it is valid too
pub valid-first : (tree : Tree) (region : Option Region) → is_first_form tree ≡ true → IsValid tree
    → IsValid (guarded tree.globals (acts_of (plains_of tree)) region)
valid-first tree region h valid =
    let first = first-is tree h in
    let names = names-left (map (λ global. global.name) tree.globals)
    (subst (λ (functions : List Function). are_declared_names (map (λ global. global.name) tree.globals ++ map (λ function. function.name) functions) ≡ true)
    (ap (λ (t : Tree). t.functions) first.is) valid.names) in
    valid-guarded tree.globals (acts_of (plains_of tree)) region (record {
      names = names.0;
      no_main = names.1;
      zeros = first.zeros;
      acts = first.straight;
      few_acts = subst (λ n. n < 2 ^ 32 - 1) (nodes-first tree h) valid.few_nodes;
      few_globals = valid.few_variables;
    })
