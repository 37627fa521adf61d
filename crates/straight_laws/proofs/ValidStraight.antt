-- A straight-line program is valid.
use Rattle.std.proofs.Common.{◌≡◌, ℕ, zero, suc, pos, ◌+◌, ◌<◌, ◌≤◌, ◌-◌, ◌^◌, Bool, true, false, not, ◌&&◌, ◌||◌, List, [], ◌∷◌, ◌++◌, map, length, slice_get, ◌==◌, subst, refl, ap, sym, ◌∙◌, arith, codes}
use Rattle.std.specs.List.{list_all, list_any}
use Rattle.std.specs.Str.{bytes_eq}
use Rattle.std.specs.Cmp.Derive.{both_true}
use Rattle.std.proofs.lemmas.Bool.{and_parts, or_parts, not-true}
use Rattle.std.proofs.lemmas.Bool.Decides.{Decides-int_eq}
use Rattle.std.proofs.lemmas.Grind.{common_steps}
use Rattle.std.proofs.lemmas.List.{append-nil}
use Rattle.std.proofs.lemmas.List.Folds.{list_all-append, list_any-append}
use Rattle.std.proofs.lemmas.Slice.Eq.{bytes_eq-Decides}
use Rattle.cfix_base.specs.declared.number.OrderId.{OrderId}
use Rattle.c_prog.specs.declared.act.LocalKind.{LocalKind}
use Rattle.c_prog.specs.declared.function.Function.{Function}
use Rattle.c_prog.specs.declared.global.Global as global_struct
use Rattle.c_prog.specs.declared.global.GlobalKind.{GlobalKind}
use Rattle.c_prog.specs.declared.global.GlobalKind.TheVariants as global_kind
use Rattle.c_prog.specs.declared.tree.Tree.{Tree}
use Rattle.c_prog.specs.Nodes.{total, tree_nodes}
use Rattle.c_prog.specs.Order.{order, order_of, node_at}
use Rattle.c_prog.specs.Accesses.{touches_of}
use Rattle.straight_laws.specs.Straight.{begins_with_zero, is_straight_stmt, is_straight_main, is_empty, is_straight}
use Rattle.c_prog.specs.Valid.{IsValid, global_cells, kind_cells}
use Rattle.c_prog.specs.Valid.Kinds.{file_of}
use Rattle.c_prog.specs.Valid.Expressions.{is_main_name, is_int_kind}
use Rattle.c_prog.specs.Valid.Acts.{is_declared_name}
use Rattle.c_prog.specs.Valid.Operations.{are_valid_ops, are_valid_starts}
use Rattle.c_prog.specs.Valid.Locals.{locals_of, local_cells, function_locals, function_cells}
use Rattle.c_prog.specs.Valid.Functions.{are_distinct, are_declared_names, file_names, is_initial_number, is_valid_global, is_main}
use Rattle.straight_laws.proofs.StraightBody.{Zeros, ops-along, locals-along, few-along, main-valid}

left : (a b : Bool) → (a && b) ≡ true → a ≡ true
left a b h = (and_parts a b h).0

right : (a b : Bool) → (a && b) ≡ true → b ≡ true
right a b h = (and_parts a b h).1

-- one more name that is not among them
distinct-more : (names : List (List ℕ)) (name : List ℕ) → are_distinct names ≡ true → list_any (λ other. bytes_eq other name) names ≡ false
    → are_distinct (names ++ name ∷ []) ≡ true
distinct-more [] name apart new = refl
distinct-more (other ∷ names) name apart new =
    let alone = not-true (list_any (bytes_eq other) names) (left (not (list_any (bytes_eq other) names)) (are_distinct names) apart) in
    let differs = (or_parts (bytes_eq other name) (list_any (λ other. bytes_eq other name) names) new).0 in
    both_true
    (ap not (list_any-append (bytes_eq other) names (name ∷ [])
    ∙ ap (λ b. b || (bytes_eq other name || false)) alone ∙ ap (λ b. b || false) differs))
    (distinct-more names name (right (not (list_any (bytes_eq other) names)) (are_distinct names) apart)
    (or_parts (bytes_eq other name) (list_any (λ other. bytes_eq other name) names) new).1)

with-main : (names : List (List ℕ)) → are_declared_names names ≡ true → not (list_any is_main_name names) ≡ true
    → are_declared_names (names ++ codes "main" ∷ []) ≡ true
with-main names declared none =
    let good = left (list_all is_declared_name names) (are_distinct names) declared in
    let apart = right (list_all is_declared_name names) (are_distinct names) declared in
    both_true (list_all-append is_declared_name names (codes "main" ∷ []) ∙ both_true good refl)
    (distinct-more names (codes "main") apart (not-true (list_any is_main_name names) none))

zero-valid : (kind : GlobalKind) → begins_with_zero kind ≡ true → is_valid_global kind ≡ true
zero-valid (global_kind.Int number) h = ap is_initial_number ((Decides-int_eq number (pos 0)).0 h)
zero-valid (global_kind.IntArray n) h = cc
zero-valid global_kind.Thread h = cc
zero-valid (global_kind.ThreadArray n) h = cc
zero-valid global_kind.Mutex h = cc
zero-valid global_kind.Cond h = cc

zero-cells : (kind : GlobalKind) → begins_with_zero kind ≡ true → kind_cells kind ≡ 1
zero-cells (global_kind.Int number) h = refl
zero-cells (global_kind.IntArray n) h = cc
zero-cells global_kind.Thread h = cc
zero-cells (global_kind.ThreadArray n) h = cc
zero-cells global_kind.Mutex h = cc
zero-cells global_kind.Cond h = cc

zeros-valid : (globals : List global_struct.Global) → Zeros globals → list_all (λ global. is_valid_global global.kind) globals ≡ true
zeros-valid [] h = refl
zeros-valid (g ∷ globals) h =
    both_true (zero-valid g.kind (left (begins_with_zero g.kind) (list_all (λ global. begins_with_zero global.kind) globals) h))
    (zeros-valid globals (right (begins_with_zero g.kind) (list_all (λ global. begins_with_zero global.kind) globals) h))

zeros-cells : (globals : List global_struct.Global) → Zeros globals → global_cells globals ≡ length globals
zeros-cells [] h = refl
zeros-cells (g ∷ globals) h =
    let one = zero-cells g.kind (left (begins_with_zero g.kind) (list_all (λ global. begins_with_zero global.kind) globals) h) in
    let more = zeros-cells globals (right (begins_with_zero g.kind) (list_all (λ global. begins_with_zero global.kind) globals) h) in
    grind (arith, common_steps, one, more)

no-params : (params : List (List ℕ)) → (length params == 0) ≡ true → params ≡ []
no-params [] h = refl
no-params (param ∷ params) h = grind (arith, common_steps, h)

is-main-name : (f : Function) → is_main f ≡ true → is_main_name f.name ≡ true
is-main-name f h = left (is_main_name f.name) (is_int_kind f.kind) (left (is_main_name f.name && is_int_kind f.kind) (length f.params == 0) h)

is-int : (f : Function) → is_main f ≡ true → is_int_kind f.kind ≡ true
is-int f h = right (is_main_name f.name) (is_int_kind f.kind) (left (is_main_name f.name && is_int_kind f.kind) (length f.params == 0) h)

takes-none : (f : Function) → is_main f ≡ true → (length f.params == 0) ≡ true
takes-none f h = right (is_main_name f.name && is_int_kind f.kind) (length f.params == 0) h

-- What `is_straight` says of a program whose one function is `f`.
record Parts (globals : List global_struct.Global) (f : Function) (starts : List OrderId) : Type 0 where
  names : are_declared_names (map (λ global. global.name) globals) ≡ true
  no_main : not (list_any is_main_name (map (λ global. global.name) globals)) ≡ true
  zeros : Zeros globals
  main : is_main f ≡ true
  start : are_valid_ops f.start ≡ true
  body : list_all (is_straight_stmt globals) f.body ≡ true
  none : is_empty starts ≡ true

parts-of : (globals : List global_struct.Global) (f : Function) (starts : List OrderId)
    → is_straight (record { globals = globals; functions = f ∷ []; starts = starts }) ≡ true → Parts globals f starts
parts-of globals f starts h =
    let names = are_declared_names (map (λ global. global.name) globals) in
    let no_main = not (list_any is_main_name (map (λ global. global.name) globals)) in
    let zeros = list_all (λ global. begins_with_zero global.kind) globals in
    let body = list_all (is_straight_stmt globals) f.body in
    let most = left (names && no_main && zeros && is_straight_main globals (f ∷ [])) (is_empty starts) h in
    let before = left (names && no_main && zeros) (is_straight_main globals (f ∷ [])) most in
    let main = right (names && no_main && zeros) (is_straight_main globals (f ∷ [])) most in
    let both_names = left (names && no_main) zeros before in
    let head = left (is_main f && are_valid_ops f.start) body main in
    record {
      names = left names no_main both_names;
      no_main = right names no_main both_names;
      zeros = right (names && no_main) zeros before;
      main = left (is_main f) (are_valid_ops f.start) head;
      start = right (is_main f) (are_valid_ops f.start) head;
      body = right (is_main f && are_valid_ops f.start) body main;
      none = right (names && no_main && zeros && is_straight_main globals (f ∷ [])) (is_empty starts) h;
    }

empty-valid : (starts : List OrderId) → is_empty starts ≡ true → are_valid_starts starts ≡ true
empty-valid [] h = refl
empty-valid (order ∷ starts) h = cc

module _ (globals : List global_struct.Global) (f : Function) (starts : List OrderId) (known : Parts globals f starts) where
  abbrev program : Tree
  program = record { globals = globals; functions = f ∷ []; starts = starts }

  names-valid : are_declared_names (file_names program) ≡ true
  names-valid =
      ap (λ name. are_declared_names (map (λ global. global.name) globals ++ name ∷ []))
      ((bytes_eq-Decides f.name (codes "main")).0 (is-main-name f known.main))
      ∙ with-main (map (λ global. global.name) globals) known.names known.no_main

  locals-none : (n : ℕ) → function_locals (slice_get (f ∷ []) n) ≡ 0
  locals-none zero =
      ap (λ params. length params + length (locals_of f.body)) (no-params f.params (takes-none f known.main))
      ∙ ap (λ (kinds : List LocalKind). 0 + length kinds) (locals-along (file_of program) known.zeros f.body known.body)
  locals-none (suc n) = refl

  cells-none : (n : ℕ) → function_cells (slice_get (f ∷ []) n) ≡ 0
  cells-none zero =
      ap (λ params. length params + total (map local_cells (locals_of f.body))) (no-params f.params (takes-none f known.main))
      ∙ ap (λ kinds. 0 + total (map local_cells kinds)) (locals-along (file_of program) known.zeros f.body known.body)
  cells-none (suc n) = refl

  few-touches : (n : ℕ) → length (touches_of (node_at program n)) ≤ 2
  few-touches n =
      subst (λ nodes. length (touches_of (slice_get nodes n)) ≤ 2) (sym (append-nil (order_of f.body)))
      (few-along (file_of program) known.zeros f.body known.body n)

  straight-valid : tree_nodes program < 2 ^ 32 - 1 → length globals < 2 ^ 32 - 1 → IsValid program
  straight-valid nodes variables = record {
    names = names-valid;
    globals = zeros-valid globals known.zeros;
    has_main = ap (λ b. b || false) known.main;
    functions = both_true
        (main-valid (file_of program) known.zeros f.name f.kind f.params f.start f.body (is-main-name f known.main)
        (is-int f known.main) (takes-none f known.main) known.body) refl;
    operations = both_true (both_true known.start (ops-along (file_of program) known.zeros f.body known.body)) refl;
    starts = empty-valid starts known.none;
    few_nodes = nodes;
    few_functions = omega arith;
    few_variables = variables;
    few_cells = subst (λ n. n < 2 ^ 32 - 1) (sym (zeros-cells globals known.zeros)) variables;
    few_locals = λ n. subst (λ m. m < 2 ^ 32 - 1) (sym (locals-none n)) (omega arith);
    few_local_cells = λ n. subst (λ m. m < 2 ^ 32 - 1) (sym (cells-none n)) (omega arith);
    few_accesses = λ n. let few = few-touches n in omega (arith, few);
  }

-- main is the one function
alone : (globals : List global_struct.Global) (functions : List Function) (starts : List OrderId)
    → is_straight (record { globals = globals; functions = functions; starts = starts }) ≡ true → is_straight_main globals functions ≡ true
alone globals functions starts h =
    let names = are_declared_names (map (λ global. global.name) globals) in
    let no_main = not (list_any is_main_name (map (λ global. global.name) globals)) in
    let zeros = list_all (λ global. begins_with_zero global.kind) globals in
    right (names && no_main && zeros) (is_straight_main globals functions)
    (left (names && no_main && zeros && is_straight_main globals functions) (is_empty starts) h)

-- a straight-line program with few enough nodes and variables is valid
pub valid-straight : (t : Tree) → is_straight t ≡ true → tree_nodes t < 2 ^ 32 - 1 → length t.globals < 2 ^ 32 - 1 → IsValid t
valid-straight t h nodes variables = by t.functions h nodes
  where
    by : (functions : List Function) → is_straight (record { globals = t.globals; functions = functions; starts = t.starts }) ≡ true
        → tree_nodes (record { globals = t.globals; functions = functions; starts = t.starts }) < 2 ^ 32 - 1
        → IsValid (record { globals = t.globals; functions = functions; starts = t.starts })
    by [] h nodes = let no = alone t.globals [] t.starts h in cc
    by (f ∷ []) h nodes = straight-valid t.globals f t.starts (parts-of t.globals f t.starts h) nodes variables
    by (f ∷ g ∷ rest) h nodes = let no = alone t.globals (f ∷ g ∷ rest) t.starts h in cc
