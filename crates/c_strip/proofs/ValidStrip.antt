-- A program is valid without its new operations and starts too.
use Rattle.std.proofs.Common.{◌≡◌, ℕ, ◌+◌, ◌<◌, ◌-◌, ◌^◌, Bool, not, ◌&&◌, ◌||◌, List, [], ◌∷◌, ◌++◌, map, length, slice_get, Option, Some, None, subst, refl, ap, sym, ◌∙◌, option_map}
use Rattle.std.specs.List.{list_all, list_any}
use Rattle.std.proofs.lemmas.List.{length-map, map-append}
use Rattle.std.proofs.lemmas.Option.{slice_get-map}
use Rattle.cfix_base.specs.declared.mark.Marks.{Marks}
use Rattle.c_prog.specs.declared.function.Function.{Function}
use Rattle.c_prog.specs.declared.stmt.Cond.{Cond}
use Rattle.c_prog.specs.declared.stmt.Step.{Step}
use Rattle.c_prog.specs.declared.stmt.Stmt.{Stmt}
use Rattle.c_prog.specs.declared.stmt.Stmt.TheOpen.{Stmt-F}
use Rattle.c_prog.specs.declared.tree.Tree.{Tree}
use Rattle.c_prog.specs.Nodes.{total, nodes, nodes_level, function_nodes, tree_nodes}
use Rattle.c_prog.specs.Order.{Node, act, cond, step, jump, joined, order, order_of, order_level, function_order, functions_order, tree_order, node_at}
use Rattle.c_prog.specs.Accesses.{touches_of}
use Rattle.c_prog.specs.Marks.{old_ops}
use Rattle.c_prog.specs.Strip.{strip_all, strip_cond, strip_step, strip_function, strip_functions, strip_tree}
use Rattle.c_prog.specs.Valid.{IsValid}
use Rattle.c_prog.specs.Valid.Kinds.{File, file_of, signature_of}
use Rattle.c_prog.specs.Valid.Statements.{Part, stmt_rules, parts_of, all_valid}
use Rattle.c_prog.specs.Valid.Falls.{fall_level, fall_of, all_fall}
use Rattle.c_prog.specs.Valid.Locals.{locals, locals_level, local_cells, function_locals, function_cells}
use Rattle.c_prog.specs.Valid.Functions.{file_names, is_valid_function, is_valid_body, is_valid_end, body_around, body_scope, is_main, are_declared_names, is_valid_count}
use Rattle.c_prog.specs.Valid.Expressions.{is_int_kind, is_main_name}
use Rattle.c_marks.proofs.AllOps.{strip-operations, strip-starts}
use Rattle.c_marks.proofs.StripFolds.{strip-folds, strip-ignored}

module _ (m : Marks) where
  loop-part : (file : File) (c : Cond) (s : Option Step) (x : List Part)
      → stmt_rules file (Stmt-F.Loop (strip_cond m c) (strip_step m s) x) ≡ stmt_rules file (Stmt-F.Loop c s x)
  loop-part file c None x = refl
  loop-part file c (Some s) x = refl

  -- the rules look at no operation
  pub strip-parts : (file : File) (list : List Stmt) → parts_of file (strip_all m list) ≡ parts_of file list
  strip-parts file = strip-ignored m (stmt_rules file) (record {
    simple = λ a ops. refl;
    jump = λ j ops. refl;
    branch = λ c x y. refl;
    loop = loop-part file;
  })

  pub strip-falls : (list : List Stmt) → map fall_of (strip_all m list) ≡ map fall_of list
  strip-falls = strip-ignored m fall_level (record {
    simple = λ a ops. refl;
    jump = λ j ops. refl;
    branch = λ c x y. refl;
    loop = λ c s x. refl;
  })

  pub strip-locals : (list : List Stmt) → map locals (strip_all m list) ≡ map locals list
  strip-locals = strip-ignored m locals_level (record {
    simple = λ a ops. refl;
    jump = λ j ops. refl;
    branch = λ c x y. refl;
    loop = λ c s x. refl;
  })

  loop-nodes : (c : Cond) (s : Option Step) (x : List ℕ)
      → nodes_level (Stmt-F.Loop (strip_cond m c) (strip_step m s) x) ≡ nodes_level (Stmt-F.Loop c s x)
  loop-nodes c None x = refl
  loop-nodes c (Some s) x = refl

  pub strip-nodes : (list : List Stmt) → map nodes (strip_all m list) ≡ map nodes list
  strip-nodes = strip-ignored m nodes_level (record {
    simple = λ a ops. refl;
    jump = λ j ops. refl;
    branch = λ c x y. refl;
    loop = loop-nodes;
  })

  -- a node without its new operations
  abbrev strip_node : Node → Node
  strip_node (act a ops) = act a (old_ops m ops)
  strip_node (cond c) = cond (strip_cond m c)
  strip_node (step s) = step (record { act = s.act; after = old_ops m s.after })
  strip_node (jump j ops) = jump j (old_ops m ops)

  joined-map : {A B : Type 0} (k : A → B) (x : List (List A)) → joined (map (map k) x) ≡ map k (joined x)
  joined-map k [] = refl
  joined-map k (list ∷ x) = ap (λ more. map k list ++ more) (joined-map k x) ∙ sym (map-append k list (joined x))

  branch-order : (c : Cond) (x y : List (List Node))
      → order_level (Stmt-F.If (strip_cond m c) (map (map strip_node) x) (map (map strip_node) y)) ≡ map strip_node (order_level (Stmt-F.If c x y))
  branch-order c x y =
      ap (λ more. cond (strip_cond m c) ∷ (more ++ joined (map (map strip_node) y))) (joined-map strip_node x)
      ∙ ap (λ more. cond (strip_cond m c) ∷ (map strip_node (joined x) ++ more)) (joined-map strip_node y)
      ∙ ap (λ more. cond (strip_cond m c) ∷ more) (sym (map-append strip_node (joined x) (joined y)))

  loop-order : (c : Cond) (s : Option Step) (x : List (List Node))
      → order_level (Stmt-F.Loop (strip_cond m c) (strip_step m s) (map (map strip_node) x)) ≡ map strip_node (order_level (Stmt-F.Loop c s x))
  loop-order c None x = ap (λ more. cond (strip_cond m c) ∷ more) (joined-map strip_node x)
  loop-order c (Some s) x = ap (λ more. cond (strip_cond m c) ∷ strip_node (step s) ∷ more) (joined-map strip_node x)

  -- the nodes are the same without their new operations
  pub strip-order : (list : List Stmt) → order_of (strip_all m list) ≡ map strip_node (order_of list)
  strip-order list =
      ap joined (strip-folds m order_level order_level (map strip_node) (record {
        simple = λ a ops. refl;
        jump = λ j ops. refl;
        branch = branch-order;
        loop = loop-order;
        block = joined-map strip_node;
      }) list) ∙ joined-map strip_node (map order list)

  -- Functions, one after another.
  all-functions : (p q : Function → Bool) → ((f : Function) → p (strip_function m f) ≡ q f)
      → (list : List Function) → list_all p (strip_functions m list) ≡ list_all q list
  all-functions p q each [] = refl
  all-functions p q each (f ∷ list) =
      ap (λ b. b && list_all p (strip_functions m list)) (each f) ∙ ap (λ b. q f && b) (all-functions p q each list)

  any-function : (p : Function → Bool) → ((f : Function) → p (strip_function m f) ≡ p f)
      → (list : List Function) → list_any p (strip_functions m list) ≡ list_any p list
  any-function p each [] = refl
  any-function p each (f ∷ list) =
      ap (λ b. b || list_any p (strip_functions m list)) (each f) ∙ ap (λ b. p f || b) (any-function p each list)

  map-functions : {B : Type 0} (p : Function → B) → ((f : Function) → p (strip_function m f) ≡ p f)
      → (list : List Function) → map p (strip_functions m list) ≡ map p list
  map-functions p each [] = refl
  map-functions p each (f ∷ list) =
      ap (λ b. b ∷ map p (strip_functions m list)) (each f) ∙ ap (λ bs. p f ∷ bs) (map-functions p each list)

  pub strip-file : (t : Tree) → file_of (strip_tree m t) ≡ file_of t
  strip-file t = ap (λ functions. record { globals = t.globals; functions = functions }) (map-functions signature_of (λ f. refl) t.functions)

  strip-body : (file : File) (f : Function) → is_valid_body file (strip_function m f) ≡ is_valid_body file f
  strip-body file f = ap (λ parts. all_valid parts (body_around f) (body_scope f)) (strip-parts file f.body)

  strip-end : (f : Function) → is_valid_end (strip_function m f) ≡ is_valid_end f
  strip-end f = ap (λ falls. not (is_int_kind f.kind) || is_main_name f.name || not (all_fall falls)) (strip-falls f.body)

  strip-valid-function : (file : File) (f : Function) → is_valid_function file (strip_function m f) ≡ is_valid_function file f
  strip-valid-function file f =
      ap (λ b. are_declared_names f.params && is_valid_count f.kind (length f.params) && b && is_valid_end (strip_function m f)) (strip-body file f)
      ∙ ap (λ b. are_declared_names f.params && is_valid_count f.kind (length f.params) && is_valid_body file f && b) (strip-end f)

  strip-names : (t : Tree) → file_names (strip_tree m t) ≡ file_names t
  strip-names t = ap (λ names. map (λ global. global.name) t.globals ++ names) (map-functions (λ function. function.name) (λ f. refl) t.functions)

  -- the number of nodes stays
  pub strip-tree-nodes : (t : Tree) → tree_nodes (strip_tree m t) ≡ tree_nodes t
  strip-tree-nodes t = ap total (map-functions function_nodes (λ f. ap total (strip-nodes f.body)) t.functions)

  joined-functions : (list : List Function) → functions_order (strip_functions m list) ≡ map strip_node (functions_order list)
  joined-functions [] = refl
  joined-functions (f ∷ list) =
      ap (λ nodes. nodes ++ functions_order (strip_functions m list)) (strip-order f.body)
      ∙ ap (λ more. map strip_node (function_order f) ++ more) (joined-functions list)
      ∙ sym (map-append strip_node (function_order f) (functions_order list))

  touches-node : (n : Option Node) → touches_of (option_map strip_node n) ≡ touches_of n
  touches-node None = refl
  touches-node (Some (act a ops)) = refl
  touches-node (Some (cond c)) = refl
  touches-node (Some (step s)) = refl
  touches-node (Some (jump j ops)) = refl

  -- and so do the accesses of each node
  pub strip-touches : (t : Tree) (n : ℕ) → touches_of (node_at (strip_tree m t) n) ≡ touches_of (node_at t n)
  strip-touches t n =
      ap (λ list. touches_of (slice_get list n)) (joined-functions t.functions)
      ∙ ap touches_of (slice_get-map strip_node (tree_order t) n) ∙ touches-node (node_at t n)

  strip-function-locals : (f : Option Function) → function_locals (option_map (strip_function m) f) ≡ function_locals f
  strip-function-locals None = refl
  strip-function-locals (Some f) = ap (λ kinds. length f.params + length (joined kinds)) (strip-locals f.body)

  strip-function-cells : (f : Option Function) → function_cells (option_map (strip_function m) f) ≡ function_cells f
  strip-function-cells None = refl
  strip-function-cells (Some f) = ap (λ kinds. length f.params + total (map local_cells (joined kinds))) (strip-locals f.body)

  -- the program without its new operations and starts is valid
  pub valid-strip : (t : Tree) → IsValid t → IsValid (strip_tree m t)
  valid-strip t valid = record {
    names = ap are_declared_names (strip-names t) ∙ valid.names;
    globals = valid.globals;
    has_main = any-function is_main (λ f. refl) t.functions ∙ valid.has_main;
    functions =
        ap (λ file. list_all (is_valid_function file) (strip_functions m t.functions)) (strip-file t)
        ∙ all-functions (is_valid_function (file_of t)) (is_valid_function (file_of t)) (strip-valid-function (file_of t)) t.functions
        ∙ valid.functions;
    operations = strip-operations m t.functions valid.operations;
    starts = strip-starts m t.starts valid.starts;
    few_nodes = subst (λ n. n < 2 ^ 32 - 1) (sym (strip-tree-nodes t)) valid.few_nodes;
    few_functions = subst (λ n. n < 2 ^ 32 - 1) (sym (length-map t.functions (strip_function m))) valid.few_functions;
    few_variables = valid.few_variables;
    few_cells = valid.few_cells;
    few_locals = λ n. subst (λ m. m < 2 ^ 32 - 1)
        (sym (ap function_locals (slice_get-map (strip_function m) t.functions n) ∙ strip-function-locals (slice_get t.functions n)))
        (valid.few_locals n);
    few_local_cells = λ n. subst (λ m. m < 2 ^ 32 - 1)
        (sym (ap function_cells (slice_get-map (strip_function m) t.functions n) ∙ strip-function-cells (slice_get t.functions n)))
        (valid.few_local_cells n);
    few_accesses = λ n. subst (λ touched. length touched < 2 ^ 32 - 1) (sym (strip-touches t n)) (valid.few_accesses n);
  }
