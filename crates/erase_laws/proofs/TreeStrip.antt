-- What a machine reads of a program without its new operations is what it reads of the program, without them.
use Rattle.std.proofs.Common.{◌≡◌, ℕ, ◌+◌, List, [], ◌∷◌, ◌++◌, map, take, length, slice_get, Option, Some, None, refl, sym, ap, ◌∙◌}
use Rattle.std.specs.Prelude.{option_map, slice_index_or}
use Rattle.std.proofs.lemmas.Option.{slice_get-map}
use Rattle.std.proofs.lemmas.List.{map-append, take-map}
use Rattle.cfix_base.specs.declared.op.Op.{Op}
use Rattle.cfix_base.specs.declared.place.Place.{Place}
use Rattle.cfix_base.specs.declared.place.Place.TheVariants.{Start, After, True, False}
use Rattle.c_prog.specs.declared.function.Function.{Function}
use Rattle.c_prog.specs.declared.stmt.Cond.{Cond}
use Rattle.c_prog.specs.declared.stmt.Jump.TheVariants.{Break, Continue, Return, ReturnNull, ReturnValue}
use Rattle.c_prog.specs.declared.stmt.Step.{Step}
use Rattle.c_prog.specs.declared.stmt.Stmt.{Stmt}
use Rattle.c_prog.specs.declared.stmt.Stmt.TheOpen.{Stmt-F}
use Rattle.c_prog.specs.declared.tree.Tree.{Tree}
use Rattle.c_prog.specs.Nodes.{total, nodes, nodes_level, function_nodes, functions_nodes, first_node}
use Rattle.c_prog.specs.Order.{Node, act, cond, step, jump, joined, order, order_level, function_order, functions_order, tree_order, node_at}
use Rattle.c_prog.specs.Places.{ops, start_ops, after_ops, true_ops, false_ops}
use Rattle.c_prog.specs.Valid.Functions.{is_main}
use Rattle.c_prog.specs.Valid.Locals.{locals, locals_level}
use Rattle.flow_graph.specs.Flow as flows
use Rattle.flow_graph.specs.Flow.{Way, Next, flow, flow_level, parts_of, body_ways, function_ways, ways_from, tree_ways, next, next_at}
use Rattle.step_state.specs.Items.{node_part, parts_from, declared, function_parts, part_items, part_operands, some_ops, text_of, gives, params_of, kinds_of, or_next, main_of}
use Rattle.cfix_base.specs.declared.mark.Marks.{Marks}
use Rattle.c_prog.specs.Marks.{tree_marks}
use Rattle.step_state.specs.Erase.{strip_code}
use Rattle.c_prog.specs.Marks.{old_ops}
use Rattle.c_prog.specs.Strip.{strip_all, strip_cond, strip_step, strip_function, strip_tree}
use Rattle.step_tables.specs.TreeCode.{next_or_exit, next_of, tree_code}
use Rattle.erase_laws.proofs.TreeFolds.{Carries, strip-folds}

map-same : {A : Type 0} (x : List A) → map (λ a. a) x ≡ x
map-same [] = refl
map-same (a ∷ x) = ap (λ rest. a ∷ rest) (map-same x)

joined-map : {A B : Type 0} (f : A → B) (xs : List (List A)) → joined (map (map f) xs) ≡ map f (joined xs)
joined-map f [] = refl
joined-map f (x ∷ xs) = ap (λ r. map f x ++ r) (joined-map f xs) ∙ sym (map-append f x (joined xs))

module _ (m : Marks) where
  abbrev pub strip_node : Node → Node
  strip_node (act a after) = act a (old_ops m after)
  strip_node (cond c) = cond (strip_cond m c)
  strip_node (step s) = step (record { act = s.act; after = old_ops m s.after })
  strip_node (jump j after) = jump j (old_ops m after)

  -- the nodes
  order_loop : (c : Cond) (s : Option Step) (x : List (List Node))
      → order_level (Stmt-F.Loop (strip_cond m c) (strip_step m s) (map (map strip_node) x)) ≡ map strip_node (order_level (Stmt-F.Loop c s x))
  order_loop c None x = ap (λ r. cond (strip_cond m c) ∷ r) (joined-map strip_node x)
  order_loop c (Some s) x = ap (λ r. cond (strip_cond m c) ∷ (step (record { act = s.act; after = old_ops m s.after }) ∷ r)) (joined-map strip_node x)

  order_carries : Carries m order_level order_level (map strip_node)
  order_carries = record {
    simple = λ a ops. refl;
    jump = λ j ops. refl;
    branch = λ c x y.
        ap (λ r. cond (strip_cond m c) ∷ (r ++ joined (map (map strip_node) y))) (joined-map strip_node x)
        ∙ (ap (λ r. cond (strip_cond m c) ∷ (map strip_node (joined x) ++ r)) (joined-map strip_node y)
        ∙ ap (λ r. cond (strip_cond m c) ∷ r) (sym (map-append strip_node (joined x) (joined y))));
    loop = order_loop;
    block = λ x. joined-map strip_node x;
  }

  function_nodes_strip : (f : Function) → function_order (strip_function m f) ≡ map strip_node (function_order f)
  function_nodes_strip f =
      ap joined (strip-folds m order_level order_level (map strip_node) order_carries f.body) ∙ joined-map strip_node (map order f.body)

  pub functions_strip : (fs : List Function) → functions_order (map (strip_function m) fs) ≡ map strip_node (functions_order fs)
  functions_strip [] = refl
  functions_strip (f ∷ fs) =
      ap (λ r. r ++ functions_order (map (strip_function m) fs)) (function_nodes_strip f)
      ∙ (ap (λ r. map strip_node (function_order f) ++ r) (functions_strip fs) ∙ sym (map-append strip_node (function_order f) (functions_order fs)))

  pub node_strip : (tree : Tree) (n : ℕ) → node_at (strip_tree m tree) n ≡ option_map strip_node (node_at tree n)
  node_strip tree n = ap (λ l. slice_get l n) (functions_strip tree.functions) ∙ slice_get-map strip_node (tree_order tree) n

  -- the parts of nodes
  part_strip : (x : ℕ) (n : Node) → node_part x (strip_node n) ≡ node_part x n
  part_strip x (act a after) = refl
  part_strip x (cond c) = refl
  part_strip x (step s) = refl
  part_strip x (jump j after) = refl

  declared_strip : (n : Node) → declared (strip_node n) ≡ declared n
  declared_strip (act a after) = refl
  declared_strip (cond c) = refl
  declared_strip (step s) = refl
  declared_strip (jump j after) = refl

  parts_strip : (x : ℕ) (ns : List Node) → parts_from x (map strip_node ns) ≡ parts_from x ns
  parts_strip x [] = refl
  parts_strip x (n ∷ ns) =
      (λ i. part_strip x n i ∷ parts_from (x + declared_strip n i) (map strip_node ns)) ∙ ap (λ r. node_part x n ∷ r) (parts_strip (x + declared n) ns)

  function_parts_strip : (f : Function) → function_parts (strip_function m f) ≡ function_parts f
  function_parts_strip f = ap (parts_from (length f.params)) (function_nodes_strip f) ∙ parts_strip (length f.params) (function_order f)

  all_parts_strip : (fs : List Function) → joined (map function_parts (map (strip_function m) fs)) ≡ joined (map function_parts fs)
  all_parts_strip [] = refl
  all_parts_strip (f ∷ fs) = λ i. function_parts_strip f i ++ all_parts_strip fs i

  -- the ways
  flow_carries : Carries m flow_level flow_level (λ a. a)
  flow_carries = record {
    simple = λ a ops. refl;
    jump = λ j ops. refl;
    branch = λ c x y. λ i. flow_level (Stmt-F.If (strip_cond m c) (map-same x i) (map-same y i));
    loop = λ c s x. flow_loop c s x;
    block = λ x. λ i. flow_level (Stmt-F.Block (map-same x i));
  }
    where
      flow_loop : (c : Cond) (s : Option Step) (x : List flows.Part)
          → flow_level (Stmt-F.Loop (strip_cond m c) (strip_step m s) (map (λ a. a) x)) ≡ flow_level (Stmt-F.Loop c s x)
      flow_loop c None x = λ i. flow_level (Stmt-F.Loop (strip_cond m c) None (map-same x i))
      flow_loop c (Some s) x = λ i. flow_level (Stmt-F.Loop (strip_cond m c) (strip_step m (Some s)) (map-same x i))

  flows_strip : (body : List Stmt) → parts_of (strip_all m body) ≡ parts_of body
  flows_strip body = strip-folds m flow_level flow_level (λ a. a) flow_carries body ∙ map-same (map flow body)

  nodes_carries : Carries m nodes_level nodes_level (λ a. a)
  nodes_carries = record {
    simple = λ a ops. refl;
    jump = λ j ops. refl;
    branch = λ c x y. λ i. nodes_level (Stmt-F.If (strip_cond m c) (map-same x i) (map-same y i));
    loop = λ c s x. nodes_loop c s x;
    block = λ x. λ i. nodes_level (Stmt-F.Block (map-same x i));
  }
    where
      nodes_loop : (c : Cond) (s : Option Step) (x : List ℕ)
          → nodes_level (Stmt-F.Loop (strip_cond m c) (strip_step m s) (map (λ a. a) x)) ≡ nodes_level (Stmt-F.Loop c s x)
      nodes_loop c None x = λ i. nodes_level (Stmt-F.Loop c None (map-same x i))
      nodes_loop c (Some s) x = λ i. nodes_level (Stmt-F.Loop c (Some s) (map-same x i))

  pub function_count_strip : (f : Function) → function_nodes (strip_function m f) ≡ function_nodes f
  function_count_strip f =
      ap total (strip-folds m nodes_level nodes_level (λ a. a) nodes_carries f.body ∙ map-same (map nodes f.body))

  counts_strip : (fs : List Function) → functions_nodes (map (strip_function m) fs) ≡ functions_nodes fs
  counts_strip [] = refl
  counts_strip (f ∷ fs) = λ i. function_count_strip f i + counts_strip fs i

  first_strip : (tree : Tree) (k : ℕ) → first_node (strip_tree m tree) k ≡ first_node tree k
  first_strip tree k = ap functions_nodes (take-map (strip_function m) k tree.functions) ∙ counts_strip (take k tree.functions)

  ways_strip : (tree : Tree) (k : ℕ) (fs : List Function) → ways_from (strip_tree m tree) k (map (strip_function m) fs) ≡ ways_from tree k fs
  ways_strip tree k [] = refl
  ways_strip tree k (f ∷ fs) = λ i. body_ways k (first_strip tree k i) (flows_strip f.body i) ++ ways_strip tree (k + 1) fs i

  pub next_strip : (tree : Tree) (place : Place) → next_of (strip_tree m tree) place ≡ next_of tree place
  next_strip tree place = ap (λ ways. next_or_exit (next_at place ways)) (ways_strip tree 0 tree.functions)

  -- all else
  text_strip : (o : Option Node) → text_of (option_map strip_node o) ≡ text_of o
  text_strip None = refl
  text_strip (Some (act a after)) = refl
  text_strip (Some (cond c)) = refl
  text_strip (Some (step s)) = refl
  text_strip (Some (jump j after)) = refl

  gives_strip : (o : Option Node) → gives (option_map strip_node o) ≡ gives o
  gives_strip None = refl
  gives_strip (Some (act a after)) = refl
  gives_strip (Some (cond c)) = refl
  gives_strip (Some (step s)) = refl
  gives_strip (Some (jump Break after)) = refl
  gives_strip (Some (jump Continue after)) = refl
  gives_strip (Some (jump Return after)) = refl
  gives_strip (Some (jump ReturnNull after)) = refl
  gives_strip (Some (jump (ReturnValue v) after)) = refl

  params_strip : (o : Option Function) → params_of (option_map (strip_function m) o) ≡ params_of o
  params_strip None = refl
  params_strip (Some f) = refl

  locals_carries : Carries m locals_level locals_level (λ a. a)
  locals_carries = record {
    simple = λ a ops. refl;
    jump = λ j ops. refl;
    branch = λ c x y. λ i. locals_level (Stmt-F.If (strip_cond m c) (map-same x i) (map-same y i));
    loop = λ c s x. λ i. locals_level (Stmt-F.Loop c s (map-same x i));
    block = λ x. λ i. locals_level (Stmt-F.Block (map-same x i));
  }

  kinds_strip : (o : Option Function) → kinds_of (option_map (strip_function m) o) ≡ kinds_of o
  kinds_strip None = refl
  kinds_strip (Some f) = ap joined (strip-folds m locals_level locals_level (λ a. a) locals_carries f.body ∙ map-same (map locals f.body))

  pub main_strip : (fs : List Function) → main_of (map (strip_function m) fs) ≡ main_of fs
  main_strip [] = refl
  main_strip (f ∷ fs) = ap (or_next (is_main f)) (main_strip fs)

  -- the operations
  abbrev Old : Option (List Op) → List Op
  Old o = old_ops m (some_ops o)

  start_strip : (o : Option Function) → some_ops (start_ops (option_map (strip_function m) o)) ≡ Old (start_ops o)
  start_strip None = refl
  start_strip (Some f) = refl

  after_strip : (o : Option Node) → some_ops (after_ops (option_map strip_node o)) ≡ Old (after_ops o)
  after_strip None = refl
  after_strip (Some (act a after)) = refl
  after_strip (Some (cond c)) = refl
  after_strip (Some (step s)) = refl
  after_strip (Some (jump j after)) = refl

  true_strip : (o : Option Node) → some_ops (true_ops (option_map strip_node o)) ≡ Old (true_ops o)
  true_strip None = refl
  true_strip (Some (act a after)) = refl
  true_strip (Some (cond c)) = refl
  true_strip (Some (step s)) = refl
  true_strip (Some (jump j after)) = refl

  false_strip : (o : Option Node) → some_ops (false_ops (option_map strip_node o)) ≡ Old (false_ops o)
  false_strip None = refl
  false_strip (Some (act a after)) = refl
  false_strip (Some (cond c)) = refl
  false_strip (Some (step s)) = refl
  false_strip (Some (jump j after)) = refl

  pub ops_strip : (tree : Tree) (place : Place) → some_ops (ops (strip_tree m tree) place) ≡ old_ops m (some_ops (ops tree place))
  ops_strip tree (Start f) = ap (λ o. some_ops (start_ops o)) (slice_get-map (strip_function m) tree.functions f.number) ∙ start_strip (slice_get tree.functions f.number)
  ops_strip tree (After n) = ap (λ o. some_ops (after_ops o)) (node_strip tree n.number) ∙ after_strip (node_at tree n.number)
  ops_strip tree (True n) = ap (λ o. some_ops (true_ops o)) (node_strip tree n.number) ∙ true_strip (node_at tree n.number)
  ops_strip tree (False n) = ap (λ o. some_ops (false_ops o)) (node_strip tree n.number) ∙ false_strip (node_at tree n.number)

  -- the whole
  pub code_strip : (tree : Tree) → m ≡ tree_marks (strip_tree m tree) → tree_code (strip_tree m tree) ≡ strip_code m (tree_code tree)
  unfolding tree_code
  code_strip tree marks = λ i. record {
    items = λ n. part_items n (slice_get (all_parts_strip tree.functions i) n);
    operand = λ r. slice_index_or (part_operands r.node.number (slice_get (all_parts_strip tree.functions i) r.node.number)) r.number [];
    ops = λ place. ops_strip tree place i;
    next = λ place. next_strip tree place i;
    text = λ n. (ap text_of (node_strip tree n) ∙ text_strip (node_at tree n)) i;
    gives = λ n. (ap gives (node_strip tree n) ∙ gives_strip (node_at tree n)) i;
    params = λ f. (ap params_of (slice_get-map (strip_function m) tree.functions f) ∙ params_strip (slice_get tree.functions f)) i;
    locals = λ f. (ap kinds_of (slice_get-map (strip_function m) tree.functions f) ∙ kinds_strip (slice_get tree.functions f)) i;
    globals = map (λ g. g.kind) tree.globals;
    main = main_strip tree.functions i;
    starts = (strip_tree m tree).starts;
    locks = (sym marks i).lock;
    orders = (sym marks i).order;
  }
