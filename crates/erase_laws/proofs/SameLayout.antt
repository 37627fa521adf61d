-- A program without its new operations has the same layout.
use Rattle.std.proofs.Common.{◌≡◌, ℕ, ◌-◌, ◌==◌, ◌||◌, List, [], ◌∷◌, map, Option, Some, None, refl, ap, ◌∙◌}
use Rattle.std.specs.Prelude.{option_map, nat_lt}
use Rattle.c_prog.specs.declared.function.Function.{Function}
use Rattle.c_prog.specs.declared.tree.Tree.{Tree}
use Rattle.c_prog.specs.Calls.{created}
use Rattle.c_prog.specs.Nodes.{function_nodes}
use Rattle.c_prog.specs.Order.{Node, act, cond, step, jump, tree_order, node_at}
use Rattle.cfix_base.specs.declared.mark.Marks.{Marks}
use Rattle.c_prog.specs.Strip.{strip_function, strip_tree}
use Rattle.layout_laws.specs.TreeLayout.{number_if, cond_if, constant_if, callee_if, created_if, or_later, function_at, is_number, some_creates, layout_of}
use Rattle.erase_laws.proofs.TreeStrip.{strip_node, function_count_strip, functions_strip, node_strip, main_strip}

module _ (m : Marks) where
  function_strip : (fs : List Function) (n : ℕ) → function_at (map (strip_function m) fs) n ≡ function_at fs n
  function_strip [] n = refl
  function_strip (f ∷ fs) n =
      ap (λ k. or_later (nat_lt n k) (function_at (map (strip_function m) fs) (n - k))) (function_count_strip m f)
      ∙ ap (or_later (nat_lt n (function_nodes f))) (function_strip fs (n - function_nodes f))

  cond_strip : (o : Option Node) → cond_if (option_map (strip_node m) o) ≡ cond_if o
  cond_strip None = refl
  cond_strip (Some (act a after)) = refl
  cond_strip (Some (cond c)) = refl
  cond_strip (Some (step s)) = refl
  cond_strip (Some (jump j after)) = refl

  constant_strip : (o : Option Node) → constant_if (option_map (strip_node m) o) ≡ constant_if o
  constant_strip None = refl
  constant_strip (Some (act a after)) = refl
  constant_strip (Some (cond c)) = refl
  constant_strip (Some (step s)) = refl
  constant_strip (Some (jump j after)) = refl

  callee_strip : (o : Option Node) → callee_if (option_map (strip_node m) o) ≡ callee_if o
  callee_strip None = refl
  callee_strip (Some (act a after)) = refl
  callee_strip (Some (cond c)) = refl
  callee_strip (Some (step s)) = refl
  callee_strip (Some (jump j after)) = refl

  created_strip : (w : Node) → created (strip_node m w) ≡ created w
  created_strip (act a after) = refl
  created_strip (cond c) = refl
  created_strip (step s) = refl
  created_strip (jump j after) = refl

  created_if_strip : (o : Option Node) → created_if (option_map (strip_node m) o) ≡ created_if o
  created_if_strip None = refl
  created_if_strip (Some w) = ap number_if (created_strip w)

  creates_strip : (ws : List Node) (f : ℕ) → some_creates (map (strip_node m) ws) f ≡ some_creates ws f
  creates_strip [] f = refl
  creates_strip (w ∷ ws) f = λ i. is_number (number_if (created_strip w i)) f || creates_strip ws f i

  pub layout_strip : (tree : Tree) → layout_of (strip_tree m tree) ≡ layout_of tree
  layout_strip tree = λ i. record {
    function = λ n. function_strip tree.functions n i;
    is_cond = λ n. (ap cond_if (node_strip m tree n) ∙ cond_strip (node_at tree n)) i;
    constant = λ n. (ap constant_if (node_strip m tree n) ∙ constant_strip (node_at tree n)) i;
    callee = λ n. (ap callee_if (node_strip m tree n) ∙ callee_strip (node_at tree n)) i;
    created = λ n. (ap created_if (node_strip m tree n) ∙ created_if_strip (node_at tree n)) i;
    is_root = λ f. (f == main_strip m tree.functions i)
        || (ap (λ ws. some_creates ws f) (functions_strip m tree.functions) ∙ creates_strip (tree_order tree) f) i;
  }
