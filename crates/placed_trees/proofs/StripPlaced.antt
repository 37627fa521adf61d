-- The placed program without its new operations is the program.
use Rattle.std.proofs.Common.{◌≡◌, ℕ, ◌+◌, Bool, true, false, List, [], ◌∷◌, ◌++◌, map, Option, Some, None, refl, sym, ap, ◌∙◌, subst}
use Rattle.cfix_base.specs.declared.number.OrderId.{OrderId}
use Rattle.cfix_base.specs.declared.op.Op.{Op}
use Rattle.cfix_base.specs.declared.place.Place.{Place}
use Rattle.cfix_base.specs.declared.place.Place.TheVariants.{Start, After, True, False}
use Rattle.c_prog.specs.declared.function.Function.{Function}
use Rattle.c_prog.specs.declared.stmt.Cond.{Cond}
use Rattle.c_prog.specs.declared.stmt.Step.{Step}
use Rattle.c_prog.specs.declared.stmt.Stmt.{Stmt}
use Rattle.c_prog.specs.declared.stmt.Stmt.TheVariants as stmt
use Rattle.c_prog.specs.declared.stmt.Stmt.TheViews.{roll-Stmt}
use Rattle.c_prog.specs.declared.stmt.Stmt.TheOpen.{Stmt-F}
use Rattle.c_prog.specs.declared.stmt.Stmt.TheFolds.{fold-roll-Stmt, ind-Stmt, map-Stmt}
use Rattle.c_prog.specs.declared.tree.Tree.{Tree}
use Rattle.c_prog.specs.Nodes.{step_nodes}
use Rattle.c_prog.specs.Order.{joined}
use Rattle.step_state.specs.Code.{node, fn_id}
use Rattle.cfix_base.specs.declared.mark.Marks.{Marks}
use Rattle.c_prog.specs.Marks.{is_new, is_new_start, keep_old, old_of, step_ops, all_level, all_ops, function_all, tree_all}
use Rattle.placed_trees.specs.AddOps.{Placed, sizes, build_all, cond_with, step_with, placed, placed_level, functions_with, add_ops}
use Rattle.c_prog.specs.Strip.{strip, strip_all, strip_level, strip_cond, strip_step, strip_function, strip_tree}

module _ {A : Type 0} (new : A → Bool) where
  abbrev pub AllAre : Bool → List A → Type 0
  AllAre b [] = Unit {0}
  AllAre b (x ∷ xs) = (new x ≡ b) × AllAre b xs

  pub are_append : (b : Bool) (xs ys : List A) → AllAre b xs → AllAre b ys → AllAre b (xs ++ ys)
  are_append b [] ys h k = k
  are_append b (x ∷ xs) ys h k = (h.0, are_append b xs ys h.1 k)

  pub are_split : (b : Bool) (xs ys : List A) → AllAre b (xs ++ ys) → AllAre b xs × AllAre b ys
  are_split b [] ys h = (tt, h)
  are_split b (x ∷ xs) ys h = let k = are_split b xs ys h.1 in ((h.0, k.0), k.1)

  none_left : (ys : List A) → AllAre true ys → old_of new ys ≡ []
  none_left [] h = refl
  none_left (y ∷ ys) h = ap (λ b. keep_old b y (old_of new ys)) h.0 ∙ none_left ys h.1

  pub old_added : (xs ys : List A) → AllAre false xs → AllAre true ys → old_of new (xs ++ ys) ≡ xs
  old_added [] ys h k = none_left ys k
  old_added (x ∷ xs) ys h k = ap (λ b. keep_old b x (old_of new (xs ++ ys))) h.0 ∙ ap (λ r. x ∷ r) (old_added xs ys h.1 k)

module _ (m : Marks) (O : Place → List Op) (fresh : (p : Place) → AllAre (is_new m) true (O p)) where
  abbrev Old : List Op → Type 0
  Old ops = AllAre (is_new m) false ops

  cond_back : (c : Cond) (n : ℕ) → Old c.on_true → Old c.on_false → strip_cond m (cond_with c O n) ≡ c
  cond_back c n a b = λ i. record {
    test = c.test;
    on_true = old_added (is_new m) c.on_true (O (True (node n))) a (fresh (True (node n))) i;
    on_false = old_added (is_new m) c.on_false (O (False (node n))) b (fresh (False (node n))) i;
  }

  step_back : (s : Option Step) (n : ℕ) → Old (step_ops s) → strip_step m (step_with s O n) ≡ s
  step_back None n h = refl
  step_back (Some s) n h = λ i. Some (record { act = s.act; after = old_added (is_new m) s.after (O (After (node n))) h (fresh (After (node n))) i })

  abbrev Back : Stmt → Type 0
  Back s = Old (all_ops s) → (n : ℕ) → strip m ((placed s).build O n) ≡ s

  abbrev E : Type 0
  E = (s : Stmt) × Back s

  abbrev stmts : List E → List Stmt
  stmts es = map (λ e. e.0) es

  all_back : (es : List E) (n : ℕ) → Old (joined (map all_ops (stmts es))) → strip_all m (build_all (map placed (stmts es)) O n) ≡ stmts es
  all_back [] n h = refl
  all_back (e ∷ es) n h =
      let k = are_split (is_new m) false (all_ops e.0) (joined (map all_ops (stmts es))) h in
      λ i. e.1 k.0 n i ∷ all_back es (n + (placed e.0).size) k.1 i

  level : (y : Stmt-F E) → Back (roll-Stmt (map-Stmt E Stmt (λ e. e.0) y))
  level (Stmt-F.Simple a after) h n =
      let old = subst Old (fold-roll-Stmt (List Op) all_level (Stmt-F.Simple a after)) h in
      let x = after ++ O (After (node n)) in
      ap (λ p. strip m (p.build O n)) (fold-roll-Stmt Placed placed_level (Stmt-F.Simple a after))
      ∙ sym (ap (strip m) (stmt.rolls-Simple a x)) ∙ fold-roll-Stmt Stmt (strip_level m) (Stmt-F.Simple a x)
      ∙ ap (stmt.Simple a) (old_added (is_new m) after (O (After (node n))) old (fresh (After (node n)))) ∙ sym (stmt.rolls-Simple a after)
  level (Stmt-F.Jump a after) h n =
      let old = subst Old (fold-roll-Stmt (List Op) all_level (Stmt-F.Jump a after)) h in
      let x = after ++ O (After (node n)) in
      ap (λ p. strip m (p.build O n)) (fold-roll-Stmt Placed placed_level (Stmt-F.Jump a after))
      ∙ sym (ap (strip m) (stmt.rolls-Jump a x)) ∙ fold-roll-Stmt Stmt (strip_level m) (Stmt-F.Jump a x)
      ∙ ap (stmt.Jump a) (old_added (is_new m) after (O (After (node n))) old (fresh (After (node n)))) ∙ sym (stmt.rolls-Jump a after)
  level (Stmt-F.If c x y) h n =
      let old = subst Old (fold-roll-Stmt (List Op) all_level (Stmt-F.If c (stmts x) (stmts y))) h in
      let k = are_split (is_new m) false (c.on_true ++ c.on_false) (joined (map all_ops (stmts x)) ++ joined (map all_ops (stmts y))) old in
      let o = are_split (is_new m) false c.on_true c.on_false k.0 in
      let l = are_split (is_new m) false (joined (map all_ops (stmts x))) (joined (map all_ops (stmts y))) k.1 in
      let a = build_all (map placed (stmts x)) O (n + 1) in
      let other = n + 1 + sizes (map placed (stmts x)) in
      let b = build_all (map placed (stmts y)) O other in
      ap (λ p. strip m (p.build O n)) (fold-roll-Stmt Placed placed_level (Stmt-F.If c (stmts x) (stmts y)))
      ∙ sym (ap (strip m) (stmt.rolls-If (cond_with c O n) a b)) ∙ fold-roll-Stmt Stmt (strip_level m) (Stmt-F.If (cond_with c O n) a b)
      ∙ (λ i. stmt.If (cond_back c n o.0 o.1 i) (all_back x (n + 1) l.0 i) (all_back y other l.1 i)) ∙ sym (stmt.rolls-If c (stmts x) (stmts y))
  level (Stmt-F.Loop c s x) h n =
      let old = subst Old (fold-roll-Stmt (List Op) all_level (Stmt-F.Loop c s (stmts x))) h in
      let k = are_split (is_new m) false (c.on_true ++ c.on_false) (step_ops s ++ joined (map all_ops (stmts x))) old in
      let o = are_split (is_new m) false c.on_true c.on_false k.0 in
      let l = are_split (is_new m) false (step_ops s) (joined (map all_ops (stmts x))) k.1 in
      let first = n + 1 + step_nodes s in
      let a = build_all (map placed (stmts x)) O first in
      let t = step_with s O (n + 1) in
      ap (λ p. strip m (p.build O n)) (fold-roll-Stmt Placed placed_level (Stmt-F.Loop c s (stmts x)))
      ∙ sym (ap (strip m) (stmt.rolls-Loop (cond_with c O n) t a)) ∙ fold-roll-Stmt Stmt (strip_level m) (Stmt-F.Loop (cond_with c O n) t a)
      ∙ (λ i. stmt.Loop (cond_back c n o.0 o.1 i) (step_back s (n + 1) l.0 i) (all_back x first l.1 i)) ∙ sym (stmt.rolls-Loop c s (stmts x))
  level (Stmt-F.Block x) h n =
      let old = subst Old (fold-roll-Stmt (List Op) all_level (Stmt-F.Block (stmts x))) h in
      let a = build_all (map placed (stmts x)) O n in
      ap (λ p. strip m (p.build O n)) (fold-roll-Stmt Placed placed_level (Stmt-F.Block (stmts x)))
      ∙ sym (ap (strip m) (stmt.rolls-Block a)) ∙ fold-roll-Stmt Stmt (strip_level m) (Stmt-F.Block a)
      ∙ ap stmt.Block (all_back x n old) ∙ sym (stmt.rolls-Block (stmts x))

  stmt_back : (s : Stmt) → Back s
  stmt_back = ind-Stmt Back (λ x y is. subst (λ z. Back (roll-Stmt z)) is (level y))

  list_back : (list : List Stmt) (n : ℕ) → Old (joined (map all_ops list)) → strip_all m (build_all (map placed list) O n) ≡ list
  list_back [] n h = refl
  list_back (s ∷ list) n h =
      let k = are_split (is_new m) false (all_ops s) (joined (map all_ops list)) h in
      λ i. stmt_back s k.0 n i ∷ list_back list (n + (placed s).size) k.1 i

  pub functions_back : (fs : List Function) (k n : ℕ) → Old (joined (map function_all fs)) → map (strip_function m) (functions_with O k n fs) ≡ fs
  functions_back [] k n h = refl
  functions_back (f ∷ fs) k n h =
      let a = are_split (is_new m) false (function_all f) (joined (map function_all fs)) h in
      let b = are_split (is_new m) false f.start (joined (map all_ops f.body)) a.0 in
      λ i. record {
        name = f.name;
        kind = f.kind;
        params = f.params;
        start = old_added (is_new m) f.start (O (Start (fn_id k))) b.0 (fresh (Start (fn_id k))) i;
        body = list_back f.body n b.1 i;
      } ∷ functions_back fs (k + 1) (n + sizes (map placed f.body)) a.1 i

  -- a program whose operations and starts are old, with new ones, and without them
  pub tree_back : (tree : Tree) (starts : List OrderId) → Old (tree_all tree) → AllAre (is_new_start m) false tree.starts → AllAre (is_new_start m) true starts
      → strip_tree m (add_ops O starts tree) ≡ tree
  tree_back tree starts old olds news = λ i. record {
    globals = tree.globals;
    functions = functions_back tree.functions 0 0 old i;
    starts = old_added (is_new_start m) tree.starts starts olds news i;
  }
