-- A program with further operations, over whole runs.
use Rattle.std.proofs.Common.{◌≡◌, ℕ, ◌≤◌, max, ℤ, Bool, true, false, List, [], ◌∷◌, ◌++◌, map, Option, Some, None, refl, sym, ap, ◌∙◌, subst, arith}
use Rattle.cfix_base.specs.declared.entry.Entry.{Entry}
use Rattle.cfix_base.specs.declared.op.Op.{Op}
use Rattle.c_prog.specs.declared.function.Function.{Function}
use Rattle.c_prog.specs.declared.stmt.Step.{Step}
use Rattle.c_prog.specs.declared.tree.Tree.{Tree}
use Rattle.c_prog.specs.Order.{joined}
use Rattle.cfix_base.specs.declared.mark.Marks.{Marks}
use Rattle.c_prog.specs.Marks.{is_new, is_new_start, keep_old, old_of, all_level, all_ops, step_ops, function_all, greatest, above_lock, above_order, above_start, tree_all, tree_marks}
use Rattle.step_state.specs.Erase.{strip_code, strip_configuration, erased}
use Rattle.step_state.specs.Run.{run, CanGo}
use Rattle.erase_laws.specs.Repairs.{AddsNothing}
use Rattle.c_prog.specs.Strip.{strip_step, strip_function, strip_tree}
use Rattle.step_tables.specs.TreeCode.{tree_code}
use Rattle.erase_laws.proofs.TreeFolds.{Carries, strip-folds}
use Rattle.erase_laws.proofs.TreeStrip.{code_strip}
use Rattle.erase_laws.proofs.TreeMarked.{marked}
use Rattle.erase_laws.proofs.Erased.{erases}

module _ {A : Type 0} (new : A → Bool) where
  old_append : (a b : List A) → old_of new (a ++ b) ≡ old_of new a ++ old_of new b
  old_append [] b = refl
  old_append (x ∷ a) b = more (new x) (old_append a b)
    where
      more : (is : Bool) → old_of new (a ++ b) ≡ old_of new a ++ old_of new b → keep_old is x (old_of new (a ++ b)) ≡ keep_old is x (old_of new a) ++ old_of new b
      more true h = h
      more false h = ap (λ r. x ∷ r) h

  old_joined : (xs : List (List A)) → joined (map (old_of new) xs) ≡ old_of new (joined xs)
  old_joined [] = refl
  old_joined (x ∷ xs) = ap (λ r. old_of new x ++ r) (old_joined xs) ∙ sym (old_append x (joined xs))

  old_less : (f : A → ℕ) (xs : List A) → greatest f (old_of new xs) ≤ greatest f xs
  old_less f [] = omega arith
  old_less f (x ∷ xs) = more (new x) (old_less f xs)
    where
      more : (is : Bool) → greatest f (old_of new xs) ≤ greatest f xs → greatest f (keep_old is x (old_of new xs)) ≤ max (f x) (greatest f xs)
      more true h = omega (arith, h)
      more false h = omega (arith, h)

module _ (m : Marks) where
  abbrev Old : List Op → List Op
  Old ops = old_of (is_new m) ops

  two : (a b : List Op) → Old a ++ Old b ≡ Old (a ++ b)
  two a b = sym (old_append (is_new m) a b)

  four : (a b c d : List Op) → (Old a ++ Old b) ++ (Old c ++ Old d) ≡ Old ((a ++ b) ++ (c ++ d))
  four a b c d = (λ i. two a b i ++ two c d i) ∙ two (a ++ b) (c ++ d)

  step_old : (s : Option Step) → step_ops (strip_step m s) ≡ Old (step_ops s)
  step_old None = refl
  step_old (Some s) = refl

  all_carries : Carries m all_level all_level Old
  all_carries = record {
    simple = λ a ops. refl;
    jump = λ j ops. refl;
    branch = λ c x y.
        (λ i. (Old c.on_true ++ Old c.on_false) ++ (old_joined (is_new m) x i ++ old_joined (is_new m) y i)) ∙ four c.on_true c.on_false (joined x) (joined y);
    loop = λ c s x.
        (λ i. (Old c.on_true ++ Old c.on_false) ++ (step_old s i ++ old_joined (is_new m) x i)) ∙ four c.on_true c.on_false (step_ops s) (joined x);
    block = λ x. old_joined (is_new m) x;
  }

  function_old : (f : Function) → function_all (strip_function m f) ≡ Old (function_all f)
  function_old f =
      ap (λ r. Old f.start ++ joined r) (strip-folds m all_level all_level Old all_carries f.body)
      ∙ (ap (λ r. Old f.start ++ r) (old_joined (is_new m) (map all_ops f.body)) ∙ sym (old_append (is_new m) f.start (joined (map all_ops f.body))))

  functions_old : (fs : List Function) → joined (map function_all (map (strip_function m) fs)) ≡ Old (joined (map function_all fs))
  functions_old [] = refl
  functions_old (f ∷ fs) = (λ i. function_old f i ++ functions_old fs i) ∙ sym (old_append (is_new m) (function_all f) (joined (map function_all fs)))

  pub locks_less : (tree : Tree) → (tree_marks (strip_tree m tree)).lock ≤ (tree_marks tree).lock
  locks_less tree =
      subst (λ ops. greatest above_lock ops ≤ greatest above_lock (tree_all tree)) (sym (functions_old tree.functions)) (old_less (is_new m) above_lock (tree_all tree))

  pub orders_less : (tree : Tree) → (tree_marks (strip_tree m tree)).order ≤ (tree_marks tree).order
  orders_less tree =
      let a : greatest above_order (tree_all (strip_tree m tree)) ≤ greatest above_order (tree_all tree) =
      subst (λ ops. greatest above_order ops ≤ greatest above_order (tree_all tree)) (sym (functions_old tree.functions)) (old_less (is_new m) above_order (tree_all tree)) in
      let b = old_less (is_new_start m) above_start tree.starts in
      omega arith

-- p is q without the new operations, which are those from p's marks on
pub adds_nothing : (p q : Tree) (m : Marks) → m ≡ tree_marks p → strip_tree m q ≡ p → (input : List ℤ) (es : List Entry) → AddsNothing p q m input es
adds_nothing p q m marks is input es =
    let own : m ≡ tree_marks (strip_tree m q) = marks ∙ ap tree_marks (sym is) in
    let below = subst (λ x. x.lock ≤ (tree_marks q).lock) (sym own) (locks_less m q) in
    let below_orders = subst (λ x. x.order ≤ (tree_marks q).order) (sym own) (orders_less m q) in
    let code : tree_code p ≡ strip_code m (tree_code q) = ap tree_code (sym is) ∙ code_strip m q own in
    let all = erases m (tree_code q) (marked m q below below_orders) input es in
    record {
      erases = λ steps last ran. ap (λ c. run c input (erased m (tree_code q) input es)) code ∙ all.erases steps last ran;
      goes_on = λ steps last ran t can. all.goes_on steps last ran t (subst (λ c. CanGo c (strip_configuration m last) t) code can);
    }
