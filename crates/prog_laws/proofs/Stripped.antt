-- To strip twice is to strip once.
use Rattle.std.proofs.Common.{◌≡◌, Bool, true, false, List, [], ◌∷◌, Option, Some, None, refl, ap, ◌∙◌}
use Rattle.cfix_base.specs.declared.mark.Marks.{Marks}
use Rattle.cfix_base.specs.declared.number.OrderId.{OrderId}
use Rattle.cfix_base.specs.declared.op.Op.{Op}
use Rattle.c_prog.specs.declared.function.Function.{Function}
use Rattle.c_prog.specs.declared.stmt.Cond.{Cond}
use Rattle.c_prog.specs.declared.stmt.Step.{Step}
use Rattle.c_prog.specs.declared.stmt.Stmt.{Stmt}
use Rattle.c_prog.specs.declared.stmt.Stmt.TheVariants as stmt
use Rattle.c_prog.specs.declared.stmt.Stmt.TheOpen.{Stmt-F}
use Rattle.c_prog.specs.declared.tree.Tree.{Tree}
use Rattle.c_prog.specs.Marks.{is_new, is_new_start, keep_old, old_of, old_ops}
use Rattle.c_prog.specs.Strip.{strip_all, strip_cond, strip_step, strip_level, strip_function, strip_functions, strip_tree}
use Rattle.c_marks.proofs.StripFolds.{strip-ignored}

-- the old ones of old ones are all of them
keep-twice : {A : Type 0} (new : A → Bool) (b : Bool) (x : A) (xs : List A) → new x ≡ b → old_of new (keep_old b x xs) ≡ keep_old b x (old_of new xs)
keep-twice new true x xs is = refl
keep-twice new false x xs is = ap (λ b. keep_old b x (old_of new xs)) is

old-twice : {A : Type 0} (new : A → Bool) (xs : List A) → old_of new (old_of new xs) ≡ old_of new xs
old-twice new [] = refl
old-twice new (x ∷ xs) = keep-twice new (new x) x (old_of new xs) refl ∙ ap (λ rest. keep_old (new x) x rest) (old-twice new xs)

module _ (m : Marks) where
  ops-twice : (ops : List Op) → old_ops m (old_ops m ops) ≡ old_ops m ops
  ops-twice ops = old-twice (is_new m) ops

  cond-twice : (c : Cond) → strip_cond m (strip_cond m c) ≡ strip_cond m c
  cond-twice c =
      let with : List Op → List Op → Cond = λ on_true on_false. record { test = c.test; on_true = on_true; on_false = on_false } in
      ap (λ ops. with ops (old_ops m (old_ops m c.on_false))) (ops-twice c.on_true) ∙ ap (λ ops. with (old_ops m c.on_true) ops) (ops-twice c.on_false)

  step-twice : (s : Option Step) → strip_step m (strip_step m s) ≡ strip_step m s
  step-twice None = refl
  step-twice (Some s) =
      let with : List Op → Option Step = λ after. Some (record { act = s.act; after = after }) in
      ap with (ops-twice s.after)

  loop-twice : (c : Cond) (s : Option Step) (x : List Stmt)
      → strip_level m (Stmt-F.Loop (strip_cond m c) (strip_step m s) x) ≡ strip_level m (Stmt-F.Loop c s x)
  loop-twice c s x =
      ap (λ d. stmt.Loop d (strip_step m (strip_step m s)) x) (cond-twice c) ∙ ap (λ t. stmt.Loop (strip_cond m c) t x) (step-twice s)

  body-twice : (list : List Stmt) → strip_all m (strip_all m list) ≡ strip_all m list
  body-twice = strip-ignored m (strip_level m) (record {
    simple = λ a ops. ap (λ after. stmt.Simple a after) (ops-twice ops);
    jump = λ j ops. ap (λ after. stmt.Jump j after) (ops-twice ops);
    branch = λ c x y. ap (λ d. stmt.If d x y) (cond-twice c);
    loop = loop-twice;
  })

  function-twice : (f : Function) → strip_function m (strip_function m f) ≡ strip_function m f
  function-twice f =
      let with : List Op → List Stmt → Function = λ start body. record { name = f.name; kind = f.kind; params = f.params; start = start; body = body } in
      ap (λ start. with start (strip_all m (strip_all m f.body))) (ops-twice f.start) ∙ ap (λ body. with (old_ops m f.start) body) (body-twice f.body)

  functions-twice : (list : List Function) → strip_functions m (strip_functions m list) ≡ strip_functions m list
  functions-twice [] = refl
  functions-twice (f ∷ list) =
      ap (λ g. g ∷ strip_functions m (strip_functions m list)) (function-twice f)
      ∙ ap (λ more. strip_function m f ∷ more) (functions-twice list)

  pub strip-twice : (t : Tree) → strip_tree m (strip_tree m t) ≡ strip_tree m t
  strip-twice t =
      let with : List Function → List OrderId → Tree = λ functions starts. record { globals = t.globals; functions = functions; starts = starts } in
      ap (λ functions. with functions (old_of (is_new_start m) (old_of (is_new_start m) t.starts))) (functions-twice t.functions)
      ∙ ap (λ starts. with (strip_functions m t.functions) starts) (old-twice (is_new_start m) t.starts)
