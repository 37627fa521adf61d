-- A program is patched exactly where it changes without its operations, all of which are new by the marks 0 and 0.
use Rattle.std.proofs.Common.{◌≡◌, Bool, true, false, ◌||◌, List, [], ◌∷◌, map, Option, Some, None, subst, refl, ap, sym, ◌∙◌, true≢false}
use Rattle.std.proofs.Math.Dec.{leb-zero}
use Rattle.cfix_base.specs.declared.mark.Marks.{Marks}
use Rattle.cfix_base.specs.declared.op.Op.{Op}
use Rattle.cfix_base.specs.declared.op.Op.TheVariants.{Leave, First, Done, Wait, Enter, Add}
use Rattle.cfix_base.specs.declared.number.OrderId.{OrderId}
use Rattle.c_prog.specs.declared.act.Act.{Act}
use Rattle.c_prog.specs.declared.function.Function.{Function}
use Rattle.c_prog.specs.declared.stmt.Cond.{Cond}
use Rattle.c_prog.specs.declared.stmt.Jump.{Jump}
use Rattle.c_prog.specs.declared.stmt.Step.{Step}
use Rattle.c_prog.specs.declared.stmt.Stmt.{Stmt}
use Rattle.c_prog.specs.declared.stmt.Stmt.TheVariants as stmt
use Rattle.c_prog.specs.declared.stmt.Stmt.TheViews.{roll-Stmt}
use Rattle.c_prog.specs.declared.stmt.Stmt.TheOpen.{Stmt-F}
use Rattle.c_prog.specs.declared.stmt.Stmt.TheFolds.{ind-Stmt, map-Stmt}
use Rattle.c_prog.specs.declared.tree.Tree.{Tree}
use Rattle.c_prog.specs.Marks.{is_new, is_new_start, keep_old, old_of, old_ops, all_new}
use Rattle.c_prog.specs.Patched.{has_some, any_true, cond_patched, step_patched, patched, patched_of, patched_level, function_patched, functions_patched, tree_patched}
use Rattle.c_prog.specs.Strip.{strip, strip_all, strip_cond, strip_step, strip_function, strip_functions, strip_tree}
use Rattle.c_prog.proofs.Equations.{patched-Simple, patched-Jump, patched-If, patched-Loop, patched-Block, strip-Simple, strip-Jump, strip-If, strip-Loop, strip-Block}
use Rattle.c_marks.proofs.StripFolds.{strip-folds}

-- What is stripped of all operations has none.

all-are-new : (op : Op) → is_new all_new op ≡ true
all-are-new (Leave k) = leb-zero k.number
all-are-new (First j) = leb-zero j.number
all-are-new (Done j) = leb-zero j.number
all-are-new (Wait j) = leb-zero j.number
all-are-new (Enter k) = leb-zero k.number
all-are-new (Add j) = leb-zero j.number

none-old : {A : Type 0} (new : A → Bool) → ((x : A) → new x ≡ true) → (list : List A) → old_of new list ≡ []
none-old new all [] = refl
none-old new all (x ∷ list) = ap (λ b. keep_old b x (old_of new list)) (all x) ∙ none-old new all list

pub no-old : (ops : List Op) → old_ops all_new ops ≡ []
no-old ops = none-old (is_new all_new) all-are-new ops

pub no-old-start : (starts : List OrderId) → old_of (is_new_start all_new) starts ≡ []
no-old-start starts = none-old (is_new_start all_new) (λ j. leb-zero j.number) starts

no-ops : (ops : List Op) → has_some (old_ops all_new ops) ≡ false
no-ops ops = ap has_some (no-old ops)

no-cond : (c : Cond) → cond_patched (strip_cond all_new c) ≡ false
no-cond c = ap (λ b. b || has_some (old_ops all_new c.on_false)) (no-ops c.on_true) ∙ no-ops c.on_false

no-step : (s : Option Step) → step_patched (strip_step all_new s) ≡ false
no-step None = refl
no-step (Some s) = no-ops s.after

none-true : (x : List Bool) → any_true (map (λ b. false) x) ≡ false
none-true [] = refl
none-true (b ∷ x) = none-true x

none-in-branch : (c : Cond) (x y : List Bool)
    → (cond_patched (strip_cond all_new c) || any_true (map (λ b. false) x) || any_true (map (λ b. false) y)) ≡ false
none-in-branch c x y =
    ap (λ b. b || any_true (map (λ d. false) x) || any_true (map (λ d. false) y)) (no-cond c)
    ∙ ap (λ b. b || any_true (map (λ d. false) y)) (none-true x) ∙ none-true y

none-in-loop : (c : Cond) (s : Option Step) (x : List Bool)
    → (cond_patched (strip_cond all_new c) || step_patched (strip_step all_new s) || any_true (map (λ b. false) x)) ≡ false
none-in-loop c s x =
    ap (λ b. b || step_patched (strip_step all_new s) || any_true (map (λ d. false) x)) (no-cond c)
    ∙ ap (λ b. b || any_true (map (λ d. false) x)) (no-step s) ∙ none-true x

stripped-none : (list : List Stmt) → patched_of (strip_all all_new list) ≡ false
stripped-none list =
    ap any_true (strip-folds all_new patched_level patched_level (λ b. false) (record {
      simple = λ a ops. no-ops ops;
      jump = λ j ops. no-ops ops;
      branch = none-in-branch;
      loop = none-in-loop;
      block = none-true;
    }) list) ∙ none-true (map patched list)

stripped-functions : (list : List Function) → functions_patched (strip_functions all_new list) ≡ false
stripped-functions [] = refl
stripped-functions (f ∷ list) =
    ap (λ b. (b || patched_of (strip_all all_new f.body)) || functions_patched (strip_functions all_new list)) (no-ops f.start)
    ∙ ap (λ b. b || functions_patched (strip_functions all_new list)) (stripped-none f.body) ∙ stripped-functions list

-- What has no operation stays as it is, by any marks.

left-false : (a b : Bool) → (a || b) ≡ false → a ≡ false
left-false false b is = refl
left-false true b is = is

right-false : (a b : Bool) → (a || b) ≡ false → b ≡ false
right-false false b is = is
right-false true b is = absurd (true≢false is)

stays-empty : {A : Type 0} (new : A → Bool) (list : List A) → has_some list ≡ false → old_of new list ≡ list
stays-empty new [] is = refl
stays-empty new (x ∷ list) is = absurd (true≢false is)

module _ (m : Marks) where
  ops-stay : (ops : List Op) → has_some ops ≡ false → old_ops m ops ≡ ops
  ops-stay ops is = stays-empty (is_new m) ops is

  abbrev Stays : Stmt → Type 0
  Stays s = patched s ≡ false → strip m s ≡ s

  abbrev E : Type 0
  E = (s : Stmt) × Stays s

  abbrev stmts : List E → List Stmt
  stmts es = map (λ e. e.0) es

  all-stay : (es : List E) → patched_of (stmts es) ≡ false → strip_all m (stmts es) ≡ stmts es
  all-stay [] is = refl
  all-stay (e ∷ es) is =
      ap (λ s. s ∷ strip_all m (stmts es)) (e.1 (left-false (patched e.0) (patched_of (stmts es)) is))
      ∙ ap (λ more. e.0 ∷ more) (all-stay es (right-false (patched e.0) (patched_of (stmts es)) is))

  cond-stays : (c : Cond) → cond_patched c ≡ false → strip_cond m c ≡ c
  cond-stays c is =
      let f : List Op → List Op → Cond = λ on_true on_false. record { test = c.test; on_true = on_true; on_false = on_false } in
      ap (λ ops. f ops (old_ops m c.on_false)) (ops-stay c.on_true (left-false (has_some c.on_true) (has_some c.on_false) is))
      ∙ ap (λ ops. f c.on_true ops) (ops-stay c.on_false (right-false (has_some c.on_true) (has_some c.on_false) is))

  step-stays : (s : Option Step) → step_patched s ≡ false → strip_step m s ≡ s
  step-stays None is = refl
  step-stays (Some s) is =
      let f : List Op → Option Step = λ after. Some (record { act = s.act; after = after }) in
      ap f (ops-stay s.after is)

  simple-stays : (a : Act) (ops : List Op) → Stays (stmt.Simple a ops)
  simple-stays a ops = λ is.
      strip-Simple m a ops ∙ ap (λ after. stmt.Simple a after) (ops-stay ops (sym (patched-Simple a ops) ∙ is))

  jump-stays : (j : Jump) (ops : List Op) → Stays (stmt.Jump j ops)
  jump-stays j ops = λ is.
      strip-Jump m j ops ∙ ap (λ after. stmt.Jump j after) (ops-stay ops (sym (patched-Jump j ops) ∙ is))

  branch-stays : (c : Cond) (x y : List E) → Stays (stmt.If c (stmts x) (stmts y))
  branch-stays c x y = λ is.
      let whole : (cond_patched c || patched_of (stmts x) || patched_of (stmts y)) ≡ false = sym (patched-If c (stmts x) (stmts y)) ∙ is in
      let front : (cond_patched c || patched_of (stmts x)) ≡ false = left-false (cond_patched c || patched_of (stmts x)) (patched_of (stmts y)) whole in
      let back : patched_of (stmts y) ≡ false = right-false (cond_patched c || patched_of (stmts x)) (patched_of (stmts y)) whole in
      strip-If m c (stmts x) (stmts y)
      ∙ ap (λ d. stmt.If d (strip_all m (stmts x)) (strip_all m (stmts y))) (cond-stays c (left-false (cond_patched c) (patched_of (stmts x)) front))
      ∙ ap (λ more. stmt.If c more (strip_all m (stmts y))) (all-stay x (right-false (cond_patched c) (patched_of (stmts x)) front))
      ∙ ap (λ more. stmt.If c (stmts x) more) (all-stay y back)

  loop-stays : (c : Cond) (s : Option Step) (x : List E) → Stays (stmt.Loop c s (stmts x))
  loop-stays c s x = λ is.
      let whole : (cond_patched c || step_patched s || patched_of (stmts x)) ≡ false = sym (patched-Loop c s (stmts x)) ∙ is in
      let front : (cond_patched c || step_patched s) ≡ false = left-false (cond_patched c || step_patched s) (patched_of (stmts x)) whole in
      let back : patched_of (stmts x) ≡ false = right-false (cond_patched c || step_patched s) (patched_of (stmts x)) whole in
      strip-Loop m c s (stmts x)
      ∙ ap (λ d. stmt.Loop d (strip_step m s) (strip_all m (stmts x))) (cond-stays c (left-false (cond_patched c) (step_patched s) front))
      ∙ ap (λ t. stmt.Loop c t (strip_all m (stmts x))) (step-stays s (right-false (cond_patched c) (step_patched s) front))
      ∙ ap (λ more. stmt.Loop c s more) (all-stay x back)

  block-stays : (x : List E) → Stays (stmt.Block (stmts x))
  block-stays x = λ is.
      strip-Block m (stmts x) ∙ ap (λ more. stmt.Block more) (all-stay x (sym (patched-Block (stmts x)) ∙ is))

  level : (y : Stmt-F E) → Stays (roll-Stmt (map-Stmt E Stmt (λ e. e.0) y))
  level (Stmt-F.Simple a ops) = subst Stays (sym (stmt.rolls-Simple a ops)) (simple-stays a ops)
  level (Stmt-F.Jump j ops) = subst Stays (sym (stmt.rolls-Jump j ops)) (jump-stays j ops)
  level (Stmt-F.If c x y) = subst Stays (sym (stmt.rolls-If c (stmts x) (stmts y))) (branch-stays c x y)
  level (Stmt-F.Loop c s x) = subst Stays (sym (stmt.rolls-Loop c s (stmts x))) (loop-stays c s x)
  level (Stmt-F.Block x) = subst Stays (sym (stmt.rolls-Block (stmts x))) (block-stays x)

  stays : (s : Stmt) → Stays s
  stays = ind-Stmt Stays (λ x y is. subst (λ z. Stays (roll-Stmt z)) is (level y))

  body-stays : (list : List Stmt) → patched_of list ≡ false → strip_all m list ≡ list
  body-stays [] is = refl
  body-stays (s ∷ list) is =
      ap (λ t. t ∷ strip_all m list) (stays s (left-false (patched s) (patched_of list) is))
      ∙ ap (λ more. s ∷ more) (body-stays list (right-false (patched s) (patched_of list) is))

  function-stays : (f : Function) → function_patched f ≡ false → strip_function m f ≡ f
  function-stays f is =
      let with : List Op → List Stmt → Function = λ start body. record { name = f.name; kind = f.kind; params = f.params; start = start; body = body } in
      ap (λ start. with start (strip_all m f.body)) (ops-stay f.start (left-false (has_some f.start) (patched_of f.body) is))
      ∙ ap (λ body. with f.start body) (body-stays f.body (right-false (has_some f.start) (patched_of f.body) is))

  functions-stay : (list : List Function) → functions_patched list ≡ false → strip_functions m list ≡ list
  functions-stay [] is = refl
  functions-stay (f ∷ list) is =
      ap (λ g. g ∷ strip_functions m list) (function-stays f (left-false (function_patched f) (functions_patched list) is))
      ∙ ap (λ more. f ∷ more) (functions-stay list (right-false (function_patched f) (functions_patched list) is))

  -- a program that is not patched is as it is when stripped
  pub unpatched-stays : (t : Tree) → tree_patched t ≡ false → strip_tree m t ≡ t
  unpatched-stays t is =
      let with : List Function → List OrderId → Tree = λ functions starts. record { globals = t.globals; functions = functions; starts = starts } in
      ap (λ functions. with functions (old_of (is_new_start m) t.starts)) (functions-stay t.functions (right-false (has_some t.starts) (functions_patched t.functions) is))
      ∙ ap (λ starts. with t.functions starts) (stays-empty (is_new_start m) t.starts (left-false (has_some t.starts) (functions_patched t.functions) is))

-- a program that is as it is without its operations is not patched
pub stays-unpatched : (t : Tree) → strip_tree all_new t ≡ t → tree_patched t ≡ false
stays-unpatched t is =
    sym (ap tree_patched is)
    ∙ ap (λ starts. has_some starts || functions_patched (strip_functions all_new t.functions)) (no-old-start t.starts)
    ∙ stripped-functions t.functions
