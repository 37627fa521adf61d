-- Folds over a statement without its new operations: what such a fold gives is told by a fold over the statement itself.
use Rattle.std.proofs.Common.{◌≡◌, List, [], ◌∷◌, map, Option, subst, refl, ap, sym, ◌∙◌}
use Rattle.cfix_base.specs.declared.mark.Marks.{Marks}
use Rattle.cfix_base.specs.declared.op.Op.{Op}
use Rattle.c_prog.specs.declared.act.Act.{Act}
use Rattle.c_prog.specs.declared.stmt.Cond.{Cond}
use Rattle.c_prog.specs.declared.stmt.Jump.{Jump}
use Rattle.c_prog.specs.declared.stmt.Step.{Step}
use Rattle.c_prog.specs.declared.stmt.Stmt.{Stmt}
use Rattle.c_prog.specs.declared.stmt.Stmt.TheVariants as stmt
use Rattle.c_prog.specs.declared.stmt.Stmt.TheViews.{roll-Stmt}
use Rattle.c_prog.specs.declared.stmt.Stmt.TheOpen.{Stmt-F}
use Rattle.c_prog.specs.declared.stmt.Stmt.TheFolds.{fold-Stmt, fold-roll-Stmt, ind-Stmt, map-Stmt}
use Rattle.c_prog.specs.Marks.{old_ops}
use Rattle.c_prog.specs.Strip.{strip, strip_all, strip_level, strip_cond, strip_step}

-- At each level, `g` after stripping gives what `h` makes of what `f` gives.
pub record Carries {A B : Type 0} (m : Marks) (f : Stmt-F A → A) (g : Stmt-F B → B) (h : A → B) : Type 0 where
  pub simple : (a : Act) (ops : List Op) → g (Stmt-F.Simple a (old_ops m ops)) ≡ h (f (Stmt-F.Simple a ops))
  pub jump : (j : Jump) (ops : List Op) → g (Stmt-F.Jump j (old_ops m ops)) ≡ h (f (Stmt-F.Jump j ops))
  pub branch : (c : Cond) (x y : List A) → g (Stmt-F.If (strip_cond m c) (map h x) (map h y)) ≡ h (f (Stmt-F.If c x y))
  pub loop : (c : Cond) (s : Option Step) (x : List A)
      → g (Stmt-F.Loop (strip_cond m c) (strip_step m s) (map h x)) ≡ h (f (Stmt-F.Loop c s x))
  pub block : (x : List A) → g (Stmt-F.Block (map h x)) ≡ h (f (Stmt-F.Block x))

module _ {A B : Type 0} (m : Marks) (f : Stmt-F A → A) (g : Stmt-F B → B) (h : A → B) (carries : Carries m f g h) where
  -- what is to hold of a statement
  abbrev Told : Stmt → Type 0
  Told s = fold-Stmt B g (strip m s) ≡ h (fold-Stmt A f s)

  -- a child with its proof
  abbrev E : Type 0
  E = (s : Stmt) × Told s

  abbrev stmts : List E → List Stmt
  stmts es = map (λ e. e.0) es

  all-told : (es : List E) → map (fold-Stmt B g) (strip_all m (stmts es)) ≡ map h (map (fold-Stmt A f) (stmts es))
  all-told [] = refl
  all-told (e ∷ es) =
      ap (λ b. b ∷ map (fold-Stmt B g) (strip_all m (stmts es))) e.1 ∙ ap (λ bs. h (fold-Stmt A f e.0) ∷ bs) (all-told es)

  -- a statement that is stripped, from its level
  at : (y : Stmt-F Stmt) (s : Stmt) (l : Stmt-F Stmt) → strip_level m (map-Stmt Stmt Stmt (strip m) y) ≡ s → s ≡ roll-Stmt l
      → fold-Stmt B g (strip m (roll-Stmt y)) ≡ g (map-Stmt Stmt B (fold-Stmt B g) l)
  at y s l is rolled =
      ap (fold-Stmt B g) (fold-roll-Stmt Stmt (strip_level m) y ∙ is ∙ rolled) ∙ fold-roll-Stmt B g l

  level : (y : Stmt-F E) → Told (roll-Stmt (map-Stmt E Stmt (λ e. e.0) y))
  level (Stmt-F.Simple a ops) =
      at (Stmt-F.Simple a ops) (stmt.Simple a (old_ops m ops)) (Stmt-F.Simple a (old_ops m ops)) refl (sym (stmt.rolls-Simple a (old_ops m ops)))
      ∙ carries.simple a ops ∙ ap h (sym (fold-roll-Stmt A f (Stmt-F.Simple a ops)))
  level (Stmt-F.Jump j ops) =
      at (Stmt-F.Jump j ops) (stmt.Jump j (old_ops m ops)) (Stmt-F.Jump j (old_ops m ops)) refl (sym (stmt.rolls-Jump j (old_ops m ops)))
      ∙ carries.jump j ops ∙ ap h (sym (fold-roll-Stmt A f (Stmt-F.Jump j ops)))
  level (Stmt-F.If c x y) =
      at (Stmt-F.If c (stmts x) (stmts y)) (stmt.If (strip_cond m c) (strip_all m (stmts x)) (strip_all m (stmts y)))
      (Stmt-F.If (strip_cond m c) (strip_all m (stmts x)) (strip_all m (stmts y))) refl
      (sym (stmt.rolls-If (strip_cond m c) (strip_all m (stmts x)) (strip_all m (stmts y))))
      ∙ ap (λ bs. g (Stmt-F.If (strip_cond m c) bs (map (fold-Stmt B g) (strip_all m (stmts y))))) (all-told x)
      ∙ ap (λ bs. g (Stmt-F.If (strip_cond m c) (map h (map (fold-Stmt A f) (stmts x))) bs)) (all-told y)
      ∙ carries.branch c (map (fold-Stmt A f) (stmts x)) (map (fold-Stmt A f) (stmts y))
      ∙ ap h (sym (fold-roll-Stmt A f (Stmt-F.If c (stmts x) (stmts y))))
  level (Stmt-F.Loop c s x) =
      at (Stmt-F.Loop c s (stmts x)) (stmt.Loop (strip_cond m c) (strip_step m s) (strip_all m (stmts x)))
      (Stmt-F.Loop (strip_cond m c) (strip_step m s) (strip_all m (stmts x))) refl
      (sym (stmt.rolls-Loop (strip_cond m c) (strip_step m s) (strip_all m (stmts x))))
      ∙ ap (λ bs. g (Stmt-F.Loop (strip_cond m c) (strip_step m s) bs)) (all-told x)
      ∙ carries.loop c s (map (fold-Stmt A f) (stmts x))
      ∙ ap h (sym (fold-roll-Stmt A f (Stmt-F.Loop c s (stmts x))))
  level (Stmt-F.Block x) =
      at (Stmt-F.Block (stmts x)) (stmt.Block (strip_all m (stmts x))) (Stmt-F.Block (strip_all m (stmts x))) refl
      (sym (stmt.rolls-Block (strip_all m (stmts x))))
      ∙ ap (λ bs. g (Stmt-F.Block bs)) (all-told x)
      ∙ carries.block (map (fold-Stmt A f) (stmts x))
      ∙ ap h (sym (fold-roll-Stmt A f (Stmt-F.Block (stmts x))))

  -- the fold over a stripped statement
  pub strip-fold : (s : Stmt) → Told s
  strip-fold = ind-Stmt Told (λ x y is. subst (λ z. Told (roll-Stmt z)) is (level y))

  -- and over stripped statements
  pub strip-folds : (list : List Stmt) → map (fold-Stmt B g) (strip_all m list) ≡ map h (map (fold-Stmt A f) list)
  strip-folds [] = refl
  strip-folds (s ∷ list) =
      ap (λ b. b ∷ map (fold-Stmt B g) (strip_all m list)) (strip-fold s)
      ∙ ap (λ bs. h (fold-Stmt A f s) ∷ bs) (strip-folds list)

-- A level that looks at no operation.
pub record Ignores {A : Type 0} (m : Marks) (f : Stmt-F A → A) : Type 0 where
  pub simple : (a : Act) (ops : List Op) → f (Stmt-F.Simple a (old_ops m ops)) ≡ f (Stmt-F.Simple a ops)
  pub jump : (j : Jump) (ops : List Op) → f (Stmt-F.Jump j (old_ops m ops)) ≡ f (Stmt-F.Jump j ops)
  pub branch : (c : Cond) (x y : List A) → f (Stmt-F.If (strip_cond m c) x y) ≡ f (Stmt-F.If c x y)
  pub loop : (c : Cond) (s : Option Step) (x : List A) → f (Stmt-F.Loop (strip_cond m c) (strip_step m s) x) ≡ f (Stmt-F.Loop c s x)

map-same : {A : Type 0} (x : List A) → map (λ a. a) x ≡ x
map-same [] = refl
map-same (a ∷ x) = ap (λ rest. a ∷ rest) (map-same x)

carries-ignored : {A : Type 0} (m : Marks) (f : Stmt-F A → A) → Ignores m f → Carries m f f (λ a. a)
carries-ignored {A} m f ignores = record {
  simple = ignores.simple;
  jump = ignores.jump;
  branch = λ c x y.
      ap (λ xs. f (Stmt-F.If (strip_cond m c) xs (map (λ a. a) y))) (map-same x)
      ∙ ap (λ ys. f (Stmt-F.If (strip_cond m c) x ys)) (map-same y) ∙ ignores.branch c x y;
  loop = λ c s x. ap (λ xs. f (Stmt-F.Loop (strip_cond m c) (strip_step m s) xs)) (map-same x) ∙ ignores.loop c s x;
  block = λ x. ap (λ xs. f (Stmt-F.Block xs)) (map-same x);
}

-- a fold that looks at no operation gives the same over stripped statements
pub strip-ignored : {A : Type 0} (m : Marks) (f : Stmt-F A → A) → Ignores m f
    → (list : List Stmt) → map (fold-Stmt A f) (strip_all m list) ≡ map (fold-Stmt A f) list
strip-ignored {A} m f ignores list =
    strip-folds m f f (λ a. a) (carries-ignored m f ignores) list ∙ map-same (map (fold-Stmt A f) list)
