-- Two folds over a statement, where the one gives at each level what `h` makes of what the other gives.
use Rattle.std.proofs.Common.{◌≡◌, List, [], ◌∷◌, map, subst, ap, sym, ◌∙◌, refl}
use Rattle.c_prog.specs.declared.stmt.Stmt.{Stmt}
use Rattle.c_prog.specs.declared.stmt.Stmt.TheViews.{roll-Stmt}
use Rattle.c_prog.specs.declared.stmt.Stmt.TheOpen.{Stmt-F}
use Rattle.c_prog.specs.declared.stmt.Stmt.TheFolds.{fold-Stmt, fold-roll-Stmt, ind-Stmt, map-Stmt}

module _ {A B : Type 0} (f : Stmt-F A → A) (g : Stmt-F B → B) (h : A → B) (fuses : (y : Stmt-F A) → g (map-Stmt A B h y) ≡ h (f y)) where
  abbrev Told : Stmt → Type 0
  Told s = fold-Stmt B g s ≡ h (fold-Stmt A f s)

  abbrev E : Type 0
  E = (s : Stmt) × Told s

  abbrev stmts : List E → List Stmt
  stmts es = map (λ e. e.0) es

  all-told : (es : List E) → map (fold-Stmt B g) (stmts es) ≡ map h (map (fold-Stmt A f) (stmts es))
  all-told [] = refl
  all-told (e ∷ es) = ap (λ b. b ∷ map (fold-Stmt B g) (stmts es)) e.1 ∙ ap (λ bs. h (fold-Stmt A f e.0) ∷ bs) (all-told es)

  -- what the statements inside give
  inside : (y : Stmt-F E)
      → map-Stmt Stmt B (fold-Stmt B g) (map-Stmt E Stmt (λ e. e.0) y)
      ≡ map-Stmt A B h (map-Stmt Stmt A (fold-Stmt A f) (map-Stmt E Stmt (λ e. e.0) y))
  inside (Stmt-F.Simple a ops) = refl
  inside (Stmt-F.Jump j ops) = refl
  inside (Stmt-F.If c x y) =
      ap (λ bs. Stmt-F.If c bs (map (fold-Stmt B g) (stmts y))) (all-told x)
      ∙ ap (λ bs. Stmt-F.If c (map h (map (fold-Stmt A f) (stmts x))) bs) (all-told y)
  inside (Stmt-F.Loop c s x) = ap (λ bs. Stmt-F.Loop c s bs) (all-told x)
  inside (Stmt-F.Block x) = ap (λ bs. Stmt-F.Block bs) (all-told x)

  level : (y : Stmt-F E) → Told (roll-Stmt (map-Stmt E Stmt (λ e. e.0) y))
  level y =
      let z : Stmt-F Stmt = map-Stmt E Stmt (λ e. e.0) y in
      fold-roll-Stmt B g z ∙ ap g (inside y) ∙ fuses (map-Stmt Stmt A (fold-Stmt A f) z) ∙ ap h (sym (fold-roll-Stmt A f z))

  -- the one fold by the other
  pub fused : (s : Stmt) → Told s
  fused = ind-Stmt Told (λ x y is. subst (λ z. Told (roll-Stmt z)) is (level y))

  -- and over statements
  pub all-fused : (list : List Stmt) → map (fold-Stmt B g) list ≡ map h (map (fold-Stmt A f) list)
  all-fused [] = refl
  all-fused (s ∷ list) = ap (λ b. b ∷ map (fold-Stmt B g) list) (fused s) ∙ ap (λ bs. h (fold-Stmt A f s) ∷ bs) (all-fused list)
