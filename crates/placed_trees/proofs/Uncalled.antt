-- In a valid program no node calls main or the function of a thread.
use Rattle.std.proofs.Common.{◌≡◌, ℕ, zero, suc, ◌+◌, Bool, true, false, not, ◌==◌, ◌&&◌, ◌||◌, List, [], ◌∷◌, ◌++◌, map, length, slice_get, Option, Some, None, if◌then◌else◌, refl, sym, ap, ◌∙◌, subst, arith}
use Rattle.std.specs.Prelude.{option_map}
use Rattle.std.specs.List.{list_all, list_any}
use Rattle.std.proofs.lemmas.Bool.{eqb-true}
use Rattle.std.proofs.lemmas.Option.{slice_get-map}
use Rattle.cfix_base.specs.declared.number.FnId.{FnId}
use Rattle.c_prog.specs.declared.act.Act.{Act}
use Rattle.c_prog.specs.declared.act.Act.TheVariants as form
use Rattle.c_prog.specs.declared.act.CallForm.{CallForm}
use Rattle.c_prog.specs.declared.act.How.{How}
use Rattle.c_prog.specs.declared.act.How.TheVariants as how
use Rattle.c_prog.specs.declared.act.LocalKind.{LocalKind}
use Rattle.c_prog.specs.declared.act.LocalKind.TheVariants as local_kind
use Rattle.c_prog.specs.declared.act.Value.{Value}
use Rattle.c_prog.specs.declared.act.Value.TheVariants as value
use Rattle.c_prog.specs.declared.function.Function.{Function}
use Rattle.c_prog.specs.declared.stmt.Jump.{Jump}
use Rattle.c_prog.specs.declared.stmt.Jump.TheVariants.{Break, Continue, Return, ReturnNull, ReturnValue}
use Rattle.c_prog.specs.declared.stmt.Step.{Step}
use Rattle.c_prog.specs.declared.stmt.Stmt.{Stmt}
use Rattle.c_prog.specs.declared.stmt.Stmt.TheVariants as stmt
use Rattle.c_prog.specs.declared.stmt.Stmt.TheViews.{roll-Stmt}
use Rattle.c_prog.specs.declared.stmt.Stmt.TheOpen.{Stmt-F}
use Rattle.c_prog.specs.declared.stmt.Stmt.TheFolds.{fold-roll-Stmt, ind-Stmt, map-Stmt}
use Rattle.c_prog.specs.declared.tree.Tree.{Tree}
use Rattle.c_prog.specs.Calls.{value_callee, act_callee, jump_callee, callee, act_created, created}
use Rattle.c_prog.specs.Order.{Node, order, order_of, step_order, function_order, functions_order, tree_order}
use Rattle.c_prog.specs.Valid.{IsValid}
use Rattle.c_prog.specs.Valid.Scope.{Scope}
use Rattle.c_prog.specs.Valid.Kinds.{File, Signature, local_var_kind, file_of, signature_of, function_seen}
use Rattle.c_prog.specs.Valid.Scope.{is_hidden, is_in_block, declared}
use Rattle.c_prog.specs.Valid.Expressions.{is_main_name, is_thread_kind, is_callable, is_thread_function, is_valid_call, is_valid_value}
use Rattle.c_prog.specs.Valid.Acts.{is_declared_name, is_valid_kind, is_valid_act, is_valid_initial, is_valid_assigned}
use Rattle.c_prog.specs.Valid.Statements.{Around, Part, is_valid_jump, is_valid_step, all_valid, after, stmt_rules, part_of, parts_of}
use Rattle.c_prog.specs.Valid.Functions.{are_declared_names, is_valid_count, is_valid_body, is_valid_end, is_valid_function, body_around, body_scope, is_main}
use Rattle.c_prog.proofs.Equations.{order-Simple, order-Jump, order-If, order-Loop, order-Block}
use Rattle.step_state.specs.Items.{main_of, or_next}
use Rattle.placed_trees.specs.Coming.{RootsUncalled}
use Rattle.layout_laws.specs.TreeLayout.{number_if, callee_if, is_number, some_creates, layout_of}

left : (a b : Bool) → a && b ≡ true → a ≡ true
left true b e = refl
left false b e = e

right : (a b : Bool) → a && b ≡ true → b ≡ true
right true b e = e
right false b e = cc

later : (a b c : Bool) → a && b && c ≡ true → (b ≡ true) × (c ≡ true)
later true true c e = (refl, e)
later true false c e = cc
later false b c e = cc

last4 : (a b c d : Bool) → a && b && c && d ≡ true → d ≡ true
last4 true true true d e = e
last4 true true false d e = cc
last4 true false c d e = cc
last4 false b c d e = cc

third4 : (a b c d : Bool) → a && b && c && d ≡ true → c ≡ true
third4 a b true d e = refl
third4 true true false d e = cc
third4 true false false d e = cc
third4 false b false d e = cc

neither : (a b c : Bool) → not a && not b && c ≡ true → (a ≡ false) × (b ≡ false)
neither false false c e = (refl, refl)
neither false true c e = cc
neither true b c e = cc

module _ (F : File) where
  abbrev Callable : FnId → Type 0
  Callable g = (sig : Signature) × (slice_get F.functions g.number ≡ Some sig) × (is_main_name sig.name ≡ false) × (is_thread_kind sig.kind ≡ false)

  abbrev Threaded : FnId → Type 0
  Threaded g = (sig : Signature) × (slice_get F.functions g.number ≡ Some sig) × (is_thread_kind sig.kind ≡ true)

  abbrev AsCallable : Option FnId → Type 0
  AsCallable None = Unit {0}
  AsCallable (Some g) = Callable g

  abbrev AsThread : Option FnId → Type 0
  AsThread None = Unit {0}
  AsThread (Some g) = Threaded g

  abbrev Good : Node → Type 0
  Good w = AsCallable (callee w) × AsThread (created w)

  abbrev AllGood : List Node → Type 0
  AllGood [] = Unit {0}
  AllGood (w ∷ ws) = Good w × AllGood ws

  good_append : (a b : List Node) → AllGood a → AllGood b → AllGood (a ++ b)
  good_append [] b h k = k
  good_append (w ∷ a) b h k = (h.0, good_append a b h.1 k)

  callable : (scope : Scope) (args : ℕ) (o : Option Signature) → is_callable args (function_seen scope o) ≡ true
      → (sig : Signature) × (o ≡ Some sig) × (is_main_name sig.name ≡ false) × (is_thread_kind sig.kind ≡ false)
  callable scope args None e = cc
  callable scope args (Some sig) e = seen (is_hidden sig.name scope) e
    where
      seen : (b : Bool) → is_callable args (if b then None else Some sig) ≡ true
          → (s : Signature) × (Some sig ≡ Some s) × (is_main_name s.name ≡ false) × (is_thread_kind s.kind ≡ false)
      seen true e = cc
      seen false e = let h = neither (is_main_name sig.name) (is_thread_kind sig.kind) (sig.params == args) e in (sig, refl, h.0, h.1)

  threaded : (scope : Scope) (o : Option Signature) → is_thread_function (function_seen scope o) ≡ true
      → (sig : Signature) × (o ≡ Some sig) × (is_thread_kind sig.kind ≡ true)
  threaded scope None e = cc
  threaded scope (Some sig) e = seen (is_hidden sig.name scope) e
    where
      seen : (b : Bool) → is_thread_function (if b then None else Some sig) ≡ true → (s : Signature) × (Some sig ≡ Some s) × (is_thread_kind s.kind ≡ true)
      seen true e = cc
      seen false e = (sig, refl, e)

  call_good : (scope : Scope) (c : CallForm) → is_valid_call F scope c ≡ true → Callable c.of
  call_good scope c e = callable scope (length c.args) (slice_get F.functions c.of.number) (left _ _ e)

  value_good : (scope : Scope) (v : Value) → is_valid_value F scope v ≡ true → AsCallable (value_callee v)
  value_good scope (value.Expr x) e = tt
  value_good scope (value.Call c) e = call_good scope c (left _ _ e)

  initial_good : (scope : Scope) (kind : LocalKind) (v : Value) → is_valid_initial F scope kind (Some v) ≡ true → AsCallable (value_callee v)
  initial_good scope local_kind.Int v e = value_good scope v e
  initial_good scope (local_kind.IntArray n) v e = cc
  initial_good scope local_kind.Thread v e = cc
  initial_good scope (local_kind.ThreadArray n) v e = cc

  assigned_good : (scope : Scope) (h : How) (v : Value) → is_valid_assigned F scope h v ≡ true → AsCallable (value_callee v)
  assigned_good scope h (value.Expr x) e = tt
  assigned_good scope how.Set (value.Call c) e = value_good scope (value.Call c) e
  assigned_good scope how.Add (value.Call c) e = cc
  assigned_good scope how.Sub (value.Call c) e = cc
  assigned_good scope how.Mul (value.Call c) e = cc
  assigned_good scope how.Div (value.Call c) e = cc
  assigned_good scope how.Rem (value.Call c) e = cc

  act_good : (scope : Scope) (a : Act) → is_valid_act F scope a ≡ true → AsCallable (act_callee a) × AsThread (act_created a)
  act_good scope (form.Declare name kind None) e = (tt, tt)
  act_good scope (form.Declare name kind (Some v)) e = (
    initial_good (declared name (local_var_kind kind) scope) kind v
        (last4 (is_declared_name name) (not (is_in_block name scope)) (is_valid_kind kind) (is_valid_initial F (declared name (local_var_kind kind) scope) kind (Some v)) e),
    tt,
  )
  act_good scope (form.Assign t h v) e = (assigned_good scope h v (right _ _ e), tt)
  act_good scope (form.Up t) e = (tt, tt)
  act_good scope (form.Down t) e = (tt, tt)
  act_good scope (form.Call c) e = (call_good scope c e, tt)
  act_good scope (form.Create t of arg) e = (tt, threaded scope (slice_get F.functions of.number) (later _ _ _ e).0)
  act_good scope (form.Join t) e = (tt, tt)
  act_good scope (form.Lock v) e = (tt, tt)
  act_good scope (form.Unlock v) e = (tt, tt)
  act_good scope (form.Print text args) e = (tt, tt)
  act_good scope (form.Scan t) e = (tt, tt)
  act_good scope (form.Wait c m) e = (tt, tt)
  act_good scope (form.Signal c) e = (tt, tt)
  act_good scope (form.Broadcast c) e = (tt, tt)

  jump_good : (around : Around) (scope : Scope) (j : Jump) → is_valid_jump F around scope j ≡ true → AsCallable (jump_callee j)
  jump_good around scope Break e = tt
  jump_good around scope Continue e = tt
  jump_good around scope Return e = tt
  jump_good around scope ReturnNull e = tt
  jump_good around scope (ReturnValue v) e = value_good scope v (right _ _ e)

  step_good : (scope : Scope) (s : Option Step) → is_valid_step F scope s ≡ true → AllGood (step_order s)
  step_good scope None e = tt
  step_good scope (Some s) e = (act_good scope s.act (right _ _ e), tt)

  abbrev Keeps : Stmt → Type 0
  Keeps s = (around : Around) (scope : Scope) → (part_of F s).is_valid around scope ≡ true → AllGood (order s)

  abbrev E : Type 0
  E = (s : Stmt) × Keeps s

  abbrev stmts : List E → List Stmt
  stmts es = map (λ e. e.0) es

  all_good : (es : List E) (around : Around) (scope : Scope) → all_valid (parts_of F (stmts es)) around scope ≡ true → AllGood (order_of (stmts es))
  all_good [] around scope h = tt
  all_good (e ∷ es) around scope h =
      good_append (order e.0) (order_of (stmts es)) (e.1 around scope (left _ _ h)) (all_good es around (after (part_of F e.0) scope) (right _ _ h))

  level : (y : Stmt-F E) → Keeps (roll-Stmt (map-Stmt E Stmt (λ e. e.0) y))
  level (Stmt-F.Simple a ops) around scope h =
      subst AllGood (sym (ap order (stmt.rolls-Simple a ops) ∙ order-Simple a ops))
      (act_good scope a (sym (ap (λ p. p.is_valid around scope) (fold-roll-Stmt Part (stmt_rules F) (Stmt-F.Simple a ops))) ∙ h), tt)
  level (Stmt-F.Jump j ops) around scope h =
      subst AllGood (sym (ap order (stmt.rolls-Jump j ops) ∙ order-Jump j ops))
      ((jump_good around scope j (sym (ap (λ p. p.is_valid around scope) (fold-roll-Stmt Part (stmt_rules F) (Stmt-F.Jump j ops))) ∙ h), tt), tt)
  level (Stmt-F.If c x y) around scope h =
      let both = later _ _ _ (sym (ap (λ p. p.is_valid around scope) (fold-roll-Stmt Part (stmt_rules F) (Stmt-F.If c (stmts x) (stmts y)))) ∙ h) in
      subst AllGood (sym (ap order (stmt.rolls-If c (stmts x) (stmts y)) ∙ order-If c (stmts x) (stmts y)))
      ((tt, tt), good_append (order_of (stmts x)) (order_of (stmts y)) (all_good x _ _ both.0) (all_good y _ _ both.1))
  level (Stmt-F.Loop c s x) around scope h =
      let both = later _ _ _ (sym (ap (λ p. p.is_valid around scope) (fold-roll-Stmt Part (stmt_rules F) (Stmt-F.Loop c s (stmts x)))) ∙ h) in
      subst AllGood (sym (ap order (stmt.rolls-Loop c s (stmts x)) ∙ order-Loop c s (stmts x)))
      ((tt, tt), good_append (step_order s) (order_of (stmts x)) (step_good scope s both.0) (all_good x _ _ both.1))
  level (Stmt-F.Block x) around scope h =
      subst AllGood (sym (ap order (stmt.rolls-Block (stmts x)) ∙ order-Block (stmts x)))
      (all_good x _ _ (sym (ap (λ p. p.is_valid around scope) (fold-roll-Stmt Part (stmt_rules F) (Stmt-F.Block (stmts x)))) ∙ h))

  stmt_good : (s : Stmt) → Keeps s
  stmt_good = ind-Stmt Keeps (λ x y is. subst (λ z. Keeps (roll-Stmt z)) is (level y))

  list_good : (list : List Stmt) (around : Around) (scope : Scope) → all_valid (parts_of F list) around scope ≡ true → AllGood (order_of list)
  list_good [] around scope h = tt
  list_good (s ∷ list) around scope h =
      good_append (order s) (order_of list) (stmt_good s around scope (left _ _ h)) (list_good list around (after (part_of F s) scope) (right _ _ h))

  body_valid : (f : Function) → is_valid_function F f ≡ true → is_valid_body F f ≡ true
  body_valid f e = third4 (are_declared_names f.params) (is_valid_count f.kind (length f.params)) (is_valid_body F f) (is_valid_end f) e

  functions_good : (fs : List Function) → list_all (is_valid_function F) fs ≡ true → AllGood (functions_order fs)
  functions_good [] h = tt
  functions_good (f ∷ fs) h =
      good_append (function_order f) (functions_order fs) (list_good f.body (body_around f) (body_scope f) (body_valid f (left (is_valid_function F f) (list_all (is_valid_function F) fs) h)))
      (functions_good fs (right (is_valid_function F f) (list_all (is_valid_function F) fs) h))

  good_at : (ws : List Node) (n : ℕ) (g : ℕ) → AllGood ws → callee_if (slice_get ws n) ≡ Some g
      → (sig : Signature) × (slice_get F.functions g ≡ Some sig) × (is_main_name sig.name ≡ false) × (is_thread_kind sig.kind ≡ false)
  good_at [] n g h e = cc
  good_at (w ∷ ws) zero g h e = by (callee w) h.0.0 e
    where
      by : (o : Option FnId) → AsCallable o → number_if o ≡ Some g
          → (sig : Signature) × (slice_get F.functions g ≡ Some sig) × (is_main_name sig.name ≡ false) × (is_thread_kind sig.kind ≡ false)
      by None k e = cc
      by (Some f) k e = let same : f.number ≡ g = cc in (k.0, ap (slice_get F.functions) (sym same) ∙ k.1, k.2, k.3)
  good_at (w ∷ ws) (suc n) g h e = good_at ws n g h.1 e

  good_created : (ws : List Node) (g : ℕ) → AllGood ws → some_creates ws g ≡ true
      → (sig : Signature) × (slice_get F.functions g ≡ Some sig) × (is_thread_kind sig.kind ≡ true)
  good_created [] g h e = cc
  good_created (w ∷ ws) g h e = by (created w) h.0.1 (good_created ws g h.1) e
    where
      here : (f : FnId) → Threaded f → (b : Bool) → (f.number == g) ≡ b → (some_creates ws g ≡ true → (sig : Signature) × (slice_get F.functions g ≡ Some sig) × (is_thread_kind sig.kind ≡ true))
          → b || some_creates ws g ≡ true → (sig : Signature) × (slice_get F.functions g ≡ Some sig) × (is_thread_kind sig.kind ≡ true)
      here f k true same more e = (k.0, ap (slice_get F.functions) (sym (eqb-true f.number g same)) ∙ k.1, k.2)
      here f k false same more e = more e

      by : (o : Option FnId) → AsThread o → (some_creates ws g ≡ true → (sig : Signature) × (slice_get F.functions g ≡ Some sig) × (is_thread_kind sig.kind ≡ true))
          → is_number (number_if o) g || some_creates ws g ≡ true → (sig : Signature) × (slice_get F.functions g ≡ Some sig) × (is_thread_kind sig.kind ≡ true)
      by None k more e = more e
      by (Some f) k more e = here f k (f.number == g) refl more e

-- main has the name of main
main_at : (fs : List Function) → list_any is_main fs ≡ true → (f : Function) × (slice_get fs (main_of fs) ≡ Some f) × (is_main_name f.name ≡ true)
main_at [] e = cc
main_at (f ∷ fs) e = by (is_main f) refl (main_at fs) e
  where
    by : (b : Bool) → is_main f ≡ b → (list_any is_main fs ≡ true → (h : Function) × (slice_get fs (main_of fs) ≡ Some h) × (is_main_name h.name ≡ true))
        → b || list_any is_main fs ≡ true → (h : Function) × (slice_get (f ∷ fs) (or_next b (main_of fs)) ≡ Some h) × (is_main_name h.name ≡ true)
    by true is more e = (f, refl, name (is_main_name f.name) _ _ is)
      where
        name : (a b c : Bool) → a && b && c ≡ true → a ≡ true
        name true b c e = refl
        name false b c e = cc
    by false is more e = let h = more e in let same : suc (main_of fs) ≡ main_of fs + 1 = omega arith in (h.0, ap (slice_get (f ∷ fs)) (sym same) ∙ h.1, h.2)

apart : {A : Type 0} → true ≡ false → A
apart e = cc

pub roots_uncalled : (tree : Tree) → IsValid tree → RootsUncalled (layout_of tree)
roots_uncalled tree valid n g calls is =
    let F = file_of tree in
    let good = functions_good F tree.functions valid.functions in
    let called = good_at F (tree_order tree) n g good calls in
    by F called good (g == main_of tree.functions) refl is
  where
    by : (F : File) (called : (sig : Signature) × (slice_get (file_of tree).functions g ≡ Some sig) × (is_main_name sig.name ≡ false) × (is_thread_kind sig.kind ≡ false))
        → AllGood (file_of tree) (tree_order tree) → (b : Bool) → (g == main_of tree.functions) ≡ b → b || some_creates (tree_order tree) g ≡ true → ⊥
    by F called good true same is =
        let main = main_at tree.functions valid.has_main in
        let at : slice_get (map signature_of tree.functions) g ≡ Some (signature_of main.0) =
        slice_get-map signature_of tree.functions g ∙ ap (option_map signature_of) (ap (slice_get tree.functions) (eqb-true g (main_of tree.functions) same) ∙ main.1) in
        let both : Some (signature_of main.0) ≡ Some called.0 = sym at ∙ called.1 in
        let sig : signature_of main.0 ≡ called.0 = cc in
        apart (sym main.2 ∙ ap (λ s. is_main_name s.name) sig ∙ called.2)
    by F called good false same is =
        let made = good_created (file_of tree) (tree_order tree) g good is in
        let both : Some made.0 ≡ Some called.0 = sym made.1 ∙ called.1 in
        let sig : made.0 ≡ called.0 = cc in
        apart (sym made.2 ∙ ap (λ s. is_thread_kind s.kind) sig ∙ called.3)
