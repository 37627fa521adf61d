-- The items of a node are of that node: reductions, accesses of the node, the call or the creation that it makes, and then
-- the end of its visit.
use Rattle.std.specs.Prelude.{slice_index_or}
use Rattle.std.proofs.Common.{◌≡◌, ℕ, zero, suc, ◌+◌, Bool, true, false, List, [], ◌∷◌, ◌++◌, length, Option, Some, None, refl, sym, ap, ◌∙◌, subst}
use Rattle.c_prog.specs.declared.act.Act.{Act}
use Rattle.c_prog.specs.declared.act.Act.TheVariants as form
use Rattle.c_prog.specs.declared.act.CallForm.{CallForm}
use Rattle.c_prog.specs.declared.act.How.{How}
use Rattle.c_prog.specs.declared.act.How.TheVariants as how
use Rattle.c_prog.specs.declared.act.Value.{Value}
use Rattle.c_prog.specs.declared.act.Value.TheVariants as value
use Rattle.c_prog.specs.declared.expr.BinOp.{BinOp}
use Rattle.c_prog.specs.declared.expr.BinOp.TheVariants as op
use Rattle.c_prog.specs.declared.expr.Expr.{Expr}
use Rattle.c_prog.specs.declared.expr.Expr.TheVariants as expr
use Rattle.c_prog.specs.declared.expr.Expr.TheViews.{roll-Expr}
use Rattle.c_prog.specs.declared.expr.Expr.TheOpen.{Expr-F, Target-F}
use Rattle.c_prog.specs.declared.expr.Expr.TheFolds.{ind-Expr, map-Expr}
use Rattle.c_prog.specs.declared.expr.Target.{Target, roll-Target, map-Target}
use Rattle.c_prog.specs.declared.expr.Var.{Var}
use Rattle.c_prog.specs.declared.expr.Var.TheVariants.{Global, Local}
use Rattle.c_prog.specs.declared.stmt.Jump.{Jump}
use Rattle.c_prog.specs.declared.stmt.Jump.TheVariants.{Break, Continue, Return, ReturnNull, ReturnValue}
use Rattle.c_prog.specs.Calls.{value_callee, act_callee, jump_callee, callee, act_created, created}
use Rattle.c_prog.specs.Order.{Node, act, cond, step, jump}
use Rattle.step_state.specs.declared.item.Item.{Item}
use Rattle.step_state.specs.declared.item.Item.TheVariants as item
use Rattle.step_state.specs.declared.item.Action.{Action}
use Rattle.step_state.specs.declared.item.Action.TheVariants as action
use Rattle.step_state.specs.declared.item.Reduction.{Reduction}
use Rattle.step_state.specs.declared.item.Reduction.TheVariants as reduction
use Rattle.step_state.specs.declared.item.Operand.{Operand}
use Rattle.step_state.specs.declared.item.Unary.TheVariants.{Neg, Not}
use Rattle.step_state.specs.declared.item.Binary.{Binary}
use Rattle.step_state.specs.declared.item.Binary.TheVariants as binary
use Rattle.step_state.specs.Code.{node}
use Rattle.step_state.specs.Parts.{At, Part, past, nothing, one, own, both, behind, early, operated, binary_part, has_index, local_site, read_var, read_keep, write_var, expr_part, args_part, target_index}
use Rattle.step_state.specs.Items.{call_part, value_part, compound, assigned, assign_part, declare_part, handle_site, unit, act_part, jump_part, node_part, at_node}
use Rattle.step_state.proofs.PartEquations.{read_part, part-Number, part-Read, part-Cast, part-Neg, part-Not, part-Binary, read-part-is}
use Rattle.layout_laws.specs.Layout.{Layout, OperandOf, ActionOf, InPart, InVisit}
use Rattle.frame_laws.specs.Operands.{operand_in}
use Rattle.layout_laws.specs.TreeLayout.{number_if, is_condition}
use Rattle.layout_laws.proofs.Shape.{in_append}

module _ (y : Layout) (n : ℕ) where
  abbrev pub AllIn : List (List Item) → Type 0
  AllIn [] = Unit {0}
  AllIn (l ∷ rest) = InPart y n l × AllIn rest

  pub record In (p : Part) : Type 0 where
    pub items : (at : At) → at.node ≡ n → InPart y n (p.items at)
    pub operands : (at : At) → at.node ≡ n → AllIn (p.operands at)

  parts_append : (a b : List Item) → InPart y n a → InPart y n b → InPart y n (a ++ b)
  parts_append [] b h k = k
  parts_append (item.Op o ∷ a) b h k = absurd h
  parts_append (item.Reduce r ∷ a) b h k = (h.0, parts_append a b h.1 k)
  parts_append (item.Act r ∷ a) b h k = (h.0, parts_append a b h.1 k)
  parts_append (item.Go g ∷ a) b h k = absurd h

  pub all_append : (a b : List (List Item)) → AllIn a → AllIn b → AllIn (a ++ b)
  all_append [] b h k = k
  all_append (l ∷ a) b h k = (h.0, all_append a b h.1 k)

  in_nothing : In nothing
  in_nothing = record { items = λ at e. tt; operands = λ at e. tt }

  in_reduction : (r : Reduction) → OperandOf n (operand_in r) → In (one (item.Reduce r))
  in_reduction r h = record { items = λ at e. (h, tt); operands = λ at e. tt }

  in_action : (a : Action) → ActionOf y n a → In (one (item.Act a))
  in_action a h = record { items = λ at e. (h, tt); operands = λ at e. tt }

  in_both : (a b : Part) → In a → In b → In (both a b)
  in_both a b h k = record {
    items = λ at e. parts_append (a.items at) (b.items (past a at)) (h.items at e) (k.items (past a at) e);
    operands = λ at e. all_append (a.operands at) (b.operands (past a at)) (h.operands at e) (k.operands (past a at) e);
  }

  in_early : (decide : Operand → Reduction) (a b : Part) → ((r : Operand) → r.node.number ≡ n → OperandOf n (operand_in (decide r))) → In a → In b → In (early decide a b)
  in_early decide a b d h k = record {
    items = λ at e. parts_append (a.items at) _ (h.items at e) (d (record { node = node at.node; number = at.operator + a.operators }) e, tt);
    operands = λ at e. all_append (a.operands at) _ (h.operands at e) (k.items (behind a at) e, k.operands (behind a at) e);
  }

  in_operated : (o : Binary) (a b : Part) → In a → In b → In (operated o a b)
  in_operated o a b h k = in_both a _ h (in_both b _ k (in_reduction (reduction.Bin o) tt))

  in_binary : (o : BinOp) (a b : Part) → In a → In b → In (binary_part o a b)
  in_binary op.Add a b h k = in_operated binary.Add a b h k
  in_binary op.Sub a b h k = in_operated binary.Sub a b h k
  in_binary op.Mul a b h k = in_operated binary.Mul a b h k
  in_binary op.Div a b h k = in_operated binary.Div a b h k
  in_binary op.Rem a b h k = in_operated binary.Rem a b h k
  in_binary op.Lt a b h k = in_operated binary.Lt a b h k
  in_binary op.Le a b h k = in_operated binary.Le a b h k
  in_binary op.Gt a b h k = in_operated binary.Gt a b h k
  in_binary op.Ge a b h k = in_operated binary.Ge a b h k
  in_binary op.Eq a b h k = in_operated binary.Eq a b h k
  in_binary op.Ne a b h k = in_operated binary.Ne a b h k
  in_binary op.And a b h k = in_early reduction.And a b (λ r e. e) h k
  in_binary op.Or a b h k = in_early reduction.Or a b (λ r e. e) h k

  in_read : (v : Var) (indexed : Bool) → In (read_var v indexed)
  in_read (Global v) indexed = record { items = λ at e. (e, tt); operands = λ at e. tt }
  in_read (Local x) indexed = in_reduction (reduction.Local (local_site x indexed)) tt

  in_keep : (v : Var) (indexed : Bool) → In (read_keep v indexed)
  in_keep (Global v) indexed = record { items = λ at e. (e, tt); operands = λ at e. tt }
  in_keep (Local x) indexed = in_reduction (reduction.LocalKeep (local_site x indexed)) tt

  in_write : (v : Var) (indexed : Bool) → In (write_var v indexed)
  in_write (Global v) indexed = record { items = λ at e. (e, tt); operands = λ at e. tt }
  in_write (Local x) indexed = in_reduction (reduction.Put (local_site x indexed)) tt

  -- expressions
  abbrev E : Type 0
  E = (e : Expr) × In (expr_part e)

  abbrev T : Type 0
  T = (t : Target) × In (read_part t)

  rolled : {z w : Expr} (p : Part) → z ≡ w → expr_part w ≡ p → In p → In (expr_part z)
  rolled {z = z} p is part h = subst In (sym (ap expr_part is ∙ part)) h

  expr_level : (z : Expr-F E T) → In (expr_part (roll-Expr (map-Expr E T Expr Target (λ e. e.0) (λ t. t.0) z)))
  expr_level (Expr-F.Number v) = rolled (one (item.Reduce (reduction.Push v))) (expr.rolls-Number v) (part-Number v) (in_reduction (reduction.Push v) tt)
  expr_level (Expr-F.Read t) = rolled (read_part t.0) (expr.rolls-Read t.0) (part-Read t.0) t.1
  expr_level (Expr-F.Cast x) =
      rolled (one (item.Reduce (reduction.Local (local_site x false)))) (expr.rolls-Cast x) (part-Cast x) (in_reduction (reduction.Local (local_site x false)) tt)
  expr_level (Expr-F.Neg e) =
      rolled (both (expr_part e.0) (one (item.Reduce (reduction.Un Neg)))) (expr.rolls-Neg e.0) (part-Neg e.0) (in_both (expr_part e.0) _ e.1 (in_reduction (reduction.Un Neg) tt))
  expr_level (Expr-F.Not e) =
      rolled (both (expr_part e.0) (one (item.Reduce (reduction.Un Not)))) (expr.rolls-Not e.0) (part-Not e.0) (in_both (expr_part e.0) _ e.1 (in_reduction (reduction.Un Not) tt))
  expr_level (Expr-F.Binary o l r) =
      rolled (binary_part o (expr_part l.0) (expr_part r.0)) (expr.rolls-Binary o l.0 r.0) (part-Binary o l.0 r.0) (in_binary o (expr_part l.0) (expr_part r.0) l.1 r.1)

  target_with : (v : Var) (i : Option E) → In (read_part (roll-Target (map-Target E T Expr Target (λ e. e.0) (λ t. t.0) (record { var = v; index = i }))))
  target_with v None = subst In (sym (read-part-is (record { var = v; index = None }))) (in_both nothing _ in_nothing (in_read v false))
  target_with v (Some e) = subst In (sym (read-part-is (record { var = v; index = Some e.0 }))) (in_both (expr_part e.0) _ e.1 (in_read v true))

  target_level : (z : Target-F E T) → In (read_part (roll-Target (map-Target E T Expr Target (λ e. e.0) (λ t. t.0) z)))
  target_level z = target_with z.var z.index

  pub in_expr : (e : Expr) → In (expr_part e)
  in_expr = ind-Expr (λ e. In (expr_part e)) (λ t. In (read_part t))
      (λ x z is. subst (λ w. In (expr_part (roll-Expr w))) is (expr_level z))
      (λ x z is. subst (λ w. In (read_part (roll-Target w))) is (target_level z))

  in_args : (es : List Expr) → In (args_part es)
  in_args [] = in_nothing
  in_args (e ∷ es) = in_both (expr_part e) _ (in_expr e) (in_args es)

  pub in_index : (o : Option Expr) → In (target_index o)
  in_index None = in_nothing
  in_index (Some e) = in_expr e

  -- a call of the function that the node calls
  in_call : (c : CallForm) → y.callee n ≡ Some c.of.number → In (call_part c)
  in_call c calls = in_both (args_part c.args) _ (in_args c.args) (in_action (action.Call c.of) calls)

  in_value : (v : Value) → y.callee n ≡ number_if (value_callee v) → In (value_part v)
  in_value (value.Expr e) calls = in_expr e
  in_value (value.Call c) calls = in_call c calls

  in_compound : (o : Binary) (t : Target) (p : Part) → In p → In (compound o t p)
  in_compound o t p h = in_both (read_keep t.var (has_index t.index)) _ (in_keep t.var (has_index t.index)) (in_both p _ h (in_reduction (reduction.Bin o) tt))

  in_assigned : (h : How) (t : Target) (p : Part) → In p → In (assigned h t p)
  in_assigned how.Set t p k = k
  in_assigned how.Add t p k = in_compound binary.Add t p k
  in_assigned how.Sub t p k = in_compound binary.Sub t p k
  in_assigned how.Mul t p k = in_compound binary.Mul t p k
  in_assigned how.Div t p k = in_compound binary.Div t p k
  in_assigned how.Rem t p k = in_compound binary.Rem t p k

  in_assign : (t : Target) (h : How) (p : Part) → In p → In (assign_part t h p)
  in_assign t h p k =
      in_both (target_index t.index) _ (in_index t.index) (in_both (assigned h t p) _ (in_assigned h t p k) (in_write t.var (has_index t.index)))

  in_declare : (x : ℕ) (o : Option Value) → ((v : Value) → o ≡ Some v → y.callee n ≡ number_if (value_callee v)) → In (declare_part x o)
  in_declare x None calls = in_reduction (reduction.Clear x) tt
  in_declare x (Some v) calls = in_both (value_part v) _ (in_value v (calls v refl)) (in_write (Local x) false)

  -- simple statements, steps and jumps
  pub in_act : (x : ℕ) (a : Act) → y.callee n ≡ number_if (act_callee a) → y.created n ≡ number_if (act_created a) → In (act_part x a)
  in_act x (form.Declare name kind None) calls creates = in_declare x None (λ v e. absurd cc)
  in_act x (form.Declare name kind (Some v)) calls creates = in_both (value_part v) _ (in_value v calls) (in_write (Local x) false)
  in_act x (form.Assign t h v) calls creates = in_assign t h (value_part v) (in_value v calls)
  in_act x (form.Up t) calls creates = in_assign t how.Add unit (in_reduction (reduction.Push _) tt)
  in_act x (form.Down t) calls creates = in_assign t how.Sub unit (in_reduction (reduction.Push _) tt)
  in_act x (form.Call c) calls creates = in_call c calls
  in_act x (form.Create t of arg) calls creates =
      in_both (target_index t.index) _ (in_index t.index) (in_both (expr_part arg) _ (in_expr arg) (in_action (action.Create (handle_site t) of) creates))
  in_act x (form.Join t) calls creates = in_both (target_index t.index) _ (in_index t.index) (in_action (action.Join (handle_site t)) tt)
  in_act x (form.Lock v) calls creates = in_action (action.Lock v) tt
  in_act x (form.Unlock v) calls creates = in_action (action.Unlock v) tt
  in_act x (form.Print text args) calls creates =
      in_both (args_part args) (own (λ k. item.Act (action.Print (node k) (length args)))) (in_args args) (record { items = λ at e. (tt, tt); operands = λ at e. tt })
  in_act x (form.Scan t) calls creates =
      in_both (target_index t.index) _ (in_index t.index) (in_both (one (item.Act action.Take)) _ (in_action action.Take tt) (in_write t.var (has_index t.index)))
  in_act x (form.Wait c m) calls creates =
      in_both (one (item.Act (action.Sleep c m))) (one (item.Act (action.Wake c m))) (in_action (action.Sleep c m) tt) (in_action (action.Wake c m) tt)
  in_act x (form.Signal c) calls creates = in_action (action.Signal c) tt
  in_act x (form.Broadcast c) calls creates = in_action (action.Broadcast c) tt

  in_jump : (j : Jump) → y.callee n ≡ number_if (jump_callee j) → In (jump_part j)
  in_jump Break calls = in_nothing
  in_jump Continue calls = in_nothing
  in_jump Return calls = in_nothing
  in_jump ReturnNull calls = in_nothing
  in_jump (ReturnValue v) calls = in_value v calls

  -- the items of the node, and those of its right operands
  pub node_visits : (x : ℕ) (w : Node) → y.callee n ≡ number_if (callee w) → y.created n ≡ number_if (created w) → y.is_cond n ≡ is_condition w
      → InVisit y n ((node_part x w).items (at_node n))
  node_visits x (act a after) calls creates is = in_append y n ((act_part x a).items (at_node n)) _ ((in_act x a calls creates).items (at_node n) refl) (refl, is, refl)
  node_visits x (cond c) calls creates is = in_append y n ((expr_part c.test).items (at_node n)) _ ((in_expr c.test).items (at_node n) refl) (refl, is, refl)
  node_visits x (step s) calls creates is = in_append y n ((act_part x s.act).items (at_node n)) _ ((in_act x s.act calls creates).items (at_node n) refl) (refl, is, refl)
  node_visits x (jump j after) calls creates is = in_append y n ((jump_part j).items (at_node n)) _ ((in_jump j calls).items (at_node n) refl) (refl, is, refl)

  pub node_operands : (x : ℕ) (w : Node) → y.callee n ≡ number_if (callee w) → y.created n ≡ number_if (created w)
      → AllIn ((node_part x w).operands (at_node n))
  node_operands x (act a after) calls creates = all_append ((act_part x a).operands (at_node n)) [] ((in_act x a calls creates).operands (at_node n) refl) tt
  node_operands x (cond c) calls creates = all_append ((expr_part c.test).operands (at_node n)) [] ((in_expr c.test).operands (at_node n) refl) tt
  node_operands x (step s) calls creates = all_append ((act_part x s.act).operands (at_node n)) [] ((in_act x s.act calls creates).operands (at_node n) refl) tt
  node_operands x (jump j after) calls creates = all_append ((jump_part j).operands (at_node n)) [] ((in_jump j calls).operands (at_node n) refl) tt

  pub one_of : (ls : List (List Item)) (i : ℕ) → AllIn ls → InPart y n (slice_index_or ls i [])
  one_of [] i h = tt
  one_of (l ∷ ls) zero h = h.0
  one_of (l ∷ ls) (suc i) h = one_of ls i h.1
