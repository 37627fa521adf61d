-- Small nodes, and the items that they are.
use Rattle.std.proofs.Common.{◌≡◌, ℕ, pos, Bool, true, false, [], ◌∷◌, Some, None, refl, ap, ◌∙◌}
use Rattle.c_prog.specs.declared.act.Act.TheVariants as form
use Rattle.c_prog.specs.declared.act.How.TheVariants as how
use Rattle.c_prog.specs.declared.act.LocalKind.TheVariants as kind
use Rattle.c_prog.specs.declared.act.Value.TheVariants as value
use Rattle.c_prog.specs.declared.expr.BinOp.TheVariants as op
use Rattle.c_prog.specs.declared.expr.Expr.{Expr}
use Rattle.c_prog.specs.declared.expr.Expr.TheVariants as expr
use Rattle.c_prog.specs.declared.expr.Target.{Target}
use Rattle.c_prog.specs.declared.expr.Var.TheVariants as var
use Rattle.c_prog.specs.declared.stmt.Cond.{Cond}
use Rattle.c_prog.specs.declared.stmt.Jump.TheVariants as jump_form
use Rattle.c_prog.specs.Order.{Node, act, cond, jump}
use Rattle.step_state.specs.declared.item.Item.TheVariants.{Reduce, Act as Do, Go}
use Rattle.step_state.specs.declared.item.Reduction.TheVariants as reduction
use Rattle.step_state.specs.declared.item.Action.TheVariants as action
use Rattle.step_state.specs.declared.item.Move.TheVariants as move
use Rattle.step_state.specs.declared.item.GlobalSite.{GlobalSite}
use Rattle.step_state.specs.declared.item.Binary.TheVariants as operator
use Rattle.step_state.specs.declared.item.Unary.TheVariants as unary
use Rattle.step_state.specs.Code.{node, fn_id}
use Rattle.step_state.specs.Parts.{Part, nothing, one, both, read_var, read_keep, write_var, binary_part, expr_part}
use Rattle.step_state.specs.Items.{node_part, part_items, part_operands, edge, branch}
use Rattle.step_state.proofs.PartEquations.{part-Number, part-Read, part-Cast, part-Neg, part-Not, part-Binary, read-part-is}

variable : ℕ → Target
variable n = record { var = var.Global (record { number = n }); index = None }

-- the access with this number of node 3, to this global
abbrev site : ℕ → ℕ → Bool → GlobalSite
site i v indexed = record { access = record { node = node 3; index = i }; var = record { number = v }; indexed = indexed }

-- the read of a global as a part
abbrev read : ℕ → Part
read n = both nothing (read_var (var.Global (record { number = n })) false)

read-is : (n : ℕ) → expr_part (expr.Read (variable n)) ≡ read n
unfolding variable
read-is n = part-Read (variable n) ∙ read-part-is (variable n)

-- a[x] += y && (z || w), where a, x, y, z and w are the global variables 0 to 4
abbrev right : Expr
right = expr.Binary op.And (expr.Read (variable 2)) (expr.Binary op.Or (expr.Read (variable 3)) (expr.Read (variable 4)))

abbrev compound : Node
compound =
    act (form.Assign (record { var = var.Global (record { number = 0 }); index = Some (expr.Read (variable 1)) }) how.Add (value.Expr right)) []

-- the same, by the parts of the index and of the right side
abbrev whole : Part → Part → Part
whole i r =
    both (both i (both (both (read_keep (var.Global (record { number = 0 })) true) (both r (one (Reduce (reduction.Bin operator.Add))))) (write_var (var.Global (record { number = 0 })) true))) edge

or-is : expr_part (expr.Binary op.Or (expr.Read (variable 3)) (expr.Read (variable 4))) ≡ binary_part op.Or (read 3) (read 4)
or-is =
    part-Binary op.Or (expr.Read (variable 3)) (expr.Read (variable 4)) ∙ ap (λ p. binary_part op.Or p (expr_part (expr.Read (variable 4)))) (read-is 3) ∙ ap (λ p. binary_part op.Or (read 3) p) (read-is 4)

right-is : expr_part right ≡ binary_part op.And (read 2) (binary_part op.Or (read 3) (read 4))
right-is =
    part-Binary op.And (expr.Read (variable 2)) (expr.Binary op.Or (expr.Read (variable 3)) (expr.Read (variable 4))) ∙ ap (λ p. binary_part op.And p (expr_part (expr.Binary op.Or (expr.Read (variable 3)) (expr.Read (variable 4))))) (read-is 2) ∙ ap (λ p. binary_part op.And (read 2) p) or-is

compound-is : node_part 0 compound ≡ whole (read 1) (binary_part op.And (read 2) (binary_part op.Or (read 3) (read 4)))
compound-is = ap (λ p. whole p (expr_part right)) (read-is 1) ∙ ap (λ p. whole (read 1) p) right-is

compound-items : part_items 3 (Some (node_part 0 compound))
    ≡ Do (action.Get (site 0 1 false)) ∷ Do (action.GetKeep (site 1 0 true)) ∷ Do (action.Get (site 2 2 false)) ∷ Reduce (reduction.And (record { node = node 3; number = 0 })) ∷ Reduce (reduction.Bin operator.Add) ∷ Do (action.Put (site 5 0 true)) ∷ Go (move.Edge (node 3)) ∷ []
compound-items = ap (λ p. part_items 3 (Some p)) compound-is

-- the right operands: that of `&&`, and that of the `||` in it
compound-operands : part_operands 3 (Some (node_part 0 compound))
    ≡ (Do (action.Get (site 3 3 false)) ∷ Reduce (reduction.Or (record { node = node 3; number = 1 })) ∷ []) ∷ (Do (action.Get (site 4 4 false)) ∷ []) ∷ []
compound-operands = ap (λ p. part_operands 3 (Some p)) compound-is

-- int k = f(-2, !y); which declares local 4
abbrev initial_whole : Part → Part → Part
initial_whole a b =
    both (both (both (both a (both b nothing)) (one (Do (action.Call (fn_id 1))))) (write_var (var.Local 4) false)) edge

two-is : expr_part (expr.Neg (expr.Number (pos 2))) ≡ both (one (Reduce (reduction.Push (pos 2)))) (one (Reduce (reduction.Un unary.Neg)))
two-is = part-Neg (expr.Number (pos 2)) ∙ ap (λ p. both p (one (Reduce (reduction.Un unary.Neg)))) (part-Number (pos 2))

not-is : expr_part (expr.Not (expr.Read (variable 2))) ≡ both (read 2) (one (Reduce (reduction.Un unary.Not)))
not-is = part-Not (expr.Read (variable 2)) ∙ ap (λ p. both p (one (Reduce (reduction.Un unary.Not)))) (read-is 2)

initial : part_items 3 (Some (node_part 4 (act (form.Declare [] kind.Int (Some (value.Call (record { of = fn_id 1; args = expr.Neg (expr.Number (pos 2)) ∷ expr.Not (expr.Read (variable 2)) ∷ [] })))) [])))
    ≡ Reduce (reduction.Push (pos 2)) ∷ Reduce (reduction.Un unary.Neg) ∷ Do (action.Get (site 0 2 false)) ∷ Reduce (reduction.Un unary.Not) ∷ Do (action.Call (fn_id 1)) ∷ Reduce (reduction.Put (record { local = 4; indexed = false })) ∷ Go (move.Edge (node 3)) ∷ []
initial =
    ap (λ p. part_items 3 (Some (initial_whole p (expr_part (expr.Not (expr.Read (variable 2))))))) two-is ∙ ap (λ p. part_items 3 (Some (initial_whole (both (one (Reduce (reduction.Push (pos 2)))) (one (Reduce (reduction.Un unary.Neg)))) p))) not-is

-- pthread_create(&t[y], NULL, f, (void *)(long)x); where t is local 2
abbrev create_whole : Part → Part → Part
create_whole i a =
    both (both i (both a (one (Do (action.Create (record { var = var.Local 2; indexed = true }) (fn_id 1)))))) edge

create : part_items 3 (Some (node_part 0 (act (form.Create (record { var = var.Local 2; index = Some (expr.Read (variable 2)) }) (fn_id 1) (expr.Read (variable 1))) [])))
    ≡ Do (action.Get (site 0 2 false)) ∷ Do (action.Get (site 1 1 false)) ∷ Do (action.Create (record { var = var.Local 2; indexed = true }) (fn_id 1)) ∷ Go (move.Edge (node 3)) ∷ []
create =
    ap (λ p. part_items 3 (Some (create_whole p (expr_part (expr.Read (variable 1)))))) (read-is 2) ∙ ap (λ p. part_items 3 (Some (create_whole (read 2) p))) (read-is 1)

-- scanf("%d", &a[0]); and k--; where a is global 0 and k is local 5
scan : part_items 3 (Some (node_part 0 (act (form.Scan (record { var = var.Global (record { number = 0 }); index = Some (expr.Number (pos 0)) })) [])))
    ≡ Reduce (reduction.Push (pos 0)) ∷ Do action.Take ∷ Do (action.Put (site 0 0 true)) ∷ Go (move.Edge (node 3)) ∷ []
scan =
    ap (λ p. part_items 3 (Some (both (both p (both (one (Do action.Take)) (write_var (var.Global (record { number = 0 })) true))) edge))) (part-Number (pos 0))

down : part_items 3 (Some (node_part 0 (act (form.Down (record { var = var.Local 5; index = None })) [])))
    ≡ Reduce (reduction.LocalKeep (record { local = 5; indexed = false })) ∷ Reduce (reduction.Push (pos 1)) ∷ Reduce (reduction.Bin operator.Sub) ∷ Reduce (reduction.Put (record { local = 5; indexed = false })) ∷ Go (move.Edge (node 3)) ∷ []
down = refl

-- pthread_cond_wait(&c, &m); where c is global 4 and m is global 3
wait : part_items 3 (Some (node_part 0 (act (form.Wait (record { number = 4 }) (record { number = 3 })) [])))
    ≡ Do (action.Sleep (record { number = 4 }) (record { number = 3 })) ∷ Do (action.Wake (record { number = 4 }) (record { number = 3 })) ∷ Go (move.Edge (node 3)) ∷ []
wait = refl

-- a condition, and a `return` without a value
condition : (c : Cond) → c.test ≡ expr.Cast 0 → part_items 3 (Some (node_part 0 (cond c))) ≡ Reduce (reduction.Local (record { local = 0; indexed = false })) ∷ Go (move.Branch (node 3)) ∷ []
condition c e = ap (λ t. part_items 3 (Some (both (expr_part t) branch))) e ∙ ap (λ p. part_items 3 (Some (both p branch))) (part-Cast 0)

leave : part_items 3 (Some (node_part 0 (jump jump_form.Return []))) ≡ Go (move.Edge (node 3)) ∷ []
leave = refl
