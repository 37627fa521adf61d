-- The items of nodes, and what a machine reads of a program.
use Rattle.std.specs.Prelude.{ℕ, ◌+◌, pos, Bool, true, false, List, [], ◌∷◌, map, length, slice_get, slice_index_or, Option, Some, None}
use Rattle.cfix_base.specs.declared.op.Op.{Op}
use Rattle.cfix_base.specs.declared.place.Place.{Place}
use Rattle.c_prog.specs.declared.expr.Var.TheVariants.{Local}
use Rattle.c_prog.specs.declared.expr.Target.{Target}
use Rattle.c_prog.specs.declared.act.Act.{Act}
use Rattle.c_prog.specs.declared.act.Act.TheVariants as form
use Rattle.c_prog.specs.declared.act.CallForm.{CallForm}
use Rattle.c_prog.specs.declared.act.How.{How}
use Rattle.c_prog.specs.declared.act.How.TheVariants as how
use Rattle.c_prog.specs.declared.act.LocalKind.{LocalKind}
use Rattle.c_prog.specs.declared.act.Value.{Value}
use Rattle.c_prog.specs.declared.act.Value.TheVariants as value
use Rattle.c_prog.specs.declared.stmt.Jump.{Jump}
use Rattle.c_prog.specs.declared.stmt.Jump.TheVariants.{ReturnValue}
use Rattle.c_prog.specs.declared.function.Function.{Function}
use Rattle.c_prog.specs.declared.tree.Tree.{Tree}
use Rattle.c_prog.specs.Marks.{tree_marks}
use Rattle.c_prog.specs.Order.{Node, act, cond, step, jump, joined, function_order, node_at}
use Rattle.c_prog.specs.Places.{ops}
use Rattle.c_prog.specs.Valid.Functions.{is_main}
use Rattle.c_prog.specs.Valid.Locals.{act_locals, locals_of}
use Rattle.step_state.specs.declared.item.Item.{Item}
use Rattle.step_state.specs.declared.item.Item.TheVariants as item
use Rattle.step_state.specs.declared.item.Reduction.TheVariants as reduction
use Rattle.step_state.specs.declared.item.Action.TheVariants as action
use Rattle.step_state.specs.declared.item.Move.TheVariants as move
use Rattle.step_state.specs.declared.item.Operand.{Operand}
use Rattle.step_state.specs.declared.item.HandleSite.{HandleSite}
use Rattle.step_state.specs.declared.item.Binary.{Binary}
use Rattle.step_state.specs.declared.item.Binary.TheVariants as binary
use Rattle.step_state.specs.Code.{Code, node}
use Rattle.step_state.specs.Parts.{At, Part, nothing, one, own, both, expr_part, args_part, target_index, has_index, read_keep, write_var}

-- a call: its arguments, and then the call itself
abbrev pub call_part : CallForm → Part
call_part c = both (args_part c.args) (one (item.Act (action.Call c.of)))

-- what is assigned, returned or begun with
abbrev pub value_part : Value → Part
value_part (value.Expr e) = expr_part e
value_part (value.Call c) = call_part c

-- `op=`: the target is read, and the operator stands behind the right side (6.5.16.2 of ISO/IEC 9899:2011)
abbrev pub compound : Binary → Target → Part → Part
compound operator target right =
    both (read_keep target.var (has_index target.index)) (both right (one (item.Reduce (reduction.Bin operator))))

-- what is written, by how it is assigned
abbrev pub assigned : How → Target → Part → Part
assigned how.Set target right = right
assigned how.Add target right = compound binary.Add target right
assigned how.Sub target right = compound binary.Sub target right
assigned how.Mul target right = compound binary.Mul target right
assigned how.Div target right = compound binary.Div target right
assigned how.Rem target right = compound binary.Rem target right

-- an assignment: the target's index, what is written, and the write
abbrev pub assign_part : Target → How → Part → Part
assign_part target how right =
    both (target_index target.index) (both (assigned how target right) (write_var target.var (has_index target.index)))

-- a declaration of the local with this number: it becomes 0, or gets its initial value
abbrev pub declare_part : ℕ → Option Value → Part
declare_part x None = one (item.Reduce (reduction.Clear x))
declare_part x (Some v) = both (value_part v) (write_var (Local x) false)

abbrev pub handle_site : Target → HandleSite
handle_site target = record { var = target.var; indexed = has_index target.index }

-- the number 1, by which `++` and `--` go
abbrev pub unit : Part
unit = one (item.Reduce (reduction.Push (pos 1)))

-- a simple statement or a step, which declares the local with this number if it is a declaration
abbrev pub act_part : ℕ → Act → Part
act_part x (form.Declare name kind initial) = declare_part x initial
act_part x (form.Assign target how v) = assign_part target how (value_part v)
act_part x (form.Up target) = assign_part target how.Add unit
act_part x (form.Down target) = assign_part target how.Sub unit
act_part x (form.Call c) = call_part c
act_part x (form.Create target of arg) =
    both (target_index target.index) (both (expr_part arg) (one (item.Act (action.Create (handle_site target) of))))
act_part x (form.Join target) = both (target_index target.index) (one (item.Act (action.Join (handle_site target))))
act_part x (form.Lock m) = one (item.Act (action.Lock m))
act_part x (form.Unlock m) = one (item.Act (action.Unlock m))
act_part x (form.Print text args) =
    both (args_part args) (own (λ n. item.Act (action.Print (node n) (length args))))
act_part x (form.Scan target) =
    both (target_index target.index) (both (one (item.Act action.Take)) (write_var target.var (has_index target.index)))
act_part x (form.Wait c m) = both (one (item.Act (action.Sleep c m))) (one (item.Act (action.Wake c m)))
act_part x (form.Signal c) = one (item.Act (action.Signal c))
act_part x (form.Broadcast c) = one (item.Act (action.Broadcast c))

-- a jump: the value that it returns
abbrev pub jump_part : Jump → Part
jump_part (ReturnValue v) = value_part v
jump_part _ = nothing

-- the end of a visit: at a condition the two ways, at any other node its one edge
abbrev pub branch : Part
branch = own (λ n. item.Go (move.Branch (node n)))

abbrev pub edge : Part
edge = own (λ n. item.Go (move.Edge (node n)))

-- a node, which declares the local with this number if it is a declaration
abbrev pub node_part : ℕ → Node → Part
node_part x (act a after) = both (act_part x a) edge
node_part x (cond c) = both (expr_part c.test) branch
node_part x (step s) = both (act_part x s.act) edge
node_part x (jump j after) = both (jump_part j) edge

-- how many locals a node declares
abbrev pub declared : Node → ℕ
declared (act a after) = length (act_locals a)
declared _ = 0

-- the parts of nodes of a function, where the next declaration is of the local with this number
abbrev pub parts_from : ℕ → List Node → List Part
parts_from x [] = []
parts_from x (n ∷ rest) = node_part x n ∷ parts_from (x + declared n) rest

-- the nodes of a function, whose parameters are its first locals
abbrev pub function_parts : Function → List Part
function_parts f = parts_from (length f.params) (function_order f)

-- the nodes of a program
abbrev pub tree_parts : Tree → List Part
tree_parts tree = joined (map function_parts tree.functions)

-- the beginning of the node with this number
abbrev pub at_node : ℕ → At
at_node n = record { node = n; touch = 0; operator = 0 }

abbrev pub part_items : ℕ → Option Part → List Item
part_items n None = []
part_items n (Some part) = part.items (at_node n)

abbrev pub part_operands : ℕ → Option Part → List (List Item)
part_operands n None = []
part_operands n (Some part) = part.operands (at_node n)

-- the items of the node with this number
abbrev pub items_of : Tree → ℕ → List Item
items_of tree n = part_items n (slice_get (tree_parts tree) n)

-- the items of a right operand
abbrev pub operand_of : Tree → Operand → List Item
operand_of tree operand =
    slice_index_or (part_operands operand.node.number (slice_get (tree_parts tree) operand.node.number)) operand.number []

-- the operations at a place; none where there is no such place
abbrev pub some_ops : Option (List Op) → List Op
some_ops None = []
some_ops (Some list) = list

-- the string of a printf
abbrev pub act_text : Act → List ℕ
act_text (form.Print text args) = text
act_text _ = []

abbrev pub text_of : Option Node → List ℕ
text_of (Some (act a after)) = act_text a
text_of (Some (step s)) = act_text s.act
text_of _ = []

-- whether a node is a `return` with a value
abbrev pub gives : Option Node → Bool
gives (Some (jump (ReturnValue v) after)) = true
gives _ = false

abbrev pub params_of : Option Function → ℕ
params_of None = 0
params_of (Some f) = length f.params

abbrev pub kinds_of : Option Function → List LocalKind
kinds_of None = []
kinds_of (Some f) = locals_of f.body

-- the number of the first function that is main
abbrev pub or_next : Bool → ℕ → ℕ
or_next true n = 0
or_next false n = n + 1

abbrev pub main_of : List Function → ℕ
main_of [] = 0
main_of (f ∷ rest) = or_next (is_main f) (main_of rest)

-- what a machine reads of a program with these successors
abbrev pub code_of : Tree → (Place → Option ℕ) → Code
code_of tree next = record {
  items = items_of tree;
  operand = operand_of tree;
  ops = λ place. some_ops (ops tree place);
  next = next;
  text = λ n. text_of (node_at tree n);
  gives = λ n. gives (node_at tree n);
  params = λ f. params_of (slice_get tree.functions f);
  locals = λ f. kinds_of (slice_get tree.functions f);
  globals = map (λ g. g.kind) tree.globals;
  main = main_of tree.functions;
  starts = tree.starts;
  locks = (tree_marks tree).lock;
  orders = (tree_marks tree).order;
}
