-- The new operations of an edge, with the marks added to their numbers (those of cfix_core, with marks).
use Rattle.std.specs.Prelude.{◌≡◌, ℕ, ◌+◌, Bool, true, false, not, ◌&&◌, eqb, List, [], ◌∷◌, ◌++◌, Option, Some, None}
use Rattle.cfix_base.specs.declared.number.LockId.{LockId}
use Rattle.cfix_base.specs.declared.number.OrderId.{OrderId}
use Rattle.cfix_base.specs.declared.op.Op.{Op}
use Rattle.cfix_base.specs.declared.op.Op.TheVariants.{Leave, First, Done, Wait, Enter, Add}
use Rattle.cfix_base.specs.declared.place.Place.{Place}
use Rattle.step_state.specs.Code.{Code}
use Rattle.cfix_base.specs.declared.mark.Marks.{Marks}
use Rattle.c_prog.specs.Marks.{is_new, old_of}
use Rattle.layout_laws.specs.Layout.{Layout, Live, source, place_function}

-- by functions: the nodes of a class and its covered functions; an order's nodes and what may come to the first
pub record ClassPlan : Type 0 where
  pub nodes : ℕ → Bool
  pub covered : ℕ → Bool

-- an order: whether it is first-before, its two nodes, the nodes that may come to the first, and the functions that reach it
pub record OrderPlan : Type 0 where
  pub is_first : Bool
  pub a : ℕ
  pub b : ℕ
  pub may : ℕ → Bool
  pub reaches : ℕ → Bool

-- classes, orders, and the functions in which threads begin
pub record Plan : Type 0 where
  pub classes : List ClassPlan
  pub orders : List OrderPlan
  pub roots : ℕ → Bool

-- the nodes of an edge of control flow; none at a start and at an exit
pub record Edge : Type 0 where
  pub from : Option ℕ
  pub into : Option ℕ

-- whether a node is in the set
abbrev pub within : (ℕ → Bool) → Option ℕ → Bool
within set None = false
within set (Some n) = set n

-- an operation, where it is so
abbrev pub one_if : Bool → Op → List Op
one_if true op = op ∷ []
one_if false op = []

-- the operations of those that meet the test, numbered from k
abbrev pub each_from : {X : Type 0} → (X → Bool) → (ℕ → Op) → ℕ → List X → List Op
each_from test op k [] = []
each_from test op k (x ∷ rest) = one_if (test x) (op k) ++ each_from test op (k + 1) rest

-- the lock with this number
abbrev pub lock : ℕ → LockId
lock k = record { number = k }

-- the order with this number
abbrev pub order : ℕ → OrderId
order j = record { number = j }

-- the edge in function f leads out of the class
abbrev pub leaves_class : ℕ → Edge → ClassPlan → Bool
leaves_class f e plan = within plan.nodes e.from && (not (within plan.nodes e.into) && not (plan.covered f))

-- the edge leads into the class
abbrev pub enters_class : ℕ → Edge → ClassPlan → Bool
enters_class f e plan = within plan.nodes e.into && (not (within plan.nodes e.from) && not (plan.covered f))

-- whether it is this node
abbrev pub is_node : Option ℕ → ℕ → Bool
is_node None n = false
is_node (Some m) n = eqb m n

-- the first node, or else the second
abbrev pub from_or : Option ℕ → Option ℕ → Option ℕ
from_or None into = into
from_or (Some n) into = Some n

-- the edge leaves the first node of a first-before
abbrev pub passes_first : Edge → OrderPlan → Bool
passes_first e o = o.is_first && is_node e.from o.a

-- the edge in a root leads from what may come to the first node to what may not
abbrev pub finishes : Bool → Edge → OrderPlan → Bool
finishes root e o = root && (within o.may (from_or e.from e.into) && not (within o.may e.into))

-- the edge leads to the second node
abbrev pub awaits : Edge → OrderPlan → Bool
awaits e o = is_node e.into o.b

-- the function whose thread the node creates
abbrev pub created_at : Layout → Option ℕ → Option ℕ
created_at y None = None
created_at y (Some n) = y.created n

-- the edge leads to a node that creates a thread that may come to the first node
abbrev pub adds_order : Layout → Edge → OrderPlan → Bool
adds_order y e o = within o.reaches (created_at y e.into)

-- the new operations of an edge of function f, in order
abbrev pub new_ops : Layout → Marks → Plan → ℕ → Edge → List Op
new_ops y m plan f e =
    each_from (leaves_class f e) (λ k. Leave (lock k)) m.lock plan.classes
    ++ (each_from (passes_first e) (λ j. First (order j)) m.order plan.orders
    ++ (each_from (finishes (plan.roots f) e) (λ j. Done (order j)) m.order plan.orders
    ++ (each_from (awaits e) (λ j. Wait (order j)) m.order plan.orders
    ++ (each_from (enters_class f e) (λ k. Enter (lock k)) m.lock plan.classes
    ++ each_from (adds_order y e) (λ j. Add (order j)) m.order plan.orders))))

-- at each live place q has the operations of p and then the new ones
pub record IsPlaced (p q : Code) (y : Layout) (m : Marks) (plan : Plan) : Type 0 where
  pub next : (place : Place) → q.next place ≡ p.next place
  pub old : (place : Place) → old_of (is_new m) (p.ops place) ≡ p.ops place
  pub ops : (place : Place) → Live y place
      → q.ops place ≡ p.ops place ++ new_ops y m plan (place_function y place) (record { from = source place; into = p.next place })
