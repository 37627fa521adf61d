-- What the nodes and places of a program are, as far as control goes; and where frames stand.
use Rattle.std.specs.Prelude.{◌≡◌, ◌⊎◌, ℕ, ℤ, Bool, true, false, List, [], ◌∷◌, ◌++◌, map, Option, Some, None}
use Rattle.cfix_base.specs.declared.number.NodeId.{NodeId}
use Rattle.cfix_base.specs.declared.number.FnId.{FnId}
use Rattle.cfix_base.specs.declared.op.Op.{Op}
use Rattle.cfix_base.specs.declared.place.Place.{Place}
use Rattle.cfix_base.specs.declared.place.Place.TheVariants.{Start, After, True, False}
use Rattle.step_state.specs.declared.item.Item.{Item}
use Rattle.step_state.specs.declared.item.Item.TheVariants as item
use Rattle.step_state.specs.declared.item.Action.{Action}
use Rattle.step_state.specs.declared.item.Action.TheVariants as action
use Rattle.frame_laws.specs.Operands.{operand_in}
use Rattle.step_state.specs.declared.item.Reduction.TheVariants as reduction
use Rattle.step_state.specs.declared.item.Move.TheVariants as move
use Rattle.step_state.specs.declared.item.Operand.{Operand}
use Rattle.step_state.specs.declared.frame.Frame.{Frame}
use Rattle.step_state.specs.Code.{Code, go_to, node}
use Rattle.step_state.specs.Values.{is_zero, last_value}

-- of nodes: their functions, which are conditions, the value of a condition that is a number, the function that is called, and
-- the one whose thread is created; and which functions are roots
pub record Layout : Type 0 where
  pub function : ℕ → ℕ
  pub is_cond : ℕ → Bool
  pub constant : ℕ → Option ℤ
  pub callee : ℕ → Option ℕ
  pub created : ℕ → Option ℕ
  pub is_root : ℕ → Bool

-- a condition may come to be 0, or not
abbrev pub MayBe : Bool → Option ℤ → Type 0
MayBe nought None = Unit {0}
MayBe nought (Some v) = is_zero v ≡ nought

-- control passes the place: it is of a node of its kind, and not dead
abbrev pub Live : Layout → Place → Type 0
Live y (Start f) = Unit {0}
Live y (After n) = y.is_cond n.number ≡ false
Live y (True n) = (y.is_cond n.number ≡ true) × MayBe false (y.constant n.number)
Live y (False n) = (y.is_cond n.number ≡ true) × MayBe true (y.constant n.number)

-- the function in which a place stands
abbrev pub place_function : Layout → Place → ℕ
place_function y (Start f) = f.number
place_function y (After n) = y.function n.number
place_function y (True n) = y.function n.number
place_function y (False n) = y.function n.number

-- the node that a place leaves
abbrev pub source : Place → Option ℕ
source (Start f) = None
source (After n) = Some n.number
source (True n) = Some n.number
source (False n) = Some n.number

-- between two visits: some operations of the place passed last are still to be made, and then control goes on
pub record Between (c : Code) (y : Layout) (of : FnId) (last : Place) (work : List Item) : Type 0 where
  pub live : Live y last
  pub function : place_function y last ≡ of.number
  pub passed : List Op
  pub left : List Op
  pub ops : passed ++ left ≡ c.ops last
  pub rest : work ≡ map item.Op left ++ go_to (c.next last) ∷ []

-- an item of this node
abbrev pub OperandOf : ℕ → Option Operand → Type 0
OperandOf n None = Unit {0}
OperandOf n (Some r) = r.node.number ≡ n

-- an action of this node: its accesses are the node's, and it calls or creates what the layout says
abbrev pub ActionOf : Layout → ℕ → Action → Type 0
ActionOf y n (action.Get site) = site.access.node.number ≡ n
ActionOf y n (action.GetKeep site) = site.access.node.number ≡ n
ActionOf y n (action.Put site) = site.access.node.number ≡ n
ActionOf y n (action.Call g) = y.callee n ≡ Some g.number
ActionOf y n (action.Create target g) = y.created n ≡ Some g.number
ActionOf y n _ = Unit {0}

-- the items of a part of this node
abbrev pub InPart : Layout → ℕ → List Item → Type 0
InPart y n [] = Unit {0}
InPart y n (item.Op o ∷ work) = ⊥
InPart y n (item.Reduce r ∷ work) = OperandOf n (operand_in r) × InPart y n work
InPart y n (item.Act a ∷ work) = ActionOf y n a × InPart y n work
InPart y n (item.Go g ∷ work) = ⊥

-- the work of a visit of this node
abbrev pub InVisit : Layout → ℕ → List Item → Type 0
InVisit y n [] = ⊥
InVisit y n (item.Op o ∷ work) = ⊥
InVisit y n (item.Reduce r ∷ work) = OperandOf n (operand_in r) × InVisit y n work
InVisit y n (item.Act a ∷ work) = ActionOf y n a × InVisit y n work
InVisit y n (item.Go (move.Node k) ∷ work) = ⊥
InVisit y n (item.Go (move.Branch k) ∷ work) = (k.number ≡ n) × (y.is_cond n ≡ true) × (work ≡ [])
InVisit y n (item.Go (move.Edge k) ∷ work) = (k.number ≡ n) × (y.is_cond n ≡ false) × (work ≡ [])
InVisit y n (item.Go move.Exit ∷ work) = ⊥

-- the visit of a condition that is a number, before and after its item
abbrev pub Fixed : Option ℤ → ℕ → List ℤ → List Item → Type 0
Fixed None n vs work = Unit {0}
Fixed (Some v) n vs work =
    (work ≡ item.Reduce (reduction.Push v) ∷ item.Go (move.Branch (node n)) ∷ []) ⊎ ((work ≡ item.Go (move.Branch (node n)) ∷ []) × (last_value vs ≡ v))

-- in a visit of node n: the frame is of the node's function, and has items of the node still to do
pub record Visiting (y : Layout) (of : FnId) (n : ℕ) (vs : List ℤ) (work : List Item) : Type 0 where
  pub function : y.function n ≡ of.number
  pub does : InVisit y n work
  pub fixed : Fixed (y.constant n) n vs work

-- a frame stands between two visits, or in one
abbrev pub Stands : Code → Layout → FnId → Option NodeId → Place → List ℤ → List Item → Type 0
Stands c y of None last vs work = Between c y of last work
Stands c y of (Some n) last vs work = Visiting y of n.number vs work

-- a frame of this function lies over frames of which the top one visits a call of it; at the bottom it is of a root
abbrev pub Calls : Layout → ℕ → Option NodeId → Type 0
Calls y f None = ⊥
Calls y f (Some n) = y.callee n.number ≡ Some f

-- what lies below a frame of function f
abbrev pub Under : Layout → ℕ → List Frame → Type 0
Under y f [] = y.is_root f ≡ true
Under y f (g ∷ below) = Calls y f g.visit

-- the code has the nodes and places of this layout
pub record IsLaidOut (c : Code) (y : Layout) : Type 0 where
  pub visits : (place : Place) (n : ℕ) → Live y place → c.next place ≡ Some n → InVisit y n (c.items n)
  pub along : (place : Place) (n : ℕ) → Live y place → c.next place ≡ Some n → y.function n ≡ place_function y place
  pub operands : (r : Operand) → InPart y r.node.number (c.operand r)
  pub fixed : (n : ℕ) (v : ℤ) → y.constant n ≡ Some v → c.items n ≡ item.Reduce (reduction.Push v) ∷ item.Go (move.Branch (node n)) ∷ []
  pub no_call : (n : ℕ) (v : ℤ) → y.constant n ≡ Some v → y.callee n ≡ None
  pub created : (n g : ℕ) → y.created n ≡ Some g → y.is_root g ≡ true
  pub main : y.is_root c.main ≡ true
