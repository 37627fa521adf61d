-- Tokens of one order: what its operations are, what frames owe, and what holds in each configuration of a run.
use Rattle.std.specs.Prelude.{◌≡◌, ◌⊎◌, ℕ, ◌+◌, ◌-◌, ◌<◌, Bool, true, false, ◌==◌, ◌&&◌, List, [], ◌∷◌, ◌++◌, Option, Some, None, slice_index}
use Rattle.cfix_base.specs.declared.access.AccessId.{AccessId}
use Rattle.cfix_base.specs.declared.number.NodeId.{NodeId}
use Rattle.cfix_base.specs.declared.op.Op.{Op}
use Rattle.cfix_base.specs.declared.op.Op.TheVariants.{Leave, First, Done, Wait, Enter, Add}
use Rattle.cfix_base.specs.declared.place.Place.{Place}
use Rattle.cfix_base.specs.declared.place.Place.TheVariants.{Start, After, True, False}
use Rattle.step_state.specs.declared.item.Item.{Item}
use Rattle.step_state.specs.declared.item.Item.TheVariants as item
use Rattle.step_state.specs.declared.item.Action.TheVariants as action
use Rattle.step_state.specs.declared.item.Move.{Move}
use Rattle.step_state.specs.declared.item.Operand.{Operand}
use Rattle.step_state.specs.declared.item.Move.TheVariants as move
use Rattle.step_state.specs.declared.frame.Frame.{Frame}
use Rattle.step_state.specs.declared.thread.Thread.{Thread}
use Rattle.step_state.specs.declared.state.Configuration.{Configuration}
use Rattle.step_state.specs.Code.{Code, fn_id}
use Rattle.layout_laws.specs.Layout.{Layout, Live, source}
use Rattle.lock_laws.specs.Guard.{bit, in_set}

-- how often operations add a token of order j
abbrev pub adds : ℕ → List Op → ℕ
adds j [] = 0
adds j (Add i ∷ ops) = bit (i.number == j) + adds j ops
adds j (Leave i ∷ ops) = adds j ops
adds j (First i ∷ ops) = adds j ops
adds j (Done i ∷ ops) = adds j ops
adds j (Wait i ∷ ops) = adds j ops
adds j (Enter i ∷ ops) = adds j ops

-- how often they take one
abbrev pub dones : ℕ → List Op → ℕ
dones j [] = 0
dones j (Done i ∷ ops) = bit (i.number == j) + dones j ops
dones j (Leave i ∷ ops) = dones j ops
dones j (First i ∷ ops) = dones j ops
dones j (Wait i ∷ ops) = dones j ops
dones j (Enter i ∷ ops) = dones j ops
dones j (Add i ∷ ops) = dones j ops

-- how often they wait for order j
abbrev pub waits : ℕ → List Op → ℕ
waits j [] = 0
waits j (Wait i ∷ ops) = bit (i.number == j) + waits j ops
waits j (Leave i ∷ ops) = waits j ops
waits j (First i ∷ ops) = waits j ops
waits j (Done i ∷ ops) = waits j ops
waits j (Enter i ∷ ops) = waits j ops
waits j (Add i ∷ ops) = waits j ops

-- how often they set its flag
abbrev pub firsts : ℕ → List Op → ℕ
firsts j [] = 0
firsts j (First i ∷ ops) = bit (i.number == j) + firsts j ops
firsts j (Leave i ∷ ops) = firsts j ops
firsts j (Done i ∷ ops) = firsts j ops
firsts j (Wait i ∷ ops) = firsts j ops
firsts j (Enter i ∷ ops) = firsts j ops
firsts j (Add i ∷ ops) = firsts j ops

-- the first node of a function
abbrev pub first_of : Code → ℕ → Option ℕ
first_of c f = c.next (Start (fn_id f))

-- a node of a root that may come to a
abbrev pub owes : (ℕ → Bool) → (ℕ → Bool) → ℕ → Bool
owes comes root n = root n && comes n

-- a place's node, where a start counts as what control meets first
abbrev pub before_set : Code → (ℕ → Bool) → Place → ℕ
before_set c set (Start f) = in_set set (first_of c f.number)
before_set c set (After n) = bit (set n.number)
before_set c set (True n) = bit (set n.number)
before_set c set (False n) = bit (set n.number)

-- whether a node creates a thread that may come to a
abbrev pub created_comes : Code → (ℕ → Bool) → Option ℕ → ℕ
created_comes c comes None = 0
created_comes c comes (Some g) = in_set comes (first_of c g)

-- and whether the node that comes next does
abbrev pub creates : Code → Layout → (ℕ → Bool) → Option ℕ → ℕ
creates c y comes None = 0
creates c y comes (Some n) = created_comes c comes (y.created n)

-- the nodes a and b of order j, and the nodes that may come to a
pub record Signals (c : Code) (y : Layout) (j a b : ℕ) (comes root : ℕ → Bool) : Type 0 where
  pub comes_a : comes a ≡ true
  pub comes_on : (place : Place) (u v : ℕ) → Live y place → source place ≡ Some u → c.next place ≡ Some v → comes v ≡ true → comes u ≡ true
  pub comes_call : (n g v : ℕ) → y.callee n ≡ Some g → first_of c g ≡ Some v → comes v ≡ true → comes n ≡ true
  pub comes_create : (n g v : ℕ) → y.created n ≡ Some g → first_of c g ≡ Some v → comes v ≡ true → comes n ≡ true
  pub roots : (n : ℕ) → root n ≡ y.is_root (y.function n)
  pub never_called : (n g : ℕ) → y.callee n ≡ Some g → y.is_root g ≡ false
  pub added : (place : Place) → Live y place → adds j (c.ops place) ≡ creates c y comes (c.next place)
  pub done : (place : Place) → Live y place → dones j (c.ops place) ≡ before_set c (owes comes root) place - in_set (owes comes root) (c.next place)
  pub waited : (place : Place) → Live y place → c.next place ≡ Some b → 0 < waits j (c.ops place)
  pub first : (place : Place) → Live y place → 0 < firsts j (c.ops place) → source place ≡ Some a

-- the creations that are still to come in the work of a visit
abbrev pub to_create : Code → (ℕ → Bool) → List Item → ℕ
to_create c comes [] = 0
to_create c comes (item.Op o ∷ work) = to_create c comes work
to_create c comes (item.Reduce r ∷ work) = to_create c comes work
to_create c comes (item.Act (action.Create target g) ∷ work) = in_set comes (first_of c g.number) + to_create c comes work
to_create c comes (item.Act a ∷ work) = to_create c comes work
to_create c comes (item.Go g ∷ work) = 0

-- what a frame on an edge owes: of the node that comes next, by the adds and dones that are still to be made
abbrev pub due_op : ℕ → Op → ℕ → ℕ
due_op j (Add i) n = n - bit (i.number == j)
due_op j (Done i) n = bit (i.number == j) + n
due_op j (Leave i) n = n
due_op j (First i) n = n
due_op j (Wait i) n = n
due_op j (Enter i) n = n

-- what a frame owes that goes on next
abbrev pub due_go : Code → Layout → (ℕ → Bool) → (ℕ → Bool) → Move → ℕ
due_go c y comes root (move.Node n) = bit (owes comes root n.number) + creates c y comes (Some n.number)
due_go c y comes root (move.Branch n) = 0
due_go c y comes root (move.Edge n) = 0
due_go c y comes root move.Exit = 0

-- what a frame on an edge owes
abbrev pub due_work : Code → Layout → ℕ → (ℕ → Bool) → (ℕ → Bool) → List Item → ℕ
due_work c y j comes root [] = 0
due_work c y j comes root (item.Op o ∷ work) = due_op j o (due_work c y j comes root work)
due_work c y j comes root (item.Reduce r ∷ work) = 0
due_work c y j comes root (item.Act a ∷ work) = 0
due_work c y j comes root (item.Go g ∷ work) = due_go c y comes root g

-- what a frame owes: in a visit what its node owes, and the creations that are still to come
abbrev pub due : Code → Layout → ℕ → (ℕ → Bool) → (ℕ → Bool) → Option NodeId → List Item → ℕ
due c y j comes root None work = due_work c y j comes root work
due c y j comes root (Some n) work = bit (owes comes root n.number) + to_create c comes work

-- what the frames of a thread owe
abbrev pub dues : Code → Layout → ℕ → (ℕ → Bool) → (ℕ → Bool) → List Frame → ℕ
dues c y j comes root [] = 0
dues c y j comes root (f ∷ below) = due c y j comes root f.visit f.work + dues c y j comes root below

-- what all threads owe
abbrev pub all_dues : Code → Layout → ℕ → (ℕ → Bool) → (ℕ → Bool) → List Thread → ℕ
all_dues c y j comes root [] = 0
all_dues c y j comes root (th ∷ ths) = dues c y j comes root th.frames + all_dues c y j comes root ths

-- the tokens are what all frames owe
pub record Counted (c : Code) (y : Layout) (j : ℕ) (comes root : ℕ → Bool) (s : Configuration) : Type 0 where
  pub tokens : slice_index s.tokens j ≡ all_dues c y j comes root s.threads

-- first-before: while no event of the access was made, no frame has passed its node, and the flag is not set
abbrev pub HasAccess : AccessId → List Item → Type 0
HasAccess id [] = ⊥
HasAccess id (item.Op o ∷ work) = HasAccess id work
HasAccess id (item.Reduce r ∷ work) = HasAccess id work
HasAccess id (item.Act (action.Get site) ∷ work) = (site.access ≡ id) ⊎ HasAccess id work
HasAccess id (item.Act (action.GetKeep site) ∷ work) = (site.access ≡ id) ⊎ HasAccess id work
HasAccess id (item.Act (action.Put site) ∷ work) = (site.access ≡ id) ⊎ HasAccess id work
HasAccess id (item.Act a ∷ work) = HasAccess id work
HasAccess id (item.Go g ∷ work) = ⊥

-- the frame has not passed the access's node, or has the access still to make
abbrev pub Unpassed : AccessId → Option NodeId → Place → List Item → Type 0
Unpassed id None last work = source last ≡ Some id.node.number → ⊥
Unpassed id (Some n) last work = n.number ≡ id.node.number → HasAccess id work

-- a visit of a node begins with the creation that the node makes, and right operands create nothing
pub record CreatesOnce (c : Code) (y : Layout) (comes : ℕ → Bool) : Type 0 where
  pub items : (place : Place) (n : ℕ) → Live y place → c.next place ≡ Some n → to_create c comes (c.items n) ≡ creates c y comes (Some n)
  pub operands : (r : Operand) (rest : List Item) → to_create c comes (c.operand r ++ rest) ≡ to_create c comes rest
