-- What a machine reads of its program: look-ups by the numbers of nodes, places and functions.
use Rattle.std.specs.Prelude.{ℕ, Bool, List, [], ◌∷◌, ◌++◌, map, Option, Some, None}
use Rattle.cfix_base.specs.declared.number.NodeId.{NodeId}
use Rattle.cfix_base.specs.declared.number.FnId.{FnId}
use Rattle.cfix_base.specs.declared.number.OrderId.{OrderId}
use Rattle.cfix_base.specs.declared.op.Op.{Op}
use Rattle.cfix_base.specs.declared.place.Place.{Place}
use Rattle.c_prog.specs.declared.act.LocalKind.{LocalKind}
use Rattle.c_prog.specs.declared.global.GlobalKind.{GlobalKind}
use Rattle.step_state.specs.declared.item.Item.{Item}
use Rattle.step_state.specs.declared.item.Item.TheVariants as item
use Rattle.step_state.specs.declared.item.Move.TheVariants as move
use Rattle.step_state.specs.declared.item.Operand.{Operand}

-- the node and the function with this number
abbrev pub node : ℕ → NodeId
node n = record { number = n }

abbrev pub fn_id : ℕ → FnId
fn_id n = record { number = n }

-- The items of a node, and of the right operand of an `&&` or `||`; the operations at a place, and the node that control
-- meets after it, or the exit; the string of a printf, and whether a node is a `return` with a value; how many parameters
-- a function has, and what it declares; the global variables; main; the orders that begin with a token;
-- how many inserted locks and how many orders there are.
pub record Code : Type 0 where
  pub items : ℕ → List Item
  pub operand : Operand → List Item
  pub ops : Place → List Op
  pub next : Place → Option ℕ
  pub text : ℕ → List ℕ
  pub gives : ℕ → Bool
  pub params : ℕ → ℕ
  pub locals : ℕ → List LocalKind
  pub globals : List GlobalKind
  pub main : ℕ
  pub starts : List OrderId
  pub locks : ℕ
  pub orders : ℕ

-- what a frame does when control is at the node, or at the exit
abbrev pub go_to : Option ℕ → Item
go_to None = item.Go move.Exit
go_to (Some n) = item.Go (move.Node (node n))

-- the work after a place: its operations, and then the next node or the exit
abbrev pub arrive : Code → Place → List Item
arrive c place = map item.Op (c.ops place) ++ go_to (c.next place) ∷ []
