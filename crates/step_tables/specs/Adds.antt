-- What building a part of a node adds to its items and to its sheet.
use Rattle.std.specs.Prelude.{◌≡◌, ◌++◌, List, map, length}
use Rattle.cfix_base.specs.declared.number.VarId.{VarId}
use Rattle.c_prog.specs.declared.access_item.Touch.{Touch}
use Rattle.step_state.specs.declared.item.Item.{Item}
use Rattle.step_state.specs.Parts.{At, Part, past}
use Rattle.step_tables.specs.declared.sheet.Sheet.{Sheet}

-- where the next part of the node stands
abbrev pub at : Sheet → At
at sheet = record { node = sheet.node.number; touch = length sheet.variables; operator = length sheet.operands }

-- the variables of accesses
abbrev pub variables : List Touch → List VarId
variables touches = map (λ touch. touch.var) touches

-- a part with these accesses was added
pub record Adds (part : Part) (touches : List Touch) (old : List Item) (sheet : Sheet) (new : List Item) (next : Sheet) : Type 0 where
  pub items : new ≡ old ++ part.items (at sheet)
  pub operands : next.operands ≡ sheet.operands ++ part.operands (at sheet)
  pub variables : next.variables ≡ sheet.variables ++ variables touches
  pub place : at next ≡ past part (at sheet)

-- what is left to be added gives what the whole gives
pub record Leaves (whole : Part) (all : List Touch) (old : List Item) (sheet : Sheet)
    (rest : Part) (left : List Touch) (new : List Item) (next : Sheet) : Type 0 where
  pub items : new ++ rest.items (at next) ≡ old ++ whole.items (at sheet)
  pub operands : next.operands ++ rest.operands (at next) ≡ sheet.operands ++ whole.operands (at sheet)
  pub variables : next.variables ++ variables left ≡ sheet.variables ++ variables all
  pub place : past rest (at next) ≡ past whole (at sheet)
