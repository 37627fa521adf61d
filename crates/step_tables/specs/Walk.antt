-- What is left to be kept while the statements of a function are walked.
use Rattle.std.specs.Prelude.{◌≡◌, ℕ, ◌+◌, ◌++◌, List, map, length}
use Rattle.c_prog.specs.declared.act.LocalKind.{LocalKind}
use Rattle.c_prog.specs.Order.{Node}
use Rattle.step_tables.specs.declared.row.Row.{Row}
use Rattle.step_tables.specs.Kept.{kept, kept_from, nodes_locals, HaveRoom}

-- keeping the nodes that are left gives what keeping all of them gives, and there is room for them
pub record IsLeft (of params : ℕ) (all : List Node) (old : List Row) (before : List LocalKind) (left : List Node) (new : List Row) (after : List LocalKind) : Type 0 where
  pub rows : map kept new ++ kept_from of (length new) (params + length after) left ≡ map kept old ++ kept_from of (length old) (params + length before) all
  pub locals : after ++ nodes_locals left ≡ before ++ nodes_locals all
  pub room : HaveRoom (length new) (params + length after) left
