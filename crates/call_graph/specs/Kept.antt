-- How a table of calls keeps callers and creations beside the nodes.
use Rattle.std.specs.Prelude.{◌≡◌, ◌<◌, ◌↔◌, Bool, List, [], ◌∷◌, ◌++◌, length, Option, Some, None, slice_index_or, slice_set}
use Rattle.cfix_base.specs.declared.number.FnId.{FnId}
use Rattle.cfix_base.specs.declared.number.NodeId.{NodeId}
use Rattle.call_graph.specs.declared.site.Site.{Site}
use Rattle.call_graph.specs.Calls.{AreCallers, IsCreated}
use Rattle.plan_types.specs.Sets.{IsIn, with_number}

-- the list at a place; past the last one, no nodes
abbrev pub list_at : List (List NodeId) → FnId → List NodeId
list_at lists function = slice_index_or lists function.number []

-- at the place of each function, its callers
abbrev pub HaveCallers : List Site → List (List NodeId) → Type 0
HaveCallers sites lists = (function : FnId) → function.number < length lists → AreCallers sites function (list_at lists function)

-- the functions below the size of the set whose thread some node creates
abbrev pub HasCreated : List Site → List Bool → Type 0
HasCreated sites set = (function : FnId) → function.number < length set → IsIn set function.number ↔ IsCreated sites function

-- both, for each function of a program
pub record AreKept (sites : List Site) (mains created : List Bool) (callers : List (List NodeId)) : Type 0 where
  pub callers_sized : length callers ≡ length mains
  pub created_sized : length created ≡ length mains
  pub callers_kept : HaveCallers sites callers
  pub created_kept : HasCreated sites created

-- the lists with one more node in that of the function that it calls, if there is that list
abbrev pub with_caller : List (List NodeId) → Option FnId → NodeId → List (List NodeId)
with_caller lists None node = lists
with_caller lists (Some function) node = slice_set lists function.number (list_at lists function ++ node ∷ [])

-- the set with the function whose thread a node creates, if it is below the size
abbrev pub with_created : List Bool → Option FnId → List Bool
with_created set None = set
with_created set (Some function) = with_number set function.number
