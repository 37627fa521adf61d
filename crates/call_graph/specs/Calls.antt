-- Calls, callers, creations of threads, and roots.
use Rattle.std.specs.Prelude.{◌≡◌, ◌<◌, ◌↔◌, ◌⊎◌, List, Option, Some, None, slice_get}
use Rattle.std.specs.List.{AllPairs, Contains}
use Rattle.cfix_base.specs.declared.number.FnId.{FnId}
use Rattle.cfix_base.specs.declared.number.NodeId.{NodeId}
use Rattle.call_graph.specs.declared.site.Site.{Site}
use Rattle.call_graph.specs.Sites.{CallGraph}
use Rattle.plan_types.specs.Sets.{IsIn}

abbrev pub site_function : Option Site → Option FnId
site_function None = None
site_function (Some site) = Some site.of

abbrev pub site_callee : Option Site → Option FnId
site_callee None = None
site_callee (Some site) = site.callee

abbrev pub site_created : Option Site → Option FnId
site_created None = None
site_created (Some site) = site.created

-- the function in which a node stands, if there is such a node
abbrev pub function_of : List Site → NodeId → Option FnId
function_of sites node = site_function (slice_get sites node.number)

-- the function that a node calls, if it is a call; the creation of a thread is no call
abbrev pub callee_of : List Site → NodeId → Option FnId
callee_of sites node = site_callee (slice_get sites node.number)

-- the function whose thread a node creates, if it is a creation
abbrev pub created_of : List Site → NodeId → Option FnId
created_of sites node = site_created (slice_get sites node.number)

-- the nodes that call the function, in rising order
pub record AreCallers (sites : List Site) (function : FnId) (nodes : List NodeId) : Type 0 where
  pub calls : (node : NodeId) → Contains nodes node ↔ (callee_of sites node ≡ Some function)
  pub rising : AllPairs (λ one other. one.number < other.number) nodes

-- some node creates a thread of the function; a node that control never meets counts too
abbrev pub IsCreated : List Site → FnId → Type 0
IsCreated sites function = (node : NodeId) × (created_of sites node ≡ Some function)

-- a function in which a thread begins: main, or a function whose thread some node creates
abbrev pub IsRoot : CallGraph → FnId → Type 0
IsRoot graph function = IsIn graph.mains function.number ⊎ IsCreated graph.sites function
