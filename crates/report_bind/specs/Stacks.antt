-- The calls that the stacks of a report mean.
use Rattle.std.specs.Prelude.{ℕ, ◌+◌, Bool, false, ◌&&◌, ◌==◌, List, [], ◌∷◌, ◌++◌, slice_get, filter, Option, Some, None, if◌then◌else◌}
use Rattle.std.specs.Str.{bytes_eq}
use Rattle.cfix_base.specs.declared.access.AccessId.{AccessId}
use Rattle.cfix_base.specs.declared.number.FnId.{FnId}
use Rattle.cfix_base.specs.declared.number.NodeId.{NodeId}
use Rattle.c_prog.specs.declared.function.Function.{Function}
use Rattle.c_prog.specs.declared.tree.Tree.{Tree}
use Rattle.c_prog.specs.Lines.{SourceTree, tree_calls, call_line}
use Rattle.call_graph.specs.Calls.{function_of, callee_of}
use Rattle.call_graph.specs.Sites.{calls_of}
use Rattle.call_graph.specs.declared.site.Site as call_module
use Rattle.report_bind.specs.declared.found.Stack.{Stack}
use Rattle.report_bind.specs.Sites.{is_line}
use Rattle.report_json.specs.declared.report.CallSite.{CallSite}

-- the function of this name, among functions whose numbers begin here
abbrev pub named_from : ℕ → List Function → List ℕ → Option FnId
named_from number [] name = None
named_from number (function ∷ rest) name =
    if bytes_eq function.name name then Some (record { number = number }) else named_from (number + 1) rest name

abbrev pub function_named : Tree → List ℕ → Option FnId
function_named tree name = named_from 0 tree.functions name

-- whether a function is known and is this one
abbrev pub is_function : Option FnId → FnId → Bool
is_function None function = false
is_function (Some other) function = other.number == function.number

-- the functions in which the nodes of a program stand, and those that they call
abbrev pub nodes_of : SourceTree → List call_module.Site
nodes_of source = (calls_of source.tree).sites

-- a node of one function that calls another, and the called name stands on this line
abbrev pub is_call : SourceTree → FnId → FnId → ℕ → NodeId → Bool
is_call source outer inner line node =
    is_function (function_of (nodes_of source) node) outer
    && (is_function (callee_of (nodes_of source) node) inner && is_line (call_line source.lines node) line)

-- the node that a call of a stack means: of those, by their numbers, the one at its place, from 0
abbrev pub call_in : SourceTree → CallSite → Option FnId → Option FnId → Option NodeId
call_in source call None inner = None
call_in source call (Some outer) None = None
call_in source call (Some outer) (Some inner) =
    slice_get (filter (is_call source outer inner call.line) (tree_calls source.tree)) call.nth

-- the function that the outermost call of a stack names; without calls, the function of the access
abbrev pub outermost : Tree → List CallSite → Option FnId → Option FnId
outermost tree [] own = own
outermost tree (call ∷ rest) own = function_named tree call.of

abbrev pub both : Option NodeId → Option (List NodeId) → Option (List NodeId)
both None rest = None
both (Some node) None = None
both (Some node) (Some rest) = Some (node ∷ rest)

-- the nodes that the calls of a stack mean: each calls the function of the next, and the last one the
-- function of the access
abbrev pub calls_in : SourceTree → List CallSite → Option FnId → Option (List NodeId)
calls_in source [] own = Some []
calls_in source (call ∷ rest) own =
    both (call_in source call (function_named source.tree call.of) (outermost source.tree rest own)) (calls_in source rest own)

abbrev pub stack_with : Option FnId → Option (List NodeId) → Option Stack
stack_with None calls = None
stack_with (Some function) None = None
stack_with (Some function) (Some calls) = Some (record { function = function; calls = calls })

-- what a stack of an access means
abbrev pub stack_of : SourceTree → List CallSite → AccessId → Option Stack
stack_of source stack access =
    stack_with (outermost source.tree stack (function_of (nodes_of source) access.node))
    (calls_in source stack (function_of (nodes_of source) access.node))

-- these nodes, and then those that the rest of a stack means
abbrev pub prepended : List NodeId → Option (List NodeId) → Option (List NodeId)
prepended nodes None = None
prepended nodes (Some rest) = Some (nodes ++ rest)
