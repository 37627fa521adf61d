-- The accesses that the sites of a report mean.
use Rattle.std.specs.Prelude.{ℕ, Bool, true, false, ◌&&◌, ◌==◌, List, [], slice_get, filter, Option, Some, None}
use Rattle.std.specs.Str.{bytes_eq}
use Rattle.cfix_base.specs.declared.access.Access.{Access}
use Rattle.cfix_base.specs.declared.access.Access.TheVariants.{Read, Write}
use Rattle.cfix_base.specs.declared.number.VarId.{VarId}
use Rattle.c_prog.specs.declared.access_item.AccessItem.{AccessItem}
use Rattle.c_prog.specs.declared.global.Global.{Global}
use Rattle.c_prog.specs.declared.tree.Tree.{Tree}
use Rattle.c_prog.specs.Lines.{SourceTree, tree_accesses, access_line}
use Rattle.report_json.specs.declared.report.Site.{Site}

-- the name of a global variable, if there is one
abbrev pub name_of : Option Global → List ℕ
name_of None = []
name_of (Some global) = global.name

abbrev pub variable_name : Tree → VarId → List ℕ
variable_name tree var = name_of (slice_get tree.globals var.number)

abbrev pub same_kind : Access → Access → Bool
same_kind Read Read = true
same_kind Write Write = true
same_kind _ _ = false

-- whether a line is known and is this one
abbrev pub is_line : Option ℕ → ℕ → Bool
is_line None line = false
is_line (Some other) line = other == line

-- an access to the variable that the site names, of its kind
abbrev pub is_of : Tree → Site → AccessItem → Bool
is_of tree site item = same_kind item.access site.access && bytes_eq (variable_name tree item.var) site.var

-- such an access, whose name stands on the site's line
abbrev pub is_meant : SourceTree → Site → AccessItem → Bool
is_meant source site item = is_line (access_line source.lines item.id) site.line && is_of source.tree site item

-- the access that a site means: of those, by node and then in evaluation order, the one at its place, from 0
abbrev pub site_of : SourceTree → Site → Option AccessItem
site_of source site = slice_get (filter (is_meant source site) (tree_accesses source.tree)) site.nth
