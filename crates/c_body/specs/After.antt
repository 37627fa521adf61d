-- The scope behind the items of a block, and a `for` with what its first part spells.
use Rattle.std.specs.Prelude.{List, [], ◌∷◌, ◌++◌, Option, Some, None}
use Rattle.c_grammar.specs.Stmt.{Items, NoItems, AndItem}
use Rattle.c_prog.specs.declared.stmt.Stmt.{Stmt}
use Rattle.c_prog.specs.declared.stmt.Stmt.TheVariants as stmt
use Rattle.c_prog.specs.Valid.Scope.{Scope}
use Rattle.c_names.specs.Scopes.{item_after}

-- behind all of them
abbrev pub items_after : Scope → Items → Scope
items_after scope NoItems = scope
items_after scope (AndItem i more) = items_after (item_after scope i) more

-- a `for` with a first part is a block of that part and the loop
abbrev pub with_first : Option (List Stmt) → Stmt → Stmt
with_first None loop = loop
with_first (Some first) loop = stmt.Block (first ++ loop ∷ [])
