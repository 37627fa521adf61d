-- What the declarations of a body add to the scope, and how many locals its statements declare.
use Rattle.std.specs.Prelude.{ℕ, ◌+◌, List, [], ◌∷◌, map, length, Option, Some, None}
use Rattle.c_grammar.specs.Decl.{Hold, OneThread, Threads, LocalInt, OneLocal, SetLocal, LocalArray, Decl, Ints, Holds, LoopInt, OneLoop, SetLoop}
use Rattle.c_grammar.specs.Stmt.{First, FirstInts, FirstPlain, Stmt, Block, Nothing, Simply, Jumps, If, While, For, Else, NoElse, ElseDo, Items, NoItems, AndItem, Item, Declares, Does}
use Rattle.c_prog.specs.Valid.Scope.{int, int_array, thread, thread_array, Scope, declared, entered, passed}
use Rattle.c_prog.specs.Valid.Statements.{Declared}

-- the name that a declarator declares, and its kind
abbrev pub local_int_declared : LocalInt → Declared
local_int_declared (OneLocal x) = record { name = x.text; kind = int }
local_int_declared (SetLocal x at v) = record { name = x.text; kind = int }
local_int_declared (LocalArray x before n after) = record { name = x.text; kind = int_array }

abbrev pub hold_declared : Hold → Declared
hold_declared (OneThread x) = record { name = x.text; kind = thread }
hold_declared (Threads x before n after) = record { name = x.text; kind = thread_array }

abbrev pub loop_int_declared : LoopInt → Declared
loop_int_declared (OneLoop x) = record { name = x.text; kind = int }
loop_int_declared (SetLoop x at e) = record { name = x.text; kind = int }

-- the scope behind a declarator
abbrev pub with_local : Declared → Scope → Scope
with_local local scope = declared local.name local.kind scope

-- the scope behind declarators
abbrev pub with_locals : List Declared → Scope → Scope
with_locals [] scope = scope
with_locals (local ∷ more) scope = with_locals more (with_local local scope)

-- the declarators of a declaration
abbrev pub listed : {A B : Type 0} → A → List (B × A) → List A
listed x more = x ∷ map (λ y. y.1) more

-- what a declaration declares
abbrev pub decl_declared : Decl → List Declared
decl_declared (Ints at x more) = map local_int_declared (listed x more)
decl_declared (Holds at x more) = map hold_declared (listed x more)

-- what the first part of a `for` declares
abbrev pub first_declared : Option First → List Declared
first_declared None = []
first_declared (Some (FirstInts at x more)) = map loop_int_declared (listed x more)
first_declared (Some (FirstPlain p)) = []

-- the scope in a `for`, which is a block of its own (6.8.5 of ISO/IEC 9899:2011), behind its first part
abbrev pub in_for : Option First → Scope → Scope
in_for first scope = with_locals (first_declared first) (entered scope)

-- how many locals a statement declares
abbrev mutual
  pub stmt_locals : Stmt → ℕ
  stmt_locals (Block before items after) = items_locals items
  stmt_locals (Nothing end) = 0
  stmt_locals (Simply simple end ops) = 0
  stmt_locals (Jumps jump) = 0
  stmt_locals (If at before c after st e) = stmt_locals st + else_locals e
  stmt_locals (While at before c after st) = stmt_locals st
  stmt_locals (For at before first end c end2 step after st) = length (first_declared first) + stmt_locals st

  pub else_locals : Else → ℕ
  else_locals NoElse = 0
  else_locals (ElseDo at st) = stmt_locals st

  pub items_locals : Items → ℕ
  items_locals NoItems = 0
  items_locals (AndItem i more) = item_locals i + items_locals more

  pub item_locals : Item → ℕ
  item_locals (Declares decl end ops) = length (decl_declared decl)
  item_locals (Does st) = stmt_locals st

-- the scope behind an item of a block
abbrev pub item_after : Scope → Item → Scope
item_after scope (Declares decl end ops) = with_locals (decl_declared decl) scope
item_after scope (Does st) = passed (stmt_locals st) scope
