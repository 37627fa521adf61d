-- What a file says of the names that it declares.
use Rattle.std.specs.Prelude.{ℕ, false, true, ◌||◌, List, [], ◌∷◌, map, Option, Some, None, if◌then◌else◌}
use Rattle.std.specs.Str.{bytes_eq}
use Rattle.std.specs.declared.vec.Vec.{Vec}
use Rattle.c_prog.specs.declared.function.FnKind.{FnKind}
use Rattle.c_names.specs.Uses.{Known, Names}
use Rattle.c_scope.specs.declared.table.Meaning.{Meaning}
use Rattle.c_scope.specs.declared.table.Meaning.TheVariants.{Variable, Function, Number}
use Rattle.c_scope.specs.declared.table.Row.{Row}
use Rattle.c_scope.specs.Views.{meaning_view}

-- each declared name with what the file says of it
abbrev pub Rows : Type 0
Rows = List (List ℕ × Row)

-- what a table keeps, by the bytes of its names
abbrev pub rows_of : {G V : Type 0} → List (Vec ℕ G × V) → List (List ℕ × V)
rows_of es = map (λ e. (e.0.items, e.1)) es

-- the row of a name
abbrev pub row_of : {V : Type 0} → List ℕ → List (List ℕ × V) → Option V
row_of text [] = None
row_of text (e ∷ es) = if bytes_eq text e.0 then Some e.1 else row_of text es

-- with this row for the name
abbrev pub with_row : {V : Type 0} → List ℕ → V → List (List ℕ × V) → List (List ℕ × V)
with_row text row [] = (text, row) ∷ []
with_row text row (e ∷ es) = if bytes_eq text e.0 then (e.0, row) ∷ es else e ∷ with_row text row es

-- what a declaration says of its name alone
abbrev pub fresh : Meaning → Row
fresh (Variable n kind) = record { first = Variable n kind; form = None; is_defined = false }
fresh (Function n kind params) = record { first = Function n kind params; form = Some (kind, params); is_defined = false }
fresh (Number value) = record { first = Number value; form = None; is_defined = true }

abbrev pub form_or : Option (FnKind × ℕ) → Option (FnKind × ℕ) → Option (FnKind × ℕ)
form_or None other = other
form_or (Some form) other = Some form

-- what a declaration adds to what is said of its name before it
abbrev pub joined : Option Row → Meaning → Row
joined None meaning = fresh meaning
joined (Some row) meaning = record {
  first = row.first;
  form = form_or row.form (fresh meaning).form;
  is_defined = row.is_defined || (fresh meaning).is_defined;
}

-- a name that the file does not declare has no row
abbrev pub known_of : Option Row → Known
known_of None = record { first = None; form = None; is_defined = false }
known_of (Some row) = record { first = Some (meaning_view row.first); form = row.form; is_defined = row.is_defined }

-- what a table says of each name
abbrev pub names_from : Rows → Names
names_from rows text = known_of (row_of text rows)
