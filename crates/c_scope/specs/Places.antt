-- The places of names among the locals of a scope.
use Rattle.std.specs.Prelude.{◌≡◌, ℕ, List, [], ◌∷◌, Option, Some, None, length, reverse, if◌then◌else◌}
use Rattle.c_prog.specs.Valid.Scope as s
use Rattle.c_prog.specs.Valid.Scope.{is_named}
use Rattle.c_scope.specs.declared.entry.Entry.{Entry}
use Rattle.c_scope.specs.Tables.{row_of}
use Rattle.c_scope.specs.Views.{local_view}

abbrev pub entry_view : Entry → s.Local
entry_view entry = local_view entry.local

-- a place, where there is one
abbrev pub flat : Option (Option ℕ) → Option ℕ
flat None = None
flat (Some place) = place

-- the place of the innermost local of this name, where the latest local stands first
abbrev pub place_of : List ℕ → List Entry → Option ℕ
place_of text [] = None
place_of text (entry ∷ before) = if is_named text (entry_view entry) then Some (length before) else place_of text before

-- each local knows the place of the one that it hides
abbrev pub Hides : List Entry → Type 0
Hides [] = Unit {0}
Hides (entry ∷ before) = (entry.hidden ≡ place_of entry.local.name before) × Hides before

-- the places of all names, and of what each local hides
pub record Indexed (places : List (List ℕ × Option ℕ)) (locals : List Entry) : Type 0 where
  pub placed : (text : List ℕ) → flat (row_of text places) ≡ place_of text (reverse locals)
  pub hides : Hides (reverse locals)
