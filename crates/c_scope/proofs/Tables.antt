-- An `IndexMap` with byte strings as keys, as a list of rows.
use Rattle.std.proofs.Common.{◌≡◌, ℕ, Bool, true, false, cond, List, [], ◌∷◌, Some, refl, ap, Vec}
use Rattle.std.specs.Str.{bytes_eq}
use Rattle.std.specs.Map.{lookup}
use Rattle.indexmap.specs.IndexMap.{insert_entry}
use Rattle.c_scope.specs.Tables.{rows_of, row_of, with_row}

pub lookup-rows : {G V : Type 0} (text : List ℕ) (es : List (Vec ℕ G × V)) → lookup (λ k. bytes_eq text k.items) es ≡ row_of text (rows_of es)
lookup-rows text [] = refl
lookup-rows text (e ∷ es) = ap (λ rest. cond (bytes_eq text e.0.items) (Some e.1) rest) (lookup-rows text es)

pub insert-rows : {G V : Type 0} (key : Vec ℕ G) (row : V) (es : List (Vec ℕ G × V))
    → rows_of (insert_entry (λ x y. bytes_eq x.items y.items) es key row) ≡ with_row key.items row (rows_of es)
insert-rows key row [] = refl
insert-rows {G} {V} key row (e ∷ es) = by (bytes_eq key.items e.0.items) (insert-rows key row es)
  where
    by : (b : Bool)
        → rows_of (insert_entry (λ (x y : Vec ℕ G). bytes_eq x.items y.items) es key row) ≡ with_row key.items row (rows_of es)
        → rows_of (cond b ((e.0, row) ∷ es) (e ∷ insert_entry (λ (x y : Vec ℕ G). bytes_eq x.items y.items) es key row))
        ≡ cond b ((e.0.items, row) ∷ rows_of es) ((e.0.items, e.1) ∷ with_row key.items row (rows_of es))
    by true rest = refl
    by false rest = ap (λ tail. (e.0.items, e.1) ∷ tail) rest

pub ruleset tables = (lookup-rows, insert-rows)
