-- The members of a JSON object.
use Rattle.std.specs.Prelude.{ℕ, ◌&&◌, ◌^◌, nat_lt, nat_le, if◌then◌else◌, List, [], ◌∷◌, codes, Option, Some, None, option_map, option_and_then}
use Rattle.std.specs.Str.{bytes_eq}
use Rattle.cfix_base.specs.declared.access.Access.{Access}
use Rattle.cfix_base.specs.declared.access.Access.TheVariants.{Read, Write}
use Rattle.serde_json.specs.Data.{Data, Items, no_items, item}
use Rattle.serde_json.specs.Find.{get, as_number, as_u64, as_str, as_array}

-- a whole number from `low` to 4294967295; `4.0` is none
abbrev pub whole_from : ℕ → Data → Option ℕ
whole_from low value =
    option_and_then (λ n. if nat_le low n && nat_lt n (2 ^ 32) then Some n else None) (option_and_then as_u64 (as_number value))

-- the line that an object names
abbrev pub line_of : Data → Option ℕ
line_of value = option_and_then (whole_from 1) (get (codes "line") value)

abbrev pub nth_in : Option Data → Option ℕ
nth_in None = Some 0
nth_in (Some value) = whole_from 0 value

-- which of its kind on the line, from 0; 0 where the member is missing
abbrev pub nth_of : Data → Option ℕ
nth_of value = nth_in (get (codes "nth") value)

-- the string that is the member of this name
abbrev pub text_of : List ℕ → Data → Option (List ℕ)
text_of name value = option_and_then as_str (get name value)

abbrev pub access_named : List ℕ → Option Access
access_named text = if bytes_eq text (codes "read") then Some Read else (if bytes_eq text (codes "write") then Some Write else None)

-- the kind of access that an object names
abbrev pub access_of : Data → Option Access
access_of value = option_and_then access_named (text_of (codes "access") value)

-- the values of an array, in order
abbrev pub elements : Items → List Data
elements no_items = []
elements (item value more) = value ∷ elements more

abbrev pub elements_of : Data → Option (List Data)
elements_of value = option_map elements (as_array value)

-- each value is related to the item at its place, and there are as many of the ones as of the others
abbrev pub Each : {X : Type 0} → (Data → X → Type 0) → List Data → List X → Type 0
Each R [] [] = Unit {0}
Each R [] (x ∷ xs) = ⊥
Each R (value ∷ values) [] = ⊥
Each R (value ∷ values) (x ∷ xs) = R value x × Each R values xs
