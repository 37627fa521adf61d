-- The values of an array.
use Rattle.std.proofs.Common.{◌≡◌, List, [], ◌∷◌, refl, ap, sym, ◌∙◌, Option, Some}
use Rattle.std.specs.Option.{option_map}
use Rattle.serde_json.specs.Data.{Data, Items}
use Rattle.serde_json.specs.View.{items_of}
use Rattle.report_json.specs.Members.{elements}

elements-items_of : (values : List Data) → elements (items_of values) ≡ values
elements-items_of [] = refl
elements-items_of (value ∷ values) = ap (λ (z : List Data). value ∷ z) (elements-items_of values)

-- the elements of an array that was seen as these values
pub elements_seen : (values : List Data) (found : Option Items) → Some (items_of values) ≡ found → Some values ≡ option_map elements found
elements_seen values found is = ap Some (sym (elements-items_of values)) ∙ ap (option_map elements) is
