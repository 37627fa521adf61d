-- What follows where a list of faults is empty.
use Rattle.std.proofs.Common.{◌≡◌, Bool, true, false, List, [], ◌∷◌, ◌++◌, refl, ◌∙◌}
use Rattle.std.proofs.lemmas.Bool.{and_from}
use Rattle.std.proofs.lemmas.List.Folds.{list_all-append}
use Rattle.std.specs.List.{list_all}
use Rattle.cfix_base.specs.declared.Spot.{Spot}
use Rattle.c_grammar.specs.Marks.{each}
use Rattle.c_names.specs.declared.fault.Fault.{Fault}
use Rattle.c_names.specs.declared.fault.FaultKind.{FaultKind}
use Rattle.c_names.specs.Faults.{fault_if}

-- parts of an empty list
module _ {A : Type 0} where
  pub none-left : (xs ys : List A) → xs ++ ys ≡ [] → xs ≡ []
  none-left [] ys none = refl
  none-left (x ∷ xs) ys none = absurd cc

  pub none-right : (xs ys : List A) → xs ++ ys ≡ [] → ys ≡ []
  none-right [] ys none = none
  none-right (x ∷ xs) ys none = absurd cc

-- a test that would give a fault does not hold
pub no_fault : (test : Bool) (spot : Spot) (kind : FaultKind) → fault_if test spot kind ≡ [] → test ≡ false
no_fault true spot kind none = absurd cc
no_fault false spot kind none = refl

-- what passes a test of lists, one behind the other
pub all-append : {A : Type 0} (p : A → Bool) (xs ys : List A) → list_all p xs ≡ true → list_all p ys ≡ true → list_all p (xs ++ ys) ≡ true
all-append p xs ys on_xs on_ys = list_all-append p xs ys ∙ and_from (list_all p xs) (list_all p ys) on_xs on_ys

-- where the parts of a list without faults spell what passes a test, so does the list
module _ {A B : Type 0} (faults : A → List Fault) (of : A → List B) (p : B → Bool) (part : (a : A) → faults a ≡ [] → list_all p (of a) ≡ true) where
  pub all-each : (list : List A) → each faults list ≡ [] → list_all p (each of list) ≡ true
  all-each [] none = refl
  all-each (a ∷ more) none =
      all-append p (of a) (each of more) (part a (none-left (faults a) (each faults more) none)) (all-each more (none-right (faults a) (each faults more) none))
