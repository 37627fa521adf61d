-- What one call after another notes, and the lines that they add.
use Rattle.std.proofs.Common.{◌≡◌, List, ◌++◌, Option, ap, sym, ◌∙◌, append_assoc}
use Rattle.c_names.specs.declared.fault.Fault.{Fault}
use Rattle.c_names.specs.Faults.{noted_all}
use Rattle.c_scope.proofs.Faults.{noted_all-append}

pub noted-both : {b d : Option Fault} (a : Option Fault) (fs gs : List Fault) → b ≡ noted_all a fs → d ≡ noted_all b gs → d ≡ noted_all a (fs ++ gs)
noted-both {b} {d} a fs gs first next = next ∙ ap (λ l. noted_all l gs) first ∙ sym (noted_all-append a fs gs)

pub lined-both : {A : Type 0} {b d : List A} (a xs ys : List A) → b ≡ a ++ xs → d ≡ b ++ ys → d ≡ a ++ (xs ++ ys)
lined-both {A} {b} {d} a xs ys first next = next ∙ ap (λ l. l ++ ys) first ∙ append_assoc a xs ys
