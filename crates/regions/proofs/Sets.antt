-- What is in the sets of one and of two numbers, and in a set that is gathered.
use Rattle.std.proofs.Common.{◌≡◌, ℕ, ◌+◌, ◌<◌, ◌⊎◌, Bool, true, false, List, length, inl, inr, ap, sym, ◌∙◌, subst, arith}
use Rattle.std.proofs.lemmas.Bool.{false≢true, cases_eq, cases_lt}
use Rattle.plan_types.specs.Sets.{no_numbers, is_in, IsIn, with_number}
use Rattle.plan_types.proofs.Sets.{is_in-no_numbers, is_in-with_same, is_in-with_other, size-with_number, size-no_numbers}
use Rattle.regions.specs.Between.{one_number, two_numbers, is_between, with_if, IsGathered}

pub one_only : (size u n : ℕ) → IsIn (one_number size u) n → n ≡ u
one_only size u n here = elim (cases_eq n u) [
  | inl same ↦ same
  | inr differs ↦
      absurd (false≢true (sym (is_in-with_other (no_numbers size) u n differs ∙ is_in-no_numbers size n) ∙ here))
]

pub one_has : (size u : ℕ) → u < size → IsIn (one_number size u) u
one_has size u below = is_in-with_same (no_numbers size) u (omega (arith, below, size-no_numbers size))

one_size : (size u : ℕ) → length (one_number size u) ≡ size
one_size size u = size-with_number (no_numbers size) u ∙ size-no_numbers size

pub two_only : (size u v n : ℕ) → IsIn (two_numbers size u v) n → (n ≡ u) ⊎ (n ≡ v)
two_only size u v n here = elim (cases_eq n v) [
  | inl same ↦ inr same
  | inr differs ↦ inl (one_only size u n (sym (is_in-with_other (one_number size u) v n differs) ∙ here))
]

pub two_has_last : (size u v : ℕ) → v < size → IsIn (two_numbers size u v) v
two_has_last size u v below = is_in-with_same (one_number size u) v (omega (arith, below, one_size size u))

pub two_has_first : (size u v : ℕ) → u < size → v < size → IsIn (two_numbers size u v) u
two_has_first size u v first last = elim (cases_eq u v) [
  | inl same ↦ subst (IsIn (two_numbers size u v)) (sym same) (two_has_last size u v last)
  | inr differs ↦ is_in-with_other (one_number size u) v u differs ∙ one_has size u first
]

-- before the first number nothing is gathered
pub gathered_none : (ahead behind : List Bool) (u v : ℕ) → IsGathered ahead behind u v 0 (no_numbers (length ahead))
gathered_none ahead behind u v = record {
  sized = size-no_numbers (length ahead);
  found = λ n below. absurd (omega (arith, below));
  rest = λ n above. is_in-no_numbers (length ahead) n;
}

-- one more number
pub gathered_more : (ahead behind set : List Bool) (u v i : ℕ) (b : Bool) → i < length ahead → b ≡ is_between ahead behind u v i
    → IsGathered ahead behind u v i set → IsGathered ahead behind u v (i + 1) (with_if b set i)
gathered_more ahead behind set u v i true within is old = record {
  sized = size-with_number set i ∙ old.sized;
  found = λ n below. elim (cases_eq n i) [
    | inl same ↦
        ap (is_in (with_number set i)) same ∙ is_in-with_same set i (omega (arith, within, old.sized)) ∙ is ∙ ap (is_between ahead behind u v) (sym same)
    | inr differs ↦ is_in-with_other set i n differs ∙ old.found n (omega (arith, below, differs))
  ];
  rest = λ n above. is_in-with_other set i n (omega (arith, above)) ∙ old.rest n (omega (arith, above));
}
gathered_more ahead behind set u v i false within is old = record {
  sized = old.sized;
  found = λ n below. elim (cases_eq n i) [
    | inl same ↦ ap (is_in set) same ∙ old.rest i (omega arith) ∙ is ∙ ap (is_between ahead behind u v) (sym same)
    | inr differs ↦ old.found n (omega (arith, below, differs))
  ];
  rest = λ n above. old.rest n (omega (arith, above));
}

-- past the last number nothing is ahead
pub gathered_all : (ahead behind set : List Bool) (u v n : ℕ) → IsGathered ahead behind u v (length ahead) set
    → (IsIn set n → is_between ahead behind u v n ≡ true)
gathered_all ahead behind set u v n old = λ here. elim (cases_lt n (length ahead)) [
  | inl below ↦ sym (old.found n below) ∙ here
  | inr past ↦ absurd (false≢true (sym (old.rest n past) ∙ here))
]
