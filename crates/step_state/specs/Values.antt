-- Values: 32-bit numbers, cells of variables, and lists of values whose last one comes first.
use Rattle.std.specs.Prelude.{ℕ, zero, suc, ◌^◌, ℤ, pos, negsuc, ◌+ℤ◌, ◌-ℤ◌, ◌*ℤ◌, neg_ℤ, int_lt, int_le, int_div, int_rem, Bool, true, false, not, ◌&&◌, List, [], ◌∷◌, take, reverse, slice_get, slice_set, Option, None}
use Rattle.std.specs.Ordering.{int_eq}
use Rattle.step_state.specs.declared.event.Trap.{Trap}
use Rattle.step_state.specs.declared.event.Trap.TheVariants.{Overflow, Zero}
use Rattle.step_state.specs.declared.item.Unary.{Unary}
use Rattle.step_state.specs.declared.item.Unary.TheVariants.{Neg, Not}
use Rattle.step_state.specs.declared.item.Binary.{Binary}
use Rattle.step_state.specs.declared.item.Binary.TheVariants as operator

-- the last value; 0 where there is none
abbrev pub last_value : List ℤ → ℤ
last_value [] = pos 0
last_value (v ∷ vs) = v

-- the values but the last one
abbrev pub other_values : List ℤ → List ℤ
other_values [] = []
other_values (v ∷ vs) = vs

-- so many last values, in the order in which they became values
abbrev pub last_values : ℕ → List ℤ → List ℤ
last_values n vs = reverse (take n vs)

-- the index that a variable takes, and the values without it; a scalar takes none
abbrev pub index_value : Bool → List ℤ → ℤ
index_value true vs = last_value vs
index_value false vs = pos 0

abbrev pub past_index : Bool → List ℤ → List ℤ
past_index true vs = other_values vs
past_index false vs = vs

-- the cell with this number, which is its place; none has a negative number
abbrev pub cell : {A : Type 0} → List A → ℤ → Option A
cell cells (pos n) = slice_get cells n
cell cells (negsuc n) = None

-- the place of a cell with this number
abbrev pub place_of : ℤ → ℕ
place_of (pos n) = n
place_of (negsuc n) = 0

-- a variable with another value in one of its cells
abbrev pub with_cell : {A : Type 0} → List (List A) → ℕ → List A → ℤ → A → List (List A)
with_cell variables x cells i v = slice_set variables x (slice_set cells (place_of i) v)

-- whether a number is 0
abbrev pub is_zero : ℤ → Bool
is_zero (pos zero) = true
is_zero (pos (suc n)) = false
is_zero (negsuc n) = false

-- the value of a comparison and of `!`, `&&` and `||` (6.5.3.3, 6.5.8, 6.5.9, 6.5.13 and 6.5.14 of ISO/IEC 9899:2011)
abbrev pub truth : Bool → ℤ
truth true = pos 1
truth false = pos 0

-- whether a number has 32 bits
abbrev pub fits : ℤ → Bool
fits z = int_le (neg_ℤ (pos (2 ^ 31))) z && int_lt z (pos (2 ^ 31))

-- a value, or a trap
pub data Computed : Type 0 where
  value : ℤ → Computed
  trap : Trap → Computed

-- a result that is in range, and one that is not
abbrev pub in_range : Bool → ℤ → Computed
in_range true z = value z
in_range false z = trap Overflow

-- a result of arithmetic (6.5 of ISO/IEC 9899:2011 leaves one that is no 32-bit number undefined; here it is a trap)
abbrev pub checked : ℤ → Computed
checked z = in_range (fits z) z

-- a quotient is truncated toward zero (6.5.5 of ISO/IEC 9899:2011); the first tells whether the divisor is 0
abbrev pub quotient : Bool → ℤ → ℤ → Computed
quotient true a b = trap Zero
quotient false a b = checked (int_div a b)

-- a remainder has the sign of the left operand, and is defined where the quotient is
abbrev pub remainder_in : Bool → ℤ → ℤ → Computed
remainder_in true a b = value (int_rem a b)
remainder_in false a b = trap Overflow

abbrev pub remainder : Bool → ℤ → ℤ → Computed
remainder true a b = trap Zero
remainder false a b = remainder_in (fits (int_div a b)) a b

-- an operator with one operand
abbrev pub unary : Unary → ℤ → Computed
unary Neg a = checked (neg_ℤ a)
unary Not a = value (truth (is_zero a))

-- an operator with two operands
abbrev pub binary : Binary → ℤ → ℤ → Computed
binary operator.Add a b = checked (a +ℤ b)
binary operator.Sub a b = checked (a -ℤ b)
binary operator.Mul a b = checked (a *ℤ b)
binary operator.Div a b = quotient (is_zero b) a b
binary operator.Rem a b = remainder (is_zero b) a b
binary operator.Lt a b = value (truth (int_lt a b))
binary operator.Le a b = value (truth (int_le a b))
binary operator.Gt a b = value (truth (int_lt b a))
binary operator.Ge a b = value (truth (int_le b a))
binary operator.Eq a b = value (truth (int_eq a b))
binary operator.Ne a b = value (truth (not (int_eq a b)))

-- the same cells, all 0
abbrev pub cleared : {A : Type 0} → A → List A → List A
cleared nought [] = []
cleared nought (c ∷ cells) = nought ∷ cleared nought cells
