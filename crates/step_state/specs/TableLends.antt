-- What a table ends as, once a `&mut` to one of its items has ended.
use Rattle.std.specs.Prelude.{ℕ, List, slice_set}
use Rattle.std.specs.Borrow.{Fml, RattleType, MutBor, Lends}
use Rattle.step_state.specs.contracts.table.Table.{the_row}

-- the table with another item in this place
abbrev pub LendsItem : (R : RattleType) → MutBor (List R.Denot) → ℕ → MutBor R.Denot → Fml
LendsItem R s i r = Lends (the_row R) R s r (λ w. slice_set s.now i w)
