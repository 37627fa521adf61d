-- What a stack ends as, once a `&mut` to its top has ended.
use Rattle.std.specs.Prelude.{List, [], ◌∷◌}
use Rattle.std.specs.Borrow.{Fml, RattleType, MutBor, Lends}
use Rattle.step_state.specs.contracts.stack.Stack.{the_row}

-- the stack with another top
abbrev pub with_top : {X : Type 0} → List X → X → List X
with_top [] w = []
with_top (x ∷ xs) w = w ∷ xs

abbrev pub LendsTop : (R : RattleType) → MutBor (List R.Denot) → MutBor R.Denot → Fml
LendsTop R s r = Lends (the_row R) R s r (with_top s.now)

-- the stack with another value below its top
abbrev pub with_second : {X : Type 0} → List X → X → List X
with_second [] w = []
with_second (x ∷ []) w = x ∷ []
with_second (x ∷ y ∷ ys) w = x ∷ w ∷ ys

abbrev pub LendsSecond : (R : RattleType) → MutBor (List R.Denot) → MutBor R.Denot → Fml
LendsSecond R s r = Lends (the_row R) R s r (with_second s.now)
