-- Orders that rise: an order is put before the first that is not below it.
use Rattle.std.proofs.Common.{◌≡◌, ℕ, suc, Bool, true, false, cond, List, [], ◌∷◌, Some, refl, ap}
use Rattle.std.specs.Prelude.{nat_le}
use Rattle.std.specs.List.{insert}
use Rattle.cfix_base.specs.declared.number.OrderId.{OrderId}
use Rattle.c_grammar.specs.File.{Top, Include, Define, Variables, Prototype, Function, File}
use Rattle.c_names.specs.Starts.{with_order, starts_of}
use Rattle.c_types.specs.Starting.{top_start, place}

abbrev order_of : ℕ → OrderId
order_of n = record { number = n }

pub with_order-insert : (n : ℕ) (orders : List OrderId) → insert orders (place n orders) (order_of n) ≡ with_order (Some n) orders
with_order-insert n [] = refl
with_order-insert n (o ∷ orders) = by (nat_le n o.number) (with_order-insert n orders)
  where
    by : (b : Bool) → insert orders (place n orders) (order_of n) ≡ with_order (Some n) orders
        → insert (o ∷ orders) (cond b 0 (suc (place n orders))) (order_of n) ≡ cond b (order_of n ∷ o ∷ orders) (o ∷ with_order (Some n) orders)
    by true rest = refl
    by false rest = ap (λ l. o ∷ l) rest

pub starts-step : (top : Top) (more : File) → starts_of (top ∷ more) ≡ with_order (top_start top) (starts_of more)
starts-step (Include at name header) more = refl
starts-step (Define at name x value) more = refl
starts-step (Variables qualifiers list end) more = refl
starts-step (Prototype head end) more = refl
starts-step (Function head before ops items after) more = refl

pub ruleset orders = (with_order-insert, starts-step)
