-- The operations that work begins with, counted one by one.
use Rattle.std.proofs.Common.{◌≡◌, ℕ, zero, suc, ◌+◌, ◌≤◌, true, false, List, [], ◌∷◌, length, drop, refl, ap, sym, ◌∙◌, arith}
use Rattle.std.specs.Prelude.{slice_get}
use Rattle.step_state.specs.declared.item.Item.{Item}
use Rattle.step_state.specs.declared.item.Item.TheVariants as item
use Rattle.step_state.specs.Reads.{leading_ops, op_at}

-- an operation is one more
pub leads_on : (work : List Item) (n : ℕ) → op_at (slice_get work n) ≡ true → leading_ops (drop n work) ≡ leading_ops (drop (suc n) work) + 1
leads_on [] n e = absurd (let a : false ≡ true = e in cc)
leads_on (item.Op o ∷ work) zero e = refl
leads_on (item.Reduce r ∷ work) zero e = absurd (let a : false ≡ true = e in cc)
leads_on (item.Act r ∷ work) zero e = absurd (let a : false ≡ true = e in cc)
leads_on (item.Go r ∷ work) zero e = absurd (let a : false ≡ true = e in cc)
leads_on (x ∷ work) (suc n) e = leads_on work n e

-- any other item ends the count
pub leads_end : (work : List Item) (n : ℕ) → op_at (slice_get work n) ≡ false → leading_ops (drop n work) ≡ 0
leads_end [] zero e = refl
leads_end [] (suc n) e = refl
leads_end (item.Op o ∷ work) zero e = absurd (let a : true ≡ false = e in cc)
leads_end (item.Reduce r ∷ work) zero e = refl
leads_end (item.Act r ∷ work) zero e = refl
leads_end (item.Go r ∷ work) zero e = refl
leads_end (x ∷ work) (suc n) e = leads_end work n e

pub leads_out : (work : List Item) (n : ℕ) → length work ≤ n → leading_ops (drop n work) ≡ 0
leads_out [] zero e = refl
leads_out [] (suc n) e = refl
leads_out (x ∷ work) zero e = absurd (omega arith)
leads_out (x ∷ work) (suc n) e = leads_out work n (omega arith)

-- the count so far, one further
pub leads_next : (work : List Item) (n m : ℕ) → m ≡ n + 1 → leading_ops work ≡ n + leading_ops (drop n work) → op_at (slice_get work n) ≡ true → leading_ops work ≡ m + leading_ops (drop m work)
leads_next work n m e h o =
    let s : m ≡ suc n = omega arith in
    let d : leading_ops (drop n work) ≡ leading_ops (drop m work) + 1 = leads_on work n o ∙ ap (λ k. leading_ops (drop k work) + 1) (sym s) in
    omega arith
