-- What a test of a step tells.
use Rattle.std.proofs.Common.{◌≡◌, ℕ, Bool, true, false, not, Option, Some, None, refl}
use Rattle.std.specs.Prelude.{is_some, ◌&&◌}
use Rattle.step_machine.specs.Goes.{in_mode, is_free}

pub not_true : (b : Bool) → not b ≡ true → b ≡ false
not_true true h = cc
not_true false h = refl

pub in_normal : (may : Bool) → in_mode false may ≡ true → may ≡ true
in_normal may h = h

pub in_timeout : (may : Bool) → in_mode true may ≡ true → may ≡ false
in_timeout true h = cc
in_timeout false h = refl

pub is_none : (o : Option ℕ) → is_free o ≡ true → o ≡ None
is_none None h = refl
is_none (Some t) h = cc

pub both_first : (a b : Bool) → (a && b) ≡ true → a ≡ true
both_first true b h = refl
both_first false b h = cc

pub both_second : (a b : Bool) → (a && b) ≡ true → b ≡ true
both_second true b h = h
both_second false b h = cc

pub not_some : {A : Type 0} (o : Option A) → is_some o ≡ false → o ≡ None
not_some None h = refl
not_some (Some x) h = cc
