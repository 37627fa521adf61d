-- Operations that are not new enter and leave no new lock.
use Rattle.std.proofs.Common.{◌≡◌, ℕ, ◌+◌, ◌≤◌, Bool, true, false, ◌==◌, List, [], ◌∷◌, ◌++◌, refl, arith}
use Rattle.std.specs.Prelude.{nat_le}
use Rattle.cfix_base.specs.declared.op.Op.{Op}
use Rattle.cfix_base.specs.declared.op.Op.TheVariants.{Leave, First, Done, Wait, Enter, Add}
use Rattle.cfix_base.specs.declared.mark.Marks.{Marks}
use Rattle.c_prog.specs.Marks.{is_new, keep_old, old_of}
use Rattle.lock_laws.specs.Guard.{bit, enters, leaves}
use Rattle.lock_laws.proofs.Counts.{other_bit}
use Rattle.erase_laws.proofs.Plain.{is_below}

module _ (m : Marks) (kept : ℕ → Bool) (k : ℕ) (new : m.lock ≤ k) where
  -- operations that are not new do not touch a new lock
  below_other : (j : ℕ) → nat_le m.lock j ≡ false → bit (j == k) ≡ 0
  below_other j old = other_bit kept k j (λ e. let b = is_below m.lock j old in absurd (omega arith))

  pub old_enters : (ops : List Op) → enters k (old_of (is_new m) ops) ≡ 0
  old_enters [] = refl
  old_enters (o ∷ ops) = more o (is_new m o) refl (old_enters ops)
    where
      more : (o : Op) (is : Bool) → is_new m o ≡ is → enters k (old_of (is_new m) ops) ≡ 0 → enters k (keep_old is o (old_of (is_new m) ops)) ≡ 0
      more o true e h = h
      more (Enter j) false e h = omega (arith, h, below_other j.number e)
      more (Leave j) false e h = h
      more (First j) false e h = h
      more (Done j) false e h = h
      more (Wait j) false e h = h
      more (Add j) false e h = h

  pub old_leaves : (ops : List Op) → leaves k (old_of (is_new m) ops) ≡ 0
  old_leaves [] = refl
  old_leaves (o ∷ ops) = more o (is_new m o) refl (old_leaves ops)
    where
      more : (o : Op) (is : Bool) → is_new m o ≡ is → leaves k (old_of (is_new m) ops) ≡ 0 → leaves k (keep_old is o (old_of (is_new m) ops)) ≡ 0
      more o true e h = h
      more (Leave j) false e h = omega (arith, h, below_other j.number e)
      more (Enter j) false e h = h
      more (First j) false e h = h
      more (Done j) false e h = h
      more (Wait j) false e h = h
      more (Add j) false e h = h

  pub leaves_append : (a b : List Op) → leaves k (a ++ b) ≡ leaves k a + leaves k b
  leaves_append [] b = omega arith
  leaves_append (Leave j ∷ a) b = omega (arith, leaves_append a b)
  leaves_append (Enter j ∷ a) b = leaves_append a b
  leaves_append (First j ∷ a) b = leaves_append a b
  leaves_append (Done j ∷ a) b = leaves_append a b
  leaves_append (Wait j ∷ a) b = leaves_append a b
  leaves_append (Add j ∷ a) b = leaves_append a b
