-- What a reduction leaves as it was in its frame.
use Rattle.std.proofs.Common.{◌≡◌, ◌⊎◌, inl, inr, ℕ, ℤ, Bool, true, false, List, ◌∷◌, ◌++◌, Option, Some, None, refl, subst}
use Rattle.step_state.specs.declared.frame.Frame.{Frame}
use Rattle.step_state.specs.declared.item.Item.TheVariants as item
use Rattle.step_state.specs.declared.item.LocalSite.{LocalSite}
use Rattle.step_state.specs.declared.item.Operand.{Operand}
use Rattle.step_state.specs.declared.item.Reduction.{Reduction}
use Rattle.step_state.specs.declared.item.Reduction.TheVariants as reduction
use Rattle.step_state.specs.Code.{Code}
use Rattle.step_state.specs.Values as values
use Rattle.step_state.specs.Values.{Computed, index_value, past_index, is_zero, last_value, other_values, unary, binary}
use Rattle.step_state.specs.Changes.{with_values, with_work}
use Rattle.step_state.specs.Reduce.{Reduced, frame, trap, reduce, computed, loaded, stored, and_then, or_else, local_cell}
use Rattle.frame_laws.specs.Operands.{operand_in}

-- a frame after a reduction of the frame f, whose work goes on as before, or first with a right operand
pub record FollowsIn (c : Code) (f g : Frame) (o : Option Operand) : Type 0 where
  pub serial : g.serial ≡ f.serial
  pub of : g.of ≡ f.of
  pub visit : g.visit ≡ f.visit
  pub last : g.last ≡ f.last
  pub work : (g.work ≡ f.work) ⊎ ((r : Operand) × (o ≡ Some r) × (g.work ≡ c.operand r ++ item.Reduce reduction.Bool ∷ f.work))

abbrev Follows : Code → Frame → Option Operand → Reduced → Type 0
Follows c f o (frame g) = FollowsIn c f g o
Follows c f o (trap x) = Unit {0}

same_work : (c : Code) (f : Frame) (vs : List ℤ) (locals : List (List ℤ)) (handles : List (List ℕ))
    → (o : Option Operand) → FollowsIn c f (record f { values = vs; locals = locals; handles = handles }) o
same_work c f vs locals handles o = record { serial = refl; of = refl; visit = refl; last = refl; work = inl refl }

computed_follows : (c : Code) (f : Frame) (vs : List ℤ) (r : Computed) → Follows c f None (computed f vs r)
computed_follows c f vs (values.value v) = same_work c f (v ∷ vs) f.locals f.handles None
computed_follows c f vs (values.trap x) = tt

loaded_follows : (c : Code) (f : Frame) (vs : List ℤ) (o : Option ℤ) → Follows c f None (loaded f vs o)
loaded_follows c f vs None = tt
loaded_follows c f vs (Some v) = same_work c f (v ∷ vs) f.locals f.handles None

stored_follows : (c : Code) (f : Frame) (site : LocalSite) (vs : List ℤ) (v : ℤ) (o : Option ℤ) → Follows c f None (stored f site vs v o)
stored_follows c f site vs v None = tt
stored_follows c f site vs v (Some old) = same_work c f (past_index site.indexed vs) _ f.handles None

operand_follows : (c : Code) (f : Frame) (r : Operand) (vs : List ℤ)
    → FollowsIn c f (with_work (with_values f vs) (c.operand r ++ item.Reduce reduction.Bool ∷ f.work)) (Some r)
operand_follows c f r vs = record { serial = refl; of = refl; visit = refl; last = refl; work = inr (r, refl, refl) }

and_follows : (c : Code) (f : Frame) (r : Operand) (vs : List ℤ) (zero : Bool) → Follows c f (Some r) (and_then c f r vs zero)
and_follows c f r vs true = same_work c f _ f.locals f.handles (Some r)
and_follows c f r vs false = operand_follows c f r vs

or_follows : (c : Code) (f : Frame) (r : Operand) (vs : List ℤ) (zero : Bool) → Follows c f (Some r) (or_else c f r vs zero)
or_follows c f r vs true = operand_follows c f r vs
or_follows c f r vs false = same_work c f _ f.locals f.handles (Some r)

follows : (c : Code) (f : Frame) (r : Reduction) → Follows c f (operand_in r) (reduce c f r)
follows c f (reduction.Push v) = same_work c f (v ∷ f.values) f.locals f.handles None
follows c f (reduction.Local site) = loaded_follows c f (past_index site.indexed f.values) (local_cell f site f.values)
follows c f (reduction.LocalKeep site) = loaded_follows c f f.values (local_cell f site f.values)
follows c f (reduction.Put site) =
    stored_follows c f site (other_values f.values) (last_value f.values) (local_cell f site (other_values f.values))
follows c f (reduction.Un op) = computed_follows c f (other_values f.values) (unary op (last_value f.values))
follows c f (reduction.Bin op) =
    computed_follows c f (other_values (other_values f.values)) (binary op (last_value (other_values f.values)) (last_value f.values))
follows c f (reduction.And r) = and_follows c f r (other_values f.values) (is_zero (last_value f.values))
follows c f (reduction.Or r) = or_follows c f r (other_values f.values) (is_zero (last_value f.values))
follows c f reduction.Bool = same_work c f _ f.locals f.handles None
follows c f (reduction.Clear x) = same_work c f f.values _ _ None

pub reduced_follows : (c : Code) (f g : Frame) (r : Reduction) → reduce c f r ≡ frame g → FollowsIn c f g (operand_in r)
reduced_follows c f g r is = subst (Follows c f (operand_in r)) is (follows c f r)
