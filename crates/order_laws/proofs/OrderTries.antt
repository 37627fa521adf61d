-- A program that meets the premises of a first-before: main makes an access at node 0 and then another at node 1, which waits for it.
use Rattle.std.proofs.Common.{◌≡◌, inl, ℕ, zero, suc, ◌-◌, ◌<◌, Bool, true, false, List, [], ◌∷◌, Option, Some, None, refl, sym, subst, arith}
use Rattle.cfix_base.specs.declared.access.AccessId.{AccessId}
use Rattle.cfix_base.specs.declared.number.OrderId.{OrderId}
use Rattle.cfix_base.specs.declared.op.Op.{Op}
use Rattle.cfix_base.specs.declared.op.Op.TheVariants.{First, Done, Wait}
use Rattle.cfix_base.specs.declared.place.Place.{Place}
use Rattle.cfix_base.specs.declared.place.Place.TheVariants.{Start, After, True, False}
use Rattle.step_state.specs.declared.item.Item.{Item}
use Rattle.step_state.specs.declared.item.Item.TheVariants as item
use Rattle.step_state.specs.declared.item.Action.TheVariants as action
use Rattle.step_state.specs.declared.item.Move.TheVariants as move
use Rattle.step_state.specs.Code.{Code, node}
use Rattle.lock_laws.specs.Guard.{bit, in_set}
use Rattle.layout_laws.specs.Layout.{Layout, Live, source, place_function, IsLaidOut}
use Rattle.order_laws.specs.Tokens.{adds, dones, waits, firsts, owes, before_set, creates, Signals, CreatesOnce}
use Rattle.order_laws.specs.OrderRuns.{Starts, IsCertain}
use Rattle.order_laws.specs.OrderEnds.{IsFirsted}

abbrev order : OrderId
order = record { number = 0 }

abbrev access : ℕ → AccessId
access n = record { node = node n; index = 0 }

abbrev items_at : ℕ → List Item
items_at n = item.Act (action.Get (record { access = access n; var = record { number = 0 }; indexed = false })) ∷ item.Go (move.Edge (node n)) ∷ []

abbrev next_after : ℕ → Option ℕ
next_after zero = Some 1
next_after (suc n) = None

abbrev next_start : ℕ → Option ℕ
next_start zero = Some 0
next_start (suc n) = None

abbrev next_at : Place → Option ℕ
next_at (Start f) = next_start f.number
next_at (After n) = next_after n.number
next_at (True n) = None
next_at (False n) = None

abbrev ops_after : ℕ → List Op
ops_after zero = First order ∷ Done order ∷ Wait order ∷ []
ops_after (suc n) = []

abbrev ops_at : Place → List Op
ops_at (Start f) = []
ops_at (After n) = ops_after n.number
ops_at (True n) = []
ops_at (False n) = []

abbrev code : Code
code = record {
  items = items_at;
  operand = λ r. [];
  ops = ops_at;
  next = next_at;
  text = λ n. [];
  gives = λ n. false;
  params = λ n. 0;
  locals = λ n. [];
  globals = [];
  main = 0;
  starts = order ∷ [];
  locks = 0;
  orders = 1;
}

abbrev lay : Layout
lay = record { function = λ n. 0; is_cond = λ n. false; constant = λ n. None; callee = λ n. None; created = λ n. None; is_root = λ n. true }

abbrev comes : ℕ → Bool
comes zero = true
comes (suc n) = false

abbrev root : ℕ → Bool
root n = true

differ : true ≡ false → ⊥
differ e = cc

not_cond : (A : Type 0) → false ≡ true → A
not_cond A e = absurd (differ (sym e))

no_some : (A : Type 0) (k : ℕ) → None ≡ Some k → A
no_some A k e = cc

laid_along : (place : Place) (n : ℕ) → Live lay place → next_at place ≡ Some n → 0 ≡ place_function lay place
laid_along (Start f) n live e = start_is f.number e
  where
    start_is : (f : ℕ) → next_start f ≡ Some n → 0 ≡ f
    start_is zero e = refl
    start_is (suc k) e = cc
laid_along (After m) n live e = refl
laid_along (True m) n live e = refl
laid_along (False m) n live e = refl

laid : IsLaidOut code lay
laid = record {
  visits = λ place n live e. (refl, (refl, refl, refl));
  along = laid_along;
  operands = λ r. tt;
  fixed = λ n v e. cc;
  no_call = λ n v e. refl;
  created = λ n g e. refl;
  main = refl;
}

comes_back : (place : Place) (u v : ℕ) → Live lay place → source place ≡ Some u → next_at place ≡ Some v → comes v ≡ true → comes u ≡ true
comes_back (Start f) u v live s e h = cc
comes_back (After n) u v live s e h = subst (λ k. comes k ≡ true) same (by_number n.number e)
  where
    same : n.number ≡ u
    same = cc

    by_number : (n : ℕ) → next_after n ≡ Some v → comes n ≡ true
    by_number zero e = refl
    by_number (suc k) e = cc
comes_back (True n) u v live s e h = cc
comes_back (False n) u v live s e h = cc

done_after : (n : ℕ) → dones 0 (ops_after n) ≡ bit (owes comes root n) - in_set (owes comes root) (next_after n)
done_after zero = refl
done_after (suc n) = refl

done_start : (f : ℕ) → 0 ≡ in_set (owes comes root) (next_start f) - in_set (owes comes root) (next_start f)
done_start zero = refl
done_start (suc f) = refl

add_after : (n : ℕ) → adds 0 (ops_after n) ≡ creates code lay comes (next_after n)
add_after zero = refl
add_after (suc n) = refl

add_start : (f : ℕ) → 0 ≡ creates code lay comes (next_start f)
add_start zero = refl
add_start (suc f) = refl

wait_after : (n : ℕ) → next_after n ≡ Some 1 → 0 < waits 0 (ops_after n)
wait_after zero e = omega arith
wait_after (suc n) e = cc

wait_start : (f : ℕ) → next_start f ≡ Some 1 → 0 < 0
wait_start zero e = cc
wait_start (suc n) e = cc

first_after : (n : ℕ) → 0 < firsts 0 (ops_after n) → Some n ≡ Some 0
first_after zero h = refl
first_after (suc n) h = absurd (omega arith)

first_at : (place : Place) → 0 < firsts 0 (ops_at place) → source place ≡ Some 0
first_at (Start f) h = absurd (omega arith)
first_at (After n) h = first_after n.number h
first_at (True n) h = absurd (omega arith)
first_at (False n) h = absurd (omega arith)

add_at : (place : Place) → Live lay place → adds 0 (ops_at place) ≡ creates code lay comes (next_at place)
add_at (Start f) live = add_start f.number
add_at (After n) live = add_after n.number
add_at (True n) live = refl
add_at (False n) live = refl

done_at : (place : Place) → Live lay place → dones 0 (ops_at place) ≡ before_set code (owes comes root) place - in_set (owes comes root) (next_at place)
done_at (Start f) live = done_start f.number
done_at (After n) live = done_after n.number
done_at (True n) live = absurd (differ (sym live.0))
done_at (False n) live = absurd (differ (sym live.0))

wait_at : (place : Place) → Live lay place → next_at place ≡ Some 1 → 0 < waits 0 (ops_at place)
wait_at (Start f) live e = wait_start f.number e
wait_at (After n) live e = wait_after n.number e
wait_at (True n) live e = no_some (0 < 0) 1 e
wait_at (False n) live e = no_some (0 < 0) 1 e

-- all premises of the first-before law are met
signals : Signals code lay 0 0 1 comes root
signals = record {
  comes_a = refl;
  comes_on = comes_back;
  comes_call = λ n g v e. cc;
  comes_create = λ n g v e. cc;
  roots = λ n. refl;
  never_called = λ n g e. cc;
  added = add_at;
  done = done_at;
  waited = wait_at;
  first = λ place live h. first_at place h;
}

starts : Starts code 0 comes
starts = record { known = omega arith; token = refl }

once : CreatesOnce code lay comes
once = record { items = λ place n live e. refl; operands = λ r rest. refl }

certain : IsCertain code (access 0)
certain = record { access = inl refl; operands = λ r rest h. h }

firsted_after : (n : ℕ) → Some n ≡ Some 0 → 0 < firsts 0 (ops_after n)
firsted_after zero e = omega arith
firsted_after (suc n) e = cc

firsted_at : (place : Place) → Live lay place → source place ≡ Some 0 → 0 < firsts 0 (ops_at place)
firsted_at (Start f) live e = no_some (0 < 0) 0 e
firsted_at (After n) live e = firsted_after n.number e
firsted_at (True n) live e = absurd (differ (sym live.0))
firsted_at (False n) live e = absurd (differ (sym live.0))

firsted : IsFirsted code lay 0 0
firsted = record { behind = firsted_at }
