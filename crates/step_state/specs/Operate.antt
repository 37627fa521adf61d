-- The inserted operations: reentrant locks, and signals with tokens and a flag. In all of these the thread th has the
-- operation no more.
use Rattle.std.specs.Prelude.{ℕ, zero, suc, ◌+◌, Bool, true, false, ◌==◌, ◌||◌, slice_set, slice_index, slice_index_or, Option, Some, None}
use Rattle.cfix_base.specs.declared.number.LockId.{LockId}
use Rattle.cfix_base.specs.declared.number.OrderId.{OrderId}
use Rattle.cfix_base.specs.declared.op.Op.{Op}
use Rattle.cfix_base.specs.declared.op.Op.TheVariants.{Leave, First, Done, Wait, Enter, Add}
use Rattle.step_state.specs.declared.event.Event.TheVariants as event
use Rattle.step_state.specs.declared.thread.Thread.{Thread}
use Rattle.step_state.specs.declared.state.Configuration.{Configuration}
use Rattle.step_state.specs.Changes.{Made, with_thread}

-- the lock is free, or this thread's
abbrev pub may_enter : Option ℕ → ℕ → Bool
may_enter None t = true
may_enter (Some u) t = u == t

-- a lock is entered, or its enter times out: first whether the entry is a timeout, then whether the thread may enter
abbrev pub enter : Configuration → ℕ → Thread → LockId → (late may : Bool) → Made
enter s t th k false true =
    Some (
      record (with_thread s t (record th { held = slice_set th.held k.number (slice_index th.held k.number + 1) })) {
        locks = slice_set s.locks k.number (Some t);
      },
      event.Enter k,
    )
enter s t th k true false =
    Some (with_thread s t (record th { missed = slice_set th.missed k.number (slice_index th.missed k.number + 1) }), event.EnterMissed k)
enter s t th k false false = None
enter s t th k true true = None

-- the owner after a leave down to this depth
abbrev pub owner_after : ℕ → ℕ → Option ℕ
owner_after t zero = None
owner_after t (suc d) = Some t

-- a lock is left, by its held depth and its missed depth
abbrev pub leave : Configuration → ℕ → Thread → LockId → ℕ → ℕ → Configuration
leave s t th k (suc d) m =
    record (with_thread s t (record th { held = slice_set th.held k.number d })) {
      locks = slice_set s.locks k.number (owner_after t d);
    }
leave s t th k zero (suc m) = with_thread s t (record th { missed = slice_set th.missed k.number m })
leave s t th k zero zero = with_thread s t th

-- whether an order has no token
abbrev pub no_token : ℕ → Bool
no_token zero = true
no_token (suc n) = false

-- an order is waited for, or the wait times out: first whether the entry is a timeout, then whether the order is ready
abbrev pub wait : Configuration → ℕ → Thread → OrderId → (late ready : Bool) → Made
wait s t th j false true = Some (with_thread s t th, event.Wait j)
wait s t th j true false = Some (with_thread s t th, event.WaitMissed j)
wait s t th j false false = None
wait s t th j true true = None

-- an order has one token less, by how many it has
abbrev pub token_taken : Configuration → OrderId → ℕ → Configuration
token_taken s j zero = s
token_taken s j (suc n) = record s { tokens = slice_set s.tokens j.number n }

-- The table of the operations, by whether the entry is a timeout.
abbrev pub operate : Configuration → ℕ → Thread → Bool → Op → Made
operate s t th late (Enter k) = enter s t th k late (may_enter (slice_index_or s.locks k.number None) t)
operate s t th late (Wait j) =
    wait s t th j late (no_token (slice_index s.tokens j.number) || slice_index_or s.flags j.number false)
operate s t th true (Leave k) = None
operate s t th true (First j) = None
operate s t th true (Done j) = None
operate s t th true (Add j) = None
operate s t th false (Leave k) =
    Some (leave s t th k (slice_index th.held k.number) (slice_index th.missed k.number), event.Leave k)
operate s t th false (First j) =
    Some (record (with_thread s t th) { flags = slice_set s.flags j.number true }, event.First j)
operate s t th false (Done j) =
    Some (token_taken (with_thread s t th) j (slice_index s.tokens j.number), event.Done j)
operate s t th false (Add j) =
    Some (record (with_thread s t th) { tokens = slice_set s.tokens j.number (slice_index s.tokens j.number + 1) }, event.Add j)
