-- The items that read or change what is outside their frame. In all of these the frame f of thread t has the item no more.
use Rattle.std.specs.Prelude.{ℕ, zero, suc, ◌+◌, ℤ, pos, Bool, true, false, ◌==◌, List, [], ◌∷◌, ◌++◌, length, drop, slice_get, slice_set, slice_index_or, Option, Some, None, if◌then◌else◌}
use Rattle.std.specs.Fmt.{signed_decimal}
use Rattle.cfix_base.specs.declared.number.VarId.{VarId}
use Rattle.cfix_base.specs.declared.number.FnId.{FnId}
use Rattle.c_prog.specs.declared.expr.Var.{Var}
use Rattle.c_prog.specs.declared.expr.Var.TheVariants as var
use Rattle.step_state.specs.declared.event.Event.TheVariants as event
use Rattle.step_state.specs.declared.event.Trap.TheVariants as trap
use Rattle.step_state.specs.declared.item.Action.{Action}
use Rattle.step_state.specs.declared.item.Action.TheVariants.{Get, GetKeep, Put, Take, Lock, Unlock, Create, Join, Print, Call, Sleep, Wake, Signal, Broadcast}
use Rattle.step_state.specs.declared.item.GlobalSite.{GlobalSite}
use Rattle.step_state.specs.declared.item.HandleSite.{HandleSite}
use Rattle.step_state.specs.declared.frame.Frame.{Frame}
use Rattle.step_state.specs.declared.thread.Thread.{Thread}
use Rattle.step_state.specs.declared.state.Configuration.{Configuration}
use Rattle.step_state.specs.Code.{Code}
use Rattle.step_state.specs.Values.{last_value, last_values, other_values, index_value, past_index, cell, place_of, with_cell}
use Rattle.step_state.specs.Sleepers.{sleepers_of, with_sleepers, with_sleeper, all_but_lowest, sleeps}
use Rattle.step_state.specs.Changes.{Made, with_thread, with_frames, with_top_frame, with_values, trapped, frame_of, thread_of}

-- the cells of a global, and the cell that a site means, by the values behind
abbrev pub global_cells : Configuration → VarId → List ℤ
global_cells s v = slice_index_or s.globals v.number []

abbrev pub global_cell : Configuration → GlobalSite → List ℤ → Option ℤ
global_cell s site vs = cell (global_cells s site.var) (index_value site.indexed vs)

-- a global is read at this index, and becomes the last of these values
abbrev pub fetched : Configuration → ℕ → Thread → Frame → List Frame → GlobalSite → ℤ → List ℤ → Option ℤ → Made
fetched s t th f below site i vs None = trapped s trap.Index
fetched s t th f below site i vs (Some v) =
    Some (with_top_frame s t th (with_values f (v ∷ vs)) below, event.Read site.access (place_of i) v)

-- a global gets the value v at this index, where it has the cell
abbrev pub written : Configuration → ℕ → Thread → Frame → List Frame → GlobalSite → ℤ → List ℤ → ℤ → Option ℤ → Made
written s t th f below site i vs v None = trapped s trap.Index
written s t th f below site i vs v (Some old) =
    Some (
      record (with_top_frame s t th (with_values f vs) below) {
        globals = with_cell s.globals site.var.number (global_cells s site.var) i v;
      },
      event.Write site.access (place_of i) v,
    )

-- the next number of the input, or 0
abbrev pub taken : Configuration → ℕ → Thread → Frame → List Frame → List ℤ → Made
taken s t th f below [] = Some (with_top_frame s t th (with_values f (pos 0 ∷ f.values)) below, event.Take (pos 0))
taken s t th f below (v ∷ rest) =
    Some (record (with_top_frame s t th (with_values f (v ∷ f.values)) below) { input = rest }, event.Take v)

-- a mutex is locked, by its owner
abbrev pub locked : Configuration → ℕ → Thread → Frame → List Frame → VarId → Option ℕ → Made
locked s t th f below m None =
    Some (record (with_top_frame s t th f below) { owners = slice_set s.owners m.number (Some t) }, event.Lock m)
locked s t th f below m (Some u) = None

-- whether the owner is this thread
abbrev pub holds : Option ℕ → ℕ → Bool
holds None t = false
holds (Some u) t = u == t

-- a mutex is unlocked, by whether the thread holds it
abbrev pub unlocked : Configuration → ℕ → Thread → Frame → List Frame → VarId → Bool → Made
unlocked s t th f below m true =
    Some (record (with_top_frame s t th f below) { owners = slice_set s.owners m.number None }, event.Unlock m)
unlocked s t th f below m false = trapped s trap.Unlock

-- the thread numbers in a `pthread_t` variable, and the one that a site means
abbrev pub handles_of : Configuration → Frame → Var → List ℕ
handles_of s f (var.Global v) = slice_index_or s.handles v.number []
handles_of s f (var.Local x) = slice_index_or f.handles x []

abbrev pub handle_at : Configuration → Frame → HandleSite → List ℤ → Option ℕ
handle_at s f site vs = cell (handles_of s f site.var) (index_value site.indexed vs)

-- a `pthread_t` variable gets a thread's number: a global one, or a local one of the frame
abbrev pub global_handles : Configuration → Frame → Var → ℤ → ℕ → List (List ℕ)
global_handles s f (var.Global v) i n = with_cell s.handles v.number (handles_of s f (var.Global v)) i n
global_handles s f (var.Local x) i n = s.handles

abbrev pub local_handles : Configuration → Frame → Var → ℤ → ℕ → List (List ℕ)
local_handles s f (var.Global v) i n = f.handles
local_handles s f (var.Local x) i n = with_cell f.handles x (handles_of s f (var.Local x)) i n

-- the next thread is made, and its number is stored at this index, where the target has the cell
abbrev pub created : Code → Configuration → ℕ → Thread → Frame → List Frame → HandleSite → FnId → ℤ → List ℤ → ℤ → Option ℕ → Made
created c s t th f below target of i vs arg None = trapped s trap.Index
created c s t th f below target of i vs arg (Some old) =
    Some (
      record s {
        threads =
            slice_set s.threads t (with_frames th (record (with_values f vs) { handles = local_handles s f target.var i (length s.threads) } ∷ below))
            ++ thread_of c (frame_of c s.made of.number (arg ∷ [])) ∷ [];
        handles = global_handles s f target.var i (length s.threads);
        made = s.made + 1;
      },
      event.Create (length s.threads),
    )

-- a thread that has ended is joined, by its frames
abbrev pub joined_ended : Configuration → ℕ → Thread → Frame → List Frame → ℕ → Thread → List Frame → Made
joined_ended s t th f below n other [] =
    Some (with_thread (with_thread s n (record other { joined = true })) t (with_frames th (f ∷ below)), event.Join n)
joined_ended s t th f below n other (g ∷ rest) = None

-- a thread is joined, by whether it already was
abbrev pub joined_once : Configuration → ℕ → Thread → Frame → List Frame → ℕ → Thread → Bool → Made
joined_once s t th f below n other true = trapped s trap.Join
joined_once s t th f below n other false = joined_ended s t th f below n other other.frames

-- the thread with this number is joined, if there is one
abbrev pub joined_some : Configuration → ℕ → Thread → Frame → List Frame → ℕ → Option Thread → Made
joined_some s t th f below n None = trapped s trap.Join
joined_some s t th f below n (Some other) = joined_once s t th f below n other other.joined

-- the number 0 is no thread's that was created
abbrev pub joined_number : Configuration → ℕ → Thread → Frame → List Frame → ℕ → Made
joined_number s t th f below zero = trapped s trap.Join
joined_number s t th f below (suc n) = joined_some s t th f below (suc n) (slice_get s.threads (suc n))

-- the thread whose number stands in this cell is joined, where the target has the cell
abbrev pub joined_at : Configuration → ℕ → Thread → Frame → List Frame → Option ℕ → Made
joined_at s t th f below None = trapped s trap.Index
joined_at s t th f below (Some n) = joined_number s t th f below n

-- a thread goes to sleep, by whether it holds the mutex, which becomes free
abbrev pub slept : Configuration → ℕ → Thread → Frame → List Frame → VarId → VarId → Bool → Made
slept s t th f below v m true =
    Some (
      record (with_sleepers (with_top_frame s t th f below) v (with_sleeper t (sleepers_of s v))) {
        owners = slice_set s.owners m.number None;
      },
      event.Sleep v m,
    )
slept s t th f below v m false = trapped s trap.Unlock

-- a thread wakes and locks the mutex, by whether it still sleeps and by the mutex's owner
abbrev pub woken : Configuration → ℕ → Thread → Frame → List Frame → VarId → VarId → Bool → Option ℕ → Made
woken s t th f below v m true owner = None
woken s t th f below v m false (Some u) = None
woken s t th f below v m false None =
    Some (record (with_top_frame s t th f below) { owners = slice_set s.owners m.number (Some t) }, event.Wake v m)

-- the bytes that a printf writes, from its string and its values: `%d` a value in decimal, `%%` a `%` (7.21.6.1 of
-- ISO/IEC 9899:2011)
abbrev pub percent : ℕ
percent = 37

abbrev pub number_sign : ℕ
number_sign = 100

-- what is written behind a `%`: a value, if a `d` stands there, else that byte
abbrev pub directive : Bool → ℕ → List ℤ → (List ℤ → List ℕ) → List ℕ
directive true b vs rest = signed_decimal (last_value vs) ++ rest (other_values vs)
directive false b vs rest = b ∷ rest vs

abbrev pub shown : List ℕ → List ℤ → List ℕ
shown [] vs = []
shown (b ∷ []) vs = b ∷ []
shown (b ∷ d ∷ rest) vs =
    if b == percent then directive (d == number_sign) d vs (shown rest) else b ∷ shown (d ∷ rest) vs

-- The table of these items.
abbrev pub act : Code → Configuration → ℕ → Thread → Frame → List Frame → Action → Made
act c s t th f below (Get site) =
    fetched s t th f below site (index_value site.indexed f.values) (past_index site.indexed f.values) (global_cell s site f.values)
act c s t th f below (GetKeep site) =
    fetched s t th f below site (index_value site.indexed f.values) f.values (global_cell s site f.values)
act c s t th f below (Put site) =
    written s t th f below site (index_value site.indexed (other_values f.values)) (past_index site.indexed (other_values f.values)) (last_value f.values) (global_cell s site (other_values f.values))
act c s t th f below Take = taken s t th f below s.input
act c s t th f below (Lock m) = locked s t th f below m (slice_index_or s.owners m.number None)
act c s t th f below (Unlock m) = unlocked s t th f below m (holds (slice_index_or s.owners m.number None) t)
act c s t th f below (Create target of) =
    created c s t th f below target of (index_value target.indexed (other_values f.values)) (past_index target.indexed (other_values f.values)) (last_value f.values) (handle_at s f target (other_values f.values))
act c s t th f below (Join target) =
    joined_at s t th (with_values f (past_index target.indexed f.values)) below (handle_at s f target f.values)
act c s t th f below (Print n args) =
    Some (
      record (with_top_frame s t th (with_values f (drop args f.values)) below) {
        output = s.output ++ shown (c.text n.number) (last_values args f.values);
      },
      event.Print (shown (c.text n.number) (last_values args f.values)),
    )
act c s t th f below (Call g) =
    Some (
      record (with_thread s t (with_frames th (frame_of c s.made g.number (last_values (c.params g.number) f.values) ∷ with_values f (drop (c.params g.number) f.values) ∷ below))) {
        made = s.made + 1;
      },
      event.Call g,
    )
act c s t th f below (Sleep v m) = slept s t th f below v m (holds (slice_index_or s.owners m.number None) t)
act c s t th f below (Wake v m) = woken s t th f below v m (sleeps t (sleepers_of s v)) (slice_index_or s.owners m.number None)
act c s t th f below (Signal v) =
    Some (with_sleepers (with_top_frame s t th f below) v (all_but_lowest (sleepers_of s v)), event.Signal v)
act c s t th f below (Broadcast v) = Some (with_sleepers (with_top_frame s t th f below) v [], event.Broadcast v)
