-- Small programs, run by the definitions.
use Rattle.std.proofs.Common.{◌≡◌, ℕ, zero, suc, ℤ, pos, negsuc, Bool, true, false, List, [], ◌∷◌, ◌++◌, map, replicate, Option, Some, None, refl}
use Rattle.cfix_base.specs.declared.access.AccessId.{AccessId}
use Rattle.cfix_base.specs.declared.entry.Entry.{Entry}
use Rattle.cfix_base.specs.declared.number.VarId.{VarId}
use Rattle.cfix_base.specs.declared.number.LockId.{LockId}
use Rattle.cfix_base.specs.declared.number.OrderId.{OrderId}
use Rattle.cfix_base.specs.declared.op.Op.{Op}
use Rattle.cfix_base.specs.declared.op.Op.TheVariants as op
use Rattle.cfix_base.specs.declared.place.Place.{Place}
use Rattle.cfix_base.specs.declared.place.Place.TheVariants.{Start, After, True, False}
use Rattle.c_prog.specs.declared.act.LocalKind.TheVariants as local
use Rattle.c_prog.specs.declared.expr.Var.TheVariants as var
use Rattle.c_prog.specs.declared.global.GlobalKind.TheVariants as kind
use Rattle.std.specs.Prelude.{codes, ◌==◌}
use Rattle.step_state.specs.declared.event.Ending.{Ending}
use Rattle.step_state.specs.declared.event.Ending.TheVariants as ending
use Rattle.step_state.specs.declared.event.Event.{Event}
use Rattle.step_state.specs.declared.event.Event.TheVariants as event
use Rattle.step_state.specs.declared.event.Trap.TheVariants as trap
use Rattle.step_state.specs.declared.item.Item.{Item}
use Rattle.step_state.specs.declared.item.Item.TheVariants.{Reduce, Act, Go}
use Rattle.step_state.specs.declared.item.Item.TheVariants as item
use Rattle.step_state.specs.declared.item.Reduction.TheVariants as reduction
use Rattle.step_state.specs.declared.item.Action.TheVariants as action
use Rattle.step_state.specs.declared.item.Move.TheVariants as move
use Rattle.step_state.specs.declared.item.Operand.{Operand}
use Rattle.step_state.specs.declared.item.GlobalSite.{GlobalSite}
use Rattle.step_state.specs.declared.item.HandleSite.{HandleSite}
use Rattle.step_state.specs.declared.item.Binary.TheVariants as operator
use Rattle.step_state.specs.declared.item.Unary.TheVariants as unaries
use Rattle.step_state.specs.Values as values
use Rattle.step_state.specs.Values.{Computed, binary, unary}
use Rattle.std.specs.Fmt.{digits}
use Rattle.step_state.specs.Code.{Code, node, fn_id}
use Rattle.step_state.specs.Sleepers.{with_sleeper, all_but_lowest}
use Rattle.step_state.specs.Run.{Ran, run}
use Rattle.step_state.specs.Spots.{Spot, At, Begin, Past, spot}
use Rattle.step_state.specs.Erase.{erased}

-- the events of a run, and how it stands after them
abbrev told : Ran → Option (List Event × Ending)
told None = None
told (Some (ms, s)) = Some (map (λ m. m.event) ms, s.ending)

-- so many normal entries of a thread
abbrev normal : ℕ → ℕ → List Entry
normal zero t = []
normal (suc n) t = record { thread = t; timeout = false } ∷ normal n t

abbrev late : ℕ → Entry
late t = record { thread = t; timeout = true }

abbrev entry : ℕ → Entry
entry t = record { thread = t; timeout = false }

abbrev variable : ℕ → VarId
variable n = record { number = n }

abbrev lock : ℕ → LockId
lock n = record { number = n }

abbrev order : ℕ → OrderId
order n = record { number = n }

abbrev site : ℕ → ℕ → ℕ → GlobalSite
site n i v = record { access = record { node = node n; index = i }; var = variable v; indexed = false }

abbrev edge : ℕ → Item
edge n = Go (move.Edge (node n))

-- int x; int main(void) { x = 2147483647; x++; return 0; }
abbrev sum_items : ℕ → List Item
sum_items zero = Reduce (reduction.Push (pos 2147483647)) ∷ Act (action.Put (site 0 0 0)) ∷ edge 0 ∷ []
sum_items (suc zero) =
    Act (action.GetKeep (site 1 0 0)) ∷ Reduce (reduction.Push (pos 1)) ∷ Reduce (reduction.Bin operator.Add) ∷ Act (action.Put (site 1 1 0)) ∷ edge 1 ∷ []
sum_items (suc (suc n)) = Reduce (reduction.Push (pos 0)) ∷ edge 2 ∷ []

abbrev straight : Place → Option ℕ
straight (Start f) = Some 0
straight (After n) = Some (suc n.number)
straight (True n) = None
straight (False n) = None

-- a program with one scalar, an array of two cells, a thread, a mutex and a condition variable as its globals
abbrev program : (ℕ → List Item) → (Place → List Op) → (Place → Option ℕ) → Code
program items ops next = record {
  items = items;
  operand = λ r. Reduce (reduction.Push (pos 7)) ∷ [];
  ops = ops;
  next = next;
  text = λ n. codes "a%d%%%d";
  gives = λ n. n == 9;
  params = λ f. f;
  locals = λ f. local.Int ∷ local.IntArray 2 ∷ [];
  globals = kind.Int (pos 3) ∷ kind.IntArray 2 ∷ kind.Thread ∷ kind.Mutex ∷ kind.Cond ∷ [];
  main = 0;
  starts = order 1 ∷ [];
  locks = 8;
  orders = 8;
}

abbrev sum : Code
sum = program sum_items (λ place. []) straight

sum-overflows : told (run sum [] (normal 8 0))
    ≡ Some (event.Begin (node 0) ∷ event.Silent ∷ event.Write (record { node = node 0; index = 0 }) 0 (pos 2147483647) ∷ event.Silent ∷ event.Begin (node 1) ∷ event.Read (record { node = node 1; index = 0 }) 0 (pos 2147483647) ∷ event.Silent ∷ event.Trap trap.Overflow ∷ [], ending.Trap trap.Overflow)
sum-overflows = refl

-- a run that has ended makes no step
sum-ended : run sum [] (normal 9 0) ≡ None
sum-ended = refl

-- one node, in front of the exit
abbrev first_only : Place → Option ℕ
first_only (Start f) = Some 0
first_only (After n) = None
first_only (True n) = None
first_only (False n) = None

-- the events of so many steps of main, which is one node with these items
abbrev of_items : List Item → List ℤ → ℕ → Option (List Event × Ending)
of_items items input n = told (run (program (λ k. items) (λ place. []) first_only) input (normal n 0))

abbrev push : ℤ → Item
push v = Reduce (reduction.Push v)

-- the element of the array, as the access with this number
abbrev element : ℕ → GlobalSite
element i = record { access = record { node = node 0; index = i }; var = variable 1; indexed = true }

abbrev at : ℕ → AccessId
at i = record { node = node 0; index = i }

-- an index outside its array traps at the item that uses it
index-above : of_items (push (pos 2) ∷ Act (action.Get (element 0)) ∷ []) [] 3
    ≡ Some (event.Begin (node 0) ∷ event.Silent ∷ event.Trap trap.Index ∷ [], ending.Trap trap.Index)
index-above = refl

index-below : of_items (push (negsuc 0) ∷ push (pos 5) ∷ Act (action.Put (element 0)) ∷ []) [] 4
    ≡ Some (event.Begin (node 0) ∷ event.Silent ∷ event.Silent ∷ event.Trap trap.Index ∷ [], ending.Trap trap.Index)
index-below = refl

-- a[1] += 4
compound : of_items (push (pos 1) ∷ Act (action.GetKeep (element 0)) ∷ push (pos 4) ∷ Reduce (reduction.Bin operator.Add) ∷ Act (action.Put (element 1)) ∷ edge 0 ∷ []) [] 8
    ≡ Some (event.Begin (node 0) ∷ event.Silent ∷ event.Read (at 0) 1 (pos 0) ∷ event.Silent ∷ event.Silent ∷ event.Write (at 1) 1 (pos 4) ∷ event.Silent ∷ event.Exit ∷ [], ending.End)
compound = refl

abbrev operand : Operand
operand = record { node = node 0; number = 0 }

abbrev put : Item
put = Act (action.Put (site 0 0 0))

-- x = 0 && 7, x = 2 && 7, x = 2 || 7, x = 0 || 7: the right operand is evaluated only where it decides
and-stops : of_items (push (pos 0) ∷ Reduce (reduction.And operand) ∷ put ∷ []) [] 4
    ≡ Some (event.Begin (node 0) ∷ event.Silent ∷ event.Silent ∷ event.Write (at 0) 0 (pos 0) ∷ [], ending.Running)
and-stops = refl

and-goes-on : of_items (push (pos 2) ∷ Reduce (reduction.And operand) ∷ put ∷ []) [] 6
    ≡ Some (event.Begin (node 0) ∷ event.Silent ∷ event.Silent ∷ event.Silent ∷ event.Silent ∷ event.Write (at 0) 0 (pos 1) ∷ [], ending.Running)
and-goes-on = refl

or-stops : of_items (push (pos 2) ∷ Reduce (reduction.Or operand) ∷ put ∷ []) [] 4
    ≡ Some (event.Begin (node 0) ∷ event.Silent ∷ event.Silent ∷ event.Write (at 0) 0 (pos 1) ∷ [], ending.Running)
or-stops = refl

or-goes-on : of_items (push (pos 0) ∷ Reduce (reduction.Or operand) ∷ put ∷ []) [] 6
    ≡ Some (event.Begin (node 0) ∷ event.Silent ∷ event.Silent ∷ event.Silent ∷ event.Silent ∷ event.Write (at 0) 0 (pos 1) ∷ [], ending.Running)
or-goes-on = refl

-- the input, and 0 at its end
takes : of_items (Act action.Take ∷ put ∷ Act action.Take ∷ put ∷ []) (pos 5 ∷ []) 5
    ≡ Some (event.Begin (node 0) ∷ event.Take (pos 5) ∷ event.Write (at 0) 0 (pos 5) ∷ event.Take (pos 0) ∷ event.Write (at 0) 0 (pos 0) ∷ [], ending.Running)
takes = refl

-- printf("a%d%%%d", 12, -3)
prints : of_items (push (pos 12) ∷ push (negsuc 2) ∷ Act (action.Print (node 0) 2) ∷ []) [] 4
    ≡ Some (event.Begin (node 0) ∷ event.Silent ∷ event.Silent ∷ event.Print (codes "a12%-3") ∷ [], ending.Running)
unfolding digits
prints = refl

-- a mutex that its owner locks again blocks it; a thread that does not hold it cannot unlock it
locks-once : of_items (Act (action.Lock (variable 3)) ∷ Act (action.Lock (variable 3)) ∷ []) [] 2
    ≡ Some (event.Begin (node 0) ∷ event.Lock (variable 3) ∷ [], ending.Running)
locks-once = refl

locks-twice : of_items (Act (action.Lock (variable 3)) ∷ Act (action.Lock (variable 3)) ∷ []) [] 3 ≡ None
locks-twice = refl

unlocks : of_items (Act (action.Lock (variable 3)) ∷ Act (action.Unlock (variable 3)) ∷ Act (action.Unlock (variable 3)) ∷ []) [] 4
    ≡ Some (event.Begin (node 0) ∷ event.Lock (variable 3) ∷ event.Unlock (variable 3) ∷ event.Trap trap.Unlock ∷ [], ending.Trap trap.Unlock)
unlocks = refl

abbrev handle : HandleSite
handle = record { var = var.Global (variable 2); indexed = false }

-- the join of number 0
joins-none : of_items (Act (action.Join handle) ∷ []) [] 2
    ≡ Some (event.Begin (node 0) ∷ event.Trap trap.Join ∷ [], ending.Trap trap.Join)
joins-none = refl

-- locals: an array of two cells is the local behind the scalar, and a declaration clears it
abbrev cell : Bool → ℕ → Item
cell false x = Reduce (reduction.Local (record { local = x; indexed = true }))
cell true x = Reduce (reduction.Put (record { local = x; indexed = true }))

locals : of_items (push (pos 1) ∷ push (pos 6) ∷ cell true 1 ∷ push (pos 1) ∷ cell false 1 ∷ put ∷ Reduce (reduction.Clear 1) ∷ push (pos 1) ∷ cell false 1 ∷ put ∷ []) [] 11
    ≡ Some (event.Begin (node 0) ∷ event.Silent ∷ event.Silent ∷ event.Silent ∷ event.Silent ∷ event.Silent ∷ event.Write (at 0) 0 (pos 6) ∷ event.Silent ∷ event.Silent ∷ event.Silent ∷ event.Write (at 0) 0 (pos 0) ∷ [], ending.Running)
locals = refl

-- Two functions: main has the nodes 0 and 1, and function 1 has the one parameter and the node 9, which is `return 2 * arg;`.
abbrev two_items : List Item → List Item → ℕ → List Item
two_items first second zero = first
two_items first second (suc zero) = second
two_items first second (suc (suc n)) =
    push (pos 2) ∷ Reduce (reduction.Local (record { local = 0; indexed = false })) ∷ Reduce (reduction.Bin operator.Mul) ∷ edge 9 ∷ []

abbrev by_function : ℕ → Option ℕ
by_function zero = Some 0
by_function (suc n) = Some 9

abbrev by_node : ℕ → Option ℕ
by_node zero = Some 1
by_node (suc n) = None

abbrev two_next : Place → Option ℕ
two_next (Start f) = by_function f.number
two_next (After n) = by_node n.number
two_next (True n) = None
two_next (False n) = None

abbrev two : List Item → List Item → (Place → List Op) → Code
two first second ops = program (two_items first second) ops two_next

abbrev no_ops : Place → List Op
no_ops place = []

-- x = f(21);
calls : told (run (two (push (pos 21) ∷ Act (action.Call (fn_id 1)) ∷ put ∷ []) [] no_ops) [] (normal 10 0))
    ≡ Some (event.Begin (node 0) ∷ event.Silent ∷ event.Call (fn_id 1) ∷ event.Begin (node 9) ∷ event.Silent ∷ event.Silent ∷ event.Silent ∷ event.Silent ∷ event.Return (pos 42) ∷ event.Write (at 0) 0 (pos 42) ∷ [], ending.Running)
calls = refl

-- pthread_create(&t, NULL, f, 21); and then pthread_join(t, NULL); twice
abbrev creates : Code
creates =
    two (push (pos 21) ∷ Act (action.Create handle (fn_id 1)) ∷ edge 0 ∷ []) (Act (action.Join handle) ∷ Act (action.Join handle) ∷ []) no_ops

-- a join waits until the thread has ended
join-waits : run creates [] (normal 6 0) ≡ None
join-waits = refl

joins : told (run creates [] (normal 5 0 ++ normal 6 1 ++ normal 2 0))
    ≡ Some (event.Begin (node 0) ∷ event.Silent ∷ event.Create 1 ∷ event.Silent ∷ event.Begin (node 1) ∷ event.Begin (node 9) ∷ event.Silent ∷ event.Silent ∷ event.Silent ∷ event.Silent ∷ event.Exit ∷ event.Join 1 ∷ event.Trap trap.Join ∷ [], ending.Trap trap.Join)
joins = refl

-- pthread_mutex_lock(&m); pthread_cond_wait(&c, &m);
abbrev sleep : Item
sleep = Act (action.Sleep (variable 4) (variable 3))

abbrev waiting : List Item
waiting = Act (action.Lock (variable 3)) ∷ sleep ∷ Act (action.Wake (variable 4) (variable 3)) ∷ []

sleeps : of_items waiting [] 3
    ≡ Some (event.Begin (node 0) ∷ event.Lock (variable 3) ∷ event.Sleep (variable 4) (variable 3) ∷ [], ending.Running)
sleeps = refl

-- a thread that sleeps does not wake by itself
sleeps-on : of_items waiting [] 4 ≡ None
sleeps-on = refl

-- a thread that does not hold the mutex cannot wait
sleep-unlocked : of_items (sleep ∷ []) [] 2
    ≡ Some (event.Begin (node 0) ∷ event.Trap trap.Unlock ∷ [], ending.Trap trap.Unlock)
sleep-unlocked = refl

-- main creates a thread, which does this, and waits
abbrev other_items : List Item → ℕ → List Item
other_items other zero = push (pos 21) ∷ Act (action.Create handle (fn_id 1)) ∷ waiting
other_items other (suc n) = other

abbrev beside : List Item → Code
beside other = program (other_items other) no_ops two_next

-- a signal, after which main wakes
signal-wakes : told (run (beside (Act (action.Signal (variable 4)) ∷ [])) [] (normal 5 0 ++ normal 2 1 ++ normal 1 0))
    ≡ Some (event.Begin (node 0) ∷ event.Silent ∷ event.Create 1 ∷ event.Lock (variable 3) ∷ event.Sleep (variable 4) (variable 3) ∷ event.Begin (node 9) ∷ event.Signal (variable 4) ∷ event.Wake (variable 4) (variable 3) ∷ [], ending.Running)
signal-wakes = refl

-- a signal before main sleeps is lost
signal-lost : run (beside (Act (action.Signal (variable 4)) ∷ [])) [] (normal 3 0 ++ normal 2 1 ++ normal 3 0) ≡ None
signal-lost = refl

-- a broadcast wakes it too, once the mutex is free
abbrev broadcasts : Code
broadcasts =
    beside (Act (action.Lock (variable 3)) ∷ Act (action.Broadcast (variable 4)) ∷ Act (action.Unlock (variable 3)) ∷ [])

wake-blocked : run broadcasts [] (normal 5 0 ++ normal 3 1 ++ normal 1 0) ≡ None
wake-blocked = refl

broadcast-wakes : told (run broadcasts [] (normal 5 0 ++ normal 4 1 ++ normal 1 0))
    ≡ Some (event.Begin (node 0) ∷ event.Silent ∷ event.Create 1 ∷ event.Lock (variable 3) ∷ event.Sleep (variable 4) (variable 3) ∷ event.Begin (node 9) ∷ event.Lock (variable 3) ∷ event.Broadcast (variable 4) ∷ event.Unlock (variable 3) ∷ event.Wake (variable 4) (variable 3) ∷ [], ending.Running)
broadcast-wakes = refl

-- threads that sleep stand by rising numbers, and a signal wakes the first
rising : with_sleeper 2 (with_sleeper 1 (with_sleeper 3 [])) ≡ 1 ∷ 2 ∷ 3 ∷ []
rising = refl

lowest : all_but_lowest (1 ∷ 2 ∷ 3 ∷ []) ≡ 2 ∷ 3 ∷ []
lowest = refl

-- operations: main enters lock 0 twice, waits for order 1, which begins with a token, and leaves; function 1 does order 1
-- and enters lock 0
abbrev main_ops : ℕ → List Op
main_ops zero = op.Enter (lock 0) ∷ op.Enter (lock 0) ∷ op.Wait (order 1) ∷ op.Leave (lock 0) ∷ op.Leave (lock 0) ∷ op.Leave (lock 0) ∷ []
main_ops (suc n) = []

abbrev thread_ops : ℕ → List Op
thread_ops zero = []
thread_ops (suc n) = op.Done (order 1) ∷ op.Enter (lock 0) ∷ op.Leave (lock 0) ∷ []

abbrev some_ops : Place → List Op
some_ops (Start f) = thread_ops f.number
some_ops (After n) = main_ops n.number
some_ops (True n) = []
some_ops (False n) = []

abbrev guarded : Code
guarded = two (push (pos 21) ∷ Act (action.Create handle (fn_id 1)) ∷ edge 0 ∷ []) [] some_ops

-- the wait passes once the token is taken; the thread's enter times out while main holds the lock, its leave then releases
-- nothing, and main's third leave changes nothing
operations : told (run guarded [] (normal 6 0 ++ (normal 1 1 ++ late 1 ∷ normal 2 1) ++ normal 4 0))
    ≡ Some (event.Begin (node 0) ∷ event.Silent ∷ event.Create 1 ∷ event.Silent ∷ event.Enter (lock 0) ∷ event.Enter (lock 0) ∷ event.Done (order 1) ∷ event.EnterMissed (lock 0) ∷ event.Leave (lock 0) ∷ event.Begin (node 9) ∷ event.Wait (order 1) ∷ event.Leave (lock 0) ∷ event.Leave (lock 0) ∷ event.Leave (lock 0) ∷ [], ending.Running)
operations = refl

-- an enter times out only while another thread holds the lock, and a wait only while its order has a token and no flag
enter-blocked : run guarded [] (normal 6 0 ++ normal 2 1) ≡ None
enter-blocked = refl

enter-not-late : run guarded [] (normal 4 0 ++ normal 1 1 ++ late 1 ∷ []) ≡ None
enter-not-late = refl

own-enter-not-late : run guarded [] (normal 5 0 ++ late 0 ∷ []) ≡ None
own-enter-not-late = refl

wait-blocked : run guarded [] (normal 7 0) ≡ None
wait-blocked = refl

wait-late : told (run guarded [] (normal 6 0 ++ late 0 ∷ []))
    ≡ Some (event.Begin (node 0) ∷ event.Silent ∷ event.Create 1 ∷ event.Silent ∷ event.Enter (lock 0) ∷ event.Enter (lock 0) ∷ event.WaitMissed (order 1) ∷ [], ending.Running)
wait-late = refl

-- the schedule without the operations' entries
erases : erased (record { lock = 0; order = 0 }) guarded [] (normal 6 0 ++ normal 1 1 ++ late 1 ∷ normal 2 1) ≡ normal 4 0 ++ normal 1 1
erases = refl

-- those of order 1 are kept where only locks are new
erases-locks : erased (record { lock = 0; order = 8 }) guarded [] (normal 6 0 ++ normal 1 1 ++ late 1 ∷ normal 2 1) ≡ normal 4 0 ++ normal 2 1
erases-locks = refl

-- a flag makes a wait pass, an added token blocks it again
abbrev signals : Place → List Op
signals (Start f) = op.First (order 1) ∷ op.Wait (order 1) ∷ op.Add (order 2) ∷ op.Add (order 2) ∷ op.Done (order 2) ∷ op.Wait (order 2) ∷ []
signals _ = []

flags : told (run (program (λ n. []) signals first_only) [] (normal 5 0 ++ late 0 ∷ normal 1 0))
    ≡ Some (event.First (order 1) ∷ event.Wait (order 1) ∷ event.Add (order 2) ∷ event.Add (order 2) ∷ event.Done (order 2) ∷ event.WaitMissed (order 2) ∷ event.Begin (node 0) ∷ [], ending.Running)
flags = refl

-- edges of 32 bits, division that truncates, and the sign of a remainder
abbrev pub all_traps : List Computed
all_traps =
    binary operator.Add (pos 2147483647) (pos 1) ∷ binary operator.Sub (negsuc 2147483647) (pos 1) ∷ binary operator.Mul (pos 65536) (pos 32768) ∷ binary operator.Div (negsuc 2147483647) (negsuc 0) ∷ binary operator.Rem (negsuc 2147483647) (negsuc 0) ∷ unary unaries.Neg (negsuc 2147483647) ∷ []

overflows : all_traps ≡ replicate 6 (values.trap trap.Overflow)
overflows = refl

zeros : (binary operator.Div (pos 1) (pos 0) ≡ values.trap trap.Zero) × (binary operator.Rem (negsuc 2147483647) (pos 0) ≡ values.trap trap.Zero)
zeros = (refl, refl)

abbrev pub all_values : List Computed
all_values =
    binary operator.Add (pos 2147483646) (pos 1) ∷ binary operator.Sub (negsuc 2147483646) (pos 1) ∷ binary operator.Mul (pos 65536) (negsuc 32767) ∷ binary operator.Div (negsuc 6) (pos 2) ∷ binary operator.Rem (negsuc 6) (pos 2) ∷ binary operator.Rem (pos 7) (negsuc 1) ∷ binary operator.Eq (negsuc 3) (negsuc 3) ∷ binary operator.Ne (negsuc 3) (pos 4) ∷ binary operator.Gt (pos 4) (negsuc 3) ∷ binary operator.Le (pos 4) (pos 4) ∷ []

values-fit : all_values
    ≡ values.value (pos 2147483647) ∷ values.value (negsuc 2147483647) ∷ values.value (negsuc 2147483647) ∷ values.value (negsuc 2) ∷ values.value (negsuc 0) ∷ values.value (pos 1) ∷ values.value (pos 1) ∷ values.value (pos 1) ∷ values.value (pos 1) ∷ values.value (pos 1) ∷ []
values-fit = refl

-- a frame stands at the node that it visits; at the one that it left, or the start, until it has made the operations there;
-- then at the next one, or past them all
abbrev pub added : Item
added = item.Op (op.Add (order 1))

abbrev pub all_spots : List Spot
all_spots =
    spot (Some (node 2)) (Start (fn_id 1)) (added ∷ []) ∷ spot None (True (node 2)) (added ∷ Go (move.Node (node 3)) ∷ []) ∷ spot None (Start (fn_id 1)) (added ∷ []) ∷ spot None (True (node 2)) (Go (move.Node (node 3)) ∷ []) ∷ spot None (After (node 2)) (Go move.Exit ∷ []) ∷ []

spots : all_spots ≡ At 2 ∷ At 2 ∷ Begin 1 ∷ At 3 ∷ Past ∷ []
spots = refl
