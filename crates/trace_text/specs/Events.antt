-- The lines of events: the number of the step, the thread, and what the step did.
use Rattle.std.specs.Prelude.{ℕ, List, [], ◌++◌, codes, slice_get, Option, Some, None}
use Rattle.std.specs.Fmt.{decimal, signed_decimal}
use Rattle.cfix_base.specs.declared.number.VarId.{VarId}
use Rattle.c_prog.specs.declared.function.Function.{Function}
use Rattle.c_prog.specs.declared.global.Global.{Global}
use Rattle.c_prog.specs.declared.global.GlobalKind.{GlobalKind}
use Rattle.c_prog.specs.declared.global.GlobalKind.TheVariants as kind
use Rattle.c_prog.specs.declared.tree.Tree.{Tree}
use Rattle.c_print.specs.Text.Pieces.{in_brackets, quoted, closed}
use Rattle.step_state.specs.declared.event.Event.{Event}
use Rattle.step_state.specs.declared.event.Event.TheVariants as event
use Rattle.step_tables.specs.TreeCode.{variable_of}

-- the index of a cell, where the variable is an array
abbrev pub index_text : GlobalKind → ℕ → List ℕ
index_text (kind.IntArray n) cell = in_brackets (decimal cell)
index_text (kind.ThreadArray n) cell = in_brackets (decimal cell)
index_text (kind.Int value) cell = []
index_text kind.Thread cell = []
index_text kind.Mutex cell = []
index_text kind.Cond cell = []

-- a variable by its name, and an element of an array with its index; nothing where there is no such variable
abbrev pub cell_text : Option Global → ℕ → List ℕ
cell_text None cell = []
cell_text (Some g) cell = g.name ++ index_text g.kind cell

-- the name of a variable, and of a function
abbrev pub variable_name : Option Global → List ℕ
variable_name None = []
variable_name (Some g) = g.name

abbrev pub function_name : Option Function → List ℕ
function_name None = []
function_name (Some f) = f.name

-- the variable with this number, if there is one
abbrev pub global_of : Tree → Option VarId → Option Global
global_of tree None = None
global_of tree (Some v) = slice_get tree.globals v.number

-- a value that was read or written, behind what was done and where
abbrev pub access_text : List ℕ → Tree → Option VarId → ℕ → List ℕ → List ℕ
access_text word tree variable cell value = word ++ cell_text (global_of tree variable) cell ++ codes " " ++ value

-- a condition variable and a mutex, behind what was done with them
abbrev pub waiting_text : List ℕ → Tree → VarId → VarId → List ℕ
waiting_text word tree cond mutex =
    word ++ variable_name (slice_get tree.globals cond.number) ++ codes " " ++ variable_name (slice_get tree.globals mutex.number)

-- what a step did, where the access that it made, if it made one, is to this variable
abbrev pub event_text : Tree → Option VarId → Event → List ℕ
event_text tree variable (event.Begin n) = codes "begin " ++ decimal n.number
event_text tree variable event.Silent = codes "silent"
event_text tree variable (event.Read site cell value) = access_text (codes "read ") tree variable cell (signed_decimal value)
event_text tree variable (event.Write site cell value) = access_text (codes "write ") tree variable cell (signed_decimal value)
event_text tree variable (event.Lock m) = codes "lock " ++ variable_name (slice_get tree.globals m.number)
event_text tree variable (event.Unlock m) = codes "unlock " ++ variable_name (slice_get tree.globals m.number)
event_text tree variable (event.Create t) = codes "create " ++ decimal t
event_text tree variable (event.Join t) = codes "join " ++ decimal t
event_text tree variable (event.Print bytes) = codes "print " ++ quoted bytes
event_text tree variable (event.Take value) = codes "take " ++ signed_decimal value
event_text tree variable (event.Call f) = codes "call " ++ function_name (slice_get tree.functions f.number)
event_text tree variable (event.Return value) = codes "return " ++ signed_decimal value
event_text tree variable event.Exit = codes "exit"
event_text tree variable (event.Trap t) = codes "trap"
event_text tree variable (event.Sleep cond mutex) = waiting_text (codes "sleep ") tree cond mutex
event_text tree variable (event.Wake cond mutex) = waiting_text (codes "wake ") tree cond mutex
event_text tree variable (event.Signal cond) = codes "signal " ++ variable_name (slice_get tree.globals cond.number)
event_text tree variable (event.Broadcast cond) = codes "broadcast " ++ variable_name (slice_get tree.globals cond.number)
event_text tree variable (event.Enter k) = codes "enter " ++ decimal k.number
event_text tree variable (event.EnterMissed k) = codes "enter " ++ decimal k.number ++ codes " missed"
event_text tree variable (event.Leave k) = codes "leave " ++ decimal k.number
event_text tree variable (event.First j) = codes "first " ++ decimal j.number
event_text tree variable (event.Done j) = codes "done " ++ decimal j.number
event_text tree variable (event.Wait j) = codes "wait " ++ decimal j.number
event_text tree variable (event.WaitMissed j) = codes "wait " ++ decimal j.number ++ codes " missed"
event_text tree variable (event.Add j) = codes "add " ++ decimal j.number

-- the variable of the access that an event names, if it names one
abbrev pub accessed : Tree → Event → Option VarId
accessed tree (event.Read site cell value) = variable_of tree site
accessed tree (event.Write site cell value) = variable_of tree site
accessed tree _ = None

-- the line of a step of a thread, with its line feed
abbrev pub line_text : Tree → Option VarId → ℕ → ℕ → Event → List ℕ
line_text tree variable step thread event =
    closed (decimal step ++ codes " " ++ decimal thread ++ codes " " ++ event_text tree variable event)

abbrev pub event_line : Tree → ℕ → ℕ → Event → List ℕ
event_line tree step thread event = line_text tree (accessed tree event) step thread event
