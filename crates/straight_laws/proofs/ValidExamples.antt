-- Small programs that keep the rules, and programs that break one of them.
use Rattle.std.proofs.Common.{◌≡◌, ℕ, ◌<◌, ◌-◌, ◌^◌, subst, sym, arith, pos, negsuc, List, [], ◌∷◌, ◌++◌, map, Some, None, Bool, true, false, ◌&&◌, refl, codes}
use Rattle.std.specs.List.{list_all, list_any}
use Rattle.cfix_base.specs.declared.op.Op.TheVariants as op
use Rattle.c_prog.specs.declared.act.Act.{Act}
use Rattle.c_prog.specs.declared.act.CallForm.{CallForm}
use Rattle.c_prog.specs.declared.act.Act.TheVariants as act
use Rattle.c_prog.specs.declared.act.How.TheVariants as how
use Rattle.c_prog.specs.declared.act.LocalKind.TheVariants as local_kind
use Rattle.c_prog.specs.declared.act.Value.TheVariants as value
use Rattle.c_prog.specs.declared.expr.BinOp.TheVariants as bin_op
use Rattle.c_prog.specs.declared.expr.Expr.{Expr}
use Rattle.c_prog.specs.declared.expr.Expr.TheVariants as expr
use Rattle.c_prog.specs.declared.expr.Target.{Target}
use Rattle.c_prog.specs.declared.expr.Var.TheVariants as var
use Rattle.c_prog.specs.declared.function.FnKind.{FnKind}
use Rattle.c_prog.specs.declared.function.FnKind.TheVariants as fn_kind
use Rattle.c_prog.specs.declared.function.Function.{Function}
use Rattle.c_prog.specs.declared.global.Global.{Global}
use Rattle.c_prog.specs.declared.global.GlobalKind.TheVariants as global_kind
use Rattle.c_prog.specs.declared.stmt.Cond.{Cond}
use Rattle.c_prog.specs.declared.stmt.Jump.{Jump}
use Rattle.c_prog.specs.declared.stmt.Jump.TheVariants as jump
use Rattle.c_prog.specs.declared.stmt.Stmt.{Stmt}
use Rattle.c_prog.specs.declared.stmt.Stmt.TheVariants as stmt
use Rattle.c_prog.specs.declared.tree.Tree.{Tree}
use Rattle.c_prog.specs.Nodes.{tree_nodes}
use Rattle.straight_laws.specs.Straight.{is_straight, is_straight_act}
use Rattle.c_prog.specs.Valid.{IsValid, has_valid_function_ops}
use Rattle.c_prog.specs.Valid.Kinds.{file_of}
use Rattle.c_prog.specs.Valid.Strings.{is_string, directives}
use Rattle.c_prog.specs.Valid.Operations.{are_valid_starts}
use Rattle.c_prog.specs.Valid.Functions.{are_declared_names, file_names, is_valid_global, is_valid_function, is_main}
use Rattle.c_prog.proofs.Equations.{nodes-Simple}
use Rattle.straight_laws.proofs.StraightEquations.{straight-Simple, straight-Number, straight-Read}
use Rattle.c_prog.proofs.ValidEquations.{valid_steps}
use Rattle.straight_laws.proofs.ValidStraight.{valid-straight}

-- every rule of `IsValid`, without the counts
abbrev rules : Tree → Bool
rules tree =
    are_declared_names (file_names tree) && list_all (λ global. is_valid_global global.kind) tree.globals
    && list_any is_main tree.functions && list_all (is_valid_function (file_of tree)) tree.functions
    && list_all has_valid_function_ops tree.functions && are_valid_starts tree.starts

-- the global with this number, or the local
abbrev global : ℕ → Target
global n = record { var = var.Global (record { number = n }); index = None }

abbrev local : ℕ → Target
local n = record { var = var.Local n; index = None }

-- an element of the global with this number, or of the local
abbrev element : ℕ → Expr → Target
element n index = record { var = var.Global (record { number = n }); index = Some index }

abbrev local_element : ℕ → Expr → Target
local_element n index = record { var = var.Local n; index = Some index }

abbrev number : ℕ → Expr
number n = expr.Number (pos n)

-- the value of a global, or of a local
abbrev value_of : ℕ → Expr
value_of n = expr.Read (global n)

abbrev local_value : ℕ → Expr
local_value n = expr.Read (local n)

-- a call of the function with this number
abbrev call : ℕ → List Expr → CallForm
call n args = record { of = record { number = n }; args = args }

-- a statement without operations
abbrev plain : Act → Stmt
plain a = stmt.Simple a []

-- `target = expr`
abbrev set : Target → Expr → Stmt
set target e = plain (act.Assign target how.Set (value.Expr e))

-- `int name;` and `int name = expr;`
abbrev declare : List ℕ → Stmt
declare name = plain (act.Declare name local_kind.Int None)

abbrev begin : List ℕ → Expr → Stmt
begin name e = plain (act.Declare name local_kind.Int (Some (value.Expr e)))

abbrev declare_thread : List ℕ → Stmt
declare_thread name = plain (act.Declare name local_kind.Thread None)

-- `pthread_create(&target, NULL, function, NULL)`
abbrev create : Target → ℕ → Stmt
create target n = plain (act.Create target (record { number = n }) (number 0))

-- a condition without operations
abbrev test : Expr → Cond
test e = record { test = e; on_true = []; on_false = [] }

abbrev while : Expr → List Stmt → Stmt
while e body = stmt.Loop (test e) None body

abbrev jump_of : Jump → Stmt
jump_of j = stmt.Jump j []

abbrev returned : Expr → Stmt
returned e = stmt.Jump (jump.ReturnValue (value.Expr e)) []

abbrev function : List ℕ → FnKind → List (List ℕ) → List Stmt → Function
function name kind params body = record { name = name; kind = kind; params = params; start = []; body = body }

-- functions 0 to 3: `void *worker(void *arg)`, `void pair(int a, int b)`, `int one(void)` and main with this body
abbrev worker : Function
worker = function (codes "worker") fn_kind.Thread (codes "arg" ∷ []) (plain (act.Up (global 0)) ∷ jump_of jump.ReturnNull ∷ [])

abbrev pair : Function
pair = function (codes "pair") fn_kind.Void (codes "a" ∷ codes "b" ∷ []) []

abbrev one : Function
one = function (codes "one") fn_kind.Int [] (returned (number 1) ∷ [])

abbrev main : List Stmt → Function
main body = function (codes "main") fn_kind.Int [] body

-- globals 0 to 4: `int x;`, `int a[3];`, `pthread_t t;`, `pthread_mutex_t m;` and `pthread_cond_t c;`
abbrev globals : List Global
globals =
    record { name = codes "x"; kind = global_kind.Int (pos 0) } ∷ record { name = codes "a"; kind = global_kind.IntArray 3 }
    ∷ record { name = codes "t"; kind = global_kind.Thread } ∷ record { name = codes "m"; kind = global_kind.Mutex }
    ∷ record { name = codes "c"; kind = global_kind.Cond } ∷ []

abbrev tree : List Function → Tree
tree functions = record { globals = globals; functions = functions; starts = [] }

-- the rules of the program with this body of main
abbrev body : List Stmt → Bool
body stmts = rules (tree (worker ∷ pair ∷ one ∷ main stmts ∷ []))

-- the rules of the program with this function behind main
abbrev also : Function → Bool
also f = rules (tree (worker ∷ pair ∷ one ∷ main [] ∷ f ∷ []))

-- int main(void) { x++; }
counter : body (plain (act.Up (global 0)) ∷ []) ≡ true
counter = simp valid_steps refl

-- two threads count: declarations, creations, joins, printf and return
threads : body
    (declare_thread (codes "p") ∷ declare_thread (codes "q") ∷ create (local 0) 0 ∷ create (local 1) 0 ∷ plain (act.Join (local 0))
    ∷ plain (act.Join (local 1)) ∷ plain (act.Print (codes "%d%%" ++ 10 ∷ []) (value_of 0 ∷ [])) ∷ returned (number 0) ∷ []) ≡ true
threads = simp valid_steps refl

-- int x; { int x = x; x++; } x++; int y; y++; has the locals 0, 1 and 2
shadows : body
    (declare (codes "x") ∷ stmt.Block (begin (codes "x") (local_value 1) ∷ plain (act.Up (local 1)) ∷ []) ∷ plain (act.Up (local 0))
    ∷ declare (codes "y") ∷ plain (act.Up (local 2)) ∷ []) ≡ true
shadows = simp valid_steps refl

-- { int i = 0; for (; i < 2; i++) { int i; if (i) break; else { continue; } } } a[x] += one();
loops : body
    (stmt.Block (begin (codes "i") (number 0)
    ∷ stmt.Loop (test (expr.Binary bin_op.Lt (local_value 0) (number 2))) (Some (record { act = act.Up (local 0); after = [] }))
    (declare (codes "i") ∷ stmt.If (test (local_value 1)) (jump_of jump.Break ∷ []) (jump_of jump.Continue ∷ []) ∷ []) ∷ [])
    ∷ plain (act.Assign (element 1 (value_of 0)) how.Set (value.Call (call 2 []))) ∷ []) ≡ true
loops = simp valid_steps refl

-- int b[2]; pthread_t ts[2]; b[0]--; x += a[b[1]]; pthread_create(&ts[x], NULL, worker, (void *)(long)-x);
-- pthread_join(ts[0], NULL); pthread_join(t, NULL); pthread_mutex_lock(&m); pthread_mutex_unlock(&m); scanf("%d", &a[x]);
uses : body
    (plain (act.Declare (codes "b") (local_kind.IntArray 2) None) ∷ plain (act.Declare (codes "ts") (local_kind.ThreadArray 2) None)
    ∷ plain (act.Down (local_element 0 (number 0)))
    ∷ plain (act.Assign (global 0) how.Add (value.Expr (expr.Read (element 1 (expr.Read (local_element 0 (number 1)))))))
    ∷ plain (act.Create (local_element 1 (value_of 0)) (record { number = 0 }) (expr.Neg (value_of 0)))
    ∷ plain (act.Join (local_element 1 (number 0))) ∷ plain (act.Join (global 2)) ∷ plain (act.Lock (record { number = 3 }))
    ∷ plain (act.Unlock (record { number = 3 })) ∷ plain (act.Scan (element 1 (value_of 0))) ∷ []) ≡ true
uses = simp valid_steps refl

-- pthread_cond_wait(&c, &m); pthread_cond_signal(&c); pthread_cond_broadcast(&c);
waits : body
    (plain (act.Wait (record { number = 4 }) (record { number = 3 })) ∷ plain (act.Signal (record { number = 4 }))
    ∷ plain (act.Broadcast (record { number = 4 })) ∷ []) ≡ true
waits = simp valid_steps refl

-- Numbers, variables and indices.
numbers : body (set (global 0) (expr.Number (negsuc 0)) ∷ []) ≡ false  -- x = the number -1
numbers = simp valid_steps refl

too_great : body (set (global 0) (number 2147483648) ∷ []) ≡ false
too_great = simp valid_steps refl

unknown_global : body (plain (act.Up (global 5)) ∷ []) ≡ false
unknown_global = simp valid_steps refl

unknown_local : body (plain (act.Up (local 0)) ∷ []) ≡ false
unknown_local = simp valid_steps refl

array_alone : body (plain (act.Up (global 1)) ∷ []) ≡ false  -- a++
array_alone = simp valid_steps refl

index_on_scalar : body (plain (act.Up (element 0 (number 0))) ∷ []) ≡ false  -- x[0]++
index_on_scalar = simp valid_steps refl

thread_read : body (set (global 0) (value_of 2) ∷ []) ≡ false  -- x = t
thread_read = simp valid_steps refl

mutex_read : body (set (global 0) (value_of 3) ∷ []) ≡ false  -- x = m
mutex_read = simp valid_steps refl

cond_read : body (set (global 0) (value_of 4) ∷ []) ≡ false  -- x = c
cond_read = simp valid_steps refl

bad_index : body (plain (act.Up (element 1 (value_of 2))) ∷ []) ≡ false  -- a[t]++
bad_index = simp valid_steps refl

-- Scopes: what is hidden, what is closed, what is not yet declared, and what stands twice.
hidden_global : body (declare (codes "x") ∷ plain (act.Up (global 0)) ∷ []) ≡ false
hidden_global = simp valid_steps refl

hidden_local : body (declare (codes "x") ∷ stmt.Block (declare (codes "x") ∷ plain (act.Up (local 0)) ∷ []) ∷ []) ≡ false
hidden_local = simp valid_steps refl

initialiser_sees : body (begin (codes "x") (value_of 0) ∷ []) ≡ false  -- int x = x means the local
initialiser_sees = simp valid_steps refl

closed : body (stmt.Block (declare (codes "y") ∷ []) ∷ plain (act.Up (local 0)) ∷ []) ≡ false
closed = simp valid_steps refl

branches_apart : body (stmt.If (test (number 1)) (declare (codes "y") ∷ []) (plain (act.Up (local 0)) ∷ []) ∷ []) ≡ false
branches_apart = simp valid_steps refl

step_outside : body
    (stmt.Loop (test (number 1)) (Some (record { act = act.Up (local 0); after = [] })) (declare (codes "y") ∷ []) ∷ []) ≡ false
step_outside = simp valid_steps refl

later : body (plain (act.Up (local 0)) ∷ declare (codes "y") ∷ []) ≡ false
later = simp valid_steps refl

twice : body (declare (codes "y") ∷ declare (codes "y") ∷ []) ≡ false
twice = simp valid_steps refl

hidden_function : body (declare (codes "one") ∷ plain (act.Call (call 2 [])) ∷ []) ≡ false
hidden_function = simp valid_steps refl

hidden_mutex : body (declare (codes "m") ∷ plain (act.Lock (record { number = 3 })) ∷ []) ≡ false
hidden_mutex = simp valid_steps refl

hidden_cond : body (declare (codes "c") ∷ plain (act.Signal (record { number = 4 })) ∷ []) ≡ false
hidden_cond = simp valid_steps refl

word_name : body (declare (codes "while") ∷ []) ≡ false
word_name = simp valid_steps refl

reserved_name : body (declare (codes "cfix_x") ∷ []) ≡ false
reserved_name = simp valid_steps refl

no_name : body (declare (codes "2x") ∷ []) ≡ false
no_name = simp valid_steps refl

-- a local may have the name of a function that it does not use, and of main
free_name : body (declare (codes "main") ∷ declare (codes "worker") ∷ plain (act.Up (local 1)) ∷ []) ≡ true
free_name = simp valid_steps refl

-- Calls, creations and joins.
called : body (plain (act.Call (call 1 (number 1 ∷ value_of 0 ∷ []))) ∷ plain (act.Call (call 2 [])) ∷ []) ≡ true
called = simp valid_steps refl

few_arguments : body (plain (act.Call (call 1 (number 1 ∷ []))) ∷ []) ≡ false
few_arguments = simp valid_steps refl

void_value : body (plain (act.Assign (global 0) how.Set (value.Call (call 1 (number 1 ∷ number 2 ∷ [])))) ∷ []) ≡ false
void_value = simp valid_steps refl

call_of_worker : body (plain (act.Call (call 0 (number 1 ∷ []))) ∷ []) ≡ false
call_of_worker = simp valid_steps refl

call_of_main : body (plain (act.Call (call 3 [])) ∷ []) ≡ false
call_of_main = simp valid_steps refl

added_call : body (plain (act.Assign (global 0) how.Add (value.Call (call 2 []))) ∷ []) ≡ false  -- x += one()
added_call = simp valid_steps refl

step_call : body (stmt.Loop (test (number 1))
    (Some (record { act = act.Assign (global 0) how.Set (value.Call (call 2 [])); after = [] })) [] ∷ []) ≡ false
step_call = simp valid_steps refl

step_declares : body (stmt.Loop (test (number 1))
    (Some (record { act = act.Declare (codes "y") local_kind.Int None; after = [] })) [] ∷ []) ≡ false
step_declares = simp valid_steps refl

created_int : body (create (global 2) 2 ∷ []) ≡ false
created_int = simp valid_steps refl

created_into_int : body (create (global 0) 0 ∷ []) ≡ false
created_into_int = simp valid_steps refl

joined_int : body (plain (act.Join (global 0)) ∷ []) ≡ false
joined_int = simp valid_steps refl

locked_int : body (plain (act.Lock (record { number = 0 })) ∷ []) ≡ false
locked_int = simp valid_steps refl

locked_cond : body (plain (act.Lock (record { number = 4 })) ∷ []) ≡ false
locked_cond = simp valid_steps refl

wait_on_mutex : body (plain (act.Wait (record { number = 3 }) (record { number = 3 })) ∷ []) ≡ false
wait_on_mutex = simp valid_steps refl

wait_without_mutex : body (plain (act.Wait (record { number = 4 }) (record { number = 4 })) ∷ []) ≡ false
wait_without_mutex = simp valid_steps refl

signalled_mutex : body (plain (act.Signal (record { number = 3 })) ∷ []) ≡ false
signalled_mutex = simp valid_steps refl

broadcast_int : body (plain (act.Broadcast (record { number = 0 })) ∷ []) ≡ false
broadcast_int = simp valid_steps refl

scanned_thread : body (plain (act.Scan (global 2)) ∷ []) ≡ false
scanned_thread = simp valid_steps refl

begun_thread : body (plain (act.Declare (codes "p") local_kind.Thread (Some (value.Expr (number 0)))) ∷ []) ≡ false
begun_thread = simp valid_steps refl

-- Strings: how many `%d` they have, and their bytes.
strings : directives (codes "%d %%d %d") ≡ Some 2
strings = refl

other_directive : directives (codes "%s") ≡ None
other_directive = refl

open_percent : directives (codes "%%%") ≡ None
open_percent = refl

string_bytes : is_string (9 ∷ 10 ∷ 34 ∷ 92 ∷ 126 ∷ 128 ∷ 255 ∷ []) ≡ true
string_bytes = refl

bad_bytes : map (λ byte. is_string (byte ∷ [])) (0 ∷ 8 ∷ 11 ∷ 13 ∷ 31 ∷ 127 ∷ 256 ∷ [])
    ≡ false ∷ false ∷ false ∷ false ∷ false ∷ false ∷ false ∷ []
bad_bytes = refl

printed_few : body (plain (act.Print (codes "%d") []) ∷ []) ≡ false
printed_few = simp valid_steps refl

-- Jumps and the ends of functions.
break_outside : body (jump_of jump.Break ∷ []) ≡ false
break_outside = simp valid_steps refl

continue_in_branch : body (stmt.If (test (number 1)) (jump_of jump.Continue ∷ []) [] ∷ []) ≡ false
continue_in_branch = simp valid_steps refl

bare_return : body (jump_of jump.Return ∷ []) ≡ false
bare_return = simp valid_steps refl

null_in_main : body (jump_of jump.ReturnNull ∷ []) ≡ false
null_in_main = simp valid_steps refl

value_in_void : also (function (codes "f") fn_kind.Void [] (returned (number 0) ∷ [])) ≡ false
value_in_void = simp valid_steps refl

-- the number 0 in a thread function is spelled as NULL
value_in_thread : also (function (codes "f") fn_kind.Thread (codes "arg" ∷ []) (returned (number 0) ∷ [])) ≡ false
value_in_thread = simp valid_steps refl

falls : also (function (codes "f") fn_kind.Int [] []) ≡ false
falls = simp valid_steps refl

falls_by_break : also (function (codes "f") fn_kind.Int [] (while (number 1) (jump_of jump.Break ∷ []) ∷ [])) ≡ false
falls_by_break = simp valid_steps refl

falls_by_zero : also (function (codes "f") fn_kind.Int [] (while (number 0) [] ∷ [])) ≡ false
falls_by_zero = simp valid_steps refl

falls_by_else : also (function (codes "f") fn_kind.Int [] (stmt.If (test (value_of 0)) (returned (number 1) ∷ []) [] ∷ [])) ≡ false
falls_by_else = simp valid_steps refl

-- while (7) { while (1) break; } does not fall through, nor does an `if` whose branches both return
stays : also (function (codes "f") fn_kind.Int [] (while (number 7) (while (number 1) (jump_of jump.Break ∷ []) ∷ []) ∷ [])) ≡ true
stays = simp valid_steps refl

both_return : also (function (codes "f") fn_kind.Int (codes "n" ∷ [])
    (stmt.If (test (local_value 0)) (returned (number 1) ∷ []) (returned (local_value 0) ∷ []) ∷ [])) ≡ true
both_return = simp valid_steps refl

-- Parameters and the functions of threads.
argument_cast : also (function (codes "f") fn_kind.Thread (codes "arg" ∷ []) (set (global 0) (expr.Cast 0) ∷ [])) ≡ true
argument_cast = simp valid_steps refl

argument_read : also (function (codes "f") fn_kind.Thread (codes "arg" ∷ []) (set (global 0) (local_value 0) ∷ [])) ≡ false
argument_read = simp valid_steps refl

argument_hidden : also (function (codes "f") fn_kind.Thread (codes "arg" ∷ [])
    (stmt.Block (declare (codes "arg") ∷ set (global 0) (expr.Cast 0) ∷ []) ∷ [])) ≡ false
argument_hidden = simp valid_steps refl

int_cast : also (function (codes "f") fn_kind.Void (codes "n" ∷ []) (set (global 0) (expr.Cast 0) ∷ [])) ≡ false
int_cast = simp valid_steps refl

no_argument : also (function (codes "f") fn_kind.Thread [] []) ≡ false
no_argument = simp valid_steps refl

same_params : also (function (codes "f") fn_kind.Void (codes "n" ∷ codes "n" ∷ []) []) ≡ false
same_params = simp valid_steps refl

param_and_local : also (function (codes "f") fn_kind.Void (codes "n" ∷ []) (declare (codes "n") ∷ [])) ≡ false
param_and_local = simp valid_steps refl

param_inside : also (function (codes "f") fn_kind.Void (codes "n" ∷ []) (stmt.Block (declare (codes "n") ∷ []) ∷ [])) ≡ true
param_inside = simp valid_steps refl

-- The file: its names, main, the values of its globals, operations and starts.
same_file_name : also (function (codes "x") fn_kind.Void [] []) ≡ false
same_file_name = refl

second_main : also (main []) ≡ false
second_main = refl

no_main : rules (tree (worker ∷ pair ∷ one ∷ [])) ≡ false
no_main = refl

void_main : rules (tree (worker ∷ function (codes "main") fn_kind.Void [] [] ∷ [])) ≡ false
void_main = refl

main_with_params : rules (tree (worker ∷ function (codes "main") fn_kind.Int (codes "n" ∷ []) [] ∷ [])) ≡ false
main_with_params = refl

-- a length is a number that a text spells, 0 too: that it is refused is a limit
global_values : map is_valid_global
    (global_kind.Int (negsuc 2147483646) ∷ global_kind.Int (negsuc 2147483647) ∷ global_kind.IntArray 0 ∷ global_kind.IntArray 2147483647
    ∷ global_kind.IntArray 2147483648 ∷ []) ≡ true ∷ false ∷ true ∷ true ∷ false ∷ []
global_values = refl

great_operation : body (stmt.Simple (act.Up (global 0)) (op.Enter (record { number = 2147483648 }) ∷ []) ∷ []) ≡ false
great_operation = simp valid_steps refl

-- operations may stand at a dead place, and behind a jump with a value
operations : body
    (stmt.Loop (record { test = number 1; on_true = []; on_false = op.Leave (record { number = 0 }) ∷ [] }) None (jump_of jump.Break ∷ [])
    ∷ stmt.Jump (jump.ReturnValue (value.Expr (number 0))) (op.Add (record { number = 2147483647 }) ∷ []) ∷ []) ≡ true
operations = simp valid_steps refl

starts : map are_valid_starts
    ((record { number = 0 } ∷ record { number = 3 } ∷ []) ∷ (record { number = 3 } ∷ record { number = 3 } ∷ [])
    ∷ (record { number = 2147483648 } ∷ []) ∷ []) ≡ true ∷ false ∷ false ∷ []
starts = refl

-- int x; int y; int main(void) { cfix_enter(0); x++; cfix_leave(0); y = 1; y = x; }
abbrev line : Tree
line = record {
  globals = record { name = codes "x"; kind = global_kind.Int (pos 0) } ∷ record { name = codes "y"; kind = global_kind.Int (pos 0) } ∷ [];
  functions = record {
    name = codes "main";
    kind = fn_kind.Int;
    params = [];
    start = op.Enter (record { number = 0 }) ∷ [];
    body = stmt.Simple (act.Up (global 0)) (op.Leave (record { number = 0 }) ∷ []) ∷ set (global 1) (number 1) ∷ set (global 1) (value_of 0) ∷ [];
  } ∷ [];
  starts = [];
}

line-valid : IsValid line
line-valid =
    let form : is_straight line ≡ true = simp (straight-Simple, straight-Number, straight-Read) refl in
    let nodes : tree_nodes line ≡ 3 = simp nodes-Simple refl in
    valid-straight line form (subst (λ n. n < 2 ^ 32 - 1) (sym nodes) (omega arith)) (omega arith)

-- a second function, an index, a local and a number with a sign are not of this form
not_straight : is_straight (tree (one ∷ main [] ∷ [])) ≡ false
not_straight = refl

no_scalars : map (is_straight_act globals)
    (act.Up (element 1 (number 0)) ∷ act.Up (local 0) ∷ act.Up (global 5) ∷ act.Down (global 0)
    ∷ act.Assign (global 0) how.Set (value.Expr (expr.Number (negsuc 0))) ∷ []) ≡ false ∷ false ∷ false ∷ false ∷ false ∷ []
no_scalars = simp straight-Number refl
