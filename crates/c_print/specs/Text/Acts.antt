-- Simple statements and steps in text, without what ends them.
use Rattle.std.specs.Prelude.{ℕ, List, [], ◌++◌, map, codes, decimal, Option, Some, None}
use Rattle.c_prog.specs.declared.act.Act.{Act}
use Rattle.c_prog.specs.declared.act.Act.TheVariants as act
use Rattle.c_prog.specs.declared.act.CallForm.{CallForm}
use Rattle.c_prog.specs.declared.act.How.{How}
use Rattle.c_prog.specs.declared.act.How.TheVariants as how
use Rattle.c_prog.specs.declared.act.LocalKind.{LocalKind}
use Rattle.c_prog.specs.declared.act.LocalKind.TheVariants as kind
use Rattle.c_prog.specs.declared.act.Value.{Value}
use Rattle.c_prog.specs.declared.act.Value.TheVariants as value
use Rattle.c_prog.specs.Order.{joined}
use Rattle.c_print.specs.Text.Names.{Names, name_at}
use Rattle.c_print.specs.Text.Pieces.{between, in_parentheses, in_brackets, quoted}
use Rattle.c_print.specs.Text.Expressions.{expr_text, target_text, thread_argument}

-- the call of a function
abbrev pub call_text : Names → CallForm → List ℕ
call_text names call =
    name_at names.functions call.of.number ++ in_parentheses (between (codes ", ") (map (expr_text names) call.args))

-- what is assigned, returned or begun with
abbrev pub value_text : Names → Value → List ℕ
value_text names (value.Expr e) = expr_text names e
value_text names (value.Call c) = call_text names c

-- a declared name with its type
abbrev pub local_text : List ℕ → LocalKind → List ℕ
local_text name kind.Int = codes "int " ++ name
local_text name (kind.IntArray n) = codes "int " ++ name ++ in_brackets (decimal n)
local_text name kind.Thread = codes "pthread_t " ++ name
local_text name (kind.ThreadArray n) = codes "pthread_t " ++ name ++ in_brackets (decimal n)

abbrev pub initial_text : Names → Option Value → List ℕ
initial_text names None = []
initial_text names (Some v) = codes " = " ++ value_text names v

-- the sign of an assignment operator (6.5.16 of ISO/IEC 9899:2011)
abbrev pub how_sign : How → List ℕ
how_sign how.Set = codes "="
how_sign how.Add = codes "+="
how_sign how.Sub = codes "-="
how_sign how.Mul = codes "*="
how_sign how.Div = codes "/="
how_sign how.Rem = codes "%="

-- a simple statement or a step
abbrev pub act_text : Names → Act → List ℕ
act_text names (act.Declare name kind initial) = local_text name kind ++ initial_text names initial
act_text names (act.Assign target how v) =
    target_text names target ++ codes " " ++ how_sign how ++ codes " " ++ value_text names v
act_text names (act.Up target) = target_text names target ++ codes "++"
act_text names (act.Down target) = target_text names target ++ codes "--"
act_text names (act.Call c) = call_text names c
act_text names (act.Create target of argument) =
    codes "pthread_create(&" ++ target_text names target ++ codes ", NULL, " ++ name_at names.functions of.number
    ++ codes ", " ++ thread_argument names argument ++ codes ")"
act_text names (act.Join target) = codes "pthread_join(" ++ target_text names target ++ codes ", NULL)"
act_text names (act.Lock m) = codes "pthread_mutex_lock(&" ++ name_at names.globals m.number ++ codes ")"
act_text names (act.Unlock m) = codes "pthread_mutex_unlock(&" ++ name_at names.globals m.number ++ codes ")"
act_text names (act.Print text args) =
    codes "printf(" ++ quoted text ++ joined (map (λ e. codes ", " ++ expr_text names e) args) ++ codes ")"
act_text names (act.Scan target) =
    codes "scanf(" ++ quoted (codes "%d") ++ codes ", &" ++ target_text names target ++ codes ")"
act_text names (act.Wait c m) =
    codes "pthread_cond_wait(&" ++ name_at names.globals c.number ++ codes ", &" ++ name_at names.globals m.number ++ codes ")"
act_text names (act.Signal c) = codes "pthread_cond_signal(&" ++ name_at names.globals c.number ++ codes ")"
act_text names (act.Broadcast c) = codes "pthread_cond_broadcast(&" ++ name_at names.globals c.number ++ codes ")"
