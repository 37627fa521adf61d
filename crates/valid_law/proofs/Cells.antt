-- Functions, variables and cells of the program that a file spells are those that the limits count.
use Rattle.std.proofs.Common.{◌≡◌, ℕ, suc, ◌+◌, ◌-◌, ◌≤◌, nat_lt, nat_le, Bool, true, false, List, [], ◌∷◌, ◌++◌, map, length, Option, Some, None, refl, ap, ◌∙◌, arith}
use Rattle.std.specs.List.{list_all}
use Rattle.std.proofs.lemmas.List.{length-append, length-map}
use Rattle.std.proofs.lemmas.Bool.{and_from, ltb-false, le-leb}
use Rattle.cfix_base.specs.declared.Spot.{Spot}
use Rattle.cfix_base.specs.declared.op.Op.{Op}
use Rattle.c_grammar.specs.Marks.{each}
use Rattle.c_grammar.specs.Token.{Ident}
use Rattle.c_grammar.specs.Simple as s
use Rattle.c_grammar.specs.Decl as d
use Rattle.c_grammar.specs.Stmt as t
use Rattle.c_grammar.specs.File as f
use Rattle.c_grammar.specs.Op as g
use Rattle.c_prog.specs.declared.act.Act.{Act}
use Rattle.c_prog.specs.declared.act.LocalKind.{LocalKind}
use Rattle.c_prog.specs.declared.expr.Target.{Target}
use Rattle.c_prog.specs.declared.function.Function.{Function}
use Rattle.c_prog.specs.declared.global.Global.{Global}
use Rattle.c_prog.specs.declared.stmt.Stmt.{Stmt}
use Rattle.c_prog.specs.declared.stmt.Stmt.TheVariants as stmt
use Rattle.c_prog.specs.Nodes.{total}
use Rattle.c_prog.specs.Valid.{kind_cells, global_cells}
use Rattle.c_prog.specs.Valid.Locals.{act_locals, locals, locals_of, local_cells, function_cells}
use Rattle.c_prog.specs.Valid.Scope.{Scope, entered, passed}
use Rattle.c_prog.specs.Valid.Statements.{Around, looped}
use Rattle.c_prog.proofs.ValidEquations.{locals-Simple, locals-Jump, locals-If, locals-Loop, locals-Block}
use Rattle.c_names.specs.declared.fault.FaultKind.TheVariants.{Limit}
use Rattle.c_names.specs.Declarations.{head_params}
use Rattle.c_names.specs.Faults.{fault_if}
use Rattle.c_names.specs.Files as file
use Rattle.c_names.specs.Files.{param_text, param_cells, global_int_cells, global_hold_cells, global_mutex_cells, global_cond_cells, globals_cells, top_functions, top_cells, top_faults, body_around, body_scope, body_of}
use Rattle.c_names.specs.Limits.{Cells, cells_faults, local_int_cells, hold_cells, loop_int_cells, decl_cells, first_cells, stmt_cells, else_cells, items_cells, item_cells}
use Rattle.c_names.specs.Scopes.{listed, local_int_declared, loop_int_declared, with_local, in_for, stmt_locals, item_after}
use Rattle.c_names.specs.Sources.{global_int_of, global_hold_of, global_mutex_of, global_cond_of, globals_of, top_globals, function_of, top_functions_of}
use Rattle.c_names.specs.SpelledExpressions.{target_of, stepped, plain_of, library_of, simple_of}
use Rattle.c_names.specs.SpelledStatements.{op_of, ops_of, local_int_of, local_ints_of, hold_of, decl_of, loop_ints_of, with_ops, cond_of, test_of, step_of, bare_of, return_of, jump_of, first_of, for_of, as_item, stmt_of, else_of, items_of, item_of}
use Rattle.c_names.specs.Uses.{Names}
use Rattle.valid_law.proofs.Faultless.{none-left, none-right, no_fault, all-each}
use Rattle.valid_law.proofs.FaultlessParts.{function_parts}

-- ---- cells that are counted

abbrev pub in_cells : List Cells → ℕ
in_cells [] = 0
in_cells (x ∷ more) = x.1 + in_cells more

cells-append : (xs ys : List Cells) → in_cells (xs ++ ys) ≡ in_cells xs + in_cells ys
cells-append [] ys = omega (arith)
cells-append (x ∷ xs) ys = omega (arith, cells-append xs ys)

-- no more than are left, where none is too large
pub cells-within : (left : ℕ) (list : List Cells) → cells_faults left list ≡ [] → in_cells list ≤ left
cells-within left [] none = omega (arith)
cells-within left (x ∷ more) none =
    let here : nat_lt left x.1 ≡ false =
    no_fault (nat_lt left x.1) x.0 Limit (none-left (fault_if (nat_lt left x.1) x.0 Limit) (cells_faults (left - x.1) more) none) in
    let later : in_cells more ≤ left - x.1 =
    cells-within (left - x.1) more (none-right (fault_if (nat_lt left x.1) x.0 Limit) (cells_faults (left - x.1) more) none) in
    omega (arith, ltb-false left x.1 here, later)

-- ---- global variables

module _ {A : Type 0} (of : A → Global) (cells : A → Cells) (same : (a : A) → kind_cells (of a).kind ≡ (cells a).1) where
  many-cells : (list : List A) → global_cells (map of list) ≡ in_cells (map cells list)
  many-cells [] = refl
  many-cells (a ∷ more) = omega (arith, same a, many-cells more)

  many-count : (list : List A) → length (map of list) ≡ length (map (λ (x : Cells). x.0) (map cells list))
  many-count [] = refl
  many-count (a ∷ more) = ap suc (many-count more)

module _ (names : Names) where
  int-cells : (x : d.GlobalInt) → kind_cells (global_int_of names x).kind ≡ (global_int_cells names x).1
  int-cells (d.OneGlobal x) = refl
  int-cells (d.SetGlobal x at minus n) = refl
  int-cells (d.GlobalArray x before n after) = refl

  hold-cells : (x : d.Hold) → kind_cells (global_hold_of names x).kind ≡ (global_hold_cells names x).1
  hold-cells (d.OneThread x) = refl
  hold-cells (d.Threads x before n after) = refl

mutex-cells : (x : d.GlobalMutex) → kind_cells (global_mutex_of x).kind ≡ (global_mutex_cells x).1
mutex-cells (d.OneMutex x) = refl
mutex-cells (d.SetMutex x at value) = refl

cond-cells : (x : d.GlobalCond) → kind_cells (global_cond_of x).kind ≡ (global_cond_cells x).1
cond-cells (d.OneCond x) = refl
cond-cells (d.SetCond x at value) = refl

globals-cells : (names : Names) (x : d.Globals) → global_cells (globals_of names x) ≡ in_cells (globals_cells names x)
globals-cells names (d.GlobalInts at x more) = many-cells (global_int_of names) (global_int_cells names) (int-cells names) (listed x more)
globals-cells names (d.GlobalHolds at x more) = many-cells (global_hold_of names) (global_hold_cells names) (hold-cells names) (listed x more)
globals-cells names (d.GlobalMutexes at x more) = many-cells global_mutex_of global_mutex_cells mutex-cells (listed x more)
globals-cells names (d.GlobalConds at x more) = many-cells global_cond_of global_cond_cells cond-cells (listed x more)

globals-count : (names : Names) (x : d.Globals) → length (globals_of names x) ≡ length (map (λ (x : Cells). x.0) (globals_cells names x))
globals-count names (d.GlobalInts at x more) = many-count (global_int_of names) (global_int_cells names) (int-cells names) (listed x more)
globals-count names (d.GlobalHolds at x more) = many-count (global_hold_of names) (global_hold_cells names) (hold-cells names) (listed x more)
globals-count names (d.GlobalMutexes at x more) = many-count global_mutex_of global_mutex_cells mutex-cells (listed x more)
globals-count names (d.GlobalConds at x more) = many-count global_cond_of global_cond_cells cond-cells (listed x more)

top-cells : (names : Names) (x : f.Top) → global_cells (top_globals names x) ≡ in_cells (top_cells names x)
top-cells names (f.Include at name header) = refl
top-cells names (f.Define at name x value) = refl
top-cells names (f.Variables qualifiers globals end) = globals-cells names globals
top-cells names (f.Prototype head end) = refl
top-cells names (f.Function head before ops items after) = refl

top-count : (names : Names) (x : f.Top) → length (top_globals names x) ≡ length (map (λ (x : Cells). x.0) (top_cells names x))
top-count names (f.Include at name header) = refl
top-count names (f.Define at name x value) = refl
top-count names (f.Variables qualifiers globals end) = globals-count names globals
top-count names (f.Prototype head end) = refl
top-count names (f.Function head before ops items after) = refl

global_cells-append : (xs ys : List Global) → global_cells (xs ++ ys) ≡ global_cells xs + global_cells ys
global_cells-append [] ys = omega (arith)
global_cells-append (x ∷ xs) ys = omega (arith, global_cells-append xs ys)

-- the cells of the globals that a file spells
pub global-cells : (names : Names) (tops : f.File) → global_cells (each (top_globals names) tops) ≡ in_cells (each (top_cells names) tops)
global-cells names [] = refl
global-cells names (x ∷ more) =
    omega (
      arith,
      global_cells-append (top_globals names x) (each (top_globals names) more),
      cells-append (top_cells names x) (each (top_cells names) more),
      top-cells names x,
      global-cells names more,
    )

-- how many globals a file spells
pub global-count : (names : Names) (tops : f.File)
    → length (each (top_globals names) tops) ≡ length (map (λ (x : Cells). x.0) (each (top_cells names) tops))
global-count names [] = refl
global-count names (x ∷ more) =
    omega (
      arith,
      length-append (top_globals names x) (each (top_globals names) more),
      length-map (top_cells names x) (λ (x : Cells). x.0),
      length-map (each (top_cells names) more) (λ (x : Cells). x.0),
      length-map (top_cells names x ++ each (top_cells names) more) (λ (x : Cells). x.0),
      length-append (top_cells names x) (each (top_cells names) more),
      top-count names x,
      global-count names more,
    )

-- how many functions a file spells
top-functions : (names : Names) (x : f.Top) → length (top_functions_of names x) ≡ length (top_functions x)
top-functions names (f.Include at name header) = refl
top-functions names (f.Define at name x value) = refl
top-functions names (f.Variables qualifiers globals end) = refl
top-functions names (f.Prototype head end) = refl
top-functions names (f.Function head before ops items after) = refl

pub function-count : (names : Names) (tops : f.File) → length (each (top_functions_of names) tops) ≡ length (each top_functions tops)
function-count names [] = refl
function-count names (x ∷ more) =
    omega (
      arith,
      length-append (top_functions_of names x) (each (top_functions_of names) more),
      length-append (top_functions x) (each top_functions more),
      top-functions names x,
      function-count names more,
    )

-- ---- locals

-- the cells of locals of these kinds
abbrev weight : List LocalKind → ℕ
weight kinds = total (map local_cells kinds)

weight-append : (xs ys : List LocalKind) → weight (xs ++ ys) ≡ weight xs + weight ys
weight-append [] ys = omega (arith)
weight-append (x ∷ xs) ys = omega (arith, weight-append xs ys)

-- the cells of the locals of statements
abbrev in_body : List Stmt → ℕ
in_body body = weight (locals_of body)

body-append : (xs ys : List Stmt) → in_body (xs ++ ys) ≡ in_body xs + in_body ys
body-append [] ys = omega (arith)
body-append (x ∷ xs) ys =
    omega (arith, weight-append (locals x) (locals_of (xs ++ ys)), weight-append (locals x) (locals_of xs), body-append xs ys)

one-body : (x : Stmt) → in_body (x ∷ []) ≡ weight (locals x)
one-body x = omega (arith, weight-append (locals x) [])

-- the cells of the locals of simple statements
abbrev in_acts : List Act → ℕ
in_acts [] = 0
in_acts (a ∷ more) = weight (act_locals a) + in_acts more

simple-weight : (a : Act) (ops : List Op) → weight (locals (stmt.Simple a ops)) ≡ weight (act_locals a)
simple-weight a ops = ap weight (locals-Simple a ops)

in-with_ops : (acts : List Act) (ops : List Op) → in_body (with_ops acts ops) ≡ in_acts acts
in-with_ops [] ops = refl
in-with_ops (a ∷ []) ops = omega (arith, one-body (stmt.Simple a ops), simple-weight a ops)
in-with_ops (a ∷ b ∷ more) ops =
    omega (
      arith,
      weight-append (locals (stmt.Simple a [])) (locals_of (with_ops (b ∷ more) ops)),
      simple-weight a [],
      in-with_ops (b ∷ more) ops,
    )

step-none : (step : s.Step) (x : Target) → act_locals (stepped step x) ≡ []
step-none s.Up x = refl
step-none s.Down x = refl

plain-none : (names : Names) (scope : Scope) (p : s.Plain) → act_locals (plain_of names scope p) ≡ []
plain-none names scope (s.SetTo x at a) = refl
plain-none names scope (s.Changed x how at a) = refl
plain-none names scope (s.SteppedAfter x step at) = step-none step (target_of names scope x)
plain-none names scope (s.SteppedBefore step at x) = step-none step (target_of names scope x)

library-none : (names : Names) (scope : Scope) (l : s.Library) → act_locals (library_of names scope l) ≡ []
library-none names scope (s.Create at before amp x comma1 null comma2 of comma3 arg after) = refl
library-none names scope (s.Join at before x comma null after) = refl
library-none names scope (s.Lock at before amp m after) = refl
library-none names scope (s.Unlock at before amp m after) = refl
library-none names scope (s.Print at before text more after) = refl
library-none names scope (s.Scan at before text comma amp x after) = refl
library-none names scope (s.Wait at before amp1 c comma amp2 m after) = refl
library-none names scope (s.Signal at before amp c after) = refl
library-none names scope (s.Broadcast at before amp c after) = refl

simple-none : (names : Names) (scope : Scope) (x : s.Simple) → act_locals (simple_of names scope x) ≡ []
simple-none names scope (s.PlainPart p) = plain-none names scope p
simple-none names scope (s.SetCall x at call) = refl
simple-none names scope (s.OnlyCall call) = refl
simple-none names scope (s.LibraryPart l) = library-none names scope l

one-simple : (a : Act) (ops : List Op) → act_locals a ≡ [] → in_body (stmt.Simple a ops ∷ []) ≡ 0
one-simple a ops none = omega (arith, one-body (stmt.Simple a ops), simple-weight a ops, ap weight none)

local_int-cells : (names : Names) (scope : Scope) (x : d.LocalInt) → weight (act_locals (local_int_of names scope x)) ≡ (local_int_cells names x).1
local_int-cells names scope (d.OneLocal x) = refl
local_int-cells names scope (d.SetLocal x at v) = refl
local_int-cells names scope (d.LocalArray x before n after) = omega (arith)

local_ints-cells : (names : Names) (scope : Scope) (xs : List d.LocalInt)
    → in_acts (local_ints_of names scope xs) ≡ in_cells (map (local_int_cells names) xs)
local_ints-cells names scope [] = refl
local_ints-cells names scope (x ∷ xs) =
    omega (arith, local_int-cells names scope x, local_ints-cells names (with_local (local_int_declared x) scope) xs)

holds-cells : (names : Names) (xs : List d.Hold) → in_acts (map (hold_of names) xs) ≡ in_cells (map (hold_cells names) xs)
holds-cells names [] = refl
holds-cells names (d.OneThread x ∷ xs) = omega (arith, holds-cells names xs)
holds-cells names (d.Threads x before n after ∷ xs) = omega (arith, holds-cells names xs)

decl-cells : (names : Names) (scope : Scope) (x : d.Decl) → in_acts (decl_of names scope x) ≡ in_cells (decl_cells names x)
decl-cells names scope (d.Ints at x more) = local_ints-cells names scope (listed x more)
decl-cells names scope (d.Holds at x more) = holds-cells names (listed x more)

loop_ints-cells : (names : Names) (scope : Scope) (xs : List d.LoopInt) → in_acts (loop_ints_of names scope xs) ≡ in_cells (map loop_int_cells xs)
loop_ints-cells names scope [] = refl
loop_ints-cells names scope (d.OneLoop x ∷ xs) = omega (arith, loop_ints-cells names (with_local (loop_int_declared (d.OneLoop x)) scope) xs)
loop_ints-cells names scope (d.SetLoop x at e ∷ xs) = omega (arith, loop_ints-cells names (with_local (loop_int_declared (d.SetLoop x at e)) scope) xs)

first-in : (names : Names) (scope : Scope) (x : t.First) → in_body (first_of names scope x) ≡ in_cells (first_cells (Some x))
first-in names scope (t.FirstInts at x more) =
    in-with_ops (loop_ints_of names scope (listed x more)) [] ∙ loop_ints-cells names scope (listed x more)
first-in names scope (t.FirstPlain p) = one-simple (plain_of names scope p) [] (plain-none names scope p)

for-in : (names : Names) (scope : Scope) (x : Option t.First) (loop : Stmt)
    → weight (locals (for_of names scope x loop)) ≡ in_cells (first_cells x) + weight (locals loop)
for-in names scope None loop = omega (arith)
for-in names scope (Some x) loop =
    omega (
      arith,
      ap weight (locals-Block (first_of names scope x ++ loop ∷ [])),
      body-append (first_of names scope x) (loop ∷ []),
      one-body loop,
      first-in names scope x,
    )

jump-in : (names : Names) (around : Around) (scope : Scope) (x : t.Jump) → weight (locals (jump_of names around scope x)) ≡ 0
jump-in names around scope (t.BareJump b end) = ap weight (locals-Jump (bare_of b) [])
jump-in names around scope (t.ReturnValue at v end) = ap weight (locals-Jump (return_of names around scope v) [])
jump-in names around scope (t.BareBlock before op end ops b end2 after) = ap weight (locals-Jump (bare_of b) (op_of op ∷ ops_of ops))
jump-in names around scope (t.ValueBlock before int name set v end op end2 ops return name2 end3 after) =
    ap weight (locals-Jump (return_of names around scope v) (op_of op ∷ ops_of ops))

-- a block that is an item is a statement
in-as_item : (st : t.Stmt) (list : List Stmt) → in_body (as_item st list) ≡ in_body list
in-as_item (t.Block before items after) list = omega (arith, one-body (stmt.Block list), ap weight (locals-Block list))
in-as_item (t.Nothing end) list = refl
in-as_item (t.Simply x end ops) list = refl
in-as_item (t.Jumps j) list = refl
in-as_item (t.If at before x after st e) list = refl
in-as_item (t.While at before x after st) list = refl
in-as_item (t.For at before first end x end2 step after st) list = refl

mutual
  stmt-in : (names : Names) (around : Around) (scope : Scope) (st : t.Stmt)
      → in_body (stmt_of names around scope st) ≡ in_cells (stmt_cells names st)
  stmt-in names around scope (t.Block before items after) = items-in names around (entered scope) items
  stmt-in names around scope (t.Nothing end) = refl
  stmt-in names around scope (t.Simply x end ops) = one-simple (simple_of names scope x) (ops_of ops) (simple-none names scope x)
  stmt-in names around scope (t.Jumps j) = omega (arith, one-body (jump_of names around scope j), jump-in names around scope j)
  stmt-in names around scope (t.If at before x after st e) =
      let on_true : List Stmt = stmt_of names around (entered scope) st in
      let on_false : List Stmt = else_of names around (passed (stmt_locals st) scope) e in
      omega (
        arith,
        one-body (stmt.If (cond_of names scope x) on_true on_false),
        ap weight (locals-If (cond_of names scope x) on_true on_false),
        weight-append (locals_of on_true) (locals_of on_false),
        cells-append (stmt_cells names st) (else_cells names e),
        stmt-in names around (entered scope) st,
        else-in names around (passed (stmt_locals st) scope) e,
      )
  stmt-in names around scope (t.While at before x after st) =
      let body : List Stmt = stmt_of names (looped around) (entered scope) st in
      omega (
        arith,
        one-body (stmt.Loop (cond_of names scope x) None body),
        ap weight (locals-Loop (cond_of names scope x) None body),
        stmt-in names (looped around) (entered scope) st,
      )
  stmt-in names around scope (t.For at before first end x end2 step after st) =
      let here : Scope = in_for first scope in
      let body : List Stmt = stmt_of names (looped around) (entered here) st in
      let loop : Stmt = stmt.Loop (test_of names here x) (step_of names here step) body in
      omega (
        arith,
        one-body (for_of names (entered scope) first loop),
        for-in names (entered scope) first loop,
        ap weight (locals-Loop (test_of names here x) (step_of names here step) body),
        cells-append (first_cells first) (stmt_cells names st),
        stmt-in names (looped around) (entered here) st,
      )

  else-in : (names : Names) (around : Around) (scope : Scope) (e : t.Else) → in_body (else_of names around scope e) ≡ in_cells (else_cells names e)
  else-in names around scope t.NoElse = refl
  else-in names around scope (t.ElseDo at st) = stmt-in names around (entered scope) st

  items-in : (names : Names) (around : Around) (scope : Scope) (items : t.Items)
      → in_body (items_of names around scope items) ≡ in_cells (items_cells names items)
  items-in names around scope t.NoItems = refl
  items-in names around scope (t.AndItem i more) =
      omega (
        arith,
        body-append (item_of names around scope i) (items_of names around (item_after scope i) more),
        cells-append (item_cells names i) (items_cells names more),
        item-in names around scope i,
        items-in names around (item_after scope i) more,
      )

  item-in : (names : Names) (around : Around) (scope : Scope) (i : t.Item) → in_body (item_of names around scope i) ≡ in_cells (item_cells names i)
  item-in names around scope (t.Declares decl end ops) = in-with_ops (decl_of names scope decl) (ops_of ops) ∙ decl-cells names scope decl
  item-in names around scope (t.Does st) = in-as_item st (stmt_of names around scope st) ∙ stmt-in names around scope st

-- ---- functions

params-cells : (list : List (Spot × Option Ident)) → in_cells (map param_cells list) ≡ length list
params-cells [] = refl
params-cells (x ∷ list) = omega (arith, params-cells list)

function-cells : (names : Names) (head : f.Head) (ops : g.Ops) (items : t.Items)
    → function_cells (Some (function_of names head ops items)) ≡ in_cells (file.function_cells names head items)
function-cells names head ops items =
    omega (
      arith,
      length-map (head_params head) param_text,
      params-cells (head_params head),
      cells-append (map param_cells (head_params head)) (items_cells names items),
      items-in names (body_around head) (body_scope head) items,
    )

-- the parameters and locals of a function have few cells
abbrev pub has_few_cells : Function → Bool
has_few_cells function = nat_le (function_cells (Some function)) 1024

top-few : (names : Names) (x : f.Top) → top_faults names x ≡ [] → list_all has_few_cells (top_functions_of names x) ≡ true
top-few names (f.Include at name header) none = refl
top-few names (f.Define at name x value) none = refl
top-few names (f.Variables qualifiers globals end) none = refl
top-few names (f.Prototype head end) none = refl
top-few names (f.Function head before ops items after) none =
    let cells : List Cells = file.function_cells names head items in
    let bound : in_cells cells ≤ 1024 = cells-within 1024 cells (function_parts names head ops items none).cells in
    let own : function_cells (Some (function_of names head ops items)) ≤ 1024 = omega (arith, bound, function-cells names head ops items) in
    and_from (has_few_cells (function_of names head ops items)) true (le-leb (function_cells (Some (function_of names head ops items))) 1024 own) refl

-- each function that a file without faults spells has few cells
pub cells-few : (names : Names) (tops : f.File) → each (top_faults names) tops ≡ [] → list_all has_few_cells (each (top_functions_of names) tops) ≡ true
cells-few names = all-each (top_faults names) (top_functions_of names) has_few_cells (top-few names)
