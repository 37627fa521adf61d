-- A file declares at most as many variables, functions, parameters and locals as it has tokens.
use Rattle.std.proofs.Common.{◌≡◌, ℕ, ◌≤◌, ◌<◌, ◌^◌, suc, List, [], ◌∷◌, ◌++◌, map, length, Option, Some, None, ◌∙◌, arith}
use Rattle.std.proofs.lemmas.List.{length-append, length-map}
use Rattle.cfix_base.specs.declared.Spot.{Spot}
use Rattle.c_grammar.specs.Marks.{each, maybe}
use Rattle.c_grammar.specs.Token.{Mark, ident, word, sign}
use Rattle.c_grammar.specs.declared.word.Word.TheVariants as w
use Rattle.c_grammar.specs.declared.sign.Sign.TheVariants as s
use Rattle.c_grammar.specs.Op.{ops_marks}
use Rattle.c_grammar.specs.Cond.{cond_marks}
use Rattle.c_grammar.specs.Decl.{Hold, OneThread, Threads, LocalInt, OneLocal, SetLocal, LocalArray, Decl, Ints, Holds, LoopInt, OneLoop, SetLoop, GlobalInt, OneGlobal, SetGlobal, GlobalArray, GlobalMutex, OneMutex, SetMutex, GlobalCond, OneCond, SetCond, Globals, GlobalInts, GlobalHolds, GlobalMutexes, GlobalConds, hold_marks, more_holds_marks, local_int_marks, decl_marks, loop_int_marks, global_int_marks, global_mutex_marks, global_cond_marks, globals_marks, qualifiers_marks}
use Rattle.c_grammar.specs.Stmt.{First, FirstInts, FirstPlain, Stmt, Block, Nothing, Simply, Jumps, If, While, For, Else, NoElse, ElseDo, Items, NoItems, AndItem, Item, Declares, Does, first_marks, loop_step_marks, stmt_marks, else_marks, items_marks, item_marks}
use Rattle.c_grammar.specs.File.{return_word, Param, ParamOf, Params, NoParams, VoidParams, SomeParams, Head, PlainHead, ThreadHead, Top, Include, Define, Variables, Prototype, Function, File, param_marks, params_marks, name_marks, static_marks, head_marks, top_marks, file_marks}
use Rattle.c_names.specs.Declarations.{global_int_variable, hold_variable, mutex_variable, cond_variable, variables, param_of, params_of, head_params}
use Rattle.c_grammar.specs.Parsed.{IsParsed}
use Rattle.c_names.specs.Scopes.{local_int_declared, hold_declared, loop_int_declared, decl_declared, first_declared, stmt_locals, else_locals, items_locals, item_locals}
use Rattle.valid_law.proofs.Tokens.{tokens-few}
use Rattle.c_declare.specs.Counting.{top_count, file_count}

-- as many items as commas
longer : {A : Type 0} (h : Spot × A → List Mark) → ((y : Spot × A) → 1 ≤ length (h y)) → (more : List (Spot × A)) → length more ≤ length (each h more)
longer h some [] = omega arith
longer h some (x ∷ more) = omega (arith, length-append (h x) (each h more), some x, longer h some more)

seconds : {A B : Type 0} (f : A → B) (more : List (Spot × A)) → length (map f (map (λ (y : Spot × A). y.1) more)) ≡ length more
seconds {A} f more = length-map (map (λ (y : Spot × A). y.1) more) f ∙ length-map more (λ (y : Spot × A). y.1)

-- locals

hold-some : (d : ℕ) (x : Hold) → 1 ≤ length (hold_marks d x)
hold-some d (OneThread x) = omega arith
hold-some d (Threads x before n after) = omega arith

local-some : (d : ℕ) (x : LocalInt) → 1 ≤ length (local_int_marks d x)
local-some d (OneLocal x) = omega arith
local-some d (SetLocal x at v) = omega arith
local-some d (LocalArray x before n after) = omega arith

decl-fits : (d : ℕ) (decl : Decl) → length (decl_declared decl) ≤ length (decl_marks d decl)
decl-fits d (Ints at x more) =
    omega (
      arith,
      seconds local_int_declared more,
      local-some d x,
      length-append (local_int_marks d x) (each (λ y. (sign s.Comma y.0, d) ∷ local_int_marks d y.1) more),
      longer (λ (y : Spot × LocalInt). (sign s.Comma y.0, d) ∷ local_int_marks d y.1) (λ y. omega arith) more,
    )
decl-fits d (Holds at x more) =
    omega (
      arith,
      seconds hold_declared more,
      hold-some d x,
      length-append (hold_marks d x) (more_holds_marks d more),
      longer (λ (y : Spot × Hold). (sign s.Comma y.0, d) ∷ hold_marks d y.1) (λ y. omega arith) more,
    )

loop-some : (d : ℕ) (x : LoopInt) → 1 ≤ length (loop_int_marks d x)
loop-some d (OneLoop x) = omega arith
loop-some d (SetLoop x at e) = omega arith

first-fits : (d : ℕ) (first : Option First) → length (first_declared first) ≤ length (maybe [] (first_marks d) first)
first-fits d None = omega arith
first-fits d (Some (FirstInts at x more)) =
    omega (
      arith,
      seconds loop_int_declared more,
      loop-some d x,
      length-append (loop_int_marks d x) (each (λ y. (sign s.Comma y.0, d) ∷ loop_int_marks d y.1) more),
      longer (λ (y : Spot × LoopInt). (sign s.Comma y.0, d) ∷ loop_int_marks d y.1) (λ y. omega arith) more,
    )
first-fits d (Some (FirstPlain p)) = omega arith

mutual
  stmt-fits : (d : ℕ) (st : Stmt) → stmt_locals st ≤ length (stmt_marks d st)
  stmt-fits d (Block before items after) =
      omega (arith, items-fits (suc d) items, length-append (items_marks (suc d) items) ((sign s.CloseBrace after, suc d) ∷ []))
  stmt-fits d (Nothing end) = omega arith
  stmt-fits d (Simply simple end ops) = omega arith
  stmt-fits d (Jumps jump) = omega arith
  stmt-fits d (If at before c after st e) =
      omega (
        arith,
        stmt-fits (suc d) st,
        else-fits (suc d) e,
        length-append (stmt_marks (suc d) st) (else_marks (suc d) e),
        length-append (cond_marks (suc d) c) ((sign s.CloseParen after, suc d) ∷ (stmt_marks (suc d) st ++ else_marks (suc d) e)),
      )
  stmt-fits d (While at before c after st) =
      omega (arith, stmt-fits (suc d) st, length-append (cond_marks (suc d) c) ((sign s.CloseParen after, suc d) ∷ stmt_marks (suc d) st))
  stmt-fits d (For at before first end c end2 step after st) =
      let t4 : List Mark = stmt_marks (suc (suc d)) st in
      let t3 : List Mark = maybe [] (loop_step_marks (suc (suc d))) step ++ ((sign s.CloseParen after, suc (suc d)) ∷ t4) in
      let t2 : List Mark = maybe [] (cond_marks (suc (suc d))) c ++ ((sign s.Semicolon end2, suc (suc d)) ∷ t3) in
      omega (
        arith,
        stmt-fits (suc (suc d)) st,
        first-fits (suc (suc d)) first,
        length-append (maybe [] (first_marks (suc (suc d))) first) ((sign s.Semicolon end, suc (suc d)) ∷ t2),
        length-append (maybe [] (cond_marks (suc (suc d))) c) ((sign s.Semicolon end2, suc (suc d)) ∷ t3),
        length-append (maybe [] (loop_step_marks (suc (suc d))) step) ((sign s.CloseParen after, suc (suc d)) ∷ t4),
      )

  else-fits : (d : ℕ) (e : Else) → else_locals e ≤ length (else_marks d e)
  else-fits d NoElse = omega arith
  else-fits d (ElseDo at st) = omega (arith, stmt-fits d st)

  items-fits : (d : ℕ) (items : Items) → items_locals items ≤ length (items_marks d items)
  items-fits d NoItems = omega arith
  items-fits d (AndItem i more) = omega (arith, item-fits d i, items-fits d more, length-append (item_marks d i) (items_marks d more))

  item-fits : (d : ℕ) (i : Item) → item_locals i ≤ length (item_marks d i)
  item-fits d (Declares decl end ops) =
      omega (arith, decl-fits d decl, length-append (decl_marks d decl) ((sign s.Semicolon end, d) ∷ ops_marks d ops))
  item-fits d (Does st) = stmt-fits d st

-- parameters and variables

param-some : (p : Param) → 1 ≤ length (param_marks p)
param-some (ParamOf at name) = omega arith

params-fit : (params : Params) → length (params_of params) ≤ length (params_marks params)
params-fit NoParams = omega arith
params-fit (VoidParams at) = omega arith
params-fit (SomeParams p more) =
    omega (
      arith,
      seconds param_of more,
      param-some p,
      length-append (param_marks p) (each (λ x. (sign s.Comma x.0, 0) ∷ param_marks x.1) more),
      longer (λ (x : Spot × Param). (sign s.Comma x.0, 0) ∷ param_marks x.1) (λ y. omega arith) more,
    )

head-fits : (head : Head) → length (head_params head) ≤ length (head_marks head)
head-fits (PlainHead static return at name before params after) =
    let tail : List Mark = params_marks params ++ (sign s.CloseParen after, 0) ∷ [] in
    omega (
      arith,
      params-fit params,
      length-append (params_marks params) ((sign s.CloseParen after, 0) ∷ []),
      length-append (static_marks static) ((word (return_word return) at, 0) ∷ ((ident name, 0) ∷ ((sign s.OpenParen before, 0) ∷ tail))),
    )
head-fits (ThreadHead static at star name before void star2 param after) =
    let tail : List Mark = (word w.Void void, 0) ∷ ((sign s.Star star2, 0) ∷ (name_marks param ++ (sign s.CloseParen after, 0) ∷ [])) in
    omega (
      arith,
      length-append (static_marks static) ((word w.Void at, 0) ∷ ((sign s.Star star, 0) ∷ ((ident name, 0) ∷ ((sign s.OpenParen before, 0) ∷ tail)))),
    )

global-some : (d : ℕ) (x : GlobalInt) → 1 ≤ length (global_int_marks d x)
global-some d (OneGlobal x) = omega arith
global-some d (SetGlobal x at minus n) = omega arith
global-some d (GlobalArray x before n after) = omega arith

mutex-some : (d : ℕ) (x : GlobalMutex) → 1 ≤ length (global_mutex_marks d x)
mutex-some d (OneMutex x) = omega arith
mutex-some d (SetMutex x at value) = omega arith

cond-some : (d : ℕ) (x : GlobalCond) → 1 ≤ length (global_cond_marks d x)
cond-some d (OneCond x) = omega arith
cond-some d (SetCond x at value) = omega arith

variables-fit : (globals : Globals) → length (variables globals) ≤ length (globals_marks 0 globals)
variables-fit (GlobalInts at x more) =
    omega (
      arith,
      seconds global_int_variable more,
      global-some 0 x,
      length-append (global_int_marks 0 x) (each (λ y. (sign s.Comma y.0, 0) ∷ global_int_marks 0 y.1) more),
      longer (λ (y : Spot × GlobalInt). (sign s.Comma y.0, 0) ∷ global_int_marks 0 y.1) (λ y. omega arith) more,
    )
variables-fit (GlobalHolds at x more) =
    omega (
      arith,
      seconds hold_variable more,
      hold-some 0 x,
      length-append (hold_marks 0 x) (more_holds_marks 0 more),
      longer (λ (y : Spot × Hold). (sign s.Comma y.0, 0) ∷ hold_marks 0 y.1) (λ y. omega arith) more,
    )
variables-fit (GlobalMutexes at x more) =
    omega (
      arith,
      seconds mutex_variable more,
      mutex-some 0 x,
      length-append (global_mutex_marks 0 x) (each (λ y. (sign s.Comma y.0, 0) ∷ global_mutex_marks 0 y.1) more),
      longer (λ (y : Spot × GlobalMutex). (sign s.Comma y.0, 0) ∷ global_mutex_marks 0 y.1) (λ y. omega arith) more,
    )
variables-fit (GlobalConds at x more) =
    omega (
      arith,
      seconds cond_variable more,
      cond-some 0 x,
      length-append (global_cond_marks 0 x) (each (λ y. (sign s.Comma y.0, 0) ∷ global_cond_marks 0 y.1) more),
      longer (λ (y : Spot × GlobalCond). (sign s.Comma y.0, 0) ∷ global_cond_marks 0 y.1) (λ y. omega arith) more,
    )

top-fits : (top : Top) → top_count top ≤ length (top_marks top)
top-fits (Include at name header) = omega arith
top-fits (Define at name x value) = omega arith
top-fits (Variables qualifiers globals end) =
    omega (
      arith,
      variables-fit globals,
      length-append (globals_marks 0 globals) ((sign s.Semicolon end, 0) ∷ []),
      length-append (qualifiers_marks 0 qualifiers) (globals_marks 0 globals ++ (sign s.Semicolon end, 0) ∷ []),
    )
top-fits (Prototype head end) = omega arith
top-fits (Function head before ops items after) =
    let last : List Mark = (sign s.CloseBrace after, 0) ∷ [] in
    omega (
      arith,
      head-fits head,
      items-fits 0 items,
      length-append (items_marks 0 items) last,
      length-append (ops_marks 0 ops) (items_marks 0 items ++ last),
      length-append (head_marks head) ((sign s.OpenBrace before, 0) ∷ (ops_marks 0 ops ++ (items_marks 0 items ++ last))),
    )

file-fits : (file : File) → file_count file ≤ length (file_marks file)
file-fits [] = omega arith
file-fits (top ∷ more) = omega (arith, top-fits top, file-fits more, length-append (top_marks top) (file_marks more))

-- a file that is read declares few enough
pub count-parsed : (end : Spot) (file : File) → IsParsed end file → file_count file < 2 ^ 32
count-parsed end file parsed = omega (arith, file-fits file, tokens-few end file parsed)
