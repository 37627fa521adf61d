-- Statements at a place of a body.
use Rattle.std.specs.Prelude.{ℕ, ◌+◌, Bool, true, ◌&&◌, List, [], ◌∷◌, map, Option, Some, None}
use Rattle.c_prog.specs.declared.act.Act.{Act}
use Rattle.c_prog.specs.declared.act.Act.TheVariants.{Declare}
use Rattle.c_prog.specs.declared.function.FnKind.{FnKind}
use Rattle.c_prog.specs.declared.stmt.Jump.{Jump}
use Rattle.c_prog.specs.declared.stmt.Jump.TheVariants.{Break, Continue, Return, ReturnNull, ReturnValue}
use Rattle.c_prog.specs.declared.stmt.Step.{Step}
use Rattle.c_prog.specs.declared.stmt.Stmt.{Stmt}
use Rattle.c_prog.specs.declared.stmt.Stmt.TheOpen.{Stmt-F}
use Rattle.c_prog.specs.declared.stmt.Stmt.TheFolds.{fold-Stmt}
use Rattle.c_prog.specs.Valid.Scope.{VarKind, Scope, declared, entered, passed}
use Rattle.c_prog.specs.Valid.Kinds.{File, local_var_kind}
use Rattle.c_prog.specs.Valid.Expressions.{is_valid_expr, is_int_kind, is_void_kind, is_thread_kind, is_valid_value}
use Rattle.c_prog.specs.Valid.Acts.{is_valid_act, is_step}

-- What a statement stands in: a function of this kind, and a loop or not.
pub record Around : Type 0 where
  pub kind : FnKind
  pub in_loop : Bool

-- the same within a loop
abbrev pub looped : Around → Around
looped around = record { kind = around.kind; in_loop = true }

-- A jump that fits: `break` and `continue` in a loop (6.8.6.2 and 6.8.6.3 of ISO/IEC 9899:2011), `return;` in a void
-- function, a value in an `int` function, and `return NULL;`, which the number 0 spells too, in a thread function.
abbrev pub is_valid_jump : File → Around → Scope → Jump → Bool
is_valid_jump file around scope Break = around.in_loop
is_valid_jump file around scope Continue = around.in_loop
is_valid_jump file around scope Return = is_void_kind around.kind
is_valid_jump file around scope ReturnNull = is_thread_kind around.kind
is_valid_jump file around scope (ReturnValue value) = is_int_kind around.kind && is_valid_value file scope value

-- the step of a loop, if there is one
abbrev pub is_valid_step : File → Scope → Option Step → Bool
is_valid_step file scope None = true
is_valid_step file scope (Some step) = is_step step.act && is_valid_act file scope step.act

-- What is declared in a block: a name with its kind.
pub record Declared : Type 0 where
  pub name : List ℕ
  pub kind : VarKind

-- what a simple statement declares
abbrev pub declares : Act → Option Declared
declares (Declare name kind initial) = Some (record { name = name; kind = local_var_kind kind })
declares _ = None

-- A statement: whether it keeps the rules, from what it stands in and the scope before it; what it declares in its block;
-- and how many locals the blocks in it declare.
pub record Part : Type 0 where
  pub is_valid : Around → Scope → Bool
  pub declares : Option Declared
  pub inside : ℕ

-- one declaration, if there is one
abbrev pub own_count : Option Declared → ℕ
own_count None = 0
own_count (Some local) = 1

-- how many locals statements declare, their blocks included
abbrev pub counts : List Part → ℕ
counts [] = 0
counts (part ∷ parts) = own_count part.declares + part.inside + counts parts

-- the scope after a declaration, if there is one
abbrev pub also_declared : Option Declared → Scope → Scope
also_declared None scope = scope
also_declared (Some local) scope = declared local.name local.kind scope

-- the scope after a statement
abbrev pub after : Part → Scope → Scope
after part scope = passed part.inside (also_declared part.declares scope)

-- statements one after another in a block keep the rules
abbrev pub all_valid : List Part → Around → Scope → Bool
all_valid [] around scope = true
all_valid (part ∷ parts) around scope = part.is_valid around scope && all_valid parts around (after part scope)

-- one level of a statement
abbrev pub stmt_rules : File → Stmt-F Part → Part
stmt_rules file (Stmt-F.Simple act ops) = record {
  is_valid = λ around scope. is_valid_act file scope act;
  declares = declares act;
  inside = 0;
}
stmt_rules file (Stmt-F.Jump jump ops) = record {
  is_valid = λ around scope. is_valid_jump file around scope jump;
  declares = None;
  inside = 0;
}
stmt_rules file (Stmt-F.If cond on_true on_false) = record {
  is_valid = λ around scope.
      is_valid_expr file scope cond.test && all_valid on_true around (entered scope)
      && all_valid on_false around (entered (passed (counts on_true) scope));
  declares = None;
  inside = counts on_true + counts on_false;
}
stmt_rules file (Stmt-F.Loop cond step body) = record {
  is_valid = λ around scope.
      is_valid_expr file scope cond.test && is_valid_step file scope step && all_valid body (looped around) (entered scope);
  declares = None;
  inside = counts body;
}
stmt_rules file (Stmt-F.Block body) = record {
  is_valid = λ around scope. all_valid body around (entered scope);
  declares = None;
  inside = counts body;
}

-- a statement in this file
abbrev pub part_of : File → Stmt → Part
part_of file = fold-Stmt Part (stmt_rules file)

-- statements in this file
abbrev pub parts_of : File → List Stmt → List Part
parts_of file body = map (part_of file) body
