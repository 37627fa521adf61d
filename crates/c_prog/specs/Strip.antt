-- A program without its new operations and without the new orders that begin with a token.
use Rattle.std.specs.Prelude.{List, map, Option, Some, None}
use Rattle.cfix_base.specs.declared.mark.Marks.{Marks}
use Rattle.c_prog.specs.declared.stmt.Stmt.{Stmt}
use Rattle.c_prog.specs.declared.stmt.Stmt.TheVariants.{Simple, Jump, If, Loop, Block}
use Rattle.c_prog.specs.declared.stmt.Stmt.TheOpen.{Stmt-F}
use Rattle.c_prog.specs.declared.stmt.Stmt.TheFolds.{fold-Stmt}
use Rattle.c_prog.specs.declared.stmt.Cond.{Cond}
use Rattle.c_prog.specs.declared.stmt.Step.{Step}
use Rattle.c_prog.specs.declared.function.Function.{Function}
use Rattle.c_prog.specs.declared.tree.Tree.{Tree}
use Rattle.c_prog.specs.Marks.{is_new_start, old_of, old_ops}

-- a condition without its new operations
abbrev pub strip_cond : Marks → Cond → Cond
strip_cond m cond = record { test = cond.test; on_true = old_ops m cond.on_true; on_false = old_ops m cond.on_false }

-- a step without its new operations, if there is one
abbrev pub strip_step : Marks → Option Step → Option Step
strip_step m None = None
strip_step m (Some step) = Some (record { act = step.act; after = old_ops m step.after })

-- one level of a statement, with the statements inside already stripped
abbrev pub strip_level : Marks → Stmt-F Stmt → Stmt
strip_level m (Stmt-F.Simple act after) = Simple act (old_ops m after)
strip_level m (Stmt-F.Jump jump after) = Jump jump (old_ops m after)
strip_level m (Stmt-F.If cond as_true as_false) = If (strip_cond m cond) as_true as_false
strip_level m (Stmt-F.Loop cond step body) = Loop (strip_cond m cond) (strip_step m step) body
strip_level m (Stmt-F.Block body) = Block body

-- a statement without its new operations
abbrev pub strip : Marks → Stmt → Stmt
strip m = fold-Stmt Stmt (strip_level m)

-- statements without their new operations
abbrev pub strip_all : Marks → List Stmt → List Stmt
strip_all m list = map (strip m) list

-- a function without its new operations
abbrev pub strip_function : Marks → Function → Function
strip_function m function = record {
  name = function.name;
  kind = function.kind;
  params = function.params;
  start = old_ops m function.start;
  body = strip_all m function.body;
}

-- functions without their new operations
abbrev pub strip_functions : Marks → List Function → List Function
strip_functions m list = map (strip_function m) list

-- the program without its new operations and starts
abbrev pub strip_tree : Marks → Tree → Tree
strip_tree m tree = record {
  globals = tree.globals;
  functions = strip_functions m tree.functions;
  starts = old_of (is_new_start m) tree.starts;
}
