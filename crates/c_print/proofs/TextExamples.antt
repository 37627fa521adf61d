-- Small texts, computed by the definitions.
use Rattle.std.proofs.Common.{◌≡◌, ℕ, pos, negsuc, List, [], ◌∷◌, codes, Some, None, refl}
use Rattle.std.specs.Fmt.{digits}
use Rattle.cfix_base.specs.declared.op.Op.TheVariants as operation
use Rattle.c_prog.specs.declared.act.Act.{Act}
use Rattle.c_prog.specs.declared.act.Act.TheVariants as act
use Rattle.c_prog.specs.declared.act.LocalKind.TheVariants as kind
use Rattle.c_prog.specs.declared.act.How.TheVariants as how
use Rattle.c_prog.specs.declared.act.Value.TheVariants as value
use Rattle.c_prog.specs.declared.expr.BinOp.TheVariants as op
use Rattle.c_prog.specs.declared.expr.Expr.{Expr}
use Rattle.c_prog.specs.declared.expr.Expr.TheVariants as expr
use Rattle.c_prog.specs.declared.expr.Target.{Target}
use Rattle.c_prog.specs.declared.expr.Var.TheVariants as var
use Rattle.c_prog.specs.declared.function.FnKind.TheVariants as gives
use Rattle.c_prog.specs.declared.function.Function.{Function}
use Rattle.c_prog.specs.declared.global.GlobalKind.TheVariants as of_kind
use Rattle.c_prog.specs.declared.stmt.Cond.{Cond}
use Rattle.c_prog.specs.declared.stmt.Jump.TheVariants as jump
use Rattle.c_prog.specs.declared.stmt.Stmt.{Stmt}
use Rattle.c_prog.specs.declared.stmt.Stmt.TheVariants as stmt
use Rattle.c_prog.proofs.Equations.{patched-Block}
use Rattle.c_print.specs.Text.Names.{Names}
use Rattle.c_print.specs.Text.Expressions.{expr_text, target_text, thread_argument}
use Rattle.c_print.specs.Text.Pieces.{text_of, quoted}
use Rattle.c_print.specs.Text.Acts.{act_text}
use Rattle.c_print.specs.Text.Statements.{body_lines}
use Rattle.c_print.specs.Text.Canonical.{canonical}
use Rattle.c_print.proofs.TextEquations.{printed-Number, printed-Cast, printed-Read, printed-Neg, printed-Not, printed-Binary, printed-variable, printed-element, zero-Number, zero-Binary, part-Simple, part-Jump, part-If, part-Loop, part-Block, names-Simple, names-Jump, names-Loop}

-- globals x, y and z, the function f, and the locals i and arg
names : Names
names = record {
  globals = codes "x" ∷ codes "y" ∷ codes "z" ∷ [];
  functions = codes "main" ∷ codes "f" ∷ [];
  locals = codes "i" ∷ codes "arg" ∷ [];
}

-- the global variable with this number
variable : ℕ → Target
variable n = record { var = var.Global (record { number = n }); index = None }

x : Expr
x = expr.Read (variable 0)

y : Expr
y = expr.Read (variable 1)

z : Expr
z = expr.Read (variable 2)

local : Target
local = record { var = var.Local 0; index = None }

-- a condition without operations
bare : Expr → Cond
bare test = record { test = test; on_true = []; on_false = [] }

-- x = E;
set_x : Expr → List Stmt
set_x e = stmt.Simple (act.Assign (variable 0) how.Set (value.Expr e)) [] ∷ []

-- expressions

right : expr_text names (expr.Binary op.Sub x (expr.Binary op.Sub y z)) ≡ codes "x - (y - z)"
unfolding names variable x y z
right = simp (expr_text, printed-Binary, printed-Read, printed-variable) refl

left : expr_text names (expr.Binary op.Sub (expr.Binary op.Sub x y) z) ≡ codes "x - y - z"
unfolding names variable x y z
left = simp (expr_text, printed-Binary, printed-Read, printed-variable) refl

tighter : expr_text names (expr.Binary op.Mul (expr.Binary op.Add x y) (expr.Binary op.Lt y z)) ≡ codes "(x + y) * (y < z)"
unfolding names variable x y z
tighter = simp (expr_text, printed-Binary, printed-Read, printed-variable) refl

looser : expr_text names (expr.Binary op.Or x (expr.Binary op.And y (expr.Binary op.Eq z x))) ≡ codes "x || y && z == x"
unfolding names variable x y z
looser = simp (expr_text, printed-Binary, printed-Read, printed-variable) refl

two-negations : expr_text names (expr.Neg (expr.Neg x)) ≡ codes "-(-x)"
unfolding names variable x
two-negations = simp (expr_text, printed-Neg, printed-Read, printed-variable) refl

negated-not : expr_text names (expr.Neg (expr.Not (expr.Neg x))) ≡ codes "-!-x"
unfolding names variable x
negated-not = simp (expr_text, printed-Neg, printed-Not, printed-Read, printed-variable) refl

not-both : expr_text names (expr.Not (expr.Binary op.And x y)) ≡ codes "!(x && y)"
unfolding names variable x y
not-both = simp (expr_text, printed-Not, printed-Binary, printed-Read, printed-variable) refl

cast-element : target_text names (record { var = var.Global (record { number = 0 }); index = Some (expr.Cast 1) }) ≡ codes "x[(int)(long)arg]"
unfolding names
cast-element = simp (target_text, printed-Cast, printed-element) refl

no-argument : thread_argument names (expr.Number (pos 0)) ≡ codes "NULL"
unfolding names
no-argument = simp (thread_argument, zero-Number) refl

argument : thread_argument names (expr.Binary op.Add x (expr.Number (pos 12))) ≡ codes "(void *)(long)(x + 12)"
unfolding names digits variable x
argument = simp (thread_argument, zero-Binary, printed-Binary, printed-Read, printed-Number, printed-variable) refl

escapes : quoted (97 ∷ 10 ∷ 9 ∷ 92 ∷ 34 ∷ 37 ∷ []) ≡ codes "\"a\\n\\t\\\\\\\"%\""
escapes = refl

created : act_text names (act.Create local (record { number = 1 }) (expr.Number (pos 0))) ≡ codes "pthread_create(&i, NULL, f, NULL)"
unfolding names local
created = simp (act_text, target_text, thread_argument, zero-Number, printed-variable) refl

printed-text : act_text names (act.Print (codes "%d\n") (x ∷ [])) ≡ codes "printf(\"%d\\n\", x)"
unfolding names variable x
printed-text = simp (act_text, expr_text, printed-Read, printed-variable) refl

-- statements

chain : text_of (body_lines names (stmt.If (bare x) (set_x y) (stmt.If (bare y) (set_x z) (set_x x) ∷ []) ∷ []))
    ≡ codes "if (x) {\n    x = y;\n} else if (y) {\n    x = z;\n} else {\n    x = x;\n}\n"
unfolding names variable x y z bare set_x
chain = simp (expr_text, target_text, part-If, part-Simple, printed-Read, printed-variable) refl

nested : text_of (body_lines names (stmt.If (bare x) [] (stmt.If (bare y) (set_x z) [] ∷ stmt.Block [] ∷ []) ∷ []))
    ≡ codes "if (x) {\n} else {\n    if (y) {\n        x = z;\n    }\n    {\n    }\n}\n"
unfolding names variable x y z bare set_x
nested = simp (expr_text, target_text, part-If, part-Simple, part-Block, printed-Read, printed-variable) refl

-- for (; ((x < 2) && (cfix_add(0), 1)) || (cfix_done(0), cfix_wait(0), 0); x++, cfix_enter(1)) continue;
stepped : text_of (body_lines names (stmt.Loop
    (record {
      test = expr.Binary op.Lt x (expr.Number (pos 2));
      on_true = operation.Add (record { number = 0 }) ∷ [];
      on_false = operation.Done (record { number = 0 }) ∷ operation.Wait (record { number = 0 }) ∷ [];
    })
    (Some (record { act = act.Up (variable 0); after = operation.Enter (record { number = 1 }) ∷ [] }))
    (stmt.Jump jump.Continue [] ∷ []) ∷ []))
    ≡ codes "for (; ((x < 2) && (cfix_add(0), 1)) || (cfix_done(0), cfix_wait(0), 0); x++, cfix_enter(1)) {\n    continue;\n}\n"
unfolding names variable x digits
stepped = simp (expr_text, target_text, part-Loop, part-Jump, printed-Binary, printed-Read, printed-Number, printed-variable) refl

unstepped : text_of (body_lines names (stmt.Loop (record { test = x; on_true = []; on_false = operation.Leave (record { number = 0 }) ∷ [] }) None [] ∷ []))
    ≡ codes "while ((x) || (cfix_leave(0), 0)) {\n}\n"
unfolding names variable x digits
unstepped = simp (expr_text, target_text, part-Loop, printed-Read, printed-variable) refl

returned : text_of (body_lines names (stmt.Jump (jump.ReturnValue (value.Expr x)) (operation.Leave (record { number = 0 }) ∷ []) ∷ []))
    ≡ codes "{\n    int cfix_value = x;\n    cfix_leave(0);\n    return cfix_value;\n}\n"
unfolding names variable x digits
returned = simp (expr_text, target_text, part-Jump, printed-Read, printed-variable) refl

left-loop : text_of (body_lines names (stmt.Jump jump.Break (operation.First (record { number = 3 }) ∷ []) ∷ []))
    ≡ codes "{\n    cfix_first(3);\n    break;\n}\n"
unfolding names digits
left-loop = simp (part-Jump) refl

-- programs

-- a thread that is the local with this number, without an index
thread : ℕ → Target
thread n = record { var = var.Local n; index = None }

-- a simple statement without operations
simple : Act → Stmt
simple a = stmt.Simple a []

counter : Function
counter = record {
  name = codes "worker";
  kind = gives.Thread;
  params = codes "arg" ∷ [];
  start = operation.Enter (record { number = 0 }) ∷ [];
  body = stmt.Simple (act.Up (variable 0)) (operation.Leave (record { number = 0 }) ∷ []) ∷ stmt.Jump jump.ReturnNull [] ∷ [];
}

starter : Function
starter = record {
  name = codes "main";
  kind = gives.Int;
  params = [];
  start = [];
  body = simple (act.Declare (codes "a") kind.Thread None) ∷ simple (act.Declare (codes "b") kind.Thread None) ∷
      simple (act.Create (thread 0) (record { number = 0 }) (expr.Number (pos 0))) ∷
      simple (act.Create (thread 1) (record { number = 0 }) (expr.Number (pos 0))) ∷
      simple (act.Join (thread 0)) ∷ simple (act.Join (thread 1)) ∷
      simple (act.Print (codes "%d\n") (x ∷ [])) ∷ stmt.Jump (jump.ReturnValue (value.Expr (expr.Number (pos 0)))) [] ∷ [];
}

classic : canonical (record {
  globals = record { name = codes "count"; kind = of_kind.Int (pos 0) } ∷ [];
  functions = counter ∷ starter ∷ [];
  starts = [];
})
    ≡ codes "#include <pthread.h>\n#include <stdio.h>\n#include \"cfix.h\"\n\nint count = 0;\n\nvoid *worker(void *arg);\n\nvoid *worker(void *arg) {\n    cfix_enter(0);\n    count++;\n    cfix_leave(0);\n    return NULL;\n}\n\nint main(void) {\n    pthread_t a;\n    pthread_t b;\n    pthread_create(&a, NULL, worker, NULL);\n    pthread_create(&b, NULL, worker, NULL);\n    pthread_join(a, NULL);\n    pthread_join(b, NULL);\n    printf(\"%d\\n\", count);\n    return 0;\n}\n"
unfolding canonical digits counter starter thread simple variable x
classic = simp (expr_text, target_text, thread_argument, zero-Number, part-Simple, part-Jump, names-Simple, names-Jump, printed-Read, printed-Number, printed-variable) refl

-- int one = -1; and the other kinds of globals, a function with parameters, a start, and no operation
kinds : canonical (record {
  globals = record { name = codes "one"; kind = of_kind.Int (negsuc 0) } ∷ record { name = codes "data"; kind = of_kind.IntArray 4 } ∷
      record { name = codes "t"; kind = of_kind.Thread } ∷ record { name = codes "ts"; kind = of_kind.ThreadArray 2 } ∷
      record { name = codes "m"; kind = of_kind.Mutex } ∷ record { name = codes "c"; kind = of_kind.Cond } ∷ [];
  functions = record {
    name = codes "f";
    kind = gives.Void;
    params = codes "a" ∷ codes "b" ∷ [];
    start = [];
    body = stmt.Loop (bare (expr.Number (pos 1))) None (simple (act.Declare (codes "c") kind.Int (Some (value.Expr (expr.Read (thread 1))))) ∷ []) ∷
        simple (act.Declare (codes "d") (kind.IntArray 3) None) ∷ simple (act.Down (thread 3)) ∷ simple (act.Lock (record { number = 4 })) ∷
        simple (act.Wait (record { number = 5 }) (record { number = 4 })) ∷ simple (act.Signal (record { number = 5 })) ∷
        simple (act.Broadcast (record { number = 5 })) ∷ [];
  } ∷ record { name = codes "main"; kind = gives.Int; params = []; start = []; body = [] } ∷ [];
  starts = record { number = 0 } ∷ record { number = 12 } ∷ [];
})
    ≡ codes "#include <pthread.h>\n#include <stdio.h>\n#define CFIX_START_0 1\n#define CFIX_START_12 1\n#include \"cfix.h\"\n\nint one = -1;\nint data[4];\npthread_t t;\npthread_t ts[2];\npthread_mutex_t m = PTHREAD_MUTEX_INITIALIZER;\npthread_cond_t c = PTHREAD_COND_INITIALIZER;\n\nvoid f(int a, int b);\n\nvoid f(int a, int b) {\n    while (1) {\n        int c = b;\n    }\n    int d[3];\n    d--;\n    pthread_mutex_lock(&m);\n    pthread_cond_wait(&c, &m);\n    pthread_cond_signal(&c);\n    pthread_cond_broadcast(&c);\n}\n\nint main(void) {\n}\n"
unfolding canonical digits thread simple bare
kinds = simp (expr_text, target_text, part-Simple, part-Loop, names-Simple, names-Loop, printed-Read, printed-Number, printed-variable) refl

-- without an operation and without globals
plain-main : canonical (record {
  globals = [];
  functions = record { name = codes "main"; kind = gives.Int; params = []; start = []; body = stmt.Block [] ∷ [] } ∷ [];
  starts = [];
})
    ≡ codes "#include <pthread.h>\n#include <stdio.h>\n\nint main(void) {\n    {\n    }\n}\n"
unfolding canonical
plain-main = simp (part-Block, patched-Block) refl
