-- Expressions and simple statements have as many lines as accesses.
use Rattle.std.proofs.Common.{◌≡◌, ℕ, ◌+◌, pos, Bool, true, false, not, List, [], ◌∷◌, ◌++◌, map, length, Option, Some, None, refl, ap, sym, ◌∙◌, arith}
use Rattle.std.proofs.lemmas.List.{length-append, length-map}
use Rattle.cfix_base.specs.declared.Spot.{Spot}
use Rattle.cfix_base.specs.declared.access.Access.{Access}
use Rattle.cfix_base.specs.declared.access.Access.TheVariants.{Read, Write}
use Rattle.c_grammar.specs.Marks.{each}
use Rattle.c_grammar.specs.Expr as g
use Rattle.c_grammar.specs.Simple as s
use Rattle.c_prog.specs.declared.access_item.Touch.{Touch}
use Rattle.c_prog.specs.declared.act.Act.{Act}
use Rattle.c_prog.specs.declared.act.How.{How}
use Rattle.c_prog.specs.declared.expr.Expr.{Expr}
use Rattle.c_prog.specs.declared.expr.Expr.TheVariants as expr
use Rattle.c_prog.specs.declared.expr.Var.{Var}
use Rattle.c_prog.specs.declared.expr.Var.TheVariants as var
use Rattle.c_prog.specs.declared.expr.Target.{Target}
use Rattle.c_prog.specs.Accesses.{expr_accesses, read_accesses, index_accesses, args_accesses, value_accesses, act_accesses, kept_accesses, touched, marked, unsure, stops_early}
use Rattle.c_prog.specs.Valid.Scope.{Scope}
use Rattle.c_prog.proofs.Equations.{accesses-Number, accesses-Cast, accesses-Neg, accesses-Not, accesses-Read, accesses-Binary, read-is}
use Rattle.c_names.specs.Uses.{Names, Use, IsLocal, IsGlobal, IsFunction, IsDefined, IsUnknown, use_of, var_of, local_number}
use Rattle.c_names.specs.Expressions.{args_list}
use Rattle.c_names.specs.SpelledExpressions.{op_of, prefixed, read_of, expr_of, exprs_of, index_of, target_of, call_of, value_of, how_of, stepped, plain_of, thread_arg_of, library_of, simple_of}
use Rattle.c_names.specs.LinesExpressions.{touch_lines, read_lines, expr_lines, exprs_lines, place_lines, index_lines, target_lines, args_lines, value_lines, plain_lines, thread_arg_lines, library_lines, simple_lines}

-- the access to a variable itself
pub own : (a : Access) (v : Var) (at : Spot) → length (touch_lines v at) ≡ length (touched a v)
own a (var.Global id) at = refl
own a (var.Local n) at = refl

marked-length : (b : Bool) (ts : List Touch) → length (marked b ts) ≡ length ts
marked-length true ts = refl
marked-length false ts = length-map ts unsure

-- a variable or element that is read
read-length : (v : Var) (i : Option Expr)
    → length (expr_accesses (expr.Read (record { var = v; index = i }))) ≡ length (index_accesses i) + length (touched Read v)
read-length v i =
    ap length (accesses-Read (record { var = v; index = i }) ∙ read-is (record { var = v; index = i }))
    ∙ length-append (index_accesses i) (touched Read v)

whole-read : (v : Var) (at : Spot) → length (touch_lines v at) ≡ length (expr_accesses (expr.Read (record { var = v; index = None })))
whole-read v at = omega (arith, own Read v at, read-length v None)

-- a name that is read
name-even : (u : Use) (at : Spot) → length (read_lines u at) ≡ length (expr_accesses (read_of u))
name-even (IsDefined n) at = sym (ap length (accesses-Number n))
name-even (IsLocal n k) at = whole-read (var.Local n) at
name-even (IsGlobal n k) at = whole-read (var.Global (record { number = n })) at
name-even (IsFunction n k m) at = whole-read (var.Local 0) at
name-even IsUnknown at = whole-read (var.Local 0) at

prefix-even : (p : g.Prefix) (e : Expr) → length (expr_accesses e) ≡ length (expr_accesses (prefixed p e))
prefix-even g.Negate e = sym (ap length (accesses-Neg e))
prefix-even g.Invert e = sym (ap length (accesses-Not e))

-- an expression
pub expr-even : (names : Names) (scope : Scope) (e : g.Expr)
    → length (expr_lines names scope e) ≡ length (expr_accesses (expr_of names scope e))
expr-even names scope (g.Number n) = sym (ap length (accesses-Number n.value))
expr-even names scope (g.Name x) = name-even (use_of names scope x.text) x.spot
expr-even names scope (g.Index x before e after) =
    omega (
      arith,
      length-append (expr_lines names scope e) (touch_lines (var_of (use_of names scope x.text)) x.spot),
      expr-even names scope e,
      own Read (var_of (use_of names scope x.text)) x.spot,
      read-length (var_of (use_of names scope x.text)) (Some (expr_of names scope e)),
    )
expr-even names scope (g.Paren before e after) = expr-even names scope e
expr-even names scope (g.Cast before w after long x) =
    sym (ap length (accesses-Cast (local_number (use_of names scope x.text))))
expr-even names scope (g.Unary op at e) = expr-even names scope e ∙ prefix-even op (expr_of names scope e)
expr-even names scope (g.Operation a op at b) =
    omega (
      arith,
      length-append (expr_lines names scope a) (expr_lines names scope b),
      expr-even names scope a,
      expr-even names scope b,
      ap length (accesses-Binary (op_of op) (expr_of names scope a) (expr_of names scope b)),
      length-append (expr_accesses (expr_of names scope a)) (marked (not (stops_early (op_of op))) (expr_accesses (expr_of names scope b))),
      marked-length (not (stops_early (op_of op))) (expr_accesses (expr_of names scope b)),
    )

-- expressions, one after another
pub exprs-even : (names : Names) (scope : Scope) (es : List g.Expr)
    → length (exprs_lines names scope es) ≡ length (args_accesses (exprs_of names scope es))
exprs-even names scope [] = refl
exprs-even names scope (e ∷ es) =
    omega (
      arith,
      length-append (expr_lines names scope e) (exprs_lines names scope es),
      length-append (expr_accesses (expr_of names scope e)) (args_accesses (exprs_of names scope es)),
      expr-even names scope e,
      exprs-even names scope es,
    )

-- an index, if there is one
place-even : (names : Names) (scope : Scope) (i : Option s.Place)
    → length (place_lines names scope i) ≡ length (index_accesses (index_of names scope i))
place-even names scope None = refl
place-even names scope (Some i) = expr-even names scope i.1.0

pub index-even : (names : Names) (scope : Scope) (t : s.Target)
    → length (index_lines names scope t) ≡ length (index_accesses (target_of names scope t).index)
index-even names scope (s.TargetOf x i) = place-even names scope i

-- the variable of a target itself
pub target-even : (names : Names) (scope : Scope) (a : Access) (t : s.Target)
    → length (target_lines names scope t) ≡ length (touched a (target_of names scope t).var)
target-even names scope a (s.TargetOf x i) = own a (var_of (use_of names scope x.text)) x.spot

pub args-even : (names : Names) (scope : Scope) (c : s.Call)
    → length (args_lines names scope c) ≡ length (args_accesses (call_of names scope c).args)
args-even names scope (s.CallOf f before args after) = exprs-even names scope (args_list args)

-- what is assigned, returned or begun with
pub value-even : (names : Names) (scope : Scope) (v : s.Value)
    → length (value_lines names scope v) ≡ length (value_accesses (value_of names scope v))
value-even names scope (s.Computed e) = expr-even names scope e
value-even names scope (s.Called c) = args-even names scope c

kept-is : (c : s.Change) (v : Var) → kept_accesses (how_of c) v ≡ touched Read v
kept-is s.AddTo v = refl
kept-is s.SubtractFrom v = refl
kept-is s.MultiplyBy v = refl
kept-is s.DivideBy v = refl
kept-is s.RemainderBy v = refl

three : {A : Type 0} (a b c : List A) → length (a ++ (b ++ c)) ≡ length a + (length b + length c)
three a b c = omega (arith, length-append a (b ++ c), length-append b c)

left_three : {A : Type 0} (a b c : List A) → length (a ++ b ++ c) ≡ length a + (length b + length c)
left_three a b c = omega (arith, length-append (a ++ b) c, length-append a b)

four : {A : Type 0} (a b c d : List A) → length (a ++ (b ++ (c ++ d))) ≡ length a + (length b + (length c + length d))
four a b c d = omega (arith, length-append a (b ++ (c ++ d)), three b c d)

left_four : {A : Type 0} (a b c d : List A) → length (a ++ b ++ c ++ d) ≡ length a + (length b + (length c + length d))
left_four a b c d = omega (arith, length-append (a ++ b ++ c) d, left_three a b c)

-- `++` and `--`
step-even : (names : Names) (scope : Scope) (step : s.Step) (t : s.Target)
    → length (index_lines names scope t ++ (target_lines names scope t ++ target_lines names scope t))
    ≡ length (act_accesses (stepped step (target_of names scope t)))
step-even names scope s.Up t =
    omega (
      arith,
      three (index_lines names scope t) (target_lines names scope t) (target_lines names scope t),
      left_three (index_accesses (target_of names scope t).index) (touched Read (target_of names scope t).var) (touched Write (target_of names scope t).var),
      index-even names scope t,
      target-even names scope Read t,
      target-even names scope Write t,
    )
step-even names scope s.Down t =
    omega (
      arith,
      three (index_lines names scope t) (target_lines names scope t) (target_lines names scope t),
      left_three (index_accesses (target_of names scope t).index) (touched Read (target_of names scope t).var) (touched Write (target_of names scope t).var),
      index-even names scope t,
      target-even names scope Read t,
      target-even names scope Write t,
    )

-- an assignment, `++` or `--`
pub plain-even : (names : Names) (scope : Scope) (p : s.Plain)
    → length (plain_lines names scope p) ≡ length (act_accesses (plain_of names scope p))
plain-even names scope (s.SetTo t at e) =
    omega (
      arith,
      three (index_lines names scope t) (expr_lines names scope e) (target_lines names scope t),
      left_four (index_accesses (target_of names scope t).index) [] (expr_accesses (expr_of names scope e)) (touched Write (target_of names scope t).var),
      index-even names scope t,
      expr-even names scope e,
      target-even names scope Write t,
    )
plain-even names scope (s.Changed t c at e) =
    omega (
      arith,
      four (index_lines names scope t) (target_lines names scope t) (expr_lines names scope e) (target_lines names scope t),
      left_four (index_accesses (target_of names scope t).index) (kept_accesses (how_of c) (target_of names scope t).var) (expr_accesses (expr_of names scope e)) (touched Write (target_of names scope t).var),
      ap length (kept-is c (target_of names scope t).var),
      index-even names scope t,
      expr-even names scope e,
      target-even names scope Read t,
      target-even names scope Write t,
    )
plain-even names scope (s.SteppedAfter t step at) = step-even names scope step t
plain-even names scope (s.SteppedBefore step at t) = step-even names scope step t

arg-even : (names : Names) (scope : Scope) (a : s.ThreadArg)
    → length (thread_arg_lines names scope a) ≡ length (expr_accesses (thread_arg_of names scope a))
arg-even names scope (s.NullArg at) = sym (ap length (accesses-Number (pos 0)))
arg-even names scope (s.CastArg before void star after long e) = expr-even names scope e

-- a call of the headers
pub library-even : (names : Names) (scope : Scope) (l : s.Library)
    → length (library_lines names scope l) ≡ length (act_accesses (library_of names scope l))
library-even names scope (s.Create at before amp t comma1 null comma2 f comma3 arg after) =
    omega (
      arith,
      length-append (index_lines names scope t) (thread_arg_lines names scope arg),
      length-append (index_accesses (target_of names scope t).index) (expr_accesses (thread_arg_of names scope arg)),
      index-even names scope t,
      arg-even names scope arg,
    )
library-even names scope (s.Join at before t comma null after) = index-even names scope t
library-even names scope (s.Lock at before amp m after) = refl
library-even names scope (s.Unlock at before amp m after) = refl
library-even names scope (s.Print at before text more after) = exprs-even names scope (map (λ y. y.1) more)
library-even names scope (s.Scan at before text comma amp t after) =
    omega (
      arith,
      length-append (index_lines names scope t) (target_lines names scope t),
      length-append (index_accesses (target_of names scope t).index) (touched Write (target_of names scope t).var),
      index-even names scope t,
      target-even names scope Write t,
    )
library-even names scope (s.Wait at before amp1 c comma amp2 m after) = refl
library-even names scope (s.Signal at before amp c after) = refl
library-even names scope (s.Broadcast at before amp c after) = refl

-- a simple statement that is no declaration
pub simple-even : (names : Names) (scope : Scope) (x : s.Simple)
    → length (simple_lines names scope x) ≡ length (act_accesses (simple_of names scope x))
simple-even names scope (s.PlainPart p) = plain-even names scope p
simple-even names scope (s.SetCall t at c) =
    omega (
      arith,
      three (index_lines names scope t) (args_lines names scope c) (target_lines names scope t),
      left_four (index_accesses (target_of names scope t).index) [] (args_accesses (call_of names scope c).args) (touched Write (target_of names scope t).var),
      index-even names scope t,
      args-even names scope c,
      target-even names scope Write t,
    )
simple-even names scope (s.OnlyCall c) = args-even names scope c
simple-even names scope (s.LibraryPart l) = library-even names scope l
