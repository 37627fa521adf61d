-- Faults of expressions, targets and calls stand at their tokens.
use Rattle.std.proofs.Common.{ℕ, suc, not, ◌&&◌, ◌==◌, List, [], ◌∷◌, map, Option, Some, None}
use Rattle.cfix_base.specs.declared.Spot.{Spot}
use Rattle.c_grammar.specs.Marks.{maybe}
use Rattle.c_grammar.specs.Token.{Ident}
use Rattle.c_grammar.specs.Expr.{Expr, Number, Name, Index, Paren, Cast, Unary, Operation, pieces, expr_marks}
use Rattle.c_grammar.specs.Simple.{Place, place_marks, Target, TargetOf, target_marks, more_exprs_marks, Args, args_marks, Call, CallOf, call_marks, Value, Computed, Called, value_marks}
use Rattle.c_prog.specs.Valid.Scope.{Scope}
use Rattle.c_names.specs.declared.fault.FaultKind.TheVariants.{Arity, WrongUse, RootCalled, Limit}
use Rattle.c_names.specs.Uses.{Names, Use, IsLocal, IsGlobal, IsFunction, IsDefined, IsUnknown}
use Rattle.c_names.specs.Expressions.{expr_faults, exprs_faults, index_faults, int_target_faults, thread_target_faults, args_list, is_root_name, callee_faults, call_faults, valued_faults, value_faults}
use Rattle.fault_laws.proofs.Each.{none, only, first, rest, front, back, both, Tokens, Pieces, Faults, unplaced, if_so, reserved, used, named}

pub expr-at : (P : Spot → Type 0) (names : Names) (scope : Scope) (d : ℕ) (e : Expr) → Pieces P (pieces d e) → Faults P (expr_faults names scope e)
expr-at P names scope d (Number n) h = none
expr-at P names scope d (Name x) h = named P _ _ x (first h)
expr-at P names scope d (Index x before e after) h =
    both (reserved P x (first h)) (both (used P _ _ x.spot (first h)) (expr-at P names scope (suc d) e (front _ _ (rest (rest h)))))
expr-at P names scope d (Paren before e after) h = expr-at P names scope (suc d) e (front _ _ (rest h))
expr-at P names scope d (Cast before word after long x) h = named P _ _ x (first (back _ _ (rest (rest (rest h)))))
expr-at P names scope d (Unary op at e) h = expr-at P names scope (suc d) e (rest h)
expr-at P names scope d (Operation a op at b) h = both (expr-at P names scope d a (front _ _ h)) (expr-at P names scope d b (rest (back _ _ h)))

-- a whole expression
pub whole-at : (P : Spot → Type 0) (names : Names) (scope : Scope) (d : ℕ) (e : Expr) → Tokens P (expr_marks d e) → Faults P (expr_faults names scope e)
whole-at P names scope d e h = expr-at P names scope d e (unplaced P 0 (pieces d e) h)

pub more_exprs-at : (P : Spot → Type 0) (names : Names) (scope : Scope) (d : ℕ) (more : List (Spot × Expr))
    → Tokens P (more_exprs_marks d more) → Faults P (exprs_faults names scope (map (λ y. y.1) more))
more_exprs-at P names scope d [] h = none
more_exprs-at P names scope d (x ∷ more) h =
    both (whole-at P names scope d x.1 (front _ _ (rest h))) (more_exprs-at P names scope d more (back _ _ (rest h)))

args-at : (P : Spot → Type 0) (names : Names) (scope : Scope) (d : ℕ) (args : Args)
    → Tokens P (args_marks d args) → Faults P (exprs_faults names scope (args_list args))
args-at P names scope d None h = none
args-at P names scope d (Some x) h = both (whole-at P names scope d x.0 (front _ _ h)) (more_exprs-at P names scope d x.1 (back _ _ h))

index-at : (P : Spot → Type 0) (names : Names) (scope : Scope) (d : ℕ) (index : Option Place)
    → Tokens P (maybe [] (place_marks d) index) → Faults P (index_faults names scope index)
index-at P names scope d None h = none
index-at P names scope d (Some i) h = whole-at P names scope (suc d) i.1.0 (front _ _ (rest h))

pub int_target-at : (P : Spot → Type 0) (names : Names) (scope : Scope) (d : ℕ) (t : Target)
    → Tokens P (target_marks d t) → Faults P (int_target_faults names scope t)
int_target-at P names scope d (TargetOf x index) h =
    both (reserved P x (first h)) (both (used P _ _ x.spot (first h)) (index-at P names scope d index (rest h)))

pub thread_target-at : (P : Spot → Type 0) (names : Names) (scope : Scope) (d : ℕ) (t : Target)
    → Tokens P (target_marks d t) → Faults P (thread_target_faults names scope t)
thread_target-at P names scope d (TargetOf x index) h =
    both (reserved P x (first h)) (both (used P _ _ x.spot (first h)) (index-at P names scope d index (rest h)))

callee-at : (P : Spot → Type 0) (found : Use) (f : Ident) (count : ℕ) → P f.spot → Faults P (callee_faults found f count)
callee-at P (IsLocal n kind) f count h = only h
callee-at P (IsGlobal n kind) f count h = only h
callee-at P (IsFunction n kind params) f count h =
    both (if_so P (is_root_name f kind) f.spot RootCalled h) (if_so P (not (is_root_name f kind) && not (params == count)) f.spot Arity h)
callee-at P (IsDefined value) f count h = only h
callee-at P IsUnknown f count h = only h

pub call-at : (P : Spot → Type 0) (names : Names) (scope : Scope) (d : ℕ) (x : Call) → Tokens P (call_marks d x) → Faults P (call_faults names scope x)
call-at P names scope d (CallOf f before args after) h =
    both (reserved P f (first h)) (both (callee-at P _ f _ (first h)) (both (if_so P _ f.spot Limit (first h)) (args-at P names scope d args (front _ _ (rest (rest h))))))

pub valued-at : (P : Spot → Type 0) (names : Names) (scope : Scope) (d : ℕ) (x : Call) → Tokens P (call_marks d x) → Faults P (valued_faults names scope x)
valued-at P names scope d (CallOf f before args after) h = if_so P _ f.spot WrongUse (first h)

pub value-at : (P : Spot → Type 0) (names : Names) (scope : Scope) (d : ℕ) (v : Value) → Tokens P (value_marks d v) → Faults P (value_faults names scope v)
value-at P names scope d (Computed e) h = whole-at P names scope d e h
value-at P names scope d (Called x) h = both (call-at P names scope d x h) (valued-at P names scope d x h)
