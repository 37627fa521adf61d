-- Faults of simple statements, operations and jumps stand at their tokens.
use Rattle.std.proofs.Common.{ℕ, suc, List, [], ◌∷◌, ◌++◌}
use Rattle.cfix_base.specs.declared.Spot.{Spot}
use Rattle.c_grammar.specs.Expr.{pieces, long_pieces}
use Rattle.c_grammar.specs.Op.{Op, OpOf, op_marks, Ops, ops_marks, more_ops_marks}
use Rattle.c_grammar.specs.Simple.{Plain, SetTo, Changed, SteppedAfter, SteppedBefore, plain_marks, ThreadArg, NullArg, CastArg, thread_arg_marks, Library, Create, Join, Lock, Unlock, Print, Scan, Wait, Signal, Broadcast, library_marks, Simple, PlainPart, SetCall, OnlyCall, LibraryPart, simple_marks}
use Rattle.c_grammar.specs.Stmt.{Bare, Break, Continue, Return, ReturnNull, bare_marks, Jump, BareJump, ReturnValue, BareBlock, ValueBlock, jump_marks}
use Rattle.c_prog.specs.Valid.Scope.{Scope}
use Rattle.c_prog.specs.Valid.Statements.{Around}
use Rattle.c_names.specs.declared.fault.FaultKind.TheVariants.{Arity, WrongUse, Limit}
use Rattle.c_names.specs.Uses.{Names}
use Rattle.c_names.specs.Simples.{op_faults, ops_faults, more_ops_faults, plain_faults, thread_arg_faults, library_faults, simple_faults}
use Rattle.c_names.specs.Returns.{bare_spot, jump_faults}
use Rattle.fault_laws.proofs.Each.{none, first, rest, front, back, both, Tokens, Faults, unplaced, if_so, named}
use Rattle.fault_laws.proofs.Expressions.{expr-at, whole-at, more_exprs-at, int_target-at, thread_target-at, call-at, valued-at, value-at}

pub op-at : (P : Spot → Type 0) (d : ℕ) (op : Op) → Tokens P (op_marks d op) → Faults P (op_faults op)
op-at P d (OpOf verb at before n after) h = if_so P _ at Limit (first h)

pub ops-at : (P : Spot → Type 0) (d : ℕ) (ops : Ops) → Tokens P (ops_marks d ops) → Faults P (ops_faults ops)
ops-at P d [] h = none
ops-at P d (x ∷ more) h = both (op-at P d x.0 (front _ _ (front _ _ h))) (ops-at P d more (back _ _ h))

pub more_ops-at : (P : Spot → Type 0) (d : ℕ) (ops : List (Spot × Op)) → Tokens P (more_ops_marks d ops) → Faults P (more_ops_faults ops)
more_ops-at P d [] h = none
more_ops-at P d (x ∷ more) h = both (op-at P d x.1 (front _ _ (rest h))) (more_ops-at P d more (back _ _ (rest h)))

pub plain-at : (P : Spot → Type 0) (names : Names) (scope : Scope) (d : ℕ) (p : Plain) → Tokens P (plain_marks d p) → Faults P (plain_faults names scope p)
plain-at P names scope d (SetTo t at e) h = both (int_target-at P names scope d t (front _ _ h)) (whole-at P names scope d e (rest (back _ _ h)))
plain-at P names scope d (Changed t how at e) h = both (int_target-at P names scope d t (front _ _ h)) (whole-at P names scope d e (rest (back _ _ h)))
plain-at P names scope d (SteppedAfter t step at) h = int_target-at P names scope d t (front _ _ h)
plain-at P names scope d (SteppedBefore step at t) h = int_target-at P names scope d t (rest h)

thread_arg-at : (P : Spot → Type 0) (names : Names) (scope : Scope) (d : ℕ) (a : ThreadArg)
    → Tokens P (thread_arg_marks d a) → Faults P (thread_arg_faults names scope a)
thread_arg-at P names scope d (NullArg at) h = none
thread_arg-at P names scope d (CastArg before void star after long e) h =
    expr-at P names scope d e (back _ _ (unplaced P 0 (long_pieces d long ++ pieces d e) (rest (rest (rest (rest h))))))

library-at : (P : Spot → Type 0) (names : Names) (scope : Scope) (d : ℕ) (l : Library) → Tokens P (library_marks d l) → Faults P (library_faults names scope l)
library-at P names scope d (Create at before amp t comma1 null comma2 f comma3 arg after) h =
    let behind = back _ _ (rest (rest (rest h))) in
    both (thread_target-at P names scope d t (front _ _ (rest (rest (rest h)))))
    (both (named P _ _ f (first (rest (rest (rest behind))))) (thread_arg-at P names scope d arg (front _ _ (rest (rest (rest (rest (rest behind))))))))
library-at P names scope d (Join at before t comma null after) h = thread_target-at P names scope d t (front _ _ (rest (rest h)))
library-at P names scope d (Lock at before amp m after) h = named P _ _ m (first (rest (rest (rest h))))
library-at P names scope d (Unlock at before amp m after) h = named P _ _ m (first (rest (rest (rest h))))
library-at P names scope d (Print at before text more after) h =
    both (both (if_so P _ at Arity (first h)) (if_so P _ at Limit (first h)))
    (both (if_so P _ text.spot WrongUse (first (rest (rest h)))) (more_exprs-at P names scope d more (front _ _ (rest (rest (rest h))))))
library-at P names scope d (Scan at before text comma amp t after) h =
    both (if_so P _ text.spot WrongUse (first (rest (rest h)))) (int_target-at P names scope d t (front _ _ (rest (rest (rest (rest (rest h)))))))
library-at P names scope d (Wait at before amp1 c comma amp2 m after) h =
    both (named P _ _ c (first (rest (rest (rest h))))) (named P _ _ m (first (rest (rest (rest (rest (rest (rest h))))))))
library-at P names scope d (Signal at before amp c after) h = named P _ _ c (first (rest (rest (rest h))))
library-at P names scope d (Broadcast at before amp c after) h = named P _ _ c (first (rest (rest (rest h))))

pub simple-at : (P : Spot → Type 0) (names : Names) (scope : Scope) (d : ℕ) (x : Simple) → Tokens P (simple_marks d x) → Faults P (simple_faults names scope x)
simple-at P names scope d (PlainPart p) h = plain-at P names scope d p h
simple-at P names scope d (SetCall t at x) h =
    both (int_target-at P names scope d t (front _ _ h)) (both (call-at P names scope d x (rest (back _ _ h))) (valued-at P names scope d x (rest (back _ _ h))))
simple-at P names scope d (OnlyCall x) h = call-at P names scope d x h
simple-at P names scope d (LibraryPart l) h = library-at P names scope d l h

-- the word of a jump
pub bare-at : (P : Spot → Type 0) (d : ℕ) (b : Bare) → Tokens P (bare_marks d b) → P (bare_spot b)
bare-at P d (Break at) h = first h
bare-at P d (Continue at) h = first h
bare-at P d (Return at) h = first h
bare-at P d (ReturnNull at null) h = first h

pub jump-at : (P : Spot → Type 0) (names : Names) (around : Around) (scope : Scope) (d : ℕ) (j : Jump)
    → Tokens P (jump_marks d j) → Faults P (jump_faults names around scope j)
jump-at P names around scope d (BareJump b end) h = if_so P _ (bare_spot b) WrongUse (bare-at P d b (front _ _ h))
jump-at P names around scope d (ReturnValue at v end) h = both (if_so P _ at WrongUse (first h)) (value-at P names scope d v (front _ _ (rest h)))
jump-at P names around scope d (BareBlock before op end ops b end2 after) h =
    let behind = rest (back _ _ (rest h)) in
    both (op-at P (suc d) op (front _ _ (rest h)))
    (both (ops-at P (suc d) ops (front _ _ behind)) (if_so P _ (bare_spot b) WrongUse (bare-at P (suc d) b (front _ _ (back _ _ behind)))))
jump-at P names around scope d (ValueBlock before word name set v end op end2 ops return name2 end3 after) h =
    let value = rest (rest (rest (rest h))) in
    let one = rest (back _ _ value) in
    let others = rest (back _ _ one) in
    both (value-at P names scope (suc d) v (front _ _ value))
    (both (op-at P (suc d) op (front _ _ one)) (both (ops-at P (suc d) ops (front _ _ others)) (if_so P _ return WrongUse (first (back _ _ others)))))
