-- Faults of declarations and conditions stand at their tokens.
use Rattle.std.proofs.Common.{ℕ, suc, List, [], ◌∷◌, ◌++◌, map, Option, Some, None}
use Rattle.cfix_base.specs.declared.Spot.{Spot}
use Rattle.c_grammar.specs.declared.sign.Sign.TheVariants as s
use Rattle.c_grammar.specs.Marks.{each, maybe}
use Rattle.c_grammar.specs.Token.{Ident, sign}
use Rattle.c_grammar.specs.Expr.{plain}
use Rattle.c_grammar.specs.Op.{Op, OpOf}
use Rattle.c_grammar.specs.Decl.{Size, Count, Named, size_marks, Hold, OneThread, Threads, hold_marks, more_holds_marks, LocalInt, OneLocal, SetLocal, LocalArray, local_int_marks, Decl, Ints, Holds, decl_marks, LoopInt, OneLoop, SetLoop, loop_int_marks}
use Rattle.c_grammar.specs.Cond.{Guard, GuardOf, TrueGuard, TrueGuardOf, Cond, Bare, OnTrue, OnFalse, OnBoth, op_pieces, guard_pieces, true_guard_pieces, cond_pieces, cond_marks}
use Rattle.c_grammar.specs.Stmt.{First, FirstInts, FirstPlain, first_marks, LoopStep, LoopStepOf, loop_step_marks}
use Rattle.c_prog.specs.Valid.Scope.{int, Scope, declared}
use Rattle.c_names.specs.declared.fault.FaultKind.TheVariants.{Twice, Limit}
use Rattle.c_names.specs.Uses.{Names}
use Rattle.c_names.specs.Names.{declare_faults, size_faults}
use Rattle.c_names.specs.Scopes.{local_int_declared, hold_declared, loop_int_declared, with_local}
use Rattle.c_names.specs.Simples.{op_faults, ops_faults}
use Rattle.c_names.specs.Statements.{local_int_faults, local_ints_faults, hold_faults, holds_faults, decl_faults, loop_int_faults, loop_ints_faults, first_faults, guard_faults, true_guard_faults, cond_faults, test_faults, step_faults}
use Rattle.fault_laws.proofs.Each.{none, first, rest, front, back, both, Tokens, Pieces, Faults, unplaced, if_so, reserved, named}
use Rattle.fault_laws.proofs.Expressions.{expr-at, whole-at, value-at}
use Rattle.fault_laws.proofs.Simples.{plain-at, more_ops-at}

pub declare-at : (P : Spot → Type 0) (names : Names) (scope : Scope) (x : Ident) → P x.spot → Faults P (declare_faults names scope x)
declare-at P names scope x h = both (reserved P x h) (if_so P _ x.spot Twice h)

pub size-at : (P : Spot → Type 0) (names : Names) (scope : Scope) (d : ℕ) (n : Size) → Tokens P (size_marks d n) → Faults P (size_faults names scope n)
size-at P names scope d (Count n) h = none
size-at P names scope d (Named x) h = named P _ _ x (first h)

-- ---- declarations

local_int-at : (P : Spot → Type 0) (names : Names) (scope : Scope) (d : ℕ) (x : LocalInt)
    → Tokens P (local_int_marks d x) → Faults P (local_int_faults names scope x)
local_int-at P names scope d (OneLocal x) h = declare-at P names scope x (first h)
local_int-at P names scope d (SetLocal x at v) h =
    both (declare-at P names scope x (first h)) (value-at P names (declared x.text int scope) d v (rest (rest h)))
local_int-at P names scope d (LocalArray x before n after) h =
    both (declare-at P names scope x (first h)) (both (if_so P _ x.spot Limit (first h)) (size-at P names scope d n (front _ _ (rest (rest h)))))

local_ints-at : (P : Spot → Type 0) (names : Names) (scope : Scope) (d : ℕ) (more : List (Spot × LocalInt))
    → Tokens P (each (λ y. (sign s.Comma y.0, d) ∷ local_int_marks d y.1) more) → Faults P (local_ints_faults names scope (map (λ y. y.1) more))
local_ints-at P names scope d [] h = none
local_ints-at P names scope d (y ∷ more) h =
    both (local_int-at P names scope d y.1 (front _ _ (rest h))) (local_ints-at P names (with_local (local_int_declared y.1) scope) d more (back _ _ (rest h)))

hold-at : (P : Spot → Type 0) (names : Names) (scope : Scope) (d : ℕ) (x : Hold) → Tokens P (hold_marks d x) → Faults P (hold_faults names scope x)
hold-at P names scope d (OneThread x) h = declare-at P names scope x (first h)
hold-at P names scope d (Threads x before n after) h =
    both (declare-at P names scope x (first h)) (both (if_so P _ x.spot Limit (first h)) (size-at P names scope d n (front _ _ (rest (rest h)))))

holds-at : (P : Spot → Type 0) (names : Names) (scope : Scope) (d : ℕ) (more : List (Spot × Hold))
    → Tokens P (more_holds_marks d more) → Faults P (holds_faults names scope (map (λ y. y.1) more))
holds-at P names scope d [] h = none
holds-at P names scope d (y ∷ more) h =
    both (hold-at P names scope d y.1 (front _ _ (rest h))) (holds-at P names (with_local (hold_declared y.1) scope) d more (back _ _ (rest h)))

pub decl-at : (P : Spot → Type 0) (names : Names) (scope : Scope) (d : ℕ) (x : Decl) → Tokens P (decl_marks d x) → Faults P (decl_faults names scope x)
decl-at P names scope d (Ints at x more) h =
    both (local_int-at P names scope d x (front _ _ (rest h))) (local_ints-at P names (with_local (local_int_declared x) scope) d more (back _ _ (rest h)))
decl-at P names scope d (Holds at x more) h =
    both (hold-at P names scope d x (front _ _ (rest h))) (holds-at P names (with_local (hold_declared x) scope) d more (back _ _ (rest h)))

loop_int-at : (P : Spot → Type 0) (names : Names) (scope : Scope) (d : ℕ) (x : LoopInt)
    → Tokens P (loop_int_marks d x) → Faults P (loop_int_faults names scope x)
loop_int-at P names scope d (OneLoop x) h = declare-at P names scope x (first h)
loop_int-at P names scope d (SetLoop x at e) h =
    both (declare-at P names scope x (first h)) (whole-at P names (declared x.text int scope) d e (rest (rest h)))

loop_ints-at : (P : Spot → Type 0) (names : Names) (scope : Scope) (d : ℕ) (more : List (Spot × LoopInt))
    → Tokens P (each (λ y. (sign s.Comma y.0, d) ∷ loop_int_marks d y.1) more) → Faults P (loop_ints_faults names scope (map (λ y. y.1) more))
loop_ints-at P names scope d [] h = none
loop_ints-at P names scope d (y ∷ more) h =
    both (loop_int-at P names scope d y.1 (front _ _ (rest h))) (loop_ints-at P names (with_local (loop_int_declared y.1) scope) d more (back _ _ (rest h)))

-- the first part of a `for`
pub first-at : (P : Spot → Type 0) (names : Names) (scope : Scope) (d : ℕ) (x : Option First)
    → Tokens P (maybe [] (first_marks d) x) → Faults P (first_faults names scope x)
first-at P names scope d None h = none
first-at P names scope d (Some (FirstInts at x more)) h =
    both (loop_int-at P names scope d x (front _ _ (rest h))) (loop_ints-at P names (with_local (loop_int_declared x) scope) d more (back _ _ (rest h)))
first-at P names scope d (Some (FirstPlain p)) h = plain-at P names scope d p h

-- its step
pub step-at : (P : Spot → Type 0) (names : Names) (scope : Scope) (d : ℕ) (x : Option LoopStep)
    → Tokens P (maybe [] (loop_step_marks d) x) → Faults P (step_faults names scope x)
step-at P names scope d None h = none
step-at P names scope d (Some (LoopStepOf p ops)) h = both (plain-at P names scope d p (front _ _ h)) (more_ops-at P d ops (back _ _ h))

-- ---- conditions

op_piece-at : (P : Spot → Type 0) (d : ℕ) (op : Op) → Pieces P (op_pieces d op) → Faults P (op_faults op)
op_piece-at P d (OpOf verb at before n after) h = if_so P _ at Limit (first h)

op_pieces-at : (P : Spot → Type 0) (d : ℕ) (more : List (Op × Spot))
    → Pieces P (each (λ x. op_pieces d x.0 ++ plain (sign s.Comma x.1) d ∷ []) more) → Faults P (ops_faults more)
op_pieces-at P d [] h = none
op_pieces-at P d (x ∷ more) h = both (op_piece-at P d x.0 (front _ _ (front _ _ h))) (op_pieces-at P d more (back _ _ h))

guard-at : (P : Spot → Type 0) (n d : ℕ) (g : Guard) → Pieces P (guard_pieces n d g) → Faults P (guard_faults g)
guard-at P n d (GuardOf op comma more at) h = both (op_piece-at P d op (front _ _ h)) (op_pieces-at P d more (front _ _ (rest (back _ _ h))))

true_guard-at : (P : Spot → Type 0) (names : Names) (scope : Scope) (d : ℕ) (g : TrueGuard)
    → Pieces P (true_guard_pieces d g) → Faults P (true_guard_faults names scope g)
true_guard-at P names scope d (TrueGuardOf before e after sign before2 guard after2) h =
    both (expr-at P names scope (suc d) e (front _ _ (rest h))) (guard-at P 1 (suc d) guard (front _ _ (rest (rest (rest (back _ _ (rest h)))))))

cond_pieces-at : (P : Spot → Type 0) (names : Names) (scope : Scope) (d : ℕ) (c : Cond) → Pieces P (cond_pieces d c) → Faults P (cond_faults names scope c)
cond_pieces-at P names scope d (Bare e) h = expr-at P names scope d e h
cond_pieces-at P names scope d (OnTrue g) h = true_guard-at P names scope d g h
cond_pieces-at P names scope d (OnFalse before e after sign before2 guard after2) h =
    both (expr-at P names scope (suc d) e (front _ _ (rest h))) (guard-at P 0 (suc d) guard (front _ _ (rest (rest (rest (back _ _ (rest h)))))))
cond_pieces-at P names scope d (OnBoth before g after sign before2 guard after2) h =
    both (true_guard-at P names scope (suc d) g (front _ _ (rest h))) (guard-at P 0 (suc d) guard (front _ _ (rest (rest (rest (back _ _ (rest h)))))))

pub cond-at : (P : Spot → Type 0) (names : Names) (scope : Scope) (d : ℕ) (c : Cond) → Tokens P (cond_marks d c) → Faults P (cond_faults names scope c)
cond-at P names scope d c h = cond_pieces-at P names scope d c (unplaced P 0 (cond_pieces d c) h)

pub test-at : (P : Spot → Type 0) (names : Names) (scope : Scope) (d : ℕ) (c : Option Cond)
    → Tokens P (maybe [] (cond_marks d) c) → Faults P (test_faults names scope c)
test-at P names scope d None h = none
test-at P names scope d (Some c) h = cond-at P names scope d c h
