-- Conditions, and the guards that carry operations: `(E) && (cfix_enter(1), 1)` and `(E) || (cfix_leave(1), 0)`.
use Rattle.std.specs.Prelude.{ℕ, suc, Bool, true, List, [], ◌∷◌, ◌++◌}
use Rattle.cfix_base.specs.declared.Spot.{Spot}
use Rattle.c_grammar.specs.declared.sign.Sign.TheVariants as s
use Rattle.c_grammar.specs.Marks.{each}
use Rattle.c_grammar.specs.Token.{numeral, word, sign, digit, Mark}
use Rattle.c_grammar.specs.Expr.{Expr, is_expr, Piece, plain, pieces, placed}
use Rattle.c_grammar.specs.Op.{Op, OpOf, verb_word}

-- op { "," op } "," digit, with each comma beside the operation before it
pub data Guard : Type 0 where
  GuardOf : Op → Spot → List (Op × Spot) → Spot → Guard

-- "(" expr ")" "&&" "(" op { "," op } "," "1" ")"
pub data TrueGuard : Type 0 where
  TrueGuardOf : Spot → Expr → Spot → Spot → Spot → Guard → Spot → TrueGuard

-- expr | tg | ( "(" expr ")" | "(" tg ")" ) "||" "(" op { "," op } "," "0" ")"
pub data Cond : Type 0 where
  Bare : Expr → Cond
  OnTrue : TrueGuard → Cond
  OnFalse : Spot → Expr → Spot → Spot → Spot → Guard → Spot → Cond
  OnBoth : Spot → TrueGuard → Spot → Spot → Spot → Guard → Spot → Cond

abbrev pub is_true_guard : TrueGuard → Bool
is_true_guard (TrueGuardOf before e after both before2 guard after2) = is_expr e

abbrev pub is_cond : Cond → Bool
is_cond (Bare e) = is_expr e
is_cond (OnTrue g) = is_true_guard g
is_cond (OnFalse before e after or before2 guard after2) = is_expr e
is_cond (OnBoth before g after or before2 guard after2) = is_true_guard g

abbrev pub op_pieces : ℕ → Op → List Piece
op_pieces d (OpOf verb at before n after) = plain (word (verb_word verb) at) d ∷ (plain (sign s.OpenParen before) d ∷ (plain (numeral n) d ∷ (plain (sign s.CloseParen after) d ∷ [])))

abbrev pub guard_pieces : ℕ → ℕ → Guard → List Piece
guard_pieces n d (GuardOf op comma more at) = op_pieces d op ++ (plain (sign s.Comma comma) d ∷ (each (λ x. op_pieces d x.0 ++ plain (sign s.Comma x.1) d ∷ []) more ++ plain (digit n at) d ∷ []))

-- the `&&` of a guard belongs to the chain of the expression that it guards
abbrev pub true_guard_pieces : ℕ → TrueGuard → List Piece
true_guard_pieces d (TrueGuardOf before e after both before2 guard after2) =
    plain (sign s.OpenParen before) (suc d) ∷ (pieces (suc d) e ++ (plain (sign s.CloseParen after) (suc d) ∷ ((sign s.AndAnd both, d, true) ∷ (plain (sign s.OpenParen before2) (suc d)
    ∷ (guard_pieces 1 (suc d) guard ++ plain (sign s.CloseParen after2) (suc d) ∷ [])))))

abbrev pub cond_pieces : ℕ → Cond → List Piece
cond_pieces d (Bare e) = pieces d e
cond_pieces d (OnTrue g) = true_guard_pieces d g
cond_pieces d (OnFalse before e after or before2 guard after2) =
    plain (sign s.OpenParen before) (suc d) ∷ (pieces (suc d) e ++ (plain (sign s.CloseParen after) (suc d) ∷ ((sign s.OrOr or, d, true) ∷ (plain (sign s.OpenParen before2) (suc d)
    ∷ (guard_pieces 0 (suc d) guard ++ plain (sign s.CloseParen after2) (suc d) ∷ [])))))
cond_pieces d (OnBoth before g after or before2 guard after2) =
    plain (sign s.OpenParen before) (suc d) ∷ (true_guard_pieces (suc d) g ++ (plain (sign s.CloseParen after) (suc d) ∷ ((sign s.OrOr or, d, true) ∷ (plain (sign s.OpenParen before2) (suc d)
    ∷ (guard_pieces 0 (suc d) guard ++ plain (sign s.CloseParen after2) (suc d) ∷ [])))))

-- the tokens of a condition that stands in d constructs
abbrev pub cond_marks : ℕ → Cond → List Mark
cond_marks d c = placed 0 (cond_pieces d c)
