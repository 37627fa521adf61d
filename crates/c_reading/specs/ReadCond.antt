-- Reading conditions and guards. In each reader c is how many binary operators a chain may have, and d how many more
-- constructs may be nested; n is how many more binary operators may stand in the chain.
use Rattle.std.specs.Prelude.{ℕ, ℤ, pos, negsuc, zero, suc, eqb, ◌-◌, Bool, true, false, List, [], ◌∷◌, Option, Some, None, ◌⊎◌, cond}
use Rattle.std.proofs.Common.{inl, inr}
use Rattle.cfix_base.specs.declared.Spot.{Spot}
use Rattle.c_grammar.specs.declared.word.Word.TheVariants as w
use Rattle.c_grammar.specs.declared.sign.Sign.TheVariants as s
use Rattle.c_reading.specs.Reader.{Out, one_of, seq, seq_dep, mapped, alt, shut, nothing, maybe_read, many}
use Rattle.c_grammar.specs.Token.{Kind, IsNumber, Token}
use Rattle.c_grammar.specs.Expr.{Binary, Or, And, Expr, Number, Paren, Unary}
use Rattle.c_grammar.specs.Op.{Op}
use Rattle.c_grammar.specs.Cond.{Guard, GuardOf, TrueGuard, TrueGuardOf, Cond, Bare, OnTrue, OnFalse, OnBoth}
use Rattle.c_reading.specs.Read.{is_word, is_sign, read_sign, read_ident}
use Rattle.c_reading.specs.ReadExpr.{is_binary, binary_of, operators, Link, group, links_with, CastParts, NameParts, Operand, name_from, paren_from, operand_with, inside_with, read_cast, unary_at, expr_at, prefix_at, index_at}
use Rattle.c_reading.specs.ReadSimple.{is_bracket, is_paren, no_links}
use Rattle.c_reading.specs.ReadOp.{is_verb, read_op}

-- ---- guards

abbrev pub is_number_of : ℕ → ℤ → Bool
is_number_of n (pos m) = eqb m n
is_number_of n (negsuc m) = false

abbrev pub is_digit_kind : ℕ → Kind → Bool
is_digit_kind n (IsNumber z) = is_number_of n z
is_digit_kind n _ = false

-- the token is the number n
abbrev pub is_digit : ℕ → Token → Bool
is_digit n t = is_digit_kind n t.kind

abbrev pub at_digit : ℕ → Token → Option Spot
at_digit n t = cond (is_digit n t) (Some t.spot) None

abbrev pub GuardParts : Type 0
GuardParts = Op × (Spot × (List (Op × Spot) × Spot))

abbrev pub guard_from : GuardParts → Guard
guard_from x = GuardOf x.0 x.1.0 x.1.1.0 x.1.1.1

abbrev pub read_guard : ℕ → List Token → Out Token Guard
read_guard n = mapped guard_from (seq read_op (seq (read_sign s.Comma) (seq (many is_verb (seq read_op (read_sign s.Comma))) (one_of (at_digit n)))))

-- a guard with its parentheses, from the place of the first one on
abbrev pub Guarded : Type 0
Guarded = Spot × (Guard × Spot)

-- the number with which a guard ends that may stand behind this operator, in a whole condition or inside its parentheses
abbrev pub guard_digit : Bool → Binary → Option ℕ
guard_digit top And = Some 1
guard_digit true Or = Some 0
guard_digit top _ = None

-- ---- the operand behind the first operator, in whose place a guard may stand

abbrev pub SecondTail : Type 0
SecondTail = Spot × ((Guard × Spot) ⊎ (CastParts ⊎ (Expr × Spot)))

abbrev pub second_from : Operand NameParts SecondTail → Guarded ⊎ Expr
second_from (inl x) = inr (Unary x.0.0 x.0.1 x.1)
second_from (inr (inl n)) = inr (Number n)
second_from (inr (inr (inl x))) = inr (name_from x)
second_from (inr (inr (inr (before, inl g)))) = inl (before, g)
second_from (inr (inr (inr (before, inr x)))) = inr (paren_from (before, x))

abbrev pub second_tail_at : ℕ → (d n : ℕ) → List Token → Out Token SecondTail
second_tail_at digit zero n = shut is_paren
second_tail_at digit (suc d) n = seq (read_sign s.OpenParen) (alt is_verb (seq (read_guard digit) (read_sign s.CloseParen)) (inside_with (expr_at d n)))

abbrev pub read_name_at : (d n : ℕ) → List Token → Out Token NameParts
read_name_at d n = seq read_ident (maybe_read is_bracket (index_at d n))

abbrev pub second_at : Option ℕ → (d n : ℕ) → List Token → Out Token (Guarded ⊎ Expr)
second_at None d n = mapped inr (unary_at d n)
second_at (Some digit) d n = mapped second_from (operand_with (prefix_at d n) (read_name_at d n) (second_tail_at digit d n))

abbrev pub second_links_at : (d n : ℕ) → Guarded ⊎ Expr → List Token → Out Token (List Link)
second_links_at d n (inl g) = no_links
second_links_at d n (inr v) = links_with (n - operators v) (λ k. unary_at d k)

-- ---- what stands behind the first operand

abbrev pub FirstLink : Type 0
FirstLink = (Binary × Spot) × ((Guarded ⊎ Expr) × List Link)

abbrev pub first_link_at : Bool → (d n : ℕ) → List Token → Out Token FirstLink
first_link_at top d zero = shut is_binary
first_link_at top d (suc n) = seq_dep (one_of binary_of) (λ op. seq_dep (second_at (guard_digit top op.0) d n) (second_links_at d n))

-- an operator with a guard, or operators with their operands
abbrev pub Tail : Type 0
Tail = ((Binary × Spot) × Guarded) ⊎ List Link

abbrev pub tail_from : FirstLink ⊎ Unit {0} → Tail
tail_from (inl (op, (inl g, more))) = inl (op, g)
tail_from (inl (op, (inr v, more))) = inr ((op, v) ∷ more)
tail_from (inr u) = inr []

-- a guard stands only behind an operand in parentheses
abbrev pub tail_at : (top guards : Bool) → (d n : ℕ) → List Token → Out Token Tail
tail_at top true d n = mapped tail_from (alt is_binary (first_link_at top d n) nothing)
tail_at top false d n = mapped inr (links_with n (λ k. unary_at d k))

abbrev pub is_par : Expr → Bool
is_par (Paren before e after) = true
is_par _ = false

-- ---- an expression or a true guard, as it stands in the first parentheses of a condition

abbrev pub inner_from : Expr × Tail → Expr ⊎ TrueGuard
inner_from (u, inr more) = inl (group (u, more))
inner_from (Paren before e after, inl (op, g)) = inr (TrueGuardOf before e after op.1 g.0 g.1.0 g.1.1)
inner_from (u, inl x) = inl u

unfoldable pub inner_at : (c d : ℕ) → List Token → Out Token (Expr ⊎ TrueGuard)
inner_at c d = mapped inner_from (seq_dep (unary_at d c) (λ u. tail_at false (is_par u) d (c - operators u)))

-- ---- conditions

abbrev pub HeadTail : Type 0
HeadTail = Spot × (CastParts ⊎ ((Expr ⊎ TrueGuard) × Spot))

-- the first operand, or a true guard in parentheses
abbrev pub CondHead : Type 0
CondHead = Expr ⊎ (Spot × (TrueGuard × Spot))

abbrev pub cond_head_from : Operand NameParts HeadTail → CondHead
cond_head_from (inl x) = inl (Unary x.0.0 x.0.1 x.1)
cond_head_from (inr (inl n)) = inl (Number n)
cond_head_from (inr (inr (inl x))) = inl (name_from x)
cond_head_from (inr (inr (inr (before, inl c)))) = inl (paren_from (before, inl c))
cond_head_from (inr (inr (inr (before, inr (inl e, after))))) = inl (Paren before e after)
cond_head_from (inr (inr (inr (before, inr (inr g, after))))) = inr (before, (g, after))

abbrev pub head_tail_at : (c d : ℕ) → List Token → Out Token HeadTail
head_tail_at c zero = shut is_paren
head_tail_at c (suc d) = seq (read_sign s.OpenParen) (alt (is_word w.Int) read_cast (seq (inner_at c d) (read_sign s.CloseParen)))

abbrev pub cond_head_at : (c d : ℕ) → List Token → Out Token CondHead
cond_head_at c d = mapped cond_head_from (operand_with (prefix_at d c) (read_name_at d c) (head_tail_at c d))

abbrev pub guarded_at : ℕ → ℕ → List Token → Out Token Guarded
guarded_at digit zero = shut is_paren
guarded_at digit (suc d) = seq (read_sign s.OpenParen) (seq (read_guard digit) (read_sign s.CloseParen))

-- behind a true guard in parentheses a false guard stands
abbrev pub or_tail_at : (d n : ℕ) → List Token → Out Token (Spot × Guarded)
or_tail_at d zero = shut (is_sign s.OrOr)
or_tail_at d (suc n) = seq (read_sign s.OrOr) (guarded_at 0 d)

abbrev pub or_from : Spot × Guarded → Tail
or_from x = inl ((Or, x.0), x.1)

abbrev pub guard_operators : TrueGuard → ℕ
guard_operators (TrueGuardOf before e after both before2 guard after2) = suc (operators e)

abbrev pub cond_tail_at : (c d : ℕ) → CondHead → List Token → Out Token Tail
cond_tail_at c d (inl u) = tail_at true (is_par u) d (c - operators u)
cond_tail_at c d (inr x) = mapped or_from (or_tail_at d (c - guard_operators x.1.0))

abbrev pub guard_cond : Spot → Expr → Spot → Binary → Spot → Guarded → Cond
guard_cond before e after And at g = OnTrue (TrueGuardOf before e after at g.0 g.1.0 g.1.1)
guard_cond before e after _ at g = OnFalse before e after at g.0 g.1.0 g.1.1

abbrev pub cond_from : CondHead × Tail → Cond
cond_from (inl u, inr more) = Bare (group (u, more))
cond_from (inl (Paren before e after), inl (op, g)) = guard_cond before e after op.0 op.1 g
cond_from (inl u, inl x) = Bare u
cond_from (inr x, inl (op, g)) = OnBoth x.0 x.1.0 x.1.1 op.1 g.0 g.1.0 g.1.1
cond_from (inr (before, (TrueGuardOf before1 e after1 both before2 guard after2, after)), inr more) = Bare e

unfoldable pub cond_at : (c d : ℕ) → List Token → Out Token Cond
cond_at c d = mapped cond_from (seq_dep (cond_head_at c d) (cond_tail_at c d))
