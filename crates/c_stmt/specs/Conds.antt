-- The readers of conditions in the order in which the code reads. In each reader d is how many more constructs may be
-- nested.
use Rattle.std.specs.Prelude.{◌≡◌, ◌≢◌, ℕ, ◌-◌, Bool, true, false, List, Option, Some, ◌⊎◌}
use Rattle.std.proofs.Common.{inl, inr}
use Rattle.cfix_base.specs.declared.Spot.{Spot}
use Rattle.c_grammar.specs.declared.word.Word.TheVariants as w
use Rattle.c_grammar.specs.declared.sign.Sign.TheVariants as s
use Rattle.c_grammar.specs.Token.{Token}
use Rattle.c_reading.specs.Reader.{Out, Got, next, seq, map_out, mapped, begins, either}
use Rattle.c_reading.specs.Read.{is_word, read_sign}
use Rattle.c_reading.specs.ReadOp.{is_verb, read_op}
use Rattle.c_grammar.specs.Expr as e
use Rattle.c_grammar.specs.Op as o
use Rattle.c_grammar.specs.Cond as g
use Rattle.c_reading.specs.ReadExpr.{operators, Link, group, links_with, unary_at, expr_at}
use Rattle.c_reading.specs.ReadCond.{is_number_of, read_guard, Guarded, guard_digit, second_at, Tail, tail_at, inner_at, or_tail_at, guard_operators, guard_cond}
use Rattle.c_raw.specs.declared.op.Op.{Op}
use Rattle.c_raw.specs.Ops.{op_view}
use Rattle.c_raw.specs.Exprs.{expr_view, binary_view}
use Rattle.c_raw.specs.Conds.{guard_view, true_guard_view}
use Rattle.c_cursor.specs.declared.look.Look.{Look}
use Rattle.c_cursor.specs.declared.look.Look.TheVariants as look
use Rattle.c_stmt.specs.declared.guard.Guarded as code
use Rattle.c_stmt.specs.declared.cond.Second.{Second}
use Rattle.c_stmt.specs.declared.cond.Second.TheVariants as second
use Rattle.c_stmt.specs.declared.cond.Continued.{Continued}
use Rattle.c_stmt.specs.declared.cond.Continued.TheVariants as continued
use Rattle.c_stmt.specs.declared.cond.Inner.{Inner}
use Rattle.c_stmt.specs.declared.cond.Inner.TheVariants as inner

-- whether a token is this number, told by what it is
abbrev pub look_digit : ℕ → Option Look → Bool
look_digit n (Some (look.Number z)) = is_number_of n z
look_digit n _ = false

-- an operation with the comma behind it
abbrev pub guard_op_view : Op × Spot → o.Op × Spot
guard_op_view x = (op_view x.0, x.1)

abbrev pub guard_op : List Token → Out Token (o.Op × Spot)
guard_op = seq read_op (read_sign s.Comma)

abbrev pub guarded_view : code.Guarded → Guarded
guarded_view x = (x.before, (guard_view x.guard, x.after))

abbrev pub or_view : Spot × code.Guarded → Spot × Guarded
or_view x = (x.0, guarded_view x.1)

-- a guard in parentheses
abbrev pub guarded : ℕ → List Token → Out Token Guarded
guarded digit = seq (read_sign s.OpenParen) (seq (read_guard digit) (read_sign s.CloseParen))

-- `||` and a false guard in parentheses
abbrev pub or_guard : List Token → Out Token (Spot × Guarded)
or_guard = seq (read_sign s.OrOr) (guarded 0)

-- ---- what stands behind the first operator

abbrev pub second_view : Second → Guarded ⊎ e.Expr
second_view (second.Guarded g) = inl (guarded_view g)
second_view (second.Operand o) = inr (expr_view o.expr)

-- an operand says how many operators of a budget are left behind it
abbrev pub SecondLeaves : ℕ → Second → Type 0
SecondLeaves n (second.Guarded g) = Unit {0}
SecondLeaves n (second.Operand o) = o.left ≡ n - operators (expr_view o.expr)

abbrev pub plain_second : (d n : ℕ) → List Token → Out Token (Guarded ⊎ e.Expr)
plain_second d n = mapped inr (unary_at d n)

abbrev pub in_guarded : Spot → g.Guard × Spot → Guarded ⊎ e.Expr
in_guarded before x = inl (before, x)

-- from a parenthesis on
abbrev pub paren_second : ℕ → (d n : ℕ) → List Token → Out Token (Guarded ⊎ e.Expr)
paren_second digit d n ts = next (read_sign s.OpenParen ts) (λ before r. either (begins is_verb r)
    (map_out (in_guarded before) (seq (read_guard digit) (read_sign s.CloseParen) r)) (plain_second d n ts))

-- ---- what stands behind an operand in parentheses

-- an expression; or the parts of the operand, an operator and a guard
abbrev pub ContinuedParts : Type 0
ContinuedParts = e.Expr ⊎ ((Spot × (e.Expr × Spot)) × ((e.Binary × Spot) × Guarded))

abbrev pub continued_view : Continued → ContinuedParts
continued_view (continued.Plain o) = inl (expr_view o.expr)
continued_view (continued.Guarded p op at g) = inr ((p.before, (expr_view p.test, p.after)), ((binary_view op, at), guarded_view g))

-- an expression says how many operators of its chain are left, and a guard's operator is one of them
abbrev pub ContinuedLeaves : Continued → Type 0
ContinuedLeaves (continued.Plain o) = o.left ≡ 200 - operators (expr_view o.expr)
ContinuedLeaves (continued.Guarded p op at g) = (p.left ≡ 200 - operators (expr_view p.test)) × (p.left ≢ 0)

abbrev pub continued_from : Spot → e.Expr → Spot → Tail → ContinuedParts
continued_from before t after (inl (op, g)) = inr ((before, (t, after)), (op, g))
continued_from before t after (inr more) = inl (group (e.Paren before t after, more))

unfoldable pub continued_at : Bool → ℕ → Spot → e.Expr → Spot → ℕ → List Token → Out Token ContinuedParts
continued_at top d before t after n = mapped (continued_from before t after) (tail_at top true d n)

abbrev pub joined_links : Spot → e.Expr → Spot → e.Binary × Spot → e.Expr → List Link → ContinuedParts
joined_links before t after op v more = inl (group (e.Operation (e.Paren before t after) op.0 op.1 v, more))

-- behind an operator and what stands behind it
abbrev pub behind_second : (d n : ℕ) → Spot → e.Expr → Spot → e.Binary × Spot → Guarded ⊎ e.Expr → List Token → Out Token ContinuedParts
behind_second d n before t after op (inl g) r = Got (inr ((before, (t, after)), (op, g))) r
behind_second d n before t after op (inr v) r = map_out (joined_links before t after op v) (links_with (n - operators v) (λ k. unary_at d k) r)

-- behind an operator, where n more operators may stand behind it
abbrev pub link_at : Bool → ℕ → Spot → e.Expr → Spot → ℕ → e.Binary × Spot → List Token → Out Token ContinuedParts
link_at top d before t after n op r = next (second_at (guard_digit top op.0) d n r) (behind_second d n before t after op)

-- ---- what stands in the first parentheses of a condition

abbrev pub inner_view : Inner → e.Expr ⊎ g.TrueGuard
inner_view (inner.Test o) = inl (expr_view o.expr)
inner_view (inner.Guarded g n) = inr (true_guard_view g)

-- how many operators of the chain are left
abbrev pub InnerLeaves : Inner → Type 0
InnerLeaves (inner.Test o) = o.left ≡ 200 - operators (expr_view o.expr)
InnerLeaves (inner.Guarded g n) = n ≡ 200 - guard_operators (true_guard_view g)

unfoldable pub plain_inner : (d : ℕ) → List Token → Out Token (e.Expr ⊎ g.TrueGuard)
plain_inner d = mapped inl (expr_at d 200)

abbrev pub true_guard : Spot → e.Expr → Spot → Spot → Guarded → g.TrueGuard
true_guard before t after at x = g.TrueGuardOf before t after at x.0 x.1.0 x.1.1

abbrev pub inner_from : ContinuedParts → e.Expr ⊎ g.TrueGuard
inner_from (inl t) = inl t
inner_from (inr (p, (op, x))) = inr (true_guard p.0 p.1.0 p.1.1 op.1 x)

-- behind an expression in parentheses
abbrev pub inner_behind : (d : ℕ) → Spot → e.Expr → Spot → List Token → Out Token (e.Expr ⊎ g.TrueGuard)
inner_behind d before t after r = map_out inner_from (continued_at false d before t after (200 - operators t) r)

-- from a parenthesis on, where i more constructs may be nested in it
unfoldable pub paren_inner : (d i : ℕ) → List Token → Out Token (e.Expr ⊎ g.TrueGuard)
paren_inner d i ts = next (read_sign s.OpenParen ts) (λ before r. either (begins (is_word w.Int) r) (plain_inner d ts)
    (next (expr_at i 200 r) (λ t r2. next (read_sign s.CloseParen r2) (λ after r3. inner_behind d before t after r3))))

-- ---- conditions

unfoldable pub plain_cond : (d : ℕ) → List Token → Out Token g.Cond
plain_cond d = mapped g.Bare (expr_at d 200)

abbrev pub cond_from : ContinuedParts → g.Cond
cond_from (inl t) = g.Bare t
cond_from (inr (p, (op, x))) = guard_cond p.0 p.1.0 p.1.1 op.0 op.1 x

-- behind an expression in parentheses
unfoldable pub test_cond : (d : ℕ) → Spot → e.Expr → Spot → List Token → Out Token g.Cond
test_cond d before t after = mapped cond_from (continued_at true d before t after (200 - operators t))

abbrev pub both_guards : Spot → g.TrueGuard → Spot → Spot × Guarded → g.Cond
both_guards before t after x = g.OnBoth before t after x.0 x.1.0 x.1.1.0 x.1.1.1

-- behind a true guard in parentheses, where n more operators may stand in the chain
unfoldable pub both_cond : (d : ℕ) → Spot → g.TrueGuard → Spot → (n : ℕ) → List Token → Out Token g.Cond
both_cond d before t after n = mapped (both_guards before t after) (or_tail_at d n)

abbrev pub cond_behind : (d : ℕ) → Spot → e.Expr ⊎ g.TrueGuard → Spot → List Token → Out Token g.Cond
cond_behind d before (inl t) after = test_cond d before t after
cond_behind d before (inr t) after = both_cond d before t after (200 - guard_operators t)

-- from a parenthesis on, where i more constructs may be nested in it
unfoldable pub paren_cond : (d i : ℕ) → List Token → Out Token g.Cond
paren_cond d i ts = next (read_sign s.OpenParen ts) (λ before r. either (begins (is_word w.Int) r) (plain_cond d ts)
    (next (inner_at 200 i r) (λ x r2. next (read_sign s.CloseParen r2) (λ after r3. cond_behind d before x after r3))))
