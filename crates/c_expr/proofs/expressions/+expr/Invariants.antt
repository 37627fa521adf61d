use Rattle.std.proofs.Common.{◌≡◌, ℕ, ◌+◌, ◌*◌, ◌-◌, drop}
use Rattle.c_reading.specs.ReadExpr.{operators}
use Rattle.c_raw.specs.Exprs.{expr_view}
use Rattle.c_expr.specs.Parts.{chain_at}
use Rattle.c_expr.proofs.expressions.+expr.Given as goal

abbrev pub decreases-indexed : goal.decreases-indexed
decreases-indexed l = 6 * l.depth

abbrev pub decreases-parenthesised : goal.decreases-parenthesised
decreases-parenthesised l = 6 * l.depth

abbrev pub decreases-prefixed : goal.decreases-prefixed
decreases-prefixed l = 6 * l.depth

abbrev pub decreases-named : goal.decreases-named
decreases-named l = 6 * l.depth + 1

abbrev pub decreases-unary : goal.decreases-unary
decreases-unary l = 6 * l.depth + 2

abbrev pub decreases-chain : goal.decreases-chain
decreases-chain l = 6 * l.depth + 3

abbrev pub decreases-expr_within : goal.decreases-expr_within
decreases-expr_within l = 6 * l.depth + 4

abbrev pub decreases-inside : goal.decreases-inside
decreases-inside l = 6 * l.depth + 5

abbrev pub invariant-chain-links : goal.invariant-chain-links
invariant-chain-links l = record {
  so_far : chain_at (expr_view l.expr) l.depth l.left (drop l.at l.cursor.tokens) ≡ chain_at (expr_view l.fn.first.expr) l.depth l.fn.first.left (drop l.fn.at l.cursor.tokens);
  fewer : (n : ℕ) → l.fn.first.left ≡ n - operators (expr_view l.fn.first.expr) → l.left ≡ n - operators (expr_view l.expr);
}

abbrev pub decreases-chain-links : goal.decreases-chain-links
decreases-chain-links l = l.left
