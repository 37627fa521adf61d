-- The parts of expressions and simple statements that have a reader of their own here.
use Rattle.std.specs.Prelude.{ℕ, ◌-◌, List}
use Rattle.cfix_base.specs.declared.Spot.{Spot}
use Rattle.c_reading.specs.Reader.{Out, next, either, map_out, begins, seq, maybe_read}
use Rattle.c_grammar.specs.Token.{Token}
use Rattle.c_grammar.specs.Expr as e
use Rattle.c_grammar.specs.Expr.{Expr, Unary, Cast}
use Rattle.c_grammar.specs.Simple as g
use Rattle.c_reading.specs.Read.{read_ident}
use Rattle.c_reading.specs.ReadExpr.{CastParts, operators, grow, name_from, paren_from, inside_with, links_with, unary_at, expr_at, prefix_at, index_at, paren_at}
use Rattle.c_reading.specs.ReadSimple.{is_bracket, is_paren, CallTail, call_from, call_tail_at, assigns_with, assigns_from, value_at}
use Rattle.c_raw.specs.declared.expr.Cast as raw
use Rattle.c_raw.specs.Tokens.{ident_view}
use Rattle.c_raw.specs.Exprs.{long_view, expr_view}
use Rattle.c_raw.specs.Simples.{args_view}
use Rattle.c_expr.specs.declared.operand.Operand.{Operand}
use Rattle.c_expr.specs.declared.arguments.CallTail as tail

abbrev pub operand_view : Operand → Expr
operand_view x = expr_view x.expr

-- a cast without its first parenthesis
abbrev pub cast_parts : raw.Cast → CastParts
cast_parts c = (c.int, (c.after, (long_view c.long, ident_view c.name)))

abbrev pub tail_view : tail.CallTail → CallTail
tail_view t = (t.before, (args_view t.args, t.after))

abbrev pub unary_from : (e.Prefix × Spot) × Expr → Expr
unary_from x = Unary x.0.0 x.0.1 x.1

-- a unary operator and its operand
abbrev pub prefixed_at : (d n : ℕ) → List Token → Out Token Expr
prefixed_at d n ts = map_out unary_from (prefix_at d n ts)

-- a name, with an index or without
abbrev pub named_at : (d n : ℕ) → List Token → Out Token Expr
named_at d n ts = map_out name_from (seq read_ident (maybe_read is_bracket (index_at d n)) ts)

-- what begins with a parenthesis
abbrev pub parenthesised_at : (d n : ℕ) → List Token → Out Token Expr
parenthesised_at d n ts = map_out paren_from (paren_at d n ts)

-- what stands behind the parenthesis at this place
abbrev pub inside_at : Spot → (d n : ℕ) → List Token → Out Token Expr
inside_at before d n ts = map_out (λ p. paren_from (before, p)) (inside_with (expr_at d n) ts)

-- an expression from its first operand, where n binary operators more may follow
abbrev pub chain_at : Expr → (d n : ℕ) → List Token → Out Token Expr
chain_at first d n ts = map_out (grow first) (links_with n (λ k. unary_at d k) ts)

-- a value that begins with a name
abbrev pub named_value_at : (c d : ℕ) → List Token → Out Token g.Value
named_value_at c d ts = next (read_ident ts) (λ x r. either (begins is_paren r) (map_out (λ t. g.Called (call_from (x, t))) (call_tail_at c d r))
    (next (maybe_read is_bracket (index_at d c) r) (λ i s. map_out g.Computed (chain_at (name_from (x, i)) d (c - operators (name_from (x, i))) s))))

-- a simple statement that begins with a name
abbrev pub named_simple_at : (c d : ℕ) → List Token → Out Token g.Simple
named_simple_at c d ts = next (read_ident ts) (λ x r. either (begins is_paren r) (map_out (λ t. g.OnlyCall (call_from (x, t))) (call_tail_at c d r))
    (next (maybe_read is_bracket (index_at d c) r) (λ i s. map_out (assigns_from (g.TargetOf x i)) (assigns_with c d (value_at c d) s))))
