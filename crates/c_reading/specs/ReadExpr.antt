-- Reading expressions from left to right: operands and operators, which are then grouped by how tightly they bind.
use Rattle.std.specs.Prelude.{ℕ, zero, suc, ◌+◌, ◌-◌, ltb, Bool, true, false, List, [], ◌∷◌, Option, Some, None, ◌⊎◌, cond}
use Rattle.std.proofs.Common.{inl, inr}
use Rattle.cfix_base.specs.declared.Spot.{Spot}
use Rattle.c_grammar.specs.declared.word.Word.TheVariants as w
use Rattle.c_grammar.specs.declared.sign.Sign.TheVariants as s
use Rattle.c_reading.specs.Reader.{Out, one_of, seq, seq_dep, mapped, alt, shut, chain, maybe_read, whole}
use Rattle.c_grammar.specs.Token.{Kind, IsSign, Token, Ident, Numeral, IsName, IsNumber}
use Rattle.c_grammar.specs.Expr.{Prefix, Negate, Invert, Binary, Or, And, Equal, NotEqual, Less, LessEqual, Greater, GreaterEqual, Add, Subtract, Multiply, Divide, Remainder, level, Long, Expr, Number, Name, Index, Paren, Cast, Unary, Operation}
use Rattle.c_reading.specs.Read.{is_word, is_sign, is_name, is_number, read_word, read_sign, read_ident, read_numeral}

abbrev pub prefix_in : Kind → Spot → Option (Prefix × Spot)
prefix_in (IsSign s.Minus) at = Some (Negate, at)
prefix_in (IsSign s.Not) at = Some (Invert, at)
prefix_in _ at = None

abbrev pub binary_in : Kind → Spot → Option (Binary × Spot)
binary_in (IsSign s.OrOr) at = Some (Or, at)
binary_in (IsSign s.AndAnd) at = Some (And, at)
binary_in (IsSign s.Equal) at = Some (Equal, at)
binary_in (IsSign s.NotEqual) at = Some (NotEqual, at)
binary_in (IsSign s.Less) at = Some (Less, at)
binary_in (IsSign s.LessEqual) at = Some (LessEqual, at)
binary_in (IsSign s.Greater) at = Some (Greater, at)
binary_in (IsSign s.GreaterEqual) at = Some (GreaterEqual, at)
binary_in (IsSign s.Plus) at = Some (Add, at)
binary_in (IsSign s.Minus) at = Some (Subtract, at)
binary_in (IsSign s.Star) at = Some (Multiply, at)
binary_in (IsSign s.Slash) at = Some (Divide, at)
binary_in (IsSign s.Percent) at = Some (Remainder, at)
binary_in _ at = None

abbrev pub prefix_of : Token → Option (Prefix × Spot)
prefix_of t = prefix_in t.kind t.spot

abbrev pub binary_of : Token → Option (Binary × Spot)
binary_of t = binary_in t.kind t.spot

abbrev pub is_some : {A : Type 0} → Option A → Bool
is_some None = false
is_some (Some a) = true

abbrev pub is_prefix : Token → Bool
is_prefix t = is_some (prefix_of t)

abbrev pub is_binary : Token → Bool
is_binary t = is_some (binary_of t)

-- what an expression begins with
abbrev pub begins_expr_kind : Kind → Bool
begins_expr_kind (IsName x) = true
begins_expr_kind (IsNumber n) = true
begins_expr_kind (IsSign s.OpenParen) = true
begins_expr_kind (IsSign s.Minus) = true
begins_expr_kind (IsSign s.Not) = true
begins_expr_kind _ = false

abbrev pub begins_expr : Token → Bool
begins_expr t = begins_expr_kind t.kind

-- the number of binary operators in an expression
abbrev pub operators : Expr → ℕ
operators (Number n) = 0
operators (Name x) = 0
operators (Index x before e after) = operators e
operators (Paren before e after) = operators e
operators (Cast before int after long x) = 0
operators (Unary op at e) = operators e
operators (Operation a op at b) = operators a + suc (operators b)

-- a binary operator with the operand behind it
abbrev pub Link : Type 0
Link = (Binary × Spot) × Expr

-- one operator and its right operand more, grouped to the left
abbrev pub append : Expr → Binary → Spot → Expr → Expr
append (Operation a op1 at1 b) op at u = cond (ltb (level op1) (level op)) (Operation a op1 at1 (append b op at u)) (Operation (Operation a op1 at1 b) op at u)
append e op at u = Operation e op at u

abbrev pub grow : Expr → List Link → Expr
grow e [] = e
grow e (x ∷ more) = grow (append e x.0.0 x.0.1 x.1) more

abbrev pub group : Expr × List Link → Expr
group x = grow x.0 x.1

-- an operator and its operand, where n more binary operators may stand in the chain
abbrev pub link_with : ℕ → (ℕ → List Token → Out Token Expr) → List Token → Out Token Link
link_with zero unary = shut is_binary
link_with (suc n) unary = seq (one_of binary_of) (unary n)

-- the operators behind an operand, and their operands
abbrev pub links_with : ℕ → (ℕ → List Token → Out Token Expr) → List Token → Out Token (List Link)
links_with n unary = chain (λ x. operators x.1) n n is_binary (λ k. link_with k unary)

abbrev pub expr_with : ℕ → (ℕ → List Token → Out Token Expr) → List Token → Out Token Expr
expr_with n unary = mapped group (seq_dep (unary n) (λ u. links_with (n - operators u) unary))

-- an index, or what stands in a pair of parentheses, from its first token on
abbrev pub Bracketed : Type 0
Bracketed = Spot × (Expr × Spot)

-- "int" ")" [ "(" "long" ")" ] name
abbrev pub CastParts : Type 0
CastParts = Spot × (Spot × (Long × Ident))

abbrev pub Parenthesised : Type 0
Parenthesised = Spot × (CastParts ⊎ (Expr × Spot))

-- a name, with an index or without
abbrev pub NameParts : Type 0
NameParts = Ident × Option Bracketed

-- An operand: a unary operator with its operand, a number, what begins with a name, or what begins with a parenthesis.
abbrev pub Operand : Type 0 → Type 0 → Type 0
Operand N P = ((Prefix × Spot) × Expr) ⊎ (Numeral ⊎ (N ⊎ P))

abbrev pub name_from : NameParts → Expr
name_from (x, None) = Name x
name_from (x, Some i) = Index x i.0 i.1.0 i.1.1

abbrev pub paren_from : Parenthesised → Expr
paren_from (before, inl c) = Cast before c.0 c.1.0 c.1.1.0 c.1.1.1
paren_from (before, inr p) = Paren before p.0 p.1

abbrev pub operand_from : {N P : Type 0} → (N → Expr) → (P → Expr) → Operand N P → Expr
operand_from name paren (inl x) = Unary x.0.0 x.0.1 x.1
operand_from name paren (inr (inl n)) = Number n
operand_from name paren (inr (inr (inl x))) = name x
operand_from name paren (inr (inr (inr x))) = paren x

abbrev pub read_long : List Token → Out Token Long
read_long = maybe_read (is_sign s.OpenParen) (seq (read_sign s.OpenParen) (seq (read_word w.Long) (read_sign s.CloseParen)))

abbrev pub read_cast : List Token → Out Token CastParts
read_cast = seq (read_word w.Int) (seq (read_sign s.CloseParen) (seq read_long read_ident))

-- what stands behind an opening parenthesis
abbrev pub inside_with : (List Token → Out Token Expr) → List Token → Out Token (CastParts ⊎ (Expr × Spot))
inside_with expr = alt (is_word w.Int) read_cast (seq expr (read_sign s.CloseParen))

abbrev pub operand_with : {N P : Type 0} → (List Token → Out Token ((Prefix × Spot) × Expr)) → (List Token → Out Token N) → (List Token → Out Token P) → List Token → Out Token (Operand N P)
operand_with prefix name paren = alt is_prefix prefix (alt is_number read_numeral (alt is_name name paren))

abbrev pub unary_with : (List Token → Out Token ((Prefix × Spot) × Expr)) → (List Token → Out Token Bracketed) → (List Token → Out Token Parenthesised) → List Token → Out Token Expr
unary_with prefix index paren = mapped (operand_from name_from paren_from) (operand_with prefix (seq read_ident (maybe_read (is_sign s.OpenBracket) index)) paren)

-- a unary where d more constructs may be nested and n more binary operators may stand in the chain
unfoldable pub unary_at : (d n : ℕ) → List Token → Out Token Expr
unary_at zero n = unary_with (shut is_prefix) (shut (is_sign s.OpenBracket)) (shut (is_sign s.OpenParen))
unary_at (suc d) n = unary_with
    (seq (one_of prefix_of) (unary_at d n))
    (seq (read_sign s.OpenBracket) (seq (expr_with n (λ k. unary_at d k)) (read_sign s.CloseBracket)))
    (seq (read_sign s.OpenParen) (inside_with (expr_with n (λ k. unary_at d k))))

unfoldable pub expr_at : (d n : ℕ) → List Token → Out Token Expr
expr_at d n = expr_with n (λ k. unary_at d k)

-- the parts of a unary, each where d more constructs may be nested
unfoldable pub prefix_at : (d n : ℕ) → List Token → Out Token ((Prefix × Spot) × Expr)
prefix_at zero n = shut is_prefix
prefix_at (suc d) n = seq (one_of prefix_of) (unary_at d n)

unfoldable pub index_at : (d n : ℕ) → List Token → Out Token Bracketed
index_at zero n = shut (is_sign s.OpenBracket)
index_at (suc d) n = seq (read_sign s.OpenBracket) (seq (expr_at d n) (read_sign s.CloseBracket))

unfoldable pub paren_at : (d n : ℕ) → List Token → Out Token Parenthesised
paren_at zero n = shut (is_sign s.OpenParen)
paren_at (suc d) n = seq (read_sign s.OpenParen) (inside_with (expr_at d n))

-- a text that is one whole expression, where a token may be as deep as the limit
abbrev pub read_expr : ℕ → List Token → Out Token Expr
read_expr limit = whole (expr_at limit limit)
