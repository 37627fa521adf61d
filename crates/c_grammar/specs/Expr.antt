-- Expressions: their trees, the tokens of each, and how deep each token stands.
use Rattle.std.specs.Prelude.{ℕ, suc, max, leb, ltb, Bool, true, false, ◌&&◌, List, [], ◌∷◌, ◌++◌, Option, Some, None, cond}
use Rattle.cfix_base.specs.declared.Spot.{Spot}
use Rattle.c_grammar.specs.declared.word.Word.TheVariants as w
use Rattle.c_grammar.specs.declared.sign.Sign.{Sign}
use Rattle.c_grammar.specs.declared.sign.Sign.TheVariants as s
use Rattle.c_grammar.specs.Token.{Token, Ident, Numeral, ident, numeral, word, sign, Mark}

-- a unary operator (6.5.3.3 of ISO/IEC 9899:2011)
pub data Prefix : Type 0 where
  Negate : Prefix
  Invert : Prefix

-- a binary operator (6.5.5 to 6.5.14 of ISO/IEC 9899:2011)
pub data Binary : Type 0 where
  Or : Binary
  And : Binary
  Equal : Binary
  NotEqual : Binary
  Less : Binary
  LessEqual : Binary
  Greater : Binary
  GreaterEqual : Binary
  Add : Binary
  Subtract : Binary
  Multiply : Binary
  Divide : Binary
  Remainder : Binary

abbrev pub prefix_sign : Prefix → Sign
prefix_sign Negate = s.Minus
prefix_sign Invert = s.Not

abbrev pub binary_sign : Binary → Sign
binary_sign Or = s.OrOr
binary_sign And = s.AndAnd
binary_sign Equal = s.Equal
binary_sign NotEqual = s.NotEqual
binary_sign Less = s.Less
binary_sign LessEqual = s.LessEqual
binary_sign Greater = s.Greater
binary_sign GreaterEqual = s.GreaterEqual
binary_sign Add = s.Plus
binary_sign Subtract = s.Minus
binary_sign Multiply = s.Star
binary_sign Divide = s.Slash
binary_sign Remainder = s.Percent

-- how tightly a binary operator binds
abbrev pub level : Binary → ℕ
level Or = 1
level And = 2
level Equal = 3
level NotEqual = 3
level Less = 4
level LessEqual = 4
level Greater = 4
level GreaterEqual = 4
level Add = 5
level Subtract = 5
level Multiply = 6
level Divide = 6
level Remainder = 6

-- "(" "long" ")", where it stands: the places of the three tokens
abbrev pub Long : Type 0
Long = Option (Spot × (Spot × Spot))

-- An expression, with the place of each of its tokens: a number, a name, a name with an index, an expression in
-- parentheses, a cast `(int)(long)name` with or without `(long)`, a unary operator and its operand, or a binary operator and its operands
pub data Expr : Type 0 where
  Number : Numeral → Expr
  Name : Ident → Expr
  Index : Ident → Spot → Expr → Spot → Expr
  Paren : Spot → Expr → Spot → Expr
  Cast : Spot → Spot → Spot → Long → Ident → Expr
  Unary : Prefix → Spot → Expr → Expr
  Operation : Expr → Binary → Spot → Expr → Expr

-- `unary` of the grammar: anything but a binary operation
abbrev pub is_unary : Expr → Bool
is_unary (Operation a op s b) = false
is_unary _ = true

-- how tightly an expression binds: as its operator if it is a binary operation, and else as `unary`, which is above them all
abbrev pub binds : Expr → ℕ
binds (Operation a op s b) = level op
binds _ = 7

-- Whether the grammar derives the tree: the operand of a unary operator is `unary`, the operands of a binary operator
-- bind more tightly, and on its left also as tightly, since operators group to the left.
abbrev pub is_expr : Expr → Bool
is_expr (Number n) = true
is_expr (Name x) = true
is_expr (Index x before e after) = is_expr e
is_expr (Paren before e after) = is_expr e
is_expr (Cast before int after long x) = true
is_expr (Unary op at e) = is_unary e && is_expr e
is_expr (Operation a op at b) = (is_expr a && is_expr b) && (leb (level op) (binds a) && ltb (level op) (binds b))

-- a token with the number of constructs that it stands in or begins, and whether it is a binary operator
abbrev pub Piece : Type 0
Piece = Token × ℕ × Bool

abbrev pub plain : Token → ℕ → Piece
plain x d = (x, d, false)

-- `(long)`, which stands in a pair of parentheses of its own
abbrev pub long_pieces : ℕ → Long → List Piece
long_pieces d None = []
long_pieces d (Some at) = plain (sign s.OpenParen at.0) (suc d) ∷ (plain (word w.Long at.1.0) (suc d) ∷ (plain (sign s.CloseParen at.1.1) (suc d) ∷ []))

-- the tokens of an expression that stands in d constructs
abbrev pub pieces : ℕ → Expr → List Piece
pieces d (Number n) = plain (numeral n) d ∷ []
pieces d (Name x) = plain (ident x) d ∷ []
pieces d (Index x before e after) = plain (ident x) d ∷ (plain (sign s.OpenBracket before) (suc d) ∷ (pieces (suc d) e ++ plain (sign s.CloseBracket after) (suc d) ∷ []))
pieces d (Paren before e after) = plain (sign s.OpenParen before) (suc d) ∷ (pieces (suc d) e ++ plain (sign s.CloseParen after) (suc d) ∷ [])
pieces d (Cast before int after long x) =
    plain (sign s.OpenParen before) (suc d) ∷ (plain (word w.Int int) (suc d) ∷ (plain (sign s.CloseParen after) (suc d) ∷ (long_pieces d long ++ plain (ident x) d ∷ [])))
pieces d (Unary op at e) = plain (sign (prefix_sign op) at) (suc d) ∷ pieces (suc d) e
pieces d (Operation a op at b) = pieces d a ++ (sign (binary_sign op) at, d, true) ∷ pieces d b

-- The depths of tokens behind n binary operators of their chain: a binary operator also counts its place in the
-- chain, as a depth of its own.
abbrev pub placed : ℕ → List Piece → List Mark
placed n [] = []
placed n (x ∷ more) = cond x.2 ((x.0, max x.1 (suc n)) ∷ placed (suc n) more) ((x.0, x.1) ∷ placed n more)

-- the tokens of a whole expression that stands in d constructs
abbrev pub expr_marks : ℕ → Expr → List Mark
expr_marks d e = placed 0 (pieces d e)
