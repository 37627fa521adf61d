-- The tokens of an expression or a condition, piece by piece.
use Rattle.std.proofs.Common.{◌≡◌, ℕ, true, List, ◌++◌, sym, ◌∙◌}
use Rattle.c_grammar.specs.Expr.{Piece, placed}
use Rattle.valid_law.specs.Lexical.{is_lexical, are_lexical}
use Rattle.valid_law.proofs.Lexical.{all-left, all-right, are_lexical_pieces, lexical-placed}

pub lexical-pieces : (n : ℕ) (pieces : List Piece) → are_lexical (placed n pieces) ≡ true → are_lexical_pieces pieces ≡ true
lexical-pieces n pieces h = sym (lexical-placed n pieces) ∙ h

pub pieces-left : (xs ys : List Piece) → are_lexical_pieces (xs ++ ys) ≡ true → are_lexical_pieces xs ≡ true
pieces-left xs ys h = all-left (λ (piece : Piece). is_lexical piece.0.kind) xs ys h

pub pieces-right : (xs ys : List Piece) → are_lexical_pieces (xs ++ ys) ≡ true → are_lexical_pieces ys ≡ true
pieces-right xs ys h = all-right (λ (piece : Piece). is_lexical piece.0.kind) xs ys h
