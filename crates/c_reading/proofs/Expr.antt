-- What the laws of the readers say of whole expressions.
use Rattle.std.proofs.Common.{◌≡◌, ℕ, List, [], refl, arith}
use Rattle.c_reading.specs.Reader.{Got}
use Rattle.c_grammar.specs.Token.{Token}
use Rattle.c_grammar.specs.Expr.{Expr, is_expr, expr_marks}
use Rattle.c_reading.specs.ReadExpr.{expr_at, read_expr}
use Rattle.c_grammar.specs.Verdict.{HasOneTree, FixesDepths}
use Rattle.c_reading.specs.Exact.{ReadsExactly}
use Rattle.c_reading.proofs.Reader.{IsReader}
use Rattle.c_reading.proofs.Whole.{is_end, ended_got, whole_reader}
use Rattle.c_reading.proofs.Verdict.{one_tree, fixes_depths, reads_exactly}
use Rattle.c_reading.proofs.ReadExpr.{expr_lang, expr_reader}

read_expr_reader : (limit : ℕ) → IsReader limit (record { marks = expr_marks 0; good = is_expr; stops = λ _ h. is_end h }) (read_expr limit)
read_expr_reader limit = whole_reader limit (expr_lang 0 0) (expr_at limit limit) (expr_reader limit limit 0 0 limit (omega arith) (omega arith)) (λ a g. refl)

empties : (limit : ℕ) (ts : List Token) (a : Expr) (rest : List Token) → read_expr limit ts ≡ Got a rest → rest ≡ []
empties limit ts a rest e = (ended_got (expr_at limit limit ts) a rest e).1

pub expr_one_tree : HasOneTree (expr_marks 0) is_expr
expr_one_tree = one_tree (expr_marks 0) is_expr (λ _ h. is_end h) read_expr read_expr_reader (λ a g. refl) empties

pub expr_fixes_depths : FixesDepths (expr_marks 0) is_expr
expr_fixes_depths = fixes_depths (expr_marks 0) is_expr (λ _ h. is_end h) read_expr read_expr_reader (λ a g. refl) empties

pub expr_reads_exactly : (limit : ℕ) → ReadsExactly limit (expr_marks 0) is_expr (read_expr limit)
expr_reads_exactly limit = reads_exactly (expr_marks 0) is_expr (λ _ h. is_end h) read_expr read_expr_reader (λ a g. refl) empties limit
