-- Whether control can fall through the end of a body.
use Rattle.std.specs.Prelude.{Bool, true, false, not, ◌&&◌, ◌||◌, ℤ, pos, List, map, Option, Some, None}
use Rattle.std.specs.List.{list_all, list_any}
use Rattle.std.specs.Ordering.{int_eq}
use Rattle.c_prog.specs.declared.expr.Expr.{Expr}
use Rattle.c_prog.specs.declared.expr.Expr.TheOpen.{Expr-F}
use Rattle.c_prog.specs.declared.expr.Expr.TheFolds.{fold-Expr}
use Rattle.c_prog.specs.declared.stmt.Jump.{Jump}
use Rattle.c_prog.specs.declared.stmt.Jump.TheVariants.{Break}
use Rattle.c_prog.specs.declared.stmt.Stmt.{Stmt}
use Rattle.c_prog.specs.declared.stmt.Stmt.TheOpen.{Stmt-F}
use Rattle.c_prog.specs.declared.stmt.Stmt.TheFolds.{fold-Stmt}

-- one level of an expression: its number, if it is one
abbrev pub number_level : Expr-F (Option ℤ) (Unit {0}) → Option ℤ
number_level (Expr-F.Number number) = Some number
number_level _ = None

-- the number that an expression is, if it is one
abbrev pub number_of : Expr → Option ℤ
number_of = fold-Expr (Option ℤ) (Unit {0}) number_level (λ target. tt)

-- a number other than 0
abbrev pub is_not_zero : Option ℤ → Bool
is_not_zero None = false
is_not_zero (Some number) = not (int_eq number (pos 0))

-- a condition that always holds, since it is a number other than 0
abbrev pub is_always : Expr → Bool
is_always test = is_not_zero (number_of test)

-- the jump is a `break`
abbrev pub is_break : Jump → Bool
is_break Break = true
is_break _ = false

-- A statement: whether control can fall through its end, and whether it has a `break` that belongs to the loop around it.
pub record Fall : Type 0 where
  pub falls : Bool
  pub breaks : Bool

-- a list falls through unless one of its statements does not
abbrev pub all_fall : List Fall → Bool
all_fall list = list_all (λ fall. fall.falls) list

-- one of the statements has a `break` of the loop around
abbrev pub some_breaks : List Fall → Bool
some_breaks list = list_any (λ fall. fall.breaks) list

-- One level of a statement. A loop does not fall through exactly if its condition is a number other than 0 and no `break`
-- belongs to it; an absent `else` is an empty list.
abbrev pub fall_level : Stmt-F Fall → Fall
fall_level (Stmt-F.Simple act ops) = record { falls = true; breaks = false }
fall_level (Stmt-F.Jump jump ops) = record { falls = false; breaks = is_break jump }
fall_level (Stmt-F.If cond on_true on_false) = record {
  falls = all_fall on_true || all_fall on_false;
  breaks = some_breaks on_true || some_breaks on_false;
}
fall_level (Stmt-F.Loop cond step body) = record {
  falls = not (is_always cond.test && not (some_breaks body));
  breaks = false;
}
fall_level (Stmt-F.Block body) = record { falls = all_fall body; breaks = some_breaks body }

-- a statement
abbrev pub fall_of : Stmt → Fall
fall_of = fold-Stmt Fall fall_level

-- control can fall through the end of these statements
abbrev pub falls_through : List Stmt → Bool
falls_through body = all_fall (map fall_of body)
