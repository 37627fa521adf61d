-- How many binary operators an index has.
use Rattle.std.specs.Prelude.{ℕ, Option, Some, None}
use Rattle.c_reading.specs.ReadExpr.{operators}
use Rattle.c_raw.specs.declared.simple.Place.{Place}
use Rattle.c_raw.specs.Exprs.{expr_view}

-- the operators in an index, if there is one
abbrev pub index_operators : Option Place → ℕ
index_operators None = 0
index_operators (Some p) = operators (expr_view p.index)
