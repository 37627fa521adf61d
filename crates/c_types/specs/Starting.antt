-- The orders that begin with a token, one part of a file after another.
use Rattle.std.specs.Prelude.{ℕ, suc, nat_le, List, [], ◌∷◌, Option, None, if◌then◌else◌}
use Rattle.cfix_base.specs.declared.number.OrderId.{OrderId}
use Rattle.c_grammar.specs.File.{Top, Define}
use Rattle.c_names.specs.Starts.{start_number}

-- the order that one part of a file begins with a token
abbrev pub top_start : Top → Option ℕ
top_start (Define at name x value) = start_number x.text
top_start _ = None

-- how many orders stand before the first that is not below this number
abbrev pub place : ℕ → List OrderId → ℕ
place n [] = 0
place n (order ∷ orders) = if nat_le n order.number then 0 else suc (place n orders)
