-- Scopes: how a block is left.
use Rattle.std.specs.Prelude.{ℕ, ◌-◌, length, take, drop}
use Rattle.c_prog.specs.Valid.Scope.{Scope}

-- Behind a block, where so many locals stand around the block that it stands in.
abbrev pub left : ℕ → Scope → Scope
left outer scope = record {
  block = take (length scope.around - outer) scope.around;
  around = drop (length scope.around - outer) scope.around;
  count = scope.count;
}
