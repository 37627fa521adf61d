-- What is left to be kept while the functions of a program are walked.
use Rattle.std.specs.Prelude.{◌≡◌, ℕ, ◌+◌, ◌<◌, ◌^◌, ◌++◌, List, map, drop, length}
use Rattle.c_prog.specs.declared.act.LocalKind.{LocalKind}
use Rattle.c_prog.specs.declared.function.Function.{Function}
use Rattle.c_prog.specs.Order.{functions_order}
use Rattle.c_prog.specs.Valid.Locals.{locals_of}
use Rattle.step_tables.specs.declared.row.Row.{Row}
use Rattle.step_tables.specs.Kept.{kept, kept_functions, AreFew}

-- the functions from this number on are left
pub record AreLeft (functions : List Function) (index count : ℕ) (table : List Row) (kinds : List (List LocalKind)) : Type 0 where
  pub number : count ≡ index
  pub rows : map kept table ++ kept_functions index (length table) (drop index functions) ≡ kept_functions 0 0 functions
  pub locals : kinds ++ map (λ f. locals_of f.body) (drop index functions) ≡ map (λ f. locals_of f.body) functions
  pub room : length table + length (functions_order (drop index functions)) < 2 ^ 32
  pub few : AreFew (functions_order (drop index functions))
