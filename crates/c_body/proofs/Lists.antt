-- Lists whose items have their commas before them.
use Rattle.std.proofs.Common.{◌≡◌, ℕ, suc, ◌+◌, ◌<◌, ◌^◌, List, map, length, arith}
use Rattle.std.proofs.lemmas.Grind.{common_steps}
use Rattle.std.proofs.lemmas.List.{length-map}
use Rattle.cfix_base.specs.declared.Spot.{Spot}
use Rattle.c_raw.specs.declared.expr.Expr.{Expr}
use Rattle.c_raw.specs.declared.decl.LocalInt.{LocalInt}
use Rattle.c_raw.specs.declared.decl.Hold.{Hold}
use Rattle.c_raw.specs.declared.decl.LoopInt.{LoopInt}
use Rattle.c_raw.specs.Simples.{more_view, next_view}
use Rattle.c_raw.specs.Decls.{more_local_ints_view, more_holds_view, more_loop_ints_view}
use Rattle.c_grammar.specs.Decl as g
use Rattle.c_names.specs.Scopes.{local_int_declared, hold_declared, loop_int_declared, listed}

pub length-more : (more : List (Spot × Expr)) → length (more_view more) ≡ length more
length-more more = length-map more next_view

pub length-ints : (x : g.LocalInt) (more : List (Spot × LocalInt)) → length (map local_int_declared (listed x (more_local_ints_view more))) ≡ length more + 1
length-ints x more = grind (arith, common_steps)

pub length-holds : (x : g.Hold) (more : List (Spot × Hold)) → length (map hold_declared (listed x (more_holds_view more))) ≡ length more + 1
length-holds x more = grind (arith, common_steps)

pub length-loop_ints : (x : g.LoopInt) (more : List (Spot × LoopInt)) → length (map loop_int_declared (listed x (more_loop_ints_view more))) ≡ length more + 1
length-loop_ints x more = grind (arith, common_steps)

pub ruleset seconds = (length-more, length-ints, length-holds, length-loop_ints)

-- one more is declared, and n are left
pub next-fits : (new old n : ℕ) → new ≡ old + 1 → old + suc n < 2 ^ 32 → new + n < 2 ^ 32
next-fits new old n is fits = omega arith
