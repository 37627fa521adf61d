use Rattle.std.proofs.Common.{◌≡◌, ◌++◌, map, drop}
use Rattle.c_grammar.specs.Marks.{each}
use Rattle.c_names.specs.LinesStatements.{local_int_calls}
use Rattle.c_raw.specs.Decls.{more_local_ints_view}
use Rattle.c_limits.proofs.called.push_ints.Given as goal

abbrev pub invariant-loop-next : goal.invariant-loop-next
invariant-loop-next l = l.lines ++ each local_int_calls (map (λ y. y.1) (more_local_ints_view (drop l.next-index l.more))) ≡ l.initial.lines ++ each local_int_calls (map (λ y. y.1) (more_local_ints_view l.more))
