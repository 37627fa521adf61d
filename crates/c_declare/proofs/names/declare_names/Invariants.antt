use Rattle.std.proofs.Common.{◌≡◌, ◌+◌, ◌<◌, ◌^◌, [], map, drop}
use Rattle.c_raw.specs.Files.{top_view}
use Rattle.c_names.specs.Declarations.{declarations_from}
use Rattle.c_names.specs.Faults.{noted_all}
use Rattle.c_declare.specs.Counting.{file_count}
use Rattle.c_declare.specs.Declaring.{with_declarations, all_again_faults}
use Rattle.c_declare.proofs.names.declare_names.Given as goal

abbrev pub invariant-loop-top : goal.invariant-loop-top
invariant-loop-top l = record {
  fits : l.globals + l.functions + file_count (map top_view (drop l.top-index l.tops)) < 2 ^ 32;
  seen : with_declarations l.table (declarations_from l.globals l.functions (map top_view (drop l.top-index l.tops))) ≡ with_declarations [] (declarations_from 0 0 (map top_view l.tops));
  noted : noted_all l.least (all_again_faults l.table (declarations_from l.globals l.functions (map top_view (drop l.top-index l.tops)))) ≡ noted_all l.initial.least (all_again_faults [] (declarations_from 0 0 (map top_view l.tops)));
}
