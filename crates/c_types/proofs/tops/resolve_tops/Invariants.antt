use Rattle.std.proofs.Common.{◌≡◌, ◌<◌, ◌^◌, ◌++◌, true, map, drop}
use Rattle.std.specs.List.{list_all}
use Rattle.c_raw.specs.Files.{top_view}
use Rattle.c_grammar.specs.Marks.{each}
use Rattle.c_names.specs.Faults.{noted_all}
use Rattle.c_names.specs.Files.{top_faults}
use Rattle.c_names.specs.Sources.{top_globals, top_functions_of, top_lines}
use Rattle.c_scope.specs.Tables.{names_from}
use Rattle.c_declare.specs.Counting.{file_count, top_fits}
use Rattle.c_types.proofs.tops.resolve_tops.Given as goal

abbrev pub invariant-loop-top : goal.invariant-loop-top
invariant-loop-top l = record {
  count : file_count (map top_view (drop l.top-index l.tops)) < 2 ^ 32;
  fits : list_all (top_fits (names_from l.names)) (map top_view (drop l.top-index l.tops)) ≡ true;
  noted : noted_all l.walk.least (each (top_faults (names_from l.names)) (map top_view (drop l.top-index l.tops))) ≡ noted_all l.initial.walk.least (each (top_faults (names_from l.names)) (map top_view l.tops));
  lined : l.walk.lines ++ each (top_lines (names_from l.names)) (map top_view (drop l.top-index l.tops)) ≡ l.initial.walk.lines ++ each (top_lines (names_from l.names)) (map top_view l.tops);
  globals : l.parts.globals ++ each (top_globals (names_from l.names)) (map top_view (drop l.top-index l.tops)) ≡ each (top_globals (names_from l.names)) (map top_view l.tops);
  functions : l.parts.functions ++ each (top_functions_of (names_from l.names)) (map top_view (drop l.top-index l.tops)) ≡ each (top_functions_of (names_from l.names)) (map top_view l.tops);
}
