use Rattle.std.proofs.Common.{◌≡◌, ◌&&◌, ◌||◌, map, drop}
use Rattle.c_prog.specs.Valid.Falls.{fall_of, all_fall, some_breaks}
use Rattle.c_falls.proofs.falls.+falls.Given as goal

abbrev pub invariant-fall_of_all-loop-stmt : goal.invariant-fall_of_all-loop-stmt
invariant-fall_of_all-loop-stmt l = record {
  falls : (l.falls && all_fall (map fall_of (drop l.stmt-index l.list))) ≡ all_fall (map fall_of l.list);
  breaks : (l.breaks || some_breaks (map fall_of (drop l.stmt-index l.list))) ≡ some_breaks (map fall_of l.list);
}
