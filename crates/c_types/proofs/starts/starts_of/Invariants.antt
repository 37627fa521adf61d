use Rattle.std.proofs.Common.{◌≡◌, ◌≤◌, map, drop, length}
use Rattle.c_raw.specs.Files.{top_view}
use Rattle.c_names.specs.Starts.{starts_of}
use Rattle.c_types.proofs.starts.starts_of.Given as goal

abbrev pub invariant-loop-place : goal.invariant-loop-place
invariant-loop-place l = record {
  within : l.place ≤ length l.tops;
  built : l.orders.items ≡ starts_of (map top_view (drop l.place l.tops));
}

abbrev pub decreases-loop-place : goal.decreases-loop-place
decreases-loop-place l = l.place
