use Rattle.std.proofs.Common.{◌≡◌, ◌||◌, drop}
use Rattle.std.specs.List.{list_any}
use Rattle.c_names.specs.Strings.{pairs_from, is_other_pair, has_other}
use Rattle.c_body.proofs.strings.has_other.Given as goal

abbrev pub invariant-loop-byte : goal.invariant-loop-byte
invariant-loop-byte l = (l.has_other || list_any is_other_pair (pairs_from l.in_pair (drop l.byte-index l.text))) ≡ has_other l.text
