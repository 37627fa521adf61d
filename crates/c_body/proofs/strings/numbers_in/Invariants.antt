use Rattle.std.proofs.Common.{◌≡◌, ◌+◌, ◌≤◌, drop}
use Rattle.std.specs.Prelude.{count_by}
use Rattle.c_names.specs.Strings.{pairs_from, is_number_pair, numbers_in}
use Rattle.c_body.proofs.strings.numbers_in.Given as goal

abbrev pub invariant-loop-byte : goal.invariant-loop-byte
invariant-loop-byte l = record {
  within : l.count ≤ l.byte-index;
  counted : l.count + count_by is_number_pair (pairs_from l.in_pair (drop l.byte-index l.text)) ≡ numbers_in l.text;
}
