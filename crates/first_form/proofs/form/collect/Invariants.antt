use Rattle.std.proofs.Common.{◌≡◌, ◌++◌, drop}
use Rattle.std.specs.List.{filter_map}
use Rattle.first_form.specs.Form.{plain_of}
use Rattle.first_form.proofs.form.collect.Given as goal

abbrev pub invariant-loop-stmt : goal.invariant-loop-stmt
invariant-loop-stmt l =
    l.plains.items ++ filter_map (plain_of l.count) (drop l.stmt-index l.body) ≡ filter_map (plain_of l.count) l.body
