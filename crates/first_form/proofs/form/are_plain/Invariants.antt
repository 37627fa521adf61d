use Rattle.std.proofs.Common.{◌≡◌, drop}
use Rattle.std.specs.List.{list_all}
use Rattle.first_form.specs.Form.{is_plain}
use Rattle.first_form.proofs.form.are_plain.Given as goal

abbrev pub invariant-loop-stmt : goal.invariant-loop-stmt
invariant-loop-stmt l = list_all (is_plain l.count) (drop l.stmt-index l.body) ≡ list_all (is_plain l.count) l.body
