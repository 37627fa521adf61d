use Rattle.std.specs.Prelude.{FitsSigned}
use Rattle.std.specs.Int.{w32}
use Rattle.std.proofs.Common.{rules}
use Rattle.std.proofs.lemmas.Int.{to_z-of_z}
use Rattle.step_values.proofs.Prints.{number_written}
use Rattle.step_values.proofs.print.add_directive.Goals as goal

pub returns-then-letter-eq100-clause-written : goal.returns-then-letter-eq100-clause-written
returns-then-letter-eq100-clause-written c = λ rest.
    let fits : FitsSigned w32 c.value_at.result = search rules in
    number_written c.args.bytes.now.items c.add_number.new.bytes.items rest c.args.values.now c.args.letter c.args.used c.value_at.result c.if-letter-eq100.true c.value_at.ensures (simp to_z-of_z at c.in_ok-add_number.ensures)
