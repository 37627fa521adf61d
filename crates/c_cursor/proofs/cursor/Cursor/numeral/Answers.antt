use Rattle.std.proofs.Common.{◌≡◌, drop, sym, rules}
use Rattle.c_cursor.proofs.Looks.{numeral-got, numeral-none}
use Rattle.c_cursor.proofs.cursor.Cursor.numeral.Goals as goal
use mir.Val.{to_z, of_z}
use mir.Syntax.{w32}

pub returns-in-Some : goal.returns-in-Some
returns-in-Some c = let f : to_z w32 (of_z w32 c.in-Some.value) ≡ c.in-Some.value = search rules in
    rw (f, c.spot-spot.ensures, c.behind.ensures) (numeral-got c.args.self.now.tokens c.args.at c.args.self.now.end c.in-Some.value (sym c.in-Some.ensures))

pub returns-in-None : goal.returns-in-None
returns-in-None c = numeral-none (drop c.args.at c.args.self.now.tokens) (sym c.in-None.ensures)
