use Rattle.std.proofs.Common.{◌≡◌, drop}
use Rattle.c_grammar.specs.Spelling.{sign_among}
use Rattle.c_cursor.proofs.look.sign_among.Given as goal

abbrev pub invariant-loop-sign : goal.invariant-loop-sign
invariant-loop-sign l = sign_among (drop l.sign-index l.signs) l.text ≡ sign_among l.signs l.text
