use Rattle.std.proofs.Common.{◌≡◌, ◌≤◌, length}
use Rattle.std.specs.List.{list_all}
use Rattle.std.specs.Char.{is_ascii_digit}
use Rattle.c_lex.specs.Meaning.{decimal_after}
use Rattle.c_lex.proofs.number.digits_value.Given as goal

abbrev pub invariant-digits : goal.invariant-digits
invariant-digits l = (list_all is_ascii_digit l.rest ≡ list_all is_ascii_digit l.text) × (decimal_after l.value l.rest ≡ decimal_after 0 l.text) × (l.value ≤ 2147483647)

abbrev pub decreases-digits : goal.decreases-digits
decreases-digits l = length l.rest
