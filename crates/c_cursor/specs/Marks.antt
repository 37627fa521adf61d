-- What a cursor keeps of the tokens.
use Rattle.std.specs.Prelude.{List, map}
use Rattle.c_lex.specs.declared.token.Token as lex
use Rattle.c_cursor.specs.declared.cursor.Mark.{Mark}
use Rattle.c_grammar.specs.Lexical.{kind_read}
use Rattle.c_cursor.specs.Seen.{look_of}

abbrev pub mark_of : lex.Token → Mark
mark_of t = record { look = look_of (kind_read t.kind); spot = t.spot }

abbrev pub marked : List lex.Token → List Mark
marked tokens = map mark_of tokens
