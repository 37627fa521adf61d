-- The readers of declarations and functions in the order in which the code reads.
use Rattle.std.specs.Prelude.{List, Option, Some, None}
use Rattle.cfix_base.specs.declared.Spot.{Spot}
use Rattle.c_grammar.specs.declared.word.Word.TheVariants as w
use Rattle.c_grammar.specs.declared.sign.Sign.TheVariants as s
use Rattle.c_grammar.specs.Token.{Token, Ident}
use Rattle.c_reading.specs.Reader.{Out, next, map_out, begins, either}
use Rattle.c_reading.specs.Read.{is_word, is_sign, read_word, read_ident}
use Rattle.c_reading.specs.ReadSimple.{is_paren}
use Rattle.c_reading.specs.ReadDecl.{global_int_from}
use Rattle.c_grammar.specs.Decl as d
use Rattle.c_grammar.specs.File as g
use Rattle.c_reading.specs.ReadFile as read
use Rattle.c_raw.specs.declared.decl.Qualifier.{Qualifier}
use Rattle.c_raw.specs.declared.decl.Qualifier.TheVariants as qualifier
use Rattle.c_raw.specs.Decls.{qualifier_view}
use Rattle.c_cursor.specs.declared.look.Look.{Look}
use Rattle.c_cursor.specs.declared.look.Look.TheVariants as look
use Rattle.c_parse.specs.Globals.{read_holds_at, read_mutexes_at, read_conds_at}

abbrev pub look_qualifier : Look → Option Qualifier
look_qualifier (look.Word w.Static) = Some qualifier.Static
look_qualifier (look.Word w.Volatile) = Some qualifier.Volatile
look_qualifier _ = None

abbrev pub qualifier_at_view : Qualifier × Spot → d.Qualifier × Spot
qualifier_at_view x = (qualifier_view x.0, x.1)

abbrev pub with_head : Option Spot → g.Return → Spot → Ident → read.HeadTail → g.Top
with_head static ret at x t = read.with_end (g.PlainHead static ret at x t.0 t.1.0 t.1.1.0) t.1.1.1

-- a head behind the function's name, with what stands behind it
abbrev pub plain_top : Option Spot → g.Return → Spot → Ident → List Token → Out Token g.Top
plain_top static ret at x r = map_out (with_head static ret at x) (read.head_tail_at 200 r)

abbrev pub with_ints : read.Qualifiers → Spot → Ident → read.GlobalTail → g.Top
with_ints q at x t = g.Variables q (d.GlobalInts at (global_int_from (x, t.0)) t.1.0) t.1.1

-- global integers behind the first name
abbrev pub ints_top : read.Qualifiers → Spot → Ident → List Token → Out Token g.Top
ints_top q at x r = map_out (with_ints q at x) (read.read_globals_tail r)

abbrev pub with_thread : Option Spot → Spot → read.ThreadHeadParts → g.Top
with_thread static at x = read.with_end (g.ThreadHead static at x.0 x.1.0 x.1.1.0 x.1.1.1.0 x.1.1.1.1.0 x.1.1.1.1.1.0 x.1.1.1.1.1.1.0) x.1.1.1.1.1.1.1

-- a thread function behind its `void`
abbrev pub thread_top : Option Spot → Spot → List Token → Out Token g.Top
thread_top static at r = map_out (with_thread static at) (read.thread_head_at 200 r)

abbrev pub void_from : Option Spot → List Token → Out Token g.Top
void_from static ts = next (read_word w.Void ts) (λ at r. either (begins (is_sign s.Star) r) (thread_top static at r) (next (read_ident r) (λ x r2. plain_top static g.ReturnsVoid at x r2)))

abbrev pub int_behind : read.Qualifiers → Spot → Ident → List Token → Out Token g.Top
int_behind q at x r = either (read.heads_allowed q) (either (begins is_paren r) (plain_top (read.static_of q) g.ReturnsInt at x r) (ints_top q at x r)) (ints_top q at x r)

abbrev pub int_from : read.Qualifiers → List Token → Out Token g.Top
int_from q ts = next (read_word w.Int ts) (λ at r. next (read_ident r) (λ x r2. int_behind q at x r2))

abbrev pub with_globals : read.Qualifiers → d.Globals × Spot → g.Top
with_globals q x = g.Variables q x.0 x.1

abbrev pub last_from : read.Qualifiers → List Token → Out Token g.Top
last_from q ts = either (read.heads_allowed q) (either (begins (is_word w.Void) ts) (void_from (read.static_of q) ts) (map_out (with_globals q) (read_conds_at ts))) (map_out (with_globals q) (read_conds_at ts))

-- behind the qualifiers
abbrev pub behind_qualifiers : read.Qualifiers → List Token → Out Token g.Top
behind_qualifiers q ts = either (begins (is_word w.Int) ts) (int_from q ts)
    (either (begins (is_word w.Thread) ts) (map_out (with_globals q) (read_holds_at ts)) (either (begins (is_word w.Mutex) ts) (map_out (with_globals q) (read_mutexes_at ts)) (last_from q ts)))

abbrev pub declared_at : List Token → Out Token g.Top
declared_at ts = next (read.read_qualifiers ts) behind_qualifiers
