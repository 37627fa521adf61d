use Rattle.std.proofs.Common.{◌≡◌, true, false, drop}
use Rattle.c_grammar.specs.declared.word.Word.TheVariants as w
use Rattle.c_reading.specs.Reader.{begins}
use Rattle.c_reading.specs.Read.{is_word}
use Rattle.c_expr.proofs.CallSteps.{thread-null, thread-cast}
use Rattle.c_expr.proofs.headers.thread_arg.Goals as goal

pub returns-then-is_word : goal.returns-then-is_word
returns-then-is_word c =
    let ts = c.args.cursor.now.tokens in
    let here = drop c.args.at ts in
    let null : begins (is_word w.Null) here ≡ true = cc in
    thread-null 200 c.args.depth here null c.in_ok-null.null (drop c.in_ok-null.at ts) c.in_ok-null.ensures

pub returns : goal.returns
returns c =
    let here = drop c.args.at c.args.cursor.now.tokens in
    let no_null : begins (is_word w.Null) here ≡ false = cc in
    rw (thread-cast 200 c.args.depth here no_null) c.cast_arg.ensures
