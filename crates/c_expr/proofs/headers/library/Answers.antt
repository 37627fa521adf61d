use Rattle.std.proofs.Common.{◌≡◌, true, false, drop, sym, ap, ◌∙◌}
use Rattle.std.proofs.lemmas.Result.{err_from_is_err_and}
use Rattle.c_grammar.specs.declared.word.Word.TheVariants as w
use Rattle.c_reading.specs.Reader.{Got, map_out, begins}
use Rattle.c_reading.specs.Read.{is_word}
use Rattle.c_reading.specs.ReadSimple.{create_at}
use Rattle.c_raw.specs.Simples.{create_view}
use Rattle.c_cursor.proofs.Exits.{stops-by}
use Rattle.c_raw.specs.declared.simple.Create.{Create}
use Rattle.c_expr.specs.Calls.{create_from}
use Rattle.c_expr.proofs.CallSteps.{library-create, library-join, library-lock, library-unlock, library-print, library-scan, library-condition}
use Rattle.c_expr.proofs.headers.library.Goals as goal

pub returns-in_err-create : goal.returns-in_err-create
returns-in_err-create c =
    let ts = c.args.cursor.now.tokens in
    let here = drop c.args.at ts in
    let create : begins (is_word w.Create) here ≡ true = cc in
    let p = err_from_is_err_and c.from_residual.result c.from_residual.ensures.1 in
    rw (p.1, p.2) (stops-by ts c.in_err-create.field-0.0 (map_out create_from (create_at 200 c.args.depth here)) _ (λ f r h. library-create 200 c.args.depth here create ∙ h) c.in_err-create.ensures)

pub returns-then-is_word : goal.returns-then-is_word
returns-then-is_word c =
    let ts = c.args.cursor.now.tokens in
    let here = drop c.args.at ts in
    let create : begins (is_word w.Create) here ≡ true = cc in
    library-create 200 c.args.depth here create ∙ c.in_ok-create.ensures ∙ ap (λ (x : Create). Got (create_view x) (drop c.in_ok-create.at ts)) (sym c.in_ok-boxed.ensures)

pub returns-then-is_word-2 : goal.returns-then-is_word-2
returns-then-is_word-2 c =
    let here = drop c.args.at c.args.cursor.now.tokens in
    let no_create : begins (is_word w.Create) here ≡ false = cc in
    let join : begins (is_word w.Join) here ≡ true = cc in
    rw (library-join 200 c.args.depth here no_create join) c.join.ensures

pub returns-then-is_word-3 : goal.returns-then-is_word-3
returns-then-is_word-3 c =
    let here = drop c.args.at c.args.cursor.now.tokens in
    let no_create : begins (is_word w.Create) here ≡ false = cc in
    let no_join : begins (is_word w.Join) here ≡ false = cc in
    let lock : begins (is_word w.Lock) here ≡ true = cc in
    rw (library-lock 200 c.args.depth here no_create no_join lock) c.lock.ensures

pub returns-then-is_word-4 : goal.returns-then-is_word-4
returns-then-is_word-4 c =
    let here = drop c.args.at c.args.cursor.now.tokens in
    let no_create : begins (is_word w.Create) here ≡ false = cc in
    let no_join : begins (is_word w.Join) here ≡ false = cc in
    let no_lock : begins (is_word w.Lock) here ≡ false = cc in
    let unlock : begins (is_word w.Unlock) here ≡ true = cc in
    rw (library-unlock 200 c.args.depth here no_create no_join no_lock unlock) c.unlock.ensures

pub returns-then-is_word-5 : goal.returns-then-is_word-5
returns-then-is_word-5 c =
    let here = drop c.args.at c.args.cursor.now.tokens in
    let no_create : begins (is_word w.Create) here ≡ false = cc in
    let no_join : begins (is_word w.Join) here ≡ false = cc in
    let no_lock : begins (is_word w.Lock) here ≡ false = cc in
    let no_unlock : begins (is_word w.Unlock) here ≡ false = cc in
    let print : begins (is_word w.Printf) here ≡ true = cc in
    rw (library-print 200 c.args.depth here no_create no_join no_lock no_unlock print) c.print.ensures

pub returns-then-is_word-6 : goal.returns-then-is_word-6
returns-then-is_word-6 c =
    let here = drop c.args.at c.args.cursor.now.tokens in
    let no_create : begins (is_word w.Create) here ≡ false = cc in
    let no_join : begins (is_word w.Join) here ≡ false = cc in
    let no_lock : begins (is_word w.Lock) here ≡ false = cc in
    let no_unlock : begins (is_word w.Unlock) here ≡ false = cc in
    let no_print : begins (is_word w.Printf) here ≡ false = cc in
    let scan : begins (is_word w.Scanf) here ≡ true = cc in
    rw (library-scan 200 c.args.depth here no_create no_join no_lock no_unlock no_print scan) c.scan.ensures

pub returns : goal.returns
returns c =
    let here = drop c.args.at c.args.cursor.now.tokens in
    let no_create : begins (is_word w.Create) here ≡ false = cc in
    let no_join : begins (is_word w.Join) here ≡ false = cc in
    let no_lock : begins (is_word w.Lock) here ≡ false = cc in
    let no_unlock : begins (is_word w.Unlock) here ≡ false = cc in
    let no_print : begins (is_word w.Printf) here ≡ false = cc in
    let no_scan : begins (is_word w.Scanf) here ≡ false = cc in
    rw (library-condition 200 c.args.depth here no_create no_join no_lock no_unlock no_print no_scan) c.condition.ensures
