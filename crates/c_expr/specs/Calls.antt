-- The calls of the headers, each from what its reader reads.
use Rattle.std.specs.Prelude.{List, None, Some}
use Rattle.std.proofs.Common.{inl, inr}
use Rattle.c_grammar.specs.declared.word.Word.TheVariants as w
use Rattle.c_reading.specs.Reader.{Out, seq, map_out, begins, either}
use Rattle.c_grammar.specs.Token.{Token}
use Rattle.c_reading.specs.Read.{is_word, read_word}
use Rattle.c_grammar.specs.Expr.{Expr, Long}
use Rattle.c_grammar.specs.Simple.{ThreadArg, Library}
use Rattle.c_reading.specs.ReadExpr.{paren_from}
use Rattle.c_reading.specs.ReadSimple.{CastTail, CastArgParts, thread_arg_from, CreateParts, JoinParts, LockParts, PrintParts, ScanParts, WaitParts, WakeParts, library_from, lock_tail, wait_at}
use Rattle.c_raw.specs.Exprs.{long_view, expr_view}
use Rattle.c_expr.specs.declared.headers.CastValue.{CastValue}

abbrev pub cast_view : CastValue → Long × Expr
cast_view c = (long_view c.long, expr_view c.value)

abbrev pub cast_in : CastTail → Long × Expr
cast_in (before, inl x) = (Some (before, (x.0, x.1.0)), x.1.1)
cast_in (before, inr x) = (None, paren_from (before, x))

abbrev pub arg_from : CastArgParts → ThreadArg
arg_from x = thread_arg_from (inr x)

abbrev pub create_from : CreateParts → Library
create_from x = library_from (inl x)

abbrev pub join_from : JoinParts → Library
join_from x = library_from (inr (inl x))

abbrev pub lock_from : LockParts → Library
lock_from x = library_from (inr (inr (inl x)))

abbrev pub unlock_from : LockParts → Library
unlock_from x = library_from (inr (inr (inr (inl x))))

abbrev pub print_from : PrintParts → Library
print_from x = library_from (inr (inr (inr (inr (inl x)))))

abbrev pub scan_from : ScanParts → Library
scan_from x = library_from (inr (inr (inr (inr (inr (inl x))))))

abbrev pub wait_from : WaitParts → Library
wait_from x = library_from (inr (inr (inr (inr (inr (inr (inl x)))))))

abbrev pub signal_from : WakeParts → Library
signal_from x = library_from (inr (inr (inr (inr (inr (inr (inr (inl x))))))))

abbrev pub broadcast_from : WakeParts → Library
broadcast_from x = library_from (inr (inr (inr (inr (inr (inr (inr (inr x))))))))

-- the calls on condition variables
abbrev pub condition_at : List Token → Out Token Library
condition_at ts = either (begins (is_word w.CondWait) ts) (map_out wait_from (wait_at ts))
    (either (begins (is_word w.Signal) ts) (map_out signal_from (seq (read_word w.Signal) lock_tail ts)) (map_out broadcast_from (seq (read_word w.Broadcast) lock_tail ts)))
