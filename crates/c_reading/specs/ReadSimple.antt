-- Reading what stands in simple statements. In each reader c is how many binary operators a chain may have, and d how
-- many more constructs may be nested.
use Rattle.std.specs.Prelude.{ℕ, zero, suc, ◌-◌, Bool, List, [], Option, Some, None, ◌⊎◌}
use Rattle.std.proofs.Common.{inl, inr}
use Rattle.cfix_base.specs.declared.Spot.{Spot}
use Rattle.c_grammar.specs.declared.word.Word.TheVariants as w
use Rattle.c_grammar.specs.declared.sign.Sign.TheVariants as s
use Rattle.c_reading.specs.Reader.{Out, Got, one_of, seq, seq_dep, mapped, alt, shut, maybe_read}
use Rattle.c_grammar.specs.Token.{Kind, IsSign, Token, Ident, Text}
use Rattle.c_grammar.specs.Expr.{Expr, Number, Unary, Long}
use Rattle.c_grammar.specs.Simple.{Place, Target, TargetOf, Args, Call, CallOf, Value, Computed, Called, Change, AddTo, SubtractFrom, MultiplyBy, DivideBy, RemainderBy, Step, Up, Down, Plain, SetTo, Changed, SteppedAfter, SteppedBefore, ThreadArg, NullArg, CastArg, Library, Create, Join, Lock, Unlock, Print, Scan, Wait, Signal, Broadcast, Simple, PlainPart, SetCall, OnlyCall, LibraryPart}
use Rattle.c_reading.specs.Read.{is_word, is_sign, is_name, read_word, read_sign, read_ident, read_text, commas, listed}
use Rattle.c_reading.specs.ReadExpr.{is_some, begins_expr, operators, Link, group, links_with, NameParts, Operand, Parenthesised, CastParts, name_from, paren_from, operand_with, inside_with, unary_at, expr_at, prefix_at, index_at, paren_at}

abbrev pub is_bracket : Token → Bool
is_bracket = is_sign s.OpenBracket

abbrev pub is_paren : Token → Bool
is_paren = is_sign s.OpenParen

abbrev pub change_in : Kind → Spot → Option (Change × Spot)
change_in (IsSign s.PlusAssign) at = Some (AddTo, at)
change_in (IsSign s.MinusAssign) at = Some (SubtractFrom, at)
change_in (IsSign s.StarAssign) at = Some (MultiplyBy, at)
change_in (IsSign s.SlashAssign) at = Some (DivideBy, at)
change_in (IsSign s.PercentAssign) at = Some (RemainderBy, at)
change_in _ at = None

abbrev pub step_in : Kind → Spot → Option (Step × Spot)
step_in (IsSign s.PlusPlus) at = Some (Up, at)
step_in (IsSign s.MinusMinus) at = Some (Down, at)
step_in _ at = None

abbrev pub change_of : Token → Option (Change × Spot)
change_of t = change_in t.kind t.spot

abbrev pub step_of : Token → Option (Step × Spot)
step_of t = step_in t.kind t.spot

abbrev pub is_change : Token → Bool
is_change t = is_some (change_of t)

abbrev pub is_step : Token → Bool
is_step t = is_some (step_of t)

-- ---- targets and calls

abbrev pub target_from : Ident × Option Place → Target
target_from x = TargetOf x.0 x.1

abbrev pub target_at : (c d : ℕ) → List Token → Out Token Target
target_at c d = mapped target_from (seq read_ident (maybe_read is_bracket (index_at d c)))

abbrev pub args_at : (c d : ℕ) → List Token → Out Token Args
args_at c d = maybe_read begins_expr (listed (expr_at d c))

-- "(" arguments ")"
abbrev pub CallTail : Type 0
CallTail = Spot × (Args × Spot)

abbrev pub call_tail_at : (c d : ℕ) → List Token → Out Token CallTail
call_tail_at c d = seq (read_sign s.OpenParen) (seq (args_at c d) (read_sign s.CloseParen))

abbrev pub call_from : Ident × CallTail → Call
call_from x = CallOf x.0 x.1.0 x.1.1.0 x.1.1.1

-- ---- an expression or a call

-- what begins with a name
abbrev pub Named : Type 0
Named = Ident × (CallTail ⊎ Option Place)

abbrev pub head_from : Operand Named Parenthesised → Call ⊎ Expr
head_from (inl x) = inr (Unary x.0.0 x.0.1 x.1)
head_from (inr (inl n)) = inr (Number n)
head_from (inr (inr (inl (x, inl t)))) = inl (call_from (x, t))
head_from (inr (inr (inl (x, inr i)))) = inr (name_from (x, i))
head_from (inr (inr (inr x))) = inr (paren_from x)

-- a call, or the first operand of an expression
abbrev pub value_head_at : (c d : ℕ) → List Token → Out Token (Call ⊎ Expr)
value_head_at c d = mapped head_from (operand_with (prefix_at d c) (seq read_ident (alt is_paren (call_tail_at c d) (maybe_read is_bracket (index_at d c)))) (paren_at d c))

abbrev pub no_links : List Token → Out Token (List Link)
no_links ts = Got [] ts

-- no operator stands behind a call
abbrev pub value_links_at : (c d : ℕ) → Call ⊎ Expr → List Token → Out Token (List Link)
value_links_at c d (inl call) = no_links
value_links_at c d (inr u) = links_with (c - operators u) (λ k. unary_at d k)

abbrev pub value_from : (Call ⊎ Expr) × List Link → Value
value_from (inl call, more) = Called call
value_from (inr u, more) = Computed (group (u, more))

unfoldable pub value_at : (c d : ℕ) → List Token → Out Token Value
value_at c d = mapped value_from (seq_dep (value_head_at c d) (value_links_at c d))

-- ---- assignments and steps

abbrev pub Assigns : Type 0 → Type 0
Assigns V = (Spot × V) ⊎ (((Change × Spot) × Expr) ⊎ (Step × Spot))

-- what stands behind a target, where `=` takes a V
abbrev pub assigns_with : {V : Type 0} → (c d : ℕ) → (List Token → Out Token V) → List Token → Out Token (Assigns V)
assigns_with c d value = alt (is_sign s.Assign) (seq (read_sign s.Assign) value) (alt is_change (seq (one_of change_of) (expr_at d c)) (one_of step_of))

abbrev pub assigned : Target → Assigns Expr → Plain
assigned t (inl x) = SetTo t x.0 x.1
assigned t (inr (inl x)) = Changed t x.0.0 x.0.1 x.1
assigned t (inr (inr x)) = SteppedAfter t x.0 x.1

abbrev pub plain_from : (Target × Assigns Expr) ⊎ ((Step × Spot) × Target) → Plain
plain_from (inl x) = assigned x.0 x.1
plain_from (inr x) = SteppedBefore x.0.0 x.0.1 x.1

unfoldable pub plain_at : (c d : ℕ) → List Token → Out Token Plain
plain_at c d = mapped plain_from (alt is_name (seq (target_at c d) (assigns_with c d (expr_at d c))) (seq (one_of step_of) (target_at c d)))

-- ---- the calls of the headers

-- behind `(void *)`: `(long)` may stand before the unary
abbrev pub LongParts : Type 0
LongParts = Spot × (Spot × Expr)

abbrev pub CastTail : Type 0
CastTail = Spot × (LongParts ⊎ (CastParts ⊎ (Expr × Spot)))

abbrev pub cast_from : Operand NameParts CastTail → Long × Expr
cast_from (inl x) = (None, Unary x.0.0 x.0.1 x.1)
cast_from (inr (inl n)) = (None, Number n)
cast_from (inr (inr (inl x))) = (None, name_from x)
cast_from (inr (inr (inr (before, inl x)))) = (Some (before, (x.0, x.1.0)), x.1.1)
cast_from (inr (inr (inr (before, inr x)))) = (None, paren_from (before, x))

abbrev pub cast_tail_at : (c d : ℕ) → List Token → Out Token CastTail
cast_tail_at c zero = shut is_paren
cast_tail_at c (suc d) = seq (read_sign s.OpenParen) (alt (is_word w.Long) (seq (read_word w.Long) (seq (read_sign s.CloseParen) (unary_at (suc d) c))) (inside_with (expr_at d c)))

abbrev pub cast_unary_at : (c d : ℕ) → List Token → Out Token (Long × Expr)
cast_unary_at c d = mapped cast_from (operand_with (prefix_at d c) (seq read_ident (maybe_read is_bracket (index_at d c))) (cast_tail_at c d))

abbrev pub CastArgParts : Type 0
CastArgParts = Spot × (Spot × (Spot × (Spot × (Long × Expr))))

abbrev pub thread_arg_from : Spot ⊎ CastArgParts → ThreadArg
thread_arg_from (inl at) = NullArg at
thread_arg_from (inr x) = CastArg x.0 x.1.0 x.1.1.0 x.1.1.1.0 x.1.1.1.1.0 x.1.1.1.1.1

abbrev pub cast_arg_at : (c d : ℕ) → List Token → Out Token CastArgParts
cast_arg_at c zero = shut is_paren
cast_arg_at c (suc d) = seq (read_sign s.OpenParen) (seq (read_word w.Void) (seq (read_sign s.Star) (seq (read_sign s.CloseParen) (cast_unary_at c (suc d)))))

unfoldable pub thread_arg_at : (c d : ℕ) → List Token → Out Token ThreadArg
thread_arg_at c d = mapped thread_arg_from (alt (is_word w.Null) (read_word w.Null) (cast_arg_at c d))

abbrev pub CreateParts : Type 0
CreateParts = Spot × (Spot × (Spot × (Target × (Spot × (Spot × (Spot × (Ident × (Spot × (ThreadArg × Spot)))))))))

abbrev pub JoinParts : Type 0
JoinParts = Spot × (Spot × (Target × (Spot × (Spot × Spot))))

abbrev pub LockParts : Type 0
LockParts = Spot × (Spot × (Spot × (Ident × Spot)))

abbrev pub PrintParts : Type 0
PrintParts = Spot × (Spot × (Text × (List (Spot × Expr) × Spot)))

abbrev pub ScanParts : Type 0
ScanParts = Spot × (Spot × (Text × (Spot × (Spot × (Target × Spot)))))

abbrev pub WaitParts : Type 0
WaitParts = Spot × (Spot × (Spot × (Ident × (Spot × (Spot × (Ident × Spot))))))

-- a signal or a broadcast
abbrev pub WakeParts : Type 0
WakeParts = Spot × (Spot × (Spot × (Ident × Spot)))

abbrev pub LibraryParts : Type 0
LibraryParts = CreateParts ⊎ (JoinParts ⊎ (LockParts ⊎ (LockParts ⊎ (PrintParts ⊎ (ScanParts ⊎ (WaitParts ⊎ (WakeParts ⊎ WakeParts)))))))

abbrev pub library_from : LibraryParts → Library
library_from (inl x) = Create x.0 x.1.0 x.1.1.0 x.1.1.1.0 x.1.1.1.1.0 x.1.1.1.1.1.0 x.1.1.1.1.1.1.0 x.1.1.1.1.1.1.1.0 x.1.1.1.1.1.1.1.1.0 x.1.1.1.1.1.1.1.1.1.0 x.1.1.1.1.1.1.1.1.1.1
library_from (inr (inl x)) = Join x.0 x.1.0 x.1.1.0 x.1.1.1.0 x.1.1.1.1.0 x.1.1.1.1.1
library_from (inr (inr (inl x))) = Lock x.0 x.1.0 x.1.1.0 x.1.1.1.0 x.1.1.1.1
library_from (inr (inr (inr (inl x)))) = Unlock x.0 x.1.0 x.1.1.0 x.1.1.1.0 x.1.1.1.1
library_from (inr (inr (inr (inr (inl x))))) = Print x.0 x.1.0 x.1.1.0 x.1.1.1.0 x.1.1.1.1
library_from (inr (inr (inr (inr (inr (inl x)))))) = Scan x.0 x.1.0 x.1.1.0 x.1.1.1.0 x.1.1.1.1.0 x.1.1.1.1.1.0 x.1.1.1.1.1.1
library_from (inr (inr (inr (inr (inr (inr (inl x))))))) = Wait x.0 x.1.0 x.1.1.0 x.1.1.1.0 x.1.1.1.1.0 x.1.1.1.1.1.0 x.1.1.1.1.1.1.0 x.1.1.1.1.1.1.1
library_from (inr (inr (inr (inr (inr (inr (inr (inl x)))))))) = Signal x.0 x.1.0 x.1.1.0 x.1.1.1.0 x.1.1.1.1
library_from (inr (inr (inr (inr (inr (inr (inr (inr x)))))))) = Broadcast x.0 x.1.0 x.1.1.0 x.1.1.1.0 x.1.1.1.1

abbrev pub create_at : (c d : ℕ) → List Token → Out Token CreateParts
create_at c d = seq (read_word w.Create) (seq (read_sign s.OpenParen) (seq (read_sign s.Ampersand) (seq (target_at c d) (seq (read_sign s.Comma) (seq (read_word w.Null)
    (seq (read_sign s.Comma) (seq read_ident (seq (read_sign s.Comma) (seq (thread_arg_at c d) (read_sign s.CloseParen))))))))))

abbrev pub join_at : (c d : ℕ) → List Token → Out Token JoinParts
join_at c d = seq (read_word w.Join) (seq (read_sign s.OpenParen) (seq (target_at c d) (seq (read_sign s.Comma) (seq (read_word w.Null) (read_sign s.CloseParen)))))

abbrev pub lock_tail : List Token → Out Token (Spot × (Spot × (Ident × Spot)))
lock_tail = seq (read_sign s.OpenParen) (seq (read_sign s.Ampersand) (seq read_ident (read_sign s.CloseParen)))

abbrev pub print_at : (c d : ℕ) → List Token → Out Token PrintParts
print_at c d = seq (read_word w.Printf) (seq (read_sign s.OpenParen) (seq read_text (seq (commas (expr_at d c)) (read_sign s.CloseParen))))

abbrev pub scan_at : (c d : ℕ) → List Token → Out Token ScanParts
scan_at c d = seq (read_word w.Scanf) (seq (read_sign s.OpenParen) (seq read_text (seq (read_sign s.Comma) (seq (read_sign s.Ampersand) (seq (target_at c d) (read_sign s.CloseParen))))))

abbrev pub wait_at : List Token → Out Token WaitParts
wait_at = seq (read_word w.CondWait) (seq (read_sign s.OpenParen) (seq (read_sign s.Ampersand) (seq read_ident (seq (read_sign s.Comma) (seq (read_sign s.Ampersand) (seq read_ident (read_sign s.CloseParen)))))))

unfoldable pub library_at : (c d : ℕ) → List Token → Out Token Library
library_at c d = mapped library_from (alt (is_word w.Create) (create_at c d) (alt (is_word w.Join) (join_at c d) (alt (is_word w.Lock) (seq (read_word w.Lock) lock_tail)
    (alt (is_word w.Unlock) (seq (read_word w.Unlock) lock_tail) (alt (is_word w.Printf) (print_at c d) (alt (is_word w.Scanf) (scan_at c d)
    (alt (is_word w.CondWait) wait_at (alt (is_word w.Signal) (seq (read_word w.Signal) lock_tail) (seq (read_word w.Broadcast) lock_tail)))))))))

-- ---- simple statements

-- what stands behind the name with which a simple statement begins
abbrev pub SimpleTail : Type 0
SimpleTail = CallTail ⊎ (Option Place × Assigns Value)

abbrev pub SimpleParts : Type 0
SimpleParts = (Ident × SimpleTail) ⊎ (((Step × Spot) × Target) ⊎ Library)

abbrev pub set_from : Target → Spot → Value → Simple
set_from t at (Computed e) = PlainPart (SetTo t at e)
set_from t at (Called call) = SetCall t at call

abbrev pub assigns_from : Target → Assigns Value → Simple
assigns_from t (inl x) = set_from t x.0 x.1
assigns_from t (inr (inl x)) = PlainPart (Changed t x.0.0 x.0.1 x.1)
assigns_from t (inr (inr x)) = PlainPart (SteppedAfter t x.0 x.1)

abbrev pub simple_from : SimpleParts → Simple
simple_from (inl (x, inl t)) = OnlyCall (call_from (x, t))
simple_from (inl (x, inr y)) = assigns_from (TargetOf x y.0) y.1
simple_from (inr (inl x)) = PlainPart (SteppedBefore x.0.0 x.0.1 x.1)
simple_from (inr (inr x)) = LibraryPart x

unfoldable pub simple_at : (c d : ℕ) → List Token → Out Token Simple
simple_at c d = mapped simple_from (alt is_name (seq read_ident (alt is_paren (call_tail_at c d) (seq (maybe_read is_bracket (index_at d c)) (assigns_with c d (value_at c d)))))
    (alt is_step (seq (one_of step_of) (target_at c d)) (library_at c d)))
