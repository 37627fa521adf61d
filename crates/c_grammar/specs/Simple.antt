-- What stands in simple statements: targets, calls, assignments and the calls of the headers.
use Rattle.std.specs.Prelude.{ℕ, suc, Bool, true, ◌&&◌, List, [], ◌∷◌, ◌++◌, Option}
use Rattle.std.specs.List.{list_all}
use Rattle.cfix_base.specs.declared.Spot.{Spot}
use Rattle.c_grammar.specs.declared.word.Word.TheVariants as w
use Rattle.c_grammar.specs.declared.sign.Sign.{Sign}
use Rattle.c_grammar.specs.declared.sign.Sign.TheVariants as s
use Rattle.c_grammar.specs.Marks.{each, maybe}
use Rattle.c_grammar.specs.Token.{Ident, Text, ident, quoted, word, sign, Mark}
use Rattle.c_grammar.specs.Expr.{Expr, is_expr, is_unary, pieces, placed, expr_marks, Long, long_pieces}

-- "[" expr "]"
abbrev pub Place : Type 0
Place = Spot × (Expr × Spot)

-- name [ "[" expr "]" ]
pub data Target : Type 0 where
  TargetOf : Ident → Option Place → Target

abbrev pub is_place : Place → Bool
is_place i = is_expr i.1.0

abbrev pub is_target : Target → Bool
is_target (TargetOf x index) = maybe true is_place index

abbrev pub place_marks : ℕ → Place → List Mark
place_marks d i = (sign s.OpenBracket i.0, suc d) ∷ (expr_marks (suc d) i.1.0 ++ (sign s.CloseBracket i.1.1, suc d) ∷ [])

abbrev pub target_marks : ℕ → Target → List Mark
target_marks d (TargetOf x index) = (ident x, d) ∷ maybe [] (place_marks d) index

-- { "," expr }
abbrev pub more_exprs_marks : ℕ → List (Spot × Expr) → List Mark
more_exprs_marks d = each (λ x. (sign s.Comma x.0, d) ∷ expr_marks d x.1)

abbrev pub are_exprs : List (Spot × Expr) → Bool
are_exprs = list_all (λ x. is_expr x.1)

-- [ expr { "," expr } ]
abbrev pub Args : Type 0
Args = Option (Expr × List (Spot × Expr))

abbrev pub are_args : Args → Bool
are_args = maybe true (λ x. is_expr x.0 && are_exprs x.1)

abbrev pub args_marks : ℕ → Args → List Mark
args_marks d = maybe [] (λ x. expr_marks d x.0 ++ more_exprs_marks d x.1)

-- name "(" [ expr { "," expr } ] ")" (6.5.2.2 of ISO/IEC 9899:2011)
pub data Call : Type 0 where
  CallOf : Ident → Spot → Args → Spot → Call

abbrev pub is_call : Call → Bool
is_call (CallOf f before args after) = are_args args

abbrev pub call_marks : ℕ → Call → List Mark
call_marks d (CallOf f before args after) = (ident f, d) ∷ ((sign s.OpenParen before, d) ∷ (args_marks d args ++ (sign s.CloseParen after, d) ∷ []))

-- expr | call
pub data Value : Type 0 where
  Computed : Expr → Value
  Called : Call → Value

abbrev pub is_value : Value → Bool
is_value (Computed e) = is_expr e
is_value (Called c) = is_call c

abbrev pub value_marks : ℕ → Value → List Mark
value_marks d (Computed e) = expr_marks d e
value_marks d (Called c) = call_marks d c

-- an assignment operator other than `=` (6.5.16.2 of ISO/IEC 9899:2011)
pub data Change : Type 0 where
  AddTo : Change
  SubtractFrom : Change
  MultiplyBy : Change
  DivideBy : Change
  RemainderBy : Change

abbrev pub change_sign : Change → Sign
change_sign AddTo = s.PlusAssign
change_sign SubtractFrom = s.MinusAssign
change_sign MultiplyBy = s.StarAssign
change_sign DivideBy = s.SlashAssign
change_sign RemainderBy = s.PercentAssign

-- `++` or `--`
pub data Step : Type 0 where
  Up : Step
  Down : Step

abbrev pub step_sign : Step → Sign
step_sign Up = s.PlusPlus
step_sign Down = s.MinusMinus

-- target ( ( "=" | change ) expr | step ) | step target
pub data Plain : Type 0 where
  SetTo : Target → Spot → Expr → Plain
  Changed : Target → Change → Spot → Expr → Plain
  SteppedAfter : Target → Step → Spot → Plain
  SteppedBefore : Step → Spot → Target → Plain

abbrev pub is_plain : Plain → Bool
is_plain (SetTo t at e) = is_target t && is_expr e
is_plain (Changed t how at e) = is_target t && is_expr e
is_plain (SteppedAfter t step at) = is_target t
is_plain (SteppedBefore step at t) = is_target t

abbrev pub plain_marks : ℕ → Plain → List Mark
plain_marks d (SetTo t at e) = target_marks d t ++ (sign s.Assign at, d) ∷ expr_marks d e
plain_marks d (Changed t how at e) = target_marks d t ++ (sign (change_sign how) at, d) ∷ expr_marks d e
plain_marks d (SteppedAfter t step at) = target_marks d t ++ (sign (step_sign step) at, d) ∷ []
plain_marks d (SteppedBefore step at t) = (sign (step_sign step) at, d) ∷ target_marks d t

-- "NULL" | "(" "void" "*" ")" [ "(" "long" ")" ] unary
pub data ThreadArg : Type 0 where
  NullArg : Spot → ThreadArg
  CastArg : Spot → Spot → Spot → Spot → Long → Expr → ThreadArg

abbrev pub is_thread_arg : ThreadArg → Bool
is_thread_arg (NullArg at) = true
is_thread_arg (CastArg before void star after long e) = is_unary e && is_expr e

abbrev pub thread_arg_marks : ℕ → ThreadArg → List Mark
thread_arg_marks d (NullArg at) = (word w.Null at, d) ∷ []
thread_arg_marks d (CastArg before void star after long e) =
    (sign s.OpenParen before, suc d) ∷ ((word w.Void void, suc d) ∷ ((sign s.Star star, suc d) ∷ ((sign s.CloseParen after, suc d) ∷ placed 0 (long_pieces d long ++ pieces d e))))

-- The calls of the headers (7.21.6.3 and 7.21.6.4 of ISO/IEC 9899:2011, and POSIX.1-2008). Each has its word and its
-- parenthesis first and its parenthesis last.
pub data Library : Type 0 where
  -- & target , NULL , name , argument
  Create : Spot → Spot → Spot → Target → Spot → Spot → Spot → Ident → Spot → ThreadArg → Spot → Library
  -- target , NULL
  Join : Spot → Spot → Target → Spot → Spot → Spot → Library
  -- & name
  Lock : Spot → Spot → Spot → Ident → Spot → Library
  Unlock : Spot → Spot → Spot → Ident → Spot → Library
  -- string { , expr }
  Print : Spot → Spot → Text → List (Spot × Expr) → Spot → Library
  -- string , & target
  Scan : Spot → Spot → Text → Spot → Spot → Target → Spot → Library
  -- & name , & name
  Wait : Spot → Spot → Spot → Ident → Spot → Spot → Ident → Spot → Library
  -- & name
  Signal : Spot → Spot → Spot → Ident → Spot → Library
  Broadcast : Spot → Spot → Spot → Ident → Spot → Library

abbrev pub is_library : Library → Bool
is_library (Create at before amp t comma1 null comma2 f comma3 arg after) = is_target t && is_thread_arg arg
is_library (Join at before t comma null after) = is_target t
is_library (Lock at before amp m after) = true
is_library (Unlock at before amp m after) = true
is_library (Print at before text more after) = are_exprs more
is_library (Scan at before text comma amp t after) = is_target t
is_library (Wait at before amp1 c comma amp2 m after) = true
is_library (Signal at before amp c after) = true
is_library (Broadcast at before amp c after) = true

abbrev pub library_marks : ℕ → Library → List Mark
library_marks d (Create at before amp t comma1 null comma2 f comma3 arg after) =
    (word w.Create at, d) ∷ ((sign s.OpenParen before, d) ∷ ((sign s.Ampersand amp, d) ∷ (target_marks d t
    ++ ((sign s.Comma comma1, d) ∷ ((word w.Null null, d) ∷ ((sign s.Comma comma2, d) ∷ ((ident f, d) ∷ ((sign s.Comma comma3, d) ∷ (thread_arg_marks d arg ++ (sign s.CloseParen after, d) ∷ [])))))))))
library_marks d (Join at before t comma null after) =
    (word w.Join at, d) ∷ ((sign s.OpenParen before, d) ∷ (target_marks d t ++ ((sign s.Comma comma, d) ∷ ((word w.Null null, d) ∷ ((sign s.CloseParen after, d) ∷ [])))))
library_marks d (Lock at before amp m after) = (word w.Lock at, d) ∷ ((sign s.OpenParen before, d) ∷ ((sign s.Ampersand amp, d) ∷ ((ident m, d) ∷ ((sign s.CloseParen after, d) ∷ []))))
library_marks d (Unlock at before amp m after) = (word w.Unlock at, d) ∷ ((sign s.OpenParen before, d) ∷ ((sign s.Ampersand amp, d) ∷ ((ident m, d) ∷ ((sign s.CloseParen after, d) ∷ []))))
library_marks d (Print at before text more after) = (word w.Printf at, d) ∷ ((sign s.OpenParen before, d) ∷ ((quoted text, d) ∷ (more_exprs_marks d more ++ (sign s.CloseParen after, d) ∷ [])))
library_marks d (Scan at before text comma amp t after) =
    (word w.Scanf at, d) ∷ ((sign s.OpenParen before, d) ∷ ((quoted text, d) ∷ ((sign s.Comma comma, d) ∷ ((sign s.Ampersand amp, d) ∷ (target_marks d t ++ (sign s.CloseParen after, d) ∷ [])))))
library_marks d (Wait at before amp1 c comma amp2 m after) =
    (word w.CondWait at, d) ∷ ((sign s.OpenParen before, d) ∷ ((sign s.Ampersand amp1, d) ∷ ((ident c, d) ∷ ((sign s.Comma comma, d) ∷ ((sign s.Ampersand amp2, d) ∷ ((ident m, d) ∷ ((sign s.CloseParen after, d) ∷ [])))))))
library_marks d (Signal at before amp c after) = (word w.Signal at, d) ∷ ((sign s.OpenParen before, d) ∷ ((sign s.Ampersand amp, d) ∷ ((ident c, d) ∷ ((sign s.CloseParen after, d) ∷ []))))
library_marks d (Broadcast at before amp c after) = (word w.Broadcast at, d) ∷ ((sign s.OpenParen before, d) ∷ ((sign s.Ampersand amp, d) ∷ ((ident c, d) ∷ ((sign s.CloseParen after, d) ∷ []))))

-- plain | target "=" call | call | a call of the headers
pub data Simple : Type 0 where
  PlainPart : Plain → Simple
  SetCall : Target → Spot → Call → Simple
  OnlyCall : Call → Simple
  LibraryPart : Library → Simple

abbrev pub is_simple : Simple → Bool
is_simple (PlainPart p) = is_plain p
is_simple (SetCall t at c) = is_target t && is_call c
is_simple (OnlyCall c) = is_call c
is_simple (LibraryPart l) = is_library l

abbrev pub simple_marks : ℕ → Simple → List Mark
simple_marks d (PlainPart p) = plain_marks d p
simple_marks d (SetCall t at c) = target_marks d t ++ (sign s.Assign at, d) ∷ call_marks d c
simple_marks d (OnlyCall c) = call_marks d c
simple_marks d (LibraryPart l) = library_marks d l
