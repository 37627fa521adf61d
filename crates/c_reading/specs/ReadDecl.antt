-- Reading declarations. In each reader c is how many binary operators a chain may have, and d how many more constructs
-- may be nested.
use Rattle.std.specs.Prelude.{ℕ, List, Option, Some, None, ◌⊎◌, Bool}
use Rattle.std.proofs.Common.{inl, inr}
use Rattle.cfix_base.specs.declared.Spot.{Spot}
use Rattle.c_grammar.specs.declared.word.Word.TheVariants as w
use Rattle.c_grammar.specs.declared.sign.Sign.TheVariants as s
use Rattle.c_reading.specs.Reader.{Out, seq, mapped, alt, maybe_read}
use Rattle.c_grammar.specs.Token.{Token, Ident, Numeral}
use Rattle.c_grammar.specs.Expr.{Expr}
use Rattle.c_grammar.specs.Simple.{Value}
use Rattle.c_grammar.specs.Decl.{Size, Count, Named, Hold, OneThread, Threads, LocalInt, OneLocal, SetLocal, LocalArray, Decl, Ints, Holds, LoopInt, OneLoop, SetLoop, GlobalInt, OneGlobal, SetGlobal, GlobalArray, GlobalMutex, OneMutex, SetMutex, GlobalCond, OneCond, SetCond}
use Rattle.c_reading.specs.Read.{is_word, is_sign, is_number, read_word, read_sign, read_ident, read_numeral, listed}
use Rattle.c_reading.specs.ReadExpr.{expr_at}
use Rattle.c_reading.specs.ReadSimple.{is_bracket, value_at}

abbrev pub is_assign : Token → Bool
is_assign = is_sign s.Assign

abbrev pub size_from : Numeral ⊎ Ident → Size
size_from (inl n) = Count n
size_from (inr x) = Named x

abbrev pub read_size : List Token → Out Token Size
read_size = mapped size_from (alt is_number read_numeral read_ident)

-- "[" size "]"
abbrev pub Length : Type 0
Length = Spot × (Size × Spot)

abbrev pub read_length : List Token → Out Token Length
read_length = seq (read_sign s.OpenBracket) (seq read_size (read_sign s.CloseBracket))

abbrev pub hold_from : Ident × Option Length → Hold
hold_from (x, None) = OneThread x
hold_from (x, Some n) = Threads x n.0 n.1.0 n.1.1

abbrev pub read_hold : List Token → Out Token Hold
read_hold = mapped hold_from (seq read_ident (maybe_read is_bracket read_length))

-- what stands behind a declared name: `=` and a V, or a length, or nothing
abbrev pub Declared : Type 0 → Type 0
Declared V = (Spot × V) ⊎ Option Length

abbrev pub declared_with : {V : Type 0} → (List Token → Out Token V) → List Token → Out Token (Declared V)
declared_with value = alt is_assign (seq (read_sign s.Assign) value) (maybe_read is_bracket read_length)

abbrev pub local_from : Ident × Declared Value → LocalInt
local_from (x, inl v) = SetLocal x v.0 v.1
local_from (x, inr None) = OneLocal x
local_from (x, inr (Some n)) = LocalArray x n.0 n.1.0 n.1.1

unfoldable pub local_at : (c d : ℕ) → List Token → Out Token LocalInt
local_at c d = mapped local_from (seq read_ident (declared_with (value_at c d)))

abbrev pub decl_from : (Spot × (LocalInt × List (Spot × LocalInt))) ⊎ (Spot × (Hold × List (Spot × Hold))) → Decl
decl_from (inl x) = Ints x.0 x.1.0 x.1.1
decl_from (inr x) = Holds x.0 x.1.0 x.1.1

unfoldable pub decl_at : (c d : ℕ) → List Token → Out Token Decl
decl_at c d = mapped decl_from (alt (is_word w.Int) (seq (read_word w.Int) (listed (local_at c d))) (seq (read_word w.Thread) (listed read_hold)))

abbrev pub loop_int_from : Ident × Option (Spot × Expr) → LoopInt
loop_int_from (x, None) = OneLoop x
loop_int_from (x, Some v) = SetLoop x v.0 v.1

unfoldable pub loop_int_at : (c d : ℕ) → List Token → Out Token LoopInt
loop_int_at c d = mapped loop_int_from (seq read_ident (maybe_read is_assign (seq (read_sign s.Assign) (expr_at d c))))

-- ---- globals

abbrev pub global_int_from : Ident × Declared (Option Spot × Size) → GlobalInt
global_int_from (x, inl v) = SetGlobal x v.0 v.1.0 v.1.1
global_int_from (x, inr None) = OneGlobal x
global_int_from (x, inr (Some n)) = GlobalArray x n.0 n.1.0 n.1.1

-- what stands behind the name of a global `int`
abbrev pub read_global_tail : List Token → Out Token (Declared (Option Spot × Size))
read_global_tail = declared_with (seq (maybe_read (is_sign s.Minus) (read_sign s.Minus)) read_size)

abbrev pub read_global_int : List Token → Out Token GlobalInt
read_global_int = mapped global_int_from (seq read_ident read_global_tail)

abbrev pub global_mutex_from : Ident × Option (Spot × Spot) → GlobalMutex
global_mutex_from (x, None) = OneMutex x
global_mutex_from (x, Some v) = SetMutex x v.0 v.1

abbrev pub read_global_mutex : List Token → Out Token GlobalMutex
read_global_mutex = mapped global_mutex_from (seq read_ident (maybe_read is_assign (seq (read_sign s.Assign) (read_word w.MutexInitializer))))

abbrev pub global_cond_from : Ident × Option (Spot × Spot) → GlobalCond
global_cond_from (x, None) = OneCond x
global_cond_from (x, Some v) = SetCond x v.0 v.1

abbrev pub read_global_cond : List Token → Out Token GlobalCond
read_global_cond = mapped global_cond_from (seq read_ident (maybe_read is_assign (seq (read_sign s.Assign) (read_word w.CondInitializer))))
