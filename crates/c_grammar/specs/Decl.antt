-- Declarations of local and global variables.
use Rattle.std.specs.Prelude.{ℕ, Bool, true, ◌&&◌, List, [], ◌∷◌, ◌++◌, Option, Some, None}
use Rattle.std.specs.List.{list_all}
use Rattle.cfix_base.specs.declared.Spot.{Spot}
use Rattle.c_grammar.specs.declared.word.Word.{Word}
use Rattle.c_grammar.specs.declared.word.Word.TheVariants as w
use Rattle.c_grammar.specs.declared.sign.Sign.TheVariants as s
use Rattle.c_grammar.specs.Marks.{each}
use Rattle.c_grammar.specs.Token.{Ident, Numeral, ident, numeral, word, sign, Mark}
use Rattle.c_grammar.specs.Expr.{Expr, is_expr, expr_marks}
use Rattle.c_grammar.specs.Simple.{Value, is_value, value_marks}

-- number | name
pub data Size : Type 0 where
  Count : Numeral → Size
  Named : Ident → Size

abbrev pub size_marks : ℕ → Size → List Mark
size_marks d (Count n) = (numeral n, d) ∷ []
size_marks d (Named x) = (ident x, d) ∷ []

-- name | name "[" size "]"; the brackets of a declarator are no index
pub data Hold : Type 0 where
  OneThread : Ident → Hold
  Threads : Ident → Spot → Size → Spot → Hold

abbrev pub hold_marks : ℕ → Hold → List Mark
hold_marks d (OneThread x) = (ident x, d) ∷ []
hold_marks d (Threads x before n after) = (ident x, d) ∷ ((sign s.OpenBracket before, d) ∷ (size_marks d n ++ (sign s.CloseBracket after, d) ∷ []))

abbrev pub more_holds_marks : ℕ → List (Spot × Hold) → List Mark
more_holds_marks d = each (λ x. (sign s.Comma x.0, d) ∷ hold_marks d x.1)

-- name [ "=" ( expr | call ) ] | name "[" size "]"
pub data LocalInt : Type 0 where
  OneLocal : Ident → LocalInt
  SetLocal : Ident → Spot → Value → LocalInt
  LocalArray : Ident → Spot → Size → Spot → LocalInt

abbrev pub is_local_int : LocalInt → Bool
is_local_int (OneLocal x) = true
is_local_int (SetLocal x at v) = is_value v
is_local_int (LocalArray x before n after) = true

abbrev pub local_int_marks : ℕ → LocalInt → List Mark
local_int_marks d (OneLocal x) = (ident x, d) ∷ []
local_int_marks d (SetLocal x at v) = (ident x, d) ∷ ((sign s.Assign at, d) ∷ value_marks d v)
local_int_marks d (LocalArray x before n after) = (ident x, d) ∷ ((sign s.OpenBracket before, d) ∷ (size_marks d n ++ (sign s.CloseBracket after, d) ∷ []))

-- "int" lvar { "," lvar } | "pthread_t" hold { "," hold }
pub data Decl : Type 0 where
  Ints : Spot → LocalInt → List (Spot × LocalInt) → Decl
  Holds : Spot → Hold → List (Spot × Hold) → Decl

abbrev pub is_decl : Decl → Bool
is_decl (Ints at x more) = is_local_int x && list_all (λ y. is_local_int y.1) more
is_decl (Holds at x more) = true

abbrev pub decl_marks : ℕ → Decl → List Mark
decl_marks d (Ints at x more) = (word w.Int at, d) ∷ (local_int_marks d x ++ each (λ y. (sign s.Comma y.0, d) ∷ local_int_marks d y.1) more)
decl_marks d (Holds at x more) = (word w.Thread at, d) ∷ (hold_marks d x ++ more_holds_marks d more)

-- name [ "=" expr ], in the first part of a `for`
pub data LoopInt : Type 0 where
  OneLoop : Ident → LoopInt
  SetLoop : Ident → Spot → Expr → LoopInt

abbrev pub is_loop_int : LoopInt → Bool
is_loop_int (OneLoop x) = true
is_loop_int (SetLoop x at e) = is_expr e

abbrev pub loop_int_marks : ℕ → LoopInt → List Mark
loop_int_marks d (OneLoop x) = (ident x, d) ∷ []
loop_int_marks d (SetLoop x at e) = (ident x, d) ∷ ((sign s.Assign at, d) ∷ expr_marks d e)

-- name [ "=" [ "-" ] size ] | name "[" size "]"
pub data GlobalInt : Type 0 where
  OneGlobal : Ident → GlobalInt
  SetGlobal : Ident → Spot → Option Spot → Size → GlobalInt
  GlobalArray : Ident → Spot → Size → Spot → GlobalInt

abbrev pub minus_marks : ℕ → Option Spot → List Mark
minus_marks d None = []
minus_marks d (Some at) = (sign s.Minus at, d) ∷ []

abbrev pub global_int_marks : ℕ → GlobalInt → List Mark
global_int_marks d (OneGlobal x) = (ident x, d) ∷ []
global_int_marks d (SetGlobal x at minus n) = (ident x, d) ∷ ((sign s.Assign at, d) ∷ (minus_marks d minus ++ size_marks d n))
global_int_marks d (GlobalArray x before n after) = (ident x, d) ∷ ((sign s.OpenBracket before, d) ∷ (size_marks d n ++ (sign s.CloseBracket after, d) ∷ []))

-- name [ "=" "PTHREAD_MUTEX_INITIALIZER" ]
pub data GlobalMutex : Type 0 where
  OneMutex : Ident → GlobalMutex
  SetMutex : Ident → Spot → Spot → GlobalMutex

abbrev pub global_mutex_marks : ℕ → GlobalMutex → List Mark
global_mutex_marks d (OneMutex x) = (ident x, d) ∷ []
global_mutex_marks d (SetMutex x at value) = (ident x, d) ∷ ((sign s.Assign at, d) ∷ ((word w.MutexInitializer value, d) ∷ []))

-- name [ "=" "PTHREAD_COND_INITIALIZER" ]
pub data GlobalCond : Type 0 where
  OneCond : Ident → GlobalCond
  SetCond : Ident → Spot → Spot → GlobalCond

abbrev pub global_cond_marks : ℕ → GlobalCond → List Mark
global_cond_marks d (OneCond x) = (ident x, d) ∷ []
global_cond_marks d (SetCond x at value) = (ident x, d) ∷ ((sign s.Assign at, d) ∷ ((word w.CondInitializer value, d) ∷ []))

-- `"int" gvar { "," gvar } | "pthread_t" hold { "," hold } | "pthread_mutex_t" mutex { "," mutex }
-- | "pthread_cond_t" cvar { "," cvar }`, behind any number of `static` and `volatile` and before `;` (6.7 of
-- ISO/IEC 9899:2011).
pub data Globals : Type 0 where
  GlobalInts : Spot → GlobalInt → List (Spot × GlobalInt) → Globals
  GlobalHolds : Spot → Hold → List (Spot × Hold) → Globals
  GlobalMutexes : Spot → GlobalMutex → List (Spot × GlobalMutex) → Globals
  GlobalConds : Spot → GlobalCond → List (Spot × GlobalCond) → Globals

abbrev pub globals_marks : ℕ → Globals → List Mark
globals_marks d (GlobalInts at x more) = (word w.Int at, d) ∷ (global_int_marks d x ++ each (λ y. (sign s.Comma y.0, d) ∷ global_int_marks d y.1) more)
globals_marks d (GlobalHolds at x more) = (word w.Thread at, d) ∷ (hold_marks d x ++ more_holds_marks d more)
globals_marks d (GlobalMutexes at x more) = (word w.Mutex at, d) ∷ (global_mutex_marks d x ++ each (λ y. (sign s.Comma y.0, d) ∷ global_mutex_marks d y.1) more)
globals_marks d (GlobalConds at x more) = (word w.Cond at, d) ∷ (global_cond_marks d x ++ each (λ y. (sign s.Comma y.0, d) ∷ global_cond_marks d y.1) more)

-- "static" | "volatile"
pub data Qualifier : Type 0 where
  Static : Qualifier
  Volatile : Qualifier

abbrev pub qualifier_word : Qualifier → Word
qualifier_word Static = w.Static
qualifier_word Volatile = w.Volatile

abbrev pub qualifiers_marks : ℕ → List (Qualifier × Spot) → List Mark
qualifiers_marks d = each (λ x. (word (qualifier_word x.0) x.1, d) ∷ [])
