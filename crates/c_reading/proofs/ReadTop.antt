-- The laws of the readers of what a file has at its top.
use Rattle.std.proofs.Common.{◌≡◌, ℕ, Bool, true, false, not, ◌&&◌, List, [], ◌∷◌, Option, Some, None, refl, inl, inr, ◌⊎◌, arith}
use Rattle.std.proofs.lemmas.Bool.{and_from, and_parts}
use Rattle.cfix_base.specs.declared.Spot.{Spot}
use Rattle.c_grammar.specs.declared.word.Word.TheVariants as w
use Rattle.c_grammar.specs.declared.sign.Sign.TheVariants as s
use Rattle.c_grammar.specs.Marks.{first}
use Rattle.c_reading.specs.Reader.{Lang, toks, seq, seq_dep, holds, alt, maybe_read}
use Rattle.c_grammar.specs.Token.{Token, Ident}
use Rattle.c_grammar.specs.Decl.{Size, Count, Named, OneThread, GlobalInt, OneGlobal, SetGlobal, GlobalArray, global_int_marks, GlobalMutex, OneMutex, SetMutex, global_mutex_marks, GlobalCond, OneCond, SetCond, global_cond_marks}
use Rattle.c_grammar.specs.File.{NoParams}
use Rattle.c_reading.specs.Read.{is_word, is_sign, is_name, read_word, read_sign, read_ident, commas}
use Rattle.c_reading.specs.ReadSimple.{is_paren}
use Rattle.c_reading.specs.ReadDecl.{is_assign, Declared, global_int_from, read_global_tail, read_global_int, global_mutex_from, read_global_mutex, global_cond_from, read_global_cond, read_size}
use Rattle.c_reading.specs.ReadStmt.{read_semicolon}
use Rattle.c_reading.specs.ReadFile.{read_directive, Qualifiers, read_qualifiers, heads_allowed, head_end_at, HeadTail, head_tail_at, GlobalTail, read_globals_tail, int_tail_at, IntParts, HoldParts, MutexParts, CondParts, ThreadHeadParts, VoidParts, Body, thread_head_at, void_at, read_mutexes, read_conds, read_holds, last_at, body_at, TopParts}
use Rattle.c_reading.proofs.Reader.{IsReader, pair, pair_dep, seq_reader, dep_reader, same_all, map_reader, optional, maybe_reader, choice, choice_reader, sum, alt_reader}
use Rattle.c_reading.proofs.Token.{no_spot, word_lang, sign_lang, ident_lang, word_reader, sign_reader, ident_reader}
use Rattle.c_reading.proofs.Commas.{commas_lang, listed_lang, commas_reader, listed_reader}
use Rattle.c_reading.proofs.ReadExpr.{not_true}
use Rattle.c_reading.proofs.ReadValue.{some_ident}
use Rattle.c_reading.proofs.ReadDecl.{size_lang, size_reader, some_size, holds_lang, holds_reader, holds_good, declared_lang, declared_reader, set_lang, set_reader, ends_declared, no_assign}
use Rattle.c_reading.proofs.ReadHead.{no_qualifier, qualifiers_lang, qualifiers_reader, name_lang, name_reader, head_end_lang, head_end_reader, head_end_stops, head_tail_lang, head_tail_reader}
use Rattle.c_reading.proofs.ReadLine.{directive_lang, directive_reader}

-- ---- global variables

abbrev no_minus : Option Token → Bool
no_minus h = not (holds (is_sign s.Minus) h)

abbrev minus_lang : Lang Token (Option Spot)
minus_lang = optional (sign_lang s.Minus 0) no_minus

abbrev signed_lang : Lang Token (Option Spot × Size)
signed_lang = pair minus_lang (size_lang 0) (λ _ _. true)

size_no_minus : (x : Size) (h : Option Token) → no_minus (first (toks (size_lang 0) x) h) ≡ true
size_no_minus (Count n) h = refl
size_no_minus (Named x) h = refl

signed_reader : (limit : ℕ) → IsReader limit signed_lang (seq (maybe_read (is_sign s.Minus) (read_sign s.Minus)) read_size)
signed_reader limit = seq_reader limit minus_lang (size_lang 0) (λ _ _. true) _ read_size
    (maybe_reader limit (is_sign s.Minus) (sign_lang s.Minus 0) no_minus (read_sign s.Minus) (sign_reader limit 0 (omega arith) s.Minus) (λ a h g. refl) (λ h e. not_true _ e) (λ a h g e. refl)) (size_reader limit 0 (omega arith)) (λ a b h g1 g2 e. (size_no_minus b h, refl)) some_size refl

abbrev global_tail : Lang Token (Declared (Option Spot × Size))
global_tail = declared_lang 0 signed_lang

global_tail_reader : (limit : ℕ) → IsReader limit global_tail read_global_tail
global_tail_reader limit = declared_reader 0 signed_lang limit (omega arith) _ (signed_reader limit) (None, some_size) refl

global_tail_good : (x : Declared (Option Spot × Size)) → global_tail.good x ≡ true
global_tail_good (inl (at, (None, n))) = refl
global_tail_good (inl (at, (Some m, n))) = refl
global_tail_good (inr None) = refl
global_tail_good (inr (Some n)) = refl

abbrev global_int_lang : Lang Token GlobalInt
global_int_lang = record { marks = global_int_marks 0; good = λ _. true; stops = λ _ h. ends_declared h }

abbrev pub global_int_parts : Lang Token (Ident × Declared (Option Spot × Size))
global_int_parts = pair (ident_lang 0) global_tail (λ x h. global_tail.stops x.1 h)

abbrev global_int_to : GlobalInt → Ident × Declared (Option Spot × Size)
global_int_to (OneGlobal x) = (x, inr None)
global_int_to (SetGlobal x at minus n) = (x, inl (at, (minus, n)))
global_int_to (GlobalArray x before n after) = (x, inr (Some (before, (n, after))))

global_int_back : (x : GlobalInt) → global_int_from (global_int_to x) ≡ x
global_int_back (OneGlobal x) = refl
global_int_back (SetGlobal x at minus n) = refl
global_int_back (GlobalArray x before n after) = refl

pub global_int_marks_is : (x : Ident × Declared (Option Spot × Size)) → global_int_marks 0 (global_int_from x) ≡ global_int_parts.marks x
global_int_marks_is (x, inl (at, (None, n))) = refl
global_int_marks_is (x, inl (at, (Some m, n))) = refl
global_int_marks_is (x, inr None) = refl
global_int_marks_is (x, inr (Some n)) = refl

global_int_stops : (x : GlobalInt) (h : Option Token) → ends_declared h ≡ true → global_int_parts.stops (global_int_to x) h ≡ true
global_int_stops (OneGlobal x) h e = e
global_int_stops (SetGlobal x at minus n) h e = refl
global_int_stops (GlobalArray x before n after) h e = e

global_int_reader : (limit : ℕ) → IsReader limit global_int_lang read_global_int
global_int_reader limit = map_reader limit global_int_parts global_int_lang global_int_from global_int_to
    (record { back = λ x g. global_int_back x; good_back = λ x g. global_tail_good (global_int_to x).1; marks = λ x g. global_int_marks_is x; good = λ x g. refl; stops = λ x h g e. global_int_stops x h e }) _
    (seq_reader limit (ident_lang 0) global_tail (λ x h. global_tail.stops x.1 h) read_ident read_global_tail (ident_reader limit 0 (omega arith)) (global_tail_reader limit) (λ a b h g1 g2 e. (refl, e)) (inr None) refl)

abbrev ends_globals : Option Token → Bool
ends_globals h = ends_declared h && not (holds (is_sign s.Comma) h)

abbrev more_ints : Lang Token (List (Spot × GlobalInt))
more_ints = commas_lang 0 global_int_lang ends_globals

more_ints_good : (xs : List (Spot × GlobalInt)) → more_ints.good xs ≡ true
more_ints_good [] = refl
more_ints_good (x ∷ xs) = more_ints_good xs

abbrev pub globals_tail_lang : Lang Token GlobalTail
globals_tail_lang = pair global_tail (pair more_ints (sign_lang s.Semicolon 0) (λ _ _. true)) (λ _ _. true)

globals_fits : (a : Declared (Option Spot × Size)) (b : List (Spot × GlobalInt) × Spot) (h : Option Token) → global_tail.stops a (first (toks (pair more_ints (sign_lang s.Semicolon 0) (λ _ _. true)) b) h) ≡ true
globals_fits (inl v) b h = refl
globals_fits (inr n) ([], at) h = refl
globals_fits (inr n) (x ∷ xs, at) h = refl

globals_tail_reader : (limit : ℕ) → IsReader limit globals_tail_lang read_globals_tail
globals_tail_reader limit = seq_reader limit global_tail (pair more_ints (sign_lang s.Semicolon 0) (λ _ _. true)) (λ _ _. true) read_global_tail _ (global_tail_reader limit)
    (seq_reader limit more_ints (sign_lang s.Semicolon 0) (λ _ _. true) (commas read_global_int) read_semicolon
    (commas_reader 0 global_int_lang ends_globals limit (omega arith) read_global_int (global_int_reader limit) (OneGlobal some_ident) refl (λ a at g. refl) (λ a h g e. (and_parts _ _ e).0) (λ h e. not_true _ (and_parts _ _ e).1))
    (sign_reader limit 0 (omega arith) s.Semicolon) (λ a b h g1 g2 e. (refl, refl)) no_spot refl)
    (λ a b h g1 g2 e. (globals_fits a b h, refl)) ([], no_spot) refl

pub globals_tail_good : (x : GlobalTail) → globals_tail_lang.good x ≡ true
globals_tail_good x = and_from _ _ (global_tail_good x.0) (and_from _ _ (more_ints_good x.1.0) refl)

tail_no_paren : (c : GlobalTail) (h : Option Token) → holds is_paren (first (toks globals_tail_lang c) h) ≡ false
tail_no_paren (inl v, y) h = refl
tail_no_paren (inr (Some n), y) h = refl
tail_no_paren (inr None, ([], at)) h = refl
tail_no_paren (inr None, (x ∷ xs, at)) h = refl

-- ---- behind the first name of an `int`

abbrev int_tail_lang : Bool → Lang Token (HeadTail ⊎ GlobalTail)
int_tail_lang heads = record {
  marks = λ x. elim x [ inl t ↦ head_tail_lang.marks t | inr t ↦ globals_tail_lang.marks t ];
  good = λ x. elim x [ inl t ↦ heads && head_tail_lang.good t | inr t ↦ globals_tail_lang.good t ];
  stops = λ x h. true;
}

abbrev tail_of : HeadTail ⊎ GlobalTail → GlobalTail
tail_of (inl t) = (inr None, ([], no_spot))
tail_of (inr t) = t

int_tail_reader : (limit : ℕ) (heads : Bool) → IsReader limit (int_tail_lang heads) (int_tail_at heads limit)
int_tail_reader limit true = alt_reader limit is_paren head_tail_lang globals_tail_lang (λ _ _. true) (head_tail_at limit) read_globals_tail
    (record { one = λ a h g. refl; other = λ c h g e. tail_no_paren c h; stops_one = λ a h g e. refl; stops_other = λ c h g e. refl }) (head_tail_reader limit) (globals_tail_reader limit)
int_tail_reader limit false = map_reader limit globals_tail_lang (int_tail_lang false) inr tail_of
    (record {
      back = elim [ inl t ↦ λ g. absurd cc | inr t ↦ λ g. refl ];
      good_back = elim [ inl t ↦ λ g. absurd cc | inr t ↦ λ g. g ];
      marks = λ t g. refl;
      good = λ t g. g;
      stops = λ t h g e. refl;
    }) _ (globals_tail_reader limit)

abbrev ints_lang : Bool → Lang Token IntParts
ints_lang heads = pair (word_lang w.Int 0) (pair (ident_lang 0) (int_tail_lang heads) (λ _ _. true)) (λ _ _. true)

ints_reader : (limit : ℕ) (heads : Bool) → IsReader limit (ints_lang heads) (seq (read_word w.Int) (seq read_ident (int_tail_at heads limit)))
ints_reader limit heads = seq_reader limit (word_lang w.Int 0) (pair (ident_lang 0) (int_tail_lang heads) (λ _ _. true)) (λ _ _. true) (read_word w.Int) _ (word_reader limit 0 (omega arith) w.Int)
    (seq_reader limit (ident_lang 0) (int_tail_lang heads) (λ _ _. true) read_ident _ (ident_reader limit 0 (omega arith)) (int_tail_reader limit heads) (λ a b h g1 g2 e. (refl, refl)) (inr (inr None, ([], no_spot))) refl)
    (λ a b h g1 g2 e. (refl, refl)) (some_ident, inr (inr None, ([], no_spot))) refl

-- ---- threads, mutexes and condition variables

abbrev pub hold_parts_lang : Lang Token HoldParts
hold_parts_lang = pair (holds_lang 0) (sign_lang s.Semicolon 0) (λ _ _. true)

hold_parts_reader : (limit : ℕ) → IsReader limit hold_parts_lang read_holds
hold_parts_reader limit = seq_reader limit (holds_lang 0) (sign_lang s.Semicolon 0) (λ _ _. true) _ read_semicolon (holds_reader limit 0 (omega arith)) (sign_reader limit 0 (omega arith) s.Semicolon) (λ a b h g1 g2 e. (refl, refl)) no_spot refl

pub hold_parts_good : (x : HoldParts) → hold_parts_lang.good x ≡ true
hold_parts_good x = and_from _ _ (holds_good 0 x.0.1.1) refl

abbrev value_lang : Lang Token (Spot × Spot)
value_lang = set_lang 0 (word_lang w.MutexInitializer 0)

abbrev mutex_lang : Lang Token GlobalMutex
mutex_lang = record { marks = global_mutex_marks 0; good = λ _. true; stops = λ _ h. no_assign h }

abbrev mutex_parts : Lang Token (Ident × Option (Spot × Spot))
mutex_parts = pair (ident_lang 0) (optional value_lang no_assign) (λ _ h. no_assign h)

abbrev mutex_to : GlobalMutex → Ident × Option (Spot × Spot)
mutex_to (OneMutex x) = (x, None)
mutex_to (SetMutex x at value) = (x, Some (at, value))

mutex_back : (x : GlobalMutex) → global_mutex_from (mutex_to x) ≡ x
mutex_back (OneMutex x) = refl
mutex_back (SetMutex x at value) = refl

mutex_marks_is : (x : Ident × Option (Spot × Spot)) → global_mutex_marks 0 (global_mutex_from x) ≡ mutex_parts.marks x
mutex_marks_is (x, None) = refl
mutex_marks_is (x, Some v) = refl

mutex_good_is : (x : Ident × Option (Spot × Spot)) → true ≡ mutex_parts.good x
mutex_good_is (x, None) = refl
mutex_good_is (x, Some v) = refl

mutex_reader : (limit : ℕ) → IsReader limit mutex_lang read_global_mutex
mutex_reader limit = map_reader limit mutex_parts mutex_lang global_mutex_from mutex_to (same_all mutex_parts mutex_lang global_mutex_from mutex_to mutex_back mutex_marks_is mutex_good_is (λ x h e. e)) _
    (seq_reader limit (ident_lang 0) (optional value_lang no_assign) (λ _ h. no_assign h) read_ident _ (ident_reader limit 0 (omega arith))
    (maybe_reader limit is_assign value_lang no_assign _ (set_reader 0 (word_lang w.MutexInitializer 0) limit (omega arith) (read_word w.MutexInitializer) (word_reader limit 0 (omega arith) w.MutexInitializer) no_spot refl) (λ a h g. refl) (λ h e. not_true _ e) (λ a h g e. refl)) (λ a b h g1 g2 e. (refl, e)) None refl)

abbrev ends_mutexes : Option Token → Bool
ends_mutexes h = no_assign h && not (holds (is_sign s.Comma) h)

abbrev pub mutexes_lang : Lang Token MutexParts
mutexes_lang = pair (pair (word_lang w.Mutex 0) (listed_lang 0 mutex_lang ends_mutexes) (λ _ h. ends_mutexes h)) (sign_lang s.Semicolon 0) (λ _ _. true)

mutexes_reader : (limit : ℕ) → IsReader limit mutexes_lang read_mutexes
mutexes_reader limit = seq_reader limit _ (sign_lang s.Semicolon 0) (λ _ _. true) _ read_semicolon
    (seq_reader limit (word_lang w.Mutex 0) (listed_lang 0 mutex_lang ends_mutexes) (λ _ h. ends_mutexes h) (read_word w.Mutex) _ (word_reader limit 0 (omega arith) w.Mutex)
    (listed_reader 0 mutex_lang ends_mutexes limit (omega arith) read_global_mutex (mutex_reader limit) (OneMutex some_ident) refl (λ a at g. refl) (λ a h g e. (and_parts _ _ e).0) (λ h e. not_true _ (and_parts _ _ e).1)) (λ a b h g1 g2 e. (refl, e)) (OneMutex some_ident, []) refl)
    (sign_reader limit 0 (omega arith) s.Semicolon) (λ a b h g1 g2 e. (refl, refl)) no_spot refl

more_mutexes_good : (xs : List (Spot × GlobalMutex)) → (commas_lang 0 mutex_lang ends_mutexes).good xs ≡ true
more_mutexes_good [] = refl
more_mutexes_good (x ∷ xs) = more_mutexes_good xs

pub mutexes_good : (x : MutexParts) → mutexes_lang.good x ≡ true
mutexes_good x = and_from _ _ (more_mutexes_good x.0.1.1) refl

abbrev initial_lang : Lang Token (Spot × Spot)
initial_lang = set_lang 0 (word_lang w.CondInitializer 0)

abbrev cond_lang : Lang Token GlobalCond
cond_lang = record { marks = global_cond_marks 0; good = λ _. true; stops = λ _ h. no_assign h }

abbrev cond_parts : Lang Token (Ident × Option (Spot × Spot))
cond_parts = pair (ident_lang 0) (optional initial_lang no_assign) (λ _ h. no_assign h)

abbrev cond_to : GlobalCond → Ident × Option (Spot × Spot)
cond_to (OneCond x) = (x, None)
cond_to (SetCond x at value) = (x, Some (at, value))

cond_back : (x : GlobalCond) → global_cond_from (cond_to x) ≡ x
cond_back (OneCond x) = refl
cond_back (SetCond x at value) = refl

cond_marks_is : (x : Ident × Option (Spot × Spot)) → global_cond_marks 0 (global_cond_from x) ≡ cond_parts.marks x
cond_marks_is (x, None) = refl
cond_marks_is (x, Some v) = refl

cond_good_is : (x : Ident × Option (Spot × Spot)) → true ≡ cond_parts.good x
cond_good_is (x, None) = refl
cond_good_is (x, Some v) = refl

cond_reader : (limit : ℕ) → IsReader limit cond_lang read_global_cond
cond_reader limit = map_reader limit cond_parts cond_lang global_cond_from cond_to (same_all cond_parts cond_lang global_cond_from cond_to cond_back cond_marks_is cond_good_is (λ x h e. e)) _
    (seq_reader limit (ident_lang 0) (optional initial_lang no_assign) (λ _ h. no_assign h) read_ident _ (ident_reader limit 0 (omega arith))
    (maybe_reader limit is_assign initial_lang no_assign _ (set_reader 0 (word_lang w.CondInitializer 0) limit (omega arith) (read_word w.CondInitializer) (word_reader limit 0 (omega arith) w.CondInitializer) no_spot refl) (λ a h g. refl) (λ h e. not_true _ e) (λ a h g e. refl)) (λ a b h g1 g2 e. (refl, e)) None refl)

abbrev ends_conds : Option Token → Bool
ends_conds h = no_assign h && not (holds (is_sign s.Comma) h)

abbrev pub conds_lang : Lang Token CondParts
conds_lang = pair (pair (word_lang w.Cond 0) (listed_lang 0 cond_lang ends_conds) (λ _ h. ends_conds h)) (sign_lang s.Semicolon 0) (λ _ _. true)

conds_reader : (limit : ℕ) → IsReader limit conds_lang read_conds
conds_reader limit = seq_reader limit _ (sign_lang s.Semicolon 0) (λ _ _. true) _ read_semicolon
    (seq_reader limit (word_lang w.Cond 0) (listed_lang 0 cond_lang ends_conds) (λ _ h. ends_conds h) (read_word w.Cond) _ (word_reader limit 0 (omega arith) w.Cond)
    (listed_reader 0 cond_lang ends_conds limit (omega arith) read_global_cond (cond_reader limit) (OneCond some_ident) refl (λ a at g. refl) (λ a h g e. (and_parts _ _ e).0) (λ h e. not_true _ (and_parts _ _ e).1)) (λ a b h g1 g2 e. (refl, e)) (OneCond some_ident, []) refl)
    (sign_reader limit 0 (omega arith) s.Semicolon) (λ a b h g1 g2 e. (refl, refl)) no_spot refl

more_conds_good : (xs : List (Spot × GlobalCond)) → (commas_lang 0 cond_lang ends_conds).good xs ≡ true
more_conds_good [] = refl
more_conds_good (x ∷ xs) = more_conds_good xs

pub conds_good : (x : CondParts) → conds_lang.good x ≡ true
conds_good x = and_from _ _ (more_conds_good x.0.1.1) refl

-- ---- heads that begin with `void`

abbrev pub thread_head_lang : Lang Token ThreadHeadParts
thread_head_lang = (pair (sign_lang s.Star 0) (pair (ident_lang 0) (pair (sign_lang s.OpenParen 0) (pair (word_lang w.Void 0) (pair (sign_lang s.Star 0) (pair name_lang (pair (sign_lang s.CloseParen 0) head_end_lang (λ _ _. true)) (λ _ _. true)) (λ _ _. true)) (λ _ _. true)) (λ _ _. true)) (λ _ _. true)) (λ _ _. true))

thread_head_reader : (limit : ℕ) → IsReader limit thread_head_lang (thread_head_at limit)
thread_head_reader limit =
    seq_reader limit _ _ (λ _ _. true) (read_sign s.Star) _ (sign_reader limit 0 (omega arith) s.Star)
    (seq_reader limit _ _ (λ _ _. true) read_ident _ (ident_reader limit 0 (omega arith))
    (seq_reader limit _ _ (λ _ _. true) (read_sign s.OpenParen) _ (sign_reader limit 0 (omega arith) s.OpenParen)
    (seq_reader limit _ _ (λ _ _. true) (read_word w.Void) _ (word_reader limit 0 (omega arith) w.Void)
    (seq_reader limit _ _ (λ _ _. true) (read_sign s.Star) _ (sign_reader limit 0 (omega arith) s.Star)
    (seq_reader limit _ _ (λ _ _. true) (maybe_read is_name read_ident) _ (name_reader limit)
    (seq_reader limit (sign_lang s.CloseParen 0) head_end_lang (λ _ _. true) (read_sign s.CloseParen) (head_end_at limit) (sign_reader limit 0 (omega arith) s.CloseParen) (head_end_reader limit) (λ a b k g1 g2 e. (refl, head_end_stops b k)) (inl no_spot) refl)
    (λ a b k g1 g2 e. (refl, refl)) (no_spot, (inl no_spot)) refl)
    (λ a b k g1 g2 e. (refl, refl)) (None, (no_spot, (inl no_spot))) refl)
    (λ a b k g1 g2 e. (refl, refl)) (no_spot, (None, (no_spot, (inl no_spot)))) refl)
    (λ a b k g1 g2 e. (refl, refl)) (no_spot, (no_spot, (None, (no_spot, (inl no_spot))))) refl)
    (λ a b k g1 g2 e. (refl, refl)) (no_spot, (no_spot, (no_spot, (None, (no_spot, (inl no_spot)))))) refl)
    (λ a b k g1 g2 e. (refl, refl)) (some_ident, (no_spot, (no_spot, (no_spot, (None, (no_spot, (inl no_spot))))))) refl

abbrev named_head : Lang Token (Ident × HeadTail)
named_head = pair (ident_lang 0) head_tail_lang (λ _ _. true)

abbrev void_lang : Lang Token VoidParts
void_lang = pair (word_lang w.Void 0) (choice thread_head_lang named_head) (λ _ _. true)

void_stops : (x : ThreadHeadParts ⊎ (Ident × HeadTail)) (h : Option Token) → (choice thread_head_lang named_head).stops x h ≡ true
void_stops (inl x) h = refl
void_stops (inr x) h = refl

void_reader : (limit : ℕ) → IsReader limit void_lang (void_at limit)
void_reader limit = seq_reader limit (word_lang w.Void 0) (choice thread_head_lang named_head) (λ _ _. true) (read_word w.Void) _ (word_reader limit 0 (omega arith) w.Void)
    (choice_reader limit (is_sign s.Star) thread_head_lang named_head _ _ (λ a h g. refl) (λ c h g e. refl) (thread_head_reader limit)
    (seq_reader limit (ident_lang 0) head_tail_lang (λ _ _. true) read_ident (head_tail_at limit) (ident_reader limit 0 (omega arith)) (head_tail_reader limit) (λ a b h g1 g2 e. (refl, refl)) (no_spot, (NoParams, (no_spot, inl no_spot))) refl))
    (λ a b h g1 g2 e. (refl, void_stops b h)) (inr (some_ident, (no_spot, (NoParams, (no_spot, inl no_spot))))) refl

-- ---- behind the qualifiers

abbrev last_lang : Bool → Lang Token (VoidParts ⊎ CondParts)
last_lang heads = record {
  marks = λ x. elim x [ inl v ↦ void_lang.marks v | inr c ↦ conds_lang.marks c ];
  good = λ x. elim x [ inl v ↦ heads && void_lang.good v | inr c ↦ conds_lang.good c ];
  stops = λ x h. true;
}

abbrev conds_of : VoidParts ⊎ CondParts → CondParts
conds_of (inl v) = ((no_spot, (OneCond some_ident, [])), no_spot)
conds_of (inr c) = c

last_reader : (limit : ℕ) (heads : Bool) → IsReader limit (last_lang heads) (last_at heads limit)
last_reader limit true = alt_reader limit (is_word w.Void) void_lang conds_lang (λ _ _. true) (void_at limit) read_conds
    (record { one = λ a h g. refl; other = λ c h g e. refl; stops_one = λ a h g e. refl; stops_other = λ c h g e. refl }) (void_reader limit) (conds_reader limit)
last_reader limit false = map_reader limit conds_lang (last_lang false) inr conds_of
    (record {
      back = elim [ inl v ↦ λ g. absurd cc | inr c ↦ λ g. refl ];
      good_back = elim [ inl v ↦ λ g. absurd cc | inr c ↦ λ g. g ];
      marks = λ t g. refl;
      good = λ t g. g;
      stops = λ t h g e. refl;
    }) _ (conds_reader limit)

abbrev mutex_rest : Bool → Lang Token (MutexParts ⊎ (VoidParts ⊎ CondParts))
mutex_rest heads = sum mutexes_lang (last_lang heads) (λ _ _. true)

abbrev body_rest : Bool → Lang Token (HoldParts ⊎ (MutexParts ⊎ (VoidParts ⊎ CondParts)))
body_rest heads = sum hold_parts_lang (mutex_rest heads) (λ _ _. true)

abbrev body_lang : Bool → Lang Token Body
body_lang heads = sum (ints_lang heads) (body_rest heads) (λ _ _. true)

rest_no_int : (heads : Bool) (c : HoldParts ⊎ (MutexParts ⊎ (VoidParts ⊎ CondParts))) (h : Option Token) → holds (is_word w.Int) (first (toks (body_rest heads) c) h) ≡ false
rest_no_int heads (inl x) h = refl
rest_no_int heads (inr (inl m)) h = refl
rest_no_int heads (inr (inr (inl v))) h = refl
rest_no_int heads (inr (inr (inr c))) h = refl

rest_no_thread : (heads : Bool) (c : MutexParts ⊎ (VoidParts ⊎ CondParts)) (h : Option Token) → holds (is_word w.Thread) (first (toks (mutex_rest heads) c) h) ≡ false
rest_no_thread heads (inl m) h = refl
rest_no_thread heads (inr (inl v)) h = refl
rest_no_thread heads (inr (inr c)) h = refl

last_no_mutex : (heads : Bool) (c : VoidParts ⊎ CondParts) (h : Option Token) → holds (is_word w.Mutex) (first (toks (last_lang heads) c) h) ≡ false
last_no_mutex heads (inl v) h = refl
last_no_mutex heads (inr c) h = refl

body_reader : (limit : ℕ) (heads : Bool) → IsReader limit (body_lang heads) (body_at heads limit)
body_reader limit heads = alt_reader limit (is_word w.Int) (ints_lang heads) (body_rest heads) (λ _ _. true) _ _
    (record { one = λ a h g. refl; other = λ c h g e. rest_no_int heads c h; stops_one = λ a h g e. refl; stops_other = λ c h g e. refl }) (ints_reader limit heads)
    (alt_reader limit (is_word w.Thread) hold_parts_lang (mutex_rest heads) (λ _ _. true) read_holds _
    (record { one = λ a h g. refl; other = λ c h g e. rest_no_thread heads c h; stops_one = λ a h g e. refl; stops_other = λ c h g e. refl }) (hold_parts_reader limit)
    (alt_reader limit (is_word w.Mutex) mutexes_lang (last_lang heads) (λ _ _. true) read_mutexes (last_at heads limit)
    (record { one = λ a h g. refl; other = λ c h g e. last_no_mutex heads c h; stops_one = λ a h g e. refl; stops_other = λ c h g e. refl }) (mutexes_reader limit) (last_reader limit heads)))

body_no_qualifier : (heads : Bool) (x : Body) (h : Option Token) → no_qualifier (first (toks (body_lang heads) x) h) ≡ true
body_no_qualifier heads (inl x) h = refl
body_no_qualifier heads (inr (inl x)) h = refl
body_no_qualifier heads (inr (inr (inl m))) h = refl
body_no_qualifier heads (inr (inr (inr (inl v)))) h = refl
body_no_qualifier heads (inr (inr (inr (inr c)))) h = refl

abbrev pub declared_lang_of : Lang Token (Qualifiers × Body)
declared_lang_of = pair_dep qualifiers_lang (λ q. body_lang (heads_allowed q)) (λ _ _. true)

declared_top_reader : (limit : ℕ) → IsReader limit declared_lang_of (seq_dep read_qualifiers (λ q. body_at (heads_allowed q) limit))
declared_top_reader limit = dep_reader limit qualifiers_lang (λ q. body_lang (heads_allowed q)) (λ _ _. true) read_qualifiers (λ q. body_at (heads_allowed q) limit) (qualifiers_reader limit) (λ q. body_reader limit (heads_allowed q))
    (λ a b h g1 g2 e. (body_no_qualifier (heads_allowed a) b h, refl)) (λ q. inr (inl ((no_spot, (OneThread some_ident, [])), no_spot))) (λ q. refl)

abbrev pub top_parts : Lang Token TopParts
top_parts = sum directive_lang declared_lang_of (λ _ _. true)

body_no_hash : (heads : Bool) (x : Body) (h : Option Token) → holds (is_sign s.Hash) (first (toks (body_lang heads) x) h) ≡ false
body_no_hash heads (inl x) h = refl
body_no_hash heads (inr (inl x)) h = refl
body_no_hash heads (inr (inr (inl m))) h = refl
body_no_hash heads (inr (inr (inr (inl v)))) h = refl
body_no_hash heads (inr (inr (inr (inr c)))) h = refl

declared_no_hash : (x : Qualifiers × Body) (h : Option Token) → holds (is_sign s.Hash) (first (toks declared_lang_of x) h) ≡ false
declared_no_hash ([], x) h = body_no_hash true x h
declared_no_hash ((q, at) ∷ more, x) h = refl

pub top_parts_reader : (limit : ℕ) → IsReader limit top_parts (alt (is_sign s.Hash) read_directive (seq_dep read_qualifiers (λ q. body_at (heads_allowed q) limit)))
top_parts_reader limit = alt_reader limit (is_sign s.Hash) directive_lang declared_lang_of (λ _ _. true) read_directive _
    (record { one = λ a h g. refl; other = λ c h g e. declared_no_hash c h; stops_one = λ a h g e. refl; stops_other = λ c h g e. refl }) (directive_reader limit) (declared_top_reader limit)
