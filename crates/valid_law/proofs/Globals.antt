-- The numbers and the lengths of global variables.
use Rattle.std.proofs.Common.{◌≡◌, ℕ, ℤ, pos, negsuc, neg_ℤ, ◌==◌, nat_lt, true, ◌||◌, List, [], ◌∷◌, ◌++◌, Option, Some, None, refl, ◌∙◌, arith}
use Rattle.std.proofs.lemmas.Bool.{or_parts}
use Rattle.std.proofs.lemmas.Bool.Decides.{nat_tests}
use Rattle.std.proofs.lemmas.List.Folds.{list_all-map}
use Rattle.std.specs.List.{list_all}
use Rattle.cfix_base.specs.declared.limits.TheConstants.{MAX_ARRAY_LENGTH}
use Rattle.cfix_base.specs.declared.Spot.{Spot}
use Rattle.c_grammar.specs.declared.word.Word.TheVariants as w
use Rattle.c_grammar.specs.declared.sign.Sign.TheVariants as s
use Rattle.c_grammar.specs.Marks.{each}
use Rattle.c_grammar.specs.Token.{ident, word, sign, Mark}
use Rattle.c_grammar.specs.Decl.{Size, Count, Named, size_marks, Hold, OneThread, Threads, hold_marks, more_holds_marks, GlobalInt, OneGlobal, SetGlobal, GlobalArray, minus_marks, global_int_marks, GlobalMutex, OneMutex, SetMutex, GlobalCond, OneCond, SetCond, Globals, GlobalInts, GlobalHolds, GlobalMutexes, GlobalConds, globals_marks, qualifiers_marks}
use Rattle.c_grammar.specs.File.{Top, Include, Define, Variables, Prototype, Function, File, top_marks, file_marks}
use Rattle.c_prog.specs.Valid.Acts.{is_length}
use Rattle.c_prog.specs.Valid.Expressions.{is_number}
use Rattle.c_prog.specs.Valid.Functions.{is_initial_number, is_valid_global}
use Rattle.c_names.specs.Uses.{Meaning, OfVariable, OfFunction, OfNumber, Names, defined_number}
use Rattle.c_names.specs.Names.{number_or_one, size_number, size_length, length_faults}
use Rattle.c_names.specs.Scopes.{listed}
use Rattle.c_names.specs.Declarations.{names_of}
use Rattle.c_names.specs.Files.{variable_faults, number_faults, global_int_faults, global_hold_faults, globals_faults, top_faults}
use Rattle.c_names.specs.Sources.{signed, global_int_of, global_hold_of, global_mutex_of, global_cond_of, globals_of, top_globals, source_of}
use Rattle.valid_law.specs.Lexical.{are_lexical}
use Rattle.valid_law.proofs.Faultless.{none-left, none-right, no_fault}
use Rattle.valid_law.proofs.Lexical.{passes-each, lexical-all, lexical-left, lexical-right, lexical-tail, lexical-parts}
use Rattle.valid_law.proofs.FileNames.{lexical-listed}

-- the names that stand for numbers stand for such as a text spells
abbrev pub AreNumbers : Names → Type 0
AreNumbers names = (text : List ℕ) (value : ℤ) → (names text).first ≡ Some (OfNumber value) → is_number value ≡ true

-- ---- numbers in declarators

defined-by : (first : Option Meaning) → ((value : ℤ) → first ≡ Some (OfNumber value) → is_number value ≡ true) → is_number (number_or_one (defined_number first)) ≡ true
defined-by None h = refl
defined-by (Some (OfVariable n kind)) h = refl
defined-by (Some (OfFunction n kind params)) h = refl
defined-by (Some (OfNumber value)) h = h value refl

-- the number that a size spells
pub size-number : (names : Names) → AreNumbers names → (d : ℕ) (size : Size) → are_lexical (size_marks d size) ≡ true → is_number (size_number names size) ≡ true
size-number names numbers d (Count n) l = (lexical-parts (size_marks d (Count n)) l).0
size-number names numbers d (Named x) l = defined-by (names x.text).first (λ value h. numbers x.text value h)

plain-initial : (z : ℤ) → is_number z ≡ true → is_initial_number z ≡ true
plain-initial (pos n) h = grind (arith, nat_tests)
plain-initial (negsuc n) h = grind (arith, nat_tests)

minus-initial : (z : ℤ) → is_number z ≡ true → is_initial_number (neg_ℤ z) ≡ true
minus-initial (pos n) h = grind (arith, nat_tests)
minus-initial (negsuc n) h = grind (arith, nat_tests)

signed-initial : (minus : Option Spot) (z : ℤ) → is_number z ≡ true → is_initial_number (signed minus z) ≡ true
signed-initial None z h = plain-initial z h
signed-initial (Some at) z h = minus-initial z h

-- the length of an array
pub small-length : (n : ℕ) (spot : Spot) → length_faults n spot ≡ [] → is_length n ≡ true
small-length n spot e =
    let small = (or_parts (n == 0) (nat_lt MAX_ARRAY_LENGTH n) (no_fault (n == 0 || nat_lt MAX_ARRAY_LENGTH n) spot _ e)).1 in
    grind (arith, nat_tests, small)

-- ---- declared variables

int-valid : (names : Names) → AreNumbers names → (x : GlobalInt) → are_lexical (global_int_marks 0 x) ≡ true → global_int_faults names x ≡ [] → is_valid_global (global_int_of names x).kind ≡ true
int-valid names numbers (OneGlobal x) l e = refl
int-valid names numbers (SetGlobal x at minus n) l e =
    let behind : List Mark = (sign s.Assign at, 0) ∷ (minus_marks 0 minus ++ size_marks 0 n) in
    signed-initial minus (size_number names n)
    (size-number names numbers 0 n (lexical-right (minus_marks 0 minus) (size_marks 0 n) (lexical-tail (sign s.Assign at, 0) (minus_marks 0 minus ++ size_marks 0 n) (lexical-tail (ident x, 0) behind l))))
int-valid names numbers (GlobalArray x before n after) l e =
    small-length (size_length names n) x.spot
    (none-left (length_faults (size_length names n) x.spot) (number_faults names n) (none-right (variable_faults x) (length_faults (size_length names n) x.spot ++ number_faults names n) e))

hold-valid : (names : Names) (x : Hold) → are_lexical (hold_marks 0 x) ≡ true → global_hold_faults names x ≡ [] → is_valid_global (global_hold_of names x).kind ≡ true
hold-valid names (OneThread x) l e = refl
hold-valid names (Threads x before n after) l e =
    small-length (size_length names n) x.spot
    (none-left (length_faults (size_length names n) x.spot) (number_faults names n) (none-right (variable_faults x) (length_faults (size_length names n) x.spot ++ number_faults names n) e))

mutexes-valid : (xs : List GlobalMutex) → list_all (λ x. is_valid_global (global_mutex_of x).kind) xs ≡ true
mutexes-valid [] = refl
mutexes-valid (OneMutex x ∷ more) = mutexes-valid more
mutexes-valid (SetMutex x at value ∷ more) = mutexes-valid more

conds-valid : (xs : List GlobalCond) → list_all (λ x. is_valid_global (global_cond_of x).kind) xs ≡ true
conds-valid [] = refl
conds-valid (OneCond x ∷ more) = conds-valid more
conds-valid (SetCond x at value ∷ more) = conds-valid more

-- each variable of a declaration
declaration-valid : (names : Names) → AreNumbers names → (list : Globals) → are_lexical (globals_marks 0 list) ≡ true → globals_faults names list ≡ []
    → list_all (λ global. is_valid_global global.kind) (globals_of names list) ≡ true
declaration-valid names numbers (GlobalInts at x more) l e =
    list_all-map (λ global. is_valid_global global.kind) (global_int_of names) (listed x more)
    ∙ passes-each (λ a. are_lexical (global_int_marks 0 a)) (λ a. is_valid_global (global_int_of names a).kind) (global_int_faults names) (int-valid names numbers) (listed x more)
    (lexical-listed 0 (global_int_marks 0) x more (lexical-tail (word w.Int at, 0) (global_int_marks 0 x ++ each (λ y. (sign s.Comma y.0, 0) ∷ global_int_marks 0 y.1) more) l)) e
declaration-valid names numbers (GlobalHolds at x more) l e =
    list_all-map (λ global. is_valid_global global.kind) (global_hold_of names) (listed x more)
    ∙ passes-each (λ a. are_lexical (hold_marks 0 a)) (λ a. is_valid_global (global_hold_of names a).kind) (global_hold_faults names) (hold-valid names) (listed x more)
    (lexical-listed 0 (hold_marks 0) x more (lexical-tail (word w.Thread at, 0) (hold_marks 0 x ++ more_holds_marks 0 more) l)) e
declaration-valid names numbers (GlobalMutexes at x more) l e =
    list_all-map (λ global. is_valid_global global.kind) global_mutex_of (listed x more) ∙ mutexes-valid (listed x more)
declaration-valid names numbers (GlobalConds at x more) l e =
    list_all-map (λ global. is_valid_global global.kind) global_cond_of (listed x more) ∙ conds-valid (listed x more)

top-valid : (names : Names) → AreNumbers names → (top : Top) → are_lexical (top_marks top) ≡ true → top_faults names top ≡ [] → list_all (λ global. is_valid_global global.kind) (top_globals names top) ≡ true
top-valid names numbers (Include at name header) l e = refl
top-valid names numbers (Define at name x value) l e = refl
top-valid names numbers (Variables qualifiers list end) l e =
    declaration-valid names numbers list (lexical-left (globals_marks 0 list) _ (lexical-right (qualifiers_marks 0 qualifiers) _ l)) e
top-valid names numbers (Prototype head end) l e = refl
top-valid names numbers (Function head before ops items after) l e = refl

-- the global variables of a file without faults
pub globals-valid : (file : File) → AreNumbers (names_of file) → are_lexical (file_marks file) ≡ true → each (top_faults (names_of file)) file ≡ []
    → list_all (λ global. is_valid_global global.kind) (source_of file).tree.globals ≡ true
globals-valid file numbers =
    lexical-all top_marks (top_faults (names_of file)) (top_globals (names_of file)) (λ global. is_valid_global global.kind) (top-valid (names_of file) numbers) file
