-- The names that a file declares are names, and none stands twice.
use Rattle.std.proofs.Common.{◌≡◌, ℕ, suc, ◌+◌, Bool, true, false, not, ◌||◌, List, [], ◌∷◌, ◌++◌, map, length, Option, refl, ap, sym, ◌∙◌, true≢false}
use Rattle.std.proofs.lemmas.Bool.{and_parts, and_from, or_parts, or_from, or_right, not-true}
use Rattle.std.proofs.lemmas.List.{map-append}
use Rattle.std.proofs.lemmas.List.Folds.{list_any-append, list_all-map}
use Rattle.std.specs.List.{list_all, list_any}
use Rattle.std.specs.Str.{bytes_eq}
use Rattle.cfix_base.specs.Words.{is_name_text, is_reserved_text}
use Rattle.cfix_base.specs.declared.Spot.{Spot}
use Rattle.c_grammar.specs.declared.word.Word.TheVariants as w
use Rattle.c_grammar.specs.declared.sign.Sign.TheVariants as s
use Rattle.c_grammar.specs.Marks.{each}
use Rattle.c_grammar.specs.Token.{Ident, ident, word, sign, Mark}
use Rattle.c_grammar.specs.Decl.{Hold, OneThread, Threads, hold_marks, more_holds_marks, GlobalInt, OneGlobal, SetGlobal, GlobalArray, global_int_marks, GlobalMutex, OneMutex, SetMutex, global_mutex_marks, GlobalCond, OneCond, SetCond, global_cond_marks, Globals, GlobalInts, GlobalHolds, GlobalMutexes, GlobalConds, globals_marks, qualifiers_marks}
use Rattle.c_grammar.specs.File.{Return, return_word, Params, params_marks, name_marks, static_marks, Head, PlainHead, ThreadHead, head_marks, Top, Include, Define, Variables, Prototype, Function, File, top_marks, file_marks}
use Rattle.c_prog.specs.declared.function.Function as fn
use Rattle.c_prog.specs.declared.global.Global.{Global}
use Rattle.c_prog.specs.Valid.Acts.{is_declared_name}
use Rattle.c_prog.specs.Valid.Functions.{are_distinct, are_declared_names, file_names}
use Rattle.c_names.specs.Uses.{Meaning, OfVariable, OfFunction, OfNumber, Names}
use Rattle.c_names.specs.Names.{reserved_faults}
use Rattle.c_names.specs.Scopes.{listed}
use Rattle.c_names.specs.Declarations.{Variable, global_int_variable, hold_variable, mutex_variable, cond_variable, variables, head_name, Declaration, numbered, declarations_from, declarations, is_of, is_declared, names_of}
use Rattle.c_names.specs.Files.{twice_faults, all_twice_faults, no_main_faults, variable_faults, global_int_faults, global_hold_faults, global_mutex_faults, global_cond_faults, globals_faults, top_faults}
use Rattle.c_names.specs.Sources.{globals_of, top_globals, top_functions_of, source_of}
use Rattle.valid_law.specs.Lexical.{are_lexical}
use Rattle.valid_law.proofs.Lexical.{passes-each, lexical-all, lexical-left, lexical-right, lexical-tail, lexical-parts}
use Rattle.valid_law.proofs.Faultless.{none-left, none-right, no_fault, all-append}
use Rattle.valid_law.proofs.Lookups.{bytes-same, bytes-refl, Pairs, pairs}

-- ---- no name is declared twice

-- the texts of declared names
abbrev pub texts : List Declaration → List (List ℕ)
texts list = map (λ d. d.0.text) list

-- this name stands among these
abbrev pub stands_in : List ℕ → List (List ℕ) → Bool
stands_in text names = list_any (bytes_eq text) names

pub declared-texts : (text : List ℕ) (list : List Declaration) → is_declared list text ≡ stands_in text (texts list)
declared-texts text [] = refl
declared-texts text (d ∷ more) = ap (λ z. bytes_eq text d.0.text || z) (declared-texts text more)

declared-front : (xs ys : List Declaration) (text : List ℕ) → is_declared xs text ≡ true → is_declared (xs ++ ys) text ≡ true
declared-front xs ys text h = list_any-append (is_of text) xs ys ∙ ap (λ z. z || is_declared ys text) h

pub declared-last : (xs : List Declaration) (d : Declaration) → is_declared (xs ++ d ∷ []) d.0.text ≡ true
declared-last xs d =
    list_any-append (is_of d.0.text) xs (d ∷ []) ∙ or_right (is_declared xs d.0.text) (is_declared (d ∷ []) d.0.text) (ap (λ z. z || false) (bytes-refl d.0.text))

apart-by : (before : List Declaration) (text : List ℕ) (d : Declaration) (b : Bool) → bytes_eq text d.0.text ≡ b → is_declared before text ≡ true → is_declared before d.0.text ≡ false → b ≡ false
apart-by before text d true e h n = absurd (true≢false (sym h ∙ ap (is_declared before) (bytes-same text d.0.text e) ∙ n))
apart-by before text d false e h n = refl

-- a name that is declared before does not stand behind
pub apart : (before list : List Declaration) (text : List ℕ) → all_twice_faults before list ≡ [] → is_declared before text ≡ true → stands_in text (texts list) ≡ false
apart before [] text e h = refl
apart before (d ∷ more) text e h =
    let first = no_fault (is_declared before d.0.text) d.0.spot _ (none-left (twice_faults before d.0) (all_twice_faults (before ++ d ∷ []) more) e) in
    or_from (bytes_eq text d.0.text) (stands_in text (texts more)) (apart-by before text d (bytes_eq text d.0.text) refl h first)
    (apart (before ++ d ∷ []) more text (none-right (twice_faults before d.0) (all_twice_faults (before ++ d ∷ []) more) e) (declared-front before (d ∷ []) text h))

pub distinct-texts : (before list : List Declaration) → all_twice_faults before list ≡ [] → are_distinct (texts list) ≡ true
distinct-texts before [] e = refl
distinct-texts before (d ∷ more) e =
    let rest = none-right (twice_faults before d.0) (all_twice_faults (before ++ d ∷ []) more) e in
    and_from _ _ (ap not (apart (before ++ d ∷ []) more d.0.text rest (declared-last before d))) (distinct-texts (before ++ d ∷ []) more rest)

-- ---- variables and functions apart

abbrev variable_text : List ℕ → Meaning → List (List ℕ)
variable_text text (OfVariable n kind) = text ∷ []
variable_text text (OfFunction n kind params) = []
variable_text text (OfNumber value) = []

abbrev function_text : List ℕ → Meaning → List (List ℕ)
function_text text (OfVariable n kind) = []
function_text text (OfFunction n kind params) = text ∷ []
function_text text (OfNumber value) = []

abbrev variable_texts : List Declaration → List (List ℕ)
variable_texts [] = []
variable_texts (d ∷ more) = variable_text d.0.text d.1 ++ variable_texts more

abbrev function_texts : List Declaration → List (List ℕ)
function_texts [] = []
function_texts (d ∷ more) = function_text d.0.text d.1 ++ function_texts more

not-variable : (text other : List ℕ) (m : Meaning) (vs : List (List ℕ)) → bytes_eq text other ≡ false → stands_in text vs ≡ false → stands_in text (variable_text other m ++ vs) ≡ false
not-variable text other (OfVariable n kind) vs e h = or_from _ _ e h
not-variable text other (OfFunction n kind params) vs e h = h
not-variable text other (OfNumber value) vs e h = h

not-function : (text other : List ℕ) (m : Meaning) (fs : List (List ℕ)) → bytes_eq text other ≡ false → stands_in text fs ≡ false → stands_in text (function_text other m ++ fs) ≡ false
not-function text other (OfVariable n kind) fs e h = h
not-function text other (OfFunction n kind params) fs e h = or_from _ _ e h
not-function text other (OfNumber value) fs e h = h

not-variables : (text : List ℕ) (list : List Declaration) → stands_in text (texts list) ≡ false → stands_in text (variable_texts list) ≡ false
not-variables text [] h = refl
not-variables text (d ∷ more) h =
    let hs = or_parts (bytes_eq text d.0.text) (stands_in text (texts more)) h in
    not-variable text d.0.text d.1 (variable_texts more) hs.0 (not-variables text more hs.1)

not-functions : (text : List ℕ) (list : List Declaration) → stands_in text (texts list) ≡ false → stands_in text (function_texts list) ≡ false
not-functions text [] h = refl
not-functions text (d ∷ more) h =
    let hs = or_parts (bytes_eq text d.0.text) (stands_in text (texts more)) h in
    not-function text d.0.text d.1 (function_texts more) hs.0 (not-functions text more hs.1)

other-way : (xs ys : List ℕ) (b : Bool) → bytes_eq ys xs ≡ b → bytes_eq xs ys ≡ false → b ≡ false
other-way xs ys true e h = absurd (true≢false (sym (ap (bytes_eq xs) (bytes-same ys xs e) ∙ bytes-refl xs) ∙ h))
other-way xs ys false e h = refl

-- a new name between distinct names
distinct-between : (text : List ℕ) (xs ys : List (List ℕ)) → are_distinct (xs ++ ys) ≡ true → stands_in text xs ≡ false → stands_in text ys ≡ false → are_distinct (xs ++ text ∷ ys) ≡ true
distinct-between text [] ys d hx hy = and_from _ _ (ap not hy) d
distinct-between text (x ∷ xs) ys d hx hy =
    let ds = and_parts (not (stands_in x (xs ++ ys))) (are_distinct (xs ++ ys)) d in
    let hs = or_parts (bytes_eq text x) (stands_in text xs) hx in
    let parts = or_parts (stands_in x xs) (stands_in x ys) (sym (list_any-append (bytes_eq x) xs ys) ∙ not-true _ ds.0) in
    let own = other-way text x (bytes_eq x text) refl hs.0 in
    let free : stands_in x (xs ++ text ∷ ys) ≡ false = list_any-append (bytes_eq x) xs (text ∷ ys) ∙ or_from _ _ parts.0 (or_from _ _ own parts.1) in
    and_from _ _ (ap not free) (distinct-between text xs ys ds.1 hs.1 hy)

distinct-by : (text : List ℕ) (m : Meaning) (vs fs : List (List ℕ)) → stands_in text vs ≡ false → stands_in text fs ≡ false → are_distinct (vs ++ fs) ≡ true
    → are_distinct ((variable_text text m ++ vs) ++ (function_text text m ++ fs)) ≡ true
distinct-by text (OfVariable n kind) vs fs hv hf d = and_from _ _ (ap not (list_any-append (bytes_eq text) vs fs ∙ or_from _ _ hv hf)) d
distinct-by text (OfFunction n kind params) vs fs hv hf d = distinct-between text vs fs d hv hf
distinct-by text (OfNumber value) vs fs hv hf d = d

distinct-split : (list : List Declaration) → are_distinct (texts list) ≡ true → are_distinct (variable_texts list ++ function_texts list) ≡ true
distinct-split [] d = refl
distinct-split (x ∷ more) d =
    let ds = and_parts (not (stands_in x.0.text (texts more))) (are_distinct (texts more)) d in
    let free = not-true _ ds.0 in
    distinct-by x.0.text x.1 (variable_texts more) (function_texts more) (not-variables x.0.text more free) (not-functions x.0.text more free) (distinct-split more ds.1)

-- ---- the names of what is spelled

abbrev global_names : List Global → List (List ℕ)
global_names list = map (λ global. global.name) list

abbrev function_names : List fn.Function → List (List ℕ)
function_names list = map (λ function. function.name) list

numbered-variables : (n : ℕ) (vs : List Variable) (gs : List Global) → Pairs vs gs → (rest : List Declaration) (names : List (List ℕ)) → names ≡ variable_texts rest
    → global_names gs ++ names ≡ variable_texts (numbered n vs ++ rest)
numbered-variables n [] [] p rest names e = e
numbered-variables n [] (y ∷ gs) p rest names e = absurd p
numbered-variables n (v ∷ vs) [] p rest names e = absurd p
numbered-variables n (v ∷ vs) (y ∷ gs) p rest names e =
    ap (λ z. z ∷ (global_names gs ++ names)) p.0.0 ∙ ap (λ z. v.0.text ∷ z) (numbered-variables (suc n) vs gs p.1 rest names e)

numbered-functions : (n : ℕ) (vs : List Variable) (rest : List Declaration) → function_texts (numbered n vs ++ rest) ≡ function_texts rest
numbered-functions n [] rest = refl
numbered-functions n (v ∷ vs) rest = numbered-functions (suc n) vs rest

global-texts : (names : Names) (g f : ℕ) (file : File) → global_names (each (top_globals names) file) ≡ variable_texts (declarations_from g f file)
global-texts names g f [] = refl
global-texts names g f (Include at name header ∷ more) = global-texts names g f more
global-texts names g f (Define at name x value ∷ more) = global-texts names g f more
global-texts names g f (Variables qualifiers list end ∷ more) =
    map-append (λ global. global.name) (globals_of names list) (each (top_globals names) more)
    ∙ numbered-variables g (variables list) (globals_of names list) (pairs names list) (declarations_from (g + length (variables list)) f more)
    (global_names (each (top_globals names) more)) (global-texts names (g + length (variables list)) f more)
global-texts names g f (Prototype head end ∷ more) = global-texts names g f more
global-texts names g f (Function head before ops items after ∷ more) = global-texts names g (suc f) more

function-texts : (names : Names) (g f : ℕ) (file : File) → function_names (each (top_functions_of names) file) ≡ function_texts (declarations_from g f file)
function-texts names g f [] = refl
function-texts names g f (Include at name header ∷ more) = function-texts names g f more
function-texts names g f (Define at name x value ∷ more) = function-texts names g f more
function-texts names g f (Variables qualifiers list end ∷ more) =
    function-texts names (g + length (variables list)) f more ∙ sym (numbered-functions g (variables list) (declarations_from (g + length (variables list)) f more))
function-texts names g f (Prototype head end ∷ more) = function-texts names g f more
function-texts names g f (Function head before ops items after ∷ more) = ap (λ z. (head_name head).text ∷ z) (function-texts names g (suc f) more)

distinct-names : (file : File) → all_twice_faults [] (declarations file) ≡ [] → are_distinct (file_names (source_of file).tree) ≡ true
distinct-names file e =
    let names = names_of file in
    ap (λ z. are_distinct (z ++ function_names (each (top_functions_of names) file))) (global-texts names 0 0 file)
    ∙ ap (λ z. are_distinct (variable_texts (declarations file) ++ z)) (function-texts names 0 0 file)
    ∙ distinct-split (declarations file) (distinct-texts [] (declarations file) e)

-- ---- names that can be declared

pub declared-name : (x : Ident) → is_name_text x.text ≡ true → reserved_faults x ≡ [] → is_declared_name x.text ≡ true
declared-name x l e = and_from _ _ l (ap not (no_fault (is_reserved_text x.text) x.spot _ e))

-- each item of a list whose items are told apart by commas has the tokens of one
pub lexical-listed : {A : Type 0} (d : ℕ) (marks : A → List Mark) (x : A) (more : List (Spot × A))
    → are_lexical (marks x ++ each (λ y. (sign s.Comma y.0, d) ∷ marks y.1) more) ≡ true → list_all (λ a. are_lexical (marks a)) (listed x more) ≡ true
lexical-listed {A} d marks x more h =
    and_from _ _ (lexical-left (marks x) (each (λ y. (sign s.Comma y.0, d) ∷ marks y.1) more) h)
    (by more (lexical-right (marks x) (each (λ y. (sign s.Comma y.0, d) ∷ marks y.1) more) h))
  where
    by : (more : List (Spot × A)) → are_lexical (each (λ y. (sign s.Comma y.0, d) ∷ marks y.1) more) ≡ true → list_all (λ a. are_lexical (marks a)) (map (λ y. y.1) more) ≡ true
    by [] h = refl
    by (y ∷ more) h =
        let rest = lexical-tail (sign s.Comma y.0, d) (marks y.1 ++ each (λ z. (sign s.Comma z.0, d) ∷ marks z.1) more) h in
        and_from _ _ (lexical-left (marks y.1) (each (λ z. (sign s.Comma z.0, d) ∷ marks z.1) more) rest)
        (by more (lexical-right (marks y.1) (each (λ z. (sign s.Comma z.0, d) ∷ marks z.1) more) rest))

-- the variable's name can be declared
abbrev is_declared_variable : Variable → Bool
is_declared_variable v = is_declared_name v.0.text

variable-declared : (x : Ident) → is_name_text x.text ≡ true → variable_faults x ≡ [] → is_declared_name x.text ≡ true
variable-declared x l e = declared-name x l (none-left (reserved_faults x) (no_main_faults x) e)

int-declared : (names : Names) (x : GlobalInt) → are_lexical (global_int_marks 0 x) ≡ true → global_int_faults names x ≡ [] → is_declared_variable (global_int_variable x) ≡ true
int-declared names (OneGlobal x) l e = variable-declared x (lexical-parts (global_int_marks 0 (OneGlobal x)) l).0 e
int-declared names (SetGlobal x at minus n) l e = variable-declared x (lexical-parts (global_int_marks 0 (SetGlobal x at minus n)) l).0 (none-left (variable_faults x) _ e)
int-declared names (GlobalArray x before n after) l e = variable-declared x (lexical-parts (global_int_marks 0 (GlobalArray x before n after)) l).0 (none-left (variable_faults x) _ e)

hold-declared : (names : Names) (x : Hold) → are_lexical (hold_marks 0 x) ≡ true → global_hold_faults names x ≡ [] → is_declared_variable (hold_variable x) ≡ true
hold-declared names (OneThread x) l e = variable-declared x (lexical-parts (hold_marks 0 (OneThread x)) l).0 e
hold-declared names (Threads x before n after) l e = variable-declared x (lexical-parts (hold_marks 0 (Threads x before n after)) l).0 (none-left (variable_faults x) _ e)

mutex-declared : (x : GlobalMutex) → are_lexical (global_mutex_marks 0 x) ≡ true → global_mutex_faults x ≡ [] → is_declared_variable (mutex_variable x) ≡ true
mutex-declared (OneMutex x) l e = variable-declared x (lexical-parts (global_mutex_marks 0 (OneMutex x)) l).0 e
mutex-declared (SetMutex x at value) l e = variable-declared x (lexical-parts (global_mutex_marks 0 (SetMutex x at value)) l).0 e

cond-declared : (x : GlobalCond) → are_lexical (global_cond_marks 0 x) ≡ true → global_cond_faults x ≡ [] → is_declared_variable (cond_variable x) ≡ true
cond-declared (OneCond x) l e = variable-declared x (lexical-parts (global_cond_marks 0 (OneCond x)) l).0 e
cond-declared (SetCond x at value) l e = variable-declared x (lexical-parts (global_cond_marks 0 (SetCond x at value)) l).0 e

-- the variables of a declaration have names that can be declared
variables-declared : (names : Names) (list : Globals) → are_lexical (globals_marks 0 list) ≡ true → globals_faults names list ≡ [] → list_all is_declared_variable (variables list) ≡ true
variables-declared names (GlobalInts at x more) l e =
    list_all-map is_declared_variable global_int_variable (listed x more)
    ∙ passes-each (λ a. are_lexical (global_int_marks 0 a)) (λ a. is_declared_variable (global_int_variable a)) (global_int_faults names) (int-declared names) (listed x more)
    (lexical-listed 0 (global_int_marks 0) x more (lexical-tail (word w.Int at, 0) (global_int_marks 0 x ++ each (λ y. (sign s.Comma y.0, 0) ∷ global_int_marks 0 y.1) more) l)) e
variables-declared names (GlobalHolds at x more) l e =
    list_all-map is_declared_variable hold_variable (listed x more)
    ∙ passes-each (λ a. are_lexical (hold_marks 0 a)) (λ a. is_declared_variable (hold_variable a)) (global_hold_faults names) (hold-declared names) (listed x more)
    (lexical-listed 0 (hold_marks 0) x more (lexical-tail (word w.Thread at, 0) (hold_marks 0 x ++ more_holds_marks 0 more) l)) e
variables-declared names (GlobalMutexes at x more) l e =
    list_all-map is_declared_variable mutex_variable (listed x more)
    ∙ passes-each (λ a. are_lexical (global_mutex_marks 0 a)) (λ a. is_declared_variable (mutex_variable a)) global_mutex_faults mutex-declared (listed x more)
    (lexical-listed 0 (global_mutex_marks 0) x more (lexical-tail (word w.Mutex at, 0) (global_mutex_marks 0 x ++ each (λ y. (sign s.Comma y.0, 0) ∷ global_mutex_marks 0 y.1) more) l)) e
variables-declared names (GlobalConds at x more) l e =
    list_all-map is_declared_variable cond_variable (listed x more)
    ∙ passes-each (λ a. are_lexical (global_cond_marks 0 a)) (λ a. is_declared_variable (cond_variable a)) global_cond_faults cond-declared (listed x more)
    (lexical-listed 0 (global_cond_marks 0) x more (lexical-tail (word w.Cond at, 0) (global_cond_marks 0 x ++ each (λ y. (sign s.Comma y.0, 0) ∷ global_cond_marks 0 y.1) more) l)) e

globals-declared : (vs : List Variable) (gs : List Global) → Pairs vs gs → list_all is_declared_variable vs ≡ true → list_all is_declared_name (global_names gs) ≡ true
globals-declared [] [] p h = refl
globals-declared [] (y ∷ gs) p h = absurd p
globals-declared (v ∷ vs) [] p h = absurd p
globals-declared (v ∷ vs) (y ∷ gs) p h =
    let hs = and_parts (is_declared_variable v) (list_all is_declared_variable vs) h in
    and_from _ _ (ap is_declared_name p.0.0 ∙ hs.0) (globals-declared vs gs p.1 hs.1)

-- the tokens of a head behind `static`
abbrev pub plain_marks : Return → Spot → Ident → Spot → Params → Spot → List Mark
plain_marks return at name before list after =
    (word (return_word return) at, 0) ∷ ((ident name, 0) ∷ ((sign s.OpenParen before, 0) ∷ (params_marks list ++ (sign s.CloseParen after, 0) ∷ [])))

abbrev pub thread_marks : Spot → Spot → Ident → Spot → Spot → Spot → Option Ident → Spot → List Mark
thread_marks at star name before void star2 param after =
    (word w.Void at, 0) ∷ ((sign s.Star star, 0) ∷ ((ident name, 0) ∷ ((sign s.OpenParen before, 0) ∷ ((word w.Void void, 0) ∷ ((sign s.Star star2, 0) ∷ (name_marks param ++ (sign s.CloseParen after, 0) ∷ []))))))

-- the name of a function that is defined
pub head-lexical : (head : Head) → are_lexical (head_marks head) ≡ true → is_name_text (head_name head).text ≡ true
head-lexical (PlainHead static return at name before list after) l =
    let behind = plain_marks return at name before list after in
    (lexical-parts behind (lexical-right (static_marks static) behind l)).1.0
head-lexical (ThreadHead static at star name before void star2 param after) l =
    let behind = thread_marks at star name before void star2 param after in
    (lexical-parts behind (lexical-right (static_marks static) behind l)).1.1.0

-- the globals and the functions of a piece of the file
top-globals-declared : (names : Names) (top : Top) → are_lexical (top_marks top) ≡ true → top_faults names top ≡ [] → list_all is_declared_name (global_names (top_globals names top)) ≡ true
top-globals-declared names (Include at name header) l e = refl
top-globals-declared names (Define at name x value) l e = refl
top-globals-declared names (Variables qualifiers list end) l e =
    globals-declared (variables list) (globals_of names list) (pairs names list)
    (variables-declared names list (lexical-left (globals_marks 0 list) _ (lexical-right (qualifiers_marks 0 qualifiers) _ l)) e)
top-globals-declared names (Prototype head end) l e = refl
top-globals-declared names (Function head before ops items after) l e = refl

top-functions-declared : (names : Names) (top : Top) → are_lexical (top_marks top) ≡ true → top_faults names top ≡ [] → list_all is_declared_name (function_names (top_functions_of names top)) ≡ true
top-functions-declared names (Include at name header) l e = refl
top-functions-declared names (Define at name x value) l e = refl
top-functions-declared names (Variables qualifiers list end) l e = refl
top-functions-declared names (Prototype head end) l e = refl
top-functions-declared names (Function head before ops items after) l e =
    and_from _ _ (declared-name (head_name head) (head-lexical head (lexical-left (head_marks head) _ l)) (none-left (reserved_faults (head_name head)) _ e)) refl

-- the names of what each piece of the file spells
each-declared : {B : Type 0} (names : Names) (name : B → List ℕ) (part : Top → List B)
    → ((top : Top) → are_lexical (top_marks top) ≡ true → top_faults names top ≡ [] → list_all is_declared_name (map name (part top)) ≡ true)
    → (file : File) → are_lexical (file_marks file) ≡ true → each (top_faults names) file ≡ [] → list_all is_declared_name (map name (each part file)) ≡ true
each-declared names name part here file l e =
    list_all-map is_declared_name name (each part file)
    ∙ lexical-all top_marks (top_faults names) part (λ b. is_declared_name (name b))
    (λ top marked none. sym (list_all-map is_declared_name name (part top)) ∙ here top marked none) file l e

-- the names of a file without faults can be declared together
pub names-valid : (file : File) → are_lexical (file_marks file) ≡ true → all_twice_faults [] (declarations file) ≡ [] → each (top_faults (names_of file)) file ≡ []
    → are_declared_names (file_names (source_of file).tree) ≡ true
names-valid file l twice tops =
    let names = names_of file in
    and_from _ _
    (all-append is_declared_name (global_names (each (top_globals names) file)) (function_names (each (top_functions_of names) file))
    (each-declared names (λ global. global.name) (top_globals names) (top-globals-declared names) file l tops)
    (each-declared names (λ function. function.name) (top_functions_of names) (top-functions-declared names) file l tops))
    (distinct-names file twice)
