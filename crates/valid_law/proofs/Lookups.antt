-- What a name of a file means: the variable, the function or the number that the program has at this number.
use Rattle.std.proofs.Common.{◌≡◌, ℕ, suc, ◌+◌, Bool, true, false, List, [], ◌∷◌, ◌++◌, map, length, Option, Some, None, slice_get, refl, ap, sym, ◌∙◌, subst, arith, codes, if◌then◌else◌}
use Rattle.std.proofs.lemmas.List.{length-map}
use Rattle.std.proofs.lemmas.Slice.Eq.{bytes_eq-Decides}
use Rattle.std.specs.Str.{bytes_eq}
use Rattle.cfix_base.specs.declared.Spot.{Spot}
use Rattle.c_grammar.specs.declared.sign.Sign.TheVariants as s
use Rattle.c_grammar.specs.Marks.{each}
use Rattle.c_grammar.specs.Token.{Ident, ident, sign, Mark}
use Rattle.c_grammar.specs.Decl.{Hold, OneThread, Threads, GlobalInt, OneGlobal, SetGlobal, GlobalArray, GlobalMutex, OneMutex, SetMutex, GlobalCond, OneCond, SetCond, Globals, GlobalInts, GlobalHolds, GlobalMutexes, GlobalConds}
use Rattle.c_grammar.specs.File.{name_token, Replacement, Plainly, InParens, replacement_marks, Include, Define, Variables, Prototype, Function, File, top_marks, file_marks}
use Rattle.c_prog.specs.declared.global.Global.{Global}
use Rattle.c_prog.specs.Valid.Kinds.{Signature, signature_of, global_var_kind}
use Rattle.c_prog.specs.Valid.Expressions.{is_number}
use Rattle.c_names.specs.Uses.{Meaning, OfVariable, OfFunction, OfNumber, Names}
use Rattle.c_names.specs.Scopes.{listed}
use Rattle.c_names.specs.Declarations.{Variable, global_int_variable, hold_variable, mutex_variable, cond_variable, variables, replacement_number, head_name, head_kind, head_params, Declaration, numbered, declarations_from, first_meaning}
use Rattle.c_names.specs.Files.{param_text}
use Rattle.c_names.specs.Sources.{global_int_of, global_hold_of, global_mutex_of, global_cond_of, globals_of, function_of, top_globals, top_functions_of}
use Rattle.valid_law.specs.Lexical.{are_lexical}
use Rattle.valid_law.proofs.Lexical.{lexical-left, lexical-right, lexical-parts}

pub bytes-same : (xs ys : List ℕ) → bytes_eq xs ys ≡ true → xs ≡ ys
bytes-same xs ys e = (bytes_eq-Decides xs ys).0 e

pub bytes-refl : (xs : List ℕ) → bytes_eq xs xs ≡ true
bytes-refl xs = (bytes_eq-Decides xs xs).1 refl

-- ---- what is found

abbrev IsNone : {A : Type 0} → Option A → Type 0
IsNone None = Unit {0}
IsNone (Some a) = ⊥

-- nothing is found where nothing is
pub none-some : {A B : Type 0} (a : A) → None ≡ Some a → B
none-some {A} {B} a e = absurd (subst (λ (o : Option A). IsNone o) e tt)

pub same-some : {A : Type 0} (a b : A) → Some a ≡ Some b → a ≡ b
same-some a b e = cc

-- ---- places in a list that is counted from a number

-- the list has this item at this number, counted from a start
pub record Counted {A : Type 0} (start : ℕ) (xs : List A) (n : ℕ) (x : A) : Type 0 where
  pub place : ℕ
  pub number : n ≡ start + place
  pub found : slice_get xs place ≡ Some x

counted-first : {A : Type 0} (start : ℕ) (xs : List A) (x : A) → Counted start (x ∷ xs) start x
counted-first start xs x = record { place = 0; number = omega arith; found = refl }

counted-later : {A : Type 0} (start n : ℕ) (y : A) (xs : List A) (x : A) → Counted (suc start) xs n x → Counted start (y ∷ xs) n x
counted-later start n y xs x c = record { place = suc c.place; number = omega (arith, c.number); found = c.found }

pub counted-is : {A : Type 0} (xs : List A) (n : ℕ) (x : A) → Counted 0 xs n x → slice_get xs n ≡ Some x
counted-is xs n x c = let same : n ≡ c.place = omega (arith, c.number) in ap (slice_get xs) same ∙ c.found

-- ---- what a name means, counted from these numbers

abbrev pub Means : ℕ → ℕ → List Global → List Signature → List ℕ → Meaning → Type 0
Means g f globals functions text (OfVariable n kind) = (global : Global) × (Counted g globals n global × (global.name ≡ text) × (global_var_kind global.kind ≡ kind))
Means g f globals functions text (OfFunction n kind params) = Counted f functions n (record { name = text; kind = kind; params = params })
Means g f globals functions text (OfNumber value) = is_number value ≡ true

means-later : (g f : ℕ) (y : Global) (globals : List Global) (functions : List Signature) (text : List ℕ) (m : Meaning)
    → Means (suc g) f globals functions text m → Means g f (y ∷ globals) functions text m
means-later g f y globals functions text (OfVariable n kind) h = (h.0, (counted-later g n y globals h.0 h.1.0, h.1.1, h.1.2))
means-later g f y globals functions text (OfFunction n kind params) h = h
means-later g f y globals functions text (OfNumber value) h = h

means-after : (g f : ℕ) (y : Signature) (globals : List Global) (functions : List Signature) (text : List ℕ) (m : Meaning)
    → Means g (suc f) globals functions text m → Means g f globals (y ∷ functions) text m
means-after g f y globals functions text (OfVariable n kind) h = h
means-after g f y globals functions text (OfFunction n kind params) h = counted-later f n y functions _ h
means-after g f y globals functions text (OfNumber value) h = h

-- ---- the variables of a declaration and the globals that they spell

abbrev pub Pairs : List Variable → List Global → Type 0
Pairs [] [] = Unit {0}
Pairs [] (g ∷ gs) = ⊥
Pairs (v ∷ vs) [] = ⊥
Pairs (v ∷ vs) (g ∷ gs) = ((g.name ≡ v.0.text) × (global_var_kind g.kind ≡ v.1)) × Pairs vs gs

int-pair : (names : Names) (x : GlobalInt) → ((global_int_of names x).name ≡ (global_int_variable x).0.text) × (global_var_kind (global_int_of names x).kind ≡ (global_int_variable x).1)
int-pair names (OneGlobal x) = (refl, refl)
int-pair names (SetGlobal x at minus n) = (refl, refl)
int-pair names (GlobalArray x before n after) = (refl, refl)

hold-pair : (names : Names) (x : Hold) → ((global_hold_of names x).name ≡ (hold_variable x).0.text) × (global_var_kind (global_hold_of names x).kind ≡ (hold_variable x).1)
hold-pair names (OneThread x) = (refl, refl)
hold-pair names (Threads x before n after) = (refl, refl)

mutex-pair : (x : GlobalMutex) → ((global_mutex_of x).name ≡ (mutex_variable x).0.text) × (global_var_kind (global_mutex_of x).kind ≡ (mutex_variable x).1)
mutex-pair (OneMutex x) = (refl, refl)
mutex-pair (SetMutex x at value) = (refl, refl)

cond-pair : (x : GlobalCond) → ((global_cond_of x).name ≡ (cond_variable x).0.text) × (global_var_kind (global_cond_of x).kind ≡ (cond_variable x).1)
cond-pair (OneCond x) = (refl, refl)
cond-pair (SetCond x at value) = (refl, refl)

map-pairs : {A : Type 0} (v : A → Variable) (h : A → Global) → ((a : A) → ((h a).name ≡ (v a).0.text) × (global_var_kind (h a).kind ≡ (v a).1))
    → (xs : List A) → Pairs (map v xs) (map h xs)
map-pairs v h same [] = tt
map-pairs v h same (x ∷ xs) = (same x, map-pairs v h same xs)

pub pairs : (names : Names) (list : Globals) → Pairs (variables list) (globals_of names list)
pairs names (GlobalInts at x more) = map-pairs global_int_variable (global_int_of names) (int-pair names) (listed x more)
pairs names (GlobalHolds at x more) = map-pairs hold_variable (global_hold_of names) (hold-pair names) (listed x more)
pairs names (GlobalMutexes at x more) = map-pairs mutex_variable global_mutex_of mutex-pair (listed x more)
pairs names (GlobalConds at x more) = map-pairs cond_variable global_cond_of cond-pair (listed x more)

-- ---- declarations

-- the first of declarations, or a later one
first-by : {P : Type 0} (text : List ℕ) (d : Declaration) (more : List Declaration) (m : Meaning) (b : Bool) → bytes_eq text d.0.text ≡ b
    → (if b then Some d.1 else first_meaning more text) ≡ Some m → (text ≡ d.0.text → d.1 ≡ m → P) → (first_meaning more text ≡ Some m → P) → P
first-by text d more m true e h here later = here (bytes-same text d.0.text e) (same-some d.1 m h)
first-by text d more m false e h here later = later h

numbered-means : (text : List ℕ) (g f : ℕ) (vs : List Variable) (gs : List Global) → Pairs vs gs → (rest : List Declaration) (globals : List Global) (functions : List Signature) (m : Meaning)
    → first_meaning (numbered g vs ++ rest) text ≡ Some m → (first_meaning rest text ≡ Some m → Means (g + length vs) f globals functions text m)
    → Means g f (gs ++ globals) functions text m
numbered-means text g f [] [] p rest globals functions m h later =
    let same : g + 0 ≡ g = omega arith in subst (λ z. Means z f globals functions text m) same (later h)
numbered-means text g f [] (y ∷ gs) p rest globals functions m h later = absurd p
numbered-means text g f (v ∷ vs) [] p rest globals functions m h later = absurd p
numbered-means text g f (v ∷ vs) (y ∷ gs) p rest globals functions m h later =
    let same : g + suc (length vs) ≡ suc g + length vs = omega arith in
    first-by text (v.0, OfVariable g v.1) (numbered (suc g) vs ++ rest) m (bytes_eq text v.0.text) refl h
    (λ t is. subst (Means g f (y ∷ (gs ++ globals)) functions text) is (y, (counted-first g (gs ++ globals) y, p.0.0 ∙ sym t, p.0.1)))
    (λ e. means-later g f y (gs ++ globals) functions text m
    (numbered-means text (suc g) f vs gs p.1 rest globals functions m e (λ z. subst (λ k. Means k f globals functions text m) same (later z))))

replacement-number : (value : Replacement) → are_lexical (replacement_marks value) ≡ true → is_number (replacement_number value) ≡ true
replacement-number (Plainly n) h = (lexical-parts (replacement_marks (Plainly n)) h).0
replacement-number (InParens before n after) h = (lexical-parts (replacement_marks (InParens before n after)) h).1.0

-- the tokens of a define before what the name is defined as
abbrev define-marks : Spot → Spot → Ident → List Mark
define-marks at name x = (sign s.Hash at, 0) ∷ ((name_token (codes "define") name, 0) ∷ ((ident x, 0) ∷ []))

define-lexical : (at name : Spot) (x : Ident) (value : Replacement) → are_lexical (top_marks (Define at name x value)) ≡ true → are_lexical (replacement_marks value) ≡ true
define-lexical at name x value l = lexical-right (define-marks at name x) (replacement_marks value) l

pub meaning-is : (names : Names) (text : List ℕ) (g f : ℕ) (file : File) (m : Meaning) → are_lexical (file_marks file) ≡ true → first_meaning (declarations_from g f file) text ≡ Some m
    → Means g f (each (top_globals names) file) (map signature_of (each (top_functions_of names) file)) text m
meaning-is names text g f [] m l h = none-some m h
meaning-is names text g f (Include at name header ∷ more) m l h = meaning-is names text g f more m (lexical-right (top_marks (Include at name header)) (file_marks more) l) h
meaning-is names text g f (Define at name x value ∷ more) m l h =
    first-by text (x, OfNumber (replacement_number value)) (declarations_from g f more) m (bytes_eq text x.text) refl h
    (λ t is. subst (Means g f (each (top_globals names) more) (map signature_of (each (top_functions_of names) more)) text) is
    (replacement-number value (define-lexical at name x value (lexical-left (top_marks (Define at name x value)) (file_marks more) l))))
    (λ e. meaning-is names text g f more m (lexical-right (top_marks (Define at name x value)) (file_marks more) l) e)
meaning-is names text g f (Variables qualifiers list end ∷ more) m l h =
    numbered-means text g f (variables list) (globals_of names list) (pairs names list) (declarations_from (g + length (variables list)) f more)
    (each (top_globals names) more) (map signature_of (each (top_functions_of names) more)) m h
    (λ e. meaning-is names text (g + length (variables list)) f more m (lexical-right (top_marks (Variables qualifiers list end)) (file_marks more) l) e)
meaning-is names text g f (Prototype head end ∷ more) m l h = meaning-is names text g f more m (lexical-right (top_marks (Prototype head end)) (file_marks more) l) h
meaning-is names text g f (Function head before ops items after ∷ more) m l h =
    let globals = each (top_globals names) more in
    let functions = map signature_of (each (top_functions_of names) more) in
    let own = signature_of (function_of names head ops items) in
    let form : List ℕ → ℕ → Signature = λ name params. record { name = name; kind = head_kind head; params = params } in
    first-by text (head_name head, OfFunction f (head_kind head) (length (head_params head))) (declarations_from g (suc f) more) m (bytes_eq text (head_name head).text) refl h
    (λ t is. subst (Means g f globals (own ∷ functions) text) is
    (subst (λ z. Counted f (own ∷ functions) f z)
    (ap (λ z. form z (length (map param_text (head_params head)))) (sym t) ∙ ap (λ z. form text z) (length-map (head_params head) param_text))
    (counted-first f functions own)))
    (λ e. means-after g f own globals functions text m (meaning-is names text g (suc f) more m (lexical-right (top_marks (Function head before ops items after)) (file_marks more) l) e))
