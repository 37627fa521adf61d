-- The names of a program as its file declares them.
use Rattle.std.proofs.Common.{◌≡◌, ℕ, zero, suc, pos, ◌+◌, Bool, true, false, not, ◌||◌, List, [], ◌∷◌, ◌++◌, map, length, Option, Some, None, slice_get, append-nil, refl, ap, sym, ◌∙◌, subst, arith, true≢false, if◌then◌else◌}
use Rattle.std.proofs.lemmas.Bool.{and_parts, or_parts, not-true}
use Rattle.std.specs.List.{list_all, list_any}
use Rattle.std.specs.Str.{bytes_eq}
use Rattle.cfix_base.specs.Words.{is_name_text, is_reserved_text}
use Rattle.cfix_base.specs.declared.number.OrderId.{OrderId}
use Rattle.c_prog.specs.declared.function.FnKind.{FnKind}
use Rattle.c_prog.specs.declared.function.Function.{Function}
use Rattle.c_prog.specs.declared.global.Global.{Global}
use Rattle.c_prog.specs.declared.tree.Tree.{Tree}
use Rattle.c_prog.specs.Order.{joined}
use Rattle.c_prog.specs.Patched.{tree_patched}
use Rattle.c_prog.specs.Valid.Scope.{VarKind, Scope, visible, declared}
use Rattle.c_prog.specs.Valid.Kinds.{signature_of, file_of, global_var_kind}
use Rattle.c_prog.specs.Valid.Acts.{is_declared_name}
use Rattle.c_prog.specs.Valid.Functions.{are_distinct, are_declared_names, file_names, with_params}
use Rattle.c_print.specs.Text.Names.{Names, or_nothing, names_in, declared_names}
use Rattle.c_names.specs.Uses as n
use Rattle.c_names.specs.Declarations.{form_or, is_number}
use Rattle.print_law.proofs.Plain.{plain_body, plain_body-up}
use Rattle.print_law.proofs.Files.{start_name}
use Rattle.print_law.proofs.StatementLines.{all_formed}
use Rattle.print_law.proofs.Meanings.{FunctionFact, FileFacts, LocalFact, AllKnown, bytes-same, bytes-refl}
use Rattle.print_law.proofs.Places.{all_names, all-names-are, Place, place-first, place-left, place-right}

-- a declared name and what it declares
abbrev pub Entry : Type 0
Entry = List ℕ × n.Meaning

abbrev pub starts_table : List OrderId → List Entry
starts_table [] = []
starts_table (order ∷ more) = (start_name order.number, n.OfNumber (pos 1)) ∷ starts_table more

abbrev pub own_table : Bool → List OrderId → List Entry
own_table true starts = starts_table starts
own_table false starts = []

abbrev pub globals_table : ℕ → List Global → List Entry
globals_table k [] = []
globals_table k (g ∷ more) = (g.name, n.OfVariable k (global_var_kind g.kind)) ∷ globals_table (k + 1) more

abbrev pub functions_table : ℕ → List Function → List Entry
functions_table k [] = []
functions_table k (f ∷ more) = (f.name, n.OfFunction k f.kind (length f.params)) ∷ functions_table (suc k) more

abbrev pub file_table : Tree → List Entry
file_table tree = globals_table 0 tree.globals ++ functions_table 0 tree.functions

abbrev pub tree_table : Tree → List Entry
tree_table tree = own_table (tree_patched tree) tree.starts ++ file_table tree

abbrev pub entry_names : List Entry → List (List ℕ)
entry_names table = map (λ e. e.0) table

-- look-ups in a table

abbrev pub lookup : List Entry → List ℕ → Option n.Meaning
lookup [] text = None
lookup (e ∷ table) text = if bytes_eq text e.0 then Some e.1 else lookup table text

abbrev pub form_in : List Entry → List ℕ → Option n.Form
form_in [] text = None
form_in (e ∷ table) text = if bytes_eq text e.0 then form_or e.1 (form_in table text) else form_in table text

abbrev pub defined_in : List Entry → List ℕ → Bool
defined_in [] text = false
defined_in (e ∷ table) text = if bytes_eq text e.0 then is_number e.1 || defined_in table text else defined_in table text

-- what a table says of each name
abbrev pub known_in : List Entry → n.Names
known_in table text = record { first = lookup table text; form = form_in table text; is_defined = defined_in table text }

-- bytes

pub bytes-apart : (xs ys : List ℕ) → bytes_eq xs ys ≡ false → bytes_eq ys xs ≡ false
bytes-apart xs ys h = by (bytes_eq ys xs) refl
  where
    by : (b : Bool) → bytes_eq ys xs ≡ b → bytes_eq ys xs ≡ false
    by true e = absurd (true≢false (sym (bytes-refl xs) ∙ ap (bytes_eq xs) (sym (bytes-same ys xs e)) ∙ h))
    by false e = e

pub differ : (p : List ℕ → Bool) (xs ys : List ℕ) → p xs ≡ false → p ys ≡ true → bytes_eq xs ys ≡ false
differ p xs ys a b = by (bytes_eq xs ys) refl
  where
    by : (c : Bool) → bytes_eq xs ys ≡ c → bytes_eq xs ys ≡ false
    by true e = absurd (true≢false (sym b ∙ ap p (sym (bytes-same xs ys e)) ∙ a))
    by false e = e

-- tables in which a name is absent

then-else : {A : Type 0} (b : Bool) (x y : A) → b ≡ false → (if b then x else y) ≡ y
then-else b x y e = rw e refl

pub lookup-absent : (table rest : List Entry) (text : List ℕ) → list_any (bytes_eq text) (entry_names table) ≡ false → lookup (table ++ rest) text ≡ lookup rest text
lookup-absent [] rest text h = refl
lookup-absent (e ∷ table) rest text h =
    let hs = or_parts (bytes_eq text e.0) (list_any (bytes_eq text) (entry_names table)) h in
    then-else (bytes_eq text e.0) (Some e.1) (lookup (table ++ rest) text) hs.0 ∙ lookup-absent table rest text hs.1

pub form-absent : (table rest : List Entry) (text : List ℕ) → list_any (bytes_eq text) (entry_names table) ≡ false → form_in (table ++ rest) text ≡ form_in rest text
form-absent [] rest text h = refl
form-absent (e ∷ table) rest text h =
    let hs = or_parts (bytes_eq text e.0) (list_any (bytes_eq text) (entry_names table)) h in
    then-else (bytes_eq text e.0) (form_or e.1 (form_in (table ++ rest) text)) (form_in (table ++ rest) text) hs.0 ∙ form-absent table rest text hs.1

pub defined-absent : (table rest : List Entry) (text : List ℕ) → list_any (bytes_eq text) (entry_names table) ≡ false → defined_in (table ++ rest) text ≡ defined_in rest text
defined-absent [] rest text h = refl
defined-absent (e ∷ table) rest text h =
    let hs = or_parts (bytes_eq text e.0) (list_any (bytes_eq text) (entry_names table)) h in
    then-else (bytes_eq text e.0) (is_number e.1 || defined_in (table ++ rest) text) (defined_in (table ++ rest) text) hs.0 ∙ defined-absent table rest text hs.1

-- distinct names

some-same : {A : Type 0} (a b : A) → Some a ≡ Some b → a ≡ b
some-same a b e = cc

abbrev IsNone : {A : Type 0} → Option A → Type 0
IsNone None = Unit {0}
IsNone (Some a) = ⊥

none-some : {A B : Type 0} (a : A) → None ≡ Some a → B
none-some {A} {B} a e = absurd (subst (λ (o : Option A). IsNone o) e tt)

any-at : (p : List ℕ → Bool) (table : List Entry) (k : ℕ) (e : Entry) → slice_get table k ≡ Some e → list_any p (entry_names table) ≡ false → p e.0 ≡ false
any-at p [] k e g h = none-some e g
any-at p (x ∷ table) zero e g h = subst (λ (z : Entry). p z.0 ≡ false) (some-same x e g) (or_parts (p x.0) (list_any p (entry_names table)) h).0
any-at p (x ∷ table) (suc k) e g h = any-at p table k e g (or_parts (p x.0) (list_any p (entry_names table)) h).1

pub lookup-at : (table : List Entry) (k : ℕ) (e : Entry) → are_distinct (entry_names table) ≡ true → slice_get table k ≡ Some e → lookup table e.0 ≡ Some e.1
lookup-at [] k e d g = none-some e g
lookup-at (x ∷ table) zero e d g =
    subst (λ (z : Entry). lookup (x ∷ table) z.0 ≡ Some z.1) (some-same x e g) (ap (λ z. if z then Some x.1 else lookup table x.0) (bytes-refl x.0))
lookup-at (x ∷ table) (suc k) e d g =
    let ds = and_parts (not (list_any (bytes_eq x.0) (entry_names table))) (are_distinct (entry_names table)) d in
    let other : bytes_eq e.0 x.0 ≡ false = bytes-apart x.0 e.0 (any-at (bytes_eq x.0) table k e g (not-true _ ds.0)) in
    then-else (bytes_eq e.0 x.0) (Some x.1) (lookup table e.0) other ∙ lookup-at table k e ds.1 g

pub form-at : (table : List Entry) (k : ℕ) (e : Entry) (j : ℕ) (kind : FnKind) (params : ℕ) → are_distinct (entry_names table) ≡ true → slice_get table k ≡ Some e → e.1 ≡ n.OfFunction j kind params
    → form_in table e.0 ≡ Some (kind, params)
form-at [] k e j kind params d g m = none-some e g
form-at (x ∷ table) zero e j kind params d g m =
    let same = some-same x e g in
    let here : form_in (x ∷ table) x.0 ≡ form_or x.1 (form_in table x.0) = ap (λ z. if z then form_or x.1 (form_in table x.0) else form_in table x.0) (bytes-refl x.0) in
    ap (λ (z : Entry). form_in (x ∷ table) z.0) (sym same) ∙ here ∙ ap (λ (z : Entry). form_or z.1 (form_in table x.0)) same ∙ ap (λ z. form_or z (form_in table x.0)) m
form-at (x ∷ table) (suc k) e j kind params d g m =
    let ds = and_parts (not (list_any (bytes_eq x.0) (entry_names table))) (are_distinct (entry_names table)) d in
    let other : bytes_eq e.0 x.0 ≡ false = bytes-apart x.0 e.0 (any-at (bytes_eq x.0) table k e g (not-true _ ds.0)) in
    then-else (bytes_eq e.0 x.0) (form_or x.1 (form_in table e.0)) (form_in table e.0) other ∙ form-at table k e j kind params ds.1 g m

-- items of lists

get-left : {A : Type 0} (xs ys : List A) (k : ℕ) (a : A) → slice_get xs k ≡ Some a → slice_get (xs ++ ys) k ≡ Some a
get-left [] ys k a g = none-some a g
get-left (x ∷ xs) ys zero a g = g
get-left (x ∷ xs) ys (suc k) a g = get-left xs ys k a g

get-right : {A : Type 0} (xs ys : List A) (k : ℕ) (a : A) → slice_get ys k ≡ Some a → (j : ℕ) × (slice_get (xs ++ ys) j ≡ Some a)
get-right [] ys k a g = (k, g)
get-right (x ∷ xs) ys k a g = let r = get-right xs ys k a g in (suc r.0, r.1)

pub get-map : {A B : Type 0} (f : A → B) (xs : List A) (k : ℕ) (a : A) → slice_get xs k ≡ Some a → slice_get (map f xs) k ≡ Some (f a)
get-map f [] k a g = none-some a g
get-map f (x ∷ xs) zero a g = ap (λ z. Some (f z)) (some-same x a g)
get-map f (x ∷ xs) (suc k) a g = get-map f xs k a g

pub get-mapped : {A B : Type 0} (f : A → B) (xs : List A) (k : ℕ) (b : B) → slice_get (map f xs) k ≡ Some b → (a : A) × (slice_get xs k ≡ Some a) × (f a ≡ b)
get-mapped f [] k b g = none-some b g
get-mapped f (x ∷ xs) zero b g = (x, refl, some-same (f x) b g)
get-mapped f (x ∷ xs) (suc k) b g = get-mapped f xs k b g

pub all-at : {A : Type 0} (p : A → Bool) (xs : List A) (k : ℕ) (a : A) → slice_get xs k ≡ Some a → list_all p xs ≡ true → p a ≡ true
all-at p [] k a g h = none-some a g
all-at p (x ∷ xs) zero a g h = subst (λ z. p z ≡ true) (some-same x a g) (and_parts (p x) (list_all p xs) h).0
all-at p (x ∷ xs) (suc k) a g h = all-at p xs k a g (and_parts (p x) (list_all p xs) h).1

globals-at : (j : ℕ) (list : List Global) (k : ℕ) (g : Global) → slice_get list k ≡ Some g → slice_get (globals_table j list) k ≡ Some (g.name, n.OfVariable (j + k) (global_var_kind g.kind))
globals-at j [] k g h = none-some g h
globals-at j (x ∷ list) zero g h =
    ap (λ (z : Global). Some (z.name, n.OfVariable j (global_var_kind z.kind))) (some-same x g h)
    ∙ (let e : j ≡ j + 0 = omega arith in ap (λ z. Some (g.name, n.OfVariable z (global_var_kind g.kind))) e)
globals-at j (x ∷ list) (suc k) g h =
    globals-at (j + 1) list k g h ∙ (let e : j + 1 + k ≡ j + suc k = omega arith in ap (λ z. Some (g.name, n.OfVariable z (global_var_kind g.kind))) e)

functions-at : (j : ℕ) (list : List Function) (k : ℕ) (f : Function) → slice_get list k ≡ Some f → slice_get (functions_table j list) k ≡ Some (f.name, n.OfFunction (j + k) f.kind (length f.params))
functions-at j [] k f h = none-some f h
functions-at j (x ∷ list) zero f h =
    ap (λ (z : Function). Some (z.name, n.OfFunction j z.kind (length z.params))) (some-same x f h)
    ∙ (let e : j ≡ j + 0 = omega arith in ap (λ z. Some (f.name, n.OfFunction z f.kind (length f.params))) e)
functions-at j (x ∷ list) (suc k) f h =
    functions-at (suc j) list k f h ∙ (let e : suc j + k ≡ j + suc k = omega arith in ap (λ z. Some (f.name, n.OfFunction z f.kind (length f.params))) e)

globals-names : (j : ℕ) (list : List Global) → entry_names (globals_table j list) ≡ map (λ g. g.name) list
globals-names j [] = refl
globals-names j (x ∷ list) = ap (λ z. x.name ∷ z) (globals-names (j + 1) list)

functions-names : (j : ℕ) (list : List Function) → entry_names (functions_table j list) ≡ map (λ f. f.name) list
functions-names j [] = refl
functions-names j (x ∷ list) = ap (λ z. x.name ∷ z) (functions-names (suc j) list)

pub map-append : {A B : Type 0} (f : A → B) (xs ys : List A) → map f (xs ++ ys) ≡ map f xs ++ map f ys
map-append f [] ys = refl
map-append f (x ∷ xs) ys = ap (λ z. f x ∷ z) (map-append f xs ys)

pub file-names : (tree : Tree) → entry_names (file_table tree) ≡ file_names tree
file-names tree =
    map-append (λ e. e.0) (globals_table 0 tree.globals) (functions_table 0 tree.functions)
    ∙ ap (λ z. z ++ entry_names (functions_table 0 tree.functions)) (globals-names 0 tree.globals)
    ∙ ap (λ z. map (λ g. g.name) tree.globals ++ z) (functions-names 0 tree.functions)

-- the names of starts are reserved

declared-free : (text : List ℕ) → is_declared_name text ≡ true → is_reserved_text text ≡ false
declared-free text h = not-true _ (and_parts (is_name_text text) (not (is_reserved_text text)) h).1

starts-absent : (starts : List OrderId) (text : List ℕ) → is_declared_name text ≡ true → list_any (bytes_eq text) (entry_names (starts_table starts)) ≡ false
starts-absent [] text h = refl
starts-absent (order ∷ more) text h =
    ap (λ z. z || list_any (bytes_eq text) (entry_names (starts_table more))) (differ is_reserved_text text (start_name order.number) (declared-free text h) refl) ∙ starts-absent more text h

pub own-absent : (patched : Bool) (starts : List OrderId) (text : List ℕ) → is_declared_name text ≡ true → list_any (bytes_eq text) (entry_names (own_table patched starts)) ≡ false
own-absent true starts text h = starts-absent starts text h
own-absent false starts text h = refl

globals-defined : (j : ℕ) (list : List Global) (rest : List Entry) (text : List ℕ) → defined_in (globals_table j list ++ rest) text ≡ defined_in rest text
globals-defined j [] rest text = refl
globals-defined j (g ∷ more) rest text = either_way (bytes_eq text g.name) (defined_in (globals_table (j + 1) more ++ rest) text) ∙ globals-defined (j + 1) more rest text
  where
    either_way : (b z : Bool) → (if b then false || z else z) ≡ z
    either_way true z = refl
    either_way false z = refl

functions-defined : (j : ℕ) (list : List Function) (text : List ℕ) → defined_in (functions_table j list) text ≡ false
functions-defined j [] text = refl
functions-defined j (f ∷ more) text = either_way (bytes_eq text f.name) (defined_in (functions_table (suc j) more) text) ∙ functions-defined (suc j) more text
  where
    either_way : (b z : Bool) → (if b then false || z else z) ≡ z
    either_way true z = refl
    either_way false z = refl

-- what holds of a file whose names mean what the table says

-- names whose meanings are those of the table
pub record Means (known : n.Names) (table : List Entry) : Type 0 where
  pub first : (text : List ℕ) → (known text).first ≡ lookup table text
  pub form : (text : List ℕ) → (known text).form ≡ form_in table text
  pub defined : (text : List ℕ) → (known text).is_defined ≡ defined_in table text

pub record Names_ok (tree : Tree) : Type 0 where
  pub declared : list_all is_declared_name (file_names tree) ≡ true
  pub distinct : are_distinct (file_names tree) ≡ true

pub names-ok : (tree : Tree) → are_declared_names (file_names tree) ≡ true → Names_ok tree
names-ok tree h = let hs = and_parts (list_all is_declared_name (file_names tree)) (are_distinct (file_names tree)) h in record { declared = hs.0; distinct = hs.1 }

module _ (tree : Tree) (ok : Names_ok tree) where
  table-distinct : are_distinct (entry_names (file_table tree)) ≡ true
  table-distinct = ap are_distinct (file-names tree) ∙ ok.distinct

  entry-declared : (k : ℕ) (e : Entry) → slice_get (file_table tree) k ≡ Some e → is_declared_name e.0 ≡ true
  entry-declared k e g =
      all-at is_declared_name (entry_names (file_table tree)) k e.0 (get-map (λ (z : Entry). z.0) (file_table tree) k e g) (ap (list_all is_declared_name) (file-names tree) ∙ ok.declared)

  pub entry-lookup : (k : ℕ) (e : Entry) → slice_get (file_table tree) k ≡ Some e → lookup (tree_table tree) e.0 ≡ Some e.1
  entry-lookup k e g =
      lookup-absent (own_table (tree_patched tree) tree.starts) (file_table tree) e.0 (own-absent (tree_patched tree) tree.starts e.0 (entry-declared k e g))
      ∙ lookup-at (file_table tree) k e table-distinct g

  pub entry-form : (k : ℕ) (e : Entry) (j : ℕ) (kind : FnKind) (params : ℕ) → slice_get (file_table tree) k ≡ Some e → e.1 ≡ n.OfFunction j kind params → form_in (tree_table tree) e.0 ≡ Some (kind, params)
  entry-form k e j kind params g m =
      form-absent (own_table (tree_patched tree) tree.starts) (file_table tree) e.0 (own-absent (tree_patched tree) tree.starts e.0 (entry-declared k e g))
      ∙ form-at (file_table tree) k e j kind params table-distinct g m

  pub global-entry : (k : ℕ) (g : Global) → slice_get tree.globals k ≡ Some g → slice_get (file_table tree) k ≡ Some (g.name, n.OfVariable k (global_var_kind g.kind))
  global-entry k g h =
      get-left (globals_table 0 tree.globals) (functions_table 0 tree.functions) k (g.name, n.OfVariable (0 + k) (global_var_kind g.kind)) (globals-at 0 tree.globals k g h)
      ∙ (let e : 0 + k ≡ k = omega arith in ap (λ z. Some (g.name, n.OfVariable z (global_var_kind g.kind))) e)

  pub function-entry : (k : ℕ) (f : Function) → slice_get tree.functions k ≡ Some f → (j : ℕ) × (slice_get (file_table tree) j ≡ Some (f.name, n.OfFunction k f.kind (length f.params)))
  function-entry k f h =
      let r = get-right (globals_table 0 tree.globals) (functions_table 0 tree.functions) k (f.name, n.OfFunction (0 + k) f.kind (length f.params)) (functions-at 0 tree.functions k f h) in
      let e : 0 + k ≡ k = omega arith in
      (r.0, r.1 ∙ ap (λ z. Some (f.name, n.OfFunction z f.kind (length f.params))) e)

  pub function-declared : (k : ℕ) (f : Function) → slice_get tree.functions k ≡ Some f → is_declared_name f.name ≡ true
  function-declared k f h = let e = function-entry k f h in entry-declared e.0 (f.name, n.OfFunction k f.kind (length f.params)) e.1

  pub global-declared : (k : ℕ) (g : Global) → slice_get tree.globals k ≡ Some g → is_declared_name g.name ≡ true
  global-declared k g h = entry-declared k (g.name, n.OfVariable k (global_var_kind g.kind)) (global-entry k g h)

  pub file-facts : (known : n.Names) → Means known (tree_table tree) → (fn : Function) → FileFacts (names_in tree fn) known (file_of tree)
  file-facts known m fn = record {
    globals = λ k g h. record {
      named = ap or_nothing (get-map (λ (z : Global). z.name) tree.globals k g h);
      declared = global-declared k g h;
      first = m.first g.name ∙ entry-lookup k (g.name, n.OfVariable k (global_var_kind g.kind)) (global-entry k g h);
    };
    functions = λ k f h.
        let r = get-mapped signature_of tree.functions k f h in
        let e = function-entry k r.0 r.1 in
        subst (FunctionFact (names_in tree fn) known k) r.2
        (record {
          named = ap or_nothing (get-map (λ (z : Function). z.name) tree.functions k r.0 r.1);
          declared = function-declared k r.0 r.1;
          first = m.first r.0.name ∙ entry-lookup e.0 (r.0.name, n.OfFunction k r.0.kind (length r.0.params)) e.1;
        });
    undefined = λ text h.
        m.defined text ∙ defined-absent (own_table (tree_patched tree) tree.starts) (file_table tree) text (own-absent (tree_patched tree) tree.starts text h)
        ∙ globals-defined 0 tree.globals (functions_table 0 tree.functions) text ∙ functions-defined 0 tree.functions text;
  }

-- parameters

pub record ParamsKnown (names : Names) (kind : VarKind) (ps : List (List ℕ)) (scope : Scope) : Type 0 where
  pub locals : AllKnown names (visible (with_params kind ps scope))
  pub count : (with_params kind ps scope).count ≡ scope.count + length ps

pub params-known : (names : Names) (kind : VarKind) (ps : List (List ℕ)) (scope : Scope) → list_all is_declared_name ps ≡ true → AllKnown names (visible scope) → Place names scope.count ps → ParamsKnown names kind ps scope
params-known names kind [] scope d known place = record { locals = known; count = omega arith }
params-known names kind (p ∷ ps) scope d known place =
    let ds = and_parts (is_declared_name p) (list_all is_declared_name ps) d in
    let fact : LocalFact names (record { name = p; kind = kind; number = scope.count }) =
    record { named = place-first names scope.count p (place-left names scope.count (p ∷ []) ps place); declared = ds.0 } in
    let r = params-known names kind ps (declared p kind scope) ds.1 (fact, known) (place-right names scope.count (scope.count + 1) (p ∷ []) ps refl place) in
    let c = r.count in
    record { locals = r.locals; count = omega (arith, c) }

-- the names of a function's locals
pub function-place : (tree : Tree) (fn : Function) → all_formed (plain_body fn.body) ≡ true → Place (names_in tree fn) 0 (fn.params ++ all_names (plain_body fn.body))
function-place tree fn h =
    let names : joined (map declared_names fn.body) ≡ all_names (plain_body fn.body) =
    ap (λ z. joined (map declared_names z)) (sym (plain_body-up fn.body)) ∙ all-names-are (plain_body fn.body) h in
    record {
      before = [];
      behind = [];
      is = ap (λ z. fn.params ++ z) names ∙ sym (append-nil (fn.params ++ all_names (plain_body fn.body)));
      counted = refl;
    }
