-- What a name stands for by the names of the file is what its number stands for in the program.
use Rattle.std.proofs.Common.{◌≡◌, ℕ, ◌<◌, ◌==◌, Bool, true, false, ◌&&◌, ◌||◌, List, [], ◌∷◌, Option, Some, None, option_map, find, cond, refl, ap, sym, ◌∙◌, subst, arith, true≢false, if◌then◌else◌}
use Rattle.std.proofs.lemmas.Bool.{and_parts, and_from, eqb-true, eq-eqb}
use Rattle.std.specs.List.{list_any}
use Rattle.c_prog.specs.declared.expr.Var.TheVariants as var
use Rattle.c_prog.specs.declared.global.Global.{Global}
use Rattle.c_prog.specs.declared.global.GlobalKind.{GlobalKind}
use Rattle.c_prog.specs.declared.global.GlobalKind.TheVariants as global_kind
use Rattle.c_prog.specs.Valid.Scope as s
use Rattle.c_prog.specs.Valid.Scope.{VarKind, Local, Scope, visible, is_named, is_hidden, local_named, is_numbered, local_here}
use Rattle.c_prog.specs.Valid.Kinds.{Signature, File, global_var_kind, global_seen, function_seen, kind_here, function_here}
use Rattle.c_prog.specs.Valid.Expressions.{is_argument, is_number}
use Rattle.c_names.specs.Uses.{Meaning, OfVariable, OfFunction, OfNumber, Names, Use, IsLocal, IsGlobal, IsFunction, IsDefined, IsUnknown, file_use, local_use, use_of}
use Rattle.valid_law.specs.Agrees.{Agrees}
use Rattle.valid_law.proofs.Lookups.{bytes-same, same-some, none-some}

-- the kind of a mutex or a condition variable, which is never that of a local
abbrev pub is_global_kind : VarKind → Bool
is_global_kind s.mutex = true
is_global_kind s.cond = true
is_global_kind _ = false

-- What a name stands for is there in the program, under its number.
abbrev pub Means : File → Scope → List ℕ → Use → Type 0
Means file scope text (IsLocal n kind) = (kind_here file scope (var.Local n) ≡ Some kind) × (is_global_kind kind ≡ false)
Means file scope text (IsGlobal n kind) = (kind_here file scope (var.Global (record { number = n })) ≡ Some kind) × (is_argument (Some kind) ≡ false)
Means file scope text (IsFunction n kind params) =
    function_here file scope (record { number = n }) ≡ Some (record { name = text; kind = kind; params = params })
Means file scope text (IsDefined value) = is_number value ≡ true
Means file scope text IsUnknown = Unit {0}

-- The numbers of visible locals fall, and are below the count; none of them has the kind of a mutex or a condition variable.
abbrev pub IsPlaced : ℕ → List Local → Type 0
IsPlaced bound [] = Unit {0}
IsPlaced bound (local ∷ more) = (local.number < bound) × (is_global_kind local.kind ≡ false) × IsPlaced local.number more

-- ---- look-ups

found-by : {X : Type 0} (p : X → Bool) (y x : X) (rest : Option X) (b : Bool) → p y ≡ b → cond b (Some y) rest ≡ Some x → (rest ≡ Some x → p x ≡ true) → p x ≡ true
found-by p y x rest true t e g = subst (λ z. p z ≡ true) (same-some y x e) t
found-by p y x rest false t e g = g e

find-is : {X : Type 0} (p : X → Bool) (xs : List X) (x : X) → find p xs ≡ Some x → p x ≡ true
find-is p [] x e = none-some x e
find-is p (y ∷ xs) x e = found-by p y x (find p xs) (p y) refl e (λ g. find-is p xs x g)

none-by : {X : Type 0} (y : X) (rest : Option X) (b any : Bool) → cond b (Some y) rest ≡ None → (rest ≡ None → any ≡ false) → (b || any) ≡ false
none-by y rest true any e g = none-some y (sym e)
none-by y rest false any e g = g e

none-any : {X : Type 0} (p : X → Bool) (xs : List X) → find p xs ≡ None → list_any p xs ≡ false
none-any p [] e = refl
none-any p (y ∷ xs) e = none-by y (find p xs) (p y) (list_any p xs) e (λ g. none-any p xs g)

-- ---- locals

-- what holds of the local that is found
below-by : (bound : ℕ) (y l : Local) (rest : Option Local) (b : Bool) → (y.number < bound) × (is_global_kind y.kind ≡ false)
    → cond b (Some y) rest ≡ Some l → (rest ≡ Some l → (l.number < y.number) × (is_global_kind l.kind ≡ false)) → (l.number < bound) × (is_global_kind l.kind ≡ false)
below-by bound y l rest true k e g = subst (λ (z : Local). (z.number < bound) × (is_global_kind z.kind ≡ false)) (same-some y l e) k
below-by bound y l rest false k e g =
    let more = g e in
    let first : y.number < bound = k.0 in
    let second : l.number < y.number = more.0 in
    (omega (arith, first, second), more.1)

find-below : (p : Local → Bool) (bound : ℕ) (xs : List Local) (l : Local) → IsPlaced bound xs → find p xs ≡ Some l → (l.number < bound) × (is_global_kind l.kind ≡ false)
find-below p bound [] l k e = none-some l e
find-below p bound (y ∷ xs) l k e = below-by bound y l (find p xs) (p y) (k.0, k.1) e (λ g. find-below p y.number xs l k.2 g)

not-same : (m n : ℕ) → m < n → n ≡ m → ⊥
not-same m n h e = omega (arith, h, e)

here-by : (q : Local → Bool) (y l : Local) (ps qs : Option Local) (b c : Bool) → q y ≡ c → cond b (Some y) ps ≡ Some l → q l ≡ true → (q y ≡ true → y.number ≡ l.number)
    → (ps ≡ Some l → (l.number < y.number) × (qs ≡ Some l)) → cond c (Some y) qs ≡ Some l
here-by q y l ps qs true true t e h same g = e
here-by q y l ps qs true false t e h same g = absurd (true≢false (sym (subst (λ z. q z ≡ true) (sym (same-some y l e)) h) ∙ t))
here-by q y l ps qs false true t e h same g = absurd (not-same l.number y.number (g e).0 (same t))
here-by q y l ps qs false false t e h same g = (g e).1

-- a local that is found by its name is also found by its number
find-here : (p q : Local → Bool) (bound : ℕ) (xs : List Local) (l : Local) → IsPlaced bound xs → find p xs ≡ Some l → q l ≡ true
    → ((x : Local) → q x ≡ true → x.number ≡ l.number) → find q xs ≡ Some l
find-here p q bound [] l k e h same = none-some l e
find-here p q bound (y ∷ xs) l k e h same =
    here-by q y l (find p xs) (find q xs) (p y) (q y) refl e h (same y)
    (λ g. ((find-below p y.number xs l k.2 g).0, find-here p q y.number xs l k.2 g h same))

-- the local that a name means is the one of its number
pub local-here : (scope : Scope) (text : List ℕ) (l : Local) → IsPlaced scope.count (visible scope) → local_named text scope ≡ Some l → local_here l.number scope ≡ Some l
local-here scope text l k e =
    let q : Local → Bool = λ (x : Local). (x.number == l.number) && is_numbered l.number (local_named x.name scope) in
    let named : text ≡ l.name = bytes-same text l.name (find-is (is_named text) (visible scope) l e) in
    let numbered : is_numbered l.number (local_named l.name scope) ≡ true =
    ap (λ z. is_numbered l.number (local_named z scope)) (sym named) ∙ ap (is_numbered l.number) e ∙ eq-eqb l.number l.number refl in
    find-here (is_named text) q scope.count (visible scope) l k e
    (and_from (l.number == l.number) (is_numbered l.number (local_named l.name scope)) (eq-eqb l.number l.number refl) numbered)
    (λ x h. eqb-true x.number l.number (and_parts (x.number == l.number) (is_numbered l.number (local_named x.name scope)) h).0)

-- ---- names

no-argument : (global : Global) (kind : VarKind) → global_var_kind global.kind ≡ kind → is_argument (Some kind) ≡ false
no-argument global kind e = subst (λ z. is_argument (Some z) ≡ false) e (never global.kind)
  where
    never : (k : GlobalKind) → is_argument (Some (global_var_kind k)) ≡ false
    never (global_kind.Int value) = refl
    never (global_kind.IntArray count) = refl
    never global_kind.Thread = refl
    never (global_kind.ThreadArray count) = refl
    never global_kind.Mutex = refl
    never global_kind.Cond = refl

module _ (names : Names) (file : File) (agrees : Agrees names file) (scope : Scope) (placed : IsPlaced scope.count (visible scope)) where
  means-local : (text : List ℕ) (l : Local) → local_named text scope ≡ Some l → Means file scope text (IsLocal l.number l.kind)
  means-local text l e =
      (ap (λ o. option_map (λ (local : Local). local.kind) o) (local-here scope text l placed e), (find-below (is_named text) scope.count (visible scope) l placed e).1)

  unhidden : (text : List ℕ) → local_named text scope ≡ None → is_hidden text scope ≡ false
  unhidden text e = none-any (is_named text) (visible scope) e

  means-file : (text : List ℕ) (m : Option Meaning) → (names text).first ≡ m → local_named text scope ≡ None → Means file scope text (file_use m)
  means-file text None f e = tt
  means-file text (Some (OfVariable n kind)) f e =
      let g = agrees.global text n kind f in
      let seen : global_seen scope (Some g.global) ≡ Some kind =
      ap (λ z. if z then None else Some (global_var_kind g.global.kind)) (ap (λ z. is_hidden z scope) g.named ∙ unhidden text e) ∙ ap Some g.is_kind in
      (ap (global_seen scope) g.found ∙ seen, no-argument g.global kind g.is_kind)
  means-file text (Some (OfFunction n kind params)) f e =
      let signature : Signature = record { name = text; kind = kind; params = params } in
      ap (function_seen scope) (agrees.function text n kind params f) ∙ ap (λ z. if z then None else Some signature) (unhidden text e)
  means-file text (Some (OfNumber value)) f e = agrees.number text value f

  means-by : (text : List ℕ) (o : Option Local) → local_named text scope ≡ o → Means file scope text (local_use o (file_use (names text).first))
  means-by text None e = means-file text (names text).first refl e
  means-by text (Some l) e = means-local text l e

  -- in a scope that sees the same locals
  pub means-of : (inner : Scope) → visible inner ≡ visible scope → (text : List ℕ) → Means file scope text (use_of names inner text)
  means-of inner same text = means-by text (local_named text inner) (ap (find (is_named text)) (sym same))
