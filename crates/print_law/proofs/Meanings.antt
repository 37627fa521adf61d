-- What the names of the canonical text mean: the variables and functions that they are the names of.
use Rattle.std.proofs.Common.{◌≡◌, ℕ, ◌==◌, Bool, true, false, not, ◌&&◌, ◌||◌, List, [], ◌∷◌, ◌++◌, Option, Some, None, option_map, slice_get, find, cond, refl, ap, sym, ◌∙◌, subst, true≢false, if◌then◌else◌}
use Rattle.std.proofs.lemmas.Bool.{and_parts, eqb-true, not-true}
use Rattle.std.proofs.lemmas.Slice.Eq.{bytes_eq-Decides}
use Rattle.std.specs.List.{list_any, list_all}
use Rattle.std.specs.Str.{bytes_eq}
use Rattle.cfix_base.specs.Words.{is_name_text, is_reserved_text}
use Rattle.cfix_base.specs.declared.number.FnId.{FnId}
use Rattle.cfix_base.specs.declared.spot.Spot.{Spot}
use Rattle.c_prog.specs.declared.expr.Var.{Var}
use Rattle.c_prog.specs.declared.expr.Var.TheVariants as var
use Rattle.c_prog.specs.declared.global.Global.{Global}
use Rattle.c_prog.specs.Valid.Scope.{VarKind, Local, Scope, visible, is_named, is_hidden, local_named, is_numbered, local_here}
use Rattle.c_prog.specs.Valid.Kinds.{Signature, File, global_var_kind, global_seen, function_seen, kind_here, function_here}
use Rattle.c_prog.specs.Valid.Acts.{is_declared_name}
use Rattle.c_names.specs.declared.fault.Fault.{Fault}
use Rattle.c_names.specs.declared.fault.FaultKind.{FaultKind}
use Rattle.c_names.specs.declared.fault.FaultKind.TheVariants.{Limit}
use Rattle.c_names.specs.Faults.{is_limit, fault_if}
use Rattle.c_names.specs.Names.{reserved_faults}
use Rattle.c_names.specs.Uses as n
use Rattle.c_grammar.specs.Token.{Ident}
use Rattle.c_print.specs.Text.Names.{Names, name_at, var_name}
use Rattle.print_law.proofs.Apart.{both}

-- what holds of the names of globals and functions

pub record GlobalFact (names : Names) (known : n.Names) (number : ℕ) (g : Global) : Type 0 where
  pub named : name_at names.globals number ≡ g.name
  pub declared : is_declared_name g.name ≡ true
  pub first : (known g.name).first ≡ Some (n.OfVariable number (global_var_kind g.kind))

pub record FunctionFact (names : Names) (known : n.Names) (number : ℕ) (f : Signature) : Type 0 where
  pub named : name_at names.functions number ≡ f.name
  pub declared : is_declared_name f.name ≡ true
  pub first : (known f.name).first ≡ Some (n.OfFunction number f.kind f.params)

pub record FileFacts (names : Names) (known : n.Names) (file : File) : Type 0 where
  pub globals : (number : ℕ) (g : Global) → slice_get file.globals number ≡ Some g → GlobalFact names known number g
  pub functions : (number : ℕ) (f : Signature) → slice_get file.functions number ≡ Some f → FunctionFact names known number f
  pub undefined : (text : List ℕ) → is_declared_name text ≡ true → (known text).is_defined ≡ false

-- what holds of the names of locals

pub record LocalFact (names : Names) (l : Local) : Type 0 where
  pub named : name_at names.locals l.number ≡ l.name
  pub declared : is_declared_name l.name ≡ true

abbrev pub AllKnown : Names → List Local → Type 0
AllKnown names [] = Unit {0}
AllKnown names (l ∷ more) = LocalFact names l × AllKnown names more

-- look-ups

same-some : {A : Type 0} (a b : A) → Some a ≡ Some b → a ≡ b
same-some a b e = cc

abbrev IsNone : {A : Type 0} → Option A → Type 0
IsNone None = Unit {0}
IsNone (Some a) = ⊥

none-some : {A B : Type 0} (a : A) → None ≡ Some a → B
none-some {A} {B} a e = absurd (subst (λ (o : Option A). IsNone o) e tt)

found-by : {X : Type 0} (p : X → Bool) (y x : X) (rest : Option X) (b : Bool) → p y ≡ b → cond b (Some y) rest ≡ Some x → (rest ≡ Some x → p x ≡ true) → p x ≡ true
found-by p y x rest true t e g = subst (λ z. p z ≡ true) (same-some y x e) t
found-by p y x rest false t e g = g e

pub find-is : {X : Type 0} (p : X → Bool) (xs : List X) (x : X) → find p xs ≡ Some x → p x ≡ true
find-is p [] x e = none-some x e
find-is p (y ∷ xs) x e = found-by p y x (find p xs) (p y) refl e (λ g. find-is p xs x g)

known-by : (names : Names) (p : Local → Bool) (y x : Local) (rest : Option Local) (b : Bool) → cond b (Some y) rest ≡ Some x → LocalFact names y → (rest ≡ Some x → LocalFact names x) → LocalFact names x
known-by names p y x rest true e f g = subst (LocalFact names) (same-some y x e) f
known-by names p y x rest false e f g = g e

find-known : (names : Names) (p : Local → Bool) (xs : List Local) (x : Local) → AllKnown names xs → find p xs ≡ Some x → LocalFact names x
find-known names p [] x k e = none-some x e
find-known names p (y ∷ xs) x k e = known-by names p y x (find p xs) (p y) e k.0 (λ g. find-known names p xs x k.1 g)

same-by : {X : Type 0} (p q : X → Bool) (y a b : X) (ps qs : Option X) (s t : Bool) → p y ≡ s → q y ≡ t → cond s (Some y) ps ≡ Some a → cond t (Some y) qs ≡ Some b
    → q a ≡ true → p b ≡ true → (ps ≡ Some a → qs ≡ Some b → a ≡ b) → a ≡ b
same-by p q y a b ps qs true true i j e f qa pb g = sym (same-some y a e) ∙ same-some y b f
same-by p q y a b ps qs true false i j e f qa pb g = absurd (true≢false (sym (subst (λ z. q z ≡ true) (sym (same-some y a e)) qa) ∙ j))
same-by p q y a b ps qs false true i j e f qa pb g = absurd (true≢false (sym (subst (λ z. p z ≡ true) (sym (same-some y b f)) pb) ∙ i))
same-by p q y a b ps qs false false i j e f qa pb g = g e f

-- the first that passes one test and the first that passes another are the same where each passes both
find-same : {X : Type 0} (p q : X → Bool) (xs : List X) (a b : X) → find p xs ≡ Some a → find q xs ≡ Some b → q a ≡ true → p b ≡ true → a ≡ b
find-same p q [] a b e f qa pb = none-some a e
find-same p q (y ∷ xs) a b e f qa pb = same-by p q y a b (find p xs) (find q xs) (p y) (q y) refl refl e f qa pb (λ g h. find-same p q xs a b g h qa pb)

none-by : {X : Type 0} (p : X → Bool) (y : X) (xs : List X) (b : Bool) → p y ≡ b → (b || list_any p xs) ≡ false → (list_any p xs ≡ false → find p xs ≡ None) → cond b (Some y) (find p xs) ≡ None
none-by p y xs true t e g = absurd (true≢false e)
none-by p y xs false t e g = g e

pub find-none : {X : Type 0} (p : X → Bool) (xs : List X) → list_any p xs ≡ false → find p xs ≡ None
find-none p [] e = refl
find-none p (y ∷ xs) e = none-by p y xs (p y) refl e (λ g. find-none p xs g)

pub bytes-same : (xs ys : List ℕ) → bytes_eq xs ys ≡ true → xs ≡ ys
bytes-same xs ys e = (bytes_eq-Decides xs ys).0 e

pub bytes-refl : (xs : List ℕ) → bytes_eq xs xs ≡ true
bytes-refl xs = (bytes_eq-Decides xs xs).1 refl

-- the local with a number, where its name means it

numbered-is : (number : ℕ) (o : Option Local) → is_numbered number o ≡ true → (l : Local) × (o ≡ Some l) × ((l.number == number) ≡ true)
numbered-is number None e = absurd (true≢false (sym e))
numbered-is number (Some l) e = (l, refl, e)

pub local-found : (scope : Scope) (number : ℕ) (l : Local) → local_here number scope ≡ Some l → (local_named l.name scope ≡ Some l) × (l.number ≡ number)
local-found scope number l e =
    let p : Local → Bool = λ (x : Local). (x.number == number) && is_numbered number (local_named x.name scope) in
    let parts = and_parts (l.number == number) (is_numbered number (local_named l.name scope)) (find-is p (visible scope) l e) in
    let other = numbered-is number (local_named l.name scope) parts.1 in
    let named : is_named l.name other.0 ≡ true = find-is (is_named l.name) (visible scope) other.0 other.1 in
    let name : l.name ≡ other.0.name = bytes-same l.name other.0.name named in
    let passes : p other.0 ≡ true =
    both _ _ other.2 (ap (λ z. is_numbered number (local_named z scope)) (sym name) ∙ parts.1) in
    let same : l ≡ other.0 = find-same p (is_named l.name) (visible scope) l other.0 e other.1 (bytes-refl l.name) passes in
    (other.1 ∙ ap Some (sym same), eqb-true l.number number parts.0)

-- variables

-- what the name of a variable of this kind stands for
abbrev pub use_for : Var → VarKind → n.Use
use_for (var.Local number) kind = n.IsLocal number kind
use_for (var.Global id) kind = n.IsGlobal id.number kind

pub record VarUse (names : Names) (known : n.Names) (inner : Scope) (v : Var) (kind : VarKind) : Type 0 where
  pub declared : is_declared_name (var_name names v) ≡ true
  pub stands : n.use_of known inner (var_name names v) ≡ use_for v kind

some-kind : (o : Option Local) (kind : VarKind) → option_map (λ local. local.kind) o ≡ Some kind → (l : Local) × (o ≡ Some l) × (l.kind ≡ kind)
some-kind None kind e = none-some kind e
some-kind (Some l) kind e = (l, refl, same-some l.kind kind e)

module _ (names : Names) (known : n.Names) (file : File) (facts : FileFacts names known file) (scope : Scope) (locals : AllKnown names (visible scope))
    (inner : Scope) (same : (text : List ℕ) → local_named text inner ≡ local_named text scope) where
  local-use : (number : ℕ) (kind : VarKind) → option_map (λ local. local.kind) (local_here number scope) ≡ Some kind → VarUse names known inner (var.Local number) kind
  local-use number kind e =
      let l = some-kind (local_here number scope) kind e in
      let found = local-found scope number l.0 l.1 in
      let fact = find-known names (λ (x : Local). (x.number == number) && is_numbered number (local_named x.name scope)) (visible scope) l.0 locals l.1 in
      let name : name_at names.locals number ≡ l.0.name = ap (name_at names.locals) (sym found.1) ∙ fact.named in
      record {
        declared = ap is_declared_name name ∙ fact.declared;
        stands = ap (n.use_of known inner) name ∙ ap (λ z. n.local_use z (n.file_use (known l.0.name).first)) (same l.0.name ∙ found.0)
            ∙ ap (λ z. n.IsLocal z l.0.kind) found.1 ∙ ap (λ z. n.IsLocal number z) l.2;
      }

  hidden-by : (g : Global) (b : Bool) (kind : VarKind) → is_hidden g.name scope ≡ b → (if b then None else Some (global_var_kind g.kind)) ≡ Some kind
      → (is_hidden g.name scope ≡ false) × (global_var_kind g.kind ≡ kind)
  hidden-by g true kind h e = none-some kind e
  hidden-by g false kind h e = (h, same-some (global_var_kind g.kind) kind e)

  global-by : (number : ℕ) (o : Option Global) (kind : VarKind) → slice_get file.globals number ≡ o → global_seen scope o ≡ Some kind
      → (g : Global) × GlobalFact names known number g × (is_hidden g.name scope ≡ false) × (global_var_kind g.kind ≡ kind)
  global-by number None kind s e = none-some kind e
  global-by number (Some g) kind s e = let h = hidden-by g (is_hidden g.name scope) kind refl e in (g, facts.globals number g s, h.0, h.1)

  unhidden : (name : List ℕ) → is_hidden name scope ≡ false → local_named name inner ≡ None
  unhidden name h = same name ∙ find-none (is_named name) (visible scope) h

  global-use : (number : ℕ) (kind : VarKind) → global_seen scope (slice_get file.globals number) ≡ Some kind → VarUse names known inner (var.Global (record { number = number })) kind
  global-use number kind e =
      let g = global-by number (slice_get file.globals number) kind refl e in
      record {
        declared = ap is_declared_name g.1.named ∙ g.1.declared;
        stands = ap (n.use_of known inner) g.1.named ∙ ap (λ z. n.local_use z (n.file_use (known g.0.name).first)) (unhidden g.0.name g.2)
            ∙ ap n.file_use g.1.first ∙ ap (λ z. n.IsGlobal number z) g.3;
      }

  -- a variable whose name means it is what its name stands for
  pub var-use : (v : Var) (kind : VarKind) → kind_here file scope v ≡ Some kind → VarUse names known inner v kind
  var-use (var.Local number) kind e = local-use number kind e
  var-use (var.Global id) kind e = global-use id.number kind e

  function-hidden : (f g : Signature) (b : Bool) → is_hidden f.name scope ≡ b → (if b then None else Some f) ≡ Some g → (is_hidden f.name scope ≡ false) × (f ≡ g)
  function-hidden f g true h e = none-some g e
  function-hidden f g false h e = (h, same-some f g e)

  function-by : (number : ℕ) (o : Option Signature) (f : Signature) → slice_get file.functions number ≡ o → function_seen scope o ≡ Some f
      → (is_hidden f.name scope ≡ false) × FunctionFact names known number f
  function-by number None f s e = none-some f e
  function-by number (Some g) f s e =
      let h = function-hidden g f (is_hidden g.name scope) refl e in
      (ap (λ (z : Signature). is_hidden z.name scope) (sym h.1) ∙ h.0, subst (FunctionFact names known number) h.1 (facts.functions number g s))

  -- a function whose name means it
  pub function-use : (id : FnId) (f : Signature) → function_here file scope id ≡ Some f
      → (name_at names.functions id.number ≡ f.name) × (is_declared_name (name_at names.functions id.number) ≡ true)
      × (n.use_of known inner (name_at names.functions id.number) ≡ n.IsFunction id.number f.kind f.params)
  function-use id f e =
      let g = function-by id.number (slice_get file.functions id.number) f refl e in (
        g.1.named,
        ap is_declared_name g.1.named ∙ g.1.declared,
        ap (n.use_of known inner) g.1.named ∙ ap (λ z. n.local_use z (n.file_use (known f.name).first)) (unhidden f.name g.0) ∙ ap n.file_use g.1.first,
      )

-- declared names

pub declared-name : (text : List ℕ) → is_declared_name text ≡ true → is_name_text text ≡ true
declared-name text h = (and_parts (is_name_text text) (not (is_reserved_text text)) h).0

-- faults

abbrev pub limits : List Fault → Bool
limits faults = list_all (λ f. is_limit f.kind) faults

pub limits-append : (xs ys : List Fault) → limits xs ≡ true → limits ys ≡ true → limits (xs ++ ys) ≡ true
limits-append [] ys p q = q
limits-append (x ∷ xs) ys p q = let ps = and_parts (is_limit x.kind) (limits xs) p in both _ _ ps.0 (limits-append xs ys ps.1 q)

pub limit-if : (test : Bool) (spot : Spot) → limits (fault_if test spot Limit) ≡ true
limit-if true spot = refl
limit-if false spot = refl

pub no-fault : (test : Bool) (spot : Spot) (kind : FaultKind) → test ≡ false → limits (fault_if test spot kind) ≡ true
no-fault true spot kind e = absurd (true≢false e)
no-fault false spot kind e = refl

pub no-reserved : (x : Ident) → is_declared_name x.text ≡ true → limits (reserved_faults x) ≡ true
no-reserved x h = no-fault (is_reserved_text x.text) x.spot _ (not-true _ (and_parts (is_name_text x.text) (not (is_reserved_text x.text)) h).1)
