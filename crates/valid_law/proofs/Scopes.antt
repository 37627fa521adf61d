-- Declarations, blocks and statements keep the numbers of locals in order.
use Rattle.std.proofs.Common.{◌≡◌, ℕ, ◌+◌, ◌<◌, ◌≤◌, Bool, true, false, not, List, [], ◌∷◌, map, length, Option, Some, None, refl, ap, arith}
use Rattle.std.proofs.lemmas.Bool.{and_parts, not-true}
use Rattle.std.specs.List.{list_all}
use Rattle.c_grammar.specs.Decl as d
use Rattle.c_grammar.specs.Stmt as t
use Rattle.c_prog.specs.Valid.Scope.{VarKind, Local, Scope, visible, nothing_declared, declared, entered, passed}
use Rattle.c_prog.specs.Valid.Functions.{with_params}
use Rattle.c_prog.specs.Valid.Statements.{Declared}
use Rattle.c_names.specs.Scopes.{local_int_declared, hold_declared, loop_int_declared, with_local, with_locals, listed, decl_declared, first_declared, in_for, stmt_locals, items_locals, item_locals, item_after}
use Rattle.valid_law.proofs.Uses.{is_global_kind, IsPlaced}

-- the locals that are visible here have falling numbers below the count
abbrev pub Fits : Scope → Type 0
Fits scope = IsPlaced scope.count (visible scope)

weaker : (bound higher : ℕ) (locals : List Local) → bound ≤ higher → IsPlaced bound locals → IsPlaced higher locals
weaker bound higher [] h k = tt
weaker bound higher (l ∷ more) h k =
    let below : l.number < bound = k.0 in
    (omega (arith, below, h), k.1, k.2)

pub fits-nothing : Fits nothing_declared
fits-nothing = tt

pub fits-declared : (name : List ℕ) (kind : VarKind) (scope : Scope) → is_global_kind kind ≡ false → Fits scope → Fits (declared name kind scope)
fits-declared name kind scope h k = (omega (arith), h, k)

pub fits-entered : (scope : Scope) → Fits scope → Fits (entered scope)
fits-entered scope k = k

pub fits-passed : (n : ℕ) (scope : Scope) → Fits scope → Fits (passed n scope)
fits-passed n scope k = weaker scope.count (scope.count + n) (visible scope) (omega (arith)) k

-- no declaration of a body declares a mutex or a condition variable
abbrev pub are_local_kinds : List Declared → Bool
are_local_kinds locals = list_all (λ local. not (is_global_kind local.kind)) locals

pub fits-locals : (locals : List Declared) (scope : Scope) → are_local_kinds locals ≡ true → Fits scope → Fits (with_locals locals scope)
fits-locals [] scope h k = k
fits-locals (local ∷ more) scope h k =
    let hs = and_parts (not (is_global_kind local.kind)) (are_local_kinds more) h in
    fits-locals more (with_local local scope) hs.1 (fits-declared local.name local.kind scope (not-true _ hs.0) k)

pub fits-params : (kind : VarKind) (names : List (List ℕ)) (scope : Scope) → is_global_kind kind ≡ false → Fits scope → Fits (with_params kind names scope)
fits-params kind [] scope h k = k
fits-params kind (name ∷ names) scope h k = fits-params kind names (declared name kind scope) h (fits-declared name kind scope h k)

pub local-int-kind : (x : d.LocalInt) → is_global_kind (local_int_declared x).kind ≡ false
local-int-kind (d.OneLocal x) = refl
local-int-kind (d.SetLocal x at v) = refl
local-int-kind (d.LocalArray x before n after) = refl

pub hold-kind : (x : d.Hold) → is_global_kind (hold_declared x).kind ≡ false
hold-kind (d.OneThread x) = refl
hold-kind (d.Threads x before n after) = refl

pub loop-int-kind : (x : d.LoopInt) → is_global_kind (loop_int_declared x).kind ≡ false
loop-int-kind (d.OneLoop x) = refl
loop-int-kind (d.SetLoop x at e) = refl

local-kinds : {A : Type 0} (f : A → Declared) → ((x : A) → is_global_kind (f x).kind ≡ false) → (xs : List A) → are_local_kinds (map f xs) ≡ true
local-kinds f h [] = refl
local-kinds f h (x ∷ xs) = rw (h x) (local-kinds f h xs)

decl-plain : (decl : d.Decl) → are_local_kinds (decl_declared decl) ≡ true
decl-plain (d.Ints at x more) = local-kinds local_int_declared local-int-kind (listed x more)
decl-plain (d.Holds at x more) = local-kinds hold_declared hold-kind (listed x more)

first-plain : (first : Option t.First) → are_local_kinds (first_declared first) ≡ true
first-plain None = refl
first-plain (Some (t.FirstInts at x more)) = local-kinds loop_int_declared loop-int-kind (listed x more)
first-plain (Some (t.FirstPlain p)) = refl

pub fits-for : (first : Option t.First) (scope : Scope) → Fits scope → Fits (in_for first scope)
fits-for first scope k = fits-locals (first_declared first) (entered scope) (first-plain first) k

pub fits-item : (item : t.Item) (scope : Scope) → Fits scope → Fits (item_after scope item)
fits-item (t.Declares decl end ops) scope k = fits-locals (decl_declared decl) scope (decl-plain decl) k
fits-item (t.Does st) scope k = fits-passed (stmt_locals st) scope k

-- ---- counts

pub locals-count : (locals : List Declared) (scope : Scope) → (with_locals locals scope).count ≡ scope.count + length locals
locals-count [] scope = omega (arith)
locals-count (local ∷ more) scope =
    let rest : (with_locals more (with_local local scope)).count ≡ scope.count + 1 + length more = locals-count more (with_local local scope) in
    omega (arith, rest)

pub item-count : (item : t.Item) (scope : Scope) → (item_after scope item).count ≡ scope.count + item_locals item
item-count (t.Declares decl end ops) scope = locals-count (decl_declared decl) scope
item-count (t.Does st) scope = refl

-- the scope behind items
abbrev pub items_after : Scope → t.Items → Scope
items_after scope t.NoItems = scope
items_after scope (t.AndItem i more) = items_after (item_after scope i) more

pub items-count : (items : t.Items) (scope : Scope) → (items_after scope items).count ≡ scope.count + items_locals items
items-count t.NoItems scope = omega (arith)
items-count (t.AndItem i more) scope =
    let first = item-count i scope in
    let rest = items-count more (item_after scope i) in
    omega (arith, first, rest)

pub passed-zero : (scope : Scope) → passed 0 scope ≡ scope
passed-zero scope =
    let same : scope.count + 0 ≡ scope.count = omega (arith) in
    ap (λ (k : ℕ). record { block = scope.block; around = scope.around; count = k }) same
