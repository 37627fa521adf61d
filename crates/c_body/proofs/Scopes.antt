-- What declarations, statements and blocks leave of a scope.
use Rattle.std.specs.Prelude.{option_map}
use Rattle.std.proofs.Common.{◌≡◌, ℕ, ◌+◌, ◌-◌, ◌^◌, ◌<◌, ◌≤◌, List, [], ◌∷◌, ◌++◌, length, take, drop, Option, Some, None, refl, ap, ◌∙◌, arith}
use Rattle.std.proofs.lemmas.Grind.{common_steps}
use Rattle.std.proofs.Math.Seq.{take-append_seam, drop-append_seam}
use Rattle.c_grammar.specs.Stmt.{First, Items, NoItems, AndItem, Item, Declares, Does}
use Rattle.c_prog.specs.declared.stmt.Stmt.{Stmt}
use Rattle.c_prog.specs.Valid.Scope.{Local, Scope, entered, passed}
use Rattle.c_prog.specs.Valid.Statements.{Declared}
use Rattle.c_names.specs.Uses.{Names}
use Rattle.c_names.specs.Scopes.{with_local, with_locals, decl_declared, first_declared, in_for, items_locals, item_locals, item_after}
use Rattle.c_names.specs.SpelledStatements.{first_of, for_of}
use Rattle.c_scope.specs.Scopes.{left}
use Rattle.c_body.specs.After.{items_after, with_first}

around-locals : (locals : List Declared) (scope : Scope) → (with_locals locals scope).around ≡ scope.around
around-locals [] scope = refl
around-locals (d ∷ more) scope = around-locals more (with_local d scope)

count-locals : (locals : List Declared) (scope : Scope) → (with_locals locals scope).count ≡ scope.count + length locals
count-locals [] scope = omega arith
count-locals (d ∷ more) scope = count-locals more (with_local d scope) ∙ (let e : (scope.count + 1) + length more ≡ scope.count + length (d ∷ more) = grind (arith, common_steps) in e)

around-item : (scope : Scope) (i : Item) → (item_after scope i).around ≡ scope.around
around-item scope (Declares decl end ops) = around-locals (decl_declared decl) scope
around-item scope (Does st) = refl

pub count-item : (scope : Scope) (i : Item) → (item_after scope i).count ≡ scope.count + item_locals i
count-item scope (Declares decl end ops) = count-locals (decl_declared decl) scope
count-item scope (Does st) = refl

-- behind an item that declares m locals, n are left
pub after-fits : (new old m n : ℕ) → new ≡ old + m → old + (m + n) < 2 ^ 32 → new + n < 2 ^ 32
after-fits new old m n is fits = omega arith

pub around-items : (scope : Scope) (items : Items) → (items_after scope items).around ≡ scope.around
around-items scope NoItems = refl
around-items scope (AndItem i more) = around-items (item_after scope i) more ∙ around-item scope i

count-items : (scope : Scope) (items : Items) → (items_after scope items).count ≡ scope.count + items_locals items
count-items scope NoItems = omega arith
count-items scope (AndItem i more) =
    count-items (item_after scope i) more
    ∙ ap (λ n. n + items_locals more) (count-item scope i)
    ∙ (let e : (scope.count + item_locals i) + items_locals more ≡ scope.count + (item_locals i + items_locals more) = omega arith in e)

before-seam : (xs ys : List Local) → length (xs ++ ys) - length ys ≡ length xs
before-seam xs ys = grind (arith, common_steps)

-- behind a block that was entered here
leaves : (scope : Scope) (inside : Scope) → inside.around ≡ scope.block ++ scope.around
    → left (length scope.around) inside ≡ record { block = scope.block; around = scope.around; count = inside.count }
leaves scope inside is =
    ap (λ (l : List Local). record { block = take (length l - length scope.around) l; around = drop (length l - length scope.around) l; count = inside.count }) is
    ∙ ap (λ n. record { block = take n (scope.block ++ scope.around); around = drop n (scope.block ++ scope.around); count = inside.count }) (before-seam scope.block scope.around)
    ∙ ap (λ (l : List Local). record { block = l; around = drop (length scope.block) (scope.block ++ scope.around); count = inside.count }) (take-append_seam scope.block scope.around)
    ∙ ap (λ (l : List Local). record { block = scope.block; around = l; count = inside.count }) (drop-append_seam scope.block scope.around)

pub left-passed : (scope : Scope) (n : ℕ) → left (length scope.around) (passed n (entered scope)) ≡ passed n scope
left-passed scope n = leaves scope (passed n (entered scope)) refl

pub left-items : (scope : Scope) (items : Items) → left (length scope.around) (items_after (entered scope) items) ≡ passed (items_locals items) scope
left-items scope items =
    leaves scope (items_after (entered scope) items) (around-items (entered scope) items)
    ∙ ap (λ n. record { block = scope.block; around = scope.around; count = n }) (count-items (entered scope) items)

pub left-for : (scope : Scope) (first : Option First) (n : ℕ)
    → left (length scope.around) (passed n (in_for first scope)) ≡ passed (length (first_declared first) + n) scope
left-for scope first n =
    leaves scope (passed n (in_for first scope)) (around-locals (first_declared first) (entered scope))
    ∙ ap (λ k. record { block = scope.block; around = scope.around; count = k + n }) (count-locals (first_declared first) (entered scope))
    ∙ ap (λ k. record { block = scope.block; around = scope.around; count = k }) (let e : (scope.count + length (first_declared first)) + n ≡ scope.count + (length (first_declared first) + n) = omega arith in e)

-- more than there was stands around a block
room : (scope inside : Scope) → inside.around ≡ scope.block ++ scope.around → length scope.around ≤ length inside.around
room scope inside is = let e : length inside.around ≡ length (scope.block ++ scope.around) = ap length is in grind (arith, common_steps, e)

pub room-items : (scope : Scope) (items : Items) → length scope.around ≤ length (items_after (entered scope) items).around
room-items scope items = room scope (items_after (entered scope) items) (around-items (entered scope) items)

pub room-for : (scope : Scope) (first : Option First) (n : ℕ) → length scope.around ≤ length (passed n (in_for first scope)).around
room-for scope first n = room scope (passed n (in_for first scope)) (around-locals (first_declared first) (entered scope))

pub count-for : (scope : Scope) (first : Option First) → (in_for first scope).count ≡ scope.count + length (first_declared first)
count-for scope first = count-locals (first_declared first) (entered scope)

pub first-for : (names : Names) (scope : Scope) (first : Option First) (loop : Stmt) → with_first (option_map (first_of names scope) first) loop ≡ for_of names scope first loop
first-for names scope None loop = refl
first-for names scope (Some first) loop = refl

pub passed-zero : (scope : Scope) → passed 0 scope ≡ scope
passed-zero scope = ap (λ n. record { block = scope.block; around = scope.around; count = n }) (let e : scope.count + 0 ≡ scope.count = omega arith in e)

pub passed-both : (scope : Scope) (m n : ℕ) → passed n (passed m scope) ≡ passed (m + n) scope
passed-both scope m n = ap (λ k. record { block = scope.block; around = scope.around; count = k }) (let e : (scope.count + m) + n ≡ scope.count + (m + n) = omega arith in e)

pub ruleset scopes = (left-passed, left-items, left-for, room-items, room-for, count-for, first-for, passed-zero, passed-both, around-items, count-item)
