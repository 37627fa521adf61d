-- The places of names among locals: how they change where a local comes and goes.
use Rattle.std.specs.Prelude.{zero, suc, find, reverse, slice_get, option_map, nat_le, map, Result, Ok, Err, OnOk, OnErr}
use Rattle.std.specs.List.{list_any}
use Rattle.std.specs.Str.{bytes_eq}
use Rattle.std.proofs.Common.{◌≡◌, ℕ, ◌-◌, ◌<◌, ◌≤◌, Bool, true, false, ◌||◌, cond, List, [], ◌∷◌, ◌++◌, length, take, drop, Option, Some, None, refl, ap, sym, ◌∙◌, subst, arith}
use Rattle.std.proofs.lemmas.Grind.{common_steps}
use Rattle.std.proofs.lemmas.Bool.Decides.{nat_tests}
use Rattle.std.proofs.lemmas.List.{reverse-append, length-reverse, take-append-drop}
use Rattle.std.proofs.lemmas.Slice.Eq.{bytes_eq-Decides}
use Rattle.c_prog.specs.Valid.Scope.{is_named}
use Rattle.c_scope.specs.declared.entry.Entry.{Entry}
use Rattle.c_scope.specs.Tables.{row_of, with_row}
use Rattle.c_scope.specs.Places.{entry_view, flat, place_of, Hides, Indexed}

abbrev OnlyFalse : Bool → Type 0
OnlyFalse false = Unit {0}
OnlyFalse true = ⊥

never : false ≡ true → ⊥
never h = subst OnlyFalse h tt

abbrev OnlyNone : {X : Type 0} → Option X → Type 0
OnlyNone None = Unit {0}
OnlyNone (Some x) = ⊥

pub nothing : {X : Type 0} (x : X) (o : Option X) → o ≡ None → o ≡ Some x → ⊥
nothing x o none some = subst OnlyNone (sym none ∙ some) tt

abbrev or_else : {X : Type 0} → X → Option X → X
or_else d None = d
or_else d (Some x) = x

inner : {X : Type 0} (x y : X) → Some x ≡ Some y → x ≡ y
inner x y h = ap (or_else x) h

-- what cannot fail succeeds
pub must : {A E P Q : Type 0} (r : Result A E) → OnOk r P → OnErr r Q → (Q → ⊥) → P
must (Ok x) ok err not = ok
must (Err e) ok err not = absurd (not err)

same : (a b : List ℕ) → bytes_eq a b ≡ true → a ≡ b
same a b = (bytes_eq-Decides a b).0

itself : (a : List ℕ) → bytes_eq a a ≡ true
itself a = (bytes_eq-Decides a a).1 refl

equal : (a b : List ℕ) → a ≡ b → bytes_eq a b ≡ true
equal a b = (bytes_eq-Decides a b).1

-- what is found behind a change of one name
pub row-with : {V : Type 0} (a key : List ℕ) (row : V) (es : List (List ℕ × V)) → row_of a (with_row key row es) ≡ cond (bytes_eq a key) (Some row) (row_of a es)
row-with a key row [] = refl
row-with {V} a key row (e ∷ es) = by (bytes_eq key e.0) (bytes_eq a e.0) (bytes_eq a key) refl refl refl (row-with a key row es)
  where
    by : (k n m : Bool) → bytes_eq key e.0 ≡ k → bytes_eq a e.0 ≡ n → bytes_eq a key ≡ m
        → row_of a (with_row key row es) ≡ cond m (Some row) (row_of a es)
        → row_of a (cond k ((e.0, row) ∷ es) (e ∷ with_row key row es)) ≡ cond m (Some row) (cond n (Some e.1) (row_of a es))
    by true true true ke ae ak rest = ap (λ t. cond t (Some row) (row_of a es)) ae
    by true false false ke ae ak rest = ap (λ t. cond t (Some row) (row_of a es)) ae
    by true true false ke ae ak rest =
        let is : a ≡ key = same a e.0 ae ∙ sym (same key e.0 ke) in
        let h : false ≡ true = sym ak ∙ equal a key is in
        absurd (never h)
    by true false true ke ae ak rest =
        let is : a ≡ e.0 = same a key ak ∙ same key e.0 ke in
        let h : false ≡ true = sym ae ∙ equal a e.0 is in
        absurd (never h)
    by false true true ke ae ak rest =
        let is : key ≡ e.0 = sym (same a key ak) ∙ same a e.0 ae in
        let h : false ≡ true = sym ke ∙ equal key e.0 is in
        absurd (never h)
    by false true false ke ae ak rest = ap (λ t. cond t (Some e.1) (row_of a (with_row key row es))) ae
    by false false true ke ae ak rest = ap (λ t. cond t (Some e.1) (row_of a (with_row key row es))) ae ∙ rest
    by false false false ke ae ak rest = ap (λ t. cond t (Some e.1) (row_of a (with_row key row es))) ae ∙ rest

-- a local is added
pub opened : (places : List (List ℕ × Option ℕ)) (locals : List Entry) (entry : Entry)
    → Indexed places locals → entry.hidden ≡ flat (row_of entry.local.name places)
    → Indexed (with_row entry.local.name (Some (length locals)) places) (locals ++ entry ∷ [])
opened places locals entry kept is = record {
  placed = λ text.
      ap flat (row-with text entry.local.name (Some (length locals)) places)
      ∙ by text (bytes_eq text entry.local.name)
      ∙ ap (place_of text) (sym (reverse-append locals (entry ∷ [])));
  hides = subst Hides (sym (reverse-append locals (entry ∷ []))) (is ∙ kept.placed entry.local.name, kept.hides);
}
  where
    by : (text : List ℕ) (b : Bool) → flat (cond b (Some (Some (length locals))) (row_of text places)) ≡ cond b (Some (length (reverse locals))) (place_of text (reverse locals))
    by text true = ap (λ n. Some n) (sym (length-reverse locals))
    by text false = kept.placed text

-- the last local is taken away
pub closed : (places : List (List ℕ × Option ℕ)) (locals : List Entry) (entry : Entry)
    → Indexed places (locals ++ entry ∷ []) → Indexed (with_row entry.local.name entry.hidden places) locals
closed places locals entry kept =
    let whole : Hides (entry ∷ reverse locals) = subst Hides (reverse-append locals (entry ∷ [])) kept.hides in
    record {
      placed = λ text. ap flat (row-with text entry.local.name entry.hidden places) ∙ by whole text (bytes_eq text entry.local.name) refl;
      hides = whole.1;
    }
  where
    by : Hides (entry ∷ reverse locals) → (text : List ℕ) (b : Bool) → bytes_eq text entry.local.name ≡ b
        → flat (cond b (Some entry.hidden) (row_of text places)) ≡ place_of text (reverse locals)
    by whole text true is = whole.0 ∙ ap (λ name. place_of name (reverse locals)) (sym (same text entry.local.name is))
    by whole text false is =
        kept.placed text ∙ ap (place_of text) (reverse-append locals (entry ∷ []))
        ∙ ap (λ t. cond t (Some (length (reverse locals))) (place_of text (reverse locals))) is

-- the name of the last local has a place
pub present : (places : List (List ℕ × Option ℕ)) (locals : List Entry) (entry : Entry)
    → Indexed places (locals ++ entry ∷ []) → row_of entry.local.name places ≡ None → ⊥
present places locals entry kept none =
    nothing (length (reverse locals)) (flat (row_of entry.local.name places)) (ap flat none)
    (kept.placed entry.local.name
    ∙ ap (place_of entry.local.name) (reverse-append locals (entry ∷ []))
    ∙ ap (λ t. cond t (Some (length (reverse locals))) (place_of entry.local.name (reverse locals))) (itself entry.local.name))

-- a place is one of the locals
pub place-within : (text : List ℕ) (entries : List Entry) (place : ℕ) → place_of text entries ≡ Some place → place < length entries
place-within text [] place is = absurd (nothing place None refl is)
place-within text (entry ∷ before) place is = by (bytes_eq text entry.local.name) is (place-within text before place)
  where
    by : (b : Bool) → cond b (Some (length before)) (place_of text before) ≡ Some place → (place_of text before ≡ Some place → place < length before) → place < length (entry ∷ before)
    by true h rest = let e : length before ≡ place = inner (length before) place h in grind (arith, common_steps, e)
    by false h rest = let e : place < length before = rest h in grind (arith, common_steps, e)

last : (xs : List Entry) (x : Entry) → slice_get (xs ++ x ∷ []) (length xs) ≡ Some x
last [] x = refl
last (y ∷ xs) x = last xs x

front : (xs : List Entry) (x : Entry) (n : ℕ) → n < length xs → slice_get (xs ++ x ∷ []) n ≡ slice_get xs n
front [] x n h = grind (arith, h)
front (y ∷ xs) x zero h = refl
front (y ∷ xs) x (suc n) h = front xs x n (grind (arith, h))

-- what is shown of the local at the place of a name is the first of the name
pub found-at : (text : List ℕ) (entries : List Entry) (place : ℕ) → place_of text entries ≡ Some place
    → option_map entry_view (slice_get (reverse entries) place) ≡ find (is_named text) (map entry_view entries)
found-at text [] place is = absurd (nothing place None refl is)
found-at text (e ∷ before) place is =
    ap (λ l. option_map entry_view (slice_get l place)) (reverse-append (e ∷ []) before)
    ∙ by (bytes_eq text e.local.name) is (found-at text before place)
  where
    by : (b : Bool) → cond b (Some (length before)) (place_of text before) ≡ Some place
        → (place_of text before ≡ Some place → option_map entry_view (slice_get (reverse before) place) ≡ find (is_named text) (map entry_view before))
        → option_map entry_view (slice_get (reverse before ++ e ∷ []) place) ≡ cond b (Some (entry_view e)) (find (is_named text) (map entry_view before))
    by true h rest =
        let n : place ≡ length (reverse before) = sym (length-reverse before ∙ inner (length before) place h) in
        ap (λ k. option_map entry_view (slice_get (reverse before ++ e ∷ []) k)) n ∙ ap (option_map entry_view) (last (reverse before) e)
    by false h rest =
        let within : place < length (reverse before) = subst (λ n. place < n) (sym (length-reverse before)) (place-within text before place h) in
        ap (option_map entry_view) (front (reverse before) e place within) ∙ rest h

-- no local has the name
pub found-none : (text : List ℕ) (entries : List Entry) → place_of text entries ≡ None → find (is_named text) (map entry_view entries) ≡ None
found-none text [] is = refl
found-none text (e ∷ before) is = by (bytes_eq text e.local.name) is (found-none text before)
  where
    by : (b : Bool) → cond b (Some (length before)) (place_of text before) ≡ None
        → (place_of text before ≡ None → find (is_named text) (map entry_view before) ≡ None)
        → cond b (Some (entry_view e)) (find (is_named text) (map entry_view before)) ≡ None
    by true h rest = absurd (nothing (length before) (Some (length before)) h refl)
    by false h rest = rest h

-- whether the place is behind those before the block
abbrev pub is_from : ℕ → Option ℕ → Bool
is_from first None = false
is_from first (Some place) = nat_le first place

-- a block has the name where the place is in the block
in-block : (text : List ℕ) (block around : List Entry) → list_any (is_named text) (map entry_view block) ≡ is_from (length around) (place_of text (block ++ around))
in-block text [] around = sym (none (place_of text around) refl)
  where
    none : (found : Option ℕ) → place_of text around ≡ found → is_from (length around) found ≡ false
    none None is = refl
    none (Some place) is = let w : place < length around = place-within text around place is in grind (arith, nat_tests, w)
in-block text (e ∷ block) around = by (bytes_eq text e.local.name) (in-block text block around)
  where
    by : (b : Bool) → list_any (is_named text) (map entry_view block) ≡ is_from (length around) (place_of text (block ++ around))
        → (b || list_any (is_named text) (map entry_view block)) ≡ is_from (length around) (cond b (Some (length (block ++ around))) (place_of text (block ++ around)))
    by true rest = let e2 : nat_le (length around) (length (block ++ around)) ≡ true = grind (arith, nat_tests, common_steps) in sym e2
    by false rest = rest

pub block-has : (text : List ℕ) (n : ℕ) (locals : List Entry) → n ≤ length locals
    → list_any (is_named text) (map entry_view (reverse (drop n locals))) ≡ is_from n (place_of text (reverse locals))
block-has text n locals within =
    let size : length (reverse (take n locals)) ≡ n = grind (arith, common_steps, within) in
    in-block text (reverse (drop n locals)) (reverse (take n locals))
    ∙ ap (λ l. is_from (length (reverse (take n locals))) (place_of text l)) (sym (reverse-append (take n locals) (drop n locals)) ∙ ap reverse (take-append-drop n locals))
    ∙ ap (λ k. is_from k (place_of text (reverse locals))) size

-- all but the last
pub front-of : (old new : List Entry) (entry : Entry) → old ≡ new ++ entry ∷ [] → new ≡ take (length old - 1) old
front-of old new entry is =
    let e : new ≡ take (length (new ++ entry ∷ []) - 1) (new ++ entry ∷ []) = grind (arith, common_steps) in
    e ∙ ap (λ l. take (length l - 1) l) (sym is)
