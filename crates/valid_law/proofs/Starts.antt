-- The orders that a file without faults begins with a token rise, and are small.
use Rattle.std.proofs.Common.{◌≡◌, ℕ, ◌+◌, ◌==◌, nat_le, nat_lt, eqb, suc, Bool, true, false, ◌&&◌, ◌||◌, List, [], ◌∷◌, ◌++◌, length, take, drop, Option, Some, None, if◌then◌else◌, refl, ap, sym, ◌∙◌, subst, append_assoc, append-nil, true≢false, arith}
use Rattle.std.specs.List.{list_all, list_any, starts_with}
use Rattle.std.specs.Str.{bytes_eq}
use Rattle.std.proofs.lemmas.Bool.{and_parts, and_from, or_parts, or_right, eqb-true, leb-false, lt-ltb}
use Rattle.std.proofs.lemmas.Bool.Decides.{nat_tests}
use Rattle.std.proofs.lemmas.List.{take-append-drop}
use Rattle.std.proofs.lemmas.List.Folds.{list_any-append}
use Rattle.std.proofs.lemmas.Slice.Eq.{bytes_eq-Decides}
use Rattle.cfix_base.specs.declared.number.OrderId.{OrderId}
use Rattle.c_grammar.specs.File.{Include, Define, Variables, Prototype, Function, File}
use Rattle.c_lex.specs.Meaning.{decimal, is_number}
use Rattle.c_prog.specs.Valid.Operations.{rise_after, are_rising, are_valid_starts}
use Rattle.c_names.specs.Declarations.{Declaration, variables, numbered, function_declaration, replacement_number, declarations_from, declarations, is_of, is_declared}
use Rattle.c_names.specs.Uses.{OfNumber}
use Rattle.c_names.specs.Files.{twice_faults, all_twice_faults}
use Rattle.c_names.specs.Starts.{start_prefix, digits_number, start_number, with_order, starts_of}
use Rattle.valid_law.proofs.Decimals.{one-spelling, number-small}
use Rattle.valid_law.proofs.Faultless.{none-right}
use Rattle.valid_law.proofs.FileNames.{apart, declared-last, declared-texts}
use Rattle.valid_law.proofs.Lookups.{same-some}

-- ---- the name of a start tells its order, and the order its name

-- digits of a number, with the number
record IsSpelling (text : List ℕ) (n : ℕ) : Type 0 where
  first : ℕ
  more : List ℕ
  is : text ≡ first ∷ more
  number : is_number (first ∷ more) ≡ true
  value : decimal (first ∷ more) ≡ n

spelling : (text : List ℕ) (n : ℕ) → digits_number text ≡ Some n → IsSpelling text n
spelling [] n is = absurd cc
spelling (x ∷ xs) n is = by (is_number (x ∷ xs)) refl is
  where
    by : (b : Bool) → is_number (x ∷ xs) ≡ b → (if b then Some (decimal (x ∷ xs)) else None) ≡ Some n → IsSpelling (x ∷ xs) n
    by true test found = record { first = x; more = xs; is = refl; number = test; value = same-some (decimal (x ∷ xs)) n found }
    by false test found = absurd cc

same-spelling : (a b : List ℕ) (n : ℕ) → IsSpelling a n → IsSpelling b n → a ≡ b
same-spelling a b n s t =
    s.is ∙ one-spelling s.first t.first s.more t.more s.number t.number (s.value ∙ sym t.value) ∙ sym t.is

-- the name of a start: its beginning, and digits behind
record IsStart (text : List ℕ) (n : ℕ) : Type 0 where
  begun : text ≡ start_prefix ++ drop 11 text
  spelled : IsSpelling (drop 11 text) n

start : (text : List ℕ) (n : ℕ) → start_number text ≡ Some n → IsStart text n
start text n is = by (starts_with eqb text start_prefix) refl is
  where
    by : (b : Bool) → starts_with eqb text start_prefix ≡ b → (if b then digits_number (drop 11 text) else None) ≡ Some n → IsStart text n
    by true test found = record {
      begun = sym (take-append-drop 11 text) ∙ ap (λ (front : List ℕ). front ++ drop 11 text) (sym ((bytes_eq-Decides start_prefix (take 11 text)).0 test));
      spelled = spelling (drop 11 text) n found;
    }
    by false test found = absurd cc

-- names of one order are one name
same-start : (a b : List ℕ) (n : ℕ) → start_number a ≡ Some n → start_number b ≡ Some n → a ≡ b
same-start a b n on_a on_b =
    let s : IsStart a n = start a n on_a in
    let t : IsStart b n = start b n on_b in
    s.begun ∙ ap (λ (rest : List ℕ). start_prefix ++ rest) (same-spelling (drop 11 a) (drop 11 b) n s.spelled t.spelled) ∙ sym t.begun

start-small : (text : List ℕ) (n : ℕ) → start_number text ≡ Some n → nat_le n 2147483647 ≡ true
start-small text n is =
    let s : IsSpelling (drop 11 text) n = (start text n is).spelled in
    ap (λ (k : ℕ). nat_le k 2147483647) (sym s.value) ∙ number-small (s.first ∷ s.more) s.number

-- ---- orders among orders

abbrev order_of : ℕ → OrderId
order_of n = record { number = n }

-- an order of this number is there
abbrev stands : ℕ → List OrderId → Bool
stands n orders = list_any (λ order. order.number == n) orders

swap-or : (a b c : Bool) → (a || (b || c)) ≡ (b || (a || c))
swap-or true true c = refl
swap-or true false c = refl
swap-or false b c = refl

stands-with : (n m : ℕ) (orders : List OrderId) → stands n (with_order (Some m) orders) ≡ (m == n || stands n orders)
stands-with n m [] = refl
stands-with n m (o ∷ orders) = by (nat_le m o.number) (stands-with n m orders)
  where
    by : (b : Bool) → stands n (with_order (Some m) orders) ≡ (m == n || stands n orders)
        → stands n (if b then order_of m ∷ o ∷ orders else o ∷ with_order (Some m) orders) ≡ (m == n || (o.number == n || stands n orders))
    by true rest = refl
    by false rest = ap (λ (z : Bool). o.number == n || z) rest ∙ swap-or (o.number == n) (m == n) (stands n orders)

below : (n k : ℕ) → nat_le n k ≡ true → k == n ≡ false → nat_lt n k ≡ true
below n k less apart = grind (arith, nat_tests)

-- an order that is not there yet is put among orders that rise
rise-with : (last n : ℕ) (orders : List OrderId) → nat_lt last n ≡ true → rise_after last orders ≡ true → stands n orders ≡ false
    → rise_after last (with_order (Some n) orders) ≡ true
rise-with last n [] less rise apart = and_from (nat_lt last n) true less refl
rise-with last n (o ∷ orders) less rise apart =
    let here : nat_lt last o.number ≡ true = (and_parts (nat_lt last o.number) (rise_after o.number orders) rise).0 in
    let later : rise_after o.number orders ≡ true = (and_parts (nat_lt last o.number) (rise_after o.number orders) rise).1 in
    by (nat_le n o.number) refl here later
    (λ (high : nat_lt o.number n ≡ true). rise-with o.number n orders high later (or_parts (o.number == n) (stands n orders) apart).1)
  where
    by : (b : Bool) → nat_le n o.number ≡ b → nat_lt last o.number ≡ true → rise_after o.number orders ≡ true
        → (nat_lt o.number n ≡ true → rise_after o.number (with_order (Some n) orders) ≡ true)
        → rise_after last (if b then order_of n ∷ o ∷ orders else o ∷ with_order (Some n) orders) ≡ true
    by true test here later next =
        and_from (nat_lt last n) (nat_lt n o.number && rise_after o.number orders) less
        (and_from (nat_lt n o.number) (rise_after o.number orders) (below n o.number test (or_parts (o.number == n) (stands n orders) apart).0) later)
    by false test here later next = and_from (nat_lt last o.number) (rise_after o.number (with_order (Some n) orders)) here (next (lt-ltb o.number n (leb-false n o.number test)))

rising-with : (n : ℕ) (orders : List OrderId) → are_rising orders ≡ true → stands n orders ≡ false → are_rising (with_order (Some n) orders) ≡ true
rising-with n [] rise apart = refl
rising-with n (o ∷ orders) rise apart =
    by (nat_le n o.number) refl
    (λ (high : nat_lt o.number n ≡ true). rise-with o.number n orders high rise (or_parts (o.number == n) (stands n orders) apart).1)
  where
    by : (b : Bool) → nat_le n o.number ≡ b → (nat_lt o.number n ≡ true → rise_after o.number (with_order (Some n) orders) ≡ true)
        → are_rising (if b then order_of n ∷ o ∷ orders else o ∷ with_order (Some n) orders) ≡ true
    by true test next =
        and_from (nat_lt n o.number) (rise_after o.number orders) (below n o.number test (or_parts (o.number == n) (stands n orders) apart).0) rise
    by false test next = next (lt-ltb o.number n (leb-false n o.number test))

abbrev are_small : List OrderId → Bool
are_small orders = list_all (λ order. nat_le order.number 2147483647) orders

small-with : (n : ℕ) (orders : List OrderId) → nat_le n 2147483647 ≡ true → are_small orders ≡ true → are_small (with_order (Some n) orders) ≡ true
small-with n [] small all = and_from (nat_le n 2147483647) true small refl
small-with n (o ∷ orders) small all = by (nat_le n o.number) (small-with n orders small (and_parts (nat_le o.number 2147483647) (are_small orders) all).1)
  where
    by : (b : Bool) → are_small (with_order (Some n) orders) ≡ true
        → are_small (if b then order_of n ∷ o ∷ orders else o ∷ with_order (Some n) orders) ≡ true
    by true rest = and_from (nat_le n 2147483647) (are_small (o ∷ orders)) small all
    by false rest =
        and_from (nat_le o.number 2147483647) (are_small (with_order (Some n) orders)) (and_parts (nat_le o.number 2147483647) (are_small orders) all).0 rest

-- ---- starts of a file

starts-small : (file : File) → are_small (starts_of file) ≡ true
starts-small [] = refl
starts-small (Include at name header ∷ more) = starts-small more
starts-small (Define at name x value ∷ more) = by (start_number x.text) refl (starts-small more)
  where
    by : (o : Option ℕ) → start_number x.text ≡ o → are_small (starts_of more) ≡ true → are_small (with_order o (starts_of more)) ≡ true
    by None is rest = rest
    by (Some n) is rest = small-with n (starts_of more) (start-small x.text n is) rest
starts-small (Variables qualifiers list end ∷ more) = starts-small more
starts-small (Prototype head end ∷ more) = starts-small more
starts-small (Function head before ops items after ∷ more) = starts-small more

-- an order that a file begins is that of a name that it declares
start-declared : (n : ℕ) (text : List ℕ) (g f : ℕ) (file : File) → start_number text ≡ Some n → stands n (starts_of file) ≡ true
    → is_declared (declarations_from g f file) text ≡ true
start-declared n text g f [] is there = absurd cc
start-declared n text g f (Include at name header ∷ more) is there = start-declared n text g f more is there
start-declared n text g f (Define at name x value ∷ more) is there =
    by (start_number x.text) refl there (λ (later : stands n (starts_of more) ≡ true). start-declared n text g f more is later)
  where
    found : (m : ℕ) → start_number x.text ≡ Some m → m == n ≡ true → bytes_eq text x.text ≡ true
    found m on_x same =
        (bytes_eq-Decides text x.text).1 (same-start text x.text n is (on_x ∙ ap Some (eqb-true m n same)))

    one : (m : ℕ) (a b : Bool) → m == n ≡ a → stands n (starts_of more) ≡ b → (a || b) ≡ true → start_number x.text ≡ Some m
        → (stands n (starts_of more) ≡ true → is_declared (declarations_from g f more) text ≡ true)
        → (bytes_eq text x.text || is_declared (declarations_from g f more) text) ≡ true
    one m true b same at_b or on_x next = ap (λ (z : Bool). z || is_declared (declarations_from g f more) text) (found m on_x same)
    one m false true same at_b or on_x next = or_right (bytes_eq text x.text) (is_declared (declarations_from g f more) text) (next at_b)
    one m false false same at_b or on_x next = absurd cc

    by : (o : Option ℕ) → start_number x.text ≡ o → stands n (with_order o (starts_of more)) ≡ true
        → (stands n (starts_of more) ≡ true → is_declared (declarations_from g f more) text ≡ true)
        → (bytes_eq text x.text || is_declared (declarations_from g f more) text) ≡ true
    by None on_x among next = or_right (bytes_eq text x.text) (is_declared (declarations_from g f more) text) (next among)
    by (Some m) on_x among next =
        one m (m == n) (stands n (starts_of more)) refl refl (sym (stands-with n m (starts_of more)) ∙ among) on_x next
start-declared n text g f (Variables qualifiers list end ∷ more) is there =
    list_any-append (is_of text) (numbered g (variables list)) (declarations_from (g + length (variables list)) f more)
    ∙ or_right (is_declared (numbered g (variables list)) text) (is_declared (declarations_from (g + length (variables list)) f more) text)
    (start-declared n text (g + length (variables list)) f more is there)
start-declared n text g f (Prototype head end ∷ more) is there = start-declared n text g f more is there
start-declared n text g f (Function head before ops items after ∷ more) is there =
    or_right (is_of text (function_declaration f head)) (is_declared (declarations_from g (suc f) more) text)
    (start-declared n text g (suc f) more is there)

-- ---- declared once

-- the declarations behind others have no name twice
behind-none : (before xs ys : List Declaration) → all_twice_faults before (xs ++ ys) ≡ [] → all_twice_faults (before ++ xs) ys ≡ []
behind-none before [] ys none = subst (λ (l : List Declaration). all_twice_faults l ys ≡ []) (sym (append-nil before)) none
behind-none before (x ∷ xs) ys none =
    subst (λ (l : List Declaration). all_twice_faults l ys ≡ []) (append_assoc before (x ∷ []) xs)
    (behind-none (before ++ x ∷ []) xs ys (none-right (twice_faults before x.0) (all_twice_faults (before ++ x ∷ []) (xs ++ ys)) none))

-- a name is not declared again behind its declaration
not-again : (before : List Declaration) (d : Declaration) (more : List Declaration) → all_twice_faults before (d ∷ more) ≡ []
    → is_declared more d.0.text ≡ false
not-again before d more none =
    declared-texts d.0.text more
    ∙ apart (before ++ d ∷ []) more d.0.text (none-right (twice_faults before d.0) (all_twice_faults (before ++ d ∷ []) more) none) (declared-last before d)

starts-rising : (before : List Declaration) (g f : ℕ) (file : File) → all_twice_faults before (declarations_from g f file) ≡ []
    → are_rising (starts_of file) ≡ true
starts-rising before g f [] none = refl
starts-rising before g f (Include at name header ∷ more) none = starts-rising before g f more none
starts-rising before g f (Define at name x value ∷ more) none =
    let own : Declaration = (x, OfNumber (replacement_number value)) in
    let rest : List Declaration = declarations_from g f more in
    by (start_number x.text) refl (starts-rising (before ++ own ∷ []) g f more (none-right (twice_faults before x) (all_twice_faults (before ++ own ∷ []) rest) none))
    (λ (n : ℕ) (is : start_number x.text ≡ Some n) (there : stands n (starts_of more) ≡ true).
    true≢false (sym (start-declared n x.text g f more is there) ∙ not-again before own rest none))
  where
    one : (n : ℕ) (b : Bool) → stands n (starts_of more) ≡ b → are_rising (starts_of more) ≡ true
        → (stands n (starts_of more) ≡ true → ⊥) → are_rising (with_order (Some n) (starts_of more)) ≡ true
    one n true there rise never = absurd (never there)
    one n false apart_from rise never = rising-with n (starts_of more) rise apart_from

    by : (o : Option ℕ) → start_number x.text ≡ o → are_rising (starts_of more) ≡ true
        → ((n : ℕ) → start_number x.text ≡ Some n → stands n (starts_of more) ≡ true → ⊥) → are_rising (with_order o (starts_of more)) ≡ true
    by None is rise never = rise
    by (Some n) is rise never = one n (stands n (starts_of more)) refl rise (never n is)
starts-rising before g f (Variables qualifiers list end ∷ more) none =
    starts-rising (before ++ numbered g (variables list)) (g + length (variables list)) f more
    (behind-none before (numbered g (variables list)) (declarations_from (g + length (variables list)) f more) none)
starts-rising before g f (Prototype head end ∷ more) none = starts-rising before g f more none
starts-rising before g f (Function head start ops items after ∷ more) none =
    starts-rising (before ++ function_declaration f head ∷ []) g (suc f) more
    (none-right (twice_faults before (function_declaration f head).0) (all_twice_faults (before ++ function_declaration f head ∷ []) (declarations_from g (suc f) more)) none)

-- the starts of a file without faults are those of a program
pub starts-valid : (file : File) → all_twice_faults [] (declarations file) ≡ [] → are_valid_starts (starts_of file) ≡ true
starts-valid file none = and_from (are_rising (starts_of file)) (are_small (starts_of file)) (starts-rising [] 0 0 file none) (starts-small file)
