-- What the table of declarations says of each name: what the declarations say of it.
use Rattle.std.proofs.Common.{◌≡◌, ℕ, Bool, true, false, ◌||◌, cond, List, [], ◌∷◌, ◌++◌, Option, Some, None, refl, ap, sym, subst, ◌∙◌}
use Rattle.std.specs.Str.{bytes_eq}
use Rattle.std.proofs.lemmas.List.Folds.{list_any-append}
use Rattle.std.proofs.lemmas.Slice.Eq.{bytes_eq-Decides}
use Rattle.c_prog.specs.Valid.Scope as s
use Rattle.c_names.specs.declared.fault.FaultKind.TheVariants.{Twice}
use Rattle.c_names.specs.Faults.{fault_if}
use Rattle.c_names.specs.Uses.{Meaning, OfVariable, OfFunction, OfNumber, Known, Form}
use Rattle.c_names.specs.Declarations.{Declaration, is_of, first_meaning, first_form, is_number, is_defined_in, names_in, is_declared}
use Rattle.c_names.specs.Declarations as n
use Rattle.c_names.specs.Files.{all_twice_faults}
use Rattle.c_scope.specs.declared.table.Row.{Row}
use Rattle.c_scope.specs.Views.{kind_view, meaning_view}
use Rattle.c_scope.specs.Tables.{Rows, row_of, with_row, fresh, form_or, joined, known_of, names_from}
use Rattle.c_declare.specs.Declaring.{kind_kept, meaning_kept, with_name, with_declarations, has_row, all_again_faults}

-- Rows.

kept : (xs ys : List ℕ) → bytes_eq xs ys ≡ true → xs ≡ ys
kept xs ys e = (bytes_eq-Decides xs ys).0 e

pub row_of-with_row : (text key : List ℕ) (row : Row) (rows : Rows)
    → row_of text (with_row key row rows) ≡ cond (bytes_eq text key) (Some row) (row_of text rows)
row_of-with_row text key row [] = refl
row_of-with_row text key row (e ∷ es) = by (bytes_eq key e.0) refl (row_of-with_row text key row es)
  where
    same : (b : Bool) → bytes_eq text e.0 ≡ bytes_eq text key
        → cond (bytes_eq text e.0) (Some row) (row_of text es) ≡ cond (bytes_eq text key) (Some row) (cond (bytes_eq text e.0) (Some e.1) (row_of text es))
    same b eq = two (bytes_eq text e.0) (bytes_eq text key) eq
      where
        two : (p q : Bool) → p ≡ q → cond p (Some row) (row_of text es) ≡ cond q (Some row) (cond p (Some e.1) (row_of text es))
        two true true eq = refl
        two false false eq = refl
        two true false eq = absurd cc
        two false true eq = absurd cc

    apart : (p q : Bool) → bytes_eq text e.0 ≡ p → bytes_eq text key ≡ q → bytes_eq key e.0 ≡ false
        → cond p (Some e.1) (cond q (Some row) (row_of text es)) ≡ cond q (Some row) (cond p (Some e.1) (row_of text es))
    apart false q pe qe other = refl
    apart true false pe qe other = refl
    apart true true pe qe other =
        let at : text ≡ key = kept text key qe in
        let equal : bytes_eq key e.0 ≡ true = subst (λ t. bytes_eq t e.0 ≡ true) at pe in
        absurd cc

    by : (b : Bool) → bytes_eq key e.0 ≡ b
        → row_of text (with_row key row es) ≡ cond (bytes_eq text key) (Some row) (row_of text es)
        → row_of text (cond b ((e.0, row) ∷ es) (e ∷ with_row key row es)) ≡ cond (bytes_eq text key) (Some row) (cond (bytes_eq text e.0) (Some e.1) (row_of text es))
    by true is rest = same true (ap (bytes_eq text) (sym (kept key e.0 is)))
    by false is rest =
        ap (λ r. cond (bytes_eq text e.0) (Some e.1) r) rest
        ∙ apart (bytes_eq text e.0) (bytes_eq text key) refl refl is

-- The row of one name, through declarations.

abbrev gather : List ℕ → Option Row → List Declaration → Option Row
gather text row [] = row
gather text row (d ∷ ds) = gather text (cond (is_of text d) (Some (joined row (meaning_kept d.1))) row) ds

one-row : (text : List ℕ) (rows : Rows) (d : Declaration)
    → row_of text (with_name rows d.0.text (meaning_kept d.1)) ≡ cond (is_of text d) (Some (joined (row_of text rows) (meaning_kept d.1))) (row_of text rows)
one-row text rows d =
    row_of-with_row text d.0.text (joined (row_of d.0.text rows) (meaning_kept d.1)) rows
    ∙ by (is_of text d) refl
  where
    by : (b : Bool) → bytes_eq text d.0.text ≡ b
        → cond b (Some (joined (row_of d.0.text rows) (meaning_kept d.1))) (row_of text rows) ≡ cond b (Some (joined (row_of text rows) (meaning_kept d.1))) (row_of text rows)
    by true is = ap (λ t. Some (joined (row_of t rows) (meaning_kept d.1))) (sym (kept text d.0.text is))
    by false is = refl

rows-gather : (text : List ℕ) (rows : Rows) (ds : List Declaration)
    → row_of text (with_declarations rows ds) ≡ gather text (row_of text rows) ds
rows-gather text rows [] = refl
rows-gather text rows (d ∷ ds) =
    rows-gather text (with_name rows d.0.text (meaning_kept d.1)) ds
    ∙ ap (λ r. gather text r ds) (one-row text rows d)

-- What is said of one name.

kind-kept : (kind : s.VarKind) → kind_view (kind_kept kind) ≡ kind
kind-kept s.int = refl
kind-kept s.int_array = refl
kind-kept s.thread = refl
kind-kept s.thread_array = refl
kind-kept s.mutex = refl
kind-kept s.cond = refl
kind-kept s.argument = refl

meaning-kept : (m : Meaning) → meaning_view (fresh (meaning_kept m)).first ≡ m
meaning-kept (OfVariable n kind) = ap (OfVariable n) (kind-kept kind)
meaning-kept (OfFunction n kind params) = refl
meaning-kept (OfNumber value) = refl

form-step : (own : Option Form) (m : Meaning) (other : Option Form)
    → form_or (form_or own (fresh (meaning_kept m)).form) other ≡ form_or own (n.form_or m other)
form-step None (OfVariable n kind) other = refl
form-step None (OfFunction n kind params) other = refl
form-step None (OfNumber value) other = refl
form-step (Some form) m other = refl

defined-step : (own : Bool) (m : Meaning) (other : Bool)
    → ((own || (fresh (meaning_kept m)).is_defined) || other) ≡ (own || (is_number m || other))
defined-step true m other = refl
defined-step false (OfVariable n kind) other = refl
defined-step false (OfFunction n kind params) other = refl
defined-step false (OfNumber value) other = refl

abbrev known : Option Meaning → Option Form → Bool → Known
known first form is_defined = record { first = first; form = form; is_defined = is_defined }

known-some : (text : List ℕ) (row : Row) (ds : List Declaration)
    → known_of (gather text (Some row) ds) ≡ known (Some (meaning_view row.first)) (form_or row.form (first_form ds text)) (row.is_defined || is_defined_in ds text)
known-some text row [] = by row.form row.is_defined
  where
    by : (form : Option Form) (b : Bool) → known (Some (meaning_view row.first)) form b ≡ known (Some (meaning_view row.first)) (form_or form None) (b || false)
    by None true = refl
    by None false = refl
    by (Some form) true = refl
    by (Some form) false = refl
known-some text row (d ∷ ds) = by (is_of text d) (known-some text (joined (Some row) (meaning_kept d.1)) ds) (known-some text row ds)
  where
    by : (b : Bool)
        → known_of (gather text (Some (joined (Some row) (meaning_kept d.1))) ds) ≡ known (Some (meaning_view row.first)) (form_or (form_or row.form (fresh (meaning_kept d.1)).form) (first_form ds text)) ((row.is_defined || (fresh (meaning_kept d.1)).is_defined) || is_defined_in ds text)
        → known_of (gather text (Some row) ds) ≡ known (Some (meaning_view row.first)) (form_or row.form (first_form ds text)) (row.is_defined || is_defined_in ds text)
        → known_of (gather text (cond b (Some (joined (Some row) (meaning_kept d.1))) (Some row)) ds)
        ≡ known (Some (meaning_view row.first)) (form_or row.form (cond b (n.form_or d.1 (first_form ds text)) (first_form ds text))) (row.is_defined || cond b (is_number d.1 || is_defined_in ds text) (is_defined_in ds text))
    by true taken stays =
        taken
        ∙ ap (λ f. known (Some (meaning_view row.first)) f ((row.is_defined || (fresh (meaning_kept d.1)).is_defined) || is_defined_in ds text)) (form-step row.form d.1 (first_form ds text))
        ∙ ap (λ b. known (Some (meaning_view row.first)) (form_or row.form (n.form_or d.1 (first_form ds text))) b) (defined-step row.is_defined d.1 (is_defined_in ds text))
    by false taken stays = stays

known-none : (text : List ℕ) (ds : List Declaration) → known_of (gather text None ds) ≡ names_in ds text
known-none text [] = refl
known-none text (d ∷ ds) = by (is_of text d) (known-some text (fresh (meaning_kept d.1)) ds) (known-none text ds)
  where
    by : (b : Bool)
        → known_of (gather text (Some (fresh (meaning_kept d.1))) ds) ≡ known (Some (meaning_view (fresh (meaning_kept d.1)).first)) (form_or (fresh (meaning_kept d.1)).form (first_form ds text)) ((fresh (meaning_kept d.1)).is_defined || is_defined_in ds text)
        → known_of (gather text None ds) ≡ names_in ds text
        → known_of (gather text (cond b (Some (fresh (meaning_kept d.1))) None) ds)
        ≡ known (cond b (Some d.1) (first_meaning ds text)) (cond b (n.form_or d.1 (first_form ds text)) (first_form ds text)) (cond b (is_number d.1 || is_defined_in ds text) (is_defined_in ds text))
    by true taken stays =
        taken
        ∙ ap (λ m. known (Some m) (form_or (fresh (meaning_kept d.1)).form (first_form ds text)) ((fresh (meaning_kept d.1)).is_defined || is_defined_in ds text)) (meaning-kept d.1)
        ∙ ap (λ f. known (Some d.1) f ((fresh (meaning_kept d.1)).is_defined || is_defined_in ds text)) (form-step None d.1 (first_form ds text))
        ∙ ap (λ b. known (Some d.1) (n.form_or d.1 (first_form ds text)) b) (defined-step false d.1 (is_defined_in ds text))
    by false taken stays = stays

-- the table says of each name what the declarations say
pub names_from-declarations : (ds : List Declaration) → names_from (with_declarations [] ds) ≡ names_in ds
names_from-declarations ds = λ i text. (ap known_of (rows-gather text [] ds) ∙ known-none text ds) i

-- Names that are declared again.

seen : (before : List Declaration) (rows : Rows) (d : Declaration)
    → ((text : List ℕ) → has_row (row_of text rows) ≡ is_declared before text)
    → (text : List ℕ) → has_row (row_of text (with_name rows d.0.text (meaning_kept d.1))) ≡ is_declared (before ++ d ∷ []) text
seen before rows d agrees text =
    ap has_row (one-row text rows d)
    ∙ (by (is_of text d) (agrees text) ∙ sym (list_any-append (is_of text) before (d ∷ [])))
  where
    by : (b : Bool) → has_row (row_of text rows) ≡ is_declared before text
        → has_row (cond b (Some (joined (row_of text rows) (meaning_kept d.1))) (row_of text rows)) ≡ (is_declared before text || (b || false))
    by true is = two (is_declared before text)
      where
        two : (p : Bool) → true ≡ (p || true)
        two true = refl
        two false = refl
    by false is = is ∙ two (is_declared before text)
      where
        two : (p : Bool) → p ≡ (p || false)
        two true = refl
        two false = refl

again-along : (before : List Declaration) (rows : Rows) (ds : List Declaration)
    → ((text : List ℕ) → has_row (row_of text rows) ≡ is_declared before text)
    → all_again_faults rows ds ≡ all_twice_faults before ds
again-along before rows [] agrees = refl
again-along before rows (d ∷ ds) agrees =
    ap (λ b. fault_if b d.0.spot Twice ++ all_again_faults (with_name rows d.0.text (meaning_kept d.1)) ds) (agrees d.0.text)
    ∙ ap (λ rest. fault_if (is_declared before d.0.text) d.0.spot Twice ++ rest) (again-along (before ++ d ∷ []) (with_name rows d.0.text (meaning_kept d.1)) ds (seen before rows d agrees))

-- the faults that the table tells are those of the declarations
pub again-twice : (ds : List Declaration) → all_again_faults [] ds ≡ all_twice_faults [] ds
again-twice ds = again-along [] [] ds (λ text. refl)

pub ruleset naming = (names_from-declarations, again-twice)
