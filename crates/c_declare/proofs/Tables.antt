-- The table that declarations make says of each name what they say of it.
use Rattle.std.proofs.Common.{◌≡◌, ℕ, List, [], ◌∷◌, ◌++◌, refl, ap, sym, ◌∙◌}
use Rattle.c_grammar.specs.File.{Top, Include, Define, Variables, Prototype, Function, File}
use Rattle.c_names.specs.Declarations.{Declaration, declarations_from}
use Rattle.c_scope.specs.Tables.{Rows}
use Rattle.c_declare.specs.Declaring.{with_name, meaning_kept, with_declarations, again_faults, all_again_faults, top_declarations, globals_behind, functions_behind}

pub with_declarations-append : (rows : Rows) (ds es : List Declaration)
    → with_declarations rows (ds ++ es) ≡ with_declarations (with_declarations rows ds) es
with_declarations-append rows [] es = refl
with_declarations-append rows (d ∷ ds) es = with_declarations-append (with_name rows d.0.text (meaning_kept d.1)) ds es

append-assoc : {A : Type 0} (xs ys zs : List A) → (xs ++ ys) ++ zs ≡ xs ++ (ys ++ zs)
append-assoc [] ys zs = refl
append-assoc (x ∷ xs) ys zs = ap (λ l. x ∷ l) (append-assoc xs ys zs)

pub all_again-append : (rows : Rows) (ds es : List Declaration)
    → all_again_faults rows (ds ++ es) ≡ all_again_faults rows ds ++ all_again_faults (with_declarations rows ds) es
all_again-append rows [] es = refl
all_again-append rows (d ∷ ds) es =
    ap (λ rest. again_faults rows d.0 ++ rest) (all_again-append (with_name rows d.0.text (meaning_kept d.1)) ds es)
    ∙ sym (append-assoc (again_faults rows d.0) (all_again_faults (with_name rows d.0.text (meaning_kept d.1)) ds) (all_again_faults (with_declarations rows (d ∷ ds)) es))

pub declarations-step : (globals functions : ℕ) (top : Top) (more : File)
    → declarations_from globals functions (top ∷ more)
    ≡ top_declarations globals functions top ++ declarations_from (globals_behind globals top) (functions_behind functions top) more
declarations-step globals functions (Include at name header) more = refl
declarations-step globals functions (Define at name x value) more = refl
declarations-step globals functions (Variables qualifiers list end) more = refl
declarations-step globals functions (Prototype head end) more = refl
declarations-step globals functions (Function head before ops items after) more = refl

pub ruleset tables = (with_declarations-append, all_again-append, declarations-step)
