-- Main is there: an `int` function without parameters.
use Rattle.std.proofs.Common.{◌≡◌, ℕ, zero, suc, ◌==◌, Bool, true, false, not, ◌&&◌, ◌||◌, List, [], ◌∷◌, map, length, Option, Some, None, slice_get, refl, ap, sym, ◌∙◌, true≢false, codes}
use Rattle.std.proofs.lemmas.Bool.{and_from, and_parts, or_left, or_right, not-false}
use Rattle.std.proofs.lemmas.List.{length-map}
use Rattle.std.specs.List.{list_all, list_any}
use Rattle.cfix_base.specs.declared.Spot.{Spot}
use Rattle.c_grammar.specs.Marks.{each}
use Rattle.c_grammar.specs.File.{Top, Include, Define, Variables, Prototype, Function, File}
use Rattle.c_prog.specs.declared.function.FnKind.{FnKind}
use Rattle.c_prog.specs.declared.function.Function as fn
use Rattle.c_prog.specs.Valid.Expressions.{is_int_kind, is_main_name}
use Rattle.c_prog.specs.Valid.Functions.{is_main}
use Rattle.c_prog.specs.Valid.Kinds.{Signature, signature_of, file_of}
use Rattle.c_names.specs.Uses.{Meaning, OfVariable, OfFunction, OfNumber, Names, file_use}
use Rattle.c_names.specs.Declarations.{head_name, head_kind, head_params, names_of}
use Rattle.c_names.specs.Files.{param_text, is_function_use, main_faults, top_faults}
use Rattle.c_names.specs.Sources.{top_functions_of, source_of}
use Rattle.valid_law.specs.Agrees.{Agrees}
use Rattle.valid_law.proofs.Faultless.{no_fault, all-each}
use Rattle.valid_law.proofs.FaultlessParts.{function_parts}
use Rattle.valid_law.proofs.Lookups.{none-some, same-some}

-- a function that is named main has main's form
abbrev main_fits : fn.Function → Bool
main_fits function = not (is_main_name function.name) || (is_int_kind function.kind && length function.params == 0)

fits-by : (m f : Bool) → (m && not f) ≡ false → (not m || f) ≡ true
fits-by true true e = refl
fits-by true false e = absurd (true≢false e)
fits-by false f e = refl

top-fits : (names : Names) (top : Top) → top_faults names top ≡ [] → list_all main_fits (top_functions_of names top) ≡ true
top-fits names (Include at name header) e = refl
top-fits names (Define at name x value) e = refl
top-fits names (Variables qualifiers list end) e = refl
top-fits names (Prototype head end) e = refl
top-fits names (Function head before ops items after) e =
    let form = no_fault (is_main_name (head_name head).text && not (is_int_kind (head_kind head) && length (head_params head) == 0)) (head_name head).spot _
    (function_parts names head ops items e).form in
    and_from _ _
    (ap (λ z. not (is_main_name (head_name head).text) || (is_int_kind (head_kind head) && z == 0)) (length-map (head_params head) param_text)
    ∙ fits-by (is_main_name (head_name head).text) (is_int_kind (head_kind head) && length (head_params head) == 0) form) refl

tops-fit : (names : Names) (file : File) → each (top_faults names) file ≡ [] → list_all main_fits (each (top_functions_of names) file) ≡ true
tops-fit names = all-each (top_faults names) (top_functions_of names) main_fits (top-fits names)

-- the number of the function that a name stands for
function-by : (first : Option Meaning) → is_function_use (file_use first) ≡ true → (n : ℕ) × (kind : FnKind) × (params : ℕ) × (first ≡ Some (OfFunction n kind params))
function-by None h = absurd (true≢false (sym h))
function-by (Some (OfVariable n kind)) h = absurd (true≢false (sym h))
function-by (Some (OfFunction n kind params)) h = (n, kind, params, refl)
function-by (Some (OfNumber value)) h = absurd (true≢false (sym h))

main-by : (named int none : Bool) → (not named || (int && none)) ≡ true → named ≡ true → (named && int && none) ≡ true
main-by true int none f n = f
main-by false int none f n = absurd (true≢false (sym n))

-- main among functions of which each that is named main has its form
main-at : (functions : List fn.Function) (n : ℕ) (s : Signature) → list_all main_fits functions ≡ true → slice_get (map signature_of functions) n ≡ Some s → is_main_name s.name ≡ true
    → list_any is_main functions ≡ true
main-at [] n s f e h = none-some s e
main-at (x ∷ more) zero s f e h =
    let fs = and_parts (main_fits x) (list_all main_fits more) f in
    let named : is_main_name x.name ≡ true = ap (λ (z : Signature). is_main_name z.name) (same-some (signature_of x) s e) ∙ h in
    or_left (is_main x) (list_any is_main more) (main-by (is_main_name x.name) (is_int_kind x.kind) (length x.params == 0) fs.0 named)
main-at (x ∷ more) (suc n) s f e h = or_right (is_main x) (list_any is_main more) (main-at more n s (and_parts (main_fits x) (list_all main_fits more) f).1 e h)

-- main is one of the functions of a file without faults
pub has_main-valid : (file : File) (end : Spot) → Agrees (names_of file) (file_of (source_of file).tree) → each (top_faults (names_of file)) file ≡ [] → main_faults (names_of file) end ≡ []
    → list_any is_main (source_of file).tree.functions ≡ true
has_main-valid file end agrees tops main =
    let names = names_of file in
    let stands = not-false (is_function_use (file_use (names (codes "main")).first)) (no_fault (not (is_function_use (file_use (names (codes "main")).first))) end _ main) in
    let found = function-by (names (codes "main")).first stands in
    main-at (each (top_functions_of names) file) found.0 (record { name = codes "main"; kind = found.1; params = found.2 }) (tops-fit names file tops)
    (agrees.function (codes "main") found.0 found.1 found.2 found.3) refl
