-- The lines of a source are those of its accesses and of its calls, one for each.
use Rattle.std.proofs.Common.{◌≡◌, ℕ, ◌+◌, List, [], ◌∷◌, ◌++◌, map, length, zip, refl, ap, sym, ◌∙◌, arith}
use Rattle.std.proofs.lemmas.List.{length-append, length-map}
use Rattle.c_grammar.specs.Marks.{each}
use Rattle.c_grammar.specs.File as f
use Rattle.c_prog.specs.Lines.{IsLined, tree_accesses, tree_calls}
use Rattle.c_prog.specs.Order.{tree_order}
use Rattle.c_prog.specs.Rising.{keys}
use Rattle.c_names.specs.Uses.{Names}
use Rattle.c_names.specs.Declarations.{names_of}
use Rattle.c_names.specs.Files.{body_around, body_scope}
use Rattle.c_names.specs.Sources.{top_functions_of, tree_with, top_lines, top_calls, source_of}
use Rattle.names_laws.proofs.Weights.{in_functions, in_functions-append, in_program, touch_count, call_count, accesses-length, calls-length}
use Rattle.names_laws.proofs.StmtLines.{items-even}
use Rattle.names_laws.proofs.CallLines.{items-calls}

top-lines : (names : Names) (x : f.Top) → length (top_lines names x) ≡ in_functions touch_count (top_functions_of names x)
top-lines names (f.Include at name header) = refl
top-lines names (f.Define at name x value) = refl
top-lines names (f.Variables qualifiers globals end) = refl
top-lines names (f.Prototype head end) = refl
top-lines names (f.Function head before ops items after) = omega (arith, items-even names (body_around head) (body_scope head) items)

tops-lines : (names : Names) (file : f.File) → length (each (top_lines names) file) ≡ in_functions touch_count (each (top_functions_of names) file)
tops-lines names [] = refl
tops-lines names (x ∷ more) =
    omega (
      arith,
      length-append (top_lines names x) (each (top_lines names) more),
      in_functions-append touch_count (top_functions_of names x) (each (top_functions_of names) more),
      top-lines names x,
      tops-lines names more,
    )

top-calls : (names : Names) (x : f.Top) → length (top_calls x) ≡ in_functions call_count (top_functions_of names x)
top-calls names (f.Include at name header) = refl
top-calls names (f.Define at name x value) = refl
top-calls names (f.Variables qualifiers globals end) = refl
top-calls names (f.Prototype head end) = refl
top-calls names (f.Function head before ops items after) = omega (arith, items-calls names (body_around head) (body_scope head) items)

tops-calls : (names : Names) (file : f.File) → length (each top_calls file) ≡ in_functions call_count (each (top_functions_of names) file)
tops-calls names [] = refl
tops-calls names (x ∷ more) =
    omega (
      arith,
      length-append (top_calls x) (each top_calls more),
      in_functions-append call_count (top_functions_of names x) (each (top_functions_of names) more),
      top-calls names x,
      tops-calls names more,
    )

keys-zip : {K : Type 0} (ks : List K) (lines : List ℕ) → length lines ≡ length ks → keys (zip ks lines) ≡ ks
keys-zip [] lines is = refl
keys-zip (k ∷ ks) [] is = absurd (omega (arith, is))
keys-zip (k ∷ ks) (x ∷ lines) is = ap (λ rest. k ∷ rest) (keys-zip ks lines (omega (arith, is)))

-- each access and each call of the program that a file spells has one line
pub lined_spelled : (file : f.File) → IsLined (source_of file).tree (source_of file).lines
lined_spelled file = record {
  accesses =
      keys-zip (map (λ item. item.id) (tree_accesses (source_of file).tree)) (each (top_lines (names_of file)) file)
      (omega (
        arith,
        tops-lines (names_of file) file,
        length-map (tree_accesses (source_of file).tree) (λ item. item.id),
        accesses-length 0 (tree_order (source_of file).tree),
        in_program touch_count (each (top_functions_of (names_of file)) file),
      ));
  calls =
      keys-zip (tree_calls (source_of file).tree) (each top_calls file)
      (omega (
        arith,
        tops-calls (names_of file) file,
        calls-length 0 (tree_order (source_of file).tree),
        in_program call_count (each (top_functions_of (names_of file)) file),
      ));
}
