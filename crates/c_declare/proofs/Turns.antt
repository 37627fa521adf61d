-- One turn of a walk over the parts of a file.
use Rattle.std.proofs.Common.{◌≡◌, ℕ, ◌+◌, ◌≤◌, ◌<◌, ◌^◌, true, ◌&&◌, Bool, false, List, ◌∷◌, ◌++◌, Option, ap, sym, subst, ◌∙◌, append_assoc, arith}
use Rattle.std.specs.List.{list_all}
use Rattle.c_grammar.specs.Marks.{each}
use Rattle.c_grammar.specs.File.{Top, Include, Define, Variables, Prototype, Function, File}
use Rattle.c_names.specs.declared.fault.Fault.{Fault}
use Rattle.c_names.specs.Declarations.{declarations_from}
use Rattle.c_names.specs.Faults.{noted_all}
use Rattle.c_scope.specs.Tables.{Rows}
use Rattle.c_scope.proofs.Faults.{noted_all-append}
use Rattle.c_declare.specs.Counting.{top_count, file_count}
use Rattle.c_declare.specs.Declaring.{with_declarations, all_again_faults, top_declarations, globals_behind, functions_behind}
use Rattle.c_declare.proofs.Tables.{with_declarations-append, all_again-append, declarations-step}

-- through declarations

module _ (rows new : Rows) (g f g2 f2 : ℕ) (top : Top) (more tops : File)
    (whole : tops ≡ top ∷ more) (made : new ≡ with_declarations rows (top_declarations g f top))
    (globals : g2 ≡ globals_behind g top) (functions : f2 ≡ functions_behind f top) where
  next : declarations_from g2 f2 more ≡ declarations_from (globals_behind g top) (functions_behind f top) more
  next = ap (λ k. declarations_from k f2 more) globals ∙ ap (λ k. declarations_from (globals_behind g top) k more) functions

  split : top_declarations g f top ++ declarations_from g2 f2 more ≡ declarations_from g f tops
  split =
      ap (λ ds. top_declarations g f top ++ ds) next
      ∙ sym (declarations-step g f top more) ∙ ap (declarations_from g f) (sym whole)

  pub turn-seen : (end : Rows) → with_declarations rows (declarations_from g f tops) ≡ end → with_declarations new (declarations_from g2 f2 more) ≡ end
  turn-seen end before =
      ap (λ r. with_declarations r (declarations_from g2 f2 more)) made
      ∙ sym (with_declarations-append rows (top_declarations g f top) (declarations_from g2 f2 more))
      ∙ ap (with_declarations rows) split ∙ before

  pub turn-noted : (least after end : Option Fault) → after ≡ noted_all least (all_again_faults rows (top_declarations g f top))
      → noted_all least (all_again_faults rows (declarations_from g f tops)) ≡ end → noted_all after (all_again_faults new (declarations_from g2 f2 more)) ≡ end
  turn-noted least after end noted before =
      ap (λ l. noted_all l (all_again_faults new (declarations_from g2 f2 more))) noted
      ∙ ap (λ r. noted_all (noted_all least (all_again_faults rows (top_declarations g f top))) (all_again_faults r (declarations_from g2 f2 more))) made
      ∙ sym (noted_all-append least (all_again_faults rows (top_declarations g f top)) (all_again_faults (with_declarations rows (top_declarations g f top)) (declarations_from g2 f2 more)))
      ∙ ap (noted_all least) (sym (all_again-append rows (top_declarations g f top) (declarations_from g2 f2 more)))
      ∙ ap (λ ds. noted_all least (all_again_faults rows ds)) split ∙ before

behind : (g f : ℕ) (top : Top) → globals_behind g top + functions_behind f top ≤ g + f + top_count top
behind g f (Include at name header) = omega arith
behind g f (Define at name x value) = omega arith
behind g f (Variables qualifiers list end) = omega arith
behind g f (Prototype head end) = omega arith
behind g f (Function head before ops items after) = omega arith

pub turn-fits : (g f g2 f2 : ℕ) (top : Top) (more tops : File) → tops ≡ top ∷ more → g2 ≡ globals_behind g top → f2 ≡ functions_behind f top
    → g + f + file_count tops < 2 ^ 32 → g2 + f2 + file_count more < 2 ^ 32
turn-fits g f g2 f2 top more tops whole globals functions before =
    let count : file_count tops ≡ top_count top + file_count more = ap file_count whole in
    omega (arith, count, globals, functions, behind g f top, before)

-- through the parts

pub turn-count : (top : Top) (more tops : File) → tops ≡ top ∷ more → file_count tops < 2 ^ 32 → file_count more < 2 ^ 32
turn-count top more tops whole before =
    let count : file_count tops ≡ top_count top + file_count more = ap file_count whole in
    omega (arith, count, before)

and-tail : (a b : Bool) → (a && b) ≡ true → b ≡ true
and-tail true b h = h
and-tail false b h = absurd cc

pub turn-all : (p : Top → Bool) (top : Top) (more tops : File) → tops ≡ top ∷ more → list_all p tops ≡ true → list_all p more ≡ true
turn-all p top more tops whole before = and-tail (p top) (list_all p more) (subst (λ l. list_all p l ≡ true) whole before)

pub turn-each : {X : Type 0} (of : Top → List X) (old new end : List X) (top : Top) (more tops : File) → tops ≡ top ∷ more
    → new ≡ old ++ of top → old ++ each of tops ≡ end → new ++ each of more ≡ end
turn-each of old new end top more tops whole made before =
    ap (λ l. l ++ each of more) made ∙ append_assoc old (of top) (each of more) ∙ ap (λ l. old ++ each of l) (sym whole) ∙ before

pub turn-faults : (of : Top → List Fault) (least after end : Option Fault) (top : Top) (more tops : File) → tops ≡ top ∷ more
    → after ≡ noted_all least (of top) → noted_all least (each of tops) ≡ end → noted_all after (each of more) ≡ end
turn-faults of least after end top more tops whole made before =
    ap (λ l. noted_all l (each of more)) made ∙ sym (noted_all-append least (of top) (each of more)) ∙ ap (λ l. noted_all least (each of l)) (sym whole) ∙ before
