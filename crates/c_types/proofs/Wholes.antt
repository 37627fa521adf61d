-- The faults of a file in their order, by the table of its names.
use Rattle.std.proofs.Common.{◌≡◌, true, [], ◌++◌, None, ap, sym, subst, ◌∙◌}
use Rattle.std.specs.List.{list_all}
use Rattle.cfix_base.specs.declared.Spot.{Spot}
use Rattle.c_grammar.specs.File.{File}
use Rattle.c_grammar.specs.Marks.{each}
use Rattle.c_names.specs.Declarations.{declarations, names_of}
use Rattle.c_names.specs.Faults.{noted_all}
use Rattle.c_names.specs.Files.{all_twice_faults, top_faults, main_faults, count_faults, faults_with, faults_of}
use Rattle.c_names.specs.Uses.{Names}
use Rattle.c_declare.specs.Counting.{top_fits}
use Rattle.c_scope.proofs.Faults.{noted_all-append}

pub whole : (names : Names) (end : Spot) (file : File) → names ≡ names_of file
    → noted_all (noted_all (noted_all (noted_all None (all_twice_faults [] (declarations file))) (each (top_faults names) file)) (main_faults names end)) (count_faults names file)
    ≡ noted_all None (faults_of end file)
whole names end file is =
    sym (noted_all-append (noted_all (noted_all None (all_twice_faults [] (declarations file))) (each (top_faults names) file)) (main_faults names end) (count_faults names file))
    ∙ sym (noted_all-append (noted_all None (all_twice_faults [] (declarations file))) (each (top_faults names) file) (main_faults names end ++ count_faults names file))
    ∙ sym (noted_all-append None (all_twice_faults [] (declarations file)) (each (top_faults names) file ++ (main_faults names end ++ count_faults names file)))
    ∙ ap (λ ns. noted_all None (faults_with ns end file)) is

pub fits-by : (names : Names) (file : File) → names ≡ names_of file → list_all (top_fits (names_of file)) file ≡ true → list_all (top_fits names) file ≡ true
fits-by names file is fits = subst (λ ns. list_all (top_fits ns) file ≡ true) (sym is) fits
