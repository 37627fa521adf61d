-- Declarators behind their commas: what is said of them is said of them as declarators of the grammar.
use Rattle.std.proofs.Common.{◌≡◌, true, ◌&&◌, List, [], ◌∷◌, map, refl, ap}
use Rattle.std.specs.List.{list_all}
use Rattle.cfix_base.specs.declared.Spot.{Spot}
use Rattle.c_raw.specs.declared.decl.GlobalInt.{GlobalInt}
use Rattle.c_raw.specs.declared.decl.Hold.{Hold}
use Rattle.c_raw.specs.declared.decl.GlobalMutex.{GlobalMutex}
use Rattle.c_raw.specs.declared.decl.GlobalCond.{GlobalCond}
use Rattle.c_raw.specs.Decls.{global_int_view, more_global_ints_view, hold_view, more_holds_view, global_mutex_view, more_global_mutexes_view, global_cond_view, more_global_conds_view}
use Rattle.c_grammar.specs.Marks.{each}
use Rattle.c_names.specs.Files.{global_int_faults, global_hold_faults, global_mutex_faults, global_cond_faults, global_int_cells, global_hold_cells, global_mutex_cells, global_cond_cells}
use Rattle.c_names.specs.Declarations.{global_int_variable, hold_variable, mutex_variable, cond_variable}
use Rattle.c_names.specs.Sources.{global_int_of, global_hold_of, global_mutex_of, global_cond_of}
use Rattle.c_names.specs.Uses.{Names}
use Rattle.c_declare.specs.Counting.{has_value}
use Rattle.c_heads.proofs.Listed.{map-seconds, each-seconds}

pub int-faults : (names : Names) (more : List (Spot × GlobalInt))
    → each (global_int_faults names) (map (λ y. y.1) (more_global_ints_view more)) ≡ each (λ x. global_int_faults names (global_int_view x)) (map (λ y. y.1) more)
int-faults names more = each-seconds global_int_view (global_int_faults names) more

pub hold-faults : (names : Names) (more : List (Spot × Hold))
    → each (global_hold_faults names) (map (λ y. y.1) (more_holds_view more)) ≡ each (λ x. global_hold_faults names (hold_view x)) (map (λ y. y.1) more)
hold-faults names more = each-seconds hold_view (global_hold_faults names) more

pub mutex-faults : (more : List (Spot × GlobalMutex))
    → each global_mutex_faults (map (λ y. y.1) (more_global_mutexes_view more)) ≡ each (λ x. global_mutex_faults (global_mutex_view x)) (map (λ y. y.1) more)
mutex-faults more = each-seconds global_mutex_view global_mutex_faults more

pub cond-faults : (more : List (Spot × GlobalCond))
    → each global_cond_faults (map (λ y. y.1) (more_global_conds_view more)) ≡ each (λ x. global_cond_faults (global_cond_view x)) (map (λ y. y.1) more)
cond-faults more = each-seconds global_cond_view global_cond_faults more

pub int-spelled : (names : Names) (more : List (Spot × GlobalInt))
    → map (global_int_of names) (map (λ y. y.1) (more_global_ints_view more)) ≡ map (λ x. global_int_of names (global_int_view x)) (map (λ y. y.1) more)
int-spelled names more = map-seconds global_int_view (global_int_of names) more

pub hold-spelled : (names : Names) (more : List (Spot × Hold))
    → map (global_hold_of names) (map (λ y. y.1) (more_holds_view more)) ≡ map (λ x. global_hold_of names (hold_view x)) (map (λ y. y.1) more)
hold-spelled names more = map-seconds hold_view (global_hold_of names) more

pub mutex-spelled : (more : List (Spot × GlobalMutex))
    → map global_mutex_of (map (λ y. y.1) (more_global_mutexes_view more)) ≡ map (λ x. global_mutex_of (global_mutex_view x)) (map (λ y. y.1) more)
mutex-spelled more = map-seconds global_mutex_view global_mutex_of more

pub cond-spelled : (more : List (Spot × GlobalCond))
    → map global_cond_of (map (λ y. y.1) (more_global_conds_view more)) ≡ map (λ x. global_cond_of (global_cond_view x)) (map (λ y. y.1) more)
cond-spelled more = map-seconds global_cond_view global_cond_of more

pub int-variables : (more : List (Spot × GlobalInt))
    → map global_int_variable (map (λ y. y.1) (more_global_ints_view more)) ≡ map (λ x. global_int_variable (global_int_view x)) (map (λ y. y.1) more)
int-variables more = map-seconds global_int_view global_int_variable more

pub hold-variables : (more : List (Spot × Hold))
    → map hold_variable (map (λ y. y.1) (more_holds_view more)) ≡ map (λ x. hold_variable (hold_view x)) (map (λ y. y.1) more)
hold-variables more = map-seconds hold_view hold_variable more

pub mutex-variables : (more : List (Spot × GlobalMutex))
    → map mutex_variable (map (λ y. y.1) (more_global_mutexes_view more)) ≡ map (λ x. mutex_variable (global_mutex_view x)) (map (λ y. y.1) more)
mutex-variables more = map-seconds global_mutex_view mutex_variable more

pub cond-variables : (more : List (Spot × GlobalCond))
    → map cond_variable (map (λ y. y.1) (more_global_conds_view more)) ≡ map (λ x. cond_variable (global_cond_view x)) (map (λ y. y.1) more)
cond-variables more = map-seconds global_cond_view cond_variable more

pub int-cells : (names : Names) (more : List (Spot × GlobalInt))
    → map (global_int_cells names) (map (λ y. y.1) (more_global_ints_view more)) ≡ map (λ x. global_int_cells names (global_int_view x)) (map (λ y. y.1) more)
int-cells names more = map-seconds global_int_view (global_int_cells names) more

pub hold-cells : (names : Names) (more : List (Spot × Hold))
    → map (global_hold_cells names) (map (λ y. y.1) (more_holds_view more)) ≡ map (λ x. global_hold_cells names (hold_view x)) (map (λ y. y.1) more)
hold-cells names more = map-seconds hold_view (global_hold_cells names) more

pub mutex-cells : (more : List (Spot × GlobalMutex))
    → map global_mutex_cells (map (λ y. y.1) (more_global_mutexes_view more)) ≡ map (λ x. global_mutex_cells (global_mutex_view x)) (map (λ y. y.1) more)
mutex-cells more = map-seconds global_mutex_view global_mutex_cells more

pub cond-cells : (more : List (Spot × GlobalCond))
    → map global_cond_cells (map (λ y. y.1) (more_global_conds_view more)) ≡ map (λ x. global_cond_cells (global_cond_view x)) (map (λ y. y.1) more)
cond-cells more = map-seconds global_cond_view global_cond_cells more

-- the initial values of declarators fit

pub int-fits : (names : Names) (more : List (Spot × GlobalInt))
    → list_all (has_value names) (map (λ y. y.1) (more_global_ints_view more)) ≡ list_all (λ x. has_value names (global_int_view x)) (map (λ y. y.1) more)
int-fits names [] = refl
int-fits names (x ∷ more) = ap (λ b. has_value names (global_int_view x.1) && b) (int-fits names more)

pub all-fit : {A : Type 0} (xs : List A) → list_all (λ x. true) xs ≡ true
all-fit [] = refl
all-fit (x ∷ xs) = all-fit xs

pub ruleset declarators = (int-variables, hold-variables, mutex-variables, cond-variables, int-faults, hold-faults, mutex-faults, cond-faults, int-spelled, hold-spelled, mutex-spelled, cond-spelled, int-cells, hold-cells, mutex-cells, cond-cells, int-fits, all-fit)
