-- The declarators behind their commas are those of the grammar.
use Rattle.std.proofs.Common.{◌++◌, map, ap, sym, ◌∙◌}
use Rattle.cfix_base.specs.declared.Spot.{Spot}
use Rattle.c_raw.specs.declared.decl.GlobalInt.{GlobalInt}
use Rattle.c_raw.specs.declared.decl.Hold.{Hold}
use Rattle.c_raw.specs.declared.decl.GlobalMutex.{GlobalMutex}
use Rattle.c_raw.specs.declared.decl.GlobalCond.{GlobalCond}
use Rattle.c_raw.specs.Decls.{global_int_view, hold_view, global_mutex_view, global_cond_view, globals_view}
use Rattle.c_grammar.specs.Marks.{each}
use Rattle.c_names.specs.Faults.{noted_all}
use Rattle.c_names.specs.Files.{global_int_faults, global_hold_faults, global_mutex_faults, global_cond_faults, globals_faults}
use Rattle.c_scope.specs.Tables.{names_from}
use Rattle.c_declare.proofs.Declarators.{int-faults, hold-faults, mutex-faults, cond-faults}
use Rattle.c_types.proofs.tops.note_globals.Goals as goal

pub returns-in-Ints : goal.returns-in-Ints
returns-in-Ints c =
    let names = names_from c.args.names.now in
    c.note_list.ensures
    ∙ ap (noted_all c.args.least.now)
    (ap (λ m. global_int_faults names (global_int_view c.in-Ints.first) ++ each (λ x. global_int_faults names (global_int_view x)) (map (λ (y : Spot × GlobalInt). y.1) m)) c.as_slice.ensures
    ∙ ap (λ rest. global_int_faults names (global_int_view c.in-Ints.first) ++ rest) (sym (int-faults names c.in-Ints.more))
    ∙ ap (λ g. globals_faults names (globals_view g)) (sym c.in-Ints.is))

pub returns-in-Holds : goal.returns-in-Holds
returns-in-Holds c =
    let names = names_from c.args.names.now in
    c.note_list-in-Holds.ensures
    ∙ ap (noted_all c.args.least.now)
    (ap (λ m. global_hold_faults names (hold_view c.in-Holds.first) ++ each (λ x. global_hold_faults names (hold_view x)) (map (λ (y : Spot × Hold). y.1) m)) c.as_slice-in-Holds.ensures
    ∙ ap (λ rest. global_hold_faults names (hold_view c.in-Holds.first) ++ rest) (sym (hold-faults names c.in-Holds.more))
    ∙ ap (λ g. globals_faults names (globals_view g)) (sym c.in-Holds.is))

pub returns-in-Mutexes : goal.returns-in-Mutexes
returns-in-Mutexes c =
    let names = names_from c.args.names.now in
    c.note_list-in-Mutexes.ensures
    ∙ ap (noted_all c.args.least.now)
    (ap (λ m. global_mutex_faults (global_mutex_view c.in-Mutexes.first) ++ each (λ x. global_mutex_faults (global_mutex_view x)) (map (λ (y : Spot × GlobalMutex). y.1) m)) c.as_slice-in-Mutexes.ensures
    ∙ ap (λ rest. global_mutex_faults (global_mutex_view c.in-Mutexes.first) ++ rest) (sym (mutex-faults c.in-Mutexes.more))
    ∙ ap (λ g. globals_faults names (globals_view g)) (sym c.in-Mutexes.is))

pub returns-in-Conds : goal.returns-in-Conds
returns-in-Conds c =
    let names = names_from c.args.names.now in
    c.note_list-in-Conds.ensures
    ∙ ap (noted_all c.args.least.now)
    (ap (λ m. global_cond_faults (global_cond_view c.in-Conds.first) ++ each (λ x. global_cond_faults (global_cond_view x)) (map (λ (y : Spot × GlobalCond). y.1) m)) c.as_slice-in-Conds.ensures
    ∙ ap (λ rest. global_cond_faults (global_cond_view c.in-Conds.first) ++ rest) (sym (cond-faults c.in-Conds.more))
    ∙ ap (λ g. globals_faults names (globals_view g)) (sym c.in-Conds.is))
