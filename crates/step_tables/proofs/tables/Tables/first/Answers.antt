use Rattle.std.proofs.Common.{◌≡◌, Some, ap, sym, ◌∙◌}
use Rattle.std.proofs.lemmas.Option.{slice_get_within}
use Rattle.cfix_base.specs.declared.place.Place.TheVariants.{Start}
use Rattle.flow_graph.specs.Flow.{fn_id, graph_of, next_at, number_of}
use Rattle.step_tables.specs.TreeCode.{next_or_exit}
use Rattle.step_tables.proofs.Lookups.{start_found, start_missing, past-length}
use Rattle.step_tables.proofs.tables.Tables.first.Goals as goal

pub returns-in-None : goal.returns-in-None
returns-in-None c =
    ap next_or_exit (sym (start_missing c.args.self.now c.args.function.number (past-length c.args.self.now.functions c.args.function.number c.in-None.ensures)))

pub returns-in-Some : goal.returns-in-Some
returns-in-Some c =
    let within = slice_get_within c.args.self.now.functions c.args.function.number c.in-Some.field-0.now c.in-Some.ensures in
    let met : next_at (Start c.args.function) (graph_of c.args.self.now c.args.function.number).ways ≡ Some (number_of c.first.result) =
    ap (λ g. next_at (Start (fn_id g.function)) g.ways) (sym c.flow.ensures) ∙ c.first.ensures in
    ap next_or_exit (sym (start_found c.args.self.now c.args.function.number within ∙ met))
