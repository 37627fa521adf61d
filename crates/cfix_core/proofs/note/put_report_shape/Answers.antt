use Rattle.std.proofs.Common.{ℕ, List, [], ◌∷◌, ◌++◌, codes, OnErr, subst}
use Rattle.cfix_outside.specs.Sinks.{GainedFront}
use Rattle.cfix_core.proofs.note.put_report_shape.Goals as goal

pub returns-clause-front : goal.returns-clause-front
returns-clause-front g c =
    let P : List ℕ → Type 0 = λ name. OnErr c.put_three.result (GainedFront (g.N.Sink.taken c.args.note.now) (g.N.Sink.taken c.put_three.new.note)
    (codes "cfix: report " ++ (name ++ (codes ": wrong shape" ++ 10 ∷ [])))) in
    subst P c.format.ensures.text c.put_three.ensures.front
