use Rattle.std.proofs.Common.{ℕ, List, [], ◌∷◌, ◌++◌, codes, OnOk, OnErr, subst}
use Rattle.cfix_outside.specs.Sinks.{Gained, GainedFront}
use Rattle.cfix_core.proofs.note.put_input.Goals as goal

pub returns-clause-taken : goal.returns-clause-taken
returns-clause-taken g c =
    let P : List ℕ → Type 0 = λ name. OnOk c.put_three.result (Gained (g.N.Sink.taken c.args.note.now) (g.N.Sink.taken c.put_three.new.note)
    (codes "cfix: input byte " ++ (name ++ (codes ": bad number" ++ 10 ∷ [])))) in
    subst P c.format.ensures.text c.put_three.ensures.taken

pub returns-clause-front : goal.returns-clause-front
returns-clause-front g c =
    let P : List ℕ → Type 0 = λ name. OnErr c.put_three.result (GainedFront (g.N.Sink.taken c.args.note.now) (g.N.Sink.taken c.put_three.new.note)
    (codes "cfix: input byte " ++ (name ++ (codes ": bad number" ++ 10 ∷ [])))) in
    subst P c.format.ensures.text c.put_three.ensures.front
