use Rattle.std.proofs.Common.{ℕ, List, [], ◌∷◌, ◌++◌, codes, OnOk, OnErr, sym, subst}
use Rattle.cfix_outside.specs.Sinks.{Gained, GainedFront}
use Rattle.cfix_core.specs.Stops.{refusal_line}
use Rattle.cfix_core.specs.declared.failure.Refusal.{Refusal}
use Rattle.cfix_core.proofs.note.put_refusal.Goals as goal

pub returns-in-StackBroken-clause-taken : goal.returns-in-StackBroken-clause-taken
returns-in-StackBroken-clause-taken g c =
    let put = c.put_three-in-StackBroken in
    let P : Refusal → Type 0 = λ refusal. OnOk put.result (Gained (g.N.Sink.taken c.args.note.now) (g.N.Sink.taken put.new.note) (refusal_line refusal)) in
    let Q : List ℕ → Type 0 = λ letter. OnOk put.result (Gained (g.N.Sink.taken c.args.note.now) (g.N.Sink.taken put.new.note)
    (codes "cfix: report 0: broken stack of " ++ (letter ++ 10 ∷ []))) in
    subst P (sym c.in-StackBroken.is) (subst Q c.letter_of-in-StackBroken.ensures put.ensures.taken)

pub returns-in-StackBroken-clause-front : goal.returns-in-StackBroken-clause-front
returns-in-StackBroken-clause-front g c =
    let put = c.put_three-in-StackBroken in
    let P : Refusal → Type 0 = λ refusal. OnErr put.result (GainedFront (g.N.Sink.taken c.args.note.now) (g.N.Sink.taken put.new.note) (refusal_line refusal)) in
    let Q : List ℕ → Type 0 = λ letter. OnErr put.result (GainedFront (g.N.Sink.taken c.args.note.now) (g.N.Sink.taken put.new.note)
    (codes "cfix: report 0: broken stack of " ++ (letter ++ 10 ∷ []))) in
    subst P (sym c.in-StackBroken.is) (subst Q c.letter_of-in-StackBroken.ensures put.ensures.front)
