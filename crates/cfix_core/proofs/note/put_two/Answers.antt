use Rattle.std.proofs.Common.{rules, List, ℕ, subst, ◌++◌}
use Rattle.cfix_outside.specs.Sinks.{GainedFront}
use Rattle.cfix_outside.proofs.Gains.{front-more, front-then}
use Rattle.cfix_core.proofs.note.put_two.Goals as goal

pub returns-in_err-put-clause-front : goal.returns-in_err-put-clause-front
returns-in_err-put-clause-front g c =
    let P : List ℕ → Type 0 = λ name. GainedFront (g.N.Sink.taken c.args.note.now) (g.N.Sink.taken c.put.new.self) (name ++ c.args.last.now) in
    let h = subst P c.as_bytes.ensures.value (front-more _ _ c.as_bytes.result.now c.args.last.now c.in_err-put.ensures.front) in
    search (rules, h)

pub returns-in_err-put-2-clause-front : goal.returns-in_err-put-2-clause-front
returns-in_err-put-2-clause-front g c =
    let P : List ℕ → Type 0 = λ name. GainedFront (g.N.Sink.taken c.args.note.now) (g.N.Sink.taken c.put-2.new.self) (name ++ c.args.last.now) in
    let h = subst P c.as_bytes.ensures.value (front-then _ _ _ c.as_bytes.result.now c.args.last.now c.in_ok-put.ensures.taken c.in_err-put-2.ensures.front) in
    search (rules, h)
