use Rattle.std.proofs.Common.{rules, ◌++◌, ℕ, List, codes, sym, subst}
use Rattle.cfix_outside.specs.Sinks.{GainedFront}
use Rattle.cfix_outside.proofs.Gains.{gained-then, front-more, front-then}
use Rattle.cfix_core.specs.Stops.{limit_end}
use Rattle.cfix_core.proofs.Notes.{long_parts}
use Rattle.cfix_core.proofs.note.put_long_line.Goals as goal

pub returns-in_err-put_three-clause-front : goal.returns-in_err-put_three-clause-front
returns-in_err-put_three-clause-front g c =
    let P : List ℕ → Type 0 = λ line. GainedFront (g.N.Sink.taken c.args.note.now) (g.N.Sink.taken c.put_three.new.note) line in
    let h = subst P (sym (long_parts c.args.name.now c.args.limit)) (front-more _ _ (codes "cfix: " ++ (c.args.name.now ++ codes " is longer than ")) (limit_end c.args.limit) c.in_err-put_three.ensures.front) in
    search (rules, h)

pub returns-in_err-put_limit-clause-front : goal.returns-in_err-put_limit-clause-front
returns-in_err-put_limit-clause-front g c =
    let P : List ℕ → Type 0 = λ line. GainedFront (g.N.Sink.taken c.args.note.now) (g.N.Sink.taken c.put_limit.new.note) line in
    let h = subst P (sym (long_parts c.args.name.now c.args.limit)) (front-then _ _ _ (codes "cfix: " ++ (c.args.name.now ++ codes " is longer than ")) (limit_end c.args.limit) c.in_ok-put_three.ensures.taken c.in_err-put_limit.ensures.front) in
    search (rules, h)

pub returns-clause-taken : goal.returns-clause-taken
returns-clause-taken g c =
    gained-then _ _ _ (codes "cfix: " ++ (c.args.name.now ++ codes " is longer than ")) (limit_end c.args.limit) _
    c.in_ok-put_three.ensures.taken c.in_ok-put_limit.ensures.taken (long_parts c.args.name.now c.args.limit)
