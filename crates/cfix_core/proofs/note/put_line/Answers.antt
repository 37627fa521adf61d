use Rattle.std.proofs.Common.{ℕ, List, OnOk, OnErr, sym, subst}
use Rattle.cfix_outside.specs.Sinks.{Gained, GainedFront}
use Rattle.cfix_core.specs.Words.{asked_of}
use Rattle.cfix_core.specs.Stops.{read_line, line_of}
use Rattle.cfix_core.specs.declared.stop.Stop.{Stop}
use Rattle.cfix_core.proofs.note.put_line.Goals as goal

pub returns-in-CannotWrite-clause-taken : goal.returns-in-CannotWrite-clause-taken
returns-in-CannotWrite-clause-taken g c =
    let P : Stop → Type 0 = λ stop. OnOk c.put-in-CannotWrite.result (Gained (g.N.Sink.taken c.args.note.now) (g.N.Sink.taken c.put-in-CannotWrite.new.self) (line_of (asked_of c.args.request.now) stop)) in
    subst P (sym c.in-CannotWrite.is) c.put-in-CannotWrite.ensures.taken

pub returns-in-CannotWrite-clause-front : goal.returns-in-CannotWrite-clause-front
returns-in-CannotWrite-clause-front g c =
    let P : Stop → Type 0 = λ stop. OnErr c.put-in-CannotWrite.result (GainedFront (g.N.Sink.taken c.args.note.now) (g.N.Sink.taken c.put-in-CannotWrite.new.self) (line_of (asked_of c.args.request.now) stop)) in
    subst P (sym c.in-CannotWrite.is) c.put-in-CannotWrite.ensures.front

pub returns-in-CannotRead-clause-taken : goal.returns-in-CannotRead-clause-taken
returns-in-CannotRead-clause-taken g c =
    let P : Stop → Type 0 = λ stop. OnOk c.put_three.result (Gained (g.N.Sink.taken c.args.note.now) (g.N.Sink.taken c.put_three.new.note) (line_of (asked_of c.args.request.now) stop)) in
    let Q : List ℕ → Type 0 = λ name. OnOk c.put_three.result (Gained (g.N.Sink.taken c.args.note.now) (g.N.Sink.taken c.put_three.new.note) (read_line name)) in
    subst P (sym c.in-CannotRead.is) (subst Q c.word_of.ensures c.put_three.ensures.taken)

pub returns-in-CannotRead-clause-front : goal.returns-in-CannotRead-clause-front
returns-in-CannotRead-clause-front g c =
    let P : Stop → Type 0 = λ stop. OnErr c.put_three.result (GainedFront (g.N.Sink.taken c.args.note.now) (g.N.Sink.taken c.put_three.new.note) (line_of (asked_of c.args.request.now) stop)) in
    let Q : List ℕ → Type 0 = λ name. OnErr c.put_three.result (GainedFront (g.N.Sink.taken c.args.note.now) (g.N.Sink.taken c.put_three.new.note) (read_line name)) in
    subst P (sym c.in-CannotRead.is) (subst Q c.word_of.ensures c.put_three.ensures.front)
