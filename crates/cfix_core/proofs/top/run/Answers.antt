use Rattle.std.proofs.Common.{◌≡◌, ◌⊎◌, ℕ, sym, subst, ◌∙◌, arith}
use Rattle.cfix_core.specs.Words.{texts, asked_of, request_of}
use Rattle.cfix_core.specs.Answers.{Ends, NothingPut}
use Rattle.cfix_core.proofs.Causes.{exact_stop, exact_done, complete, refused_stop, nothing_put, untried_put}
use Rattle.cfix_core.proofs.top.run.Goals as goal

pub returns-in-Err-clause-exact : goal.returns-in-Err-clause-exact
returns-in-Err-clause-exact g c = λ stop must still.
    let P : ℕ → Type 0 = λ status. Ends stop status (request_of (texts c.args.words.now)) (g.N.Sink.taken c.args.note.now) (g.N.Sink.taken c.tell.new.note) (g.N.Sink.faults c.args.note.now) (g.N.Sink.faults c.tell.new.note) in
    subst P (sym c.status_of.ensures)
    (exact_stop stop c.in-Err.stop (asked_of c.in-Some.request) _ _ _ _ _ _ _ _ _ _ _ _ c.in-Some.ensures c.in-Err.ensures.cause c.tell.ensures must still)

pub returns-in-Err-clause-complete : goal.returns-in-Err-clause-complete
returns-in-Err-clause-complete g c = λ accepted still put.
    let P : ℕ → Type 0 = λ status. (status ≡ 0) ⊎ (status ≡ 3) in
    subst P (sym c.status_of.ensures)
    (complete c.in-Err.stop (asked_of c.in-Some.request) _ _ _ _ _ _ _ _ c.in-Some.ensures c.in-Err.ensures.cause accepted still put)

pub returns-in-Ok-clause-exact : goal.returns-in-Ok-clause-exact
returns-in-Ok-clause-exact g c = λ stop must still.
    absurd (exact_done stop (asked_of c.in-Some.request) _ _ _ _ c.in-Some.ensures c.in-Ok.ensures.done must)

pub returns-in-Err-clause-source : goal.returns-in-Err-clause-source
returns-in-Err-clause-source g c = λ status.
    refused_stop 6 c.in-Err.stop (asked_of c.in-Some.request) _ _ _ _ _ _ _ _ c.in-Some.ensures c.in-Err.ensures.cause (omega arith)
    (sym c.status_of.ensures ∙ status)

pub returns-in-Err-clause-reports : goal.returns-in-Err-clause-reports
returns-in-Err-clause-reports g c = λ status.
    refused_stop 7 c.in-Err.stop (asked_of c.in-Some.request) _ _ _ _ _ _ _ _ c.in-Some.ensures c.in-Err.ensures.cause (omega arith)
    (sym c.status_of.ensures ∙ status)

pub returns-in-Err-clause-site : goal.returns-in-Err-clause-site
returns-in-Err-clause-site g c = λ status.
    refused_stop 8 c.in-Err.stop (asked_of c.in-Some.request) _ _ _ _ _ _ _ _ c.in-Some.ensures c.in-Err.ensures.cause (omega arith)
    (sym c.status_of.ensures ∙ status)

pub returns-in-Err-clause-schedule : goal.returns-in-Err-clause-schedule
returns-in-Err-clause-schedule g c = λ status.
    refused_stop 9 c.in-Err.stop (asked_of c.in-Some.request) _ _ _ _ _ _ _ _ c.in-Some.ensures c.in-Err.ensures.cause (omega arith)
    (sym c.status_of.ensures ∙ status)

pub returns-in-Err-clause-nothing : goal.returns-in-Err-clause-nothing
returns-in-Err-clause-nothing g c = λ some written none.
    let P : ℕ → Type 0 = λ status. NothingPut status (request_of (texts c.args.words.now)) in
    nothing_put c.in-Err.stop (asked_of c.in-Some.request) _ _ _ _ c.in-Some.ensures c.in-Err.ensures.left
    (λ e. written (c.status_of.ensures ∙ e)) (subst P c.status_of.ensures none)

pub returns-in-Err-clause-untried : goal.returns-in-Err-clause-untried
returns-in-Err-clause-untried g c = λ some written none.
    let P : ℕ → Type 0 = λ status. NothingPut status (request_of (texts c.args.words.now)) in
    untried_put c.in-Err.stop (asked_of c.in-Some.request) _ _ _ c.in-Some.ensures c.in-Err.ensures.untried
    (λ e. written (c.status_of.ensures ∙ e)) (subst P c.status_of.ensures none)
