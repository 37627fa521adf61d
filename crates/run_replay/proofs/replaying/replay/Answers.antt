use Rattle.std.proofs.Common.{false, get_or, arith}
use Rattle.cfix_base.specs.declared.entry.Entry.{Entry}
use Rattle.run_replay.proofs.Traces.{left_at, left_none, way_stops, way_put, way_done, way_fails}
use Rattle.run_replay.proofs.replaying.replay.Goals as goal

pub returns-in-Err-put_step-clause-fault : goal.returns-in-Err-put_step-clause-fault
returns-in-Err-put_step-clause-fault g c =
    let first : Entry = record { thread = 0; timeout = false } in
    let entry : Entry = get_or c.as_slice-entry-items.result.now c.loop-entry.entry-index first in
    let split = left_at c.as_slice-entry-items.result.now c.args.schedule.now c.loop-entry.entry-index first c.as_slice-entry-items.ensures c.loop-entry-test.true in
    way_stops c.args.machine.now c.args.input.now c.args.schedule.now c.loop-entry.entry-index c.loop-entry.state (g.O.Sink.taken c.args.out.now) (g.O.Sink.taken c.loop-entry.out)
    c.loop-entry.invariant.0 entry split c.in-Err-put_step.fault (g.O.Sink.taken c.put_step.new.out)
    (g.O.Sink.faults c.args.out.now) (g.O.Sink.faults c.loop-entry.out) (g.O.Sink.faults c.put_step.new.out)
    c.loop-entry.invariant.1 c.in-Err-put_step.ensures.err

pub loop-entry-preserved : goal.loop-entry-preserved
loop-entry-preserved g c =
    let first : Entry = record { thread = 0; timeout = false } in
    let entry : Entry = get_or c.as_slice-entry-items.result.now c.loop-entry.entry-index first in
    let split = left_at c.as_slice-entry-items.result.now c.args.schedule.now c.loop-entry.entry-index first c.as_slice-entry-items.ensures c.loop-entry-test.true in (
      way_put c.args.machine.now c.args.input.now c.args.schedule.now c.loop-entry.entry-index c.loop-entry.state (g.O.Sink.taken c.args.out.now) (g.O.Sink.taken c.loop-entry.out)
          c.loop-entry.invariant.0 entry split c.put_step.new.state (g.O.Sink.taken c.put_step.new.out) c.in-Ok-put_step.ensures.ok,
      omega (arith, c.loop-entry.invariant.1, c.in-Ok-put_step.ensures.later),
    )

pub returns-in-Ok-put_closing-clause-done : goal.returns-in-Ok-put_closing-clause-done
returns-in-Ok-put_closing-clause-done g c =
    let all = left_none c.as_slice-entry-items.result.now c.args.schedule.now c.loop-entry.entry-index c.as_slice-entry-items.ensures (omega (arith, c.loop-entry-test.false)) in
    way_done c.args.machine.now c.args.input.now c.args.schedule.now c.loop-entry.entry-index c.loop-entry.state (g.O.Sink.taken c.args.out.now) (g.O.Sink.taken c.loop-entry.out)
    c.loop-entry.invariant.0 all (g.O.Sink.taken c.put_closing.new.out) c.in-Ok-put_closing.ensures.ok

pub returns-clause-fault : goal.returns-clause-fault
returns-clause-fault g c =
    let all = left_none c.as_slice-entry-items.result.now c.args.schedule.now c.loop-entry.entry-index c.as_slice-entry-items.ensures (omega (arith, c.loop-entry-test.false)) in
    way_fails c.args.machine.now c.args.input.now c.args.schedule.now c.loop-entry.entry-index c.loop-entry.state (g.O.Sink.taken c.args.out.now) (g.O.Sink.taken c.loop-entry.out)
    c.loop-entry.invariant.0 all (g.O.Sink.taken c.put_closing.new.out) (g.O.Sink.faults c.args.out.now) (g.O.Sink.faults c.loop-entry.out) (g.O.Sink.faults c.put_closing.new.out)
    c.loop-entry.invariant.1 c.in-Err-Failed.ensures.cause c.in-Err-Failed.ensures.err
