use Rattle.std.proofs.Common.{drop}
use Rattle.step_machine.proofs.Lookups.{first_is}
use Rattle.step_machine.proofs.next.next_item.Goals as goal

pub returns-in-Some : goal.returns-in-Some
returns-in-Some c = record {
  thread = c.in_ok-thread.thread.now;
  frame = c.in_ok-frame.frame.now;
  below = drop 1 c.in_ok-thread.thread.now.frames;
  rest = drop 1 c.in_ok-frame.frame.now.work;
  stands = c.in_ok-thread.ensures;
  top = first_is _ _ c.in_ok-frame.ensures;
  first = first_is _ _ c.in-Some.ensures;
}
