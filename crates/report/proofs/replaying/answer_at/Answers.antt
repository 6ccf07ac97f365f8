use Rattle.std.proofs.{Common.{inr, refl}, lemmas.Option.slice_get_read}
use Rattle.report.proofs.replaying.answer_at.Goals as goal

-- the entry exists, and its step is made in the state to which those before lead
pub returns-in-Ok-None : goal.returns-in-Ok-None
returns-in-Ok-None c = record {
  entry = c.in-Some.field-0.now;
  here = slice_get_read _ _ _ _ refl c.in-Some.ensures.lookup.3.0 c.in-Some.ensures.lookup.1;
  before = c.replay.new.state;
  led = (c.in_ok-state.state, c.in_ok-state.ensures.booted, rw c.in-Ok-None.field-0-is at c.in-Ok-None.ensures.found);
  next = c.step.new.state;
  stepped = c.step.ensures.stepped;
}

pub returns-in-Ok-Some : goal.returns-in-Ok-Some
returns-in-Ok-Some c =
    inr (c.in_ok-state.state, _, c.in_ok-state.ensures.booted, rw c.in-Ok-Some.field-0-is at c.in-Ok-Some.ensures.found)
