use Rattle.policy.specs.NarrowTake.{TakesByControl.{drops, releases, removes, wakes}, WayToShrink.{controls, ends, frees, halts, stops, unbinds}}
use Rattle.policy.proofs.acting.shrinks_follow_paths.Goals as goal

pub returns-clause-unbinds : goal.returns-clause-unbinds
returns-clause-unbinds c = λ test acts a l actor uses. record { actor = actor; way = unbinds uses }

pub returns-clause-stops : goal.returns-clause-stops
returns-clause-stops c = λ test acts a l context actor uses ran. record { actor = actor; way = stops context uses ran }

pub returns-clause-halts : goal.returns-clause-halts
returns-clause-halts c = λ test acts a l reply actor uses holds names waits. record {
  actor = actor;
  way = halts (record { reply = reply; uses = uses; held = record { holds = holds; names = names; waits = waits } });
}

pub returns-clause-ends : goal.returns-clause-ends
returns-clause-ends c = λ test acts a l reply receiver actor uses named waits received. record {
  actor = actor;
  way = ends reply receiver uses named waits received;
}

pub returns-clause-frees : goal.returns-clause-frees
returns-clause-frees c = λ test acts a l endpoint receiver actor sent received waits named. record {
  actor = actor;
  way = frees endpoint receiver sent received waits named;
}

pub returns-clause-removes : goal.returns-clause-removes
returns-clause-removes c = λ test acts a l controlled kind actor is control there. record {
  actor = actor;
  way = controls (removes controlled kind is control there);
}

pub returns-clause-releases : goal.returns-clause-releases
returns-clause-releases c = λ test acts a l caller actor control waits held. record {
  actor = actor;
  way = controls (releases caller control waits held);
}

pub returns-clause-wakes : goal.returns-clause-wakes
returns-clause-wakes c = λ test acts a l controlled end kind actor is control reset there waits. record {
  actor = actor;
  way = controls (wakes controlled end kind is control reset there waits);
}

pub returns-clause-drops : goal.returns-clause-drops
returns-clause-drops c = λ test acts a l controlled endpoint receiver actor control reset received waits named. record {
  actor = actor;
  way = controls (drops controlled endpoint receiver control reset received waits named);
}
