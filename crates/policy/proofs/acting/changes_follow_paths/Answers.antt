use Rattle.std.proofs.Common.{refl}
use Rattle.policy.specs.Change.{MayChangeContext.{binds, configures, lends, returns as returns_it}, WayToChange.{grants, links, modifies}}
use Rattle.policy.specs.Change.WayToChange.{notifies, own, receives, replies, sends, shares}
use Rattle.policy.proofs.acting.changes_follow_paths.Goals as goal

pub returns-clause-own : goal.returns-clause-own
returns-clause-own c = λ test acts a actor. record { actor = actor; way = own refl }

pub returns-clause-modifies : goal.returns-clause-modifies
returns-clause-modifies c = λ test acts a l kind actor is there. record { actor = actor; way = modifies kind is there }

pub returns-clause-configures : goal.returns-clause-configures
returns-clause-configures c = λ test acts a l core actor uses governs. record { actor = actor; way = shares (configures core uses governs) }

pub returns-clause-binds : goal.returns-clause-binds
returns-clause-binds c = λ test acts a l thread actor uses controls. record { actor = actor; way = shares (binds thread uses controls) }

pub returns-clause-lends : goal.returns-clause-lends
returns-clause-lends c = λ test acts a l endpoint receiver context owner reply actor runs calls receives serves idles owns names. record {
  actor = actor;
  way = shares (lends runs (record {
    endpoint = endpoint;
    calls = calls;
    receiver = receiver;
    receives = receives;
    serves = serves;
    borrows = record {
      idles = record { context = context; runs = idles; owner = owner; owns = owns };
      reply = reply;
      names = names;
    };
  }));
}

pub returns-clause-returns : goal.returns-clause-returns
returns-clause-returns c = λ test acts a l context owner reply actor runs idles owns names. record {
  actor = actor;
  way = shares (returns_it runs (record {
    idles = record { context = context; runs = idles; owner = owner; owns = owns };
    reply = reply;
    names = names;
  }));
}

pub returns-clause-sends : goal.returns-clause-sends
returns-clause-sends c = λ test acts a l endpoint actor sent received waits. record { actor = actor; way = sends endpoint sent received waits }

pub returns-clause-receives : goal.returns-clause-receives
returns-clause-receives c = λ test acts a l endpoint actor received sent waits. record { actor = actor; way = receives endpoint received sent waits }

pub returns-clause-notifies : goal.returns-clause-notifies
returns-clause-notifies c = λ test acts a l notification actor notified awaited waits. record {
  actor = actor;
  way = notifies notification notified awaited waits;
}

pub returns-clause-links : goal.returns-clause-links
returns-clause-links c = λ test acts a l endpoint receiver actor sent called received waits named. record {
  actor = actor;
  way = links endpoint receiver sent called received waits named;
}

pub returns-clause-grants : goal.returns-clause-grants
returns-clause-grants c = λ test acts a l endpoint receiver actor granted received waits controlled. record {
  actor = actor;
  way = grants endpoint receiver granted received waits controlled;
}

pub returns-clause-replies : goal.returns-clause-replies
returns-clause-replies c = λ test acts a l reply server endpoint actor uses holds names serves received called waits. record {
  actor = actor;
  way = replies (record {
    reply = reply;
    uses = uses;
    called = record {
      holds = holds;
      server = server;
      names = names;
      serves = serves;
      endpoint = endpoint;
      receives = received;
      calls = called;
      waits = waits;
    };
  });
}
