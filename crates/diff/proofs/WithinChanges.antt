-- Changes in a larger system: what labels change and make smaller, their twins do in a system within which theirs lies, way by way.
use Rattle.std.proofs.Common.{ℕ, ◌≡◌, ap, true}
use Rattle.base.specs.declared.kind.Kind.{Kind}
use Rattle.policy.specs.Change.{MayAnswer, MayBorrow, MayChangeContext}
use Rattle.policy.specs.Change.{MayChangeContext.{binds, configures, lends, returns as returns_it}, MayHoldCaller, MayLend, WayToChange}
use Rattle.policy.specs.Change.WayToChange.{grants, links, modifies, notifies, own, receives, replies, sends, shares}
use Rattle.policy.specs.NarrowTake.{MayHalt, MayHoldReceiver, TakesByControl, TakesByControl.{drops, releases, removes, wakes}, WayToShrink}
use Rattle.policy.specs.{NarrowTake.WayToShrink.{controls, ends, frees, halts, stops, unbinds}, Sharp.MayIdle}
use Rattle.{reach.specs.Extents.{Limits, MayChangeIn, MayShrinkIn}, diff.specs.Within.LiesWithin}

module _ (twin : ℕ → ℕ) (inner outer : Limits) (lies : LiesWithin twin inner outer) where
  pub edge : {from to : ℕ} {kind : Kind} → inner.test from kind to ≡ true → outer.test (twin from) kind (twin to) ≡ true
  edge {from} {to} {kind} there = lies.edges from kind to there

  pub acts : {a : ℕ} → inner.acts a ≡ true → outer.acts (twin a) ≡ true
  acts {a} does = lies.actors a does

  -- changes

  idle : (b : ℕ) → MayIdle inner.test b → MayIdle outer.test (twin b)
  idle b may = record { context = twin may.context; runs = edge may.runs; owner = twin may.owner; owns = edge may.owns }

  borrow : (b : ℕ) → MayBorrow inner.test b → MayBorrow outer.test (twin b)
  borrow b may = record { idles = idle b may.idles; reply = twin may.reply; names = edge may.names }

  lend : (a : ℕ) → MayLend inner.test inner.acts a → MayLend outer.test outer.acts (twin a)
  lend a may = record {
    endpoint = twin may.endpoint;
    calls = edge may.calls;
    receiver = twin may.receiver;
    receives = edge may.receives;
    serves = acts may.serves;
    borrows = borrow may.receiver may.borrows;
  }

  change_context : (a l : ℕ) → MayChangeContext inner.test inner.acts a l → MayChangeContext outer.test outer.acts (twin a) (twin l)
  change_context a l (configures core used governed) = configures (twin core) (edge used) (edge governed)
  change_context a l (binds thread used controlled) = binds (twin thread) (edge used) (edge controlled)
  change_context a l (lends ran lent) = lends (edge ran) (lend a lent)
  change_context a l (returns_it ran borrowed) = returns_it (edge ran) (borrow a borrowed)

  hold_caller : (reply l : ℕ) → MayHoldCaller inner.test inner.acts reply l → MayHoldCaller outer.test outer.acts (twin reply) (twin l)
  hold_caller reply l may = record {
    holds = edge may.holds;
    server = twin may.server;
    names = edge may.names;
    serves = acts may.serves;
    endpoint = twin may.endpoint;
    receives = edge may.receives;
    calls = edge may.calls;
    waits = acts may.waits;
  }

  pub answer : (a l : ℕ) → MayAnswer inner.test inner.acts a l → MayAnswer outer.test outer.acts (twin a) (twin l)
  answer a l may = record { reply = twin may.reply; uses = edge may.uses; called = hold_caller may.reply l may.called }

  way_to_change : (a l : ℕ) → WayToChange inner.test inner.acts a l → WayToChange outer.test outer.acts (twin a) (twin l)
  way_to_change a l (own same) = own (ap twin same)
  way_to_change a l (modifies kind changing there) = modifies kind changing (edge there)
  way_to_change a l (shares context) = shares (change_context a l context)
  way_to_change a l (sends endpoint sent received waits) = sends (twin endpoint) (edge sent) (edge received) (acts waits)
  way_to_change a l (receives endpoint received sent waits) = receives (twin endpoint) (edge received) (edge sent) (acts waits)
  way_to_change a l (notifies notification notified awaited waits) =
      notifies (twin notification) (edge notified) (edge awaited) (acts waits)
  way_to_change a l (links endpoint receiver sent called received waits named) =
      links (twin endpoint) (twin receiver) (edge sent) (edge called) (edge received) (acts waits) (edge named)
  way_to_change a l (grants endpoint receiver granted received waits controlled) =
      grants (twin endpoint) (twin receiver) (edge granted) (edge received) (acts waits) (edge controlled)
  way_to_change a l (replies answered) = replies (answer a l answered)

  pub changes : (a l : ℕ) → MayChangeIn inner a l → MayChangeIn outer (twin a) (twin l)
  changes a l may = record { actor = acts may.actor; way = way_to_change a l may.way }

  -- shrinking

  take_by_control : (a l : ℕ) → TakesByControl inner.test inner.acts a l → TakesByControl outer.test outer.acts (twin a) (twin l)
  take_by_control a l (removes controlled kind removed governed there) = removes (twin controlled) kind removed (edge governed) (edge there)
  take_by_control a l (releases caller governed waits held) = releases (twin caller) (edge governed) (acts waits) (edge held)
  take_by_control a l (wakes controlled end kind waiting governed reset there waits) =
      wakes (twin controlled) (twin end) kind waiting (edge governed) (edge reset) (edge there) (acts waits)
  take_by_control a l (drops controlled endpoint receiver governed reset received waits named) =
      drops (twin controlled) (twin endpoint) (twin receiver) (edge governed) (edge reset) (edge received) (acts waits) (edge named)

  hold_receiver : (reply l : ℕ) → MayHoldReceiver inner.test inner.acts reply l
      → MayHoldReceiver outer.test outer.acts (twin reply) (twin l)
  hold_receiver reply l may = record { holds = edge may.holds; names = edge may.names; waits = acts may.waits }

  halt : (a l : ℕ) → MayHalt inner.test inner.acts a l → MayHalt outer.test outer.acts (twin a) (twin l)
  halt a l may = record { reply = twin may.reply; uses = edge may.uses; held = hold_receiver may.reply l may.held }

  way_to_shrink : (a l : ℕ) → WayToShrink inner.test inner.acts a l → WayToShrink outer.test outer.acts (twin a) (twin l)
  way_to_shrink a l (unbinds used) = unbinds (edge used)
  way_to_shrink a l (stops context used ran) = stops (twin context) (edge used) (edge ran)
  way_to_shrink a l (halts halted) = halts (halt a l halted)
  way_to_shrink a l (ends reply receiver used named waits received) =
      ends (twin reply) (twin receiver) (edge used) (edge named) (acts waits) (edge received)
  way_to_shrink a l (frees endpoint receiver sent received waits named) =
      frees (twin endpoint) (twin receiver) (edge sent) (edge received) (acts waits) (edge named)
  way_to_shrink a l (controls taken) = controls (take_by_control a l taken)

  pub shrinks : (a l : ℕ) → MayShrinkIn inner a l → MayShrinkIn outer (twin a) (twin l)
  shrinks a l may = record { actor = acts may.actor; way = way_to_shrink a l may.way }
