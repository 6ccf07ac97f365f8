-- Flows in a larger system: what labels see, and what flows between them, is so of their twins where their system lies within another.
use Rattle.std.proofs.Common.{ℕ, ◌≡◌, ap, false, inl, inr, true}
use Rattle.{base.specs.declared.kind.Kind.Kind, reach.specs.Extents.Limits}
use Rattle.flows.specs.Flowing.{DependsOn, FilterTest, FlowsBeside, GoesOn, GoesThrough, FlowLeads, FlowLeads.{goes_on, starts}, MayAffect}
use Rattle.flows.specs.Seeing.{IsContested, MayWaitFor, Sees, WayToSee, WayToSee.{awaits, binds, bound, callers}}
use Rattle.flows.specs.Seeing.WayToSee.{finds, own, reads, receivers, receives, replies, runs, senders, sends, wakes}
use Rattle.diff.{specs.Within.LiesWithin, proofs.WithinChanges.{acts, answer, changes, edge, shrinks}}

module _ (twin : ℕ → ℕ) (inner outer : Limits) (lies : LiesWithin twin inner outer) where
  -- an edge, and a label that acts

  is : {from to : ℕ} {kind : Kind} → inner.test from kind to ≡ true → outer.test (twin from) kind (twin to) ≡ true
  is there = edge twin inner outer lies there

  does : {a : ℕ} → inner.acts a ≡ true → outer.acts (twin a) ≡ true
  does act = acts twin inner outer lies act

  -- seeing

  wait_for : (l a : ℕ) → MayWaitFor inner.test inner.acts l a → MayWaitFor outer.test outer.acts (twin l) (twin a)
  wait_for l a may = (does may.0, is may.1)

  contested : (l : ℕ) → IsContested inner.test inner.acts l → IsContested outer.test outer.acts (twin l)
  contested l both = record {
    one = twin both.one;
    other = twin both.other;
    differ = lies.distinct both.one both.other both.waits.0 both.also.0 both.differ;
    waits = wait_for l both.one both.waits;
    also = wait_for l both.other both.also;
  }

  way_to_see : (a l : ℕ) → WayToSee inner.test inner.acts a l → WayToSee outer.test outer.acts (twin a) (twin l)
  way_to_see a l (own same) = own (ap twin same)
  way_to_see a l (awaits there) = awaits (is there)
  way_to_see a l (reads there) = reads (is there)
  way_to_see a l (runs there) = runs (is there)
  way_to_see a l (sends there) = sends (is there)
  way_to_see a l (receives there) = receives (is there)
  way_to_see a l (senders endpoint received sent waits) = senders (twin endpoint) (is received) (is sent) (does waits)
  way_to_see a l (receivers endpoint called received waits) = receivers (twin endpoint) (is called) (is received) (does waits)
  way_to_see a l (replies there) = replies (is there)
  way_to_see a l (callers answered) = callers (answer twin inner outer lies a l answered)
  way_to_see a l (binds thread used controlled) = binds (twin thread) (is used) (is controlled)
  way_to_see a l (bound context controlled used) = bound (twin context) (is controlled) (is used)
  way_to_see a l (finds there) = finds (is there)
  way_to_see a l (wakes notified both) = wakes (is notified) (contested l both)

  pub sees : (a l : ℕ) → Sees inner a l → Sees outer (twin a) (twin l)
  sees a l may = record { actor = does may.actor; way = way_to_see a l may.way }

  -- flows

  affects : (x l : ℕ) → MayAffect inner x l → MayAffect outer (twin x) (twin l)
  affects x l (inl may) = inl (changes twin inner outer lies x l may)
  affects x l (inr may) = inr (shrinks twin inner outer lies x l may)

  depends : (y l : ℕ) → DependsOn inner y l → DependsOn outer (twin y) (twin l)
  depends y l (inl same) = inl (ap twin same)
  depends y l (inr may) = inr (sees y l may)

  module _ (filters others : FilterTest) (free : (l : ℕ) → filters l ≡ false → others (twin l) ≡ false) where
    flows_beside : (x y : ℕ) → FlowsBeside inner filters x y → FlowsBeside outer others (twin x) (twin y)
    flows_beside x y flow = record {
      object = twin flow.object;
      flows = record { affects = affects x flow.object flow.flows.affects; depends = depends y flow.object flow.flows.depends };
      beside = free flow.object flow.beside;
    }

    on : (end x : ℕ) → GoesOn filters end x → GoesOn others (twin end) (twin x)
    on end x (inl same) = inl (ap twin same)
    on end x (inr no_filter) = inr (free x no_filter)

    pub leads : (from : ℕ) {to : ℕ} → FlowLeads inner filters from to → FlowLeads outer others (twin from) (twin to)
    leads from starts = starts
    leads from (goes_on {x} {y} before goes flow) = goes_on (leads from before) (on from x goes) (flows_beside x y flow)

    pub apart : (from to : ℕ) → GoesThrough outer others (twin from) (twin to) → GoesThrough inner filters from to
    apart from to none chain = none (leads from chain)
