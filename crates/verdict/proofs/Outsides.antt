-- That a machine is confined exactly if no authority lies outside the policy at any place.
use mathlib.Core.Bool.{false≢true}
use Rattle.std.proofs.Common.{ℕ, ◌∙◌, ◌≡◌, ◌⊎◌, Bool, Option, Some, ap, false, inl, inr, refl, sym, true}
use Rattle.base.specs.declared.{ids.ObjId.ObjId, kind.Kind.{Kind, Kind as authority}}
use Rattle.machine.specs.declared.{object.Object.{Object, Object as o}, thread.{RunState.{RunState, RunState as state}, Tcb.Tcb}}
use Rattle.machine.specs.Authority.{HasAuthority, HasAuthority.{by_cap, by_link, by_pair, by_root}, label_of, links, state_links}
use Rattle.machine.{specs.{Layout.Layout, Machine.{Machine, object_of}}, proofs.RunsLinks.{runs_bound, runs_by, runs_lent}}
use Rattle.{policy.specs.Domain.EdgeTest, integrity.specs.Confined.IsConfined}
use Rattle.verdict.specs.Rules.{Exceeds, Excess, LiesThere, binding, capability, ends_at, holding, pair, recorded, root}
use Rattle.verdict.specs.Sources.{Sources, holds_in, keeps_in, lent_context_in, of_machine, own_context_in}

either : (b : Bool) → (b ≡ false → b ≡ true) → b ≡ true
either true has = refl
either false has = has refl

module _ (t : Layout) (allowed : EdgeTest) (m : Machine) where
  abbrev held_by : Sources
  held_by = of_machine t m

  -- an edge is given by what lies at a place
  record IsGiven (from : ℕ) (k : Kind) (to : ℕ) : Type 0 where
    place : Excess
    there : LiesThere held_by place
    source : (ends_at held_by place).from ≡ Some from
    kind : (ends_at held_by place).kind ≡ k
    target : (ends_at held_by place).to ≡ Some to

  thread_gives :
      (from to : ℕ) (k : Kind) (id end : ObjId) (tcb : Tcb) → object_of m id ≡ Some (o.Tcb tcb) → links (o.Tcb tcb) k end ≡ true
      → label_of t m id ≡ Some from → label_of t m end ≡ Some to → IsGiven from k to
  thread_gives from to authority.Runs id end tcb at linked source target = record {
    place = binding id end;
    there = elim (runs_by tcb end linked) [ inl bound ↦ inl (ap own_context_in at ∙ bound) | inr lent ↦ inr (ap lent_context_in at ∙ lent) ];
    source = source;
    kind = refl;
    target = target;
  }
  thread_gives from to k id end tcb at linked source target = record {
    place = recorded id k to;
    there = (end, ap (λ object. keeps_in object k end) at ∙ linked, target);
    source = source;
    kind = refl;
    target = refl;
  }

  -- all authority is given by a place
  is_given : (from : ℕ) (k : Kind) (to : ℕ) → HasAuthority t m from k to → IsGiven from k to
  is_given from k to (by_cap slot held filled node given source target) =
      record { place = capability slot k to; there = (held, filled, node, target, given); source = source; kind = refl; target = refl }
  is_given from k to (by_root slot held filled thread source target) =
      record { place = root slot to; there = (held, filled, thread, target); source = source; kind = refl; target = refl }
  is_given from k to (by_pair slot parent derived source target) =
      record { place = pair slot parent; there = derived; source = source; kind = refl; target = target }
  is_given from k to (by_link id end object at linked source target) = by k object at linked where
    by : (k : Kind) (object : Object) → object_of m id ≡ Some object → links object k end ≡ true → IsGiven from k to
    by k (o.Tcb tcb) at linked = thread_gives from to k id end tcb at linked source target
    by authority.Holds (o.Reply answers) at linked =
        let there = ap (λ object. holds_in object end) at ∙ linked in
        record { place = holding id end; there = there; source = source; kind = refl; target = target }
    by _ _ at linked = cc

  pub confined_within : ((place : Excess) → Exceeds held_by allowed place → ⊥) → IsConfined t allowed m
  confined_within none from k to has =
      let at = is_given from k to has in
      either (allowed from k to) (λ missing. absurd (none at.place (record {
        from = from;
        to = to;
        there = at.there;
        source = at.source;
        target = at.target;
        missing = ap (λ k. allowed from k to) at.kind ∙ missing;
      })))

  -- a thread's recorded links are no bindings
  recorded_link :
      (tcb : Tcb) (run : RunState) (k : Kind) (end : ObjId) → tcb.state ≡ run → state_links run k end ≡ true
      → links (o.Tcb tcb) k end ≡ true
  recorded_link tcb (state.Sending _) authority.Runs end is e = cc
  recorded_link tcb (state.Receiving _) authority.Runs end is e = cc
  recorded_link tcb (state.Waiting _) authority.Runs end is e = cc
  recorded_link tcb (state.Called _) authority.Runs end is e = cc
  recorded_link tcb state.Ready authority.Runs end is e = cc
  recorded_link tcb state.Inactive authority.Runs end is e = cc
  recorded_link tcb run k end is e = ap (λ r. state_links r k end) is ∙ e

  -- the links of an object: what it keeps, holds and runs on

  runs_link :
      (id end : ObjId) (object : Option Object) → object_of m id ≡ object
      → (own_context_in object ≡ Some end) ⊎ (lent_context_in object ≡ Some end)
      → (linked : Object) × (object_of m id ≡ Some linked) × (links linked authority.Runs end ≡ true)
  runs_link id end (Some (o.Tcb tcb)) at (inl bound) = (o.Tcb tcb, at, runs_bound tcb end bound)
  runs_link id end (Some (o.Tcb tcb)) at (inr lent) = (o.Tcb tcb, at, runs_lent tcb end lent)
  runs_link id end _ at (inl bound) = cc
  runs_link id end _ at (inr lent) = cc

  holds_link :
      (id end : ObjId) (object : Option Object) → object_of m id ≡ object → holds_in object end ≡ true
      → (linked : Object) × (object_of m id ≡ Some linked) × (links linked authority.Holds end ≡ true)
  holds_link id end (Some (o.Reply answers)) at is = (o.Reply answers, at, is)
  holds_link id end _ at is = cc

  keeps_link :
      (id end : ObjId) (k : Kind) (object : Option Object) → object_of m id ≡ object → keeps_in object k end ≡ true
      → (linked : Object) × (object_of m id ≡ Some linked) × (links linked k end ≡ true)
  keeps_link id end k (Some (o.Tcb tcb)) at is = (o.Tcb tcb, at, recorded_link tcb tcb.state k end refl is)
  keeps_link id end k _ at is = cc

  -- each place gives its edge
  gives_edge :
      (place : Excess) (from to : ℕ) → LiesThere held_by place → (ends_at held_by place).from ≡ Some from
      → (ends_at held_by place).to ≡ Some to → HasAuthority t m from (ends_at held_by place).kind to
  gives_edge (capability slot k label) from to at source target = by_cap slot at.0 at.1 at.2 at.4 source (at.3 ∙ target)
  gives_edge (root slot label) from to at source target = by_root slot at.0 at.1 at.2 source (at.3 ∙ target)
  gives_edge (pair child parent) from to at source target = by_pair child parent at source target
  gives_edge (binding thread context) from to at source target =
      let link = runs_link thread context (object_of m thread) refl at in by_link thread context link.0 link.1 link.2 source target
  gives_edge (holding reply thread) from to at source target =
      let link = holds_link reply thread (object_of m reply) refl at in by_link reply thread link.0 link.1 link.2 source target
  gives_edge (recorded thread k label) from to at source target =
      let link = keeps_link thread at.0 k (object_of m thread) refl at.1 in
      by_link thread at.0 link.0 link.1 link.2 source (at.2 ∙ target)

  pub within_confined : IsConfined t allowed m → (place : Excess) → Exceeds held_by allowed place → ⊥
  within_confined confined place out =
      false≢true (sym out.missing ∙ confined out.from _ out.to (gives_edge place out.from out.to out.there out.source out.target))
