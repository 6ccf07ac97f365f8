-- The arrival of a message's capability is within the authority of its sender and of its receiver: over an endpoint by which the one
-- may grant to the other, either may make it arrive.
use Rattle.std.proofs.{Common.{ℕ, ◌∙◌, ◌≡◌, ◌⊎◌, Err, Ok, Option, Result, Some, ap, inl, inr, refl, sym, true}, lemmas.Option.same_Some}
use Rattle.base.specs.declared.{ids.ObjId.ObjId, kind.Kind.{Kind, Kind as authority}, refusal.Cause.Cause}
use Rattle.machine.specs.declared.{call.Event.Event, slot_address.{Ends.Ends, SlotAddress.SlotAddress}, thread.Sending.Sending}
use Rattle.machine.specs.{Authority.label_of, Capabilities.gives, Layout.Layout, Machine.Machine}
use Rattle.machine.specs.{Step.Deliver.{arrival_of, with_arrival}, Tree.{copied, parent_of_copy}, WellFormed.IsWellFormed}
use Rattle.steps.proofs.Arrival.{Arrives, arrival_fills, arrival_formed, arrives}
use Rattle.policy.specs.{Change.WayToChange.{grants, modifies}, Closed.MayBeGranted, Domain.EdgeTest}
use Rattle.integrity.specs.{Awake.IsAwake, Invariant.{IsHeld, IsSound}, Keeping.IsSharp}
use Rattle.integrity.proofs.{FillKeeps.{MayFill, copy_derives, fill_fits, given_of_use, in_node}, Held.{bare_of, held_of}}
use Rattle.integrity.proofs.{Keeps.{Changes, Keeps, unchanged}, Reach.{IsControlled, IsInReach, IsWithin, controlled_keeps}}
use Rattle.integrity.proofs.{Reach.{controlled_put, found_in_reach, found_within, led_controlled}, SlotKeeps.slots_keep}

module _
    (t : Layout) (allowed : EdgeTest) (began : Machine) (event : Event) (a : ℕ) (m : Machine) (sound : IsSound t allowed m)
    (closed : IsSharp t allowed) (sender : ObjId) (sending : Sending) (receiver : ObjId) (slot : Option SlotAddress)
    (s b e : ℕ) (sends : label_of t m sender ≡ Some s) (gets : label_of t m receiver ≡ Some b)
    (may_grant : sending.grant ≡ true → allowed s authority.Grant e ≡ true) (receives : allowed b authority.Receive e ≡ true)
    (acts : ((a ≡ s) × ((awake : IsAwake t allowed began a) → awake.acts b ≡ true)) ⊎ (a ≡ b)) where
  held : IsHeld t allowed m
  held = held_of t allowed m sound

  module _ (ends : Ends) (done : Arrives m sender sending receiver slot ends) where
    may : MayBeGranted allowed s b
    may = record { endpoint = e; grants = may_grant done.granted; receives = receives }

    -- the capability is held in the sender's domain, and comes into a CNode that the receiver controls
    source : IsWithin t allowed m s ends.source.holder
    source =
        found_within t allowed m held closed.uses_rise s sender done.from ends.source done.finds.left sends done.finds.ends

    reach : IsInReach t allowed m held closed.uses_rise s ends.held
    reach =
        found_in_reach t allowed m held closed.uses_rise s sender done.from ends.source done.finds.left ends.held sends
        done.finds.ends done.finds.holds

    target : IsControlled t allowed m b ends.target.holder
    target = led_controlled t allowed m held closed.uses_rise b receiver done.to ends.target gets done.leads_to

    -- the sender has what the capability gives, so the receiver has it, and so has the CNode
    edges :
        (k : Kind) (to : ℕ) → gives ends.held.detail k ≡ true → label_of t m ends.held.object ≡ Some to
        → allowed target.label k to ≡ true
    edges k to given labelled =
        let uses = given_of_use ends.held.detail k given in
        let to_is : to ≡ reach.label = same_Some to reach.label (sym labelled ∙ reach.labelled) in
        closed.uses_fall b target.label k to (controlled_put t allowed m b ends.target.holder target) uses
        (closed.keepers_are_granted s b k to target.keeper
        (record { granted = may; of_use = uses; has = ap (allowed s k) to_is ∙ reach.edge k given uses }))

    may_change :
        ((a ≡ s) × ((awake : IsAwake t allowed began a) → awake.acts b ≡ true)) ⊎ (a ≡ b) → Changes t allowed began a target.label
    may_change (inl sender_acts) awake =
        grants e b (ap (λ l. allowed l authority.Grant e) sender_acts.0 ∙ may_grant done.granted) receives (sender_acts.1 awake)
        target.controls
    may_change (inr same) awake =
        modifies authority.Control refl (ap (λ l. allowed l authority.Control target.label) same ∙ target.controls)

    may_fill : MayFill t allowed began a m ends.target (copied ends.held ends.held.detail) (parent_of_copy m ends.source ends.held)
    may_fill = record {
      label = target.label;
      labelled = target.labelled;
      has = may_change acts;
      edges =
          in_node t allowed m ends.target (copied ends.held ends.held.detail) target.label target.is_node target.labelled edges
          (controlled_keeps t allowed m b ends.target.holder target);
      derives =
          copy_derives t allowed m held closed.derives_on ends.source ends.held source.label target.label source.labelled
          (closed.grants_derive s b source.label target.label may source.domain (controlled_put t allowed m b ends.target.holder target));
    }

    arrived_keeps : IsWellFormed (with_arrival m (Ok ends)) → Keeps t allowed began event a m (with_arrival m (Ok ends))
    arrived_keeps formed =
        slots_keep t allowed began event a m (with_arrival m (Ok ends)) held
        (fill_fits t allowed began a m (with_arrival m (Ok ends)) held ends.target (copied ends.held ends.held.detail)
        (parent_of_copy m ends.source ends.held) may_fill
        (arrival_fills m sender sending receiver slot ends sound.well_formed done) formed.slots.object
        (bare_of (with_arrival m (Ok ends)) formed))

  pub arrival_keeps : Keeps t allowed began event a m (with_arrival m (arrival_of m sender sending receiver slot))
  arrival_keeps =
      by_result (arrival_of m sender sending receiver slot) refl (arrival_formed m sender sending receiver slot sound.well_formed)
    where
      by_result :
          (r : Result Ends Cause) → arrival_of m sender sending receiver slot ≡ r → IsWellFormed (with_arrival m r)
          → Keeps t allowed began event a m (with_arrival m r)
      by_result (Ok ends) is formed = arrived_keeps ends (arrives m sender sending receiver slot ends is) formed
      by_result (Err cause) is formed = unchanged t allowed began event a m held
