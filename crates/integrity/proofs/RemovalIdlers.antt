-- Threads that a removal leaves waiting for a message without a context are of labels that may idle: the last capability for the
-- vanished context stood in a CNode, whose label may use it. The removal lends nobody a context.
use Rattle.std.proofs.Common.{ℕ, ◌∙◌, ◌≡◌, ◌⊎◌, Bool, None, Option, Some, ap, arith, cond, false, inl}
use Rattle.std.proofs.{Common.{inr, option_map, refl, sym, true}, lemmas.Option.{none-some, same_Some}}
use Rattle.base.specs.declared.{ids.{ObjId.ObjId, SlotRef.SlotRef}, kind.Kind.Kind as authority}
use Rattle.machine.specs.declared.{cap.Cap.Cap, object.{Object.{Object, Object as o}, ObjectKind.ObjectKind as kind}}
use Rattle.machine.specs.declared.thread.{Receiving.Receiving, RunState.RunState as state, Tcb.Tcb}
use Rattle.machine.specs.{Authority.{HasAuthority.{by_cap, by_link}, label_of}, Capabilities.{gives, kind_of_detail}}
use Rattle.machine.specs.{Finalising.{aborted, finalised, halted, is_aborted, is_halted, leads_nowhere, tcb_after, unbound}, Gone.gone_of}
use Rattle.machine.specs.{Layout.Layout, Machine.{Machine, cap_of, object_of}, Objects.kind_of_object, Removal.{removed, vanishes}}
use Rattle.machine.{specs.{Step.Reply.loan_in, WellFormed.kind_of}, proofs.{GoneLemmas.losing_decided, RemovalLooks.next-removed}}
use Rattle.{machine.proofs.{RemovalStays.object_was, RunsLinks.runs_bound}, policy.specs.{Domain.EdgeTest, Sharp.MayIdle}}
use Rattle.integrity.specs.{Invariant.IsSound, Keeping.{BorrowersMayIdle, IsIdleBorrower, WaitersMayIdle}, Removals.use_of}
use Rattle.integrity.proofs.Borrowers.{borrower_stays, finalised_lends}
use Rattle.integrity.proofs.{Cascade.{HasSlots, counted_kinds, gives_use}, RemovalConfined.label_was, Shrinking.same_tcb}

-- a link after a removal is gone if it was, or if it led to what vanished
lost : (vanished : ObjId → Bool) (link : Option ObjId) → cond (leads_nowhere vanished link) None link ≡ None
    → (link ≡ None) ⊎ ((end : ObjId) × (link ≡ Some end) × (vanished end ≡ true))
lost vanished None gone = inl refl
lost vanished (Some end) gone = by (vanished end) refl gone where
  by : (b : Bool) → vanished end ≡ b → cond b None (Some end) ≡ None
      → (Some end ≡ None) ⊎ ((one : ObjId) × (Some end ≡ Some one) × (vanished one ≡ true))
  by true is e = inr (end, refl, is)
  by false is e = absurd (none-some end (sym e))

-- a thread that waits for a message after a removal did so before, and lost its context if anything
record Waited (vanished : ObjId → Bool) (was : Tcb) (receiving : Receiving) : Type 0 where
  waits : was.state ≡ state.Receiving receiving
  context : cond (leads_nowhere vanished was.context) None was.context ≡ None

waited :
    (vanished : ObjId → Bool) (was : Tcb) (halts aborts : Bool) (receiving : Receiving)
    → (unbound vanished (cond halts (halted was) (cond aborts (aborted was) was))).state ≡ state.Receiving receiving
    → (unbound vanished (cond halts (halted was) (cond aborts (aborted was) was))).context ≡ None
    → Waited vanished was receiving
waited vanished was true aborts receiving waits none = cc
waited vanished was false true receiving waits none = cc
waited vanished was false false receiving waits none = record { waits = waits; context = none }

thread_waited :
    (m : Machine) (vanished : ObjId → Bool) (object : Object) (thread : Tcb) (receiving : Receiving)
    → finalised m vanished object ≡ o.Tcb thread → thread.state ≡ state.Receiving receiving → thread.context ≡ None
    → (was : Tcb) × (object ≡ o.Tcb was) × Waited vanished was receiving
thread_waited m vanished (o.Tcb was) thread receiving is waits none =
    let same : tcb_after vanished was ≡ thread = same_tcb (tcb_after vanished was) thread is in (
      was,
      refl,
      waited vanished was (is_halted vanished was.state) (is_aborted vanished was.state) receiving
          (ap (λ (x : Tcb). x.state) same ∙ waits) (ap (λ (x : Tcb). x.context) same ∙ none),
    )
thread_waited m vanished _ thread receiving is waits none = cc

module _ (t : Layout) (allowed : EdgeTest) (m : Machine) (chosen : SlotRef → Bool) (sound : IsSound t allowed m) where
  -- a slot with a capability for a context is in a CNode, since roots hold CNodes' alone
  in_node :
      (slot : SlotRef) (held : Cap) → cap_of m slot ≡ Some held → kind_of m held.object ≡ Some kind.Context
      → HasSlots m slot.holder → kind_of m slot.holder ≡ Some kind.CNode
  in_node slot held filled of_context (inl node) = node
  in_node slot held filled of_context (inr thread) =
      let two : Some kind.CNode ≡ Some kind.Context =
      ap (λ k. Some k) (sym (sound.well_formed.slots.root slot held filled thread))
      ∙ sym (sound.well_formed.slots.object slot held filled) ∙ of_context in
      cc

  -- the label of a thread whose context vanishes may idle
  left_idle :
      (id context : ObjId) (was : Tcb) → object_of m id ≡ Some (o.Tcb was) → was.context ≡ Some context
      → vanishes m chosen context ≡ true → (label : ℕ) → label_of t m id ≡ Some label → MayIdle allowed label
  left_idle id context was there bound gone label labelled =
      let loses = (losing_decided m (gone_of m chosen) context).0 gone in
      let has = sound.well_formed.slots.holder loses.last loses.final loses.there in
      let its = sound.well_formed.links.thread_context id context was there bound in
      let of_context : kind_of m loses.final.object ≡ Some kind.Context =
      ap (kind_of m) loses.its_own ∙ ap (option_map kind_of_object) its.1 in
      let of_kind : kind_of_detail loses.final.detail ≡ kind.Context =
      same_Some (kind_of_detail loses.final.detail) kind.Context
      (sym (sound.well_formed.slots.object loses.last loses.final loses.there) ∙ of_context) in
      let node =
      in_node loses.last loses.final loses.there of_context
      (counted_kinds m loses.last.holder has.0 loses.last.index has.1 has.2) in
      let owner = sound.of_table.labelled loses.last.holder has.0 has.1 in
      let of = sound.of_table.labelled context (o.Context its.0) its.1 in
      let given : gives loses.final.detail authority.Context ≡ true =
      ap (λ k. gives loses.final.detail (use_of k)) (sym of_kind) ∙ gives_use loses.final.detail in
      record {
        context = of.0;
        runs =
            sound.confined label authority.Runs of.0
            (by_link id context (o.Tcb was) there (runs_bound was context bound) labelled of.1);
        owner = owner.0;
        owns =
            sound.confined owner.0 authority.Context of.0
            (by_cap loses.last loses.final loses.there node given owner.1 (ap (label_of t m) loses.its_own ∙ of.1));
      }

  pub removed_idlers : WaitersMayIdle t allowed (removed m chosen)
  removed_idlers id thread receiving at waits none label labelled =
      let was = object_was m chosen id (o.Tcb thread) at in
      let old = thread_waited m (vanishes m chosen) was.0 thread receiving was.3 waits none in
      let there : object_of m id ≡ Some (o.Tcb old.0) = was.1 ∙ ap (λ (x : Object). Some x) old.1 in
      by_context old.0 there old.2 (label_was t m chosen id label labelled)
    where
      by_context :
          (old : Tcb) → object_of m id ≡ Some (o.Tcb old) → Waited (vanishes m chosen) old receiving → label_of t m id ≡ Some label
          → MayIdle allowed label
      by_context old there waited before = elim (lost (vanishes m chosen) old.context waited.context) [
        | inl none ↦ sound.idlers id old receiving there waited.waits none label before
        | inr gone ↦ left_idle id gone.0 old there gone.1 gone.2 label before
      ]

  -- the borrower of a thread is as before, and has the same label if it is still there
  pub removed_borrowers : BorrowersMayIdle t allowed (removed m chosen)
  removed_borrowers id lent lends = by_content (object_of (removed m chosen) id) refl where
    by_content : (content : Option Object) → object_of (removed m chosen) id ≡ content → IsIdleBorrower t allowed (removed m chosen) lent
    by_content None at = absurd (none-some lent (ap loan_in (sym at) ∙ lends))
    by_content (Some object) at =
        let was = object_was m chosen id object at in
        let number = next-removed m chosen in
        borrower_stays t allowed m (removed m chosen) lent (omega (arith, number)) (label_was t m chosen lent.borrower)
        (sound.borrowers id lent
        (ap loan_in was.1
        ∙ finalised_lends m (vanishes m chosen) was.0 lent
        (ap (λ (x : Object). loan_in (Some x)) was.3 ∙ ap loan_in (sym at) ∙ lends)))
