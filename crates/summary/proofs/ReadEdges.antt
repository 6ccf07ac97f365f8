-- Edges of labels whose threads read or write: a call that does so found a capability with the right, so its label has that authority.
use Rattle.std.{specs.Prelude.{Err, Ok, Option, Result, Some}, proofs.Common.{ℕ, ◌∙◌, ◌≡◌, Bool, ap, false, refl, subst, sym, true}}
use Rattle.std.proofs.lemmas.{Bool.false≢true, Option.{none-some, same_Some}}
use Rattle.base.specs.{declared.{ids.{ObjId.ObjId, SlotRef.SlotRef}, kind.Kind.{Kind, Kind as authority}, refusal.Cause.Cause}, Kinds.is_structural}
use Rattle.machine.specs.declared.{call.{Call.{Call, Call as call}, Event.Event, Made.Made, Outcome.Outcome}, cap.Cap.Cap}
use Rattle.machine.specs.declared.object.ObjectKind.{ObjectKind as kind}
use Rattle.machine.specs.{Authority.label_of, Capabilities.{badged_of, can_read, can_write, gives}, Layout.Layout, Machine.Machine, Outcomes.{IsRefused}}
use Rattle.machine.specs.{Step.{Find.{find, permitted}, Poll.poll_of, Receive.receive_of, Step, Wait.wait_of, Words.{read_of, write_of}}}
use Rattle.machine.specs.Step.{Step.{ends, lacks}, admitted, call_of, made_by, settled, step_of}
use Rattle.steps.proofs.{Conditions.{both_done, same_ok}, Finding.{as_kind, finds, is_permitted}}
use Rattle.policy.specs.{Domain.EdgeTest, Sharp.UsesRise}
use Rattle.integrity.specs.{Invariant.IsSound, Safe.IsReached}
use Rattle.{integrity.proofs.MessageParts.reached, summary.specs.Reading.{IsUsed, Use, UsesObject, use_of}}

-- a call that reads or writes and went past its conditions found a capability that gives the authority
record IsMade (m : Machine) (caller : ObjId) (usage : Use) : Type 0 where
  found : SlotRef × Cap
  finds : find usage.object m caller usage.address ≡ Ok found
  gives : gives (as_kind usage.object found.1.detail) usage.authority ≡ true
  plain : is_structural usage.authority ≡ false

module _ (m : Machine) (caller : ObjId) where
  word_read :
      (address index : ℕ) (r : Made × Machine) → read_of m caller address index ≡ Ok r
      → IsMade m caller (record { authority = authority.Read; object = kind.Frame; address = address })
  unfolding read_of
  word_read address index r e =
      let found = both_done (find kind.Frame m caller address) _ r e in
      let right = both_done (permitted (can_read (badged_of (found.0).1.detail).rights)) _ r found.2 in
      record { found = found.0; finds = found.1; gives = is_permitted (can_read (badged_of (found.0).1.detail).rights) right.0 right.1; plain = refl }

  word_written :
      (address index word : ℕ) (r : Made × Machine) → write_of m caller address index word ≡ Ok r
      → IsMade m caller (record { authority = authority.Write; object = kind.Frame; address = address })
  unfolding write_of
  word_written address index word r e =
      let found = both_done (find kind.Frame m caller address) _ r e in
      let right = both_done (permitted (can_write (badged_of (found.0).1.detail).rights)) _ r found.2 in
      record { found = found.0; finds = found.1; gives = is_permitted (can_write (badged_of (found.0).1.detail).rights) right.0 right.1; plain = refl }

  word_polled :
      (address : ℕ) (r : Made × Machine) → poll_of m caller address ≡ Ok r
      → IsMade m caller (record { authority = authority.Await; object = kind.Notification; address = address })
  unfolding poll_of
  word_polled address r e =
      let found = both_done (find kind.Notification m caller address) _ r e in
      let right = both_done (permitted (can_read (badged_of (found.0).1.detail).rights)) _ r found.2 in
      record { found = found.0; finds = found.1; gives = is_permitted (can_read (badged_of (found.0).1.detail).rights) right.0 right.1; plain = refl }

  word_awaited :
      (address : ℕ) (r : Made × Machine) → wait_of m caller address ≡ Ok r
      → IsMade m caller (record { authority = authority.Await; object = kind.Notification; address = address })
  unfolding wait_of
  word_awaited address r e =
      let found = both_done (find kind.Notification m caller address) _ r e in
      let right = both_done (permitted (can_read (badged_of (found.0).1.detail).rights)) _ r found.2 in
      record { found = found.0; finds = found.1; gives = is_permitted (can_read (badged_of (found.0).1.detail).rights) right.0 right.1; plain = refl }

  message_received :
      (address : ℕ) (reply : Option ℕ) (slot : _) (r : Made × Machine) → receive_of m caller address reply slot ≡ Ok r
      → IsMade m caller (record { authority = authority.Receive; object = kind.Endpoint; address = address })
  unfolding receive_of
  message_received address reply slot r e =
      let found = both_done (find kind.Endpoint m caller address) _ r e in
      let right = both_done (permitted (can_read (badged_of (found.0).1.detail).rights)) _ r found.2 in
      record { found = found.0; finds = found.1; gives = is_permitted (can_read (badged_of (found.0).1.detail).rights) right.0 right.1; plain = refl }

  made_of : (c : Call) (usage : Use) → use_of c ≡ Some usage → (r : Made × Machine) → call_of m caller c ≡ Ok r → IsMade m caller usage
  made_of (call.Read address index) usage is r e = subst (IsMade m caller) (same_Some _ usage is) (word_read address index r e)
  made_of (call.Write address index word) usage is r e = subst (IsMade m caller) (same_Some _ usage is) (word_written address index word r e)
  made_of (call.Poll address) usage is r e = subst (IsMade m caller) (same_Some _ usage is) (word_polled address r e)
  made_of (call.Wait address) usage is r e = subst (IsMade m caller) (same_Some _ usage is) (word_awaited address r e)
  made_of (call.Receive address reply slot) usage is r e = subst (IsMade m caller) (same_Some _ usage is) (message_received address reply slot r e)
  made_of _ usage is r e = absurd (none-some usage is)

-- a step that isn't refused made its call
call_made :
    (m next : Machine) (event : Event) (outcome : Outcome) → Step m event outcome next → ¬ IsRefused outcome
    → (r : Made × Machine) × (call_of m event.thread event.call ≡ Ok r)
unfolding step_of made_by
call_made m next event outcome (lacks without) done = absurd (done (subst IsRefused (sym without.refused) tt))
call_made m next event outcome (ends e) done = by (made_by m event) refl e where
  by :
      (r : Result (Made × Machine) Cause) → made_by m event ≡ r → settled m r ≡ (outcome, next)
      → (r : Made × Machine) × (call_of m event.thread event.call ≡ Ok r)
  by (Ok made) is same =
      let admission = both_done (admitted m event.core event.thread) _ made is in (made, admission.2)
  by (Err cause) is same = absurd (done (subst IsRefused (ap (λ p. p.0) same) tt))

pub never_uses :
    (t : Layout) (allowed : EdgeTest) → UsesRise allowed → (m next : Machine) (event : Event) (outcome : Outcome) → IsSound t allowed m
    → Step m event outcome next → ¬ IsRefused outcome → (a : ℕ) → label_of t m event.thread ≡ Some a → (by : Kind) (l : ℕ) → allowed a by l ≡ false
    → (id : ObjId) → label_of t m id ≡ Some l → ¬ UsesObject m event by id
never_uses t allowed rise m next event outcome sound step done a mine by l none id labelled uses =
    let call = call_made m next event outcome step done in
    let made = made_of m event.thread event.call uses.usage uses.uses call.0 call.1 in
    let same : made.found ≡ (uses.slot, uses.held) = same_ok (sym made.finds ∙ uses.finds) in
    let there = reached t allowed m event a m sound rise event.thread uses.usage.address (made.found).1.object
    (as_kind uses.usage.object (made.found).1.detail) mine (finds uses.usage.object m event.thread uses.usage.address made.found made.finds) in
    let object : (made.found).1.object ≡ id = ap (λ f. f.1.object) same ∙ uses.object in
    let label : there.label ≡ l = same_Some there.label l (sym there.labelled ∙ ap (label_of t m) object ∙ labelled) in
    false≢true (sym none ∙ ap (allowed a by) (sym label)
    ∙ ap (λ k. allowed a k there.label) (sym uses.so) ∙ there.edge uses.usage.authority made.gives made.plain)

-- a label whose threads use an authority has the edge
pub used_edge :
    (t : Layout) (allowed : EdgeTest) → UsesRise allowed → ((m : Machine) → IsReached t m → IsSound t allowed m)
    → (a : ℕ) (by : Kind) (l : ℕ) → IsUsed t a by l → allowed a by l ≡ true
used_edge t allowed rise sound a by l used = is (allowed a by l) refl where
  is : (b : Bool) → allowed a by l ≡ b → allowed a by l ≡ true
  is true has = has
  is false without =
      absurd
      (never_uses t allowed rise used.before used.next used.event used.outcome (sound used.before used.reached) used.step used.done a used.caller by l
      without used.id used.labelled used.uses)
