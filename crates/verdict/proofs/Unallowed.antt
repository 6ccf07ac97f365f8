-- A signal from a label without authority over the notification's label: it isn't allowed.
use Rattle.std.proofs.Common.{ℕ, ◌∙◌, ◌≡◌, ◌≢◌, ◌⊎◌, None, Ok, Some, arith, false, inl, inr, refl, subst, sym, true}
use Rattle.std.proofs.lemmas.{Bool.false≢true, Option.{none-some, same_Some}}
use Rattle.base.specs.{declared.{ids.ObjId.ObjId, kind.Kind.Kind}, Kinds.is_structural}
use Rattle.machine.specs.declared.call.{Answer.TheVariants.Nothing, Call.TheVariants.Signal, Event.Event, Outcome.TheVariants.Done}
use Rattle.machine.specs.declared.object.{Notification.Notification, Object.{Object, Object as o}, ObjectKind.ObjectKind as kind}
use Rattle.machine.specs.{Authority.label_of, Boot.IsBoot, Changes.{first_waiting, with_pending}, Layout.Layout}
use Rattle.machine.specs.{Machine.{Machine, object_of}, Step.{Find.find, Signal.{signal_of, signalled}, Step, Step.ends, step_of}}
use Rattle.{machine.proofs.LookUps.object_of-with_object, table.proofs.{AtBoot.boot_label, BootState.{boot_state, boot_state_is}}}
use Rattle.policy.specs.{Domain.EdgeTest, Full.{IsFull, IsFull.{grants, links, modifies}}}
use Rattle.policy.specs.Full.{IsFull.{notifies, own, receives, replies, sends}, is_modifying}
use Rattle.integrity.specs.Allowed.{IsAllowedStep, IsLabelled, IsModified, MayModify}
use Rattle.integrity.{specs.Shrinks.{IsSame, Shrinks}, proofs.Gains.word_grows}
use Rattle.verdict.{specs.Counterexamples.UnallowedSignal, proofs.SmallSystem.{finding, id, no_edges, notification}}
use Rattle.verdict.proofs.SmallSystem.{reading, signal_cap, signalling, signalling_lawful, slot, stepping}
use Rattle.base.specs.declared.kind.Kind.TheVariants as authority

-- a change of a notification's word, without full authority

labelled_so :
    (t : Layout) (m next : Machine) (id : ObjId) (object : Object) (label other : ℕ) → object_of m id ≡ Some object
    → label_of t m id ≡ Some label → IsLabelled t m next id other → other ≡ label
labelled_so t m next id object label other was labelled (inl before) = same_Some other label (sym before ∙ labelled)
labelled_so t m next id object label other was labelled (inr made) = absurd (none-some object (sym made.0 ∙ was))

no_authority :
    (allowed : EdgeTest) (caller label : ℕ) (m next : Machine) (id : ObjId) → ¬ IsFull allowed caller label → ¬ Shrinks m next id
    → ¬ MayModify allowed caller label m next id
no_authority allowed caller label m next id not_full grows (inl full) = not_full full
no_authority allowed caller label m next id not_full grows (inr cut) = grows cut.1

pub word_unallowed :
    (t : Layout) (allowed : EdgeTest) (m next : Machine) (event : Event) (id : ObjId) (old new : Notification) (caller label : ℕ)
    → object_of m id ≡ Some (o.Notification old) → object_of next id ≡ Some (o.Notification new) → new.pending ≢ old.pending
    → label_of t m event.thread ≡ Some caller → label_of t m id ≡ Some label
    → ¬ IsFull allowed caller label → ¬ IsAllowedStep t allowed m event next
word_unallowed t allowed m next event id old new caller label was is differ calls labelled not_full every = by (every id) where
  by : IsSame m next id ⊎ IsModified t allowed m next event.thread id → ⊥
  by (inl same) =
      let content : Some (o.Notification new) ≡ Some (o.Notification old) = sym is ∙ same.content ∙ was in
      differ (cc)
  by (inr modified) =
      let who : modified.caller ≡ caller = same_Some modified.caller caller (sym modified.calls ∙ calls) in
      let what : modified.may.label ≡ label =
      labelled_so t m next id (o.Notification old) label modified.may.label was labelled modified.may.labelled in
      let may = subst (λ a. MayModify allowed a modified.may.label m next id) who modified.may.may in
      no_authority allowed caller label m next id not_full (word_grows m next id old new was is differ)
      (subst (λ l. MayModify allowed caller l m next id) what may)

-- structural edges give a label full authority only over its own objects and what it runs on

none_modify :
    (allowed : EdgeTest) (a l : ℕ) → ((k : Kind) (to : ℕ) → is_structural k ≡ false → allowed a k to ≡ false)
    → allowed a authority.Runs l ≡ false → (k : Kind) → is_modifying k ≡ true → allowed a k l ≡ false
none_modify allowed a l lacks idle authority.Space e = absurd (false≢true e)
none_modify allowed a l lacks idle authority.Derive e = absurd (false≢true e)
none_modify allowed a l lacks idle authority.Runs e = idle
none_modify allowed a l lacks idle authority.Holds e = absurd (false≢true e)
none_modify allowed a l lacks idle k e = lacks k l refl

pub structural_not_full :
    (allowed : EdgeTest) (a l : ℕ) → l ≢ a → ((k : Kind) (to : ℕ) → is_structural k ≡ false → allowed a k to ≡ false)
    → allowed a authority.Runs l ≡ false → ¬ IsFull allowed a l
structural_not_full allowed a l other lacks idle (own same) = other same
structural_not_full allowed a l other lacks idle (modifies k modifying e) =
    false≢true (sym (none_modify allowed a l lacks idle k modifying) ∙ e)
structural_not_full allowed a l other lacks idle (sends endpoint e _) = false≢true (sym (lacks authority.Send endpoint refl) ∙ e)
structural_not_full allowed a l other lacks idle (receives endpoint e _) = false≢true (sym (lacks authority.Receive endpoint refl) ∙ e)
structural_not_full allowed a l other lacks idle (notifies end e _) = false≢true (sym (lacks authority.Notify end refl) ∙ e)
structural_not_full allowed a l other lacks idle (links endpoint receiver e _ _) =
    false≢true (sym (lacks authority.Send endpoint refl) ∙ e)
structural_not_full allowed a l other lacks idle (grants endpoint receiver e _ _) =
    false≢true (sym (lacks authority.Grant endpoint refl) ∙ e)
structural_not_full allowed a l other lacks idle (replies reply e _) = false≢true (sym (lacks authority.Reply reply refl) ∙ e)

-- the boot state of the small system, and what a signal does there

pub signal : Event
signal = record { core = 0; thread = id 1; call = Signal 0 }

module _ (m : Machine) (boot : IsBoot signalling m) where
  pub finds : find kind.Notification m (id 1) 0 ≡ Ok (slot 0 0, signal_cap)
  unfolding finding reading signalling
  finds = rw (boot.objects (id 1), boot.caps (slot 1 0), boot.objects (id 0), boot.caps (slot 0 0)) refl

  pub after_signal : Machine
  after_signal = with_pending m (id 2) (Some 1)

  made : step_of m signal ≡ (Done Nothing, after_signal)
  unfolding after_signal first_waiting reading signal signal_of signalled signalling stepping
  made = rw (boot.objects (id 1), boot.objects (id 3), finds, boot.queues (id 2), boot.objects (id 2)) refl

  pub signals : Step m signal (Done Nothing) after_signal
  signals = ends made

  pending : object_of after_signal (id 2) ≡ Some (notification (Some 1))
  unfolding after_signal reading signalling with_pending
  pending = rw (boot.objects (id 2)) (object_of-with_object m (id 2) (notification (Some 1)) (id 2))

  pub caller_label : label_of signalling m (id 1) ≡ Some 0
  unfolding reading signalling
  caller_label = boot_label signalling m boot (id 1)

  pub notification_label : label_of signalling m (id 2) ≡ Some 2
  unfolding reading signalling
  notification_label = boot_label signalling m boot (id 2)

  -- a policy that allows it has an edge from label 0 that isn't structural, or lets it run on what is labelled 2
  pub signal_unallowed :
      (allowed : EdgeTest) → ((k : Kind) (to : ℕ) → is_structural k ≡ false → allowed 0 k to ≡ false)
      → allowed 0 authority.Runs 2 ≡ false → ¬ IsAllowedStep signalling allowed m signal after_signal
  unfolding reading signal signalling
  signal_unallowed allowed lacks idle =
      let old : Notification = record { address = 0x3000; pending = None } in
      let new : Notification = record { address = 0x3000; pending = Some 1 } in
      let not_full = structural_not_full allowed 0 2 (λ same. absurd (omega arith)) lacks idle in
      word_unallowed signalling allowed m after_signal signal (id 2) old new 0 2 (boot.objects (id 2)) pending
      (λ same. cc) caller_label notification_label
      not_full

pub unallowed_signal : UnallowedSignal
unfolding signal
unallowed_signal =
    let m = boot_state signalling in
    let boot = boot_state_is signalling in
    record {
      t = signalling;
      allowed = no_edges;
      m = m;
      next = after_signal m boot;
      event = signal;
      address = 0;
      slot = slot 0 0;
      held = signal_cap;
      caller = 0;
      label = 2;
      lawful = signalling_lawful;
      booted = boot;
      signals = refl;
      found = finds m boot;
      done = signals m boot;
      calls = caller_label m boot;
      labelled = notification_label m boot;
      missing = refl;
      not_allowed = signal_unallowed m boot no_edges (λ k to of_use. refl) refl;
    }
