-- Calls that read, write, fetch, poll, wait, signal, configure and unbind end alike in two machines that are alike to their label.
use Rattle.std.proofs.Common.{ℕ, ◌∙◌, ◌≡◌, None, Ok, Option, Some, ap, false, option_map, refl, subst, sym, true, unwrap_or}
use Rattle.base.specs.{declared.{ids.{ObjId.ObjId, SlotRef.SlotRef}, kind.Kind.{Kind, Kind as authority}}, Kinds.is_structural}
use Rattle.machine.specs.declared.{call.{Answer.Answer as answer, Made.TheVariants.Done}, cap.Cap.Cap}
use Rattle.machine.specs.declared.object.{Control.Control, Object.{Object, Object as o}, ObjectKind.{ObjectKind, ObjectKind as kind}}
use Rattle.machine.specs.{declared.{object.Share.Share, thread.RunState.RunState as state}, Authority.label_of}
use Rattle.machine.specs.{Capabilities.{badged_of, can_read, can_write, gives, kind_of_detail}, Changes.with_pending, Layout.Layout}
use Rattle.machine.specs.{Machine.{Machine, object_of}, Objects.kind_of_object, Step.Bind.{thread_on, unbind_of, without_thread}}
use Rattle.machine.specs.Step.{Configure.{configure_of, core_in, in_limits, with_share}, Fetch.{fetch_of, fetched_in}}
use Rattle.machine.specs.Step.{Find.{find, permitted}, Poll.poll_of, Signal.{pending_in, signal_of}, Wait.{taken_or_awaited, wait_of}}
use Rattle.machine.specs.{Step.Words.{in_frame, read_of, word_in, write_of}, WellFormed.{IsThread, kind_of}}
use Rattle.steps.proofs.{Admission.IsCaller, Finding.{as_kind, finds, found_kind, is_permitted}}
use Rattle.{steps.proofs.FoundObjects.{context_of_kind, notification_of_kind}, policy.specs.{Change.ActorTest, Domain.EdgeTest}}
use Rattle.integrity.{specs.Shrinks.IsSame, proofs.{Keeps.some_event, MessageParts.{IsReached, reached}, ObjectLabels.kind_there}}
use Rattle.flows.specs.Seeing.{WayToSee, WayToSee.{awaits, reads}}
use Rattle.noninterference.{specs.Alike.KeepsAlike, proofs.Both.{AreBoth, own_same, same_find, seen_same}}
use Rattle.noninterference.proofs.Carries.{Carries, blocked_carries, emptied_carries, pending_carries, share_carries, word_carries}
use Rattle.noninterference.proofs.{Ends.{AreMadeAlike, EndsAlike, follows_alike}, Signalling.signal_carries, Unbinding.unbinding_carries}

control_of_kind :
    (object : Option Object) → option_map kind_of_object object ≡ Some kind.Control → (control : Control) × (object ≡ Some (o.Control control))
control_of_kind (Some (o.Control control)) e = (control, refl)
control_of_kind _ e = cc

-- an object that is the same in both stays so
pub carried : (m n next after : Machine) → Carries m n next after → KeepsAlike m n next after
carried m n next after carries id alike = carries id alike.same

module _
    (t : Layout) (allowed : EdgeTest) (acts : ActorTest) (a : ℕ) (m n : Machine) (both : AreBoth t allowed acts a m n) (caller : ObjId)
    (mine : label_of t m caller ≡ Some a) where
  -- the label has what a found capability gives over its object's
  pub to_found :
      (wanted : ObjectKind) (address : ℕ) (found : SlotRef × Cap) → find wanted m caller address ≡ Ok found
      → IsReached t allowed m (some_event caller) a m both.one found.1.object (as_kind wanted found.1.detail)
  to_found wanted address found e =
      reached t allowed m (some_event caller) a m both.one both.rise caller address found.1.object (as_kind wanted found.1.detail) mine
      (finds wanted m caller address found e)

  -- it sees an object by each kind of use by which labels see
  pub found_same :
      (k : Kind) (wanted : ObjectKind) (address : ℕ) (found : SlotRef × Cap) → find wanted m caller address ≡ Ok found
      → gives (as_kind wanted found.1.detail) k ≡ true → is_structural k ≡ false
      → ((label : ℕ) → allowed a k label ≡ true → WayToSee allowed acts a label) → IsSame m n found.1.object
  found_same k wanted address found e given plain way =
      let to = to_found wanted address found e in
      seen_same t allowed acts a m n both found.1.object to.label to.labelled (way to.label (to.edge k given plain))

  -- what it finds is there in both, of the kind that the call takes

  pub found_there :
      (wanted : ObjectKind) (address : ℕ) (found : SlotRef × Cap) → find wanted m caller address ≡ Ok found
      → kind_of m found.1.object ≡ Some (kind_of_detail (as_kind wanted found.1.detail))
  found_there wanted address found e = found_kind both.one.well_formed (finds wanted m caller address found e)

  pub found_too :
      (wanted : ObjectKind) (address : ℕ) (found : SlotRef × Cap) → find wanted m caller address ≡ Ok found
      → kind_of n found.1.object ≡ Some (kind_of_detail (as_kind wanted found.1.detail))
  found_too wanted address found e = both.kinds found.1.object ∙ found_there wanted address found e

  pub read_alike : (address index : ℕ) → EndsAlike m n (read_of m caller address index) (read_of n caller address index)
  unfolding read_of
  read_alike address index =
      follows_alike m n _ _ _ _ (same_find t allowed acts a m n both kind.Frame caller address)
      (λ found e.
      follows_alike m n (permitted (can_read (badged_of found.1.detail).rights)) _ _ _ refl
      (λ u right.
      follows_alike m n (in_frame index) _ _ _ refl
      (λ v within.
      let same =
      found_same authority.Read kind.Frame address found e (is_permitted (can_read (badged_of found.1.detail).rights) u right) refl
      (λ label edge. reads edge) in
      (ap (λ words. Done (answer.Word (word_in words index))) same.words, λ q alike. alike.same))))

  pub write_alike : (address index word : ℕ) → EndsAlike m n (write_of m caller address index word) (write_of n caller address index word)
  unfolding write_of
  write_alike address index word =
      follows_alike m n _ _ _ _ (same_find t allowed acts a m n both kind.Frame caller address)
      (λ found e.
      follows_alike m n (permitted (can_write (badged_of found.1.detail).rights)) _ _ _ refl
      (λ u right.
      follows_alike m n (in_frame index) _ _ _ refl
      (λ v within.
      let one = kind_there m found.1.object kind.Frame (found_there kind.Frame address found e) in
      let other = kind_there n found.1.object kind.Frame (found_too kind.Frame address found e) in
      let words = both.one.well_formed.parts.words found.1.object one.0 one.1 in
      let others = both.other.well_formed.parts.words found.1.object other.0 other.1 in
      (refl, carried m n _ _ (word_carries m n found.1.object words.0 others.0 index word words.1 others.1)))))

  module _ (is : IsCaller m caller) where
    -- the thread that makes the call is the same in both
    pub caller_too : IsThread n caller is.thread
    caller_too = (own_same t allowed acts a m n both caller mine).content ∙ is.there

    pub fetch_alike : EndsAlike m n (fetch_of m caller) (fetch_of n caller)
    unfolding fetch_of
    fetch_alike =
        follows_alike m n _ _ _ _ (ap fetched_in (own_same t allowed acts a m n both caller mine).content)
        (λ given e. (refl, carried m n _ _ (emptied_carries m n caller is.thread is.there caller_too)))

    -- a notification that is polled or waited for
    module _ (address : ℕ) (found : SlotRef × Cap) (e : find kind.Notification m caller address ≡ Ok found)
        (u : Unit {0}) (right : permitted (can_read (badged_of found.1.detail).rights) ≡ Ok u) where
      polled : IsSame m n found.1.object
      polled =
          found_same authority.Await kind.Notification address found e
          (is_permitted (can_read (badged_of found.1.detail).rights) u right) refl (λ label edge. awaits edge)

      taken : KeepsAlike m n (with_pending m found.1.object None) (with_pending n found.1.object None)
      taken =
          let old = notification_of_kind (object_of m found.1.object) (found_there kind.Notification address found e) in
          carried m n _ _ (pending_carries m n found.1.object old.0 old.0 None None old.1 (polled.content ∙ old.1) (λ same. refl))

      awaited : (word : Option ℕ) → AreMadeAlike m n (taken_or_awaited m caller found.1.object word) (taken_or_awaited n caller found.1.object word)
      awaited (Some word) = (refl, taken)
      awaited None =
          let old = notification_of_kind (object_of m found.1.object) (found_there kind.Notification address found e) in
          let queue = both.one.well_formed.parts.queue found.1.object (o.Notification old.0) old.1 in (
            refl,
            carried m n _ _
                (blocked_carries m n caller found.1.object is.thread is.thread (state.Waiting found.1.object) queue.0 queue.0 is.there caller_too
                queue.1 (polled.queue ∙ queue.1) refl),
          )

    pub poll_alike : (address : ℕ) → EndsAlike m n (poll_of m caller address) (poll_of n caller address)
    unfolding poll_of
    poll_alike address =
        follows_alike m n _ _ _ _ (same_find t allowed acts a m n both kind.Notification caller address)
        (λ found e.
        follows_alike m n (permitted (can_read (badged_of found.1.detail).rights)) _ _ _ refl
        (λ u right.
        (ap (λ object. Done (answer.Word (unwrap_or (pending_in object) 0))) (polled address found e u right).content, taken address found e u right)))

    pub wait_alike : (address : ℕ) → EndsAlike m n (wait_of m caller address) (wait_of n caller address)
    unfolding wait_of
    wait_alike address =
        follows_alike m n _ _ _ _ (same_find t allowed acts a m n both kind.Notification caller address)
        (λ found e.
        follows_alike m n (permitted (can_read (badged_of found.1.detail).rights)) _ _ _ refl
        (λ u right.
        subst
        (λ (word : Option ℕ).
        AreMadeAlike m n (taken_or_awaited m caller found.1.object (pending_in (object_of m found.1.object)))
        (taken_or_awaited n caller found.1.object word))
        (sym (ap pending_in (polled address found e u right).content))
        (awaited address found e u right (pending_in (object_of m found.1.object)))))

  pub configure_alike :
      (control address budget period : ℕ)
      → EndsAlike m n (configure_of m caller control address budget period) (configure_of n caller control address budget period)
  unfolding configure_of
  configure_alike control address budget period =
      follows_alike m n _ _ _ _ (same_find t allowed acts a m n both kind.Control caller control)
      (λ governs e.
      follows_alike m n _ _ _ _ (same_find t allowed acts a m n both kind.Context caller address)
      (λ found f.
      follows_alike m n (in_limits budget period) _ _ _ refl
      (λ u within.
      let there = control_of_kind (object_of m governs.1.object) (found_there kind.Control control governs e) in
      let core : object_of n governs.1.object ≡ object_of m governs.1.object =
      both.stills governs.1.object (o.Control there.0) there.1 tt ∙ sym there.1 in
      let old = context_of_kind (object_of m found.1.object) (found_there kind.Context address found f) in
      let was = context_of_kind (object_of n found.1.object) (found_too kind.Context address found f) in
      let share : Share = record { core = core_in (object_of m governs.1.object); budget = budget; period = period } in (
        refl,
        subst
            (λ (object : Option Object).
            KeepsAlike m n (with_share m found.1.object share)
            (with_share n found.1.object (record { core = core_in object; budget = budget; period = period })))
            (sym core) (carried m n _ _ (share_carries m n found.1.object old.0 was.0 share old.1 was.1)),
      ))))

  pub unbind_alike : (address : ℕ) → EndsAlike m n (unbind_of m caller address) (unbind_of n caller address)
  unfolding unbind_of
  unbind_alike address =
      follows_alike m n _ _ _ _ (same_find t allowed acts a m n both kind.Context caller address)
      (λ found f.
      let old = context_of_kind (object_of m found.1.object) (found_there kind.Context address found f) in
      let was = context_of_kind (object_of n found.1.object) (found_too kind.Context address found f) in (
        refl,
        subst (λ (object : Option Object). KeepsAlike m n (without_thread m (thread_on (object_of m found.1.object))) (without_thread n (thread_on object)))
            (sym was.1)
            (subst (λ (object : Option Object). KeepsAlike m n (without_thread m (thread_on object)) (without_thread n was.0.thread)) (sym old.1)
            (carried m n _ _
            (unbinding_carries m n found.1.object old.0 was.0 both.one.well_formed.links both.other.well_formed.links old.1 was.1))),
      ))

  pub signal_alike : (address : ℕ) → EndsAlike m n (signal_of m caller address) (signal_of n caller address)
  unfolding signal_of
  signal_alike address =
      follows_alike m n _ _ _ _ (same_find t allowed acts a m n both kind.Notification caller address)
      (λ found e.
      follows_alike m n (permitted (can_write (badged_of found.1.detail).rights)) _ _ _ refl
      (λ u right.
      let old = notification_of_kind (object_of m found.1.object) (found_there kind.Notification address found e) in
      let was = notification_of_kind (object_of n found.1.object) (found_too kind.Notification address found e) in (
        refl,
        signal_carries m n found.1.object (badged_of found.1.detail).badge both.one.well_formed both.other.well_formed old.0 was.0 old.1 was.1,
      )))
