-- Parts of a call, and what each keeps; two parts, one after the other, keep it too. The headline needs it of each call.
use Rattle.std.proofs.Common.{ℕ, ◌∙◌, ◌≡◌, ◌≤◌, ◌⊎◌, None, Option, Some, ap, arith, inl, inr, refl, subst, sym}
use Rattle.{std.proofs.lemmas.Option.{none-some, same_Some}, base.specs.declared.ids.ObjId.ObjId}
use Rattle.machine.specs.declared.{call.{Call.TheVariants.Signal, Event.Event}, object.{Context.Context, Object.{Object, Object as o}}}
use Rattle.machine.specs.{Authority.label_of, Layout.Layout, Machine.{Machine, object_of}, Objects.{address_of, kind_of_object}}
use Rattle.policy.specs.{Change.{ActorTest, WayToChange}, Domain.EdgeTest, NarrowTake.WayToShrink}
use Rattle.integrity.specs.{Allowed.IsLabelled, Altered.{MayAlter, MayChangeOrShrink}, Awake.{CallersAreServed, IsAwake, OthersSleep}}
use Rattle.integrity.{specs.{Budgets.MayConfigure, Invariant.IsHeld, Shrinks.IsSame}, proofs.ObjectLabels.{label_stays, labelled_there}}
use Rattle.integrity.proofs.{ObjectLabels.same_label, Shrinking.{same_context, same_same, same_shrinks, shrinks_same, shrinks_shrinks}}
use Rattle.machine.specs.declared.object.ObjectKind.TheVariants as kind

-- an object is as it was, or changed within the bounds of a label, if only some labels act
abbrev pub Acts : Layout → EdgeTest → ActorTest → ℕ → Machine → Machine → ObjId → Type 0
Acts t allowed acts a m next id = IsSame m next id ⊎ MayAlter t allowed acts a m next id

-- the label of a step may alter an object
abbrev pub Alters : Layout → EdgeTest → Machine → ℕ → Machine → Machine → ObjId → Type 0
Alters t allowed began a m next id = (awake : IsAwake t allowed began a) → MayAlter t allowed awake.acts a m next id

-- the label of a step that began at some machine may change objects of another label, or make them smaller

abbrev pub Changes : Layout → EdgeTest → Machine → ℕ → ℕ → Type 0
Changes t allowed began a label = (awake : IsAwake t allowed began a) → WayToChange allowed awake.acts a label

abbrev pub Takes : Layout → EdgeTest → Machine → ℕ → ℕ → Type 0
Takes t allowed began a label = (awake : IsAwake t allowed began a) → WayToShrink allowed awake.acts a label

-- a part of a step of a label's thread, which began at some machine
pub record Keeps (t : Layout) (allowed : EdgeTest) (began : Machine) (event : Event) (a : ℕ) (m next : Machine) : Type 0 where
  pub held : IsHeld t allowed next
  pub acts : (awake : IsAwake t allowed began a) (id : ObjId) → Acts t allowed awake.acts a m next id
  -- an object that is there before and after keeps its kind and its address
  pub stays :
      (id : ObjId) (old new : Object) → object_of m id ≡ Some old → object_of next id ≡ Some new
      → (kind_of_object new ≡ kind_of_object old) × (address_of new ≡ address_of old)
  -- an object that is made gets a number that was free, and numbers are not used again
  pub born : (id : ObjId) (new : Object) → object_of m id ≡ None → object_of next id ≡ Some new → m.next ≤ id.0
  pub grows : m.next ≤ next.next
  -- threads whose labels may not act sleep on, if the step's label may act
  pub sleeps : IsAwake t allowed began a → OthersSleep t allowed m → OthersSleep t allowed next
  -- a caller that a reply holds is served, if the step's label may act
  pub serves : IsAwake t allowed began a → CallersAreServed t allowed m → CallersAreServed t allowed next
  -- a context that is there before and after keeps its core, budget and period, unless the event may configure it
  pub budgets :
      (id : ObjId) (old new : Context) → object_of m id ≡ Some (o.Context old) → object_of next id ≡ Some (o.Context new)
      → (new.share ≡ old.share) ⊎ MayConfigure t allowed began event id

-- an event of a thread, for what is kept whatever the event is
abbrev pub some_event : ObjId → Event
some_event thread = record { core = 0; thread = thread; call = Signal 0 }

pub unchanged :
    (t : Layout) (allowed : EdgeTest) (began : Machine) (event : Event) (a : ℕ) (m : Machine) → IsHeld t allowed m
    → Keeps t allowed began event a m m
unchanged t allowed began event a m held = record {
  held = held;
  acts = λ awake q. inl (record { content = refl; queue = refl; words = refl; slots = λ index. refl });
  stays = λ q old new was is.
      let same = same_Some new old (sym is ∙ was) in (ap kind_of_object same, ap address_of same);
  born = λ q new gone is. absurd (none-some new (sym gone ∙ is));
  grows = omega arith;
  sleeps = λ awake others. others;
  serves = λ awake served. served;
  budgets = λ q old new was is.
      let same = same_Some (o.Context new) (o.Context old) (sym is ∙ was) in
      inl (ap (λ (c : Context). c.share) (same_context new old same));
}

context_by_kind : (object : Object) → kind_of_object object ≡ kind.Context → (context : Context) × (object ≡ o.Context context)
context_by_kind (o.Context context) is = (context, refl)
context_by_kind _ is = cc

may_after :
    (allowed : EdgeTest) (acts : ActorTest) (a label : ℕ) (m mid next : Machine) (id : ObjId) → IsSame m mid id
    → MayChangeOrShrink allowed acts a label mid next id → MayChangeOrShrink allowed acts a label m next id
may_after allowed acts a label m mid next id same (inl change) = inl change
may_after allowed acts a label m mid next id same (inr take) = inr (take.0, same_shrinks m mid next id same take.1)

may_before :
    (allowed : EdgeTest) (acts : ActorTest) (a label : ℕ) (m mid next : Machine) (id : ObjId)
    → MayChangeOrShrink allowed acts a label m mid id → IsSame mid next id → MayChangeOrShrink allowed acts a label m next id
may_before allowed acts a label m mid next id (inl change) same = inl change
may_before allowed acts a label m mid next id (inr take) same = inr (take.0, shrinks_same m mid next id take.1 same)

may_may :
    (allowed : EdgeTest) (acts : ActorTest) (a label other : ℕ) (m mid next : Machine) (id : ObjId) → other ≡ label
    → MayChangeOrShrink allowed acts a label m mid id → MayChangeOrShrink allowed acts a other mid next id
    → MayChangeOrShrink allowed acts a label m next id
may_may allowed acts a label other m mid next id same (inl change) more = inl change
may_may allowed acts a label other m mid next id same (inr take) (inl change) =
    subst (λ l. MayChangeOrShrink allowed acts a l m next id) same (inl change)
may_may allowed acts a label other m mid next id same (inr take) (inr also) =
    inr (take.0, shrinks_shrinks m mid next id take.1 also.1)

module _
    (t : Layout) (allowed : EdgeTest) (began : Machine) (event : Event) (a : ℕ) (m mid next : Machine) (held : IsHeld t allowed m)
    (first : Keeps t allowed began event a m mid) (more : Keeps t allowed began event a mid next) where
  -- an object that was there and went isn't there again
  not_again :
      (id : ObjId) (old new : Object) → object_of m id ≡ Some old → object_of mid id ≡ None → object_of next id ≡ Some new → ⊥
  not_again id old new was gone is =
      let low = held.numbered id old was in
      let high = more.born id new gone is in
      let grows = first.grows in
      omega (arith, low, high, grows)

  -- an object that is there before and after is there between
  between :
      (id : ObjId) (old new : Object) → object_of m id ≡ Some old → object_of next id ≡ Some new
      → (middle : Object) × (object_of mid id ≡ Some middle)
  between id old new was is = by (object_of mid id) refl where
    by : (object : Option Object) → object_of mid id ≡ object → (middle : Object) × (object_of mid id ≡ Some middle)
    by None gone = absurd (not_again id old new was gone is)
    by (Some middle) at = (middle, at)

  label_kept :
      (n after : Machine) (id : ObjId) (label other : ℕ)
      → ((old new : Object) → object_of n id ≡ Some old → object_of after id ≡ Some new
      → (kind_of_object new ≡ kind_of_object old) × (address_of new ≡ address_of old))
      → label_of t n id ≡ Some label → label_of t after id ≡ Some other → other ≡ label
  label_kept n after id label other stays before then =
      let old = labelled_there t n id label before in
      let new = labelled_there t after id other then in
      same_Some other label
      (sym then ∙ label_stays t n after id old.0 new.0 old.1 new.1 (stays old.0 new.0 old.1 new.1).1 ∙ before)

  both_change :
      (acts : ActorTest) (id : ObjId) → (one : MayAlter t allowed acts a m mid id) → (two : MayAlter t allowed acts a mid next id)
      → Acts t allowed acts a m next id
  both_change acts id one two = by one.labelled two.labelled where
    there : IsLabelled t m next id one.label → two.label ≡ one.label → Acts t allowed acts a m next id
    there labelled same = inr (record {
      label = one.label;
      labelled = labelled;
      may = may_may allowed acts a one.label two.label m mid next id same one.may two.may;
    })

    -- made by the first part
    made :
        (object : Option Object) → object_of next id ≡ object → object_of m id ≡ None → label_of t mid id ≡ Some one.label
        → two.label ≡ one.label → Acts t allowed acts a m next id
    made None gone absent label same =
        let before = held.bare id absent in
        let then = more.held.bare id gone in
        inl (record {
          content = gone ∙ sym absent;
          queue = then.queue ∙ sym before.queue;
          words = then.words ∙ sym before.words;
          slots = λ index. then.slots index ∙ sym (before.slots index);
        })
    made (Some new) is absent label same =
        let middle = labelled_there t mid id one.label label in
        let stays = more.stays id middle.0 new middle.1 is in
        there (inr (absent, label_stays t mid next id middle.0 new middle.1 is stays.1 ∙ label)) same

    by : IsLabelled t m mid id one.label → IsLabelled t mid next id two.label → Acts t allowed acts a m next id
    by (inl before) (inl then) = there (inl before) (label_kept m mid id one.label two.label (first.stays id) before then)
    by (inl before) (inr then) =
        let old = labelled_there t m id one.label before in
        let new = labelled_there t next id two.label then.1 in
        absurd (not_again id old.0 new.0 old.1 then.0 new.1)
    by (inr before) (inl then) =
        made (object_of next id) refl before.0 before.1 (same_Some two.label one.label (sym then ∙ before.1))
    by (inr before) (inr then) =
        let middle = labelled_there t mid id one.label before.1 in
        absurd (none-some middle.0 (sym then.0 ∙ middle.1))

  acts_acts :
      (acts : ActorTest) (id : ObjId) → Acts t allowed acts a m mid id → Acts t allowed acts a mid next id
      → Acts t allowed acts a m next id
  acts_acts acts id (inl one) (inl two) = inl (same_same m mid next id one two)
  acts_acts acts id (inl one) (inr two) = inr (record {
    label = two.label;
    labelled = elim two.labelled [ inl then ↦ inl (sym (same_label t m mid id one.content) ∙ then) | inr made ↦ inr (sym one.content ∙ made.0, made.1) ];
    may = may_after allowed acts a two.label m mid next id one two.may;
  })
  acts_acts acts id (inr one) (inl two) = inr (record {
    label = one.label;
    labelled = elim one.labelled [ inl before ↦ inl before | inr made ↦ inr (made.0, same_label t mid next id two.content ∙ made.1) ];
    may = may_before allowed acts a one.label m mid next id one.may two;
  })
  acts_acts acts id (inr one) (inr two) = both_change acts id one two

  budgets_kept :
      (id : ObjId) (old new : Context) → object_of m id ≡ Some (o.Context old) → object_of next id ≡ Some (o.Context new)
      → (new.share ≡ old.share) ⊎ MayConfigure t allowed began event id
  budgets_kept id old new was is =
      let middle = between id (o.Context old) (o.Context new) was is in
      let context = context_by_kind middle.0 (first.stays id (o.Context old) middle.0 was middle.1).0 in
      let at : object_of mid id ≡ Some (o.Context context.0) = middle.1 ∙ ap Some context.1 in
      by context.0 (first.budgets id old context.0 was at) (more.budgets id context.0 new at is)
    where
      by :
          (between : Context) → (between.share ≡ old.share) ⊎ MayConfigure t allowed began event id
          → (new.share ≡ between.share) ⊎ MayConfigure t allowed began event id
          → (new.share ≡ old.share) ⊎ MayConfigure t allowed began event id
      by between (inl one) (inl two) = inl (two ∙ one)
      by between (inr may) two = inr may
      by between one (inr may) = inr may

  pub keeps_keeps : Keeps t allowed began event a m next
  keeps_keeps = record {
    held = more.held;
    acts = λ awake id. acts_acts awake.acts id (first.acts awake id) (more.acts awake id);
    stays = λ id old new was is.
        let middle = between id old new was is in
        let one = first.stays id old middle.0 was middle.1 in
        let two = more.stays id middle.0 new middle.1 is in
        (two.0 ∙ one.0, two.1 ∙ one.1);
    born = λ id new absent is. made id new absent is (object_of mid id) refl;
    grows = let one = first.grows in let two = more.grows in omega (arith, one, two);
    sleeps = λ awake others. more.sleeps awake (first.sleeps awake others);
    serves = λ awake served. more.serves awake (first.serves awake served);
    budgets = budgets_kept;
  } where
    made :
        (id : ObjId) (new : Object) → object_of m id ≡ None → object_of next id ≡ Some new → (object : Option Object)
        → object_of mid id ≡ object → m.next ≤ id.0
    made id new absent is None gone =
        let one = first.grows in
        let two = more.born id new gone is in
        omega (arith, one, two)
    made id new absent is (Some middle) at = first.born id middle absent at
