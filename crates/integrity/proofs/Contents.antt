-- Contents that a thread, a notification, a reply and a scheduling context may get in a step: by a change that a label may make, or by
-- one that only shrinks the object.
use Rattle.std.proofs.{Common.{ℕ, ◌+◌, ◌<◌, ◌∙◌, ◌≡◌, ◌⊎◌, List, None, Some, ap, inl, inr, refl, subst, sym, true}, lemmas.Option.none-some}
use Rattle.base.specs.declared.{ids.ObjId.ObjId, kind.Kind.Kind}
use Rattle.machine.specs.declared.{call.Event.Event, object.{Context.Context, Notification.Notification, Object.{Object, Object as o}}}
use Rattle.machine.specs.declared.{object.Reply.Reply, thread.{Lent.Lent, Receiving.Receiving, RunState.RunState as state, Tcb.Tcb}}
use Rattle.machine.specs.{Authority.{context_lent, holds_thread, label_of, links}, Layout.Layout, Machine.{Machine, object_of, queue_of}}
use Rattle.{machine.specs.{Machine.with_object, Step.Reply.loan_in}, policy.specs.{Domain.EdgeTest, Sharp.MayIdle}}
use Rattle.integrity.specs.{Awake.{IsAwake, IsHeldAfterCall, OthersSleep, SleepsOrActs}, Budgets.MayConfigure}
use Rattle.integrity.{specs.{Keeping.IsIdleBorrower, Shrinks.{Lessens, Shrinks}}, proofs.Keeps.{Alters, Changes, Takes}}
use Rattle.integrity.proofs.{Losses.lessened, Shrinking.{same_context, same_reply, same_tcb}, TouchKeeps.Fits}
use Rattle.base.specs.declared.kind.Kind.TheVariants as authority

-- the label may change the object's
pub changed :
    (t : Layout) (allowed : EdgeTest) (began : Machine) (a : ℕ) (m next : Machine) (id : ObjId) (label : ℕ)
    → label_of t m id ≡ Some label → Changes t allowed began a label → Alters t allowed began a m next id
changed t allowed began a m next id label labelled may awake =
    record { label = label; labelled = inl labelled; may = inl (record { actor = awake.actor; way = may awake }) }

-- the label may make the object's smaller, and the object shrinks
pub shrunk :
    (t : Layout) (allowed : EdgeTest) (began : Machine) (a : ℕ) (m next : Machine) (id : ObjId) (label : ℕ)
    → label_of t m id ≡ Some label → Takes t allowed began a label → Shrinks m next id → Alters t allowed began a m next id
shrunk t allowed began a m next id label labelled may shrinks awake =
    record { label = label; labelled = inl labelled; may = inr (record { actor = awake.actor; way = may awake }, shrinks) }

-- the object shrinks, since it only loses links
pub loses_links :
    (t : Layout) (allowed : EdgeTest) (began : Machine) (a : ℕ) (m : Machine) (id : ObjId) (label : ℕ) (old new : Object)
    → label_of t m id ≡ Some label → Takes t allowed began a label → object_of m id ≡ Some old → Lessens old new
    → (threads : List ObjId) → queue_of m id ≡ Some threads → Alters t allowed began a m (with_object m id new) id
loses_links t allowed began a m id label old new labelled take there less threads queue =
    shrunk t allowed began a m (with_object m id new) id label labelled take (lessened m id old new threads there queue less)

module _ (t : Layout) (allowed : EdgeTest) (began : Machine) (event : Event) (a : ℕ) (m : Machine) (id : ObjId) where
  -- a thread stays where it is, each link was there or is in the policy, and what it lent has a number that was given out; its label may
  -- idle if it waits for a message without a context, and so may that of its borrower; and it sleeps, or its label may act
  pub tcb_fits :
      (old new : Tcb) → object_of m id ≡ Some (o.Tcb old) → new.address ≡ old.address
      → ((end : ObjId) (k : Kind) → links (o.Tcb new) k end ≡ true
      → (links (o.Tcb old) k end ≡ true)
      ⊎ ((from to : ℕ) → label_of t m id ≡ Some from → label_of t m end ≡ Some to → allowed from k to ≡ true))
      → ((context : ObjId) → context_lent new.state ≡ Some context → context.0 < m.next)
      → ((receiving : Receiving) → new.state ≡ state.Receiving receiving → new.context ≡ None → (label : ℕ)
      → label_of t m id ≡ Some label → MayIdle allowed label)
      → ((lent : Lent) → loan_in (Some (o.Tcb new)) ≡ Some lent → IsIdleBorrower t allowed m lent)
      → (IsAwake t allowed began a → OthersSleep t allowed m → SleepsOrActs t allowed m id new)
      → Fits t allowed began event a m id (o.Tcb old) (o.Tcb new)
  tcb_fits old new was same within below idles borrows sleeps =
      record {
        was = was;
        kind = refl;
        address = same;
        end = ap (λ n. n + 1024) same;
        links = within;
        lent = λ context thread is lends. below context (ap (λ (x : Tcb). context_lent x.state) (same_tcb new thread is) ∙ lends);
        idles = λ thread receiving is waits none.
            let same = same_tcb new thread is in
            idles receiving (ap (λ (x : Tcb). x.state) same ∙ waits) (ap (λ (x : Tcb). x.context) same ∙ none);
        borrows = borrows;
        sleeps = λ awake others thread is.
            subst (λ (x : Tcb). SleepsOrActs t allowed m id x) (same_tcb new thread is) (sleeps awake others);
        serves = λ awake served reply e. cc;
        share = λ before after e. cc;
      }

  -- a notification stays where it is
  pub notification_fits :
      (old new : Notification) → object_of m id ≡ Some (o.Notification old) → new.address ≡ old.address
      → Fits t allowed began event a m id (o.Notification old) (o.Notification new)
  notification_fits old new was same =
      record {
        was = was;
        kind = refl;
        address = same;
        end = ap (λ n. n + 32) same;
        links = λ end k e. cc;
        lent = λ context thread e lends. cc;
        idles = λ thread receiving e waits none label labelled. cc;
        borrows = λ lent lends. absurd (none-some lent lends);
        sleeps = λ awake others thread e. cc;
        serves = λ awake served reply e. cc;
        share = λ before after e. cc;
      }

  -- a reply stays where it is, and the thread that it holds is one that the policy allows it, and is served if it called
  pub reply_fits :
      (old new : Reply) → object_of m id ≡ Some (o.Reply old) → new.address ≡ old.address
      → ((end : ObjId) (from to : ℕ) → holds_thread new.state end ≡ true → label_of t m id ≡ Some from
      → label_of t m end ≡ Some to → allowed from authority.Holds to ≡ true)
      → (IsAwake t allowed began a → IsHeldAfterCall t allowed m id new)
      → Fits t allowed began event a m id (o.Reply old) (o.Reply new)
  reply_fits old new was same within serves =
      record {
        was = was;
        kind = refl;
        address = same;
        end = ap (λ n. n + 32) same;
        links = held;
        lent = λ context thread e lends. cc;
        idles = λ thread receiving e waits none label labelled. cc;
        borrows = λ lent lends. absurd (none-some lent lends);
        sleeps = λ awake others thread e. cc;
        serves = λ awake served reply is.
            subst (λ (x : Reply). IsHeldAfterCall t allowed m id x) (same_reply new reply is) (serves awake);
        share = λ before after e. cc;
      }
    where
      held :
          (end : ObjId) (k : Kind) → links (o.Reply new) k end ≡ true
          → (links (o.Reply old) k end ≡ true)
          ⊎ ((from to : ℕ) → label_of t m id ≡ Some from → label_of t m end ≡ Some to → allowed from k to ≡ true)
      held end authority.Holds e = inr (λ from to source target. within end from to e source target)
      held end _ e = cc

  -- a scheduling context stays where it is, and is configured as it was, or the event may configure it
  pub context_fits :
      (old new : Context) → object_of m id ≡ Some (o.Context old) → new.address ≡ old.address
      → (new.share ≡ old.share) ⊎ MayConfigure t allowed began event id
      → Fits t allowed began event a m id (o.Context old) (o.Context new)
  context_fits old new was same shared =
      record {
        was = was;
        kind = refl;
        address = same;
        end = ap (λ n. n + 256) same;
        links = λ end k e. cc;
        lent = λ context thread e lends. cc;
        idles = λ thread receiving e waits none label labelled. cc;
        borrows = λ lent lends. absurd (none-some lent lends);
        sleeps = λ awake others thread e. cc;
        serves = λ awake served reply e. cc;
        share = share;
      }
    where
      share :
          (before after : Context) → o.Context old ≡ o.Context before → o.Context new ≡ o.Context after
          → (after.share ≡ before.share) ⊎ MayConfigure t allowed began event id
      share before after one two = elim shared [
        | inl same ↦
            inl
            (ap (λ (c : Context). c.share) (same_context after new (sym two)) ∙ same
            ∙ ap (λ (c : Context). c.share) (same_context old before one))
        | inr may ↦ inr may
      ]
