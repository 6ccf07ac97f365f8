-- A reply ends alike in two machines that are alike to its label: the reply object holds the same thread in both.
use Rattle.std.{specs.Prelude.{None, Ok, Option, Some, if◌then◌else◌}, proofs.Common.{ℕ, ◌∙◌, ◌≡◌, Bool, List, ap}}
use Rattle.std.proofs.{Common.{false, option_map, refl, subst, sym, true}, lemmas.Option.{none-some, same_Some}}
use Rattle.base.specs.declared.{ids.{ObjId.ObjId, SlotRef.SlotRef}, kind.Kind.Kind as authority}
use Rattle.machine.specs.declared.{cap.Cap.Cap, object.{Object.{Object, Object as o}, ObjectKind.ObjectKind as kind, ReplyState.ReplyState}}
use Rattle.machine.specs.{declared.thread.{Message.Message, RunState.{RunState, RunState as state}, Tcb.Tcb}, Authority.label_of}
use Rattle.machine.specs.{Layout.Layout, Machine.{Machine, object_of}, Objects.kind_of_object, Releasing.{given, with_given}}
use Rattle.machine.specs.Step.{Bind.{context_under, with_handed}, Find.find, Reply.{answered, caller_in, gives_back, has_on_loan}}
use Rattle.machine.{specs.{Step.Reply.{loan_in, reply_of, with_returned}, WellFormed.{IsCallingThrough, IsThread}}, proofs.Ids.itself}
use Rattle.steps.proofs.{Admission.IsCaller, Lending.{returned_formed, returned_there}}
use Rattle.policy.specs.{Change.{ActorTest, MayHoldCaller}, Domain.EdgeTest}
use Rattle.integrity.{specs.{Awake.IsServed, Shrinks.{IsBlocked, IsSame}}, proofs.{Keeps.some_event, MessageParts.holds_edge}}
use Rattle.flows.specs.Seeing.WayToSee.{callers, replies}
use Rattle.noninterference.{specs.Alike.KeepsAlike, proofs.{Both.{AreBoth, own_same, same_find, seen_same}, Carries.Carries}}
use Rattle.noninterference.proofs.{Carries.{carries_along, released_carries}, Ends.{EndsAlike, follows_alike}, Handing.carries_itself}
use Rattle.noninterference.proofs.{Handing.handed_carries, Rows.{caller_too, carried, found_same, to_found}, Waiters.blocked_acting}
use Rattle.machine.specs.declared.object.ReplyState.TheVariants as reply

calling_blocked : (run : RunState) (id : ObjId) → IsCallingThrough run id → IsBlocked run
calling_blocked (state.Called _) id calls = tt
calling_blocked _ id calls = absurd calls

-- the thread that has called through a reply
called_in :
    (object : Option Object) (called : ObjId) → caller_in object ≡ Some called
    → (at : ℕ) × (object ≡ Some (o.Reply (record { address = at; state = reply.Called called })))
called_in (Some (o.Reply answers)) called e = by_state answers.state refl e where
  by_state :
      (run : ReplyState) → answers.state ≡ run → caller_in (Some (o.Reply (record answers { state = run }))) ≡ Some called
      → (at : ℕ) × (Some (o.Reply answers) ≡ Some (o.Reply (record { address = at; state = reply.Called called })))
  by_state (reply.Called thread) is f =
      (answers.address, ap (λ (run : ReplyState). Some (o.Reply (record answers { state = run }))) (is ∙ ap reply.Called (same_Some thread called f)))
  by_state (reply.Waiting thread) is f = absurd (none-some called f)
  by_state reply.Free is f = absurd (none-some called f)
called_in None called e = absurd (none-some called e)
called_in (Some _) called e = absurd (none-some called e)

module _
    (t : Layout) (allowed : EdgeTest) (acts : ActorTest) (a : ℕ) (m n : Machine) (both : AreBoth t allowed acts a m n) (caller : ObjId)
    (mine : label_of t m caller ≡ Some a) (is : IsCaller m caller) where
  here : IsThread n caller is.thread
  here = caller_too t allowed acts a m n both caller mine is

  -- a reply through which the caller answers
  module _ (address : ℕ) (found : SlotRef × Cap) (e : find kind.Reply m caller address ≡ Ok found) where
    abbrev used : ObjId
    used = found.1.object

    pub used_same : IsSame m n used
    used_same = found_same t allowed acts a m n both caller mine authority.Reply kind.Reply address found e refl refl (λ l edge. replies edge)

    -- the thread that it holds is the same in both
    module _ (called : ObjId) (at : ℕ) (there : object_of m used ≡ Some (o.Reply (record { address = at; state = reply.Called called }))) where
      waiting : (tcb : Tcb) × IsThread m called tcb × IsCallingThrough tcb.state used
      waiting = both.one.well_formed.links.reply_called used called at there

      called_same : IsSame m n called
      called_same =
          let to = to_found t allowed acts a m n both caller mine kind.Reply address found e in
          let l = both.one.of_table.labelled called (o.Tcb waiting.0) waiting.1 in
          let served : IsServed t allowed to.label l.0 =
          (both.kept.served used (record { address = at; state = reply.Called called }) there called refl).1 to.label l.0 to.labelled l.1 in
          let held : MayHoldCaller allowed acts to.label l.0 = record {
            holds =
                holds_edge t allowed m (some_event caller) a m both.one used called (record { address = at; state = reply.Called called })
                to.label l.0 there (itself called) to.labelled l.1;
            server = served.server;
            names = served.names;
            serves = both.actors served.server served.serves served.threads;
            endpoint = served.endpoint;
            receives = served.receives;
            calls = served.calls;
            waits =
                blocked_acting t allowed acts a m n both m both.one both.kept called waiting.0 waiting.1 (calling_blocked waiting.0.state used waiting.2) l.0 l.1;
          } in
          seen_same t allowed acts a m n both called l.0 l.1
          (callers (record { reply = to.label; uses = to.edge authority.Reply refl refl; called = held }))

      called_here : IsThread n called waiting.0
      called_here = called_same.content ∙ waiting.1

      back_same : gives_back n caller called ≡ gives_back m caller called
      back_same =
          let mine_now = (own_same t allowed acts a m n both caller mine).content in
          let its_now = called_same.content in
          λ i. has_on_loan caller (context_under (mine_now i)) (loan_in (its_now i)) (context_under (its_now i))

      returned_carries : Carries m n (with_returned m caller called) (with_returned n caller called)
      returned_carries =
          subst (λ (test : Bool). Carries m n (with_returned m caller called) (if test then with_handed n caller called else n)) (sym back_same)
          (by_test (gives_back m caller called))
        where
          by_test :
              (test : Bool)
              → Carries m n (if test then with_handed m caller called else m) (if test then with_handed n caller called else n)
          by_test false = carries_itself m n
          by_test true =
              handed_carries m n caller called is.thread both.one.well_formed.links both.other.well_formed.links is.there here
              (ap (option_map kind_of_object) waiting.1) (ap (option_map kind_of_object) called_here)

      answered_carries :
          (message : Message)
          → Carries m n (with_given (with_returned m caller called) called message) (with_given (with_returned n caller called) called message)
      answered_carries message =
          let one = returned_there m caller called waiting.0 both.one.well_formed waiting.1 in
          let other = returned_there n caller called waiting.0 both.other.well_formed called_here in
          carries_along m n (with_returned m caller called) (with_returned n caller called) _ _ returned_carries
          (released_carries (with_returned m caller called) (with_returned n caller called) called
          (record waiting.0 { context = one.0 }) (record waiting.0 { context = other.0 }) (given message)
          (returned_formed m caller called both.one.well_formed).links (returned_formed n caller called both.other.well_formed).links
          one.1 other.1)

  pub reply_alike : (address : ℕ) (words : List ℕ) → EndsAlike m n (reply_of m caller address words) (reply_of n caller address words)
  unfolding reply_of
  reply_alike address words =
      follows_alike m n _ _ _ _ (same_find t allowed acts a m n both kind.Reply caller address)
      (λ found e. (
        refl,
        subst
            (λ (object : Option Object).
            KeepsAlike m n (answered m caller (caller_in (object_of m found.1.object)) words) (answered n caller (caller_in object) words))
            (sym (used_same address found e).content)
            (by_called found e (caller_in (object_of m found.1.object)) refl),
      ))
    where
      by_called :
          (found : SlotRef × Cap) → find kind.Reply m caller address ≡ Ok found → (called : Option ObjId)
          → caller_in (object_of m found.1.object) ≡ called
          → KeepsAlike m n (answered m caller called words) (answered n caller called words)
      by_called found e None f = carried m n _ _ (carries_itself m n)
      by_called found e (Some called) f =
          let at = called_in (object_of m found.1.object) called f in
          carried m n _ _ (answered_carries address found e called at.0 at.1 (record { badge = 0; words = words; capability = false }))
