-- The effect of a reply that isn't refused: the thread that called through the reply got its lent context back, then the words. Nothing
-- changed if no thread had called.
use Rattle.std.{specs.Prelude.{Ok, Option, Some}, proofs.Common.{ℕ, ◌∙◌, ◌≡◌, ◌⊎◌, List, ap, false, inl, inr, refl, sym}}
use Rattle.base.specs.declared.ids.ObjId.{ObjId}
use Rattle.machine.specs.declared.{call.Made.Made, cap.Detail.Detail as d, object.{Object.{Object, Object as o}, ReplyState.ReplyState}}
use Rattle.machine.specs.{Machine.{Machine, object_of}, Releasing.with_given, Step.{Find.find, Reply.{answered, caller_in, reply_of}}}
use Rattle.{machine.specs.Step.Reply.with_returned, steps.proofs.{Conditions.{both_done, same_ok}, Finding.{FindsObject, finds}}}
use Rattle.machine.specs.declared.object.ObjectKind.TheVariants as kind
use Rattle.machine.specs.declared.object.ReplyState.TheVariants as reply

-- the thread that has called through a reply is answered, if there is one
abbrev pub Answers : Machine → ObjId → ObjId → List ℕ → Machine → Type 0
Answers m invoker id words next =
    ((thread : ObjId) × (at : ℕ)
    × (object_of m id ≡ Some (o.Reply (record { address = at; state = reply.Called thread })))
    × (next
    ≡ with_given (with_returned m invoker thread) thread (record { badge = 0; words = words; capability = false })))
    ⊎ (next ≡ m)

pub record ReplyDone (m : Machine) (caller : ObjId) (address : ℕ) (words : List ℕ) (next : Machine) : Type 0 where
  pub id : ObjId
  pub finds : FindsObject m caller address id d.Reply
  pub changes : Answers m caller id words next

answers :
    (m : Machine) (invoker id : ObjId) (words : List ℕ) (next : Machine) → answered m invoker (caller_in (object_of m id)) words ≡ next
    → Answers m invoker id words next
answers m invoker id words next e = by_content (object_of m id) refl e where
  by_content :
      (content : Option Object) → object_of m id ≡ content → answered m invoker (caller_in content) words ≡ next
      → Answers m invoker id words next
  by_content (Some (o.Reply holding)) is does = by_state holding.state (is ∙ refl) does where
    by_state :
        (run : ReplyState) → object_of m id ≡ Some (o.Reply (record { address = holding.address; state = run }))
        → answered m invoker (caller_in (Some (o.Reply (record { address = holding.address; state = run })))) words ≡ next
        → Answers m invoker id words next
    by_state (reply.Called thread) at does = inl (thread, holding.address, at, sym does)
    by_state _ at does = inr (sym does)
  by_content _ is does = inr (sym does)

pub reply_done :
    (m : Machine) (caller : ObjId) (address : ℕ) (words : List ℕ) (made : Made) (next : Machine)
    → reply_of m caller address words ≡ Ok (made, next) → ReplyDone m caller address words next
unfolding reply_of
reply_done m caller address words made next e =
    let found = both_done (find kind.Reply m caller address) _ (made, next) e in
    record {
      id = (found.0).1.object;
      finds = finds kind.Reply m caller address found.0 found.1;
      changes = answers m caller (found.0).1.object words next (ap (λ p. p.1) (same_ok found.2));
    }
