-- Labels are kept apart by the bounds on steps: an object has one label, before a step or, if it is made, after it.
use Rattle.std.proofs.{Common.{ℕ, ◌∙◌, ◌≡◌, ◌⊎◌, Some, inl, inr, subst, sym}, lemmas.Option.{none-some, same_Some}}
use Rattle.base.specs.declared.ids.ObjId.{ObjId}
use Rattle.machine.specs.{declared.call.Event.Event, Authority.label_of, Layout.Layout, Machine.Machine}
use Rattle.policy.specs.{Change.{ActorTest, MayChange}, Domain.EdgeTest, NarrowTake.MayShrink}
use Rattle.integrity.specs.{Acting.HoldsOfActors, Allowed.IsLabelled, Altered.{IsAltered, IsNarrowStep, MayChangeOrShrink}}
use Rattle.integrity.specs.{Apart.{NeverChanges, OnlyTakes}, Safe.KeepsNarrowBounds, Shrinks.{IsSame, Shrinks}}
use Rattle.integrity.proofs.ObjectLabels.{labelled_there}

one_label :
    (t : Layout) (m next : Machine) (id : ObjId) (one other : ℕ) → IsLabelled t m next id one → IsLabelled t m next id other
    → one ≡ other
one_label t m next id one other (inl was) (inl also) = same_Some one other (sym was ∙ also)
one_label t m next id one other (inl was) (inr made) =
    let there = labelled_there t m id one was in absurd (none-some there.0 (sym made.0 ∙ there.1))
one_label t m next id one other (inr made) (inl was) =
    let there = labelled_there t m id other was in absurd (none-some there.0 (sym made.0 ∙ there.1))
one_label t m next id one other (inr made) (inr also) = same_Some one other (sym made.1 ∙ also.1)

module _ (t : Layout) (allowed : EdgeTest) (acts : ActorTest) (actors : HoldsOfActors t allowed acts) (a l : ℕ) where
  -- a change is within the bounds of the one label on the other
  change_of :
      (m next : Machine) (event : Event) (id : ObjId) → label_of t m event.thread ≡ Some a → IsLabelled t m next id l
      → IsNarrowStep t allowed acts m event next → IsSame m next id ⊎ MayChangeOrShrink allowed acts a l m next id
  change_of m next event id mine labelled bounded = by (bounded id) where
    by :
        IsSame m next id ⊎ IsAltered t allowed acts m next event.thread id
        → IsSame m next id ⊎ MayChangeOrShrink allowed acts a l m next id
    by (inl same) = inl same
    by (inr altered) =
        let who = same_Some altered.caller a (sym altered.calls ∙ mine) in
        let what = one_label t m next id altered.may.label l altered.may.labelled labelled in
        inr
        (subst (λ k. MayChangeOrShrink allowed acts a k m next id) what
        (subst (λ c. MayChangeOrShrink allowed acts c altered.may.label m next id) who altered.may.may))

  pub never_changes : KeepsNarrowBounds t allowed → ¬ MayChange allowed acts a l → ¬ MayShrink allowed acts a l → NeverChanges t a l
  never_changes bounds change shrink m next event outcome reached step mine id labelled =
      by (change_of m next event id mine labelled (bounds acts actors m next event outcome reached step))
    where
      by : IsSame m next id ⊎ MayChangeOrShrink allowed acts a l m next id → IsSame m next id
      by (inl same) = same
      by (inr (inl may)) = absurd (change may)
      by (inr (inr may)) = absurd (shrink may.0)

  pub only_takes : KeepsNarrowBounds t allowed → ¬ MayChange allowed acts a l → OnlyTakes t a l
  only_takes bounds change m next event outcome reached step mine id labelled =
      by (change_of m next event id mine labelled (bounds acts actors m next event outcome reached step))
    where
      by : IsSame m next id ⊎ MayChangeOrShrink allowed acts a l m next id → IsSame m next id ⊎ Shrinks m next id
      by (inl same) = inl same
      by (inr (inl may)) = absurd (change may)
      by (inr (inr may)) = inr may.1
