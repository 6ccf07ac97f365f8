-- That all calls are refused but those of a set of labels, if the set holds exactly the labels that may act.
use Rattle.std.proofs.Common.{ℕ, ◌↔◌, ◌≡◌, ◌⊎◌, Some, inl, inr, true}
use Rattle.{base.specs.{declared.labels.Labels.Labels, Labels.is_in}, machine.specs.{Authority.label_of, Layout.Layout, Outcomes.IsRefused}}
use Rattle.{policy.specs.Domain.EdgeTest, integrity.specs.{Acting.MayAct, Safe.RefusesOthers}, verdict.specs.Acting.RefusesAllBut}

pub others_refused :
    (t : Layout) (allowed : EdgeTest) (labels : Labels) → ((a : ℕ) → (is_in labels a ≡ true) ↔ MayAct t allowed a)
    → RefusesOthers t allowed → RefusesAllBut t labels
others_refused t allowed labels acting refuses m next event outcome reached step =
    by (refuses m next event outcome reached step)
  where
    by :
        IsRefused outcome ⊎ ((a : ℕ) × (label_of t m event.thread ≡ Some a) × MayAct t allowed a)
        → IsRefused outcome ⊎ ((a : ℕ) × (label_of t m event.thread ≡ Some a) × (is_in labels a ≡ true))
    by (inl refused) = inl refused
    by (inr acts) = inr (acts.0, acts.1, (acting acts.0).1 acts.2)
