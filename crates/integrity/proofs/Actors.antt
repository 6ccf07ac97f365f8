-- Labels that may act: only their threads change objects, if all calls of other labels are refused.
use Rattle.std.proofs.Common.{ℕ, ◌≡◌, ◌⊎◌, Some, inl, inr, refl, subst, sym, true}
use Rattle.base.specs.declared.{ids.ObjId.ObjId, kind.Kind.Kind as authority}
use Rattle.machine.specs.{declared.call.{Event.Event, Outcome.Outcome}, Authority.label_of}
use Rattle.machine.specs.{Layout.Layout, Machine.Machine, Outcomes.IsRefused, Step.Step}
use Rattle.{steps.proofs.Steps.refused_changes_nothing, policy.specs.{Domain.EdgeTest, Sharp.UsesRise}}
use Rattle.integrity.specs.{Acting.{MayAct, MayAct.{started, starts}, Starts}, Apart.NeverChanges}
use Rattle.integrity.{specs.{Safe.{IsReached, RefusesOthers}, Shrinks.IsSame}, proofs.Asleep.acts_of}

-- a label controls what a label that it controls controls, if uses rise
pub acts_by_control :
    (t : Layout) (allowed : EdgeTest) → UsesRise allowed → {a : ℕ} → MayAct t allowed a
    → Starts t a ⊎ ((b : ℕ) × Starts t b × (allowed b authority.Control a ≡ true))
acts_by_control t allowed rise (starts from_boot) = inl from_boot
acts_by_control t allowed rise (started {a} {b} acts controls) = by (acts_by_control t allowed rise acts) where
  by :
      Starts t b ⊎ ((c : ℕ) × Starts t c × (allowed c authority.Control b ≡ true))
      → Starts t a ⊎ ((c : ℕ) × Starts t c × (allowed c authority.Control a ≡ true))
  by (inl from_boot) = inr (b, from_boot, controls)
  by (inr above) =
      inr (
        above.0,
        above.1,
        rise above.0 b authority.Control (record { domain = inr above.2; of_use = refl }) a controls,
      )

pub control_acts :
    (t : Layout) (allowed : EdgeTest) (a : ℕ) → Starts t a ⊎ ((b : ℕ) × Starts t b × (allowed b authority.Control a ≡ true))
    → MayAct t allowed a
control_acts t allowed a (inl from_boot) = starts from_boot
control_acts t allowed a (inr above) = started (starts above.1) above.2

refused_same :
    (m next : Machine) (event : Event) (outcome : Outcome) (id : ObjId) → Step m event outcome next → IsRefused outcome
    → IsSame m next id
refused_same m next event outcome id step refused =
    subst (λ (after : Machine). IsSame m after id) (sym (refused_changes_nothing m event outcome next step refused))
    (record { content = refl; queue = refl; words = refl; slots = λ index. refl })

module _ (t : Layout) (allowed : EdgeTest) (refuses : RefusesOthers t allowed) where
  -- a step that changes an object is of a label that may act
  pub change_acts :
      (m next : Machine) (event : Event) (outcome : Outcome) (id : ObjId) → IsReached t m → Step m event outcome next
      → ¬ IsSame m next id → (a : ℕ) × (label_of t m event.thread ≡ Some a) × MayAct t allowed a
  change_acts m next event outcome id reached step differs = by (refuses m next event outcome reached step) where
    by :
        IsRefused outcome ⊎ ((a : ℕ) × (label_of t m event.thread ≡ Some a) × MayAct t allowed a)
        → (a : ℕ) × (label_of t m event.thread ≡ Some a) × MayAct t allowed a
    by (inl refused) = absurd (differs (refused_same m next event outcome id step refused))
    by (inr acts) = acts

  -- each step of a label is refused, or the label may act
  by_label :
      (a : ℕ) (m next : Machine) (event : Event) (outcome : Outcome) → IsReached t m → Step m event outcome next
      → label_of t m event.thread ≡ Some a → IsRefused outcome ⊎ MayAct t allowed a
  by_label a m next event outcome reached step mine = by (refuses m next event outcome reached step) where
    by :
        IsRefused outcome ⊎ ((b : ℕ) × (label_of t m event.thread ≡ Some b) × MayAct t allowed b)
        → IsRefused outcome ⊎ MayAct t allowed a
    by (inl refused) = inl refused
    by (inr acts) = inr (acts_of t allowed m event.thread acts.0 acts.1 acts.2 a mine)

  -- a label that may not act never changes anything
  pub idle_changes_nothing : (a l : ℕ) → ¬ MayAct t allowed a → NeverChanges t a l
  idle_changes_nothing a l idle m next event outcome reached step mine id labelled =
      by (by_label a m next event outcome reached step mine)
    where
      by : IsRefused outcome ⊎ MayAct t allowed a → IsSame m next id
      by (inl refused) = refused_same m next event outcome id step refused
      by (inr acts) = absurd (idle acts)
