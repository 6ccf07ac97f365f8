-- The search for the first breach of a claim, label by label (confine's own).
use Rattle.std.specs.Prelude.{ℕ, ◌<◌, ◌≡◌, ◌≢◌, true}
use Rattle.{base.specs.{declared.labels.Labels.Labels, Labels.is_in}, machine.specs.Layout.Layout, reach.specs.Extents.{GoesTo, Limits}}
use Rattle.claims.specs.{declared.{breaches.Breach.Breach, claim.{Claim.Claim, Most.Most}}, Holding.{Bounds, HasAtMost, most_of}}

-- these are the labels on which a label has more authority than this
abbrev pub AreExcess : Limits → ℕ → Most → Labels → Type 0
AreExcess limits a most labels =
    (l : ℕ) → (is_in labels l ≡ true → ¬ HasAtMost limits a l most) × (is_in labels l ≢ true → HasAtMost limits a l most)

-- the first breach of a claim by this label
pub record IsFirstBreachBy (t : Layout) (limits : Limits) (claim : Claim) (a : ℕ) (breach : Breach) : Type 0 where
  pub by : breach.actor ≡ a
  pub bounded : Bounds t claim a breach.object
  pub breaks : ¬ HasAtMost limits a breach.object (most_of claim)
  pub goes_to : GoesTo limits a breach.object breach.extent
  pub first : (l : ℕ) → Bounds t claim a l → l < breach.object → HasAtMost limits a l (most_of claim)

-- the claim has none by this label
abbrev pub HoldsOf : Layout → Limits → Claim → ℕ → Type 0
HoldsOf t limits claim a = (l : ℕ) → Bounds t claim a l → HasAtMost limits a l (most_of claim)
