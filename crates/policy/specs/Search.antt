-- The search for the first broken rule: what it finds (confine's own).
use Rattle.std.specs.Prelude.{ℕ, ◌<◌, ◌≡◌, List, MatchOption, Option, false, true}
use Rattle.base.specs.{declared.{kind.Kind.Kind, labels.Labels.Labels}, Kinds.kind_number, Labels.is_in}
use Rattle.policy.specs.{declared.broken.Broken.Broken, Broken.{IsBrokenAt, broken_place}, Domain.EdgeTest, Places.{FindsLeast, IsUnder}}

-- the broken rule at the first place that begins with these numbers
abbrev pub FindsBroken : EdgeTest → List ℕ → Option Broken → Type 0
FindsBroken test beginning found = FindsLeast broken_place (IsUnder broken_place (IsBrokenAt test) beginning) found

abbrev pub IsNobody : Labels → Type 0
IsNobody labels = (label : ℕ) → is_in labels label ≡ false

abbrev pub IsLeastIn : Labels → ℕ → Type 0
IsLeastIn labels least = (is_in labels least ≡ true) × ((label : ℕ) → label < least → is_in labels label ≡ false)

-- the least label of the first kind that has any label, of the labels given for each kind
abbrev pub FindsCell : (Kind → Labels → Type 0) → Option (Kind × ℕ) → Type 0
FindsCell gives found =
    MatchOption found ((kind : Kind) → (labels : Labels) × gives kind labels × IsNobody labels)
    (λ cell. ((labels : Labels) × gives cell.0 labels × IsLeastIn labels cell.1)
    × ((kind : Kind) → kind_number kind < kind_number cell.0 → (labels : Labels) × gives kind labels × IsNobody labels))
