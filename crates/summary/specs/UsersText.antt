-- The texts on a label's users: the labels that may change it, and the labels that may read it (confine's own).
use Rattle.std.specs.{List.flat_map, Prelude.{[], ℕ, ◌++◌, ◌==◌, ◌∷◌, ◌≡◌, All, List, codes, if◌then◌else◌, map}}
use Rattle.{base.specs.{declared.labels.Labels.Labels, Labels.members_of}, machine.specs.Layout.Layout}
use Rattle.{table.specs.Names.AreLabelsOf, policy.specs.{Domain.EdgeTest, Policy.allows}}
use Rattle.reach.specs.{declared.extent.Extent.{Extent, Extent as extent}, Extents.{GoesTo, Limits, limits_of}, Reach.TableReach}
use Rattle.{captext.specs.PolicyText.label_name, summary.specs.{declared.user_lines.User.User, Sharing.reads_of}}

-- these labels, each with how far it goes with another
pub record AreUsers (limits : Limits) (labels : List ℕ) (object : ℕ) (users : List User) : Type 0 where
  pub are : map (λ user. user.label) users ≡ labels
  pub each : All (λ (user : User). GoesTo limits user.label object user.extent) users

-- the line of a label that goes this far
abbrev pub extent_line : Layout → ℕ → Extent → List ℕ
extent_line t label extent.Full = label_name t label ++ codes " full\n"
extent_line t label extent.Take = label_name t label ++ codes " take\n"
extent_line t label extent.Nothing = []

-- the line of a label with how far it goes with another; none for the label itself
abbrev pub change_line : Layout → ℕ → User → List ℕ
change_line t object user = if user.label == object then [] else extent_line t user.label user.extent

-- the line of a label that reads another; none for the label itself
abbrev pub read_line : Layout → EdgeTest → ℕ → ℕ → List ℕ
read_line t test object label =
    if label == object then [] else if reads_of test label object then label_name t label ++ codes " reads\n" else []

-- lines, or the line `none`
abbrev pub or_none : List ℕ → List ℕ
or_none [] = codes "none\n"
or_none (first ∷ more) = first ∷ more

-- a text has the lines of the labels that may change another, by the reach of a table
pub record IsChangersText (reach : TableReach) (object : ℕ) (text : List ℕ) : Type 0 where
  pub labels : Labels
  pub all : AreLabelsOf reach.table labels
  pub users : List User
  pub are : AreUsers (limits_of reach) (members_of labels) object users
  pub is : text ≡ or_none (flat_map (change_line reach.table object) users)

-- a text has the lines of the labels that may read another, by the reach of a table
pub record IsReadersText (reach : TableReach) (object : ℕ) (text : List ℕ) : Type 0 where
  pub labels : Labels
  pub all : AreLabelsOf reach.table labels
  pub is : text ≡ or_none (flat_map (read_line reach.table (allows reach.policy) object) (members_of labels))
