-- The answer of `why` about all users of a label (confine's own).
use Rattle.std.specs.Prelude.{ℕ, ◌≡◌, List, None, Option, Some}
use Rattle.{machine.specs.Layout.Layout, table.specs.Names.label_named, reach.specs.{Extents.limits_of, Reach.{IsReachOf, TableReach}}}
use Rattle.summary.specs.UsersText.{IsChangersText, IsReadersText}
use Rattle.{commands.specs.declared.{choices.Use.{Use, Use as usage}, end.Asked.{Asked, Asked as asked}}, report.specs.Questions.ReachIsKept}

-- the name asked about, if it is no label
abbrev pub absent_object : Option ℕ → Option Asked
absent_object None = Some asked.Object
absent_object (Some object) = None

abbrev pub unlabelled_object : Layout → List ℕ → Option Asked
unlabelled_object t object = absent_object (label_named t object)

-- a text lists the labels that use one in this way
abbrev pub IsUsersText : Use → TableReach → ℕ → List ℕ → Type 0
IsUsersText usage.Changes = IsChangersText
IsUsersText usage.Reads = IsReadersText

-- a text lists the labels that use a named one in this way by the table's reach, and every run keeps the limits of this reach
pub record TellsUsers (usage : Use) (object : List ℕ) (t : Layout) (text : List ℕ) : Type 0 where
  pub of_object : ℕ
  pub object_named : label_named t object ≡ Some of_object
  pub reach : TableReach
  pub is_reach : IsReachOf t reach
  pub kept : ReachIsKept t (limits_of reach)
  pub told : IsUsersText usage reach of_object text
