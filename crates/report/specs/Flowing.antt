-- The answers of `flows` to a table (confine's own).
use Rattle.std.specs.Prelude.{ℕ, ◌≡◌, List, Some}
use Rattle.{machine.specs.Layout.Layout, table.specs.Names.label_named, reach.specs.Reach.{IsReachOf, TableReach}}
use Rattle.summary.specs.{FlowMatrix.IsFlowMatrix, FlowText.IsFlowText}

-- a text lists what flows from the label of one name to that of another, by the table's reach
pub record TellsFlows (from to : List ℕ) (t : Layout) (text : List ℕ) : Type 0 where
  pub of_from : ℕ
  pub of_to : ℕ
  pub from_named : label_named t from ≡ Some of_from
  pub to_named : label_named t to ≡ Some of_to
  pub reach : TableReach
  pub is_reach : IsReachOf t reach
  pub told : IsFlowText reach of_from of_to text

-- a text is the matrix of the flows between all programs, by the table's reach
pub record TellsAllFlows (t : Layout) (text : List ℕ) : Type 0 where
  pub reach : TableReach
  pub is_reach : IsReachOf t reach
  pub told : IsFlowMatrix reach text
