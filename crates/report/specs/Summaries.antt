-- The answer of `summary` to a table (confine's own).
use Rattle.{std.specs.Prelude.{ℕ, List}, machine.specs.Layout.Layout, reach.specs.{Extents.limits_of, Reach.{IsReachOf, TableReach}}}
use Rattle.{summary.specs.Whole.IsSummary, reptext.specs.Summaries.IsSummaryReport}
use Rattle.{commands.specs.declared.choices.Form.{Form, Form as form}, report.specs.Questions.ReachIsKept}

abbrev pub IsSummaryIn : Form → TableReach → List ℕ → Type 0
IsSummaryIn form.Text reach text = IsSummary reach text
IsSummaryIn form.Json reach text = IsSummaryReport reach text

-- a text is the summary of a table's reach in a form, and every run keeps the limits of this reach
pub record TellsSummary (written : Form) (t : Layout) (text : List ℕ) : Type 0 where
  pub reach : TableReach
  pub is_reach : IsReachOf t reach
  pub kept : ReachIsKept t (limits_of reach)
  pub sums : IsSummaryIn written reach text
