-- The answer of `diff` to two tables (confine's own).
use Rattle.std.specs.{List.list_any, Prelude.{ℕ, List, if◌then◌else◌}}
use Rattle.{machine.specs.Layout.Layout, reach.specs.Reach.{IsReachOf, TableReach}}
use Rattle.diff.specs.{declared.change.Change.Change, Changes.{AreChanges, adds}, Text.changes_text}
use Rattle.reptext.specs.{Differences.changes_data, Reports.line_of}
use Rattle.commands.specs.{declared.{answer.Answer.Answer, choices.Form.{Form, Form as form}}, Commands.IsPlain}

-- the exit status: 1 if a change adds authority
abbrev pub change_status : List Change → ℕ
change_status changed = if list_any adds changed then 1 else 0

-- the text on changes, in a form
abbrev pub changes_told : Form → Layout → Layout → List Change → List ℕ
changes_told form.Text old new changed = changes_text old new changed
changes_told form.Json old new changed = line_of (changes_data old new changed)

-- the answer lists the changes from the reach of one table to that of another
pub record Compares (written : Form) (old new : Layout) (answer : Answer) : Type 0 where
  pub old_reach : TableReach
  pub new_reach : TableReach
  pub is_old : IsReachOf old old_reach
  pub is_new : IsReachOf new new_reach
  pub changed : List Change
  pub are : AreChanges old_reach new_reach changed
  pub told : IsPlain (changes_told written old new changed) (change_status changed) answer
