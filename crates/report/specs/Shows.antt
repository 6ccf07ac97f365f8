-- The answers of `show` to a table and two labels: a run that shows what the one may do to the other (compare the integrity of 'seL4
-- Enforces Integrity', section 4; showing runs is confine's own).
use Rattle.std.specs.{declared.alloc.Global.Global, Prelude.{ℕ, ◌≡◌, ◌≤◌, List, None, Some, Vec, if◌then◌else◌}}
use Rattle.{machine.specs.{declared.call.Event.Event, Layout.Layout}, table.specs.Names.label_named}
use Rattle.reach.specs.{declared.extent.Extent.{Extent, Extent as extent}, Extents.{GoesTo, KeepsTo, limits_of}}
use Rattle.{reach.specs.Reach.{IsReachOf, TableReach}, runs.specs.{declared.question.Question.Question, Shown.AnswersQuestion}}
use Rattle.{evtext.specs.Script.script_text, reptext.specs.Reports.{impossible_data, line_of, unfound_data}}
use Rattle.commands.specs.{declared.{answer.Answer.Answer, choices.Search.Search}, Commands.IsPlain}

-- the question: that a thread of the one label takes from an object of the other, or changes it in another way
abbrev pub question_of : Search → ℕ → ℕ → Question
question_of sought a l = record { actor = a; object = l; taking = sought.takes }

-- the largest number of calls tried: 0 if threads of the one label can only take and no loss is sought
abbrev pub most_calls : Search → Extent → ℕ
most_calls sought extent.Full = sought.steps
most_calls sought extent.Take = if sought.takes then sought.steps else 0
most_calls sought extent.Nothing = 0

pub record TellsScript (script : List Event) (answer : Answer) : Type 0 where
  pub text : answer.text.items ≡ script_text script
  pub status : answer.status ≡ 0
  pub finding : answer.finding ≡ None
  pub made : answer.made ≡ None
  pub of : Vec Event Global
  pub found : answer.script ≡ Some of
  pub items : of.items ≡ script

-- a script whose last call is as the question asks, with status 0; or none was found after this number of calls, with status 1, how far the
-- one label goes with the other, and the number of calls
pub data TellsFound (t : Layout) (question : Question) (bound : Extent) (most : ℕ) (answer : Answer) : Type 0 where
  shown : (script : List Event) → AnswersQuestion t question script → TellsScript script answer → TellsFound t question bound most answer
  unfound : (steps : ℕ) → steps ≤ most → IsPlain (line_of (unfound_data bound steps)) 1 answer → TellsFound t question bound most answer

-- a run that is searched for; or that there can't be one, with status 1, exactly if the reach excludes that the one label does anything to
-- the other
abbrev pub TellsRun : Layout → Question → Extent → ℕ → Answer → Type 0
TellsRun t question extent.Full most = TellsFound t question extent.Full most
TellsRun t question extent.Take most = TellsFound t question extent.Take most
TellsRun t question extent.Nothing most = IsPlain (line_of impossible_data) 1

-- the answer is by how far one label goes with another in the table's reach: no step of any run goes further
pub record ShowsRun (sought : Search) (t : Layout) (a l : ℕ) (answer : Answer) : Type 0 where
  pub reach : TableReach
  pub is_reach : IsReachOf t reach
  pub bound : Extent
  pub goes : GoesTo (limits_of reach) a l bound
  pub kept : KeepsTo t a l bound
  pub told : TellsRun t (question_of sought a l) bound (most_calls sought bound) answer

-- the answer to a request for a run of the labels of these names
pub record AnswersSearch (sought : Search) (actor object : List ℕ) (t : Layout) (answer : Answer) : Type 0 where
  pub of_actor : ℕ
  pub of_object : ℕ
  pub actor_named : label_named t actor ≡ Some of_actor
  pub object_named : label_named t object ≡ Some of_object
  pub shows : ShowsRun sought t of_actor of_object answer
