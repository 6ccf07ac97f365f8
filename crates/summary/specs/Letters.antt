-- The letters of a matrix cell, each for a kind of ways in which threads of a label may change objects of another (the ways are those of
-- `Change` of crate `policy`; the letters are confine's own).
use Rattle.std.specs.Prelude.{ℕ, ◌≡◌}
use Rattle.base.specs.declared.kind.Kind.{Kind, TheVariants.{Call, Notify, Receive, Reply, Send}}
use Rattle.policy.specs.Change.{ActorTest, MayChangeContext, WayToChange, binds, configures, grants, lends, links, modifies, notifies, own}
use Rattle.{policy.specs.{Change.{receives, replies, returns, sends, shares}, Domain.EdgeTest}, reach.specs.Extents.{Limits, MayChangeIn}}

-- a change by a call or a send, by an answer or by taking a call, by a signal, or by something else
pub data Letter : Type 0 where
  by_call : Letter
  by_answer : Letter
  by_signal : Letter
  by_other : Letter
  unlettered : Letter

-- the letter of a kind of edge that lets a label change the object itself
abbrev pub letter_of : Kind → Letter
letter_of Send = by_call
letter_of Call = by_call
letter_of Receive = by_answer
letter_of Reply = by_answer
letter_of Notify = by_signal
letter_of _ = by_other

-- the letter of a way to change a context: an answer gives back one that the server ran on
abbrev pub context_letter : {test : EdgeTest} {acts : ActorTest} {a l : ℕ} → MayChangeContext test acts a l → Letter
context_letter (configures core used governed) = by_other
context_letter (binds thread used controlled) = by_other
context_letter (lends ran lent) = by_other
context_letter (returns ran borrowed) = by_answer

-- the letter of a way to change objects of another label; a way to change its own objects has none
abbrev pub way_letter : {test : EdgeTest} {acts : ActorTest} {a l : ℕ} → WayToChange test acts a l → Letter
way_letter (own same) = unlettered
way_letter (modifies kind changing there) = letter_of kind
way_letter (shares context) = context_letter context
way_letter (sends endpoint sent received waits) = by_call
way_letter (receives endpoint received sent waits) = by_answer
way_letter (notifies notification notified awaited waits) = by_signal
way_letter (links endpoint receiver sent called received waits named) = by_call
way_letter (grants endpoint receiver granted received waits controlled) = by_other
way_letter (replies answer) = by_answer

-- threads of one label may change objects of another in some way with the letter
abbrev pub HasLetter : Letter → Limits → ℕ → ℕ → Type 0
HasLetter letter limits a l = (may : MayChangeIn limits a l) × (way_letter may.way ≡ letter)
