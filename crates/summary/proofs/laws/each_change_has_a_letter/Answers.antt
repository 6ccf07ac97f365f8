-- That each way to change a label has one of the letters, and that a letter needs a way.
use Rattle.std.proofs.Common.{ℕ, ◌≡◌, inl, inr, true}
use Rattle.reach.specs.Extents.{Limits}
use Rattle.summary.{specs.Letters.{HasLetter, Letter, by_answer, by_call, by_other, by_signal}, proofs.LetterSets.{WaysOf, lettered}}
use Rattle.summary.proofs.laws.each_change_has_a_letter.Goals as goal

by_way : (limits : Limits) (letter : Letter) (a l : ℕ) → limits.acts a ≡ true → WaysOf limits.test limits.acts a l letter → HasLetter letter limits a l
by_way limits letter a l acts w = (record { actor = acts; way = w.0 }, w.1)

pub returns-clause-some : goal.returns-clause-some
returns-clause-some c = λ limits a l apart may. elim (lettered limits.test limits.acts a l may.way apart) [
  | inl (inl w) ↦ inl (inl (by_way limits by_call a l may.actor w))
  | inl (inr w) ↦ inl (inr (by_way limits by_answer a l may.actor w))
  | inr (inl w) ↦ inr (inl (by_way limits by_signal a l may.actor w))
  | inr (inr w) ↦ inr (inr (by_way limits by_other a l may.actor w))
]

pub returns-clause-only : goal.returns-clause-only
returns-clause-only c = λ limits a l letter has. has.0
