use Rattle.std.{specs.{Option.unwrap_or, Prelude.{None, Option, Some, option_and_then, slice_get}}, proofs.Common.{ℕ, ◌∙◌, ◌≡◌, List, ap}}
use Rattle.{std.proofs.{Common.refl, lemmas.Option.unwrap_or-slice_get}, machine.specs.{Machine.words_of, Step.Words.word_in}}
use Rattle.frames.proofs.accesses.word.Goals as goal

word_read : (o : Option (List ℕ)) (index : ℕ) → unwrap_or (option_and_then (λ words. slice_get words index) o) 0 ≡ word_in o index
word_read None index = refl
word_read (Some words) index = unwrap_or-slice_get words index 0

pub returns : goal.returns
returns c =
    c.unwrap_or.ensures ∙ ap (λ (o : Option ℕ). unwrap_or o 0) c.word.ensures
    ∙ word_read (words_of c.args.state.now c.args.id) c.args.index
