use Rattle.std.{specs.Option.unwrap_or, proofs.Common.{[], ℕ, ◌++◌, ◌<◌, ◌∙◌, ◌∷◌, ◌≡◌, List, Option, ap, arith, get_or, length}}
use Rattle.std.proofs.{Common.{option_and_then, slice_get, sym}, lemmas.{List.take_more, Option.unwrap_or-slice_get}}
use Rattle.runs.proofs.sight.words.Goals as goal

pub loop-index-preserved : goal.loop-index-preserved
loop-index-preserved c = λ words there long.
    let within : c.loop-index.index < length words = omega (arith, long, c.loop-index-test.true) in
    let read : c.unwrap_or.result ≡ get_or words c.loop-index.index 0 =
    c.unwrap_or.ensures ∙ ap (λ (w : Option ℕ). unwrap_or w 0) c.word.ensures
    ∙ ap (λ (all : Option (List ℕ)). unwrap_or (option_and_then (λ ws. slice_get ws c.loop-index.index) all) 0) there
    ∙ unwrap_or-slice_get words c.loop-index.index 0 in
    c.in_ok-push.ensures.items
    ∙ ap (λ (w : ℕ). c.loop-index.words.items ++ w ∷ []) read
    ∙ ap (λ (ws : List ℕ). ws ++ get_or words c.loop-index.index 0 ∷ []) (c.loop-index.invariant words there long)
    ∙ sym (take_more words c.loop-index.index 0 within)
