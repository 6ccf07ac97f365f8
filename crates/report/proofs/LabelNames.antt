-- That the names of a table's labels are copied one after another.
use Rattle.std.{specs.Global.Vec, proofs.Common.{[], ℕ, ◌++◌, ◌+◌, ◌<◌, ◌∙◌, ◌∷◌, ◌≡◌, List, ap, get_or, length, sym, take}}
use Rattle.{std.proofs.lemmas.List.{map_push, take_more}, microkit.specs.LabelView.bytes_of}

pub name_more : (labels : List (List ℕ)) (names : List (Vec ℕ)) (name : Vec ℕ) (i : ℕ) → i < length labels
    → bytes_of names ≡ take i labels → name.items ≡ get_or labels i [] → bytes_of (names ++ name ∷ []) ≡ take (i + 1) labels
name_more labels names name i within so_far is =
    map_push (λ (name : Vec ℕ). name.items) names name
    ∙ ap (λ before. before ++ name.items ∷ []) so_far
    ∙ ap (λ last. take i labels ++ last ∷ []) is
    ∙ sym (take_more labels i [] within)
