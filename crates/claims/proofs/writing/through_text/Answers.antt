-- The names follow the first three words, if there are some.
use Rattle.std.{specs.List.join_with_byte, proofs.Common.{[], ℕ, ◌==◌, ◌∙◌, ◌∷◌, ◌≡◌, List, ap, codes}}
use Rattle.std.proofs.{Common.{false, length, map, refl, rules, string_bytes, sym}, lemmas.Bool.false≢true}
use Rattle.{machine.specs.Layout.Layout, captext.specs.PolicyText.label_name, claims.specs.Text.through_words}
use Rattle.claims.proofs.writing.through_text.Goals as goal

with_filters : (t : Layout) (from to : ℕ) (filters : List ℕ) → (length filters == 0) ≡ false
    → through_words t from to filters ≡ codes "through" ∷ label_name t from ∷ label_name t to ∷ map (label_name t) filters
with_filters t from to [] is = absurd (false≢true (sym is))
with_filters t from to (filter ∷ filters) is = refl

pub returns : goal.returns
returns c =
    let t = c.args.table.now in
    let from = label_name t c.args.from in
    let to = label_name t c.args.to in
    let filters = c.args.filters.now in
    let begun : string_bytes c.in_ok-text.text ≡ join_with_byte 32 (codes "through" ∷ from ∷ to ∷ []) = search rules in
    let some : (length filters == 0) ≡ false =
    ap (λ xs. length xs == 0) (sym c.as_slice.ensures) ∙ sym c.is_empty.ensures ∙ c.if-is_empty.false in
    c.in_ok-push_names.ensures (codes "through") (from ∷ to ∷ []) begun
    ∙ ap (join_with_byte 32) (sym (with_filters t c.args.from c.args.to filters some))
