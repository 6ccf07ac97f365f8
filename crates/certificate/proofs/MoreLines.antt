-- Lines that are added item by item: that of the next item comes after those of the items before it.
use Rattle.std.proofs.Common.{[], ℕ, ◌++◌, ◌+◌, ◌<◌, ◌∙◌, ◌∷◌, ◌≡◌, Bool, List, ap, append_assoc, cond, false, filter, get_or, length, map, sym, take}
use Rattle.std.proofs.{Common.{append-nil, true}, lemmas.List.{map-append, take_more, Elements.filter-append}}
use Rattle.certificate.specs.declared.line.Line.{Line}

-- what lines there are once those of more items come after them
grown : {X : Type 0} (line : X → Line) (old : List Line) (kept more : List X) (before now : List Line)
    → before ≡ old ++ map line kept → now ≡ before ++ map line more → now ≡ old ++ map line (kept ++ more)
grown line old kept more before now was is =
    is ∙ ap (λ lines. lines ++ map line more) was ∙ append_assoc old (map line kept) (map line more)
    ∙ ap (λ lines. old ++ lines) (sym (map-append line kept more))

pub one_more : {X : Type 0} (line : X → Line) (xs : List X) (i : ℕ) (x : X) (old before now : List Line) → i < length xs
    → before ≡ old ++ map line (take i xs) → now ≡ before ++ line (get_or xs i x) ∷ [] → now ≡ old ++ map line (take (i + 1) xs)
one_more line xs i x old before now within was is =
    grown line old (take i xs) (get_or xs i x ∷ []) before now was is ∙ ap (λ items. old ++ map line items) (sym (take_more xs i x within))

-- only items that pass a test have a line
module _ {X : Type 0} (line : X → Line) (keep : X → Bool) (xs : List X) (i : ℕ) (x : X) (old before : List Line) (within : i < length xs)
    (was : before ≡ old ++ map line (filter keep (take i xs))) where
  more : (now : List Line) → now ≡ before ++ map line (filter keep (get_or xs i x ∷ [])) → now ≡ old ++ map line (filter keep (take (i + 1) xs))
  more now is =
      grown line old (filter keep (take i xs)) (filter keep (get_or xs i x ∷ [])) before now was is
      ∙ ap (λ items. old ++ map line items) (sym (filter-append keep (take i xs) (get_or xs i x ∷ [])) ∙ ap (filter keep) (sym (take_more xs i x within)))

  pub one_more_kept : (now : List Line) → keep (get_or xs i x) ≡ true → now ≡ before ++ line (get_or xs i x) ∷ []
      → now ≡ old ++ map line (filter keep (take (i + 1) xs))
  one_more_kept now kept is = more now (is ∙ ap (λ test. before ++ map line (cond test (get_or xs i x ∷ []) [])) (sym kept))

  pub none_more : (now : List Line) → keep (get_or xs i x) ≡ false → now ≡ before → now ≡ old ++ map line (filter keep (take (i + 1) xs))
  none_more now dropped is =
      more now (is ∙ sym (append-nil before) ∙ ap (λ test. before ++ map line (cond test (get_or xs i x ∷ []) [])) (sym dropped))
