-- Rows of labels, one for each label, made row by row.
use Rattle.std.proofs.Common.{[], ℕ, ◌++◌, ◌+◌, ◌<◌, ◌↔◌, ◌∙◌, ◌∷◌, ◌≡◌, List, ap, arith, inl, inr, length, subst, sym, true}
use Rattle.std.proofs.lemmas.{Bool.cases_order, List.{get_or_append_left, get_or_push, length_push}}
use Rattle.{base.specs.{declared.labels.Labels.Labels, Labels.{is_in, no_labels}}, flows.specs.Rows.{RelateSo, row_at}}

module _ (Related : ℕ → ℕ → Type 0) where
  -- a row has the labels to which a label is related
  abbrev pub IsRowOf : Labels → ℕ → Type 0
  IsRowOf row a = (l : ℕ) → (is_in row l ≡ true) ↔ Related a l

  -- the labels below a number have their rows
  pub record AreRowsBelow (rows : List Labels) (n : ℕ) : Type 0 where
    pub count : length rows ≡ n
    pub each : (a : ℕ) → a < n → IsRowOf (row_at rows a) a

  pub row_more : (rows : List Labels) (n : ℕ) (row : Labels) → AreRowsBelow rows n → IsRowOf row n → AreRowsBelow (rows ++ row ∷ []) (n + 1)
  row_more rows n row are is = record {
    count = length_push rows row ∙ ap (λ k. k + 1) are.count;
    each = λ a below. elim (cases_order a n) [
      | inl same ↦
          subst (λ r. IsRowOf r a) (sym (get_or_push rows row no_labels a (are.count ∙ sym same)))
          (subst (λ k. IsRowOf row k) (sym same) is)
      | inr (inl before) ↦
          subst (λ r. IsRowOf r a) (sym (get_or_append_left rows (row ∷ []) no_labels a (omega (arith, before, are.count)))) (are.each a before)
      | inr (inr after) ↦ absurd (omega (arith, below, after))
    ];
  }

  -- once all labels have their rows
  pub all_rows : (rows : List Labels) (n : ℕ) → n ≡ 256 → AreRowsBelow rows n → RelateSo Related rows
  all_rows rows n all are = record {
    count = are.count ∙ all;
    each = λ a below. are.each a (omega (arith, below, all));
  }
