-- The first edge by which a step leads to a set: of the edges of one label, and of all edges.
use Rattle.std.{specs.{declared.cmp.Ordering.TheVariants.Less, Option.option_map, Ordering.nat_cmp}, proofs.Common.{ℕ, ◌+◌, ◌<◌, ◌↔◌, ◌∙◌}}
use Rattle.std.proofs.{Common.{◌≡◌, None, Option, Some, arith, false, inl, inr, refl, subst, sym, true}, lemmas.Bool.cases_order}
use Rattle.base.specs.{declared.{edge.Edge.Edge, kind.Kind.Kind, labels.Labels.Labels}, Kinds.kind_number, Labels.is_in}
use Rattle.policy.{specs.{Places.IsNone, Reasons.edge, Search.FindsCell, Walks.FindsFirst}, proofs.{Cells.not_both, KindNumbers.same_kind}}
use Rattle.policy.proofs.Places.{decided}

-- of the edges of one label
module _ (P : Edge → Type 0) (start : ℕ) (gives : Kind → Labels → Type 0)
    (tells : (kind : Kind) (labels : Labels) → gives kind labels → (to : ℕ) → (is_in labels to ≡ true) ↔ P (edge start kind to)) where
  abbrev OfLabel : Edge → Type 0
  OfLabel e = (e.from ≡ start) × P e

  none_at : (kind : Kind) (to : ℕ) → (labels : Labels) → gives kind labels → is_in labels to ≡ false → P (edge start kind to) → ⊥
  none_at kind to labels given absent has = not_both ((tells kind labels given to).1 has) absent

  of_label : (e : Edge) → OfLabel e → P (edge start e.kind e.to)
  of_label e has = subst P (λ i. record { from = has.0 i; kind = e.kind; to = e.to }) has.1

  first_of_cells : (found : Option (Kind × ℕ)) → FindsCell gives found → FindsFirst OfLabel (option_map (λ cell. edge start cell.0 cell.1) found)
  first_of_cells None nobody = λ e has. let there = nobody e.kind in none_at e.kind e.to there.0 there.1 (there.2 e.to) (of_label e has)
  first_of_cells (Some cell) found = (
    (refl, (tells cell.0 found.0.0 found.0.1 cell.1).0 found.0.2.0),
    λ e has less. elim (decided e.from start _ less) [
      | inl lower ↦ absurd (omega (arith, lower, has.0))
      | inr same ↦ elim (decided (kind_number e.kind) (kind_number cell.0) _ same.1) [
        | inl lower ↦ let there = found.1 e.kind lower in none_at e.kind e.to there.0 there.1 (there.2 e.to) (of_label e has)
        | inr tied ↦
            let lower : e.to < cell.1 = least e.to cell.1 tied.1 in
            none_at cell.0 e.to found.0.0 found.0.1 (found.0.2.1 e.to lower)
            (subst (λ (kind : Kind). P (edge start kind e.to)) (same_kind e.kind cell.0 tied.0) (of_label e has))
      ]
    ],
  ) where
    least : (a b : ℕ) → nat_cmp a b ≡ Less → a < b
    least a b less = grind (arith, less)

  pub first_of_label : (found known : Option (Kind × ℕ)) → FindsCell gives found → found ≡ known
      → FindsFirst OfLabel (option_map (λ cell. edge start cell.0 cell.1) known)
  first_of_label found known finds same =
      subst (λ (f : Option (Kind × ℕ)). FindsFirst OfLabel (option_map (λ cell. edge start cell.0 cell.1) f)) same (first_of_cells found finds)

-- of all edges, label by label
module _ (P : Edge → Type 0) where
  abbrev NoneBelow : ℕ → Type 0
  NoneBelow n = (e : Edge) → e.from < n → P e → ⊥

  pub one_label_more : (n start : ℕ) → start ≡ n → NoneBelow n → IsNone (λ e. (e.from ≡ start) × P e) → NoneBelow (n + 1)
  one_label_more n start is before none e below has = elim (cases_order e.from n) [
    | inl same ↦ none e (same ∙ sym is, has)
    | inr (inl lower) ↦ before e lower has
    | inr (inr more) ↦ absurd (omega (arith, below, more))
  ]

  pub first_at_label : (n start : ℕ) → start ≡ n → NoneBelow n → (e : Edge) → FindsFirst (λ e. (e.from ≡ start) × P e) (Some e) → FindsFirst P (Some e)
  first_at_label n start is before e found = (
    found.0.1,
    λ other has less. elim (decided other.from e.from _ less) [
      | inl lower ↦ before other (omega (arith, lower, found.0.0, is)) has
      | inr same ↦ found.1 other (same.0 ∙ found.0.0, has) less
    ],
  )
