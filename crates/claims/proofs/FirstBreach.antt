-- The search for the first breach of a claim: which pairs it bounds, and which have more.
use Rattle.std.{specs.List.{Contains, list_any, slice_get}, proofs.Common.{[], ℕ, ◌&&◌, ◌++◌, ◌<◌, ◌==◌, ◌||◌, ◌↔◌, ◌∙◌, ◌∷◌}}
use Rattle.std.proofs.Common.{◌≡◌, ◌≢◌, Bool, List, Some, ap, arith, false, get_or, inl, inr, length, not, refl, subst, sym, true}
use Rattle.std.proofs.lemmas.Bool.{cases_order, eq-eqb, eqb-true, false≢true, not-true, or_cases, or_left, or_right}
use Rattle.std.proofs.lemmas.List.{Folds.list_any_at, get_or_append_left, get_or_push, length_push}
use Rattle.std.proofs.lemmas.{Map.Views.Contains-from_any, Option.{get_or_from_slice_get, slice_get-get_or, slice_get_within}}
use Rattle.{machine.specs.Layout.Layout, reach.specs.Extents.{GoesTo, Limits, MayChangeIn, MayShrinkIn}}
use Rattle.claims.specs.declared.{breaches.Breach.Breach, claim.{Claim.{Claim, Claim as claim}, Most.Most as most}, rows.Row.Row}
use Rattle.claims.specs.{Breaches.{HoldsOf, IsFirstBreachBy}, Claims.is_one_of}
use Rattle.claims.specs.{Holding.{Bounds, PairComesBefore, HasAtMost, IsFirstBreach, most_of}, Rows.IsRow}

-- a row has more than a claim leaves

module _ (limits : Limits) (a l : ℕ) (changed shrunk : Bool) (changes : (changed ≡ true) ↔ MayChangeIn limits a l)
    (shrinks : (shrunk ≡ true) ↔ MayShrinkIn limits a l)
  where
    pub nothing_excess : ((changed || shrunk) ≡ true → ¬ HasAtMost limits a l most.Nothing)
        × ((changed || shrunk) ≢ true → HasAtMost limits a l most.Nothing)
    nothing_excess = (
      λ is least. elim (or_cases changed shrunk is) [ inl change ↦ least.0 (changes.0 change) | inr shrink ↦ least.1 (shrinks.0 shrink) ],
      λ lacks. (
        λ change. lacks (or_left changed shrunk (changes.1 change)),
        λ shrink. lacks (or_right changed shrunk (shrinks.1 shrink)),
      ),
    )

    pub take_excess : (changed ≡ true → ¬ HasAtMost limits a l most.Take) × (changed ≢ true → HasAtMost limits a l most.Take)
    take_excess = (λ is least. least (changes.0 is), λ lacks change. lacks (changes.1 change))

-- label by label

module _ (t : Layout) (limits : Limits) (claim : Claim) where
  -- a claim holds of the labels below a number
  abbrev pub HoldsBelow : ℕ → Type 0
  HoldsBelow n = (a : ℕ) → a < n → HoldsOf t limits claim a

  pub first_of_all : (a : ℕ) (breach : Breach) → HoldsBelow a → IsFirstBreachBy t limits claim a breach → IsFirstBreach t limits claim breach
  first_of_all a breach before is = record {
    bounded = at (λ n. Bounds t claim n breach.object) is.bounded;
    breaks = at (λ n. ¬ HasAtMost limits n breach.object (most_of claim)) is.breaks;
    goes_to = at (λ n. GoesTo limits n breach.object breach.extent) is.goes_to;
    first = λ x l bounded comes. earlier x l bounded comes;
  } where
    at : (P : ℕ → Type 0) → P a → P breach.actor
    at P = subst P (sym is.by)

    earlier : (x l : ℕ) → Bounds t claim x l → PairComesBefore x l breach.actor breach.object → HasAtMost limits x l (most_of claim)
    earlier x l bounded (inl below) = before x (subst (λ n. x < n) is.by below) l bounded
    earlier x l bounded (inr (same, below)) =
        let here = same ∙ is.by in
        subst (λ n. HasAtMost limits n l (most_of claim)) (sym here) (is.first l (subst (λ n. Bounds t claim n l) here bounded) below)

-- a label that a test finds among others is one of them
pub among : (labels : List ℕ) (a : ℕ) → list_any (λ other. a == other) labels ≡ true → Contains labels a
among labels a is = Contains-from_any {eq = ◌==◌} (λ x y same. eqb-true x y same) a labels is

both : (x y : Bool) → (x && y) ≡ true → (x ≡ true) × (y ≡ true)
both true y is = (refl, is)
both false y is = absurd (false≢true is)

-- labels that aren't among others, as a set of labels without these has them
module _ (objects : List ℕ) (l : ℕ) (here without : Bool) (is : without ≡ (here && not (is_one_of objects l))) where
  one_of : Contains objects l → is_one_of objects l ≡ true
  one_of has = list_any_at (λ other. other == l) objects has.0 l has.1 (eq-eqb (get_or objects has.0 l) l has.2)

  pub outside : (without ≡ true) ↔ ((here ≡ true) × (¬ Contains objects l))
  outside = (
    λ has.
        let parts = both here (not (is_one_of objects l)) (sym is ∙ has) in
        (parts.0, λ among. false≢true (sym (not-true (is_one_of objects l) parts.1) ∙ one_of among)),
    λ parts. is ∙ by (is_one_of objects l) refl parts,
  ) where
    found : is_one_of objects l ≡ true → Contains objects l
    found one = Contains-from_any {eq = λ x y. y == x} (λ x y same. sym (eqb-true y x same)) l objects one

    by : (one : Bool) → is_one_of objects l ≡ one → (here ≡ true) × (¬ Contains objects l) → (here && not one) ≡ true
    by true one parts = absurd (parts.1 (found one))
    by false one parts = ap (λ b. b && true) parts.0

-- one row more
module _ (limits : Limits) (rows : List Row) (row : Row) (n : ℕ) (count : length rows ≡ n) (is : IsRow limits n row)
    (so_far : (a : ℕ) (other : Row) → slice_get rows a ≡ Some other → IsRow limits a other)
  where
    pub row_more : (a : ℕ) (other : Row) → slice_get (rows ++ row ∷ []) a ≡ Some other → IsRow limits a other
    row_more a other at =
        let within = slice_get_within (rows ++ row ∷ []) a other at in
        let longer = length_push rows row in
        let there = get_or_from_slice_get (rows ++ row ∷ []) a other other at in
        elim (cases_order a n) [
          | inl same ↦
              let it : row ≡ other = sym (get_or_push rows row other a (count ∙ sym same)) ∙ there in
              subst (λ r. IsRow limits a r) it (subst (λ k. IsRow limits k row) (sym same) is)
          | inr (inl before) ↦
              let lt : a < length rows = omega arith in
              so_far a other (slice_get-get_or rows a other lt ∙ ap Some (sym (get_or_append_left rows (row ∷ []) other a lt) ∙ there))
          | inr (inr after) ↦ absurd (omega (arith, within, longer))
        ]

-- a claim bounds labels of the table
pub bounded_within : (t : Layout) (claim : Claim) (a l : ℕ) → Bounds t claim a l → a < length t.labels
bounded_within t (claim.AtMost limit actor object) a l bounded = bounded.0.0
bounded_within t (claim.Only object actors) a l bounded = bounded.0.0
bounded_within t (claim.Within actor objects) a l bounded = bounded.0.0
bounded_within t (claim.Readers object readers) a l bounded = absurd bounded
bounded_within t (claim.Through from to filters) a l bounded = absurd bounded
bounded_within t (claim.Without actor kind object) a l bounded = absurd bounded
