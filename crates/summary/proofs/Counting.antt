-- The number of a set's members.
use Rattle.std.{specs.List.{filter, range_with_len}, proofs.Common.{[], ℕ, ◌+◌, ◌∙◌, ◌∷◌, ◌≡◌, Bool, ap, arith, cond}}
use Rattle.std.proofs.{Common.{false, length, refl, suc, true, zero}, lemmas.List.{Elements.filter-append, length-append}}
use Rattle.base.specs.{declared.labels.Labels.Labels, Labels.{is_in, members_of}}
use Rattle.{flows.specs.Sets.{count_below, size_of}, summary.proofs.OneMore.range_more}
use Rattle.base.specs.declared.label.TheConstants.Label as Label

count_is : (p : ℕ → Bool) (n : ℕ) → length (filter p (range_with_len 0 n)) ≡ count_below p n
unfolding count_below
count_is p zero = refl
count_is p (suc n) =
    ap (λ k. length (filter p (range_with_len 0 k))) (next n)
    ∙ ap (λ xs. length (filter p xs)) (range_more n)
    ∙ ap length (filter-append p (range_with_len 0 n) (n ∷ []))
    ∙ length-append (filter p (range_with_len 0 n)) (filter p (n ∷ []))
    ∙ last (p n) refl (count_is p n)
  where
    next : (k : ℕ) → suc k ≡ k + 1
    next k = omega arith

    last :
        (b : Bool) → p n ≡ b → length (filter p (range_with_len 0 n)) ≡ count_below p n
        → length (filter p (range_with_len 0 n)) + length (filter p (n ∷ [])) ≡ cond (p n) 1 0 + count_below p n
    last true is rest = let one : length (filter p (n ∷ [])) ≡ 1 = rw is refl in rw is (omega (arith, one, rest))
    last false is rest = let none : length (filter p (n ∷ [])) ≡ 0 = rw is refl in rw is (omega (arith, none, rest))

pub members_count : (set : Labels) → length (members_of set) ≡ size_of set
unfolding members_of
members_count set = count_is (is_in set) Label.COUNT
