-- Lists of labels: the names of those that pass a test, and a set for each label.
use Rattle.std.{specs.List.{filter, fold, range_with_len}, proofs.Common.{[], ℕ, ◌++◌, ◌+◌, ◌<◌, ◌∙◌, ◌∷◌, ◌≡◌, Bool, List, ap, arith}}
use Rattle.std.proofs.{Common.{false, get_or, length, map, sym, true}, lemmas.List.{get_or_default, map-append, map-id}}
use Rattle.std.proofs.lemmas.List.{Elements.filter-append, FromFn.map-range_with_len_more, Sums.fold-append}
use Rattle.base.specs.{declared.labels.Labels.Labels, Labels.no_labels}

one_more : (n : ℕ) → range_with_len 0 (n + 1) ≡ range_with_len 0 n ++ n ∷ []
one_more n =
    sym (map-id (range_with_len 0 (n + 1))) ∙ map-range_with_len_more (λ (x : ℕ). x) 0 n n (omega arith)
    ∙ ap (λ xs. xs ++ n ∷ []) (map-id (range_with_len 0 n))

pub fold_more : {B : Type 0} (step : B → ℕ → B) (b : B) (n : ℕ) → fold step b (range_with_len 0 (n + 1)) ≡ step (fold step b (range_with_len 0 n)) n
fold_more step b n = ap (fold step b) (one_more n) ∙ fold-append step b (range_with_len 0 n) (n ∷ [])

-- a filter of one more number, which passes or not
filter_more : (p : ℕ → Bool) (n : ℕ) → filter p (range_with_len 0 (n + 1)) ≡ filter p (range_with_len 0 n) ++ filter p (n ∷ [])
filter_more p n = ap (filter p) (one_more n) ∙ filter-append p (range_with_len 0 n) (n ∷ [])

pub one_passes : {X : Type 0} (p : X → Bool) (x : X) → p x ≡ true → filter p (x ∷ []) ≡ x ∷ []
one_passes p x is = rw is

pub one_fails : {X : Type 0} (p : X → Bool) (x : X) → p x ≡ false → filter p (x ∷ []) ≡ []
one_fails p x is = rw is

-- the names of those that pass, with one more that passes or not
pub names_more : {X Y : Type 0} (g : X → Y) (f : ℕ → X) (p : ℕ → Bool) (n : ℕ)
    → map g (map f (filter p (range_with_len 0 (n + 1)))) ≡ map g (map f (filter p (range_with_len 0 n))) ++ map g (map f (filter p (n ∷ [])))
names_more g f p n =
    ap (λ xs. map g (map f xs)) (filter_more p n) ∙ ap (map g) (map-append f (filter p (range_with_len 0 n)) (filter p (n ∷ [])))
    ∙ map-append g (map f (filter p (range_with_len 0 n))) (map f (filter p (n ∷ [])))

-- the set of a label, if there is one
pub same_set : (sets : List Labels) (i a : ℕ) (d : Labels) → i ≡ a → a < length sets → get_or sets i d ≡ get_or sets a no_labels
same_set sets i a d same within = ap (λ k. get_or sets k d) same ∙ get_or_default sets a d no_labels within
