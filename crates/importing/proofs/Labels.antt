-- Labels of a table, added one after another.
use Rattle.std.{specs.List.{AllByRecursion, AllPairs}, proofs.Common.{[], ℕ, ◌++◌, ◌+◌, ◌<◌, ◌∙◌, ◌∷◌, ◌≡◌, ◌≢◌, ◌≤◌, Bool, List}}
use Rattle.std.proofs.Common.{add-one, ap, arith, cond, false, get_or, length, nat_le, refl, subst, suc, sym, take, true, zero}
use Rattle.std.proofs.lemmas.{Bool.Decides.nat_tests, List.{get_or-map, get_or-take, length-take-le}}
use Rattle.{words.specs.Name.is_name, microkit.specs.Names.IsLabelName, machine.specs.Layout.{Layout, most_labels}}
use Rattle.table.{specs.{Building.{AdmitsLabel, with_label}, Names.label_named}, proofs.FrontLemmas.no_place}
use Rattle.importing.{specs.{Built.{labelled, version_for}, Groups.{labels_at, name_at}}, proofs.Items.length_seen}
use Rattle.machine.specs.declared.layout.Version.TheVariants as version

-- a table with the first labels, this many
abbrev pub first_labels : List (List ℕ) → ℕ → Layout
first_labels names i = record (labelled names) { labels = take i names }

pub is_spelled : (names : List (List ℕ)) (i : ℕ) (d : List ℕ) → AllByRecursion IsLabelName names → i < length names
    → is_name (get_or names i d) ≡ true
is_spelled [] i d all below = absurd (omega (arith, below))
is_spelled (name ∷ names) zero d all below = all.0.0
is_spelled (name ∷ names) (suc i) d all below = is_spelled names i d all.1 (omega (arith, below))

pub one_more : (names : List (List ℕ)) (i : ℕ) (d : List ℕ) → i < length names
    → take (i + 1) names ≡ take i names ++ get_or names i d ∷ []
one_more names i d below = rw add-one (by names i below)
  where
    by : (xs : List (List ℕ)) (k : ℕ) → k < length xs → take (suc k) xs ≡ take k xs ++ get_or xs k d ∷ []
    by [] k below = absurd (omega (arith, below))
    by (x ∷ xs) zero below = refl
    by (x ∷ xs) (suc k) below = ap (λ ys. x ∷ ys) (by xs k (omega (arith, below)))

same_any : (xs : List (List ℕ)) (i : ℕ) (d e : List ℕ) → i < length xs → get_or xs i d ≡ get_or xs i e
same_any [] i d e below = absurd (omega (arith, below))
same_any (x ∷ xs) zero d e below = refl
same_any (x ∷ xs) (suc i) d e below = same_any xs i d e (omega (arith, below))

-- there is room for each of at most 256 labels
room : (i count : ℕ) → i < count → count ≤ 256 → i < most_labels (version_for count)
room i count below few = cases (nat_le count 64) refl
  where
    cases : (small : Bool) → nat_le count 64 ≡ small → i < most_labels (cond small version.One version.Two)
    cases true is = grind (arith, nat_tests)
    cases false is = omega (arith, below, few)

pub admits_next : (names : List (List ℕ)) (i : ℕ) (d : List ℕ) → AllByRecursion IsLabelName names
    → AllPairs (λ one other. one ≢ other) names → length names ≤ 256 → i < length names
    → AdmitsLabel (first_labels names i) (get_or names i d)
unfolding label_named
admits_next names i d all distinct few below =
    let size : length (take i names) ≡ i = length-take-le i names (omega arith) in
    record {
      spelled = is_spelled names i d all below;
      fresh = no_place (get_or names i d) (take i names) (λ k e within same.
          let before : k < i = omega (arith, within, size) in
          distinct k i e before below
          (sym (get_or-take i names k e before) ∙ same ∙ same_any names i d e below));
      room = subst (λ n. n < most_labels (version_for (length names))) (sym size) (room i (length names) below few);
    }

-- the name at a place among the labels, by the names of all subjects

named : (names : List (List ℕ)) (places : List ℕ) (i item : ℕ) (name : List ℕ) → i < length places → item ≡ get_or places i 0
    → name ≡ name_at names item → get_or (labels_at names places) i (name_at names item) ≡ name
named names places i item name below at is =
    get_or-map (name_at names) places i 0 (name_at names item) below ∙ ap (name_at names) (sym at) ∙ sym is

pub admits_at : (names : List (List ℕ)) (places : List ℕ) (i item : ℕ) (draft : Layout) (name : List ℕ)
    → AllByRecursion IsLabelName (labels_at names places) → AllPairs (λ one other. one ≢ other) (labels_at names places)
    → length places ≤ 256 → i < length places → item ≡ get_or places i 0 → name ≡ name_at names item
    → draft ≡ first_labels (labels_at names places) i → AdmitsLabel draft name
admits_at names places i item draft name all distinct few below at is so_far =
    let size : length (labels_at names places) ≡ length places = length_seen (name_at names) places in
    subst (λ t. AdmitsLabel t name) (sym so_far)
    (subst (λ n. AdmitsLabel (first_labels (labels_at names places) i) n) (named names places i item name below at is)
    (admits_next (labels_at names places) i (name_at names item) all distinct (omega (arith, few, size)) (omega (arith, below, size))))

pub more_at : (names : List (List ℕ)) (places : List ℕ) (i item : ℕ) (draft : Layout) (name : List ℕ) → i < length places
    → item ≡ get_or places i 0 → name ≡ name_at names item → draft ≡ first_labels (labels_at names places) i
    → with_label draft name ≡ first_labels (labels_at names places) (i + 1)
more_at names places i item draft name below at is so_far =
    let size : length (labels_at names places) ≡ length places = length_seen (name_at names) places in
    ap (λ t. with_label t name) so_far
    ∙ ap (λ n. with_label (first_labels (labels_at names places) i) n) (sym (named names places i item name below at is))
    ∙ ap (λ xs. record (labelled (labels_at names places)) { labels = xs })
    (sym (one_more (labels_at names places) i (name_at names item) (omega (arith, below, size))))
