-- The search for the first place, by labels, by kinds, and within a set of labels.
use Rattle.std.{specs.Option.option_map, proofs.Common.{[], ℕ, ◌++◌, ◌<◌, ◌↔◌, ◌∷◌, ◌≡◌, IfNone, IfSome, List, None, Option, Some}}
use Rattle.std.proofs.{Common.{arith, inl, inr, length, true}, lemmas.{List.FromFn.length-range_with_len, Option.slice_get_within}}
use Rattle.base.specs.{declared.{kind.Kind.Kind, labels.Labels.Labels}, Kinds.kind_number, Labels.is_in}
use Rattle.policy.specs.{Places.{Begins, ComesBefore, FindsLeast, IsLeast, IsNone, IsUnder}, Search.{IsLeastIn, IsNobody}}
use Rattle.policy.proofs.{Cells.not_both, KindNumbers.{all_kinds, kind_stands, number_stands}, Places.IsMade}
use Rattle.policy.proofs.{Places.{Searches, decided, least_here, least_made, none_at_all, none_made}, Sweep.{numbers, stands, stands_alone}}

-- the number that a label adds to a place, and the one that a kind adds
abbrev pub one_label : ℕ → List ℕ
one_label label = label ∷ []

abbrev pub of_kind : Kind → List ℕ
of_kind kind = kind_number kind ∷ []

-- no place under the labels below a number
abbrev pub NoneBelow : {X : Type 0} → (X → List ℕ) → (X → Type 0) → List ℕ → ℕ → Type 0
NoneBelow place P beginning n = (label : ℕ) → label < n → IsNone (IsUnder place P (beginning ++ one_label label))

module _ {X : Type 0} {place : X → List ℕ} {P : X → Type 0} {beginning : List ℕ} where
  -- each place under the beginning continues with a label below a number
  pub labels_search :
      (n : ℕ) → ((x : X) → IsUnder place P beginning x → (label : ℕ) × (label < n) × Begins (beginning ++ one_label label) (place x))
      → Searches place P beginning (numbers n) one_label
  labels_search n covers = record {
    covers = λ x under. let at = covers x under in (at.0, at.0, stands n at.0 at.1, at.2);
    rises = λ i j a b lt at_i at_j.
        let one = stands_alone n i a at_i in
        let other = stands_alone n j b at_j in
        inl (omega (arith, lt, one, other));
  }

  -- each place under the beginning continues with a kind
  pub kinds_search :
      ((x : X) → IsUnder place P beginning x → (kind : Kind) × Begins (beginning ++ of_kind kind) (place x))
      → Searches place P beginning all_kinds of_kind
  kinds_search covers = record {
    covers = λ x under. let at = covers x under in (kind_number at.0, at.0, kind_stands at.0, at.1);
    rises = λ i j a b lt at_i at_j.
        let one = number_stands i a at_i in
        let other = number_stands j b at_j in
        inl (omega (arith, lt, one, other));
  }

  module _ (n : ℕ) (search : Searches place P beginning (numbers n) one_label) where
    pub none_of_labels : NoneBelow place P beginning n → IsNone (IsUnder place P beginning)
    none_of_labels none =
        let size = length-range_with_len 0 n in
        none_at_all search (length (numbers n)) (omega arith) (λ k label lt at.
        let same = stands_alone n k label at in
        let within = slice_get_within (numbers n) k label at in
        none label (omega (arith, same, within, size)))

    pub least_of_labels :
        (label : ℕ) → label < n → NoneBelow place P beginning label → (x : X) → IsLeast place (IsUnder place P (beginning ++ one_label label)) x
        → IsLeast place (IsUnder place P beginning) x
    least_of_labels label below none =
        least_here search label label (stands n label below)
        (λ k other lt at. let same = stands_alone n k other at in none other (omega (arith, same, lt)))

-- the least label of a set at which there is a place
module _
    {X : Type 0} {place : X → List ℕ} {P : X → Type 0} {beginning : List ℕ} {make : ℕ → X} {adds : ℕ → List ℕ}
    (made : IsMade place P beginning make adds) (lower : (one other : ℕ) → ComesBefore (adds one) (adds other) → one < other)
    (labels : Labels) (tells : (label : ℕ) → (is_in labels label ≡ true) ↔ P (make label)) where
  pub none_of_set : IsNobody labels → IsNone (IsUnder place P beginning)
  none_of_set nobody = none_made made (λ label has. not_both ((tells label).1 has) (nobody label))

  pub least_of_set : (label : ℕ) → IsLeastIn labels label → IsLeast place (IsUnder place P beginning) (make label)
  least_of_set label least =
      least_made made label ((tells label).0 least.0)
      (λ other has before. not_both ((tells other).1 has) (least.1 other (lower other label before)))

  pub found_in_set :
      (found : Option ℕ) → IfSome found (IsLeastIn labels) → IfNone found (IsNobody labels)
      → FindsLeast place (IsUnder place P beginning) (option_map make found)
  found_in_set None least nobody = none_of_set nobody
  found_in_set (Some label) least nobody = least_of_set label least

-- of two places that differ only in a label, the one with the lesser label comes first
pub label_decides : (one other : ℕ) → ComesBefore (one_label one) (one_label other) → one < other
label_decides one other before = grind (arith, before)

-- the places after the same number
abbrev pub after : ℕ → ℕ → List ℕ
after number label = number ∷ label ∷ []

pub last_decides : (number one other : ℕ) → ComesBefore (after number one) (after number other) → one < other
last_decides number one other before = elim (decided number number _ before) [
  | inl lt ↦ absurd (omega (arith, lt))
  | inr same ↦ label_decides one other same.1
]
