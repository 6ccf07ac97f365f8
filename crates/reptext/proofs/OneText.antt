-- That the report of an acceptance has one text: two tests that decide the same relation agree on the labels of a table.
use Rattle.std.specs.{List.{filter, fold}, Prelude.codes}
use Rattle.std.proofs.Common.{[], ℕ, ◌<◌, ◌∙◌, ◌∷◌, ◌≡◌, All, Bool, List, ap, arith, false, get_or, length, map, refl, sym, true}
use Rattle.std.proofs.lemmas.List.{Elements.{All-head, All-tail}, FromFn.{get_or-range_with_len, length-range_with_len}}
use Rattle.serde_json.specs.Data.{Data, Members, member, no_members, number, object, put, string, unsigned}
use Rattle.{base.specs.declared.edge.Edge.Edge, machine.specs.Layout.Layout}
use Rattle.{policy.specs.{Cut.IsCut, Full.IsFull, Policy.allows}, captext.specs.PolicyText.label_name}
use Rattle.reptext.specs.{Relations.Decides, Reports.{IsCheckReport, labels_of, line_of, names_data, relation_data, with_related}}

-- two booleans are equal if each is true whenever the other is
pub same_answer : (one other : Bool) → (one ≡ true → other ≡ true) → (other ≡ true → one ≡ true) → one ≡ other
same_answer true other there back = sym (there refl)
same_answer false true there back = back refl
same_answer false false there back = refl

fold_same :
    {A X : Type 0} (f g : A → X → A) (xs : List X) → ((a : A) → All (λ x. f a x ≡ g a x) xs) → (a : A) → fold f a xs ≡ fold g a xs
fold_same f g [] same a = refl
fold_same f g (x ∷ xs) same a =
    ap (λ b. fold f b xs) (All-head (λ x. f a x ≡ g a x) x xs (same a))
    ∙ fold_same f g xs (λ b. All-tail (λ x. f b x ≡ g b x) x xs (same b)) (g a x)

-- two tests that decide one relation for the labels of a table
module _ (t : Layout) (one other : ℕ → ℕ → Bool) (R : ℕ → ℕ → Type 0) (first : Decides t one R) (second : Decides t other R) where
  agree : (a : ℕ) → a < length t.labels → one a ≡ other a
  agree a within =
      λ i l.
      same_answer (one a l) (other a l) (λ e. (second a within l).1 ((first a within l).0 e))
      (λ e. (first a within l).1 ((second a within l).0 e)) i

  is_label : (k d : ℕ) → k < length (labels_of t) → get_or (labels_of t) k d < length t.labels
  is_label k d within =
      let size = length-range_with_len 0 (length t.labels) in
      let below : k < length t.labels = omega arith in
      let is = get_or-range_with_len 0 (length t.labels) k d below in
      omega arith

  related_same : (members : Members) (a : ℕ) → one a ≡ other a → with_related t one members a ≡ with_related t other members a
  related_same members a same =
      ap (λ (test : ℕ → Bool). put (label_name t a) (names_data (map (label_name t) (filter test (labels_of t)))) members) same

  relation_same : relation_data t one ≡ relation_data t other
  relation_same =
      ap object
      (fold_same (with_related t one) (with_related t other) (labels_of t)
      (λ members k d within. related_same members (get_or (labels_of t) k d) (agree (get_or (labels_of t) k d) (is_label k d within)))
      no_members)

-- the report of two relations
abbrev report_of : Layout → Data → Data → List ℕ
report_of t cut full =
    line_of
    (object (member (codes "caps") (number (unsigned (length t.caps)))
    (member (codes "cut") cut (member (codes "full") full (member (codes "verdict") (string (codes "accept")) no_members)))))

pub report_once : (t : Layout) (edges : List Edge) (text other : List ℕ) → IsCheckReport t edges text → IsCheckReport t edges other → text ≡ other
report_once t edges text other is also =
    let cut = relation_same t is.cut also.cut (IsCut (allows edges)) is.cuts also.cuts in
    let full = relation_same t is.full also.full (IsFull (allows edges)) is.fulls also.fulls in
    is.told ∙ (λ i. report_of t (cut i) (full i)) ∙ sym also.told
