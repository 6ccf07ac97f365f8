-- That names as JSON have no number, and that the report of an acceptance has none with a fraction.
use Rattle.std.specs.declared.cmp.Ordering.{Ordering, TheVariants.{Equal, Greater, Less}}
use Rattle.std.specs.{Cmp.Lexicographic.slice_cmp, List.{filter, fold}, Ordering.{match_ordering, nat_cmp}}
use Rattle.std.proofs.Common.{[], ℕ, ◌||◌, ◌∷◌, ◌≡◌, Bool, List, false, map, refl, true}
use Rattle.serde_json.specs.{Data.{Data, Members, member, no_members, put, string}, View.items_of}
use Rattle.{serde_json.specs.Written.{has_float, items_have_float, members_have_float}, machine.specs.Layout.Layout}
use Rattle.{captext.specs.PolicyText.label_name, reptext.specs.Reports.{check_data, labels_of, names_data, with_related}}

pub names_have_no_float : (names : List (List ℕ)) → items_have_float (items_of (map string names)) ≡ false
names_have_no_float [] = refl
names_have_no_float (name ∷ names) = names_have_no_float names

pub neither : (a b : Bool) → (a || b) ≡ false → (a ≡ false) × (b ≡ false)
neither false b h = (refl, h)
neither true b h = cc

one_has_no_float : (order : Ordering) (a b c : Members) → members_have_float a ≡ false → members_have_float b ≡ false → members_have_float c ≡ false
    → members_have_float (match_ordering order a b c) ≡ false
one_has_no_float Less a b c p q r = p
one_has_no_float Equal a b c p q r = q
one_has_no_float Greater a b c p q r = r

put_has_no_float : (k : List ℕ) (d : Data) (ms : Members) → has_float d ≡ false → members_have_float ms ≡ false → members_have_float (put k d ms) ≡ false
put_has_no_float k d no_members p q = rw p refl
put_has_no_float k d (member l e ms) p q =
    let rest = neither (has_float e) (members_have_float ms) q in
    one_has_no_float (slice_cmp nat_cmp k l) (member k d (member l e ms)) (member l d ms) (member l e (put k d ms))
    (rw p q) (rw p rest.1) (rw (rest.0) (put_has_no_float k d ms p rest.1))

relations_have_no_float : (t : Layout) (test : ℕ → ℕ → Bool) (ms : Members) (labels : List ℕ) → members_have_float ms ≡ false
    → members_have_float (fold (with_related t test) ms labels) ≡ false
relations_have_no_float t test ms [] h = h
relations_have_no_float t test ms (a ∷ labels) h =
    relations_have_no_float t test (with_related t test ms a) labels
    (put_has_no_float (label_name t a) (names_data (map (label_name t) (filter (test a) (labels_of t)))) ms
    (names_have_no_float (map (label_name t) (filter (test a) (labels_of t)))) h)

pub check_has_no_float : (t : Layout) (cut full : ℕ → ℕ → Bool) → has_float (check_data t cut full) ≡ false
check_has_no_float t cut full =
    rw (relations_have_no_float t cut no_members (labels_of t) refl) (rw (relations_have_no_float t full no_members (labels_of t) refl) refl)
