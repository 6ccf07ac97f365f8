-- Names and their numbers: the number found for a name has that name, and a name that differs from all others is found at its number.
use Rattle.std.specs.{Bool.Decides, List.position_or_len, Str.bytes_eq}
use Rattle.std.proofs.Common.{[], ℕ, ◌<◌, ◌↔◌, ◌∙◌, ◌∷◌, ◌≡◌, ◌≢◌, AllPairs, Bool, List, None, Option, Some, ap}
use Rattle.std.proofs.Common.{arith, cond, false, get_or, length, nat_lt, not, option_map, position, refl, sym, true}
use Rattle.std.proofs.lemmas.{Bool.{cond-true, lt-ltb}, List.{Quantifiers.position-Some, Sums.prefix_len_is}, Slice.Eq.bytes_eq-Decides}
use Rattle.{base.specs.declared.ids.ObjId.ObjId, words.{specs.{Name.is_name, Parts.IsPart}, proofs.Parts.{both_parts, name_part}}}
use Rattle.{machine.specs.Layout.Layout, table.specs.{Names.{label_named, object_named}, Rules.IsDraft}}
use Rattle.captext.specs.{PolicyText.label_name, Shapes.names_at, TableText.object_name}

-- two names

abbrev pub AreNames : List ℕ × List ℕ → Type 0
AreNames names = (is_name names.0 ≡ true) × (is_name names.1 ≡ true)

pub names_part : IsPart names_at (λ names. names.0 ∷ names.1 ∷ []) AreNames
unfolding names_at
names_part = both_parts name_part name_part

-- the place at which a name is found has that name
found_at : (names : List (List ℕ)) (name : List ℕ) (k : ℕ) → position (λ other. bytes_eq name other) names ≡ Some k
    → (k < length names) × (name ≡ get_or names k [])
found_at names name k h =
    let found = position-Some (λ other. bytes_eq name other) names k [] h in
    (found.0, (bytes_eq-Decides name (get_or names k [])).0 found.1)

-- a name is found at its own place if no two names are the same
again_at : (names : List (List ℕ)) (k : ℕ) → AllPairs ◌≢◌ names → k < length names
    → position (λ other. bytes_eq (get_or names k []) other) names ≡ Some k
again_at names k apart within =
    let name = get_or names k [] in
    let here : not (bytes_eq name name) ≡ false = ap (λ b. not b) ((bytes_eq-Decides name name).1 refl) in
    let before : (j : ℕ) → j < k → not (bytes_eq name (get_or names j [])) ≡ true =
    λ j below. differs j below (bytes_eq name (get_or names j [])) (bytes_eq-Decides name (get_or names j [])) in
    let first : position_or_len (λ other. bytes_eq name other) names ≡ k =
    prefix_len_is (λ other. not (bytes_eq name other)) names k [] (omega arith) before (λ _. here) in
    ap (λ n. cond (nat_lt n (length names)) (Some n) None) first ∙ cond-true _ _ _ (lt-ltb k (length names) within)
  where
    differs : (j : ℕ) → j < k → (same : Bool) → Decides same (get_or names k [] ≡ get_or names j []) → not same ≡ true
    differs j below true same = absurd (apart j k [] below within (sym (same.0 refl)))
    differs j below false same = refl

pub label_takes : (t : Layout) (name : List ℕ) (label : ℕ) → label_named t name ≡ Some label
    → (label < length t.labels) × (name ≡ label_name t label)
unfolding label_named
label_takes t name label h = found_at t.labels name label h

pub label_again : (t : Layout) (label : ℕ) → IsDraft t → label < length t.labels
    → label_named t (label_name t label) ≡ Some label
unfolding label_named
label_again t label draft within = again_at t.labels label draft.labels.differ within

-- a name is a label's number just where it is that label's name
pub label_iff : (t : Layout) (name : List ℕ) (label : ℕ) → IsDraft t
    → (label_named t name ≡ Some label) ↔ ((name ≡ label_name t label) × (label < length t.labels))
label_iff t name label draft = (
  λ h. let taken = label_takes t name label h in (taken.1, taken.0),
  λ h. ap (label_named t) h.0 ∙ label_again t label draft h.1,
)

pub is_label_name : (t : Layout) (label : ℕ) → IsDraft t → label < length t.labels → is_name (label_name t label) ≡ true
is_label_name t label draft within = draft.labels.spelled label [] within

pub object_takes : (t : Layout) (name : List ℕ) (id : ObjId) → object_named t name ≡ Some id
    → (id.0 < length t.names) × (name ≡ object_name t id)
unfolding object_named
object_takes t name id h = by (position (λ other. bytes_eq name other) t.names) refl h where
  by : (place : Option ℕ) → position (λ other. bytes_eq name other) t.names ≡ place
      → option_map (λ number. record { 0 = number }) place ≡ Some id → (id.0 < length t.names) × (name ≡ object_name t id)
  by None at h = cc
  by (Some k) at h =
      let same : k ≡ id.0 = cc in
      found_at t.names name id.0 (at ∙ ap (λ n. Some n) same)

pub object_again : (t : Layout) (id : ObjId) → IsDraft t → id.0 < length t.names → object_named t (object_name t id) ≡ Some id
unfolding object_named
object_again t id draft within =
    ap (option_map (λ number. record { 0 = number })) (again_at t.names id.0 draft.objects.differ within)

pub is_object_name : (t : Layout) (id : ObjId) → IsDraft t → id.0 < length t.names → is_name (object_name t id) ≡ true
is_object_name t id draft within = draft.objects.spelled id.0 [] within
