-- The strongest claims: how rows give them, and that they hold.
use Rattle.std.specs.List.{AllByRecursion, Contains, filter, flat_map, range_with_len}
use Rattle.std.proofs.Common.{[], ℕ, ◌++◌, ◌+◌, ◌<◌, ◌==◌, ◌↔◌, ◌∙◌, ◌∷◌, ◌≡◌, ◌≢◌, ◌≤◌, Bool, List, Option, Some, ap, append_assoc, arith}
use Rattle.std.proofs.Common.{cond, false, get_or, if◌then◌else◌, inl, inr, length, map, not, refl, slice_get, subst, suc, sym, take, true}
use Rattle.std.proofs.{Common.zero, lemmas.{Bool.{and_from, cases_order, false≢true, ne_eqb}, List.Elements.Contains-append_cases}}
use Rattle.std.proofs.lemmas.List.{Elements.{Contains-append_right, Contains-push_cases}, flat_map_more, map-append, take_more}
use Rattle.{std.proofs.lemmas.Option.{get_or_from_slice_get, slice_get-get_or}, base.specs.Labels.is_in, machine.specs.Layout.Layout}
use Rattle.reach.specs.{declared.extent.Extent.{Extent, Extent as extent}, Extents.{GoesTo, Limits, MayChangeIn, MayShrinkIn}}
use Rattle.summary.specs.Labelled.{labels_of, others_of, programs_of}
use Rattle.claims.specs.{declared.{claim.{Claim.Claim, Most.Most as most}, rows.{Row.Row, Rows.Rows}}, Holding.AreBroken}
use Rattle.claims.specs.{Holding.{AreBroken.{ended, held}, HasAtMost, Holds}, Rows.{AreRowsByLabel, IsRow, extents_of, no_row, row_extent}}
use Rattle.claims.specs.Strongest.{AreExtents, AreStrongest, Extents, affects, claim_to, claims_among, claims_for, claims_of}
use Rattle.claims.{specs.Strongest.{claims_on, is_user, only_these, pair_claims, strongest_by, users_of}}

-- rows

module _ (limits : Limits) (a l : ℕ) where
  extent_goes : (changed shrunk : Bool) → (changed ≡ true) ↔ MayChangeIn limits a l → (shrunk ≡ true) ↔ MayShrinkIn limits a l
      → GoesTo limits a l (if changed then extent.Full else (if shrunk then extent.Take else extent.Nothing))
  extent_goes true shrunk changes shrinks = changes.0 refl
  extent_goes false true changes shrinks = (λ change. false≢true (changes.1 change), shrinks.0 refl)
  extent_goes false false changes shrinks = (λ change. false≢true (changes.1 change), λ shrink. false≢true (shrinks.1 shrink))

pub row_goes : (limits : Limits) (a : ℕ) (row : Row) → IsRow limits a row → (l : ℕ) → GoesTo limits a l (row_extent row l)
row_goes limits a row is l = extent_goes limits a l (is_in row.changed l) (is_in row.shrunk l) (is.changed l) (is.shrunk l)

pub rows_go : (t : Layout) (limits : Limits) (rows : Rows) → AreRowsByLabel limits rows → length t.labels ≤ length rows.rows.items
    → AreExtents t limits (extents_of rows)
rows_go t limits rows are few a l within =
    let there = slice_get-get_or rows.rows.items a no_row (omega (arith, within, few)) in
    row_goes limits a (get_or rows.rows.items a no_row) (are a (get_or rows.rows.items a no_row) there) l

pub row_at : (rows : Rows) (a : ℕ) (row : Row) → slice_get rows.rows.items a ≡ Some row → row_extent row ≡ extents_of rows a
row_at rows a row at = ap row_extent (sym (get_or_from_slice_get rows.rows.items a row no_row at))

-- more lines

flat_more : {X : Type 0} (f : ℕ → List X) (xs : List ℕ) (i d : ℕ) → i < length xs
    → flat_map f (take (i + 1) xs) ≡ flat_map f (take i xs) ++ f (get_or xs i d)
flat_more f xs i d within = ap (flat_map f) (take_more xs i d within) ∙ sym (flat_map_more f [] (take i xs) (get_or xs i d))

pub said_more : (f : ℕ → List Claim) (xs : List ℕ) (i d : ℕ) (before lines longer : List (Option Claim)) → i < length xs
    → lines ≡ before ++ map Some (flat_map f (take i xs)) → longer ≡ lines ++ map Some (f (get_or xs i d))
    → longer ≡ before ++ map Some (flat_map f (take (i + 1) xs))
said_more f xs i d before lines longer within so_far grown =
    grown
    ∙ ap (λ ls. ls ++ map Some (f (get_or xs i d))) so_far
    ∙ append_assoc before (map Some (flat_map f (take i xs))) (map Some (f (get_or xs i d)))
    ∙ ap (λ ls. before ++ ls) (sym (map-append Some (flat_map f (take i xs)) (f (get_or xs i d))))
    ∙ ap (λ cs. before ++ map Some cs) (sym (flat_more f xs i d within))

-- the claims among labels with a thread, and then those for the others, are all
pub all_said : (t : Layout) (extents : Extents) (programs others : List ℕ) (before lines longer : List (Option Claim))
    → programs ≡ programs_of t → others ≡ others_of t → before ≡ [] → lines ≡ before ++ map Some (claims_among extents programs)
    → longer ≡ lines ++ map Some (claims_for extents (labels_of t) others) → longer ≡ map Some (strongest_by t extents)
all_said t extents programs others before lines longer are also none so_far grown =
    grown
    ∙ ap (λ ls. ls ++ map Some (claims_for extents (labels_of t) others))
    (so_far ∙ ap (λ ls. ls ++ map Some (claims_among extents programs)) none)
    ∙ sym (map-append Some (claims_among extents programs) (claims_for extents (labels_of t) others))
    ∙ (λ i. map Some (claims_among extents (are i) ++ claims_for extents (labels_of t) (also i)))

-- they hold

module _ {X : Type 0} (P : X → Type 0) where
  each_append : (xs ys : List X) → AllByRecursion P xs → AllByRecursion P ys → AllByRecursion P (xs ++ ys)
  each_append [] ys all more = more
  each_append (x ∷ xs) ys all more = (all.0, each_append xs ys all.1 more)

  each_flat : {Y : Type 0} (f : Y → List X) → ((y : Y) → AllByRecursion P (f y)) → (ys : List Y) → AllByRecursion P (flat_map f ys)
  each_flat f each [] = tt
  each_flat f each (y ∷ ys) = each_append (f y) (flat_map f ys) (each y) (each_flat f each ys)

  each_map : {Y : Type 0} (f : Y → X) → ((y : Y) → P (f y)) → (ys : List Y) → AllByRecursion P (map f ys)
  each_map f each [] = tt
  each_map f each (y ∷ ys) = (each y, each_map f each ys)

  each_if : (b : Bool) (xs : List X) → AllByRecursion P xs → AllByRecursion P (if b then [] else xs)
  each_if true xs all = tt
  each_if false xs all = all

-- what passes a test is kept
in_filter : (p : ℕ → Bool) (xs : List ℕ) (a : ℕ) → p a ≡ true → Contains xs a → Contains (filter p xs) a
in_filter p [] a passes has = absurd (omega (arith, has.1))
in_filter p (x ∷ xs) a passes has = elim (Contains-append_cases (x ∷ []) xs a has) [
  | inl first ↦ elim (Contains-push_cases [] x a first) [
    | inl none ↦ absurd (omega (arith, none.1))
    | inr same ↦
        subst (λ b. Contains (cond b (x ∷ filter p xs) (filter p xs)) a) (sym (ap p same ∙ passes)) (0, omega arith, same)
  ]
  | inr later ↦ kept (p x) (in_filter p xs a passes later)
] where
  kept : (b : Bool) → Contains (filter p xs) a → Contains (cond b (x ∷ filter p xs) (filter p xs)) a
  kept true more = Contains-append_right (x ∷ []) (filter p xs) a more
  kept false more = more

in_range : (first count a : ℕ) → first ≤ a → a < first + count → Contains (range_with_len first count) a
in_range first zero a low high = absurd (omega (arith, low, high))
in_range first (suc count) a low high = elim (cases_order first a) [
  | inl same ↦ (0, omega arith, same)
  | inr (inl below) ↦
      Contains-append_right (first ∷ []) (range_with_len (first + 1) count) a
      (in_range (first + 1) count a (omega (arith, below)) (omega (arith, high)))
  | inr (inr above) ↦ absurd (omega (arith, low, above))
]

module _ (t : Layout) (limits : Limits) where
  pair_holds : (a l : ℕ) (e : Extent) → (a < length t.labels → GoesTo limits a l e) → AllByRecursion (Holds t limits) (pair_claims a l e)
  pair_holds a l extent.Full goes = tt
  pair_holds a l extent.Take goes = (
    λ x y bounded.
        let here = goes (subst (λ n. n < length t.labels) bounded.1 bounded.0.0) in
        subst (λ n. HasAtMost limits n y most.Take) (sym bounded.1) (subst (λ n. HasAtMost limits a n most.Take) (sym bounded.2) here.0),
    tt,
  )
  pair_holds a l extent.Nothing goes = (
    λ x y bounded.
        let here = goes (subst (λ n. n < length t.labels) bounded.1 bounded.0.0) in
        subst (λ n. HasAtMost limits n y most.Nothing) (sym bounded.1) (subst (λ n. HasAtMost limits a n most.Nothing) (sym bounded.2) here),
    tt,
  )

  none_else : (l : ℕ) (users : List ℕ) → ((a : ℕ) → a < length t.labels → a ≢ l → ¬ Contains users a → HasAtMost limits a l most.Nothing)
      → Holds t limits (only_these l users)
  none_else l [] keeps = λ x y bounded.
      subst (λ n. HasAtMost limits x n most.Nothing) (sym bounded.2)
      (keeps x bounded.0.0 (λ same. bounded.0.2 (same ∙ sym bounded.2)) (λ has. absurd (omega (arith, has.1))))
  none_else l (first ∷ users) keeps = λ x y bounded.
      subst (λ n. HasAtMost limits x n most.Nothing) (sym bounded.1)
      (keeps x bounded.0.0 (λ same. bounded.0.2 (same ∙ sym bounded.1)) bounded.2)

  module _ (extents : Extents) (are : AreExtents t limits extents) where
    unused : (l a : ℕ) → a < length t.labels → a ≢ l → ¬ Contains (users_of extents (labels_of t) l) a → HasAtMost limits a l most.Nothing
    unused l a within differ lacks = by (extents a l) refl where
      among : affects (extents a l) ≡ true → ⊥
      among is =
          lacks (in_filter (λ x. is_user (extents x) x l) (labels_of t) a
          (and_from (not (a == l)) (affects (extents a l)) (ap not (ne_eqb a l differ)) is)
          (in_range 0 (length t.labels) a (omega arith) (omega (arith, within))))

      by : (e : Extent) → extents a l ≡ e → HasAtMost limits a l most.Nothing
      by extent.Full is = absurd (among (ap affects is))
      by extent.Take is = absurd (among (ap affects is))
      by extent.Nothing is = subst (GoesTo limits a l) is (are a l within)

    among_hold : AllByRecursion (Holds t limits) (claims_among extents (programs_of t))
    among_hold =
        each_flat (Holds t limits) (claims_of extents (programs_of t))
        (λ a. each_flat (Holds t limits) (claims_on (extents a) a)
        (λ l. each_if (Holds t limits) (a == l) (pair_claims a l (extents a l)) (pair_holds a l (extents a l) (are a l))) (programs_of t))
        (programs_of t)

    for_hold : AllByRecursion (Holds t limits) (claims_for extents (labels_of t) (others_of t))
    for_hold =
        each_map (Holds t limits) (claim_to extents (labels_of t))
        (λ l. none_else l (users_of extents (labels_of t) l) (unused l)) (others_of t)

    all_hold : AllByRecursion (Holds t limits) (strongest_by t extents)
    all_hold =
        each_append (Holds t limits) (claims_among extents (programs_of t)) (claims_for extents (labels_of t) (others_of t)) among_hold for_hold

  none_broken : (line : ℕ) (claims : List Claim) → AllByRecursion (Holds t limits) claims → AreBroken t limits line (map Some claims) []
  none_broken line [] all = ended
  none_broken line (claim ∷ claims) all = held all.0 (none_broken (line + 1) claims all.1)

  pub strongest_hold : (line : ℕ) (lines : List (Option Claim)) → AreStrongest t limits lines → AreBroken t limits line lines []
  strongest_hold line lines is =
      subst (λ ls. AreBroken t limits line ls []) (sym is.is)
      (none_broken line (strongest_by t is.extents) (all_hold is.extents is.are))
