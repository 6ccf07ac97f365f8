-- The right certificate is one for its table: its slots, objects and labels are the table's.
use Rattle.std.{specs.List.AllByRecursion, proofs.Common.{[], ℕ, ◌++◌, ◌<◌, ◌^◌, ◌∙◌, ◌∷◌, ◌≡◌, Bool, List, None, Option, Some, ap, arith}}
use Rattle.std.proofs.Common.{cond, drop, false, filter, fold, get_or, length, lit<, map, option_map, refl, slice_get, subst, suc, sym}
use Rattle.std.proofs.{Common.{true, unwrap_or}, lemmas.{Bool.false≢true, Nat.le_or_l, Option.{get_or_from_slice_get, slice_get_within}}}
use Rattle.base.specs.{declared.{ids.ObjId.ObjId, kind.{Kind.Kind, Kinds.Kinds, TheConstants.Kind.ALL}}, Kinds.{is_among, kind_bit}}
use Rattle.machine.specs.{declared.{cap.Detail.Detail, layout.Initial.Initial, object.ObjectKind.ObjectKind}, Capabilities.gives}
use Rattle.machine.specs.declared.cap.Detail.TheVariants as d
use Rattle.machine.specs.declared.object.ObjectKind.TheVariants as kind
use Rattle.machine.specs.{Layout.{Layout, declared_label, initial_of}, Objects.kind_of_object}
use Rattle.words.proofs.TextLaws.{both}
use Rattle.table.{specs.Rules.{IsDraft, IsLawful, IsOfKind, kind_at}, proofs.Slots.slot_declared}
use Rattle.certificate.specs.{declared.line.Line.Line, Certificate.IsCertificateOf, Kinds.{IsKinds, with_kind}, Line.IsLineFor}
use Rattle.certificate.specs.Right.{cap_line, cap_lines, derive_line, is_cnode, is_thread, kinds_given, label_in, right_certificate}
use Rattle.certificate.{specs.Right.{runs_line, space_line, space_lines}, proofs.Bits.{joins_fold, members_join, with_kind_small}}

-- the kinds that a capability gives

fold_small : (more : List Kind) (kinds : Kinds) → kinds.0 < 2 ^ 17 → (fold with_kind kinds more).0 < 2 ^ 17
fold_small [] kinds small = small
fold_small (kind ∷ more) kinds small = fold_small more (with_kind kinds kind) (with_kind_small kinds kind small)

fold_full : (more : List Kind) (kinds : Kinds) → 0 < kinds.0 → 0 < (fold with_kind kinds more).0
fold_full [] kinds full = full
fold_full (kind ∷ more) kinds full = fold_full more (with_kind kinds kind) (omega (arith, le_or_l kinds.0 (kind_bit kind)))

given_full : (detail : Detail) → 0 < (kinds_given detail).0
given_full d.Untyped = lit< tt
given_full (d.CNode guard) = lit< tt
given_full d.Tcb = lit< tt
given_full (d.Endpoint end) = fold_full (filter (gives (d.Endpoint end)) (drop 2 ALL)) (record { 0 = 2 }) (lit< tt)
given_full (d.Notification end) = fold_full (filter (gives (d.Notification end)) (drop 2 ALL)) (record { 0 = 2 }) (lit< tt)
given_full d.Reply = lit< tt
given_full d.Context = lit< tt
given_full (d.Frame rights) = fold_full (filter (gives (d.Frame rights)) (drop 2 ALL)) (record { 0 = 2 }) (lit< tt)
given_full d.Control = lit< tt

is_given : (detail : Detail) → IsKinds (kinds_given detail)
is_given detail = (given_full detail, fold_small (filter (gives detail) ALL) (record { 0 = 0 }) (lit< tt))

same_filter : {X : Type 0} (p q : X → Bool) (xs : List X) → ((x : X) → p x ≡ q x) → filter p xs ≡ filter q xs
same_filter p q [] same = refl
same_filter p q (x ∷ xs) same = let later = same_filter p q xs same in λ i. cond (same x i) (x ∷ later i) (later i)

-- a set of just these kinds
pub given_kinds : (detail : Detail) (kinds : Kinds) → ((kind : Kind) → is_among kinds.0 kind ≡ gives detail kind) → kinds.0 < 2 ^ 17
    → kinds ≡ kinds_given detail
given_kinds detail kinds each alone =
    sym (joins_fold _ _ _ (members_join kinds alone))
    ∙ ap (fold with_kind (record { 0 = 0 })) (same_filter (is_among kinds.0) (gives detail) ALL each)

-- the labels, slots and objects

label_within : (t : Layout) (id : ObjId) (initial : Initial) → IsDraft t → slice_get t.objects id.0 ≡ Some initial
    → label_in t id < length t.labels
unfolding declared_label initial_of
label_within t id initial draft at =
    let within = slice_get_within t.objects id.0 initial at in
    let is : get_or t.objects id.0 initial ≡ initial = get_or_from_slice_get t.objects id.0 initial initial at in
    let fits : initial.label < length t.labels =
    subst (λ (i : Initial). i.label < length t.labels) is (draft.objects.each id.0 initial within).label in
    subst (λ found. unwrap_or (option_map (λ (i : Initial). i.label) found) 0 < length t.labels) (sym at) fits

is_cnode_kind : (found : Option ObjectKind) → is_cnode found ≡ true → found ≡ Some kind.CNode
is_cnode_kind (Some kind.CNode) h = refl
is_cnode_kind _ h = absurd (false≢true h)

is_thread_kind : (found : Option ObjectKind) → is_thread found ≡ true → found ≡ Some kind.Tcb
is_thread_kind (Some kind.Tcb) h = refl
is_thread_kind _ h = absurd (false≢true h)

of_kind : (t : Layout) (id : ObjId) (k : ObjectKind) → IsDraft t → IsOfKind t.objects id k
    → (kind_at t id ≡ Some k) × (label_in t id < length t.labels)
unfolding kind_at initial_of
of_kind t id k draft is = by (slice_get t.objects id.0) refl is where
  by : (found : Option Initial) → slice_get t.objects id.0 ≡ found
      → option_map (λ (initial : Initial). kind_of_object initial.object) found ≡ Some k
      → (option_map (λ (initial : Initial). kind_of_object initial.object) (slice_get t.objects id.0) ≡ Some k)
      × (label_in t id < length t.labels)
  by (Some initial) at h = (is, label_within t id initial draft at)
  by None at h = cc

-- what holds of each line of those that pass a test

one_line : {X : Type 0} (P : Line → Type 0) (line : X → Line) (x : X) (xs : List X) (test : Bool) → (test ≡ true → P (line x))
    → AllByRecursion P (map line xs) → AllByRecursion P (map line (cond test (x ∷ xs) xs))
one_line P line x xs true here later = (here refl, later)
one_line P line x xs false here later = later

each_line : {X : Type 0} (P : Line → Type 0) (line : X → Line) (p : X → Bool) (xs : List X)
    → ((k : ℕ) (d : X) → k < length xs → p (get_or xs k d) ≡ true → P (line (get_or xs k d)))
    → AllByRecursion P (map line (filter p xs))
each_line P line p [] each = tt
each_line P line p (x ∷ xs) each =
    one_line P line x (filter p xs) (p x) (λ is. each 0 x (omega arith) is)
    (each_line P line p xs (λ k d within. each (suc k) d (omega arith)))

every_line : {X : Type 0} (P : Line → Type 0) (line : X → Line) (xs : List X)
    → ((k : ℕ) (d : X) → k < length xs → P (line (get_or xs k d))) → AllByRecursion P (map line xs)
every_line P line [] each = tt
every_line P line (x ∷ xs) each = (each 0 x (omega arith), every_line P line xs (λ k d within. each (suc k) d (omega arith)))

pub right_is_spelled : (t : Layout) → IsLawful t → IsCertificateOf t (right_certificate t)
right_is_spelled t lawful =
    both (IsLineFor t) _ _ (both (IsLineFor t) _ _ (both (IsLineFor t) _ _ caps spaces) pairs) bindings
  where
    caps : AllByRecursion (IsLineFor t) (cap_lines t)
    caps = each_line (IsLineFor t) (cap_line t) _ t.caps (λ k d within is.
        let filled = get_or t.caps k d in
        let fits = lawful.draft.caps.each k d within in (
          (is_cnode_kind _ is, slot_declared t filled.slot fits.place),
          is_given filled.cap.detail,
          (
            label_within t filled.slot.holder fits.place.holder lawful.draft fits.place.held,
            label_within t filled.cap.object fits.target lawful.draft fits.aimed,
          ),
        ))

    spaces : AllByRecursion (IsLineFor t) (space_lines t)
    spaces = each_line (IsLineFor t) (space_line t) _ t.caps (λ k d within is.
        let filled = get_or t.caps k d in
        let fits = lawful.draft.caps.each k d within in (
          (is_thread_kind _ is, slot_declared t filled.slot fits.place),
          (
            label_within t filled.slot.holder fits.place.holder lawful.draft fits.place.held,
            label_within t filled.cap.object fits.target lawful.draft fits.aimed,
          ),
        ))

    pairs : AllByRecursion (IsLineFor t) (map (derive_line t) t.pairs)
    pairs = every_line (IsLineFor t) (derive_line t) t.pairs (λ k d within.
        let pair = get_or t.pairs k d in
        let fits = lawful.draft.pairs.each k d within in (
          slot_declared t pair.parent fits.parent,
          slot_declared t pair.child fits.child,
          (
            label_within t pair.parent.holder fits.parent.holder lawful.draft fits.parent.held,
            label_within t pair.child.holder fits.child.holder lawful.draft fits.child.held,
          ),
        ))

    bindings : AllByRecursion (IsLineFor t) (map (runs_line t) t.bindings)
    bindings = every_line (IsLineFor t) (runs_line t) t.bindings (λ k d within.
        let binding = get_or t.bindings k d in
        let fits = lawful.draft.bindings.each k d within in
        let thread = of_kind t binding.thread kind.Tcb lawful.draft fits.thread in
        let context = of_kind t binding.context kind.Context lawful.draft fits.context in
        (thread.0, context.0, (thread.1, context.1)))

-- the sections, one after another
pub sections : (t : Layout) (a b c d : List Line) → a ≡ cap_lines t → b ≡ a ++ space_lines t → c ≡ b ++ map (derive_line t) t.pairs
    → d ≡ c ++ map (runs_line t) t.bindings → d ≡ right_certificate t
sections t a b c d caps spaces pairs bindings =
    bindings ∙ ap (λ ls. ls ++ map (runs_line t) t.bindings)
    (pairs ∙ ap (λ ls. ls ++ map (derive_line t) t.pairs) (spaces ∙ ap (λ ls. ls ++ space_lines t) caps))
