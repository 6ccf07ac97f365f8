-- That the drafts whose capabilities are all marked original are exactly those that are built up item by item.
use Rattle.std.proofs.{Common.{[], ℕ, ◌++◌, ◌∷◌, ◌≡◌, All, List, arith, length, refl, subst, sym, true}, lemmas.List.append-nil}
use Rattle.std.proofs.lemmas.List.{append_assoc, Elements.{All-nil, All-push}}
use Rattle.machine.specs.{declared.layout.{Filled.Filled, Initial.Initial, Pair.Pair, Version.Version}, Layout.{Layout, empty_layout}}
use Rattle.table.specs.Items.{Admits, BindingItem, CapItem, ComesNow, IsBuiltUp, Item, LabelItem, ObjectItem, PairItem, more, none}
use Rattle.table.{specs.{Items.with_item, Rules.IsDraft}, proofs.{BindingAdded.draft_binding, BindingRemoved.binding_removed}}
use Rattle.table.proofs.{CapAdded.draft_filled, CapRemoved.cap_removed, DraftKept.draft_empty, FrontLemmas.{all_front, from_front}}
use Rattle.table.proofs.{LabelAdded.draft_label, LabelRemoved.label_removed, ObjectAdded.draft_initial, ObjectRemoved.object_removed}
use Rattle.table.proofs.Pairs.{draft_pair, pair_removed}

abbrev pub AllOriginal : Layout → Type 0
AllOriginal t = All (λ filled. filled.cap.original ≡ true) t.caps

-- a draft whose capabilities are all marked original
abbrev IsBuilt : Layout → Type 0
IsBuilt t = IsDraft t × AllOriginal t

item_added : (t : Layout) (item : Item) → IsBuilt t → Admits t item → IsBuilt (with_item t item)
item_added t (LabelItem name) h admits = (draft_label t name h.0 admits, h.1)
item_added t (ObjectItem name initial) h admits = (draft_initial t name initial h.0 admits, h.1)
item_added t (CapItem filled) h admits =
    (draft_filled t filled h.0 admits, All-push (λ (f : Filled). f.cap.original ≡ true) t.caps filled h.1 admits.original)
item_added t (PairItem pair) h admits = (draft_pair t pair h.0 admits, h.1)
item_added t (BindingItem binding) h admits = (draft_binding t binding h.0 admits, h.1)

pub draft_from_built : {t : Layout} → IsBuiltUp t → IsDraft t × AllOriginal t
draft_from_built (none version) = (draft_empty version, All-nil _)
draft_from_built (more {t} item built now admits) = item_added t item (draft_from_built built) admits

item_removed : (t : Layout) (item : Item) → ComesNow t item → IsBuilt (with_item t item) → IsBuilt t × Admits t item
item_removed t (LabelItem name) now h = let front = label_removed t name now h.0 in ((front.0, h.1), front.1)
item_removed t (ObjectItem name initial) now h = let front = object_removed t name initial now h.0 in ((front.0, h.1), front.1)
item_removed t (CapItem filled) now h =
    let originals = all_front (λ (f : Filled). f.cap.original ≡ true) t.caps filled h.1 in
    let front = cap_removed t filled originals.1 h.0 in
    ((front.0, originals.0), front.1)
item_removed t (PairItem pair) now h = let front = pair_removed t pair h.0 in ((front.0, h.1), front.1)
item_removed t (BindingItem binding) now h = let front = binding_removed t binding h.0 in ((front.0, h.1), front.1)

-- a table is built up if it is such a draft
abbrev Builds : Layout → Type 0
Builds t = IsBuilt t → IsBuiltUp t

one_more : (t : Layout) (item : Item) → ComesNow t item → Builds t → Builds (with_item t item)
one_more t item now builds h = let front = item_removed t item now h in more item (builds front.0) now front.1

-- tables that have only the first sections

abbrev with_labels : Version → List (List ℕ) → Layout
with_labels version labels = record (empty_layout version) { labels = labels }

abbrev with_objects : Version → List (List ℕ) → List (List ℕ) → List Initial → Layout
with_objects version labels names objects = record (with_labels version labels) { names = names; objects = objects }

abbrev with_caps : Layout → List Filled → Layout
with_caps t caps = record t { caps = caps; pairs = []; bindings = [] }

abbrev with_pairs : Layout → List Pair → Layout
with_pairs t pairs = record t { pairs = pairs; bindings = [] }

by_labels : (version : Version) (labels : List (List ℕ)) → Builds (with_labels version labels)
by_labels version labels =
    from_front (λ front. Builds (with_labels version front))
    (λ front name. one_more (with_labels version front) (LabelItem name) (refl, (refl, (refl, refl)))) [] labels
    (λ _. none version)

by_objects :
    (version : Version) (labels front : List (List ℕ)) (first : List Initial) (names : List (List ℕ)) (objects : List Initial)
    → length names ≡ length objects → Builds (with_objects version labels front first)
    → Builds (with_objects version labels (front ++ names) (first ++ objects))
by_objects version labels front first [] [] same h =
    subst (λ os. Builds (with_objects version labels (front ++ []) os)) (sym (append-nil first))
    (subst (λ ns. Builds (with_objects version labels ns first)) (sym (append-nil front)) h)
by_objects version labels front first [] (initial ∷ objects) same h = absurd (omega arith)
by_objects version labels front first (name ∷ names) [] same h = absurd (omega arith)
by_objects version labels front first (name ∷ names) (initial ∷ objects) same h =
    let longer =
    by_objects version labels (front ++ name ∷ []) (first ++ initial ∷ []) names objects (omega arith)
    (one_more (with_objects version labels front first) (ObjectItem name initial) (refl, (refl, refl)) h) in
    subst (λ os. Builds (with_objects version labels (front ++ name ∷ names) os)) (append_assoc first (initial ∷ []) objects)
    (subst (λ ns. Builds (with_objects version labels ns ((first ++ initial ∷ []) ++ objects)))
    (append_assoc front (name ∷ []) names) longer)

by_caps : (t : Layout) → Builds (with_caps t []) → Builds (with_caps t t.caps)
by_caps t start =
    from_front (λ front. Builds (with_caps t front)) (λ front filled. one_more (with_caps t front) (CapItem filled) (refl, refl))
    [] t.caps start

by_pairs : (t : Layout) → Builds (with_pairs t []) → Builds (with_pairs t t.pairs)
by_pairs t start =
    from_front (λ front. Builds (with_pairs t front)) (λ front pair. one_more (with_pairs t front) (PairItem pair) refl)
    [] t.pairs start

by_bindings : (t : Layout) → Builds (record t { bindings = [] }) → Builds t
by_bindings t start =
    from_front (λ front. Builds (record t { bindings = front }))
    (λ front binding. one_more (record t { bindings = front }) (BindingItem binding) tt) [] t.bindings start

pub built_from_draft : (t : Layout) → IsDraft t → AllOriginal t → IsBuiltUp t
built_from_draft t draft original =
    let objects : Builds (with_caps t []) =
    by_objects t.version t.labels [] [] t.names t.objects draft.objects.named (by_labels t.version t.labels) in
    by_bindings t (by_pairs t (by_caps t objects)) (draft, original)
