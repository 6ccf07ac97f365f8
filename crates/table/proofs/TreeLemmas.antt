-- The tests of the derivation tree: they decide its rules, and marking capabilities as original changes only the marks.
use Rattle.std.specs.{declared.cmp.Ordering.TheVariants.Less, Bool.Decides, Cmp.tied_itself, List.{find, list_any, position_or_len}}
use Rattle.std.{specs.{Option.option_and_then, Ordering.is_eq}, proofs.Common.{[], ℕ, ◌++◌, ◌+◌, ◌<◌, ◌==◌, ◌||◌, ◌∙◌, ◌∷◌, ◌≡◌, ◌≤◌, ◌⊎◌}}
use Rattle.std.proofs.Common.{All, AllPairs, Bool, List, None, Option, Some, ap, arith, cond, false, get_or, is_some, length, map, nat_lt}
use Rattle.std.proofs.{Common.{not, option_map, refl, set, subst, sym, take, true}, Math.Seq.map-set_same, lemmas.Bool.and_from}
use Rattle.std.proofs.lemmas.Bool.{and_parts, eq-eqb, eqb-true, false≢true, le-ltb, lt-ltb, not-false, not_from_true, Decides.Decides-eqb}
use Rattle.std.proofs.lemmas.{Bool.Decides.Decides-or, List.{get_or-map, get_or-set_other, length-map, map_push, take_more, take_more_set}}
use Rattle.std.proofs.lemmas.{List.{Elements.{All-head, All-map, All-tail, All-weaker}, Sums.position_or_len_is}, Simd.map-map}
use Rattle.base.specs.declared.ids.SlotRef.{SlotRef}
use Rattle.machine.specs.declared.{cap.{Cap.Cap, Detail.Detail}, layout.{Filled.Filled, Pair.Pair}, object.ObjectKind.ObjectKind as kind}
use Rattle.machine.specs.{Capabilities.{badge_of, kind_of_detail}, Layout.{Layout, initial_cap, initial_parent}, Machine.same_id}
use Rattle.machine.{specs.Machine.{same_slot, slot_cmp}, proofs.LookUps.{id_total, one_id}}
use Rattle.table.specs.{Aims.Marks, Rules.{IsCapOf, IsDraft, IsLawful, Rises}, Tree.{IsPairOf, are_kin, is_kin, is_original}}
use Rattle.table.{specs.Tree.{is_original_from, source_of, tree_fault, tree_of, with_mark, with_originals}, proofs.FrontLemmas.none_passes}
use Rattle.table.proofs.{ListLemmas.not_any, NameLemmas.{list_any-none, list_any-position}}

-- a pair passes the test exactly if it keeps the rules

badges :
    (above below : Detail)
    → Decides (badge_of above == 0 || badge_of above == badge_of below) ((badge_of above ≡ 0) ⊎ (badge_of above ≡ badge_of below))
badges above below = Decides-or _ _ (Decides-eqb _ _) (Decides-eqb _ _)

pub pair_from_kin : (t : Layout) (pair : Pair) → is_kin t pair ≡ true → IsPairOf t pair
unfolding is_kin
pair_from_kin t pair e = by (initial_cap t pair.parent) (initial_cap t pair.child) refl refl e where
  by :
      (above below : Option Cap) → initial_cap t pair.parent ≡ above → initial_cap t pair.child ≡ below
      → are_kin above below ≡ true → IsPairOf t pair
  by (Some above) (Some below) at_above at_below e =
      let rights = and_parts _ _ e in
      let badge = and_parts _ _ rights.0 in
      let original = and_parts _ _ badge.0 in
      record {
        above = above;
        below = below;
        parent = at_above;
        child = at_below;
        object = one_id _ _ original.0;
        original = original.1;
        badge = (badges above.detail below.detail).0 badge.1;
        rights = eqb-true _ _ rights.1;
      }
  by _ _ at_above at_below e = absurd (false≢true e)

pub kin_from_pair : (t : Layout) (pair : Pair) → IsPairOf t pair → is_kin t pair ≡ true
unfolding is_kin
kin_from_pair t pair h =
    (λ i. are_kin (h.parent i) (h.child i))
    ∙ and_from _ _
    (and_from _ _
    (and_from _ _ (ap (λ id. same_id id h.below.object) h.object ∙ ap is_eq (tied_itself id_total h.below.object)) h.original)
    ((badges h.above.detail h.below.detail).1 h.badge))
    (eq-eqb _ _ h.rights)

pub tree_from_none : (t : Layout) → tree_fault t ≡ None → All (IsPairOf t) t.pairs
unfolding tree_fault
tree_from_none t none k d within =
    let fails : Pair → Bool = λ pair. not (is_kin t pair) in
    let passes = not_any fails t.pairs (list_any-none fails t.pairs (ap is_some none)) k d within in
    pair_from_kin t (get_or t.pairs k d) (not-false _ passes)

pub none_from_tree : (t : Layout) → All (IsPairOf t) t.pairs → tree_fault t ≡ None
unfolding tree_fault
none_from_tree t all =
    let fails : Pair → Bool = λ pair. not (is_kin t pair) in
    ap (λ found. cond found (Some (position_or_len fails t.pairs)) None)
    (sym (list_any-position fails t.pairs)
    ∙ none_passes fails t.pairs (λ k d within. not_from_true _ (kin_from_pair t (get_or t.pairs k d) (all k d within))))

-- the first pair that breaks a rule, or that no pair does

pub fault_here :
    (caps : List Filled) (pairs : List Pair) (i : ℕ) (d : Pair) → i < length pairs
    → ((k : ℕ) (e : Pair) → k < i → is_kin (tree_of caps []) (get_or pairs k e) ≡ true)
    → is_kin (tree_of caps []) (get_or pairs i d) ≡ false → tree_fault (tree_of caps pairs) ≡ Some i
unfolding tree_fault is_kin initial_cap
fault_here caps pairs i d within before at =
    let fails : Pair → Bool = λ pair. not (is_kin (tree_of caps pairs) pair) in
    let first : position_or_len fails pairs ≡ i =
    position_or_len_is fails pairs i d (omega arith) (λ k lower. ap not (before k d lower)) (λ _. ap not at) in
    ap (λ n. cond (nat_lt n (length pairs)) (Some n) None) first ∙ ap (λ b. cond b (Some i) None) (lt-ltb _ _ within)

pub fault_nowhere :
    (caps : List Filled) (pairs : List Pair) (d : Pair)
    → ((k : ℕ) (e : Pair) → k < length pairs → is_kin (tree_of caps []) (get_or pairs k e) ≡ true)
    → tree_fault (tree_of caps pairs) ≡ None
unfolding tree_fault is_kin initial_cap
fault_nowhere caps pairs d all =
    let fails : Pair → Bool = λ pair. not (is_kin (tree_of caps pairs) pair) in
    let first : position_or_len fails pairs ≡ length pairs =
    position_or_len_is fails pairs (length pairs) d (omega arith) (λ k lower. ap not (all k d lower)) (λ below. absurd (omega (arith, below))) in
    ap (λ n. cond (nat_lt n (length pairs)) (Some n) None) first
    ∙ ap (λ b. cond b (Some (length pairs)) None) (le-ltb (length pairs) (length pairs) (omega arith))

-- filled slots with other marks

abbrev pub remark : (Filled → Bool) → Filled → Filled
remark mark filled = record filled { cap = record filled.cap { original = mark filled } }

abbrev pub as_original : Filled → Filled
as_original filled = remark (λ _. true) filled

abbrev pub unmarked : Layout → Layout
unmarked t = record t { caps = map as_original t.caps }

remarked : (mark : Filled → Bool) (t : Layout) → unmarked (record t { caps = map (remark mark) t.caps }) ≡ unmarked t
remarked mark t = λ i. record t { caps = map-map as_original (remark mark) t.caps i }

find_map : {X Y : Type 0} (p : Y → Bool) (f : X → Y) (xs : List X) → find p (map f xs) ≡ option_map f (find (λ x. p (f x)) xs)
find_map p f [] = refl
find_map {X} {Y} p f (x ∷ xs) = by (p (f x)) _ _ (find_map p f xs) where
  by :
      (here : Bool) (later : Option Y) (rest : Option X) → later ≡ option_map f rest
      → cond here (Some (f x)) later ≡ option_map f (cond here (Some x) rest)
  by true later rest e = refl
  by false later rest e = e

-- whether a capability is original doesn't depend on marks
original_unmarked : (t : Layout) (slot : SlotRef) (detail : Detail) → is_original (unmarked t) slot detail ≡ is_original t slot detail
unfolding is_original source_of initial_cap initial_parent
original_unmarked t slot detail = by (option_map (λ pair. pair.parent) (find (λ pair. same_slot pair.child slot) t.pairs)) where
  from :
      (found : Option Filled)
      → is_original_from (option_map (λ (f : Filled). f.cap) (option_map as_original found)) detail
      ≡ is_original_from (option_map (λ (f : Filled). f.cap) found) detail
  from None = refl
  from (Some filled) = refl

  by :
      (parent : Option SlotRef)
      → is_original_from (option_and_then (initial_cap (unmarked t)) parent) detail
      ≡ is_original_from (option_and_then (initial_cap t) parent) detail
  by None = refl
  by (Some parent) =
      ap (λ found. is_original_from (option_map (λ (f : Filled). f.cap) found) detail)
      (find_map (λ filled. same_slot filled.slot parent) as_original t.caps)
      ∙ from (find (λ filled. same_slot filled.slot parent) t.caps)

-- two tables that differ only in marks have the same original capabilities
original_same :
    (t u : Layout) → unmarked t ≡ unmarked u → (slot : SlotRef) (detail : Detail) → is_original t slot detail ≡ is_original u slot detail
original_same t u same slot detail =
    sym (original_unmarked t slot detail) ∙ ap (λ t. is_original t slot detail) same ∙ original_unmarked u slot detail

pairs_map :
    {X : Type 0} (R : X → X → Type 0) (f : X → X) (xs : List X) → AllPairs (λ one other. R (f one) (f other)) xs
    → AllPairs R (map f xs)
pairs_map R f xs h i j d lower within =
    let size = length-map xs f in
    let in_list : j < length xs = omega arith in
    subst (λ one. R one (get_or (map f xs) j d)) (sym (get_or-map f xs i d d (omega arith)))
    (subst (R (f (get_or xs i d))) (sym (get_or-map f xs j d d in_list)) (h i j d lower in_list))

pub draft_remarked : (mark : Filled → Bool) (t : Layout) → IsDraft t → IsDraft (record t { caps = map (remark mark) t.caps })
draft_remarked mark t h = record {
  labels = h.labels;
  objects = h.objects;
  caps = record {
    each =
        All-map (IsCapOf t.objects) (remark mark) t.caps
        (All-weaker (IsCapOf t.objects) (λ filled. IsCapOf t.objects (remark mark filled))
        (λ filled is.
        record { place = is.place; target = is.target; aimed = is.aimed; root = is.root; detail = is.detail })
        t.caps h.caps.each);
    rise = pairs_map (λ one other. slot_cmp one.slot other.slot ≡ Less) (remark mark) t.caps h.caps.rise;
    untypeds_once =
        pairs_map (λ one other. kind_of_detail other.cap.detail ≡ kind.Untyped → one.cap.object ≡ other.cap.object → ⊥)
        (remark mark) t.caps h.caps.untypeds_once;
  };
  pairs = h.pairs;
  bindings = h.bindings;
}

-- a draft whose tree has no fault is a table once its capabilities are marked
pub lawful_marked : (draft : Layout) → IsDraft draft → tree_fault (with_originals draft) ≡ None → IsLawful (with_originals draft)
lawful_marked draft h none = record {
  draft = draft_remarked mark draft h;
  marked =
      All-map (λ filled. filled.cap.original ≡ is_original (with_originals draft) filled.slot filled.cap.detail)
      (with_mark draft) draft.caps
      (λ k d within.
      let filled = get_or draft.caps k d in
      original_same draft (with_originals draft) (sym (remarked mark draft)) filled.slot filled.cap.detail);
  tree = tree_from_none (with_originals draft) none;
} where
  mark : Filled → Bool
  mark filled = is_original draft filled.slot filled.cap.detail

-- a lawful table is made from the draft in which all its capabilities are marked original

map_same : {X : Type 0} (f : X → X) (xs : List X) → All (λ x. f x ≡ x) xs → map f xs ≡ xs
map_same f [] all = refl
map_same {X} f (x ∷ xs) all =
    let P : X → Type 0 = λ x. f x ≡ x in (λ i. All-head P x xs all i ∷ map_same f xs (All-tail P x xs all) i)

pub marked_again : (t : Layout) → IsLawful t → with_originals (unmarked t) ≡ t
marked_again t lawful = λ i. record t { caps = again i } where
  again : map (with_mark (unmarked t)) (map as_original t.caps) ≡ t.caps
  again =
      map-map (with_mark (unmarked t)) as_original t.caps
      ∙ map_same (λ filled. with_mark (unmarked t) filled) t.caps
      (λ k d within.
      let filled = get_or t.caps k d in
      let same = original_unmarked t filled.slot filled.cap.detail ∙ sym (lawful.marked k d within) in
      λ i. record filled { cap = record filled.cap { original = same i } })

-- marking leaves capabilities with their objects
pub marks_marked : (mark : Filled → Bool) (caps : List Filled) (aimed : List Bool) → Marks caps aimed → Marks (map (remark mark) caps) aimed
marks_marked mark caps aimed h object = h object ∙ sym (same caps) where
  aims : Filled → Bool
  aims filled = same_id filled.cap.object object

  same : (caps : List Filled) → list_any aims (map (remark mark) caps) ≡ list_any aims caps
  same [] = refl
  same (filled ∷ caps) = ap (λ rest. aims filled || rest) (same caps)

-- slots that differ only in marks rise alike
pub rises_same : (caps others : List Filled) → map as_original caps ≡ map as_original others → Rises others → Rises caps
rises_same caps others same rise i j d lower within =
    let size = length-map caps as_original in
    let rising : Rises (map as_original caps) = subst Rises (sym same) (pairs_map After as_original others rise) in
    subst (After (get_or caps i d)) (get_or-map as_original caps j d d within)
    (subst (λ one. After one (get_or (map as_original caps) j d)) (get_or-map as_original caps i d d (omega arith))
    (rising i j d lower (omega arith)))
  where
    After : Filled → Filled → Type 0
    After one other = slot_cmp one.slot other.slot ≡ Less

-- the slots before an index are marked, and all others are as they were
pub record Marked (before caps : List Filled) (mark : Filled → Filled) (i : ℕ) : Type 0 where
  pub same : map as_original caps ≡ map as_original before
  pub front : take i caps ≡ map mark (take i before)
  pub rest : (k : ℕ) (d : Filled) → i ≤ k → get_or caps k d ≡ get_or before k d

pub mark_step :
    (before caps : List Filled) (pairs : List Pair) (i : ℕ) (d : Filled) (original : Bool)
    → Marked before caps (with_mark (tree_of before pairs)) i → i < length caps
    → original ≡ is_original (tree_of caps pairs) (get_or caps i d).slot (get_or caps i d).cap.detail
    → Marked before (set caps i (remark (λ _. original) (get_or caps i d))) (with_mark (tree_of before pairs)) (i + 1)
mark_step before caps pairs i d original h within is = record {
  same = map-set_same as_original caps i filled d refl ∙ h.same;
  front =
      take_more_set caps i filled within ∙ (λ j. h.front j ++ (here ∙ ap mark (h.rest i d (omega arith))) j ∷ [])
      ∙ sym (map_push mark (take i before) (get_or before i d)) ∙ ap (map mark) (sym (take_more before i d in_before));
  rest = λ k e above. get_or-set_other caps i k filled e (omega arith) ∙ h.rest k e (omega arith);
} where
  mark : Filled → Filled
  mark = with_mark (tree_of before pairs)

  filled : Filled
  filled = remark (λ _. original) (get_or caps i d)

  in_before : i < length before
  in_before = let size = sym (length-map caps as_original) ∙ ap length h.same ∙ length-map before as_original in omega arith

  here : filled ≡ mark (get_or caps i d)
  here = ap (λ mark. remark (λ _. mark) (get_or caps i d))
      (is ∙ original_same (tree_of caps pairs) (tree_of before pairs) (λ j. tree_of (h.same j) pairs) (get_or caps i d).slot (get_or caps i d).cap.detail)
