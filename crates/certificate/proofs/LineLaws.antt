-- Lines of a certificate: one is read just where it is the line of something that the table has.
use Rattle.std.{specs.List.AllByRecursion, proofs.Common.{[], ℕ, ◌&&◌, ◌++◌, ◌∙◌, ◌∷◌, ◌≡◌, List, Ok, Option, Some, ap, codes, refl, subst}}
use Rattle.std.proofs.{Common.{sym, true}, lemmas.Bool.{and_from, and_parts, false≢true}}
use Rattle.base.specs.declared.{ids.{ObjId.ObjId, SlotRef.SlotRef}, kind.Kinds.Kinds}
use Rattle.machine.specs.{declared.object.ObjectKind.{ObjectKind, ObjectKind as kind}, Layout.Layout}
use Rattle.words.specs.{declared.faults.Wrong.Wrong as wrong, Name.{is_name, name_at}, Parts.{IsPart, by_word, in_turn, keyed}}
use Rattle.words.{specs.{Reading.{IsNotLast, bind, word_at}, Text.{IsPlainLine, IsPlainWord}}, proofs.Parts.{after_word, alone_again}}
use Rattle.words.proofs.{Parts.{alone_takes, both_parts, keyed_part, name_part, read_as_again}, WordLaws.{bind_ok, plain_bytes}}
use Rattle.table.specs.{Building.declares_slot, Names.{label_named, object_named}, Rules.{IsDraft, kind_at}}
use Rattle.captext.specs.{declared.shapes.Place.Place, PolicyText.label_name, Shapes.{NamedSlot, slot_at}, Spelling.slot_word}
use Rattle.captext.specs.declared.shapes.Place.TheVariants as place
use Rattle.captext.specs.{TableText.{object_name, place_in, slot_name}, Tables.{fits_holder, is_thread_and_context, slot_in}}
use Rattle.captext.proofs.{BindLines.{has_name, kinds_take}, CapLines.slot_spelled, CapTexts.placed, LineLaws.same_ok}
use Rattle.captext.proofs.NameLaws.{is_label_name, is_object_name, label_again, label_takes, object_again, object_takes}
use Rattle.captext.proofs.{SlotLaws.{IsSlotName, slot_part}, StepLaws.{demand_then, value_then}}
use Rattle.certificate.specs.{declared.line.Line.Line, Kinds.{IsKinds, kinds_at, kinds_word}, Line.{AreLabels, IsLineFor, line_words}}
use Rattle.certificate.specs.declared.line.Line.TheVariants as line
use Rattle.certificate.specs.Reading.{NamedCap, NamedDerive, NamedLabels, NamedLine, NamedRuns, NamedSpace, cap_at, declared, derive_at}
use Rattle.certificate.specs.Reading.{is_in_cnode, is_root, labels_named, line_by, line_named, line_of, named_line_at, runs_at, space_at}
use Rattle.certificate.proofs.KindWords.{kinds_part}

-- the words of a line

named_words : NamedLine → List (List ℕ)
named_words (NamedCap n) = codes "cap" ∷ slot_word n.0.0 n.0.1 ∷ n.1.0 ∷ kinds_word n.1.1.0 ∷ n.1.1.1 ∷ []
named_words (NamedSpace n) = codes "space" ∷ slot_word n.0.0 n.0.1 ∷ n.1.0 ∷ n.1.1 ∷ []
named_words (NamedDerive n) =
    codes "derive" ∷ slot_word n.0.0 n.0.1 ∷ slot_word n.1.0.0 n.1.0.1 ∷ n.1.1.0 ∷ n.1.1.1 ∷ []
named_words (NamedRuns n) = codes "runs" ∷ n.0 ∷ n.1.0 ∷ n.1.1.0 ∷ n.1.1.1 ∷ []

abbrev IsName : List ℕ → Type 0
IsName name = is_name name ≡ true

abbrev HasCap : NamedSlot × (List ℕ × (Kinds × List ℕ)) → Type 0
HasCap n = IsSlotName n.0 × (IsName n.1.0 × (IsKinds n.1.1.0 × IsName n.1.1.1))

abbrev HasSpace : NamedSlot × NamedLabels → Type 0
HasSpace n = IsSlotName n.0 × (IsName n.1.0 × IsName n.1.1)

abbrev HasDerive : NamedSlot × (NamedSlot × NamedLabels) → Type 0
HasDerive n = IsSlotName n.0 × (IsSlotName n.1.0 × (IsName n.1.1.0 × IsName n.1.1.1))

abbrev HasRuns : List ℕ × (List ℕ × NamedLabels) → Type 0
HasRuns n = IsName n.0 × (IsName n.1.0 × (IsName n.1.1.0 × IsName n.1.1.1))

HasNames : NamedLine → Type 0
HasNames (NamedCap n) = HasCap n
HasNames (NamedSpace n) = HasSpace n
HasNames (NamedDerive n) = HasDerive n
HasNames (NamedRuns n) = HasRuns n

cap_part : IsPart (in_turn slot_at (in_turn name_at (in_turn kinds_at name_at)))
    (λ n. slot_word n.0.0 n.0.1 ∷ n.1.0 ∷ kinds_word n.1.1.0 ∷ n.1.1.1 ∷ []) HasCap
cap_part = both_parts slot_part (both_parts name_part (both_parts kinds_part name_part))

space_part : IsPart (in_turn slot_at (in_turn name_at name_at)) (λ n. slot_word n.0.0 n.0.1 ∷ n.1.0 ∷ n.1.1 ∷ []) HasSpace
space_part = both_parts slot_part (both_parts name_part name_part)

derive_part : IsPart (in_turn slot_at (in_turn slot_at (in_turn name_at name_at)))
    (λ n. slot_word n.0.0 n.0.1 ∷ slot_word n.1.0.0 n.1.0.1 ∷ n.1.1.0 ∷ n.1.1.1 ∷ []) HasDerive
derive_part = both_parts slot_part (both_parts slot_part (both_parts name_part name_part))

runs_part : IsPart (in_turn name_at (in_turn name_at (in_turn name_at name_at)))
    (λ n. n.0 ∷ n.1.0 ∷ n.1.1.0 ∷ n.1.1.1 ∷ []) HasRuns
runs_part = both_parts name_part (both_parts name_part (both_parts name_part name_part))

line_again : (named : NamedLine) (rest : List (List ℕ)) → HasNames named → named_line_at (named_words named ++ rest) ≡ Ok (named, rest)
unfolding named_line_at cap_at space_at derive_at runs_at named_words HasNames keyed by_word bind word_at
line_again (NamedCap n) rest has = read_as_again cap_part NamedCap n rest has
line_again (NamedSpace n) rest has = read_as_again space_part NamedSpace n rest has
line_again (NamedDerive n) rest has = read_as_again derive_part NamedDerive n rest has
line_again (NamedRuns n) rest has = read_as_again runs_part NamedRuns n rest has

plain_line : (named : NamedLine) → HasNames named → AllByRecursion IsPlainWord (named_words named)
unfolding named_words HasNames
plain_line (NamedCap n) has = (plain_bytes (codes "cap") refl, cap_part.plain n has)
plain_line (NamedSpace n) has = (plain_bytes (codes "space") refl, space_part.plain n has)
plain_line (NamedDerive n) has = (plain_bytes (codes "derive") refl, derive_part.plain n has)
plain_line (NamedRuns n) has = (plain_bytes (codes "runs") refl, runs_part.plain n has)

line_part : IsPart named_line_at named_words HasNames
unfolding named_line_at cap_at space_at derive_at runs_at named_words HasNames
line_part = keyed_part named_words HasNames _ (
  after_word cap_part (codes "cap") NamedCap named_words HasNames (λ n. refl) (λ n has. has),
  (
    after_word space_part (codes "space") NamedSpace named_words HasNames (λ n. refl) (λ n has. has),
    (
      after_word derive_part (codes "derive") NamedDerive named_words HasNames (λ n. refl) (λ n has. has),
      (after_word runs_part (codes "runs") NamedRuns named_words HasNames (λ n. refl) (λ n has. has), tt),
    ),
  ),
) line_again plain_line

-- the names of a line are those of what the table has

-- two names that are those of labels
record TakesLabels (t : Layout) (from to : List ℕ) (labels : ℕ × ℕ) : Type 0 where
  are : AreLabels t labels.0 labels.1
  one : from ≡ label_name t labels.0
  other : to ≡ label_name t labels.1

labels_take : (t : Layout) (from to : List ℕ) (labels : ℕ × ℕ) → labels_named t from to ≡ Ok labels → TakesLabels t from to labels
unfolding labels_named
labels_take t from to labels h =
    let first = value_then (label_named t from) wrong.UnknownName _ labels h in
    let second = value_then (label_named t to) wrong.UnknownName _ labels first.2 in
    let one = label_takes t from first.0 first.1 in
    let other = label_takes t to second.0 second.1 in
    let same : (first.0, second.0) ≡ labels = same_ok _ _ second.2 in
    subst (TakesLabels t from to) same (record { are = (one.0, other.0); one = one.1; other = other.1 })

slot_declared : (t : Layout) (holder : ObjId) (at : Place) (slot : SlotRef) → declared t holder at ≡ Ok slot
    → (declares_slot t slot ≡ true) × (slot_in holder at ≡ slot)
unfolding declared
slot_declared t holder at slot h =
    let within = demand_then (declares_slot t (slot_in holder at)) wrong.Limit _ slot h in
    let same : slot_in holder at ≡ slot = same_ok _ _ within.1 in
    (subst (λ s. declares_slot t s ≡ true) same within.0, same)

-- a place in a CNode, and a root slot

in_cnode : (holder : Option ObjectKind) (at : Place) → is_in_cnode holder at ≡ true
    → (holder ≡ Some kind.CNode) × (fits_holder holder at ≡ true)
in_cnode (Some kind.CNode) (place.Index index) h = (refl, refl)
in_cnode _ _ h = absurd (false≢true h)

at_root : (holder : Option ObjectKind) (at : Place) → is_root holder at ≡ true
    → (holder ≡ Some kind.Tcb) × (fits_holder holder at ≡ true)
at_root (Some kind.Tcb) place.Root h = (refl, refl)
at_root _ _ h = absurd (false≢true h)

abbrev TakesLine : Layout → NamedLine → Line → Type 0
TakesLine t named line = (named_words named ≡ line_words t line) × IsLineFor t line

named_takes : (t : Layout) (named : NamedLine) (line : Line) → HasNames named → line_named t named ≡ Ok line → TakesLine t named line
unfolding line_named named_words HasNames
named_takes t (NamedCap n) line has h =
    let holder = value_then (object_named t n.0.0) wrong.UnknownName _ line h in
    let labels = bind_ok (labels_named t n.1.0 n.1.1.1) _ line holder.2 in
    let fit = demand_then (is_in_cnode (kind_at t holder.0) n.0.1) wrong.WrongKind _ line labels.2 in
    let slot = bind_ok (declared t holder.0 n.0.1) _ line fit.1 in
    let are = labels_take t n.1.0 n.1.1.1 labels.0 labels.1 in
    let fits = in_cnode (kind_at t holder.0) n.0.1 fit.0 in
    let is = slot_declared t holder.0 n.0.1 slot.0 slot.1 in
    let word = slot_spelled t n.0.0 holder.0 n.0.1 (object_takes t n.0.0 holder.0 holder.1).1 fits.1 ∙ ap (slot_name t) is.1 in
    subst (TakesLine t (NamedCap n)) (same_ok _ _ slot.2) (
      (λ i. codes "cap" ∷ word i ∷ are.one i ∷ kinds_word n.1.1.0 ∷ are.other i ∷ []),
      ((ap (λ (s : SlotRef). kind_at t s.holder) (sym is.1) ∙ fits.0, is.0), has.1.1.0, are.are),
    )
named_takes t (NamedSpace n) line has h =
    let holder = value_then (object_named t n.0.0) wrong.UnknownName _ line h in
    let labels = bind_ok (labels_named t n.1.0 n.1.1) _ line holder.2 in
    let fit = demand_then (is_root (kind_at t holder.0) n.0.1) wrong.WrongKind _ line labels.2 in
    let slot = bind_ok (declared t holder.0 n.0.1) _ line fit.1 in
    let are = labels_take t n.1.0 n.1.1 labels.0 labels.1 in
    let fits = at_root (kind_at t holder.0) n.0.1 fit.0 in
    let is = slot_declared t holder.0 n.0.1 slot.0 slot.1 in
    let word = slot_spelled t n.0.0 holder.0 n.0.1 (object_takes t n.0.0 holder.0 holder.1).1 fits.1 ∙ ap (slot_name t) is.1 in
    subst (TakesLine t (NamedSpace n)) (same_ok _ _ slot.2) (
      (λ i. codes "space" ∷ word i ∷ are.one i ∷ are.other i ∷ []),
      ((ap (λ (s : SlotRef). kind_at t s.holder) (sym is.1) ∙ fits.0, is.0), are.are),
    )
named_takes t (NamedDerive n) line has h =
    let above = value_then (object_named t n.0.0) wrong.UnknownName _ line h in
    let below = value_then (object_named t n.1.0.0) wrong.UnknownName _ line above.2 in
    let labels = bind_ok (labels_named t n.1.1.0 n.1.1.1) _ line below.2 in
    let fit =
    demand_then (fits_holder (kind_at t above.0) n.0.1 && fits_holder (kind_at t below.0) n.1.0.1) wrong.WrongKind _ line labels.2 in
    let parent = bind_ok (declared t above.0 n.0.1) _ line fit.1 in
    let child = bind_ok (declared t below.0 n.1.0.1) _ line parent.2 in
    let are = labels_take t n.1.1.0 n.1.1.1 labels.0 labels.1 in
    let fits = and_parts _ _ fit.0 in
    let one = slot_declared t above.0 n.0.1 parent.0 parent.1 in
    let other = slot_declared t below.0 n.1.0.1 child.0 child.1 in
    let first = slot_spelled t n.0.0 above.0 n.0.1 (object_takes t n.0.0 above.0 above.1).1 fits.0 ∙ ap (slot_name t) one.1 in
    let second =
    slot_spelled t n.1.0.0 below.0 n.1.0.1 (object_takes t n.1.0.0 below.0 below.1).1 fits.1 ∙ ap (slot_name t) other.1 in
    subst (TakesLine t (NamedDerive n)) (same_ok _ _ child.2) (
      (λ i. codes "derive" ∷ first i ∷ second i ∷ are.one i ∷ are.other i ∷ []),
      (one.0, other.0, are.are),
    )
named_takes t (NamedRuns n) line has h =
    let thread = value_then (object_named t n.0) wrong.UnknownName _ line h in
    let context = value_then (object_named t n.1.0) wrong.UnknownName _ line thread.2 in
    let labels = bind_ok (labels_named t n.1.1.0 n.1.1.1) _ line context.2 in
    let fit = demand_then (is_thread_and_context (kind_at t thread.0) (kind_at t context.0)) wrong.WrongKind _ line labels.2 in
    let are = labels_take t n.1.1.0 n.1.1.1 labels.0 labels.1 in
    let kinds = kinds_take (kind_at t thread.0) (kind_at t context.0) fit.0 in
    let first = (object_takes t n.0 thread.0 thread.1).1 in
    let second = (object_takes t n.1.0 context.0 context.1).1 in
    subst (TakesLine t (NamedRuns n)) (same_ok _ _ fit.1) (
      (λ i. codes "runs" ∷ first i ∷ second i ∷ are.one i ∷ are.other i ∷ []),
      (kinds.0, kinds.1, are.are),
    )

pub line_read : (t : Layout) (words : List (List ℕ)) (line : Line) → line_of t words ≡ Ok line
    → (words ≡ line_words t line) × IsLineFor t line
unfolding line_by
line_read t words line h =
    let read = alone_takes line_part (line_named t) words line h in
    let is = named_takes t read.0 line read.2 read.3 in
    (read.1 ∙ is.0, is.1)

-- the names of a line are read back

slot_names : Layout → SlotRef → NamedSlot
slot_names t slot = (object_name t slot.holder, place_in (kind_at t slot.holder) slot.index)

names_of : Layout → Line → NamedLine
names_of t (line.Cap slot from kinds to) = NamedCap (slot_names t slot, (label_name t from, (kinds, label_name t to)))
names_of t (line.Space slot from to) = NamedSpace (slot_names t slot, (label_name t from, label_name t to))
names_of t (line.Derive parent child from to) =
    NamedDerive (slot_names t parent, (slot_names t child, (label_name t from, label_name t to)))
names_of t (line.Runs thread context from to) =
    NamedRuns (object_name t thread, (object_name t context, (label_name t from, label_name t to)))

names_are : (t : Layout) (line : Line) → named_words (names_of t line) ≡ line_words t line
unfolding named_words names_of slot_names
names_are t (line.Cap slot from kinds to) = refl
names_are t (line.Space slot from to) = refl
names_are t (line.Derive parent child from to) = refl
names_are t (line.Runs thread context from to) = refl

slot_has : (t : Layout) (slot : SlotRef) → IsDraft t → declares_slot t slot ≡ true → IsSlotName (slot_names t slot)
unfolding slot_names
slot_has t slot draft declares = let p = placed t slot draft declares in (p.named, p.indexed)

has_names : (t : Layout) (line : Line) → IsDraft t → IsLineFor t line → HasNames (names_of t line)
unfolding HasNames names_of
has_names t (line.Cap slot from kinds to) draft is = (
  slot_has t slot draft is.0.1,
  (is_label_name t from draft is.2.0, (is.1, is_label_name t to draft is.2.1)),
)
has_names t (line.Space slot from to) draft is =
    (slot_has t slot draft is.0.1, (is_label_name t from draft is.1.0, is_label_name t to draft is.1.1))
has_names t (line.Derive parent child from to) draft is = (
  slot_has t parent draft is.0,
  (slot_has t child draft is.1, (is_label_name t from draft is.2.0, is_label_name t to draft is.2.1)),
)
has_names t (line.Runs thread context from to) draft is = (
  is_object_name t thread draft (has_name t thread kind.Tcb draft is.0),
  (
    is_object_name t context draft (has_name t context kind.Context draft is.1),
    (is_label_name t from draft is.2.0, is_label_name t to draft is.2.1),
  ),
)

labels_again : (t : Layout) (from to : ℕ) → IsDraft t → AreLabels t from to
    → labels_named t (label_name t from) (label_name t to) ≡ Ok (from, to)
unfolding labels_named bind
labels_again t from to draft are = rw (label_again t from draft are.0, label_again t to draft are.1) refl

slot_again : (t : Layout) (slot : SlotRef) → IsDraft t → declares_slot t slot ≡ true
    → declared t slot.holder (place_in (kind_at t slot.holder) slot.index) ≡ Ok slot
unfolding declared bind
slot_again t slot draft declares =
    let p = placed t slot draft declares in
    rw (ap (declares_slot t) p.slot_is ∙ declares) (λ i. Ok (p.slot_is i))

named_again : (t : Layout) (line : Line) → IsDraft t → IsLineFor t line → line_named t (names_of t line) ≡ Ok line
unfolding line_named names_of slot_names bind
named_again t (line.Cap slot from kinds to) draft is =
    let fits : is_in_cnode (kind_at t slot.holder) (place_in (kind_at t slot.holder) slot.index) ≡ true =
    ap (λ k. is_in_cnode k (place_in k slot.index)) is.0.0 in
    rw ((placed t slot draft is.0.1).found, labels_again t from to draft is.2, fits, slot_again t slot draft is.0.1) refl
named_again t (line.Space slot from to) draft is =
    let fits : is_root (kind_at t slot.holder) (place_in (kind_at t slot.holder) slot.index) ≡ true =
    ap (λ k. is_root k (place_in k slot.index)) is.0.0 in
    rw ((placed t slot draft is.0.1).found, labels_again t from to draft is.1, fits, slot_again t slot draft is.0.1) refl
named_again t (line.Derive parent child from to) draft is =
    let one = placed t parent draft is.0 in
    let other = placed t child draft is.1 in
    rw (
      one.found,
      other.found,
      labels_again t from to draft is.2,
      and_from _ _ one.fits other.fits,
      slot_again t parent draft is.0,
      slot_again t child draft is.1,
    ) refl
named_again t (line.Runs thread context from to) draft is =
    rw (
      object_again t thread draft (has_name t thread kind.Tcb draft is.0),
      object_again t context draft (has_name t context kind.Context draft is.1),
      labels_again t from to draft is.2,
      is.0,
      is.1,
    ) refl

pub line_is_read : (t : Layout) (line : Line) → IsDraft t → IsLineFor t line → line_of t (line_words t line) ≡ Ok line
unfolding line_by
line_is_read t line draft is =
    ap (line_of t) (sym (names_are t line)) ∙ alone_again line_part (line_named t) (names_of t line) (has_names t line draft is)
    ∙ named_again t line draft is

pub plain : (t : Layout) (line : Line) → IsDraft t → IsLineFor t line → IsPlainLine (line_words t line)
unfolding named_words names_of slot_names
plain t (line.Cap slot from kinds to) draft is = let l = line.Cap slot from kinds to in plain_line (names_of t l) (has_names t l draft is)
plain t (line.Space slot from to) draft is = let l = line.Space slot from to in plain_line (names_of t l) (has_names t l draft is)
plain t (line.Derive parent child from to) draft is =
    let l = line.Derive parent child from to in plain_line (names_of t l) (has_names t l draft is)
plain t (line.Runs thread context from to) draft is =
    let l = line.Runs thread context from to in plain_line (names_of t l) (has_names t l draft is)

pub not_last : (t : Layout) (line : Line) → IsNotLast (line_words t line)
not_last t (line.Cap slot from kinds to) = refl
not_last t (line.Space slot from to) = refl
not_last t (line.Derive parent child from to) = refl
not_last t (line.Runs thread context from to) = refl
