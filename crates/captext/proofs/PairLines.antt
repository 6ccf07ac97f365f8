-- Lines for pairs of the derivation tree: such a line is read just where it is the line of a pair that the table takes next.
use Rattle.std.proofs.{Common.{[], ℕ, ◌&&◌, ◌∙◌, ◌∷◌, ◌≡◌, List, Ok, ap, codes, refl, sym, true}, lemmas.Bool.{and_from, and_parts}}
use Rattle.base.specs.declared.ids.SlotRef.{SlotRef}
use Rattle.words.{specs.{declared.faults.Wrong.Wrong as wrong, Parts.IsPart, Reading.bind, Text.IsPlainLine}, proofs.Parts.alone_again}
use Rattle.{words.proofs.{Parts.{alone_takes, both_parts}, WordLaws.plain_bytes}, machine.specs.{declared.layout.Pair.Pair, Layout.Layout}}
use Rattle.table.specs.Building.{AdmitsPair, declares_slot, is_above_pairs, with_pair}
use Rattle.table.specs.{Items.{BeforeBindings, PairItem}, Names.object_named, Rules.{IsDraft, kind_at}}
use Rattle.captext.specs.{Shapes.NamedSlot, Spelling.slot_word, TableText.{object_name, pair_words, place_in, slot_name}}
use Rattle.captext.specs.Tables.{child_line, derived, fits_holder, pair_at, paired, rises, slot_in, takes_pairs}
use Rattle.captext.proofs.{CapLines.slot_spelled, CapTexts.placed, LineLaws.{TakesItem, pairs_again, pairs_take, same_ok}}
use Rattle.captext.proofs.{NameLaws.object_takes, SlotLaws.{IsSlotName, slot_part}, StepLaws.{demand_then, value_then}}

-- the words of the line

abbrev HasPair : NamedSlot × NamedSlot → Type 0
HasPair pair = IsSlotName pair.0 × IsSlotName pair.1

pair_part : IsPart pair_at (λ pair. slot_word pair.0.0 pair.0.1 ∷ slot_word pair.1.0 pair.1.1 ∷ []) HasPair
unfolding pair_at
pair_part = both_parts slot_part slot_part

pub child_line_takes : (t : Layout) (words : List (List ℕ)) (next : Layout) → child_line t words ≡ Ok next
    → TakesItem t (codes "child" ∷ words) next
unfolding child_line derived paired
child_line_takes t words next h =
    let read = alone_takes pair_part (derived t) words next h in
    let parent = read.0.0 in
    let child = read.0.1 in
    let tests =
    demand_then (takes_pairs t && rises (is_above_pairs t) (object_named t child.0) child.1) wrong.Syntax _ next read.3 in
    let parts = and_parts _ _ tests.0 in
    let above = value_then (object_named t parent.0) wrong.UnknownName _ next tests.1 in
    let below = value_then (object_named t child.0) wrong.UnknownName _ next above.2 in
    let fit =
    demand_then (fits_holder (kind_at t above.0) parent.1 && fits_holder (kind_at t below.0) child.1) wrong.WrongKind
    _ next below.2 in
    let fits = and_parts _ _ fit.0 in
    let within =
    demand_then (declares_slot t (slot_in above.0 parent.1) && declares_slot t (slot_in below.0 child.1)) wrong.Limit
    _ next fit.1 in
    let declares = and_parts _ _ within.0 in
    let one = slot_spelled t parent.0 above.0 parent.1 (object_takes t parent.0 above.0 above.1).1 fits.0 in
    let other = slot_spelled t child.0 below.0 child.1 (object_takes t child.0 below.0 below.1).1 fits.1 in
    let rising : is_above_pairs t (slot_in below.0 child.1) ≡ true =
    ap (λ found. rises (is_above_pairs t) found child.1) (sym below.1) ∙ parts.1 in (
      PairItem (record { parent = slot_in above.0 parent.1; child = slot_in below.0 child.1 }),
      record {
        now = pairs_take t parts.0;
        admits = record { rises = rising; parent = declares.0; child = declares.1 };
        words_are = ap (λ ws. codes "child" ∷ ws) (read.1 ∙ (λ i. one i ∷ other i ∷ []));
        grown = same_ok _ _ within.1;
      },
    )

-- the words of a pair as they are read

abbrev slot_names : Layout → SlotRef → NamedSlot
slot_names t slot = (object_name t slot.holder, place_in (kind_at t slot.holder) slot.index)

abbrev pair_names : Layout → Pair → NamedSlot × NamedSlot
pair_names t pair = (slot_names t pair.parent, slot_names t pair.child)

has_pair : (t : Layout) (pair : Pair) → IsDraft t → AdmitsPair t pair → HasPair (pair_names t pair)
has_pair t pair draft admits =
    let one = placed t pair.parent draft admits.parent in
    let other = placed t pair.child draft admits.child in ((one.named, one.indexed), (other.named, other.indexed))

derived_again : (t : Layout) (pair : Pair) → IsDraft t → BeforeBindings t → AdmitsPair t pair
    → derived t (pair_names t pair) ≡ Ok (with_pair t pair)
unfolding derived paired bind
derived_again t pair draft now admits =
    let one = placed t pair.parent draft admits.parent in
    let other = placed t pair.child draft admits.child in
    rw (
      other.found,
      and_from _ _ (pairs_again t now) (ap (is_above_pairs t) other.slot_is ∙ admits.rises),
      one.found,
      and_from _ _ one.fits other.fits,
      and_from _ _ (ap (declares_slot t) one.slot_is ∙ admits.parent) (ap (declares_slot t) other.slot_is ∙ admits.child),
    ) (λ i. Ok (with_pair t (record { parent = one.slot_is i; child = other.slot_is i })))

pub child_line_again : (t : Layout) (pair : Pair) → IsDraft t → BeforeBindings t → AdmitsPair t pair
    → child_line t (slot_name t pair.parent ∷ slot_name t pair.child ∷ []) ≡ Ok (with_pair t pair)
unfolding child_line
child_line_again t pair draft now admits =
    alone_again pair_part (derived t) (pair_names t pair) (has_pair t pair draft admits) ∙ derived_again t pair draft now admits

pub pair_plain : (t : Layout) (pair : Pair) → IsDraft t → AdmitsPair t pair → IsPlainLine (pair_words t pair)
pair_plain t pair draft admits =
    (plain_bytes (codes "child") refl, pair_part.plain (pair_names t pair) (has_pair t pair draft admits))
