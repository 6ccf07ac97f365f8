-- That a draft stays a draft when a pair of the derivation tree is added; and that a draft without its last pair is one, and admits it.
use Rattle.std.{specs.declared.cmp.Ordering.TheVariants.Less, proofs.{Common.◌≡◌, lemmas.List.Elements.All-push}}
use Rattle.{std.proofs.lemmas.List.Quantifiers.all_pairs_push, machine.specs.{declared.layout.Pair.Pair, Layout.Layout, Machine.slot_cmp}}
use Rattle.table.specs.{Building.{AdmitsPair, is_above_pairs, with_pair}, Rules.{IsDraft, IsSlotPair}}
use Rattle.table.proofs.{FrontLemmas.{all_front, pairs_front}, Slots.{below_new, has_slot, rises_after, slot_declared}}

pub draft_pair : (t : Layout) (pair : Pair) → IsDraft t → AdmitsPair t pair → IsDraft (with_pair t pair)
unfolding is_above_pairs
draft_pair t pair h admits = record {
  labels = h.labels;
  objects = h.objects;
  caps = h.caps;
  pairs = record {
    each =
        All-push (IsSlotPair t.objects) t.pairs pair h.pairs.each
        (record { parent = has_slot t pair.parent admits.parent; child = has_slot t pair.child admits.child });
    rise =
        all_pairs_push (λ one other. slot_cmp one.child other.child ≡ Less) t.pairs pair h.pairs.rise
        (below_new (λ pair. pair.child) t.pairs pair.child h.pairs.rise admits.rises);
  };
  bindings = h.bindings;
}

pub pair_removed : (t : Layout) (pair : Pair) → IsDraft (with_pair t pair) → IsDraft t × AdmitsPair t pair
unfolding is_above_pairs
pair_removed t pair h =
    let each = all_front (IsSlotPair t.objects) t.pairs pair h.pairs.each in
    let rise = pairs_front (λ one other. slot_cmp one.child other.child ≡ Less) t.pairs pair h.pairs.rise in (
      record {
        labels = h.labels;
        objects = h.objects;
        caps = h.caps;
        pairs = record { each = each.0; rise = rise.0 };
        bindings = h.bindings;
      },
      record {
        rises = rises_after (λ pair. pair.child) t.pairs pair.child rise.1;
        parent = slot_declared t pair.parent each.1.parent;
        child = slot_declared t pair.child each.1.child;
      },
    )
