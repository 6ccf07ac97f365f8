-- The rules of each section of a table: they hold of empty sections, and still hold when an earlier section grows.
use Rattle.std.{specs.List.slice_get, proofs.Common.{[], ℕ, ◌∙◌, ◌≡◌, All, List, None, Option, Some, ap, arith, option_map, refl}}
use Rattle.std.proofs.lemmas.{List.Elements.{All-nil, All-weaker}, Option.none-some}
use Rattle.base.specs.declared.ids.{ObjId.ObjId, SlotRef.SlotRef}
use Rattle.machine.specs.declared.layout.{Binding.Binding, Filled.Filled, Initial.Initial, Pair.Pair, Version.Version}
use Rattle.machine.specs.{declared.object.ObjectKind.ObjectKind, Layout.empty_layout, Objects.kind_of_object}
use Rattle.table.specs.Rules.{BindingsFit, CapsFit, HasSlot, IsBindingOf, IsCapOf, IsDraft, IsObjectOf, IsOfKind, IsSlotPair, ObjectsFit}
use Rattle.table.{specs.Rules.PairsFit, proofs.ListLemmas.no_pair}

-- empty sections keep the rules

pub no_caps : (objects : List Initial) → CapsFit objects []
no_caps objects = record { each = All-nil _; rise = λ i j d. no_pair i j; untypeds_once = λ i j d. no_pair i j }

pub no_pairs : (objects : List Initial) → PairsFit objects []
no_pairs objects = record { each = All-nil _; rise = λ i j d. no_pair i j }

pub no_bindings : (objects : List Initial) → BindingsFit objects []
no_bindings objects = record { each = All-nil _; rise = λ i j d. no_pair i j; contexts_differ = λ i j d. no_pair i j }

pub draft_empty : (version : Version) → IsDraft (empty_layout version)
draft_empty version = record {
  labels = record { few = omega arith; spelled = All-nil _; differ = λ i j d. no_pair i j };
  objects = record {
    spelled = All-nil _;
    differ = λ i j d. no_pair i j;
    named = refl;
    few = omega arith;
    few_slots = omega arith;
    few_threads = omega arith;
    each = All-nil _;
    apart = λ i j d. no_pair i j;
    controls_differ = λ i j d. no_pair i j;
  };
  caps = no_caps [];
  pairs = no_pairs [];
  bindings = no_bindings [];
}

-- the rules of objects still hold with another number of labels
pub objects_kept :
    (n m : ℕ) (names : List (List ℕ)) (objects : List Initial) → All (IsObjectOf m) objects → ObjectsFit n names objects
    → ObjectsFit m names objects
objects_kept n m names objects each h = record {
  spelled = h.spelled;
  differ = h.differ;
  named = h.named;
  few = h.few;
  few_slots = h.few_slots;
  few_threads = h.few_threads;
  each = each;
  apart = h.apart;
  controls_differ = h.controls_differ;
}

-- the second list has each object of the first at its place
abbrev pub Keeps : List Initial → List Initial → Type 0
Keeps objects more = (k : ℕ) (initial : Initial) → slice_get objects k ≡ Some initial → slice_get more k ≡ Some initial

abbrev slot_kept : (objects more : List Initial) → Keeps objects more → (slot : SlotRef) → HasSlot objects slot → HasSlot more slot
slot_kept objects more keeps slot h =
    record { holder = h.holder; held = keeps slot.holder.0 h.holder h.held; within = h.within }

pub caps_kept : (objects more : List Initial) → Keeps objects more → (caps : List Filled) → CapsFit objects caps → CapsFit more caps
caps_kept objects more keeps caps h = record {
  each =
      All-weaker (IsCapOf objects) (IsCapOf more)
      (λ filled is.
      record {
        place = slot_kept objects more keeps filled.slot is.place;
        target = is.target;
        aimed = keeps filled.cap.object.0 is.target is.aimed;
        root = is.root;
        detail = is.detail;
      })
      caps h.each;
  rise = h.rise;
  untypeds_once = h.untypeds_once;
}

pub pairs_kept :
    (objects more : List Initial) → Keeps objects more → (pairs : List Pair) → PairsFit objects pairs → PairsFit more pairs
pairs_kept objects more keeps pairs h = record {
  each =
      All-weaker (IsSlotPair objects) (IsSlotPair more)
      (λ pair is.
      record {
        parent = slot_kept objects more keeps pair.parent is.parent;
        child = slot_kept objects more keeps pair.child is.child;
      })
      pairs h.each;
  rise = h.rise;
}

kind_kept :
    (objects more : List Initial) → Keeps objects more → (id : ObjId) (kind : ObjectKind) → IsOfKind objects id kind
    → IsOfKind more id kind
kind_kept objects more keeps id kind e = by (slice_get objects id.0) refl e where
  by :
      (found : Option Initial) → slice_get objects id.0 ≡ found
      → option_map (λ initial. kind_of_object initial.object) found ≡ Some kind → IsOfKind more id kind
  by None none at = absurd (none-some kind at)
  by (Some initial) some at = ap (option_map (λ initial. kind_of_object initial.object)) (keeps id.0 initial some) ∙ at

pub bindings_kept :
    (objects more : List Initial) → Keeps objects more → (bindings : List Binding) → BindingsFit objects bindings
    → BindingsFit more bindings
bindings_kept objects more keeps bindings h = record {
  each =
      All-weaker (IsBindingOf objects) (IsBindingOf more)
      (λ binding is.
      record {
        thread = kind_kept objects more keeps binding.thread _ is.thread;
        context = kind_kept objects more keeps binding.context _ is.context;
      })
      bindings h.each;
  rise = h.rise;
  contexts_differ = h.contexts_differ;
}
