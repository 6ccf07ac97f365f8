-- That a table turned into one of version 2 keeps the rules and its boot state.
use Rattle.std.proofs.{Common.{◌≤◌, arith}, lemmas.List.Elements.All-weaker}
use Rattle.base.specs.declared.label.TheConstants.Label as Label
use Rattle.machine.specs.{declared.layout.Version.Version, Boot.IsBoot, Layout.{Layout, bound_context, bound_thread, initial_cap}}
use Rattle.machine.specs.declared.layout.Version.TheVariants as version
use Rattle.machine.specs.{Layout.{initial_of, initial_parent, most_labels, upgraded}, Machine.Machine}
use Rattle.table.specs.{Rules.{IsDraft, IsLawful}, Tree.{IsPairOf, is_original, source_of}}

-- each version has at most as many labels as there can be
pub few_labels : (version : Version) → most_labels version ≤ Label.COUNT
few_labels version.One = omega arith
few_labels version.Two = omega arith

pub draft_upgraded : (t : Layout) → IsDraft t → IsDraft (upgraded t)
draft_upgraded t h =
    let few = h.labels.few in
    let most = few_labels t.version in
    record {
      labels = record { few = omega arith; spelled = h.labels.spelled; differ = h.labels.differ };
      objects = h.objects;
      caps = h.caps;
      pairs = h.pairs;
      bindings = h.bindings;
    }

pub lawful_upgraded : (t : Layout) → IsLawful t → IsLawful (upgraded t)
unfolding is_original source_of initial_cap initial_parent
lawful_upgraded t h = record {
  draft = draft_upgraded t h.draft;
  marked = h.marked;
  tree =
      All-weaker (IsPairOf t) (IsPairOf (upgraded t))
      (λ pair is.
      record {
        above = is.above;
        below = is.below;
        parent = is.parent;
        child = is.child;
        object = is.object;
        original = is.original;
        badge = is.badge;
        rights = is.rights;
      })
      t.pairs h.tree;
}

pub boots : (t : Layout) (m : Machine) → IsBoot (upgraded t) m → IsBoot t m
unfolding initial_of initial_cap initial_parent bound_context bound_thread
boots t m h = record {
  objects = h.objects;
  queues = h.queues;
  words = h.words;
  caps = h.caps;
  parents = h.parents;
  next = h.next;
  going = h.going;
}

pub boots_upgraded : (t : Layout) (m : Machine) → IsBoot t m → IsBoot (upgraded t) m
unfolding initial_of initial_cap initial_parent bound_context bound_thread
boots_upgraded t m h = record {
  objects = h.objects;
  queues = h.queues;
  words = h.words;
  caps = h.caps;
  parents = h.parents;
  next = h.next;
  going = h.going;
}
