-- That a draft without its last label is a draft, and admits that label.
use Rattle.std.proofs.{Common.{[], ℕ, ◌++◌, ◌∷◌, ◌≡◌, ◌≢◌, List, arith, length, true}, lemmas.List.length_push}
use Rattle.{words.specs.Name.is_name, machine.specs.Layout.Layout}
use Rattle.table.specs.{Building.{AdmitsLabel, with_label}, Items.BeforeObjects, Names.label_named, Rules.{IsDraft, IsObjectOf}}
use Rattle.table.proofs.{DraftKept.objects_kept, FrontLemmas.{all_front, all_of_none, no_place, pairs_front}}

pub label_removed :
    (t : Layout) (name : List ℕ) → BeforeObjects t → IsDraft (with_label t name) → IsDraft t × AdmitsLabel t name
unfolding label_named
label_removed t name empty h =
    let size = length_push t.labels name in
    let spelled = all_front (λ label. is_name label ≡ true) t.labels name h.labels.spelled in
    let differ = pairs_front ◌≢◌ t.labels name h.labels.differ in
    let few = h.labels.few in (
      record {
        labels = record { few = omega arith; spelled = spelled.0; differ = differ.0 };
        objects =
            objects_kept (length (t.labels ++ name ∷ [])) (length t.labels) t.names t.objects
            (all_of_none (IsObjectOf (length t.labels)) t.objects empty.0) h.objects;
        caps = h.caps;
        pairs = h.pairs;
        bindings = h.bindings;
      },
      record { spelled = spelled.1; fresh = no_place name t.labels differ.1; room = omega arith },
    )
