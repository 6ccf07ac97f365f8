-- That a draft stays a draft when a label is added.
use Rattle.std.{specs.Str.bytes_eq, proofs.Common.{[], ℕ, ◌++◌, ◌<◌, ◌∙◌, ◌∷◌, ◌≡◌, ◌≢◌, List, arith}}
use Rattle.std.proofs.{Common.{false, get_or, is_some, length, position, sym, true}, lemmas.Bool.false≢true}
use Rattle.std.proofs.lemmas.{List.{Elements.{All-push, All-weaker}, Quantifiers.all_pairs_push, length_push}, Slice.Eq.bytes_eq-Decides}
use Rattle.{words.specs.Name.is_name, machine.specs.Layout.Layout}
use Rattle.table.specs.{Building.{AdmitsLabel, with_label}, Names.label_named, Rules.{IsDraft, IsObjectOf}}
use Rattle.table.proofs.{DraftKept.objects_kept, ListLemmas.not_any, NameLemmas.list_any-none}

-- a name that isn't in a list differs from each name in it
pub differs :
    (name : List ℕ) (names : List (List ℕ)) → is_some (position (λ other. bytes_eq name other) names) ≡ false
    → (k : ℕ) (d : List ℕ) → k < length names → get_or names k d ≢ name
differs name names none k d within same =
    let missed =
    not_any (λ other. bytes_eq name other) names (list_any-none (λ other. bytes_eq name other) names none) k d within in
    false≢true (sym missed ∙ (bytes_eq-Decides name (get_or names k d)).1 (sym same))

pub draft_label : (t : Layout) (name : List ℕ) → IsDraft t → AdmitsLabel t name → IsDraft (with_label t name)
unfolding label_named
draft_label t name h admits =
    let size = length_push t.labels name in
    record {
      labels = record {
        few = let room = admits.room in omega arith;
        spelled = All-push (λ label. is_name label ≡ true) t.labels name h.labels.spelled admits.spelled;
        differ = all_pairs_push ◌≢◌ t.labels name h.labels.differ (differs name t.labels admits.fresh);
      };
      objects =
          objects_kept (length t.labels) (length (t.labels ++ name ∷ [])) t.names t.objects
          (All-weaker (IsObjectOf (length t.labels)) (IsObjectOf (length (t.labels ++ name ∷ [])))
          (λ initial is.
          record { label = let low = is.label in omega arith; blank = is.blank; aligned = is.aligned; end = is.end })
          t.objects h.objects.each)
          h.objects;
      caps = h.caps;
      pairs = h.pairs;
      bindings = h.bindings;
    }
