-- Lines for labels and objects: such a line is read just where it is the line of a label or an object that the table takes next.
use Rattle.std.proofs.Common.{[], ℕ, ◌&&◌, ◌<◌, ◌∙◌, ◌∷◌, ◌≡◌, List, Ok, Some, ap, codes, false, is_some, length, nat_lt, not, refl, sym}
use Rattle.std.proofs.lemmas.{Bool.{and_from, and_parts, le-leb, leb-true, lt-ltb, ltb-true, not-true}, List.append-nil}
use Rattle.machine.specs.{declared.{layout.Initial.Initial, object.ObjectKind.ObjectKind}, KindWords.object_kind_word, Layout.Layout}
use Rattle.machine.specs.{Layout.most_labels, Objects.kind_of_object}
use Rattle.words.{specs.{declared.faults.Wrong.Wrong as wrong, Parts.read_as, Reading.{bind, ended_at}}, proofs.Parts.alone_again}
use Rattle.words.proofs.{Parts.{alone_takes, name_part, part_then}, WordLaws.{bind_ok, ended_then}}
use Rattle.table.specs.{Building.{AdmitsObject, is_free, repeats_control, with_initial, with_label}, Items.{Admits, BeforeCaps}}
use Rattle.table.specs.{Items.{BeforeObjects, LabelItem, ObjectItem}, Names.{label_named, object_named}, Placement.is_aligned}
use Rattle.table.specs.Rules.{IsDraft}
use Rattle.captext.specs.{PolicyText.label_name, TableText.content_words, Tables.{content_at, declared, heading, is_within, label_line}}
use Rattle.captext.{specs.Tables.{labelled, limited, object_line, takes_labels, takes_objects}, proofs.LineLaws.{TakesItem, labels_again}}
use Rattle.captext.proofs.{LineLaws.{labels_take, objects_again, objects_take, same_ok}, NameLaws.{is_label_name, label_again, label_takes}}
use Rattle.captext.proofs.{NameLaws.names_part, ObjectParts.{object_again, object_takes}, StepLaws.{demand_then, value_then}}

pub label_line_takes : (t : Layout) (words : List (List ℕ)) (next : Layout) → label_line t words ≡ Ok next
    → TakesItem t (codes "label" ∷ words) next
unfolding label_line labelled
label_line_takes t words next h =
    let read = alone_takes name_part (labelled t) words next h in
    let now = demand_then (takes_labels t) wrong.Syntax _ next read.3 in
    let fresh = demand_then (not (is_some (label_named t read.0))) wrong.Double _ next now.1 in
    let room = demand_then (nat_lt (length t.labels) (most_labels t.version)) wrong.Limit _ next fresh.1 in (
      LabelItem read.0,
      record {
        now = labels_take t now.0;
        admits = record { spelled = read.2; fresh = not-true _ fresh.0; room = ltb-true _ _ room.0 };
        words_are = ap (λ ws. codes "label" ∷ ws) read.1;
        grown = cc;
      },
    )

pub label_line_again : (t : Layout) (name : List ℕ) → BeforeObjects t → Admits t (LabelItem name)
    → label_line t (name ∷ []) ≡ Ok (with_label t name)
unfolding label_line labelled bind
label_line_again t name now admits =
    alone_again name_part (labelled t) name admits.spelled
    ∙ rw (labels_again t now, admits.fresh, lt-ltb (length t.labels) (most_labels t.version) admits.room) refl

-- an object's name and label

heading_takes : (t : Layout) (name label : List ℕ) (number : ℕ) → heading t name label ≡ Ok number
    → BeforeCaps t × (number < length t.labels) × (label ≡ label_name t number) × (is_some (object_named t name) ≡ false)
unfolding heading
heading_takes t name label number h =
    let now = demand_then (takes_objects t) wrong.Syntax _ number h in
    let found = value_then (label_named t label) wrong.UnknownName _ number now.1 in
    let fresh = demand_then (not (is_some (object_named t name))) wrong.Double _ number found.2 in
    let named = label_takes t label number (found.1 ∙ ap (λ n. Some n) (same_ok _ _ fresh.1)) in
    (objects_take t now.0, named.0, named.1, not-true _ fresh.0)

heading_again : (t : Layout) (name : List ℕ) (number : ℕ) → IsDraft t → BeforeCaps t → number < length t.labels
    → is_some (object_named t name) ≡ false → heading t name (label_name t number) ≡ Ok number
unfolding heading bind
heading_again t name number draft now within fresh = rw (objects_again t now, label_again t number draft within, fresh) refl

-- an object's line

pub object_line_takes : (kind : ObjectKind) (t : Layout) (words : List (List ℕ)) (next : Layout)
    → object_line kind t words ≡ Ok next → TakesItem t (object_kind_word kind ∷ words) next
unfolding object_line declared
object_line_takes kind t words next h =
    let names = part_then names_part _ words next h in
    let name = names.value.0 in
    let told = bind_ok (read_as limited (content_at kind) names.rest) _ next names.goes_on in
    let ended = ended_then _ told.0.1 next told.2 in
    let number = bind_ok (heading t name names.value.1) _ next ended.1 in
    let head = heading_takes t name names.value.1 number.0 number.1 in
    let object = value_then told.0.0 wrong.Limit _ next number.2 in
    let once = demand_then (not (repeats_control t object.0)) wrong.Double _ next object.2 in
    let is = object_takes kind names.rest object.0 [] (told.1 ∙ (λ i. Ok (object.1 i, ended.0 i))) in
    let spelled = is.0 ∙ append-nil (content_words object.0) in
    let named = names.words_are ∙ (λ i. name ∷ head.2 i ∷ spelled i) in
    let limits = demand_then (is_within t object.0) wrong.Limit _ next once.1 in
    let placed = demand_then (is_aligned object.0 && is_free t object.0) wrong.Misplaced _ next limits.1 in
    let fits = and_parts _ _ limits.0 in
    let lies = and_parts _ _ placed.0 in (
      ObjectItem name (record { label = number.0; object = object.0 }),
      record {
        now = head.0;
        admits = record {
          spelled = names.is.0;
          fresh = head.3;
          label = head.1;
          blank = is.2;
          controls = not-true _ once.0;
          room = fits.0;
          end = leb-true _ _ fits.1;
          aligned = lies.0;
          free = lies.1;
        };
        words_are = λ i. object_kind_word (sym is.1 i) ∷ named i;
        grown = same_ok _ _ placed.1;
      },
    )

pub object_line_again : (t : Layout) (name : List ℕ) (initial : Initial) → IsDraft t → BeforeCaps t → AdmitsObject t name initial
    → object_line (kind_of_object initial.object) t (name ∷ label_name t initial.label ∷ content_words initial.object)
    ≡ Ok (with_initial t name initial)
unfolding object_line declared bind ended_at
object_line_again t name initial draft now admits =
    let words = content_words initial.object in
    rw (
      names_part.again (name, label_name t initial.label) words (admits.spelled, is_label_name t initial.label draft admits.label),
      object_again initial.object admits.blank admits.end,
      heading_again t name initial.label draft now admits.label admits.fresh,
      admits.controls,
      and_from _ _ admits.room (le-leb _ _ admits.end),
      and_from _ _ admits.aligned admits.free,
    ) refl
