-- The lines of a table with one item more: the lines before it, and the line of that item.
use Rattle.std.{specs.List.zip, proofs.Common.{[], ℕ, ◌++◌, ◌∙◌, ◌∷◌, ◌≡◌, List, ap, append_assoc, arith, length, map, refl, sym}}
use Rattle.std.proofs.lemmas.List.{append-nil, map_push}
use Rattle.machine.specs.{declared.layout.{Binding.Binding, Filled.Filled, Initial.Initial, Pair.Pair}, Layout.{Layout, initial_of}}
use Rattle.table.specs.{Building.{with_binding, with_filled, with_initial, with_label, with_pair}, Items.{BeforeBindings, BeforeCaps}}
use Rattle.table.specs.Items.{BeforeObjects, BeforePairs, BindingItem, CapItem, ComesNow, Item, LabelItem, ObjectItem, PairItem, with_item}
use Rattle.table.specs.Rules.{kind_at}
use Rattle.captext.specs.TableText.{binding_lines, binding_words, cap_lines, cap_words, item_words, label_words, object_lines, object_words}
use Rattle.captext.specs.TableText.{pair_lines, pair_words, table_lines}

zip_push : {X Y : Type 0} (xs : List X) (ys : List Y) (x : X) (y : Y) → length xs ≡ length ys
    → zip (xs ++ x ∷ []) (ys ++ y ∷ []) ≡ zip xs ys ++ (x, y) ∷ []
zip_push [] [] x y same = refl
zip_push [] (b ∷ ys) x y same = absurd (omega arith)
zip_push (a ∷ xs) [] x y same = absurd (omega arith)
zip_push (a ∷ xs) (b ∷ ys) x y same = ap (λ pairs. (a, b) ∷ pairs) (zip_push xs ys x y (omega arith))

zip_nil : {X Y : Type 0} (xs : List X) → zip {K = X} {X = Y} xs [] ≡ []
zip_nil [] = refl
zip_nil (x ∷ xs) = refl

-- the lines of a section that has grown, if nothing follows it
grown : {X : Type 0} (section longer : List X) (x : X) (after before : List X) → longer ≡ section ++ x ∷ [] → after ≡ []
    → before ≡ [] → longer ++ after ≡ (section ++ before) ++ x ∷ []
grown section longer x after before grows none_after none_before =
    ap (λ rest. longer ++ rest) none_after
    ∙ append-nil longer
    ∙ grows
    ∙ ap (λ all. all ++ x ∷ []) (sym (append-nil section) ∙ ap (λ rest. section ++ rest) (sym none_before))

-- sections that have not begun

after_pairs : (t : Layout) → BeforeBindings t → binding_lines t ≡ []
after_pairs t empty = ap (λ (bindings : List Binding). map (binding_words t) bindings) empty

after_caps : (t : Layout) → BeforePairs t → pair_lines t ++ binding_lines t ≡ []
after_caps t empty =
    ap (λ (pairs : List Pair). map (pair_words t) pairs ++ binding_lines t) empty.0 ∙ after_pairs t empty.1

after_objects : (t : Layout) → BeforeCaps t → cap_lines t ++ (pair_lines t ++ binding_lines t) ≡ []
after_objects t empty =
    ap (λ (caps : List Filled). map (cap_words t) caps ++ (pair_lines t ++ binding_lines t)) empty.0 ∙ after_caps t empty.1

after_labels : (t : Layout) → BeforeObjects t → object_lines t ++ (cap_lines t ++ (pair_lines t ++ binding_lines t)) ≡ []
after_labels t empty =
    let line : List ℕ × Initial → List (List ℕ) = λ named. object_words t named.0 named.1 in
    let after = cap_lines t ++ (pair_lines t ++ binding_lines t) in
    ap (λ (objects : List Initial). map line (zip t.names objects) ++ after) empty.0
    ∙ ap (λ (named : List (List ℕ × Initial)). map line named ++ after) (zip_nil t.names)
    ∙ after_objects t empty.1

label_more : (t : Layout) (name : List ℕ) → BeforeObjects t
    → table_lines (with_label t name) ≡ table_lines t ++ label_words name ∷ []
label_more t name empty =
    grown (map label_words t.labels) (map label_words (t.labels ++ name ∷ [])) (label_words name) _ _
    (map_push label_words t.labels name) (after_labels (with_label t name) empty) (after_labels t empty)

object_more : (t : Layout) (name : List ℕ) (initial : Initial) → length t.names ≡ length t.objects → BeforeCaps t
    → table_lines (with_initial t name initial) ≡ table_lines t ++ object_words t name initial ∷ []
object_more t name initial each empty =
    let f : List ℕ × Initial → List (List ℕ) = λ named. object_words t named.0 named.1 in
    let longer : map f (zip (t.names ++ name ∷ []) (t.objects ++ initial ∷ []))
    ≡ map f (zip t.names t.objects) ++ object_words t name initial ∷ [] =
    ap (map f) (zip_push t.names t.objects name initial each) ∙ map_push f (zip t.names t.objects) (name, initial) in
    ap (λ rest. map label_words t.labels ++ rest)
    (grown (object_lines t) (map f (zip (t.names ++ name ∷ []) (t.objects ++ initial ∷ [])))
    (object_words t name initial) _ _ longer (after_objects (with_initial t name initial) empty) (after_objects t empty))
    ∙ sym (append_assoc (map label_words t.labels) _ (object_words t name initial ∷ []))

cap_more : (t : Layout) (filled : Filled) → BeforePairs t
    → table_lines (with_filled t filled) ≡ table_lines t ++ cap_words t filled ∷ []
unfolding kind_at initial_of
cap_more t filled empty =
    ap (λ rest. map label_words t.labels ++ (object_lines t ++ rest))
    (grown (cap_lines t) (map (cap_words t) (t.caps ++ filled ∷ [])) (cap_words t filled) _ _
    (map_push (cap_words t) t.caps filled) (after_caps (with_filled t filled) empty) (after_caps t empty))
    ∙ ap (λ rest. map label_words t.labels ++ rest) (sym (append_assoc (object_lines t) _ (cap_words t filled ∷ [])))
    ∙ sym (append_assoc (map label_words t.labels) _ (cap_words t filled ∷ []))

-- what goes last after the capabilities goes last
goes_last : (t : Layout) (rest line : List (List (List ℕ)))
    → map label_words t.labels ++ (object_lines t ++ (cap_lines t ++ (rest ++ line)))
    ≡ (map label_words t.labels ++ (object_lines t ++ (cap_lines t ++ rest))) ++ line
goes_last t rest line =
    ap (λ rest. map label_words t.labels ++ (object_lines t ++ rest)) (sym (append_assoc (cap_lines t) rest line))
    ∙ ap (λ rest. map label_words t.labels ++ rest) (sym (append_assoc (object_lines t) _ line))
    ∙ sym (append_assoc (map label_words t.labels) _ line)

pair_more : (t : Layout) (pair : Pair) → BeforeBindings t
    → table_lines (with_pair t pair) ≡ table_lines t ++ pair_words t pair ∷ []
unfolding kind_at initial_of
pair_more t pair empty =
    ap (λ rest. map label_words t.labels ++ (object_lines t ++ (cap_lines t ++ rest)))
    (grown (pair_lines t) (map (pair_words t) (t.pairs ++ pair ∷ [])) (pair_words t pair) _ _
    (map_push (pair_words t) t.pairs pair) (after_pairs (with_pair t pair) empty) (after_pairs t empty))
    ∙ goes_last t (pair_lines t ++ binding_lines t) (pair_words t pair ∷ [])

binding_more : (t : Layout) (binding : Binding)
    → table_lines (with_binding t binding) ≡ table_lines t ++ binding_words t binding ∷ []
unfolding kind_at initial_of
binding_more t binding =
    let line = binding_words t binding ∷ [] in
    ap (λ rest. map label_words t.labels ++ (object_lines t ++ (cap_lines t ++ rest)))
    (ap (λ rest. pair_lines t ++ rest) (map_push (binding_words t) t.bindings binding)
    ∙ sym (append_assoc (pair_lines t) (binding_lines t) line))
    ∙ goes_last t (pair_lines t ++ binding_lines t) line

pub item_more : (t : Layout) (item : Item) → length t.names ≡ length t.objects → ComesNow t item
    → table_lines (with_item t item) ≡ table_lines t ++ item_words t item ∷ []
item_more t (LabelItem name) each now = label_more t name now
item_more t (ObjectItem name initial) each now = object_more t name initial each now
item_more t (CapItem filled) each now = cap_more t filled now
item_more t (PairItem pair) each now = pair_more t pair now
item_more t (BindingItem binding) each now = binding_more t binding
