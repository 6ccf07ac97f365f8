-- A table that is built up has the objects, capabilities and bindings of the whole lists.
use Rattle.std.{specs.Prelude.unwrap_or, proofs.Common.{[], ℕ, ◌&&◌, ◌++◌, ◌∙◌, ◌∷◌, ◌≡◌, Bool, Err, List, None, Ok, Option, Result}}
use Rattle.std.proofs.Common.{Some, ap, append_assoc, cond, false, is_some, length, map, nat_le, nat_lt, not, refl, subst, sym, true}
use Rattle.{std.proofs.lemmas.List.{append-nil, map-append}, base.specs.declared.{ids.SlotRef.SlotRef, limits.TheConstants.ADDRESS_END}}
use Rattle.words.specs.{declared.faults.Wrong.{TheVariants.{Double, Limit, UnknownName}, Wrong}, Fault.fault_at}
use Rattle.{words.specs.{Name.{is_name, name_of}, Reading.bind}, microkit.specs.{Description.Description, Labels.names_of}}
use Rattle.machine.specs.declared.{cap.Detail.Detail, layout.{Binding.Binding, Filled.Filled, Initial.Initial, Pair.Pair}}
use Rattle.machine.specs.{declared.object.Object.Object, Layout.{Layout, initial_parent}, Objects.end_of}
use Rattle.table.specs.{Building.{has_room, with_binding, with_filled}, Names.object_named}
use Rattle.table.specs.Tree.{is_original, source_of, tree_fault, with_mark, with_originals}
use Rattle.importing.specs.declared.{pieces.{Grant.Grant, Minting.Minting, Piece.Piece}, tables.Bond.Bond}
use Rattle.importing.specs.Built.{Built, Plan, labelled, object_added, object_placed, or_fault, piece_added, piece_label, piece_name}
use Rattle.importing.specs.{Built.{pieces_added, started, with_object}, Grants.{grants_of, roots_of}, Groups.labels_at, Objects.object_of}
use Rattle.importing.specs.{Pieces.pieces_of, Tables.{binding_added, binding_by, bond_added, bonds_added, bonds_of, cap_added, filled_by}}
use Rattle.importing.specs.Tables.{filled_up, finished, grant_added, grants_added, objects_by, piece_number, plan_for, planned, table_at}
use Rattle.importing.specs.{Tables.{table_by, takes_binding, takes_cap}, Whole.{AreOfPieces, IsOfPiece, IsTableOf, binding_at, filled_at}}

same_ok : {X E : Type 0} (x y : X) → ◌≡◌ {A = Result X E} (Ok x) (Ok y) → x ≡ y
same_ok x y e = cc

-- what is there is what was looked for
pub found : {X : Type 0} (line : ℕ) (wrong : Wrong) (o : Option X) (x : X) → or_fault line wrong o ≡ Ok x → o ≡ Some x
found line wrong None x e = absurd cc
found line wrong (Some y) x e = ap (λ z. Some z) (same_ok y x e)

-- a step that had a result
pub stepped : {E X Y : Type 0} (r : Result X E) (next : X → Result Y E) (y : Y) → bind r next ≡ Ok y → (x : X) × (r ≡ Ok x) × (next x ≡ Ok y)
unfolding bind
stepped (Err e) next y h = absurd cc
stepped (Ok x) next y h = (x, refl, h)

cap_was : (line : ℕ) (filled : Filled) (t u : Layout) → cap_added line filled t ≡ Ok u → u ≡ with_filled t filled
unfolding cap_added
cap_was line filled t u e = by (takes_cap t filled) e
  where
    by : (b : Bool) → cond b (Ok (with_filled t filled)) (Err (fault_at line UnknownName)) ≡ Ok u → u ≡ with_filled t filled
    by true h = sym (same_ok _ u h)
    by false h = absurd cc

grant_was : (d : Description) (pieces : List Piece) (grant : Grant) (t u : Layout) → grant_added d pieces grant t ≡ Ok u
    → u ≡ with_filled t (filled_at pieces grant)
unfolding grant_added
grant_was d pieces grant t u e =
    let one = stepped _ _ u e in
    let two = stepped _ _ u one.2 in
    let holder = found _ _ (piece_number pieces grant.holder) one.0 one.1 in
    let target = found _ _ (piece_number pieces grant.target) two.0 two.1 in
    cap_was _ _ t u two.2
    ∙ (λ i. with_filled t (filled_by grant (unwrap_or (sym holder i) 0) (unwrap_or (sym target i) 0)))

-- all capabilities are there
pub grants_whole : (d : Description) (pieces : List Piece) (grants : List Grant) (t u : Layout) → grants_added d pieces grants t ≡ Ok u
    → u ≡ record t { caps = t.caps ++ map (filled_at pieces) grants }
unfolding grants_added
grants_whole d pieces [] t u e =
    sym (same_ok t u e) ∙ ap (λ xs. record t { caps = xs }) (sym (append-nil t.caps))
grants_whole d pieces (grant ∷ grants) t u e =
    let one = stepped _ _ u e in
    let first = grant_was d pieces grant t one.0 one.1 in
    let rest = grants_whole d pieces grants one.0 u one.2 in
    rest
    ∙ ap (λ (s : Layout). record s { caps = s.caps ++ map (filled_at pieces) grants }) first
    ∙ ap (λ xs. record t { caps = xs }) (append_assoc t.caps (filled_at pieces grant ∷ []) (map (filled_at pieces) grants))

binding_was : (line : ℕ) (binding : Binding) (t u : Layout) → binding_added line binding t ≡ Ok u → u ≡ with_binding t binding
unfolding binding_added
binding_was line binding t u e = by (takes_binding t binding) e
  where
    by : (b : Bool) → cond b (Ok (with_binding t binding)) (Err (fault_at line UnknownName)) ≡ Ok u → u ≡ with_binding t binding
    by true h = sym (same_ok _ u h)
    by false h = absurd cc

bond_was : (d : Description) (pieces : List Piece) (bond : Bond) (t u : Layout) → bond_added d pieces bond t ≡ Ok u
    → u ≡ with_binding t (binding_at pieces bond)
unfolding bond_added
bond_was d pieces bond t u e =
    let one = stepped _ _ u e in
    let two = stepped _ _ u one.2 in
    let thread = found _ _ (piece_number pieces bond.thread) one.0 one.1 in
    let context = found _ _ (piece_number pieces bond.context) two.0 two.1 in
    binding_was _ _ t u two.2
    ∙ (λ i. with_binding t (binding_by (unwrap_or (sym thread i) 0) (unwrap_or (sym context i) 0)))

-- all bindings are there
pub bonds_whole : (d : Description) (pieces : List Piece) (bonds : List Bond) (t u : Layout) → bonds_added d pieces bonds t ≡ Ok u
    → u ≡ record t { bindings = t.bindings ++ map (binding_at pieces) bonds }
unfolding bonds_added
bonds_whole d pieces [] t u e =
    sym (same_ok t u e) ∙ ap (λ xs. record t { bindings = xs }) (sym (append-nil t.bindings))
bonds_whole d pieces (bond ∷ bonds) t u e =
    let one = stepped _ _ u e in
    let first = bond_was d pieces bond t one.0 one.1 in
    let rest = bonds_whole d pieces bonds one.0 u one.2 in
    rest
    ∙ ap (λ (s : Layout). record s { bindings = s.bindings ++ map (binding_at pieces) bonds }) first
    ∙ ap (λ xs. record t { bindings = xs }) (append_assoc t.bindings (binding_at pieces bond ∷ []) (map (binding_at pieces) bonds))

name_was : (word name : List ℕ) → name_of word ≡ Some name → word ≡ name
unfolding name_of
name_was word name e = by (is_name word) e
  where
    by : (b : Bool) → cond b (Some word) None ≡ Some name → word ≡ name
    by true h = cc
    by false h = absurd cc

placed_was : (line : ℕ) (name : List ℕ) (label : ℕ) (object : Object) (b c : Built) → object_placed line name label object b ≡ Ok c
    → c ≡ with_object b name (record { label = label; object = object })
unfolding object_placed
placed_was line name label object b c e =
    by (is_some (object_named b.table name)) (not (nat_lt label (length b.table.labels)))
    (not (has_room b.table object && nat_le (end_of object) ADDRESS_END)) _ e
  where
    by : (one two three : Bool) (x : Built)
        → cond one (Err (fault_at line Double))
        (cond two (Err (fault_at line UnknownName)) (cond three (Err (fault_at line Limit)) (Ok x))) ≡ Ok c
        → c ≡ x
    by true two three x h = absurd cc
    by false true three x h = absurd cc
    by false false true x h = absurd cc
    by false false false x h = sym (same_ok x c h)

added_was : (line : ℕ) (word : List ℕ) (label : ℕ) (object : Object) (b c : Built) → object_added line word label object b ≡ Ok c
    → c ≡ with_object b word (record { label = label; object = object })
unfolding object_added
added_was line word label object b c e =
    let one = stepped _ _ c e in
    let spelled = name_was word one.0 (found _ _ (name_of word) one.0 one.1) in
    placed_was line one.0 label object b c one.2
    ∙ ap (λ name. with_object b name (record { label = label; object = object })) (sym spelled)

piece_was : (plan : Plan) (piece : Piece) (b c : Built) → piece_added plan piece b ≡ Ok c
    → (initial : Initial) × IsOfPiece plan b.next piece initial × (c ≡ with_object b (piece_name plan piece) initial)
unfolding piece_added
piece_was plan piece b c e =
    let one = stepped _ _ c e in
    let two = stepped _ _ c one.2 in
    let label = found _ _ (piece_label plan piece) one.0 one.1 in
    let object = found _ _ (object_of plan.description plan.grants piece b.next) two.0 two.1 in
    let initial : Initial = record { label = one.0; object = two.0 } in (
      initial,
      (label, object),
      added_was _ _ one.0 two.0 b c two.2,
    )

-- all objects are there
pub pieces_whole : (plan : Plan) (pieces : List Piece) (b c : Built) → pieces_added plan pieces b ≡ Ok c
    → (objects : List Initial) × AreOfPieces plan b.next pieces objects
    × (c.table ≡ record b.table { names = b.table.names ++ map (piece_name plan) pieces; objects = b.table.objects ++ objects })
unfolding pieces_added
pieces_whole plan [] b c e = (
  [],
  refl,
  ap (λ (x : Built). x.table) (sym (same_ok b c e))
      ∙ (λ i. record b.table { names = sym (append-nil b.table.names) i; objects = sym (append-nil b.table.objects) i }),
)
pieces_whole plan (piece ∷ pieces) b c e =
    let one = stepped _ _ c e in
    let first = piece_was plan piece b one.0 one.1 in
    let rest = pieces_whole plan pieces one.0 c one.2 in (
      first.0 ∷ rest.0,
      (first.1, subst (λ n. AreOfPieces plan n pieces rest.0) (ap (λ (x : Built). x.next) first.2) rest.1),
      rest.2
          ∙ ap
          (λ (x : Built).
          record x.table { names = x.table.names ++ map (piece_name plan) pieces; objects = x.table.objects ++ rest.0 })
          first.2
          ∙ (λ i.
          record b.table {
            names = append_assoc b.table.names (piece_name plan piece ∷ []) (map (piece_name plan) pieces) i;
            objects = append_assoc b.table.objects (first.0 ∷ []) rest.0 i;
          }),
    )

-- each capability is original in a table without pairs

original : (t : Layout) (slot : SlotRef) (detail : Detail) → t.pairs ≡ [] → is_original t slot detail ≡ true
unfolding is_original source_of initial_parent
original t slot detail none = ap (λ pairs. is_original (record t { pairs = pairs }) slot detail) none

originals : (t : Layout) (pieces : List Piece) (grants : List Grant) → t.pairs ≡ []
    → map (with_mark t) (map (filled_at pieces) grants) ≡ map (filled_at pieces) grants
originals t pieces [] none = refl
originals t pieces (grant ∷ grants) none =
    let filled : Filled = filled_at pieces grant in λ i.
    record filled { cap = record filled.cap { original = original t filled.slot filled.cap.detail none i } }
    ∷ originals t pieces grants none i

finished_is : (t : Layout) → t.pairs ≡ [] → finished t ≡ Ok (with_originals t)
unfolding finished tree_fault
finished_is t none =
    let P : List Pair → Type 0 =
    λ pairs. finished (record t { pairs = pairs }) ≡ Ok (with_originals (record t { pairs = pairs })) in
    subst P (sym none) refl

filled_whole : (d : Description) (pieces : List Piece) (grants : List Grant) (t u : Layout)
    → filled_up d pieces grants t ≡ Ok u
    → u
    ≡ record t {
      caps = t.caps ++ map (filled_at pieces) (grants ++ roots_of d grants);
      bindings = t.bindings ++ map (binding_at pieces) (bonds_of d);
    }
unfolding filled_up
filled_whole d pieces grants t u e =
    let one = stepped _ _ u e in
    let two = stepped _ _ u one.2 in
    let held = grants_whole d pieces grants t one.0 one.1 in
    let rooted = grants_whole d pieces (roots_of d grants) one.0 two.0 two.1 in
    bonds_whole d pieces (bonds_of d) two.0 u two.2
    ∙ ap (λ (s : Layout). record s { bindings = s.bindings ++ map (binding_at pieces) (bonds_of d) }) rooted
    ∙ ap
    (λ (s : Layout).
    record s {
      caps = s.caps ++ map (filled_at pieces) (roots_of d grants);
      bindings = s.bindings ++ map (binding_at pieces) (bonds_of d);
    })
    held
    ∙ ap
    (λ caps. record t { caps = caps; bindings = t.bindings ++ map (binding_at pieces) (bonds_of d) })
    (append_assoc t.caps (map (filled_at pieces) grants) (map (filled_at pieces) (roots_of d grants))
    ∙ ap (λ xs. t.caps ++ xs) (sym (map-append (filled_at pieces) grants (roots_of d grants))))

objects_were : (plan : Plan) (pieces : List Piece) (t : Layout) → objects_by pieces plan ≡ Ok t
    → (objects : List Initial) × AreOfPieces plan 4096 pieces objects
    × (t ≡ record (labelled (labels_at plan.names plan.places)) { names = map (piece_name plan) pieces; objects = objects })
unfolding objects_by
objects_were plan pieces t e =
    let one = stepped _ _ t e in
    let whole = pieces_whole plan pieces (started (labels_at plan.names plan.places)) one.0 one.1 in
    (whole.0, whole.1, sym (same_ok _ t one.2) ∙ whole.2)

pub planned_was : (d : Description) (minting : Minting) (plan : Plan) → planned d minting ≡ Ok plan
    → (names : List (List ℕ)) × (names_of d ≡ Ok names) × (plan ≡ plan_for d names (grants_of d minting))
unfolding planned
planned_was d minting plan e =
    let one = stepped _ _ plan e in
    let two = stepped _ _ plan one.2 in
    let three = stepped _ _ plan two.2 in
    (three.0, three.1, sym (same_ok _ plan three.2))

by_plan : (d : Description) (minting : Minting) (names : List (List ℕ)) (t : Layout) → names_of d ≡ Ok names
    → table_by (pieces_of d) (plan_for d names (grants_of d minting)) ≡ Ok t
    → IsTableOf d minting t
unfolding table_by
by_plan d minting names t named e =
    let pieces : List Piece = pieces_of d in
    let grants : List Grant = grants_of d minting in
    let plan : Plan = plan_for d names grants in
    let one = stepped _ _ t e in
    let two = stepped _ _ t one.2 in
    let objects = objects_were plan pieces one.0 one.1 in
    let whole : Layout =
    record (labelled (labels_at plan.names plan.places)) {
      names = map (piece_name plan) pieces;
      objects = objects.0;
      caps = map (filled_at pieces) (grants ++ roots_of d grants);
      bindings = map (binding_at pieces) (bonds_of d);
    } in
    let filled : two.0 ≡ whole =
    filled_whole d pieces grants one.0 two.0 two.1
    ∙ ap
    (λ (s : Layout).
    record s {
      caps = s.caps ++ map (filled_at pieces) (grants ++ roots_of d grants);
      bindings = s.bindings ++ map (binding_at pieces) (bonds_of d);
    })
    objects.2 in
    let done : finished whole ≡ Ok t = subst (λ s. finished s ≡ Ok t) filled two.2 in
    let marked : with_originals whole ≡ t = same_ok (with_originals whole) t (sym (finished_is whole refl) ∙ done) in
    let same : with_originals whole ≡ whole =
    ap (λ caps. record whole { caps = caps }) (originals whole pieces (grants ++ roots_of d grants) refl) in
    let is : IsTableOf d minting whole =
    record {
      all = names;
      called = named;
      labels = refl;
      version = refl;
      names = refl;
      objects = objects.1;
      caps = refl;
      pairs = refl;
      bindings = refl;
    } in
    subst (IsTableOf d minting) (sym same ∙ marked) is

-- the table that is built up is that of the description
pub table_whole : (d : Description) (minting : Minting) (t : Layout) → table_at d minting ≡ Ok t
    → IsTableOf d minting t
unfolding table_at
table_whole d minting t e =
    let one = stepped _ _ t e in
    let plan = planned_was d minting one.0 one.1 in
    by_plan d minting plan.0 t plan.1 (subst (λ p. table_by (pieces_of d) p ≡ Ok t) plan.2 one.2)
