-- Lines for capabilities: such a line is read just where it is the line of a filled slot that the table takes next.
use Rattle.std.proofs.Common.{ℕ, ◌&&◌, ◌<◌, ◌^◌, ◌∙◌, ◌∷◌, ◌≡◌, Bool, Err, List, None, Ok, Option, Result, Some, ap, codes, cond}
use Rattle.std.proofs.{Common.{false, not, option_map, refl, subst, sym, true}, lemmas.Bool.{and_from, and_parts, false≢true}}
use Rattle.{std.proofs.lemmas.Bool.{lt-ltb, ltb-true, not-true}, base.specs.declared.{ids.ObjId.ObjId, rights.Rights.Rights}}
use Rattle.words.specs.{declared.faults.Wrong.{Wrong, Wrong as wrong}, Name.is_name, Parts.IsLastPart}
use Rattle.words.proofs.{Parts.{last_takes, name_part, then_last}, WordLaws.bind_ok}
use Rattle.machine.specs.declared.{cap.Detail.Detail, layout.Initial.Initial}
use Rattle.machine.specs.declared.object.{Object.{Object, Object as o}, ObjectKind.{ObjectKind, ObjectKind as kind}}
use Rattle.machine.specs.{Capabilities.kind_of_detail, Layout.{Layout, initial_of}, Objects.kind_of_object}
use Rattle.table.specs.Building.{declares_slot, fits, fits_target, is_above_caps, is_badged, is_fitting}
use Rattle.table.specs.{Items.CapItem, Names.object_named, Rules.kind_at}
use Rattle.captext.specs.{declared.shapes.{Place.Place, Term.{Term, Term as term}}, Spelling.{AreTerms, slot_word}, TableText.detail_words}
use Rattle.captext.specs.{TableText.{object_name, place_in, slot_name}, Tables.{NamedCap, cap_at, cap_line, capability, capped, detail_for}}
use Rattle.captext.specs.Tables.{detail_of, filled, fits_holder, is_claimed, is_guard, is_plain, may_fill, rises, slot_in, takes_caps}
use Rattle.captext.proofs.{Admits.admits_cap, LineLaws.{TakesItem, caps_take, same_ok}, NameLaws.object_takes}
use Rattle.captext.proofs.{SlotLaws.{IsSlotName, slot_part}, StepLaws.{demand_then, value_then}, TermLaws.{terms_part, terms_words}}
use Rattle.captext.specs.declared.shapes.Place.TheVariants as place

-- the words of the line

abbrev pub HasCap : NamedCap → Type 0
HasCap cap = IsSlotName cap.0 × ((is_name cap.1.0 ≡ true) × AreTerms cap.1.1)

pub cap_part : IsLastPart cap_at (λ cap. slot_word cap.0.0 cap.0.1 ∷ cap.1.0 ∷ terms_words cap.1.1) HasCap
unfolding cap_at
cap_part = then_last slot_part (then_last name_part terms_part)

-- what a capability says

record TakesDetail (object : Object) (terms : Option Term × Option Term) (detail : Detail) : Type 0 where
  fitting : fits object detail ≡ true
  kind_is : kind_of_object object ≡ kind_of_detail detail
  words_are : terms_words terms ≡ detail_words detail

told : (object : Object) (terms : Option Term × Option Term) (made detail : Detail)
    → ◌≡◌ {A = Result Detail Wrong} (Ok made) (Ok detail) → fits object made ≡ true → kind_of_object object ≡ kind_of_detail made
    → terms_words terms ≡ detail_words made → TakesDetail object terms detail
told object terms made detail h fitting kind_is words_are =
    subst (TakesDetail object terms) (same_ok made detail h)
    (record { fitting = fitting; kind_is = kind_is; words_are = words_are })

passed : (test : Bool) (made detail : Detail) (fault : Wrong) → cond test (Ok made) (Err fault) ≡ Ok detail
    → (test ≡ true) × (◌≡◌ {A = Result Detail Wrong} (Ok made) (Ok detail))
passed true made detail fault h = (refl, h)
passed false made detail fault h = cc

badged_again : (rights : Rights) (badge all : ℕ) → rights.0 < all → badge < 2 ^ 64
    → is_badged all (record { rights = rights; badge = badge }) ≡ true
badged_again rights badge all few word = and_from _ _ (lt-ltb rights.0 all few) (lt-ltb badge (2 ^ 64) word)

detail_takes : (object : Object) (terms : Option Term × Option Term) (detail : Detail) → AreTerms terms
    → detail_of object terms.0 terms.1 ≡ Ok detail → TakesDetail object terms detail
detail_takes (o.CNode node) (Some (term.Decimal size), Some (term.Hexadecimal value)) detail is h =
    let limit = passed (is_guard node.radix size value) _ detail wrong.Limit h in told _ _ _ detail limit.1 limit.0 refl refl
detail_takes (o.Endpoint _) (Some (term.Rights rights), Some (term.Decimal badge)) detail is h =
    told _ _ _ detail h (badged_again rights badge 16 is.0 is.1) refl refl
detail_takes (o.Notification _) (Some (term.Rights rights), Some (term.Decimal badge)) detail is h =
    let plain = passed (is_plain rights) _ detail wrong.WrongKind h in
    told _ _ _ detail plain.1 (badged_again rights badge 4 (ltb-true _ _ plain.0) is.1) refl refl
detail_takes (o.Frame _) (Some (term.Rights rights), None) detail is h =
    let plain = passed (is_plain rights) _ detail wrong.WrongKind h in told _ _ _ detail plain.1 plain.0 refl refl
detail_takes (o.Untyped _) (None, None) detail is h = told _ _ _ detail h refl refl refl
detail_takes (o.Tcb _) (None, None) detail is h = told _ _ _ detail h refl refl refl
detail_takes (o.Reply _) (None, None) detail is h = told _ _ _ detail h refl refl refl
detail_takes (o.Context _) (None, None) detail is h = told _ _ _ detail h refl refl refl
detail_takes (o.Control _) (None, None) detail is h = told _ _ _ detail h refl refl refl
detail_takes _ _ detail is h = cc

-- a capability to an object of the table

pub record TakesCap (t : Layout) (target : ObjId) (terms : Option Term × Option Term) (detail : Detail) : Type 0 where
  pub fitting : is_fitting t (capability target detail) ≡ true
  pub kind_is : kind_at t target ≡ Some (kind_of_detail detail)
  pub words_are : terms_words terms ≡ detail_words detail

pub target_takes : (t : Layout) (target : ObjId) (terms : Option Term × Option Term) (detail : Detail) → AreTerms terms
    → detail_for t target terms ≡ Ok detail → TakesCap t target terms detail
unfolding detail_for is_fitting kind_at
target_takes t target terms detail is h =
    let found = value_then (initial_of t target) wrong.UnknownName _ detail h in
    let told = detail_takes found.0.object terms detail is found.2 in
    record {
      fitting = ap (λ found. fits_target found detail) found.1 ∙ told.fitting;
      kind_is = ap (option_map (λ (initial : Initial). kind_of_object initial.object)) found.1 ∙ ap (λ k. Some k) told.kind_is;
      words_are = told.words_are;
    }

-- a place that fits its holder is the place of its slot
place_takes : (holder : Option ObjectKind) (id : ObjId) (at : Place) → fits_holder holder at ≡ true
    → place_in holder (slot_in id at).index ≡ at
place_takes (Some kind.CNode) id (place.Index index) h = refl
place_takes (Some kind.Tcb) id place.Root h = refl
place_takes _ id _ h = absurd (false≢true h)

-- the words of a slot that was found are its own
pub slot_spelled : (t : Layout) (name : List ℕ) (id : ObjId) (at : Place) → name ≡ object_name t id
    → fits_holder (kind_at t id) at ≡ true → slot_word name at ≡ slot_name t (slot_in id at)
slot_spelled t name id at named fits = λ i. slot_word (named i) (sym (place_takes (kind_at t id) id at fits) i)

pub cap_line_takes : (t : Layout) (words : List (List ℕ)) (next : Layout) → cap_line t words ≡ Ok next
    → TakesItem t (codes "cap" ∷ words) next
unfolding cap_line capped filled
cap_line_takes t words next h =
    let read = last_takes cap_part (capped t) words next h in
    let slot = read.0.0 in
    let terms = read.0.1.1 in
    let tests = demand_then (takes_caps t && rises (is_above_caps t) (object_named t slot.0) slot.1) wrong.Syntax _ next read.3 in
    let parts = and_parts _ _ tests.0 in
    let holder = value_then (object_named t slot.0) wrong.UnknownName _ next tests.1 in
    let target = value_then (object_named t read.0.1.0) wrong.UnknownName _ next holder.2 in
    let held = object_takes t slot.0 holder.0 holder.1 in
    let aimed = object_takes t read.0.1.0 target.0 target.1 in
    let once = demand_then (not (is_claimed t target.0)) wrong.Double _ next target.2 in
    let fills = demand_then (may_fill (kind_at t holder.0) slot.1 (kind_at t target.0)) wrong.WrongKind _ next once.1 in
    let detail = bind_ok (detail_for t target.0 terms) _ next fills.1 in
    let within = demand_then (declares_slot t (slot_in holder.0 slot.1)) wrong.Limit _ next detail.2 in
    let told = target_takes t target.0 terms detail.0 read.2.1.1 detail.1 in
    let rising : is_above_caps t (slot_in holder.0 slot.1) ≡ true =
    ap (λ found. rises (is_above_caps t) found slot.1) (sym holder.1) ∙ parts.1 in
    let spelled = slot_spelled t slot.0 holder.0 slot.1 held.1 (and_parts _ _ fills.0).0 in (
      CapItem (record { slot = slot_in holder.0 slot.1; cap = capability target.0 detail.0 }),
      record {
        now = caps_take t parts.0;
        admits = admits_cap t holder.0 slot.1 target.0 detail.0
            rising within.0 fills.0 told.fitting told.kind_is (not-true _ once.0);
        words_are = ap (λ ws. codes "cap" ∷ ws) (read.1 ∙ (λ i. spelled i ∷ aimed.1 i ∷ told.words_are i));
        grown = same_ok _ _ within.1;
      },
    )
