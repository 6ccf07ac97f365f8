-- Objects that end below an address, and one that lies above it.
use Rattle.std.{specs.List.list_any, proofs.Common.{[], ℕ, ◌&&◌, ◌++◌, ◌<◌, ◌∙◌, ◌∷◌, ◌≡◌, ◌≤◌, Bool, List, ap, arith, false}}
use Rattle.std.proofs.{Common.{is_some, length, nat_lt, not, refl, subst, true}, lemmas.Bool.{Decides.nat_tests, or_from}}
use Rattle.{base.specs.declared.limits.TheConstants.ADDRESS_END, words.specs.Name.is_name}
use Rattle.machine.specs.declared.{layout.Initial.Initial, object.Object.{Object, Object as o}}
use Rattle.machine.specs.{Layout.Layout, Objects.{address_of, end_of}}
use Rattle.table.specs.{Building.{AdmitsObject, has_room, is_free, repeats_control}, Names.object_named, Placement.meets}
use Rattle.{table.specs.Rules.is_control_of, importing.specs.{Built.{Built, EndBelow}, Objects.FitsFrom}}

misses : (one other : Object) (next : ℕ) → end_of one ≤ next → next ≤ address_of other → meets one other ≡ false
misses one other next ends above =
    let past : nat_lt (address_of other) (end_of one) ≡ false = grind (arith, nat_tests) in
    ap (λ b. nat_lt (address_of one) (end_of other) && b) past ∙ never (nat_lt (address_of one) (end_of other))
  where
    never : (b : Bool) → (b && false) ≡ false
    never true = refl
    never false = refl

none_meets : (objects : List Initial) (object : Object) (next : ℕ) → EndBelow objects next → next ≤ address_of object
    → list_any (λ initial. meets initial.object object) objects ≡ false
none_meets [] object next ends above = refl
none_meets (initial ∷ objects) object next ends above =
    or_from _ _ (misses initial.object object next ends.0 above) (none_meets objects object next ends.1 above)

-- the object that lies above overlaps none
pub free_above : (t : Layout) (object : Object) (next : ℕ) → EndBelow t.objects next → next ≤ address_of object
    → is_free t object ≡ true
unfolding is_free
free_above t object next ends above = ap not (none_meets t.objects object next ends above)

-- all objects, with this one, end where it does, or below
pub ends_more : (objects : List Initial) (initial : Initial) (next : ℕ) → EndBelow objects next → next ≤ address_of initial.object
    → EndBelow (objects ++ initial ∷ []) (end_of initial.object)
ends_more [] initial next ends above = (omega arith, tt)
ends_more (one ∷ objects) initial next ends above =
    let first : end_of one.object ≤ next = ends.0 in
    (omega arith, ends_more objects initial next ends.1 above)

-- an object that is no core's control repeats none
pub no_control : (t : Layout) (object : Object) → ((core : ℕ) → is_control_of object core ≡ false)
    → repeats_control t object ≡ false
no_control t (o.Control control) memory = absurd (let same = memory control.core in grind (arith, nat_tests))
no_control t _ memory = refl

-- a table takes the object
pub admits : (t : Layout) (name : List ℕ) (label : ℕ) (object : Object) (next : ℕ) → EndBelow t.objects next
    → is_name name ≡ true → is_some (object_named t name) ≡ false → label < length t.labels → FitsFrom next object
    → has_room t object ≡ true → end_of object ≤ ADDRESS_END
    → AdmitsObject t name (record { label = label; object = object })
admits t name label object next ends spelled fresh labelled placed room end =
    record {
      spelled = spelled;
      fresh = fresh;
      label = labelled;
      blank = placed.blank;
      controls = no_control t object placed.memory;
      room = room;
      end = end;
      aligned = placed.aligned;
      free = free_above t object next ends placed.above;
    }

pub admits_built : (built : Built) (t : Layout) (next : ℕ) (name : List ℕ) (label : ℕ) (object : Object)
    → built ≡ record { table = t; next = next } → EndBelow t.objects next
    → is_name name ≡ true → is_some (object_named built.table name) ≡ false → label < length built.table.labels
    → FitsFrom built.next object → has_room built.table object ≡ true → end_of object ≤ ADDRESS_END
    → AdmitsObject t name (record { label = label; object = object })
admits_built built t next name label object is ends spelled fresh labelled placed room end =
    admits t name label object next ends spelled (subst (λ (b : Built). is_some (object_named b.table name) ≡ false) is fresh)
    (subst (λ (b : Built). label < length b.table.labels) is labelled) (subst (λ (b : Built). FitsFrom b.next object) is placed)
    (subst (λ (b : Built). has_room b.table object ≡ true) is room) end
