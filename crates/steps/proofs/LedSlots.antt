-- That a lookup ends at a slot of a CNode.
use Rattle.std.{specs.Prelude.{Err, IsTrue, None, Ok, Option, Result, Some}, proofs.Common.{[], ℕ, ◌*◌, ◌+◌, ◌<◌, ◌^◌, ◌∙◌, ◌∷◌, ◌≡◌, Bool}}
use Rattle.std.proofs.{Common.{List, ap, arith, false, length, refl, subst, suc, sym, true, zero}, Math.Nat.pow-succ', lemmas.Bool.lt-ltb}
use Rattle.base.specs.declared.ids.{ObjId.ObjId, SlotRef.SlotRef}
use Rattle.base.specs.declared.refusal.LookupFailure.{LookupFailure, TheVariants.{DepthMismatch, GuardMismatch}}
use Rattle.machine.specs.declared.cap.{Cap.Cap, Detail.{Detail, Detail as d}, Guard.Guard}
use Rattle.machine.specs.{declared.{object.{CNode.CNode, Object.{Object, Object as o}}, slot_address.SlotAddress.SlotAddress}, Bits.after}
use Rattle.machine.specs.{Bits.{number, number_from, split}, Lookup.{Level, hop, level_at, level_of_cap, level_through, onward, walk}}
use Rattle.{machine.specs.{Machine.{Machine, cap_of, has_slot, object_of}, Objects.slot_count}, steps.proofs.SlotRows.LeadsTo}

-- a level is a CNode of that radix
abbrev pub IsNode : Machine → Level → Type 0
IsNode m level = (node : CNode) × (object_of m level.node ≡ Some (o.CNode node)) × (node.radix ≡ level.radix)

-- a slot is one of a CNode's
abbrev pub InNode : Machine → SlotRef → Type 0
InNode m slot = (node : CNode) × (object_of m slot.holder ≡ Some (o.CNode node)) × (slot.index < slot_count (o.CNode node))

-- a CNode's slot exists
pub node_slot : (m : Machine) (slot : SlotRef) → InNode m slot → IsTrue (has_slot m slot)
node_slot m slot within = rw within.1 (lt-ltb slot.index (slot_count (o.CNode within.0)) within.2)

node_through :
    (m : Machine) (id : ObjId) (guard : Guard) (level : Level) (object : Option Object) → object_of m id ≡ object
    → level_through id guard object ≡ Some level → IsNode m level
node_through m id guard level (Some (o.CNode node)) is e =
    (node, ap (object_of m) (sym (ap (λ (l : Option Level). name l) e)) ∙ is, ap (λ (l : Option Level). size l) e) where
      name : Option Level → ObjId
      name None = id
      name (Some l) = l.node

      size : Option Level → ℕ
      size None = zero
      size (Some l) = l.radix
node_through m id guard level _ is e = cc

node_of_cap : (m : Machine) (held : Option Cap) (level : Level) → level_of_cap m held ≡ Some level → IsNode m level
node_of_cap m None level e = cc
node_of_cap m (Some held) level e = by_detail held.detail refl where
  by_detail : (detail : Detail) → held.detail ≡ detail → IsNode m level
  by_detail (d.CNode guard) is =
      node_through m held.object guard level (object_of m held.object) refl
      (ap (λ (detail : Detail). level_of_cap m (Some (record held { detail = detail }))) (sym is) ∙ e)
  by_detail _ is = grind (arith, e, is)

pub node_at : (m : Machine) (slot : SlotRef) (level : Level) → level_at m slot ≡ Some level → IsNode m level
unfolding level_at
node_at m slot level e = node_of_cap m (cap_of m slot) level e

-- a string of bits is a number below the power of two of its length
number_below : (before : ℕ) (string : List Bool) → number_from before string < (before + 1) * 2 ^ length string
number_below before [] = omega (arith)
number_below before (true ∷ string) =
    subst (λ n. number_from (before * 2 + 1) string < (before + 1) * n) (sym (pow-succ' 2 (length string)))
    (omega (arith, number_below (before * 2 + 1) string))
number_below before (false ∷ string) =
    subst (λ n. number_from (before * 2) string < (before + 1) * n) (sym (pow-succ' 2 (length string)))
    (omega (arith, number_below (before * 2) string))

-- the part that is split off has the length asked for
split_length :
    (size : ℕ) (string : List Bool) (parts : List Bool × List Bool) → split size string ≡ Some parts → length parts.0 ≡ size
split_length zero string parts e = let same : ([], string) ≡ parts = cc in sym (ap (λ (p : List Bool × List Bool). length p.0) same)
split_length (suc size) [] parts e = cc
split_length (suc size) (b ∷ bs) parts e = by_rest (split size bs) refl (split_length size bs) where
  by_rest :
      (rest : Option (List Bool × List Bool)) → split size bs ≡ rest
      → ((others : List Bool × List Bool) → split size bs ≡ Some others → length others.0 ≡ size) → length parts.0 ≡ suc size
  by_rest None is shorter = let none : split (suc size) (b ∷ bs) ≡ None = rw is refl in cc
  by_rest (Some others) is shorter =
      let whole : split (suc size) (b ∷ bs) ≡ Some (b ∷ others.0, others.1) = rw is refl in
      let same : (b ∷ others.0, others.1) ≡ parts = cc in
      sym (ap (λ (p : List Bool × List Bool). length p.0) same) ∙ ap (λ n. suc n) (shorter others is)

-- a hop ends at a slot of its level
hop_in :
    (m : Machine) (level : Level) (string : List Bool) (place : SlotRef × List Bool) → IsNode m level
    → hop level string ≡ Ok place → InNode m place.0
unfolding hop
hop_in m level string place node e = by_rest (after level.guard string) refl where
  by_parts :
      (rest : List Bool) → after level.guard string ≡ Some rest → (parts : Option (List Bool × List Bool))
      → split level.radix rest ≡ parts → InNode m place.0
  by_parts rest is None at = let none : hop level string ≡ Err DepthMismatch = rw (is, at) refl in cc
  by_parts rest is (Some parts) at =
      let done : hop level string ≡ Ok (record { holder = level.node; index = number parts.0 }, parts.1) = rw (is, at) refl in
      let same : (record { holder = level.node; index = number parts.0 }, parts.1) ≡ place = cc in
      let long : length parts.0 ≡ node.0.radix = split_length level.radix rest parts at ∙ sym node.2 in
      let below : number parts.0 < 1 * 2 ^ length parts.0 = number_below 0 parts.0 in
      let less : number parts.0 < 2 ^ node.0.radix = subst (λ n. number parts.0 < 2 ^ n) long (omega (arith, below)) in
      subst (λ (p : SlotRef × List Bool). InNode m p.0) same (node.0, node.1, less)

  by_rest : (rest : Option (List Bool)) → after level.guard string ≡ rest → InNode m place.0
  by_rest None is = let none : hop level string ≡ Err GuardMismatch = rw is refl in cc
  by_rest (Some rest) is = by_parts rest is (split level.radix rest) refl

onward_in :
    (go : Level → List Bool → Result (SlotRef × List Bool) LookupFailure) (m : Machine)
    → ((level : Level) (rest : List Bool) (end : SlotRef × List Bool) → IsNode m level → go level rest ≡ Ok end → InNode m end.0)
    → (reached : Result (SlotRef × List Bool) LookupFailure) (end : SlotRef × List Bool)
    → ((place : SlotRef × List Bool) → reached ≡ Ok place → InNode m place.0) → onward go m reached ≡ Ok end → InNode m end.0
onward_in go m goes (Err failure) end here e = cc
onward_in go m goes (Ok (slot, [])) end here e =
    let same : (slot, []) ≡ end = cc in
    subst (λ (p : SlotRef × List Bool). InNode m p.0) same (here (slot, []) refl)
onward_in go m goes (Ok (slot, b ∷ bs)) end here e = by_level (level_at m slot) refl where
  by_level : (level : Option Level) → level_at m slot ≡ level → InNode m end.0
  by_level None is =
      let done : onward go m (Ok (slot, b ∷ bs)) ≡ Ok (slot, b ∷ bs) = rw is refl in
      let same : (slot, b ∷ bs) ≡ end = cc in
      subst (λ (p : SlotRef × List Bool). InNode m p.0) same (here (slot, b ∷ bs) refl)
  by_level (Some level) is =
      let done : onward go m (Ok (slot, b ∷ bs)) ≡ go level (b ∷ bs) = rw is refl in
      goes level (b ∷ bs) end (node_at m slot level is) (sym done ∙ e)

walk_in :
    (most : ℕ) (m : Machine) (level : Level) (string : List Bool) (end : SlotRef × List Bool) → IsNode m level
    → walk most m level string ≡ Ok end → InNode m end.0
unfolding walk
walk_in zero m level string end node e = cc
walk_in (suc most) m level string end node e =
    onward_in (λ next rest. walk most m next rest) m (λ next rest last. walk_in most m next rest last) (hop level string) end
    (λ place. hop_in m level string place node) e

pub led_slot :
    (m : Machine) (caller : ObjId) (address : SlotAddress) (slot : SlotRef) → LeadsTo m caller address slot → InNode m slot
led_slot m caller address slot leads = walk_in 65 m leads.level _ (slot, []) (node_at m leads.at leads.level leads.shows) leads.ends
