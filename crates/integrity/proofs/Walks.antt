-- Walks through a capability space: a property that capabilities hand on from CNode to CNode holds of the CNode where a lookup ends.
use Rattle.std.proofs.Common.{[], ℕ, ◌∙◌, ◌∷◌, ◌≡◌, Bool, Err, List, None, Ok, Option}
use Rattle.std.proofs.Common.{Result, Some, ap, arith, length, refl, subst, suc, sym, zero}
use Rattle.base.specs.declared.ids.{ObjId.ObjId, SlotRef.SlotRef}
use Rattle.base.specs.declared.refusal.{Cause.Cause as cause, LookupFailure.{LookupFailure, TheVariants.InvalidRoot}}
use Rattle.machine.specs.declared.cap.{Cap.Cap, Detail.{Detail, Detail as d}, Guard.Guard}
use Rattle.machine.specs.{declared.{object.{Object.{Object, Object as o}, ObjectKind.ObjectKind as kind}, thread.Tcb.Tcb}, Bits.bits}
use Rattle.machine.specs.Lookup.{Level, counted, hop, level_at, level_of_cap, level_through, lookup_of, onward, root_of, walk}
use Rattle.{machine.specs.{Machine.{Machine, cap_of, object_of}, WellFormed.kind_of}, steps.proofs.Conditions.same_ok}

-- a CNode that a slot shows is that of the slot's capability
pub record Shows (m : Machine) (slot : SlotRef) (node : ObjId) : Type 0 where
  pub held : Cap
  pub guard : Guard
  pub filled : cap_of m slot ≡ Some held
  pub detail : held.detail ≡ d.CNode guard
  pub object : held.object ≡ node
  pub is_node : kind_of m node ≡ Some kind.CNode

through :
    (m : Machine) (node : ObjId) (guard : Guard) (level : Level) (object : Option Object) → object_of m node ≡ object
    → level_through node guard object ≡ Some level → (node ≡ level.node) × (kind_of m node ≡ Some kind.CNode)
through m node guard level (Some (o.CNode slots)) is e =
    let same : node ≡ level.node = cc in
    (same, rw is refl)
through m node guard level _ is e = cc

pub shows : (m : Machine) (slot : SlotRef) (level : Level) → level_at m slot ≡ Some level → Shows m slot level.node
unfolding level_at
shows m slot level e = by_cap (cap_of m slot) refl e where
  by_detail :
      (held : Cap) (detail : Detail) → cap_of m slot ≡ Some held → held.detail ≡ detail
      → level_of_cap m (Some held) ≡ Some level → Shows m slot level.node
  by_detail held (d.CNode guard) filled is e =
      let seen : level_through held.object guard (object_of m held.object) ≡ Some level =
      ap (λ x. level_of_cap m (Some (record held { detail = x }))) (sym is) ∙ e in
      let parts = through m held.object guard level (object_of m held.object) refl seen in
      record { held = held; guard = guard; filled = filled; detail = is; object = parts.0; is_node = subst (λ n. kind_of m n ≡ Some kind.CNode) parts.0 parts.1 }
  by_detail held _ filled is e = cc

  by_cap : (held : Option Cap) → cap_of m slot ≡ held → level_of_cap m held ≡ Some level → Shows m slot level.node
  by_cap None filled e = cc
  by_cap (Some held) filled e = by_detail held held.detail filled refl e

-- a property of CNodes that a capability in one hands on to the one that it is for
abbrev pub IsHandedOn : Machine → (ObjId → Type 0) → Type 0
IsHandedOn m P = (slot : SlotRef) (node : ObjId) → P slot.holder → Shows m slot node → P node

-- the slot that a hop selects is one of its CNode's
hop_stays :
    (level : Level) (string : List Bool) (place : SlotRef × List Bool) → hop level string ≡ Ok place
    → place.0.holder ≡ level.node
unfolding hop
hop_stays level string place e = grind (arith, e)

module _ (m : Machine) (P : ObjId → Type 0) (handed : IsHandedOn m P) where
  pub walk_ends :
      (most : ℕ) (level : Level) (string : List Bool) (place : SlotRef × List Bool) → P level.node
      → walk most m level string ≡ Ok place → P place.0.holder
  unfolding walk
  walk_ends zero level string place has e = cc
  walk_ends (suc most) level string place has e =
      by_hop
      (λ (next : Level) (rest : List Bool) inside onward. walk_ends most next rest place inside onward)
      (hop level string) refl e
    where
      GoesOn : Type 0
      GoesOn = (next : Level) (rest : List Bool) → P next.node → walk most m next rest ≡ Ok place → P place.0.holder

      ends : (slot : SlotRef) → slot.holder ≡ level.node → slot ≡ place.0 → P place.0.holder
      ends slot stays same = subst P (sym stays ∙ ap (λ (s : SlotRef). s.holder) same) has

      by_rest :
          GoesOn → (slot : SlotRef) (rest : List Bool) → slot.holder ≡ level.node → (next : Option Level) → level_at m slot ≡ next
          → onward (λ l r. walk most m l r) m (Ok (slot, rest)) ≡ Ok place → P place.0.holder
      by_rest go slot [] stays next at e = ends slot stays cc
      by_rest go slot (b ∷ bs) stays None at e =
          let stopped : onward (λ l r. walk most m l r) m (Ok (slot, b ∷ bs)) ≡ Ok (slot, b ∷ bs) = rw at refl in
          ends slot stays cc
      by_rest go slot (b ∷ bs) stays (Some next) at e =
          let goes : onward (λ l r. walk most m l r) m (Ok (slot, b ∷ bs)) ≡ walk most m next (b ∷ bs) = rw at refl in
          go next (b ∷ bs) (handed slot next.node (subst P (sym stays) has) (shows m slot next at)) (sym goes ∙ e)

      by_hop :
          GoesOn → (hopped : Result (SlotRef × List Bool) LookupFailure) → hop level string ≡ hopped
          → onward (λ l r. walk most m l r) m hopped ≡ Ok place → P place.0.holder
      by_hop go (Err failure) h e = cc
      by_hop go (Ok (slot, rest)) h e = by_rest go slot rest (hop_stays level string (slot, rest) h) (level_at m slot) refl e

  -- where a thread's lookup ends, from its root
  pub lookup_ends :
      (caller : ObjId) (address : ℕ) (slot : SlotRef) (left : ℕ)
      → ((tcb : Tcb) (node : ObjId) → object_of m caller ≡ Some (o.Tcb tcb) → Shows m (root_of caller) node → P node)
      → lookup_of m caller address ≡ Ok (slot, left) → P slot.holder
  unfolding lookup_of
  lookup_ends caller address slot left root e = by_caller (object_of m caller) refl where
    by_walk :
        (level : Level) → P level.node → (end : Result (SlotRef × List Bool) LookupFailure)
        → walk 65 m level (bits 64 address) ≡ end → counted end ≡ Ok (slot, left) → P slot.holder
    by_walk level has (Err failure) h e = cc
    by_walk level has (Ok (last, rest)) h e =
        let parts : (last, length rest) ≡ (slot, left) = same_ok e in
        let same : last ≡ slot = ap (λ p. p.0) parts in
        subst (λ (s : SlotRef). P s.holder) same (walk_ends 65 level (bits 64 address) (last, rest) has h)

    by_root : (tcb : Tcb) → object_of m caller ≡ Some (o.Tcb tcb) → (level : Option Level) → level_at m (root_of caller) ≡ level → P slot.holder
    by_root tcb is None at = let failed : lookup_of m caller address ≡ Err (cause.FailedLookup InvalidRoot) = rw (is, at) refl in cc
    by_root tcb is (Some level) at =
        let ends : lookup_of m caller address ≡ counted (walk 65 m level (bits 64 address)) = rw (is, at) refl in
        by_walk level (root tcb level.node is (shows m (root_of caller) level at)) (walk 65 m level (bits 64 address)) refl (sym ends ∙ e)

    by_caller : (object : Option Object) → object_of m caller ≡ object → P slot.holder
    by_caller (Some (o.Tcb tcb)) is = by_root tcb is (level_at m (root_of caller)) refl
    by_caller _ is = let failed : lookup_of m caller address ≡ Err (cause.FailedLookup InvalidRoot) = rw is refl in cc
