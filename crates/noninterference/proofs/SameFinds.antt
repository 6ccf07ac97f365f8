-- Lookups in a system that stays fixed: each thread finds at each address the capability that it found at boot.
use Rattle.std.specs.Prelude.{Err, None, Ok, Option, Result, Some, option_map}
use Rattle.std.proofs.Common.{[], ℕ, ◌∙◌, ◌∷◌, ◌≡◌, ◌≢◌, ◌⊎◌, Bool, List, ap, inl, inr, refl, suc, sym, zero}
use Rattle.base.specs.declared.ids.{ObjId.ObjId, SlotRef.SlotRef}
use Rattle.base.specs.declared.refusal.{Cause.Cause as cause, LookupFailure.{LookupFailure, TheVariants.InvalidRoot}}
use Rattle.machine.specs.declared.cap.{Cap.Cap, Detail.{Detail, Detail as d}, Guard.Guard}
use Rattle.machine.specs.declared.{object.{CNode.CNode, Object.{Object, Object as o}, ObjectKind.ObjectKind as kind}, thread.Tcb.Tcb}
use Rattle.machine.specs.{Bits.bits, Lookup.{Level, counted, hop, level_at, level_of_cap, level_through, lookup_of, onward, root_of, walk}}
use Rattle.machine.specs.{Machine.{Machine, cap_of, object_of}, Objects.kind_of_object, Refusing.◌>>=◌, Step.Find.{find_cap, held_in}}
use Rattle.{machine.specs.WellFormed.kind_of, steps.proofs.FoundObjects.tcb_of_kind, noninterference.specs.Fixed.StaysFixed}

-- an object is a CNode, or it isn't
node_or_not :
    (object : Option Object)
    → ((node : CNode) × (object ≡ Some (o.CNode node))) ⊎ (option_map kind_of_object object ≢ Some kind.CNode)
node_or_not (Some (o.CNode node)) = inl (node, refl)
node_or_not _ = inr (λ is. cc)

no_level :
    (id : ObjId) (guard : Guard) (object : Option Object) → option_map kind_of_object object ≢ Some kind.CNode
    → level_through id guard object ≡ None
no_level id guard (Some (o.CNode node)) apart = absurd (apart refl)
no_level id guard _ apart = refl

-- an object is a thread, or it isn't
thread_or_not :
    (object : Option Object)
    → ((tcb : Tcb) × (object ≡ Some (o.Tcb tcb))) ⊎ (option_map kind_of_object object ≢ Some kind.Tcb)
thread_or_not (Some (o.Tcb tcb)) = inl (tcb, refl)
thread_or_not _ = inr (λ is. cc)

no_lookup :
    (m : Machine) (thread : ObjId) (address : ℕ) → kind_of m thread ≢ Some kind.Tcb
    → lookup_of m thread address ≡ Err (cause.FailedLookup InvalidRoot)
unfolding lookup_of
no_lookup m thread address apart = by_object (object_of m thread) refl where
  by_object :
      (object : Option Object) → object_of m thread ≡ object
      → lookup_of m thread address ≡ Err (cause.FailedLookup InvalidRoot)
  by_object (Some (o.Tcb tcb)) is = absurd (apart (ap (option_map kind_of_object) is))
  by_object _ is = rw is refl

module _ (boot m : Machine) (stays : StaysFixed boot m) where
  through_alike : (id : ObjId) (guard : Guard) → level_through id guard (object_of m id) ≡ level_through id guard (object_of boot id)
  through_alike id guard = elim (node_or_not (object_of boot id)) [
    | inl node ↦ ap (level_through id guard) (stays.contents id (o.CNode node.0) node.1 tt ∙ sym node.1)
    | inr apart ↦
        no_level id guard (object_of m id) (λ is. apart (sym (stays.kinds id) ∙ is)) ∙ sym (no_level id guard (object_of boot id) apart)
  ]

  level_alike : (slot : SlotRef) → level_at m slot ≡ level_at boot slot
  unfolding level_at
  level_alike slot = ap (level_of_cap m) (stays.caps slot) ∙ by_cap (cap_of boot slot) where
    by_detail :
        (held : Cap) (detail : Detail)
        → level_of_cap m (Some (record held { detail = detail })) ≡ level_of_cap boot (Some (record held { detail = detail }))
    by_detail held (d.CNode guard) = through_alike held.object guard
    by_detail held _ = refl

    by_cap : (filling : Option Cap) → level_of_cap m filling ≡ level_of_cap boot filling
    by_cap None = refl
    by_cap (Some held) = by_detail held held.detail

  onward_alike :
      (go other : Level → List Bool → Result (SlotRef × List Bool) LookupFailure)
      → ((level : Level) (rest : List Bool) → go level rest ≡ other level rest)
      → (reached : Result (SlotRef × List Bool) LookupFailure) → onward go m reached ≡ onward other boot reached
  onward_alike go other alike (Err failure) = refl
  onward_alike go other alike (Ok (slot, [])) = refl
  onward_alike go other alike (Ok (slot, b ∷ bs)) = by_level (level_at boot slot) refl where
    by_level : (level : Option Level) → level_at boot slot ≡ level → onward go m (Ok (slot, b ∷ bs)) ≡ onward other boot (Ok (slot, b ∷ bs))
    by_level None at = rw (level_alike slot, at) refl
    by_level (Some level) at = rw (level_alike slot, at) (alike level (b ∷ bs))

  walk_alike : (most : ℕ) (level : Level) (string : List Bool) → walk most m level string ≡ walk most boot level string
  unfolding walk
  walk_alike zero level string = refl
  walk_alike (suc most) level string =
      onward_alike (λ next rest. walk most m next rest) (λ next rest. walk most boot next rest)
      (λ next rest. walk_alike most next rest) (hop level string)

  -- a lookup ends where it ended
  pub lookup_alike : (thread : ObjId) (address : ℕ) → lookup_of m thread address ≡ lookup_of boot thread address
  unfolding lookup_of
  lookup_alike thread address = elim (thread_or_not (object_of boot thread)) [
    | inl was ↦
        let now = tcb_of_kind (object_of m thread) (stays.kinds thread ∙ ap (option_map kind_of_object) was.1) in
        by_level was.0 now.0 was.1 now.1 (level_at boot (root_of thread)) refl
    | inr apart ↦
        no_lookup m thread address (λ is. apart (sym (stays.kinds thread) ∙ is)) ∙ sym (no_lookup boot thread address apart)
  ] where
    by_level :
        (old new : Tcb) → object_of boot thread ≡ Some (o.Tcb old) → object_of m thread ≡ Some (o.Tcb new) → (level : Option Level)
        → level_at boot (root_of thread) ≡ level → lookup_of m thread address ≡ lookup_of boot thread address
    by_level old new was is None at = rw (is, was, level_alike (root_of thread), at) refl
    by_level old new was is (Some level) at =
        rw (is, was, level_alike (root_of thread), at) (ap counted (walk_alike 65 level (bits 64 address)))

  -- a thread finds the capability that it found
  pub find_alike : (thread : ObjId) (address : ℕ) → find_cap m thread address ≡ find_cap boot thread address
  unfolding find_cap
  find_alike thread address =
      λ i.
      ◌>>=◌ (lookup_alike thread address i)
      (λ place. ◌>>=◌ (held_in (stays.caps place.0 i)) (λ held. Ok (place.0, held)))
