-- Lookups of threads: what one finds is in a slot of a CNode; so if no such slot holds a capability for a CNode or a thread, the thread
-- finds none, and no slot address leads it anywhere.
use Rattle.std.specs.Prelude.{Err, None, Ok, Option, Result, Some, option_map}
use Rattle.std.proofs.Common.{[], ℕ, ◌∙◌, ◌∷◌, ◌≡◌, ◌≢◌, Bool, List, ap, arith, length, refl, subst, suc, sym, zero}
use Rattle.base.specs.declared.ids.{ObjId.ObjId, SlotRef.SlotRef}
use Rattle.base.specs.declared.refusal.{Cause.Cause as cause, LookupFailure.{LookupFailure, TheVariants.InvalidRoot}}
use Rattle.machine.specs.declared.{cap.{Cap.Cap, Detail.{Detail, Detail as d}}, object.Object.{Object, Object as o}}
use Rattle.machine.specs.declared.{object.ObjectKind.ObjectKind as kind, slot_address.SlotAddress.SlotAddress, thread.Tcb.Tcb}
use Rattle.machine.specs.{Bits.bits, Capabilities.kind_of_detail, Lookup.{Level, counted, hop, level_at, level_of_cap, lookup_of, onward}}
use Rattle.machine.specs.{Lookup.{root_of, walk}, Machine.{Machine, cap_of, object_of}, Objects.kind_of_object, WellFormed.kind_of}
use Rattle.steps.proofs.{Conditions.same_ok, Finding.FindsObject, LedSlots.node_at, RetypeRow.FindsTaker, SlotRows.LeadsTo}

-- no slot of a CNode holds a capability for a CNode or for a thread
pub record IsFixedAt (m : Machine) : Type 0 where
  pub none :
      (slot : SlotRef) (held : Cap) → cap_of m slot ≡ Some held → kind_of m slot.holder ≡ Some kind.CNode
      → (kind_of_detail held.detail ≢ kind.CNode) × (kind_of_detail held.detail ≢ kind.Tcb)

-- the capability of a CNode that a slot shows
shown_cap :
    (m : Machine) (slot : SlotRef) (level : Level) → level_at m slot ≡ Some level
    → (held : Cap) × (cap_of m slot ≡ Some held) × (kind_of_detail held.detail ≡ kind.CNode)
unfolding level_at
shown_cap m slot level e = by_cap (cap_of m slot) refl e where
  by_detail :
      (held : Cap) (detail : Detail) → held.detail ≡ detail → level_of_cap m (Some (record held { detail = detail })) ≡ Some level
      → kind_of_detail held.detail ≡ kind.CNode
  by_detail held (d.CNode guard) is e = ap kind_of_detail is
  by_detail held _ is e = cc

  by_cap :
      (filling : Option Cap) → cap_of m slot ≡ filling → level_of_cap m filling ≡ Some level
      → (held : Cap) × (cap_of m slot ≡ Some held) × (kind_of_detail held.detail ≡ kind.CNode)
  by_cap None is e = cc
  by_cap (Some held) is e = (held, is, by_detail held held.detail refl e)

-- a slot of a CNode
abbrev IsOfNode : Machine → SlotRef → Type 0
IsOfNode m slot = kind_of m slot.holder ≡ Some kind.CNode

level_node : (m : Machine) (slot : SlotRef) (level : Level) → level_at m slot ≡ Some level → kind_of m level.node ≡ Some kind.CNode
level_node m slot level e = ap (option_map kind_of_object) (node_at m slot level e).1

-- the slot that a hop selects is one of its CNode's
hop_holder :
    (level : Level) (string : List Bool) (place : SlotRef × List Bool) → hop level string ≡ Ok place → place.0.holder ≡ level.node
unfolding hop
hop_holder level string place e = grind (arith, e)

onward_node :
    (go : Level → List Bool → Result (SlotRef × List Bool) LookupFailure) (m : Machine)
    → ((level : Level) (rest : List Bool) (end : SlotRef × List Bool) → kind_of m level.node ≡ Some kind.CNode
    → go level rest ≡ Ok end → IsOfNode m end.0)
    → (reached : Result (SlotRef × List Bool) LookupFailure) (end : SlotRef × List Bool)
    → ((place : SlotRef × List Bool) → reached ≡ Ok place → IsOfNode m place.0) → onward go m reached ≡ Ok end → IsOfNode m end.0
onward_node go m goes (Err failure) end here e = cc
onward_node go m goes (Ok (slot, [])) end here e =
    let same : (slot, []) ≡ end = cc in
    subst (λ (p : SlotRef × List Bool). IsOfNode m p.0) same (here (slot, []) refl)
onward_node go m goes (Ok (slot, b ∷ bs)) end here e = by_level (level_at m slot) refl where
  by_level : (level : Option Level) → level_at m slot ≡ level → IsOfNode m end.0
  by_level None is =
      let done : onward go m (Ok (slot, b ∷ bs)) ≡ Ok (slot, b ∷ bs) = rw is refl in
      let same : (slot, b ∷ bs) ≡ end = cc in
      subst (λ (p : SlotRef × List Bool). IsOfNode m p.0) same (here (slot, b ∷ bs) refl)
  by_level (Some level) is =
      let done : onward go m (Ok (slot, b ∷ bs)) ≡ go level (b ∷ bs) = rw is refl in
      goes level (b ∷ bs) end (level_node m slot level is) (sym done ∙ e)

walk_node :
    (most : ℕ) (m : Machine) (level : Level) (string : List Bool) (end : SlotRef × List Bool) → kind_of m level.node ≡ Some kind.CNode
    → walk most m level string ≡ Ok end → IsOfNode m end.0
unfolding walk
walk_node zero m level string end node e = cc
walk_node (suc most) m level string end node e =
    onward_node (λ next rest. walk most m next rest) m (λ next rest last. walk_node most m next rest last) (hop level string) end
    (λ place is. ap (kind_of m) (hop_holder level string place is) ∙ node) e

-- where a thread's lookup ends
pub lookup_node :
    (m : Machine) (caller : ObjId) (address : ℕ) (slot : SlotRef) (left : ℕ) → lookup_of m caller address ≡ Ok (slot, left)
    → kind_of m slot.holder ≡ Some kind.CNode
unfolding lookup_of
lookup_node m caller address slot left e = by_caller (object_of m caller) refl where
  by_walk :
      (level : Level) → kind_of m level.node ≡ Some kind.CNode → (end : Result (SlotRef × List Bool) LookupFailure)
      → walk 65 m level (bits 64 address) ≡ end → counted end ≡ Ok (slot, left) → IsOfNode m slot
  by_walk level node (Err failure) h e = cc
  by_walk level node (Ok (last, rest)) h e =
      let parts : (last, length rest) ≡ (slot, left) = same_ok e in
      subst (IsOfNode m) (ap (λ p. p.0) parts) (walk_node 65 m level (bits 64 address) (last, rest) node h)

  by_root :
      (tcb : Tcb) → object_of m caller ≡ Some (o.Tcb tcb) → (level : Option Level) → level_at m (root_of caller) ≡ level
      → IsOfNode m slot
  by_root tcb is None at = let failed : lookup_of m caller address ≡ Err (cause.FailedLookup InvalidRoot) = rw (is, at) refl in cc
  by_root tcb is (Some level) at =
      let ends : lookup_of m caller address ≡ counted (walk 65 m level (bits 64 address)) = rw (is, at) refl in
      by_walk level (level_node m (root_of caller) level at) (walk 65 m level (bits 64 address)) refl (sym ends ∙ e)

  by_caller : (object : Option Object) → object_of m caller ≡ object → IsOfNode m slot
  by_caller (Some (o.Tcb tcb)) is = by_root tcb is (level_at m (root_of caller)) refl
  by_caller _ is = let failed : lookup_of m caller address ≡ Err (cause.FailedLookup InvalidRoot) = rw is refl in cc

-- nothing is found of CNodes and threads in a fixed system
module _ (m : Machine) (fixed : IsFixedAt m) (caller : ObjId) where
  pub found_apart :
      (address : ℕ) (slot : SlotRef) (left : ℕ) (held : Cap) → lookup_of m caller address ≡ Ok (slot, left) → cap_of m slot ≡ Some held
      → (kind_of_detail held.detail ≢ kind.CNode) × (kind_of_detail held.detail ≢ kind.Tcb)
  found_apart address slot left held ends filled = fixed.none slot held filled (lookup_node m caller address slot left ends)

  pub finds_no_thread : (address : ℕ) (id : ObjId) → FindsObject m caller address id d.Tcb → ⊥
  finds_no_thread address id f =
      (found_apart address f.slot f.finds.left f.held f.finds.ends f.finds.holds).1 (ap kind_of_detail f.detail)

  shows_no_node :
      (address : ℕ) (slot : SlotRef) (left : ℕ) (level : Level) → lookup_of m caller address ≡ Ok (slot, left)
      → level_at m slot ≡ Some level → ⊥
  shows_no_node address slot left level ends shows =
      let shown = shown_cap m slot level shows in (found_apart address slot left shown.0 ends shown.1).0 shown.2

  pub leads_nowhere : (address : SlotAddress) (slot : SlotRef) → LeadsTo m caller address slot → ⊥
  leads_nowhere address slot leads = shows_no_node address.root leads.at leads.left leads.level leads.found leads.shows

  pub finds_no_taker : (address : ℕ) (node : Level) → FindsTaker m caller address node → ⊥
  finds_no_taker address node takes = shows_no_node address takes.at takes.left node takes.ends takes.shows
