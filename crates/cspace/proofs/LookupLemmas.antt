-- Lookups of a thread's addresses: one ends just where a chain from the thread's root does.
use Rattle.std.proofs.Common.{ℕ, ◌∙◌, ◌≡◌, ◌⊎◌, Bool, Err, List, None, Ok, Option, Result, Some, ap, arith, inl, inr, length, refl, subst}
use Rattle.std.proofs.Common.{sym}
use Rattle.base.specs.declared.{ids.{ObjId.ObjId, SlotRef.SlotRef}, refusal.{Cause.{Cause, Cause as cause}, LookupFailure.LookupFailure}}
use Rattle.machine.specs.{declared.object.Object.{Object, Object as o}, Bits.bits, Lookup.{Level, counted, level_at, lookup_of, root_of}}
use Rattle.machine.specs.{Lookup.walk, Machine.{Machine, object_of}}
use Rattle.cspace.{specs.{Chain.{Fails, Finds, TakesBits}, Roots.{level_of_root, root_level}}, proofs.BitLemmas.length-bits}
use Rattle.cspace.proofs.{ChainLemmas.{Ends, ends-walk, walk-ends}, RootLemmas.{lookup_of-none, lookup_of-some}}

-- a root is a CNode whose capability a slot holds
root_held :
    (m : Machine) (thread : ObjId) (root : Level) → root_level m thread ≡ Some root → level_at m (root_of thread) ≡ Some root
root_held m thread root e = by_object (object_of m thread) e where
  by_object : (object : Option Object) → level_of_root m thread object ≡ Some root → level_at m (root_of thread) ≡ Some root
  by_object (Some (o.Tcb thread')) e = e
  by_object _ e = cc

-- where a lookup ends from a root
walked_from :
    (m : Machine) (thread : ObjId) (address : ℕ) (root : Level) → TakesBits m → root_level m thread ≡ Some root
    → Ends m root (bits 64 address) (walk 65 m root (bits 64 address))
walked_from m thread address root takes e =
    let size : length (bits 64 address) ≡ 64 = length-bits 64 address in
    ends-walk 65 m root (bits 64 address) takes (takes (root_of thread) root (root_held m thread root e)) (omega (arith, size))
    (omega (arith, size))

walk_is :
    (m : Machine) (thread : ObjId) (address : ℕ) (root : Level) (end : Result (SlotRef × List Bool) LookupFailure) → TakesBits m
    → root_level m thread ≡ Some root
    → Ends m root (bits 64 address) end → lookup_of m thread address ≡ counted end
walk_is m thread address root end takes e ends =
    let size : length (bits 64 address) ≡ 64 = length-bits 64 address in
    lookup_of-some m thread address root e
    ∙ ap counted
    (walk-ends 65 m root (bits 64 address) end takes (takes (root_of thread) root (root_held m thread root e))
    (omega (arith, size)) ends)

-- what is known where a lookup ends so
EndsSo : Machine → ObjId → ℕ → Result (SlotRef × ℕ) Cause → Type 0
EndsSo m thread address (Ok place) = Finds m thread address place.0 place.1
EndsSo m thread address (Err (cause.FailedLookup failure)) = Fails m thread address failure
EndsSo m thread address (Err _) = ⊥

counted-ends :
    (m : Machine) (thread : ObjId) (address : ℕ) (root : Level) (end : Result (SlotRef × List Bool) LookupFailure)
    → root_level m thread ≡ Some root
    → Ends m root (bits 64 address) end → EndsSo m thread address (counted end)
unfolding EndsSo
counted-ends m thread address root (Ok place) e ends =
    record { root = root; rest = place.1; rooted = e; resolves = ends; counts = refl }
counted-ends m thread address root (Err failure) e ends = inr (root, e, ends)

lookup-ends : (m : Machine) (thread : ObjId) (address : ℕ) → TakesBits m → EndsSo m thread address (lookup_of m thread address)
unfolding EndsSo
lookup-ends m thread address takes = by_root (root_level m thread) refl where
  by_root : (root : Option Level) → root_level m thread ≡ root → EndsSo m thread address (lookup_of m thread address)
  by_root None e = subst (EndsSo m thread address) (sym (lookup_of-none m thread address e)) (inl (e, refl))
  by_root (Some root) e =
      subst (EndsSo m thread address) (sym (lookup_of-some m thread address root e))
      (counted-ends m thread address root (walk 65 m root (bits 64 address)) e (walked_from m thread address root takes e))

pub finds :
    (m : Machine) (thread : ObjId) (address : ℕ) (slot : SlotRef) (left : ℕ) → TakesBits m
    → lookup_of m thread address ≡ Ok (slot, left) → Finds m thread address slot left
unfolding EndsSo
finds m thread address slot left takes e = subst (EndsSo m thread address) e (lookup-ends m thread address takes)

pub found :
    (m : Machine) (thread : ObjId) (address : ℕ) (slot : SlotRef) (left : ℕ) → TakesBits m → Finds m thread address slot left
    → lookup_of m thread address ≡ Ok (slot, left)
found m thread address slot left takes h =
    walk_is m thread address h.root (Ok (slot, h.rest)) takes h.rooted h.resolves ∙ ap (λ n. Ok (slot, n)) h.counts

pub fails :
    (m : Machine) (thread : ObjId) (address : ℕ) (failure : LookupFailure) → TakesBits m
    → lookup_of m thread address ≡ Err (cause.FailedLookup failure) → Fails m thread address failure
unfolding EndsSo
fails m thread address failure takes e = subst (EndsSo m thread address) e (lookup-ends m thread address takes)

pub failed :
    (m : Machine) (thread : ObjId) (address : ℕ) (failure : LookupFailure) → TakesBits m → Fails m thread address failure
    → lookup_of m thread address ≡ Err (cause.FailedLookup failure)
failed m thread address failure takes (inl none) =
    lookup_of-none m thread address none.0 ∙ ap (λ f. Err (cause.FailedLookup f)) (sym none.1)
failed m thread address failure takes (inr missed) = walk_is m thread address missed.0 (Err failure) takes missed.1 missed.2

-- a lookup ends in one of the two ways
pub ends :
    (m : Machine) (thread : ObjId) (address : ℕ) → TakesBits m
    → ((slot : SlotRef) × (left : ℕ) × Finds m thread address slot left)
    ⊎ ((failure : LookupFailure) × Fails m thread address failure)
unfolding EndsSo
ends m thread address takes = by_end (lookup_of m thread address) (lookup-ends m thread address takes) where
  by_end :
      (end : Result (SlotRef × ℕ) Cause) → EndsSo m thread address end
      → ((slot : SlotRef) × (left : ℕ) × Finds m thread address slot left)
      ⊎ ((failure : LookupFailure) × Fails m thread address failure)
  by_end (Ok place) h = inl (place.0, place.1, h)
  by_end (Err (cause.FailedLookup failure)) h = inr (failure, h)
  by_end (Err _) h = absurd h
