-- Lookup from a thread's root, by a walk.
use Rattle.std.{specs.Result.{IsErrAnd, MatchResult}, proofs.Common.{ℕ, ◌∙◌, ◌≡◌, Err, None, Ok, Option, Result, Some, ap, refl}}
use Rattle.std.proofs.lemmas.Result.{err_from_is_err_and}
use Rattle.base.specs.declared.{ids.{ObjId.ObjId, SlotRef.SlotRef}, refusal.{Cause.Cause, LookupFailure.LookupFailure}}
use Rattle.base.specs.declared.refusal.Cause.TheVariants as cause
use Rattle.base.specs.declared.refusal.LookupFailure.TheVariants.{InvalidRoot}
use Rattle.machine.specs.{declared.object.Object.{Object, Object as o}, Bits.bits, Lookup.{Level, counted, lookup_of, walk}}
use Rattle.machine.specs.{Lookup.{level_at, level_of_cap, root_of}, Machine.{Machine, cap_of, object_of}}
use Rattle.objects.specs.Roots.{held_by_thread, root_cap}
use Rattle.cspace.{specs.{Roots.{level_of_root, root_level}, Strings.place_shown}, proofs.BitLemmas.length-bits}

-- the root of a thread is the CNode that the capability in its root slot shows
pub root_level_by_cap : (m : Machine) (thread : ObjId) → level_of_cap m (root_cap m thread) ≡ root_level m thread
unfolding level_at
root_level_by_cap m thread = by_object (object_of m thread) where
  by_object :
      (object : Option Object) → level_of_cap m (held_by_thread object (cap_of m (root_of thread))) ≡ level_of_root m thread object
  by_object (Some (o.Tcb thread')) = refl
  by_object _ = refl

-- a thread without a root
pub lookup_of-none :
    (m : Machine) (thread : ObjId) (address : ℕ) → root_level m thread ≡ None
    → lookup_of m thread address ≡ Err (cause.FailedLookup InvalidRoot)
unfolding lookup_of
lookup_of-none m thread address e = by_object (object_of m thread) refl e where
  by_object :
      (object : Option Object) → object_of m thread ≡ object → level_of_root m thread object ≡ None
      → lookup_of m thread address ≡ Err (cause.FailedLookup InvalidRoot)
  by_object (Some (o.Tcb thread')) p none = rw (p, none) refl
  by_object _ p none = rw p refl

-- a thread with a root
pub lookup_of-some :
    (m : Machine) (thread : ObjId) (address : ℕ) (level : Level) → root_level m thread ≡ Some level
    → lookup_of m thread address ≡ counted (walk 65 m level (bits 64 address))
unfolding lookup_of
lookup_of-some m thread address level e = by_object (object_of m thread) refl e where
  by_object :
      (object : Option Object) → object_of m thread ≡ object → level_of_root m thread object ≡ Some level
      → lookup_of m thread address ≡ counted (walk 65 m level (bits 64 address))
  by_object (Some (o.Tcb thread')) p some = rw (p, some) refl
  by_object _ p some = cc

-- a failed lookup as a cause of refusal
abbrev pub failed : {A : Type 0} → Result A LookupFailure → Result A Cause
failed (Ok a) = Ok a
failed (Err failure) = Err (cause.FailedLookup failure)

-- as many bits are left as there were said to be
pub counted-shown : (address : ℕ) (end : Result (SlotRef × ℕ) LookupFailure) → counted (place_shown address end) ≡ failed end
counted-shown address (Ok place) = ap (λ left. Ok (place.0, left)) (length-bits place.1 address)
counted-shown address (Err failure) = refl

pub failed-cases :
    (end : Result (SlotRef × ℕ) LookupFailure) (r : Result (SlotRef × ℕ) Cause)
    → MatchResult end (λ place. r ≡ Ok place) (λ failure. IsErrAnd r (λ d. d ≡ cause.FailedLookup failure))
    → r ≡ failed end
failed-cases (Ok place) r h = h
failed-cases (Err failure) r h = let p = err_from_is_err_and r h in p.1 ∙ ap (λ c. Err c) p.2
