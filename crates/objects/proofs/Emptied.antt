-- A slot that is emptied: what it held; and the state stays sound if one capability less is counted for that object.
use Rattle.std.{specs.Prelude.{None, Option, Some, option_map}, proofs.Common.{ℕ, ◌-◌, ◌∙◌, ◌≡◌, ◌≤◌, ap, arith, refl, subst, sym}}
use Rattle.{std.proofs.lemmas.Option.same_Some, base.specs.declared.ids.{ObjId.ObjId, SlotRef.SlotRef}}
use Rattle.machine.specs.{declared.cap.Cap.Cap, Counts.caps_to, Machine.{cap_of, without_cap}}
use Rattle.machine.proofs.CapCounts.{caps_to-some, without_nothing}
use Rattle.objects.specs.{declared.state.State.TheInside.Inside, Entries.{Entries, caps_in, entry_of, set_caps_in, slot_at, with_entry}}
use Rattle.objects.specs.{Family.{cap_in, with_slot}, Pairs.MayEmpty, State.{IsSound, machine_of}}
use Rattle.objects.proofs.{CapsKept.caps-with_slot, ConsistentLemmas.caps_give, CountedStates.{sound_after, sound_take}}
use Rattle.objects.proofs.{StateLemmas.tells-machine_of, TreeState.{IsConsistent-cap_set, take_cap_gives}}

abbrev pub object_in : Option Cap → Option ObjId
object_in held = option_map (λ cap. cap.object) held

module _ (s : Inside) (slot : SlotRef) where
  abbrev pub emptied : Entries
  emptied = with_slot s.store slot (λ old. record old { cap = None })

  abbrev pub held_in : Option Cap
  held_in = cap_in (slot_at (entry_of s.store) slot)

  -- the slot was empty
  none_held : object_in held_in ≡ None → cap_of (machine_of s) slot ≡ None
  none_held is = (tells-machine_of s).caps slot ∙ nothing held_in is where
    nothing : (o : Option Cap) → object_in o ≡ None → o ≡ None
    nothing None is = refl
    nothing (Some held) is = cc

  pub sound_emptied : IsSound s → object_in held_in ≡ None → IsSound (record s { store = emptied })
  sound_emptied sound is =
      sound_after s _ sound (IsConsistent-cap_set s sound.consistent slot None) refl refl refl
      (caps-with_slot s.store slot (λ old. record old { cap = None })) (machine_of s)
      (take_cap_gives s sound.consistent slot ∙ without_nothing (machine_of s) slot (none_held is)) refl (λ id. refl) sound.paired

-- it held a capability for an object
module _ (s : Inside) (slot : SlotRef) (object : ObjId) (is : object_in (held_in s slot) ≡ Some object) where
  abbrev pub taken : Inside
  taken = record s { store = with_entry (emptied s slot) object (set_caps_in (caps_in (entry_of (emptied s slot) object) - 1)) }

  was_held : (held : Cap) × (cap_of (machine_of s) slot ≡ Some held) × (held.object ≡ object)
  was_held = by_cap (held_in s slot) refl is where
    by_cap :
        (o : Option Cap) → held_in s slot ≡ o → object_in o ≡ Some object
        → (held : Cap) × (cap_of (machine_of s) slot ≡ Some held) × (held.object ≡ object)
    by_cap None here some = absurd (cc)
    by_cap (Some held) here some = (held, (tells-machine_of s).caps slot ∙ here, same_Some held.object object some)

  kept : caps_in (entry_of (emptied s slot) object) ≡ caps_in (entry_of s.store object)
  kept = caps-with_slot s.store slot (λ old. record old { cap = None }) object

  pub one_at_least : IsSound s → 1 ≤ caps_in (entry_of (emptied s slot) object)
  one_at_least sound =
      let held = was_held in
      let some : 1 ≤ caps_to (machine_of s) object =
      subst (λ k. 1 ≤ caps_to (machine_of s) k) held.2 (caps_to-some (machine_of s) slot held.0 held.1) in
      let same = kept in
      let tallied = sound.tallied object in
      omega (arith, some, same, tallied)

  pub sound_taken : IsSound s → MayEmpty (machine_of s) slot → IsSound taken
  sound_taken sound may =
      let held = was_held in
      let count : ℕ = caps_in (entry_of (emptied s slot) object) - 1 in
      subst (λ k. IsSound (record s { store = with_entry (emptied s slot) k (set_caps_in count) })) held.2
      (sound_take s sound slot held.0 count held.1
      (ap (λ n. n - 1) (kept ∙ sound.tallied object ∙ ap (caps_to (machine_of s)) (sym held.2))) may)

  pub taken_gives : IsSound s → machine_of taken ≡ without_cap (machine_of s) slot
  taken_gives sound =
      caps_give (record s { store = emptied s slot }) object (caps_in (entry_of (emptied s slot) object) - 1)
      ∙ take_cap_gives s sound.consistent slot
