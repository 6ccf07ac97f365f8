-- A walk along one hop: what it makes of the hop.
use Rattle.std.proofs.Common.{[], ℕ, ◌<◌, ◌∙◌, ◌∷◌, ◌≡◌, Bool, Err, List, None, Ok, Result, Some, ap, arith, refl, suc, sym, zero}
use Rattle.base.specs.declared.{ids.SlotRef.SlotRef, refusal.LookupFailure.LookupFailure}
use Rattle.machine.specs.{Bits.bits, Lookup.{Level, hop, level_at, onward, walk}, Machine.Machine}

pub walk-err :
    (most : ℕ) (m : Machine) (level : Level) (string : List Bool) (failure : LookupFailure) → 0 < most
    → hop level string ≡ Err failure → walk most m level string ≡ Err failure
unfolding walk
walk-err zero m level string failure h e = absurd (omega arith)
walk-err (suc most) m level string failure h e = rw e refl

pub walk-done :
    (most : ℕ) (m : Machine) (level : Level) (string : List Bool) (slot : SlotRef) → 0 < most → hop level string ≡ Ok (slot, [])
    → walk most m level string ≡ Ok (slot, [])
unfolding walk
walk-done zero m level string slot h e = absurd (omega arith)
walk-done (suc most) m level string slot h e = rw e refl

onward-none :
    (go : Level → List Bool → Result (SlotRef × List Bool) LookupFailure) (m : Machine) (slot : SlotRef) (rest : List Bool)
    → level_at m slot ≡ None
    → onward go m (Ok (slot, rest)) ≡ Ok (slot, rest)
onward-none go m slot [] e = refl
onward-none go m slot (b ∷ bs) e = rw e refl

pub walk-none :
    (most : ℕ) (m : Machine) (level : Level) (string : List Bool) (slot : SlotRef) (rest : List Bool) → 0 < most
    → hop level string ≡ Ok (slot, rest) → level_at m slot ≡ None
    → walk most m level string ≡ Ok (slot, rest)
unfolding walk
walk-none zero m level string slot rest h e none = absurd (omega arith)
walk-none (suc most) m level string slot rest h e none =
    ap (onward (walk most m) m) e ∙ onward-none (walk most m) m slot rest none

onward-some :
    (go : Level → List Bool → Result (SlotRef × List Bool) LookupFailure) (m : Machine) (slot : SlotRef) (rest address : ℕ)
    (next : Level)
    → 0 < rest → level_at m slot ≡ Some next
    → onward go m (Ok (slot, bits rest address)) ≡ go next (bits rest address)
onward-some go m slot zero address next h e = absurd (omega arith)
onward-some go m slot (suc rest) address next h e = rw e refl

-- the walk from the next CNode answers at each number of CNodes that suffices for the bits that are left
pub walk-some :
    (most left rest address : ℕ) (m : Machine) (level next : Level) (string : List Bool) (slot : SlotRef)
    (end : Result (SlotRef × List Bool) LookupFailure)
    → left < most → rest < left → 0 < rest
    → hop level string ≡ Ok (slot, bits rest address) → level_at m slot ≡ Some next
    → ((n : ℕ) → rest < n → end ≡ walk n m next (bits rest address)) → end ≡ walk most m level string
unfolding walk
walk-some zero left rest address m level next string slot end h fewer some e at below = absurd (omega arith)
walk-some (suc most) left rest address m level next string slot end h fewer some e at below =
    below most (omega arith) ∙ sym (ap (onward (walk most m) m) e ∙ onward-some (walk most m) m slot rest address next some at)
