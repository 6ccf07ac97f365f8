-- Entries after a change: each object has the entry that it had, except the one whose entry was changed or added.
use Rattle.std.specs.FinMap as map
use Rattle.std.{specs.Prelude.{IsSome, None, Option, Some, is_some, option_map, slice_get}, proofs.Common.{ℕ, ◌∙◌, ◌≡◌, ◌≢◌, ap, cond}}
use Rattle.{std.proofs.{Common.{refl, replicate, subst, suc, sym, zero}, lemmas.Bool.false≢true}, base.specs.declared.ids.ObjId.ObjId}
use Rattle.machine.specs.{Finite.put_some, Machine.same_id}
use Rattle.machine.proofs.{FiniteLemmas.{by_key, cond_elsewhere, cond_here}, LookUps.{id_apart, id_total}}
use Rattle.objects.specs.{declared.{entry.Entry.Entry, slots.Slot.Slot}, Entries.{Entries, entry_of, with_entry}}

pub some-none : {X : Type 0} (o : Option X) → IsSome o → o ≡ None → ⊥
some-none o some none = false≢true (sym (ap is_some none) ∙ some)

-- a change to one object's entry is seen there and nowhere else
pub entry_of-with_entry :
    (entries : Entries) (id : ObjId) (change : Entry → Entry) (q : ObjId)
    → entry_of (with_entry entries id change) q
    ≡ cond (same_id q id) (option_map change (entry_of entries q)) (entry_of entries q)
entry_of-with_entry entries id change q =
    by_key id_total id_apart q id _ _ _
    (λ same.
    subst (λ k. entry_of (with_entry entries id change) k ≡ option_map change (entry_of entries k)) (sym same)
    (here (entry_of entries id) refl))
    (elsewhere (entry_of entries id))
  where
    here : (o : Option Entry) → entry_of entries id ≡ o → entry_of (put_some entries id (option_map change o)) id ≡ option_map change o
    here None is = is
    here (Some entry) is = map.get-insert id_total entries id (change entry) id ∙ cond_here id_total id_apart id _ _

    elsewhere : (o : Option Entry) → q ≢ id → entry_of (put_some entries id (option_map change o)) q ≡ entry_of entries q
    elsewhere None differs = refl
    elsewhere (Some entry) differs =
        map.get-insert id_total entries id (change entry) q ∙ cond_elsewhere id_total id_apart q id _ _ differs

-- each slot of a new object reads as an absent one, if an empty slot does
pub read_empty :
    {A : Type 0} (read : Option Slot → A) (slot : Slot) → read (Some slot) ≡ read None → (count at : ℕ)
    → read (slice_get (replicate count slot) at) ≡ read None
read_empty read slot none zero at = refl
read_empty read slot none (suc count) zero = none
read_empty read slot none (suc count) (suc at) = read_empty read slot none count at
