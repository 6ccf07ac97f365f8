-- That a sight that is read part by part is one of the object.
use Rattle.std.proofs.Common.{ℕ, ◌<◌, ◌∙◌, ◌≡◌, ◌≤◌, List, None, Option, Some, ap, arith, inl, inr, length, option_and_then, refl}
use Rattle.{std.proofs.{Common.{slice_get, subst, sym}, lemmas.{Bool.cases_lt, Option.slice_get_past}}, base.specs.declared.ids.ObjId.ObjId}
use Rattle.machine.specs.{declared.{cap.Cap.Cap, object.Object.Object}, Machine.{Machine, cap_of, object_of, queue_of, words_of}}
use Rattle.machine.specs.{Objects.{slot_count, word_count}, WellFormed.IsWellFormed}
use Rattle.runs.specs.{declared.sight.Sight.Sight, Sights.IsSightOf}

no_cap :
    (m : Machine) (id : ObjId) (content : Object) (index : ℕ) → IsWellFormed m → object_of m id ≡ Some content
    → slot_count content ≤ index → (held : Option Cap) → cap_of m (record { holder = id; index = index }) ≡ held → held ≡ None
no_cap m id content index formed there past None is = refl
no_cap m id content index formed there past (Some held) is =
    let holder = formed.slots.holder (record { holder = id; index = index }) held is in
    let same : Some holder.0 ≡ Some content = sym holder.1 ∙ there in
    let one : holder.0 ≡ content = cc in
    let within : index < slot_count content = subst (λ (o : Object). index < slot_count o) one holder.2 in
    absurd (omega arith)

pub sees :
    (m : Machine) (id : ObjId) (sight : Sight) → IsWellFormed m → object_of m id ≡ Some sight.content
    → ((threads : List ObjId) → queue_of m id ≡ Some threads → sight.queue.items ≡ threads)
    → ((words : List ℕ) → words_of m id ≡ Some words → length words ≡ word_count sight.content → sight.words.items ≡ words)
    → length sight.slots.items ≡ slot_count sight.content
    → ((index : ℕ) → index < slot_count sight.content
    → slice_get sight.slots.items index ≡ Some (cap_of m (record { holder = id; index = index })))
    → IsSightOf m id sight
sees m id sight formed there threads words count slots =
    let queue = formed.parts.queue id sight.content there in
    let memory = formed.parts.words id sight.content there in
    record {
      content = there;
      queue = queue.1 ∙ ap Some (sym (threads queue.0 queue.1));
      words = memory.1 ∙ ap Some (sym (words memory.0 memory.1 memory.2));
      count = count;
      slots = λ index. elim (cases_lt index (slot_count sight.content)) [
        | inl within ↦ ap (option_and_then (λ held. held)) (sym (slots index within))
        | inr past ↦
            no_cap m id sight.content index formed there past (cap_of m (record { holder = id; index = index })) refl
            ∙ ap (option_and_then (λ held. held)) (sym (slice_get_past sight.slots.items index (subst (λ (n : ℕ). n ≤ index) (sym count) past)))
      ];
    }
