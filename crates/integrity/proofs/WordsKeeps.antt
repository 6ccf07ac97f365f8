-- Read and Write within a caller's authority: the frame is one that its label may write, and nothing but its words changes.
use Rattle.std.{specs.{FinMap.get-insert, Prelude.slice_set}, proofs.Common.{ℕ, ◌∙◌, ◌≡◌, ◌⊎◌, List, None, Option, Some, inl}}
use Rattle.{std.proofs.Common.{inr, refl, subst, sym}, base.specs.declared.{ids.ObjId.ObjId, kind.Kind.Kind as authority}}
use Rattle.machine.specs.declared.{call.Event.Event, cap.Detail.Detail as d, object.Object.Object}
use Rattle.machine.specs.{Authority.label_of, Changes.{with_word, with_words}, Layout.Layout}
use Rattle.machine.{specs.Machine.{Machine, cap_of, object_of, parent_of, queue_of, words_of}, proofs.{Ids.at_other, LookUps.id_total}}
use Rattle.{steps.proofs.WordsRow.WriteDone, policy.specs.{Change.WayToChange.modifies, Domain.EdgeTest}}
use Rattle.integrity.specs.{Invariant.{IsHeld, IsSound}, Keeping.IsSharp}
use Rattle.integrity.proofs.{Contents.changed, Held.held_of, Keeps.{Alters, Changes, Keeps, unchanged}}
use Rattle.integrity.proofs.{MessageParts.{IsReached, reached}, ObjectLabels.labelled_there, TouchKeeps.{same_fits, touch_keeps}}

-- one of an object's words is set, if it has words
word_or_stays :
    (m : Machine) (id : ObjId) (index word : ℕ)
    → ((words : List ℕ) × (with_word m id index word ≡ with_words m id (slice_set words index word)))
    ⊎ (with_word m id index word ≡ m)
unfolding with_word
word_or_stays m id index word = by_words (words_of m id) refl where
  by_words :
      (found : Option (List ℕ)) → words_of m id ≡ found
      → ((words : List ℕ) × (with_word m id index word ≡ with_words m id (slice_set words index word)))
      ⊎ (with_word m id index word ≡ m)
  by_words None e = inr (rw e refl)
  by_words (Some words) e = inl (words, rw e refl)

module _
    (t : Layout) (allowed : EdgeTest) (began : Machine) (event : Event) (a : ℕ) (m : Machine) (id : ObjId)
    (held : IsHeld t allowed m) where
  words_keep :
      (object : Object) (words : List ℕ) → object_of m id ≡ Some object → Alters t allowed began a m (with_words m id words) id
      → Keeps t allowed began event a m (with_words m id words)
  unfolding object_of queue_of words_of cap_of parent_of with_words
  words_keep object words there may =
      touch_keeps t allowed began event a m id object object (with_words m id words) held
      (same_fits t allowed began event a m id held object there)
      (record {
        contents = λ q apart. refl;
        queues = λ q apart. refl;
        words = λ q apart. get-insert id_total m.words id words q ∙ at_other q id (Some words) (words_of m q) apart;
        caps = λ slot. refl;
        parents = λ slot. refl;
        number = refl;
      })
      there may

  word_keeps :
      (index word label : ℕ) → label_of t m id ≡ Some label → Changes t allowed began a label
      → Keeps t allowed began event a m (with_word m id index word)
  word_keeps index word label labelled has = by_word (word_or_stays m id index word) where
    by_word :
        ((words : List ℕ) × (with_word m id index word ≡ with_words m id (slice_set words index word)))
        ⊎ (with_word m id index word ≡ m)
        → Keeps t allowed began event a m (with_word m id index word)
    by_word (inl sets) =
        let there = labelled_there t m id label labelled in
        let words : List ℕ = slice_set sets.0 index word in
        subst (λ (n : Machine). Keeps t allowed began event a m n) (sym sets.1)
        (words_keep there.0 words there.1 (changed t allowed began a m (with_words m id words) id label labelled has))
    by_word (inr same) =
        subst (λ (n : Machine). Keeps t allowed began event a m n) (sym same) (unchanged t allowed began event a m held)

module _
    (t : Layout) (allowed : EdgeTest) (event : Event) (a : ℕ) (m : Machine) (sound : IsSound t allowed m)
    (closed : IsSharp t allowed) (caller : ObjId) (mine : label_of t m caller ≡ Some a) (next : Machine) where
  pub read_keeps : next ≡ m → Keeps t allowed m event a m next
  read_keeps same =
      subst (λ (n : Machine). Keeps t allowed m event a m n) (sym same)
      (unchanged t allowed m event a m (held_of t allowed m sound))

  pub write_keeps : (address index word : ℕ) → WriteDone m caller address index word next → Keeps t allowed m event a m next
  write_keeps address index word done =
      let frame : IsReached t allowed m event a m sound done.id (d.Frame done.rights) =
      reached t allowed m event a m sound closed.uses_rise caller address done.id (d.Frame done.rights) mine done.finds in
      subst (λ (n : Machine). Keeps t allowed m event a m n) (sym done.changes)
      (word_keeps t allowed m event a m done.id (held_of t allowed m sound) index word frame.label frame.labelled
      (λ awake. modifies authority.Write refl (frame.edge authority.Write done.allowed refl)))
