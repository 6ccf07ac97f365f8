-- That read and write keep a machine well formed: each object has as many words as before, and all else is as it was.
use Rattle.std.specs.FinMap as map
use Rattle.std.{specs.Prelude.{None, Option, Some, cond, option_map, slice_set}, proofs.Common.{ℕ, ◌∙◌, ◌≡◌, List, ap}}
use Rattle.{std.proofs.{Common.{length, refl, subst, sym}, lemmas.List.length-set}, base.specs.declared.ids.ObjId.ObjId}
use Rattle.machine.specs.{Changes.{with_word, with_words}, Machine.{Machine, cap_of, object_of, parent_of, queue_of, same_id, words_of}}
use Rattle.machine.{specs.WellFormed.{IsWellFormed, LinksAgree}, proofs.LookUps.id_total}
use Rattle.steps.proofs.{Outlines.{Steady, shown_kept, steady_formed}, WordsRow.WriteDone}

words_of-with_words :
    (m : Machine) (id : ObjId) (words : List ℕ) (q : ObjId)
    → words_of (with_words m id words) q ≡ cond (same_id q id) (Some words) (words_of m q)
unfolding words_of with_words
words_of-with_words m id words q = map.get-insert id_total m.words id words q

words_steady :
    (m : Machine) (id : ObjId) (old words : List ℕ) → words_of m id ≡ Some old → length words ≡ length old
    → Steady m (with_words m id words)
unfolding with_words object_of queue_of cap_of parent_of
words_steady m id old words was same =
    record {
      outlines = λ q. refl;
      queues = λ q. refl;
      words =
          λ q. ap (option_map length) (words_of-with_words m id words q) ∙ shown_kept length (words_of m) id old words was same q;
      caps = λ slot. refl;
      parents = λ slot. refl;
      number = refl;
      going = refl;
    }

links_with_words : (m : Machine) (id : ObjId) (words : List ℕ) → LinksAgree m → LinksAgree (with_words m id words)
unfolding with_words object_of queue_of
links_with_words m id words links =
    record {
      queued = links.queued;
      waiting = links.waiting;
      once = links.once;
      one_way = links.one_way;
      receiver_reply = links.receiver_reply;
      called_reply = links.called_reply;
      waiting_reply = links.waiting_reply;
      reply_called = links.reply_called;
      thread_context = links.thread_context;
      context_thread = links.context_thread;
    }

pub with_word_formed : (m : Machine) (id : ObjId) (index word : ℕ) → IsWellFormed m → IsWellFormed (with_word m id index word)
unfolding with_word
with_word_formed m id index word formed = by_words (words_of m id) refl where
  by_words : (words : Option (List ℕ)) → words_of m id ≡ words → IsWellFormed (with_word m id index word)
  by_words None e = rw e formed
  by_words (Some words) e =
      let now : List ℕ = slice_set words index word in
      rw e
      (steady_formed m (with_words m id now) (words_steady m id words now e (length-set words index word))
      (links_with_words m id now formed.links) formed)

pub read_formed : (m next : Machine) → IsWellFormed m → next ≡ m → IsWellFormed next
read_formed m next formed same = subst IsWellFormed (sym same) formed

pub write_formed :
    (m : Machine) (caller : ObjId) (address index word : ℕ) (next : Machine) → IsWellFormed m
    → WriteDone m caller address index word next → IsWellFormed next
write_formed m caller address index word next formed done =
    subst IsWellFormed (sym done.changes) (with_word_formed m done.id index word formed)
