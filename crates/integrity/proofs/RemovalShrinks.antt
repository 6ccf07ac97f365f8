-- Objects that a removal changes shrink: they vanish, or lose capabilities, waiting threads and links.
use Rattle.std.{specs.Prelude.{None, Option, Some, filter, option_map}, proofs.Common.{[], ◌∙◌, ◌∷◌, ◌≡◌, ◌⊎◌, Bool, List, ap, cond, false}}
use Rattle.std.proofs.{Common.{inl, inr, not, refl, sym, true}, lemmas.Bool.false≢true}
use Rattle.base.specs.declared.ids.{ObjId.ObjId, SlotRef.SlotRef}
use Rattle.machine.specs.declared.object.{Context.Context, Object.{Object, Object as o}, Reply.Reply, ReplyState.ReplyState}
use Rattle.machine.specs.{declared.{object.ReplyState.ReplyState as reply, thread.{RunState.RunState, Tcb.Tcb}}, Finalising.finalised}
use Rattle.machine.specs.Finalising.{is_aborted, is_halted, leads_nowhere, leaves, link_after, reply_after, staying_in, tcb_after, unbound}
use Rattle.machine.specs.Finalising as finalising
use Rattle.machine.specs.{Gone.gone_of, Machine.{Machine, cap_of, object_of, words_of}, Removal.removed}
use Rattle.machine.{specs.{Removal.vanishes, WellFormed.IsWellFormed}, proofs.RemovalLooks.{cap_of-removed, object_of-removed}}
use Rattle.machine.proofs.{RemovalLooks.words_of-removed, RemovalTable.finalised_there}
use Rattle.machine.specs.declared.thread.RunState.TheVariants as state
use Rattle.steps.proofs.{LeavingLinks.queue_now, RemovalLinks.{have_left, leavers}, RemovalNumbers.removed_formed}
use Rattle.integrity.specs.Shrinks.{HasLess, IsBlocked, IsPart, IsSame, Lessens, LosesLink, Shrinks, IsPart.{ended, left, stayed}}
use Rattle.integrity.specs.Shrinks.{Lessens.{as_it_was, freed, released, unbound as unbinds}, Stops.{aborted, goes_on, halted}}
use Rattle.integrity.proofs.Held.{bare_of}

-- the elements that stay of a list, in their order, are a part of it
pub part_of_all : (test : ObjId → Bool) (all : List ObjId) → IsPart (filter test all) all
part_of_all test [] = ended
part_of_all test (x ∷ all) = by_test (test x) (part_of_all test all) where
  by_test : (b : Bool) → IsPart (filter test all) all → IsPart (cond b (x ∷ filter test all) (filter test all)) (x ∷ all)
  by_test true rest = stayed rest
  by_test false rest = left rest

link_lost : (vanished : ObjId → Bool) (link : Option ObjId) → LosesLink link (link_after vanished link)
link_lost vanished link = by_end (leads_nowhere vanished link) where
  by_end : (b : Bool) → LosesLink link (cond b None link)
  by_end true = inr refl
  by_end false = inl refl

-- a halted or aborted thread waited for something

halted_blocked : (vanished : ObjId → Bool) (run : RunState) → is_halted vanished run ≡ true → IsBlocked run
halted_blocked vanished (state.Receiving receiving) is = tt
halted_blocked vanished (state.Called calling) is = tt
halted_blocked vanished _ is = absurd (false≢true is)

aborted_blocked : (vanished : ObjId → Bool) (run : RunState) → is_aborted vanished run ≡ true → IsBlocked run
aborted_blocked vanished (state.Sending sending) is = tt
aborted_blocked vanished (state.Receiving receiving) is = tt
aborted_blocked vanished (state.Waiting notification) is = tt
aborted_blocked vanished _ is = absurd (false≢true is)

tcb_lessens : (vanished : ObjId → Bool) (tcb : Tcb) → Lessens (o.Tcb tcb) (o.Tcb (tcb_after vanished tcb))
tcb_lessens vanished tcb = by_ways (is_halted vanished tcb.state) (is_aborted vanished tcb.state) refl refl where
  by_ways :
      (halts aborts : Bool) → is_halted vanished tcb.state ≡ halts → is_aborted vanished tcb.state ≡ aborts
      → Lessens (o.Tcb tcb) (o.Tcb (unbound vanished (cond halts (finalising.halted tcb) (cond aborts (finalising.aborted tcb) tcb))))
  by_ways true aborts is also =
      released tcb _ refl refl refl (halted (halted_blocked vanished tcb.state is) refl refl) (link_lost vanished tcb.context)
  by_ways false true isnt is =
      released tcb _ refl refl refl (aborted (aborted_blocked vanished tcb.state is) refl refl) (link_lost vanished tcb.context)
  by_ways false false isnt nor = released tcb _ refl refl refl (goes_on refl refl) (link_lost vanished tcb.context)

reply_lessens :
    (m : Machine) (vanished : ObjId → Bool) (holding : Reply) (held : ReplyState) → holding.state ≡ held
    → Lessens (o.Reply holding) (o.Reply (record holding { state = reply_after m vanished held }))
reply_lessens m vanished holding held is = by_state held is where
  by_left :
      (held : ReplyState) (b : Bool) → holding.state ≡ held
      → Lessens (o.Reply holding) (o.Reply (record holding { state = cond b reply.Free held }))
  by_left held true is = freed holding _ refl refl refl refl
  by_left held false is = as_it_was (ap (λ s. o.Reply (record holding { state = s })) (sym is))

  by_state :
      (held : ReplyState) → holding.state ≡ held
      → Lessens (o.Reply holding) (o.Reply (record holding { state = reply_after m vanished held }))
  by_state reply.Free is = by_left reply.Free false is
  by_state (reply.Waiting thread) is = by_left (reply.Waiting thread) (leaves m vanished thread) is
  by_state (reply.Called thread) is = by_left (reply.Called thread) (leaves m vanished thread) is

context_lessens :
    (vanished : ObjId → Bool) (context : Context)
    → Lessens (o.Context context) (o.Context (record context { thread = link_after vanished context.thread }))
context_lessens vanished context = by_end (leads_nowhere vanished context.thread) where
  by_end : (b : Bool) → Lessens (o.Context context) (o.Context (record context { thread = cond b None context.thread }))
  by_end true = unbinds context _ refl refl refl refl refl
  by_end false = as_it_was refl

finalised_lessens : (m : Machine) (vanished : ObjId → Bool) (object : Object) → Lessens object (finalised m vanished object)
finalised_lessens m vanished (o.Tcb tcb) = tcb_lessens vanished tcb
finalised_lessens m vanished (o.Reply holding) = reply_lessens m vanished holding holding.state refl
finalised_lessens m vanished (o.Context context) = context_lessens vanished context
finalised_lessens m vanished _ = as_it_was refl

module _ (m : Machine) (chosen : SlotRef → Bool) where
  abbrev after : Machine
  after = removed m chosen

  abbrev vanished : ObjId → Bool
  vanished = vanishes m chosen

  pub words_stay : (id : ObjId) → vanishes m chosen id ≡ false → words_of (removed m chosen) id ≡ words_of m id
  words_stay id stays = words_of-removed m chosen id ∙ ap (λ b. cond b None (words_of m id)) stays

  cap_lost : (slot : SlotRef) → (cap_of (removed m chosen) slot ≡ cap_of m slot) ⊎ (cap_of (removed m chosen) slot ≡ None)
  cap_lost slot = by_gone (gone_of m chosen slot) (cap_of-removed m chosen slot) where
    by_gone :
        (b : Bool) → cap_of after slot ≡ cond b None (cap_of m slot)
        → (cap_of after slot ≡ cap_of m slot) ⊎ (cap_of after slot ≡ None)
    by_gone true e = inr e
    by_gone false e = inl e

  pub object_gone : (id : ObjId) → vanishes m chosen id ≡ true → object_of (removed m chosen) id ≡ None
  object_gone id gone = object_of-removed m chosen id ∙ ap (λ b. cond b None (option_map (finalised m vanished) (object_of m id))) gone

  module _ (formed : IsWellFormed m) where
    has_less : (id : ObjId) (object : Object) → object_of m id ≡ Some object → vanished id ≡ false → HasLess m after id
    has_less id object at stays =
        let queue = formed.parts.queue id object at in
        record {
          old = object;
          new = finalised m vanished object;
          was = at;
          is = finalised_there m chosen id object at stays;
          content = finalised_lessens m vanished object;
          waited = queue.0;
          waiting = staying_in m vanished queue.0;
          queue_was = queue.1;
          queue_is = queue_now m (removed m chosen) (leavers m chosen) (have_left m chosen) id queue.0 stays queue.1;
          queue = part_of_all (λ thread. not (leaves m vanished thread)) queue.0;
          words = words_stay id stays;
          slots = λ index. cap_lost (record { holder = id; index = index });
        }

    pub removed_shrinks : (id : ObjId) (object : Object) → object_of m id ≡ Some object → Shrinks m (removed m chosen) id
    removed_shrinks id object at = by_vanished (vanished id) refl where
      by_vanished : (b : Bool) → vanished id ≡ b → Shrinks m after id
      by_vanished true gone = inl (object_gone id gone)
      by_vanished false stays = inr (has_less id object at stays)

none_either : (b : Bool) → ◌≡◌ {A = Option Object} (cond b None None) None
none_either true = refl
none_either false = refl

-- an object that isn't there before isn't there after
pub absent_after : (m : Machine) (chosen : SlotRef → Bool) (id : ObjId) → object_of m id ≡ None → object_of (removed m chosen) id ≡ None
absent_after m chosen id absent =
    object_of-removed m chosen id
    ∙ ap (λ found. cond (vanishes m chosen id) None (option_map (finalised m (vanishes m chosen)) found)) absent
    ∙ none_either (vanishes m chosen id)

pub absent_stays :
    (m : Machine) (chosen : SlotRef → Bool) → IsWellFormed m → (id : ObjId) → object_of m id ≡ None → IsSame m (removed m chosen) id
absent_stays m chosen formed id absent =
    let gone = absent_after m chosen id absent in
    let before = bare_of m formed id absent in
    let then = bare_of (removed m chosen) (removed_formed m chosen formed) id gone in
    record {
      content = gone ∙ sym absent;
      queue = then.queue ∙ sym before.queue;
      words = then.words ∙ sym before.words;
      slots = λ index. then.slots index ∙ sym (before.slots index);
    }

pub same_or_shrinks :
    (m : Machine) (chosen : SlotRef → Bool) → IsWellFormed m → (id : ObjId)
    → IsSame m (removed m chosen) id ⊎ Shrinks m (removed m chosen) id
same_or_shrinks m chosen formed id = by_object (object_of m id) refl where
  by_object : (found : Option Object) → object_of m id ≡ found → IsSame m (removed m chosen) id ⊎ Shrinks m (removed m chosen) id
  by_object (Some object) at = inr (removed_shrinks m chosen formed id object at)
  by_object None absent = inl (absent_stays m chosen formed id absent)
