-- Facts that stay true if only slots differ: on parts, on links, and on numbers as far as capabilities are still found.
use Rattle.std.{specs.Prelude.{Some, option_map}, proofs.Common.{◌<◌, ◌∙◌, ◌≡◌, ◌⊎◌, ap, inl, inr, refl, subst, sym}}
use Rattle.base.specs.declared.ids.{ObjId.ObjId, SlotRef.SlotRef}
use Rattle.machine.specs.declared.{cap.Cap.Cap, object.{Object.{Object, Object as o}, ObjectKind.ObjectKind as kind, Untyped.Untyped}}
use Rattle.machine.specs.{Capabilities.kind_of_detail, Machine.{Machine, cap_of, object_of, parent_of, queue_of, words_of}}
use Rattle.machine.specs.{Objects.kind_of_object, WellFormed.{Descends, LiesIn, LinksAgree, NumbersFit, PartsFit, kind_of}}
use Rattle.machine.proofs.{LookUps.same_machine, SlotChanges.SameObjects}

-- a machine with the slots of another
abbrev with_slots : Machine → Machine → Machine
with_slots m other = record m { caps = other.caps; parents = other.parents }

all_else : (m next : Machine) → SameObjects m next → with_slots m next ≡ next
unfolding object_of queue_of words_of cap_of parent_of
all_else m next same =
    same_machine (with_slots m next) next (λ q. sym (same.objects q)) (λ q. sym (same.queues q)) (λ q. sym (same.words q))
    (λ q. refl) (λ q. refl) (sym same.number) (sym same.going)

parts_beside : (m other : Machine) → PartsFit m → PartsFit (with_slots m other)
unfolding object_of queue_of words_of
parts_beside m other fits =
    record {
      queue = fits.queue;
      words = fits.words;
      queue_of_object = fits.queue_of_object;
      words_of_object = fits.words_of_object;
    }

links_beside : (m other : Machine) → LinksAgree m → LinksAgree (with_slots m other)
unfolding object_of queue_of
links_beside m other links =
    record {
      queued = links.queued;
      waiting = links.waiting;
      once = links.once;
      one_way = links.one_way;
      receiver_reply = links.receiver_reply;
      called_reply = links.called_reply;
      waiting_reply = links.waiting_reply;
      reply_called = links.reply_called;
      thread_context = links.thread_context;
      context_thread = links.context_thread;
    }

-- each object that had a capability still has one
abbrev pub KeepsCaps : Machine → Machine → Type 0
KeepsCaps m next =
    (slot : SlotRef) (held : Cap) → cap_of m slot ≡ Some held
    → (at : SlotRef) × (now : Cap) × (cap_of next at ≡ Some now) × (now.object ≡ held.object)

-- an untyped has at most one capability
abbrev pub OneCap : Machine → Type 0
OneCap m =
    (a b : SlotRef) (first second : Cap) → cap_of m a ≡ Some first → cap_of m b ≡ Some second → first.object ≡ second.object
    → kind_of_detail first.detail ≡ kind.Untyped → a ≡ b

-- capabilities of one object still descend from those of an untyped, if all did
abbrev pub KeepsDescent : Machine → Machine → Type 0
KeepsDescent m next =
    (slot above : SlotRef) (held over : Cap) (memory : Untyped) → cap_of next slot ≡ Some held → cap_of next above ≡ Some over
    → object_of m over.object ≡ Some (o.Untyped memory)
    → ((low high : SlotRef) (below top : Cap) → cap_of m low ≡ Some below → below.object ≡ held.object → cap_of m high ≡ Some top
    → top.object ≡ over.object → Descends m low high)
    → Descends next slot above

-- two objects are one, or the first lies in the untyped memory that the second is
abbrev pub Kin : Machine → ObjId → ObjId → Type 0
Kin m low high =
    (low ≡ high)
    ⊎ ((memory : Untyped) × (made : Object) × (object_of m high ≡ Some (o.Untyped memory))
    × (object_of m low ≡ Some made) × LiesIn memory made)

module _ (m next : Machine) (same : SameObjects m next) where
  pub kin_same : (low high : ObjId) → Kin m low high → Kin next low high
  kin_same low high (inl one) = inl one
  kin_same low high (inr w) = inr (w.0, w.1, same.objects high ∙ w.2, same.objects low ∙ w.3, w.4)

  pub kinds_same : (q : ObjId) → kind_of next q ≡ kind_of m q
  kinds_same q = ap (option_map kind_of_object) (same.objects q)

  pub parts_same : PartsFit m → PartsFit next
  parts_same fits = subst PartsFit (all_else m next same) (parts_beside m next fits)

  pub links_same : LinksAgree m → LinksAgree next
  links_same links = subst LinksAgree (all_else m next same) (links_beside m next links)

  was : (q : ObjId) (object : Object) → object_of next q ≡ Some object → object_of m q ≡ Some object
  was q object e = sym (same.objects q) ∙ e

  pub numbers_same : KeepsCaps m next → OneCap next → KeepsDescent m next → NumbersFit m → NumbersFit next
  numbers_same caps one descent fits =
      record {
        below_next = λ id object e. subst (λ n. id.0 < n) (sym same.number) (fits.below_next id object (was id object e));
        ranged = λ id object e. fits.ranged id object (was id object e);
        one_cap = one;
        watermark = λ id memory e. fits.watermark id memory (was id (o.Untyped memory) e);
        inside =
            λ low high first second less e f meets.
            let w = fits.inside low high first second less (was low first e) (was high second f) meets in
            let now = caps w.1 w.2 w.4 in
            (w.0, now.0, now.1, w.3, now.2, now.3 ∙ w.5, w.6, w.7);
        made_from =
            λ low high first second slot above held over less e f meets g names h covers.
            let w = fits.inside low high first second less (was low first e) (was high second f) meets in
            descent slot above held over w.0 g h (ap (object_of m) covers ∙ was low first e ∙ ap (λ object. Some object) w.3)
            (λ a b below top p of q to.
            fits.made_from low high first second a b below top less (was low first e) (was high second f) meets p (of ∙ names) q
            (to ∙ covers));
        has_cap =
            λ low high first second less e f meets.
            let w = fits.has_cap low high first second less (was low first e) (was high second f) meets in
            let now = caps w.0 w.1 w.2 in
            (now.0, now.1, now.2, now.3 ∙ w.3);
      }
