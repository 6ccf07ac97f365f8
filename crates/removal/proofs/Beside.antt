-- Changes beside a removal: when nothing is going any more all else is as it was, and the tree alone changes no removal under way.
use Rattle.std.{specs.FinMap.FinMap, proofs.Common.{ℕ, ◌∙◌, ◌≡◌, Bool, ap, arith, refl}}
use Rattle.base.specs.declared.ids.SlotRef.{SlotRef}
use Rattle.machine.specs.{Changes.with_none_going, Counts.caps_to, Machine.{Machine, cap_of, object_of, parent_of, slot_cmp}}
use Rattle.machine.specs.WellFormed.{Descends, child, further}
use Rattle.{derivation.specs.Removing.parent_without, removal.specs.UnderWay.{AreGoing, IsUnderWay}}

-- a machine where nothing is going any more

pub none_going : (m : Machine) → AreGoing (with_none_going m)
unfolding with_none_going
none_going m =
    record {
      present = λ id listed. absurd (omega (arith, listed.1));
      unheld = λ id listed. absurd (omega (arith, listed.1));
      once = λ i j d before within. absurd (omega (arith, within));
    }

-- all else is as it was

pub parent_of-with_none_going : (m : Machine) (q : SlotRef) → parent_of (with_none_going m) q ≡ parent_of m q
unfolding with_none_going parent_of
parent_of-with_none_going m q = refl

pub without-with_none_going :
    (m : Machine) (slot q : SlotRef) → parent_without (with_none_going m) slot q ≡ parent_without m slot q
unfolding with_none_going parent_of
without-with_none_going m slot q = refl

pub descends_cleared : (m : Machine) {low high : SlotRef} → Descends m low high → Descends (with_none_going m) low high
descends_cleared m (child at) = child (parent_of-with_none_going m _ ∙ at)
descends_cleared m (further at rest) = further (parent_of-with_none_going m _ ∙ at) (descends_cleared m rest)

-- changes of the tree alone

way_beside :
    (m : Machine) (chosen : SlotRef → Bool) (now : Machine) (looked : ℕ) (links : FinMap slot_cmp SlotRef) → IsUnderWay m chosen now looked
    → IsUnderWay m chosen (record now { parents = links }) looked
unfolding cap_of caps_to
way_beside m chosen now looked links way =
    record {
      rest = ap (λ (n : Machine). record n { parents = links }) way.rest;
      kept = way.kept;
      going = way.going;
      once = way.once;
      within = way.within;
      through = way.through;
    }

going_beside : (m : Machine) (links : FinMap slot_cmp SlotRef) → AreGoing m → AreGoing (record m { parents = links })
unfolding object_of caps_to
going_beside m links going = record { present = going.present; unheld = going.unheld; once = going.once }

pub way_stays :
    (m : Machine) (chosen : SlotRef → Bool) (now next : Machine) (looked : ℕ) → next ≡ record now { parents = next.parents }
    → IsUnderWay m chosen now looked → IsUnderWay m chosen next looked
way_stays m chosen now next looked same way = rw same (way_beside m chosen now looked next.parents way)

pub going_stays : (m next : Machine) → next ≡ record m { parents = next.parents } → AreGoing m → AreGoing next
going_stays m next same going = rw same (going_beside m next.parents going)
