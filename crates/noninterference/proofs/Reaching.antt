-- Machines that a run of a fixed system reaches: what threads find, and the kinds and the labels of objects, stay as at boot.
use Rattle.std.{specs.Prelude.{List, None, Option, Some, option_map}, proofs.Common.{[], ◌++◌, ◌∙◌, ◌∷◌, ◌≡◌, ap, refl, subst, sym}}
use Rattle.{std.proofs.lemmas.Option.{none-some, same_Some}, base.specs.declared.ids.ObjId.ObjId}
use Rattle.machine.specs.declared.{call.{Event.Event, Outcome.Outcome}, object.Object.{Object, Object as o}}
use Rattle.machine.specs.{declared.object.ObjectKind.{ObjectKind, ObjectKind as kind}, Authority.label_of, Boot.IsBoot}
use Rattle.machine.specs.{Layout.Layout, Machine.{Machine, object_of}, Objects.{address_of, kind_of_object}}
use Rattle.machine.{specs.{Run.Run, Step.Step, WellFormed.IsWellFormed}, proofs.LookUps.same_machine}
use Rattle.{table.specs.Rules.IsLawful, integrity.{specs.Safe.IsReached, proofs.ObjectLabels.label_stays}}
use Rattle.noninterference.{specs.Fixed.{IsFixed, IsStill, StaysFixed}, proofs.{Finds.IsFixedAt, RunsStay.{boot_fixed, run_stays}}}
use Rattle.noninterference.proofs.Staying.{fixed_stays}

-- one more event
run_more :
    (first : Machine) (events : List Event) (outcomes : List Outcome) (m next : Machine) (event : Event) (outcome : Outcome)
    → Run first events outcomes m → Step m event outcome next → Run first (events ++ event ∷ []) (outcomes ++ outcome ∷ []) next
run_more first [] [] m next event outcome ran step =
    (next, subst (λ (x : Machine). Step x event outcome next) (sym ran) step, refl)
run_more first [] (other ∷ outcomes) m next event outcome ran step = absurd ran
run_more first (other ∷ events) [] m next event outcome ran step = absurd ran
run_more first (other ∷ events) (ended ∷ outcomes) m next event outcome ran step =
    (ran.0, ran.1, run_more ran.0 events outcomes m next event outcome ran.2 step)

pub reached_next :
    (t : Layout) (m next : Machine) (event : Event) (outcome : Outcome) → IsReached t m → Step m event outcome next → IsReached t next
reached_next t m next event outcome reached step = record {
  boot = reached.boot;
  booted = reached.booted;
  events = reached.events ++ event ∷ [];
  outcomes = reached.outcomes ++ outcome ∷ [];
  run = run_more reached.boot reached.events reached.outcomes m next event outcome reached.run step;
}

pub boot_reached : (t : Layout) (boot : Machine) → IsBoot t boot → IsReached t boot
boot_reached t boot booted = record { boot = boot; booted = booted; events = []; outcomes = []; run = refl }

-- whether an object is still depends on its kind

abbrev IsOfStillKind : ObjectKind → Type 0
IsOfStillKind kind.Tcb = ⊥
IsOfStillKind kind.Notification = ⊥
IsOfStillKind kind.Reply = ⊥
IsOfStillKind kind.Context = ⊥
IsOfStillKind _ = Unit {0}

still_kind : (object : Object) → IsStill object → IsOfStillKind (kind_of_object object)
still_kind (o.Tcb _) still = still
still_kind (o.Notification _) still = still
still_kind (o.Reply _) still = still
still_kind (o.Context _) still = still
still_kind _ still = still

kind_still : (object : Object) → IsOfStillKind (kind_of_object object) → IsStill object
kind_still (o.Tcb _) still = still
kind_still (o.Notification _) still = still
kind_still (o.Reply _) still = still
kind_still (o.Context _) still = still
kind_still _ still = still

-- an object that is still is as it was at boot, and the same in both
pub still_alike :
    (boot m n : Machine) → StaysFixed boot m → StaysFixed boot n → (id : ObjId) (object : Object) → object_of m id ≡ Some object
    → IsStill object → object_of n id ≡ Some object
still_alike boot m n one other id object there still = by_content (object_of boot id) refl where
  by_content : (content : Option Object) → object_of boot id ≡ content → object_of n id ≡ Some object
  by_content None was = absurd (none-some object (sym ((one.present id).1 was) ∙ there))
  by_content (Some old) was =
      let kinds : kind_of_object object ≡ kind_of_object old =
      same_Some (kind_of_object object) (kind_of_object old)
      (sym (ap (option_map kind_of_object) there) ∙ one.kinds id ∙ ap (option_map kind_of_object) was) in
      let old_still = kind_still old (subst IsOfStillKind kinds (still_kind object still)) in
      other.contents id old was old_still ∙ sym (one.contents id old was old_still) ∙ there

-- an object keeps its label
pub label_fixed : (t : Layout) (boot m : Machine) (id : ObjId) → StaysFixed boot m → label_of t m id ≡ label_of t boot id
unfolding label_of
label_fixed t boot m id stays = by_content (object_of boot id) (object_of m id) refl refl where
  by_content :
      (was is : Option Object) → object_of boot id ≡ was → object_of m id ≡ is → label_of t m id ≡ label_of t boot id
  by_content None is was_so is_so = let gone = (stays.present id).1 was_so in rw (gone, was_so) refl
  by_content (Some old) None was_so is_so = let gone = (stays.present id).0 is_so in absurd (none-some old (sym gone ∙ was_so))
  by_content (Some old) (Some new) was_so is_so =
      label_stays t boot m id old new was_so is_so
      (same_Some (address_of new) (address_of old)
      (sym (ap (option_map address_of) is_so) ∙ stays.addresses id ∙ ap (option_map address_of) was_so))

-- a table has one boot state
one_boot : (t : Layout) (boot again : Machine) → IsBoot t boot → IsBoot t again → boot ≡ again
one_boot t boot again one two =
    same_machine boot again (λ q. one.objects q ∙ sym (two.objects q)) (λ q. one.queues q ∙ sym (two.queues q))
    (λ q. one.words q ∙ sym (two.words q)) (λ slot. one.caps slot ∙ sym (two.caps slot)) (λ slot. one.parents slot ∙ sym (two.parents slot))
    (one.next ∙ sym two.next) (one.going ∙ sym two.going)

module _
    (t : Layout) (lawful : IsLawful t) (fixed : IsFixed t)
    (formed : (boot : Machine) → IsLawful t → IsBoot t boot → IsWellFormed boot) where
  pub stays_from : (boot : Machine) → IsBoot t boot → (m : Machine) → IsReached t m → StaysFixed boot m
  stays_from boot booted m reached =
      subst (λ (x : Machine). StaysFixed x m) (one_boot t reached.boot boot reached.booted booted)
      (run_stays reached.boot reached.events reached.outcomes m (formed reached.boot lawful reached.booted)
      (boot_fixed t reached.boot fixed reached.booted) reached.run)

  pub fixed_at : (m : Machine) → IsReached t m → IsFixedAt m
  fixed_at m reached =
      fixed_stays reached.boot m (boot_fixed t reached.boot fixed reached.booted) (stays_from reached.boot reached.booted m reached)

  pub labels_alike : (m n : Machine) → IsReached t m → IsReached t n → (id : ObjId) → label_of t n id ≡ label_of t m id
  labels_alike m n one other id =
      label_fixed t one.boot n id (stays_from one.boot one.booted n other)
      ∙ sym (label_fixed t one.boot m id (stays_from one.boot one.booted m one))
