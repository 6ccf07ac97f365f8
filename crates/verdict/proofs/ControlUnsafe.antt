-- A system that breaks P2 alone and isn't safe: its thread makes an endpoint of untyped memory of another label, whose capability resets
-- the endpoint.
use Rattle.std.specs.FinMap as map
use Rattle.std.proofs.Common.{[], ℕ, ◌<◌, ◌∙◌, ◌∷◌, ◌≡◌, Bool, List, Ok, Some, ap, arith, false, if◌then◌else◌, lit<, lit≤, option_map}
use Rattle.{std.proofs.Common.{refl, suc, sym, true, zero}, base.specs.declared.{ids.ObjId.ObjId, kind.Kind.TheVariants.Reset}}
use Rattle.machine.specs.declared.call.{Answer.TheVariants.Count, Call.TheVariants.Retype, Event.Event, Made.TheVariants.Done}
use Rattle.machine.specs.declared.{call.Outcome.Outcome as outcome, object.Object.{Object, Object as o}}
use Rattle.machine.specs.{Authority.{HasAuthority, HasAuthority.by_cap, label_at, label_of}, Bits.bits, Boot.{IsBoot, booted}}
use Rattle.machine.specs.{Counts.{objects_in, slots_in, threads_in}, Machine.{Machine, cap_of, id_cmp, object_of, same_id}}
use Rattle.machine.specs.Memory.{Source, begun, has_child, new_cap, new_detail, new_object, with_made}
use Rattle.machine.specs.{Objects.kind_of_object, Step.{Retype.{find_taker, find_untyped, retype_of, within_limits}, step_of}}
use Rattle.{machine.proofs.{LookUps.{id_apart, id_total}, ObjectMade.{MakesObject, made_makes}}, policy.specs.Needed.control_gives_all}
use Rattle.verdict.{specs.Counterexamples.UnsafeWithout, proofs.ControlSystem.{joins, making, memory, own}}
use Rattle.verdict.proofs.{FewLabels.among, SmallSystem.{context, finding, id, reading, slot, stepping, thread}}
use Rattle.verdict.proofs.UnsafeBy.{LeadsOutside, led_by_one, tests, unsafe_by_tests}
use Rattle.machine.specs.declared.object.MemoryKind.TheVariants as kind

unfoldable pub retyping : Event
retyping = record { core = 0; thread = id 1; call = Retype 0 kind.Endpoint 0 1 2 1 }

abbrev source : Source
source = record { slot = slot 0 0; id = id 3; memory = memory }

abbrev objects : List (ObjId × Object)
objects =
    (id 0, own) ∷ (id 1, thread (Some (id 2))) ∷ (id 2, context (Some (id 1))) ∷ (id 3, o.Untyped memory) ∷ []

same_either : {X : Type 0} (b : Bool) (x : X) → (if b then x else x) ≡ x
same_either true x = refl
same_either false x = refl

-- other numbers
beyond : (n k : ℕ) → k < 4 → same_id (id (suc (suc (suc (suc n))))) (id k) ≡ false
beyond n k small = grind arith

module _ (m : Machine) (boot : IsBoot making m) where
  object_at : (n : ℕ) → booted making (id n) ≡ map.find id_cmp (id n) objects
  unfolding making reading
  object_at zero = refl
  object_at (suc zero) = refl
  object_at (suc (suc zero)) = refl
  object_at (suc (suc (suc zero))) = refl
  object_at (suc (suc (suc (suc n)))) = rw (beyond n 0 (lit< tt), beyond n 1 (lit< tt), beyond n 2 (lit< tt), beyond n 3 (lit< tt)) refl

  all_objects : map.entries m.objects ≡ objects
  unfolding object_of
  all_objects =
      ap map.entries
      (map.same_map id_total id_apart m.objects (map.from_sorted objects)
      (λ q. boot.objects q ∙ object_at q.0 ∙ sym (map.get-from_sorted id_cmp objects q tt)))
      ∙ map.entries-from_sorted id_cmp objects tt

  number : m.next ≡ 4
  unfolding making
  number = boot.next

  pub after_retype : Machine
  after_retype = with_made m source kind.Endpoint 0 (slot 0 2)

  finds : find_untyped m (id 1) 0 ≡ Ok source
  unfolding find_untyped finding making reading
  finds = rw (boot.objects (id 1), boot.caps (slot 1 0), boot.objects (id 0), boot.caps (slot 0 0), boot.objects (id 3)) refl

  takes : find_taker m (id 1) 1 ≡ Ok (record { node = id 0; guard = bits 62 0; radix = 2 })
  unfolding find_taker finding making reading
  takes = rw (boot.objects (id 1), boot.caps (slot 1 0), boot.objects (id 0), boot.caps (slot 0 1), boot.objects (id 0)) refl

  begins : begun m source ≡ source
  begins = same_either (has_child m (slot 0 0)) source

  fits : within_limits m (new_object kind.Endpoint 0 0) 1 ≡ Ok tt
  unfolding objects_in slots_in threads_in
  fits = rw (all_objects, number) refl

  retypes : retype_of m (id 1) 0 kind.Endpoint 0 1 2 1 ≡ Ok (Done (Count 1), after_retype)
  unfolding after_retype making reading retype_of
  retypes = rw (finds, takes, boot.caps (slot 0 2), begins, fits) refl

  made : step_of m retyping ≡ (outcome.Done (Count 1), after_retype)
  unfolding making reading retyping stepping
  made = rw (boot.objects (id 1), boot.objects (id 2), retypes) refl

  makes : MakesObject m source 0x8010 (o.Endpoint (record { address = 0x8000 })) (new_detail kind.Endpoint) (slot 0 2) after_retype
  unfolding after_retype
  makes = made_makes m source kind.Endpoint 0 (slot 0 2)

  node_after : object_of after_retype (id 0) ≡ Some own
  unfolding making object_of reading
  node_after = makes.objects (id 0) ∙ rw number (boot.objects (id 0))

  new_after : object_of after_retype (id 4) ≡ Some (o.Endpoint (record { address = 0x8000 }))
  new_after = makes.objects (id 4) ∙ rw number refl

  cap_after : cap_of after_retype (slot 0 2) ≡ Some (new_cap 4 kind.Endpoint)
  cap_after = makes.caps (slot 0 2) ∙ rw number refl

  node_label : label_of making after_retype (id 0) ≡ Some 0
  unfolding label_of making reading
  node_label = rw node_after refl

  -- what is made has the label of the memory
  new_label : label_of making after_retype (id 4) ≡ Some 1
  unfolding making label_at label_of
  new_label = rw new_after refl

  outside : HasAuthority making after_retype 0 Reset 1
  outside =
      by_cap (slot 0 2) (new_cap 4 kind.Endpoint) cap_after (ap (option_map kind_of_object) node_after) refl node_label new_label

leads : (m : Machine) → IsBoot making m → LeadsOutside making (among 2 joins) m
unfolding among
leads m boot = led_by_one making (among 2 joins) m retyping _ (after_retype m boot) (made m boot) 0 Reset 1 (outside m boot) refl

pub unsafe_without_control : UnsafeWithout control_gives_all
unfolding making tests
unsafe_without_control = unsafe_by_tests control_gives_all making 2 joins (lit≤ tt) refl refl leads
