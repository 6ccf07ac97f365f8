-- CNodes that capabilities show: each takes bits, if each CNode of the machine does.
use Rattle.std.proofs.{Common.{◌<◌, ◌≡◌, ◌≤◌, Bool, None, Option, Some, refl, subst}, lemmas.Option.same_Some}
use Rattle.base.specs.declared.ids.ObjId.{ObjId}
use Rattle.machine.specs.declared.{cap.{Cap.Cap, Detail.{Detail, Detail as d}, Guard.Guard}, object.CNode.CNode}
use Rattle.machine.specs.{declared.object.Object.{Object, Object as o}, Lookup.{Level, level_at, level_of_cap, level_through}}
use Rattle.{machine.specs.Machine.{Machine, cap_of, object_of}, cspace.specs.Chain.TakesBits}

pub takes_bits :
    (m : Machine) → ((id : ObjId) (node : CNode) → object_of m id ≡ Some (o.CNode node) → (0 < node.radix) × (node.radix ≤ 12))
    → TakesBits m
unfolding level_at
takes_bits m radices slot level at = by_cap (cap_of m slot) at where
  by_object :
      (node : ObjId) (guard : Guard) (object : Option Object) → object_of m node ≡ object
      → level_through node guard object ≡ Some level → 0 < level.radix
  by_object node guard (Some (o.CNode slots)) is e =
      subst (λ (l : Level). 0 < l.radix) (same_Some _ level e) (radices node slots is).0
  by_object node guard _ is e = cc

  by_detail :
      (node : ObjId) (detail : Detail) (original : Bool)
      → level_of_cap m (Some (record { object = node; detail = detail; original = original })) ≡ Some level → 0 < level.radix
  by_detail node (d.CNode guard) original e = by_object node guard (object_of m node) refl e
  by_detail node _ original e = cc

  by_cap : (held : Option Cap) → level_of_cap m held ≡ Some level → 0 < level.radix
  by_cap None e = cc
  by_cap (Some held) e = by_detail held.object held.detail held.original e
