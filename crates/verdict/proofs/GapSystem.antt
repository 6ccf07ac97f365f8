-- A system whose policy lacks one derive edge: a thread of label 0 with a CNode that holds capabilities for itself and for a CNode of label
-- 1, the latter derived from one in a CNode of label 2. The thread copies it into the CNode of label 1.
use Rattle.std.{specs.Prelude.codes, proofs.Common.{[], ℕ, ◌&&◌, ◌==◌, ◌∷◌, None, Some, false, nat_lt, not, true}}
use Rattle.base.specs.declared.kind.Kind.TheVariants.{Derive, Holds}
use Rattle.machine.specs.{declared.{cap.{Cap.Cap, Detail.Detail as d}, object.Object.{Object, Object as o}}, Layout.Layout}
use Rattle.{policy.specs.Domain.EdgeTest, verdict.proofs.SmallSystem.{filled, id, labelled, slot, thread}}
use Rattle.machine.specs.declared.layout.Version.TheVariants as version

abbrev pub cnode : ℕ → Object
cnode address = o.CNode (record { address = address; radix = 1 })

abbrev pub context : Object
context = o.Context (record { address = 0x4000; share = Some (record { core = 0; budget = 10; period = 10 }); thread = None })

-- a capability for a CNode, with a guard of 63 zeros
abbrev pub node_cap : ℕ → Cap
node_cap number = record { object = id number; detail = d.CNode (record { size = 63; value = 0 }); original = true }

-- one that was derived
abbrev pub derived_cap : Cap
derived_cap = record { object = id 1; detail = d.CNode (record { size = 63; value = 0 }); original = false }

unfoldable pub gap : Layout
gap = record {
  version = version.One;
  labels = codes "a" ∷ codes "b" ∷ codes "c" ∷ [];
  names = codes "own" ∷ codes "other" ∷ codes "source" ∷ codes "thread" ∷ codes "context" ∷ [];
  objects =
      labelled 0 (cnode 0x1000) ∷ labelled 1 (cnode 0x1040) ∷ labelled 2 (cnode 0x1080) ∷ labelled 0 (thread None)
      ∷ labelled 0 context ∷ [];
  caps =
      filled (slot 0 0) (node_cap 0) ∷ filled (slot 0 1) derived_cap ∷ filled (slot 2 0) (node_cap 1)
      ∷ filled (slot 3 0) (node_cap 0) ∷ [];
  pairs = record { parent = slot 2 0; child = slot 0 1 } ∷ [];
  bindings = record { thread = id 3; context = id 4 } ∷ [];
}

-- The policy, of the labels 0, 1 and 2, obeys every rule but one part of P5: each label may do everything to 0 and 1, and 2 derives on 0,
-- and 0 on 1, but 2 doesn't on 1.
abbrev pub joins : EdgeTest
joins a Holds b = true
joins a Derive b = nat_lt b 2 && not (a == 2 && b == 1)
joins a k b = nat_lt b 2
