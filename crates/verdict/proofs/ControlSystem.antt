-- A system that breaks P2 alone, by which control gives all: a thread of label 0 with a CNode of its label, which holds capabilities for
-- untyped memory of label 1 and for itself. The thread makes an endpoint of the memory.
use Rattle.std.{specs.Prelude.codes, proofs.Common.{[], ◌∷◌, None, true}}
use Rattle.base.specs.{declared.kind.Kind.TheVariants.Control, Kinds.is_structural}
use Rattle.machine.specs.{declared.{cap.Cap.Cap, object.{Object.{Object, Object as o}, Untyped.Untyped}}, Layout.Layout}
use Rattle.{policy.specs.Domain.EdgeTest, verdict.proofs.SmallSystem.{context, filled, id, labelled, slot, thread}}
use Rattle.machine.specs.declared.cap.Detail.TheVariants as d
use Rattle.machine.specs.declared.layout.Version.TheVariants as version

abbrev pub own : Object
own = o.CNode (record { address = 0x1000; radix = 2 })

abbrev pub memory : Untyped
memory = record { base = 0x8000; bits = 12; watermark = 0x8000 }

abbrev pub memory_cap : Cap
memory_cap = record { object = id 3; detail = d.Untyped; original = true }

-- a capability for the CNode, with a guard of 62 zeros
abbrev pub own_cap : Cap
own_cap = record { object = id 0; detail = d.CNode (record { size = 62; value = 0 }); original = true }

unfoldable pub making : Layout
making = record {
  version = version.One;
  labels = codes "a" ∷ codes "b" ∷ [];
  names = codes "own" ∷ codes "thread" ∷ codes "context" ∷ codes "memory" ∷ [];
  objects = labelled 0 own ∷ labelled 0 (thread None) ∷ labelled 0 (context None) ∷ labelled 1 (o.Untyped memory) ∷ [];
  caps = filled (slot 0 0) memory_cap ∷ filled (slot 0 1) own_cap ∷ filled (slot 1 0) own_cap ∷ [];
  pairs = [];
  bindings = record { thread = id 1; context = id 2 } ∷ [];
}

-- The policy, of the labels 0 and 1, obeys every rule but P2: each label controls both, and has all structural edges to both, and no
-- others.
abbrev pub joins : EdgeTest
joins a Control b = true
joins a k b = is_structural k
