-- A system that breaks P6 alone, by which who may bind a context may run on it: a thread with a CNode that holds capabilities for a context
-- of another label and for a second thread.
use Rattle.std.{specs.Prelude.{Option, codes}, proofs.Common.{[], ◌&&◌, ◌==◌, ◌∷◌, None, true}}
use Rattle.base.specs.declared.{ids.ObjId.ObjId, kind.Kind.TheVariants.Context}
use Rattle.{machine.specs.{declared.{cap.Cap.Cap, object.Object.{Object, Object as o}}, Layout.Layout}, policy.specs.Domain.EdgeTest}
use Rattle.verdict.proofs.SmallSystem.{context, filled, id, labelled, node, slot, space_cap, thread}
use Rattle.machine.specs.declared.cap.Detail.TheVariants as d
use Rattle.machine.specs.declared.layout.Version.TheVariants as version
use Rattle.machine.specs.declared.thread.Inbox.TheVariants as inbox
use Rattle.machine.specs.declared.thread.RunState.TheVariants as state

-- a context of label 1 that no thread runs on, at first
abbrev pub spare : Option ObjId → Object
spare runner = o.Context (record { address = 0x4100; share = None; thread = runner })

-- a thread of label 0 that runs on no context, at first
abbrev pub second : Option ObjId → Object
second runs_on = o.Tcb (record { address = 0x2400; state = state.Inactive; inbox = inbox.Empty; context = runs_on })

abbrev pub spare_cap : Cap
spare_cap = record { object = id 3; detail = d.Context; original = true }

abbrev pub second_cap : Cap
second_cap = record { object = id 4; detail = d.Tcb; original = true }

unfoldable pub binding : Layout
binding = record {
  version = version.One;
  labels = codes "a" ∷ codes "b" ∷ [];
  names = codes "own" ∷ codes "thread" ∷ codes "context" ∷ codes "spare" ∷ codes "second" ∷ [];
  objects =
      labelled 0 node ∷ labelled 0 (thread None) ∷ labelled 0 (context None) ∷ labelled 1 (spare None)
      ∷ labelled 0 (second None) ∷ [];
  caps = filled (slot 0 0) spare_cap ∷ filled (slot 0 1) second_cap ∷ filled (slot 1 0) space_cap ∷ [];
  pairs = [];
  bindings = record { thread = id 1; context = id 2 } ∷ [];
}

-- The policy, of the labels 0 and 1, obeys every rule but P6: label 0 has every edge to itself, and context to 1.
abbrev pub joins : EdgeTest
joins a Context b = a == 0
joins a k b = a == 0 && b == 0
