-- A small system: a CNode of label 1, a thread of label 0, a notification of label 2, and a scheduling context of label 0 for core
-- 0. The thread finds the notification at the address 0, and runs on the context.
use Rattle.std.{specs.Prelude.codes, proofs.Common.{[], ℕ, ◌∷◌, Bool, None, Option, Some, false, refl, true}}
use Rattle.base.specs.declared.ids.{ObjId.ObjId, SlotRef.SlotRef}
use Rattle.machine.specs.declared.{cap.{Badged.Badged, Cap.Cap}, layout.{Filled.Filled, Initial.Initial}}
use Rattle.machine.specs.{declared.object.Object.{Object, Object as o}, Layout.{Layout, bound_context, bound_thread}}
use Rattle.machine.specs.{Layout.{declared_label, initial_cap, initial_of, initial_parent}, Lookup.{hop, level_at, lookup_of, walk}}
use Rattle.machine.specs.Step.{Find.{find, find_cap}, Target.lookup_target_of, admitted, made_by, step_of}
use Rattle.{table.specs.Rules.IsLawful, policy.specs.Domain.EdgeTest, verdict.proofs.TestTables.{lawful_by_tests, rebuilding}}
use Rattle.machine.specs.declared.cap.Detail.TheVariants as d
use Rattle.machine.specs.declared.layout.Version.TheVariants as version
use Rattle.machine.specs.declared.thread.Inbox.TheVariants as inbox
use Rattle.machine.specs.declared.thread.RunState.TheVariants as state

abbrev pub id : ℕ → ObjId
id n = record { 0 = n }

abbrev pub slot : ℕ → ℕ → SlotRef
slot holder index = record { holder = id holder; index = index }

abbrev pub node : Object
node = o.CNode (record { address = 0x1000; radix = 1 })

abbrev pub thread : Option ObjId → Object
thread context = o.Tcb (record { address = 0x2000; state = state.Ready; inbox = inbox.Empty; context = context })

abbrev pub notification : Option ℕ → Object
notification word = o.Notification (record { address = 0x3000; pending = word })

abbrev pub context : Option ObjId → Object
context runner =
    o.Context (record { address = 0x4000; share = Some (record { core = 0; budget = 10; period = 10 }); thread = runner })

abbrev pub endpoint : Object
endpoint = o.Endpoint (record { address = 0x3100 })

-- the right to receive
abbrev pub receive_end : Badged
receive_end = record { rights = record { 0 = 1 }; badge = 0 }

-- a capability to the CNode, before whose bit an address has 63 zeros
abbrev pub space_cap : Cap
space_cap = record { object = id 0; detail = d.CNode (record { size = 63; value = 0 }); original = true }

-- a capability to signal the notification
abbrev pub signal_cap : Cap
signal_cap = record { object = id 2; detail = d.Notification (record { rights = record { 0 = 2 }; badge = 1 }); original = true }

abbrev pub labelled : ℕ → Object → Initial
labelled label object = record { label = label; object = object }

-- the policy without edges
abbrev pub no_edges : EdgeTest
no_edges from k to = false

abbrev pub filled : SlotRef → Cap → Filled
filled place held = record { slot = place; cap = held }

unfoldable pub signalling : Layout
signalling = record {
  version = version.One;
  labels = codes "a" ∷ codes "b" ∷ codes "c" ∷ [];
  names = codes "space" ∷ codes "thread" ∷ codes "word" ∷ codes "context" ∷ [];
  objects =
      labelled 1 node ∷ labelled 0 (thread None) ∷ labelled 2 (notification None) ∷ labelled 0 (context None) ∷ [];
  caps = filled (slot 0 0) signal_cap ∷ filled (slot 1 0) space_cap ∷ [];
  pairs = [];
  bindings = record { thread = id 1; context = id 3 } ∷ [];
}

pub signalling_lawful : IsLawful signalling
unfolding rebuilding signalling
signalling_lawful = lawful_by_tests signalling refl refl

-- what the table of a boot state is read by
unfoldable pub reading : Bool
unfolding bound_context bound_thread declared_label initial_cap initial_of initial_parent
reading = true

-- what capabilities are found by
unfoldable pub finding : Bool
unfolding find find_cap hop level_at lookup_of lookup_target_of walk
finding = true

-- what an event is admitted and made by
unfoldable pub stepping : Bool
unfolding admitted made_by step_of
stepping = true
