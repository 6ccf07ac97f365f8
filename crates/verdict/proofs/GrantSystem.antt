-- A system of two threads, whose policy lacks an edge: the giver, of label 0, with a CNode that holds capabilities to send at an
-- endpoint, with the right to grant, and to read a frame; and the taker, of label 1, with a CNode that holds capabilities to
-- receive at the endpoint and for itself. The endpoint and the frame are of label 0.
use Rattle.std.{specs.Prelude.codes, proofs.Common.{[], ◌&&◌, ◌==◌, ◌||◌, ◌∷◌, Bool, None, Option, Some, not, true}}
use Rattle.base.specs.declared.{ids.ObjId.ObjId, kind.Kind.TheVariants.{Control, Derive, Read, Receive, Space}}
use Rattle.machine.specs.declared.{cap.{Badged.Badged, Cap.Cap}, object.Object.{Object, Object as o}}
use Rattle.{machine.specs.{declared.thread.{Inbox.Inbox, RunState.RunState}, Layout.Layout}, policy.specs.Domain.EdgeTest}
use Rattle.verdict.proofs.SmallSystem.{context, endpoint, filled, id, labelled, node, receive_end, slot, space_cap, thread}
use Rattle.machine.specs.declared.cap.Detail.TheVariants as d
use Rattle.machine.specs.declared.layout.Version.TheVariants as version
use Rattle.machine.specs.declared.thread.Inbox.TheVariants as inbox
use Rattle.machine.specs.declared.thread.RunState.TheVariants as state

abbrev pub taker_node : Object
taker_node = o.CNode (record { address = 0x1080; radix = 2 })

abbrev pub taker : Option ObjId → RunState → Inbox → Object
taker runs_on run message = o.Tcb (record { address = 0x2400; state = run; inbox = message; context = runs_on })

-- as the table declares it
abbrev unbound_taker : Object
unbound_taker = taker None state.Ready inbox.Empty

abbrev pub taker_context : Option ObjId → Object
taker_context runner =
    o.Context (record { address = 0x4100; share = Some (record { core = 0; budget = 10; period = 10 }); thread = runner })

abbrev pub frame : Object
frame = o.Frame (record { address = 0x5000 })

-- the rights to send and to grant
abbrev pub give_end : Badged
give_end = record { rights = record { 0 = 6 }; badge = 0 }

abbrev pub give_cap : Cap
give_cap = record { object = id 6; detail = d.Endpoint give_end; original = true }

-- the right to read
abbrev pub frame_cap : Cap
frame_cap = record { object = id 7; detail = d.Frame (record { 0 = 1 }); original = true }

abbrev pub take_cap : Cap
take_cap = record { object = id 6; detail = d.Endpoint receive_end; original = true }

-- a capability for the taker's CNode, with a guard of 62 zeros
abbrev pub taker_cap : Cap
taker_cap = record { object = id 1; detail = d.CNode (record { size = 62; value = 0 }); original = true }

unfoldable pub granting : Layout
granting = record {
  version = version.One;
  labels = codes "a" ∷ codes "b" ∷ [];
  names =
      codes "own" ∷ codes "other" ∷ codes "giver" ∷ codes "taker" ∷ codes "context" ∷ codes "second" ∷ codes "endpoint"
      ∷ codes "frame" ∷ [];
  objects =
      labelled 0 node ∷ labelled 1 taker_node ∷ labelled 0 (thread None) ∷ labelled 1 unbound_taker ∷ labelled 0 (context None)
      ∷ labelled 1 (taker_context None) ∷ labelled 0 endpoint ∷ labelled 0 frame ∷ [];
  caps =
      filled (slot 0 0) give_cap ∷ filled (slot 0 1) frame_cap ∷ filled (slot 1 0) take_cap ∷ filled (slot 1 1) taker_cap
      ∷ filled (slot 2 0) space_cap ∷ filled (slot 3 0) taker_cap ∷ [];
  pairs = [];
  bindings = record { thread = id 2; context = id 4 } ∷ record { thread = id 3; context = id 5 } ∷ [];
}

-- Two policies of the labels 0, of who gives, and 1, of who takes, each of which breaks one rule. Each label has itself alone as
-- its space, 1 alone receives, and controls itself; and in the policy that shares no label derives on the other, while in the one
-- that doesn't 1 doesn't read 0. All else is allowed.
abbrev pub joins : Bool → EdgeTest
joins shares a Space b = a == b
joins shares a Control b = a == 1 && b == 1
joins shares a Receive b = a == 1
joins shares a Read b = shares || (a == 0 || b == 1)
joins shares a Derive b = not shares || a == b
joins shares a k b = true
