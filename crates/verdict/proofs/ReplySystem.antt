-- A system of a receiver of label 0 and a caller of label 1, each with a context of its label, in one capability space of label 0. Its
-- CNode holds capabilities for an endpoint, to send and to receive, for a reply, and for the receiver's context.
use Rattle.std.{specs.Prelude.codes, proofs.Common.{[], ℕ, ◌∷◌, None, Option, Some, true}}
use Rattle.base.specs.declared.ids.ObjId.{ObjId}
use Rattle.machine.specs.declared.{cap.{Badged.Badged, Cap.Cap}, object.{Context.Context, Object.{Object, Object as o}}}
use Rattle.machine.specs.{declared.{object.ReplyState.ReplyState, thread.{Inbox.Inbox, RunState.RunState, Tcb.Tcb}}, Layout.Layout}
use Rattle.machine.specs.declared.cap.Detail.TheVariants as d
use Rattle.machine.specs.declared.layout.Version.TheVariants as version
use Rattle.machine.specs.declared.object.ReplyState.TheVariants as reply
use Rattle.machine.specs.declared.thread.Inbox.TheVariants as inbox
use Rattle.machine.specs.declared.thread.RunState.TheVariants as state
use Rattle.verdict.proofs.SmallSystem.{endpoint, filled, id, labelled, slot}

abbrev pub space : Object
space = o.CNode (record { address = 0x1000; radix = 2 })

abbrev pub receiver : RunState → Inbox → Option ObjId → Tcb
receiver run message runs_on = record { address = 0x2000; state = run; inbox = message; context = runs_on }

abbrev pub caller : RunState → Option ObjId → Tcb
caller run runs_on = record { address = 0x2400; state = run; inbox = inbox.Empty; context = runs_on }

-- a context for core 0
abbrev pub context : ℕ → Option ObjId → Context
context address runner =
    record { address = address; share = Some (record { core = 0; budget = 10; period = 10 }); thread = runner }

abbrev pub answers : ReplyState → Object
answers holds = o.Reply (record { address = 0x3040; state = holds })

-- the rights to receive, to send, and to be answered
abbrev pub end : Badged
end = record { rights = record { 0 = 11 }; badge = 0 }

abbrev pub end_cap : Cap
end_cap = record { object = id 3; detail = d.Endpoint end; original = true }

abbrev pub reply_cap : Cap
reply_cap = record { object = id 4; detail = d.Reply; original = true }

abbrev pub context_cap : Cap
context_cap = record { object = id 2; detail = d.Context; original = true }

-- a capability for the CNode, with a guard of 62 zeros
abbrev pub root_cap : Cap
root_cap = record { object = id 0; detail = d.CNode (record { size = 62; value = 0 }); original = true }

-- as the table declares them
abbrev receiving : Object
receiving = o.Tcb (receiver state.Ready inbox.Empty None)

abbrev calling : Object
calling = o.Tcb (caller state.Ready None)

unfoldable pub serving : Layout
serving = record {
  version = version.One;
  labels = codes "a" ∷ codes "b" ∷ [];
  names =
      codes "space" ∷ codes "receiver" ∷ codes "context" ∷ codes "endpoint" ∷ codes "reply" ∷ codes "caller" ∷ codes "second"
      ∷ [];
  objects =
      labelled 0 space ∷ labelled 0 receiving ∷ labelled 0 (o.Context (context 0x4000 None))
      ∷ labelled 0 endpoint ∷ labelled 0 (answers reply.Free) ∷ labelled 1 calling
      ∷ labelled 1 (o.Context (context 0x4100 None)) ∷ [];
  caps =
      filled (slot 0 0) end_cap ∷ filled (slot 0 1) reply_cap ∷ filled (slot 0 2) context_cap ∷ filled (slot 1 0) root_cap
      ∷ filled (slot 5 0) root_cap ∷ [];
  pairs = [];
  bindings = record { thread = id 1; context = id 2 } ∷ record { thread = id 5; context = id 6 } ∷ [];
}
