-- The label of an object, and the authority that a machine holds: edges from label to label, read off its capabilities, its
-- derivation tree and the links between its objects ('seL4 Enforces Integrity', sections 3 and 4, "Authority" and "Policy").
use Rattle.std.specs.Prelude.{ℕ, ◌&&◌, ◌||◌, ◌≡◌, Bool, None, Option, Some, false, find, if◌then◌else◌, length, nat_le, nat_lt}
use Rattle.{std.specs.Prelude.{option_and_then, option_map, true}, base.specs.declared.{ids.{ObjId.ObjId, SlotRef.SlotRef}, kind.Kind.Kind}}
use Rattle.machine.specs.declared.{cap.Cap.Cap, layout.Initial.Initial, object.{Object.{Object, Object as o}, ReplyState.ReplyState}}
use Rattle.machine.specs.{declared.thread.{Lent.Lent, RunState.{RunState, RunState as state}}, Capabilities.gives}
use Rattle.machine.specs.{Layout.{Layout, declared_label}, Machine.{Machine, cap_of, object_of, parent_of, same_id}}
use Rattle.machine.specs.{Objects.{address_of, end_of}, WellFormed.kind_of}
use Rattle.base.specs.declared.kind.Kind.TheVariants as authority
use Rattle.machine.specs.declared.object.ObjectKind.TheVariants as kind
use Rattle.machine.specs.declared.object.ReplyState.TheVariants as reply

-- whether an initial object is an untyped whose range holds an address
abbrev pub has_memory_at : ℕ → Initial → Bool
has_memory_at address initial = within initial.object where
  within : Object → Bool
  within (o.Untyped memory) = nat_le memory.base address && nat_lt address (end_of (o.Untyped memory))
  within _ = false

-- the label of the initial untyped whose range holds an address
unfoldable pub label_at : Layout → ℕ → Option ℕ
label_at t address = option_map (λ initial. initial.label) (find (has_memory_at address) t.objects)

-- the label of a present object: an initial object's is declared, and a made one's is that of the untyped memory that it lies in
unfoldable pub label_of : Layout → Machine → ObjId → Option ℕ
label_of t m id =
    option_and_then (λ object. if nat_lt id.0 (length t.objects) then declared_label t id else label_at t (address_of object))
    (object_of m id)

abbrev pub names_object : Option ObjId → ObjId → Bool
names_object None id = false
names_object (Some named) id = same_id named id

-- what a blocked thread keeps over other objects, also after the capability that it used went
abbrev pub state_links : RunState → Kind → ObjId → Bool
state_links (state.Sending sending) authority.Send id = same_id sending.endpoint id
state_links (state.Sending sending) authority.Grant id = sending.grant && same_id sending.endpoint id
state_links (state.Sending sending) authority.Call id = (sending.is_call && sending.can_reply) && same_id sending.endpoint id
state_links (state.Receiving receiving) authority.Receive id = same_id receiving.endpoint id
state_links (state.Receiving receiving) authority.Reply id = names_object receiving.reply id
state_links (state.Waiting notification) authority.Await id = same_id notification id
state_links _ _ id = false

-- the context that a thread lent as it called, as long as it waits for the answer
abbrev pub context_lent : RunState → Option ObjId
context_lent (state.Called calling) = option_map (λ (lent : Lent). lent.context) calling.lent
context_lent _ = None

abbrev pub holds_thread : ReplyState → ObjId → Bool
holds_thread reply.Free id = false
holds_thread (reply.Waiting thread) id = same_id thread id
holds_thread (reply.Called thread) id = same_id thread id

-- the edges that an object's content gives: a thread runs on its context, and on the one that it lent, wherever that is bound, a
-- reply holds its thread, and a blocked thread keeps its rights
abbrev pub links : Object → Kind → ObjId → Bool
links (o.Tcb thread) authority.Runs id = names_object thread.context id || names_object (context_lent thread.state) id
links (o.Tcb thread) k id = state_links thread.state k id
links (o.Reply answers) authority.Holds id = holds_thread answers.state id
links _ _ id = false

-- why a machine has an edge of authority from one label to another
pub data HasAuthority (t : Layout) (m : Machine) : ℕ → Kind → ℕ → Type 0 where
  -- a capability in a slot of a CNode gives its kinds over its object
  by_cap :
      {from to : ℕ} {k : Kind} (slot : SlotRef) (held : Cap) → cap_of m slot ≡ Some held → kind_of m slot.holder ≡ Some kind.CNode
      → gives held.detail k ≡ true
      → label_of t m slot.holder ≡ Some from → label_of t m held.object ≡ Some to → HasAuthority t m from k to
  -- the capability in a thread's root slot gives space alone
  by_root :
      {from to : ℕ} (slot : SlotRef) (held : Cap) → cap_of m slot ≡ Some held → kind_of m slot.holder ≡ Some kind.Tcb
      → label_of t m slot.holder ≡ Some from → label_of t m held.object ≡ Some to → HasAuthority t m from authority.Space to
  -- a pair of the derivation tree gives derive
  by_pair :
      {from to : ℕ} (slot parent : SlotRef) → parent_of m slot ≡ Some parent
      → label_of t m parent.holder ≡ Some from → label_of t m slot.holder ≡ Some to → HasAuthority t m from authority.Derive to
  -- a link between objects gives its kind
  by_link :
      {from to : ℕ} {k : Kind} (id end : ObjId) (object : Object) → object_of m id ≡ Some object → links object k end ≡ true
      → label_of t m id ≡ Some from → label_of t m end ≡ Some to → HasAuthority t m from k to
