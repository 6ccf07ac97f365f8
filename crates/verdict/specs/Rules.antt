-- The rules of authority, A1 to A6, in the order in which they are tested: what a table or a machine holds must be allowed by the policy
-- (compare 'seL4 Enforces Integrity', section 3: states whose authority lies within a policy; the rules and their order are confine's own).
use Rattle.std.specs.Prelude.{[], ℕ, ◌∷◌, ◌≡◌, ◌⊎◌, List, None, Option, Some, false, true}
use Rattle.base.specs.{declared.{edge.Edge.Edge, ids.{ObjId.ObjId, SlotRef.SlotRef}, kind.Kind.Kind}, Kinds.kind_number}
use Rattle.machine.specs.{declared.cap.Cap.Cap, Capabilities.gives}
use Rattle.{policy.specs.{Broken.edge_of, Domain.EdgeTest}, verdict.specs.Sources.Sources}
use Rattle.base.specs.declared.kind.Kind.TheVariants as authority
use Rattle.machine.specs.declared.object.ObjectKind.TheVariants as object

-- the numbers of the rules: 1 to 8 for the policy's own, P1 to P8 or S1 to S8; then A1 to A6, and then C1

abbrev pub a1 : ℕ
a1 = 9

abbrev pub a2 : ℕ
a2 = 10

abbrev pub a3 : ℕ
a3 = 11

abbrev pub a4 : ℕ
a4 = 12

abbrev pub a5 : ℕ
a5 = 13

abbrev pub a6 : ℕ
a6 = 14

abbrev pub c1 : ℕ
c1 = 15

-- a place where authority may lie outside a policy, by A1 to A6
pub data Excess : Type 0 where
  -- A1: a capability in a slot of a CNode, a kind that it gives, and its object's label
  capability : SlotRef → Kind → ℕ → Excess
  -- A2: a thread's root slot, and the label of its capability's object
  root : SlotRef → ℕ → Excess
  -- A3: a child in the derivation tree, and its parent
  pair : SlotRef → SlotRef → Excess
  -- A4: a thread, and a context that it is bound to or lent
  binding : ObjId → ObjId → Excess
  -- A5: a reply, and the thread that it holds
  holding : ObjId → ObjId → Excess
  -- A6: a blocked thread, a kind that it keeps, and the label of the object that it keeps it over
  recorded : ObjId → Kind → ℕ → Excess

-- a place where something lies that gives an edge of authority
abbrev pub LiesThere : Sources → Excess → Type 0
-- a capability in a slot of a CNode gives each of its kinds
LiesThere s (capability slot kind label) =
    (held : Cap) × (s.cap slot ≡ Some held) × (s.kind slot.holder ≡ Some object.CNode) × (s.label held.object ≡ Some label)
    × (gives held.detail kind ≡ true)
-- a capability in a thread's root slot gives only space
LiesThere s (root slot label) =
    (held : Cap) × (s.cap slot ≡ Some held) × (s.kind slot.holder ≡ Some object.Tcb) × (s.label held.object ≡ Some label)
-- a pair of the derivation tree gives derive
LiesThere s (pair child parent) = s.parent child ≡ Some parent
-- a thread that is bound to a context, or lent it, has runs
LiesThere s (binding thread context) = (s.context thread ≡ Some context) ⊎ (s.lent thread ≡ Some context)
-- a reply that holds a thread has holds
LiesThere s (holding reply thread) = s.holds reply thread ≡ true
-- a blocked thread has each kind that it keeps
LiesThere s (recorded thread kind label) = (end : ObjId) × (s.keeps thread kind end ≡ true) × (s.label end ≡ Some label)

-- an edge of authority whose objects may lack labels
pub record Ends : Type 0 where
  pub from : Option ℕ
  pub kind : Kind
  pub to : Option ℕ

-- the edge that a place gives
abbrev pub ends_at : Sources → Excess → Ends
ends_at s (capability slot kind label) = record { from = s.label slot.holder; kind = kind; to = Some label }
ends_at s (root slot label) = record { from = s.label slot.holder; kind = authority.Space; to = Some label }
ends_at s (pair child parent) = record { from = s.label parent.holder; kind = authority.Derive; to = s.label child.holder }
ends_at s (binding thread context) = record { from = s.label thread; kind = authority.Runs; to = s.label context }
ends_at s (holding reply thread) = record { from = s.label reply; kind = authority.Holds; to = s.label thread }
ends_at s (recorded thread kind label) = record { from = s.label thread; kind = kind; to = Some label }

-- authority lies outside the policy at a place: the policy lacks the edge that the place gives
pub record Exceeds (s : Sources) (allowed : EdgeTest) (place : Excess) : Type 0 where
  pub from : ℕ
  pub to : ℕ
  pub there : LiesThere s place
  pub source : (ends_at s place).from ≡ Some from
  pub target : (ends_at s place).to ≡ Some to
  pub missing : allowed from (ends_at s place).kind to ≡ false

-- the edge of a kind between two labels, if there are both
abbrev pub joined : Option ℕ → Kind → Option ℕ → Option Edge
joined (Some from) kind (Some to) = Some (edge_of from kind to)
joined _ kind _ = None

-- the edge that a policy must have for a place
abbrev pub edge_needed_at : Sources → Excess → Option Edge
edge_needed_at s place = joined (ends_at s place).from (ends_at s place).kind (ends_at s place).to

-- a place as numbers: its rule, then the objects, slots, kinds and labels that it names, from left to right
abbrev pub excess_place : Excess → List ℕ
excess_place (capability slot kind label) = a1 ∷ slot.holder.0 ∷ slot.index ∷ kind_number kind ∷ label ∷ []
excess_place (root slot label) = a2 ∷ slot.holder.0 ∷ slot.index ∷ label ∷ []
excess_place (pair child parent) = a3 ∷ child.holder.0 ∷ child.index ∷ parent.holder.0 ∷ parent.index ∷ []
excess_place (binding thread context) = a4 ∷ thread.0 ∷ context.0 ∷ []
excess_place (holding reply thread) = a5 ∷ reply.0 ∷ thread.0 ∷ []
excess_place (recorded thread kind label) = a6 ∷ thread.0 ∷ kind_number kind ∷ label ∷ []
