-- Claims on a table: when they hold, what is then kept in every run, and which of a text don't hold (the authority and what is kept are
-- those of 'seL4 Enforces Integrity', sections 4 and 5, restated; claims are confine's own).
use Rattle.std.specs.{List.Contains, Prelude.{[], ℕ, ◌+◌, ◌<◌, ◌∷◌, ◌≡◌, ◌≢◌, ◌⊎◌, List, None, Option, Some, false, length, true}}
use Rattle.base.specs.{declared.{edge.Edge.Edge, kind.Kind.{Kind, TheVariants.{Await, Read, Receive}}}, Kinds.kind_number}
use Rattle.machine.specs.{Authority.HasAuthority, Layout.Layout, Machine.Machine}
use Rattle.{policy.specs.Domain.EdgeTest, integrity.specs.{Apart.{NeverChanges, OnlyTakes}, Safe.IsReached}}
use Rattle.{reach.specs.Extents.{GoesTo, Limits, MayChangeIn, MayShrinkIn}, flows.specs.Flowing.{IsClosedOff, IsShielded, FlowLeads}}
use Rattle.claims.specs.declared.{breaches.Breach.Breach, claim.{Claim.{Claim, Claim as claim}, Most.{Most, Most as most}, Who.Who}}
use Rattle.claims.specs.{declared.{claim.Who.Who as who, deciding.{Broken.Broken, Failure.{Failure, Failure as failure}}}, Claims.is_one_of}

-- what a claim says

-- a label is among those that an end of a claim names, if it isn't that of the other end
abbrev pub IsNamed : Who → ℕ → Type 0
IsNamed (who.One named) label = label ≡ named
IsNamed who.Others label = Unit {0}

-- two labels of the table, which differ
abbrev pub AreTwo : Layout → ℕ → ℕ → Type 0
AreTwo t a l = (a < length t.labels) × (l < length t.labels) × (a ≢ l)

-- a claim bounds what threads of a label do to objects of another
abbrev pub Bounds : Layout → Claim → ℕ → ℕ → Type 0
Bounds t (claim.AtMost _ actor object) a l = AreTwo t a l × IsNamed actor a × IsNamed object l
Bounds t (claim.Only object actors) a l = AreTwo t a l × (l ≡ object) × (¬ Contains actors a)
Bounds t (claim.Within actor objects) a l = AreTwo t a l × (a ≡ actor) × (¬ Contains objects l)
Bounds t (claim.Readers _ _) a l = ⊥
Bounds t (claim.Through _ _ _) a l = ⊥
Bounds t (claim.Without _ _ _) a l = ⊥

-- what a claim leaves them
abbrev pub most_of : Claim → Most
most_of (claim.AtMost limit _ _) = limit
most_of _ = most.Nothing

-- by such authority threads take what another label has to read: messages, signals or words
abbrev pub IsReading : Kind → Type 0
IsReading kind = (kind ≡ Receive) ⊎ ((kind ≡ Await) ⊎ (kind ≡ Read))

-- the ends of `without` name these labels: `*` each label of the table but that of the other end. Two labels may be one
abbrev pub AreLabelNames : Layout → Who → Who → ℕ → ℕ → Type 0
AreLabelNames t (who.One actor) (who.One object) a l = (a ≡ actor) × (l ≡ object)
AreLabelNames t (who.One actor) who.Others a l = AreTwo t a l × (a ≡ actor)
AreLabelNames t who.Others object a l = AreTwo t a l × IsNamed object l

-- a claim excludes authority of this kind of a label on another
abbrev pub Excludes : Layout → Claim → ℕ → Kind → ℕ → Type 0
Excludes t (claim.Readers object readers) a kind l = AreTwo t a l × (l ≡ object) × (¬ Contains readers a) × IsReading kind
Excludes t (claim.Without actor sort object) a kind l = AreLabelNames t actor object a l × (kind ≡ sort)
Excludes t _ a kind l = ⊥

-- when it holds: labels are kept apart, but for filters, if a set of labels is closed off. Then no chain of flows leads from the one to the
-- other, and where a claim fails, one does

-- a label has no more authority on another than this
abbrev pub HasAtMost : Limits → ℕ → ℕ → Most → Type 0
HasAtMost limits a l most.Nothing = (¬ MayChangeIn limits a l) × (¬ MayShrinkIn limits a l)
HasAtMost limits a l most.Take = ¬ MayChangeIn limits a l

-- no label has more authority on another than the claim leaves it
abbrev pub HoldsOnPairs : Layout → Limits → Claim → Type 0
HoldsOnPairs t limits claim = (a l : ℕ) → Bounds t claim a l → HasAtMost limits a l (most_of claim)

-- there is no edge that the claim excludes
abbrev pub HoldsOnEdges : Layout → EdgeTest → Claim → Type 0
HoldsOnEdges t test claim = (a : ℕ) (kind : Kind) (l : ℕ) → Excludes t claim a kind l → test a kind l ≡ false

abbrev pub Holds : Layout → Limits → Claim → Type 0
Holds t limits (claim.AtMost limit actor object) = HoldsOnPairs t limits (claim.AtMost limit actor object)
Holds t limits (claim.Only object actors) = HoldsOnPairs t limits (claim.Only object actors)
Holds t limits (claim.Within actor objects) = HoldsOnPairs t limits (claim.Within actor objects)
Holds t limits (claim.Readers object readers) = HoldsOnEdges t limits.test (claim.Readers object readers)
Holds t limits (claim.Through from to filters) = IsClosedOff limits (is_one_of filters) from to
Holds t limits (claim.Without actor kind object) = HoldsOnEdges t limits.test (claim.Without actor kind object)

-- what is kept in every run

-- in every run from the table's boot state, no step of a thread of the one label changes an object of the other; or none does other than
-- by shrinking it
abbrev pub KeepsAtMost : Layout → ℕ → ℕ → Most → Type 0
KeepsAtMost t a l most.Nothing = NeverChanges t a l
KeepsAtMost t a l most.Take = OnlyTakes t a l

-- no state gives the one label this kind of authority on the other
abbrev pub NeverHas : Layout → ℕ → Kind → ℕ → Type 0
NeverHas t a kind l = (m : Machine) → IsReached t m → ¬ HasAuthority t m a kind l

abbrev pub KeepsPairs : Layout → Claim → Type 0
KeepsPairs t claim = (a l : ℕ) → Bounds t claim a l → KeepsAtMost t a l (most_of claim)

abbrev pub KeepsEdges : Layout → Claim → Type 0
KeepsEdges t claim = (a : ℕ) (kind : Kind) (l : ℕ) → Excludes t claim a kind l → NeverHas t a kind l

-- what is claimed is kept in every run from the table's boot state
abbrev pub ClaimIsKept : Layout → Limits → Claim → Type 0
ClaimIsKept t limits (claim.AtMost limit actor object) = KeepsPairs t (claim.AtMost limit actor object)
ClaimIsKept t limits (claim.Only object actors) = KeepsPairs t (claim.Only object actors)
ClaimIsKept t limits (claim.Within actor objects) = KeepsPairs t (claim.Within actor objects)
ClaimIsKept t limits (claim.Readers object readers) = KeepsEdges t (claim.Readers object readers)
ClaimIsKept t limits (claim.Through from to filters) = IsShielded t limits (is_one_of filters) from to
ClaimIsKept t limits (claim.Without actor kind object) = KeepsEdges t (claim.Without actor kind object)

-- where it doesn't hold

-- a pair comes before another: by label, then label
abbrev pub PairComesBefore : ℕ → ℕ → ℕ → ℕ → Type 0
PairComesBefore x y a l = (x < a) ⊎ ((x ≡ a) × (y < l))

-- the first pair of labels, by label and then label, that has more authority than a claim leaves; and how far that goes
pub record IsFirstBreach (t : Layout) (limits : Limits) (claim : Claim) (breach : Breach) : Type 0 where
  pub bounded : Bounds t claim breach.actor breach.object
  pub breaks : ¬ HasAtMost limits breach.actor breach.object (most_of claim)
  pub goes_to : GoesTo limits breach.actor breach.object breach.extent
  pub first : (a l : ℕ) → Bounds t claim a l → PairComesBefore a l breach.actor breach.object → HasAtMost limits a l (most_of claim)

-- an edge comes before another: by label, then kind, then label
abbrev pub EdgeComesBefore : ℕ → Kind → ℕ → Edge → Type 0
EdgeComesBefore a kind l edge =
    (a < edge.from) ⊎ ((a ≡ edge.from) × PairComesBefore (kind_number kind) l (kind_number edge.kind) edge.to)

-- the first edge that a claim excludes, and that is there
pub record IsFirstEdge (t : Layout) (test : EdgeTest) (claim : Claim) (edge : Edge) : Type 0 where
  pub excluded : Excludes t claim edge.from edge.kind edge.to
  pub has : test edge.from edge.kind edge.to ≡ true
  pub first : (a : ℕ) (kind : Kind) (l : ℕ) → Excludes t claim a kind l → EdgeComesBefore a kind l edge → test a kind l ≡ false

-- what is told of a claim that doesn't hold: its first breach, if it bounds pairs; its first edge, if it excludes edges; else that there
-- is a chain

abbrev pub FailsOnPair : Layout → Limits → Claim → Failure → Type 0
FailsOnPair t limits claim (failure.Pair breach) = IsFirstBreach t limits claim breach
FailsOnPair t limits claim failure.Chain = ⊥
FailsOnPair t limits claim (failure.Edge edge) = ⊥

abbrev pub FailsOnEdge : Layout → EdgeTest → Claim → Failure → Type 0
FailsOnEdge t test claim (failure.Edge edge) = IsFirstEdge t test claim edge
FailsOnEdge t test claim failure.Chain = ⊥
FailsOnEdge t test claim (failure.Pair breach) = ⊥

abbrev pub ClaimFails : Layout → Limits → Claim → Failure → Type 0
ClaimFails t limits (claim.AtMost limit actor object) told = FailsOnPair t limits (claim.AtMost limit actor object) told
ClaimFails t limits (claim.Only object actors) told = FailsOnPair t limits (claim.Only object actors) told
ClaimFails t limits (claim.Within actor objects) told = FailsOnPair t limits (claim.Within actor objects) told
ClaimFails t limits (claim.Readers object readers) told = FailsOnEdge t limits.test (claim.Readers object readers) told
ClaimFails t limits (claim.Through from to filters) told = (told ≡ failure.Chain) × FlowLeads limits (is_one_of filters) from to
ClaimFails t limits (claim.Without actor kind object) told = FailsOnEdge t limits.test (claim.Without actor kind object) told

-- the claim of a line doesn't hold
pub record IsBroken (t : Layout) (limits : Limits) (line : ℕ) (claim : Claim) (broken : Broken) : Type 0 where
  pub line_is : broken.line ≡ line
  pub breaks : ¬ Holds t limits claim
  pub fails : ClaimFails t limits claim broken.failure

-- these are all lines, from this number on, whose claims don't hold, in their order
pub data AreBroken (t : Layout) (limits : Limits) : ℕ → List (Option Claim) → List Broken → Type 0 where
  ended : {line : ℕ} → AreBroken t limits line [] []
  silent : {line : ℕ} {entries : List (Option Claim)} {all : List Broken}
      → AreBroken t limits (line + 1) entries all → AreBroken t limits line (None ∷ entries) all
  held : {line : ℕ} {claim : Claim} {entries : List (Option Claim)} {all : List Broken}
      → Holds t limits claim → AreBroken t limits (line + 1) entries all → AreBroken t limits line (Some claim ∷ entries) all
  broke : {line : ℕ} {claim : Claim} {broken : Broken} {entries : List (Option Claim)} {all : List Broken}
      → IsBroken t limits line claim broken → AreBroken t limits (line + 1) entries all
      → AreBroken t limits line (Some claim ∷ entries) (broken ∷ all)
