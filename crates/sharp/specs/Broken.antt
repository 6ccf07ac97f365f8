-- The places where sharp rules (`Sharp` of policies) are broken: a rule asks there for an edge that is missing; and the order of places
-- (rules, places and order are confine's own).
use Rattle.std.specs.Prelude.{[], ℕ, ◌∷◌, ◌≡◌, Bool, List, Option, codes, false, true}
use Rattle.base.specs.{declared.{edge.Edge.Edge, kind.Kind.{Kind, TheVariants.{Context, Control, Derive, Runs}}}, Kinds.{is_structural, kind_number}}
use Rattle.base.specs.declared.kind.Kind.TheVariants as kinds
use Rattle.policy.specs.{Broken.edge_of, Closed.{ControlGives, GrantGives, IsLacking, MayBeGranted}, Domain.{EdgeTest, IsInDomain, ShareUse}}
use Rattle.policy.specs.{Places.{FindsLeast, IsUnder}, Sharp.{Keepers, MayPut}}
use Rattle.sharp.specs.{declared.broken.SharpBroken.{SharpBroken, SharpBroken as broken}, Asked.{HoldsSharply, IsLentSharply}}

-- the numbers of the rules

abbrev pub s1 : ℕ
s1 = 1

abbrev pub s2 : ℕ
s2 = 2

abbrev pub s3 : ℕ
s3 = 3

abbrev pub s4 : ℕ
s4 = 4

abbrev pub s5 : ℕ
s5 = 5

abbrev pub s6 : ℕ
s6 = 6

abbrev pub s7 : ℕ
s7 = 7

abbrev pub s8 : ℕ
s8 = 8

-- S1: the other label has an edge of use, and the subject finds its capabilities with that label, or that label may put its own into the
-- subject's CNodes
pub data UsesSharply (test : EdgeTest) (Keeps : Keepers) (subject other : ℕ) (kind : Kind) (target : ℕ) : Type 0 where
  rises : ShareUse test subject other kind → test other kind target ≡ true → UsesSharply test Keeps subject other kind target
  falls : MayPut test Keeps other subject → is_structural kind ≡ false → test other kind target ≡ true
      → UsesSharply test Keeps subject other kind target

-- S2: control gives the edge to a keeper
pub record ControlGivesKeeper (test : EdgeTest) (Keeps : Keepers) (subject : ℕ) (kind : Kind) (object : ℕ) : Type 0 where
  pub keeps : Keeps subject
  pub gives : ControlGives test subject kind object

-- S3: a grant gives the edge to a keeper
pub record GrantGivesKeeper (test : EdgeTest) (Keeps : Keepers) (giver taker : ℕ) (kind : Kind) (target : ℕ) : Type 0 where
  pub keeps : Keeps taker
  pub gives : GrantGives test giver taker kind target

-- S4: a keeper finds capabilities with one label, and may put them into the CNodes of another
pub record PutsInDomain (test : EdgeTest) (Keeps : Keepers) (parent child : ℕ) : Type 0 where
  pub subject : ℕ
  pub of_parent : IsInDomain test subject parent
  pub puts : MayPut test Keeps subject child

-- S5: a keeper may put there what it is granted, or two derive edges lead there
pub data PutsByGrant (test : EdgeTest) (Keeps : Keepers) (parent child : ℕ) : Type 0 where
  granted : (giver taker : ℕ) → MayBeGranted test giver taker → IsInDomain test giver parent → MayPut test Keeps taker child
      → PutsByGrant test Keeps parent child
  derived : (middle : ℕ) → test parent Derive middle ≡ true → test middle Derive child ≡ true
      → PutsByGrant test Keeps parent child

-- S6: a thread of the label may be bound to the context
pub record MayBeBound (test : EdgeTest) (subject context : ℕ) : Type 0 where
  pub binder : ℕ
  pub binds : test binder Context context ≡ true
  pub controls : test binder Control subject ≡ true

-- the condition on which a rule asks for an edge at a place
abbrev pub SharplyAsks : EdgeTest → Keepers → SharpBroken → Type 0
SharplyAsks test Keeps (broken.SubjectLacks subject other kind target) = UsesSharply test Keeps subject other kind target
SharplyAsks test Keeps (broken.ControlLacks subject kind object) = ControlGivesKeeper test Keeps subject kind object
SharplyAsks test Keeps (broken.GrantLacks giver taker kind target) = GrantGivesKeeper test Keeps giver taker kind target
SharplyAsks test Keeps (broken.DomainLacks parent child) = PutsInDomain test Keeps parent child
SharplyAsks test Keeps (broken.DeriveLacks parent child) = PutsByGrant test Keeps parent child
SharplyAsks test Keeps (broken.ContextLacks subject context) = MayBeBound test subject context
SharplyAsks test Keeps (broken.ReplyLacks reply thread) = HoldsSharply test reply thread
SharplyAsks test Keeps (broken.LentLacks borrower context) = IsLentSharply test borrower context

-- the edge that the rule asks for at a place
abbrev pub sharp_edge_at : SharpBroken → Edge
sharp_edge_at (broken.SubjectLacks subject other kind target) = edge_of subject kind target
sharp_edge_at (broken.ControlLacks subject kind object) = edge_of subject kind object
sharp_edge_at (broken.GrantLacks giver taker kind target) = edge_of taker kind target
sharp_edge_at (broken.DomainLacks parent child) = edge_of parent Derive child
sharp_edge_at (broken.DeriveLacks parent child) = edge_of parent Derive child
sharp_edge_at (broken.ContextLacks subject context) = edge_of subject Runs context
sharp_edge_at (broken.ReplyLacks reply thread) = edge_of reply kinds.Holds thread
sharp_edge_at (broken.LentLacks borrower context) = edge_of borrower Runs context

abbrev pub has_edge : EdgeTest → Edge → Bool
has_edge test edge = test edge.from edge.kind edge.to

-- a policy breaks a rule at a place, for these keepers: the edge that is asked for is missing
abbrev pub IsSharplyBrokenAt : EdgeTest → Keepers → SharpBroken → Type 0
IsSharplyBrokenAt test Keeps place = IsLacking (SharplyAsks test Keeps place) (has_edge test (sharp_edge_at place))

-- a place as numbers: its rule, and then the labels and kinds that it names, from left to right
abbrev pub sharp_place : SharpBroken → List ℕ
sharp_place (broken.SubjectLacks subject other kind target) = s1 ∷ subject ∷ other ∷ kind_number kind ∷ target ∷ []
sharp_place (broken.ControlLacks subject kind object) = s2 ∷ subject ∷ kind_number kind ∷ object ∷ []
sharp_place (broken.GrantLacks giver taker kind target) = s3 ∷ giver ∷ taker ∷ kind_number kind ∷ target ∷ []
sharp_place (broken.DomainLacks parent child) = s4 ∷ parent ∷ kind_number Derive ∷ child ∷ []
sharp_place (broken.DeriveLacks parent child) = s5 ∷ parent ∷ kind_number Derive ∷ child ∷ []
sharp_place (broken.ContextLacks subject context) = s6 ∷ subject ∷ kind_number Runs ∷ context ∷ []
sharp_place (broken.ReplyLacks reply thread) = s7 ∷ reply ∷ kind_number kinds.Holds ∷ thread ∷ []
sharp_place (broken.LentLacks borrower context) = s8 ∷ borrower ∷ kind_number Runs ∷ context ∷ []

-- the broken rule at the first place that begins with these numbers, if there is one
abbrev pub FindsSharply : EdgeTest → Keepers → List ℕ → Option SharpBroken → Type 0
FindsSharply test Keeps beginning found = FindsLeast sharp_place (IsUnder sharp_place (IsSharplyBrokenAt test Keeps) beginning) found

abbrev pub sharp_rule : SharpBroken → List ℕ
sharp_rule (broken.SubjectLacks _ _ _ _) = codes "S1"
sharp_rule (broken.ControlLacks _ _ _) = codes "S2"
sharp_rule (broken.GrantLacks _ _ _ _) = codes "S3"
sharp_rule (broken.DomainLacks _ _) = codes "S4"
sharp_rule (broken.DeriveLacks _ _) = codes "S5"
sharp_rule (broken.ContextLacks _ _) = codes "S6"
sharp_rule (broken.ReplyLacks _ _) = codes "S7"
sharp_rule (broken.LentLacks _ _) = codes "S8"
