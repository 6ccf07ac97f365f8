-- Places at which the rules of closed policies (`Closed`) are broken: the rule asks for an edge, and it is missing; and the order of these
-- places (compare 'seL4 Enforces Integrity', section 3, well-formed policies; the rules, their places and their order are confine's own).
use Rattle.std.specs.Prelude.{[], ℕ, ◌∷◌, ◌≢◌, Bool, List, None, Option, Some, codes, true}
use Rattle.base.specs.{declared.{edge.Edge.Edge, kind.Kind.{Kind, TheVariants.{Derive, Holds, Runs}}}, Kinds.kind_number}
use Rattle.policy.specs.{declared.broken.Broken.{Broken, Broken as broken}, Closed.{ComesToDerive, ComesToHold, ControlGives, GrantGives}}
use Rattle.policy.specs.{Closed.{IsLacking, MayBeLent, MayBind, ShareDomain}, Domain.{EdgeTest, ShareUse}}

-- the numbers of the rules

abbrev pub p1 : ℕ
p1 = 1

abbrev pub p2 : ℕ
p2 = 2

abbrev pub p3 : ℕ
p3 = 3

abbrev pub p4 : ℕ
p4 = 4

abbrev pub p5 : ℕ
p5 = 5

abbrev pub p6 : ℕ
p6 = 6

abbrev pub p7 : ℕ
p7 = 7

abbrev pub p8 : ℕ
p8 = 8

-- P1: only one of two labels of one domain has an edge
pub record SubjectsDisagree (test : EdgeTest) (subject other : ℕ) (kind : Kind) (target : ℕ) : Type 0 where
  pub share : ShareUse test subject other kind
  pub differ : test subject kind target ≢ test other kind target

-- P2 to P8: the condition under which the rule asks for an edge at a place
abbrev pub Asks : EdgeTest → Broken → Type 0
Asks test (broken.SubjectsDisagree _ _ _ _) = ⊥
Asks test (broken.ControlLacks subject kind object) = ControlGives test subject kind object
Asks test (broken.GrantLacks giver taker kind target) = GrantGives test giver taker kind target
Asks test (broken.DomainLacks parent child) = ShareDomain test parent child
Asks test (broken.DeriveLacks parent child) = ComesToDerive test parent child
Asks test (broken.ContextLacks subject context) = MayBind test subject context
Asks test (broken.ReplyLacks reply thread) = ComesToHold test reply thread
Asks test (broken.LentLacks borrower context) = MayBeLent test borrower context

-- the edge of a kind between two labels
abbrev pub edge_of : ℕ → Kind → ℕ → Edge
edge_of from kind to = record { from = from; kind = kind; to = to }

-- the edge that a rule asks for at a place; none by P1, which doesn't say which of the two labels lacks it
abbrev pub edge_asked_at : Broken → Option Edge
edge_asked_at (broken.SubjectsDisagree _ _ _ _) = None
edge_asked_at (broken.ControlLacks subject kind object) = Some (edge_of subject kind object)
edge_asked_at (broken.GrantLacks giver taker kind target) = Some (edge_of taker kind target)
edge_asked_at (broken.DomainLacks parent child) = Some (edge_of parent Derive child)
edge_asked_at (broken.DeriveLacks parent child) = Some (edge_of parent Derive child)
edge_asked_at (broken.ContextLacks subject context) = Some (edge_of subject Runs context)
edge_asked_at (broken.ReplyLacks reply thread) = Some (edge_of reply Holds thread)
edge_asked_at (broken.LentLacks borrower context) = Some (edge_of borrower Runs context)

-- whether an edge is there; nothing is missing if there is none to look for
abbrev pub is_there : EdgeTest → Option Edge → Bool
is_there test (Some edge) = test edge.from edge.kind edge.to
is_there test None = true

-- a policy breaks a rule at a place: two labels disagree by P1, or the edge that is asked for is missing
abbrev pub IsBrokenAt : EdgeTest → Broken → Type 0
IsBrokenAt test (broken.SubjectsDisagree subject other kind target) = SubjectsDisagree test subject other kind target
IsBrokenAt test place = IsLacking (Asks test place) (is_there test (edge_asked_at place))

-- a place as numbers: its rule, and then the labels and kinds that it names, from left to right
abbrev pub broken_place : Broken → List ℕ
broken_place (broken.SubjectsDisagree subject other kind target) = p1 ∷ subject ∷ other ∷ kind_number kind ∷ target ∷ []
broken_place (broken.ControlLacks subject kind object) = p2 ∷ subject ∷ kind_number kind ∷ object ∷ []
broken_place (broken.GrantLacks giver taker kind target) = p3 ∷ giver ∷ taker ∷ kind_number kind ∷ target ∷ []
broken_place (broken.DomainLacks parent child) = p4 ∷ parent ∷ kind_number Derive ∷ child ∷ []
broken_place (broken.DeriveLacks parent child) = p5 ∷ parent ∷ kind_number Derive ∷ child ∷ []
broken_place (broken.ContextLacks subject context) = p6 ∷ subject ∷ kind_number Runs ∷ context ∷ []
broken_place (broken.ReplyLacks reply thread) = p7 ∷ reply ∷ kind_number Holds ∷ thread ∷ []
broken_place (broken.LentLacks borrower context) = p8 ∷ borrower ∷ kind_number Runs ∷ context ∷ []

abbrev pub broken_rule : Broken → List ℕ
broken_rule (broken.SubjectsDisagree _ _ _ _) = codes "P1"
broken_rule (broken.ControlLacks _ _ _) = codes "P2"
broken_rule (broken.GrantLacks _ _ _ _) = codes "P3"
broken_rule (broken.DomainLacks _ _) = codes "P4"
broken_rule (broken.DeriveLacks _ _) = codes "P5"
broken_rule (broken.ContextLacks _ _) = codes "P6"
broken_rule (broken.ReplyLacks _ _) = codes "P7"
broken_rule (broken.LentLacks _ _) = codes "P8"
