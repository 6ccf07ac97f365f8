-- The answers of `close`: the least policy with a policy's edges to which a table keeps, by a set of rules (confine's own; closed policies
-- are the well-formed ones of 'seL4 Enforces Integrity', section 3).
use Rattle.std.specs.Prelude.{[], ℕ, ◌++◌, ◌↔◌, ◌∷◌, ◌≡◌, List, Ok, filter, not, true}
use Rattle.base.specs.declared.{edge.Edge.Edge, kind.Kind.Kind}
use Rattle.machine.specs.{Authority.HasAuthority, Boot.IsBoot, Layout.Layout, Machine.Machine}
use Rattle.policy.specs.{Closed.IsClosed, Closing.IsWithin, Domain.EdgeTest, Policy.{IsRising, allows}}
use Rattle.{integrity.specs.Keeping.IsSharp, verdict.specs.{declared.rules.Rules.{Rules, Rules as rules}, ByRules.IsAcceptedBy}}
use Rattle.captext.specs.{Policies.read_policy_of, PolicyText.{IsPolicyOf, edge_lines, policy_text}}
use Rattle.commands.specs.{declared.{answer.Answer.Answer, choices.OnClose.{OnClose, OnClose as on_close}}, Commands.HasTextAlone}

-- these edges are the authority of the table's boot state
abbrev pub IsAuthorityOf : Layout → List Edge → Type 0
IsAuthorityOf t edges =
    (boot : Machine) (from : ℕ) (kind : Kind) (to : ℕ) → IsBoot t boot
    → allows edges from kind to ≡ true ↔ HasAuthority t boot from kind to

-- a policy obeys a set of rules: it is closed; or sharply closed, with the table's labels that may keep capabilities for CNodes as keepers
abbrev pub ObeysSet : Rules → Layout → EdgeTest → Type 0
ObeysSet rules.Closed t = IsClosed
ObeysSet rules.Sharp t = IsSharp t

-- the least policy with the edges that obeys the set
pub record IsLeastBy (set : Rules) (t : Layout) (edges policy : List Edge) : Type 0 where
  pub obeys : ObeysSet set t (allows policy)
  pub has : IsWithin (allows edges) (allows policy)
  pub least : (other : EdgeTest) → ObeysSet set t other → IsWithin (allows edges) other → IsWithin (allows policy) other

-- the least policy by the set that has these edges and all authority of the table's boot state, in the order of edges; the table keeps to
-- it
pub record IsClosing (set : Rules) (t : Layout) (edges policy : List Edge) : Type 0 where
  pub authority : List Edge
  pub of_boot : IsAuthorityOf t authority
  pub rising : IsRising policy
  pub least : IsLeastBy set t (edges ++ authority) policy
  pub accepted : IsAcceptedBy set t (allows policy)

-- every policy to which the table keeps has these edges
abbrev pub IsInEachPolicyFor : Rules → Layout → List Edge → Type 0
IsInEachPolicyFor set t edges = (policy : List Edge) → IsAcceptedBy set t (allows policy) → IsWithin (allows edges) (allows policy)

-- the edges of a policy that another lacks
abbrev pub missing_edges : List Edge → List Edge → List Edge
missing_edges edges policy = filter (λ edge. not (allows edges edge.from edge.kind edge.to)) policy

-- the status: 0 if no edge is missing, else 1
abbrev pub missing_status : List Edge → ℕ
missing_status [] = 0
missing_status (edge ∷ edges) = 1

-- the edges over which a policy is closed: the given ones; or none, if the question is which of these the table and the rules don't need
abbrev pub kept_edges : OnClose → List Edge → List Edge
kept_edges on_close.Policy edges = edges
kept_edges on_close.Missing edges = edges
kept_edges on_close.Surplus edges = []

-- the text and status on the least policy over some edges: its whole text; or the lines of the edges that are missing, with status 0
-- exactly if the table keeps to the given ones; or the lines of the given edges that it lacks, with status 0 exactly if each of the given
-- edges is in every policy to which the table keeps
abbrev pub TellsClosing : Rules → OnClose → Layout → List Edge → List Edge → List ℕ → ℕ → Type 0
TellsClosing set on_close.Policy t edges policy text status =
    (text ≡ policy_text t policy) × (IsPolicyOf t edges → read_policy_of t text ≡ Ok policy) × (status ≡ 0)
TellsClosing set on_close.Missing t edges policy text status =
    (text ≡ edge_lines t (missing_edges edges policy)) × (status ≡ missing_status (missing_edges edges policy))
    × ((status ≡ 0) ↔ IsAcceptedBy set t (allows edges))
TellsClosing set on_close.Surplus t edges policy text status =
    (text ≡ edge_lines t (missing_edges policy edges)) × (status ≡ missing_status (missing_edges policy edges))
    × ((status ≡ 0) ↔ IsInEachPolicyFor set t edges)

-- the answer to a table and a policy that is closed over it, or to a table alone, for which the policy has no edges
pub record AnswersClosing (set : Rules) (written : OnClose) (t : Layout) (edges : List Edge) (answer : Answer) : Type 0 where
  pub policy : List Edge
  pub closing : IsClosing set t (kept_edges written edges) policy
  pub told : TellsClosing set written t edges policy answer.text.items answer.status
  pub bare : HasTextAlone answer
