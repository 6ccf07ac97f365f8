-- The text of the least policy over a table by a set of rules: what it says, and that it is read back.
use Rattle.std.{specs.List.AllByRecursion, proofs.Common.{[], ℕ, ◌++◌, ◌<◌, ◌↔◌, ◌∙◌, ◌∷◌, ◌≡◌, Err, IfOk, List, Ok, Result, ap, inl, inr}}
use Rattle.{std.proofs.{Common.{length, refl, subst, sym}, lemmas.Bool.or_cases}, base.specs.declared.{edge.Edge.Edge, kind.Kind.Kind}}
use Rattle.machine.specs.{Authority.HasAuthority, Boot.IsBoot, Layout.Layout, Machine.Machine}
use Rattle.policy.specs.{Closing.IsWithin, Policy.{IsRising, allows}}
use Rattle.{labels.proofs.EdgeLists.{allows-append, allows_after, allows_before}, integrity.specs.Confined.IsConfined}
use Rattle.verdict.specs.{declared.rules.Rules.{Rules, Rules as rules}, ByRules.IsAcceptedBy}
use Rattle.{captext.specs.{Policies.read_policy_of, PolicyText.{IsEdgeOf, edge_lines, policy_text}}, reptext.proofs.OneText.same_answer}
use Rattle.commands.specs.{declared.{answer.Answer.Answer, choices.OnClose.OnClose as on_close}, Commands.{HasTextAlone, IsPlain}}
use Rattle.report.specs.Closings.{AnswersClosing, IsAuthorityOf, IsClosing, IsInEachPolicyFor, IsLeastBy, ObeysSet, missing_edges, missing_status}
use Rattle.report.proofs.ClosedLabels.{either_within, least_within, listed_within, within_listed}
use Rattle.report.proofs.Missing.{none_if_within, within_if_none}

abbrev pub AcceptedAs : Rules → Layout → List Edge → Type 0
AcceptedAs set t p = IsAcceptedBy set t (allows p) ↔ (ObeysSet set t (allows p) × ((m : Machine) → IsBoot t m → IsConfined t (allows p) m))

pub accepted_as : (set : Rules) (t : Layout) (p : List Edge) → AcceptedAs rules.Closed t p → AcceptedAs rules.Sharp t p → AcceptedAs set t p
accepted_as rules.Closed t p closed sharp = closed
accepted_as rules.Sharp t p closed sharp = sharp

-- the least policy that has some edges and the authority of the boot state
pub is_closing : (set : Rules) (t : Layout) (edges authority policy : List Edge) → IsAuthorityOf t authority → IsRising policy
    → IsLeastBy set t (edges ++ authority) policy → AcceptedAs set t policy → IsClosing set t edges policy
is_closing set t edges authority policy of_boot rising least accepted =
    record { authority = authority; of_boot = of_boot; rising = rising; least = least; accepted = accepted.1 (least.obeys, confines) }
  where
    -- all authority of the boot state is in the policy
    confines : (m : Machine) → IsBoot t m → IsConfined t (allows policy) m
    confines m at from kind to has =
        least.has from kind to (allows_after edges authority from kind to ((of_boot m from kind to at).1 has))

-- the status is 0 only if no edge is missing
nothing_at : (missing : List Edge) → missing_status missing ≡ 0 → missing ≡ []
nothing_at [] e = refl
nothing_at (edge ∷ missing) e = cc

-- the texts about a table with this boot state
module _ (set : Rules) (t : Layout) (boot : Machine) (booted : IsBoot t boot) where
  -- the least policy joins labels of the table, if the given edges do
  joins_labels :
      (edges policy : List Edge)
      → ((from : ℕ) (kind : Kind) (to : ℕ) → HasAuthority t boot from kind to → (from < length t.labels) × (to < length t.labels))
      → IsClosing set t edges policy → AllByRecursion (IsEdgeOf t) edges → AllByRecursion (IsEdgeOf t) policy
  joins_labels edges policy joins closing each =
      within_listed t policy
      (least_within (length t.labels) set t (edges ++ closing.authority) policy closing.least
      (either_within (length t.labels) edges closing.authority (listed_within t edges each)
      (λ from kind to e. joins from kind to ((closing.of_boot boot from kind to booted).0 e))))

  pub policy_told :
      (edges policy : List Edge)
      → ((from : ℕ) (kind : Kind) (to : ℕ) → HasAuthority t boot from kind to → (from < length t.labels) × (to < length t.labels))
      → IsClosing set t edges policy
      → (text : List ℕ) → text ≡ policy_text t policy → (AllByRecursion (IsEdgeOf t) policy → read_policy_of t text ≡ Ok policy)
      → (answer : Answer) → IsPlain text 0 answer → AnswersClosing set on_close.Policy t edges answer
  policy_told edges policy joins closing text told read answer plain = record {
    policy = policy;
    closing = closing;
    told = rw (plain.text, plain.status) (told, (λ is. read (joins_labels edges policy joins closing is.1)), refl);
    bare = plain.bare;
  }

  -- the least policy is the given edges exactly if the table keeps to these
  same_if_within : (edges policy : List Edge) → IsClosing set t edges policy → IsWithin (allows policy) (allows edges) → allows policy ≡ allows edges
  same_if_within edges policy closing within = λ i from kind to. same_answer _ _ (within from kind to)
      (λ e. closing.least.has from kind to (allows_before edges closing.authority from kind to e)) i

  pub nothing_missing :
      (edges policy : List Edge) → IsClosing set t edges policy → (status : ℕ) → status ≡ missing_status (missing_edges edges policy)
      → AcceptedAs set t edges → (status ≡ 0) ↔ IsAcceptedBy set t (allows edges)
  nothing_missing edges policy closing status is accepted = (
    (λ zero. subst (λ test. IsAcceptedBy set t test) (same_if_within edges policy closing (within_if_none (allows edges) policy (nothing_at _ (sym is ∙ zero)))) closing.accepted),
    (λ kept. is ∙ ap missing_status (none_if_within (allows edges) policy (closing.least.least (allows edges) (accepted.0 kept).0 (given kept)))),
  ) where
    given : IsAcceptedBy set t (allows edges) → IsWithin (allows (edges ++ closing.authority)) (allows edges)
    given kept from kind to e = elim (or_cases _ _ (sym (allows-append edges closing.authority from kind to) ∙ e)) [
      | inl here ↦ here
      | inr there ↦ (accepted.0 kept).1 boot booted from kind to ((closing.of_boot boot from kind to booted).0 there)
    ]

  pub missing_told :
      {E : Type 0} (result : Result Answer E) (edges policy : List Edge) → IsClosing set t edges policy
      → IfOk result (λ answer. answer.text.items ≡ edge_lines t (missing_edges edges policy))
      → IfOk result (λ answer. answer.status ≡ missing_status (missing_edges edges policy))
      → IfOk result HasTextAlone → AcceptedAs set t edges → IfOk result (AnswersClosing set on_close.Missing t edges)
  missing_told (Ok answer) edges policy closing text status bare accepted = record {
    policy = policy;
    closing = closing;
    told = (text, status, nothing_missing edges policy closing answer.status status accepted);
    bare = bare;
  }
  missing_told (Err error) edges policy closing text status bare accepted = tt

  -- the least policy for the table alone is within each policy to which the table keeps
  least_in_each : (least : List Edge) → IsClosing set t [] least → ((p : List Edge) → AcceptedAs set t p) → IsInEachPolicyFor set t least
  least_in_each least alone accepted policy kept =
      let parts = (accepted policy).0 kept in
      alone.least.least (allows policy) parts.0 (λ from kind to e. parts.1 boot booted from kind to ((alone.of_boot boot from kind to booted).0 e))

  nothing_surplus :
      (edges least : List Edge) → IsClosing set t [] least → (status : ℕ) → status ≡ missing_status (missing_edges least edges)
      → ((p : List Edge) → AcceptedAs set t p) → (status ≡ 0) ↔ IsInEachPolicyFor set t edges
  nothing_surplus edges least alone status is accepted = (
    (λ zero policy kept from kind to e.
        least_in_each least alone accepted policy kept from kind to (within_if_none (allows least) edges (nothing_at _ (sym is ∙ zero)) from kind to e)),
    (λ each. is ∙ ap missing_status (none_if_within (allows least) edges (each least alone.accepted))),
  )

  pub surplus_told :
      {E : Type 0} (result : Result Answer E) (edges least : List Edge) → IsClosing set t [] least
      → IfOk result (λ answer. answer.text.items ≡ edge_lines t (missing_edges least edges))
      → IfOk result (λ answer. answer.status ≡ missing_status (missing_edges least edges))
      → IfOk result HasTextAlone → ((p : List Edge) → AcceptedAs set t p) → IfOk result (AnswersClosing set on_close.Surplus t edges)
  surplus_told (Ok answer) edges least alone text status bare accepted = record {
    policy = least;
    closing = alone;
    told = (text, status, nothing_surplus edges least alone answer.status status accepted);
    bare = bare;
  }
  surplus_told (Err error) edges least alone text status bare accepted = tt
