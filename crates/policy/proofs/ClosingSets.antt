-- Sets of labels to which edges are missing, as closing computes them.
use Rattle.std.proofs.Common.{ℕ, ◌+◌, ◌<◌, ◌==◌, ◌∙◌, ◌≡◌, ◌⊎◌, ◌||◌, Bool, Some, arith, false, inl, inr, refl, slice_get, subst, sym, true}
use Rattle.std.proofs.lemmas.Bool.{cases_order, eq-eqb, eqb-true, or_cases, or_left, or_right}
use Rattle.base.specs.declared.kind.Kind.{Kind, Kind as kinds, TheVariants.{Context, Derive, Grant, Receive, Runs}}
use Rattle.base.specs.{declared.labels.Labels.Labels, Kinds.{is_structural, kind_number}, Labels.is_in}
use Rattle.policy.specs.{declared.broken.Broken.Broken as broken, Broken.IsBrokenAt, Closed.{ControlGives, IsLacking, MayBind}}
use Rattle.policy.specs.{Domain.{EdgeTest, IsInDomain}, Settling.{IsGiven, IsMissing, IsSettled, Shares, by_grant, controlled}}
use Rattle.policy.{specs.Settling.{of_its_domain, of_their_domain, shared}, proofs.KindNumbers.{all_kinds, number_stands}}
use Rattle.policy.proofs.{KindNumbers.same_kind, RuleSets.{Holds, IsDifference, IsDomainOf, IsReached, IsReaching, IsUnion, lacking_told}}
use Rattle.policy.proofs.Stepping.{IsRow, only_kind, source_by, target_by}
use mathlib.Core.Bool.{false≢true}

-- the labels that share with a label
pub givers_told :
    (test : EdgeTest) (taker : ℕ) (subjects only around row granting domains all : Labels)
    → Holds subjects (λ giver. IsInDomain test giver taker) → ((label : ℕ) → is_in only label ≡ (label == taker))
    → IsDomainOf test only around → IsRow test taker Receive row → IsReaching test Grant row granting → IsUnion subjects around domains
    → IsUnion domains granting all → Holds all (λ giver. Shares test giver taker)
givers_told test taker subjects only around row granting domains all in_subjects in_only in_around in_row in_granting one both giver = (
  λ is. elim (or_cases (is_in domains giver) (is_in granting giver) (sym (both giver) ∙ is)) [
    | inl of_domain ↦ elim (or_cases (is_in subjects giver) (is_in around giver) (sym (one giver) ∙ of_domain)) [
      | inl subject ↦ of_its_domain ((in_subjects giver).0 subject)
      | inr other ↦
          let found = (in_around giver).0 other in
          of_their_domain (subst (λ a. IsInDomain test a giver) (eqb-true found.0 taker (sym (in_only found.0) ∙ found.1)) found.2)
    ]
    | inr grants ↦
        let endpoint = (in_granting giver).0 grants in
        by_grant (record {
          endpoint = endpoint.to;
          grants = only_kind test Grant giver endpoint.to endpoint.joined;
          receives = sym (in_row endpoint.to) ∙ endpoint.among;
        })
  ],
  found,
) where
  found : Shares test giver taker → is_in all giver ≡ true
  found (of_its_domain h) =
      both giver ∙ or_left (is_in domains giver) (is_in granting giver)
      (one giver ∙ or_left (is_in subjects giver) (is_in around giver) ((in_subjects giver).1 h))
  found (of_their_domain h) =
      both giver ∙ or_left (is_in domains giver) (is_in granting giver)
      (one giver ∙ or_right (is_in subjects giver) (is_in around giver)
      ((in_around giver).1 (taker, (in_only taker ∙ eq-eqb taker taker refl), h)))
  found (by_grant may) =
      both giver ∙ or_right (is_in domains giver) (is_in granting giver)
      ((in_granting giver).1 (source_by test Grant row may.endpoint giver (in_row may.endpoint ∙ may.receives) may.grants))

-- the labels to which control and sharing give an edge
pub given_told :
    (test : EdgeTest) (from : ℕ) (kind : Kind) (controls givers shares all : Labels) → is_structural kind ≡ false
    → Holds controls (ControlGives test from kind) → Holds givers (λ giver. Shares test giver from)
    → IsReached test givers kind shares → IsUnion controls shares all → Holds all (IsGiven test from kind)
given_told test from kind controls givers shares all of_use in_controls in_givers in_shares both to = (
  λ is. elim (or_cases (is_in controls to) (is_in shares to) (sym (both to) ∙ is)) [
    | inl control ↦ controlled ((in_controls to).0 control)
    | inr share ↦
        let giver = (in_shares to).0 share in
        shared giver.from ((in_givers giver.from).0 giver.among) of_use (only_kind test kind giver.from to giver.joined)
  ],
  found,
) where
  found : IsGiven test from kind to → is_in all to ≡ true
  found (controlled h) = both to ∙ or_left (is_in controls to) (is_in shares to) ((in_controls to).1 h)
  found (shared giver h is_use has) =
      both to ∙ or_right (is_in controls to) (is_in shares to)
      ((in_shares to).1 (target_by test kind givers giver to ((in_givers giver).1 h) has))

-- the labels to which an edge is missing for one of two reasons: P4 and P5, and P6 and P8
pub either_missing :
    (One Other : ℕ → Type 0) (there : ℕ → Bool) (first second all : Labels) → Holds first (λ to. IsLacking (One to) (there to))
    → Holds second (λ to. IsLacking (Other to) (there to)) → IsUnion first second all → Holds all (λ to. IsLacking (One to ⊎ Other to) (there to))
either_missing One Other there first second all in_first in_second both to = (
  λ is. elim (or_cases (is_in first to) (is_in second to) (sym (both to) ∙ is)) [
    | inl one ↦ let h = (in_first to).0 one in record { asked = inl h.asked; missing = h.missing }
    | inr other ↦ let h = (in_second to).0 other in record { asked = inr h.asked; missing = h.missing }
  ],
  λ h. both to ∙ found h.missing h.asked,
) where
  found : there to ≡ false → One to ⊎ Other to → (is_in first to || is_in second to) ≡ true
  found missing (inl asked) = or_left (is_in first to) (is_in second to) ((in_first to).1 (record { asked = asked; missing = missing }))
  found missing (inr asked) = or_right (is_in first to) (is_in second to) ((in_second to).1 (record { asked = asked; missing = missing }))

-- P6
pub contexts_missing :
    (test : EdgeTest) (from : ℕ) (contexts row lacks : Labels) → IsRow test from Context contexts → IsRow test from Runs row
    → IsDifference contexts row lacks → Holds lacks (λ context. IsBrokenAt test (broken.ContextLacks from context))
contexts_missing test from contexts row lacks in_contexts in_row differ =
    lacking_told test from Runs (MayBind test from) contexts row lacks in_row differ (λ to. (λ e. sym (in_contexts to) ∙ e, λ h. in_contexts to ∙ h))

-- P1, P2 and P3
pub given_missing :
    (test : EdgeTest) (from : ℕ) (kind : Kind) (given row lacks : Labels) → (kind ≡ Derive → ⊥) → (kind ≡ Runs → ⊥) → (kind ≡ kinds.Holds → ⊥)
    → Holds given (IsGiven test from kind) → IsRow test from kind row → IsDifference given row lacks → Holds lacks (IsMissing test from kind)
given_missing test from Derive given row lacks no_derive no_runs no_holds in_given in_row differ = absurd (no_derive refl)
given_missing test from Runs given row lacks no_derive no_runs no_holds in_given in_row differ = absurd (no_runs refl)
given_missing test from kinds.Holds given row lacks no_derive no_runs no_holds in_given in_row differ = absurd (no_holds refl)
given_missing test from kind given row lacks no_derive no_runs no_holds in_given in_row differ =
    lacking_told test from kind (IsGiven test from kind) given row lacks in_row differ in_given

-- an edge that is asked for is there if none is missing
pub settled_if_none :
    (test : EdgeTest) (from : ℕ) (kind : Kind) (lacks : Labels) → Holds lacks (IsMissing test from kind) → ((to : ℕ) → is_in lacks to ≡ false)
    → IsSettled test from kind
settled_if_none test from kind lacks in_lacks none to asked = by (test from kind to) refl where
  by : (b : Bool) → test from kind to ≡ b → test from kind to ≡ true
  by true is = is
  by false missing = absurd (false≢true (sym (none to) ∙ (in_lacks to).1 (record { asked = asked; missing = missing })))

-- one more kind
pub one_more_kind :
    (P : Kind → Type 0) (n : ℕ) (here : Kind) → slice_get all_kinds n ≡ Some here → ((kind : Kind) → kind_number kind < n → P kind) → P here
    → (kind : Kind) → kind_number kind < n + 1 → P kind
one_more_kind P n here at before has kind below = elim (cases_order (kind_number kind) n) [
  | inl same ↦ subst P (same_kind here kind (number_stands n here at ∙ sym same)) has
  | inr (inl less) ↦ before kind less
  | inr (inr more) ↦ absurd (omega arith)
]
