-- The sources of edges, kept row by row, and the labels that are found by them.
use Rattle.std.proofs.lemmas.List.{get_or_default}
use Rattle.std.proofs.Common.{[], ℕ, ◌<◌, ◌∙◌, ◌∷◌, ◌≡◌, Bool, List, ap, arith, false, get_or, length, not, refl, subst, sym, true}
use Rattle.base.specs.{declared.{edge.Edge.Edge, kind.Kind.{Kind, TheVariants.{Holds, Reply}}, labels.Labels.Labels}, Labels.{is_in, no_labels}}
use mathlib.Core.Bool.{false≢true}
use Rattle.policy.specs.{Change.{ActorTest, MayAnswer}, Policy.{JoinsLabels, allows}, Steps.IsSource}
use Rattle.policy.proofs.{Gathering.{Tells, told_as}, Stepping.{only_kind, source_by}}
use Rattle.summary.specs.{Sources.{IsJoint, IsSources, SourcesOf, row_at}, Ways.{IsCallers, IsHeldBy}}

-- the sources are those of the policy and the kind that they were made of
pub of_kind : (edges : List Edge) (kind : Kind) (s : SourcesOf) → s ≡ record { edges = edges; kind = kind } → (ends actors found : Labels)
    → ((from : ℕ) → Tells (is_in found from) (IsSource (allows s.edges) (s.kind ∷ []) ends from × (is_in actors from ≡ true)))
    → (from : ℕ) → Tells (is_in found from) (IsSource (allows edges) (kind ∷ []) ends from × (is_in actors from ≡ true))
of_kind edges kind s is ends actors found tells =
    subst
    (λ (t : SourcesOf). (from : ℕ) → Tells (is_in found from) (IsSource (allows t.edges) (t.kind ∷ []) ends from × (is_in actors from ≡ true)))
    is tells

-- the labels in the rows of a set are the sources of edges to it
pub joint_sources : (edges : List Edge) (kind : Kind) (rows : List Labels) (set : Labels) (from : ℕ) (b : Bool) → JoinsLabels edges
    → IsSources (allows edges) kind rows → Tells b (IsJoint rows set from) → Tells b (IsSource (allows edges) (kind ∷ []) set from)
joint_sources edges kind rows set from b joins are tells = told_as b tells to back where
  to : IsJoint rows set from → IsSource (allows edges) (kind ∷ []) set from
  to joint =
      source_by (allows edges) kind set joint.at from joint.among ((are.each joint.at (omega (arith, joint.there, are.count)) from).0 joint.has)

  back : IsSource (allows edges) (kind ∷ []) set from → IsJoint rows set from
  back source =
      let edge = only_kind (allows edges) kind from source.to source.joined in
      let ends = joins from kind source.to edge in
      record {
        at = source.to;
        among = source.among;
        there = omega (arith, ends.1, are.count);
        has = (are.each source.to ends.1 from).1 edge;
      }

-- the labels in the rows of replies are those that the replies hold
pub joint_callers : (edges : List Edge) (acts : ActorTest) (rows : List Labels) (replies : Labels) (l : ℕ) (b : Bool) → JoinsLabels edges
    → IsCallers (allows edges) acts rows → Tells b (IsJoint rows replies l) → Tells b (IsHeldBy (allows edges) acts replies l)
joint_callers edges acts rows replies l b joins are tells = told_as b tells to back where
  to : IsJoint rows replies l → IsHeldBy (allows edges) acts replies l
  to joint = record {
    reply = joint.at;
    among = joint.among;
    called = (are.each joint.at (omega (arith, joint.there, are.count)) l).0 joint.has;
  }

  back : IsHeldBy (allows edges) acts replies l → IsJoint rows replies l
  back held =
      let ends = joins held.reply Holds l held.called.holds in
      record {
        at = held.reply;
        among = held.among;
        there = omega (arith, ends.0, are.count);
        has = (are.each held.reply ends.0 l).1 held.called;
      }

-- a label may answer the threads held by replies to which it has an edge
pub held_answers : (edges : List Edge) (acts : ActorTest) (a l : ℕ) (replies : Labels) (b : Bool)
    → ((reply : ℕ) → Tells (is_in replies reply) (allows edges a Reply reply ≡ true)) → Tells b (IsHeldBy (allows edges) acts replies l)
    → Tells b (MayAnswer (allows edges) acts a l)
held_answers edges acts a l replies b named tells = told_as b tells
    (λ held. record { reply = held.reply; uses = (named held.reply).0 held.among; called = held.called })
    (λ may. record { reply = may.reply; among = (named may.reply).1 may.uses; called = may.called })

pub row_is : (rows : List Labels) (i k : ℕ) (row d : Labels) → i ≡ k → i < length rows → row ≡ get_or rows i d → row ≡ row_at rows k
row_is rows i k row d same within is =
    is ∙ get_or_default rows i d no_labels within ∙ ap (λ n. get_or rows n no_labels) same

-- a negated test decides the negation
pub not_tells : {X : Type 0} (b : Bool) → Tells b X → Tells (not b) (X → ⊥)
not_tells true tells = (λ is. absurd (false≢true is), λ none. absurd (none (tells.0 refl)))
not_tells false tells = (λ is x. false≢true (tells.1 x), λ none. refl)
