-- Sets of labels at which P4, P5, P7 and P8 are broken, as the search computes them.
use Rattle.std.{specs.Prelude.◌↔◌, proofs.Common.{[], ℕ, ◌&&◌, ◌==◌, ◌||◌, ◌∙◌, ◌∷◌, ◌≡◌, ◌⊎◌, Bool, false, inl, inr, not, refl, subst}}
use Rattle.std.proofs.{Common.{sym, true}, lemmas.Bool.{and_parts, eq-eqb, eqb-true, or_cases, or_left, or_right}}
use Rattle.base.specs.declared.{kind.Kind.{Kind, TheVariants.{Call, Derive, Grant, Receive, Reply, Runs}}, labels.Labels.Labels}
use Rattle.base.specs.declared.kind.Kind.TheVariants as kind
use Rattle.base.specs.Labels.{is_in}
use Rattle.policy.specs.{declared.broken.Broken.Broken as broken, Broken.IsBrokenAt, Closed.{ComesToDerive, ComesToHold, IsLacking}}
use Rattle.policy.specs.{Closed.{MayBeGranted, MayBeLent, ShareDomain, caller, derived, granted, server}, Domain.{EdgeTest, IsInDomain}, Steps.{IsSource, IsTarget}}
use Rattle.policy.proofs.Stepping.{IsRow, only_kind, source_by, target_by}
use mathlib.Core.Bool.{false≢true}

-- sets by what is in them

abbrev pub Holds : Labels → (ℕ → Type 0) → Type 0
Holds labels Has = (label : ℕ) → (is_in labels label ≡ true) ↔ Has label

abbrev pub IsReached : EdgeTest → Labels → Kind → Labels → Type 0
IsReached test from kind reached = Holds reached (IsTarget test (kind ∷ []) from)

abbrev pub IsReaching : EdgeTest → Kind → Labels → Labels → Type 0
IsReaching test kind to reaching = Holds reaching (IsSource test (kind ∷ []) to)

abbrev pub IsDomainOf : EdgeTest → Labels → Labels → Type 0
IsDomainOf test subjects domain = Holds domain (λ label. (subject : ℕ) × (is_in subjects subject ≡ true) × IsInDomain test subject label)

abbrev pub IsUnion : Labels → Labels → Labels → Type 0
IsUnion one other union = (label : ℕ) → is_in union label ≡ (is_in one label || is_in other label)

abbrev pub IsDifference : Labels → Labels → Labels → Type 0
IsDifference one other difference = (label : ℕ) → is_in difference label ≡ (is_in one label && not (is_in other label))

lacking : (a b : Bool) → (a && not b) ≡ true → (a ≡ true) × (b ≡ false)
lacking a true e = absurd (false≢true (and_parts a false e).1)
lacking a false e = ((and_parts a true e).0, refl)

remains : (a b : Bool) → a ≡ true → b ≡ false → (a && not b) ≡ true
remains a b has missing = rw (has, missing) refl

-- the labels that should be in a row, and aren't
pub lacking_told :
    (test : EdgeTest) (from : ℕ) (kind : Kind) (Comes : ℕ → Type 0) (comes row lacks : Labels) → IsRow test from kind row
    → IsDifference comes row lacks → Holds comes Comes → Holds lacks (λ label. IsLacking (Comes label) (test from kind label))
lacking_told test from kind Comes comes row lacks in_row differ in_comes label = (
  λ e.
      let parts = lacking (is_in comes label) (is_in row label) (sym (differ label) ∙ e) in
      record { asked = (in_comes label).0 parts.0; missing = sym (in_row label) ∙ parts.1 },
  λ h. differ label ∙ remains (is_in comes label) (is_in row label) ((in_comes label).1 h.asked) (in_row label ∙ h.missing),
)

-- P4
pub domain_told :
    (test : EdgeTest) (parent : ℕ) (subjects domain row lacks : Labels) → Holds subjects (λ a. IsInDomain test a parent)
    → IsDomainOf test subjects domain → IsRow test parent Derive row → IsDifference domain row lacks
    → Holds lacks (λ child. IsBrokenAt test (broken.DomainLacks parent child))
domain_told test parent subjects domain row lacks in_subjects in_domain in_row differ =
    lacking_told test parent Derive (ShareDomain test parent) domain row lacks in_row differ (λ child. (
      λ e. let found = (in_domain child).0 e in record { subject = found.0; of_parent = (in_subjects found.0).0 found.1; of_child = found.2 },
      λ h. (in_domain child).1 (h.subject, (in_subjects h.subject).1 h.of_parent, h.of_child),
    ))

-- P5
pub derive_told :
    (test : EdgeTest) (parent : ℕ) (subjects endpoints takers domain row steps comes lacks : Labels)
    → Holds subjects (λ a. IsInDomain test a parent) → IsReached test subjects Grant endpoints → IsReaching test Receive endpoints takers
    → IsDomainOf test takers domain → IsRow test parent Derive row → IsReached test row Derive steps → IsUnion domain steps comes
    → IsDifference comes row lacks → Holds lacks (λ child. IsBrokenAt test (broken.DeriveLacks parent child))
derive_told test parent subjects endpoints takers domain row steps comes lacks in_subjects in_endpoints in_takers in_domain in_row in_steps either differ =
    lacking_told test parent Derive (ComesToDerive test parent) comes row lacks in_row differ
    (λ child. (λ e. told child (or_cases (is_in domain child) (is_in steps child) (sym (either child) ∙ e)), untold child)) where
      told : (child : ℕ) → (is_in domain child ≡ true) ⊎ (is_in steps child ≡ true) → ComesToDerive test parent child
      told child (inl e) =
          let taker = (in_domain child).0 e in
          let endpoint = (in_takers taker.0).0 taker.1 in
          let giver = (in_endpoints endpoint.to).0 endpoint.among in
          let may : MayBeGranted test giver.from taker.0 = record {
            endpoint = endpoint.to;
            grants = only_kind test Grant giver.from endpoint.to giver.joined;
            receives = only_kind test Receive taker.0 endpoint.to endpoint.joined;
          } in
          granted giver.from taker.0 may ((in_subjects giver.from).0 giver.among) taker.2
      told child (inr e) =
          let middle = (in_steps child).0 e in
          derived middle.from (sym (in_row middle.from) ∙ middle.among) (only_kind test Derive middle.from child middle.joined)

      untold : (child : ℕ) → ComesToDerive test parent child → is_in comes child ≡ true
      untold child (granted giver taker may of_parent of_child) =
          let endpoint = (in_endpoints may.endpoint).1 (target_by test Grant subjects giver may.endpoint ((in_subjects giver).1 of_parent) may.grants) in
          let taken = (in_takers taker).1 (source_by test Receive endpoints may.endpoint taker endpoint may.receives) in
          either child ∙ or_left (is_in domain child) (is_in steps child) ((in_domain child).1 (taker, taken, of_child))
      untold child (derived middle one other) =
          either child ∙ or_right (is_in domain child) (is_in steps child) ((in_steps child).1 (target_by test Derive row middle child (in_row middle ∙ one) other))

-- P7
pub reply_told :
    (test : EdgeTest) (reply : ℕ) (only servers endpoints callers row comes lacks : Labels) → ((label : ℕ) → is_in only label ≡ (label == reply))
    → IsReaching test Reply only servers → IsReached test servers Receive endpoints → IsReaching test Call endpoints callers
    → IsUnion servers callers comes → IsRow test reply kind.Holds row → IsDifference comes row lacks
    → Holds lacks (λ thread. IsBrokenAt test (broken.ReplyLacks reply thread))
reply_told test reply only servers endpoints callers row comes lacks in_only in_servers in_endpoints in_callers either in_row differ =
    lacking_told test reply kind.Holds (ComesToHold test reply) comes row lacks in_row differ
    (λ thread. (λ e. told thread (or_cases (is_in servers thread) (is_in callers thread) (sym (either thread) ∙ e)), untold thread)) where
      serves : (label : ℕ) → is_in servers label ≡ true → test label Reply reply ≡ true
      serves label e =
          let to = (in_servers label).0 e in
          subst (λ r. test label Reply r ≡ true) (eqb-true to.to reply (sym (in_only to.to) ∙ to.among)) (only_kind test Reply label to.to to.joined)

      is_server : (label : ℕ) → test label Reply reply ≡ true → is_in servers label ≡ true
      is_server label e = (in_servers label).1 (source_by test Reply only reply label (in_only reply ∙ eq-eqb reply reply refl) e)

      told : (thread : ℕ) → (is_in servers thread ≡ true) ⊎ (is_in callers thread ≡ true) → ComesToHold test reply thread
      told thread (inl e) = server (serves thread e)
      told thread (inr e) =
          let endpoint = (in_callers thread).0 e in
          let from = (in_endpoints endpoint.to).0 endpoint.among in
          caller from.from endpoint.to (serves from.from from.among) (only_kind test Call thread endpoint.to endpoint.joined)
          (only_kind test Receive from.from endpoint.to from.joined)

      untold : (thread : ℕ) → ComesToHold test reply thread → is_in comes thread ≡ true
      untold thread (server e) = either thread ∙ or_left (is_in servers thread) (is_in callers thread) (is_server thread e)
      untold thread (caller b endpoint replies calls receives) =
          let received = (in_endpoints endpoint).1 (target_by test Receive servers b endpoint (is_server b replies) receives) in
          either thread ∙ or_right (is_in servers thread) (is_in callers thread) ((in_callers thread).1 (source_by test Call endpoints endpoint thread received calls))

-- P8
pub loan_told :
    (test : EdgeTest) (borrower : ℕ) (endpoints lenders lent row lacks : Labels) → IsRow test borrower Receive endpoints
    → IsReaching test Call endpoints lenders → IsReached test lenders Runs lent → IsRow test borrower Runs row → IsDifference lent row lacks
    → Holds lacks (λ context. IsBrokenAt test (broken.LentLacks borrower context))
loan_told test borrower endpoints lenders lent row lacks in_endpoints in_lenders in_lent in_row differ =
    lacking_told test borrower Runs (MayBeLent test borrower) lent row lacks in_row differ (λ context. (
      λ e.
          let lender = (in_lent context).0 e in
          let endpoint = (in_lenders lender.from).0 lender.among in
          record {
            lender = lender.from;
            endpoint = endpoint.to;
            calls = only_kind test Call lender.from endpoint.to endpoint.joined;
            receives = sym (in_endpoints endpoint.to) ∙ endpoint.among;
            runs = only_kind test Runs lender.from context lender.joined;
          },
      λ h.
          let received = in_endpoints h.endpoint ∙ h.receives in
          let called = (in_lenders h.lender).1 (source_by test Call endpoints h.endpoint h.lender received h.calls) in
          (in_lent context).1 (target_by test Runs lenders h.lender context called h.runs),
    ))
