-- The edges that the rules ask for: every closed policy has them, and a policy that has all of them is closed.
use Rattle.std.proofs.Common.{ℕ, ◌<◌, ◌∙◌, ◌≡◌, Bool, IfSome, false, inl, inr, refl, sym, true}
use Rattle.base.specs.declared.kind.Kind.{Kind, Kind as kinds, TheVariants.{Call, Context, Control, Derive, Receive, Reply, Runs, Space, Grant}}
use Rattle.base.specs.Kinds.{is_structural}
use Rattle.policy.specs.{declared.broken.Broken.{Broken, Broken as broken}, Broken.{Asks, edge_asked_at, is_there}, Closing.IsWithin}
use Rattle.policy.specs.{Closed.{IsClosed, MayBeGranted, caller, derived, granted, server}, Domain.{EdgeTest, IsInDomain}}
use Rattle.policy.{specs.Settling.{IsAskedFor, IsGiven, by_grant, controlled, of_its_domain, of_their_domain, shared}, proofs.Unbroken.has_asked_at}
use mathlib.Core.Bool.{false≢true}

-- a closed policy has what the edges of a policy within it ask for
module _ (one other : EdgeTest) (within : IsWithin one other) (closed : IsClosed other) where
  in_domain : (a x : ℕ) → IsInDomain one a x → IsInDomain other a x
  in_domain a x (inl space) = inl (within a Space x space)
  in_domain a x (inr control) = inr (within a Control x control)

  may : (a b : ℕ) → MayBeGranted one a b → MayBeGranted other a b
  may a b h = record {
    endpoint = h.endpoint;
    grants = within a Grant h.endpoint h.grants;
    receives = within b Receive h.endpoint h.receives;
  }

  asks_more : (place : Broken) → Asks one place → Asks other place
  asks_more (broken.SubjectsDisagree a b kind to) none = none
  asks_more (broken.ControlLacks a kind b) h = record { controls = within a Control b h.controls; given = h.given }
  asks_more (broken.GrantLacks a b kind to) h = record { granted = may a b h.granted; of_use = h.of_use; has = within a kind to h.has }
  asks_more (broken.DomainLacks x y) h =
      record { subject = h.subject; of_parent = in_domain h.subject x h.of_parent; of_child = in_domain h.subject y h.of_child }
  asks_more (broken.DeriveLacks x y) (granted giver taker h of_parent of_child) =
      granted giver taker (may giver taker h) (in_domain giver x of_parent) (in_domain taker y of_child)
  asks_more (broken.DeriveLacks x y) (derived middle first second) = derived middle (within x Derive middle first) (within middle Derive y second)
  asks_more (broken.ContextLacks a s) e = within a Context s e
  asks_more (broken.ReplyLacks reply thread) (server e) = server (within thread Reply reply e)
  asks_more (broken.ReplyLacks reply thread) (caller b endpoint e calls receives) =
      caller b endpoint (within b Reply reply e) (within thread Call endpoint calls) (within b Receive endpoint receives)
  asks_more (broken.LentLacks borrower context) h = record {
    lender = h.lender;
    endpoint = h.endpoint;
    calls = within h.lender Call h.endpoint h.calls;
    receives = within borrower Receive h.endpoint h.receives;
    runs = within h.lender Runs context h.runs;
  }

  has : (place : Broken) → Asks one place → is_there other (edge_asked_at place) ≡ true
  has place asks = has_asked_at other closed place (asks_more place asks)

  has_given : (from : ℕ) (kind : Kind) (to : ℕ) → IsGiven one from kind to → other from kind to ≡ true
  has_given from kind to (shared giver (of_its_domain domain) of_use is) =
      sym (closed.subjects_agree giver from kind (record { domain = in_domain giver from domain; of_use = of_use }) to) ∙ within giver kind to is
  has_given from kind to (shared giver (of_their_domain domain) of_use is) =
      closed.subjects_agree from giver kind (record { domain = in_domain from giver domain; of_use = of_use }) to ∙ within giver kind to is
  has_given from kind to (shared giver (by_grant h) of_use is) =
      has (broken.GrantLacks giver from kind to) (record { granted = h; of_use = of_use; has = is })
  has_given from kind to (controlled h) = has (broken.ControlLacks from kind to) h

  pub has_asked : (from : ℕ) (kind : Kind) (to : ℕ) → IsAskedFor one from kind to → other from kind to ≡ true
  has_asked from Derive to (inl h) = has (broken.DomainLacks from to) h
  has_asked from Derive to (inr h) = has (broken.DeriveLacks from to) h
  has_asked from Runs to (inl h) = has (broken.ContextLacks from to) h
  has_asked from Runs to (inr h) = has (broken.LentLacks from to) h
  has_asked from kinds.Holds to h = has (broken.ReplyLacks from to) h
  has_asked from kind to h = has_given from kind to h

alike : (a b : Bool) → (a ≡ true → b ≡ true) → (b ≡ true → a ≡ true) → a ≡ b
alike true b forth back = sym (forth refl)
alike false true forth back = back refl
alike false false forth back = refl

-- control and sharing give no derive, runs or holds edge
not_given : (test : EdgeTest) (from : ℕ) (kind : Kind) (to : ℕ) → is_structural kind ≡ true → (kind ≡ Space → ⊥) → IsGiven test from kind to → ⊥
not_given test from kind to structural other (shared giver h is_use has) = false≢true (sym is_use ∙ structural)
not_given test from kind to structural other (controlled h) = elim h.given [
  | inl space ↦ other space
  | inr of_use ↦ false≢true (sym of_use.0 ∙ structural)
]

asked_if_given : (test : EdgeTest) (from : ℕ) (kind : Kind) (to : ℕ) → IsGiven test from kind to → IsAskedFor test from kind to
asked_if_given test from Derive to h = absurd (not_given test from Derive to refl (λ e. cc) h)
asked_if_given test from Runs to h = absurd (not_given test from Runs to refl (λ e. cc) h)
asked_if_given test from kinds.Holds to h = absurd (not_given test from kinds.Holds to refl (λ e. cc) h)
asked_if_given test from kind to h = h

pub closed_if_settled : (test : EdgeTest) → ((from : ℕ) (kind : Kind) (to : ℕ) → IsAskedFor test from kind to → test from kind to ≡ true) → IsClosed test
closed_if_settled test settled = record {
  subjects_agree = λ a b kind share to.
      alike (test a kind to) (test b kind to) (λ has. given b kind to (shared a (of_its_domain share.domain) share.of_use has))
      (λ has. given a kind to (shared b (of_their_domain share.domain) share.of_use has));
  control_gives_all = λ a kind b h. given a kind b (controlled h);
  grant_shares = λ a b kind to h. given b kind to (shared a (by_grant h.granted) h.of_use h.has);
  derive_in_domain = λ x y h. settled x Derive y (inl h);
  derive_by_grant = λ x y h. settled x Derive y (inr h);
  context_runs = λ a s e. settled a Runs s (inl e);
  reply_holds = λ reply thread h. settled reply kinds.Holds thread h;
  lent_runs = λ borrower context h. settled borrower Runs context (inr h);
} where
  given : (from : ℕ) (kind : Kind) (to : ℕ) → IsGiven test from kind to → test from kind to ≡ true
  given from kind to h = settled from kind to (asked_if_given test from kind to h)

-- an edge that is asked for starts at a label of an edge
module _ (test : EdgeTest) (n : ℕ) (joins : (from : ℕ) (kind : Kind) (to : ℕ) → test from kind to ≡ true → (from < n) × (to < n)) where
  pub domain_joins : (a x : ℕ) → IsInDomain test a x → (a < n) × (x < n)
  domain_joins a x (inl e) = joins a Space x e
  domain_joins a x (inr e) = joins a Control x e

  pub starts : (place : Broken) → Asks test place → IfSome (edge_asked_at place) (λ edge. edge.from < n)
  starts (broken.SubjectsDisagree a b kind to) none = tt
  starts (broken.ControlLacks a kind b) h = (joins a Control b h.controls).0
  starts (broken.GrantLacks a b kind to) h = (joins b Receive h.granted.endpoint h.granted.receives).0
  starts (broken.DomainLacks x y) h = (domain_joins h.subject x h.of_parent).1
  starts (broken.DeriveLacks x y) (granted giver taker h parent child) = (domain_joins giver x parent).1
  starts (broken.DeriveLacks x y) (derived middle first second) = (joins x Derive middle first).0
  starts (broken.ContextLacks a s) e = (joins a Context s e).0
  starts (broken.ReplyLacks reply thread) (server e) = (joins thread Reply reply e).1
  starts (broken.ReplyLacks reply thread) (caller b endpoint e calls receives) = (joins b Reply reply e).1
  starts (broken.LentLacks borrower context) h = (joins borrower Receive h.endpoint h.receives).0

  given_starts : (from : ℕ) (kind : Kind) (to : ℕ) → IsGiven test from kind to → from < n
  given_starts from kind to (shared giver (of_its_domain domain) of_use has) = (domain_joins giver from domain).1
  given_starts from kind to (shared giver (of_their_domain domain) of_use has) = (domain_joins from giver domain).0
  given_starts from kind to (shared giver (by_grant h) of_use has) = (joins from Receive h.endpoint h.receives).0
  given_starts from kind to (controlled h) = (joins from Control to h.controls).0

  pub asked_starts : (from : ℕ) (kind : Kind) (to : ℕ) → IsAskedFor test from kind to → from < n
  asked_starts from Derive to (inl h) = starts (broken.DomainLacks from to) h
  asked_starts from Derive to (inr h) = starts (broken.DeriveLacks from to) h
  asked_starts from Runs to (inl h) = starts (broken.ContextLacks from to) h
  asked_starts from Runs to (inr h) = starts (broken.LentLacks from to) h
  asked_starts from kinds.Holds to h = starts (broken.ReplyLacks from to) h
  asked_starts from kind to h = given_starts from kind to h
