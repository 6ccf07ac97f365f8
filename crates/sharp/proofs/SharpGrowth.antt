-- Policies that grow until they are sharply closed: the policy that grows no more is the least sharply closed one.
use mathlib.Core.Bool.{false≢true}
use Rattle.std.proofs.Common.{ℕ, ◌<◌, ◌↔◌, ◌∙◌, ◌≡◌, Bool, List, false, inl, inr, refl, subst, sym, true}
use Rattle.base.specs.{declared.{edge.Edge.Edge, kind.Kind.Kind, labels.Labels.Labels}, Labels.is_in}
use Rattle.policy.specs.{Closing.IsWithin, Domain.EdgeTest, Policy.allows, Settling.Joins}
use Rattle.policy.{specs.Sharp.{IsSharplyClosed, KeeperTest, Told}, proofs.Sharpness.{closed_sharply, fewer_keepers}}
use Rattle.sharp.specs.{Asked.{IsMissingAmong, SharesSharply}, Keeping.KeepsFrom, Least.{GrowsSharply, IsLeastSharp}}
use Rattle.sharp.proofs.{AskedRules.{asked_among, has_sharply_asked}, KeeperSearch.keeps_grow}
use Rattle.base.specs.declared.label.TheConstants.Label as Label
use Rattle.policy.proofs.ClosingGrowth as closing

module _ (keeping : Labels) (old middle new : List Edge) (before : Bool) (first : GrowsSharply keeping old middle before) where
  -- steps of growth, the last of which adds edges
  pub grows_more : GrowsSharply keeping middle new true → GrowsSharply keeping old new true
  grows_more second = record {
    grows = closing.grows_more old middle new before first.grows second.grows;
    forced = λ other closed within. second.forced other closed (first.forced other closed within);
  }

  -- steps of growth, the last of which adds none
  pub grows_no_more : GrowsSharply keeping middle new false → GrowsSharply keeping old new before
  grows_no_more second = subst (λ edges. GrowsSharply keeping old edges before) (sym (second.grows.same refl)) first

-- the edges that are missing at a label are added
pub grows_by_join :
    (keeping sharing : Labels) (old new : List Edge) (from : ℕ) (kind : Kind) (lacks : Labels) (first : ℕ)
    → ((giver : ℕ) → is_in sharing giver ≡ true → SharesSharply (allows old) (Told (is_in keeping)) giver from)
    → ((to : ℕ) → is_in lacks to ≡ true → IsMissingAmong (allows old) (Told (is_in keeping)) (Told (is_in sharing)) from kind to)
    → Joins old new from kind lacks → first < Label.COUNT → is_in lacks first ≡ true → GrowsSharply keeping old new true
grows_by_join keeping sharing old new from kind lacks first share missing joins below is = record {
  grows = record {
    kept = joins.kept;
    forced = λ other closed. forced other (closed_sharply other (Told (is_in keeping)) closed);
    added = λ yes. record { from = from; kind = kind; to = first; absent = (missing first is).missing; present = joins.joined first below is };
    same = λ no. absurd (false≢true (sym no));
  };
  forced = forced;
} where
  forced : (other : EdgeTest) → IsSharplyClosed other (Told (is_in keeping)) → IsWithin (allows old) other → IsWithin (allows new) other
  forced other closed within start way end has = elim (joins.only start way end has) [
    | inl before ↦ within start way end before
    | inr (starts, kinds, among) ↦
        rw (starts, kinds) (has_sharply_asked (allows old) other (Told (is_in keeping)) within closed from kind end
        (asked_among (allows old) (Told (is_in keeping)) (Told (is_in sharing)) (λ giver. SharesSharply (allows old) (Told (is_in keeping)) giver from)
        share from kind end (missing end among).asked))
  ]

-- nothing is added if nothing is missing
pub grows_by_none : (keeping : Labels) (old : List Edge) → GrowsSharply keeping old old false
grows_by_none keeping old = record {
  grows = record {
    kept = λ from kind to has. has;
    forced = λ other closed within. within;
    added = λ yes. absurd (false≢true yes);
    same = λ no. refl;
  };
  forced = λ other closed within. within;
}

-- the edges that a policy's keepers force are in each greater policy that is sharply closed
pub forced_by_keepers :
    (keeping : Labels) (holds : KeeperTest) (old new : List Edge) (changed : Bool)
    → ((a : ℕ) → (is_in keeping a ≡ true) ↔ KeepsFrom (allows old) holds a) → GrowsSharply keeping old new changed
    → (other : EdgeTest) → IsSharplyClosed other (KeepsFrom other holds) → IsWithin (allows old) other → IsWithin (allows new) other
forced_by_keepers keeping holds old new changed keep grows other closed within =
    grows.forced other
    (fewer_keepers other (KeepsFrom other holds) (Told (is_in keeping)) (λ a is. keeps_grow (allows old) other holds within a ((keep a).0 is)) closed)
    within

-- a policy that grows no more is sharply closed for its own keepers
pub closed_for_keepers :
    (keeping : Labels) (holds : KeeperTest) (old new : List Edge)
    → ((a : ℕ) → (is_in keeping a ≡ true) ↔ KeepsFrom (allows old) holds a) → new ≡ old
    → IsSharplyClosed (allows new) (Told (is_in keeping)) → IsSharplyClosed (allows new) (KeepsFrom (allows new) holds)
closed_for_keepers keeping holds old new keep same closed =
    fewer_keepers (allows new) (Told (is_in keeping)) (KeepsFrom (allows new) holds)
    (λ a is. (keep a).1 (subst (λ edges. KeepsFrom (allows edges) holds a) same is)) closed

-- two lists of the same edges have the same least sharply closed policy
pub least_of_same :
    (one other policy : List Edge) (holds : KeeperTest) → ((from : ℕ) (kind : Kind) (to : ℕ) → allows one from kind to ≡ allows other from kind to)
    → IsLeastSharp other holds policy → IsLeastSharp one holds policy
least_of_same one other policy holds same least = record {
  closed = least.closed;
  has = λ from kind to has. least.has from kind to (sym (same from kind to) ∙ has);
  least = λ test closed within. least.least test closed (λ from kind to has. within from kind to (same from kind to ∙ has));
}
