-- Systems within others: whatever such a system may do, the other may do too, where each label has its twin (confine's own).
use Rattle.std.specs.Prelude.{ℕ, ◌<◌, ◌≡◌, ◌≢◌, length, map, true}
use Rattle.{base.specs.declared.kind.Kind.Kind, machine.specs.Layout.Layout, reach.specs.Extents.Limits}
use Rattle.claims.specs.declared.claim.{Claim.{Claim, Claim as claim}, Who.{Who, Who as who}}

-- each edge and each label that acts has its twin in the other; labels that act and differ have different twins
pub record LiesWithin (twin : ℕ → ℕ) (inner outer : Limits) : Type 0 where
  pub edges : (from : ℕ) (kind : Kind) (to : ℕ) → inner.test from kind to ≡ true → outer.test (twin from) kind (twin to) ≡ true
  pub actors : (a : ℕ) → inner.acts a ≡ true → outer.acts (twin a) ≡ true
  pub distinct : (a b : ℕ) → inner.acts a ≡ true → inner.acts b ≡ true → a ≢ b → twin a ≢ twin b

-- each label of the one table has its twin in the other, and two numbers never have the same
pub record AreTwins (t u : Layout) (twin : ℕ → ℕ) : Type 0 where
  pub there : (a : ℕ) → a < length t.labels → twin a < length u.labels
  pub distinct : (a b : ℕ) → twin a ≡ twin b → a ≡ b

-- claims on the twins of labels

abbrev pub twin_who : (ℕ → ℕ) → Who → Who
twin_who twin (who.One label) = who.One (twin label)
twin_who twin who.Others = who.Others

abbrev pub twin_claim : (ℕ → ℕ) → Claim → Claim
twin_claim twin (claim.AtMost limit actor object) = claim.AtMost limit (twin_who twin actor) (twin_who twin object)
twin_claim twin (claim.Only object actors) = claim.Only (twin object) (map twin actors)
twin_claim twin (claim.Within actor objects) = claim.Within (twin actor) (map twin objects)
twin_claim twin (claim.Readers object readers) = claim.Readers (twin object) (map twin readers)
twin_claim twin (claim.Through from to filters) = claim.Through (twin from) (twin to) (map twin filters)
twin_claim twin (claim.Without actor kind object) = claim.Without (twin_who twin actor) kind (twin_who twin object)
