-- The strongest claims that hold of a system: on each pair of labels that have a thread, and for each label without one on all others
-- (confine's own).
use Rattle.std.specs.{List.{filter, flat_map}, Prelude.{[], ℕ, ◌&&◌, ◌++◌, ◌<◌, ◌==◌, ◌∷◌, ◌≡◌}}
use Rattle.std.specs.Prelude.{Bool, List, Option, Some, false, if◌then◌else◌, length, map, not, true}
use Rattle.{machine.specs.Layout.Layout, reach.specs.{declared.extent.Extent.{Extent, Extent as extent}, Extents.{GoesTo, Limits}}}
use Rattle.summary.specs.Labelled.{labels_of, others_of, programs_of}
use Rattle.claims.specs.declared.claim.{Claim.{Claim, Claim as claim}, Most.Most as most, Who.Who as who}

-- how far each label goes with each
abbrev pub Extents : Type 0
Extents = ℕ → ℕ → Extent

-- the labels of a table go so far
abbrev pub AreExtents : Layout → Limits → Extents → Type 0
AreExtents t limits extents = (a l : ℕ) → a < length t.labels → GoesTo limits a l (extents a l)

-- labels with a thread

-- the claim of a label on one with which it goes so far: none if it may change that one's objects
abbrev pub pair_claims : ℕ → ℕ → Extent → List Claim
pair_claims a l extent.Full = []
pair_claims a l extent.Take = claim.AtMost most.Take (who.One a) (who.One l) ∷ []
pair_claims a l extent.Nothing = claim.AtMost most.Nothing (who.One a) (who.One l) ∷ []

-- the claim of a label on another: none on itself
abbrev pub claims_on : (ℕ → Extent) → ℕ → ℕ → List Claim
claims_on goes a l = if a == l then [] else pair_claims a l (goes l)

-- the claims of a label on these
abbrev pub claims_of : Extents → List ℕ → ℕ → List Claim
claims_of extents objects a = flat_map (claims_on (extents a) a) objects

-- labels without a thread

-- objects change or shrink
abbrev pub affects : Extent → Bool
affects extent.Full = true
affects extent.Take = true
affects extent.Nothing = false

-- a label is another than this, and may change or shrink its objects
abbrev pub is_user : (ℕ → Extent) → ℕ → ℕ → Bool
is_user goes a l = not (a == l) && affects (goes l)

-- those of these labels that may change or shrink objects of another
abbrev pub users_of : Extents → List ℕ → ℕ → List ℕ
users_of extents labels l = filter (λ a. is_user (extents a) a l) labels

-- the claim that these labels alone do
abbrev pub only_these : ℕ → List ℕ → Claim
only_these l [] = claim.AtMost most.Nothing who.Others (who.One l)
only_these l (first ∷ users) = claim.Only l (first ∷ users)

abbrev pub claim_to : Extents → List ℕ → ℕ → Claim
claim_to extents labels l = only_these l (users_of extents labels l)

-- all

-- the claims among these labels
abbrev pub claims_among : Extents → List ℕ → List Claim
claims_among extents programs = flat_map (claims_of extents programs) programs

-- the claims for these labels, by all labels
abbrev pub claims_for : Extents → List ℕ → List ℕ → List Claim
claims_for extents labels others = map (claim_to extents labels) others

-- the claims of labels that go so far
abbrev pub strongest_by : Layout → Extents → List Claim
strongest_by t extents = claims_among extents (programs_of t) ++ claims_for extents (labels_of t) (others_of t)

-- lines that say the strongest claims, one each
pub record AreStrongest (t : Layout) (limits : Limits) (lines : List (Option Claim)) : Type 0 where
  pub extents : Extents
  pub are : AreExtents t limits extents
  pub is : lines ≡ map Some (strongest_by t extents)
