-- The sets of labels at which the sharp rules S2 and S4 to S8 are broken, as the search computes them.
use Rattle.std.proofs.Common.{ℕ, ◌↔◌, ◌≡◌, ◌⊎◌, inl, inr, true}
use Rattle.base.specs.declared.{kind.Kind.{Kind, TheVariants.{Context, Control, Derive, Grant, Receive, Runs}}, labels.Labels.Labels}
use Rattle.base.specs.declared.kind.Kind.TheVariants as kinds
use Rattle.base.specs.Labels.{is_in}
use Rattle.policy.specs.{Closed.{ControlGives, IsLacking}, Domain.{EdgeTest, IsInDomain}, Sharp.Told}
use Rattle.policy.proofs.{Gathering.{both, either, itself_tells, row_tells, source_tells, target_tells, told_as}, Stepping.IsRow}
use Rattle.policy.proofs.RuleSets.{Holds, IsDifference, IsReached, IsReaching, IsUnion, lacking_told}
use Rattle.sharp.specs.{Asked.{HoldsSharply, IsLentSharply}, Broken.{ControlGivesKeeper, MayBeBound, PutsByGrant, PutsInDomain, derived, granted}}
use Rattle.sharp.proofs.AskedSets.{IsIntersection, IsOnly, sources_told}

module _ (test : EdgeTest) (keeping : Labels) where
  -- S2
  pub control_told :
      (subject : ℕ) (kind : Kind) (gives row lacks : Labels)
      → Holds gives (λ object. (is_in keeping subject ≡ true) × ControlGives test subject kind object) → IsRow test subject kind row
      → IsDifference gives row lacks
      → Holds lacks (λ object. IsLacking (ControlGivesKeeper test (Told (is_in keeping)) subject kind object) (test subject kind object))
  control_told subject kind gives row lacks in_gives in_row differ =
      lacking_told test subject kind (ControlGivesKeeper test (Told (is_in keeping)) subject kind) gives row lacks in_row differ
      (λ object. told_as (is_in gives object) (in_gives object) (λ w. record { keeps = w.0; gives = w.1 }) (λ h. (h.keeps, h.gives)))

  -- S4
  pub put_told :
      (parent : ℕ) (subjects putting reached row lacks : Labels) → Holds subjects (λ a. IsInDomain test a parent)
      → IsIntersection subjects keeping putting → IsReached test putting Control reached → IsRow test parent Derive row
      → IsDifference reached row lacks
      → Holds lacks (λ child. IsLacking (PutsInDomain test (Told (is_in keeping)) parent child) (test parent Derive child))
  put_told parent subjects putting reached row lacks in_subjects meets in_reached in_row differ =
      lacking_told test parent Derive (PutsInDomain test (Told (is_in keeping)) parent) reached row lacks in_row differ
      (λ child. told_as (is_in reached child)
      (target_tells test Control (λ a. IsInDomain test a parent × (is_in keeping a ≡ true)) putting in_putting child (is_in reached child) (in_reached child))
      (λ w. record { subject = w.0; of_parent = w.1.0; puts = record { keeps = w.1.1; controls = w.2 } })
      (λ h. (h.subject, (h.of_parent, h.puts.keeps), h.puts.controls))) where
        in_putting : (a : ℕ) → (is_in putting a ≡ true) ↔ (IsInDomain test a parent × (is_in keeping a ≡ true))
        in_putting a = both (is_in putting a) (is_in subjects a) (is_in keeping a) (in_subjects a) (itself_tells (is_in keeping a)) (meets a)

  -- S5
  abbrev IsTaker : ℕ → ℕ → Type 0
  IsTaker parent b = ((endpoint : ℕ) × ((a : ℕ) × IsInDomain test a parent × (test a Grant endpoint ≡ true)) × (test b Receive endpoint ≡ true)) × (is_in keeping b ≡ true)

  abbrev Comes : ℕ → ℕ → Type 0
  Comes parent child =
      ((b : ℕ) × IsTaker parent b × (test b Control child ≡ true))
      ⊎ ((middle : ℕ) × (test parent Derive middle ≡ true) × (test middle Derive child ≡ true))

  pub derived_told :
      (parent : ℕ) (subjects endpoints receiving takers reached row further all lacks : Labels) → Holds subjects (λ a. IsInDomain test a parent)
      → IsReached test subjects Grant endpoints → IsReaching test Receive endpoints receiving → IsIntersection receiving keeping takers
      → IsReached test takers Control reached → IsRow test parent Derive row → IsReached test row Derive further → IsUnion reached further all
      → IsDifference all row lacks
      → Holds lacks (λ child. IsLacking (PutsByGrant test (Told (is_in keeping)) parent child) (test parent Derive child))
  derived_told parent subjects endpoints receiving takers reached row further all lacks in_subjects in_endpoints in_receiving meets in_reached in_row in_further union differ =
      lacking_told test parent Derive (PutsByGrant test (Told (is_in keeping)) parent) all row lacks in_row differ
      (λ child. told_as (is_in all child)
      (either (is_in all child) (is_in reached child) (is_in further child)
      (target_tells test Control (IsTaker parent) takers taker child (is_in reached child) (in_reached child))
      (target_tells test Derive (λ middle. test parent Derive middle ≡ true) row (row_tells test Derive parent row in_row) child (is_in further child) (in_further child))
      (union child)) (to_puts child) (from_puts child)) where
        grants : (endpoint : ℕ) → (is_in endpoints endpoint ≡ true) ↔ ((a : ℕ) × IsInDomain test a parent × (test a Grant endpoint ≡ true))
        grants endpoint =
            target_tells test Grant (λ a. IsInDomain test a parent) subjects in_subjects endpoint (is_in endpoints endpoint) (in_endpoints endpoint)

        taker : (b : ℕ) → (is_in takers b ≡ true) ↔ IsTaker parent b
        taker b = both (is_in takers b) (is_in receiving b) (is_in keeping b)
            (source_tells test Receive (λ endpoint. (a : ℕ) × IsInDomain test a parent × (test a Grant endpoint ≡ true)) endpoints grants b
            (is_in receiving b) (in_receiving b))
            (itself_tells (is_in keeping b)) (meets b)

        to_puts : (child : ℕ) → Comes parent child → PutsByGrant test (Told (is_in keeping)) parent child
        to_puts child (inl (b, (way, keeps), controls)) =
            granted way.1.0 b (record { endpoint = way.0; grants = way.1.2; receives = way.2 }) way.1.1
            (record { keeps = keeps; controls = controls })
        to_puts child (inr h) = derived h.0 h.1 h.2

        from_puts : (child : ℕ) → PutsByGrant test (Told (is_in keeping)) parent child → Comes parent child
        from_puts child (granted giver b may of_parent puts) =
            inl (b, ((may.endpoint, (giver, of_parent, may.grants), may.receives), puts.keeps), puts.controls)
        from_puts child (derived middle one other) = inr (middle, one, other)

module _ (test : EdgeTest) where
  -- S6
  pub bound_told :
      (subject : ℕ) (one controlling contexts row lacks : Labels) → IsOnly one subject → IsReaching test Control one controlling
      → IsReached test controlling Context contexts → IsRow test subject Runs row → IsDifference contexts row lacks
      → Holds lacks (λ context. IsLacking (MayBeBound test subject context) (test subject Runs context))
  bound_told subject one controlling contexts row lacks only in_controlling in_contexts in_row differ =
      lacking_told test subject Runs (MayBeBound test subject) contexts row lacks in_row differ
      (λ context. told_as (is_in contexts context)
      (target_tells test Context (λ a. test a Control subject ≡ true) controlling (sources_told test Control subject one controlling only in_controlling)
      context (is_in contexts context) (in_contexts context))
      (λ w. record { binder = w.0; binds = w.2; controls = w.1 }) (λ h. (h.binder, h.controls, h.binds)))

  -- S7
  pub held_told :
      (reply : ℕ) (held row lacks : Labels) → Holds held (HoldsSharply test reply) → IsRow test reply kinds.Holds row
      → IsDifference held row lacks → Holds lacks (λ thread. IsLacking (HoldsSharply test reply thread) (test reply kinds.Holds thread))
  held_told reply held row lacks in_held in_row differ =
      lacking_told test reply kinds.Holds (HoldsSharply test reply) held row lacks in_row differ in_held

  -- S8
  pub lent_told :
      (borrower : ℕ) (lent row lacks : Labels) → Holds lent (IsLentSharply test borrower) → IsRow test borrower Runs row
      → IsDifference lent row lacks → Holds lacks (λ context. IsLacking (IsLentSharply test borrower context) (test borrower Runs context))
  lent_told borrower lent row lacks in_lent in_row differ =
      lacking_told test borrower Runs (IsLentSharply test borrower) lent row lacks in_row differ in_lent
