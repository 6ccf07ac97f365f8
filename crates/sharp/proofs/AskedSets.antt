-- The sets of labels to which the sharp rules ask for edges, as the search computes them.
use mathlib.Core.Bool.{false≢true}
use Rattle.std.proofs.Common.{ℕ, ◌&&◌, ◌==◌, ◌↔◌, ◌∙◌, ◌≡◌, ◌⊎◌, Bool, false, inl, inr, refl, subst, sym, true}
use Rattle.base.specs.declared.kind.Kind.{Kind, Kind as kinds, TheVariants.{Call, Context, Control, Derive, Grant, Receive, Reply, Runs}}
use Rattle.base.specs.{declared.labels.Labels.Labels, Kinds.is_structural, Labels.is_in}
use Rattle.policy.specs.{Closed.{ControlGives, MayBeGranted}, Domain.{EdgeTest, IsInDomain}, Sharp.{Keepers, MayIdle, MayPut, Told}}
use Rattle.policy.proofs.Gathering.{both, either, itself_tells, only_tells, row_tells, source_tells, target_tells, told_as}
use Rattle.policy.proofs.{RuleSets.{Holds, IsDifference, IsReached, IsReaching, IsUnion, lacking_told}, Stepping.IsRow}
use Rattle.sharp.specs.Asked.{DerivesSharply, HoldsSharply, IsAskedAmong, IsLentSharply, IsMissingAmong, IsSettledAmong}
use Rattle.sharp.specs.Asked.{IsSharplyGiven, RunsSharply, bound, caller, controlled, derived, granted, lent, put, server, shared}

abbrev pub IsOnly : Labels → ℕ → Type 0
IsOnly one label = (other : ℕ) → is_in one other ≡ (other == label)

abbrev pub IsIntersection : Labels → Labels → Labels → Type 0
IsIntersection one other common = (label : ℕ) → is_in common label ≡ (is_in one label && is_in other label)

-- the reasons for an edge, as unions and intersections of sets

abbrev Gives : EdgeTest → Labels → Labels → ℕ → Kind → ℕ → Type 0
Gives test keeping sharing from kind to =
    ((is_in keeping from ≡ true) × ControlGives test from kind to)
    ⊎ ((giver : ℕ) × (is_in sharing giver ≡ true) × (test giver kind to ≡ true))

abbrev MayHave : EdgeTest → ℕ → ℕ → Type 0
MayHave test label b = IsInDomain test b label ⊎ ((a : ℕ) × IsInDomain test a label × MayBeGranted test a b)

abbrev Derives : EdgeTest → Labels → ℕ → ℕ → Type 0
Derives test keeping parent child =
    ((b : ℕ) × (MayHave test parent b × (is_in keeping b ≡ true)) × (test b Control child ≡ true))
    ⊎ ((middle : ℕ) × (test parent Derive middle ≡ true) × (test middle Derive child ≡ true))

abbrev MayRun : EdgeTest → ℕ → ℕ → Type 0
MayRun test label context =
    ((a : ℕ) × (test a Control label ≡ true) × (test a Context context ≡ true)) ⊎ IsLentSharply test label context

abbrev IsServed : EdgeTest → ℕ → ℕ → Type 0
IsServed test reply endpoint = (b : ℕ) × (test b Reply reply ≡ true) × (test b Receive endpoint ≡ true)

abbrev MayHold : EdgeTest → ℕ → ℕ → Type 0
MayHold test reply thread =
    (((endpoint : ℕ) × IsServed test reply endpoint × (test thread Receive endpoint ≡ true)) × (test thread Reply reply ≡ true))
    ⊎ ((endpoint : ℕ) × IsServed test reply endpoint × (test thread Call endpoint ≡ true))

-- the sources of a label along edges of a kind
module _ (test : EdgeTest) (kind : Kind) (label : ℕ) (one sources : Labels) (only : IsOnly one label) (reaching : IsReaching test kind one sources) where
  pub sources_told : Holds sources (λ a. test a kind label ≡ true)
  sources_told a = told_as (is_in sources a)
      (source_tells test kind (λ to. to ≡ label) one (only_tells one label only) a (is_in sources a) (reaching a))
      (λ w. subst (λ to. test a kind to ≡ true) w.1 w.2) (λ e. (label, refl, e))

module _ (test : EdgeTest) (keeping : Labels) where
  -- the labels that may put capabilities into the CNodes of a label
  pub putters_told : (label : ℕ) (one sources common : Labels) → IsOnly one label → IsReaching test Control one sources
      → IsIntersection sources keeping common → Holds common (λ a. MayPut test (Told (is_in keeping)) a label)
  putters_told label one sources common only reaching meets a = told_as (is_in common a)
      (both (is_in common a) (is_in sources a) (is_in keeping a) (sources_told test Control label one sources only reaching a)
      (itself_tells (is_in keeping a)) (meets a))
      (λ w. record { keeps = w.1; controls = w.0 }) (λ h. (h.controls, h.keeps))

  -- the edges that control and sharing give
  pub given_told : (sharing : Labels) (from : ℕ) (kind : Kind) (controls shares all : Labels) → is_structural kind ≡ false
      → Holds controls (λ to. (is_in keeping from ≡ true) × ControlGives test from kind to) → IsReached test sharing kind shares
      → IsUnion controls shares all → Holds all (IsSharplyGiven test (Told (is_in keeping)) (Told (is_in sharing)) from kind)
  given_told sharing from kind controls shares all of_use in_controls in_shares one to = told_as (is_in all to)
      (either (is_in all to) (is_in controls to) (is_in shares to) (in_controls to)
      (target_tells test kind (Told (is_in sharing)) sharing (λ giver. itself_tells (is_in sharing giver)) to (is_in shares to) (in_shares to)) (one to))
      to_given from_given where
        to_given : Gives test keeping sharing from kind to → IsSharplyGiven test (Told (is_in keeping)) (Told (is_in sharing)) from kind to
        to_given (inl h) = controlled h.0 h.1
        to_given (inr h) = shared h.0 h.1 of_use h.2

        from_given : IsSharplyGiven test (Told (is_in keeping)) (Told (is_in sharing)) from kind to → Gives test keeping sharing from kind to
        from_given (controlled keeps h) = inl (keeps, h)
        from_given (shared giver h is_use has) = inr (giver, h, has)

  -- the labels that may come to derive from a label
  pub derived_told : (parent : ℕ) (having putting row further reached all : Labels)
      → Holds having (λ b. MayHave test parent b)
      → IsIntersection having keeping putting → IsRow test parent Derive row → IsReached test row Derive further
      → IsReached test putting Control reached → IsUnion reached further all → Holds all (DerivesSharply test (Told (is_in keeping)) parent)
  derived_told parent having putting row further reached all in_having meets in_row in_further in_reached one child = told_as (is_in all child)
      (either (is_in all child) (is_in reached child) (is_in further child)
      (target_tells test Control (λ b. MayHave test parent b × (is_in keeping b ≡ true)) putting in_putting child (is_in reached child) (in_reached child))
      (target_tells test Derive (λ middle. test parent Derive middle ≡ true) row (row_tells test Derive parent row in_row) child (is_in further child) (in_further child))
      (one child)) to_derives from_derives where
        in_putting : (b : ℕ) → (is_in putting b ≡ true) ↔ (MayHave test parent b × (is_in keeping b ≡ true))
        in_putting b = both (is_in putting b) (is_in having b) (is_in keeping b) (in_having b) (itself_tells (is_in keeping b)) (meets b)

        to_derives : Derives test keeping parent child → DerivesSharply test (Told (is_in keeping)) parent child
        to_derives (inl (b, (inl h, keeps), controls)) = put b h (record { keeps = keeps; controls = controls })
        to_derives (inl (b, (inr h, keeps), controls)) = granted h.0 b h.2 h.1 (record { keeps = keeps; controls = controls })
        to_derives (inr h) = derived h.0 h.1 h.2

        from_derives : DerivesSharply test (Told (is_in keeping)) parent child → Derives test keeping parent child
        from_derives (put a from h) = inl (a, (inl from, h.keeps), h.controls)
        from_derives (granted a b h from into) = inl (b, (inr (a, from, h), into.keeps), into.controls)
        from_derives (derived middle first second) = inr (middle, first, second)

module _ (test : EdgeTest) where
  -- the labels that find a label's capabilities, or may be granted them
  pub holders_told : (label : ℕ) (finding endpoints takers all : Labels) → Holds finding (λ a. IsInDomain test a label)
      → IsReached test finding Grant endpoints → IsReaching test Receive endpoints takers → IsUnion finding takers all
      → Holds all (λ b. MayHave test label b)
  holders_told label finding endpoints takers all in_finding in_endpoints in_takers union b =
      either (is_in all b) (is_in finding b) (is_in takers b) (in_finding b) taker (union b) where
        grant : (endpoint : ℕ) → (is_in endpoints endpoint ≡ true) ↔ ((a : ℕ) × IsInDomain test a label × (test a Grant endpoint ≡ true))
        grant endpoint = target_tells test Grant (λ a. IsInDomain test a label) finding in_finding endpoint (is_in endpoints endpoint) (in_endpoints endpoint)

        taker : (is_in takers b ≡ true) ↔ ((a : ℕ) × IsInDomain test a label × MayBeGranted test a b)
        taker = told_as (is_in takers b)
            (source_tells test Receive (λ endpoint. (a : ℕ) × IsInDomain test a label × (test a Grant endpoint ≡ true)) endpoints grant b
            (is_in takers b) (in_takers b))
            (λ w. (w.1.0, w.1.1, record { endpoint = w.0; grants = w.1.2; receives = w.2 }))
            (λ h. (h.2.endpoint, (h.0, h.1, h.2.grants), h.2.receives))

  -- the contexts that a label may run on
  pub run_told : (label : ℕ) (one controlling contexts lends all : Labels) → IsOnly one label → IsReaching test Control one controlling
      → IsReached test controlling Context contexts → Holds lends (IsLentSharply test label) → IsUnion contexts lends all
      → Holds all (RunsSharply test label)
  run_told label one controlling contexts lends all only in_controlling in_contexts in_lends union context = told_as (is_in all context)
      (either (is_in all context) (is_in contexts context) (is_in lends context)
      (target_tells test Context (λ a. test a Control label ≡ true) controlling (sources_told test Control label one controlling only in_controlling)
      context (is_in contexts context) (in_contexts context)) (in_lends context) (union context)) to_runs from_runs where
        to_runs : MayRun test label context → RunsSharply test label context
        to_runs (inl h) = bound h.0 h.2 h.1
        to_runs (inr h) = lent h

        from_runs : RunsSharply test label context → MayRun test label context
        from_runs (bound a binds controls) = inl (a, controls, binds)
        from_runs (lent h) = inr h

  -- the contexts that may be lent to a label that has a reply and may be idle
  pub lent_told : (label reply : ℕ) (endpoints callers lends : Labels) → test label Reply reply ≡ true → MayIdle test label
      → IsRow test label Receive endpoints → IsReaching test Call endpoints callers → IsReached test callers Runs lends
      → Holds lends (IsLentSharply test label)
  lent_told label reply endpoints callers lends names may_idle in_endpoints in_callers in_lends context = told_as (is_in lends context)
      (target_tells test Runs (λ a. (endpoint : ℕ) × (test label Receive endpoint ≡ true) × (test a Call endpoint ≡ true)) callers calls
      context (is_in lends context) (in_lends context))
      (λ w. record {
        idles = may_idle;
        reply = reply;
        endpoint = w.1.0;
        serves = record { names = names; receives = w.1.1 };
        lender = w.0;
        calls = w.1.2;
        runs = w.2;
      })
      (λ h. (h.lender, (h.endpoint, h.serves.receives, h.calls), h.runs)) where
        calls : (a : ℕ) → (is_in callers a ≡ true) ↔ ((endpoint : ℕ) × (test label Receive endpoint ≡ true) × (test a Call endpoint ≡ true))
        calls a = source_tells test Call (λ endpoint. test label Receive endpoint ≡ true) endpoints (row_tells test Receive label endpoints in_endpoints) a
            (is_in callers a) (in_callers a)

  -- the labels that a reply may hold
  pub held_told : (reply : ℕ) (one naming endpoints receiving servers callers all : Labels) → IsOnly one reply → IsReaching test Reply one naming
      → IsReached test naming Receive endpoints → IsReaching test Receive endpoints receiving → IsIntersection receiving naming servers
      → IsReaching test Call endpoints callers → IsUnion servers callers all → Holds all (HoldsSharply test reply)
  held_told reply one naming endpoints receiving servers callers all only in_naming in_endpoints in_receiving meets in_callers union thread =
      told_as (is_in all thread)
      (either (is_in all thread) (is_in servers thread) (is_in callers thread)
      (both (is_in servers thread) (is_in receiving thread) (is_in naming thread) (received Receive receiving in_receiving) (names thread) (meets thread))
      (received Call callers in_callers) (union thread)) to_holds from_holds where
        names : (b : ℕ) → (is_in naming b ≡ true) ↔ (test b Reply reply ≡ true)
        names = sources_told test Reply reply one naming only in_naming

        served : (endpoint : ℕ) → (is_in endpoints endpoint ≡ true) ↔ IsServed test reply endpoint
        served endpoint = target_tells test Receive (λ b. test b Reply reply ≡ true) naming names endpoint (is_in endpoints endpoint) (in_endpoints endpoint)

        received : (kind : Kind) (labels : Labels) → IsReaching test kind endpoints labels
            → (is_in labels thread ≡ true) ↔ ((endpoint : ℕ) × IsServed test reply endpoint × (test thread kind endpoint ≡ true))
        received kind labels reaching = source_tells test kind (IsServed test reply) endpoints served thread (is_in labels thread) (reaching thread)

        to_holds : MayHold test reply thread → HoldsSharply test reply thread
        to_holds (inl h) = server h.0.0 (record { names = h.1; receives = h.0.2 })
        to_holds (inr h) = caller h.1.0 h.0 (record { names = h.1.1; receives = h.1.2 }) h.2

        from_holds : HoldsSharply test reply thread → MayHold test reply thread
        from_holds (server endpoint h) = inl ((endpoint, (thread, h.names, h.receives), h.receives), h.names)
        from_holds (caller b endpoint h calls) = inr (endpoint, (b, h.names, h.receives), calls)

module _ (test : EdgeTest) (Keeps : Keepers) (Shares : ℕ → Type 0) (from : ℕ) where
  -- the labels missing are those asked for that aren't in the row
  pub missing_told : (kind : Kind) (asked row lacks : Labels) → IsRow test from kind row → IsDifference asked row lacks
      → Holds asked (IsAskedAmong test Keeps Shares from kind) → Holds lacks (IsMissingAmong test Keeps Shares from kind)
  missing_told kind asked row lacks in_row differ in_asked =
      lacking_told test from kind (IsAskedAmong test Keeps Shares from kind) asked row lacks in_row differ in_asked

  -- for other kinds than derive, runs and holds, the edges that are given are those that are asked for
  pub given_asked : (kind : Kind) (asked : Labels) → (kind ≡ Derive → ⊥) → (kind ≡ Runs → ⊥) → (kind ≡ kinds.Holds → ⊥)
      → Holds asked (IsSharplyGiven test Keeps Shares from kind) → Holds asked (IsAskedAmong test Keeps Shares from kind)
  given_asked Derive asked no_derive no_runs no_holds in_asked = absurd (no_derive refl)
  given_asked Runs asked no_derive no_runs no_holds in_asked = absurd (no_runs refl)
  given_asked kinds.Holds asked no_derive no_runs no_holds in_asked = absurd (no_holds refl)
  given_asked kind asked no_derive no_runs no_holds in_asked = in_asked

  -- all that is asked for is there if nothing is missing
  pub settled_if_none : (kind : Kind) (lacks : Labels) → Holds lacks (IsMissingAmong test Keeps Shares from kind)
      → ((to : ℕ) → is_in lacks to ≡ false) → IsSettledAmong test Keeps Shares from kind
  settled_if_none kind lacks in_lacks none to asked = by (test from kind to) refl where
    by : (b : Bool) → test from kind to ≡ b → test from kind to ≡ true
    by true is = is
    by false missing = absurd (false≢true (sym (none to) ∙ (in_lacks to).1 (record { asked = asked; missing = missing })))
