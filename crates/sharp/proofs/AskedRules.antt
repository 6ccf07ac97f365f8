-- The edges that the sharp rules ask for: every sharply closed policy has them, and a policy that has all of them is sharply closed.
use mathlib.Core.Bool.{false≢true}
use Rattle.std.proofs.Common.{ℕ, ◌<◌, ◌∙◌, ◌≡◌, false, inl, inr, refl, sym, true}
use Rattle.base.specs.declared.kind.Kind.{Kind, Kind as kinds, TheVariants.{Call, Context, Control, Derive}}
use Rattle.base.specs.{declared.kind.Kind.TheVariants.{Grant, Receive, Reply, Runs, Space}, Kinds.is_structural}
use Rattle.policy.specs.{Closed.MayBeGranted, Closing.IsWithin, Domain.{EdgeTest, IsInDomain}}
use Rattle.policy.specs.Sharp.{IsSharplyClosed, Keepers, MayIdle, MayPut, MayServe}
use Rattle.sharp.specs.Asked.{DerivesSharply, HoldsSharply, IsAskedAmong, IsSharplyAsked, IsSharplyGiven, IsSharplySettled, RunsSharply}
use Rattle.sharp.specs.Asked.{SharesSharply, bound, caller, controlled, derived, finds, granted, grants, lent, put, puts, server, shared}

-- what a policy asks for, every greater policy asks for
module _ (one other : EdgeTest) (Keeps : Keepers) (within : IsWithin one other) where
  in_domain : (a x : ℕ) → IsInDomain one a x → IsInDomain other a x
  in_domain a x (inl space) = inl (within a Space x space)
  in_domain a x (inr control) = inr (within a Control x control)

  may : (a b : ℕ) → MayBeGranted one a b → MayBeGranted other a b
  may a b h = record {
    endpoint = h.endpoint;
    grants = within a Grant h.endpoint h.grants;
    receives = within b Receive h.endpoint h.receives;
  }

  may_put : (a b : ℕ) → MayPut one Keeps a b → MayPut other Keeps a b
  may_put a b h = record { keeps = h.keeps; controls = within a Control b h.controls }

  pub shares_grow : (giver taker : ℕ) → SharesSharply one Keeps giver taker → SharesSharply other Keeps giver taker
  shares_grow giver taker (finds domain) = finds (in_domain taker giver domain)
  shares_grow giver taker (puts h) = puts (may_put giver taker h)
  shares_grow giver taker (grants keeps h) = grants keeps (may giver taker h)

  serves : (b reply endpoint : ℕ) → MayServe one b reply endpoint → MayServe other b reply endpoint
  serves b reply endpoint h = record { names = within b Reply reply h.names; receives = within b Receive endpoint h.receives }

  idles : (b : ℕ) → MayIdle one b → MayIdle other b
  idles b h = record {
    context = h.context;
    runs = within b Runs h.context h.runs;
    owner = h.owner;
    owns = within h.owner Context h.context h.owns;
  }

-- a sharply closed policy has all that the edges of a smaller policy ask for
module _ (one other : EdgeTest) (Keeps : Keepers) (within : IsWithin one other) (closed : IsSharplyClosed other Keeps) where
  has_shared : (giver from : ℕ) (kind : Kind) (to : ℕ) → SharesSharply other Keeps giver from → is_structural kind ≡ false
      → other giver kind to ≡ true → other from kind to ≡ true
  has_shared giver from kind to (finds domain) of_use is =
      closed.uses_rise from giver kind (record { domain = domain; of_use = of_use }) to is
  has_shared giver from kind to (puts h) of_use is = closed.uses_fall giver from kind to h of_use is
  has_shared giver from kind to (grants keeps h) of_use is =
      closed.keepers_are_granted giver from kind to keeps (record { granted = h; of_use = of_use; has = is })

  has_given : (from : ℕ) (kind : Kind) (to : ℕ) → IsSharplyGiven one Keeps (λ giver. SharesSharply one Keeps giver from) from kind to
      → other from kind to ≡ true
  has_given from kind to (shared giver h of_use is) =
      has_shared giver from kind to (shares_grow one other Keeps within giver from h) of_use (within giver kind to is)
  has_given from kind to (controlled keeps h) =
      closed.keepers_have_all from kind to keeps (record { controls = within from Control to h.controls; given = h.given })

  has_derived : (x y : ℕ) → DerivesSharply one Keeps x y → other x Derive y ≡ true
  has_derived x y (put a from h) = closed.keepers_derive a x y (in_domain one other Keeps within a x from) (may_put one other Keeps within a y h)
  has_derived x y (granted a b h from into) = closed.grants_derive a b x y (may one other Keeps within a b h) (in_domain one other Keeps within a x from) (may_put one other Keeps within b y into)
  has_derived x y (derived middle first second) =
      closed.derives_on x middle y (within x Derive middle first) (within middle Derive y second)

  has_run : (b s : ℕ) → RunsSharply one b s → other b Runs s ≡ true
  has_run b s (bound a binds controls) = closed.bound_run a b s (within a Context s binds) (within a Control b controls)
  has_run b s (lent h) =
      closed.lends_to_servers b h.reply h.endpoint h.lender s (serves one other Keeps within b h.reply h.endpoint h.serves) (idles one other Keeps within b h.idles)
      (within h.lender Call h.endpoint h.calls) (within h.lender Runs s h.runs)

  has_held : (reply thread : ℕ) → HoldsSharply one reply thread → other reply kinds.Holds thread ≡ true
  has_held reply thread (server endpoint h) = closed.holds_servers thread reply endpoint (serves one other Keeps within thread reply endpoint h)
  has_held reply thread (caller b endpoint h calls) =
      closed.holds_callers b reply endpoint thread (serves one other Keeps within b reply endpoint h) (within thread Call endpoint calls)

  pub has_sharply_asked : (from : ℕ) (kind : Kind) (to : ℕ) → IsSharplyAsked one Keeps from kind to → other from kind to ≡ true
  has_sharply_asked from Derive to h = has_derived from to h
  has_sharply_asked from Runs to h = has_run from to h
  has_sharply_asked from kinds.Holds to h = has_held from to h
  has_sharply_asked from kind to h = has_given from kind to h

-- control and sharing give no derive, runs or holds edges
not_given : (test : EdgeTest) (Keeps : Keepers) (Shares : ℕ → Type 0) (from : ℕ) (kind : Kind) (to : ℕ) → is_structural kind ≡ true
    → (kind ≡ Space → ⊥) → IsSharplyGiven test Keeps Shares from kind to → ⊥
not_given test Keeps Shares from kind to structural other (shared giver h is_use has) = false≢true (sym is_use ∙ structural)
not_given test Keeps Shares from kind to structural other (controlled keeps h) = elim h.given [
  | inl space ↦ other space
  | inr of_use ↦ false≢true (sym of_use.0 ∙ structural)
]

asked_if_given : (test : EdgeTest) (Keeps : Keepers) (Shares : ℕ → Type 0) (from : ℕ) (kind : Kind) (to : ℕ)
    → IsSharplyGiven test Keeps Shares from kind to → IsAskedAmong test Keeps Shares from kind to
asked_if_given test Keeps Shares from Derive to h = absurd (not_given test Keeps Shares from Derive to refl (λ e. cc) h)
asked_if_given test Keeps Shares from Runs to h = absurd (not_given test Keeps Shares from Runs to refl (λ e. cc) h)
asked_if_given test Keeps Shares from kinds.Holds to h = absurd (not_given test Keeps Shares from kinds.Holds to refl (λ e. cc) h)
asked_if_given test Keeps Shares from kind to h = h

-- an edge that is asked for stays so if more labels share with its label
module _ (test : EdgeTest) (Keeps : Keepers) (Shares More : ℕ → Type 0) (more : (giver : ℕ) → Shares giver → More giver) where
  given_among : (from : ℕ) (kind : Kind) (to : ℕ) → IsSharplyGiven test Keeps Shares from kind to → IsSharplyGiven test Keeps More from kind to
  given_among from kind to (shared giver h of_use has) = shared giver (more giver h) of_use has
  given_among from kind to (controlled keeps h) = controlled keeps h

  pub asked_among : (from : ℕ) (kind : Kind) (to : ℕ) → IsAskedAmong test Keeps Shares from kind to → IsAskedAmong test Keeps More from kind to
  asked_among from Derive to h = h
  asked_among from Runs to h = h
  asked_among from kinds.Holds to h = h
  asked_among from kind to h = given_among from kind to h

-- a policy that has all that it asks for is sharply closed
pub closed_if_sharply_settled :
    (test : EdgeTest) (Keeps : Keepers) → ((from : ℕ) (kind : Kind) → IsSharplySettled test Keeps from kind)
    → IsSharplyClosed test Keeps
closed_if_sharply_settled test Keeps settled = record {
  uses_rise = λ a b kind share to has. given a kind to (shared b (finds share.domain) share.of_use has);
  uses_fall = λ a b kind to h of_use has. given b kind to (shared a (puts h) of_use has);
  keepers_have_all = λ a kind b keeps h. given a kind b (controlled keeps h);
  keepers_are_granted = λ a b kind to keeps h. given b kind to (shared a (grants keeps h.granted) h.of_use h.has);
  keepers_derive = λ a x y from h. settled x Derive y (put a from h);
  grants_derive = λ a b x y h from into. settled x Derive y (granted a b h from into);
  derives_on = λ x y z one two. settled x Derive z (derived y one two);
  bound_run = λ a b s binds controls. settled b Runs s (bound a binds controls);
  holds_servers = λ b reply endpoint h. settled reply kinds.Holds b (server endpoint h);
  holds_callers = λ b reply endpoint thread h calls. settled reply kinds.Holds thread (caller b endpoint h calls);
  lends_to_servers = λ b reply endpoint lender s h may_idle calls runs. settled b Runs s (lent (record {
    idles = may_idle;
    reply = reply;
    endpoint = endpoint;
    serves = h;
    lender = lender;
    calls = calls;
    runs = runs;
  }));
} where
  given : (from : ℕ) (kind : Kind) (to : ℕ) → IsSharplyGiven test Keeps (λ giver. SharesSharply test Keeps giver from) from kind to
      → test from kind to ≡ true
  given from kind to h = settled from kind to (asked_if_given test Keeps (λ giver. SharesSharply test Keeps giver from) from kind to h)

-- edges that are asked for begin at a label of an edge
module _ (test : EdgeTest) (Keeps : Keepers) (n : ℕ) (joins : (from : ℕ) (kind : Kind) (to : ℕ) → test from kind to ≡ true → (from < n) × (to < n)) where
  domain_joins : (a x : ℕ) → IsInDomain test a x → (a < n) × (x < n)
  domain_joins a x (inl e) = joins a Space x e
  domain_joins a x (inr e) = joins a Control x e

  given_starts : (from : ℕ) (kind : Kind) (to : ℕ) → IsSharplyGiven test Keeps (λ giver. SharesSharply test Keeps giver from) from kind to
      → from < n
  given_starts from kind to (shared giver (finds domain) of_use has) = (domain_joins from giver domain).0
  given_starts from kind to (shared giver (puts h) of_use has) = (joins giver Control from h.controls).1
  given_starts from kind to (shared giver (grants keeps h) of_use has) = (joins from Receive h.endpoint h.receives).0
  given_starts from kind to (controlled keeps h) = (joins from Control to h.controls).0

  derived_starts : (x y : ℕ) → DerivesSharply test Keeps x y → x < n
  derived_starts x y (put a from h) = (domain_joins a x from).1
  derived_starts x y (granted a b h from into) = (domain_joins a x from).1
  derived_starts x y (derived middle first second) = (joins x Derive middle first).0

  run_starts : (b s : ℕ) → RunsSharply test b s → b < n
  run_starts b s (bound a binds controls) = (joins a Control b controls).1
  run_starts b s (lent h) = (joins b Receive h.endpoint h.serves.receives).0

  held_starts : (reply thread : ℕ) → HoldsSharply test reply thread → reply < n
  held_starts reply thread (server endpoint h) = (joins thread Reply reply h.names).1
  held_starts reply thread (caller b endpoint h calls) = (joins b Reply reply h.names).1

  pub sharply_asked_starts : (from : ℕ) (kind : Kind) (to : ℕ) → IsSharplyAsked test Keeps from kind to → from < n
  sharply_asked_starts from Derive to h = derived_starts from to h
  sharply_asked_starts from Runs to h = run_starts from to h
  sharply_asked_starts from kinds.Holds to h = held_starts from to h
  sharply_asked_starts from kind to h = given_starts from kind to h
