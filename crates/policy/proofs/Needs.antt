-- Policies that break one rule of closed policies each, and obey all others.
use Rattle.std.proofs.Common.{ℕ, ◌+◌, ◌==◌, ◌≡◌, ◌≢◌, false, inl, inr, refl, sym, true}
use Rattle.base.specs.declared.kind.Kind.{Kind, TheVariants.{Call, Context, Control, Derive, Grant, Receive, Reply, Reset, Runs, Space}}
use Rattle.policy.specs.Closed.{ContextRuns, ControlGivesAll, DeriveByGrant, DeriveInDomain, GrantShares, IsClosed, LentRuns, ReplyHolds}
use Rattle.policy.specs.{Closed.{caller, derived, granted, server}, Domain.{EdgeTest, IsInDomain, SubjectsAgree}, Needed.BreaksOnly}
use Rattle.policy.specs.Needed.{Obeys, Rule, context_runs, control_gives_all, derive_by_grant, derive_in_domain, grant_shares, lent_runs}
use Rattle.policy.{specs.Needed.{reply_holds, subjects_agree}, proofs.Cells.not_both}
use mathlib.Core.Bool.{false≢true}

-- whether all edges of a kind are there, or none
abbrev Lacks : EdgeTest → Kind → Type 0
Lacks test k = (a b : ℕ) → test a k b ≡ false

abbrev HasAll : EdgeTest → Kind → Type 0
HasAll test k = (a b : ℕ) → test a k b ≡ true

-- rules that a policy obeys because it lacks a kind, or has all of it

outside : (test : EdgeTest) → Lacks test Space → Lacks test Control → (a x : ℕ) → IsInDomain test a x → ⊥
outside test space control a x (inl e) = not_both e (space a x)
outside test space control a x (inr e) = not_both e (control a x)

no_domain_agrees : (test : EdgeTest) → Lacks test Space → Lacks test Control → SubjectsAgree test
no_domain_agrees test space control a b kind share to = absurd (outside test space control a b share.domain)

no_control : (test : EdgeTest) → Lacks test Control → ControlGivesAll test
no_control test lacks a kind b h = absurd (not_both h.controls (lacks a b))

no_grant : (test : EdgeTest) → Lacks test Grant → GrantShares test
no_grant test lacks a b kind to h = absurd (not_both h.granted.grants (lacks a h.granted.endpoint))

no_domain_derives : (test : EdgeTest) → Lacks test Space → Lacks test Control → DeriveInDomain test
no_domain_derives test space control x y h = absurd (outside test space control h.subject x h.of_parent)

all_derive : (test : EdgeTest) → HasAll test Derive → DeriveInDomain test
all_derive test all x y h = all x y

all_derive_by_grant : (test : EdgeTest) → HasAll test Derive → DeriveByGrant test
all_derive_by_grant test all x y comes = all x y

no_derive : (test : EdgeTest) → Lacks test Grant → Lacks test Derive → DeriveByGrant test
no_derive test grant derive x y (granted a b may one other) = absurd (not_both may.grants (grant a may.endpoint))
no_derive test grant derive x y (derived middle one other) = absurd (not_both one (derive x middle))

no_context : (test : EdgeTest) → Lacks test Context → ContextRuns test
no_context test lacks a s e = absurd (not_both e (lacks a s))

no_reply : (test : EdgeTest) → Lacks test Reply → ReplyHolds test
no_reply test lacks reply thread (server e) = absurd (not_both e (lacks thread reply))
no_reply test lacks reply thread (caller b endpoint e calls receives) = absurd (not_both e (lacks b reply))

no_call : (test : EdgeTest) → Lacks test Call → LentRuns test
no_call test lacks borrower context h = absurd (not_both h.calls (lacks h.lender h.endpoint))

ruleset by_lacking =
    (no_domain_agrees, no_control, no_grant, no_domain_derives, all_derive, all_derive_by_grant, no_derive, no_context, no_reply, no_call)

-- the policies

-- one label may do what another of its domain may not
abbrev apart : EdgeTest
apart a Reset to = a == 0
apart a Space to = true
apart a Derive to = true
apart a _ to = false

breaks_subjects : BreaksOnly subjects_agree
breaks_subjects =
    record { test = apart; others = others; broken = λ agree. false≢true (sym (agree 0 1 Reset (record { domain = inl refl; of_use = refl }) 0)) } where
      others : (other : Rule) → other ≢ subjects_agree → Obeys apart other
      others subjects_agree differ = absurd (differ refl)
      others _ differ = search by_lacking

-- control gives space and nothing else
abbrev weak_control : EdgeTest
weak_control a Control to = true
weak_control a Space to = true
weak_control a Derive to = true
weak_control a _ to = false

weak_agrees : SubjectsAgree weak_control
weak_agrees a b Control share to = refl
weak_agrees a b Space share to = refl
weak_agrees a b Derive share to = refl
weak_agrees a b _ share to = refl

breaks_control : BreaksOnly control_gives_all
breaks_control =
    record {
      test = weak_control;
      others = others;
      broken = λ gives. false≢true (gives 0 Reset 0 (record { controls = refl; given = inr (refl, λ e. cc) }));
    } where
      others : (other : Rule) → other ≢ control_gives_all → Obeys weak_control other
      others control_gives_all differ = absurd (differ refl)
      others subjects_agree differ = weak_agrees
      others _ differ = search by_lacking

-- all grant to all, and one may do what the others may not
abbrev unshared : EdgeTest
unshared a Grant to = true
unshared a Receive to = true
unshared a Reset to = a == 0
unshared a _ to = false

nothing_comes : DeriveByGrant unshared
nothing_comes x y (granted a b may one other) = absurd (outside unshared (λ c d. refl) (λ c d. refl) a x one)
nothing_comes x y (derived middle one other) = absurd (false≢true one)

breaks_grant : BreaksOnly grant_shares
breaks_grant =
    record {
      test = unshared;
      others = others;
      broken = λ shares.
          false≢true (shares 0 1 Reset 0 (record {
            granted = record { endpoint = 0; grants = refl; receives = refl };
            of_use = refl;
            has = refl;
          }));
    } where
      others : (other : Rule) → other ≢ grant_shares → Obeys unshared other
      others grant_shares differ = absurd (differ refl)
      others derive_by_grant differ = nothing_comes
      others _ differ = search by_lacking

-- all are in one domain, and nothing may be derived
abbrev underived : EdgeTest
underived a Space to = true
underived a _ to = false

underived_agrees : SubjectsAgree underived
underived_agrees a b Space share to = refl
underived_agrees a b _ share to = refl

breaks_derive : BreaksOnly derive_in_domain
breaks_derive =
    record { test = underived; others = others; broken = λ derives. false≢true (derives 0 0 (record { subject = 0; of_parent = inl refl; of_child = inl refl })) } where
      others : (other : Rule) → other ≢ derive_in_domain → Obeys underived other
      others derive_in_domain differ = absurd (differ refl)
      others subjects_agree differ = underived_agrees
      others _ differ = search by_lacking

-- two steps of derivation, and not both in one
abbrev no_chain : EdgeTest
no_chain a Derive to = to == a + 1
no_chain a _ to = false

breaks_derive_by_grant : BreaksOnly derive_by_grant
breaks_derive_by_grant =
    record { test = no_chain; others = others; broken = λ derives. false≢true (derives 0 2 (derived 1 refl refl)) } where
      others : (other : Rule) → other ≢ derive_by_grant → Obeys no_chain other
      others derive_by_grant differ = absurd (differ refl)
      others _ differ = search by_lacking

-- contexts that nobody may run on
abbrev unrunnable : EdgeTest
unrunnable a Context to = true
unrunnable a _ to = false

breaks_context : BreaksOnly context_runs
breaks_context = record { test = unrunnable; others = others; broken = λ runs. false≢true (runs 0 0 refl) } where
  others : (other : Rule) → other ≢ context_runs → Obeys unrunnable other
  others context_runs differ = absurd (differ refl)
  others _ differ = search by_lacking

-- replies that hold nobody
abbrev unheld : EdgeTest
unheld a Reply to = true
unheld a _ to = false

breaks_reply : BreaksOnly reply_holds
breaks_reply = record { test = unheld; others = others; broken = λ holds. false≢true (holds 0 0 (server refl)) } where
  others : (other : Rule) → other ≢ reply_holds → Obeys unheld other
  others reply_holds differ = absurd (differ refl)
  others _ differ = search by_lacking

-- all call and receive, and one runs on what the others may not
abbrev unlent : EdgeTest
unlent a Call to = true
unlent a Receive to = true
unlent a Runs to = a == 0
unlent a _ to = false

breaks_lending : BreaksOnly lent_runs
breaks_lending =
    record {
      test = unlent;
      others = others;
      broken = λ runs. false≢true (runs 1 0 (record { lender = 0; endpoint = 0; calls = refl; receives = refl; runs = refl }));
    } where
      others : (other : Rule) → other ≢ lent_runs → Obeys unlent other
      others lent_runs differ = absurd (differ refl)
      others _ differ = search by_lacking

pub needed : (rule : Rule) → BreaksOnly rule
needed subjects_agree = breaks_subjects
needed control_gives_all = breaks_control
needed grant_shares = breaks_grant
needed derive_in_domain = breaks_derive
needed derive_by_grant = breaks_derive_by_grant
needed context_runs = breaks_context
needed reply_holds = breaks_reply
needed lent_runs = breaks_lending

-- a closed policy obeys each rule, and one that obeys each is closed

pub obeys_each : (test : EdgeTest) → IsClosed test → (rule : Rule) → Obeys test rule
obeys_each test closed subjects_agree = closed.subjects_agree
obeys_each test closed control_gives_all = closed.control_gives_all
obeys_each test closed grant_shares = closed.grant_shares
obeys_each test closed derive_in_domain = closed.derive_in_domain
obeys_each test closed derive_by_grant = closed.derive_by_grant
obeys_each test closed context_runs = closed.context_runs
obeys_each test closed reply_holds = closed.reply_holds
obeys_each test closed lent_runs = closed.lent_runs

-- the policy with every edge
pub full_closed : IsClosed (λ from kind to. true)
full_closed =
    record {
      subjects_agree = λ a b kind share to. refl;
      control_gives_all = λ a kind b h. refl;
      grant_shares = λ a b kind to h. refl;
      derive_in_domain = λ x y h. refl;
      derive_by_grant = λ x y comes. refl;
      context_runs = λ a s e. refl;
      reply_holds = λ reply thread comes. refl;
      lent_runs = λ borrower context h. refl;
    }
