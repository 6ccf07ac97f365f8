-- The systems that break one rule of closed policies: they aren't safe without the sharp rule of its number either, since each sharp rule
-- asks for no more.
use Rattle.std.proofs.{Common.{◌∙◌, ◌≢◌, inr, refl, sym}, lemmas.Bool.false≢true}
use Rattle.policy.specs.{Closed.ContextRuns, Needed.{Rule, context_runs, control_gives_all, derive_by_grant, derive_in_domain}}
use Rattle.policy.specs.{Needed.{grant_shares, lent_runs, reply_holds, subjects_agree}, Policy.allows, Sharp.{BoundRun, DerivesOn}}
use Rattle.{policy.{specs.Sharp.{GrantsDerive, UsesFall}, proofs.Sharpness.{agree_bound, obeys_sharply}}, integrity.specs.Keeping.MayKeep}
use Rattle.verdict.{specs.Counterexamples.{SharplyUnsafeWithout, UnsafeWithout}, proofs.ContextUnsafe.unsafe_without_running}
use Rattle.verdict.proofs.{ControlUnsafe.unsafe_without_control, GapUnsafe.unsafe_without_derivation}
use Rattle.verdict.proofs.GrantUnsafe.{unsafe_without_granted_derivation, unsafe_without_sharing}
use Rattle.verdict.proofs.{LendingUnsafe.unsafe_without_lending, ReplyUnsafe.unsafe_without_holding, Unsafe.unsafe_without_agreeing}

abbrev sharper :
    (rule : Rule) → (system : UnsafeWithout rule) → (ContextRuns (allows system.edges) → BoundRun (allows system.edges))
    → SharplyUnsafeWithout rule
sharper rule system bound = record {
  t = system.t;
  edges = system.edges;
  lawful = system.lawful;
  policy = system.policy;
  others = λ other differ.
      obeys_sharply (allows system.edges) (MayKeep system.t (allows system.edges)) bound other (system.others other differ);
  confined = system.confined;
  unsafe = system.unsafe;
}

-- the systems of the other rules obey the first one, on which it rests that who may be bound may run
abbrev agreeing : (rule : Rule) → subjects_agree ≢ rule → UnsafeWithout rule → SharplyUnsafeWithout rule
agreeing rule differ system = sharper rule system (agree_bound (allows system.edges) (system.others subjects_agree differ))

-- in the system without the first rule no label controls another, so that what a label has falls to none, and none is bound
abbrev unsafe_without_rising : SharplyUnsafeWithout subjects_agree
unsafe_without_rising =
    let none = unsafe_without_agreeing.1 in
    sharper subjects_agree unsafe_without_agreeing.0 (λ runs a b s uses controls. absurd (false≢true (sym (none a b) ∙ controls)))

pub unsafe_without_each : (rule : Rule) → rule ≢ derive_in_domain → SharplyUnsafeWithout rule
unsafe_without_each subjects_agree differ = unsafe_without_rising
unsafe_without_each control_gives_all differ = agreeing control_gives_all (λ e. cc) unsafe_without_control
unsafe_without_each grant_shares differ = agreeing grant_shares (λ e. cc) unsafe_without_sharing
unsafe_without_each derive_in_domain differ = absurd (differ refl)
unsafe_without_each derive_by_grant differ = agreeing derive_by_grant (λ e. cc) unsafe_without_granted_derivation.0
unsafe_without_each context_runs differ = agreeing context_runs (λ e. cc) unsafe_without_running
unsafe_without_each reply_holds differ = agreeing reply_holds (λ e. cc) unsafe_without_holding
unsafe_without_each lent_runs differ = agreeing lent_runs (λ e. cc) unsafe_without_lending

-- the one half of a rule is broken though the other is obeyed

pub unsafe_without_rise :
    (system : SharplyUnsafeWithout subjects_agree) × UsesFall (allows system.edges) (MayKeep system.t (allows system.edges))
unsafe_without_rise = (
  unsafe_without_rising,
  λ a b kind to put of_use has. absurd (false≢true (sym (unsafe_without_agreeing.1 a b) ∙ put.controls)),
)

pub unsafe_without_granted :
    (system : SharplyUnsafeWithout derive_by_grant) × DerivesOn (allows system.edges)
unsafe_without_granted = (
  agreeing derive_by_grant (λ e. cc) unsafe_without_granted_derivation.0,
  unsafe_without_granted_derivation.1,
)

pub unsafe_without_transitive :
    (system : SharplyUnsafeWithout derive_by_grant) × GrantsDerive (allows system.edges) (MayKeep system.t (allows system.edges))
unsafe_without_transitive = (
  agreeing derive_by_grant (λ e. cc) unsafe_without_derivation.0,
  λ a b x y may from put. unsafe_without_derivation.1 x y a b may from (inr put.controls),
)
