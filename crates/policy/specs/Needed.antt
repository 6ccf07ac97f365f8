-- The rules of closed policies one by one, and the sharp rules; and that no rule of closed policies follows from the others: some policy
-- breaks it alone (the rules are confine's own).
use Rattle.std.specs.Prelude.{◌≢◌}
use Rattle.policy.specs.Closed.{ContextRuns, ControlGivesAll, DeriveByGrant, DeriveInDomain, GrantShares, LentRuns, ReplyHolds}
use Rattle.policy.specs.{Domain.{EdgeTest, SubjectsAgree}, Sharp.{BoundRun, DerivesOn, GrantsDerive, HoldsCallers, HoldsServers, Keepers}}
use Rattle.policy.specs.Sharp.{KeepersAreGranted, KeepersDerive, KeepersHaveAll, LendsToServers, UsesFall, UsesRise}

pub data Rule : Type 0 where
  subjects_agree : Rule
  control_gives_all : Rule
  grant_shares : Rule
  derive_in_domain : Rule
  derive_by_grant : Rule
  context_runs : Rule
  reply_holds : Rule
  lent_runs : Rule

abbrev pub Obeys : EdgeTest → Rule → Type 0
Obeys test subjects_agree = SubjectsAgree test
Obeys test control_gives_all = ControlGivesAll test
Obeys test grant_shares = GrantShares test
Obeys test derive_in_domain = DeriveInDomain test
Obeys test derive_by_grant = DeriveByGrant test
Obeys test context_runs = ContextRuns test
Obeys test reply_holds = ReplyHolds test
Obeys test lent_runs = LentRuns test

-- the sharp rules, each by the name of the rule of closed policies with its number, for these keepers
abbrev pub ObeysSharply : EdgeTest → Keepers → Rule → Type 0
ObeysSharply test Keeps subjects_agree = UsesRise test × UsesFall test Keeps
ObeysSharply test Keeps control_gives_all = KeepersHaveAll test Keeps
ObeysSharply test Keeps grant_shares = KeepersAreGranted test Keeps
ObeysSharply test Keeps derive_in_domain = KeepersDerive test Keeps
ObeysSharply test Keeps derive_by_grant = GrantsDerive test Keeps × DerivesOn test
ObeysSharply test Keeps context_runs = BoundRun test
ObeysSharply test Keeps reply_holds = HoldsServers test × HoldsCallers test
ObeysSharply test Keeps lent_runs = LendsToServers test

-- a policy that breaks the rule and no other
pub record BreaksOnly (rule : Rule) : Type 0 where
  pub test : EdgeTest
  pub others : (other : Rule) → other ≢ rule → Obeys test other
  pub broken : Obeys test rule → ⊥
