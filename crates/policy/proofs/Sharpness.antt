-- Closed policies are sharply closed, whichever labels keep, rule by rule; and fewer keepers ask for less.
use Rattle.std.proofs.Common.{ℕ, ◌∙◌, inr, refl, sym}
use Rattle.base.specs.declared.kind.Kind.TheVariants.{Context}
use Rattle.policy.specs.{Closed.{ContextRuns, IsClosed, caller, derived, granted, server}, Domain.{EdgeTest, SubjectsAgree}}
use Rattle.policy.specs.Needed.{Obeys, ObeysSharply, Rule, context_runs, control_gives_all, derive_by_grant, derive_in_domain, grant_shares}
use Rattle.policy.{specs.{Needed.{lent_runs, reply_holds, subjects_agree}, Sharp.{BoundRun, IsSharplyClosed, Keepers, MayPut, UsesRise}}}
use Rattle.policy.proofs.Needs.{obeys_each}

agree_rise : (test : EdgeTest) → SubjectsAgree test → UsesRise test
agree_rise test agree a b kind share to has = agree a b kind share to ∙ has

pub closed_rises : (test : EdgeTest) → IsClosed test → UsesRise test
closed_rises test closed = agree_rise test closed.subjects_agree

-- a label that another controls may bind the contexts that the other may, and so may run on them
pub agree_bound : (test : EdgeTest) → SubjectsAgree test → ContextRuns test → BoundRun test
agree_bound test agree runs a b s uses controls =
    runs b s (sym (agree a b Context (record { domain = inr controls; of_use = refl }) s) ∙ uses)

-- each sharp rule asks for no more than the rule of closed policies with its number, except that `BoundRun` rests on two
pub obeys_sharply :
    (test : EdgeTest) (Keeps : Keepers) → (ContextRuns test → BoundRun test) → (rule : Rule) → Obeys test rule
    → ObeysSharply test Keeps rule
obeys_sharply test Keeps bound subjects_agree agree = (
  agree_rise test agree,
  λ a b kind to put of_use has. sym (agree a b kind (record { domain = inr put.controls; of_use = of_use }) to) ∙ has,
)
obeys_sharply test Keeps bound control_gives_all gives = λ a kind b keeps. gives a kind b
obeys_sharply test Keeps bound grant_shares shares = λ a b kind to keeps. shares a b kind to
obeys_sharply test Keeps bound derive_in_domain derives = λ a x y from put.
    derives x y (record { subject = a; of_parent = from; of_child = inr put.controls })
obeys_sharply test Keeps bound derive_by_grant derives = (
  λ a b x y may from put. derives x y (granted a b may from (inr put.controls)),
  λ x y z one two. derives x z (derived y one two),
)
obeys_sharply test Keeps bound context_runs runs = bound runs
obeys_sharply test Keeps bound reply_holds holds = (
  λ b reply endpoint serves. holds reply b (server serves.names),
  λ b reply endpoint calls serves may_call. holds reply calls (caller b endpoint serves.names may_call serves.receives),
)
obeys_sharply test Keeps bound lent_runs runs = λ b reply endpoint calls context serves idles may_call ran.
    runs b context (record { lender = calls; endpoint = endpoint; calls = may_call; receives = serves.receives; runs = ran })

sharp_by_rules :
    (test : EdgeTest) (Keeps : Keepers) → ((rule : Rule) → ObeysSharply test Keeps rule) → IsSharplyClosed test Keeps
sharp_by_rules test Keeps obeys = record {
  uses_rise = (obeys subjects_agree).0;
  uses_fall = (obeys subjects_agree).1;
  keepers_have_all = obeys control_gives_all;
  keepers_are_granted = obeys grant_shares;
  keepers_derive = obeys derive_in_domain;
  grants_derive = (obeys derive_by_grant).0;
  derives_on = (obeys derive_by_grant).1;
  bound_run = obeys context_runs;
  holds_servers = (obeys reply_holds).0;
  holds_callers = (obeys reply_holds).1;
  lends_to_servers = obeys lent_runs;
}

pub closed_sharply : (test : EdgeTest) (Keeps : Keepers) → IsClosed test → IsSharplyClosed test Keeps
closed_sharply test Keeps closed =
    sharp_by_rules test Keeps
    (λ rule. obeys_sharply test Keeps (agree_bound test closed.subjects_agree) rule (obeys_each test closed rule))

pub fewer_keepers :
    (test : EdgeTest) (Keeps Fewer : Keepers) → ((a : ℕ) → Fewer a → Keeps a) → IsSharplyClosed test Keeps
    → IsSharplyClosed test Fewer
fewer_keepers test Keeps Fewer fewer sharp = record {
  uses_rise = sharp.uses_rise;
  uses_fall = λ a b kind to put. sharp.uses_fall a b kind to (also a b put);
  keepers_have_all = λ a kind b keeps. sharp.keepers_have_all a kind b (fewer a keeps);
  keepers_are_granted = λ a b kind to keeps. sharp.keepers_are_granted a b kind to (fewer b keeps);
  keepers_derive = λ a x y from put. sharp.keepers_derive a x y from (also a y put);
  grants_derive = λ a b x y may from put. sharp.grants_derive a b x y may from (also b y put);
  derives_on = sharp.derives_on;
  bound_run = sharp.bound_run;
  holds_servers = sharp.holds_servers;
  holds_callers = sharp.holds_callers;
  lends_to_servers = sharp.lends_to_servers;
} where
  also : (a b : ℕ) → MayPut test Fewer a b → MayPut test Keeps a b
  also a b put = record { keeps = fewer a put.keeps; controls = put.controls }
