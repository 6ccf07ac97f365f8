-- Sets of rules: each rule of a set is one of the policy's own or one of authority, and the policy's own come first.
use Rattle.std.proofs.Common.{◌<◌, ◌≤◌, ◌⊎◌, arith, get_or, inl, inr}
use Rattle.machine.specs.Layout.{Layout}
use Rattle.policy.{specs.{Closed.IsClosed, Domain.EdgeTest, Places.{ComesBefore, IsNone}}, proofs.{Sharpness.closed_sharply, Unbroken.closed_if}}
use Rattle.integrity.specs.Keeping.{IsSharp, MayKeep}
use Rattle.sharp.proofs.Unbroken.{sharply_closed_if, unbroken}
use Rattle.verdict.specs.{ByRules.{BreaksBy, BreaksOwn, IsAcceptedBy}, declared.{denial.Denial.Denial, rules.Rules.{Rules, Rules as rules}}}
use Rattle.verdict.specs.declared.denial.Denial.TheVariants as denial
use Rattle.verdict.specs.{Rules.a1, Sources.{Sources, of_table}, Verdict.{IsExceeded, place_of}}
use Rattle.verdict.proofs.{DenialPlaces.{exceeded_at, numbered}, RuleOrder.{before_by_rule, first_rules, first_sharp_rules, last_rules}}

pub broken_either :
    (set : Rules) (t : Layout) (allowed : EdgeTest) (d : Denial) → BreaksBy set t allowed d
    → BreaksOwn set t allowed d ⊎ IsExceeded (of_table t) allowed d
broken_either rules.Closed t allowed (denial.Policy b) broken = inl broken
broken_either rules.Closed t allowed d broken = inr broken
broken_either rules.Sharp t allowed (denial.Sharp b) broken = inl broken
broken_either rules.Sharp t allowed d broken = inr broken

pub own_breaks : (set : Rules) (t : Layout) (allowed : EdgeTest) (d : Denial) → BreaksOwn set t allowed d → BreaksBy set t allowed d
own_breaks rules.Closed t allowed (denial.Policy b) broken = broken
own_breaks rules.Closed t allowed d broken = absurd broken
own_breaks rules.Sharp t allowed (denial.Sharp b) broken = broken
own_breaks rules.Sharp t allowed d broken = absurd broken

pub excess_breaks :
    (set : Rules) (t : Layout) (allowed : EdgeTest) (d : Denial) → IsExceeded (of_table t) allowed d → BreaksBy set t allowed d
excess_breaks rules.Closed t allowed (denial.Policy b) exceeded = absurd exceeded
excess_breaks rules.Closed t allowed d exceeded = exceeded
excess_breaks rules.Sharp t allowed (denial.Sharp b) exceeded = absurd exceeded
excess_breaks rules.Sharp t allowed d exceeded = exceeded

own_rule : (set : Rules) (t : Layout) (allowed : EdgeTest) (d : Denial) → BreaksOwn set t allowed d → get_or (place_of d) 0 0 < a1
own_rule rules.Closed t allowed (denial.Policy b) broken = first_rules b
own_rule rules.Closed t allowed d broken = absurd broken
own_rule rules.Sharp t allowed (denial.Sharp b) broken = first_sharp_rules b
own_rule rules.Sharp t allowed d broken = absurd broken

excess_rule : (s : Sources) (allowed : EdgeTest) (d : Denial) → IsExceeded s allowed d → a1 ≤ get_or (place_of d) 0 0
excess_rule s allowed d exceeded = let at = exceeded_at s allowed d exceeded in rw (numbered d at.0 at.1) (last_rules at.0)

pub own_below :
    (set : Rules) (t : Layout) (allowed : EdgeTest) (d e : Denial) → BreaksOwn set t allowed d → IsExceeded (of_table t) allowed e
    → get_or (place_of d) 0 0 < get_or (place_of e) 0 0
own_below set t allowed d e own exceeded =
    let one = own_rule set t allowed d own in let other = excess_rule (of_table t) allowed e exceeded in omega (arith, one, other)

pub own_first :
    (set : Rules) (t : Layout) (allowed : EdgeTest) (d e : Denial) → BreaksOwn set t allowed d → IsExceeded (of_table t) allowed e
    → ComesBefore (place_of d) (place_of e)
own_first set t allowed d e own exceeded = before_by_rule (place_of d) (place_of e) (own_below set t allowed d e own exceeded)

-- a policy accepted by a set of rules is exceeded nowhere
pub none_exceeded :
    (set : Rules) (t : Layout) (allowed : EdgeTest) → IsAcceptedBy set t allowed → IsNone (IsExceeded (of_table t) allowed)
none_exceeded set t allowed accepted d exceeded = accepted d (excess_breaks set t allowed d exceeded)

pub accepted_closed : (t : Layout) (allowed : EdgeTest) → IsAcceptedBy rules.Closed t allowed → IsClosed allowed
accepted_closed t allowed accepted = closed_if allowed (λ b broken. accepted (denial.Policy b) broken)

pub accepted_sharp : (t : Layout) (allowed : EdgeTest) → IsAcceptedBy rules.Sharp t allowed → IsSharp t allowed
accepted_sharp t allowed accepted = sharply_closed_if allowed (MayKeep t allowed) (λ b broken. accepted (denial.Sharp b) broken)

-- a policy exceeded nowhere is accepted by the sharp rules if it is sharply closed
pub sharply_accepted :
    (t : Layout) (allowed : EdgeTest) → IsSharp t allowed → IsNone (IsExceeded (of_table t) allowed) → IsAcceptedBy rules.Sharp t allowed
sharply_accepted t allowed sharp none (denial.Sharp b) broken = unbroken allowed (MayKeep t allowed) sharp b broken
sharply_accepted t allowed sharp none d broken = none d broken

pub closed_sharply_accepted :
    (t : Layout) (allowed : EdgeTest) → IsAcceptedBy rules.Closed t allowed → IsAcceptedBy rules.Sharp t allowed
closed_sharply_accepted t allowed accepted =
    sharply_accepted t allowed (closed_sharply allowed (MayKeep t allowed) (accepted_closed t allowed accepted))
    (none_exceeded rules.Closed t allowed accepted)

pub accepted_by : (set : Rules) (t : Layout) (allowed : EdgeTest) → IsAcceptedBy set t allowed → IsAcceptedBy rules.Sharp t allowed
accepted_by rules.Closed t allowed accepted = closed_sharply_accepted t allowed accepted
accepted_by rules.Sharp t allowed accepted = accepted
