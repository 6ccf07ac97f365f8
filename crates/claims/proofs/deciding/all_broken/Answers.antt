-- Claims that hold of a table are kept, in a fixed system also by what calls return.
use Rattle.{std.proofs.Common.{[], refl, subst}, reach.specs.Extents.limits_of}
use Rattle.claims.{specs.{Claims.is_one_of, Holding.AreBroken}, proofs.{Gathered.all_hold, Learnt.claim_learnt, Promised.claim_kept}}
use Rattle.claims.proofs.deciding.all_broken.Goals as goal
use Rattle.claims.specs.declared.lines.TheConstants.ClaimLines as ClaimLines

pub returns-clause-broken : goal.returns-clause-broken
returns-clause-broken c =
    subst (λ entries. AreBroken c.args.reach.now.table (limits_of c.args.reach.now) ClaimLines.FIRST entries c.in_ok-broken.broken.items)
    c.as_slice.ensures c.in_ok-broken.ensures

pub returns-clause-kept : goal.returns-clause-kept
returns-clause-kept c = claim_kept c.args.reach.now c.bounds_runs.ensures.reach c.bounds_runs.ensures.safe

pub returns-clause-all_kept : goal.returns-clause-all_kept
returns-clause-all_kept c = λ none claim has.
    let reach = c.args.reach.now in
    claim_kept reach c.bounds_runs.ensures.reach c.bounds_runs.ensures.safe claim
    (all_hold reach.table (limits_of reach) (returns-clause-broken c) none claim has)

pub returns-in_err-broken-clause-kept : goal.returns-in_err-broken-clause-kept
returns-in_err-broken-clause-kept c = claim_kept c.args.reach.now c.bounds_runs.ensures.reach c.bounds_runs.ensures.safe

pub returns-clause-calls : goal.returns-clause-calls
returns-clause-calls c = λ fixed.
    let reach = c.args.reach.now in
    let is = c.bounds_runs.ensures.reach in
    claim_learnt reach.table (limits_of reach)
    (λ from to off boot m n events others outcomes ends booted beside one other.
    c.others_make_no_difference.ensures.reach reach (is_one_of []) from to off boot m n events others outcomes ends is fixed (λ label. refl)
    booted beside one other)
    (λ filters from to off boot m n events others outcomes ends booted runs.
    c.others_act_through_filters.ensures.reach reach filters from to off boot m n events others outcomes ends is fixed booted runs)

pub returns-clause-all_calls : goal.returns-clause-all_calls
returns-clause-all_calls c = λ fixed none claim has.
    let reach = c.args.reach.now in
    returns-clause-calls c fixed claim (all_hold reach.table (limits_of reach) (returns-clause-broken c) none claim has)

pub returns-in_err-broken-clause-calls : goal.returns-in_err-broken-clause-calls
returns-in_err-broken-clause-calls c = λ fixed.
    let reach = c.args.reach.now in
    let is = c.bounds_runs.ensures.reach in
    claim_learnt reach.table (limits_of reach)
    (λ from to off boot m n events others outcomes ends booted beside one other.
    c.others_make_no_difference.ensures.reach reach (is_one_of []) from to off boot m n events others outcomes ends is fixed (λ label. refl)
    booted beside one other)
    (λ filters from to off boot m n events others outcomes ends booted runs.
    c.others_act_through_filters.ensures.reach reach filters from to off boot m n events others outcomes ends is fixed booted runs)
