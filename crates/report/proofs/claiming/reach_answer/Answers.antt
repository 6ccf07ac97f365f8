-- That the answer to claims is by the reach of the table.
use Rattle.std.{specs.{declared.alloc.Global.Global, Prelude.Vec}, proofs.Common.{[], ℕ, ◌==◌, ◌∙◌, ◌∷◌, ◌≡◌, List}}
use Rattle.std.proofs.{Common.{Option, ap, arith, false, length, refl, subst, suc, true}, lemmas.Bool.Decides.nat_tests}
use Rattle.{machine.specs.Layout.Layout, reach.specs.{Extents.limits_of, Reach.{IsReachOf, IsTableReach, TableReach}}}
use Rattle.claims.specs.{declared.{claim.Claim.Claim, deciding.Broken.Broken, keeping.Kept.Kept}, Holding.{AreBroken, Holds}}
use Rattle.{claims.specs.Learning.IsKeptSo, reptext.specs.{Breaches.breaches_data, Reports.{hold_data, line_of}}}
use Rattle.commands.specs.{declared.{answer.Answer.Answer, listener.Finding.Finding as finding}, Commands.TellsFinding}
use Rattle.report.proofs.Retold.{finding_retold, plain_retold}
use Rattle.claims.specs.declared.lines.TheConstants.ClaimLines as ClaimLines
use Rattle.report.proofs.claiming.reach_answer.Goals as goal
use Rattle.report.specs.Claimed as claimed

some : (t : Layout) (lines : List (Option Claim)) (reach : TableReach) → IsReachOf t reach → (v : Vec Broken Global) → (all : List Broken)
    → v.items ≡ all → AreBroken t (limits_of reach) ClaimLines.FIRST lines all → (all ≡ [] → ⊥)
    → (kept : Kept) → claimed.ClaimsAreKept t (limits_of reach) (Holds t (limits_of reach)) kept
    → (answer : Answer) → TellsFinding (line_of (breaches_data t lines all kept)) (λ told. told ≡ finding.Broken v) answer
    → claimed.Judges t lines answer
some t lines reach is_reach v [] same are has kept keeps answer finds = absurd (has refl)
some t lines reach is_reach v (first ∷ more) same are has kept keeps answer finds =
    claimed.some_broken reach is_reach first more are kept keeps
    (record { text = finds.text; status = finds.status; finding = finds.finding; found = finds.found; is_so = (v, finds.is_so, same); made = finds.made; script = finds.script })

not_zero : (n : ℕ) → (suc n == 0) ≡ true → ⊥
not_zero n is = grind (arith, nat_tests)

none_of : {X : Type 0} (xs : List X) → (length xs == 0) ≡ true → xs ≡ []
none_of [] is = refl
none_of (x ∷ xs) is = absurd (not_zero (length xs) is)

some_of : {X : Type 0} (xs : List X) → (length xs == 0) ≡ false → xs ≡ [] → ⊥
some_of [] is none = absurd (cc)
some_of (x ∷ xs) is none = absurd (cc)

own : (reach : TableReach) → IsTableReach reach → IsReachOf reach.table reach
own reach is = record { of_table = refl; is = is }

pub returns-then-is_empty-clause-right : goal.returns-then-is_empty-clause-right
returns-then-is_empty-clause-right c =
    let reach = c.args.reach.now in
    let count = c.in_ok-broken.broken.ok in
    let answer = c.is_empty.ensures in
    let test = c.if-is_empty.true in
    let empty : (length c.in_ok-broken.broken.items == 0) ≡ true = cc in
    let none = none_of c.in_ok-broken.broken.items empty in
    let kept = c.kept_of-kept.result in
    let told = c.in_ok-hold_report.ensures ∙ ap (λ n. line_of (hold_data n kept)) c.claim_count.ensures in
    claimed.all_hold reach (own reach c.bounds_runs.ensures.reach)
    (subst (AreBroken reach.table (limits_of reach) ClaimLines.FIRST c.args.lines.now) none c.in_ok-broken.ensures.broken)
    kept
    (record {
      every = c.in_ok-broken.ensures.all_kept none;
      calls = λ fixed. c.in_ok-broken.ensures.all_calls fixed none;
      told = subst (λ (t : Layout). IsKeptSo t kept) c.table-table.ensures c.kept_of-kept.ensures;
    })
    (plain_retold told c.plain.ensures.plain)

pub returns-clause-right : goal.returns-clause-right
returns-clause-right c =
    let reach = c.args.reach.now in
    let lines = c.args.lines.now in
    let count = c.in_ok-broken.broken.ok in
    let answer = c.is_empty.ensures in
    let test = c.if-is_empty.false in
    let filled : (length c.in_ok-broken.broken.items == 0) ≡ false = cc in
    let kept = c.kept_of-kept.result in
    let told =
    c.in_ok-text.ensures ∙ ap (λ t. line_of (breaches_data t lines c.deref.result.now kept)) c.table-table.ensures
    ∙ ap (λ broken. line_of (breaches_data reach.table lines broken kept)) c.deref.ensures.value in
    some reach.table lines reach (own reach c.bounds_runs.ensures.reach) c.in_ok-broken.broken c.in_ok-broken.broken.items refl
    c.in_ok-broken.ensures.broken (some_of c.in_ok-broken.broken.items filled)
    kept
    (record {
      every = c.in_ok-broken.ensures.kept;
      calls = c.in_ok-broken.ensures.calls;
      told = subst (λ (t : Layout). IsKeptSo t kept) c.table-table.ensures c.kept_of-kept.ensures;
    })
    c.found.result
    (finding_retold told c.found.ensures.finds)
