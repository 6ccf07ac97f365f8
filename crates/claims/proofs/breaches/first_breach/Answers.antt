-- The first label with a breach has the first breach of all.
use Rattle.std.proofs.{Common.{◌∙◌, arith, inl, inr, subst, sym}, lemmas.Bool.{cases_order, false≢true}}
use Rattle.claims.{specs.Breaches.HoldsOf, proofs.FirstBreach.{HoldsBelow, bounded_within, first_of_all}}
use Rattle.claims.proofs.breaches.first_breach.Goals.{in-Some+in_default-first_breach_by, in_default}
use Rattle.claims.proofs.breaches.first_breach.Goals as goal

pub returns-in-Some-first_breach_by-clause-some : goal.returns-in-Some-first_breach_by-clause-some
returns-in-Some-first_breach_by-clause-some c = λ t limits are rows.
    let claim = c.args.claim.now in
    let before = c.loop-number.invariant t limits are rows in
    first_of_all t limits claim c.in-Some.actor c.in-Some-first_breach_by.breach
    (subst (λ n. HoldsBelow t limits claim n) (sym c.in-Some.ensures.value) before)
    (c.in-Some-first_breach_by.ensures.some t limits are (rows c.in-Some.actor c.row.result c.row.ensures))

pub loop-number-preserved : goal.loop-number-preserved
loop-number-preserved c t limits are rows a below =
    elim c.match-new.branch [
      | in-Some+in_default-first_breach_by w ↦ elim (cases_order a c.loop-number.number) [
        | inl same ↦
            subst (λ n. HoldsOf t limits c.args.claim.now n) (w.in-Some.ensures.value ∙ sym same)
            (w.in_default-first_breach_by.ensures.none t limits are (rows w.in-Some.actor w.row.result w.row.ensures))
        | inr (inl before) ↦ c.loop-number.invariant t limits are rows a before
        | inr (inr after) ↦ absurd (omega (arith, below, after))
      ]
      | in_default w ↦ absurd (false≢true (w.in_default.ensures.valid.1 (omega arith)))
    ]

pub returns-clause-none : goal.returns-clause-none
returns-clause-none c = λ t limits are rows a l bounded.
    let within = bounded_within t c.args.claim.now a l bounded in
    c.loop-number.invariant t limits are rows a (omega (arith, within, are.few)) l bounded
