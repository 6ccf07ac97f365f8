-- Each turn adds the claim of one line more, if it doesn't hold.
use Rattle.std.proofs.Common.{[], ◌++◌, ◌+◌, ◌∙◌, ◌∷◌, ◌≡◌, ap, arith, get_or, refl, subst, sym, take}
use Rattle.{std.proofs.lemmas.{Grind.common_steps, List.{append-nil, take_all}}, reach.specs.Extents.limits_of}
use Rattle.claims.specs.{declared.deciding.Broken.Broken, Holding.{AreBroken, AreBroken.{broke, ended, held, silent}}}
use Rattle.claims.proofs.{Gathered.one_line, Promised.fails_breaks}
use Rattle.claims.proofs.deciding.broken_by.Goals.{in-Some+in-Some-failure_of+in_ok-push, in-Some+in_default-failure_of, in_default}
use Rattle.claims.proofs.deciding.broken_by.Goals as goal
use Rattle.claims.specs.declared.lines.TheConstants.ClaimLines as ClaimLines

pub loop-index-init : goal.loop-index-init
loop-index-init c =
    subst (λ xs. AreBroken c.args.reach.now.table (limits_of c.args.reach.now) ClaimLines.FIRST (take 0 c.args.lines.now) xs)
    (sym c.new-broken.ensures.items) ended

pub loop-index-preserved : goal.loop-index-preserved
loop-index-preserved c =
    let t = c.args.reach.now.table in
    let limits = limits_of c.args.reach.now in
    let lines = c.args.lines.now in
    let i = c.loop-index.index in
    let entry = c.index-lines-index.result in
    let all = c.loop-index.broken.items in
    elim c.match-entry.branch [
      | in-Some+in-Some-failure_of+in_ok-push w ↦
          let it : Broken = record { line = ClaimLines.FIRST + i; failure = w.in-Some-failure_of.failure } in
          let grown : c.match-entry.broken.items ≡ all ++ it ∷ [] = grind (arith, common_steps) in
          let is = sym c.index-lines-index.is ∙ w.in-Some.is in
          let here : AreBroken t limits (ClaimLines.FIRST + i) (get_or lines i entry ∷ []) (it ∷ []) =
          subst (λ e. AreBroken t limits (ClaimLines.FIRST + i) (e ∷ []) (it ∷ [])) (sym is)
          (broke (record {
            line_is = refl;
            breaks = fails_breaks t limits _ _ w.in-Some-failure_of.ensures.some;
            fails = w.in-Some-failure_of.ensures.some;
          }) ended) in
          subst (λ xs. AreBroken t limits ClaimLines.FIRST (take (i + 1) lines) xs) (sym grown)
          (one_line t limits ClaimLines.FIRST i lines entry all (it ∷ []) (omega arith) c.loop-index.invariant here)
      | in-Some+in_default-failure_of w ↦
          let is = sym c.index-lines-index.is ∙ w.in-Some.is in
          let here : AreBroken t limits (ClaimLines.FIRST + i) (get_or lines i entry ∷ []) [] =
          subst (λ e. AreBroken t limits (ClaimLines.FIRST + i) (e ∷ []) []) (sym is) (held w.in_default-failure_of.ensures.none ended) in
          subst (λ xs. AreBroken t limits ClaimLines.FIRST (take (i + 1) lines) xs)
          (append-nil all ∙ sym (ap (λ b. b.items) w.broken-is))
          (one_line t limits ClaimLines.FIRST i lines entry all [] (omega arith) c.loop-index.invariant here)
      | in_default w ↦
          let is = sym c.index-lines-index.is ∙ w.in_default.is in
          let here : AreBroken t limits (ClaimLines.FIRST + i) (get_or lines i entry ∷ []) [] =
          subst (λ e. AreBroken t limits (ClaimLines.FIRST + i) (e ∷ []) []) (sym is) (silent ended) in
          subst (λ xs. AreBroken t limits ClaimLines.FIRST (take (i + 1) lines) xs)
          (append-nil all ∙ sym (ap (λ b. b.items) w.broken-is))
          (one_line t limits ClaimLines.FIRST i lines entry all [] (omega arith) c.loop-index.invariant here)
    ]

pub returns : goal.returns
returns c =
    subst (λ entries. AreBroken c.args.reach.now.table (limits_of c.args.reach.now) ClaimLines.FIRST entries c.loop-index.broken.items)
    (take_all _ _ c.loop-index-test.false) c.loop-index.invariant
